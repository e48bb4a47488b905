-- Wires that are driven where they were declared earlier, and what is ready then.
use Rattle.std.proofs.Common.{◌≡◌, ℕ, ◌<◌, ◌≤◌, List, [], ◌∷◌, ◌++◌, length, map, inl, inr, refl, sym, ap, subst, ◌∙◌, arith, ⊎_elim, append_assoc}
use Rattle.std.specs.Prelude.{◌≢◌, slice_get}
use Rattle.std.proofs.lemmas.Bool.{cases_lt}
use Rattle.std.proofs.lemmas.List.{append-nil, map-append}
use Rattle.ap_net.specs.declared.cell.Cell.{Cell}
use Rattle.ap_net.specs.declared.cell.Cell.TheVariants as cell
use Rattle.ap_net.specs.declared.cell.Wire.{Wire}
use Rattle.ap_net.specs.declared.net.Instance.{Instance}
use Rattle.ap_net.specs.Cells.{IsNet}
use Rattle.ap_net.specs.Draft.{CanFresh, Draft, Extends, RegistersBelow, names_of, with_assign}
use Rattle.ap_net.specs.Late.{Drives, StayLate}
use Rattle.ap_net.specs.Making.{Makes}
use Rattle.ap_net.specs.Modules.{ports_among}
use Rattle.ap_net.specs.Names.{IsNew}
use Rattle.ap_net.specs.Pending.{IsFrom, Yields}
use Rattle.ap_net.specs.Placing.{Places}
use Rattle.ap_net.specs.Ready.{Dependence, Ready, ReadyAfter}
use Rattle.ap_net.specs.Readings.{Carries, IsSettled, Reading}
use Rattle.ap_net.proofs.Laws.{Adds-trans, Extends-trans, Places-Makes, ReadyAfter-Extends, settled_before}
use Rattle.ap_stage.specs.Reads.{AreReadyAfter, CameReady, DrivesLate, Serves}
use Rattle.ap_stage.specs.Trees.{IsShallow, wiring}
use Rattle.ap_stage.proofs.Followed.{each_then}
use Rattle.ap_stage.proofs.Listed.{each_among, each_at, each_left, each_right, get_last}
use Rattle.ap_stage.proofs.Shallow.{shallow_on}

-- What else changed. ----------------------------------------------------------------------------------------------------

pub serves_placed : (placed : List Instance) (a b : Draft) → Places placed a b → StayLate a b → Serves placed [] a b
serves_placed placed a b h late = record {
  adds = h.adds;
  instances = h.instances;
  fresh = h.fresh;
  names = h.names;
  ports = h.ports;
  registers = h.closes.registers;
  late = λ x is none. late x is;
}

pub serves_made : (a b : Draft) → Makes a b → StayLate a b → Serves [] [] a b
serves_made a b h late = serves_placed [] a b (Places-Makes a b h) late

pub serves_cell : (a b : Draft) (from : List ℕ) (to : Wire) (c : Cell) → b ≡ with_assign a to c → Drives from to a b → Serves [] (to ∷ []) a b
serves_cell a b from to c is h = record {
  adds = record { extends = h.extends; nexts = h.nexts };
  instances = ap (λ (d : Draft). d.instances) is ∙ sym (append-nil a.instances);
  fresh = subst (λ d. CanFresh a → CanFresh d) (sym is) (λ f. f);
  names = λ name other added. subst (λ d. IsNew name (names_of a) → IsNew name (names_of d)) (sym is) (λ f. f);
  ports = ap (λ (d : Draft). ports_among d.nets) is;
  registers = λ k. subst (λ (d : Draft). RegistersBelow a.nets k → RegistersBelow d.nets k) (sym is) (λ f. f);
  late = λ x is_late none. h.late x (λ e. none.0 (sym e)) is_late;
}

pub serves_later : (xs ys : List Instance) (vs ws : List Wire) (a b c : Draft) → Serves xs vs a b → Serves ys ws b c → Serves (xs ++ ys) (vs ++ ws) a c
serves_later xs ys vs ws a b c p q = record {
  adds = Adds-trans a b c p.adds q.adds;
  instances = q.instances ∙ ap (λ l. l ++ ys) p.instances ∙ append_assoc a.instances xs ys;
  fresh = λ f. q.fresh (p.fresh f);
  names = λ name other added new.
      let both : IsNew name (map name_of xs ++ map name_of ys) = subst (IsNew name) (map-append name_of xs ys) added in
      q.names name other (each_right (λ before. before ≢ name) (map name_of xs) (map name_of ys) both) (p.names name other (each_left (λ before. before ≢ name) (map name_of xs) (map name_of ys) both) new);
  ports = q.ports ∙ p.ports;
  registers = λ k below. q.registers k (p.registers k below);
  late = λ x is none. q.late x (p.late x is (each_left (λ (w : Wire). w.number ≢ x.number) vs ws none)) (each_right (λ (w : Wire). w.number ≢ x.number) vs ws none);
}
  where
    name_of : Instance → List ℕ
    name_of i = i.name

-- What is ready. --------------------------------------------------------------------------------------------------------

pub ready_then : (by : Dependence) (a b : Draft) (from mid : List ℕ) (n : ℕ) → Extends a b → AreReadyAfter by a from mid → ReadyAfter by b mid n → ReadyAfter by b from n
ready_then by a b from mid n e each h = λ later f all. h later f (each_then (ReadyAfter by a from) (Ready by later) mid (λ m r. r later (Extends-trans a b later e f) all) each)

pub ready_from : (by : Dependence) (from : List ℕ) (a b : Draft) (n : ℕ) → ((m : ℕ) → length a.nets ≤ m → m < length b.nets → ReadyAfter by b from m) → IsFrom from a b n → ReadyAfter by b from n
ready_from by from a b n came (inl h) = λ later e all. each_among (Ready by later) from all n h
ready_from by from a b n came (inr h) = came n h.0 h.1

pub came_later : (by : Dependence) (base : List ℕ) (a b c : Draft) → Extends b c → CameReady by base a b → CameReady by base b c → CameReady by base a c
came_later by base a b c e p q n low high = ⊎_elim (λ (lt : n < length b.nets). ReadyAfter-Extends by b c base n e (p n low lt)) (λ (ge : length b.nets ≤ n). q n ge high) (cases_lt n (length b.nets))

pub ready_on : (by : Dependence) (base : List ℕ) (a b : Draft) (nets : List ℕ) → Extends a b → AreReadyAfter by a base nets → AreReadyAfter by b base nets
ready_on by base a b nets e each = each_then (ReadyAfter by a base) (ReadyAfter by b base) nets (λ n h. ReadyAfter-Extends by a b base n e h) each

-- One wire. -------------------------------------------------------------------------------------------------------------

-- the wire that a copy of a net drives
pub drives_late : (from : List ℕ) (a b c : Draft) (net to : Wire) → Makes a b → Yields from a b net → c ≡ with_assign b to (cell.Copy net) → Drives (net.number ∷ []) to b c → DrivesLate from to a c
drives_late from a b c net to makes yields is drives = record {
  serves = serves_later [] [] [] (to ∷ []) a b c (serves_made a b makes yields.reads.late) (serves_cell b c (net.number ∷ []) to (cell.Copy net) is drives);
  came = λ by n low high.
      let same : length c.nets ≡ length b.nets = ap (λ (d : Draft). length d.nets) is in
      ReadyAfter-Extends by b c from n drives.extends (yields.reads.came by n low (omega arith));
  driven = λ by. ready_then by b c from (net.number ∷ []) to.number drives.extends (ready_from by from a b net.number (yields.reads.came by) yields.result, tt) (drives.came by);
}

pub late_carries : (Means : Reading → ℕ → Type 0) (b c : Draft) (net to : Wire) → Extends b c → c ≡ with_assign b to (cell.Copy net) → IsNet b.nets to → Carries b to.width Means net → ((r : Reading) → IsSettled c r → r.read to.number ≡ r.read net.number)
    → Carries c to.width Means to
late_carries Means b c net to e is late h value = record {
  net = subst (λ (d : Draft). IsNet d.nets to) (sym is) late;
  wide = refl;
  means = record { holds = λ r s. subst (Means r) (sym (value r s)) (h.means.holds r (settled_before e r s)) };
}

pub late_low : (deep : ℕ) (b c : Draft) (net to : Wire) → Extends b c → c ≡ with_assign b to (cell.Copy net) → IsShallow b deep net.number → IsShallow c deep to.number
late_low deep b c net to e is low =
    wiring deep to.number (length b.assigns) (record { to = to; cell = cell.Copy net })
    (ap (λ (d : Draft). slice_get d.assigns (length b.assigns)) is ∙ get_last b.assigns (record { to = to; cell = cell.Copy net })) refl refl
    (λ j m at. each_at (IsShallow c deep) (net.number ∷ []) j m (shallow_on b c deep net.number e low, tt) at)
