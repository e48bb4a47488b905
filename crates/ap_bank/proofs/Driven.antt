-- Registers take what is written to them, one after the other.
use Rattle.std.proofs.Common.{◌≡◌, ◌≢◌, ℕ, zero, suc, ◌<◌, ◌≤◌, List, [], ◌∷◌, ◌++◌, length, map, get_or, refl, sym, ap, subst, ◌∙◌, arith, append-nil, append_assoc, inl, inr}
use Rattle.std.specs.Prelude.{◌⊎◌, Contains, Option, None, Some}
use Rattle.std.specs.List.{AllByRecursion as Each}
use Rattle.std.proofs.lemmas.Bool.{cases_lt}
use Rattle.std.proofs.lemmas.List.{map-append}
use Rattle.std.proofs.lemmas.List.Elements.{Contains-append_left, Contains-push}
use Rattle.ap_net.specs.declared.cell.Wire.{Wire}
use Rattle.ap_net.specs.declared.net.ModuleNet.{ModuleNet}
use Rattle.ap_net.specs.declared.net.Next.{Next}
use Rattle.ap_net.specs.Cells.{IsNet}
use Rattle.ap_net.specs.Draft.{Draft, Extends, CanFresh, names_of, with_next}
use Rattle.ap_net.specs.Late.{StayLate}
use Rattle.ap_net.specs.Making.{Makes}
use Rattle.ap_net.specs.Modules.{ports_among}
use Rattle.ap_net.specs.Names.{IsNew}
use Rattle.ap_net.specs.Pending.{Yields}
use Rattle.ap_net.specs.Readings.{Carries, Reading}
use Rattle.ap_net.specs.Ready.{Dependence, ReadyAfter}
use Rattle.ap_net.specs.Wiring.{Unclocked}
use Rattle.ap_net.proofs.Laws.{Carries-Extends, Extends-refl, Extends-trans, ReadyAfter-Extends, next_extends}
use Rattle.ap_net.proofs.Lists.{All-front, All-back, All-join}
use Rattle.ap_ctl.specs.Lists.{EachPair}
use Rattle.ap_flight.specs.Stages.{IsOpen, TakesNet}
use Rattle.ap_flight.proofs.Driving.{open_later}
use Rattle.ap_flight.proofs.SlotNets.{no_wire}
use Rattle.ap_bank.specs.declared.regs.RegWrite.{RegWrite}
use Rattle.ap_bank.specs.Regs.{DrivesRegs, IsRegWrite, RegTakes, TakeWrites, reg_numbers, regs_numbers}

pub next_later : (a b : Draft) (x : Next) → Extends a b → Contains a.nexts x → Contains b.nexts x
next_later a b x e h = subst (λ (l : List Next). Contains l x) (sym e.nexts.1) (Contains-append_left a.nexts e.nexts.0 x h)

pub TakesNet-later : {a b : Draft} {Means : Reading → ℕ → Type 0} {register : Wire} → Extends a b → TakesNet a Means register → TakesNet b Means register
TakesNet-later {a} {b} {Means} {register} e h = record { from = h.from; next = next_later a b (record { register = register; from = h.from }) e h.next; carries = Carries-Extends e h.carries }

pub takes_later : (a b : Draft) → Extends a b → (registers : List Wire) (writes : List (Option RegWrite)) → TakeWrites a registers writes → TakeWrites b registers writes
takes_later a b e [] [] h = tt
takes_later a b e [] (w ∷ writes) h = absurd h
takes_later a b e (r ∷ registers) [] h = absurd h
takes_later a b e (r ∷ registers) (w ∷ writes) h = (TakesNet-later e h.0, takes_later a b e registers writes h.1)

takes_join : (d : Draft) (registers : List Wire) (writes : List (Option RegWrite)) (r : Wire) (w : Option RegWrite) → TakeWrites d registers writes → TakesNet d (RegTakes r w) r → TakeWrites d (registers ++ r ∷ []) (writes ++ w ∷ [])
takes_join d [] [] r w h t = (t, tt)
takes_join d [] (v ∷ writes) r w h t = absurd h
takes_join d (q ∷ registers) [] r w h t = absurd h
takes_join d (q ∷ registers) (v ∷ writes) r w h t = (h.0, takes_join d registers writes r w h.1 t)

numbers_join : (registers : List Wire) (writes : List (Option RegWrite)) (r : Wire) (w : Option RegWrite) → length registers ≡ length writes → regs_numbers (registers ++ r ∷ []) (writes ++ w ∷ []) ≡ regs_numbers registers writes ++ regs_numbers (r ∷ []) (w ∷ [])
numbers_join [] [] r w e = refl
numbers_join [] (v ∷ writes) r w e = absurd (omega arith)
numbers_join (q ∷ registers) [] r w e = absurd (omega arith)
numbers_join (q ∷ registers) (v ∷ writes) r w e =
    ap (λ l. reg_numbers q v ++ l) (numbers_join registers writes r w (omega arith)) ∙ sym (append_assoc (reg_numbers q v) (regs_numbers registers writes) (regs_numbers (r ∷ []) (w ∷ [])))

-- none is driven by nothing
pub drives_none : (d : Draft) → CanFresh d → DrivesRegs [] [] d d
drives_none d fresh = record {
  takes = tt;
  extends = Extends-refl d;
  nexts = ([], sym (append-nil d.nexts), refl);
  instances = refl;
  ports = refl;
  fresh = fresh;
  names = λ name other new. new;
  late = λ x h. h;
  came = λ by n low high. absurd (omega arith);
}

-- one more after those
pub drives_more : (registers : List Wire) (writes : List (Option RegWrite)) (r : Wire) (w : Option RegWrite) (a b c : Draft) → length registers ≡ length writes → DrivesRegs registers writes a b → DrivesRegs (r ∷ []) (w ∷ []) b c
    → DrivesRegs (registers ++ r ∷ []) (writes ++ w ∷ []) a c
drives_more registers writes r w a b c long p q =
    let first : List ℕ = regs_numbers registers writes in
    let second : List ℕ = regs_numbers (r ∷ []) (w ∷ []) in
    let all : List ℕ = regs_numbers (registers ++ r ∷ []) (writes ++ w ∷ []) in
    let is : first ++ second ≡ all = sym (numbers_join registers writes r w long) in
    record {
      takes = takes_join c registers writes r w (takes_later b c q.extends registers writes p.takes) q.takes.0;
      extends = Extends-trans a b c p.extends q.extends;
      nexts = (
        p.nexts.0 ++ q.nexts.0,
        q.nexts.1 ∙ ap (λ l. l ++ q.nexts.0) p.nexts.1 ∙ append_assoc a.nexts p.nexts.0 q.nexts.0,
        map-append (λ (x : Next). x.register) p.nexts.0 q.nexts.0 ∙ ap (λ l. l ++ map (λ (x : Next). x.register) q.nexts.0) p.nexts.2 ∙ ap (λ l. registers ++ l) q.nexts.2,
      );
      instances = q.instances ∙ p.instances;
      ports = q.ports ∙ p.ports;
      fresh = q.fresh;
      names = λ name other new. q.names name other (p.names name other new);
      late = λ x h. q.late x (p.late x h);
      came = λ by n low high. subst (λ l. ReadyAfter by c l n) is (either by n low high (cases_lt n (length b.nets)));
    }
  where
    weaker : (by : Dependence) (n : ℕ) (xs ys : List ℕ) → ReadyAfter by c xs n → ReadyAfter by c (xs ++ ys) n
    weaker by n xs ys h later e each = h later e (All-front _ xs ys each)

    weaker_too : (by : Dependence) (n : ℕ) (xs ys : List ℕ) → ReadyAfter by c ys n → ReadyAfter by c (xs ++ ys) n
    weaker_too by n xs ys h later e each = h later e (All-back _ xs ys each)

    either : (by : Dependence) (n : ℕ) → length a.nets ≤ n → n < length c.nets → (n < length b.nets) ⊎ (length b.nets ≤ n) → ReadyAfter by c (regs_numbers registers writes ++ regs_numbers (r ∷ []) (w ∷ [])) n
    either by n low high (inl lt) = weaker by n (regs_numbers registers writes) (regs_numbers (r ∷ []) (w ∷ [])) (ReadyAfter-Extends by b c (regs_numbers registers writes) n q.extends (p.came by n low lt))
    either by n low high (inr le) = weaker_too by n (regs_numbers registers writes) (regs_numbers (r ∷ []) (w ∷ [])) (q.came by n le high)

-- One register.

pub drives_one : (r : Wire) (w : Option RegWrite) (a b c : Draft) (net : Wire) → Carries b r.width (RegTakes r w) net → Yields (reg_numbers r w) a b net → Makes a b → c ≡ with_next b r net → StayLate b c → CanFresh a → DrivesRegs (r ∷ []) (w ∷ []) a c
drives_one r w a b c net carries yields makes is late fresh =
    let x : Next = record { register = r; from = net } in
    let grows : Extends b c = subst (Extends b) (sym is) (next_extends b x) in
    let nexts : c.nexts ≡ b.nexts ++ x ∷ [] = ap (λ (q : Draft). q.nexts) is in
    let nets : c.nets ≡ b.nets = ap (λ (q : Draft). q.nets) is in
    record {
      takes = (record { from = net; next = subst (λ (l : List Next). Contains l x) (sym nexts) (Contains-push b.nexts x); carries = Carries-Extends grows carries }, tt);
      extends = Extends-trans a b c makes.adds.extends grows;
      nexts = (x ∷ [], nexts ∙ ap (λ l. l ++ x ∷ []) makes.adds.nexts, refl);
      instances = ap (λ (q : Draft). q.instances) is ∙ makes.instances;
      ports = ap ports_among nets ∙ makes.ports;
      fresh = subst CanFresh (sym is) (makes.fresh fresh);
      names = λ name other new. subst (λ (q : Draft). IsNew name (names_of q)) (sym is) (makes.names name other new);
      late = λ v h. late v (yields.reads.late v h);
      came = λ by n low high. subst (λ l. ReadyAfter by c l n) (sym (append-nil (reg_numbers r w))) (ReadyAfter-Extends by b c (reg_numbers r w) n grows (yields.reads.came by n low (subst (λ (l : List ModuleNet). n < length l) nets high)));
    }

-- What is left to drive.

IsNet-later : (a b : Draft) (w : Wire) → Extends a b → IsNet a.nets w → IsNet b.nets w
IsNet-later a b w e h = (Carries-Extends e anything).net
  where
    anything : Carries a w.width (λ r x. Unit {0}) w
    anything = record { net = h; wide = refl; means = record { holds = λ r s. tt } }

pub write_later : (a b : Draft) → Extends a b → (register : Wire) (w : Option RegWrite) → IsRegWrite a.nets register w → IsRegWrite b.nets register w
write_later a b e register None h = tt
write_later a b e register (Some w) h = (record { net = IsNet-later a b w.enable e h.0.net; bit = h.0.bit }, record { net = IsNet-later a b w.value e h.1.net; same = h.1.same })

-- a register that isn't one of these takes nothing yet
still_unclocked : (old new more : List Next) (registers : List Wire) (n : ℕ) → new ≡ old ++ more → map (λ (x : Next). x.register) more ≡ registers → Unclocked old n → Each (λ (w : Wire). w.number ≢ n) registers → Unclocked new n
still_unclocked old new more registers n is of free apart = subst (λ l. Unclocked l n) (sym is) (All-join (λ (x : Next). x.register.number ≢ n) old more free (each more (subst (Each (λ (w : Wire). w.number ≢ n)) (sym of) apart)))
  where
    each : (more : List Next) → Each (λ (w : Wire). w.number ≢ n) (map (λ (x : Next). x.register) more) → Each (λ (x : Next). x.register.number ≢ n) more
    each [] h = tt
    each (x ∷ more) h = (h.0, each more h.1)

pub still_opened : (registers : List Wire) (writes : List (Option RegWrite)) (a b : Draft) (r : Wire) → DrivesRegs registers writes a b → IsOpen a r → Each (λ (w : Wire). w.number ≢ r.number) registers → IsOpen b r
still_opened registers writes a b r p h apart = open_later a b r p.extends (still_unclocked a.nexts b.nexts p.nexts.0 registers r.number p.nexts.1 p.nexts.2 h.free apart) h

pub chosen_value : (d : Draft) (r : Wire) (w : RegWrite) (net : Wire) → w.value.width ≡ r.width → Carries d w.value.width (RegTakes r (Some w)) net → Carries d r.width (RegTakes r (Some w)) net
chosen_value d r w net e h = subst (λ n. Carries d n (RegTakes r (Some w)) net) e h

pub write_at : (nets : List ModuleNet) (registers : List Wire) (writes : List (Option RegWrite)) (i : ℕ) → EachPair (IsRegWrite nets) registers writes → i < length registers → IsRegWrite nets (get_or registers i no_wire) (get_or writes i None)
write_at nets [] writes i h lt = absurd (omega arith)
write_at nets (r ∷ registers) [] i h lt = absurd h
write_at nets (r ∷ registers) (w ∷ writes) zero h lt = h.0
write_at nets (r ∷ registers) (w ∷ writes) (suc i) h lt = write_at nets registers writes i h.1 (omega arith)
