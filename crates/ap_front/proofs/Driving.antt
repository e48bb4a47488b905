-- The registers of the stages are driven one stage after the other.
use Rattle.std.proofs.Common.{◌≡◌, ◌≢◌, ℕ, ◌+◌, ◌<◌, ◌≤◌, List, [], ◌∷◌, ◌++◌, length, map, Some, refl, sym, ap, subst, ◌∙◌, arith, ⊎_elim}
use Rattle.std.specs.Prelude.{slice_get}
use Rattle.std.specs.List.{AllByRecursion as Each}
use Rattle.std.proofs.lemmas.Bool.{cases_lt}
use Rattle.ap_net.specs.declared.cell.Wire.{Wire}
use Rattle.ap_net.specs.declared.net.Next.{Next}
use Rattle.ap_net.specs.Cells.{IsNet}
use Rattle.ap_net.specs.Draft.{Draft, Extends, CanFresh, KeepsNew}
use Rattle.ap_net.specs.Late.{StayLate}
use Rattle.ap_net.specs.Modules.{ports_among}
use Rattle.ap_net.specs.Readings.{Carries}
use Rattle.ap_net.specs.Ready.{Dependence, Ready, numbers}
use Rattle.ap_net.specs.Wiring.{Unclocked}
use Rattle.ap_net.proofs.Laws.{Carries-Extends, Extends-refl, Extends-trans}
use Rattle.ap_net.proofs.Lists.{All-join, some_same}
use Rattle.ap_pipe.specs.declared.table.Home.{Home}
use Rattle.ap_pipe.specs.declared.table.StageSlots.{StageSlots}
use Rattle.ap_ctl.specs.Building.{IsBit}
use Rattle.ap_ctl.specs.Lists.{EachFrom, EachPair}
use Rattle.ap_flight.specs.declared.entry.Leaving.{Leaving}
use Rattle.ap_flight.specs.declared.stage.Coming.{Coming}
use Rattle.ap_flight.specs.declared.stage.StageRegisters.{StageRegisters}
use Rattle.ap_flight.specs.Entries.{SlotTakes, left_to}
use Rattle.ap_flight.specs.Stages.{DrivesStage, FitsHome, IsComing, IsLike, IsOpen, stage_wires}
use Rattle.ap_flight.proofs.Driving.{open_later}
use Rattle.ap_front.specs.Driven.{AreComingReady, CanDrive, DrivesStages, IsDriven, IsOther}
use Rattle.ap_front.proofs.Named.{TakesNet-Extends}
use Rattle.std.proofs.lemmas.Option.{slice_get_within}
use Rattle.ap_flight.specs.Stages.{TakesNet}

-- What is there stays.

pub net_on : {a b : Draft} → Extends a b → (w : Wire) → IsNet a.nets w → IsNet b.nets w
net_on {a} {b} e w h = (Carries-Extends e anything).net
  where
    anything : Carries a w.width (λ r x. Unit {0}) w
    anything = record { net = h; wide = refl; means = record { holds = λ r s. tt } }

pub bit_on : {a b : Draft} → Extends a b → (w : Wire) → IsBit a.nets w → IsBit b.nets w
bit_on e w h = record { net = net_on e w h.net; bit = h.bit }

pub like_on : {a b : Draft} → Extends a b → (register w : Wire) → IsLike a.nets register w → IsLike b.nets register w
like_on e register w h = record { net = net_on e w h.net; same = h.same }

homes_on : {a b : Draft} → Extends a b → (slots : List Wire) (homes : List Home) (list : List Leaving) → EachPair (FitsHome a.nets slots) homes list → EachPair (FitsHome b.nets slots) homes list
homes_on e slots [] [] h = tt
homes_on e slots [] (l ∷ list) h = absurd h
homes_on e slots (home ∷ homes) [] h = absurd h
homes_on e slots (home ∷ homes) (l ∷ list) h = (record { cond = bit_on e l.cond h.0.cond; net = net_on e l.net h.0.net; fits = h.0.fits }, homes_on e slots homes list h.1)

pub coming_on : {a b : Draft} → Extends a b → (r : StageRegisters) (homes : List Home) (c : Coming) → IsComing r homes a.nets c → IsComing r homes b.nets c
coming_on e r homes c h = record { hold = bit_on e c.hold h.hold; word = like_on e r.word c.word h.word; place = like_on e r.place c.place h.place; locals = homes_on e r.slots homes c.locals h.locals }

slots_on : (a b : Draft) (hold : Wire) (homes : List Home) (list : List Leaving) (slot : ℕ) (ws : List Wire) → Extends a b → EachFrom (λ k w. TakesNet a (SlotTakes hold w (left_to k homes list)) w) slot ws
    → EachFrom (λ k w. TakesNet b (SlotTakes hold w (left_to k homes list)) w) slot ws
slots_on a b hold homes list slot [] e h = tt
slots_on a b hold homes list slot (w ∷ ws) e h = (TakesNet-Extends e h.0, slots_on a b hold homes list (slot + 1) ws e h.1)

pub IsDriven-Extends : {a b : Draft} {r : StageRegisters} {s : StageSlots} {c : Coming} → Extends a b → IsDriven a r s c → IsDriven b r s c
IsDriven-Extends {a} {b} {r} {s} {c} e h = record { word = TakesNet-Extends e h.word; place = TakesNet-Extends e h.place; slots = slots_on a b c.hold s.homes c.locals 0 r.slots e h.slots }

-- The stages before a place are driven.

pub record IsDrivenTo (registers : List StageRegisters) (stages : List StageSlots) (comings : List Coming) (to : ℕ) (old new : Draft) : Type 0 where
  pub each : (place : ℕ) (r : StageRegisters) (s : StageSlots) (c : Coming) → place < to → slice_get registers place ≡ Some r → slice_get stages place ≡ Some s → slice_get comings place ≡ Some c → IsDriven new r s c
  pub left : (place : ℕ) (r : StageRegisters) → to ≤ place → slice_get registers place ≡ Some r → Each (IsOpen new) (stage_wires r)
  pub extends : Extends old new
  pub others : (n : ℕ) → IsOther registers n → Unclocked old.nexts n → Unclocked new.nexts n
  pub instances : new.instances ≡ old.instances
  pub ports : ports_among new.nets ≡ ports_among old.nets
  pub fresh : CanFresh new
  pub names : KeepsNew old new
  pub late : StayLate old new
  pub came : (by : Dependence) (later : Draft) → Extends new later → AreComingReady by later registers stages comings → (n : ℕ) → length old.nets ≤ n → n < length new.nets → Ready by later n

pub begins : (registers : List StageRegisters) (stages : List StageSlots) (comings : List Coming) (d : Draft) → CanFresh d → CanDrive d registers stages comings → IsDrivenTo registers stages comings 0 d d
begins registers stages comings d fresh h = record {
  each = λ place r s c lt. absurd (omega arith);
  left = λ place r le at. h.each place r at;
  extends = Extends-refl d;
  others = λ n other free. free;
  instances = refl;
  ports = refl;
  fresh = fresh;
  names = λ name other new. new;
  late = λ x k. k;
  came = λ by later e ready n low high. absurd (omega arith);
}

-- registers that take something else are unclocked still
free_after : (nexts more : List Next) (ws : List Wire) (n : ℕ) → map (λ (x : Next). x.register) more ≡ ws → Each (λ m. m ≢ n) (numbers ws) → Unclocked nexts n → Unclocked (nexts ++ more) n
free_after nexts more ws n is apart free = All-join (λ (x : Next). x.register.number ≢ n) nexts more free (taken more (subst (λ l. Each (λ m. m ≢ n) (numbers l)) (sym is) apart))
  where
    taken : (xs : List Next) → Each (λ m. m ≢ n) (numbers (map (λ (x : Next). x.register) xs)) → Each (λ (x : Next). x.register.number ≢ n) xs
    taken [] h = tt
    taken (x ∷ xs) h = (h.0, taken xs h.1)

pub unclocked_after : (r : StageRegisters) (homes : List Home) (c : Coming) (b d : Draft) (n : ℕ) → DrivesStage r homes c b d → Each (λ m. m ≢ n) (numbers (stage_wires r)) → Unclocked b.nexts n → Unclocked d.nexts n
unclocked_after r homes c b d n y apart free = subst (λ l. Unclocked l n) (sym y.nexts.1) (free_after b.nexts y.nexts.0 (stage_wires r) n y.nexts.2 apart free)

open_others : (r : StageRegisters) (homes : List Home) (c : Coming) (b d : Draft) (ws : List Wire) → DrivesStage r homes c b d → Each (λ (w : Wire). Each (λ m. m ≢ w.number) (numbers (stage_wires r))) ws → Each (IsOpen b) ws → Each (IsOpen d) ws
open_others r homes c b d [] y apart h = tt
open_others r homes c b d (w ∷ ws) y apart h = (open_later b d w y.extends (unclocked_after r homes c b d w.number y apart.0 h.0.free) h.0, open_others r homes c b d ws y apart.1 h.1)

pub driven_stage : {r : StageRegisters} {s : StageSlots} {c : Coming} {b d : Draft} → DrivesStage r s.homes c b d → IsDriven d r s c
driven_stage y = record { word = y.word; place = y.place; slots = y.slots }

module _ (registers : List StageRegisters) (stages : List StageSlots) (comings : List Coming) (i : ℕ) (a b d : Draft) (r : StageRegisters) (s : StageSlots) (c : Coming) (can : CanDrive a registers stages comings) (h : IsDrivenTo registers stages comings i a b)
    (at : slice_get registers i ≡ Some r) (slots : slice_get stages i ≡ Some s) (come : slice_get comings i ≡ Some c) (y : DrivesStage r s.homes c b d) where
  each_next : (place : ℕ) (q : StageRegisters) (t : StageSlots) (e : Coming) → place < i + 1 → slice_get registers place ≡ Some q → slice_get stages place ≡ Some t → slice_get comings place ≡ Some e → IsDriven d q t e
  each_next place q t e lt p1 p2 p3 = ⊎_elim (λ low. IsDriven-Extends y.extends (h.each place q t e low p1 p2 p3)) (λ high.
      let same : i ≡ place = omega arith in
      let one : r ≡ q = some_same (sym at ∙ ap (slice_get registers) same ∙ p1) in
      let two : s ≡ t = some_same (sym slots ∙ ap (slice_get stages) same ∙ p2) in
      let three : c ≡ e = some_same (sym come ∙ ap (slice_get comings) same ∙ p3) in
      subst (λ (x : StageRegisters). IsDriven d x t e) one (subst (λ (x : StageSlots). IsDriven d r x e) two (subst (λ (x : Coming). IsDriven d r s x) three (driven_stage y)))) (cases_lt place i)

  came_next : (by : Dependence) (later : Draft) → Extends d later → AreComingReady by later registers stages comings → (n : ℕ) → length a.nets ≤ n → n < length d.nets → Ready by later n
  came_next by later e ready n low high = ⊎_elim (λ lt. h.came by later (Extends-trans b d later y.extends e) ready n low lt) (λ le. y.came by n le high later e (ready i r s c at slots come)) (cases_lt n (length b.nets))

  pub next_stage : IsDrivenTo registers stages comings (i + 1) a d
  next_stage = record {
    each = each_next;
    left = λ place q le p. open_others r s.homes c b d (stage_wires q) y (can.others i place r q (omega arith) at p) (h.left place q (omega arith) p);
    extends = Extends-trans a b d h.extends y.extends;
    others = λ n other free. unclocked_after r s.homes c b d n y (other i r at) (h.others n other free);
    instances = y.instances ∙ h.instances;
    ports = y.ports ∙ h.ports;
    fresh = y.fresh;
    names = λ name other new. y.names name other (h.names name other new);
    late = λ x k. y.late x (h.late x k);
    came = came_next;
  }

pub all_driven : (registers : List StageRegisters) (stages : List StageSlots) (comings : List Coming) (n : ℕ) (a b : Draft) → n ≡ length registers → IsDrivenTo registers stages comings n a b → DrivesStages registers stages comings a b
all_driven registers stages comings n a b e h = record {
  each = λ place r s c p1 p2 p3. let lt = slice_get_within registers place r p1 in h.each place r s c (omega arith) p1 p2 p3;
  extends = h.extends;
  others = h.others;
  instances = h.instances;
  ports = h.ports;
  fresh = h.fresh;
  names = h.names;
  late = h.late;
  came = h.came;
}
