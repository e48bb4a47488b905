-- What the slots of a stage take, register by register.
use Rattle.std.proofs.Common.{if◌then◌else◌, ◌≡◌, ℕ, zero, suc, ◌+◌, ◌<◌, List, [], ◌∷◌, ◌++◌, length, take, get_or, Some, refl, ap, subst, ◌∙◌, arith, inl, inr}
use Rattle.std.specs.Prelude.{slice_get}
use Rattle.std.specs.List.{AllByRecursion as Each}
use Rattle.ap_net.specs.declared.cell.Wire.{Wire}
use Rattle.ap_net.specs.declared.net.ModuleNet.{ModuleNet}
use Rattle.ap_net.specs.Cells.{IsNet}
use Rattle.ap_net.specs.Draft.{Draft, Extends}
use Rattle.ap_net.specs.Making.{Makes}
use Rattle.ap_net.specs.Pending.{Among, IsFrom, Yields}
use Rattle.ap_net.specs.Readings.{Carries}
use Rattle.ap_net.specs.Ready.{numbers}
use Rattle.ap_net.proofs.Laws.{Carries-Extends, IsFrom-more, IsNet-Makes, Yields-after, meant}
use Rattle.ap_ctl.specs.Building.{is_on}
use Rattle.ap_ctl.specs.Lists.{EachPair}
use Rattle.ap_pipe.specs.declared.table.Home.{Home}
use Rattle.ap_flight.specs.declared.entry.Leaving.{Leaving}
use Rattle.ap_flight.specs.Entries.{IsLeaving, IsLeft, SlotTakes, leaving_numbers, left_to}
use Rattle.ap_flight.specs.Stages.{AreSlotNets, FitsHome}
use Rattle.ap_flight.proofs.Halves.{Each-weaker}
use Rattle.ap_flight.proofs.Locals.{slot_split}
use Rattle.ap_flight.proofs.Steps.{IsBit-Makes, Yields-fewer}

-- what stands for a place where there is none
abbrev pub no_wire : Wire
no_wire = record { number = 0; width = 0 }

-- A slot.

-- nothing is left to it
pub none_takes : {d : Draft} (hold register : Wire) (list : List Leaving) → length list ≡ 0 → IsNet d.nets register → Carries d register.width (SlotTakes hold register list) register
none_takes hold register [] e net = record { net = net; wide = refl; means = record { holds = λ r s. record { stays = λ on. refl; takes = λ off v each any. cc } } }
none_takes hold register (l ∷ list) e net = absurd (omega arith)

-- it stays, or takes what is left to it
pub held_takes : {b c : Draft} (hold register coming w : Wire) (list : List Leaving) → Extends b c → Carries b register.width (IsLeft list) coming
    → Carries c register.width (λ r x. x ≡ (if is_on r hold then r.read register.number else r.read coming.number)) w → Carries c register.width (SlotTakes hold register list) w
held_takes hold register coming w list e hc h = meant (λ r s x. record {
  stays = λ on. x ∙ ap (λ b. if b then r.read register.number else r.read coming.number) on;
  takes = λ off v each any. x ∙ ap (λ b. if b then r.read register.number else r.read coming.number) off ∙ (Carries-Extends e hc).means.holds r s v each any;
}) h

-- What is left to it.

pub left_fits : (nets : List ModuleNet) (slots : List Wire) (slot : ℕ) (register : Wire) (homes : List Home) (list : List Leaving) → slice_get slots slot ≡ Some register → EachPair (FitsHome nets slots) homes list
    → Each (IsLeaving nets register.width) (left_to slot homes list)
left_fits nets slots slot register [] [] at h = tt
left_fits nets slots slot register [] (l ∷ list) at h = absurd h
left_fits nets slots slot register (home ∷ homes) [] at h = absurd h
left_fits nets slots slot register (home ∷ homes) (l ∷ list) at h =
    let rest = left_fits nets slots slot register homes list at h.1 in
    slot_split (Each (IsLeaving nets register.width)) slot home l homes list
    (λ same. (record { cond = h.0.cond; net = h.0.net; fits = h.0.fits register (ap (slice_get slots) same ∙ at) }, rest)) (λ ne. rest)

pub left_among : (slot : ℕ) (homes : List Home) (list : List Leaving) → Each (Among (leaving_numbers list)) (leaving_numbers (left_to slot homes list))
left_among slot [] list = tt
left_among slot (home ∷ homes) [] = tt
left_among slot (home ∷ homes) (l ∷ list) =
    let from : List ℕ = leaving_numbers (l ∷ list) in
    let rest : Each (Among from) (leaving_numbers (left_to slot homes list)) = Each-weaker (Among (leaving_numbers list)) (Among from) (λ n m. inr (inr m)) (leaving_numbers (left_to slot homes list)) (left_among slot homes list) in
    slot_split (λ ls. Each (Among from) (leaving_numbers ls)) slot home l homes list (λ same. (inl refl, (inr (inl refl), rest))) (λ ne. rest)

pub FitsHome-Makes : {a b : Draft} → Makes a b → (slots : List Wire) (homes : List Home) (list : List Leaving) → EachPair (FitsHome a.nets slots) homes list → EachPair (FitsHome b.nets slots) homes list
FitsHome-Makes m slots [] [] h = tt
FitsHome-Makes m slots [] (l ∷ list) h = absurd h
FitsHome-Makes m slots (home ∷ homes) [] h = absurd h
FitsHome-Makes {a} {b} m slots (home ∷ homes) (l ∷ list) h = (record { cond = IsBit-Makes m l.cond h.0.cond; net = IsNet-Makes a b l.net m h.0.net; fits = h.0.fits }, FitsHome-Makes m slots homes list h.1)

-- All slots.

pub AreSlotNets-push : (d : Draft) (hold : Wire) (homes : List Home) (list : List Leaving) (slot : ℕ) (registers nets : List Wire) (register w : Wire) → AreSlotNets d hold homes list slot registers nets
    → Carries d register.width (SlotTakes hold register (left_to (slot + length registers) homes list)) w → AreSlotNets d hold homes list slot (registers ++ register ∷ []) (nets ++ w ∷ [])
AreSlotNets-push d hold homes list slot [] [] register w h c =
    let here : slot + 0 ≡ slot = omega arith in
    (subst (λ n. Carries d register.width (SlotTakes hold register (left_to n homes list)) w) here c, tt)
AreSlotNets-push d hold homes list slot [] (x ∷ nets) register w h c = absurd h
AreSlotNets-push d hold homes list slot (r ∷ registers) [] register w h c = absurd h
AreSlotNets-push d hold homes list slot (r ∷ registers) (x ∷ nets) register w h c =
    let next : slot + suc (length registers) ≡ slot + 1 + length registers = omega arith in
    (h.0, AreSlotNets-push d hold homes list (slot + 1) registers nets register w h.1 (subst (λ n. Carries d register.width (SlotTakes hold register (left_to n homes list)) w) next c))

pub AreSlotNets-Extends : {a b : Draft} → Extends a b → (hold : Wire) (homes : List Home) (list : List Leaving) (slot : ℕ) (registers nets : List Wire) → AreSlotNets a hold homes list slot registers nets → AreSlotNets b hold homes list slot registers nets
AreSlotNets-Extends e hold homes list slot [] [] h = tt
AreSlotNets-Extends e hold homes list slot [] (x ∷ nets) h = absurd h
AreSlotNets-Extends e hold homes list slot (r ∷ registers) [] h = absurd h
AreSlotNets-Extends e hold homes list slot (r ∷ registers) (x ∷ nets) h = (Carries-Extends e h.0, AreSlotNets-Extends e hold homes list (slot + 1) registers nets h.1)

-- a register among them
pub number_among : (registers : List Wire) (i : ℕ) → i < length registers → Among (numbers registers) (get_or registers i no_wire).number
number_among [] i lt = absurd (omega arith)
number_among (r ∷ registers) zero lt = inl refl
number_among (r ∷ registers) (suc i) lt = inr (number_among registers i (omega arith))

pub wire_at : (P : Wire → Type 0) (wires : List Wire) (i : ℕ) → Each P wires → i < length wires → P (get_or wires i no_wire)
wire_at P [] i h lt = absurd (omega arith)
wire_at P (w ∷ wires) zero h lt = h.0
wire_at P (w ∷ wires) (suc i) h lt = wire_at P wires i h.1 (omega arith)

-- What the net of a slot reads is among what all slots read.

among_right : (xs ys : List ℕ) (n : ℕ) → Among ys n → Among (xs ++ ys) n
among_right [] ys n h = h
among_right (x ∷ xs) ys n h = inr (among_right xs ys n h)

among_left : (xs ys : List ℕ) (n : ℕ) → Among xs n → Among (xs ++ ys) n
among_left [] ys n h = absurd h
among_left (x ∷ xs) ys n (inl e) = inl e
among_left (x ∷ xs) ys n (inr h) = inr (among_left xs ys n h)

pub slot_from : (hold : Wire) (registers : List Wire) (homes : List Home) (list : List Leaving) (place : ℕ) → place < length registers → (a b : Draft)
    → Each (IsFrom (hold.number ∷ numbers registers ++ leaving_numbers list) a b) (hold.number ∷ (get_or registers place no_wire).number ∷ leaving_numbers (left_to place homes list))
slot_from hold registers homes list place lt a b =
    let from : List ℕ = hold.number ∷ numbers registers ++ leaving_numbers list in (
      inl (inl refl),
      (
        inl (inr (among_left (numbers registers) (leaving_numbers list) (get_or registers place no_wire).number (number_among registers place lt))),
        Each-weaker (Among (leaving_numbers list)) (IsFrom from a b) (λ n m. inl (inr (among_right (numbers registers) (leaving_numbers list) n m))) (leaving_numbers (left_to place homes list)) (left_among place homes list),
      ),
    )

pub from_push : (from : List ℕ) (a b c : Draft) (nets : List Wire) (w : Wire) → Extends b c → Each (IsFrom from a b) (numbers nets) → IsFrom from a c w.number → Each (IsFrom from a c) (numbers (nets ++ w ∷ []))
from_push from a b c [] w e h x = (x, tt)
from_push from a b c (n ∷ nets) w e h x = (IsFrom-more from a b c n.number e h.0, from_push from a b c nets w e h.1 x)

pub taken_count : {X : Type 0} (n : ℕ) (xs : List X) → n < length xs → 0 + length (take n xs) ≡ n
taken_count zero xs lt = refl
taken_count (suc n) [] lt = absurd (omega arith)
taken_count (suc n) (x ∷ xs) lt =
    let before : 0 + length (take n xs) ≡ n = taken_count n xs (omega arith) in
    let all : 0 + length (take (suc n) (x ∷ xs)) ≡ suc n = omega (arith, before) in
    all

-- a choice between the register and what comes reads the register and what that reads
pub net_from : (hold register : Wire) (more : List ℕ) (a b c : Draft) (coming w : Wire) → Yields more a b coming → Yields (hold.number ∷ register.number ∷ coming.number ∷ []) b c w → Yields (hold.number ∷ register.number ∷ more) a c w
net_from hold register more a b c coming w y z =
    let from : List ℕ = hold.number ∷ register.number ∷ more in
    let wide : Yields from a b coming = Yields-fewer from more a b coming (skipped more) y in
    Yields-after from (hold.number ∷ register.number ∷ coming.number ∷ []) a b c w wide.reads z (inl (inl refl), (inl (inr (inl refl)), (wide.result, tt)))
  where
    all : (xs : List ℕ) → Each (Among xs) xs
    all [] = tt
    all (x ∷ xs) = (inl refl, Each-weaker (Among xs) (Among (x ∷ xs)) (λ n m. inr m) xs (all xs))

    skipped : (more : List ℕ) → Each (Among (hold.number ∷ register.number ∷ more)) more
    skipped more = Each-weaker (Among more) (Among (hold.number ∷ register.number ∷ more)) (λ n m. inr (inr m)) more (all more)
