-- What rows of locals that stand in slots are made of.
use Rattle.std.proofs.Common.{◌≡◌, ◌≢◌, ℕ, zero, suc, ◌+◌, ◌<◌, ◌≤◌, List, [], ◌∷◌, length, replicate, Option, Some, None, inl, inr, refl, sym, ap, subst, ◌∙◌, arith}
use Rattle.std.specs.Prelude.{slice_get, slice_set}
use Rattle.std.specs.List.{AllByRecursion as Each}
use Rattle.std.proofs.lemmas.Option.{same_Some}
use Rattle.ap_net.specs.declared.cell.Wire.{Wire}
use Rattle.ap_net.specs.Draft.{Draft}
use Rattle.ap_net.specs.Making.{Makes}
use Rattle.ap_net.specs.Pending.{Among, IsFrom}
use Rattle.ap_net.proofs.Laws.{IsFrom-later, IsFrom-more, Reads-joined, Reads-refl}
use Rattle.ap_stage.specs.declared.slot.Stored.{Stored}
use Rattle.ap_stage.specs.Reads.{AreFrom}
use Rattle.ap_stage.specs.Slots.{FromSlots, slot_numbers}
use Rattle.ap_stage.specs.Sources.{row_numbers}
use Rattle.ap_stage.specs.Trees.{IsShallow}
use Rattle.ap_stage.specs.Wiring.{IsWiring}
use Rattle.ap_stage.proofs.Filled.{set_other}
use Rattle.ap_stage.proofs.Followed.{each_then}
use Rattle.ap_stage.proofs.Listed.{each_among, each_at}
use Rattle.ap_stage.proofs.Low.{each_set}
use Rattle.ap_stage.proofs.Shallow.{shallow_on}
use Rattle.ap_stage.proofs.Wired.{none_over}

-- the row after the first so many slots
pub record IsAround (stored : List Stored) (i : ℕ) (old : Draft) (row : List (Option Wire)) (new : Draft) (filled : List (Option Wire)) : Type 0 where
  pub from : AreFrom (slot_numbers stored) old new (row_numbers filled)
  pub low : (most : ℕ) → Each (IsShallow old most) (slot_numbers stored) → Each (IsShallow new most) (row_numbers filled)
  pub others : (local : ℕ) → ((k : ℕ) (s : Stored) → k < i → slice_get stored k ≡ Some s → local ≢ s.local) → slice_get filled local ≡ slice_get row local

pub none_numbers : (n : ℕ) → row_numbers (replicate n None) ≡ []
none_numbers zero = refl
none_numbers (suc n) = none_numbers n

pub around_none : (stored : List Stored) (a : Draft) (row : List (Option Wire)) → row_numbers row ≡ [] → IsAround stored 0 a row a row
around_none stored a row none = record {
  from = record { reads = Reads-refl (slot_numbers stored) a; results = subst (Each (IsFrom (slot_numbers stored) a a)) (sym none) tt };
  low = λ most each. subst (Each (IsShallow a most)) (sym none) tt;
  others = λ local none. refl;
}

slot_among : (stored : List Stored) (i : ℕ) (s : Stored) → slice_get stored i ≡ Some s → Among (slot_numbers stored) s.slot.number
slot_among [] i s at = absurd cc
slot_among (x ∷ stored) zero s at = inl (ap (λ (y : Stored). y.slot.number) (same_Some x s at))
slot_among (x ∷ stored) (suc i) s at = inr (slot_among stored i s at)

pub around_more : (stored : List Stored) (i : ℕ) (one : Stored) (net : Wire) (a b c : Draft) (row filled : List (Option Wire)) → slice_get stored i ≡ Some one → Makes a b → IsWiring (one.slot.number ∷ []) b c net → IsAround stored i a row b filled
    → IsAround stored (i + 1) a row c (slice_set filled one.local (Some net))
around_more stored i one net a b c row filled at makes wiring h =
    let from = slot_numbers stored in
    let among = slot_among stored i one at in
    let mid : Each (IsFrom from a b) (one.slot.number ∷ []) = (inl among, tt) in
    let reads = Reads-joined from (one.slot.number ∷ []) a b c h.from.reads wiring.yields.reads mid in
    record {
      from = record {
        reads = reads;
        results = each_set (IsFrom from a c) filled one.local net (each_then (IsFrom from a b) (IsFrom from a c) (row_numbers filled) (λ n f. IsFrom-more from a b c n wiring.makes.adds.extends f) h.from.results)
            (IsFrom-later from (one.slot.number ∷ []) a b c net.number makes.adds.extends wiring.makes.adds.extends mid wiring.yields.result);
      };
      low = λ most each. each_set (IsShallow c most) filled one.local net
          (each_then (IsShallow b most) (IsShallow c most) (row_numbers filled) (λ n s. shallow_on b c most n wiring.makes.adds.extends s) (h.low most each))
          (none_over c most net.number (wiring.shallow most (shallow_on a b most one.slot.number makes.adds.extends (each_among (IsShallow a most) from each one.slot.number among), tt)));
      others = λ local none. set_other filled one.local local (Some net) (none i one (omega arith) at) ∙ h.others local (λ k s low there. none k s (omega arith) there);
    }

pub around_all : (stored : List Stored) (i : ℕ) (a b : Draft) (row filled : List (Option Wire)) → length stored ≤ i → IsAround stored i a row b filled → FromSlots stored a row b filled
around_all stored i a b row filled all h = record { from = h.from; low = h.low; others = λ local none. h.others local (λ k s low at. each_at (λ (x : Stored). local ≢ x.local) stored k s none at) }
