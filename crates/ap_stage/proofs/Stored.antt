-- Locals that stand in slots, put into a row one after another.
use Rattle.std.proofs.Common.{◌≡◌, ◌≢◌, ℕ, zero, suc, ◌+◌, ◌%◌, ◌^◌, ◌<◌, List, length, replicate, Option, Some, None, inl, inr, sym, ap, subst, ◌∙◌, arith}
use Rattle.std.specs.Prelude.{◌⊎◌, slice_get, slice_set}
use Rattle.std.specs.Option.{option_map_or}
use Rattle.std.proofs.lemmas.Bool.{cases_eq}
use Rattle.std.proofs.lemmas.List.{length-replicate}
use Rattle.std.proofs.lemmas.Option.{same_Some}
use Rattle.ap_net.specs.declared.cell.Wire.{Wire}
use Rattle.ap_net.specs.declared.net.ModuleNet.{ModuleNet}
use Rattle.ap_net.specs.Draft.{Draft}
use Rattle.ap_net.specs.Making.{Makes}
use Rattle.ap_net.specs.Readings.{Carries}
use Rattle.ap_net.proofs.Laws.{Carries-Makes}
use Rattle.ap_stage.specs.declared.slot.Stored.{Stored}
use Rattle.ap_stage.specs.declared.source.Scope.{Scope}
use Rattle.ap_stage.specs.Slots.{AreStoredOnce, HasStored, local_bits}
use Rattle.ap_stage.specs.Sources.{IsRow}
use Rattle.ap_stage.proofs.Filled.{set_other, set_same}

never : (n j : ℕ) (w : Wire) → slice_get (replicate n None) j ≡ Some (Some w) → ⊥
never zero j w at = absurd cc
never (suc n) zero w at = absurd cc
never (suc n) (suc j) w at = never n j w at

-- a row without nets
pub none_row : (nets : List ModuleNet) (scope : Scope) → IsRow nets scope (replicate (length scope.widths) None)
none_row nets scope = record { long = length-replicate (length scope.widths) None; nets_are = λ j w at. absurd (never (length scope.widths) j w at); wide = λ j w at. absurd (never (length scope.widths) j w at) }

-- the width at a place
pub bits_are : (scope : Scope) (i width : ℕ) → slice_get scope.widths i ≡ Some width → local_bits scope i ≡ width
bits_are scope i width at = ap (λ o. option_map_or (λ (k : ℕ). k) o 0) at

-- one more local of a slot
pub stored_more : (a b : Draft) (scope : Scope) (stored : List Stored) (row : List (Option Wire)) (i : ℕ) (one : Stored) (net : Wire) → Makes a b → AreStoredOnce stored → slice_get stored i ≡ Some one → one.local < length row
    → Carries b (local_bits scope one.local) (λ r x. x ≡ r.read one.slot.number % 2 ^ local_bits scope one.local) net → ((k : ℕ) (s : Stored) → k < i → slice_get stored k ≡ Some s → HasStored a scope row s)
    → (k : ℕ) (s : Stored) → k < i + 1 → slice_get stored k ≡ Some s → HasStored b scope (slice_set row one.local (Some net)) s
stored_more a b scope stored row i one net makes once at inside carries before k s low there = go (cases_eq k i)
  where
    go : (k ≡ i) ⊎ (k ≢ i) → HasStored b scope (slice_set row one.local (Some net)) s
    go (inl e) =
        let same : one ≡ s = same_Some one s (sym at ∙ ap (slice_get stored) (sym e) ∙ there) in
        subst (HasStored b scope (slice_set row one.local (Some net))) same (record { net = net; at = set_same row one.local (Some net) inside; carries = carries })
    go (inr ne) =
        let h = before k s (omega arith) there in
        record { net = h.net; at = set_other row one.local s.local (Some net) (λ e. ne (once k i s one there at e)) ∙ h.at; carries = Carries-Makes makes h.carries }
