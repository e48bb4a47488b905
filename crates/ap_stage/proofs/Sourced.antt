-- The nets of operands.
use Rattle.std.proofs.Common.{◌≡◌, ℕ, zero, suc, List, [], ◌∷◌, ◌++◌, Option, Some, None, inl, inr, refl, sym, ap, ◌∙◌}
use Rattle.std.specs.Prelude.{◌↔◌, IfNone, IfSome, IsSome, slice_get}
use Rattle.std.specs.Option.{option_map_or}
use Rattle.std.proofs.lemmas.Bool.{false≢true}
use Rattle.std.proofs.lemmas.Option.{same_Some}
use Rattle.ap_desc.specs.Designs.{field_value}
use Rattle.ap_desc.specs.declared.design.Arg.TheVariants as arg
use Rattle.ap_desc.specs.declared.design.Field.{Field}
use Rattle.ap_net.specs.declared.cell.Wire.{Wire}
use Rattle.ap_net.specs.Draft.{Draft}
use Rattle.ap_net.specs.Pending.{Among}
use Rattle.ap_net.specs.Ready.{numbers}
use Rattle.ap_net.specs.Readings.{Carries}
use Rattle.ap_stage.specs.declared.source.Ground.{Ground}
use Rattle.ap_stage.specs.declared.source.Scope.{Scope}
use Rattle.ap_stage.specs.Sources.{HasNet, IsOperandNet, IsRow, net_value, row_numbers, source_numbers}
use Rattle.ap_stage.specs.Wiring.{IsWiring}
use Rattle.ap_stage.proofs.Wired.{wiring_fewer, wiring_same}
use Rattle.ap_stage.proofs.Listed.{among_left, among_right}

among_row : (row : List (Option Wire)) (i : ℕ) (w : Wire) → slice_get row i ≡ Some (Some w) → Among (row_numbers row) w.number
among_row [] i w at = absurd cc
among_row (None ∷ row) zero w at = absurd cc
among_row (None ∷ row) (suc i) w at = among_row row i w at
among_row (Some x ∷ row) zero w at = inl (ap (λ (z : Wire). z.number) (same_Some x w (same_Some (Some x) (Some w) at)))
among_row (Some x ∷ row) (suc i) w at = inr (among_row row i w at)

among_sources : (ground : Ground) (row : List (Option Wire)) (n : ℕ) → Among (row_numbers row) n → Among (source_numbers ground row) n
among_sources ground row n h = inr (inr (inr (among_right (numbers ground.regs) (numbers ground.inputs ++ row_numbers row) n (among_right (numbers ground.inputs) (row_numbers row) n h))))

among_nets : (nets : List Wire) (place : ℕ) (w : Wire) → slice_get nets place ≡ Some w → Among (numbers nets) w.number
among_nets [] place w at = absurd cc
among_nets (x ∷ nets) zero w at = inl (ap (λ (z : Wire). z.number) (same_Some x w at))
among_nets (x ∷ nets) (suc place) w at = inr (among_nets nets place w at)

pub among_regs : (ground : Ground) (row : List (Option Wire)) (place : ℕ) (w : Wire) → slice_get ground.regs place ≡ Some w → Among (source_numbers ground row) w.number
among_regs ground row place w at = inr (inr (inr (among_left (numbers ground.regs) (numbers ground.inputs ++ row_numbers row) w.number (among_nets ground.regs place w at))))

pub among_inputs : (ground : Ground) (row : List (Option Wire)) (place : ℕ) (w : Wire) → slice_get ground.inputs place ≡ Some w → Among (source_numbers ground row) w.number
among_inputs ground row place w at = inr (inr (inr (among_right (numbers ground.regs) (numbers ground.inputs ++ row_numbers row) w.number (among_left (numbers ground.inputs) (row_numbers row) w.number (among_nets ground.inputs place w at)))))

-- The net of a local is what the row has.

pub local_net : (d : Draft) (ground : Ground) (scope : Scope) (row : List (Option Wire)) (i : ℕ) (o : Option Wire) → IsRow d.nets scope row → slice_get row i ≡ Some o → IfSome o (IsOperandNet d ground scope row (arg.Local i))
local_net d ground scope row i None is at = tt
local_net d ground scope row i (Some w) is at = record { net = is.nets_are i w at; wide = is.wide i w at; means = record { holds = λ r s. sym (ap (net_value r) at) } }

pub local_wiring : (d : Draft) (ground : Ground) (row : List (Option Wire)) (i : ℕ) (o : Option Wire) → slice_get row i ≡ Some o → IfSome o (IsWiring (source_numbers ground row) d d)
local_wiring d ground row i None at = tt
local_wiring d ground row i (Some w) at = wiring_same (source_numbers ground row) d w (among_sources ground row w.number (among_row row i w at))

pub local_found : (row : List (Option Wire)) (i : ℕ) (o : Option Wire) → slice_get row i ≡ Some o → HasNet row (arg.Local i) ↔ IsSome o
local_found row i None at = (λ h. let both : Some None ≡ Some (Some h.0) = sym at ∙ h.1 in absurd cc, λ h. absurd (false≢true h))
local_found row i (Some w) at = (λ h. refl, λ h. (w, at))

pub nothing_made : (d : Draft) (o : Option Wire) → IfNone o (d ≡ d)
nothing_made d None = refl
nothing_made d (Some w) = tt

-- That of a field is a slice of the word.
pub field_operand : (d : Draft) (ground : Ground) (scope : Scope) (row : List (Option Wire)) (i : ℕ) (f : Field) (w : Wire) → slice_get scope.fields i ≡ Some f → Carries d f.width (λ r x. x ≡ field_value f (r.read ground.word.number)) w
    → IsOperandNet d ground scope row (arg.Field i) w
field_operand d ground scope row i f w at h = record {
  net = h.net;
  wide = h.wide ∙ sym (ap (λ o. option_map_or (λ (z : Field). z.width) o 0) at);
  means = record { holds = λ r s. h.means.holds r s ∙ sym (ap (λ o. option_map_or (λ (z : Field). field_value z (r.read ground.word.number)) o 0) at) };
}

pub word_wiring : (a b : Draft) (ground : Ground) (row : List (Option Wire)) (w : Wire) → IsWiring (ground.word.number ∷ []) a b w → IsWiring (source_numbers ground row) a b w
word_wiring a b ground row w h = wiring_fewer (source_numbers ground row) (ground.word.number ∷ []) a b w h (inl refl, tt)
