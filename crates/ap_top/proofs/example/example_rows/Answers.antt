use Rattle.std.proofs.Common.{◌≡◌, ℕ, ◌+◌, ◌%◌, ◌^◌, [], ◌∷◌, ap, ◌∙◌}
use Rattle.ap_bits.proofs.TermValues.{term_values}
use Rattle.ap_top.specs.Example.{example_operation, example_form, quiet, writing}
use Rattle.ap_top.specs.Machine.{sum_of}
use Rattle.ap_top.proofs.example.example_rows.Goals as goal

-- the example's operation adds
added : (register : ℕ) → sum_of example_operation example_form register ≡ (register + 250) % 2 ^ 8
added register = simp term_values

pub returns : goal.returns
returns c =
    let once : sum_of example_operation example_form 3 ≡ 253 = added 3 in
    let twice : sum_of example_operation example_form (sum_of example_operation example_form 3) ≡ 247 = ap (sum_of example_operation example_form) once ∙ added 253 in
    λ i. quiet ∷ writing (once i) ∷ writing (twice i) ∷ quiet ∷ []
