-- The data of a stage's instructions, by the number of the instruction.
use Rattle.std.proofs.Common.{◌≡◌, ℕ, zero, suc, ◌<◌, List, [], ◌∷◌, length, Some, Option, refl, sym, ap, ◌∙◌, arith}
use Rattle.std.specs.Prelude.{slice_get}
use Rattle.std.specs.Option.{option_map_or}
use Rattle.std.proofs.lemmas.Option.{slice_get_within}
use Rattle.ap_desc.specs.declared.design.Arg.{Arg}
use Rattle.ap_net.specs.Readings.{Reading}
use Rattle.ap_stage.specs.declared.node.Course.{Course}
use Rattle.ap_data.specs.Stage.{StagesHaveData, data_value}
use Rattle.ap_values.specs.Values.{InstrsAreByData}

there_at : {X : Type 0} (xs : List X) (i : ℕ) → i < length xs → (x : X) × (slice_get xs i ≡ Some x)
there_at [] i low = absurd (omega arith)
there_at (x ∷ xs) zero low = (x, refl)
there_at (x ∷ xs) (suc i) low = there_at xs i (omega arith)

pub instrs_are_by_data : StagesHaveData → InstrsAreByData
instrs_are_by_data law design cards d modules files units home stage base courses nodes fits s k instr at =
    let inside = slice_get_within design.instrs k instr at in
    let long = s.long in
    let c = there_at courses k (omega (arith, inside, long)) in
    let has = law design cards d modules files units home stage base courses nodes fits s k instr c.0 at c.1 in
    (has.0, λ r a. ap (λ (o : Option Course). option_map_or (λ (x : Course). data_value design r base x a) o 0) c.1 ∙ ap (λ (v : Reading → Arg → ℕ). v r a) (sym has.1))
