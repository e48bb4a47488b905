-- What is left in the builder where a unit that makes a step a cycle was ended.
use Rattle.std.proofs.Common.{◌≡◌, ℕ, List, [], ◌∷◌, ◌++◌, sym, ap, subst, ◌∙◌}
use Rattle.ap_bits.specs.declared.card.Card.{Card}
use Rattle.ap_bits.specs.declared.card.Latency.TheVariants.{WidthPlusOne}
use Rattle.ap_bits.specs.Cards.{select_width}
use Rattle.ap_net.specs.declared.cell.Wire.{Wire}
use Rattle.ap_net.specs.declared.net.Next.{Next}
use Rattle.ap_net.specs.Draft.{Draft, IsKept, SettlesDraft}
use Rattle.ap_net.specs.Making.{Makes}
use Rattle.ap_net.proofs.Laws.{Makes-trans}
use Rattle.ap_unit.specs.declared.stepper.Pair.{Pair}
use Rattle.ap_unit.specs.declared.stepper.Stepper.{Stepper}
use Rattle.ap_unit.specs.Built.{IsUnitDraft}
use Rattle.ap_unit.specs.Named.{NamesPlainly}
use Rattle.ap_unit.specs.Methods.{Method, Reaches}
use Rattle.ap_unit.specs.Stepping.{with_stepper, step_wires, step_nexts, state_of, kept_state, next_count, MakesStep, HoldsStepper}
use Rattle.ap_unit.proofs.Stepped.{ended, unit_of_steps}
use Rattle.ap_unit.proofs.StepNames.{step_names}

-- the drivers of the registers, said one after another
pub three_nexts : (old last a b new : Draft) (unit : Stepper) (count : Wire) (state : Pair) → HoldsStepper old unit → Makes old last
    → a ≡ record last { nexts = last.nexts ++ record { register = unit.count; from = count } ∷ [] }
    → b ≡ record a { nexts = a.nexts ++ record { register = unit.held.high; from = state.high } ∷ [] }
    → new ≡ record b { nexts = b.nexts ++ record { register = unit.held.low; from = state.low } ∷ [] }
    → new ≡ record last { nexts = step_nexts unit count state }
three_nexts old last a b new unit count state holds makes at_a at_b at_new =
    let none : last.nexts ≡ [] = makes.adds.nexts ∙ holds.made.adds.nexts in
    let first : a ≡ record last { nexts = record { register = unit.count; from = count } ∷ [] } =
    at_a ∙ ap (λ (nexts : List Next). record last { nexts = nexts ++ record { register = unit.count; from = count } ∷ [] }) none in
    let second = at_b ∙ ap (λ (d : Draft). record d { nexts = d.nexts ++ record { register = unit.held.high; from = state.high } ∷ [] }) first in
    at_new ∙ ap (λ (d : Draft). record d { nexts = d.nexts ++ record { register = unit.held.low; from = state.low } ∷ [] }) second

pub ended_names : (old last new : Draft) (unit : Stepper) (count : Wire) (state : Pair) → HoldsStepper old unit → Makes old last
    → new ≡ record last { nexts = step_nexts unit count state } → NamesPlainly new
ended_names old last new unit count state holds makes is =
    let w : ℕ = unit.a.width in
    let k : ℕ = unit.count.width in
    let whole : new ≡ ended last w k count state = is ∙ ap (λ (u : Stepper). record last { nexts = step_nexts u count state }) holds.wires in
    subst NamesPlainly (sym whole) (step_names old last w k state count (Makes-trans (with_stepper old.name w k) old last holds.made makes))

pub ended_unit : (old last new : Draft) (unit : Stepper) (next state : Pair) (count : Wire) → HoldsStepper old unit → Makes old last
    → ((read : ℕ → ℕ) → SettlesDraft last read → read count.number ≡ next_count unit read)
    → ((read : ℕ → ℕ) → SettlesDraft last read → state_of read state ≡ kept_state unit read next)
    → new ≡ record last { nexts = step_nexts unit count state } → IsKept new
    → (card : Card) (method : Method) → card.latency ≡ WidthPlusOne → select_width card ≡ 1 → Reaches method card unit.a.width → MakesStep old unit method next → IsUnitDraft new card unit.a.width
ended_unit old last new unit next state count holds makes counts keeps is kept card method late select reaches step =
    let w : ℕ = unit.a.width in
    let k : ℕ = unit.count.width in
    let P : Stepper → Type 0 = λ (u : Stepper).
    ((read : ℕ → ℕ) → SettlesDraft last read → read count.number ≡ next_count u read)
    → ((read : ℕ → ℕ) → SettlesDraft last read → state_of read state ≡ kept_state u read next)
    → new ≡ record last { nexts = step_nexts u count state } → MakesStep old u method next → IsUnitDraft new card w in
    let here : P (step_wires w k) = λ counts keeps is step.
    subst (λ (d : Draft). IsUnitDraft d card w) (sym is) (unit_of_steps old last w k next state count holds.room holds.low holds.made makes counts keeps (subst IsKept is kept) card method late select reaches step) in
    subst P (sym holds.wires) here counts keeps is step
