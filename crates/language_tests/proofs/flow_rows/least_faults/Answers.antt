use Rattle.std.proofs.Common.{◌≡◌, ℕ, ◌<◌, ◌≤◌, refl, [], ◌∷◌, true, false, inl, inr, rules, arith, lit<, lit≤}
use Rattle.std.specs.Prelude.{◌||◌, ◌==◌, nat_lt}
use Rattle.std.proofs.lemmas.Bool.{both_ways, eqb-true, lt-ltb, or_cases}
use Rattle.ap_desc.proofs.Behind.{none_closes, none_closes_before, stable_operands}
use Rattle.ap_desc.proofs.LeastFaults.{found_from_least, not_before_earlier, not_before_itself}
use Rattle.ap_desc.proofs.FlowFacts.{both, both_closes, input_unstable, rank}
use Rattle.ap_desc.specs.Clean.{HasDesignFault}
use Rattle.ap_desc.specs.Examples.{adder_instr}
use Rattle.ap_desc.specs.Faults.{IsBefore}
use Rattle.ap_desc.specs.FaultTable.{phase_of}
use Rattle.ap_desc.specs.FlowExamples.{flow_design, long_design, one_sum, one_write, times_input, two_steps, two_units}
use Rattle.ap_desc.specs.Meaning.{MeetsPortFault}
use Rattle.ap_desc.specs.declared.design.Design.{Design}
use Rattle.ap_desc.specs.declared.fault.Fault.{Fault}
use Rattle.ap_desc.specs.declared.fault.Fault.TheVariants as f
use Rattle.language_tests.proofs.flow_rows.least_faults.Goals as goal

-- the line of the only one that is faulty
at_line : (own line : ℕ) → ((own == line) || false) ≡ true → own ≡ line
at_line own line h = elim (or_cases (own == line) false h) [
  | inl here ↦ eqb-true own line here
  | inr none ↦ absurd (both_ways false refl none)
]

at_line_in : (own line : ℕ) → (((own == line) || false) || false) ≡ true → own ≡ line
at_line_in own line h = elim (or_cases ((own == line) || false) false h) [
  | inl here ↦ at_line own line here
  | inr none ↦ absurd (both_ways false refl none)
]

-- a kind comes before itself at an earlier line alone
own_line_before : (kind : Fault) (line at : ℕ) → IsBefore kind line kind at → line < at
own_line_before kind line at (inl below) = absurd (omega arith)
own_line_before kind line at (inr (same, inl above)) = above
own_line_before kind line at (inr (same, inr (here, lower))) = absurd (omega arith)

-- a fault of the fourth phase is none of ports or stages
not_word : (kind : Fault) → phase_of kind ≡ 4 → 5 ≤ phase_of kind → ⊥
not_word kind word late = omega arith

abbrev port_twice : Design
port_twice = flow_design (adder_instr ∷ two_steps 0 ∷ [])

port_twice_first : (kind : Fault) (line : ℕ) → IsBefore kind line f.TwiceInInstruction 23 → 5 ≤ phase_of kind → HasDesignFault port_twice kind line → ⊥
port_twice_first f.TwiceInInstruction line before late h = not_before_itself f.TwiceInInstruction line 23 (at_line_in 23 line h) before
port_twice_first f.Overlap line before late h = not_word f.Overlap refl late
port_twice_first f.ChainLoop line before late h = not_before_earlier f.ChainLoop line f.TwiceInInstruction 23 (lit< tt) before
port_twice_first f.UnstableOperand line before late h = stable_operands 8 (λ n. true) port_twice refl line refl h
port_twice_first _ line before late h = search (rules, both_ways)

pub returns-clause-twice : goal.returns-clause-twice
returns-clause-twice c = found_from_least (MeetsPortFault port_twice) _ (record { phase = refl; holds = (lit≤ tt, refl); least = λ kind line h before. port_twice_first kind line before h.0 h.1 })

abbrev two_stages : Design
two_stages = flow_design (adder_instr ∷ one_sum 1 ∷ [])

two_stages_first : (kind : Fault) (line : ℕ) → IsBefore kind line f.TwoStages 22 → 5 ≤ phase_of kind → HasDesignFault two_stages kind line → ⊥
two_stages_first f.TwoStages line before late h = not_before_itself f.TwoStages line 22 (at_line 22 line h) before
two_stages_first f.Overlap line before late h = not_word f.Overlap refl late
two_stages_first f.ChainLoop line before late h = none_closes 8 rank two_stages refl line h
two_stages_first f.UnstableOperand line before late h = stable_operands 8 (λ n. true) two_stages refl line refl h
two_stages_first _ line before late h = search (rules, both_ways)

pub returns-clause-stages : goal.returns-clause-stages
returns-clause-stages c = found_from_least (MeetsPortFault two_stages) _ (record { phase = refl; holds = (lit≤ tt, refl); least = λ kind line h before. two_stages_first kind line before h.0 h.1 })

abbrev early : Design
early = long_design (one_write 1 ∷ [])

early_first : (kind : Fault) (line : ℕ) → IsBefore kind line f.EarlyCommit 22 → 5 ≤ phase_of kind → HasDesignFault early kind line → ⊥
early_first f.EarlyCommit line before late h = not_before_itself f.EarlyCommit line 22 (at_line 22 line h) before
early_first f.Overlap line before late h = not_word f.Overlap refl late
early_first f.ChainLoop line before late h = none_closes 8 rank early refl line h
early_first f.UnstableOperand line before late h = stable_operands 8 (λ n. true) early refl line refl h
early_first _ line before late h = search (rules, both_ways)

pub returns-clause-commit : goal.returns-clause-commit
returns-clause-commit c = found_from_least (MeetsPortFault early) _ (record { phase = refl; holds = (lit≤ tt, refl); least = λ kind line h before. early_first kind line before h.0 h.1 })

both_first : (kind : Fault) (line : ℕ) → IsBefore kind line f.ChainLoop 46 → 5 ≤ phase_of kind → HasDesignFault both kind line → ⊥
both_first f.ChainLoop line before late h = none_closes_before 8 46 rank both refl line (own_line_before f.ChainLoop line 46 before) h
both_first f.Overlap line before late h = not_word f.Overlap refl late
both_first f.UnstableOperand line before late h = stable_operands 8 (λ n. true) both refl line refl h
both_first _ line before late h = search (rules, both_ways)

pub returns-clause-loop_closed : goal.returns-clause-loop_closed
returns-clause-loop_closed c = found_from_least (MeetsPortFault both) _ (record { phase = refl; holds = (lit≤ tt, (2, both_closes)); least = λ kind line h before. both_first kind line before h.0 h.1 })

abbrev unstable : Design
unstable = flow_design (times_input 2 ∷ [])

unstable_first : (kind : Fault) (line : ℕ) → IsBefore kind line f.UnstableOperand 23 → 5 ≤ phase_of kind → HasDesignFault unstable kind line → ⊥
unstable_first f.UnstableOperand line before late h = stable_operands 8 (λ n. nat_lt n 23) unstable refl line (lt-ltb line 23 (own_line_before f.UnstableOperand line 23 before)) h
unstable_first f.Overlap line before late h = not_word f.Overlap refl late
unstable_first f.ChainLoop line before late h = none_closes 8 rank unstable refl line h
unstable_first _ line before late h = search (rules, both_ways)

pub returns-clause-input : goal.returns-clause-input
returns-clause-input c = found_from_least (MeetsPortFault unstable) _ (record { phase = refl; holds = (lit≤ tt, input_unstable); least = λ kind line h before. unstable_first kind line before h.0 h.1 })

abbrev right : Design
right = flow_design (adder_instr ∷ two_units 30 0 1 ∷ [])

right_nowhere : (kind : Fault) (line : ℕ) → 5 ≤ phase_of kind → HasDesignFault right kind line → ⊥
right_nowhere f.Overlap line late h = not_word f.Overlap refl late
right_nowhere f.ChainLoop line late h = none_closes 8 rank right refl line h
right_nowhere f.UnstableOperand line late h = stable_operands 8 (λ n. true) right refl line refl h
right_nowhere _ line late h = search (rules, both_ways)

pub returns-clause-none : goal.returns-clause-none
returns-clause-none c kind line h = right_nowhere kind line h.0 h.1
