use Rattle.std.proofs.Common.{ℕ, refl, [], ◌∷◌, true, inl, inr, rules}
use Rattle.std.proofs.lemmas.Bool.{both_ways}
use Rattle.ap_desc.proofs.Apart.{no_word_shared}
use Rattle.ap_desc.proofs.Behind.{none_closes, stable_operands}
use Rattle.ap_desc.proofs.LineTests.{no_line_fault}
use Rattle.ap_desc.specs.Clean.{HasDesignFault}
use Rattle.ap_desc.specs.Examples.{adder_card, adder_design, adder_statements, smallest, smallest_design}
use Rattle.ap_desc.specs.declared.fault.Fault.{Fault}
use Rattle.ap_desc.specs.declared.fault.Fault.TheVariants as f
use Rattle.language_tests.proofs.description_rows.without_fault.Goals as goal

smallest_clean : (kind : Fault) (line : ℕ) → HasDesignFault smallest_design kind line → ⊥
smallest_clean f.Overlap line h = no_word_shared smallest_design refl line h
smallest_clean f.ChainLoop line h = none_closes 8 (λ n. 0) smallest_design refl line h
smallest_clean f.UnstableOperand line h = stable_operands 8 (λ n. true) smallest_design refl line refl h
smallest_clean _ line h = search (rules, both_ways)

adder_clean : (kind : Fault) (line : ℕ) → HasDesignFault adder_design kind line → ⊥
adder_clean f.Overlap line h = no_word_shared adder_design refl line h
adder_clean f.ChainLoop line h = none_closes 8 (λ n. 0) adder_design refl line h
adder_clean f.UnstableOperand line h = stable_operands 8 (λ n. true) adder_design refl line refl h
adder_clean _ line h = search (rules, both_ways)

pub returns-clause-smallest : goal.returns-clause-smallest
returns-clause-smallest c kind line (inl h) = no_line_fault smallest [] refl kind line h
returns-clause-smallest c kind line (inr h) = smallest_clean kind line h

pub returns-clause-adder : goal.returns-clause-adder
returns-clause-adder c kind line (inl h) = no_line_fault adder_statements (adder_card ∷ []) refl kind line h
returns-clause-adder c kind line (inr h) = adder_clean kind line h

pub returns-clause-fits : goal.returns-clause-fits
returns-clause-fits c = record { clean = record { sound = search rules; faultless = adder_clean }; of_cards = search rules }
