use Rattle.std.proofs.Common.{ℕ, refl, true, inl, inr, lit≤, lit<, rules}
use Rattle.std.specs.Prelude.{codes}
use Rattle.std.proofs.lemmas.Bool.{both_ways}
use Rattle.ap_desc.proofs.Apart.{no_word_shared}
use Rattle.ap_desc.proofs.Behind.{none_closes, stable_operands}
use Rattle.ap_desc.proofs.LineTests.{no_line_fault}
use Rattle.ap_desc.specs.Clean.{HasDesignFault}
use Rattle.ap_desc.specs.Meaning.{IsMeaningful}
use Rattle.ap_desc.specs.declared.fault.Fault.{Fault}
use Rattle.ap_desc.specs.declared.fault.Fault.TheVariants as f
use Rattle.ap_text.specs.Lines.{lines_of}
use Rattle.ap_text.specs.Numbers.{number_value, spelled_value}
use Rattle.ap_top.specs.Form.{AreLines, first_form}
use Rattle.ap_top.specs.Additions.{IsAddition}
use Rattle.ap_top.specs.Example.{example_cards, example_design, example_form, example_operation, example_statements, example_text}
use Rattle.ap_top.proofs.TextFaults.{accepted}
use Rattle.ap_top.proofs.example.example_description.Goals as goal

lines : AreLines example_form first_form (lines_of example_text)
unfolding lines_of number_value spelled_value
lines = (
  (refl, (refl, (refl, tt))),
  (
    (refl, (refl, ((codes "4", refl, refl), tt))),
    (
      (refl, (refl, ((codes "8", refl, refl), tt))),
      (
        (refl, (refl, (refl, (refl, tt)))),
        (
          (refl, (refl, (refl, ((codes "8", refl, refl), ((codes "3", refl, refl), tt))))),
          (
            (refl, (refl, (refl, (refl, ((codes "8", refl, refl), tt))))),
            (
              (refl, (refl, (refl, ((codes "8", refl, refl), tt)))),
              (
                (refl, (refl, (refl, (refl, (refl, tt))))),
                (
                  (refl, (refl, tt)),
                  (
                    (refl, (refl, (refl, (refl, ((codes "1", refl, refl), tt))))),
                    (
                      (refl, (refl, (refl, (refl, (refl, tt))))),
                      (
                        (refl, (refl, (refl, (refl, (refl, ((codes "8", refl, refl), ((codes "250", refl, refl), tt))))))),
                        (
                          (refl, (refl, (refl, (refl, (refl, (refl, (refl, tt))))))),
                          (
                            (refl, (refl, (refl, (refl, (refl, tt))))),
                            (
                              (refl, (refl, tt)),
                              tt,
                            ),
                          ),
                        ),
                      ),
                    ),
                  ),
                ),
              ),
            ),
          ),
        ),
      ),
    ),
  ),
)

-- its design is clean, and its lines have no fault
clean : (kind : Fault) (line : ℕ) → HasDesignFault example_design kind line → ⊥
clean f.Overlap line h = no_word_shared example_design refl line h
clean f.ChainLoop line h = none_closes 8 (λ n. 0) example_design refl line h
clean f.UnstableOperand line h = stable_operands 8 (λ n. true) example_design refl line refl h
clean _ line h = search (rules, both_ways)

meaningful : IsMeaningful example_statements example_cards
meaningful kind line (inl h) = no_line_fault example_statements example_cards refl kind line h
meaningful kind line (inr h) = clean kind line h

addition : IsAddition example_cards 8 example_operation
addition = record { place = 0; named = refl; card = refl; quick = record { fits = refl; one = refl; has = lit< tt }; adds = refl }

pub returns-clause-addition : goal.returns-clause-addition
returns-clause-addition c = addition

pub returns-clause-description : goal.returns-clause-description
returns-clause-description c = record {
  faultless =
      accepted example_text example_cards example_statements
      (c.descriptions_are_faultless.ensures example_text example_statements (lit≤ tt) c.example_reading.ensures.description c.example_reading.ensures.reads)
      c.example_reading.ensures.reads meaningful;
  first = record {
    lines = lines;
    ranges = record {
      address_low = lit≤ tt;
      address_high = lit≤ tt;
      word_low = lit≤ tt;
      word_high = lit≤ tt;
      width_low = lit≤ tt;
      width_high = lit≤ tt;
      values = record { start = lit< tt; code_low = lit≤ tt; code_high = lit< tt; constant = lit< tt };
    };
  };
  unit = (example_operation, addition);
}
