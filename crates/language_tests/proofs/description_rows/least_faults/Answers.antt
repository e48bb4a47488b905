use Rattle.std.proofs.Common.{◌≡◌, ℕ, ◌<◌, refl, List, [], ◌∷◌, true, false, inl, inr, rules, arith, lit<}
use Rattle.std.specs.Prelude.{codes, ◌==◌, ◌||◌, nat_lt, Contains}
use Rattle.std.proofs.lemmas.Bool.{both_ways, eqb-true, lt-ltb, or_cases}
use Rattle.ap_desc.proofs.Apart.{no_word_shared}
use Rattle.ap_desc.proofs.Behind.{none_closes, stable_operands}
use Rattle.ap_desc.proofs.LeastFaults.{design_phase, found_from_least, not_before_earlier, not_before_itself}
use Rattle.ap_desc.proofs.LineTests.{clear_of, name_kinds, no_line_fault, width_kinds}
use Rattle.ap_desc.specs.Clean.{HasDesignFault}
use Rattle.ap_desc.specs.DesignOf.{design_of}
use Rattle.ap_desc.specs.Examples.{smallest_but}
use Rattle.ap_desc.specs.Faults.{IsBefore}
use Rattle.ap_desc.specs.FaultTable.{phase_of}
use Rattle.ap_desc.specs.StatementFaults.{HasStatementFault}
use Rattle.ap_desc.specs.Meaning.{MeetsMeaningFault}
use Rattle.ap_desc.specs.declared.description.Numbered.{Numbered}
use Rattle.ap_desc.specs.declared.fault.Fault.{Fault}
use Rattle.ap_desc.specs.declared.fault.Fault.TheVariants as f
use Rattle.ap_desc.specs.declared.statement.Statement.TheVariants as s
use Rattle.language_tests.proofs.description_rows.least_faults.Goals as goal

abbrev wide_word : List Numbered
wide_word = smallest_but 65 0 8 0 []

-- no name of it is faulty, and no width before line 3
word_names : (kind : Fault) (line : ℕ) → Contains name_kinds kind → HasStatementFault wide_word [] kind line → ⊥
word_names kind line known h = clear_of wide_word [] name_kinds (λ n. true) refl kind line known refl h

word_widths : (kind : Fault) (line : ℕ) → Contains width_kinds kind → line < 3 → HasStatementFault wide_word [] kind line → ⊥
word_widths kind line known low h = clear_of wide_word [] width_kinds (λ n. nat_lt n 3) refl kind line known (lt-ltb line 3 low) h

-- a fault of widths that comes before the first of line 3 stands above it
above_3 : (kind : Fault) (line : ℕ) → phase_of kind ≡ 3 → IsBefore kind line f.Range 3 → line < 3
above_3 kind line same (inl below) = absurd (omega arith)
above_3 kind line same (inr (equal, inl above)) = above
above_3 f.Range line same (inr (equal, inr (here, lower))) = absurd (omega arith)
above_3 f.Differs line same (inr (equal, inr (here, lower))) = absurd (omega arith)
above_3 f.Slice line same (inr (equal, inr (here, lower))) = absurd (omega arith)
above_3 f.TooWideConstant line same (inr (equal, inr (here, lower))) = absurd (omega arith)
above_3 f.NotOneBit line same (inr (equal, inr (here, lower))) = absurd (omega arith)
above_3 f.Target line same (inr (equal, inr (here, lower))) = absurd (omega arith)
above_3 f.KindRefuses line same (inr (equal, inr (here, lower))) = absurd (omega arith)
above_3 _ line same (inr (equal, inr (here, lower))) = absurd (omega arith)

word_first : (kind : Fault) (line : ℕ) → IsBefore kind line f.Range 3 → HasStatementFault wide_word [] kind line → ⊥
word_first f.Unknown line before h = word_names f.Unknown line (0, lit< tt, refl) h
word_first f.Twice line before h = word_names f.Twice line (1, lit< tt, refl) h
word_first f.NoKind line before h = word_names f.NoKind line (2, lit< tt, refl) h
word_first f.NoOperation line before h = word_names f.NoOperation line (3, lit< tt, refl) h
word_first f.Range line before h = word_widths f.Range line (0, lit< tt, refl) (above_3 f.Range line refl before) h
word_first f.Differs line before h = word_widths f.Differs line (1, lit< tt, refl) (above_3 f.Differs line refl before) h
word_first f.Slice line before h = word_widths f.Slice line (2, lit< tt, refl) (above_3 f.Slice line refl before) h
word_first f.TooWideConstant line before h = word_widths f.TooWideConstant line (3, lit< tt, refl) (above_3 f.TooWideConstant line refl before) h
word_first f.NotOneBit line before h = word_widths f.NotOneBit line (4, lit< tt, refl) (above_3 f.NotOneBit line refl before) h
word_first f.Target line before h = word_widths f.Target line (5, lit< tt, refl) (above_3 f.Target line refl before) h
word_first f.KindRefuses line before h = word_widths f.KindRefuses line (6, lit< tt, refl) (above_3 f.KindRefuses line refl before) h
word_first _ line before h = both_ways false refl h.holds

word_least : (kind : Fault) (line : ℕ) → MeetsMeaningFault wide_word [] kind line → IsBefore kind line f.Range 3 → ⊥
word_least kind line (inl h) before = word_first kind line before h
word_least kind line (inr h) before = not_before_earlier kind line f.Range 3 (design_phase (design_of wide_word []) kind line h) before

pub returns-clause-word : goal.returns-clause-word
returns-clause-word c = found_from_least (MeetsMeaningFault wide_word []) _ (record {
  phase = refl;
  holds = inl (record {
    before = record { line = 1; statement = s.Stages 2 } ∷ record { line = 2; statement = s.Address 4 } ∷ [];
    n = record { line = 3; statement = s.Word 65 };
    place = record { after = _; parts = refl; numbered = refl };
    holds = refl;
  });
  least = word_least;
})

abbrev many_slots : List Numbered
many_slots = smallest_but 8 2 8 0 []

many_slots_first : (kind : Fault) (line : ℕ) → IsBefore kind line f.TooManySlots 4 → HasDesignFault (design_of many_slots []) kind line → ⊥
many_slots_first f.TooManySlots line before h = not_before_itself f.TooManySlots line 4 (eqb-true 4 line h) before
many_slots_first f.Overlap line before h = no_word_shared (design_of many_slots []) refl line h
many_slots_first f.ChainLoop line before h = none_closes 8 (λ n. 0) (design_of many_slots []) refl line h
many_slots_first f.UnstableOperand line before h = stable_operands 8 (λ n. true) (design_of many_slots []) refl line refl h
many_slots_first _ line before h = search (rules, both_ways)

many_slots_least : (kind : Fault) (line : ℕ) → MeetsMeaningFault many_slots [] kind line → IsBefore kind line f.TooManySlots 4 → ⊥
many_slots_least kind line (inl h) before = no_line_fault many_slots [] refl kind line h
many_slots_least kind line (inr h) before = many_slots_first kind line before h

pub returns-clause-slots : goal.returns-clause-slots
returns-clause-slots c = found_from_least (MeetsMeaningFault many_slots []) _ (record { phase = refl; holds = inr refl; least = many_slots_least })

-- the line of the only one that is faulty
at_line : (own line : ℕ) → ((own == line) || false) ≡ true → own ≡ line
at_line own line h = elim (or_cases (own == line) false h) [
  | inl here ↦ eqb-true own line here
  | inr none ↦ absurd (both_ways false refl none)
]

abbrev narrow_field : List Numbered
narrow_field = smallest_but 8 0 7 0 []

narrow_field_first : (kind : Fault) (line : ℕ) → IsBefore kind line f.FormatSum 5 → HasDesignFault (design_of narrow_field []) kind line → ⊥
narrow_field_first f.FormatSum line before h = not_before_itself f.FormatSum line 5 (at_line 5 line h) before
narrow_field_first f.Overlap line before h = no_word_shared (design_of narrow_field []) refl line h
narrow_field_first f.ChainLoop line before h = none_closes 8 (λ n. 0) (design_of narrow_field []) refl line h
narrow_field_first f.UnstableOperand line before h = stable_operands 8 (λ n. true) (design_of narrow_field []) refl line refl h
narrow_field_first _ line before h = search (rules, both_ways)

narrow_field_least : (kind : Fault) (line : ℕ) → MeetsMeaningFault narrow_field [] kind line → IsBefore kind line f.FormatSum 5 → ⊥
narrow_field_least kind line (inl h) before = no_line_fault narrow_field [] refl kind line h
narrow_field_least kind line (inr h) before = narrow_field_first kind line before h

pub returns-clause-sum : goal.returns-clause-sum
returns-clause-sum c = found_from_least (MeetsMeaningFault narrow_field []) _ (record { phase = refl; holds = inr refl; least = narrow_field_least })

abbrev wide_value : List Numbered
wide_value = smallest_but 8 0 8 256 []

wide_value_first : (kind : Fault) (line : ℕ) → IsBefore kind line f.FieldValue 6 → HasDesignFault (design_of wide_value []) kind line → ⊥
wide_value_first f.FieldValue line before h = not_before_itself f.FieldValue line 6 (at_line 6 line h) before
wide_value_first f.Overlap line before h = no_word_shared (design_of wide_value []) refl line h
wide_value_first f.ChainLoop line before h = none_closes 8 (λ n. 0) (design_of wide_value []) refl line h
wide_value_first f.UnstableOperand line before h = stable_operands 8 (λ n. true) (design_of wide_value []) refl line refl h
wide_value_first _ line before h = search (rules, both_ways)

wide_value_least : (kind : Fault) (line : ℕ) → MeetsMeaningFault wide_value [] kind line → IsBefore kind line f.FieldValue 6 → ⊥
wide_value_least kind line (inl h) before = no_line_fault wide_value [] refl kind line h
wide_value_least kind line (inr h) before = wide_value_first kind line before h

pub returns-clause-value : goal.returns-clause-value
returns-clause-value c = found_from_least (MeetsMeaningFault wide_value []) _ (record { phase = refl; holds = inr refl; least = wide_value_least })

abbrev full_nop : List Numbered
full_nop = smallest_but 8 0 8 0 (record { line = 7; statement = s.Const 1 (codes "x") 8 1 } ∷ [])

full_nop_first : (kind : Fault) (line : ℕ) → IsBefore kind line f.NopNotEmpty 6 → HasDesignFault (design_of full_nop []) kind line → ⊥
full_nop_first f.NopNotEmpty line before h = not_before_itself f.NopNotEmpty line 6 (at_line 6 line h) before
full_nop_first f.Overlap line before h = no_word_shared (design_of full_nop []) refl line h
full_nop_first f.ChainLoop line before h = none_closes 8 (λ n. 0) (design_of full_nop []) refl line h
full_nop_first f.UnstableOperand line before h = stable_operands 8 (λ n. true) (design_of full_nop []) refl line refl h
full_nop_first _ line before h = search (rules, both_ways)

full_nop_least : (kind : Fault) (line : ℕ) → MeetsMeaningFault full_nop [] kind line → IsBefore kind line f.NopNotEmpty 6 → ⊥
full_nop_least kind line (inl h) before = no_line_fault full_nop [] refl kind line h
full_nop_least kind line (inr h) before = full_nop_first kind line before h

pub returns-clause-line_of_nop : goal.returns-clause-line_of_nop
returns-clause-line_of_nop c = found_from_least (MeetsMeaningFault full_nop []) _ (record { phase = refl; holds = inr refl; least = full_nop_least })
