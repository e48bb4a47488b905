-- A whole text: its lines' numbers rise, and what its faults are by those of its lines.
use Rattle.std.proofs.Common.{◌≡◌, ℕ, ◌+◌, ◌<◌, ◌≤◌, not, List, [], ◌∷◌, length, Bool, true, false, cond, refl, sym, ap, subst, ◌∙◌, arith, ⊎_elim}
use Rattle.std.specs.Prelude.{IfErr, IfOk, filter, Result, Ok, Err}
use Rattle.std.specs.List.{slice_split, AllByRecursion as Each}
use Rattle.std.proofs.lemmas.Bool.{false≢true, not-true}
use Rattle.ap_text.specs.Lines.{TextLine, is_line_feed, is_skipped, lines_of, numbered_from}
use Rattle.ap_desc.specs.declared.description.Numbered.{Numbered}
use Rattle.ap_desc.specs.declared.fault.DescFault.{DescFault}
use Rattle.ap_desc.specs.declared.fault.DescFault.TheVariants.{Refused, NoMemory}
use Rattle.ap_desc.specs.declared.fault.Fault.{Fault}
use Rattle.ap_desc.specs.declared.fault.Fault.TheVariants as f
use Rattle.ap_bits.specs.Beside.{EachBeside}
use Rattle.ap_desc.specs.Descriptions.{IsDescription, RiseAbove}
use Rattle.ap_desc.specs.Faults.{HasFormFault, IsBefore, IsWellFormed, IsLeastFormFault, is_missing_some}
use Rattle.ap_desc.specs.FaultTable.{phase_of}
use Rattle.ap_desc.specs.Limits.{description_limit}
use Rattle.ap_desc.specs.Order.{are_in_order}
use Rattle.ap_desc.specs.Reading.{IsAt, ReadsAs}
use Rattle.ap_desc.specs.Spelling.{IsSpellable}
use Rattle.ap_read.specs.ReadFaults.{IsReadFault, IsReadOrMemory}
use Rattle.ap_read.specs.LineFaults.{HasLineFault, IsLineFault, LinesRise}
use Rattle.ap_read.proofs.Firsts.{beside_said, said_of}
use Rattle.ap_read.proofs.Heads.{complete_same}
use Rattle.ap_read.proofs.Walks.{AreUnique, clean_lines, fault_above}

rise_kept : (n number : ℕ) (line : TextLine) (rest : List TextLine) (keep : Bool) → n < line.number → LinesRise line.number rest → LinesRise n rest → LinesRise n (cond keep (line ∷ rest) rest)
rise_kept n number line rest true lt rise later = (lt, rise)
rise_kept n number line rest false lt rise later = later

rise_filter : (n number : ℕ) (parts : List (List ℕ)) → n < number → LinesRise n (filter (λ line. not (is_skipped line)) (numbered_from number parts))
rise_filter n number [] lt = tt
rise_filter n number (part ∷ parts) lt = rise_kept n number _ _ _ lt (rise_filter number (number + 1) parts (omega arith)) (rise_filter n (number + 1) parts (omega arith))

-- the numbers of the lines of a text rise from 1 on
pub lines_rise : (text : List ℕ) → LinesRise 0 (lines_of text)
unfolding lines_of
lines_rise text = rise_filter 0 1 (slice_split is_line_feed text) (omega arith)

-- a text that is too long has no other fault
pub too_long : (text : List ℕ) → description_limit < length text → IsLeastFormFault text (record { phase = 1; line = 0; kind = f.TooLong })
too_long text long = record { phase = refl; holds = (refl, long); least = never }
  where
    never : (kind : Fault) (line : ℕ) → HasFormFault text kind line → IsBefore kind line f.TooLong 0 → ⊥
    never f.TooLong line h before = ⊎_elim (λ lt. omega arith) (λ same. ⊎_elim (λ lt. omega arith) (λ both. let lt = both.1 in omega arith) same.1) before
    never _ line h before = let short = h.0 in omega arith

-- what the text lacks comes before the faults of all lines
pub missing_first : (text : List ℕ) → length text ≤ description_limit → is_missing_some (lines_of text) ≡ true → IsLeastFormFault text (record { phase = 1; line = 0; kind = f.Missing })
missing_first text short missing = record { phase = refl; holds = (short, (refl, missing)); least = never }
  where
    at_line : (kind : Fault) (line : ℕ) → 0 < line → phase_of kind ≡ 1 → IsBefore kind line f.Missing 0 → ⊥
    at_line kind line lt phase before = ⊎_elim (λ earlier. let wrong : ⊥ = omega arith in wrong) (λ same. ⊎_elim (λ lower. let wrong : ⊥ = omega arith in wrong) (λ both. let zero = both.0 in let wrong : ⊥ = omega arith in wrong) same.1) before

    never : (kind : Fault) (line : ℕ) → HasFormFault text kind line → IsBefore kind line f.Missing 0 → ⊥
    never f.BadLine line h before = at_line f.BadLine line (fault_above 0 [] (lines_of text) (lines_rise text) f.BadLine line h.1) refl before
    never f.BadOrder line h before = at_line f.BadOrder line (fault_above 0 [] (lines_of text) (lines_rise text) f.BadOrder line h.1) refl before
    never f.TooMany line h before = at_line f.TooMany line (fault_above 0 [] (lines_of text) (lines_rise text) f.TooMany line h.1) refl before
    never f.Missing line h before = ⊎_elim (λ lt. let wrong : ⊥ = omega arith in wrong) (λ same. ⊎_elim (λ lt. let wrong : ⊥ = omega arith in wrong) (λ both. let lt = both.1 in let wrong : ⊥ = omega arith in wrong) same.1) before
    never f.TooLong line h before = let long = h.1 in omega arith
    never _ line h before = absurd h.1

-- where nothing is missing, the faults of the text are those of its lines
fault_of_text : (text : List ℕ) → length text ≤ description_limit → (kind : Fault) (line : ℕ) → HasLineFault [] (lines_of text) kind line → HasFormFault text kind line
fault_of_text text short f.BadLine line h = (short, h)
fault_of_text text short f.BadOrder line h = (short, h)
fault_of_text text short f.TooMany line h = (short, h)
fault_of_text text short _ line h = absurd h

fault_of_lines : (text : List ℕ) → length text ≤ description_limit → is_missing_some (lines_of text) ≡ false → (kind : Fault) (line : ℕ) → HasFormFault text kind line → HasLineFault [] (lines_of text) kind line
fault_of_lines text short missing f.BadLine line h = h.1
fault_of_lines text short missing f.BadOrder line h = h.1
fault_of_lines text short missing f.TooMany line h = h.1
fault_of_lines text short missing f.Missing line h = absurd (false≢true (sym missing ∙ h.1.1))
fault_of_lines text short missing f.TooLong line h = let long = h.1 in absurd (omega arith)
fault_of_lines text short missing _ line h = absurd h.1

-- so the least fault of the lines is that of the text
pub least_of_text : (text : List ℕ) (fault : DescFault) → length text ≤ description_limit → is_missing_some (lines_of text) ≡ false → IsLineFault (lines_of text) fault → IsReadFault text fault
least_of_text text (Refused refusal) short missing h = record {
  phase = h.phase;
  holds = fault_of_text text short refusal.kind refusal.line h.holds;
  least = λ kind line fault. h.least kind line (fault_of_lines text short missing kind line fault);
}
least_of_text text NoMemory short missing h = tt

-- and a text whose lines say statements in order has none
pub faultless : AreUnique → (text : List ℕ) (list : List Numbered) → length text ≤ description_limit → is_missing_some (lines_of text) ≡ false → EachBeside IsAt list (lines_of text) → are_in_order [] (said_of list) ≡ true → IsWellFormed text
faultless unique text list short missing beside order kind line h = clean_lines unique (said_of list) (lines_of text) (beside_said list (lines_of text) beside) order kind line (fault_of_lines text short missing kind line h)

spelled : (list : List Numbered) (lines : List TextLine) → EachBeside IsAt list lines → Each (λ (n : Numbered). IsSpellable n.statement) list
spelled [] lines h = tt
spelled (n ∷ list) [] h = absurd h
spelled (n ∷ list) (line ∷ lines) h = (h.0.spells.spells.spellable, spelled list lines h.1)

rise : (number : ℕ) (list : List Numbered) (lines : List TextLine) → EachBeside IsAt list lines → LinesRise number lines → RiseAbove number list
rise number [] lines h g = tt
rise number (n ∷ list) [] h g = absurd h
rise number (n ∷ list) (line ∷ lines) h g =
    (subst (λ k. number < k) (sym h.0.number) g.0, subst (λ k. RiseAbove k list) (sym h.0.number) (rise line.number list lines h.1 g.1))

-- the statements of the lines are a description
pub description : (list : List Numbered) (lines : List TextLine) → LinesRise 0 lines → is_missing_some lines ≡ false → EachBeside IsAt list lines → are_in_order [] (said_of list) ≡ true → IsDescription list
description list lines rising missing beside order = record {
  spelled = spelled list lines beside;
  lines = rise 0 list lines beside rising;
  order = order;
  complete = complete_same (said_of list) lines (beside_said list lines beside) ∙ ap not missing;
}

-- a text within the limit that reads as a description has no fault
pub reads_faultless : AreUnique → (text : List ℕ) (list : List Numbered) → length text ≤ description_limit → IsDescription list → ReadsAs text list → IsWellFormed text
reads_faultless unique text list short d reads =
    let complete : not (is_missing_some (lines_of text)) ≡ true = sym (complete_same (said_of list) (lines_of text) (beside_said list (lines_of text) reads.lines)) ∙ d.complete in
    faultless unique text list short (not-true (is_missing_some (lines_of text)) complete) reads.lines d.order

-- what is read of a text that reads as a description
pub read_as : AreUnique → ((text : List ℕ) (one other : List Numbered) → ReadsAs text one → ReadsAs text other → one ≡ other) → (text : List ℕ) (result : Result (List Numbered) DescFault) → IfOk result (ReadsAs text) → IfErr result (IsReadFault text) → (list : List Numbered) → IsDescription list → ReadsAs text list → length text ≤ description_limit → IsReadOrMemory list result
read_as unique once text (Ok d) reads refused list is_description said short = once text d list reads said
read_as unique once text (Err (Refused refusal)) reads refused list is_description said short = absurd (reads_faultless unique text list short is_description said refusal.kind refusal.line refused.holds)
read_as unique once text (Err NoMemory) reads refused list is_description said short = refl
