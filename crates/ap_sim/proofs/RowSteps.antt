-- The rows of a run, one after another.
use Rattle.std.proofs.Common.{◌≡◌, ℕ, zero, suc, ◌+◌, ◌-◌, ◌<◌, ◌≤◌, ◌++◌, Bool, true, false, List, [], ◌∷◌, length, get_or, map, take, Option, Some, None, refl, sym, ap, subst, ◌∙◌, arith}
use Rattle.std.specs.Prelude.{slice_get}
use Rattle.ap_eval.specs.Benches.{BenchState, StandsIn, StartsInRuns, Steps, StepsInRuns, labels_by, started}
use Rattle.ap_flat.specs.Flats.{FlatParts, IsFlattened}
use Rattle.ap_image.specs.FitsShape.{idle, line_among, line_at}
use Rattle.ap_image.specs.RowTexts.{row_text}
use Rattle.ap_image.specs.declared.image.Image.{Image}
use Rattle.ap_image.specs.declared.row.Row.{Row}
use Rattle.ap_image.specs.declared.trace.Trace.{Trace}
use Rattle.ap_image.specs.declared.trace.TraceLine.{TraceLine}
use Rattle.ap_net.specs.Outside.{Outside, shape_of}
use Rattle.ap_net.specs.Runs.{NetState, Runs}
use Rattle.ap_vw.specs.Printing.{Prints}
use Rattle.ap_sim.specs.RowLines.{IsLeft, IsNextLine, IsNextRow, Makes, RowsLeft, Shows, begun, count_left}
use Rattle.ap_sim.specs.Rows.{AreLinesOf, line_of, lines_from}

-- the line of a cycle, where the trace has one, and where it has none
pub line_there : (lines : List TraceLine) (inputs : List ℕ) (j : ℕ) (line : TraceLine) → j < length lines → line ≡ get_or lines j line → line_among lines inputs j ≡ line
line_there [] inputs j line lt at = absurd (omega arith)
line_there (x ∷ lines) inputs zero line lt at = sym at
line_there (x ∷ lines) inputs (suc j) line lt at = line_there lines inputs j line (omega arith) at

pub line_idle : (lines : List TraceLine) (inputs : List ℕ) (j : ℕ) → length lines ≤ j → line_among lines inputs j ≡ idle inputs
line_idle [] inputs j le = refl
line_idle (x ∷ lines) inputs zero le = absurd (omega arith)
line_idle (x ∷ lines) inputs (suc j) le = line_idle lines inputs j (omega arith)

-- one more 0
abbrev pub no_value : ℕ → ℕ
no_value width = 0

pub zeros_more : (widths : List ℕ) (i : ℕ) → i < length widths → map no_value (take i widths) ++ 0 ∷ [] ≡ map no_value (take (suc i) widths)
zeros_more [] i lt = absurd (omega arith)
zeros_more (w ∷ widths) zero lt = refl
zeros_more (w ∷ widths) (suc i) lt = ap (λ (l : List ℕ). 0 ∷ l) (zeros_more widths i (omega arith))

-- before the first cycle all lines are left
pub begun_shows : StartsInRuns → (flat : FlatParts) → IsFlattened flat → (image : Image) (trace : Trace) (cycles : ℕ) (lines : List (List ℕ)) → AreLinesOf flat.outside flat.net image trace cycles lines → Shows (begun flat image trace cycles) lines
begun_shows starts flat rules image trace cycles lines h = record {
  rules = rules;
  image = image;
  states = h.states;
  valuations = h.valuations;
  runs = h.runs;
  stands = starts flat image trace cycles h.states h.valuations h.runs;
  lines_are = h.lines_are ∙ ap (lines_from flat.outside flat.net h.valuations 0) (let e : cycles ≡ cycles - 0 = omega arith in e);
}

-- no line is left
none_left : (r : RowsLeft) → r.next ≡ r.cycles → (lines : List (List ℕ)) → Shows r lines → lines ≡ []
none_left r e lines h = h.lines_are ∙ ap (lines_from r.bench.flat.outside r.bench.flat.net h.valuations r.next) (let none : count_left r ≡ 0 = omega (arith, e) in none)

printed_none : (lines rest : List (List ℕ)) (before after : List ℕ) → lines ≡ [] → rest ≡ [] → after ≡ before → Prints lines rest before after false
printed_none lines rest before after e f same = subst (λ l. Prints l rest before after false) (sym e) (refl, f, same)

printed_one : (lines rest : List (List ℕ)) (line before after : List ℕ) → lines ≡ line ∷ rest → after ≡ before ++ line → Prints lines rest before after true
printed_one lines rest line before after e same = subst (λ l. Prints l rest before after true) (sym e) (refl, refl, same)

module _ (goes : StepsInRuns) (old new : RowsLeft) (before after : List ℕ) (lines : List (List ℕ)) (h : Shows old lines) where
  abbrev flat : FlatParts
  flat = old.bench.flat

  abbrev rest : List (List ℕ)
  rest = lines_from flat.outside flat.net h.valuations (old.next + 1) (count_left new)

  module _ (m : IsNextRow old new before after) where
    stands : StandsIn flat h.image old.trace (old.next + 1) h.states h.valuations new.bench
    stands = goes flat h.rules h.image old.trace old.cycles old.next h.states h.valuations h.runs m.some old.bench new.bench h.stands m.steps

    same_flat : new.bench.flat ≡ flat
    same_flat = m.steps.flat

    left : RowsLeft
    left = record { bench = new.bench; trace = old.trace; next = old.next + 1; cycles = old.cycles }

    is_left : new ≡ record { bench = new.bench; trace = old.trace; next = old.next + 1; cycles = old.cycles }
    is_left = λ i. record { bench = new.bench; trace = m.trace i; next = m.next i; cycles = m.cycles i }

    one_less : count_left old ≡ suc (count_left new)
    one_less = let a = m.some in let b = m.next in let c = m.cycles in omega (arith, a, b, c)

    first : lines ≡ line_of flat.outside flat.net h.valuations old.next ∷ rest
    first = h.lines_are ∙ ap (lines_from flat.outside flat.net h.valuations old.next) one_less

    row_is : after ≡ before ++ line_of flat.outside flat.net h.valuations old.next
    row_is = m.text ∙ ap (λ (row : Row). before ++ row_text (labels_by flat.outside) old.next row) (stands.row_is old.next refl)

    shows : Shows new rest
    shows = record {
      rules = subst IsFlattened (sym same_flat) h.rules;
      image = h.image;
      states = h.states;
      valuations = h.valuations;
      runs = subst (λ (f : FlatParts). Runs f.outside f.net h.image new.trace new.cycles h.states h.valuations) (sym same_flat)
          (subst (λ (t : Trace). Runs flat.outside flat.net h.image t new.cycles h.states h.valuations) (sym m.trace)
          (subst (λ (c : ℕ). Runs flat.outside flat.net h.image old.trace c h.states h.valuations) (sym m.cycles) h.runs));
      stands = subst (λ (f : FlatParts). StandsIn f h.image new.trace new.next h.states h.valuations new.bench) (sym same_flat)
          (subst (λ (t : Trace). StandsIn flat h.image t new.next h.states h.valuations new.bench) (sym m.trace)
          (subst (λ (n : ℕ). StandsIn flat h.image old.trace n h.states h.valuations new.bench) (sym m.next) stands));
      lines_are = subst (λ (f : FlatParts). rest ≡ lines_from f.outside f.net h.valuations new.next (count_left new)) (sym same_flat)
          (ap (λ (n : ℕ). lines_from flat.outside flat.net h.valuations n (count_left new)) (sym m.next));
    }

    pub next_line : IsNextLine new lines before after true
    next_line = (rest, shows, printed_one lines rest (line_of flat.outside flat.net h.valuations old.next) before after first row_is)

  pub no_line : old.next ≡ old.cycles → new ≡ old → after ≡ before → IsNextLine new lines before after false
  no_line e same text =
      let none = none_left old e lines h in
      ([], subst (λ r. Shows r []) (sym same) (subst (Shows old) none h), printed_none lines [] before after none refl text)

pub makes_line : StepsInRuns → (old new : RowsLeft) (before after : List ℕ) (more : Bool) → Makes old new before after more → (lines : List (List ℕ)) → Shows old lines → IsNextLine new lines before after more
makes_line goes old new before after true m lines h = next_line goes old new before after lines h m
makes_line goes old new before after false m lines h = no_line goes old new before after lines h m.0 m.1 m.2

pub fewer : (old new : RowsLeft) (before after : List ℕ) → IsNextRow old new before after → count_left new + 1 ≤ count_left old
fewer old new before after m = let a = m.some in let b = m.next in let c = m.cycles in omega (arith, a, b, c)
