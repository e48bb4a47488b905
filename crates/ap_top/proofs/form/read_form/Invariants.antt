use Rattle.std.proofs.Common.{map}
use Rattle.ap_text.specs.Spans.{line_in}
use Rattle.ap_unit.specs.Shelves.{cards_of}
use Rattle.ap_top.proofs.Fronts.{Begun}
use Rattle.ap_top.proofs.form.read_form.Given as goal

-- the lines so far begin the form, with the numbers that were found
abbrev pub invariant-loop-i : goal.invariant-loop-i
invariant-loop-i g l = Begun (cards_of (λ x. (goal.UnitKind-dyn g x).card x.1) l.shelf) l.numbers.found (map (line_in l.text) l.lines) l.i
