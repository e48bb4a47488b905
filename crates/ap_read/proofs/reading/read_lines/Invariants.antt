use Rattle.std.proofs.Common.{◌≡◌, [], map, take, true}
use Rattle.ap_text.specs.Spans.{line_in}
use Rattle.ap_bits.specs.Beside.{EachBeside}
use Rattle.ap_desc.specs.Order.{are_in_order}
use Rattle.ap_desc.specs.Reading.{IsAt}
use Rattle.ap_read.specs.Places.{IsPlaceAfter}
use Rattle.ap_read.proofs.reading.read_lines.Given as goal

-- the lines so far say the statements, which are in order and lead to the place
abbrev pub invariant-loop-line : goal.invariant-loop-line
invariant-loop-line l = record {
  said : EachBeside IsAt l.list (take l.line-index (map (line_in l.text) l.lines));
  order : are_in_order [] (map (λ n. n.statement) l.list) ≡ true;
  place : IsPlaceAfter (map (λ n. n.statement) l.list) l.place;
}
