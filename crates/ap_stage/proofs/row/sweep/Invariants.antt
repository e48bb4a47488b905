use Rattle.ap_net.specs.Making.{Makes}
use Rattle.ap_stage.specs.Reads.{AreFrom}
use Rattle.ap_stage.specs.Rows.{AreClosed, AreMade, Keeps, StaysElse, StaysLow}
use Rattle.ap_stage.specs.Sources.{IsRow, source_numbers}
use Rattle.ap_stage.proofs.row.sweep.Given as goal

abbrev pub invariant-loop-line : goal.invariant-loop-line
invariant-loop-line l = record {
  is_row : IsRow l.out.nets l.scope l.row;
  made : AreMade l.out l.ground l.scope l.row l.lines;
  closed : AreClosed l.row l.lines l.line-index;
  keeps : Keeps l.fn.row l.row;
  others : StaysElse l.lines l.fn.row l.row;
  low : StaysLow l.ground l.fn.out l.fn.row l.out l.row;
  from : AreFrom (source_numbers l.ground l.fn.row) l.fn.out l.out (source_numbers l.ground l.row);
  makes : Makes l.fn.out l.out;
}
