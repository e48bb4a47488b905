use Rattle.std.proofs.Common.{None, Some, ◌∙◌}
use Rattle.std.proofs.lemmas.Option.{slice_get_within}
use Rattle.ap_stage.specs.Trees.{IsShallow}
use Rattle.ap_stage.proofs.Filled.{row_filled, set_keeps, set_other, set_same}
use Rattle.ap_stage.proofs.Followed.{from_later, from_set}
use Rattle.ap_stage.proofs.Low.{sources_set}
use Rattle.ap_stage.proofs.Swept.{keeps_trans, made_set}
use Rattle.ap_stage.proofs.node.take_net.Goals as goal

pub put-requires : goal.put-requires
put-requires c = slice_get_within c.args.row.now c.args.local None c.requires.none

pub sweep-requires-clause-row : goal.sweep-requires-clause-row
sweep-requires-clause-row c = rw c.put.ensures (row_filled _ c.args.scope.now c.args.row.now c.args.local c.args.net (slice_get_within c.args.row.now c.args.local None c.requires.none) c.requires.net c.requires.wide c.requires.row)

pub sweep-requires-clause-made : goal.sweep-requires-clause-made
sweep-requires-clause-made c = rw c.put.ensures (made_set _ c.args.ground.now c.args.scope.now c.args.row.now c.args.lines.now c.args.local c.args.net c.requires.none c.requires.apart c.requires.made)

pub returns-clause-keeps : goal.returns-clause-keeps
returns-clause-keeps c = keeps_trans _ _ _ (set_keeps c.args.row.now c.args.local c.args.net c.requires.none) (rw c.put.ensures at c.in_ok-sweep.ensures.keeps)

pub returns-clause-has : goal.returns-clause-has
returns-clause-has c = c.in_ok-sweep.ensures.keeps.kept c.args.local c.args.net (rw c.put.ensures (set_same c.args.row.now c.args.local (Some c.args.net) (slice_get_within c.args.row.now c.args.local None c.requires.none)))

pub returns-clause-others : goal.returns-clause-others
returns-clause-others c = λ j ne none. c.in_ok-sweep.ensures.others j none ∙ (rw c.put.ensures (set_other c.args.row.now c.args.local j (Some c.args.net) ne))

pub returns-clause-low : goal.returns-clause-low
returns-clause-low c = c.in_ok-sweep.ensures.low 0 (rw c.put.ensures (sources_set (IsShallow c.args.out.now 0) c.args.ground.now c.args.row.now c.args.local c.args.net c.requires.low c.requires.net_low))

pub returns-clause-from : goal.returns-clause-from
returns-clause-from c = from_later _ _ _ _ _ _ (from_set c.args.out.now c.args.ground.now c.args.row.now c.args.local c.args.net) (rw c.put.ensures at c.in_ok-sweep.ensures.from)
