use Rattle.ap_built.proofs.Top.{tops_are_processors}
use Rattle.ap_built.proofs.laws.tops_are_processors.Goals as goal

pub returns : goal.returns
returns c = tops_are_processors (record {
  front = c.fronts_give_the_border.ensures;
  regs = c.regs_give_the_border.ensures;
  files = c.files_give_the_border.ensures;
  reads = c.files_join_reads.ensures;
  instrs = c.stages_have_data.ensures;
  units = c.units_are_asked.ensures;
  writes = c.effects_are_by_data.ensures.writes;
  transfer = c.effects_are_by_data.ensures.transfer;
  leaves = c.effects_are_by_data.ensures.leaves;
})
