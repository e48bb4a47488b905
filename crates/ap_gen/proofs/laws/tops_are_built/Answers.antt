use Rattle.ap_gen.proofs.Built.{tops_are_built}
use Rattle.ap_gen.proofs.laws.tops_are_built.Goals as goal

pub returns : goal.returns
returns c = tops_are_built (record {
  leave = c.lead_leaves_rest.ensures;
  regs = c.lead_gives_storages.ensures.regs;
  none = c.idle_ports_are_off.ensures.none;
  off = c.idle_ports_are_off.ensures.off;
  stands = c.work_stands.ensures.nets;
  serve = c.work_serves_the_border.ensures;
  name = c.leads_serve_stages.ensures.shared;
  bank = c.leads_serve_stages.ensures.reads;
  each = c.stages_are_made_over.ensures;
  of = c.staged_are_of.ensures.stages;
  over = c.staged_are_of.ensures.over;
  stage_names = c.stages_are_made.ensures.names;
  idle_names = c.rests_grow.ensures.names;
  memories = c.idle_memories_are_off.ensures.off;
  missing = c.idle_memories_are_off.ensures.none;
  write = c.acts_are_made.ensures.writes;
  transfer = c.acts_are_made.ensures.transfer;
  front = c.flows_give_the_front.ensures;
  leaves = c.flows_leave.ensures;
})
