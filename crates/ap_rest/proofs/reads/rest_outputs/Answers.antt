use Rattle.std.proofs.Common.{sym, subst, arith, ◌∙◌}
use Rattle.ap_bank.specs.Joins.{AreLate, RestsNets}
use Rattle.ap_rest.proofs.Listed.{few_mems, rests_late}
use Rattle.ap_rest.specs.Reads.{idle_writes}
use Rattle.ap_rest.proofs.reads.rest_outputs.Goals as goal

pub idle_writes-requires : goal.idle_writes-requires
idle_writes-requires c = let few = few_mems c.args.design.now c.requires.clean in let same = c.requires.mems in omega arith

pub rest_all-requires : goal.rest_all-requires
rest_all-requires c = subst (AreLate c.args.out.now) (sym (c.as_slice.ensures ∙ c.in_ok-nets.ensures)) c.requires.late

pub returns : goal.returns
returns c = rests_late (idle_writes c.args.design.now 0 c.args.mems.now) c.args.out.now c.rest_all.new.out c.requires.fresh (subst (λ nets. RestsNets nets c.args.out.now c.rest_all.new.out) (c.as_slice.ensures ∙ c.in_ok-nets.ensures) c.in_ok-rest_all.ensures)
