use Rattle.std.proofs.Common.{sym, subst, arith, ◌∙◌}
use Rattle.ap_bank.specs.Joins.{AreLate, RestsNets}
use Rattle.ap_rest.proofs.Listed.{few_banked, few_indices, few_mems, rests_late}
use Rattle.ap_rest.specs.Reads.{idle_reads}
use Rattle.ap_rest.proofs.reads.rest_reads.Goals as goal

pub idle_reads-requires-clause-files : goal.idle_reads-requires-clause-files
idle_reads-requires-clause-files c = few_banked c.args.design.now c.args.files.now c.requires.clean c.requires.files

pub idle_reads-requires-clause-few : goal.idle_reads-requires-clause-few
idle_reads-requires-clause-few c = few_indices c.args.design.now c.args.files.now c.requires.clean c.requires.files

pub idle_reads-requires-clause-mems : goal.idle_reads-requires-clause-mems
idle_reads-requires-clause-mems c = let few = few_mems c.args.design.now c.requires.clean in let same = c.requires.mems in omega arith

pub rest_all-requires : goal.rest_all-requires
rest_all-requires c = subst (AreLate c.args.out.now) (sym (c.as_slice.ensures ∙ c.in_ok-nets.ensures)) c.requires.late

pub returns : goal.returns
returns c = rests_late (idle_reads c.args.design.now c.args.files.now c.args.mems.now) c.args.out.now c.rest_all.new.out c.requires.fresh (subst (λ nets. RestsNets nets c.args.out.now c.rest_all.new.out) (c.as_slice.ensures ∙ c.in_ok-nets.ensures) c.in_ok-rest_all.ensures)
