use Rattle.std.proofs.Common.{◌+◌, ◌++◌, ap, ◌∙◌, arith}
use Rattle.std.specs.Prelude.{option_map, option_to_list}
use Rattle.ap_program.specs.Programs.{instr_by}
use Rattle.ap_program.specs.Sources.{group_of}
use Rattle.ap_program.proofs.SourceLines.{groups_done, groups_more, rest_all}
use Rattle.ap_program.proofs.sources.groups_of.Goals as goal

pub loop-i-preserved : goal.loop-i-preserved
loop-i-preserved c = λ all labels. rw c.is_labelled_behind-labelled.ensures (groups_more c.args.design.now all c.args.lines.now c.loop-i.i c.index-lines-i.result c.loop-i.labelled c.loop-i.groups c.push_some.new.groups c.loop-i-test.true c.index-lines-i.is
    (c.in_ok-push_some.ensures ∙ ap (λ g. c.loop-i.groups ++ option_to_list g) (c.in_ok-group.ensures all labels ∙ ap (λ rest. option_map (group_of c.args.design.now all c.loop-i.labelled rest) (instr_by c.index-lines-i.result.says)) (rest_all c.args.lines.now (c.loop-i.i + 1)))) (c.loop-i.invariant all labels))

pub returns : goal.returns
returns c = λ all labels. groups_done c.args.design.now all c.args.lines.now c.loop-i.i c.loop-i.labelled c.loop-i.groups _ (omega (arith, c.loop-i-test.false)) (c.loop-i.invariant all labels)
