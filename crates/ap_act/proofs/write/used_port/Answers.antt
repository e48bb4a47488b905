use Rattle.std.proofs.Common.{◌≡◌, length, ap, refl, subst, ◌∙◌, arith}
use Rattle.ap_merge.specs.Selects.{GoesOver}
use Rattle.ap_effect.specs.Lines.{write_lines}
use Rattle.ap_act.proofs.Lines.{few_writes, instrs_few, some_lines}
use Rattle.ap_act.proofs.write.used_port.Goals as goal

pub overflow_cast-len : goal.overflow_cast-len
overflow_cast-len c =
    let design = c.args.design.now in
    let few = few_writes design c.args.stage c.args.outputs.port in
    let most = instrs_few design c.requires.clean in
    let same : c.len.result ≡ length (write_lines design c.args.stage c.args.outputs.port) = c.len.ensures ∙ ap length c.in_ok-lines.ensures in
    omega (arith, few, most, same)

pub halves-requires : goal.halves-requires
halves-requires c =
    let design = c.args.design.now in
    let some = some_lines design c.args.stage c.args.outputs.port c.requires.used in
    let same : c.len.result ≡ length (write_lines design c.args.stage c.args.outputs.port) = c.len.ensures ∙ ap length c.in_ok-lines.ensures in
    omega (arith, some, same)

pub returns : goal.returns
returns c = record {
  of = refl;
  bits = c.index_bits.ensures;
  width = refl;
  some = some_lines c.args.design.now c.args.stage c.args.outputs.port c.requires.used;
  over = subst (GoesOver c.in_ok-select.select 0) (c.len.ensures ∙ ap length c.in_ok-lines.ensures) c.in_ok-select.ensures.over;
}
