use Rattle.std.proofs.Common.{replicate, refl, ap, ◌∙◌}
use Rattle.ap_dist.specs.declared.source.Operand.TheVariants as operand
use Rattle.ap_asm.proofs.PlainNops.{plain_nop, zero_line, zero_line_fits}
use Rattle.ap_asm.proofs.words.nop_word_at.Goals as goal

pub word_of-requires-clause-fits : goal.word_of-requires-clause-fits
word_of-requires-clause-fits c =
    let z = zero_line c.args.design.now c.args.nop (record { instr = c.args.nop; operands = c.in_ok-operands.operands }) c.in_ok-free.free c.requires.place refl c.in_ok-free.ensures.free
    (c.in_ok-operands.ensures ∙ ap (λ n. replicate n (operand.Value 0)) c.len.ensures) in
    (0, zero_line_fits c.args.design.now c.args.nop z.0 (record { instr = c.args.nop; operands = c.in_ok-operands.operands }) z.1)

pub returns : goal.returns
returns c =
    let z = zero_line c.args.design.now c.args.nop (record { instr = c.args.nop; operands = c.in_ok-operands.operands }) c.in_ok-free.free c.requires.place refl c.in_ok-free.ensures.free
    (c.in_ok-operands.ensures ∙ ap (λ n. replicate n (operand.Value 0)) c.len.ensures) in
    plain_nop c.args.design.now c.requires.clean c.args.nop z.0 (record { instr = c.args.nop; operands = c.in_ok-operands.operands }) c.in_ok-word.word z.1 c.in_ok-word.ensures
