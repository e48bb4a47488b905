use Rattle.std.proofs.Common.{◌∙◌, ap, arith}
use Rattle.ap_bits.specs.Operations.{binary_value}
use Rattle.ap_bits.specs.declared.term.BinOp.TheVariants.{Srl}
use Rattle.ap_comb.proofs.BitCounts.{count_below}
use Rattle.ap_comb.proofs.KindValues.{avg_value, any_width}
use Rattle.ap_comb.proofs.avg.AvgUnitKind.value.Goals as goal

pub binary-requires-2-clause-b : goal.binary-requires-2-clause-b
binary-requires-2-clause-b c = omega (arith, count_below c.args.w, (any_width c.args.w c.requires.width).0)

pub returns : goal.returns
returns c =
    c.binary-2.ensures.value ∙ ap (λ n. binary_value Srl c.args.w n 1) c.binary.ensures.value
    ∙ avg_value c.args.w c.args._op c.args.a c.args.b (any_width c.args.w c.requires.width).0 c.requires.op
