use Rattle.std.proofs.Common.{◌+◌, ◌^◌, ◌<◌, ◌≤◌, sym, ◌∙◌, arith}
use Rattle.std.proofs.Math.Nat.{mod-eq_of_lt}
use Rattle.ap_bits.proofs.LowBits.{power_le}
use Rattle.ap_stage.proofs.source.step_of.Goals as goal

pub returns : goal.returns
returns c =
    let few = c.requires.few in
    let wide = c.if-width-lt8.false in
    let room : 2 ^ 8 ≤ 2 ^ c.args.width = power_le 8 c.args.width wide in
    let low : 1 + c.args.slots < 2 ^ c.args.width = omega arith in
    c.from-step.ensures ∙ sym (mod-eq_of_lt low)
