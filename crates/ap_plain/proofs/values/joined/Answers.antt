use Rattle.std.proofs.Common.{◌+◌, ◌*◌, ◌%◌, ◌^◌, ◌<◌, rules}
use Rattle.ap_model.proofs.PlainWidths.{joined_within}
use Rattle.ap_plain.proofs.values.joined.Goals as goal

pub overflow_add-result : goal.overflow_add-result
overflow_add-result c =
    let within : c.args.high * 2 ^ c.args.low_width % 18446744073709551616 + c.args.low < 2 ^ 64 = joined_within c.args.high c.args.high_width c.args.low c.args.low_width c.requires.high c.requires.low c.requires.room in
    search rules
