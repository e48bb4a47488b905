use Rattle.std.proofs.Common.{◌<◌, length, sym, subst, arith}
use Rattle.std.specs.List.{AllByRecursion as Each}
use Rattle.ap_program.specs.Fits.{IsWide}
use Rattle.ap_program.proofs.FieldWidths.{free_wide}
use Rattle.ap_program.proofs.Transfers.{there_read}
use Rattle.ap_program.proofs.operands.free_places_at.Goals as goal

pub returns-clause-wide : goal.returns-clause-wide
returns-clause-wide c =
    let lt : c.args.place < length c.as_slice-instrs.result.now = omega (arith, c.if-place-instrs.false) in
    let low : c.args.place < length c.args.design.now.instrs = subst (λ xs. c.args.place < length xs) c.as_slice-instrs.ensures lt in
    subst (Each IsWide) (sym c.in_ok-free.ensures) (free_wide c.args.design.now c.requires c.args.place c.index-instrs-place.result (there_read c.args.design.now.instrs c.as_slice-instrs.result.now c.args.place c.index-instrs-place.result c.as_slice-instrs.ensures low c.index-instrs-place.is))
