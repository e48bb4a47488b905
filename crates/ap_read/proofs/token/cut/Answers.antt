use Rattle.std.proofs.Common.{◌≡◌, ◌+◌, Some, take, drop, sym, arith}
use Rattle.std.proofs.lemmas.Grind.{common_steps}
use Rattle.ap_desc.specs.TokenValues.{cut_on}
use Rattle.ap_read.proofs.Cuts.{cut_on-some, cut_on-none}
use Rattle.ap_read.proofs.token.cut.Goals as goal

pub returns-in_err-place : goal.returns-in_err-place
returns-in_err-place c = rw c.from_residual.ensures (cut_on-none c.args.byte c.args.token.now (sym c.in_err-place.ensures))

pub returns : goal.returns
returns c =
    let token = c.args.token.now in
    let e : cut_on c.args.byte token ≡ Some (take c.in_ok-place.place token, drop (c.in_ok-place.place + 1) token) = cut_on-some c.args.byte token c.in_ok-place.place (sym c.in_ok-place.ensures) in
    rw e (grind (arith, common_steps))
