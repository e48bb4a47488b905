use Rattle.std.proofs.Common.{sym, rules}
use Rattle.ap_image.proofs.PartLists.{mem_found, none_named}
use Rattle.ap_image.proofs.so_far.place_of.Goals as goal

pub returns-clause-some : goal.returns-clause-some
returns-clause-some c = mem_found c.args.shape.now c.args.name.now c.in_ok-place.place (sym c.in_ok-place.ensures.place)

pub returns-in_err-place-clause-none : goal.returns-in_err-place-clause-none
returns-in_err-place-clause-none c = rw c.from_residual.ensures (none_named c.args.shape.now c.args.name.now (search rules) (sym c.in_err-place.ensures.place))
