use Rattle.std.proofs.Common.{◌≡◌, sym, ap, ◌∙◌}
use Rattle.std.specs.Prelude.{Some, position}
use Rattle.ap_parts.specs.Parts.{is_alike}
use Rattle.ap_parts.proofs.KindLists.{found_there, push_here}
use Rattle.ap_parts.proofs.modules.add_kind.Goals as goal

pub returns-in-Some-clause-place : goal.returns-in-Some-clause-place
returns-in-Some-clause-place c =
    let e : position (is_alike c.args.pair) c.args.kinds.now ≡ Some c.in-Some.place = ap (position (is_alike c.args.pair)) (sym c.as_slice.ensures) ∙ sym c.in-Some.ensures in
    found_there c.args.kinds.now c.args.pair c.in-Some.place e

pub returns-clause-place : goal.returns-clause-place
returns-clause-place c = rw (c.in_ok-push.ensures.ok, c.len-place.ensures) (push_here c.args.kinds.now c.args.pair)
