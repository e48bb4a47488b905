use Rattle.std.proofs.Common.{arith, subst, sym}
use Rattle.ap_merge.specs.Gathered.{ArePorts}
use Rattle.ap_merge.proofs.Gathered.{all_gathered, none_gathered}
use Rattle.ap_merge.proofs.gather.choices_of.Goals as goal

pub loop-place-init : goal.loop-place-init
loop-place-init c = rw c.new-choices.ensures (none_gathered c.args.uses.now c.as_slice-list.result.now)

pub add_choices-requires-clause-ports : goal.add_choices-requires-clause-ports
add_choices-requires-clause-ports c = subst (ArePorts c.args.uses.now) (sym c.as_slice-list.ensures) c.in_ok-ports.ensures

pub returns : goal.returns
returns c = all_gathered c.args.uses.now c.as_slice-list.result.now c.loop-place.place c.loop-place.choices (omega arith) (subst (ArePorts c.args.uses.now) (sym c.as_slice-list.ensures) c.in_ok-ports.ensures) c.loop-place.invariant
