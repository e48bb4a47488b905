use Rattle.ap_net.proofs.NameLemmas.{IsNetName-numbered}
use Rattle.ap_net.proofs.name.NetName.numbered.Goals as goal

pub invariant_of-result : goal.invariant_of-result
invariant_of-result c = rw c.in_ok-text.ensures.ok (IsNetName-numbered c.args.number c.ranges.number.fits)

pub returns-clause-is_name : goal.returns-clause-is_name
returns-clause-is_name c = rw c.in_ok-text.ensures.ok (IsNetName-numbered c.args.number c.ranges.number.fits)
