use Rattle.ap_image.proofs.Kept.{kept_more, kept_on}
use Rattle.ap_image.proofs.writing.put_ports.Goals as goal

pub returns-in_err-put_port-clause-kept : goal.returns-in_err-put_port-clause-kept
returns-in_err-put_port-clause-kept c = kept_on c.args.out.now.items c.loop-port.out.items c.put_port.new.out.items (kept_more _ _ _ c.loop-port.invariant) c.put_port.ensures.kept
