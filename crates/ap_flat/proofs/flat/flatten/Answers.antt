use Rattle.std.proofs.Common.{◌≡◌, Err, ap, subst}
use Rattle.std.proofs.lemmas.Result.{err_from_is_err_and}
use Rattle.ap_net.specs.Flat.{top_ports}
use Rattle.ap_flat.specs.Ports.{AreDue}
use Rattle.ap_flat.specs.FlatFaults.{flat_fault}
use Rattle.ap_flat.specs.declared.flat.FlatFault.TheVariants as fault
use Rattle.ap_flat.proofs.Flattened.{flattened, loop_only, never_bad}
use Rattle.ap_flat.proofs.flat.flatten.Goals as goal

pub returns-in_err-opened-clause-looped : goal.returns-in_err-opened-clause-looped
returns-in_err-opened-clause-looped c = λ e.
    let p = err_from_is_err_and c.from_residual.result c.from_residual.ensures.1 in
    let is = p.1 in
    let same = p.2 in
    let here : flat_fault c.in_err-opened.field-0.0 ≡ fault.Loop = cc in
    c.in_err-opened.ensures.looped (ap Err (loop_only c.in_err-opened.field-0.0 here))

pub returns-in_err-opened-clause-unlooped : goal.returns-in_err-opened-clause-unlooped
returns-in_err-opened-clause-unlooped c = λ e.
    let p = err_from_is_err_and c.from_residual.result c.from_residual.ensures.1 in
    let is = p.1 in
    let same = p.2 in
    let here : flat_fault c.in_err-opened.field-0.0 ≡ fault.BadPorts = cc in
    absurd (never_bad c.in_err-opened.field-0.0 here)

pub returns-in_err-opened-clause-bad_ports : goal.returns-in_err-opened-clause-bad_ports
returns-in_err-opened-clause-bad_ports c = λ e.
    let p = err_from_is_err_and c.from_residual.result c.from_residual.ensures.1 in
    let is = p.1 in
    let same = p.2 in
    let here : flat_fault c.in_err-opened.field-0.0 ≡ fault.BadPorts = cc in
    absurd (never_bad c.in_err-opened.field-0.0 here)

pub invariant_of-result : goal.invariant_of-result
invariant_of-result c =
    let made = c.in_ok-opened.opened in
    let some = rw c.in-Some.is at c.in_ok-outside.ensures.some in
    let due : AreDue (top_ports c.args.net.now) c.in-Some.outside = subst (λ ps. AreDue ps c.in-Some.outside) c.ports_of.ensures some in
    flattened c.args.net.now (record { net = made.net; drivers = made.drivers; order = made.order; outside = c.in-Some.outside }) c.rules.ensures c.in_ok-opened.ensures.opened c.in_ok-opened.ensures.drivers c.in_ok-opened.ensures.order due
