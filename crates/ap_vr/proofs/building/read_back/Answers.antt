use Rattle.std.proofs.Common.{◌∙◌, ap}
use Rattle.std.proofs.lemmas.Result.{err_from_is_err_and}
use Rattle.ap_vr.specs.Built.{built}
use Rattle.ap_vr.proofs.NamedFaultless.{only_memory, read_faultless, read_only, read_spelled}
use Rattle.ap_vr.proofs.building.read_back.Goals as goal

pub returns-clause-spelled : goal.returns-clause-spelled
returns-clause-spelled c =
    read_spelled c.args.text.now c.in_ok-modules.modules.items _ c.in_ok-modules.ensures.modules c.in_ok-modules.ensures.faultless (c.in_ok-net.ensures ∙ ap built c.deref.ensures.value)

pub returns-clause-only : goal.returns-clause-only
returns-clause-only c =
    read_only c.args.text.now c.in_ok-modules.modules.items _ c.in_ok-modules.ensures.modules c.in_ok-modules.ensures.faultless (c.in_ok-net.ensures ∙ ap built c.deref.ensures.value)

pub returns-clause-faultless : goal.returns-clause-faultless
returns-clause-faultless c = read_faultless c.args.text.now c.in_ok-modules.modules.items c.in_ok-modules.ensures.well_formed c.in_ok-modules.ensures.modules c.in_ok-modules.ensures.faultless

pub returns-in_err-modules-clause-written : goal.returns-in_err-modules-clause-written
returns-in_err-modules-clause-written c =
    let p = err_from_is_err_and c.from_residual.result c.from_residual.ensures.1 in
    rw (p.1, p.2) (only_memory c.args.text.now _ c.in_err-modules.ensures.refused)
