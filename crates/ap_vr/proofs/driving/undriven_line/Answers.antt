use Rattle.std.proofs.Common.{◌∙◌, Some, ap, option_map, sym}
use Rattle.ap_vr.specs.Driving.{net_line}
use Rattle.ap_vr.specs.Scope.{module_named}
use Rattle.ap_vr.specs.Tables.{listed}
use Rattle.ap_vr.proofs.InTurn.{are_numbered, undriven_found, undriven_within}
use Rattle.ap_vr.proofs.driving.undriven_line.Goals as goal

pub drive_all-wrong-requires-clause-numbered : goal.drive_all-wrong-requires-clause-numbered
drive_all-wrong-requires-clause-numbered c = are_numbered c.args.named.now c.args.nets.now _ c.requires.nets c.in_ok-marked.ensures.length

pub first_undriven-requires : goal.first_undriven-requires
first_undriven-requires c =
    let numbered = are_numbered c.args.named.now c.args.nets.now _ c.requires.nets (c.drive_all-wrong.ensures.length ∙ c.in_ok-marked.ensures.length) in
    rw (c.as_slice-driven.ensures.value, c.as_slice-forms.ensures) numbered.forms

pub net_line-requires-clause-number : goal.net_line-requires-clause-number
net_line-requires-clause-number c = undriven_within c.args.named.now c.args.nets.now _ c.in-Some.number c.first_undriven.result c.requires.nets (rw c.as_slice-forms.ensures at c.first_undriven.ensures) c.in-Some.is

pub returns-in-Some : goal.returns-in-Some
returns-in-Some c =
    ap Some c.net_line.ensures ∙ sym (ap (option_map (net_line c.args.named.now)) c.in-Some.is)
    ∙ undriven_found (module_named (listed c.args.modules.now)) c.args.named.now c.args.nets.now _ c.first_undriven.result c.requires.nets c.drive_all-wrong.ensures.driven (rw (c.as_slice-driven.ensures.value, c.as_slice-forms.ensures) at c.first_undriven.ensures)

pub returns : goal.returns
returns c =
    sym (ap (option_map (net_line c.args.named.now)) c.in-None.is)
    ∙ undriven_found (module_named (listed c.args.modules.now)) c.args.named.now c.args.nets.now _ c.first_undriven.result c.requires.nets c.drive_all-wrong.ensures.driven (rw (c.as_slice-driven.ensures.value, c.as_slice-forms.ensures) at c.first_undriven.ensures)
