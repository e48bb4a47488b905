use Rattle.std.proofs.Common.{◌∙◌, ap, not}
use Rattle.std.proofs.lemmas.List.{length-set}
use Rattle.ap_vr.specs.Driving.{may_drive}
use Rattle.ap_vr.specs.Marks.{marks}
use Rattle.ap_vr.specs.declared.nets.NetForm.{NetForm}
use Rattle.ap_vr.proofs.Marks.{drives_one, mark_read, marks_set}
use Rattle.ap_vr.proofs.driving.drive.Goals as goal

pub returns-clause-right : goal.returns-clause-right
returns-clause-right c =
    drives_one c.args.nets.now.forms c.args.clocked (marks c.args.marked.now.items) c.args.number _ _ _ (ap not (mark_read c.args.marked.now.items c.args.number c.index.result.now c.requires c.index.ensures)) (c.may_drive.ensures ∙ ap (λ (f : NetForm). may_drive c.args.clocked f.role) c.form-form.ensures) c.both.ensures

pub returns-clause-driven : goal.returns-clause-driven
returns-clause-driven c = marks_set c.args.marked.now.items c.args.number c.requires

pub returns-clause-length : goal.returns-clause-length
returns-clause-length c = length-set c.args.marked.now.items c.args.number _
