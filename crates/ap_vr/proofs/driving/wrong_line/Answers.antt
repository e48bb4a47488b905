use Rattle.ap_vr.specs.Scope.{module_named}
use Rattle.ap_vr.specs.Tables.{listed}
use Rattle.ap_vr.proofs.InTurn.{are_numbered, wrong_found}
use Rattle.ap_vr.proofs.driving.wrong_line.Goals as goal

pub drive_all-requires-clause-numbered : goal.drive_all-requires-clause-numbered
drive_all-requires-clause-numbered c = are_numbered c.args.named.now c.args.nets.now _ c.requires.nets c.in_ok-marked.ensures.length

pub returns : goal.returns
returns c = wrong_found (module_named (listed c.args.modules.now)) c.args.named.now c.args.nets.now _ c.requires.nets c.drive_all.ensures.wrong
