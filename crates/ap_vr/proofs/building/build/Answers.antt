use Rattle.std.proofs.Common.{subst, sym}
use Rattle.ap_vr.specs.Built.{AreClockedOnce, HaveSmallPlaces}
use Rattle.ap_vr.specs.Scope.{module_named}
use Rattle.ap_vr.specs.Tables.{listed}
use Rattle.ap_vr.proofs.BuildSteps.{all_small, clocked_apart}
use Rattle.ap_vr.proofs.building.build.Goals as goal

pub regs-requires : goal.regs-requires
regs-requires c = subst AreClockedOnce (sym c.as_slice-3.ensures) (clocked_apart (module_named (listed c.args.modules.now)) c.args.named.now c.requires.rules)

pub assigns-requires : goal.assigns-requires
assigns-requires c = subst HaveSmallPlaces (sym c.as_slice-5.ensures) (all_small (module_named (listed c.args.modules.now)) c.args.named.now c.requires.rules)
