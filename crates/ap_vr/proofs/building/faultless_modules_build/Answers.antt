use Rattle.ap_vr.proofs.BuiltNetlist.{faultless_build}
use Rattle.ap_vr.proofs.building.faultless_modules_build.Goals as goal

pub returns : goal.returns
returns c = faultless_build
