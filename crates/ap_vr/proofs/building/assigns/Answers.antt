use Rattle.std.proofs.Common.{arith}
use Rattle.ap_vr.specs.declared.line.NamedAssign.{NamedAssign}
use Rattle.ap_vr.specs.Built.{HasSmallPlaces}
use Rattle.ap_vr.proofs.Scoping.{each_got}
use Rattle.ap_vr.proofs.building.assigns.Goals as goal

pub assign-requires : goal.assign-requires
assign-requires c = each_got (λ (a : NamedAssign). HasSmallPlaces a.right) c.args.said.now c.loop-one.one-index c.one-item.result c.requires (omega arith) c.one-item.is
