use Rattle.std.proofs.Common.{◌<◌, ◌^◌, refl, arith}
use Rattle.std.specs.Prelude.{codes}
use Rattle.ap_net.proofs.Laws.{IsNetName-numbered_kind}
use Rattle.ap_top.proofs.machine.make_unit.Goals as goal

pub new-requires : goal.new-requires
new-requires g c =
    let small : c.args.width < 2 ^ 64 = omega arith in
    rw (c.as_bytes.ensures.value, c.in_ok-name.ensures.ok) (IsNetName-numbered_kind (codes "alu_") c.args.width refl refl small)
