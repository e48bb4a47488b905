use Rattle.std.proofs.Common.{sym, subst, arith}
use Rattle.ap_net.specs.Ready.{numbers}
use Rattle.ap_net.specs.Wiring.{NoneTwice}
use Rattle.ap_flight.specs.declared.stage.StageRegisters.{StageRegisters}
use Rattle.ap_flight.specs.Stages.{stage_wires}
use Rattle.flight_tests.proofs.Alone.{are_apart, are_open, can_fresh, comes, has_port, is_driven}
use Rattle.flight_tests.proofs.bench.stage_alone.Goals as goal

pub drive_stage-requires : goal.drive_stage-requires
drive_stage-requires c =
    let opens = c.in_ok-registers.ensures in
    record {
      fresh = rw opens.nets can_fresh;
      few = rw opens.registers (omega arith);
      registers = rw (opens.registers, opens.nets) are_open;
      apart = subst (λ (r : StageRegisters). NoneTwice (numbers (stage_wires r))) (sym opens.registers) are_apart;
      coming = rw (opens.registers, c.slot_homes-homes.ensures, c.in_ok-coming.ensures.coming, opens.nets) comes;
    }

pub finish-requires-clause-driven : goal.finish-requires-clause-driven
finish-requires-clause-driven c =
    let y = rw (c.in_ok-registers.ensures.registers, c.slot_homes-homes.ensures, c.in_ok-coming.ensures.coming, c.in_ok-registers.ensures.nets) at c.in_ok-drive_stage.ensures in
    is_driven c.drive_stage.new.out y c.ready_nets_are_driven.ensures

pub finish-requires-clause-port : goal.finish-requires-clause-port
finish-requires-clause-port c =
    let y = rw (c.in_ok-registers.ensures.registers, c.slot_homes-homes.ensures, c.in_ok-coming.ensures.coming, c.in_ok-registers.ensures.nets) at c.in_ok-drive_stage.ensures in
    has_port c.drive_stage.new.out y
