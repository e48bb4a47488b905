use Rattle.std.proofs.Common.{◌≡◌, flat_map, drop}
use Rattle.std.specs.Prelude.{find}
use Rattle.ap_desc.specs.declared.design.Instr.{Instr}
use Rattle.ap_desc.specs.Ports.{micros_in}
use Rattle.ap_bank.specs.PortStages.{writes_cell}
use Rattle.ap_bank.proofs.stages.port_stage.Given as goal

abbrev pub invariant-loop-instr : goal.invariant-loop-instr
invariant-loop-instr l = find (writes_cell l.file l.number) (micros_in l.design) ≡ find (writes_cell l.file l.number) (flat_map (λ (i : Instr). i.micros) (drop l.instr-index l.design.instrs))
