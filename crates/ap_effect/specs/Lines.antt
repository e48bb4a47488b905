-- The lines of a stage that write through a port, and those that transfer, by instruction.
use Rattle.std.specs.Prelude.{◌≡◌, ℕ, ◌==◌, ◌&&◌, ◌≤◌, Bool, true, List, length, map, Option, Some, None, filter_map, find, option_and_then}
use Rattle.std.specs.List.{enumerate_from}
use Rattle.ap_desc.specs.Clean.{IsClean}
use Rattle.ap_desc.specs.Ports.{is_transfer}
use Rattle.ap_desc.specs.declared.design.Act.{Act}
use Rattle.ap_desc.specs.declared.design.Act.TheVariants as act
use Rattle.ap_desc.specs.declared.design.Design.{Design}
use Rattle.ap_desc.specs.declared.design.Instr.{Instr}
use Rattle.ap_desc.specs.declared.design.Micro.{Micro}
use Rattle.ap_model.specs.declared.storage.WritePort.{WritePort}
use Rattle.ap_model.specs.declared.storage.WritePort.TheVariants as port
use Rattle.ap_model.specs.Ports.{is_used_in, writes_through}
use Rattle.ap_path.specs.Tables.{ArePathsOf}
use Rattle.ap_path.specs.declared.table.PathPort.{PathPort}
use Rattle.ap_path.specs.declared.table.PathPort.TheVariants as path
use Rattle.ap_path.specs.declared.table.PathTable.{PathTable}
use Rattle.ap_merge.specs.Choices.{HasOperand, IsChoice}
use Rattle.ap_merge.specs.Selects.{GoesOver}
use Rattle.ap_merge.specs.declared.table.Choice.{Choice}
use Rattle.ap_merge.specs.declared.table.Source.{Source}
use Rattle.ap_effect.specs.declared.line.PortLine.{PortLine}

-- what a line of this instruction hands to a write port, or to the pc
abbrev pub handed_by : ℕ → Act → Option PortLine
handed_by number (act.WriteFile file port index value guard) = Some (record { instr = number; index = Some index; value = value; guard = guard })
handed_by number (act.WriteReg reg value guard) = Some (record { instr = number; index = None; value = value; guard = guard })
handed_by number (act.WriteMem mem at value guard) = Some (record { instr = number; index = Some at; value = value; guard = guard })
handed_by number (act.Branch cond target) = Some (record { instr = number; index = None; value = target; guard = Some cond })
handed_by number (act.Jump target) = Some (record { instr = number; index = None; value = target; guard = None })
handed_by number _ = None

-- the line stands in the stage and is one of these
abbrev pub is_line_of : (Act → Bool) → ℕ → Micro → Bool
is_line_of is_one stage m = (m.stage == stage) && is_one m.act

-- what the first such line of an instruction hands in
abbrev pub line_of : (Act → Bool) → ℕ → ℕ × Instr → Option PortLine
line_of is_one stage instr = option_and_then (λ (m : Micro). handed_by instr.0 m.act) (find (is_line_of is_one stage) instr.1.micros)

-- and those of all instructions
abbrev pub lines_of : (Act → Bool) → Design → ℕ → List PortLine
lines_of is_one design stage = filter_map (line_of is_one stage) (enumerate_from 0 design.instrs)

abbrev pub write_lines : Design → ℕ → WritePort → List PortLine
write_lines design stage port = lines_of (writes_through port) design stage

abbrev pub transfer_lines : Design → ℕ → List PortLine
transfer_lines design stage = lines_of is_transfer design stage

-- How the tables of a design's paths name them.

abbrev pub path_of : WritePort → PathPort
path_of (port.Register reg) = path.RegWrite reg
path_of (port.Cell file number) = path.FileWrite file number
path_of (port.Memory mem) = path.MemWrite mem

-- the number of the operand that is written, after the index where there is one
abbrev pub value_operand : WritePort → ℕ
value_operand (port.Register reg) = 0
value_operand _ = 1

abbrev pub value_source : PortLine → Source
value_source l = record { instr = l.instr; from = l.value }

-- the entries of the choice are what these lines hand in, each at its place, and its selection goes over them
pub record GoesOverLines (lines : List PortLine) (c : Choice) : Type 0 where
  pub entries : c.entries ≡ map value_source lines
  pub some : 1 ≤ length lines
  pub over : GoesOver c.select 0 (length lines)

-- In a clean design the choice of what is written through a port goes over the lines of its stage, and that of targets over the transfers.
abbrev pub ChoicesGoOverWrites : Type 0
ChoicesGoOverWrites = (design : Design) (table : PathTable) (c : Choice) (stage : ℕ) (p : WritePort) → IsClean design → ArePathsOf design table → IsChoice table.uses c → HasOperand (path_of p) (value_operand p) c → is_used_in design stage p ≡ true
    → GoesOverLines (write_lines design stage p) c

abbrev pub ChoicesGoOverTransfers : Type 0
ChoicesGoOverTransfers = (design : Design) (table : PathTable) (c : Choice) → IsClean design → ArePathsOf design table → IsChoice table.uses c → HasOperand path.Transfer 0 c → GoesOverLines (transfer_lines design design.branch) c
