-- The ports that the lines of a design's instructions use, and what they hand to them. The rules are the project's own.
use Rattle.std.specs.Prelude.{ℕ, List, [], ◌∷◌, ◌++◌, flat_map, option_to_list, slice_get, Option, Some, None}
use Rattle.std.specs.List.{enumerate_from, filter_map}
use Rattle.std.specs.Option.{option_map}
use Rattle.ap_desc.specs.Ports.{Port, file_read, file_write, mem_read, mem_write, port_of, reg_write, transfer, unit}
use Rattle.ap_desc.specs.declared.design.Act.{Act}
use Rattle.ap_desc.specs.declared.design.Act.TheVariants as act
use Rattle.ap_desc.specs.declared.design.Arg.{Arg}
use Rattle.ap_desc.specs.declared.design.Design.{Design}
use Rattle.ap_desc.specs.declared.design.Instr.{Instr}
use Rattle.ap_desc.specs.declared.design.Micro.{Micro}
use Rattle.ap_path.specs.declared.table.PathPort.{PathPort}
use Rattle.ap_path.specs.declared.table.PathPort.TheVariants as path
use Rattle.ap_path.specs.declared.table.PathUse.{PathUse}

-- a port, as tables name it
abbrev pub path_port : Port → PathPort
path_port (unit u) = path.Unit u
path_port (file_read file port) = path.FileRead file port
path_port (file_write file port) = path.FileWrite file port
path_port (reg_write reg) = path.RegWrite reg
path_port (mem_read mem) = path.MemRead mem
path_port (mem_write mem) = path.MemWrite mem
path_port transfer = path.Transfer

-- the port that a line uses
abbrev pub port_of_line : Act → Option PathPort
port_of_line a = option_map path_port (port_of a)

-- what the line hands to its port, in the order of its form; a transfer hands its target
abbrev pub handed : Act → List Arg
handed (act.Compute u op a b) = a ∷ b ∷ []
handed (act.ReadFile file port index) = index ∷ []
handed (act.ReadMem mem at) = at ∷ []
handed (act.WriteFile file port index value guard) = index ∷ value ∷ []
handed (act.WriteReg reg value guard) = value ∷ []
handed (act.WriteMem mem at value guard) = at ∷ value ∷ []
handed (act.Branch cond target) = target ∷ []
handed (act.Jump target) = target ∷ []
handed _ = []

-- the guard of a write, the condition of a branch
abbrev pub guard_of : Act → Option Arg
guard_of (act.WriteFile file port index value guard) = guard
guard_of (act.WriteReg reg value guard) = guard
guard_of (act.WriteMem mem at value guard) = guard
guard_of (act.Branch cond target) = Some cond
guard_of _ = None

-- the use of the line at a place of an instruction, if it uses a port
abbrev pub use_of : ℕ → ℕ → Micro → Option PathUse
use_of number place m = option_map (λ port. record { instr = number; micro = place; stage = m.stage; port = port; operands = handed m.act; guard = guard_of m.act }) (port_of_line m.act)

-- the uses of an instruction's lines
abbrev pub uses_in : ℕ → List Micro → List PathUse
uses_in number micros = filter_map (λ (line : ℕ × Micro). use_of number line.0 line.1) (enumerate_from 0 micros)

-- the uses of a design's lines, by instruction and then by line
abbrev pub uses_of : Design → List PathUse
uses_of design = flat_map (λ (instr : ℕ × Instr). uses_in instr.0 instr.1.micros) (enumerate_from 0 design.instrs)

-- the operand of a use with this number; a guard or condition is the one after the last
abbrev pub operand_at : PathUse → ℕ → Option Arg
operand_at used number = slice_get (used.operands ++ option_to_list used.guard) number
