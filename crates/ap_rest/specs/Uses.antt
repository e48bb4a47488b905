-- Which ports of a design its lines use.
use Rattle.std.specs.Prelude.{Bool}
use Rattle.std.specs.List.{list_any}
use Rattle.ap_desc.specs.Ports.{Port, file_read, file_write, mem_read, mem_write, micros_in, reg_write, transfer, unit}
use Rattle.ap_desc.specs.PortsApart.{uses_port}
use Rattle.ap_desc.specs.declared.design.Design.{Design}
use Rattle.ap_desc.specs.declared.design.Instr.{Instr}
use Rattle.ap_desc.specs.declared.design.Micro.{Micro}
use Rattle.ap_path.specs.declared.table.PathPort.{PathPort}
use Rattle.ap_path.specs.declared.table.PathPort.TheVariants as path

-- the port that a table names so
abbrev pub port_named : PathPort → Port
port_named (path.Unit u) = unit u
port_named (path.FileRead file port) = file_read file port
port_named (path.FileWrite file port) = file_write file port
port_named (path.RegWrite reg) = reg_write reg
port_named (path.MemRead mem) = mem_read mem
port_named (path.MemWrite mem) = mem_write mem
port_named path.Transfer = transfer

-- a line of the instruction uses the port
abbrev pub uses_in : Port → Instr → Bool
uses_in p i = list_any (λ (m : Micro). uses_port p m.act) i.micros

-- some line of the design uses the port
abbrev pub is_port_used : Design → Port → Bool
is_port_used design p = list_any (λ (m : Micro). uses_port p m.act) (micros_in design)
