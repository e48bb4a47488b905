-- The lines of an instruction in a stage that make locals, each with the number of its local: those that use no port but a register's or
-- an input's, and those that use a unit or a read port, by whose number the stage knows it.
use Rattle.std.specs.Prelude.{ℕ, ◌==◌, ◌&&◌, Bool, true, false, if◌then◌else◌, List, Option, Some, None}
use Rattle.std.specs.List.{enumerate_from, filter_map}
use Rattle.std.specs.Option.{option_and_then, option_map}
use Rattle.ap_desc.specs.Chains.{makers}
use Rattle.ap_desc.specs.Designs.{fields_of}
use Rattle.ap_desc.specs.declared.design.Act.{Act}
use Rattle.ap_desc.specs.declared.design.Act.TheVariants as act
use Rattle.ap_desc.specs.declared.design.Design.{Design}
use Rattle.ap_desc.specs.declared.design.Instr.{Instr}
use Rattle.ap_desc.specs.declared.design.Micro.{Micro}
use Rattle.ap_ports.specs.Numbers.{node_number}
use Rattle.ap_stage.specs.declared.node.PortUse.{PortUse}
use Rattle.ap_stage.specs.declared.row.Line.{Line}
use Rattle.ap_stage.specs.declared.source.Scope.{Scope}
use Rattle.ap_stage.specs.declared.user.Asked.{Asked}
use Rattle.ap_stage.specs.declared.user.Asked.TheVariants as asked

-- what an instruction's lines may name besides the nets of a stage: the fields of its format, and its locals by their widths
abbrev pub scope_of : Design → Instr → Scope
scope_of design instr = record { fields = fields_of design instr; widths = instr.locals }

-- the line makes a local, and uses no port but a register's or an input's
abbrev pub is_portless : Act → Bool
is_portless (act.ReadReg reg) = true
is_portless (act.ReadIn input) = true
is_portless (act.Const width value) = true
is_portless (act.Zext width a) = true
is_portless (act.Sext width a) = true
is_portless (act.Slice high low a) = true
is_portless (act.Cat a b) = true
is_portless _ = false

-- the line that makes the local of this number, where it stands in the stage and uses no port
abbrev pub line_of : ℕ → ℕ → Micro → Option Line
line_of stage n m = if (m.stage == stage) && is_portless m.act then Some (record { act = m.act; local = n }) else None

-- what a line asks of a port whose result its local gets; the port has the number of its node
abbrev pub asks_of : Act → Option Asked
asks_of (act.Compute unit op a b) = Some (asked.Operate (record { op = op; a = a; b = b }))
asks_of (act.ReadFile file port index) = Some (asked.Read index)
asks_of (act.ReadMem mem at) = Some (asked.Read at)
asks_of _ = None

abbrev pub port_use : ℕ → Act → Option PortUse
port_use n a = option_and_then (λ port. option_map (λ asks. record { port = port; asked = asks; local = n }) (asks_of a)) (node_number a)

-- and where it stands in the stage
abbrev pub use_of : ℕ → ℕ → Micro → Option PortUse
use_of stage n m = if m.stage == stage then port_use n m.act else None

-- those of an instruction: the n-th line that makes a local makes the local n
abbrev pub lines_of : ℕ → Instr → List Line
lines_of stage instr = filter_map (λ (p : ℕ × Micro). line_of stage p.0 p.1) (enumerate_from 0 (makers instr))

abbrev pub uses_of : ℕ → Instr → List PortUse
uses_of stage instr = filter_map (λ (p : ℕ × Micro). use_of stage p.0 p.1) (enumerate_from 0 (makers instr))
