-- The outputs of top at which is shown what lines write, port by port.
use Rattle.std.specs.Prelude.{◌≡◌, ℕ, zero, suc, ◌+◌, ◌-◌, ◌≤◌, false, true, if◌then◌else◌, List, [], ◌∷◌, ◌++◌, Some, flat_map, map, option_map}
use Rattle.std.specs.List.{AllByRecursion as Each}
use Rattle.ap_desc.specs.declared.design.Design.{Design}
use Rattle.ap_model.specs.declared.storage.WritePort.{WritePort}
use Rattle.ap_model.specs.declared.storage.WritePort.TheVariants as port
use Rattle.ap_model.specs.Fitting.{port_width}
use Rattle.ap_model.specs.Ports.{is_used, is_used_in}
use Rattle.ap_net.specs.declared.cell.Wire.{Wire}
use Rattle.ap_net.specs.Draft.{Draft}
use Rattle.ap_net.specs.Late.{IsLate}
use Rattle.ap_net.specs.Wiring.{NoneTwice}
use Rattle.ap_effect.specs.Writers.{write_wires}
use Rattle.ap_bank.specs.Joins.{port_numbers}
use Rattle.ap_front.specs.declared.ports.GroupPorts.{GroupPorts}
use Rattle.ap_front.specs.declared.ports.MemPorts.{MemPorts}
use Rattle.ap_front.specs.declared.ports.Ports.{Ports}
use Rattle.ap_commit.specs.Standing.{IsPortNamed}
use Rattle.ap_commit.specs.Widths.{port_bits}
use Rattle.ap_act.specs.declared.outputs.PortOutputs.{PortOutputs}

-- some line of this stage, which is one from 1 on, writes through the port
pub record StageWrites (design : Design) (p : WritePort) (stage : ℕ) : Type 0 where
  pub low : 1 ≤ stage
  pub high : stage ≤ design.stages - 1
  pub used : is_used_in design stage p ≡ true

-- the stage whose lines write through the port; where it is 0, none does
abbrev pub IsStageOf : Design → WritePort → ℕ → Type 0
IsStageOf design p zero = is_used design p ≡ false
IsStageOf design p (suc s) = StageWrites design p (suc s)

-- the outputs of a register or of a write port of a file, and those of a memory
abbrev pub group_outputs : GroupPorts → PortOutputs
group_outputs g = record { port = g.port; to = record { enable = g.enable; index = g.index; value = g.value } }

abbrev pub mem_outputs : ℕ → MemPorts → PortOutputs
mem_outputs mem m = record { port = port.Memory mem; to = record { enable = m.enable; index = Some m.address; value = m.value } }

-- those of the memories that some line writes, the first of which has the number n
abbrev pub written_mems : Design → ℕ → List MemPorts → List PortOutputs
written_mems design n [] = []
written_mems design n (m ∷ mems) = if is_used design (port.Memory n) then mem_outputs n m ∷ written_mems design (n + 1) mems else written_mems design (n + 1) mems

-- and of all ports through which some line writes
abbrev pub shown_outputs : Design → Ports → List PortOutputs
shown_outputs design p = map group_outputs p.groups ++ written_mems design 0 p.mems

abbrev pub output_wires : PortOutputs → List Wire
output_wires o = write_wires o.to

abbrev pub output_numbers : PortOutputs → List ℕ
output_numbers o = port_numbers o.to

abbrev pub all_numbers : List PortOutputs → List ℕ
all_numbers outputs = flat_map output_numbers outputs

-- the outputs are driven later, and no two of them are one
pub record AreFree (d : Draft) (outputs : List PortOutputs) : Type 0 where
  pub late : Each (IsLate d) (flat_map output_wires outputs)
  pub apart : NoneTwice (all_numbers outputs)

-- the outputs have the bits of what is written, and of where
pub record IsSized (design : Design) (o : PortOutputs) : Type 0 where
  pub enable : (o.to).enable.width ≡ 1
  pub index : option_map (λ (w : Wire). w.width) (o.to).index ≡ port_bits design o.port
  pub value : (o.to).value.width ≡ port_width design o.port

-- some line writes through the port, and its outputs have their names and bits
pub record IsOutputOf (design : Design) (d : Draft) (o : PortOutputs) : Type 0 where
  pub used : is_used design o.port ≡ true
  pub named : IsPortNamed design d o.port o.to
  pub sized : IsSized design o
