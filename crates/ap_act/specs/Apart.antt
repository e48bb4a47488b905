-- No two ports of top are one net; so its outputs can be driven, each once.
use Rattle.std.specs.Prelude.{◌≡◌, ℕ, true, List, [], ◌∷◌, ◌++◌, Some, flat_map, option_to_list, slice_get}
use Rattle.std.specs.List.{AllByRecursion as Each}
use Rattle.ap_desc.specs.Clean.{IsClean}
use Rattle.ap_desc.specs.declared.design.Design.{Design}
use Rattle.ap_model.specs.declared.storage.WritePort.TheVariants as port
use Rattle.ap_model.specs.Ports.{is_used}
use Rattle.ap_net.specs.declared.cell.Wire.{Wire}
use Rattle.ap_net.specs.Draft.{Draft}
use Rattle.ap_net.specs.Late.{IsLate}
use Rattle.ap_net.specs.Ready.{numbers}
use Rattle.ap_net.specs.Wiring.{NoneTwice}
use Rattle.ap_front.specs.declared.ports.GroupPorts.{GroupPorts}
use Rattle.ap_front.specs.declared.ports.MemPorts.{MemPorts}
use Rattle.ap_front.specs.declared.ports.Ports.{Ports}
use Rattle.ap_front.specs.Ports.{HasPorts}
use Rattle.ap_act.specs.Outputs.{AreFree, shown_outputs}

-- the numbers of the ports of a memory, of those of a group, and of all ports, in the order of their declaration
abbrev pub mem_ports : MemPorts → List ℕ
mem_ports m = m.read_address.number ∷ m.read.number ∷ m.enable.number ∷ m.address.number ∷ m.value.number ∷ []

abbrev pub group_ports : GroupPorts → List ℕ
group_ports g = g.enable.number ∷ numbers (option_to_list g.index) ++ g.value.number ∷ []

abbrev pub ports_in_order : Ports → List ℕ
ports_in_order p = p.iaddr.number ∷ p.idata.number ∷ p.mwait.number ∷ numbers p.inputs ++ (flat_map mem_ports p.mems ++ (p.stall.number ∷ p.kill.number ∷ flat_map group_ports p.groups))

abbrev pub PortsAreApart : Type 0
PortsAreApart = (design : Design) (d : Draft) (p : Ports) → IsClean design → HasPorts design d p → NoneTwice (ports_in_order p)

-- the outputs that show what is written through a port of a register or file, or to a memory
abbrev pub group_wires : GroupPorts → List Wire
group_wires g = g.enable ∷ g.value ∷ option_to_list g.index

abbrev pub mem_wires : MemPorts → List Wire
mem_wires m = m.enable ∷ m.value ∷ m.address ∷ []

-- Where they are driven later, for each port through which some line writes, they are free.
abbrev pub OutputsAreFree : Type 0
OutputsAreFree = (design : Design) (d : Draft) (p : Ports) → IsClean design → HasPorts design d p → Each (IsLate d) (flat_map group_wires p.groups)
    → ((mem : ℕ) (m : MemPorts) → slice_get p.mems mem ≡ Some m → is_used design (port.Memory mem) ≡ true → Each (IsLate d) (mem_wires m)) → AreFree d (shown_outputs design p)
