-- The ports of top: declared in their order, by their names.
use Rattle.std.specs.Prelude.{◌≡◌, ℕ, ◌≤◌, List, [], ◌∷◌, ◌++◌, codes, flat_map, map, slice_get, Option, Some, None}
use Rattle.std.specs.List.{AllByRecursion as Each}
use Rattle.ap_desc.specs.declared.design.Design.{Design}
use Rattle.ap_desc.specs.declared.design.InPort.{InPort as Input}
use Rattle.ap_desc.specs.declared.design.Mem.{Mem}
use Rattle.ap_model.specs.declared.storage.WritePort.{WritePort}
use Rattle.ap_model.specs.Ports.{write_groups}
use Rattle.ap_net.specs.declared.cell.Wire.{Wire}
use Rattle.ap_net.specs.declared.net.Port.{Port}
use Rattle.ap_net.specs.Draft.{Draft, names_of}
use Rattle.ap_net.specs.Modules.{port_net}
use Rattle.ap_net.specs.Names.{AreDistinct, IsNetName, IsNew, IsNotNumbered}
use Rattle.ap_net.specs.Outside.{FilePort, Group, group_name, index_port, input, mem_name, output}
use Rattle.ap_signals.specs.DesignOutside.{group_of, mem_shape}
use Rattle.ap_ctl.specs.Lists.{EachPair}
use Rattle.ap_front.specs.declared.ports.GroupPorts.{GroupPorts}
use Rattle.ap_front.specs.declared.ports.MemPorts.{MemPorts}
use Rattle.ap_front.specs.declared.ports.Ports.{Ports}

-- Ports that are to be declared.

-- the draft with these ports
abbrev pub with_ports : Draft → List Port → Draft
with_ports d ports = record d { nets = d.nets ++ map port_net ports }

abbrev pub port_name : Port → List ℕ
port_name p = p.name

-- a port that can be declared
pub record CanPort (d : Draft) (p : Port) : Type 0 where
  pub named : IsNetName p.name
  pub other : IsNotNumbered p.name
  pub new : IsNew p.name (names_of d)
  pub low : 1 ≤ p.width
  pub high : p.width ≤ 64

-- these can, one after the other
pub record CanDeclare (ports : List Port) (d : Draft) : Type 0 where
  pub each : Each (CanPort d) ports
  pub apart : AreDistinct (map port_name ports)

-- The ports of one input, of a memory, and of a write group.

abbrev pub input_of : Input → List Port
input_of i = input (codes "p_" ++ i.name) i.width ∷ []

abbrev pub mem_of : Mem → List Port
mem_of m = output (mem_name (mem_shape m) (codes "ra")) m.address ∷ input (mem_name (mem_shape m) (codes "rd")) m.width ∷ output (mem_name (mem_shape m) (codes "we")) 1
    ∷ output (mem_name (mem_shape m) (codes "wa")) m.address ∷ output (mem_name (mem_shape m) (codes "wd")) m.width ∷ []

abbrev pub ports_of_group : Group → List Port
ports_of_group g = output (group_name g (codes "e")) 1 ∷ index_port g g.port ++ output (group_name g (codes "v")) g.width ∷ []

abbrev pub group_ports_of : Design → WritePort → List Port
group_ports_of design p = ports_of_group (group_of design p)

-- the name of an output that shows writes, where the storage, or the file with its port, is called so
abbrev pub shown_name : List ℕ → List ℕ → List ℕ
shown_name storage what = codes "w_" ++ storage ++ codes "_" ++ what

-- all ports of top, in their order
abbrev pub top_ports : Design → List Port
top_ports design = output (codes "iaddr") design.address ∷ input (codes "idata") design.word ∷ input (codes "mwait") 1
    ∷ flat_map input_of design.inputs ++ (flat_map mem_of design.mems ++ (output (codes "stall") 1 ∷ output (codes "kill") 1 ∷ flat_map (group_ports_of design) (write_groups design)))

-- Declared ports.

-- the port stands at the wire
pub record IsPort (d : Draft) (p : Port) (w : Wire) : Type 0 where
  pub there : slice_get d.nets w.number ≡ Some (port_net p)
  pub wide : w.width ≡ p.width

abbrev pub IsInput : Draft → Input → Wire → Type 0
IsInput d i w = IsPort d (input (codes "p_" ++ i.name) i.width) w

-- the ports of a memory
pub record AreMemPorts (d : Draft) (m : Mem) (p : MemPorts) : Type 0 where
  pub read_address : IsPort d (output (mem_name (mem_shape m) (codes "ra")) m.address) p.read_address
  pub read : IsPort d (input (mem_name (mem_shape m) (codes "rd")) m.width) p.read
  pub enable : IsPort d (output (mem_name (mem_shape m) (codes "we")) 1) p.enable
  pub address : IsPort d (output (mem_name (mem_shape m) (codes "wa")) m.address) p.address
  pub value : IsPort d (output (mem_name (mem_shape m) (codes "wd")) m.width) p.value

-- a register's group has no index
abbrev pub IsIndex : Draft → Group → Option FilePort → Option Wire → Type 0
IsIndex d g None None = Unit {0}
IsIndex d g None (Some w) = ⊥
IsIndex d g (Some f) None = ⊥
IsIndex d g (Some f) (Some w) = IsPort d (output (group_name g (codes "x")) f.index) w

-- the ports of a write group
pub record AreGroupPorts (d : Draft) (g : Group) (p : GroupPorts) : Type 0 where
  pub enable : IsPort d (output (group_name g (codes "e")) 1) p.enable
  pub index : IsIndex d g g.port p.index
  pub value : IsPort d (output (group_name g (codes "v")) g.width) p.value

-- those of the group of a write port
pub record ArePortsOf (design : Design) (d : Draft) (port : WritePort) (p : GroupPorts) : Type 0 where
  pub of : p.port ≡ port
  pub ports : AreGroupPorts d (group_of design port) p

-- all ports of top
pub record HasPorts (design : Design) (d : Draft) (p : Ports) : Type 0 where
  pub iaddr : IsPort d (output (codes "iaddr") design.address) p.iaddr
  pub idata : IsPort d (input (codes "idata") design.word) p.idata
  pub mwait : IsPort d (input (codes "mwait") 1) p.mwait
  pub inputs : EachPair (IsInput d) design.inputs p.inputs
  pub mems : EachPair (AreMemPorts d) design.mems p.mems
  pub stall : IsPort d (output (codes "stall") 1) p.stall
  pub kill : IsPort d (output (codes "kill") 1) p.kill
  pub groups : EachPair (ArePortsOf design d) (write_groups design) p.groups
