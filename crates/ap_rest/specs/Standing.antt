-- What lets units and nets that no line uses be put at rest: their names are new, and their wires are still to be driven.
use Rattle.std.specs.Prelude.{◌≡◌, ◌⊎◌, ℕ, ◌-◌, ◌≤◌, true, false, List, [], ◌∷◌, ◌++◌, Some, flat_map, slice_get}
use Rattle.ap_desc.specs.Chains.{IsNodeOf}
use Rattle.ap_desc.specs.Clean.{IsClean}
use Rattle.ap_desc.specs.declared.design.Design.{Design}
use Rattle.ap_desc.specs.declared.design.Node.{Node as DesignNode}
use Rattle.ap_desc.specs.declared.design.Node.TheVariants as design_node
use Rattle.ap_desc.specs.declared.design.Unit.{Unit as Resource}
use Rattle.ap_net.specs.declared.cell.Wire.{Wire}
use Rattle.ap_net.specs.Draft.{Draft, names_of}
use Rattle.ap_net.specs.Late.{IsLate}
use Rattle.ap_net.specs.Modules.{ModuleText}
use Rattle.ap_net.specs.Names.{IsNew, IsNotNumbered}
use Rattle.ap_net.specs.Ready.{numbers}
use Rattle.ap_net.specs.Wiring.{NoneTwice}
use Rattle.ap_signals.specs.NetRuns.{unit_part}
use Rattle.ap_course.specs.Choices.{port_of_node}
use Rattle.ap_bank.specs.declared.bank.FileNets.{FileNets}
use Rattle.ap_bank.specs.Joins.{AreLate}
use Rattle.ap_front.specs.declared.ports.MemPorts.{MemPorts}
use Rattle.ap_rest.specs.Idle.{IdlesUnits, is_idle}
use Rattle.ap_rest.specs.Reads.{idle_reads, idle_writes}
use Rattle.ap_rest.specs.Serving.{IsIndexOf}
use Rattle.ap_rest.specs.Uses.{is_port_used}

-- A unit that takes one cycle is a node of a stage, or is put at rest; and one that is put at rest is a node of none.
abbrev pub QuickAreSomewhere : Type 0
QuickAreSomewhere = (design : Design) (number : ℕ) (u : Resource) → IsClean design → slice_get design.units number ≡ Some u → u.latency ≤ 1
    → (is_idle design number ≡ true) ⊎ ((stage : ℕ) × (1 ≤ stage) × (stage ≤ design.stages - 1) × IsNodeOf design stage (design_node.Unit number))

abbrev pub IdleAreNowhere : Type 0
IdleAreNowhere = (design : Design) (number stage : ℕ) → is_idle design number ≡ true → IsNodeOf design stage (design_node.Unit number) → ⊥

-- A name that no unit has is as new as it was.
abbrev pub IdlesLeaveNames : Type 0
IdlesLeaveNames = (design : Design) (modules : List ModuleText) (places : List ℕ) (units : List ℕ) (a b : Draft) → IdlesUnits design modules places units a b
    → (name : List ℕ) → IsNotNumbered name → ((u : Resource) → unit_part u ≡ name → ⊥) → IsNew name (names_of a) → IsNew name (names_of b)

-- the indices at all read ports, and the outputs at which memories are written
abbrev pub index_wires : List FileNets → List MemPorts → List Wire
index_wires files mems = flat_map (λ (n : FileNets). n.indices) files ++ flat_map (λ (m : MemPorts). m.read_address ∷ []) mems

abbrev pub write_wires : List MemPorts → List Wire
write_wires mems = flat_map (λ (m : MemPorts). m.enable ∷ m.address ∷ m.value ∷ []) mems

-- Where no two indices are one, and each that no line uses is still to be driven, they can be put at rest.
abbrev pub IdleReadsAreLate : Type 0
IdleReadsAreLate = (design : Design) (d : Draft) (files : List FileNets) (mems : List MemPorts) → NoneTwice (numbers (index_wires files mems))
    → ((x : DesignNode) (w : Wire) → IsIndexOf files mems x w → is_port_used design (port_of_node x) ≡ false → IsLate d w) → AreLate d (idle_reads design files mems)

-- So can the outputs of memories.
abbrev pub IdleWritesAreLate : Type 0
IdleWritesAreLate = (design : Design) (d : Draft) (mems : List MemPorts) → AreLate d (write_wires mems) → AreLate d (idle_writes design 0 mems)
