-- Which ports lines use, and that each index is driven by a stage or always 0.
use Rattle.std.specs.Prelude.{◌≡◌, ℕ, ◌-◌, ◌≤◌, true, false, List, Some, flat_map, slice_get}
use Rattle.std.specs.List.{AllByRecursion as Each}
use Rattle.ap_desc.specs.Chains.{IsChainOrder, IsNodeOf}
use Rattle.ap_desc.specs.Clean.{IsClean}
use Rattle.ap_desc.specs.declared.design.Design.{Design}
use Rattle.ap_desc.specs.declared.design.Node.{Node as DesignNode}
use Rattle.ap_desc.specs.declared.design.Node.TheVariants as design_node
use Rattle.ap_merge.specs.declared.table.Choice.{Choice}
use Rattle.ap_net.specs.declared.cell.Wire.{Wire}
use Rattle.ap_net.specs.Draft.{Draft}
use Rattle.ap_net.specs.Pending.{Among}
use Rattle.ap_net.specs.Ready.{Dependence, numbers}
use Rattle.ap_ports.specs.Numbers.{IsNumberedNode, number_of_node}
use Rattle.ap_course.specs.Choices.{port_of_node}
use Rattle.ap_stage.specs.declared.chain.Node.{Node}
use Rattle.ap_stage.specs.Served.{stage_wires}
use Rattle.ap_stages.specs.Supplies.{AreNodesFor, supply_of}
use Rattle.ap_stages.specs.declared.nodes.Supplied.{Supplied}
use Rattle.ap_stages.specs.declared.nodes.Supply.TheVariants as by
use Rattle.ap_bank.specs.declared.bank.FileNets.{FileNets}
use Rattle.ap_bank.specs.Joins.{IsAtRest}
use Rattle.ap_front.specs.declared.ports.MemPorts.{MemPorts}
use Rattle.ap_steps.specs.TopOrder.{IsServed}
use Rattle.ap_rest.specs.Reads.{idle_reads}
use Rattle.ap_rest.specs.Uses.{is_port_used}

-- A node whose port some line uses is a node of a stage; one whose port none uses is of no stage.

abbrev pub UsedAreNodes : Type 0
UsedAreNodes = (design : Design) (x : DesignNode) → IsClean design → is_port_used design (port_of_node x) ≡ true
    → (stage : ℕ) × (1 ≤ stage) × (stage ≤ design.stages - 1) × IsNodeOf design stage x

abbrev pub UnusedAreNone : Type 0
UnusedAreNone = (design : Design) (x : DesignNode) (stage : ℕ) → is_port_used design (port_of_node x) ≡ false → IsNodeOf design stage x → ⊥

-- the wire of the index at the read port of a file, or the read address of a memory
abbrev pub IsIndexOf : List FileNets → List MemPorts → DesignNode → Wire → Type 0
IsIndexOf files mems (design_node.Unit u) w = ⊥
IsIndexOf files mems (design_node.FileRead file port) w = (nets : FileNets) × (slice_get files file ≡ Some nets) × (slice_get nets.indices port ≡ Some w)
IsIndexOf files mems (design_node.MemRead mem) w = (m : MemPorts) × (slice_get mems mem ≡ Some m) × (m.read_address ≡ w)

-- read ports are served over their own indices
abbrev pub ServeIndices : List FileNets → List MemPorts → List Supplied → Type 0
ServeIndices files mems supplies = (x : DesignNode) (index value : Wire) → IsNumberedNode x → supply_of supplies (number_of_node x) ≡ Some (by.Read index value)
    → IsIndexOf files mems x index

-- the ports of the stage's nodes drive wires that are all among these
pub record DrivesStage (design : Design) (supplies : List Supplied) (driven : List ℕ) (stage : ℕ) : Type 0 where
  pub order : List DesignNode
  pub chain : IsChainOrder design stage order
  pub choices : List Choice
  pub nodes : List Node
  pub ports : AreNodesFor design choices supplies order nodes
  pub among : Each (λ (w : Wire). Among driven w.number) (stage_wires nodes)

-- an index that lines use is one of these
abbrev pub UsedAreAmong : Design → List FileNets → List MemPorts → List ℕ → Type 0
UsedAreAmong design files mems driven = (x : DesignNode) (w : Wire) → IsIndexOf files mems x w → is_port_used design (port_of_node x) ≡ true → Among driven w.number

-- So it is where each stage drives some of these.
abbrev pub StagesDriveUsed : Type 0
StagesDriveUsed = (design : Design) (files : List FileNets) (mems : List MemPorts) (supplies : List Supplied) (driven : List ℕ) → IsClean design → ServeIndices files mems supplies
    → ((stage : ℕ) → 1 ≤ stage → stage ≤ design.stages - 1 → DrivesStage design supplies driven stage) → UsedAreAmong design files mems driven

-- each index is one of these, or always 0
pub record AreServed (by : Dependence) (d : Draft) (files : List FileNets) (mems : List MemPorts) (driven : List ℕ) : Type 0 where
  pub indices : Each (IsServed by d driven) (flat_map (λ (n : FileNets). numbers n.indices) files)
  pub reads : Each (λ (m : MemPorts). IsServed by d driven m.read_address.number) mems

-- So it is where the others are at rest.
abbrev pub ReadsAreServed : Type 0
ReadsAreServed = (by : Dependence) (design : Design) (d : Draft) (files : List FileNets) (mems : List MemPorts) (driven : List ℕ) → Each (IsAtRest d) (idle_reads design files mems)
    → UsedAreAmong design files mems driven → AreServed by d files mems driven
