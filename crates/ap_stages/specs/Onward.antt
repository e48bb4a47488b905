-- What stands for the nodes of further stages stands on while a stage is served.
use Rattle.std.specs.Prelude.{◌≡◌, ℕ, List, Some, slice_get}
use Rattle.std.specs.List.{AllByRecursion as Each}
use Rattle.ap_bits.specs.declared.card.Card.{Card}
use Rattle.ap_desc.specs.declared.design.Design.{Design}
use Rattle.ap_desc.specs.declared.design.Node.{Node as DesignNode}
use Rattle.ap_desc.specs.declared.design.Node.TheVariants as design_node
use Rattle.ap_desc.specs.declared.design.Unit.{Unit as Resource}
use Rattle.ap_net.specs.Draft.{Adds, Draft}
use Rattle.ap_net.specs.Modules.{ModuleText}
use Rattle.ap_net.specs.Names.{IsNew}
use Rattle.ap_signals.specs.NetRuns.{unit_part}
use Rattle.ap_stage.specs.declared.chain.Node.{Node}
use Rattle.ap_stage.specs.Reads.{IsNone}
use Rattle.ap_stage.specs.Served.{ServesNodes, stage_names, stage_wires}
use Rattle.ap_stages.specs.Begun.{AreShared}
use Rattle.ap_stages.specs.Stood.{Stands, wires_with}
use Rattle.ap_stages.specs.declared.begin.SharedNets.{SharedNets}
use Rattle.ap_stages.specs.declared.nodes.Supply.{Supply}

-- none of these ports drives a wire of what the node is served with, and no instance that is placed for them has the name of the node's unit
pub record IsLeft (design : Design) (nodes : List Node) (x : DesignNode) (s : Supply) : Type 0 where
  pub wires : Each (IsNone (stage_wires nodes)) (wires_with s)
  pub names : (v : ℕ) (u : Resource) → x ≡ design_node.Unit v → slice_get design.units v ≡ Some u → IsNew (unit_part u) (stage_names nodes)

-- What stands for a node that these ports leave, stands on.
abbrev pub OthersStand : Type 0
OthersStand = (design : Design) (cards : List Card) (a b : Draft) (modules : List ModuleText) (nodes : List Node) (x : DesignNode) (s : Supply) → ServesNodes nodes a b → IsLeft design nodes x s
    → Stands design cards a modules x s → Stands design cards b modules x s

-- The registers and the input ports go on.
abbrev pub SharedGoOn : Type 0
SharedGoOn = (design : Design) (shared : SharedNets) (a b : Draft) → Adds a b → AreShared design a.nets shared → AreShared design b.nets shared
