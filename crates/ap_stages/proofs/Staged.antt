-- A stage is served once its instructions have begun and its ports are served.
use Rattle.std.proofs.Common.{◌≡◌, ℕ, List, length}
use Rattle.std.specs.List.{AllByRecursion as Each}
use Rattle.ap_desc.specs.Chains.{IsChainOrder}
use Rattle.ap_desc.specs.declared.design.Design.{Design}
use Rattle.ap_desc.specs.declared.design.Node.{Node as DesignNode}
use Rattle.ap_merge.specs.declared.table.Choice.{Choice}
use Rattle.ap_net.specs.Draft.{Draft}
use Rattle.ap_net.specs.Modules.{ModuleText}
use Rattle.ap_pipe.specs.declared.table.StageSlots.{StageSlots}
use Rattle.ap_stage.specs.declared.chain.Node.{Node}
use Rattle.ap_stage.specs.declared.node.Course.{Course}
use Rattle.ap_stage.specs.declared.source.Ground.{Ground}
use Rattle.ap_stage.specs.Chained.{AreApart, AreNodes, IsFull, IsServedNode, IsWhole, UsesOnly}
use Rattle.ap_stage.specs.Courses.{AreSame, IsCourse}
use Rattle.ap_stage.specs.Served.{ServesNodes, StayReady}
use Rattle.ap_stage.specs.Sources.{IsGround}
use Rattle.ap_stage.proofs.Lined.{ground_on}
use Rattle.ap_stages.specs.Begun.{IsBegun}
use Rattle.ap_stages.specs.Staged.{AreChoicesOf, IsStaged}
use Rattle.ap_stages.specs.Stood.{AreApartSupplies, AreStanding}
use Rattle.ap_stages.specs.Supplies.{AreNodesFor}
use Rattle.ap_stages.specs.declared.begin.SharedNets.{SharedNets}
use Rattle.ap_stages.specs.declared.begin.StageNets.{StageNets}
use Rattle.ap_stages.specs.declared.nodes.Supplied.{Supplied}
use Rattle.ap_stages.proofs.Begun.{all_courses, all_whole, are_apart, are_nodes, only}
use Rattle.ap_stages.proofs.Following.{begun_late, begun_makes, stage_follows, stage_serves}
use Rattle.ap_stages.proofs.Same.{only_same, whole_same}

module _ (design : Design) (stage : ℕ) (table : StageSlots) (choices : List Choice) (supplies : List Supplied) (order : List DesignNode) (modules : List ModuleText) (shared : SharedNets) (own : StageNets) (a b : Draft) (ground : Ground) (first : List Course) (nodes : List Node)
    (begun : IsBegun design stage table shared own a b ground first) (many : length own.conds ≡ length design.instrs) (are : AreChoicesOf design choices) (chain : IsChainOrder design stage order) (stand : AreStanding design a modules supplies order)
    (apart : AreApartSupplies supplies) (ports : AreNodesFor design choices supplies order nodes) where
  pub grounded : IsGround b.nets ground
  grounded = ground_on begun.linked b ground begun.started.makes begun.there

  pub first_courses : Each (IsCourse b ground) first
  first_courses = all_courses design stage table own begun.linked b ground first many begun.started

  pub first_whole : Each IsWhole first
  first_whole = all_whole design stage table own begun.linked b ground first many begun.started

  pub first_only : Each (UsesOnly nodes) first
  first_only = only design stage table own begun.linked b ground first many begun.started a modules choices supplies order nodes begun.of are chain stand apart ports
      (begun_makes design stage table shared own a b ground first begun many) (begun_late design stage table shared own a b ground first begun many)

  pub first_nodes : AreNodes b ground first nodes modules 0
  first_nodes = are_nodes design stage table own begun.linked b ground first many begun.started a modules choices supplies order nodes begun.of are chain stand apart ports
      (begun_makes design stage table shared own a b ground first begun many) (begun_late design stage table shared own a b ground first begun many)

  pub first_apart : AreApart nodes
  first_apart = are_apart design stage table own begun.linked b ground first many begun.started a modules choices supplies order nodes begun.of are chain stand apart ports
      (begun_makes design stage table shared own a b ground first begun many) (begun_late design stage table shared own a b ground first begun many)

  pub is_staged : (c : Draft) (courses : List Course) → Each (IsCourse c ground) courses → AreSame first courses → Each IsFull courses → Each (IsServedNode c ground modules courses) nodes → ServesNodes nodes b c → StayReady ground nodes b first c courses
      → IsStaged design stage table choices supplies order modules shared own a c ground courses nodes
  is_staged c courses each same full served serves stay = record {
    begun = b;
    first = first;
    begins = begun;
    uses = first_only;
    grows = serves.serves.adds.extends;
    same = same;
    ports = ports;
    all = record { are = each; whole = whole_same first courses same first_whole; full = full; only = only_same nodes first courses same first_only; served = served };
    serves = stage_serves design stage table shared own a b ground first begun many nodes c serves;
    follows = stage_follows design stage table shared own a b ground first begun many nodes c courses serves.serves.adds.extends stay;
  }
