-- What the first two parts of a top give to its stages: what was placed for the nodes of the design's orders stands.
use Rattle.std.proofs.Common.{◌≡◌, ℕ, ◌+◌, ◌-◌, ◌≤◌, List, length, refl, sym, subst}
use Rattle.std.specs.Prelude.{codes}
use Rattle.std.specs.List.{AllByRecursion as Each}
use Rattle.std.proofs.Common.{arith}
use Rattle.std.proofs.lemmas.Option.{slice_get_within}
use Rattle.ap_ctl.proofs.Beside.{EachPair-at, EachPair-length}
use Rattle.ap_ctl.specs.Lists.{EachPair}
use Rattle.ap_desc.specs.Chains.{IsChainOrder, IsNodeOf}
use Rattle.ap_desc.specs.Clean.{IsClean}
use Rattle.ap_desc.specs.declared.design.Design.{Design}
use Rattle.ap_desc.specs.declared.design.Mem.{Mem}
use Rattle.ap_desc.specs.declared.design.Node.{Node as DesignNode}
use Rattle.ap_desc.specs.declared.design.Node.TheVariants as design_node
use Rattle.ap_net.specs.Draft.{Draft, Extends, IsKept}
use Rattle.ap_net.specs.Late.{IsLate}
use Rattle.ap_net.specs.Modules.{ModuleText}
use Rattle.ap_net.specs.Outside.{input, mem_name}
use Rattle.ap_net.proofs.Drafts.{Extends-refl, Extends-trans}
use Rattle.ap_net.proofs.Growing.{stays}
use Rattle.ap_net.proofs.Lists.{All-at, All-from, Each-at}
use Rattle.ap_parts.specs.Known.{known_by}
use Rattle.ap_parts.proofs.Lists.{pairs_from}
use Rattle.ap_path.specs.Tables.{AreOrdersOf}
use Rattle.ap_pipe.specs.declared.table.SlotTable.{SlotTable}
use Rattle.ap_ports.proofs.Members.{contains_at}
use Rattle.ap_signals.specs.DesignOutside.{mem_shape}
use Rattle.ap_bank.specs.declared.bank.FileNets.{FileNets}
use Rattle.ap_front.specs.declared.ports.MemPorts.{MemPorts}
use Rattle.ap_front.specs.Ports.{AreMemPorts}
use Rattle.ap_front.proofs.PortNets.{port_is_net}
use Rattle.ap_stage.specs.Trees.{source}
use Rattle.ap_stages.specs.Stood.{AreApartSupplies, AreStanding, HasStanding, Stands, StandsRead}
use Rattle.ap_stages.specs.declared.nodes.Supplied.{Supplied}
use Rattle.ap_stages.specs.declared.nodes.Supply.{Supply}
use Rattle.ap_stages.specs.declared.nodes.Supply.TheVariants as by
use Rattle.ap_supply.specs.Supplies.{AreSupplied, AreSuppliesOf, IsEntry, IsSupplyOf}
use Rattle.ap_supply.proofs.Apart.{supplies_are_apart}
use Rattle.ap_staged.specs.Standing.{AreNewQuick, IsNumberedIn, StandsFile, StandsMem}
use Rattle.ap_staged.proofs.Led.{lead_files_stand}
use Rattle.ap_staged.proofs.Orders.{orders_are_numbered}
use Rattle.ap_staged.proofs.Separate.{placed_wires_are_apart}
use Rattle.ap_staged.proofs.Stood.{net_on}
use Rattle.ap_lead.specs.Left.{IsLateMem, LeavesRest}
use Rattle.ap_lead.proofs.Leaving.{leads_leave_rest}
use Rattle.ap_work.specs.Leaving.{LeavesLate}
use Rattle.ap_work.specs.Working.{StandsControlled}
use Rattle.ap_work.proofs.Grown.{work_grows}
use Rattle.ap_work.proofs.Standing.{work_stands}
use Rattle.ap_work.proofs.Waiting.{work_leaves_late}
use Rattle.ap_gen.specs.declared.start.Start.{Start}
use Rattle.ap_gen.specs.Started.{KnowsParts, Starts}
use Rattle.ap_gen.specs.Tops.{front_of, placed_in, ports_of}
use Rattle.ap_gen.proofs.DataUnits.{quick_are_new, quick_stands, slow_stands}

-- a memory that was declared stands in each later draft in which its address is driven later still
mem_stands : (a d : Draft) (m : Mem) (q : MemPorts) → IsKept a → Extends a d → AreMemPorts a m q → IsLate d q.read_address → StandsMem d m q
mem_stands a d m q kept e h late = record {
  late = late;
  index_wide = h.read_address.wide;
  value_wide = h.read.wide;
  given = record {
    net = net_on e q.read (port_is_net a (input (mem_name (mem_shape m) (codes "rd")) m.width) q.read kept h.read);
    low = source 0 q.read.number _ (stays a.nets d.nets e.nets q.read.number _ h.read.there) tt;
  };
}

module _ (design : Design) (slots : SlotTable) (modules : List ModuleText) (places : List ℕ) (s : Start) (d : Draft) (h : Starts design slots modules places s d) where
  pub filed_later : Extends h.filed d
  filed_later = (work_grows design (front_of s) (ports_of s) modules places s.work h.filed d h.works).extends

  pub first_later : Extends h.leads.first d
  first_later = Extends-trans h.leads.first h.filed d (Extends-trans h.leads.first h.leads.driven h.filed h.leads.drives.extends h.leads.stores.extends) filed_later

  rest : LeavesRest design s.lead h.filed
  rest = leads_leave_rest design slots.stages s.lead h.filed h.leads

  late : LeavesLate design s.work h.filed d
  late = work_leaves_late design (front_of s) (ports_of s) modules places s.work h.filed d h.works

  pub controlled : IsClean design → StandsControlled design s.work d
  controlled clean = work_stands design (front_of s) (ports_of s) modules places s.work h.filed d d clean h.works (Extends-refl d)

  -- Names, read ports and memories. -----------------------------------------------------------------------------------------

  pub quick_new : IsClean design → AreNewQuick design d
  quick_new clean = quick_are_new design (front_of s) (ports_of s) modules places s.work h.filed d h.works clean rest.units

  pub files_stand : EachPair (StandsFile d) design.files s.lead.files
  files_stand = lead_files_stand design slots.stages s.lead h.filed d h.leads filed_later
      (All-from (λ (n : FileNets). Each (IsLate h.filed) n.indices) (λ (n : FileNets). Each (IsLate d) n.indices) (λ n k. All-from (IsLate h.filed) (IsLate d) late.others n.indices k) s.lead.files h.leads.stores.late_indices)

  mems_there : EachPair (AreMemPorts h.leads.first) design.mems (ports_of s).mems
  mems_there = h.leads.declares.ports.mems

  pub mems_long : length (ports_of s).mems ≡ length design.mems
  mems_long = EachPair-length (AreMemPorts h.leads.first) design.mems (ports_of s).mems mems_there

  pub mems_stand : EachPair (StandsMem d) design.mems (ports_of s).mems
  mems_stand = pairs_from (StandsMem d) design.mems (ports_of s).mems mems_long (λ i m q at there.
      mem_stands h.leads.first d m q h.leads.kept first_later (EachPair-at (AreMemPorts h.leads.first) design.mems (ports_of s).mems mems_there i m q at there)
      (late.others q.read_address (All-at (IsLateMem h.filed) (ports_of s).mems i q rest.outputs.mems there).read_address))

  pub supplies_apart : (supplies : List Supplied) → Each (IsEntry design (placed_in modules places s)) supplies → AreApartSupplies supplies
  supplies_apart supplies entries =
      supplies_are_apart design (placed_in modules places s) supplies entries
      (placed_wires_are_apart design slots.stages s.lead h.filed h.filed h.works.united modules places _ s.work.units h.leads (Extends-refl h.filed) h.works.placed)

  -- The nodes of a stage. ---------------------------------------------------------------------------------------------------

  module _ (kinds : ℕ) (clean : IsClean design) (parts : KnowsParts design modules places kinds) (stage : ℕ) (low : 1 ≤ stage) (high : stage ≤ design.stages - 1) where
    stands_by : (x : DesignNode) (t : Supply) → IsNodeOf design stage x → IsSupplyOf design (placed_in modules places s) x t
        → Stands design parts.cards d modules x t
    stands_by (design_node.Unit unit) (by.Quick place bits) is_node k = quick_stands (known_by parts.cards) parts.cards design d (placed_in modules places s) kinds unit place bits parts.has parts.known (quick_new clean) k
    stands_by (design_node.Unit unit) (by.Slow sel a b y) is_node k =
        slow_stands design (front_of s) (ports_of s) modules places s.work h.filed d h.works (known_by parts.cards) parts.cards kinds parts.fits parts.has parts.known (placed_in modules places s) stage unit sel a b y refl low high is_node k
    stands_by (design_node.Unit unit) (by.Read index value) is_node k = absurd k
    stands_by (design_node.FileRead file port) (by.Read index value) is_node k =
        let own : StandsFile d k.of k.nets = EachPair-at (StandsFile d) design.files s.lead.files files_stand file k.of k.nets k.at k.made in
        (k.of, k.at, own port index value k.index_at k.value_at)
    stands_by (design_node.FileRead file port) (by.Quick place bits) is_node k = absurd k
    stands_by (design_node.FileRead file port) (by.Slow sel a b y) is_node k = absurd k
    stands_by (design_node.MemRead mem) (by.Read index value) is_node k =
        let own : StandsMem d k.of k.ports = EachPair-at (StandsMem d) design.mems (ports_of s).mems mems_stand mem k.of k.ports k.at k.made in
        (k.of, k.at, subst (λ w. StandsRead d k.of.address k.of.width w value) (sym k.index_is) (subst (StandsRead d k.of.address k.of.width k.ports.read_address) (sym k.value_is) own))
    stands_by (design_node.MemRead mem) (by.Quick place bits) is_node k = absurd k
    stands_by (design_node.MemRead mem) (by.Slow sel a b y) is_node k = absurd k

    order_stands : (supplies : List Supplied) → AreSuppliesOf design (placed_in modules places s) supplies → AreSupplied design supplies
        → (order : List DesignNode) → IsChainOrder design stage order → AreStanding design d modules supplies order
    order_stands supplies of all order chain = record {
      cards = parts.cards;
      fits = parts.fits;
      each = Each-at (HasStanding design parts.cards d modules supplies) order (λ j x at.
          let own : IsNumberedIn design x = All-at (IsNumberedIn design) order j x (orders_are_numbered design stage order clean chain) at in
          let (t, found) = all x own.inside in
          record { supply = t; found = found; stands = stands_by x t ((chain.nodes x).0 (contains_at order j x at)) (of x t own.numbered found) });
    }

  pub orders_stand : (kinds : ℕ) → IsClean design → KnowsParts design modules places kinds → (supplies : List Supplied)
      → AreSuppliesOf design (placed_in modules places s) supplies → AreSupplied design supplies → (orders : List (List DesignNode))
      → AreOrdersOf design orders → Each (AreStanding design d modules supplies) orders
  orders_stand kinds clean parts supplies of all orders are = Each-at (AreStanding design d modules supplies) orders (λ k order at.
      let lt = slice_get_within orders k order at in
      let count = are.count in
      order_stands kinds clean parts (k + 1) (omega arith) (omega (arith, lt, count)) supplies of all order (are.each k order at))
