-- What no line uses can be put at rest, once the stages are made.
use Rattle.std.proofs.Common.{◌≡◌, ℕ, ◌<◌, false, List, ◌++◌, flat_map, length, Some, refl, sym, ap, subst, ◌∙◌, arith}
use Rattle.std.specs.Prelude.{slice_get}
use Rattle.std.proofs.lemmas.List.{map-append}
use Rattle.std.proofs.lemmas.Option.{slice_get_within}
use Rattle.ap_desc.specs.Chains.{IsNodeOf}
use Rattle.ap_desc.specs.Clean.{IsClean}
use Rattle.ap_desc.specs.declared.design.Design.{Design}
use Rattle.ap_desc.specs.declared.design.File.{File}
use Rattle.ap_desc.specs.declared.design.Mem.{Mem}
use Rattle.ap_desc.specs.declared.design.Node.{Node as DesignNode}
use Rattle.ap_desc.specs.declared.design.Node.TheVariants as design_node
use Rattle.ap_desc.specs.declared.design.Unit.{Unit as Resource}
use Rattle.ap_net.specs.declared.cell.Wire.{Wire}
use Rattle.ap_net.specs.Draft.{Draft}
use Rattle.ap_net.specs.Late.{IsLate}
use Rattle.ap_net.specs.Modules.{ModuleText}
use Rattle.ap_net.specs.Ready.{numbers}
use Rattle.ap_net.specs.Wiring.{NoneTwice}
use Rattle.ap_net.proofs.Drafts.{Extends-refl}
use Rattle.ap_net.proofs.Laws.{IsNotNumbered-other}
use Rattle.ap_net.proofs.Lists.{some_same}
use Rattle.ap_ports.specs.Numbers.{IsNumberedNode, number_of_node}
use Rattle.ap_signals.specs.NetRuns.{unit_part}
use Rattle.ap_course.specs.Choices.{port_of_node}
use Rattle.ap_ctl.proofs.Beside.{EachPair-at, EachPair-length}
use Rattle.ap_ctl.proofs.Within.{units_within}
use Rattle.ap_parts.proofs.Lists.{pairs_from}
use Rattle.ap_parts.specs.Known.{known_by}
use Rattle.ap_act.proofs.Lists.{twice_back}
use Rattle.ap_bank.specs.Joins.{AreLate}
use Rattle.ap_bank.specs.declared.bank.FileNets.{FileNets}
use Rattle.ap_front.specs.declared.ports.MemPorts.{MemPorts}
use Rattle.ap_stages.specs.Around.{IsInNone}
use Rattle.ap_stages.specs.Stood.{AreApartSupplies, Stands, StandsRead}
use Rattle.ap_stages.specs.Supplies.{supply_of}
use Rattle.ap_stages.specs.declared.nodes.Supply.{Supply}
use Rattle.ap_stages.specs.declared.nodes.Supply.TheVariants as by
use Rattle.ap_stages.proofs.Around.{stages_leave_names, stages_leave_nodes, unnamed, unused}
use Rattle.ap_supply.specs.Apart.{asked_wires}
use Rattle.ap_supply.specs.Listing.{HasReadNets, HaveReadNets}
use Rattle.ap_supply.specs.Supplies.{IsSupplyOf}
use Rattle.ap_supply.proofs.Served.{few_files, few_mems, file_of}
use Rattle.ap_staged.specs.Standing.{AreNewQuick, StandsFile, StandsMem}
use Rattle.ap_staged.proofs.Led.{leads_have_read_nets}
use Rattle.ap_staged.proofs.Separate.{placed_wires_are_apart}
use Rattle.ap_rest.specs.Idle.{AreNewIdle, HaveQuickModules, IdlesUnits, idle_units}
use Rattle.ap_rest.specs.Reads.{HasIndices, HaveIndices, RestsLate, idle_reads, idle_writes}
use Rattle.ap_rest.specs.Serving.{IsIndexOf}
use Rattle.ap_rest.specs.Standing.{index_wires}
use Rattle.ap_rest.specs.Uses.{is_port_used}
use Rattle.ap_rest.proofs.Fitted.{known_are_quick}
use Rattle.ap_rest.proofs.IdleAll.{idle_quick}
use Rattle.ap_rest.proofs.Standing.{idle_are_nowhere, idle_reads_are_late}
use Rattle.ap_rest.proofs.Used.{unused_are_none}
use Rattle.ap_gen.specs.declared.data.Data.{Data}
use Rattle.ap_gen.specs.declared.start.Start.{Start}
use Rattle.ap_gen.specs.declared.tables.Tables.{Tables}
use Rattle.ap_gen.specs.Started.{KnowsParts}
use Rattle.ap_gen.specs.Tables.{AreTablesOf}
use Rattle.ap_gen.specs.Tops.{HasStages, placed_in, ports_of}
use Rattle.ap_gen.proofs.DataStanding.{files_stand, mems_long, mems_stand, quick_new, supplies_apart}
use Rattle.ap_gen.proofs.RestingWrites.{writes_late}

-- What the calls need over the stages: units that no line uses can be placed, and then read ports and outputs of memories that none uses can be
-- put at rest.
pub record CanRest (design : Design) (modules : List ModuleText) (places : List ℕ) (s : Start) (d : Draft) : Type 0 where
  pub quick : HaveQuickModules design modules places
  pub names : AreNewIdle design d
  pub indices : HaveIndices design s.lead.files
  pub mems : length (ports_of s).mems ≡ length design.mems
  pub reads : (idled : Draft) → IdlesUnits design modules places (idle_units design) d idled → AreLate idled (idle_reads design s.lead.files (ports_of s).mems)
  pub writes : (idled read : Draft) → IdlesUnits design modules places (idle_units design) d idled → RestsLate (idle_reads design s.lead.files (ports_of s).mems) idled read
      → AreLate read (idle_writes design 0 (ports_of s).mems)

module _ (design : Design) (tables : Tables) (modules : List ModuleText) (places : List ℕ) (kinds : ℕ) (s : Start) (made : Data) (d : Draft) (clean : IsClean design) (tabled : AreTablesOf design tables)
    (parts : KnowsParts design modules places kinds) (h : HasStages design tables modules places s made d) where
  -- a node of which no stage is
  nowhere : (x : DesignNode) → IsNumberedNode x → ((stage : ℕ) → IsNodeOf design stage x → ⊥) → IsInNone tables.paths.orders x
  nowhere x numbered none = unused design parts.cards tables.paths.orders x parts.fits tabled.paths.orders numbered none

  -- The names of units that no line uses.
  idle_are_new : AreNewQuick design h.steered → ((unit : ℕ) (u : Resource) → slice_get design.units unit ≡ Some u → unit < 32) → AreNewIdle design d
  idle_are_new quick few unit u at idle =
      let none = nowhere (design_node.Unit unit) (few unit u at) (λ stage is. idle_are_nowhere unused_are_none design unit stage idle is) in
      stages_leave_names design tables.slots.stages tables.merged.choices made.supplies tables.paths.orders modules made.shared made.own.items h.steered d made.stages.items h.makes.staged (unit_part u)
      (IsNotNumbered-other (unit_part u) refl) (unnamed design tables.paths.orders unit u clean at none) (quick unit u at (idle_quick design unit u at idle))

  -- The index of a read port that no line uses is late still.

  read_late : (x : DesignNode) (index value : Wire) → IsNumberedNode x → is_port_used design (port_of_node x) ≡ false → AreApartSupplies made.supplies → supply_of made.supplies (number_of_node x) ≡ Some (by.Read index value)
      → Stands design parts.cards h.steered modules x (by.Read index value) → Stands design parts.cards d modules x (by.Read index value)
  read_late x index value numbered off apart found stands =
      stages_leave_nodes design tables.slots.stages tables.merged.choices made.supplies tables.paths.orders modules made.shared made.own.items h.steered d made.stages.items h.makes.staged clean apart
      parts.cards x (by.Read index value) found (nowhere x numbered (λ stage is. unused_are_none design x stage off is)) stands

  module _ (apart : AreApartSupplies made.supplies) (files : (file : ℕ) (f : File) (nets : FileNets) → slice_get design.files file ≡ Some f → slice_get s.lead.files file ≡ Some nets → StandsFile h.steered f nets)
      (mems : (mem : ℕ) (m : Mem) (q : MemPorts) → slice_get design.mems mem ≡ Some m → slice_get (ports_of s).mems mem ≡ Some q → StandsMem h.steered m q) where
    file_late : (file port : ℕ) (nets : FileNets) (w : Wire) → slice_get s.lead.files file ≡ Some nets → slice_get nets.indices port ≡ Some w → is_port_used design (port_of_node (design_node.FileRead file port)) ≡ false → IsLate d w
    file_late file port nets w at in_it off =
        let have = leads_have_read_nets design tables.slots.stages s.lead h.starts.filed h.starts.leads in
        let of = file_of design s.lead.files file nets clean have at in
        let low = slice_get_within nets.indices port w in_it in
        let few_ports = of.few in
        let long : length nets.indices ≡ of.f.reads = of.indices in
        let many = few_files design clean in
        let within = slice_get_within design.files file of.f of.at in
        let numbered : (file < 8) × (port < 4) = (omega (arith, many, within), omega (arith, low, long, few_ports)) in
        let inside : port < of.f.reads = omega (arith, low, long) in
        let x = design_node.FileRead file port in
        let some = h.makes.all x (of.f, of.at, inside) in
        go some.0 some.1 (h.makes.supplied x some.0 numbered some.1) of.f of.at numbered
      where
        go : (t : Supply) → supply_of made.supplies (number_of_node (design_node.FileRead file port)) ≡ Some t → IsSupplyOf design (placed_in modules places s) (design_node.FileRead file port) t → (f : File) → slice_get design.files file ≡ Some f
            → (file < 8) × (port < 4) → IsLate d w
        go (by.Quick place bits) found of f there numbered = absurd of
        go (by.Slow sel a b y) found of f there numbered = absurd of
        go (by.Read index value) found of f there numbered =
            let same : of.nets ≡ nets = some_same (sym of.made ∙ at) in
            let own : slice_get nets.indices port ≡ Some index = subst (λ (n : FileNets). slice_get n.indices port ≡ Some index) same of.index_at in
            let shown : slice_get nets.shown port ≡ Some value = subst (λ (n : FileNets). slice_get n.shown port ≡ Some value) same of.value_at in
            let (read_of, read_at, still) = read_late (design_node.FileRead file port) index value numbered off apart found (f, there, files file f nets there at port index value own shown) in
            let is : index ≡ w = some_same (sym own ∙ in_it) in
            subst (IsLate d) is still.late

    mem_late : (mem : ℕ) (q : MemPorts) → slice_get (ports_of s).mems mem ≡ Some q → mem < length design.mems → is_port_used design (port_of_node (design_node.MemRead mem)) ≡ false → IsLate d q.read_address
    mem_late mem q at inside off =
        let many = few_mems design clean in
        let numbered : mem < 4 = omega (arith, many, inside) in
        let x = design_node.MemRead mem in
        let some = h.makes.all x inside in
        go some.0 some.1 (h.makes.supplied x some.0 numbered some.1) numbered
      where
        go : (t : Supply) → supply_of made.supplies (number_of_node (design_node.MemRead mem)) ≡ Some t → IsSupplyOf design (placed_in modules places s) (design_node.MemRead mem) t → mem < 4 → IsLate d q.read_address
        go (by.Quick place bits) found of numbered = absurd of
        go (by.Slow sel a b y) found of numbered = absurd of
        go (by.Read index value) found of numbered =
            let same : of.ports ≡ q = some_same (sym of.made ∙ at) in
            let address : index ≡ q.read_address = of.index_is ∙ ap (λ (p : MemPorts). p.read_address) same in
            let read : value ≡ q.read = of.value_is ∙ ap (λ (p : MemPorts). p.read) same in
            let stood : StandsRead h.steered of.of.address of.of.width index value =
            subst (λ i. StandsRead h.steered of.of.address of.of.width i value) (sym address) (subst (λ v. StandsRead h.steered of.of.address of.of.width q.read_address v) (sym read) (mems mem of.of q of.at at)) in
            let (read_of, read_at, still) = read_late (design_node.MemRead mem) index value numbered off apart found (of.of, of.at, stood) in
            subst (IsLate d) address still.late

    index_late : length (ports_of s).mems ≡ length design.mems → (x : DesignNode) (w : Wire) → IsIndexOf s.lead.files (ports_of s).mems x w → is_port_used design (port_of_node x) ≡ false → IsLate d w
    index_late long (design_node.Unit u) w is off = absurd is
    index_late long (design_node.FileRead file port) w (nets, at, in_it) off = file_late file port nets w at in_it off
    index_late long (design_node.MemRead mem) w (q, at, same) off =
        let inside = slice_get_within (ports_of s).mems mem q at in
        subst (IsLate d) same (mem_late mem q at (omega (arith, inside, long)) off)

  -- All of it.

  few_units : (unit : ℕ) (u : Resource) → slice_get design.units unit ≡ Some u → unit < 32
  few_units unit u at = let many = units_within design clean in let low = slice_get_within design.units unit u at in omega (arith, many, low)

  apart_indices : NoneTwice (numbers (index_wires s.lead.files (ports_of s).mems))
  apart_indices =
      let asked : List Wire = flat_map asked_wires s.work.units in
      let indices : List Wire = index_wires s.lead.files (ports_of s).mems in
      let filed = h.starts.filed in
      let all : NoneTwice (numbers (asked ++ indices)) = placed_wires_are_apart design tables.slots.stages s.lead filed filed h.starts.works.united modules places _ s.work.units h.starts.leads (Extends-refl filed) h.starts.works.placed in
      twice_back (numbers asked) (numbers indices) (subst NoneTwice (map-append (λ (w : Wire). w.number) asked indices) all)

  have_indices : HaveIndices design s.lead.files
  have_indices =
      let have : HaveReadNets design s.lead.files = leads_have_read_nets design tables.slots.stages s.lead h.starts.filed h.starts.leads in
      pairs_from HasIndices design.files s.lead.files (EachPair-length HasReadNets design.files s.lead.files have) (λ i f n at there.
      (EachPair-at HasReadNets design.files s.lead.files have i f n at there).indices)

  late_index : (x : DesignNode) (w : Wire) → IsIndexOf s.lead.files (ports_of s).mems x w → is_port_used design (port_of_node x) ≡ false → IsLate d w
  late_index =
      let slots = tables.slots in
      index_late (supplies_apart design slots modules places s h.steered h.starts made.supplies h.makes.entries)
      (λ file f nets at there. EachPair-at (StandsFile h.steered) design.files s.lead.files (files_stand design slots modules places s h.steered h.starts) file f nets at there)
      (λ mem m q at there. EachPair-at (StandsMem h.steered) design.mems (ports_of s).mems (mems_stand design slots modules places s h.steered h.starts) mem m q at there)
      (mems_long design slots modules places s h.steered h.starts)

  pub can_rest : CanRest design modules places s d
  can_rest = record {
    quick = known_are_quick (known_by parts.cards) design modules places kinds parts.known;
    names = idle_are_new (quick_new design tables.slots modules places s h.steered h.starts clean) few_units;
    indices = have_indices;
    mems = mems_long design tables.slots modules places s h.steered h.starts;
    reads = λ idled idles. idle_reads_are_late design idled s.lead.files (ports_of s).mems apart_indices (λ x w is off. idles.adds.late w (late_index x w is off));
    writes = λ idled read idles rests. writes_late design tables modules places s made d clean tabled h idled read idles rests;
  }
