-- The data of the stages of a top follows from the nets on which it stands, and from what was placed for its nodes.
use Rattle.std.proofs.Common.{◌≡◌, ℕ, zero, suc, ◌+◌, ◌<◌, ◌≤◌, List, [], ◌∷◌, ◌++◌, length, map, flat_map, Some, refl, sym, subst, inl, inr, arith}
use Rattle.std.specs.Prelude.{◌⊎◌, slice_get}
use Rattle.std.specs.List.{AllByRecursion as Each}
use Rattle.std.proofs.lemmas.Bool.{cases_lt}
use Rattle.std.proofs.lemmas.Option.{same_Some, slice_get_within}
use Rattle.ap_bits.specs.declared.card.Card.{Card}
use Rattle.ap_ctl.proofs.Beside.{EachFrom-at, EachPair-at}
use Rattle.ap_ctl.proofs.Built.{among_all, among_nets}
use Rattle.ap_desc.proofs.Members.{each_contained}
use Rattle.ap_desc.specs.Chains.{IsNodeOf}
use Rattle.ap_desc.specs.Clean.{FitsCards}
use Rattle.ap_desc.specs.declared.design.Design.{Design}
use Rattle.ap_desc.specs.declared.design.Node.{Node as DesignNode}
use Rattle.ap_desc.specs.declared.design.Node.TheVariants as design_node
use Rattle.ap_merge.specs.declared.table.Select.{Select}
use Rattle.ap_net.specs.declared.cell.Wire.{Wire}
use Rattle.ap_net.specs.Draft.{Draft, Extends}
use Rattle.ap_net.specs.Modules.{ModuleText}
use Rattle.ap_net.specs.Outside.{ports_of as ports_from}
use Rattle.ap_net.specs.Pending.{Among}
use Rattle.ap_net.specs.Ready.{AreReady, Dependence, Ready, ReadyAfter, numbers}
use Rattle.ap_net.proofs.Drafts.{Extends-trans}
use Rattle.ap_net.proofs.Growing.{ReadyAfter-Extends, stays}
use Rattle.ap_net.proofs.Lists.{All-at, All-back, All-from, All-front, All-join, All-map, All-unmap, Each-at}
use Rattle.ap_bank.specs.declared.bank.FileNets.{FileNets}
use Rattle.ap_bank.specs.Placed.{NeedsAsFile}
use Rattle.ap_flight.specs.declared.stage.StageRegisters.{StageRegisters}
use Rattle.ap_flight.specs.Stages.{stage_wires}
use Rattle.ap_front.specs.declared.ports.GroupPorts.{GroupPorts}
use Rattle.ap_front.specs.declared.ports.MemPorts.{MemPorts}
use Rattle.ap_front.specs.Opened.{front_wires}
use Rattle.ap_model.proofs.ListLemmas.{each_flat_map}
use Rattle.ap_parts.specs.Known.{dependence_of, known_by}
use Rattle.ap_ports.proofs.Members.{contains_at}
use Rattle.ap_signals.specs.DesignOutside.{outside_of}
use Rattle.ap_slow.specs.declared.place.SlowPlaced.{SlowPlaced}
use Rattle.ap_slow.proofs.Lates.{among_back, among_front}
use Rattle.ap_stage.specs.declared.chain.Node.{Node}
use Rattle.ap_stage.specs.Reads.{AreReadyAfter}
use Rattle.ap_stage.specs.Served.{IsReadyNode, stage_wires as served_wires}
use Rattle.ap_stages.specs.Own.{nets_of}
use Rattle.ap_stages.specs.Staged.{stage_numbers}
use Rattle.ap_stages.specs.Stages.{AreAllReady, all_nodes}
use Rattle.ap_stages.specs.Supplies.{IsNodeBy, IsNodeFor}
use Rattle.ap_stages.specs.declared.begin.StageNets.{StageNets}
use Rattle.ap_stages.specs.declared.nodes.Supply.{Supply}
use Rattle.ap_stages.specs.declared.nodes.Supply.TheVariants as supply
use Rattle.ap_stages.specs.declared.stage.ServedStage.{ServedStage}
use Rattle.ap_stages.proofs.Around.{each_node}
use Rattle.ap_stages.proofs.Begun.{some_at}
use Rattle.ap_stages.proofs.Making.{node_numbered}
use Rattle.ap_steps.specs.Known.{AgreesAtKnown}
use Rattle.ap_steps.specs.TopOrder.{IsSeen, IsServed, MemNumbers, TopDrafts, TopNumbers, UnitFollows, UnitNumbers, WorkFollows, data_numbers, go_numbers}
use Rattle.ap_steps.proofs.Intervals.{ready_among, sources_are_ready}
use Rattle.ap_supply.specs.Supplies.{IsFileSupply, IsMemSupply, IsSlowSupply, IsSupplyOf}
use Rattle.ap_act.specs.Acting as act
use Rattle.ap_lead.specs.Leading.{given_numbers, mem_read}
use Rattle.ap_lead.specs.Seen.{LeadIsSeen}
use Rattle.ap_lead.specs.Storing.{IsStored, StoresFiles}
use Rattle.ap_lead.proofs.Leaving.{known_files_need}
use Rattle.ap_lead.proofs.SeenNets.{leads_are_seen}
use Rattle.ap_work.specs.Leaving.{GrowsOn}
use Rattle.ap_work.specs.Ordering.{FollowsWork, numbers_of as unit_of}
use Rattle.ap_rest.specs.Serving.{AreServed, UsedAreAmong}
use Rattle.ap_rest.proofs.Serving.{reads_are_served}
use Rattle.ap_gen.specs.declared.tables.Tables.{Tables}
use Rattle.ap_gen.specs.declared.top.Top.{Top}
use Rattle.ap_gen.specs.Tables.{AreTablesOf}
use Rattle.ap_gen.specs.Tops.{MakesData, Tops, control_of, front_of, placed_in, ports_of}
use Rattle.ap_gen.specs.Whole.{drafts_of, numbers_of, registers_of}
use Rattle.ap_gen.proofs.Growing.{work_on}

-- Nets that are known. ---------------------------------------------------------------------------------------------------------------

among_ready : (by : Dependence) (d : Draft) (base ns : List ℕ) → Each (Among base) ns → Each (ReadyAfter by d base) ns
among_ready by d base ns h = All-from (Among base) (ReadyAfter by d base) (λ k a later e all. ready_among by later base all k a) ns h

-- what follows from some nets follows from more
ready_more : (by : Dependence) (d : Draft) (some all : List ℕ) (k : ℕ) → Each (Among all) some → ReadyAfter by d some k → ReadyAfter by d all k
ready_more by d some all k among h later e each = h later e (All-from (Among all) (Ready by later) (λ m a. ready_among by later all each m a) some among)

-- of each stage what holds of the registers of all, and of its conditions what holds of all
stage_each : (P : Wire → Type 0) (registers : List StageRegisters) → Each P (flat_map stage_wires registers) → (k : ℕ) (r : StageRegisters) → slice_get registers k ≡ Some r → Each P (stage_wires r)
stage_each P [] h k r at = absurd cc
stage_each P (x ∷ registers) h zero r at = subst (λ (y : StageRegisters). Each P (stage_wires y)) (same_Some x r at) (All-front P (stage_wires x) (flat_map stage_wires registers) h)
stage_each P (x ∷ registers) h (suc k) r at = stage_each P registers (All-back P (stage_wires x) (flat_map stage_wires registers) h) k r at

conds_each : (P : ℕ → Type 0) (decoded : List (List Wire)) → Each P (flat_map numbers decoded) → (k : ℕ) (ws : List Wire) → slice_get decoded k ≡ Some ws → Each P (numbers ws)
conds_each P [] h k ws at = absurd cc
conds_each P (x ∷ decoded) h zero ws at = subst (λ (y : List Wire). Each P (numbers y)) (same_Some x ws at) (All-front P (numbers x) (flat_map numbers decoded) h)
conds_each P (x ∷ decoded) h (suc k) ws at = conds_each P decoded (All-back P (numbers x) (flat_map numbers decoded) h) k ws at

-- lists that are joined
module _ (a b c d e : List ℕ) where
  abbrev joined : List ℕ
  joined = a ++ (b ++ (c ++ (d ++ e)))

  first : (k : ℕ) → Among a k → Among joined k
  first k h = among_front a (b ++ (c ++ (d ++ e))) k h

  second : (k : ℕ) → Among b k → Among joined k
  second k h = among_back a (b ++ (c ++ (d ++ e))) k (among_front b (c ++ (d ++ e)) k h)

  third : (k : ℕ) → Among c k → Among joined k
  third k h = among_back a (b ++ (c ++ (d ++ e))) k (among_back b (c ++ (d ++ e)) k (among_front c (d ++ e) k h))

  fourth : (k : ℕ) → Among d k → Among joined k
  fourth k h = among_back a (b ++ (c ++ (d ++ e))) k (among_back b (c ++ (d ++ e)) k (among_back c (d ++ e) k (among_front d e k h)))

  fifth : (k : ℕ) → Among e k → Among joined k
  fifth k h = among_back a (b ++ (c ++ (d ++ e))) k (among_back b (c ++ (d ++ e)) k (among_back c (d ++ e) k (among_back d e k h)))

-- what was stored for the file of this number
stored_at : (design : Design) (groups : List GroupPorts) (d : Draft) (files : List FileNets) (old : Draft) → StoresFiles design groups files old d → (file : ℕ) (nets : FileNets) → slice_get files file ≡ Some nets → IsStored design groups d file nets
stored_at design groups d files old h file nets at =
    let plain : 0 + file ≡ file = omega arith in
    subst (λ n. IsStored design groups d n nets) plain (EachFrom-at (IsStored design groups d) 0 files h.each file nets at)

served_later : (by : Dependence) (a b : Draft) (driven : List ℕ) (k : ℕ) → Extends a b → IsServed by a driven k → IsServed by b driven k
served_later by a b driven k e (inl h) = inl h
served_later by a b driven k e (inr h) = inr (ReadyAfter-Extends by a b [] k e h)

module _ (cards : List Card) (design : Design) (tables : Tables) (modules : List ModuleText) (places : List ℕ) (made : Top) (new : Draft) (h : Tops design tables modules places made new) (fits : FitsCards design cards) (are : AreTablesOf design tables)
    (other : Dependence) (agrees : AgreesAtKnown (length (ports_from (outside_of design))) (registers_of made) (dependence_of (known_by cards).names design) other) where
  abbrev t : TopDrafts
  t = drafts_of design tables modules places made new h

  abbrev n : TopNumbers
  n = numbers_of made

  abbrev base : List ℕ
  base = data_numbers n

  abbrev stages : List ServedStage
  stages = made.stages.stages.items

  abbrev units : List SlowPlaced
  units = made.start.work.units

  abbrev steered : Draft
  steered = h.before.before.before.steered

  abbrev filed : Draft
  filed = h.before.before.before.starts.filed

  makes : MakesData design tables modules places made.start made.stages steered h.before.before.staged
  makes = h.before.before.before.makes

  worked : GrowsOn design made.start.work h.before.before.before.starts.works.placed.parts h.before.before.before.starts.works.united h.before.before.before.starts.works.stood h.before.before.before.starts.works.controlled filed steered
  worked = work_on design tables modules places made.start steered h.before.before.before.starts

  united_later : Extends t.united steered
  united_later =
      let w = worked.steps in
      Extends-trans t.united t.stood steered w.1.0.extends (Extends-trans t.stood t.controlled steered w.1.1.0.extends w.1.1.1.0.extends)

  in_front : (k : ℕ) → Among n.front k → Among base k
  in_front = first n.front n.regs n.given n.decoded (go_numbers n)

  in_regs : (k : ℕ) → Among n.regs k → Among base k
  in_regs = second n.front n.regs n.given n.decoded (go_numbers n)

  in_given : (k : ℕ) → Among n.given k → Among base k
  in_given = third n.front n.regs n.given n.decoded (go_numbers n)

  in_decoded : (k : ℕ) → Among n.decoded k → Among base k
  in_decoded = fourth n.front n.regs n.given n.decoded (go_numbers n)

  in_go : (k : ℕ) → Among (go_numbers n) k → Among base k
  in_go = fifth n.front n.regs n.given n.decoded (go_numbers n)

  -- The nets on which the stages stand. ----------------------------------------------------------------------------------------------

  regs_known : Each (Among base) (numbers made.stages.shared.regs)
  regs_known = subst (λ (ws : List Wire). Each (Among base) (numbers ws)) (sym makes.shared.regs_are) (All-from (Among n.regs) (Among base) in_regs n.regs (among_all n.regs))

  inputs_known : Each (Among base) (numbers made.stages.shared.inputs)
  inputs_known =
      let inputs = (ports_of made.start).inputs in
      subst (λ (ws : List Wire). Each (Among base) (numbers ws)) (sym makes.shared.inputs_are) (All-from (Among n.given) (Among base) in_given (numbers inputs) (among_all (given_numbers (ports_of made.start))).1)

  stage_known : (k : ℕ) (r : StageRegisters) → slice_get (front_of made.start).stages k ≡ Some r → Each (λ (w : Wire). Among base w.number) (stage_wires r)
  stage_known k r at =
      let all = flat_map stage_wires (front_of made.start).stages in
      stage_each (λ (w : Wire). Among base w.number) (front_of made.start).stages
      (All-from (λ (w : Wire). Among n.front w.number) (λ (w : Wire). Among base w.number) (λ w a. in_front w.number a) all (among_nets (front_wires (front_of made.start))).1) k r at

  conds_known : (k : ℕ) (ws : List Wire) → slice_get (control_of made.start).decoded k ≡ Some ws → Each (Among base) (numbers ws)
  conds_known k ws at = conds_each (Among base) (control_of made.start).decoded (All-from (Among n.decoded) (Among base) in_decoded n.decoded (among_all n.decoded)) k ws at

  own_known : (k : ℕ) (r : StageRegisters) (ws : List Wire) → slice_get (front_of made.start).stages k ≡ Some r → slice_get (control_of made.start).decoded k ≡ Some ws → Each (Among base) (stage_numbers made.stages.shared (nets_of r ws))
  own_known k r ws at there =
      let own = stage_known k r at in
      let slots = All-map (Among base) (λ (w : Wire). w.number) r.slots own.1.1 in
      All-join (Among base) (numbers ws) (r.word.number ∷ r.place.number ∷ (numbers made.stages.shared.regs ++ (numbers made.stages.shared.inputs ++ numbers r.slots))) (conds_known k ws there) (
        own.0,
        (
          own.1.0,
          All-join (Among base) (numbers made.stages.shared.regs) (numbers made.stages.shared.inputs ++ numbers r.slots) regs_known
              (All-join (Among base) (numbers made.stages.shared.inputs) (numbers r.slots) inputs_known slots),
        ),
      )

  owns_ready : length (control_of made.start).decoded ≡ length (front_of made.start).stages → Each (λ (own : StageNets). AreReadyAfter other steered base (stage_numbers made.stages.shared own)) made.stages.own.items
  owns_ready many = Each-at (λ (own : StageNets). AreReadyAfter other steered base (stage_numbers made.stages.shared own)) made.stages.own.items (λ i own own_at.
      let long = makes.own.long in
      let lt = slice_get_within made.stages.own.items i own own_at in
      let (r, r_at) = some_at (front_of made.start).stages i (omega (arith, long, lt)) in
      let (ws, ws_at) = some_at (control_of made.start).decoded i (omega (arith, long, lt, many)) in
      let same : own ≡ nets_of r ws = makes.own.each i r ws own r_at ws_at own_at in
      subst (λ (o : StageNets). AreReadyAfter other steered base (stage_numbers made.stages.shared o)) (sym same)
      (among_ready other steered base (stage_numbers made.stages.shared (nets_of r ws)) (own_known i r ws r_at ws_at)))

  -- What was placed for the nodes. -----------------------------------------------------------------------------------------------------

  go_among : Each (λ (x : SlowPlaced). Among (go_numbers n) x.inputs.go.number) units
  go_among =
      All-unmap (λ (u : UnitNumbers). Among (go_numbers n) u.go) unit_of units
      (All-unmap (Among (go_numbers n)) (λ (u : UnitNumbers). u.go) (map unit_of units) (among_all (go_numbers n)))

  slow_ready : FollowsWork other t n → (v : ℕ) (sel a b y : Wire) → IsSlowSupply design (placed_in modules places made.start) v sel a b y → ReadyAfter other steered (sel.number ∷ a.number ∷ b.number ∷ base) y.number
  slow_ready work v sel a b y of =
      let x : SlowPlaced = of.placed in
      let u : UnitFollows other t n (unit_of x) = each_contained (λ (z : SlowPlaced). UnitFollows other t n (unit_of z)) units x (All-unmap (UnitFollows other t n) unit_of units work.units) of.among in
      let go : Among base x.inputs.go.number = in_go x.inputs.go.number (each_contained (λ (z : SlowPlaced). Among (go_numbers n) z.inputs.go.number) units x go_among of.among) in
      let needs = x.inputs.sel.number ∷ x.inputs.a.number ∷ x.inputs.b.number ∷ x.inputs.go.number ∷ [] in
      let all = x.inputs.sel.number ∷ x.inputs.a.number ∷ x.inputs.b.number ∷ base in
      let own = ready_more other steered needs all x.outputs.y.number (inl refl, (inr (inl refl), (inr (inr (inl refl)), (inr (inr (inr go)), tt)))) (ReadyAfter-Extends other t.united steered needs x.outputs.y.number united_later u.y) in
      let same : sel.number ∷ a.number ∷ b.number ∷ base ≡ all = λ i. (of.sel_is i).number ∷ (of.a_is i).number ∷ (of.b_is i).number ∷ base in
      subst (λ l. ReadyAfter other steered l y.number) (sym same) (subst (λ (w : Wire). ReadyAfter other steered all w.number) (sym of.y_is) own)

  file_ready : (file port : ℕ) (index value : Wire) → IsFileSupply design (placed_in modules places made.start) file port index value → ReadyAfter other steered (index.number ∷ base) value.number
  file_ready file port index value of =
      let nets : FileNets = of.nets in
      let leads = h.before.before.before.starts.leads in
      let stored : IsStored design (ports_of made.start).groups filed file nets = stored_at design (ports_of made.start).groups filed made.start.lead.files leads.driven leads.stores file nets of.made in
      let needs = subst (NeedsAsFile other) (sym stored.stores.named) (known_files_need cards design other agrees.needs file stored.stores.f stored.stores.at) in
      let one = EachPair-at (λ (i v : Wire). ReadyAfter other stored.after (i.number ∷ []) v.number) nets.indices nets.shown (stored.stores.banks.placed.ready other needs) port index value of.index_at of.value_at in
      ready_more other steered (index.number ∷ []) (index.number ∷ base) value.number (inl refl, tt)
      (ReadyAfter-Extends other stored.after steered (index.number ∷ []) value.number (Extends-trans stored.after filed steered stored.grows worked.extends) one)

  lead_seen : LeadIsSeen other made.start.lead steered
  lead_seen =
      leads_are_seen (dependence_of (known_by cards).names design) other design tables.slots.stages made.start.lead filed steered (control_of made.start).valid h.before.before.before.starts.leads worked.extends refl agrees

  mem_ready : (mem : ℕ) (index value : Wire) → IsMemSupply design (placed_in modules places made.start) mem index value → ReadyAfter other steered (index.number ∷ base) value.number
  mem_ready mem index value of =
      let q : MemPorts = of.ports in
      let mems = (ports_of made.start).mems in
      let seen : IsSeen other steered (q.read_address.number ∷ []) q.read.number = All-at (λ (m : MemPorts). IsSeen other steered (m.read_address.number ∷ []) m.read.number) mems mem q
      (All-unmap (λ (m : MemNumbers). IsSeen other steered (m.at ∷ []) m.value) mem_read mems lead_seen.mems) of.made in
      let own : ReadyAfter other steered (q.read_address.number ∷ base) q.read.number = (λ later e each. sources_are_ready other later q.read.number seen.net (stays steered.nets later.nets e.nets q.read.number seen.net seen.there) seen.source
      (subst (AreReady other later) (sym seen.looks) (each.0, tt))) in
      subst (λ (w : Wire). ReadyAfter other steered (w.number ∷ base) value.number) (sym of.index_is) (subst (λ (w : Wire). ReadyAfter other steered (q.read_address.number ∷ base) w.number) (sym of.value_is) own)

  module _ (work : FollowsWork other t n) where
    supply_ready : (x : DesignNode) (s : Supply) (select : Select) (m : Node) → IsSupplyOf design (placed_in modules places made.start) x s → IsNodeBy design select x s m → IsReadyNode other steered base m
    supply_ready (design_node.Unit v) (supply.Quick place bits) select m of is = subst (IsReadyNode other steered base) (sym is.3) tt
    supply_ready (design_node.Unit v) (supply.Slow sel a b y) select m of is = subst (IsReadyNode other steered base) (sym is) (slow_ready work v sel a b y of)
    supply_ready (design_node.FileRead file port) (supply.Read index value) select m of is = subst (IsReadyNode other steered base) (sym is) (file_ready file port index value of)
    supply_ready (design_node.MemRead mem) (supply.Read index value) select m of is = subst (IsReadyNode other steered base) (sym is) (mem_ready mem index value of)
    supply_ready _ _ select m of is = absurd is

    node_ready : (k : ℕ) (order : List DesignNode) (j : ℕ) (y : DesignNode) (m : Node) → slice_get tables.paths.orders k ≡ Some order → slice_get order j ≡ Some y → IsNodeFor design tables.merged.choices made.stages.supplies y m → IsReadyNode other steered base m
    node_ready k order j y m has y_at for =
        let is_node : IsNodeOf design (k + 1) y = ((are.paths.orders.each k order has).nodes y).0 (contains_at order j y y_at) in
        supply_ready y for.supply for.select m (makes.supplied y for.supply (node_numbered design cards (k + 1) y fits is_node) for.found) for.made

    stages_ready : length (control_of made.start).decoded ≡ length (front_of made.start).stages → AreAllReady other base steered h.before.before.staged stages
    stages_ready many =
        makes.staged.follows other base (owns_ready many)
        (each_node design tables.slots.stages tables.merged.choices made.stages.supplies tables.paths.orders modules made.stages.shared made.stages.own.items steered h.before.before.staged stages makes.staged (IsReadyNode other steered base) node_ready)

    -- All of it. -------------------------------------------------------------------------------------------------------------------------

    rests : (k : ℕ) → length t.idled.nets ≤ k → k < length t.rested.nets → ReadyAfter other t.rested [] k
    rests k low high = go (cases_lt k (length h.before.before.rests.read.nets))
      where
        go : (k < length h.before.before.rests.read.nets) ⊎ (length h.before.before.rests.read.nets ≤ k) → ReadyAfter other t.rested [] k
        go (inl lt) = ReadyAfter-Extends other h.before.before.rests.read t.rested [] k h.before.before.rests.writes.drives.extends (h.before.before.rests.reads.drives.came other k low lt)
        go (inr ge) = h.before.before.rests.writes.drives.came other k ge high

    pub work_follows : length (control_of made.start).decoded ≡ length (front_of made.start).stages → UsedAreAmong design made.start.lead.files (ports_of made.start).mems n.driven → WorkFollows other t n
    work_follows many used =
        let ready = stages_ready many in
        let r = h.before.before.rests in
        let served : AreServed other r.read made.start.lead.files (ports_of made.start).mems n.driven = reads_are_served other design r.read made.start.lead.files (ports_of made.start).mems n.driven r.reads.rest used in
        let later : Extends r.read t.rested = r.writes.drives.extends in
        record {
          decoded = work.decoded;
          hold = work.hold;
          controlled = work.controlled;
          kill = work.kill;
          fires = work.fires;
          units = work.units;
          steered = work.steered;
          staged = ready.came;
          driven = All-map (ReadyAfter other t.staged base) (λ (w : Wire). w.number) (served_wires (all_nodes stages)) ready.wires;
          rows = each_flat_map (ReadyAfter other t.staged base) act.stage_numbers stages ready.rows;
          idled = r.idles.adds.came other;
          rested = rests;
          indices = All-from (IsServed other r.read n.driven) (IsServed other t.rested n.driven) (λ k s. served_later other r.read t.rested n.driven k later s) n.indices served.indices;
          reads = All-map (λ (m : MemNumbers). IsServed other t.rested n.driven m.at) mem_read (ports_of made.start).mems
              (All-from (λ (m : MemPorts). IsServed other r.read n.driven m.read_address.number) (λ (m : MemPorts). IsServed other t.rested n.driven m.read_address.number)
              (λ m s. served_later other r.read t.rested n.driven m.read_address.number later s) (ports_of made.start).mems served.reads);
        }
