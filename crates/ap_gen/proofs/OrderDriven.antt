-- What the stages of a top drive: the wires that reach units of several cycles, and the indices of read ports.
use Rattle.std.proofs.Common.{◌≡◌, ◌≢◌, ℕ, zero, suc, ◌+◌, ◌-◌, ◌<◌, ◌≤◌, Bool, true, false, if◌then◌else◌, List, [], ◌∷◌, length, map, Some, refl, sym, ap, subst, ◌∙◌, arith}
use Rattle.std.specs.Prelude.{◌==◌, ◌&&◌, filter, slice_get}
use Rattle.std.specs.List.{AllByRecursion as Each, range_with_len}
use Rattle.std.proofs.lemmas.Bool.{and_parts, eqb-true}
use Rattle.std.proofs.lemmas.Option.{same_Some, slice_get_within}
use Rattle.ap_bits.specs.declared.card.Card.{Card}
use Rattle.ap_ctl.specs.Given.{is_slow_unit, is_used_in}
use Rattle.ap_ctl.proofs.Built.{among_nets}
use Rattle.ap_desc.proofs.Members.{contains_in, in_any}
use Rattle.ap_desc.specs.Chains.{IsChainOrder, IsNodeOf, node_of}
use Rattle.ap_desc.specs.Clean.{FitsCards}
use Rattle.ap_desc.specs.Ports.{micros_in}
use Rattle.ap_desc.specs.declared.design.Act.{Act}
use Rattle.ap_desc.specs.declared.design.Act.TheVariants as act
use Rattle.ap_desc.specs.declared.design.Design.{Design}
use Rattle.ap_desc.specs.declared.design.Micro.{Micro}
use Rattle.ap_desc.specs.declared.design.Node.{Node as DesignNode}
use Rattle.ap_desc.specs.declared.design.Node.TheVariants as design_node
use Rattle.ap_desc.specs.declared.design.Unit.{Unit as Resource}
use Rattle.ap_model.specs.UnitUse.{is_use_of}
use Rattle.ap_net.specs.declared.cell.Wire.{Wire}
use Rattle.ap_net.specs.Draft.{Draft}
use Rattle.ap_net.specs.Modules.{ModuleText}
use Rattle.ap_net.specs.Pending.{Among}
use Rattle.ap_net.specs.Ready.{numbers}
use Rattle.ap_net.specs.Wiring.{NoneTwice}
use Rattle.ap_net.proofs.Lists.{All-at, All-back, All-front, All-unmap, Each-at, some_same}
use Rattle.ap_ports.proofs.Members.{any_at, contains_at, place_of}
use Rattle.ap_rest.specs.Serving.{DrivesStage, IsIndexOf, ServeIndices, StagesDriveUsed, UsedAreAmong}
use Rattle.ap_slow.specs.declared.place.SlowPlaced.{SlowPlaced}
use Rattle.ap_slow.specs.Driven.{unit_stage}
use Rattle.ap_slow.specs.Placed.{IsPlaced}
use Rattle.ap_slow.proofs.Stage.{stage_uses}
use Rattle.ap_stage.specs.Served.{stage_wires}
use Rattle.ap_stages.specs.Stages.{all_nodes}
use Rattle.ap_stages.specs.Stood.{wires_with}
use Rattle.ap_stages.specs.declared.nodes.Supply.{Supply}
use Rattle.ap_stages.specs.declared.nodes.Supply.TheVariants as by
use Rattle.ap_stages.specs.declared.stage.ServedStage.{ServedStage}
use Rattle.ap_stages.proofs.Around.{nodes_are_driven}
use Rattle.ap_stages.proofs.Begun.{some_at}
use Rattle.ap_stages.proofs.Making.{node_numbered}
use Rattle.ap_stages.proofs.Together.{wires_both}
use Rattle.ap_supply.specs.Supplies.{IsSupplyOf}
use Rattle.ap_work.specs.Ordering.{IsDrivenByStage, IsDrivenIn}
use Rattle.ap_gen.specs.declared.tables.Tables.{Tables}
use Rattle.ap_gen.specs.declared.top.Top.{Top}
use Rattle.ap_gen.specs.Tables.{AreTablesOf}
use Rattle.ap_gen.specs.Tops.{MakesData, Tops, placed_in, ports_of}

-- No two units of several cycles have one number. ----------------------------------------------------------------------------------

each_filter : (P : ℕ → Type 0) (p : ℕ → Bool) (xs : List ℕ) → Each P xs → Each P (filter p xs)
each_filter P p [] h = tt
each_filter P p (x ∷ xs) h = go (p x) (each_filter P p xs h.1)
  where
    go : (b : Bool) → Each P (filter p xs) → Each P (if b then x ∷ filter p xs else filter p xs)
    go true more = (h.0, more)
    go false more = more

once_filter : (p : ℕ → Bool) (xs : List ℕ) → NoneTwice xs → NoneTwice (filter p xs)
once_filter p [] h = tt
once_filter p (x ∷ xs) h = go (p x) (each_filter (λ n. n ≢ x) p xs h.0) (once_filter p xs h.1)
  where
    go : (b : Bool) → Each (λ n. n ≢ x) (filter p xs) → NoneTwice (filter p xs) → NoneTwice (if b then x ∷ filter p xs else filter p xs)
    go true other more = (other, more)
    go false other more = more

above_range : (n low count : ℕ) → n < low → Each (λ m. m ≢ n) (range_with_len low count)
above_range n low zero lt = tt
above_range n low (suc count) lt = ((λ e. absurd (omega (arith, lt, e))), above_range n (low + 1) count (omega (arith, lt)))

once_range : (low count : ℕ) → NoneTwice (range_with_len low count)
once_range low zero = tt
once_range low (suc count) = (above_range low (low + 1) count (omega arith), once_range (low + 1) count)

one_unit : (made : List SlowPlaced) → NoneTwice (map (λ (x : SlowPlaced). x.unit) made) → (i j : ℕ) (a b : SlowPlaced) → slice_get made i ≡ Some a → slice_get made j ≡ Some b → a.unit ≡ b.unit → a ≡ b
one_unit [] h i j a b at there same = absurd cc
one_unit (z ∷ made) h zero zero a b at there same = some_same (sym at ∙ there)
one_unit (z ∷ made) h zero (suc j) a b at there same =
    let first : z ≡ a = some_same at in
    let others = All-unmap (λ n. n ≢ z.unit) (λ (x : SlowPlaced). x.unit) made h.0 in
    absurd (All-at (λ (x : SlowPlaced). x.unit ≢ z.unit) made j b others there (sym same ∙ ap (λ (x : SlowPlaced). x.unit) (sym first)))
one_unit (z ∷ made) h (suc i) zero a b at there same =
    let first : z ≡ b = some_same there in
    let others = All-unmap (λ n. n ≢ z.unit) (λ (x : SlowPlaced). x.unit) made h.0 in
    absurd (All-at (λ (x : SlowPlaced). x.unit ≢ z.unit) made i a others at (same ∙ ap (λ (x : SlowPlaced). x.unit) (sym first)))
one_unit (z ∷ made) h (suc i) (suc j) a b at there same = one_unit made h.1 i j a b at there same

-- A unit that lines of a stage use is a node of it. ----------------------------------------------------------------------------------

use_named : (unit : ℕ) (a : Act) → is_use_of unit a ≡ true → node_of a ≡ Some (design_node.Unit unit)
use_named unit (act.Compute other op l r) h = ap (λ n. Some (design_node.Unit n)) (eqb-true other unit h)
use_named unit _ h = absurd cc

used_is_node : (design : Design) (stage unit : ℕ) → is_used_in design stage unit ≡ true → IsNodeOf design stage (design_node.Unit unit)
used_is_node design stage unit h =
    let (i, m, at, is) = any_at (λ (l : Micro). (l.stage == stage) && is_use_of unit l.act) (micros_in design) h in
    let parts = and_parts (m.stage == stage) (is_use_of unit m.act) is in
    in_any (λ (l : Micro). (l.stage ≡ stage) × (node_of l.act ≡ Some (design_node.Unit unit))) (micros_in design) m
    (contains_in (micros_in design) m (contains_at (micros_in design) i m at)) (eqb-true m.stage stage parts.0, use_named unit m.act parts.1)

-- The wires of one stage are among those of all. ---------------------------------------------------------------------------------------

in_stage : (P : Wire → Type 0) (stages : List ServedStage) → Each P (stage_wires (all_nodes stages)) → (k : ℕ) (s : ServedStage) → slice_get stages k ≡ Some s → Each P (stage_wires s.nodes.items)
in_stage P [] h k s at = absurd cc
in_stage P (x ∷ stages) h zero s at =
    subst (λ (z : ServedStage). Each P (stage_wires z.nodes.items)) (same_Some x s at)
    (All-front P (stage_wires x.nodes.items) (stage_wires (all_nodes stages)) (subst (Each P) (wires_both x.nodes.items (all_nodes stages)) h))
in_stage P (x ∷ stages) h (suc k) s at = in_stage P stages (All-back P (stage_wires x.nodes.items) (stage_wires (all_nodes stages)) (subst (Each P) (wires_both x.nodes.items (all_nodes stages)) h)) k s at

module _ (cards : List Card) (design : Design) (tables : Tables) (modules : List ModuleText) (places : List ℕ) (made : Top) (new : Draft) (h : Tops design tables modules places made new) (fits : FitsCards design cards) (are : AreTablesOf design tables) where
  abbrev stages : List ServedStage
  stages = made.stages.stages.items

  abbrev driven : List ℕ
  driven = numbers (stage_wires (all_nodes stages))

  abbrev units : List SlowPlaced
  units = made.start.work.units

  makes : MakesData design tables modules places made.start made.stages h.before.before.before.steered h.before.before.staged
  makes = h.before.before.before.makes

  once : NoneTwice (map (λ (x : SlowPlaced). x.unit) units)
  once = subst NoneTwice (sym h.before.before.before.starts.works.placed.are) (once_filter (is_slow_unit design) (range_with_len 0 (length design.units)) (once_range 0 (length design.units)))

  by_supply : (x : SlowPlaced) (i : ℕ) → slice_get units i ≡ Some x → IsPlaced design modules places h.before.before.before.starts.works.united x → (s : Supply) → IsSupplyOf design (placed_in modules places made.start) (design_node.Unit x.unit) s
      → Each (λ (w : Wire). Among driven w.number) (wires_with s) → Among driven x.inputs.sel.number × Among driven x.inputs.a.number × Among driven x.inputs.b.number
  by_supply x i at placed (by.Quick place bits) of wires =
      let same : of.resource ≡ placed.resource = some_same (sym of.at ∙ placed.at) in
      let quick : (placed.resource).latency ≤ 1 = subst (λ (r : Resource). r.latency ≤ 1) same of.fast in
      let slow = placed.slow in
      absurd (omega (arith, quick, slow))
  by_supply x i at placed (by.Slow sel a b y) of wires =
      let (j, there) = place_of units of.placed of.among in
      let same : of.placed ≡ x = one_unit units once j i of.placed x there at of.own in (
        subst (λ (w : Wire). Among driven w.number) (of.sel_is ∙ ap (λ (z : SlowPlaced). z.inputs.sel) same) wires.0,
        subst (λ (w : Wire). Among driven w.number) (of.a_is ∙ ap (λ (z : SlowPlaced). z.inputs.a) same) wires.1.0,
        subst (λ (w : Wire). Among driven w.number) (of.b_is ∙ ap (λ (z : SlowPlaced). z.inputs.b) same) wires.1.1.0,
      )
  by_supply x i at placed (by.Read index value) of wires = absurd of

  unit_driven : (i : ℕ) (x : SlowPlaced) → slice_get units i ≡ Some x → IsDrivenByStage design driven x
  unit_driven i x at = go (unit_stage design x.unit) refl
    where
      go : (s : ℕ) → unit_stage design x.unit ≡ s → IsDrivenIn driven s x
      go zero e = tt
      go (suc s) e =
          let u = stage_uses design x.unit s e in
          let high = u.high in
          let count = are.paths.orders.count in
          let node : DesignNode = design_node.Unit x.unit in
          let is_node = used_is_node design (suc s) x.unit u.used in
          let (order, order_at) = some_at tables.paths.orders s (omega (arith, count, high)) in
          let next : s + 1 ≡ suc s = omega arith in
          let chain : IsChainOrder design (suc s) order = subst (λ k. IsChainOrder design k order) next (are.paths.orders.each s order order_at) in
          let (j, there) = place_of order node ((chain.nodes node).1 is_node) in
          let placed = All-at (IsPlaced design modules places h.before.before.before.starts.works.united) units i x h.before.before.before.starts.works.placed.each at in
          let (t, found) = makes.all node (slice_get_within design.units x.unit placed.resource placed.at) in
          let of = makes.supplied node t (node_numbered design cards (suc s) node fits is_node) found in
          by_supply x i at placed t of
          (nodes_are_driven design tables.slots.stages tables.merged.choices made.stages.supplies tables.paths.orders modules made.stages.shared made.stages.own.items h.before.before.before.steered h.before.before.staged stages makes.staged
          (makes.count ∙ sym count) s order j node t order_at there found)

  pub units_driven : Each (IsDrivenByStage design driven) units
  units_driven = Each-at (IsDrivenByStage design driven) units unit_driven

  -- Indices. ----------------------------------------------------------------------------------------------------------------------

  drives_stage : (stage : ℕ) → 1 ≤ stage → stage ≤ design.stages - 1 → DrivesStage design made.stages.supplies driven stage
  drives_stage stage low high =
      let count = makes.count in
      let (z, z_at) = some_at stages (stage - 1) (omega (arith, low, high, count)) in
      let m = makes.staged.each (stage - 1) z z_at in
      let same : stage - 1 + 1 ≡ stage = omega (arith, low) in
      record {
        order = m.order;
        chain = subst (λ k. IsChainOrder design k m.order) same (are.paths.orders.each (stage - 1) m.order m.has_order);
        choices = tables.merged.choices;
        nodes = z.nodes.items;
        ports = m.staged.ports;
        among = in_stage (λ (w : Wire). Among driven w.number) stages (among_nets (stage_wires (all_nodes stages))) (stage - 1) z z_at;
      }

  index_of : (x : DesignNode) (index value : Wire) → IsSupplyOf design (placed_in modules places made.start) x (by.Read index value) → IsIndexOf made.start.lead.files (ports_of made.start).mems x index
  index_of (design_node.Unit unit) index value of = absurd of
  index_of (design_node.FileRead file port) index value of = (of.nets, of.made, of.index_at)
  index_of (design_node.MemRead mem) index value of = (of.ports, of.made, sym of.index_is)

  serve_indices : ServeIndices made.start.lead.files (ports_of made.start).mems made.stages.supplies
  serve_indices x index value numbered found = index_of x index value (makes.supplied x (by.Read index value) numbered found)

  pub used_among : StagesDriveUsed → UsedAreAmong design made.start.lead.files (ports_of made.start).mems driven
  used_among law = law design made.start.lead.files (ports_of made.start).mems made.stages.supplies driven fits.clean serve_indices drives_stage
