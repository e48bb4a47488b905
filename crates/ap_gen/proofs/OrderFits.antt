-- The instances of a top that was put together of its parts are instances of any modules that have the design's parts.
use Rattle.std.proofs.Common.{◌≡◌, ◌≢◌, ℕ, zero, suc, List, [], ◌∷◌, ◌++◌, map, flat_map, Some, refl, sym, ap, subst, ◌∙◌, arith}
use Rattle.std.specs.Prelude.{slice_get}
use Rattle.std.specs.List.{AllByRecursion as Each}
use Rattle.std.proofs.lemmas.Option.{same_Some, slice_get_within}
use Rattle.ap_bits.specs.declared.card.Card.{Card}
use Rattle.ap_ctl.proofs.Within.{units_within}
use Rattle.ap_desc.specs.Clean.{FitsCards}
use Rattle.ap_desc.specs.declared.design.Design.{Design}
use Rattle.ap_desc.specs.declared.design.Node.{Node as DesignNode}
use Rattle.ap_desc.specs.declared.design.Node.TheVariants as design_node
use Rattle.ap_desc.specs.declared.design.Unit.{Unit as Resource}
use Rattle.ap_merge.specs.declared.table.Select.{Select}
use Rattle.ap_net.specs.declared.net.Instance.{Instance}
use Rattle.ap_net.specs.Draft.{Draft, Extends, IsKept, names_of}
use Rattle.ap_net.specs.Modules.{Connects, IsInstanceIn, ModuleText, module_named}
use Rattle.ap_net.specs.Names.{AreDistinct}
use Rattle.ap_net.specs.Wiring.{taken_names}
use Rattle.ap_net.proofs.Drafts.{Extends-trans}
use Rattle.ap_net.proofs.Growing.{stays}
use Rattle.ap_net.proofs.Lists.{All-at, All-join, Each-at, some_same}
use Rattle.ap_parts.specs.Known.{AreKnown, HasParts, Knows, StandsThere, known_by, known_ports}
use Rattle.ap_parts.proofs.KnownParts.{instances_fit, units_are_found}
use Rattle.ap_parts.proofs.Lists.{pair_at}
use Rattle.ap_ports.specs.Numbers.{number_of_node}
use Rattle.ap_rest.specs.Idle.{idle_units}
use Rattle.ap_rest.proofs.Fitted.{idle_fit_parts}
use Rattle.ap_stage.specs.declared.chain.Node.{Node}
use Rattle.ap_stage.specs.declared.node.Course.{Course}
use Rattle.ap_stage.specs.declared.source.Ground.{Ground}
use Rattle.ap_stage.specs.Chained.{IsServedNode}
use Rattle.ap_stage.specs.Served.{names_placed, stage_names}
use Rattle.ap_stages.specs.Stages.{all_nodes}
use Rattle.ap_stages.specs.Supplies.{IsNodeBy, supply_of}
use Rattle.ap_stages.specs.declared.nodes.Supply.{Supply}
use Rattle.ap_stages.specs.declared.nodes.Supply.TheVariants as by
use Rattle.ap_stages.specs.declared.stage.ServedStage.{ServedStage}
use Rattle.ap_stages.proofs.Leaving.{names_each, node_at}
use Rattle.ap_stages.proofs.Names.{mapped_at}
use Rattle.ap_steps.specs.Steps.{placed_by}
use Rattle.ap_steps.specs.TopOrder.{steps_of}
use Rattle.ap_lead.proofs.Led.{files_are_instances}
use Rattle.ap_work.proofs.Grown.{work_fits_parts}
use Rattle.ap_gen.specs.declared.tables.Tables.{Tables}
use Rattle.ap_gen.specs.declared.top.Top.{Top}
use Rattle.ap_gen.specs.Tops.{MakesData, Tops, front_of, ports_of}
use Rattle.ap_gen.specs.Whole.{TopsFitParts, drafts_of}
use Rattle.ap_gen.proofs.Growing.{Grown, acts_grow}
use Rattle.ap_gen.proofs.OrderGrowth.{flow_grows}

-- Lists. ----------------------------------------------------------------------------------------------------------------------------

each_flat : {X Y : Type 0} (P : Y → Type 0) (f : X → List Y) (xs : List X) → ((k : ℕ) (x : X) → slice_get xs k ≡ Some x → Each P (f x)) → Each P (flat_map f xs)
each_flat P f [] h = tt
each_flat P f (x ∷ xs) h = All-join P (f x) (flat_map f xs) (h 0 x refl) (each_flat P f xs (λ k y at. h (suc k) y at))

right_at : {X : Type 0} (xs ys : List X) (j : ℕ) (y : X) → slice_get ys j ≡ Some y → (k : ℕ) × (slice_get (xs ++ ys) k ≡ Some y)
right_at [] ys j y at = (j, at)
right_at (x ∷ xs) ys j y at = let (k, there) = right_at xs ys j y at in (suc k, there)

one_place : (names : List (List ℕ)) → AreDistinct names → (i j : ℕ) (a : List ℕ) → slice_get names i ≡ Some a → slice_get names j ≡ Some a → i ≡ j
one_place [] h i j a at there = absurd cc
one_place (x ∷ names) h zero zero a at there = refl
one_place (x ∷ names) h zero (suc j) a at there = absurd (All-at (λ other. other ≢ x) names j a h.0 there (sym (same_Some x a at)))
one_place (x ∷ names) h (suc i) zero a at there = absurd (All-at (λ other. other ≢ x) names i a h.0 at (sym (same_Some x a there)))
one_place (x ∷ names) h (suc i) (suc j) a at there = ap suc (one_place names h.1 i j a at there)

name_at : (d : Draft) (k : ℕ) (i : Instance) → slice_get d.instances k ≡ Some i → slice_get (names_of d) k ≡ Some i.name
name_at d k i at = stays (map (λ (x : Instance). x.name) d.instances) (names_of d) (taken_names d.nets, refl) k i.name (mapped_at (λ (x : Instance). x.name) d.instances k i at)

-- an instance of this name stands in the draft, and is one of these modules
record HasInstance (d : Draft) (modules : List ModuleText) (name : List ℕ) : Type 0 where
  place : ℕ
  of : Instance
  at : slice_get d.instances place ≡ Some of
  named : of.name ≡ name
  own : IsInstanceIn modules of

module _ (cards other : List Card) (design : Design) (tables : Tables) (modules exchange : List ModuleText) (places : List ℕ) (kinds : ℕ) (made : Top) (new : Draft) (fits : FitsCards design cards) (known : AreKnown (known_by cards) design modules places kinds)
    (kept : IsKept new) (fits_other : FitsCards design other) (has_other : HasParts (known_by cards) other design exchange) (h : Tops design tables modules places made new) where
  abbrev knows : Knows
  knows = known_by cards

  abbrev steered : Draft
  steered = h.before.before.before.steered

  abbrev staged : Draft
  staged = h.before.before.staged

  abbrev stages : List ServedStage
  stages = made.stages.stages.items

  abbrev makes : MakesData design tables modules places made.start made.stages steered staged
  makes = h.before.before.before.makes

  -- an instance of the module at a unit's place
  quick_fits : (v : ℕ) (u : Resource) (place : ℕ) (m : ModuleText) (i : Instance) → slice_get design.units v ≡ Some u → slice_get places v ≡ Some place → slice_get modules place ≡ Some m → Connects m i → IsInstanceIn exchange i
  quick_fits v u place m i at there m_at connects =
      let (p, p_at, first) = pair_at (λ (x : Resource) (q : ℕ). StandsThere modules q (knows.names x) (known_ports knows x)) design.units places known.units v u at in
      let k : StandsThere modules place (knows.names u) (known_ports knows u) = subst (λ q. StandsThere modules q (knows.names u) (known_ports knows u)) (some_same (sym p_at ∙ there)) first in
      let is : k.whole ≡ m = some_same (sym k.at ∙ m_at) in
      let f = units_are_found knows other design exchange fits_other has_other v u at in
      let named : m.name ≡ knows.names u = ap (λ (x : ModuleText). x.name) (sym is) ∙ k.named in
      let ports : m.ports ≡ known_ports knows u = ap (λ (x : ModuleText). x.ports) (sym is) ∙ k.has in
      instances_fit exchange m i connects (record { whole = f.whole; found = ap (module_named exchange) named ∙ f.found; has = f.has ∙ sym ports })

  -- the instances of the ports of a stage
  node_fits : (a : Draft) (ground : Ground) (courses : List Course) → Extends a new → (x : DesignNode) (s : Supply) (select : Select) (n : Node) → supply_of made.stages.supplies (number_of_node x) ≡ Some s → IsNodeBy design select x s n → IsServedNode a ground modules courses n
      → Each (HasInstance new exchange) (names_placed n)
  node_fits a ground courses later (design_node.Unit v) (by.Quick place bits) select n found is served =
      let u : Resource = is.0 in
      let q = subst (IsServedNode a ground modules courses) is.3 served in
      let within = slice_get_within design.units v u is.1 in
      let few = units_within design fits.clean in
      let of = makes.supplied (design_node.Unit v) (by.Quick place bits) (omega (arith, within, few)) found in
      subst (λ m. Each (HasInstance new exchange) (names_placed m)) (sym is.3)
      (record { place = q.k; of = q.of; at = stays a.instances new.instances later.instances q.k q.of q.placed; named = q.is_unit.named; own = quick_fits v u place q.m q.of is.1 of.there q.is_module q.is_unit.connects }, tt)
  node_fits a ground courses later (design_node.Unit v) (by.Slow sel l r y) select n found is served = subst (λ m. Each (HasInstance new exchange) (names_placed m)) (sym is) tt
  node_fits a ground courses later (design_node.FileRead file port) (by.Read index value) select n found is served = subst (λ m. Each (HasInstance new exchange) (names_placed m)) (sym is) tt
  node_fits a ground courses later (design_node.MemRead mem) (by.Read index value) select n found is served = subst (λ m. Each (HasInstance new exchange) (names_placed m)) (sym is) tt
  node_fits a ground courses later _ _ select n found is served = absurd is

  staged_later : Extends staged new
  staged_later =
      let g : Grown design tables modules places made.start made.stages staged h.before.before.before h.acted = acts_grow design tables modules places made.start made.stages made.target h.acted h.before in
      Extends-trans staged h.acted new g.later.extends (flow_grows cards design tables modules places made new h).extends

  stage_fits : (k : ℕ) (s : ServedStage) → slice_get stages k ≡ Some s → (j : ℕ) (n : Node) → slice_get s.nodes.items j ≡ Some n → Each (HasInstance new exchange) (names_placed n)
  stage_fits k s at j n there =
      let m = makes.staged.each k s at in
      let (y, y_at, for) = node_at design tables.merged.choices made.stages.supplies m.order s.nodes.items m.staged.ports j n there in
      node_fits m.after s.ground s.courses.items (Extends-trans m.after staged new m.ends.extends staged_later) y for.supply for.select n for.found for.made
      (All-at (IsServedNode m.after s.ground modules s.courses.items) s.nodes.items j n m.staged.all.served there)

  all_fit : Each (λ (n : Node). Each (HasInstance new exchange) (names_placed n)) (all_nodes stages)
  all_fit =
      each_flat (λ (n : Node). Each (HasInstance new exchange) (names_placed n)) (λ (s : ServedStage). s.nodes.items) stages
      (λ k s at. Each-at (λ (n : Node). Each (HasInstance new exchange) (names_placed n)) s.nodes.items (stage_fits k s at))

  names_fit : Each (HasInstance new exchange) (stage_names (all_nodes stages))
  names_fit = names_each (HasInstance new exchange) (all_nodes stages) (λ k n at. All-at (λ (m : Node). Each (HasInstance new exchange) (names_placed m)) (all_nodes stages) k n all_fit at)

  quick_fit : Each (IsInstanceIn exchange) makes.staged.serves.placed
  quick_fit = Each-at (IsInstanceIn exchange) makes.staged.serves.placed (λ j i at.
      let name_there : slice_get (stage_names (all_nodes stages)) j ≡ Some i.name = ap (λ l. slice_get l j) (sym makes.staged.serves.named) ∙ mapped_at (λ (x : Instance). x.name) makes.staged.serves.placed j i at in
      let f = All-at (HasInstance new exchange) (stage_names (all_nodes stages)) j i.name names_fit name_there in
      let (k, k_at) = right_at steered.instances makes.staged.serves.placed j i at in
      let own : slice_get new.instances k ≡ Some i = stays staged.instances new.instances staged_later.instances k i (ap (λ l. slice_get l k) makes.staged.serves.serves.instances ∙ k_at) in
      let same : k ≡ f.place = one_place (names_of new) kept.connected.distinct k f.place i.name (name_at new k i own) (name_at new f.place f.of f.at ∙ ap Some f.named) in
      let is : f.of ≡ i = same_Some f.of i (sym f.at ∙ sym (ap (slice_get new.instances) same) ∙ own) in
      subst (IsInstanceIn exchange) is f.own)

  fit : Each (IsInstanceIn exchange) (placed_by (steps_of (drafts_of design tables modules places made new h)))
  fit =
      let starts = h.before.before.before.starts in
      let idles = h.before.before.rests.idles in
      let files = files_are_instances knows other design exchange tables.slots.stages made.start.lead starts.filed has_other starts.leads in
      let slow = work_fits_parts knows other design (front_of made.start) (ports_of made.start) modules places kinds exchange made.start.work starts.filed steered known fits_other has_other starts.works in
      let idle = idle_fit_parts units_are_found instances_fit knows other design modules places kinds exchange (idle_units design) staged h.before.before.rests.idled known fits_other has_other idles in
      All-join (IsInstanceIn exchange) starts.leads.stores.placed (starts.works.placed.parts ++ (makes.staged.serves.placed ++ (idles.placed ++ []))) files
      (All-join (IsInstanceIn exchange) starts.works.placed.parts (makes.staged.serves.placed ++ (idles.placed ++ [])) slow
      (All-join (IsInstanceIn exchange) makes.staged.serves.placed (idles.placed ++ []) quick_fit
      (All-join (IsInstanceIn exchange) idles.placed [] idle tt)))

pub tops_fit_parts : TopsFitParts
tops_fit_parts cards other design tables modules exchange places kinds made new fits has known kept fits_other has_other h =
    fit cards other design tables modules exchange places kinds made new fits known kept fits_other has_other h
