-- The stages of a top that was put together, by their numbers.
use Rattle.std.proofs.Common.{◌≡◌, ℕ, zero, suc, ◌+◌, ◌-◌, ◌<◌, ◌≤◌, true, List, Option, None, Some, length, refl, sym, subst, ◌∙◌, arith}
use Rattle.std.specs.Prelude.{slice_get, unwrap_or}
use Rattle.std.proofs.lemmas.Option.{slice_get_within}
use Rattle.ap_bits.specs.declared.card.Card.{Card}
use Rattle.ap_desc.specs.Clean.{FitsCards}
use Rattle.ap_desc.specs.declared.design.Design.{Design}
use Rattle.ap_net.specs.Draft.{Draft}
use Rattle.ap_net.specs.Modules.{ModuleText}
use Rattle.ap_signals.specs.NetSignals.{is_slow_unit_of}
use Rattle.ap_pipe.specs.Slots.{AreSlotsOf}
use Rattle.ap_stage.specs.declared.chain.Node.TheVariants as node
use Rattle.ap_stage.specs.declared.serve.SlowUnit.{SlowUnit}
use Rattle.ap_stages.specs.declared.stage.ServedStage.{ServedStage}
use Rattle.ap_border.specs.Files.{HasFiles}
use Rattle.ap_data.specs.Stage.{IsStageOf}
use Rattle.ap_data.specs.Units.{JoinsUnit}
use Rattle.ap_ctl.proofs.Within.{units_within}
use Rattle.ap_front.proofs.Flying.{there}
use Rattle.ap_front.specs.Driven.{at_stage, no_registers}
use Rattle.ap_parts.specs.Known.{AreKnown, HasParts, known_by}
use Rattle.ap_built.specs.Front.{IsFrontBuilt, kept_in}
use Rattle.ap_asked.specs.Served.{HasWires}
use Rattle.ap_built.specs.Top.{JoinsBanks}
use Rattle.ap_staged.specs.Led.{BanksReads, LeadsNameShared}
use Rattle.ap_staged.specs.Ports.{IsPlacedIn, JoinsPlaced}
use Rattle.ap_staged.specs.Stages.{MakesStage, StagedAreOf, StagedStandOver, StandsOver}
use Rattle.ap_staged.specs.Together.{EachWasMade, MakesStages}
use Rattle.ap_work.specs.Serving.{ServesBorder, WorksUnit}
use Rattle.ap_work.specs.Working.{StandsControlled}
use Rattle.ap_gen.specs.declared.tables.Tables.{Tables}
use Rattle.ap_gen.specs.declared.top.Top.{Top}
use Rattle.ap_gen.specs.Tops.{Tops, control_of, front_of, placed_in}
use Rattle.ap_gen.proofs.BuiltGrown.{filed_on, first_on, ports_at, staged_on}
use Rattle.ap_gen.proofs.DataShared.{decoded_long}

-- Of a list what stands for a stage is at its place, and else it is what stands for none.

pub found_at : {X : Type 0} (none : X) (list : List X) (stage : ℕ) → 1 ≤ stage → stage ≤ length list → slice_get list (stage - 1) ≡ Some (at_stage none list stage)
found_at none list zero low high = absurd (omega (arith, low))
found_at none list (suc place) low high =
    let before : place ≡ suc place - 1 = omega arith in
    subst (λ n. slice_get list n ≡ Some (unwrap_or (slice_get list place) none)) before (there list place none (omega (arith, high)))

or_else : {X : Type 0} (none : X) (list : List X) (k place : ℕ) (o : Option X) → slice_get list k ≡ Some none → slice_get list place ≡ o → (n : ℕ) × (slice_get list n ≡ Some (unwrap_or o none))
or_else none list k place None here e = (k, here)
or_else none list k place (Some x) here e = (place, e)

pub somewhere : {X : Type 0} (none : X) (list : List X) (k stage : ℕ) → slice_get list k ≡ Some none → (n : ℕ) × (slice_get list n ≡ Some (at_stage none list stage))
somewhere none list k zero here = (k, here)
somewhere none list k (suc place) here = or_else none list k place (slice_get list place) here refl

module _ (design : Design) (tables : Tables) (modules : List ModuleText) (places : List ℕ) (made : Top) (new : Draft) (h : Tops design tables modules places made new) where
  -- for a number of no stage the one in which transfers are made
  abbrev pub stage_at : ℕ → ServedStage
  stage_at stage = at_stage h.before.acts.transfers.served made.stages.stages.items stage

  pub stage_found : (stage : ℕ) → 1 ≤ stage → stage ≤ design.stages - 1 → slice_get made.stages.stages.items (stage - 1) ≡ Some (stage_at stage)
  stage_found stage low high = let count = h.before.before.before.makes.count in found_at h.before.acts.transfers.served made.stages.stages.items stage low (omega (arith, high, count))

  module _ (name : LeadsNameShared) (each : EachWasMade) (control : StandsControlled design made.start.work new) (slots : AreSlotsOf design tables.slots) where
    stages_made : MakesStages design new tables.slots (front_of made.start) (control_of made.start) (placed_in modules places made.start) made.stages.stages.items
    stages_made =
        let starts = h.before.before.before.starts in
        let makes = h.before.before.before.makes in
        record {
          choices = tables.merged.choices;
          supplies = made.stages.supplies;
          orders = tables.paths.orders;
          shared = made.stages.shared;
          owns = made.stages.own.items;
          old = h.before.before.before.steered;
          new = h.before.before.staged;
          staged = makes.staged;
          supplied = makes.supplied;
          named = name design tables.slots.stages made.start.lead starts.filed new made.stages.shared starts.leads (filed_on design tables modules places made new h) makes.shared;
          over = makes.own;
          decodes = decoded_long design tables.slots.stages made.start.lead starts.filed new starts.leads (first_on design tables modules places made new h) (control_of made.start).decoded slots.count control.nets.there.decoded_count;
          later = staged_on design tables modules places made new h;
        }

    pub stage_made : (stage : ℕ) (s : ServedStage) → 1 ≤ stage → slice_get made.stages.stages.items (stage - 1) ≡ Some s
        → MakesStage design new tables.slots (front_of made.start) (control_of made.start) (placed_in modules places made.start) stage s.ground s.courses.items s.nodes.items
    stage_made stage s low at = each design new tables.slots (front_of made.start) (control_of made.start) (placed_in modules places made.start) made.stages.stages.items stages_made stage s low at

    stands_over : StagedStandOver → (stage : ℕ) (s : ServedStage) → 1 ≤ stage → slice_get made.stages.stages.items (stage - 1) ≡ Some s → StandsOver (front_of made.start) (placed_in modules places made.start) stage s.ground s.nodes.items
    stands_over over stage s low at =
        over design new tables.slots (front_of made.start) (control_of made.start) (placed_in modules places made.start) stage s.ground s.courses.items s.nodes.items (stage_made stage s low at)

    pub words_are : StagedStandOver → (stage : ℕ) → 1 ≤ stage → stage ≤ design.stages - 1
        → ((stage_at stage).ground).word ≡ (at_stage no_registers (front_of made.start).stages stage).word
    words_are over stage low high = (stands_over over stage (stage_at stage) low (stage_found stage low high)).word_is

    pub places_are : StagedStandOver → (stage : ℕ) → 1 ≤ stage → stage ≤ design.stages - 1
        → ((stage_at stage).ground).place ≡ (at_stage no_registers (front_of made.start).stages stage).place
    places_are over stage low high = (stands_over over stage (stage_at stage) low (stage_found stage low high)).place_is

    -- the ports of several cycles, be the stage one or none
    port_placed : StagedStandOver → (stage place : ℕ) (x : SlowUnit) → slice_get (stage_at stage).nodes.items place ≡ Some (node.Slow x) → x.port < 32
        → JoinsPlaced (placed_in modules places made.start) x
    port_placed over stage place x at few =
        let (n, here) = somewhere h.before.acts.transfers.served made.stages.stages.items (design.branch - 1) stage h.before.acts.transfers.served_at in
        let before : n ≡ n + 1 - 1 = omega arith in
        let s : ServedStage = stage_at stage in
        (stands_over over (n + 1) s (omega arith) (subst (λ k. slice_get made.stages.stages.items k ≡ Some s) before here)).joins place x at few

    module _ (cards other : List Card) (exchange : List ModuleText) (fits : FitsCards design other) (has : HasParts (known_by cards) other design exchange) where
      pub are_joined : StagedStandOver → (served : ServesBorder (known_by cards) other design new exchange made.start.work) (stage unit : ℕ) (is : is_slow_unit_of design stage unit ≡ true) (place : ℕ) (x : SlowUnit)
          → slice_get (stage_at stage).nodes.items place ≡ Some (node.Slow x) → x.port ≡ unit → JoinsUnit new exchange ((served.units stage unit is).gives.has).k x
      are_joined over served stage unit is place x at same =
          let w : WorksUnit other design new exchange made.start.work stage unit = served.units stage unit is in
          let inside = slice_get_within design.units unit w.gives.has.resource w.gives.has.at in
          let most = units_within design fits.clean in
          let j = port_placed over stage place x at (omega (arith, inside, most, same)) in
          let own : w.x ≡ j.placed = w.only j.placed j.among (j.own ∙ same) in
          subst (λ k. JoinsUnit new exchange k x) (sym w.gives.part) (w.joins x (subst (HasWires x) (sym own) j.wires))

      module _ (kinds : ℕ) (known : AreKnown (known_by cards) design modules places kinds) (banks : BanksReads design new exchange made.start.lead.files) where
        placed : IsPlacedIn (known_by cards) design new exchange banks.banks (placed_in modules places made.start)
        placed = record {
          kinds = kinds;
          known = known;
          reads = banks.reads;
          mems_are = (ports_at design tables modules places made new h new (first_on design tables modules places made new h)).mems;
        }

        pub are_stages : StagedAreOf → IsFrontBuilt design new exchange tables.slots (front_of made.start) made.flow.comings made.flow.fetching made.start.work.given (control_of made.start)
            → (files : HasFiles design new exchange) → JoinsBanks design new exchange banks.banks files → (stage : ℕ) → 1 ≤ stage → stage ≤ design.stages - 1
            → IsStageOf design other new exchange files modules (kept_in design tables.slots.stages) stage (stage_at stage).ground
            (stage_at stage).courses.items (stage_at stage).nodes.items
        are_stages of front files joins stage low high =
            let s : ServedStage = stage_at stage in
            of (known_by cards) other design new exchange tables.slots (front_of made.start) made.flow.comings made.flow.fetching made.start.work.given (control_of made.start) banks.banks (placed_in modules places made.start)
            fits has front placed files joins stage s.ground s.courses.items s.nodes.items low high (stage_made stage s low (stage_found stage low high))
