-- The units of a top that stand where its stages are to be made: those of one cycle can be placed, those of several cycles wait for their stage.
use Rattle.std.proofs.Common.{◌≡◌, ◌≢◌, ℕ, ◌-◌, ◌<◌, ◌≤◌, ◌^◌, ◌==◌, true, false, List, [], ◌∷◌, ◌++◌, length, map, Option, Some, refl, sym, ap, subst, ◌∙◌, arith}
use Rattle.std.specs.Prelude.{◌&&◌, Contains, if◌then◌else◌, slice_get}
use Rattle.std.specs.List.{AllByRecursion as Each}
use Rattle.std.specs.Option.{option_map_or}
use Rattle.std.proofs.lemmas.Bool.{and_from, eq-eqb, eqb-false, le-ltb}
use Rattle.ap_bits.specs.Cards.{select_width}
use Rattle.ap_bits.specs.declared.card.Card.{Card}
use Rattle.ap_bits.specs.declared.card.Latency.TheVariants.{One, WidthPlusOne}
use Rattle.ap_bits.proofs.LeastPowers.{select_width_is_least}
use Rattle.ap_ctl.proofs.Beside.{EachPair-at}
use Rattle.ap_ctl.specs.Given.{is_used_in}
use Rattle.ap_desc.proofs.Members.{any_in, each_contained, in_contains}
use Rattle.ap_desc.specs.Chains.{IsNodeOf, node_of}
use Rattle.ap_desc.specs.Clean.{FitsCards, IsClean}
use Rattle.ap_desc.specs.Ports.{micros_in}
use Rattle.ap_desc.specs.declared.design.Act.{Act}
use Rattle.ap_desc.specs.declared.design.Act.TheVariants as act
use Rattle.ap_desc.specs.declared.design.Design.{Design}
use Rattle.ap_desc.specs.declared.design.Micro.{Micro}
use Rattle.ap_desc.specs.declared.design.Node.TheVariants as design_node
use Rattle.ap_desc.specs.declared.design.Unit.{Unit as Resource}
use Rattle.ap_model.specs.UnitUse.{is_use_of}
use Rattle.ap_net.specs.declared.cell.Wire.{Wire}
use Rattle.ap_net.specs.declared.net.ModuleNet.{ModuleNet}
use Rattle.ap_net.specs.declared.net.Port.{Port}
use Rattle.ap_net.specs.Draft.{Draft, Extends, names_of}
use Rattle.ap_net.specs.Modules.{IsModule, ModuleText, port_net, reg_net, wire_net}
use Rattle.ap_net.specs.Names.{IsNew, IsNotNumbered}
use Rattle.ap_net.specs.Ready.{numbers}
use Rattle.ap_net.specs.Wiring.{NoneTwice}
use Rattle.ap_net.proofs.Drafts.{Extends-trans}
use Rattle.ap_net.proofs.Laws.{IsNotNumbered-other}
use Rattle.ap_net.proofs.Lists.{All-at, All-front, some_same}
use Rattle.ap_front.specs.declared.ports.Ports.{Ports}
use Rattle.ap_front.specs.declared.registers.Registers.{Registers}
use Rattle.ap_parts.specs.Known.{AreKnown, HasParts, HasUnitNamed, Knows, StandsThere, known_ports}
use Rattle.ap_ports.proofs.Members.{at_any, place_of}
use Rattle.ap_signals.specs.NetRuns.{unit_part}
use Rattle.ap_slow.specs.declared.place.SlowPlaced.{SlowPlaced}
use Rattle.ap_slow.specs.Placed.{IsPlaced, late_nets, part_name}
use Rattle.ap_slow.proofs.DrivenAll.{next_apart}
use Rattle.ap_stages.specs.Stood.{StandsQuick, StandsSlow}
use Rattle.ap_stages.proofs.Names.{units_named_once}
use Rattle.ap_supply.specs.Apart.{asked_wires}
use Rattle.ap_supply.specs.Supplies.{IsQuickSupply, IsSlowSupply, Placed}
use Rattle.ap_staged.specs.Standing.{AreNewQuick, StandsPlaced}
use Rattle.ap_staged.proofs.Stood.{placed_units_stand}
use Rattle.ap_unit.specs.Units.{ports_by}
use Rattle.ap_work.specs.declared.work.Work.{Work}
use Rattle.ap_work.specs.Working.{Works}
use Rattle.ap_work.proofs.Waiting.{work_leaves_late}

-- Units of one cycle. -------------------------------------------------------------------------------------------------------

abbrev first_width : List Port → ℕ
first_width [] = 0
first_width (p ∷ ports) = p.width

-- a number of bits that a net may have
abbrev Fits : ModuleNet → Type 0
Fits n = (1 ≤ n.width) × (n.width ≤ 64)

-- the bits of a kept module's first port are those of a net
select_fits : (m : ModuleText) (bits width : ℕ) → IsModule m → m.ports ≡ ports_by One bits width → (1 ≤ bits) × (bits ≤ 64)
select_fits m bits width kept ports =
    let all : Each Fits (map port_net m.ports) = All-front Fits (map port_net m.ports) (map wire_net m.wires) (All-front Fits (map port_net m.ports ++ map wire_net m.wires) (map reg_net m.regs) kept.wired.widths) in
    let own : Each Fits (map port_net (ports_by One bits width)) = subst (λ (ps : List Port). Each Fits (map port_net ps)) ports all in
    own.0

-- one whose name is new can be placed, over modules that have the design's parts and that the top knows
pub quick_stands : (knows : Knows) (cards : List Card) (design : Design) (d : Draft) (p : Placed) (kinds unit place bits : ℕ)
    → HasParts knows cards design p.modules → AreKnown knows design p.modules p.places kinds → AreNewQuick design d
    → IsQuickSupply design p unit place bits → StandsQuick design cards d p.modules unit place bits
quick_stands knows cards design d p kinds unit place bits parts known new h =
    let u : Resource = h.resource in
    let has : HasUnitNamed cards p.modules (knows.names u) (knows.selects u) u = parts.units unit u h.at in
    let there : StandsThere p.modules place (knows.names u) (known_ports knows u) = EachPair-at (λ (x : Resource) (k : ℕ). StandsThere p.modules k (knows.names x) (known_ports knows x)) design.units p.places known.units unit u place h.at h.there in
    let same : there.whole ≡ h.whole = some_same (sym there.at ∙ h.stands) in
    let ports : known_ports knows u ≡ ports_by One bits u.width = sym there.has ∙ ap (λ (m : ModuleText). m.ports) same ∙ h.ports in
    let quick : known_ports knows u ≡ ports_by One (knows.selects u) u.width = ap (λ b. ports_by (if b then WidthPlusOne else One) (knows.selects u) u.width) (le-ltb 1 u.latency h.fast) in
    let select : select_width has.card ≡ bits = has.same ∙ ap first_width (sym quick ∙ ports) in
    let wide = select_fits h.whole bits u.width (All-at IsModule p.modules place h.whole parts.each h.stands) h.ports in
    record {
      has = record {
        unit = u;
        at = h.at;
        card = has.card;
        kind = has.at;
        some = wide.0;
        most = wide.1;
        room = subst (λ n. length has.card.ops ≤ 2 ^ n) select (select_width_is_least (length has.card.ops)).room;
      };
      whole = h.whole;
      there = h.stands;
      ports = h.ports;
      new = new unit u h.at h.fast;
    }

head_differs : (a b : ℕ) (xs ys : List ℕ) → (a == b) ≡ false → a ∷ xs ≡ b ∷ ys → ⊥
head_differs a b xs ys d e = let same : a ≡ b = cc in eqb-false a b d same

-- no unit of several cycles has the name of one of one cycle
others_named : (design : Design) (modules : List ModuleText) (places : List ℕ) (d : Draft) (unit : ℕ) (u : Resource) → IsClean design
    → slice_get design.units unit ≡ Some u → u.latency ≤ 1 → (made : List SlowPlaced) → Each (IsPlaced design modules places d) made
    → Each (λ part. part ≢ unit_part u) (map (part_name design) (map (λ (x : SlowPlaced). x.unit) made))
others_named design modules places d unit u clean at fast [] h = tt
others_named design modules places d unit u clean at fast (x ∷ made) h = (differs, others_named design modules places d unit u clean at fast made h.1)
  where
    own : part_name design x.unit ≡ unit_part h.0.resource
    own = ap (λ (o : Option Resource). option_map_or unit_part o []) h.0.at

    differs : part_name design x.unit ≢ unit_part u
    differs e =
        let same : x.unit ≡ unit = units_named_once design clean x.unit unit h.0.resource u h.0.at at (sym own ∙ e) in
        let one : h.0.resource ≡ u = some_same (sym h.0.at ∙ ap (slice_get design.units) same ∙ at) in
        let slow : 1 < u.latency = subst (λ (r : Resource). 1 < r.latency) one h.0.slow in
        absurd (omega (arith, slow, fast))

-- Units of several cycles. --------------------------------------------------------------------------------------------------

uses_unit : (unit : ℕ) (a : Act) → node_of a ≡ Some (design_node.Unit unit) → is_use_of unit a ≡ true
uses_unit unit (act.Compute other op a b) e = let same : other ≡ unit = cc in eq-eqb other unit same
uses_unit unit _ e = absurd cc

-- a unit among the nodes of a stage is used there
unit_used : (design : Design) (stage unit : ℕ) → IsNodeOf design stage (design_node.Unit unit) → is_used_in design stage unit ≡ true
unit_used design stage unit is_node =
    let (m, there, is) = any_in (λ (l : Micro). (l.stage ≡ stage) × (node_of l.act ≡ Some (design_node.Unit unit))) (micros_in design) is_node in
    let (k, at) = place_of (micros_in design) m (in_contains (micros_in design) m there) in
    at_any (λ (l : Micro). (l.stage == stage) && is_use_of unit l.act) (micros_in design) k m at (and_from (m.stage == stage) (is_use_of unit m.act) (eq-eqb m.stage stage is.0) (uses_unit unit m.act is.1))

-- The second part. ------------------------------------------------------------------------------------------------------------

module _ (design : Design) (r : Registers) (ports : Ports) (modules : List ModuleText) (places : List ℕ) (made : Work) (old d : Draft) (h : Works design r ports modules places made old d) where
  united_later : Extends h.united d
  united_later = Extends-trans h.united h.stood d h.declares.adds.extends (Extends-trans h.stood h.controlled d h.adds.extends h.drives.drives.extends)

  -- it leaves the names of units of one cycle new
  pub quick_are_new : IsClean design → ((u : Resource) → IsNew (unit_part u) (names_of old)) → AreNewQuick design d
  quick_are_new clean new unit u at fast =
      let plain : IsNotNumbered (unit_part u) = IsNotNumbered-other (unit_part u) refl in
      let parts = subst (λ l. Each (λ part. part ≢ unit_part u) (map (part_name design) l)) h.placed.are (others_named design modules places h.united unit u clean at fast made.units h.placed.each) in
      let united = h.placed.adds.names (unit_part u) plain parts (new u) in
      let stood = h.declares.adds.names (unit_part u) plain tt united in
      h.drives.drives.names (unit_part u) plain (h.adds.names (unit_part u) plain (λ stage low high e. head_differs 118 117 _ _ refl e) stood)

  -- no two wires of a unit are one
  asked_none : (x : SlowPlaced) → NoneTwice (numbers (late_nets x)) → NoneTwice (numbers (asked_wires x))
  asked_none x none = ((none.0.0, (none.0.1.0, tt)), ((none.1.0.0, tt), (tt, tt)))

  -- and a unit that a stage uses stands over its wires
  pub slow_stands : (knows : Knows) (cards : List Card) (kinds : ℕ) → FitsCards design cards → HasParts knows cards design modules
      → AreKnown knows design modules places kinds → (p : Placed) (stage unit : ℕ) (sel a b y : Wire) → p.slow ≡ made.units
      → 1 ≤ stage → stage ≤ design.stages - 1 → IsNodeOf design stage (design_node.Unit unit) → IsSlowSupply design p unit sel a b y
      → StandsSlow design cards d unit sel a b y
  slow_stands knows cards kinds fits parts known p stage unit sel a b y same low high is_node k =
      let x : SlowPlaced = k.placed in
      let among = subst (λ l. Contains l x) same k.among in
      let (i, at) = place_of made.units x among in
      let placed : IsPlaced design modules places h.united x = each_contained (IsPlaced design modules places h.united) made.units x h.placed.each among in
      let used : is_used_in design stage x.unit ≡ true = subst (λ n. is_used_in design stage n ≡ true) (sym k.own) (unit_used design stage unit is_node) in
      let late = (work_leaves_late design r ports modules places made old d h).used x among stage low high used in
      let own : StandsPlaced design cards d x = placed_units_stand knows cards design h.united d modules places kinds x fits parts known placed united_later late (asked_none x (next_apart made.units i x at h.placed.apart)) in
      subst (StandsSlow design cards d unit sel a b) (sym k.y_is)
      (subst (λ w. StandsSlow design cards d unit sel a w x.outputs.y) (sym k.b_is)
      (subst (λ w. StandsSlow design cards d unit sel w x.inputs.b x.outputs.y) (sym k.a_is)
      (subst (λ w. StandsSlow design cards d unit w x.inputs.a x.inputs.b x.outputs.y) (sym k.sel_is)
      (subst (λ v. StandsSlow design cards d v x.inputs.sel x.inputs.a x.inputs.b x.outputs.y) k.own own))))
