-- What was placed stands, so that nodes can be served with it.
use Rattle.std.proofs.Common.{◌≡◌, ℕ, ◌≤◌, ◌^◌, List, [], ◌∷◌, ◌++◌, length, map, sym, ap, subst, ◌∙◌}
use Rattle.std.specs.Prelude.{if◌then◌else◌}
use Rattle.std.specs.List.{AllByRecursion as Each}
use Rattle.std.proofs.lemmas.Bool.{le-ltb}
use Rattle.ap_bits.specs.Cards.{select_width}
use Rattle.ap_bits.specs.declared.card.Card.{Card}
use Rattle.ap_bits.specs.declared.card.Latency.TheVariants.{One, WidthPlusOne}
use Rattle.ap_bits.proofs.LeastPowers.{select_width_is_least}
use Rattle.ap_ctl.proofs.Beside.{EachPair-at}
use Rattle.ap_desc.proofs.Members.{each_contained}
use Rattle.ap_desc.specs.Clean.{FitsCards}
use Rattle.ap_desc.specs.declared.design.Design.{Design}
use Rattle.ap_desc.specs.declared.design.Node.{Node as DesignNode}
use Rattle.ap_desc.specs.declared.design.Node.TheVariants as design_node
use Rattle.ap_desc.specs.declared.design.Unit.{Unit as Resource}
use Rattle.ap_net.specs.declared.cell.Wire.{Wire}
use Rattle.ap_net.specs.declared.net.ModuleNet.{ModuleNet}
use Rattle.ap_net.specs.declared.net.Port.{Port}
use Rattle.ap_net.specs.Draft.{Draft}
use Rattle.ap_net.specs.Modules.{IsModule, ModuleText, port_net, reg_net, wire_net}
use Rattle.ap_net.proofs.Lists.{All-at, All-from, All-front, some_same}
use Rattle.ap_parts.specs.Known.{AreKnown, HasParts, HasUnitNamed, Knows, StandsThere, known_ports}
use Rattle.ap_slow.specs.declared.place.SlowPlaced.{SlowPlaced}
use Rattle.ap_unit.specs.Units.{ports_by}
use Rattle.ap_stages.specs.Stood.{HasStanding, Stands, StandsQuick, StandsRead, StandsSlow}
use Rattle.ap_stages.specs.declared.nodes.Supplied.{Supplied}
use Rattle.ap_stages.specs.declared.nodes.Supply.{Supply}
use Rattle.ap_stages.specs.declared.nodes.Supply.TheVariants as by
use Rattle.ap_supply.specs.Supplies.{AreSupplied, AreSuppliesOf, IsQuickSupply, IsSlowSupply, IsSupplyOf, Placed}
use Rattle.ap_staged.specs.Standing.{IsNumberedIn, StandsFile, StandsIn, StandsMem, StandsPlaced, SuppliesStand}

-- a number of bits that a net may have
abbrev Fits : ModuleNet → Type 0
Fits n = (1 ≤ n.width) × (n.width ≤ 64)

abbrev first_width : List Port → ℕ
first_width [] = 0
first_width (p ∷ ports) = p.width

-- the bits of a kept module's first port are those of a net
select_fits : (m : ModuleText) (bits width : ℕ) → IsModule m → m.ports ≡ ports_by One bits width → (1 ≤ bits) × (bits ≤ 64)
select_fits m bits width kept ports =
    let all : Each Fits (map port_net m.ports) = All-front Fits (map port_net m.ports) (map wire_net m.wires) (All-front Fits (map port_net m.ports ++ map wire_net m.wires) (map reg_net m.regs) kept.wired.widths) in
    let own : Each Fits (map port_net (ports_by One bits width)) = subst (λ (ps : List Port). Each Fits (map port_net ps)) ports all in
    own.0

module _ (knows : Knows) (cards : List Card) (design : Design) (d : Draft) (p : Placed) (kinds : ℕ) (fits : FitsCards design cards) (parts : HasParts knows cards design p.modules) (known : AreKnown knows design p.modules p.places kinds)
    (stand : StandsIn design cards d p) where
  quick_stands : (unit place bits : ℕ) → IsQuickSupply design p unit place bits → StandsQuick design cards d p.modules unit place bits
  quick_stands unit place bits h =
      let u : Resource = h.resource in
      let has : HasUnitNamed cards p.modules (knows.names u) (knows.selects u) u = parts.units unit u h.at in
      let there : StandsThere p.modules place (knows.names u) (known_ports knows u) = EachPair-at (λ (x : Resource) (k : ℕ). StandsThere p.modules k (knows.names x) (known_ports knows x)) design.units p.places known.units unit u place h.at h.there in
      let same : there.whole ≡ h.whole = some_same (sym there.at ∙ h.stands) in
      let ports : known_ports knows u ≡ ports_by One bits u.width = sym there.has ∙ ap (λ (m : ModuleText). m.ports) same ∙ h.ports in
      let quick : known_ports knows u ≡ ports_by One (knows.selects u) u.width = ap (λ b. ports_by (if b then WidthPlusOne else One) (knows.selects u) u.width) (le-ltb 1 u.latency h.fast) in
      let select : select_width has.card ≡ bits = has.same ∙ ap first_width (sym quick ∙ ports) in
      let kept : IsModule h.whole = All-at IsModule p.modules place h.whole parts.each h.stands in
      let wide = select_fits h.whole bits u.width kept h.ports in
      record {
        has = record {
          unit = u;
          at = h.at;
          card = has.card;
          kind = has.at;
          some = wide.0;
          most = wide.1;
          room = subst (λ n. length has.card.ops ≤ 2 ^ n) select (select_width_is_least (length has.card.ops)).room;
        };
        whole = h.whole;
        there = h.stands;
        ports = h.ports;
        new = stand.quick unit u h.at h.fast;
      }

  slow_stands : (unit : ℕ) (sel a b y : Wire) (h : IsSlowSupply design p unit sel a b y) → StandsSlow design cards d unit sel a b y
  slow_stands unit sel a b y h =
      let x : SlowPlaced = h.placed in
      let own : StandsPlaced design cards d x = each_contained (StandsPlaced design cards d) p.slow x stand.slow_stand h.among in
      subst (StandsSlow design cards d unit sel a b) (sym h.y_is)
      (subst (λ w. StandsSlow design cards d unit sel a w x.outputs.y) (sym h.b_is)
      (subst (λ w. StandsSlow design cards d unit sel w x.inputs.b x.outputs.y) (sym h.a_is)
      (subst (λ w. StandsSlow design cards d unit w x.inputs.a x.inputs.b x.outputs.y) (sym h.sel_is)
      (subst (λ v. StandsSlow design cards d v x.inputs.sel x.inputs.a x.inputs.b x.outputs.y) h.own own))))

  stands_by : (x : DesignNode) (s : Supply) → IsSupplyOf design p x s → Stands design cards d p.modules x s
  stands_by (design_node.Unit unit) (by.Quick place bits) h = quick_stands unit place bits h
  stands_by (design_node.Unit unit) (by.Slow sel a b y) h = slow_stands unit sel a b y h
  stands_by (design_node.Unit unit) (by.Read index value) h = absurd h
  stands_by (design_node.FileRead file port) (by.Read index value) h =
      let own : StandsFile d h.of h.nets = EachPair-at (StandsFile d) design.files p.files stand.files_stand file h.of h.nets h.at h.made in
      (h.of, h.at, own port index value h.index_at h.value_at)
  stands_by (design_node.FileRead file port) (by.Quick place bits) h = absurd h
  stands_by (design_node.FileRead file port) (by.Slow sel a b y) h = absurd h
  stands_by (design_node.MemRead mem) (by.Read index value) h =
      let own : StandsMem d h.of h.ports = EachPair-at (StandsMem d) design.mems p.mems stand.mems_stand mem h.of h.ports h.at h.made in
      (h.of, h.at, subst (λ w. StandsRead d h.of.address h.of.width w value) (sym h.index_is) (subst (StandsRead d h.of.address h.of.width h.ports.read_address) (sym h.value_is) own))
  stands_by (design_node.MemRead mem) (by.Quick place bits) h = absurd h
  stands_by (design_node.MemRead mem) (by.Slow sel a b y) h = absurd h

  has_standing : (supplies : List Supplied) → AreSuppliesOf design p supplies → AreSupplied design supplies → (x : DesignNode) → IsNumberedIn design x → HasStanding design cards d p.modules supplies x
  has_standing supplies of all x h =
      let (s, found) = all x h.inside in
      record { supply = s; found = found; stands = stands_by x s (of x s h.numbered found) }

pub supplies_stand : SuppliesStand
supplies_stand knows cards design d p kinds supplies order fits parts known stand of all nodes = record {
  cards = cards;
  fits = fits;
  each = All-from (IsNumberedIn design) (HasStanding design cards d p.modules supplies) (has_standing knows cards design d p kinds fits parts known stand supplies of all) order nodes;
}
