-- Units of several cycles and memories stand as they were placed and declared.
use Rattle.std.proofs.Common.{◌≡◌, ℕ, ◌≤◌, ◌^◌, true, List, [], ◌∷◌, length, map, Some, refl, sym, ap, subst, ◌∙◌}
use Rattle.std.specs.Prelude.{codes, slice_get}
use Rattle.std.specs.List.{AllByRecursion as Each}
use Rattle.ap_bits.specs.Cards.{select_width}
use Rattle.ap_bits.specs.declared.card.Latency.TheVariants.{WidthPlusOne}
use Rattle.ap_bits.proofs.LeastPowers.{select_width_is_least}
use Rattle.ap_ctl.proofs.Beside.{EachPair-at}
use Rattle.ap_ctl.specs.Lists.{EachPair}
use Rattle.ap_desc.specs.declared.design.Mem.{Mem}
use Rattle.ap_desc.specs.declared.design.Unit.{Unit as Resource}
use Rattle.ap_front.specs.declared.ports.MemPorts.{MemPorts}
use Rattle.ap_front.specs.Ports.{AreMemPorts}
use Rattle.ap_front.proofs.PortNets.{port_is_net}
use Rattle.ap_net.specs.declared.cell.Wire.{Wire}
use Rattle.ap_net.specs.declared.net.Port.{Port}
use Rattle.ap_net.specs.Cells.{IsNet}
use Rattle.ap_net.specs.Draft.{Draft, Extends, IsKept}
use Rattle.ap_net.specs.Late.{IsLate}
use Rattle.ap_net.specs.Modules.{ModuleText}
use Rattle.ap_net.specs.Outside.{input, mem_name}
use Rattle.ap_net.specs.Readings.{Carries}
use Rattle.ap_net.proofs.Laws.{Carries-Extends}
use Rattle.ap_net.proofs.Lists.{some_same}
use Rattle.ap_parts.specs.Known.{HasUnitNamed, StandsThere, known_ports}
use Rattle.ap_parts.proofs.KnownPorts.{slow_ports}
use Rattle.ap_signals.specs.DesignOutside.{mem_shape}
use Rattle.ap_stage.specs.Trees.{IsShallow, output, source}
use Rattle.ap_stage.proofs.Shallow.{shallow_on}
use Rattle.ap_unit.specs.Units.{ports_by}
use Rattle.ap_staged.specs.Standing.{DeclaredMemsStand, PlacedUnitsStand, StandsMem}

abbrev select_bits : List Port → ℕ
select_bits [] = 0
select_bits (p ∷ ports) = p.width

pub net_on : {a b : Draft} → Extends a b → (w : Wire) → IsNet a.nets w → IsNet b.nets w
net_on {a} {b} e w h = (Carries-Extends e anything).net
  where
    anything : Carries a w.width (λ r x. Unit {0}) w
    anything = record { net = h; wide = refl; means = record { holds = λ r s. tt } }

pub placed_units_stand : PlacedUnitsStand
placed_units_stand knows cards design a d own places kinds x fits parts known h e late apart =
    let u : Resource = h.resource in
    let unit = h.stands in
    let has : HasUnitNamed cards own (knows.names u) (knows.selects u) u = parts.units x.unit u h.at in
    let there : StandsThere own h.there.place (knows.names u) (known_ports knows u) = EachPair-at (λ (v : Resource) (k : ℕ). StandsThere own k (knows.names v) (known_ports knows v)) design.units places known.units x.unit u h.there.place h.at h.there.there in
    let same : there.whole ≡ h.whole = some_same (sym there.at ∙ h.there.at) in
    let ports : ports_by WidthPlusOne (knows.selects u) u.width ≡ ports_by WidthPlusOne x.inputs.sel.width x.inputs.a.width = sym (slow_ports knows u h.slow) ∙ sym there.has ∙ ap (λ (m : ModuleText). m.ports) same ∙ unit.ports in
    let select : select_width has.card ≡ x.inputs.sel.width = has.same ∙ ap select_bits ports in
    let shows : slice_get unit.of.nets 6 ≡ Some x.outputs.y = ap (λ (ws : List Wire). slice_get ws 6) unit.joined in
    let drives : slice_get unit.of.drives 6 ≡ Some true = ap (λ bs. slice_get bs 6) unit.connects.drives ∙ ap (λ (ps : List Port). slice_get (map (λ (q : Port). q.output) ps) 6) unit.ports in
    let low : IsShallow a 0 x.outputs.y.number = output 0 x.outputs.y.number unit.k 6 unit.of x.outputs.y unit.placed shows drives refl in
    record {
      has = record {
        unit = u;
        at = h.at;
        card = has.card;
        kind = has.at;
        some = unit.inputs.sel.low;
        most = unit.inputs.sel.high;
        room = subst (λ n. length has.card.ops ≤ 2 ^ n) select (select_width_is_least (length has.card.ops)).room;
      };
      sel_late = late.0;
      a_late = late.1.0;
      b_late = late.1.1.0;
      sel_a = λ same. apart.0.0 (sym same);
      sel_b = λ same. apart.0.1.0 (sym same);
      a_b = λ same. apart.1.0.0 (sym same);
      a_wide = unit.wide;
      b_wide = unit.inputs.operands.same ∙ unit.wide;
      y_wide = unit.result;
      given = record { net = net_on e x.outputs.y unit.y; low = shallow_on a d 0 x.outputs.y.number e low };
    }

-- the address is driven later, and what is read is an input
mem_stands : (d : Draft) (m : Mem) (q : MemPorts) → IsKept d → AreMemPorts d m q → IsLate d q.read_address → StandsMem d m q
mem_stands d m q kept h late = record {
  late = late;
  index_wide = h.read_address.wide;
  value_wide = h.read.wide;
  given = record { net = port_is_net d (input (mem_name (mem_shape m) (codes "rd")) m.width) q.read kept h.read; low = source 0 q.read.number _ h.read.there tt };
}

mems_stand : (d : Draft) (mems : List Mem) (ports : List MemPorts) → IsKept d → EachPair (AreMemPorts d) mems ports → Each (λ (q : MemPorts). IsLate d q.read_address) ports → EachPair (StandsMem d) mems ports
mems_stand d [] [] kept h late = tt
mems_stand d [] (q ∷ ports) kept h late = absurd h
mems_stand d (m ∷ mems) [] kept h late = absurd h
mems_stand d (m ∷ mems) (q ∷ ports) kept h late = (mem_stands d m q kept h.0 late.0, mems_stand d mems ports kept h.1 late.1)

pub declared_mems_stand : DeclaredMemsStand
declared_mems_stand design d ports kept has late = mems_stand d design.mems ports.mems kept has.mems late
