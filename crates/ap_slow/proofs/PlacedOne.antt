-- One unit that is placed.
use Rattle.std.proofs.Common.{◌≡◌, ℕ, suc, ◌+◌, ◌<◌, ◌≤◌, ◌&&◌, true, List, [], ◌∷◌, ◌++◌, length, map, refl, sym, ap, subst, ◌∙◌, arith, inl, inr}
use Rattle.std.specs.Prelude.{◌⊎◌, codes, nat_le, slice_get, Some}
use Rattle.std.proofs.lemmas.Option.{slice_get_within}
use Rattle.std.specs.Char.{is_ascii_alphanumeric}
use Rattle.std.specs.List.{AllByRecursion as Each, list_all}
use Rattle.std.proofs.lemmas.Bool.{and_parts, cases_lt, le-leb, leb-true, or_left}
use Rattle.ap_bits.specs.declared.card.Latency.TheVariants.{WidthPlusOne}
use Rattle.ap_bits.specs.Names.{IsName, starts_with_letter}
use Rattle.ap_desc.specs.declared.design.Unit.{Unit as Resource}
use Rattle.ap_net.specs.declared.cell.Wire.{Wire}
use Rattle.ap_net.specs.declared.net.Instance.{Instance}
use Rattle.ap_net.specs.declared.net.Port.{Port}
use Rattle.ap_net.specs.Cells.{IsNet}
use Rattle.ap_net.specs.Draft.{Draft, Extends}
use Rattle.ap_net.specs.Late.{IsLate, Joins}
use Rattle.ap_net.specs.Modules.{Connects, IsModule, ModuleText}
use Rattle.ap_net.specs.Names.{IsNetName, is_name_byte}
use Rattle.ap_net.specs.Pending.{Among}
use Rattle.ap_net.specs.Placing.{Places, instance_in, merged, output_widths, wires_from}
use Rattle.ap_net.specs.Readings.{Carries}
use Rattle.ap_net.specs.Ready.{Dependence, ReadyAfter, numbers}
use Rattle.ap_net.proofs.Among.{ports_within}
use Rattle.ap_net.proofs.Laws.{Carries-Extends, ReadyAfter-Extends, stays}
use Rattle.ap_net.proofs.Lists.{All-from, get_end}
use Rattle.ap_signals.specs.NetRuns.{unit_part}
use Rattle.ap_unit.specs.declared.slow.SlowInputs.{SlowInputs}
use Rattle.ap_unit.specs.declared.slow.SlowOutputs.{SlowOutputs}
use Rattle.ap_unit.specs.Slow.{AreSlowInputs, IsReadyByUnit, input_nets, output_nets, slow_needs}
use Rattle.ap_unit.specs.Units.{in_port, ports_by}
use Rattle.ap_slow.specs.declared.place.SlowPlaced.{SlowPlaced}
use Rattle.ap_slow.specs.Placed.{AddsParts, DeclaresLate, HasModule, HasSlowPorts, IsFit, PlacesUnit, StandsAt, StandsUnit, late_nets, port_nets}
use Rattle.ap_slow.proofs.Lates.{adds_more, among_back, among_front}

-- the widths of the module's ports
pub first_width : (m : ModuleText) (ps : List Port) (p : Port) (select width : ℕ) → ps ≡ m.ports → m.ports ≡ ports_by WidthPlusOne select width → slice_get ps 0 ≡ Some p → p.width ≡ select
first_width m ps p select width same is at =
    let e : Some p ≡ Some (in_port (codes "sel") select) = sym at ∙ ap (λ (l : List Port). slice_get l 0) (same ∙ is) in
    let one : p ≡ in_port (codes "sel") select = cc in
    ap (λ (q : Port). q.width) one

pub fit_ports : (m : ModuleText) (select width : ℕ) → IsModule m → m.ports ≡ ports_by WidthPlusOne select width → IsFit select × IsFit width
fit_ports m select width h is =
    let w : Each (λ (p : Port). (1 ≤ p.width) × (p.width ≤ 64)) (ports_by WidthPlusOne select width) = subst (Each (λ (p : Port). (1 ≤ p.width) × (p.width ≤ 64))) is (ports_within m h.wired.widths) in
    (record { low = w.0.0; high = w.0.1 }, record { low = w.1.0.0; high = w.1.0.1 })

-- the late wires are what a unit of several cycles can stand over
pub late_slow : (a b : Draft) (select width : ℕ) (i : SlowInputs) → DeclaresLate (select ∷ width ∷ width ∷ 1 ∷ 1 ∷ []) (input_nets i) a b → AreSlowInputs b.nets i
late_slow a b select width i h =
    let e : i.sel.width ∷ i.a.width ∷ i.b.width ∷ i.go.width ∷ i.adv.width ∷ [] ≡ select ∷ width ∷ width ∷ 1 ∷ 1 ∷ [] = h.wide in
    let x : i.a.width ≡ width = cc in
    let y : i.b.width ≡ width = cc in
    record {
      sel = h.each.0.net;
      operands = record { first = h.each.1.0.net; second = h.each.1.1.0.net; same = y ∙ sym x };
      go = h.each.1.1.1.0.net;
      go_bit = cc;
      adv = h.each.1.1.1.1.0.net;
      adv_bit = cc;
    }

pub late_widths : (a b : Draft) (select width : ℕ) (i : SlowInputs) → DeclaresLate (select ∷ width ∷ width ∷ 1 ∷ 1 ∷ []) (input_nets i) a b → (i.sel.width ≡ select) × (i.a.width ≡ width)
late_widths a b select width i h =
    let e : i.sel.width ∷ i.a.width ∷ i.b.width ∷ i.go.width ∷ i.adv.width ∷ [] ≡ select ∷ width ∷ width ∷ 1 ∷ 1 ∷ [] = h.wide in
    (cc, cc)

net_later : (a b : Draft) (w : Wire) → Extends a b → IsNet a.nets w → IsNet b.nets w
net_later a b w e h = (Carries-Extends e anything).net
  where
    anything : Carries a w.width (λ r x. Unit {0}) w
    anything = record { net = h; wide = refl; means = record { holds = λ r s. tt } }

inputs_later : (a b : Draft) (i : SlowInputs) → Extends a b → AreSlowInputs a.nets i → AreSlowInputs b.nets i
inputs_later a b i e h = record {
  sel = net_later a b i.sel e h.sel;
  operands = record { first = net_later a b i.a e h.operands.first; second = net_later a b i.b e h.operands.second; same = h.operands.same };
  go = net_later a b i.go e h.go;
  go_bit = h.go_bit;
  adv = net_later a b i.adv e h.adv;
  adv_bit = h.adv_bit;
}

-- a unit that stands stands in each later draft
pub stands_later : (a b : Draft) (u : Resource) (m : ModuleText) (x : SlowPlaced) → Extends a b → StandsUnit u m a x → StandsUnit u m b x
stands_later a b u m x e h = record {
  k = h.k;
  of = h.of;
  placed = stays a.instances b.instances e.instances h.k h.of h.placed;
  named = h.named;
  joined = h.joined;
  connects = h.connects;
  ports = h.ports;
  wide = h.wide;
  inputs = inputs_later a b x.inputs e h.inputs;
  busy = net_later a b x.outputs.busy e h.busy;
  bit = h.bit;
  y = net_later a b x.outputs.y e h.y;
  result = h.result;
  busy_ready = λ by needs. ReadyAfter-Extends by a b (x.inputs.go.number ∷ []) x.outputs.busy.number e (h.busy_ready by needs);
  y_ready = λ by needs. ReadyAfter-Extends by a b (x.inputs.sel.number ∷ x.inputs.a.number ∷ x.inputs.b.number ∷ x.inputs.go.number ∷ []) x.outputs.y.number e (h.y_ready by needs);
}

module _ (u : Resource) (m : ModuleText) (x : SlowPlaced) (select : ℕ) (a b c : Draft) (late : DeclaresLate (select ∷ u.width ∷ u.width ∷ 1 ∷ 1 ∷ []) (input_nets x.inputs) a b)
    (ports : m.ports ≡ ports_by WidthPlusOne select u.width) (outs : x.outputs ≡ output_nets (length b.nets) x.inputs.a.width) where
  abbrev of : Instance
  of = instance_in b (unit_part u) m (input_nets x.inputs)

  wide : x.inputs.a.width ≡ u.width
  wide = (late_widths a b select u.width x.inputs late).1

  has_ports : m.ports ≡ ports_by WidthPlusOne x.inputs.sel.width x.inputs.a.width
  has_ports = ports ∙ ap (λ s. ports_by WidthPlusOne s u.width) (sym (late_widths a b select u.width x.inputs late).0) ∙ ap (λ w. ports_by WidthPlusOne x.inputs.sel.width w) (sym wide)

  joined : of.nets ≡ port_nets x
  joined = ap (λ (p : List Port). merged (map (λ (q : Port). q.output) p) (input_nets x.inputs) (wires_from (length b.nets) (output_widths p))) has_ports
      ∙ ap (λ (o : SlowOutputs). x.inputs.sel ∷ x.inputs.a ∷ x.inputs.b ∷ x.inputs.go ∷ x.inputs.adv ∷ o.busy ∷ o.y ∷ []) (sym outs)

  came : IsReadyByUnit m.name c (x.inputs.go ∷ []) x.outputs.busy → IsReadyByUnit m.name c (x.inputs.sel ∷ x.inputs.a ∷ x.inputs.b ∷ x.inputs.go ∷ []) x.outputs.y → (by : Dependence) → by.needs m.name ≡ slow_needs
      → (n : ℕ) → length b.nets ≤ n → n < length b.nets + 2 → ReadyAfter by c (numbers (late_nets x)) n
  came busy y by needs n low high = go (cases_lt n (length b.nets + 1))
    where
      go : (n < length b.nets + 1) ⊎ (length b.nets + 1 ≤ n) → ReadyAfter by c (numbers (late_nets x)) n
      go (inl lt) =
          let same : x.outputs.busy.number ≡ n = ap (λ (o : SlowOutputs). o.busy.number) outs ∙ omega arith in
          subst (λ k. ReadyAfter by c (numbers (late_nets x)) k) same (λ later g each. busy by needs later g (each.1.1.1.0, tt))
      go (inr le) =
          let same : x.outputs.y.number ≡ n = ap (λ (o : SlowOutputs). o.y.number) outs ∙ omega arith in
          subst (λ k. ReadyAfter by c (numbers (late_nets x)) k) same (λ later g each. y by needs later g (each.0, (each.1.0, (each.1.1.0, (each.1.1.1.0, tt)))))

  pub places_unit : IsNet c.nets x.outputs.busy × IsNet c.nets x.outputs.y → length c.nets ≡ length b.nets + 2 → IsReadyByUnit m.name c (x.inputs.go ∷ []) x.outputs.busy
      → IsReadyByUnit m.name c (x.inputs.sel ∷ x.inputs.a ∷ x.inputs.b ∷ x.inputs.go ∷ []) x.outputs.y → Joins of b c → Connects m of → Places (of ∷ []) b c → PlacesUnit u m x a c
  places_unit nets long busy y joins connects places =
      let adds : AddsParts (unit_part u ∷ []) b c = record {
        extends = joins.extends;
        nexts = joins.nexts;
        ports = places.ports;
        fresh = places.fresh late.adds.fresh;
        names = λ name other apart new. places.names name other apart new;
        late = joins.late;
      } in
      record {
        stands = record {
          k = length b.instances;
          of = of;
          placed = ap (λ l. slice_get l (length b.instances)) places.instances ∙ get_end b.instances of;
          named = refl;
          joined = joined;
          connects = connects;
          ports = has_ports;
          wide = wide;
          inputs = inputs_later b c x.inputs joins.extends (late_slow a b select u.width x.inputs late);
          busy = nets.0;
          bit = ap (λ (o : SlowOutputs). o.busy.width) outs;
          y = nets.1;
          result = ap (λ (o : SlowOutputs). o.y.width) outs ∙ wide;
          busy_ready = busy;
          y_ready = y;
        };
        late = All-from (IsLate b) (IsLate c) joins.late (late_nets x) late.each;
        above = late.above;
        apart = late.apart;
        adds = adds_more [] (unit_part u ∷ []) a b c late.adds adds;
        instances = places.instances ∙ ap (λ l. l ++ of ∷ []) late.instances;
        nets = λ n low high. among_ports n low (subst (λ k. n < k) long high) (cases_lt n (length b.nets));
        came = λ by needs n low high. first by needs n low (subst (λ k. n < k) long high) (cases_lt n (length b.nets));
      }
    where
      output : (n : ℕ) → length b.nets ≤ n → n < length b.nets + 2 → (n < length b.nets + 1) ⊎ (length b.nets + 1 ≤ n) → Among (x.outputs.busy.number ∷ x.outputs.y.number ∷ []) n
      output n low high (inl lt) = inl (ap (λ (o : SlowOutputs). o.busy.number) outs ∙ omega arith)
      output n low high (inr le) = inr (inl (ap (λ (o : SlowOutputs). o.y.number) outs ∙ omega arith))

      among_ports : (n : ℕ) → length a.nets ≤ n → n < length b.nets + 2 → (n < length b.nets) ⊎ (length b.nets ≤ n) → Among (numbers (port_nets x)) n
      among_ports n low high (inl lt) = among_front (numbers (late_nets x)) (x.outputs.busy.number ∷ x.outputs.y.number ∷ []) n (late.came n low lt)
      among_ports n low high (inr le) = among_back (numbers (late_nets x)) (x.outputs.busy.number ∷ x.outputs.y.number ∷ []) n (output n le high (cases_lt n (length b.nets + 1)))

      first : (by : Dependence) → by.needs m.name ≡ slow_needs → (n : ℕ) → length a.nets ≤ n → n < length b.nets + 2 → (n < length b.nets) ⊎ (length b.nets ≤ n) → Among (numbers (late_nets x)) n ⊎ ReadyAfter by c (numbers (late_nets x)) n
      first by needs n low high (inl lt) = inl (late.came n low lt)
      first by needs n low high (inr le) = inr (came busy y by needs n le high)

-- the name of the instance

alphanumeric_bytes : (bytes : List ℕ) → list_all is_ascii_alphanumeric bytes ≡ true → list_all is_name_byte bytes ≡ true
alphanumeric_bytes [] h = refl
alphanumeric_bytes (b ∷ bytes) h =
    let both = and_parts (is_ascii_alphanumeric b) (list_all is_ascii_alphanumeric bytes) h in
    let one : is_name_byte b ≡ true = or_left (is_ascii_alphanumeric b) _ both.0 in
    rw (one, alphanumeric_bytes bytes both.1) refl

pub part_is_name : (u : Resource) → IsName u.name → IsNetName (unit_part u)
part_is_name u h =
    let few = and_parts (starts_with_letter u.name && list_all is_ascii_alphanumeric u.name) (nat_le (length u.name) 32) h in
    let bytes = and_parts (starts_with_letter u.name) (list_all is_ascii_alphanumeric u.name) few.0 in
    let short : length u.name ≤ 32 = leb-true (length u.name) 32 few.1 in
    let fits : nat_le (suc (suc (length u.name))) 100 ≡ true = le-leb (suc (suc (length u.name))) 100 (omega arith) in
    rw (alphanumeric_bytes u.name bytes.1, fits) refl

-- the module at the unit's place
pub own_module : (modules : List ModuleText) (places : List ℕ) (unit p : ℕ) (u : Resource) (m : ModuleText) → (h : HasModule modules places unit u) → slice_get places unit ≡ Some p → slice_get modules p ≡ Some m → HasSlowPorts u m × StandsAt modules places unit m
own_module modules places unit p u m h there at =
    let e : Some p ≡ Some h.stands.place = sym there ∙ h.stands.there in
    let same : h.stands.place ≡ p = cc in
    let f : Some h.whole ≡ Some m = sym (subst (λ q. slice_get modules q ≡ Some h.whole) same h.stands.at) ∙ at in
    let is : h.whole ≡ m = cc in
    (subst (HasSlowPorts u) is h.has, record { place = p; there = there; at = at })

pub place_low : (modules : List ModuleText) (places : List ℕ) (unit p : ℕ) (u : Resource) → (h : HasModule modules places unit u) → slice_get places unit ≡ Some p → p < length modules
place_low modules places unit p u h there =
    let e : Some p ≡ Some h.stands.place = sym there ∙ h.stands.there in
    let same : h.stands.place ≡ p = cc in
    subst (λ q. q < length modules) same (slice_get_within modules h.stands.place h.whole h.stands.at)
