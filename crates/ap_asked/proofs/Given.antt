-- Served units are what the border asks.
use Rattle.std.proofs.Common.{◌≡◌, ℕ, zero, suc, ◌-◌, ◌<◌, ◌≤◌, ◌==◌, ◌&&◌, Bool, true, false, List, [], ◌∷◌, ◌++◌, flat_map, get_or, length, map, refl, sym, ap, subst, ◌∙◌, arith}
use Rattle.std.specs.Prelude.{codes, nat_lt, not, slice_get, Option, Some}
use Rattle.std.specs.Option.{option_map_or}
use Rattle.std.specs.List.{AllByRecursion as Each, list_any}
use Rattle.std.proofs.lemmas.Bool.{and_parts, eqb-false, eqb-true}
use Rattle.std.proofs.lemmas.Option.{slice_get-get_or}
use Rattle.ap_bits.specs.declared.card.Card.{Card}
use Rattle.ap_bits.specs.declared.card.Latency.{Latency}
use Rattle.ap_bits.specs.declared.card.Latency.TheVariants.{One, WidthPlusOne}
use Rattle.ap_bits.specs.Cards.{cycles_at, latency_at, select_width}
use Rattle.ap_desc.specs.Clean.{FitsCards}
use Rattle.ap_desc.specs.Ports.{micros_in}
use Rattle.ap_desc.specs.Ports as ports
use Rattle.ap_desc.specs.PortsApart.{is_port_used_in, uses_port}
use Rattle.ap_desc.specs.Shelf.{HasOperation}
use Rattle.ap_desc.specs.declared.design.Act.{Act}
use Rattle.ap_desc.specs.declared.design.Act.TheVariants as act
use Rattle.ap_desc.specs.declared.design.Design.{Design}
use Rattle.ap_desc.specs.declared.design.Instr.{Instr}
use Rattle.ap_desc.specs.declared.design.Micro.{Micro}
use Rattle.ap_desc.specs.declared.design.Unit.{Unit as Resource}
use Rattle.ap_desc.proofs.OnePort.{clean_apart, each_as, from_any}
use Rattle.ap_model.specs.UnitUse.{is_use_of, latency_of}
use Rattle.ap_net.specs.declared.cell.Wire.{Wire}
use Rattle.ap_net.specs.declared.net.Port.{Port}
use Rattle.ap_net.specs.Draft.{Draft}
use Rattle.ap_net.specs.Modules.{IsModule, ModuleText, module_named, nets_of, port_net, reg_net, wire_net}
use Rattle.ap_net.specs.Runs.{bit}
use Rattle.ap_net.proofs.Lists.{All-join, some_same}
use Rattle.ap_net.proofs.Parts.{All-named}
use Rattle.ap_signals.specs.NetSignals.{is_slow_unit_of}
use Rattle.ap_unit.specs.Units.{out_port, ports_by}
use Rattle.ap_ctl.specs.declared.nets.ControlGiven.{ControlGiven}
use Rattle.ap_ctl.specs.declared.nets.ControlNets.{ControlNets}
use Rattle.ap_ctl.specs.Given.{IsWordNet, is_used_in}
use Rattle.ap_ctl.specs.Meaning.{is_held}
use Rattle.ap_ctl.specs.Nets.{AreDecoded, Shows}
use Rattle.ap_ctl.proofs.Beside.{EachPair-at, each_get, no_wire}
use Rattle.ap_parts.specs.Known.{HasParts, HasUnitNamed, Knows}
use Rattle.ap_parts.proofs.KnownPorts.{card_at}
use Rattle.ap_parts.proofs.Lists.{some_and}
use Rattle.ap_slow.specs.declared.place.SlowPlaced.{SlowPlaced}
use Rattle.ap_slow.specs.Asking.{AskingIsShown, IsStageOf}
use Rattle.ap_slow.specs.Driven.{IsDriven, IsServedIn, unit_stage}
use Rattle.ap_slow.proofs.Stage.{stage_uses, used_somewhere}
use Rattle.ap_asked.specs.Served.{GivesSlowUnit, IsServedUnit, IsTopWithControl, ServedUnitsAreJoined, ServedUnitsGiveBorder, ServedUnitsGiveBusy, ServedUnitsShowBusy}

head_differs : (a b : ℕ) (xs ys : List ℕ) → (a == b) ≡ false → a ∷ xs ≡ b ∷ ys → ⊥
head_differs a b xs ys d e = let same : a ≡ b = cc in eqb-false a b d same

bit_on : (b : Bool) → (bit b == 1) ≡ b
bit_on true = refl
bit_on false = refl

slow_card : (l : Latency) (w : ℕ) → 1 < cycles_at l w → l ≡ WidthPlusOne
slow_card One w lt = absurd (omega arith)
slow_card WidthPlusOne w lt = refl

-- The card and the module of the unit.
module _ (knows : Knows) (cards : List Card) (design : Design) (d : Draft) (modules : List ModuleText) (nets : ControlNets) (fits : FitsCards design cards) (parts : HasParts knows cards design modules) (x : SlowPlaced) (h : IsServedUnit knows design d nets x) where
  abbrev mine : HasUnitNamed cards modules (knows.names h.resource) (knows.selects h.resource) h.resource
  mine = parts.units x.unit h.resource h.at

  cycles : (h.resource).latency ≡ latency_at mine.card (h.resource).width
  cycles =
      let (c, c_at, c_fits, latency) = card_at cards design fits x.unit h.resource h.at in
      latency ∙ ap (λ (k : Card). latency_at k (h.resource).width) (some_same (sym c_at ∙ mine.at))

  slow : (mine.card).latency ≡ WidthPlusOne
  slow = slow_card (mine.card).latency (h.resource).width (subst (λ n. 1 < n) cycles h.slow)

  latency : latency_of design x.unit ≡ (h.resource).latency
  latency = ap (λ (o : Option Resource). option_map_or (λ (u : Resource). u.latency) o 0) h.at

  found : module_named modules ((h.stands).of).module ≡ Some mine.whole
  found = ap (module_named modules) (((h.stands).connects).named ∙ h.named) ∙ mine.found

  busy_there : slice_get (nets_of mine.whole) 5 ≡ Some (port_net (out_port (codes "busy") 1))
  busy_there =
      let is : (mine.whole).ports ≡ ports_by WidthPlusOne (select_width mine.card) (h.resource).width = (mine.is_unit).ports ∙ ap (λ (l : Latency). ports_by l (select_width mine.card) (h.resource).width) slow in
      ap (λ (ps : List Port). slice_get (map port_net ps ++ map wire_net (mine.whole).wires ++ map reg_net (mine.whole).regs) 5) is

pub shows_busy : ServedUnitsShowBusy
shows_busy knows cards design d modules nets fits parts top x h = record {
  resource = h.resource;
  at = h.at;
  net = record {
    k = (h.stands).k;
    of = (h.stands).of;
    at = (h.stands).placed;
    named = (h.stands).named;
    other = λ e. head_differs 117 116 _ _ refl (e ∙ top);
    whole = (mine knows cards design d modules nets fits parts x h).whole;
    found = found knows cards design d modules nets fits parts x h;
    port = 5;
    net = port_net (out_port (codes "busy") 1);
    there = busy_there knows cards design d modules nets fits parts x h;
    is = refl;
    joined = ap (λ (l : List Wire). slice_get l 5) (h.stands).joined;
  };
}

pub give_busy : ServedUnitsGiveBusy
give_busy knows cards design d modules nets fits parts top [] h = tt
give_busy knows cards design d modules nets fits parts top (x ∷ made) h = (shows_busy knows cards design d modules nets fits parts top x h.0, give_busy knows cards design d modules nets fits parts top made h.1)

pub are_joined : ServedUnitsAreJoined
are_joined knows cards design d modules nets parts x h s w =
    let mine : HasUnitNamed cards modules (knows.names h.resource) (knows.selects h.resource) h.resource = parts.units x.unit h.resource h.at in
    record {
      of = (h.stands).of;
      placed = (h.stands).placed;
      whole = mine.whole;
      found = ap (module_named modules) (((h.stands).connects).named ∙ h.named) ∙ mine.found;
      sel = ap (λ (l : List Wire). slice_get l 0) (h.stands).joined ∙ ap Some (sym w.sel);
      a = ap (λ (l : List Wire). slice_get l 1) (h.stands).joined ∙ ap Some (sym w.a);
      b = ap (λ (l : List Wire). slice_get l 2) (h.stands).joined ∙ ap Some (sym w.b);
      y = ap (λ (l : List Wire). slice_get l 6) (h.stands).joined ∙ ap Some (sym w.y);
    }

-- The stage that uses the unit.

eq_swap : (a b : ℕ) → (a == b) ≡ (b == a)
eq_swap a b = go (a == b) (b == a) refl refl
  where
    go : (p q : Bool) → (a == b) ≡ p → (b == a) ≡ q → (a == b) ≡ (b == a)
    go true true e f = e ∙ sym f
    go false false e f = e ∙ sym f
    go true false e f = absurd (eqb-false b a f (sym (eqb-true a b e)))
    go false true e f = absurd (eqb-false a b e (sym (eqb-true b a f)))

same_use : (unit : ℕ) (a : Act) → is_use_of unit a ≡ uses_port (ports.unit unit) a
same_use unit (act.Compute other op a b) = eq_swap other unit
same_use unit _ = refl

used_as : (design : Design) (stage unit : ℕ) → is_used_in design stage unit ≡ is_port_used_in design stage (ports.unit unit)
used_as design stage unit = λ i. list_any (λ (m : Micro). (m.stage == stage) && same_use unit m.act i) (micros_in design)

each_flat : (P : Micro → Type 0) (instrs : List Instr) → Each (λ (i : Instr). Each P i.micros) instrs → Each P (flat_map (λ (i : Instr). i.micros) instrs)
each_flat P [] h = tt
each_flat P (i ∷ instrs) h = All-join P i.micros (flat_map (λ (i : Instr). i.micros) instrs) h.0 (each_flat P instrs h.1)

op_some : (cards : List Card) (design : Design) (unit : ℕ) (u : Resource) (card : Card) (a : Act) → is_use_of unit a ≡ true → HasOperation cards design a → slice_get design.units unit ≡ Some u → slice_get cards u.kind ≡ Some card → 0 < length card.ops
op_some cards design unit u card (act.Compute other op a b) e h at card_at =
    let same : other ≡ unit = eqb-true other unit e in
    let (v, v_at, v_has) = some_and _ (slice_get design.units other) h in
    let (k, k_at, lt) = some_and _ (slice_get cards v.kind) v_has in
    let one : v ≡ u = some_same (sym v_at ∙ ap (slice_get design.units) same ∙ at) in
    let two : k ≡ card = some_same (sym k_at ∙ ap (λ (r : Resource). slice_get cards r.kind) one ∙ card_at) in
    subst (λ (c : Card). 0 < length c.ops) two (omega arith)
op_some cards design unit u card _ e h at card_at = cc

module _ (shown : AskingIsShown) (knows : Knows) (cards : List Card) (design : Design) (d : Draft) (modules : List ModuleText) (given : ControlGiven) (nets : ControlNets) (t : IsTopWithControl knows cards design d modules given nets) (x : SlowPlaced)
    (h : IsServedUnit knows design d nets x) (stage : ℕ) (is_slow : is_slow_unit_of design stage x.unit ≡ true) where
  used : is_used_in design stage x.unit ≡ true
  used = (and_parts (nat_lt 1 (latency_of design x.unit)) (is_used_in design stage x.unit) is_slow).1

  bounds : (1 ≤ stage) × (stage ≤ design.stages - 1)
  bounds =
      let test : Micro → Bool = λ m. (m.stage == stage) && is_use_of x.unit m.act in
      from_any test ((1 ≤ stage) × (stage ≤ design.stages - 1)) (micros_in design) used
      (each_as (λ (m : Micro). (1 ≤ m.stage) × (m.stage ≤ design.stages - 1)) (λ (m : Micro). test m ≡ true → (1 ≤ stage) × (stage ≤ design.stages - 1))
      (λ m b e. subst (λ n. (1 ≤ n) × (n ≤ design.stages - 1)) (eqb-true m.stage stage (and_parts (m.stage == stage) (is_use_of x.unit m.act) e).0) b) (micros_in design) (clean_apart design (t.fits).clean).in_stages)

  some : 0 < length ((mine knows cards design d modules nets t.fits t.parts x h).card).ops
  some =
      let m1 = mine knows cards design d modules nets t.fits t.parts x h in
      let test : Micro → Bool = λ m. (m.stage == stage) && is_use_of x.unit m.act in
      from_any test (0 < length (m1.card).ops) (micros_in design) used
      (each_as (λ (m : Micro). HasOperation cards design m.act) (λ (m : Micro). test m ≡ true → 0 < length (m1.card).ops)
      (λ m has e. op_some cards design x.unit h.resource m1.card m.act (and_parts (m.stage == stage) (is_use_of x.unit m.act) e).1 has h.at m1.at)
      (micros_in design) (each_flat (λ (m : Micro). HasOperation cards design m.act) design.instrs ((t.fits).of_cards).operations))

  driven : IsDriven design nets d stage x
  driven = go (unit_stage design x.unit) refl h.served
    where
      go : (s : ℕ) → unit_stage design x.unit ≡ s → IsServedIn design nets d s x → IsDriven design nets d stage x
      go zero e served = absurd (used_somewhere design x.unit stage bounds.0 bounds.1 used e)
      go (suc s) e served =
          let there = (stage_uses design x.unit s e).used in
          let same : suc s ≡ stage = (clean_apart design (t.fits).clean).one_stage (ports.unit x.unit) (suc s) stage (sym (used_as design (suc s) x.unit) ∙ there) (sym (used_as design stage x.unit) ∙ used) in
          subst (λ n. IsDriven design nets d n x) same served

  abbrev word : Wire
  word = get_or given.words (stage - 1) no_wire

  word_at : slice_get given.words (stage - 1) ≡ Some word
  word_at = let long = (t.there).stages in let low = bounds.0 in let high = bounds.1 in slice_get-get_or given.words (stage - 1) no_wire (omega arith)

  is_stage : IsStageOf design given d nets stage word driven.valid driven.conditions
  is_stage =
      let w = each_get (IsWordNet design d.nets) given.words (stage - 1) word (t.there).words word_at in
      record {
        low = bounds.0;
        word_at = word_at;
        valid_at = driven.valid_at;
        net = w.net;
        wide = w.wide;
        decoded = EachPair-at (AreDecoded design d) given.words nets.decoded (t.control).decoded (stage - 1) word driven.conditions word_at driven.conditions_at;
      }

  several : 1 < latency_of design x.unit
  several = subst (λ n. 1 < n) (sym (latency knows cards design d modules nets t.fits t.parts x h)) h.slow

  advances : Shows design given nets.valid d (λ look. not (is_held design look stage)) x.inputs.adv
  advances =
      let held : Shows design given nets.valid d (λ look. is_held design look stage) driven.hold = each_get (Shows design given nets.valid d (λ look. is_held design look stage)) nets.hold 0 driven.hold ((t.control).frozen stage) driven.hold_at in
      let adv = (driven.adv).carries in
      record {
        net = adv.net;
        wide = adv.wide;
        means = record { holds = λ r s look sees. (adv.means).holds r s ∙ ap (λ b. bit (not b)) (ap (λ n. n == 1) ((held.means).holds r s look sees) ∙ bit_on (is_held design look stage)) };
      }

  pub gives_unit : GivesSlowUnit cards design d modules given nets stage x.unit (h.stands).k
  gives_unit =
      let m1 = mine knows cards design d modules nets t.fits t.parts x h in
      record {
        has = record {
          low = bounds.0;
          high = bounds.1;
          resource = h.resource;
          at = h.at;
          k = (h.stands).k;
          of = (h.stands).of;
          placed = (h.stands).placed;
          named = (h.stands).named;
          other = λ e. head_differs 117 116 _ _ refl (e ∙ t.top);
          whole = m1.whole;
          found = found knows cards design d modules nets t.fits t.parts x h;
          kept = (All-named IsModule modules (knows.names h.resource) m1.whole (t.parts).each m1.found).0;
          card = m1.card;
          slow = slow knows cards design d modules nets t.fits t.parts x h;
          is_unit = m1.is_unit;
          latency = latency knows cards design d modules nets t.fits t.parts x h ∙ cycles knows cards design d modules nets t.fits t.parts x h;
          some = some;
          go = x.inputs.go;
          go_at = ap (λ (l : List Wire). slice_get l 3) (h.stands).joined;
          goes = shown design given d nets stage x.unit word driven.valid x.inputs.go driven.conditions (t.fits).clean several is_stage driven.go;
          adv = x.inputs.adv;
          adv_at = ap (λ (l : List Wire). slice_get l 4) (h.stands).joined;
          advances = advances;
        };
        part = refl;
        card = m1.at;
      }

pub give_border : AskingIsShown → ServedUnitsGiveBorder
give_border shown knows cards design d modules given nets t x h stage is_slow = gives_unit shown knows cards design d modules given nets t x h stage is_slow
