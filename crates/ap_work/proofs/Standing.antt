-- Control and its nets stand.
use Rattle.std.proofs.Common.{◌≡◌, ◌≢◌, ℕ, ◌-◌, ◌==◌, false, List, [], ◌∷◌, length, map, refl, sym, ap, subst, ◌∙◌, arith}
use Rattle.std.specs.List.{AllByRecursion as Each}
use Rattle.std.specs.Option.{option_map_or}
use Rattle.std.specs.Prelude.{Option}
use Rattle.std.proofs.lemmas.Bool.{eqb-false}
use Rattle.ap_desc.specs.Clean.{IsClean}
use Rattle.ap_desc.specs.declared.design.Design.{Design}
use Rattle.ap_desc.specs.declared.design.Instr.{Instr}
use Rattle.ap_desc.specs.declared.design.Unit.{Unit as Resource}
use Rattle.ap_model.specs.Fire.{is_match}
use Rattle.ap_net.specs.declared.cell.Wire.{Wire}
use Rattle.ap_net.specs.Cells.{IsNet}
use Rattle.ap_net.specs.Draft.{CanFresh, Draft, Extends, IsKept, KeepsNew, next_wire, with_fresh}
use Rattle.ap_net.specs.Late.{IsLate, StayLate}
use Rattle.ap_net.specs.Modules.{ModuleText}
use Rattle.ap_net.specs.Readings.{Carries}
use Rattle.ap_net.proofs.Laws.{Carries-Extends, Extends-trans}
use Rattle.ap_net.proofs.Lists.{All-from}
use Rattle.ap_signals.specs.NetRuns.{unit_part, valid_name}
use Rattle.ap_ctl.specs.declared.nets.ControlGiven.{ControlGiven}
use Rattle.ap_ctl.specs.declared.nets.ControlNets.{ControlNets}
use Rattle.ap_ctl.specs.Building.{IsBit, Tells}
use Rattle.ap_ctl.specs.Given.{IsGiven, slow_units}
use Rattle.ap_ctl.specs.Meaning.{fires, is_held}
use Rattle.ap_ctl.specs.Nets.{AddsControl, AreDecoded, HasNoValid, IsControl, Shows, with_valid}
use Rattle.ap_ctl.proofs.Beside.{EachFrom-second, EachPair-length, EachPair-second}
use Rattle.ap_ctl.proofs.Bits.{IsBit-Carries}
use Rattle.ap_ctl.proofs.Built.{IsBit-Extends}
use Rattle.ap_ctl.proofs.ValidBits.{valid_not_numbered}
use Rattle.ap_ctl.proofs.Whole.{given_later, valid_bits_are, wires_count}
use Rattle.ap_ctl.proofs.Within.{stages_within}
use Rattle.ap_flight.specs.Stages.{IsOpen}
use Rattle.ap_front.specs.declared.ports.Ports.{Ports}
use Rattle.ap_front.specs.declared.registers.Registers.{Registers}
use Rattle.ap_front.specs.Controlling.{words_of}
use Rattle.ap_front.specs.Opened.{front_wires}
use Rattle.ap_front.proofs.Controlled.{IsControl-Extends}
use Rattle.ap_front.proofs.Opened.{names_go_on}
use Rattle.ap_front.proofs.PortNets.{ports_go_on}
use Rattle.ap_front.proofs.Readied.{control_stands, front_gives_control, mapped_long}
use Rattle.ap_slow.specs.declared.place.SlowPlaced.{SlowPlaced}
use Rattle.ap_slow.specs.Driven.{AreConditions, AreThere, CanDrive}
use Rattle.ap_slow.specs.Placed.{DeclaresLate, IsPlaced, PlacesUnits, part_name}
use Rattle.ap_slow.proofs.DrivenAll.{there_later}
use Rattle.ap_slow.proofs.Lates.{late_more, late_none}
use Rattle.ap_work.specs.Working.{AreControlNets, HasFront, OpenFrontsStand, WorkIsControlled, WorkStands, busy_net}

-- The front.

net_later : (a b : Draft) (w : Wire) → Extends a b → IsNet a.nets w → IsNet b.nets w
net_later a b w e h = (Carries-Extends e anything).net
  where
    anything : Carries a w.width (λ r x. Unit {0}) w
    anything = record { net = h; wide = refl; means = record { holds = λ r s. tt } }

pub open_fronts_stand : OpenFrontsStand
open_fronts_stand design table r p a d slots names free ports e = record {
  table = table;
  slots = slots;
  names = names_go_on design a d table.stages r e names;
  nets = All-from (IsOpen a) (IsNet d.nets) (λ w h. net_later a d w e h.net) (front_wires r) free.each;
  ports = ports_go_on design a d p e ports;
}

front_later : (design : Design) (r : Registers) (p : Ports) (a b : Draft) → Extends a b → HasFront design a r p → HasFront design b r p
front_later design r p a b e h = record {
  table = h.table;
  slots = h.slots;
  names = names_go_on design a b h.table.stages r e h.names;
  nets = All-from (IsNet a.nets) (IsNet b.nets) (λ w k. net_later a b w e k) (front_wires r) h.nets;
  ports = ports_go_on design a b p e h.ports;
}

-- Names.

head_differs : (a b : ℕ) (xs ys : List ℕ) → (a == b) ≡ false → a ∷ xs ≡ b ∷ ys → ⊥
head_differs a b xs ys d e = let same : a ≡ b = cc in eqb-false a b d same

unit_no_valid : (u : Resource) (stage : ℕ) → unit_part u ≢ valid_name stage
unit_no_valid u stage e = head_differs 117 118 _ _ refl e

parts_other : (design : Design) (own : List ModuleText) (places : List ℕ) (d : Draft) (name : List ℕ) → ((u : Resource) → unit_part u ≢ name)
    → (made : List SlowPlaced) → Each (IsPlaced design own places d) made
    → Each (λ part. part ≢ name) (map (part_name design) (map (λ (x : SlowPlaced). x.unit) made))
parts_other design own places d name other [] h = tt
parts_other design own places d name other (x ∷ made) h = ((λ e. other h.0.resource (sym (ap (λ (o : Option Resource). option_map_or unit_part o []) h.0.at) ∙ e)), parts_other design own places d name other made h.1)

pub names_other : (design : Design) (own : List ModuleText) (places units : List ℕ) (made : List SlowPlaced) (a b : Draft) (name : List ℕ)
    → PlacesUnits design own places units made a b → ((u : Resource) → unit_part u ≢ name)
    → Each (λ part. part ≢ name) (map (part_name design) units)
names_other design own places units made a b name h other = subst (λ l. Each (λ part. part ≢ name) (map (part_name design) l)) h.are (parts_other design own places b name other made h.each)

-- the names of valid bits are new still
pub no_valid : (design : Design) (own : List ModuleText) (places : List ℕ) (made : List SlowPlaced) (taken : Wire) (a b c : Draft)
    → PlacesUnits design own places (slow_units design) made a b → DeclaresLate (1 ∷ []) (taken ∷ []) b c → HasNoValid design a
    → HasNoValid design c
no_valid design own places made taken a b c h l new stage low high =
    l.adds.names (valid_name stage) (valid_not_numbered stage) tt
    (h.adds.names (valid_name stage) (valid_not_numbered stage) (names_other design own places (slow_units design) made a b (valid_name stage) h (λ u. unit_no_valid u stage)) (new stage low high))

-- What control is given.

busy_bits : (design : Design) (own : List ModuleText) (places : List ℕ) (d : Draft) (made : List SlowPlaced)
    → Each (IsPlaced design own places d) made → Each (IsBit d.nets) (map busy_net made)
busy_bits design own places d [] h = tt
busy_bits design own places d (x ∷ made) h = (record { net = h.0.stands.busy; bit = h.0.stands.bit }, busy_bits design own places d made h.1)

pub late_bit : (a b : Draft) (taken : Wire) → CanFresh a → b ≡ with_fresh a 1 → taken ≡ next_wire a 1 → IsLate b taken → StayLate a b → CanFresh b
    → KeepsNew a b → DeclaresLate (1 ∷ []) (taken ∷ []) a b
late_bit a b taken fresh is wire late stay after names = late_more [] 1 [] taken a a b (late_none a fresh) is wire late stay after names

taken_bit : (b c : Draft) (taken : Wire) → DeclaresLate (1 ∷ []) (taken ∷ []) b c → IsBit c.nets taken
taken_bit b c taken h = let wide : taken.width ∷ [] ≡ 1 ∷ [] = h.wide in record { net = h.each.0.net; bit = cc }

pub given_is : (design : Design) (r : Registers) (p : Ports) (own : List ModuleText) (places : List ℕ) (given : ControlGiven) (made : List SlowPlaced) (taken : Wire) (a b c : Draft) → IsClean design → IsKept c → HasFront design a r p
    → PlacesUnits design own places (slow_units design) made a b → DeclaresLate (1 ∷ []) (taken ∷ []) b c → given.words ≡ words_of r.stages
    → given.mwait ≡ p.mwait → given.taken ≡ taken → given.busy ≡ map busy_net made → IsGiven design c.nets given
given_is design r p own places given made taken a b c clean kept front placed late words wait is busy =
    let f = front_later design r p a c (Extends-trans a b c placed.adds.extends late.adds.extends) front in
    front_gives_control design c f.table r p given clean f.slots kept f.names f.nets f.ports words wait
    (subst (λ (w : Wire). IsBit c.nets w) (sym is) (taken_bit b c taken late))
    (ap length busy ∙ mapped_long busy_net made ∙ sym (mapped_long (λ (x : SlowPlaced). x.unit) made) ∙ ap length placed.are)
    (subst (Each (IsBit c.nets)) (sym busy) (All-from (IsBit b.nets) (IsBit c.nets) (λ w k. IsBit-Extends b c w late.adds.extends k) (map busy_net made) (busy_bits design own places b made placed.each)))

-- The nets of control.

conditions_are : (design : Design) (d : Draft) (word : Wire) (conditions : List Wire) → AreDecoded design d word conditions
    → AreConditions design d conditions
conditions_are design d word conditions h =
    let Means = λ (i : Instr). Tells d (λ r. is_match (r.read word.number) i) in
    record { count = EachPair-length Means design.instrs conditions h; each = EachPair-second Means (IsBit d.nets) (λ i w t. IsBit-Carries t.carries) design.instrs conditions h }

valid_there : (design : Design) (given : ControlGiven) (a b : Draft) (nets : ControlNets) → AddsControl design given a b nets
    → Each (IsBit b.nets) nets.valid
valid_there design given a b nets h =
    let (more, is, fresh) = h.wires in
    let e : Extends (with_valid a (design.stages - 1)) b = record { name = h.extends.name; nets = (more, is); assigns = h.extends.assigns; nexts = h.extends.nexts; instances = h.extends.instances } in
    subst (Each (IsBit b.nets)) (sym h.valid)
    (All-from (IsBit (with_valid a (design.stages - 1)).nets) (IsBit b.nets) (λ w k. IsBit-Extends (with_valid a (design.stages - 1)) b w e k) _ (valid_bits_are a (design.stages - 1)))

pub nets_there : (design : Design) (given : ControlGiven) (a b : Draft) (nets : ControlNets) → IsClean design → IsGiven design a.nets given
    → IsControl design given b nets → AddsControl design given a b nets → AreThere design b nets
nets_there design given a b nets clean there h adds = record {
  valid = valid_there design given a b nets adds;
  valid_count = ap length adds.valid ∙ wires_count (length a.nets) (design.stages - 1);
  decoded = EachPair-second (AreDecoded design b) (AreConditions design b) (conditions_are design b) given.words nets.decoded h.decoded;
  decoded_count = EachPair-length (AreDecoded design b) given.words nets.decoded h.decoded ∙ there.stages;
  hold = EachFrom-second (λ stage. Shows design given nets.valid b (λ look. is_held design look stage)) (IsBit b.nets) (λ stage w k. IsBit-Carries k) 0 nets.hold h.hold;
  some = let within = stages_within design clean in let low = within.0 in let long = h.stages in omega arith;
}

control_nets : (design : Design) (given : ControlGiven) (a b : Draft) (nets : ControlNets) → IsClean design → IsGiven design a.nets given
    → IsControl design given b nets → AddsControl design given a b nets → AreControlNets design b nets
control_nets design given a b nets clean there h adds = record {
  there = nets_there design given a b nets clean there h adds;
  fires = EachFrom-second (λ stage. Shows design given nets.valid b (λ look. fires design look stage)) (IsBit b.nets) (λ stage w k. IsBit-Carries k) 1 nets.fires h.fires;
  kill = IsBit-Carries h.kill;
}

control_nets_later : (design : Design) (a b : Draft) (nets : ControlNets) → Extends a b → AreControlNets design a nets → AreControlNets design b nets
control_nets_later design a b nets e h = record {
  there = there_later design a b nets e h.there;
  fires = All-from (IsBit a.nets) (IsBit b.nets) (λ w k. IsBit-Extends a b w e k) nets.fires h.fires;
  kill = IsBit-Extends a b nets.kill e h.kill;
}

-- The wires of units can be driven.

unit_bits : (design : Design) (own : List ModuleText) (places : List ℕ) (d : Draft) (made : List SlowPlaced)
    → Each (IsPlaced design own places d) made → Each (λ (x : SlowPlaced). (x.inputs.go.width ≡ 1) × (x.inputs.adv.width ≡ 1)) made
unit_bits design own places d made h =
    All-from (IsPlaced design own places d) (λ (x : SlowPlaced). (x.inputs.go.width ≡ 1) × (x.inputs.adv.width ≡ 1)) (λ x k. (k.stands.inputs.go_bit, k.stands.inputs.adv_bit)) made h

pub can_drive : (design : Design) (own : List ModuleText) (places units : List ℕ) (made : List SlowPlaced) (a b c : Draft)
    → PlacesUnits design own places units made a b → StayLate b c → CanDrive c made
can_drive design own places units made a b c h stay = record {
  late = All-from (IsLate b) (IsLate c) stay _ h.late;
  apart = h.apart;
  bits = unit_bits design own places b made h.each;
}

-- All of it in later drafts.

pub work_stands : WorkStands
work_stands design r p own places made old new d clean h e =
    let later = Extends-trans h.controlled new d h.drives.drives.extends e in
    record {
      given = given_later h.stood d design made.given (Extends-trans h.stood h.controlled d h.adds.extends later) h.there;
      control = IsControl-Extends design made.given h.controlled d made.nets later h.control;
      nets = control_nets_later design h.controlled d made.nets later (control_nets design made.given h.stood h.controlled made.nets clean h.there h.control h.adds);
    }

pub work_is_controlled : WorkIsControlled
work_is_controlled design r p own places made old new c d h ports e shows =
    let before = Extends-trans old h.united h.stood h.placed.adds.extends h.declares.adds.extends in
    control_stands design made.given made.nets h.stood h.controlled c d p (ports_go_on design old h.stood p before ports) h.gives.wait h.adds h.control (Extends-trans h.controlled new c h.drives.drives.extends e) shows
