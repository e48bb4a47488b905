-- What follows from the steps.
use Rattle.std.proofs.Common.{◌≡◌, ℕ, zero, suc, ◌<◌, List, [], ◌∷◌, length, flat_map, refl, sym, ap, subst, ◌∙◌, arith, append-nil, inl, inr}
use Rattle.std.specs.Prelude.{Contains}
use Rattle.std.specs.List.{AllByRecursion as Each}
use Rattle.std.proofs.lemmas.Option.{slice_get_within}
use Rattle.ap_desc.specs.declared.design.Design.{Design}
use Rattle.ap_net.specs.declared.cell.Wire.{Wire}
use Rattle.ap_net.specs.declared.net.ModuleNet.{ModuleNet}
use Rattle.ap_net.specs.Draft.{Draft, Extends}
use Rattle.ap_net.specs.Modules.{ports_among}
use Rattle.ap_net.specs.Pending.{Among}
use Rattle.ap_net.specs.Ready.{Dependence, Ready, ReadyAfter, numbers}
use Rattle.ap_net.proofs.Laws.{Extends-trans}
use Rattle.ap_net.proofs.Lists.{All-from, All-join, All-map}
use Rattle.ap_net.proofs.Wired.{number-IsNet}
use Rattle.ap_pipe.specs.declared.table.Home.{Home}
use Rattle.ap_pipe.specs.declared.table.SlotTable.{SlotTable}
use Rattle.ap_pipe.specs.declared.table.StageSlots.{StageSlots}
use Rattle.ap_ctl.specs.declared.nets.ControlNets.{ControlNets}
use Rattle.ap_ctl.specs.Building.{IsBit}
use Rattle.ap_ctl.specs.Lists.{EachPair}
use Rattle.ap_ctl.proofs.Beside.{EachFrom-second}
use Rattle.ap_flight.specs.declared.entry.Leaving.{Leaving}
use Rattle.ap_flight.specs.declared.stage.Coming.{Coming}
use Rattle.ap_flight.specs.declared.stage.StageRegisters.{StageRegisters}
use Rattle.ap_flight.specs.Entries.{SlotTakes, leaving_numbers, left_to}
use Rattle.ap_flight.specs.Stages.{FitsHome, IsComing, IsOpen, TakesNet, coming_numbers, stage_wires}
use Rattle.ap_stages.specs.declared.stage.ServedStage.{ServedStage}
use Rattle.ap_front.specs.declared.fetch.Fetching.{Fetching}
use Rattle.ap_front.specs.declared.ports.Ports.{Ports}
use Rattle.ap_front.specs.declared.registers.Registers.{Registers}
use Rattle.ap_front.specs.Driven.{AreComingReady, CanDrive, IsDriven}
use Rattle.ap_front.specs.Fetching.{fetching_numbers}
use Rattle.ap_front.specs.Opened.{front_wires}
use Rattle.ap_front.proofs.Named.{next_later}
use Rattle.ap_steps.specs.Clocked.{IsClocked}
use Rattle.ap_steps.specs.Intervals.{BeginningIsReady, CameAfter, IntervalIsReady}
use Rattle.ap_steps.specs.TopOrder.{Follows}
use Rattle.ap_flow.specs.declared.flow.Flow.{Flow}
use Rattle.ap_flow.specs.Flowing.{Flows}
use Rattle.ap_flow.specs.Followed.{FlowGrows, FlowsFollow, FlowsGrow}
use Rattle.ap_flow.proofs.Lists.{each_contained, each_of_all, there}

-- What comes to the stages was there.

abbrev IsWithin : List ModuleNet → ℕ → Type 0
IsWithin nets n = n < length nets

left_within : (nets : List ModuleNet) (slots : List Wire) (homes : List Home) (list : List Leaving) → EachPair (FitsHome nets slots) homes list → Each (IsWithin nets) (leaving_numbers list)
left_within nets slots [] [] h = tt
left_within nets slots [] (l ∷ list) h = absurd h
left_within nets slots (x ∷ homes) [] h = absurd h
left_within nets slots (x ∷ homes) (l ∷ list) h = (number-IsNet nets l.cond h.0.cond.net, (number-IsNet nets l.net h.0.net, left_within nets slots homes list h.1))

open_within : (d : Draft) (ws : List Wire) → Each (IsOpen d) ws → Each (IsWithin d.nets) (numbers ws)
open_within d ws h = All-map (IsWithin d.nets) (λ (w : Wire). w.number) ws (All-from (IsOpen d) (λ (w : Wire). w.number < length d.nets) (λ w k. number-IsNet d.nets w k.net) ws h)

coming_within : (d : Draft) (q : StageRegisters) (homes : List Home) (c : Coming) → Each (IsOpen d) (stage_wires q) → IsComing q homes d.nets c → Each (IsWithin d.nets) (coming_numbers q c)
coming_within d q homes c free h = (
  number-IsNet d.nets c.hold h.hold.net,
  (
    number-IsNet d.nets c.word h.word.net,
    (number-IsNet d.nets c.place h.place.net, All-join (IsWithin d.nets) (numbers (stage_wires q)) (leaving_numbers c.locals) (open_within d (stage_wires q) free) (left_within d.nets q.slots homes c.locals h.locals)),
  ),
)

-- Registers that take something.

stage_clocked : (d : Draft) (q : StageRegisters) (s : StageSlots) (c : Coming) → IsDriven d q s c → Each (IsClocked d) (stage_wires q)
stage_clocked d q s c h = (
  (h.word.from, h.word.next),
  ((h.place.from, h.place.next), EachFrom-second (λ slot register. TakesNet d (SlotTakes c.hold register (left_to slot s.homes c.locals)) register) (IsClocked d) (λ n w k. (k.from, k.next)) 0 q.slots h.slots),
)

clocked_later : (a b : Draft) (ws : List Wire) → Extends a b → Each (IsClocked a) ws → Each (IsClocked b) ws
clocked_later a b ws e h = All-from (IsClocked a) (IsClocked b) (λ w k. (k.0, next_later a b (record { register = w; from = k.0 }) e k.1)) ws h

among_there : (ws : List Wire) (w : Wire) → Contains ws w → Among (numbers ws) w.number
among_there [] w (k, low, at) = absurd (omega (arith, low))
among_there (x ∷ ws) w (zero, low, at) = inl (ap (λ (y : Wire). y.number) at)
among_there (x ∷ ws) w (suc k, low, at) = inr (among_there ws w (k, omega (arith, low), at))

module _ (design : Design) (table : SlotTable) (r : Registers) (p : Ports) (control : ControlNets) (target : Wire) (stages : List ServedStage) (made : Flow) (old new : Draft) (h : Flows design table r p control target stages made old new) where
  from_flown : Extends h.flown new
  from_flown = Extends-trans h.flown h.fetched new h.fetches.extends h.shows.extends

  coming_ready : (by : Dependence) → BeginningIsReady by new old → AreComingReady by new r.stages table.stages made.comings
  coming_ready by begun place q s c p1 p2 p3 =
      let can : CanDrive old r.stages table.stages made.comings = h.flights.can in
      All-from (IsWithin old.nets) (Ready by new) (λ k lt. begun k lt) (coming_numbers q c) (coming_within old q s.homes c (can.each place q p1) (can.comes place q s c p1 p2 p3))

  fetching_within : Each (IsWithin old.nets) (fetching_numbers made.fetching)
  fetching_within = subst (λ (f : Fetching). Each (IsWithin old.nets) (fetching_numbers f)) (sym h.fetching) (
    number-IsNet old.nets r.pc h.can.free.each.0.net,
    (number-IsNet old.nets h.hold (each_contained (IsBit old.nets) control.hold h.hold h.can.hold h.first).net, (number-IsNet old.nets control.kill h.can.killed.net, (number-IsNet old.nets target h.can.goes.net, tt))),
  )

  stages_clocked : Each (IsClocked new) (flat_map stage_wires r.stages)
  stages_clocked = each_of_all (IsClocked new) stage_wires r.stages (λ k q at.
      let can : CanDrive old r.stages table.stages made.comings = h.flights.can in
      let within = slice_get_within r.stages k q at in
      let slots = can.slots in
      let long = can.long in
      let s = there table.stages k (omega (arith, within, slots)) in
      let c = there made.comings k (omega (arith, within, long)) in
      clocked_later h.flown new (stage_wires q) from_flown (stage_clocked h.flown q s.0 c.0 (h.flights.drives.each k q s.0 c.0 at s.1 c.1)))

  pc_clocked : IsClocked new r.pc
  pc_clocked =
      let own : IsClocked h.fetched made.fetching.pc = (h.fetches.takes.from, h.fetches.takes.next) in
      (clocked_later h.fetched new (r.pc ∷ []) h.shows.extends (subst (λ (f : Fetching). IsClocked h.fetched f.pc) h.fetching own, tt)).0

  grows : FlowGrows design table r p control target stages made old new h
  grows = record {
    steps = (
      record { extends = h.flights.drives.extends; instances = h.flights.drives.instances ∙ sym (append-nil old.instances); ports = h.flights.drives.ports },
      (
        record { extends = h.fetches.extends; instances = h.fetches.instances ∙ sym (append-nil (h.flown).instances); ports = h.fetches.ports },
        (record { extends = h.shows.extends; instances = h.shows.instances ∙ sym (append-nil (h.fetched).instances); ports = ap ports_among h.shows.nets }, tt),
      ),
    );
    extends = Extends-trans old h.flown new h.flights.drives.extends from_flown;
    instances = h.shows.instances ∙ h.fetches.instances ∙ h.flights.drives.instances;
    ports = ap ports_among h.shows.nets ∙ h.fetches.ports ∙ h.flights.drives.ports;
    clocked = (pc_clocked, stages_clocked);
  }

pub flows_grow : FlowsGrow
flows_grow design table r p control target stages made old new h = grows design table r p control target stages made old new h

-- By the numbers and the drafts of all of the top.

abbrev ReadyOnce : Dependence → Draft → Draft → Draft → Type 0
ReadyOnce by last a b = BeginningIsReady by last a → IntervalIsReady by last a b

once_as : (by : Dependence) (last a b x y z : Draft) → last ≡ x → a ≡ y → b ≡ z → ReadyOnce by x y z → ReadyOnce by last a b
once_as by last a b x y z e f g h = subst (λ (d : Draft). ReadyOnce by d a b) (sym e) (subst (λ (d : Draft). ReadyOnce by x d b) (sym f) (subst (λ (d : Draft). ReadyOnce by x y d) (sym g) h))

abbrev CameFrom : Dependence → Draft → Draft → Draft → Type 0
CameFrom by a b c = (from : List ℕ) × Each (λ k. k < length a.nets) from × CameAfter by from b c

came_as : (by : Dependence) (a b c x y z : Draft) → a ≡ x → b ≡ y → c ≡ z → CameFrom by x y z → CameFrom by a b c
came_as by a b c x y z e f g h = subst (λ (d : Draft). CameFrom by d b c) (sym e) (subst (λ (d : Draft). CameFrom by x d c) (sym f) (subst (λ (d : Draft). CameFrom by x y d) (sym g) h))

follows_as : (by : Dependence) (a b : Draft) (k l : List ℕ) (m n : ℕ) → a ≡ b → k ≡ l → m ≡ n → Follows by b l n → Follows by a k m
follows_as by a b k l m n e f g h = subst (λ (d : Draft). Follows by d k m) (sym e) (subst (λ known. Follows by b known m) (sym f) (subst (Follows by b l) (sym g) h))

pub flows_follow : FlowsFollow
flows_follow by design table r p control target stages made old new h t n e m =
    let begun = coming_ready design table r p control target stages made old new h by in
    let from = from_flown design table r p control target stages made old new h in
    let inside = fetching_within design table r p control target stages made old new h in
    let address : Follows by h.fetched (numbers (front_wires r)) p.iaddr.number =
    (r.pc.number ∷ [], (inl refl, tt), subst (λ (f : Fetching). ReadyAfter by h.fetched (f.pc.number ∷ []) f.address.number) h.fetching (h.fetches.address by)) in
    let stall : Follows by new (numbers control.hold) p.stall.number = ((h.shows.hold).number ∷ [], (among_there control.hold h.shows.hold h.shows.first, tt), h.shows.stall_came by) in
    let kill : Follows by new (control.kill.number ∷ []) p.kill.number = (control.kill.number ∷ [], (inl refl, tt), h.shows.kill_came by) in
    record {
      flown = once_as by t.shown t.transferred t.flown new old h.flown e.shown e.transferred e.flown (λ ready k low high. h.flights.drives.came by new from (begun ready) k low high);
      fetched = came_as by t.transferred t.flown t.fetched old h.flown h.fetched e.transferred e.flown e.fetched (fetching_numbers made.fetching, inside, h.fetches.came by);
      shown = ap (λ (d : Draft). d.nets) e.shown ∙ h.shows.nets ∙ ap (λ (d : Draft). d.nets) (sym e.fetched);
      address = follows_as by t.fetched h.fetched n.front (numbers (front_wires r)) n.address p.iaddr.number e.fetched m.front m.address address;
      stall = follows_as by t.shown new n.hold (numbers control.hold) n.stall p.stall.number e.shown m.hold m.stall stall;
      kill = follows_as by t.shown new (n.kill ∷ []) (control.kill.number ∷ []) n.kill_shown p.kill.number e.shown (ap (λ k. k ∷ []) m.kill) m.kill_shown kill;
    }
