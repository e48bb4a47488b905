-- The last steps give the front to the border, and the locals that leave.
use Rattle.std.proofs.Common.{◌≡◌, ℕ, suc, ◌+◌, ◌-◌, ◌≤◌, List, length, Some, refl, sym, ap, subst, ◌∙◌, arith}
use Rattle.std.specs.Prelude.{Contains, slice_get, unwrap_or}
use Rattle.ap_desc.specs.Clean.{IsClean}
use Rattle.ap_desc.specs.declared.design.Design.{Design}
use Rattle.ap_desc.specs.declared.design.Instr.{Instr}
use Rattle.ap_net.specs.declared.cell.Wire.{Wire}
use Rattle.ap_net.specs.Cells.{IsNet}
use Rattle.ap_net.specs.Draft.{Draft, Extends}
use Rattle.ap_net.specs.Modules.{ModuleText}
use Rattle.ap_net.proofs.Laws.{Carries-Extends, Extends-trans}
use Rattle.ap_net.proofs.Lists.{All-at, All-from}
use Rattle.ap_pipe.specs.declared.table.SlotTable.{SlotTable}
use Rattle.ap_pipe.specs.declared.table.StageSlots.{StageSlots}
use Rattle.ap_pipe.specs.Slots.{AreSlotsOf, AreStageSlots}
use Rattle.ap_ctl.specs.declared.nets.ControlGiven.{ControlGiven}
use Rattle.ap_ctl.specs.declared.nets.ControlNets.{ControlNets}
use Rattle.ap_ctl.specs.Given.{slow_units}
use Rattle.ap_ctl.specs.Lists.{EachPair}
use Rattle.ap_ctl.proofs.Beside.{EachPair-weaker}
use Rattle.ap_flight.specs.declared.stage.Coming.{Coming}
use Rattle.ap_flight.specs.declared.stage.StageRegisters.{StageRegisters}
use Rattle.ap_flight.specs.Stages.{IsOpen}
use Rattle.ap_stage.specs.declared.node.Course.{Course}
use Rattle.ap_stages.specs.declared.stage.ServedStage.{ServedStage}
use Rattle.ap_outcome.specs.Outcomes.{IsLeavingOf}
use Rattle.ap_border.specs.Control.{IsBusyOf}
use Rattle.ap_whole.specs.Handed.{AreInstrCourses, IsInstrCourse}
use Rattle.ap_whole.specs.Homes.{HomesAreFound, IsHomeOf}
use Rattle.ap_commit.specs.Standing.{AreSlotsFor, LeavingStands}
use Rattle.ap_front.specs.declared.fetch.Fetching.{Fetching}
use Rattle.ap_front.specs.declared.ports.Ports.{Ports}
use Rattle.ap_front.specs.declared.registers.Registers.{Registers}
use Rattle.ap_front.specs.Controlling.{IsControlled}
use Rattle.ap_front.specs.Driven.{GivesFlights, IsFlying, at_stage, no_coming, no_registers, no_slots}
use Rattle.ap_front.specs.Fetching.{DrivesFetch, IsFetched}
use Rattle.ap_front.specs.Opened.{front_wires, wire_width}
use Rattle.ap_front.proofs.Controlled.{controlled_later}
use Rattle.ap_front.proofs.Driving.{IsDriven-Extends, net_on}
use Rattle.ap_front.proofs.Fetched.{fetched_later}
use Rattle.ap_front.proofs.Flying.{names_at, names_long, there as stands}
use Rattle.ap_front.proofs.Named.{IsNamed-Extends, IsResetNamed-Extends, next_later}
use Rattle.ap_front.proofs.Opened.{names_go_on}
use Rattle.ap_front.proofs.PortNets.{port_named}
use Rattle.ap_front.proofs.Readied.{control_stands, mapped_long}
use Rattle.ap_built.specs.Front.{IsFrontBuilt, kept_in}
use Rattle.ap_flow.specs.declared.flow.Flow.{Flow}
use Rattle.ap_flow.specs.Border.{FlowsGiveFront, FlowsLeave, IsControlOf}
use Rattle.ap_flow.specs.Flowing.{Flows, fetching_of}
use Rattle.ap_flow.specs.Left.{HasInstrs}
use Rattle.ap_flow.proofs.Left.{courses_at}

-- The instructions of a stage go on.

instr_later : (a b : Draft) (s : ServedStage) → Extends a b → (instr : Instr) (c : Course) → IsInstrCourse a s.ground instr c → IsInstrCourse b s.ground instr c
instr_later a b s e instr c h = record {
  cond = record { carries = Carries-Extends e h.cond.carries };
  widths = h.widths;
  row = record { long = h.row.long; nets_are = λ j w at. net_on e w (h.row.nets_are j w at); wide = h.row.wide };
}

instrs_later : (design : Design) (a b : Draft) (s : ServedStage) → Extends a b → HasInstrs design a s → AreInstrCourses design b s.ground s.courses.items
instrs_later design a b s e h = EachPair-weaker (IsInstrCourse a s.ground) (IsInstrCourse b s.ground) (instr_later a b s e) design.instrs s.courses.items h

module _ (design : Design) (table : SlotTable) (r : Registers) (p : Ports) (control : ControlNets) (target : Wire) (stages : List ServedStage) (made : Flow) (old new d : Draft) (slots : AreSlotsOf design table)
    (h : Flows design table r p control target stages made old new) (e : Extends new d) where
  abbrev f : Fetching
  f = fetching_of r p control h.hold target

  fetches : DrivesFetch f h.flown h.fetched
  fetches = subst (λ (x : Fetching). DrivesFetch x h.flown h.fetched) h.fetching h.fetches

  from_fetched : Extends h.fetched d
  from_fetched = Extends-trans h.fetched new d h.shows.extends e

  from_flown : Extends h.flown d
  from_flown = Extends-trans h.flown h.fetched d fetches.extends from_fetched

  from_old : Extends old d
  from_old = Extends-trans old h.flown d h.flights.drives.extends from_flown

  flying : IsFlying design d p.idata fetches.takes.from table.stages r made.comings
  flying = record {
    fetched = IsNamed-Extends from_old (port_named old _ p.idata h.can.ports.idata);
    names = names_go_on design old d table.stages r from_old h.can.names;
    next = next_later h.fetched d (record { register = r.pc; from = fetches.takes.from }) from_fetched fetches.takes.next;
    slots = slots.count;
    long = h.flights.come.long ∙ names_long design old 1 table.stages r.stages h.can.names.each ∙ slots.count;
    each = λ place q s c p1 p2 p3. IsDriven-Extends from_flown (h.flights.drives.each place q s c p1 p2 p3);
    chained = h.flights.come.chained;
  }

  fetched : IsFetched design d f
  fetched = fetched_later design h.fetched d f from_fetched (record {
    pc = IsResetNamed-Extends (Extends-trans old h.flown h.fetched h.flights.drives.extends fetches.extends) h.can.names.pc;
    wide = h.can.names.pc_wide;
    address = IsNamed-Extends (Extends-trans old h.flown h.fetched h.flights.drives.extends fetches.extends) (port_named old _ p.iaddr h.can.ports.iaddr);
    takes = fetches.takes;
    shows = fetches.shows;
  })

  module _ (modules : List ModuleText) (given : ControlGiven) (k : IsControlOf design r p given control old) (busy : EachPair (IsBusyOf design d modules) (slow_units design) given.busy) where
    controlled : IsControlled design d given control h.shows.hold p.stall p.kill
    controlled =
        let later : Extends k.after h.fetched = Extends-trans k.after old h.fetched k.later (Extends-trans old h.flown h.fetched h.flights.drives.extends fetches.extends) in
        controlled_later design new d given control h.shows.hold p.stall p.kill e (control_stands design given control k.before k.after h.fetched new p k.ports k.wait k.adds k.control later h.shows)

    front : IsFrontBuilt design d modules table r made.comings f given control
    front = record {
      slots = slots;
      there = All-from (IsOpen old) (IsNet d.nets) (λ w x. net_on from_old w x.net) (front_wires r) h.can.free.each;
      hold = h.shows.hold;
      stall = p.stall;
      kill = p.kill;
      controlled = controlled;
      idata = p.idata;
      pc_from = fetches.takes.from;
      flying = flying;
      fetched = fetched;
      words = k.words;
      busy = busy;
      held = h.first;
      killed = refl;
      comes = λ place c at. subst (Contains control.hold) (sym (h.flights.come.held place c at)) h.first;
    }

  module _ (modules : List ModuleText) (clean : IsClean design) (stand : LeavingStands) (found : HomesAreFound) (gives : GivesFlights design d table.stages r made.comings) (before : ℕ) (s : ServedStage) (at : slice_get stages before ≡ Some s) (within : before + 2 ≤ design.stages - 1) where
    abbrev next : StageSlots
    next = unwrap_or (slice_get table.stages (suc before)) no_slots

    next_at : slice_get table.stages (suc before) ≡ Some next
    next_at = let count = slots.count in stands table.stages (suc before) no_slots (omega (arith, count, within))

    abbrev coming : Coming
    coming = unwrap_or (slice_get made.comings (suc before)) no_coming

    coming_at : slice_get made.comings (suc before) ≡ Some coming
    coming_at = let long = flying.long in stands made.comings (suc before) no_coming (omega (arith, long, within))

    abbrev own : StageRegisters
    own = unwrap_or (slice_get r.stages (suc before)) no_registers

    own_at : slice_get r.stages (suc before) ≡ Some own
    own_at =
        let count = slots.count in
        let long = names_long design old 1 table.stages r.stages h.can.names.each in
        stands r.stages (suc before) no_registers (omega (arith, count, long, within))

    -- by the number of the stage after it
    after_is : (stage : ℕ) → stage ≡ suc before → stage + 1 ≡ suc (suc before)
    after_is stage e = omega arith

    kept : (stage : ℕ) → stage ≡ suc before → AreSlotsFor design d (kept_in design table.stages) gives.has next s.courses.items stage
    kept stage same =
        let after : stage + 1 ≡ suc (suc before) = after_is stage same in
        let number : suc before + 1 ≡ stage + 1 = ap (λ n. n + 1) (sym same) in
        let are : AreStageSlots design (stage + 1) next = subst (λ n. AreStageSlots design n next) number (slots.each (suc before) next next_at) in
        let homes : (gives.has).homes (stage + 1) ≡ next.homes = gives.homes (stage + 1) ∙ ap (λ n. (at_stage no_slots table.stages n).homes) after in
        let locals : (gives.has).locals (stage + 1) ≡ coming.locals = gives.locals (stage + 1) ∙ ap (λ n. (at_stage no_coming made.comings n).locals) after in
        let left = h.flights.left.each (suc before) next coming.locals next_at (h.flights.come.left (suc before) coming coming_at) in
        let named = names_at design old 1 (suc before) table.stages r.stages next own h.can.names.each next_at own_at in
        let wide : length own.slots ≡ length next.widths = sym (mapped_long wire_width own.slots) ∙ ap length named.slots_wide in
        record {
          are = are;
          homes = homes;
          each = subst (EachPair (IsLeavingOf s.courses.items) next.homes) (sym locals) (subst (λ l. EachPair (IsLeavingOf l) next.homes coming.locals) (courses_at stages before s at) left);
          count = ap (λ (x : StageRegisters). length x.slots) (gives.registers (stage + 1) ∙ ap (at_stage no_registers r.stages) after) ∙ wide;
          kept = λ k i instr there live.
              let home = (found design (stage + 1) next.widths next.homes clean are.homes k i instr there live).home in
              subst (IsHomeOf next.homes k i) (ap (λ n. kept_in design table.stages n instr i) (sym after)) home;
        }

pub flows_give_front : FlowsGiveFront
flows_give_front design modules table r p given control target stages made old new d slots h e k busy =
    subst (λ (x : Fetching). IsFrontBuilt design d modules table r made.comings x given control) (sym h.fetching) (front design table r p control target stages made old new d slots h e modules given k busy)

pub flows_leave : LeavingStands → HomesAreFound → FlowsLeave
flows_leave stand found design modules table r p control target stages made old new d clean slots h e gives stage s low high at =
    let before : ℕ = stage - 1 in
    let same : stage ≡ suc before = omega (arith, low) in
    let within : before + 2 ≤ design.stages - 1 = omega (arith, low, high) in
    let has : HasInstrs design old s = All-at (HasInstrs design old) stages before s h.can.leaves.instrs at in
    let later = from_old design table r p control target stages made old new d slots h e in
    stand design d modules (kept_in design table.stages) gives.has (unwrap_or (slice_get table.stages (suc before)) no_slots) s.ground s.courses.items stage (instrs_later design old d s later has)
    (kept design table r p control target stages made old new d slots h e modules clean stand found gives before s at within stage same)
