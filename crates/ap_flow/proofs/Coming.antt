-- What comes to the stages fits their registers.
use Rattle.std.proofs.Common.{◌≡◌, ℕ, zero, suc, ◌+◌, List, [], ◌∷◌, map, Some, refl, sym, ap, subst, ◌∙◌, arith}
use Rattle.std.specs.Prelude.{Contains, slice_get, slice_index, unwrap_or}
use Rattle.std.specs.List.{AllByRecursion as Each}
use Rattle.std.proofs.lemmas.Option.{slice_get_within}
use Rattle.ap_desc.specs.Clean.{IsClean}
use Rattle.ap_desc.specs.Designs.{width_at}
use Rattle.ap_desc.specs.declared.design.Design.{Design}
use Rattle.ap_net.specs.declared.cell.Wire.{Wire}
use Rattle.ap_net.specs.Draft.{Draft, IsKept}
use Rattle.ap_net.proofs.Lists.{All-at}
use Rattle.ap_pipe.specs.declared.table.Home.{Home}
use Rattle.ap_pipe.specs.declared.table.SlotTable.{SlotTable}
use Rattle.ap_pipe.specs.declared.table.StageSlots.{StageSlots}
use Rattle.ap_pipe.specs.Slots.{AreSlotsOf}
use Rattle.ap_signals.specs.NetSignals.{by_stage}
use Rattle.ap_ctl.specs.declared.nets.ControlNets.{ControlNets}
use Rattle.ap_ctl.specs.Building.{IsBit}
use Rattle.ap_flight.specs.declared.entry.Leaving.{Leaving}
use Rattle.ap_flight.specs.declared.stage.Coming.{Coming}
use Rattle.ap_flight.specs.declared.stage.StageRegisters.{StageRegisters}
use Rattle.ap_flight.specs.Stages.{FitsHome, IsComing, IsLike, IsOpen, stage_wires}
use Rattle.ap_stage.specs.declared.node.Course.{Course}
use Rattle.ap_stages.specs.declared.stage.ServedStage.{ServedStage}
use Rattle.ap_outcome.specs.Outcomes.{IsLeavingOf}
use Rattle.ap_whole.specs.Handed.{AreInstrCourses, IsInstrCourse}
use Rattle.ap_front.specs.declared.ports.Ports.{Ports}
use Rattle.ap_front.specs.declared.registers.Registers.{Registers}
use Rattle.ap_front.specs.Coming.{AreComings}
use Rattle.ap_front.specs.Driven.{AtPlace, CanDrive, at_stage, no_registers, no_slots}
use Rattle.ap_front.specs.Opened.{NamesStage, wire_width}
use Rattle.ap_front.proofs.Flying.{names_at, names_long, there as stands}
use Rattle.ap_front.proofs.PortNets.{port_is_net}
use Rattle.ap_front.proofs.Readied.{open_can_be_driven}
use Rattle.ap_flow.specs.Flowing.{CanFlow}
use Rattle.ap_flow.specs.Left.{AreLeft, HasInstrs, courses_of}
use Rattle.ap_flow.proofs.Left.{courses_at}
use Rattle.ap_flow.proofs.Lists.{beside, each_of_one, pairs_within, there}

width_is : (widths : List ℕ) (i : ℕ) → width_at (λ (width : ℕ). width) widths i ≡ slice_index widths i
width_is [] i = refl
width_is (w ∷ widths) zero = refl
width_is (w ∷ widths) (suc i) = width_is widths i

slot_width : (slots : List Wire) (k : ℕ) (w : Wire) → slice_get slots k ≡ Some w → slice_index (map wire_width slots) k ≡ w.width
slot_width [] k w at = cc
slot_width (x ∷ slots) zero w at = let same : x ≡ w = cc in ap wire_width same
slot_width (x ∷ slots) (suc k) w at = slot_width slots k w at

module _ (design : Design) (d : Draft) (table : SlotTable) (r : Registers) (p : Ports) (control : ControlNets) (target : Wire) (stages : List ServedStage) (kept : IsKept d) (slots : AreSlotsOf design table) (can : CanFlow design d table r p control target stages) where
  -- the registers of a stage are there, by their names
  wires : (place : ℕ) (q : StageRegisters) → slice_get r.stages place ≡ Some q → Each (IsOpen d) (stage_wires q)
  wires place q at = each_of_one (IsOpen d) stage_wires r.stages can.free.each.1 place q at

  named : (place : ℕ) (q : StageRegisters) (s : StageSlots) → slice_get r.stages place ≡ Some q → slice_get table.stages place ≡ Some s → NamesStage design d (1 + place) s.widths q
  named place q s p1 p2 = names_at design d 1 place table.stages r.stages s q can.names.each p2 p1

  -- the word and the address that come have the bits of the registers
  word_like : (place : ℕ) (q : StageRegisters) (s : StageSlots) → slice_get r.stages place ≡ Some q → slice_get table.stages place ≡ Some s → IsLike d.nets q.word (by_stage p.idata (λ n. (at_stage no_registers r.stages n).word) place)
  word_like zero q s p1 p2 = record { net = port_is_net d _ p.idata kept can.ports.idata; same = can.ports.idata.wide ∙ sym (named 0 q s p1 p2).word_wide }
  word_like (suc n) q s p1 p2 =
      let inside = slice_get_within r.stages (suc n) q p1 in
      let long = names_long design d 1 table.stages r.stages can.names.each in
      let b : StageRegisters = unwrap_or (slice_get r.stages n) no_registers in
      let t : StageSlots = unwrap_or (slice_get table.stages n) no_slots in
      let q1 : slice_get r.stages n ≡ Some b = stands r.stages n no_registers (omega (arith, inside)) in
      let q2 : slice_get table.stages n ≡ Some t = stands table.stages n no_slots (omega (arith, inside, long)) in
      record { net = (wires n b q1).0.net; same = (named n b t q1 q2).word_wide ∙ sym (named (suc n) q s p1 p2).word_wide }

  place_like : (place : ℕ) (q : StageRegisters) (s : StageSlots) → slice_get r.stages place ≡ Some q → slice_get table.stages place ≡ Some s → IsLike d.nets q.place (by_stage r.pc (λ n. (at_stage no_registers r.stages n).place) place)
  place_like zero q s p1 p2 = record { net = can.free.each.0.net; same = can.names.pc_wide ∙ sym (named 0 q s p1 p2).place_wide }
  place_like (suc n) q s p1 p2 =
      let inside = slice_get_within r.stages (suc n) q p1 in
      let long = names_long design d 1 table.stages r.stages can.names.each in
      let b : StageRegisters = unwrap_or (slice_get r.stages n) no_registers in
      let t : StageSlots = unwrap_or (slice_get table.stages n) no_slots in
      let q1 : slice_get r.stages n ≡ Some b = stands r.stages n no_registers (omega (arith, inside)) in
      let q2 : slice_get table.stages n ≡ Some t = stands table.stages n no_slots (omega (arith, inside, long)) in
      record { net = (wires n b q1).1.0.net; same = (named n b t q1 q2).place_wide ∙ sym (named (suc n) q s p1 p2).place_wide }

  -- what is left to a home fits the slot of the home
  home_fits : (place : ℕ) (q : StageRegisters) (s : StageSlots) → slice_get r.stages place ≡ Some q → slice_get table.stages place ≡ Some s → (home : Home) (l : Leaving) → Contains s.homes home → IsLeavingOf (courses_of stages place) home l
      → FitsHome d.nets q.slots home l
  home_fits zero q s p1 p2 home l within h = let at = h.at in absurd cc
  home_fits (suc n) q s p1 p2 home l within h =
      let inside = slice_get_within table.stages (suc n) s p2 in
      let count = slots.count in
      let long = can.leaves.count in
      let b = there stages n (omega (arith, inside, count, long)) in
      let are : AreInstrCourses design d (b.0).ground (b.0).courses.items = All-at (HasInstrs design d) stages n b.0 can.leaves.instrs b.1 in
      let c : Course = h.course in
      let i = beside (IsInstrCourse d (b.0).ground) design.instrs (b.0).courses.items are home.instr c (ap (λ (x : List Course). slice_get x home.instr) (sym (courses_at stages n b.0 b.1)) ∙ h.at) in
      let has : IsInstrCourse d (b.0).ground i.0 c = i.2 in
      let holds = ((slots.each (suc n) s p2).homes.hold home within).wide i.0 i.1 in
      record {
        cond = subst (λ (w : Wire). IsBit d.nets w) (sym h.cond) (record { net = has.cond.carries.net; bit = has.cond.carries.wide });
        net = has.row.nets_are home.local l.net h.has;
        fits = λ slot at.
            let own : l.net.width ≡ slice_index i.0.locals home.local = has.row.wide home.local l.net h.has ∙ width_is c.scope.widths home.local ∙ ap (λ widths. slice_index widths home.local) has.widths in
            let room : slice_index s.widths home.slot ≡ slot.width = ap (λ widths. slice_index widths home.slot) (sym (named (suc n) q s p1 p2).slots_wide) ∙ slot_width q.slots home.slot slot at in
            omega (arith, own, room, holds);
      }

  pub comes : (hold : Wire) → IsBit d.nets hold → (locals : List (List Leaving)) → AreLeft table.stages stages locals → (comings : List Coming) → AreComings r p.idata hold locals comings
      → AtPlace r.stages table.stages comings (λ q s c. IsComing q s.homes d.nets c)
  comes hold bit locals left comings come place q s c p1 p2 p3 =
      let chain = come.chained place c p3 in
      record {
        hold = subst (λ (w : Wire). IsBit d.nets w) (sym (come.held place c p3)) bit;
        word = subst (λ (w : Wire). IsLike d.nets q.word w) (sym chain.0) (word_like place q s p1 p2);
        place = subst (λ (w : Wire). IsLike d.nets q.place w) (sym chain.1) (place_like place q s p1 p2);
        locals = pairs_within (IsLeavingOf (courses_of stages place)) (FitsHome d.nets q.slots) s.homes c.locals (home_fits place q s p1 p2) (left.each place s c.locals p2 (come.left place c p3));
      }

  pub can_drive : IsClean design → (hold : Wire) → IsBit d.nets hold → (locals : List (List Leaving)) → AreLeft table.stages stages locals → (comings : List Coming) → AreComings r p.idata hold locals comings → CanDrive d r.stages table.stages comings
  can_drive clean hold bit locals left comings come =
      open_can_be_driven design d table r comings clean slots can.names (record { each = can.free.each.1; apart = can.free.apart.1 }) come.long (comes hold bit locals left comings come)
