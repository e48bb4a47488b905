-- The registers of flights, driven, as the border asks.
use Rattle.std.proofs.Common.{◌≡◌, ℕ, zero, suc, ◌+◌, ◌-◌, ◌<◌, ◌≤◌, List, [], ◌∷◌, length, Some, refl, sym, ap, subst, arith}
use Rattle.std.specs.Prelude.{slice_get, unwrap_or}
use Rattle.ap_desc.specs.declared.design.Design.{Design}
use Rattle.ap_net.specs.declared.cell.Wire.{Wire}
use Rattle.ap_net.specs.Draft.{Draft}
use Rattle.ap_pipe.specs.declared.table.Home.{Home}
use Rattle.ap_pipe.specs.declared.table.StageSlots.{StageSlots}
use Rattle.ap_signals.specs.NetRuns.{slot_name}
use Rattle.ap_signals.specs.NetSignals.{by_stage}
use Rattle.ap_ctl.specs.Lists.{EachFrom}
use Rattle.ap_flight.specs.declared.entry.Leaving.{Leaving}
use Rattle.ap_flight.specs.declared.stage.Coming.{Coming}
use Rattle.ap_flight.specs.declared.stage.StageRegisters.{StageRegisters}
use Rattle.ap_flight.specs.Entries.{SlotTakes, left_to}
use Rattle.ap_flight.specs.Stages.{PassesOn, TakesNet}
use Rattle.ap_border.specs.Flights.{HasFlights, HasStage, IsSlotOf}
use Rattle.ap_border.specs.Named.{IsZeroNamed}
use Rattle.ap_front.specs.declared.registers.Registers.{Registers}
use Rattle.ap_front.specs.Driven.{FlightsGiveBorder, FlightsGoOn, GivesFlights, IsDriven, IsFlying, at_stage, no_coming, no_registers, no_slots}
use Rattle.ap_front.specs.Opened.{NamesStage, NamesStages}
use Rattle.ap_front.proofs.Driving.{IsDriven-Extends}
use Rattle.ap_front.proofs.Named.{IsNamed-Extends, next_later}
use Rattle.ap_front.proofs.Opened.{names_go_on}

pub flying_later : FlightsGoOn
flying_later design a b fetched pc_from stages r comings e h = record {
  fetched = IsNamed-Extends e h.fetched;
  names = names_go_on design a b stages r e h.names;
  next = next_later a b (record { register = r.pc; from = pc_from }) e h.next;
  slots = h.slots;
  long = h.long;
  each = λ place q s c p1 p2 p3. IsDriven-Extends e (h.each place q s c p1 p2 p3);
  chained = h.chained;
}

-- what stands at a place of a list, where it is there
pub there : {X : Type 0} (list : List X) (place : ℕ) (none : X) → place < length list → slice_get list place ≡ Some (unwrap_or (slice_get list place) none)
there [] place none lt = absurd (omega arith)
there (x ∷ list) zero none lt = refl
there (x ∷ list) (suc place) none lt = there list place none (omega arith)

pub names_long : (design : Design) (d : Draft) (stage : ℕ) (stages : List StageSlots) (registers : List StageRegisters) → NamesStages design d stage stages registers → length registers ≡ length stages
names_long design d stage [] [] h = refl
names_long design d stage [] (r ∷ registers) h = absurd h
names_long design d stage (s ∷ stages) [] h = absurd h
names_long design d stage (s ∷ stages) (r ∷ registers) h = ap suc (names_long design d (stage + 1) stages registers h.1)

pub names_at : (design : Design) (d : Draft) (stage place : ℕ) (stages : List StageSlots) (registers : List StageRegisters) (s : StageSlots) (r : StageRegisters) → NamesStages design d stage stages registers → slice_get stages place ≡ Some s → slice_get registers place ≡ Some r
    → NamesStage design d (stage + place) s.widths r
names_at design d stage place [] registers s r h p1 p2 = cc
names_at design d stage place (t ∷ stages) [] s r h p1 p2 = absurd h
names_at design d stage zero (t ∷ stages) (q ∷ registers) s r h p1 p2 =
    let here : stage ≡ stage + 0 = omega arith in
    let one : t ≡ s = cc in
    let two : q ≡ r = cc in
    subst (λ n. NamesStage design d n s.widths r) here (subst (λ (x : StageSlots). NamesStage design d stage x.widths r) one (subst (λ (x : StageRegisters). NamesStage design d stage t.widths x) two h.0))
names_at design d stage (suc place) (t ∷ stages) (q ∷ registers) s r h p1 p2 =
    let next : stage + 1 + place ≡ stage + suc place = omega arith in
    subst (λ n. NamesStage design d n s.widths r) next (names_at design d (stage + 1) place stages registers s r h.1 p1 p2)

slots_are : (d : Draft) (homes : List Home) (locals : List Leaving) (hold : Wire) (stage slot : ℕ) (ws : List Wire) → EachFrom (λ k w. IsZeroNamed d (slot_name stage k) w) slot ws
    → EachFrom (λ k w. TakesNet d (SlotTakes hold w (left_to k homes locals)) w) slot ws → EachFrom (IsSlotOf d homes locals hold stage) slot ws
slots_are d homes locals hold stage slot [] named takes = tt
slots_are d homes locals hold stage slot (w ∷ ws) named takes = (record { named = named.0; takes = takes.0 }, slots_are d homes locals hold stage (slot + 1) ws named.1 takes.1)

pub stage_has : (design : Design) (d : Draft) (stage : ℕ) (r : StageRegisters) (s : StageSlots) (c : Coming) (word place : Wire) → NamesStage design d stage s.widths r → IsDriven d r s c → c.word ≡ word → c.place ≡ place → HasStage d s.homes c.locals c.hold word place stage r
stage_has design d stage r s c word place names driven same also = record {
  word_named = names.word;
  word_takes = subst (λ (w : Wire). TakesNet d (PassesOn c.hold r.word w) r.word) same driven.word;
  place_named = names.place;
  place_takes = subst (λ (w : Wire). TakesNet d (PassesOn c.hold r.place w) r.place) also driven.place;
  slots = slots_are d s.homes c.locals c.hold stage 0 r.slots names.slots driven.slots;
}

module _ (design : Design) (d : Draft) (fetched pc_from : Wire) (stages : List StageSlots) (r : Registers) (comings : List Coming) (h : IsFlying design d fetched pc_from stages r comings) where
  abbrev registers : ℕ → StageRegisters
  registers stage = at_stage no_registers r.stages stage

  each : (before stage : ℕ) → before + 1 ≡ stage → stage ≤ design.stages - 1
      → HasStage d (at_stage no_slots stages stage).homes (at_stage no_coming comings stage).locals (at_stage no_coming comings stage).hold (by_stage fetched (λ s. (registers s).word) before) (by_stage r.pc (λ s. (registers s).place) before) stage (registers stage)
  each before stage e le =
      let here : stage ≡ suc before = omega arith in
      subst (λ n. HasStage d (at_stage no_slots stages n).homes (at_stage no_coming comings n).locals (at_stage no_coming comings n).hold (by_stage fetched (λ s. (registers s).word) before) (by_stage r.pc (λ s. (registers s).place) before) n (registers n)) (sym here) (go (omega arith))
    where
      go : before < design.stages - 1 → HasStage d (at_stage no_slots stages (suc before)).homes (at_stage no_coming comings (suc before)).locals (at_stage no_coming comings (suc before)).hold (by_stage fetched (λ s. (registers s).word) before)
          (by_stage r.pc (λ s. (registers s).place) before) (suc before) (registers (suc before))
      go lt =
          let s : StageSlots = unwrap_or (slice_get stages before) no_slots in
          let q : StageRegisters = unwrap_or (slice_get r.stages before) no_registers in
          let c : Coming = unwrap_or (slice_get comings before) no_coming in
          let l1 = h.slots in
          let l2 = h.long in
          let l3 = names_long design d 1 stages r.stages h.names.each in
          let p1 : slice_get stages before ≡ Some s = there stages before no_slots (omega arith) in
          let p2 : slice_get r.stages before ≡ Some q = there r.stages before no_registers (omega arith) in
          let p3 : slice_get comings before ≡ Some c = there comings before no_coming (omega arith) in
          let number : 1 + before ≡ suc before = omega arith in
          let chain = h.chained before c p3 in
          stage_has design d (suc before) q s c (by_stage fetched (λ n. (registers n).word) before) (by_stage r.pc (λ n. (registers n).place) before)
          (subst (λ n. NamesStage design d n s.widths q) number (names_at design d 1 before stages r.stages s q h.names.each p1 p2)) (h.each before q s c p2 p1 p3) chain.0 chain.1

  has : HasFlights design d
  has = record {
    fetched = fetched;
    fetched_named = h.fetched;
    pc = r.pc;
    pc_from = pc_from;
    pc_named = record { begins = h.names.pc; next = h.next };
    hold = λ stage. (at_stage no_coming comings stage).hold;
    homes = λ stage. (at_stage no_slots stages stage).homes;
    locals = λ stage. (at_stage no_coming comings stage).locals;
    registers = registers;
    each = each;
  }

  gives : GivesFlights design d stages r comings
  unfolding has
  gives = record { has = has; hold = λ stage. refl; locals = λ stage. refl; homes = λ stage. refl; registers = λ stage. refl }

pub flights_give_border : FlightsGiveBorder
flights_give_border design d fetched pc_from stages r comings h = gives design d fetched pc_from stages r comings h
