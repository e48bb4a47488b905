-- The front of a finished draft is what the border asks.
use Rattle.std.proofs.Common.{◌≡◌, ℕ, zero, suc, ◌+◌, ◌-◌, ◌%◌, ◌^◌, ◌<◌, ◌≤◌, ◌==◌, if◌then◌else◌, Bool, List, [], ◌∷◌, length, flat_map, Option, Some, true, false, refl, sym, ap, subst, ◌∙◌, arith}
use Rattle.std.specs.Prelude.{find, slice_get, unwrap_or}
use Rattle.std.specs.Option.{option_map_or}
use Rattle.std.specs.List.{AllByRecursion as Each}
use Rattle.ap_desc.specs.Clean.{IsClean}
use Rattle.ap_desc.specs.declared.design.Design.{Design}
use Rattle.ap_desc.specs.declared.design.Instr.{Instr}
use Rattle.ap_model.specs.Fire.{instr_of, is_match}
use Rattle.ap_model.specs.FlightLocals.{is_live, is_live_in}
use Rattle.ap_net.specs.declared.cell.Wire.{Wire}
use Rattle.ap_net.specs.Cells.{IsNet}
use Rattle.ap_net.specs.Draft.{Draft}
use Rattle.ap_net.specs.Modules.{ModuleText}
use Rattle.ap_net.specs.Readings.{Reading}
use Rattle.ap_net.proofs.Facts.{meant}
use Rattle.ap_net.proofs.Lists.{All-back, All-front}
use Rattle.ap_pipe.specs.declared.table.SlotTable.{SlotTable}
use Rattle.ap_pipe.specs.declared.table.StageSlots.{StageSlots}
use Rattle.ap_pipe.specs.Slots.{AreStageSlots}
use Rattle.ap_ctl.specs.declared.nets.ControlGiven.{ControlGiven}
use Rattle.ap_ctl.specs.declared.nets.ControlNets.{ControlNets}
use Rattle.ap_ctl.specs.Building.{is_on}
use Rattle.ap_ctl.specs.Meaning.{Look, is_held, kills}
use Rattle.ap_ctl.specs.Nets.{Shows}
use Rattle.ap_flight.specs.declared.stage.Coming.{Coming}
use Rattle.ap_flight.specs.declared.stage.StageRegisters.{StageRegisters}
use Rattle.ap_flight.specs.Stages.{stage_wires}
use Rattle.ap_flight.proofs.Steps.{Carries-width}
use Rattle.ap_border.specs.Fetch.{HasFetch, next_pc}
use Rattle.ap_border.proofs.ControlShown.{bit_says}
use Rattle.ap_whole.specs.Homes.{HomesAreFound, home_of}
use Rattle.ap_front.specs.declared.fetch.Fetching.{Fetching}
use Rattle.ap_front.specs.declared.registers.Registers.{Registers}
use Rattle.ap_front.specs.Driven.{GivesFlights, at_stage, no_coming, no_registers, no_slots}
use Rattle.ap_front.specs.Opened.{wire_width}
use Rattle.ap_front.proofs.Controlled.{control_gives_border, holds_each_stage}
use Rattle.ap_front.proofs.Flying.{flights_give_border, names_at, names_long, there}
use Rattle.ap_front.proofs.Readied.{mapped_long}
use Rattle.ap_built.specs.Front.{FrontsGiveBorder, GivesFront, IsFrontBuilt, kept_in}

-- what is found stands at some place
found_at : {X : Type 0} (t : X → Bool) (xs : List X) (x : X) → find t xs ≡ Some x → (i : ℕ) × (slice_get xs i ≡ Some x)
found_at t [] x e = cc
found_at {X} t (y ∷ ys) x e = by (found_at t ys x) (t y) refl
  where
    by : (find t ys ≡ Some x → (i : ℕ) × (slice_get ys i ≡ Some x)) → (b : Bool) → t y ≡ b → (i : ℕ) × (slice_get (y ∷ ys) i ≡ Some x)
    by later true p = (0, sym (ap (λ (c : Bool). if c then Some y else find t ys) p) ∙ e)
    by later false p = let l = later (sym (ap (λ (c : Bool). if c then Some y else find t ys) p) ∙ e) in (suc l.0, l.1)

-- the word of a stage is among the wires of the front
word_there : (P : Wire → Type 0) (stages : List StageRegisters) (place : ℕ) (q : StageRegisters) → Each P (flat_map stage_wires stages) → slice_get stages place ≡ Some q → P q.word
word_there P [] place q h at = cc
word_there P (s ∷ stages) zero q h at =
    let one : s ≡ q = cc in
    subst (λ (x : StageRegisters). P x.word) one (All-front P (stage_wires s) (flat_map stage_wires stages) h).0
word_there P (s ∷ stages) (suc place) q h at = word_there P stages place q (All-back P (stage_wires s) (flat_map stage_wires stages) h) at

module _ (design : Design) (d : Draft) (modules : List ModuleText) (table : SlotTable) (r : Registers) (comings : List Coming) (f : Fetching) (given : ControlGiven) (nets : ControlNets) (clean : IsClean design)
    (h : IsFrontBuilt design d modules table r comings f given nets) (found : HomesAreFound) where
  flights : GivesFlights design d table.stages r comings
  flights = flights_give_border design d h.idata h.pc_from table.stages r comings h.flying

  homes : (stage i word : ℕ) (instr : Instr) → 1 ≤ stage → stage ≤ design.stages - 1 → instr_of design word ≡ Some instr → is_live design word stage i ≡ true
      → kept_in design table.stages stage instr i < length ((flights.has).registers stage).slots
  unfolding instr_of is_live
  homes stage i word instr low high at live =
      let before : ℕ = stage - 1 in
      let here : before + 1 ≡ stage = omega arith in
      let next : suc before ≡ stage = omega arith in
      let number = found_at (is_match word) design.instrs instr at in
      let lives : is_live_in design stage i instr ≡ true = sym (ap (λ (o : Option Instr). option_map_or (is_live_in design stage i) o false) at) ∙ live in
      let count = h.slots.count in
      let long = names_long design d 1 table.stages r.stages h.flying.names.each in
      let s : StageSlots = unwrap_or (slice_get table.stages before) no_slots in
      let p1 : slice_get table.stages before ≡ Some s = there table.stages before no_slots (omega arith) in
      let q : StageRegisters = unwrap_or (slice_get r.stages before) no_registers in
      let p2 : slice_get r.stages before ≡ Some q = there r.stages before no_registers (omega arith) in
      let named = names_at design d 1 before table.stages r.stages s q h.flying.names.each p1 p2 in
      let are = subst (λ n. AreStageSlots design n s) here (h.slots.each before s p1) in
      let less = (found design stage s.widths s.homes clean are.homes number.0 i instr number.1 lives).within in
      let same : kept_in design table.stages stage instr i ≡ home_of design s.homes instr i = ap (λ n. kept_in design table.stages n instr i) (sym next) in
      let wide : length q.slots ≡ length s.widths = sym (mapped_long wire_width q.slots) ∙ ap length named.slots_wide in
      let all : length ((flights.has).registers stage).slots ≡ length q.slots = ap (λ (x : StageRegisters). length x.slots) (flights.registers stage ∙ ap (at_stage no_registers r.stages) (sym next)) in
      omega arith

  words : (stage : ℕ) → 1 ≤ stage → stage ≤ design.stages - 1 → IsNet d.nets ((flights.has).registers stage).word × (((flights.has).registers stage).word.width ≡ design.word)
  words stage low high =
      let before : ℕ = stage - 1 in
      let next : suc before ≡ stage = omega arith in
      let count = h.slots.count in
      let long = names_long design d 1 table.stages r.stages h.flying.names.each in
      let s : StageSlots = unwrap_or (slice_get table.stages before) no_slots in
      let p1 : slice_get table.stages before ≡ Some s = there table.stages before no_slots (omega arith) in
      let q : StageRegisters = unwrap_or (slice_get r.stages before) no_registers in
      let p2 : slice_get r.stages before ≡ Some q = there r.stages before no_registers (omega arith) in
      let named = names_at design d 1 before table.stages r.stages s q h.flying.names.each p1 p2 in
      let same : (flights.has).registers stage ≡ q = flights.registers stage ∙ ap (at_stage no_registers r.stages) (sym next) in
      subst (λ (x : StageRegisters). IsNet d.nets x.word × (x.word.width ≡ design.word)) (sym same) (word_there (IsNet d.nets) r.stages before q h.there.1 p2, named.word_wide)

  shows : (stage : ℕ) → 1 ≤ stage → stage ≤ design.stages - 1 → Shows design given nets.valid d (λ look. is_held design look stage) ((flights.has).hold stage)
  shows stage low high =
      let before : ℕ = stage - 1 in
      let next : suc before ≡ stage = omega arith in
      let long = h.flying.long in
      let c : Coming = unwrap_or (slice_get comings before) no_coming in
      let p : slice_get comings before ≡ Some c = there comings before no_coming (omega arith) in
      let same : (flights.has).hold stage ≡ c.hold = flights.hold stage ∙ ap (λ n. (at_stage no_coming comings n).hold) (sym next) in
      subst (Shows design given nets.valid d (λ look. is_held design look stage)) (sym same) (holds_each_stage design d given nets c.hold h.controlled.control (h.comes before c p) stage)

  held : Shows design given nets.valid d (λ look. is_held design look 0) f.hold
  held = holds_each_stage design d given nets f.hold h.controlled.control h.held 0

  killed : Shows design given nets.valid d (kills design) f.kill
  killed = subst (Shows design given nets.valid d (kills design)) (sym h.killed) h.controlled.control.kill

  -- where control's nets say what it means of them, the pc takes what the border asks
  chosen : (r : Reading) (look : Look) → is_on r f.hold ≡ is_held design look 0 → is_on r f.kill ≡ kills design look
      → (if is_on r f.hold then r.read f.pc.number else if is_on r f.kill then r.read f.target.number else (r.read f.pc.number + 1) % 2 ^ f.pc.width) ≡ next_pc design look (r.read f.pc.number) (r.read f.target.number)
  chosen r look p q = ap (λ b. if b then r.read f.pc.number else if is_on r f.kill then r.read f.target.number else (r.read f.pc.number + 1) % 2 ^ f.pc.width) p
      ∙ ap (λ b. if is_held design look 0 then r.read f.pc.number else if b then r.read f.target.number else (r.read f.pc.number + 1) % 2 ^ f.pc.width) q
      ∙ ap (λ w. if is_held design look 0 then r.read f.pc.number else if kills design look then r.read f.target.number else (r.read f.pc.number + 1) % 2 ^ w) h.fetched.wide

  abbrev fetch : HasFetch design d given nets
  fetch = record {
    address = f.address;
    address_named = h.fetched.address;
    pc = f.pc;
    pc_from = h.fetched.takes.from;
    pc_named = record { begins = h.fetched.pc; next = h.fetched.takes.next };
    shows = Carries-width h.fetched.wide h.fetched.shows;
    target = f.target;
    takes = Carries-width h.fetched.wide (meant (λ r s e look sees. e ∙ chosen r look
        (ap (λ n. n == 1) (held.means.holds r s look sees) ∙ bit_says (is_held design look 0)) (ap (λ n. n == 1) (killed.means.holds r s look sees) ∙ bit_says (kills design look))) h.fetched.takes.carries);
  }

  front : GivesFront design d modules table r comings f given nets
  front = record {
    control = control_gives_border design d modules given nets h.hold h.stall h.kill h.idata h.pc_from table.stages r comings h.controlled h.flying h.words h.busy;
    fetch = fetch;
    target = refl;
    flights = flights;
    homes = homes;
    words = words;
    holds = shows;
  }

pub fronts_give_border : HomesAreFound → FrontsGiveBorder
fronts_give_border found design d modules table r comings f given nets clean h = front design d modules table r comings f given nets clean h found
