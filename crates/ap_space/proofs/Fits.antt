-- The machine's states fit: what lines give, what flights carry and what storages hold. So a transfer that is taken goes to an address.
use Rattle.std.proofs.Common.{◌≡◌, ℕ, zero, suc, ◌+◌, ◌-◌, ◌/◌, ◌^◌, ◌≤◌, ◌<◌, ◌||◌, Bool, true, false, if◌then◌else◌, IfSome, IsTrue, List, [], ◌∷◌, length, map, slice_get, Option, Some, None, option_map, refl, sym, subst, arith, mod-lt, pow_pos}
use Rattle.std.specs.Option.{option_map_or}
use Rattle.ap_bits.specs.Cards.{operation_value}
use Rattle.ap_bits.specs.declared.card.Card.{Card}
use Rattle.ap_desc.specs.Clean.{FitsCards}
use Rattle.ap_desc.specs.Widths.{has_widths, unit_width}
use Rattle.ap_desc.specs.declared.design.Act.{Act}
use Rattle.ap_desc.specs.declared.design.Act.TheVariants as act
use Rattle.ap_desc.specs.declared.design.Design.{Design}
use Rattle.ap_desc.specs.declared.design.Instr.{Instr}
use Rattle.ap_desc.specs.declared.design.Micro.{Micro}
use Rattle.ap_desc.specs.declared.design.Unit.{Unit as Resource}
use Rattle.ap_image.specs.FitsShape.{ImageFitsShape, TraceFitsShape}
use Rattle.ap_image.specs.declared.image.Image.{Image}
use Rattle.ap_image.specs.declared.trace.Trace.{Trace}
use Rattle.ap_image.specs.declared.trace.TraceLine.{TraceLine}
use Rattle.ap_model.proofs.PlainWidths.{args_fit, compute_fit, const_widths, joined_fit, sext_widths, unit_within, zext_fit}
use Rattle.ap_model.proofs.StageLemmas.{IsReached, clean_is_runnable, line_typed, reached_all, reached_first, reached_next, word_is_good}
use Rattle.ap_model.specs.DesignShape.{shape_of}
use Rattle.ap_model.specs.declared.state.Entry.{Entry}
use Rattle.ap_model.specs.declared.state.Flight.{Flight}
use Rattle.ap_model.specs.declared.state.State.{State}
use Rattle.ap_model.specs.declared.storage.PortWrite.{PortWrite}
use Rattle.ap_model.specs.Cycles.{CycleControl, after_control, cycle_entries, cycle_flights, entering, entries_of, entry_of, flight_effect, flight_entries, flights_from, from_last, gone_on, is_killed, leaving, over, port_input, staying}
use Rattle.ap_model.specs.Fire.{Sight, act_value, arg_value, bits_of_arg, instr_of, lines_effect, lines_in, locals_after, unit_value}
use Rattle.ap_model.specs.Fitting.{EffectFits, EntriesFit, FlightFits, FlightsFit, GoesByLine, IsGood, LocalsFit, LocalsStand, PortsFit, SightFits, StateFits, StoragesFit, locals_after_line, port_width, width_of_act}
use Rattle.ap_model.specs.Runnable.{IsRunnable}
use Rattle.ap_model.specs.Stored.{with_writes}
use Rattle.ap_model.proofs.EffectFits.{fired_none, fired_some, sight_fits}
use Rattle.ap_model.proofs.MachineFits.{inputs_fit, transfer_fits, writes_keep}
use Rattle.ap_model.proofs.StepFits.{after_fits, entering_fits, start_state_fits}
use Rattle.ap_space.proofs.Lists.{each_append, each_map}
use Rattle.ap_space.proofs.Runs.{TargetsFit, control_at, line_of, state_at, state_next, taken_by_flight}
use Rattle.ap_space.proofs.Values.{extended_fits, operation_fits}

-- What a line assigns.

unit_fits : (sight : Sight) (unit op a b : ℕ) → SightFits sight → a < 2 ^ unit_width sight.design unit → b < 2 ^ unit_width sight.design unit → unit_value sight.design sight.cards unit op a b < 2 ^ unit_width sight.design unit
unfolding unit_value
unit_fits sight unit op a b fits p q = by_unit (slice_get sight.design.units unit) refl p q
  where
    by_card : (u : Resource) → 1 ≤ u.width → a < 2 ^ u.width → b < 2 ^ u.width → (o : Option Card) → option_map_or (λ (card : Card). operation_value card u.width op a b) o 0 < 2 ^ u.width
    by_card u low x y None = pow_pos u.width
    by_card u low x y (Some card) = operation_fits card u.width op a b low x y

    by_unit : (o : Option Resource) → slice_get sight.design.units unit ≡ o → a < 2 ^ option_map_or (λ (u : Resource). u.width) o 0 → b < 2 ^ option_map_or (λ (u : Resource). u.width) o 0
        → option_map_or (λ (u : Resource). option_map_or (λ (card : Card). operation_value card u.width op a b) (slice_get sight.cards u.kind) 0) o 0 < 2 ^ option_map_or (λ (u : Resource). u.width) o 0
    by_unit None e x y = pow_pos 0
    by_unit (Some u) e x y = by_card u (unit_within sight unit u fits e).0 x y (slice_get sight.cards u.kind)

act_fits : (sight : Sight) (locals : List ℕ) (line : ℕ) → SightFits sight → LocalsFit sight.instr.locals locals → (a : Act) → IsTrue (has_widths sight.design (bits_of_arg sight) a)
    → IfSome (act_value sight (arg_value sight locals) line a) (λ v. v < 2 ^ width_of_act sight a)
act_fits sight locals line fits fit (act.Compute unit op a b) typed =
    let both = compute_fit sight locals unit op a b fits fit typed in
    unit_fits sight unit op (arg_value sight locals a) (arg_value sight locals b) fits both.0 both.1
act_fits sight locals line fits fit (act.ReadFile file number index) typed = fits.storages.cells file (arg_value sight locals index)
act_fits sight locals line fits fit (act.ReadReg reg) typed = fits.storages.regs reg
act_fits sight locals line fits fit (act.ReadMem mem at) typed = fits.storages.words mem (arg_value sight locals at)
act_fits sight locals line fits fit (act.ReadIn input) typed = fits.inputs line input
act_fits sight locals line fits fit (act.Const width number) typed = const_widths sight.design (bits_of_arg sight) width number typed
act_fits sight locals line fits fit (act.Zext width a) typed = zext_fit sight locals width a fits fit typed
act_fits sight locals line fits fit (act.Sext width a) typed =
    extended_fits (arg_value sight locals a) (bits_of_arg sight a) width (sext_widths sight.design (bits_of_arg sight) width a typed).0 (args_fit sight locals fits fit a)
act_fits sight locals line fits fit (act.Slice high low a) typed = mod-lt (arg_value sight locals a / 2 ^ low) (pow_pos (high - low + 1))
act_fits sight locals line fits fit (act.Cat a b) typed =
    joined_fit (arg_value sight locals a) (bits_of_arg sight a) (arg_value sight locals b) (bits_of_arg sight b) (args_fit sight locals fits fit a) (args_fit sight locals fits fit b)
act_fits sight locals line fits fit _ typed = tt

-- The locals after a stage.

module _ (sight : Sight) (stage : ℕ) (start : List ℕ) (fits : SightFits sight) (good : IsGood sight.design sight.instr) (stand : LocalsStand sight.design sight.instr stage start) where
  abbrev Reached : ℕ → Type 0
  Reached i = (locals : List ℕ) × IsReached sight stage start i locals

  one_further : (i : ℕ) → i < length sight.instr.micros → Reached i → Reached (i + 1)
  one_further i less before = by_line (slice_get sight.instr.micros i) refl
    where
      beyond : (xs : List Micro) (k : ℕ) → k < length xs → slice_get xs k ≡ None → ⊥
      beyond [] k h e = omega arith
      beyond (m ∷ xs) zero h e = let never : Some m ≡ None = e in absurd cc
      beyond (m ∷ xs) (suc k) h e = beyond xs k (omega arith) e

      by_line : (o : Option Micro) → slice_get sight.instr.micros i ≡ o → Reached (i + 1)
      by_line None e = absurd (beyond sight.instr.micros i less e)
      by_line (Some m) e =
          let next = locals_after_line sight stage before.0 m in
          let typed = line_typed sight i m good e in
          let goes : GoesByLine sight stage m before.0 next = record { value = refl; fits = act_fits sight before.0 m.line fits before.1.fit m.act typed } in
          (next, reached_next sight stage start i before.0 next m good before.1 e goes)

  so_far : (i : ℕ) → i ≤ length sight.instr.micros → Reached i
  so_far zero le = (start, reached_first sight stage start stand)
  so_far (suc i) le = let more : i + 1 ≡ suc i = omega arith in subst Reached more (one_further i (omega arith) (so_far i (omega arith)))

  locals_stand : LocalsStand sight.design sight.instr (stage + 1) (locals_after sight start (lines_in stage sight.instr))
  locals_stand =
      let end = so_far (length sight.instr.micros) (omega arith) in
      let both = reached_all sight stage start end.0 end.1 in
      subst (LocalsStand sight.design sight.instr (stage + 1)) both.0 both.1

-- What a flight does fits.
fired_fits : (design : Design) (cards : List Card) (inputs : TraceLine) (state : State) (stage : ℕ) (flight : Flight) → IsRunnable design cards → StoragesFit design state.storages → PortsFit design inputs.ports → FlightFits design stage flight
    → EffectFits design flight.word stage (flight_effect design cards inputs state stage flight)
fired_fits design cards inputs state stage flight runs stored ports fits = by_instr (instr_of design flight.word) refl
  where
    by_instr : (o : Option Instr) → instr_of design flight.word ≡ o → EffectFits design flight.word stage (flight_effect design cards inputs state stage flight)
    by_instr None e =
        let none = fired_none design cards stage flight state.storages inputs.ports flight.locals (sym e) refl in
        subst (EffectFits design flight.word stage) none.0 none.1
    by_instr (Some instr) e =
        let good = word_is_good design cards flight.word instr runs e in
        let sight : Sight = record { design = design; cards = cards; instr = instr; word = flight.word; place = flight.place; storages = state.storages; input = port_input inputs } in
        let effect = lines_effect sight flight.locals (lines_in stage instr) in
        let stand = locals_stand sight stage flight.locals (sight_fits design cards instr stage flight state.storages inputs.ports runs stored ports fits) good (fits.locals instr e) in
        let some = fired_some design cards instr stage flight state.storages inputs.ports effect runs stored ports fits (sym e) good refl stand in
        subst (EffectFits design flight.word stage) some.0 some.1

-- A cycle.

module _ (design : Design) (cards : List Card) (image : Image) (inputs : TraceLine) (state : State) (control : CycleControl) (runs : IsRunnable design cards) (shaped : ImageFitsShape image (shape_of design)) (fits : StateFits design state) (ports : PortsFit design inputs.ports) where
  leaving_fits : (stage : ℕ) (flight : Option Flight) → IfSome flight (FlightFits design stage) → IfSome (leaving design cards inputs state control stage flight) (FlightFits design (stage + 1))
  leaving_fits stage None h = tt
  leaving_fits stage (Some f) h = by_stop (control.held stage || is_killed design control stage)
    where
      by_stop : (b : Bool) → IfSome (option_map (gone_on f) (if b then None else Some (flight_effect design cards inputs state stage f))) (FlightFits design (stage + 1))
      by_stop true = tt
      by_stop false = record { word = h.word; place = h.place; locals = (fired_fits design cards inputs state stage f runs fits.storages ports h).locals }

  stands_fits : (stage : ℕ) (b : Bool) (flight coming : Option Flight) → IfSome flight (FlightFits design stage) → IfSome coming (FlightFits design stage) → IfSome (if b then option_map staying flight else coming) (FlightFits design stage)
  stands_fits stage true None coming h more = tt
  stands_fits stage true (Some f) coming h more = record { word = h.word; place = h.place; locals = h.locals }
  stands_fits stage false flight coming h more = more

  flights_fit : (stage : ℕ) (coming : Option Flight) (flights : List (Option Flight)) → IfSome coming (FlightFits design stage) → FlightsFit design stage flights → FlightsFit design stage (flights_from design cards inputs state control stage coming flights)
  flights_fit stage coming [] more each = tt
  flights_fit stage coming (flight ∷ flights) more each =
      (stands_fits stage (control.held stage) flight coming each.0 more, flights_fit (stage + 1) (leaving design cards inputs state control stage flight) flights (leaving_fits stage flight each.0) each.1)

  told_fit : (stage : ℕ) (flight : Option Flight) → IfSome flight (FlightFits design stage) → EntriesFit design (option_map_or (flight_entries design cards inputs state control stage) flight [])
  told_fit stage None h = tt
  told_fit stage (Some f) h = by_stop (control.held stage || is_killed design control stage)
    where
      by_stop : (b : Bool) → EntriesFit design (option_map_or (entries_of stage f.number) (if b then None else Some (flight_effect design cards inputs state stage f)) [])
      by_stop true = tt
      by_stop false = each_map (λ (e : Entry). e.write.value < 2 ^ port_width design e.write.port) (entry_of stage f.number) (flight_effect design cards inputs state stage f).writes (fired_fits design cards inputs state stage f runs fits.storages ports h).writes

  all_told_fit : (stage : ℕ) (flights : List (Option Flight)) → FlightsFit design stage flights → EntriesFit design (from_last (flight_entries design cards inputs state control) stage flights)
  all_told_fit stage [] each = tt
  all_told_fit stage (flight ∷ flights) each =
      each_append (λ (e : Entry). e.write.value < 2 ^ port_width design e.write.port) (from_last (flight_entries design cards inputs state control) (stage + 1) flights) (option_map_or (flight_entries design cards inputs state control stage) flight [])
      (all_told_fit (stage + 1) flights each.1) (told_fit stage flight each.0)

  abbrev later : State
  later = after_control design cards image inputs state control

  storages_after : later.storages ≡ with_writes state.storages (map (λ (e : Entry). e.write) (cycle_entries design cards inputs state control))
  unfolding after_control
  storages_after = refl

  flights_after : later.flights ≡ flights_from design cards inputs state control 1 (entering design image state control) state.flights
  unfolding after_control cycle_flights
  flights_after = refl

  entries_all : EntriesFit design (cycle_entries design cards inputs state control)
  unfolding cycle_entries
  entries_all = all_told_fit 1 state.flights fits.flights

  turn_fits : IfSome control.taken (λ t. t < 2 ^ design.address) → StateFits design later
  turn_fits taken =
      after_fits design cards image inputs state later control fits taken refl
      (subst (FlightsFit design 1) (sym flights_after) (flights_fit 1 (entering design image state control) state.flights (entering_fits design cards image state control runs shaped fits.pc) fits.flights))
      (subst (StoragesFit design) (sym storages_after)
      (writes_keep design state.storages (map (λ (e : Entry). e.write) (cycle_entries design cards inputs state control)) fits.storages
      (each_map (λ (w : PortWrite). w.value < 2 ^ port_width design w.port) (λ (e : Entry). e.write) (cycle_entries design cards inputs state control) entries_all)))

-- All cycles.

module _ (design : Design) (cards : List Card) (image : Image) (trace : Trace) (fits : FitsCards design cards) (shaped : ImageFitsShape image (shape_of design)) (traced : TraceFitsShape trace (shape_of design)) where
  runs : IsRunnable design cards
  runs = clean_is_runnable design cards fits

  target_fits : (j : ℕ) → StateFits design (state_at design cards image trace j) → (to : ℕ) → (control_at design cards image trace j).taken ≡ Some to → to < 2 ^ design.address
  target_fits j state to some =
      let by = taken_by_flight design cards image (line_of design cards image trace j) (state_at design cards image trace j) to some in
      let flight = transfer_fits design cards (state_at design cards image trace j) by.flight runs state (sym by.is) in
      let effect = fired_fits design cards (line_of design cards image trace j) (state_at design cards image trace j) design.branch by.flight runs state.storages (inputs_fit design trace j traced) flight in
      subst (λ o. IfSome o (λ t. t < 2 ^ design.address)) by.target effect.target

  states_fit : (j : ℕ) → StateFits design (state_at design cards image trace j)
  unfolding over
  states_fit zero = start_state_fits design cards image runs shaped
  states_fit (suc j) =
      subst (StateFits design) (sym (state_next design cards image trace j))
      (turn_fits design cards image (line_of design cards image trace j) (state_at design cards image trace j) (control_at design cards image trace j) runs shaped (states_fit j) (inputs_fit design trace j traced)
      (by_taken (control_at design cards image trace j).taken refl (target_fits j (states_fit j))))
    where
      by_taken : (o : Option ℕ) → (control_at design cards image trace j).taken ≡ o → ((to : ℕ) → (control_at design cards image trace j).taken ≡ Some to → to < 2 ^ design.address) → IfSome o (λ t. t < 2 ^ design.address)
      by_taken None e goes = tt
      by_taken (Some to) e goes = goes to e

  pub targets_fit : TargetsFit design cards image trace
  targets_fit j to some = target_fits j (states_fit j) to some
