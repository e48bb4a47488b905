-- Whatever was written stands: the instruction is so far that no transfer kills it any more.
use Rattle.std.proofs.Common.{◌≡◌, ℕ, suc, ◌+◌, ◌-◌, ◌≤◌, ◌<◌, ◌||◌, Bool, true, false, if◌then◌else◌, List, [], ◌++◌, length, map, slice_index_or, Some, None, ◌⊎◌, inl, inr, refl, sym, ap, ◌∙◌, subst, arith}
use Rattle.std.proofs.lemmas.Bool.{cases_lt}
use Rattle.std.specs.List.{AllByRecursion as Each}
use Rattle.std.specs.Option.{option_map_or}
use Rattle.ap_bits.specs.declared.card.Card.{Card}
use Rattle.ap_desc.specs.Clean.{IsClean}
use Rattle.ap_desc.specs.declared.design.Design.{Design}
use Rattle.ap_image.specs.declared.image.Image.{Image}
use Rattle.ap_image.specs.declared.trace.TraceLine.{TraceLine}
use Rattle.ap_model.specs.declared.state.Entry.{Entry}
use Rattle.ap_model.specs.declared.state.Flight.{Flight}
use Rattle.ap_model.specs.declared.state.State.{State}
use Rattle.ap_model.specs.declared.storage.PortWrite.{PortWrite}
use Rattle.ap_model.specs.Cycles.{CycleControl, after_control, cycle_entries, entries_of, entry_of, flight_effect, flight_entries, is_killed, port_input}
use Rattle.ap_space.proofs.Fired.{early_writes_nothing}
use Rattle.ap_space.proofs.Flights.{each_told}
use Rattle.ap_space.proofs.Lists.{each_always, each_append, each_as, each_map}
use Rattle.ap_space.proofs.SampleRuns.{IsFiring}
use Rattle.ap_space.proofs.Tracked.{is_left}
use Rattle.ap_space.proofs.Deep.{IsDeep, deep_stays, stage_grows}
use Rattle.ap_space.proofs.Tracks.{IsFrame, IsTrack, IsTurn, Track}
use Rattle.ap_space.proofs.Turns.{IsControl, IsTracked, frame_of, is_turn, next_track}

-- an entry of a stage that its number has passed, in which no transfer kills it
pub record IsLogged (design : Design) (track : Track) (e : Entry) : Type 0 where
  pub number : e.number < track.next
  pub late : design.branch ≤ e.stage + design.slots + 1
  pub passed : e.stage < track.stage e.number

pub logged_deep : (design : Design) (image : Image) (track : Track) (e : Entry) → IsLogged design track e → IsDeep (frame_of design image) track e.number
logged_deep design image track e is = (is.number, let late = is.late in let passed = is.passed in omega arith)

module _ (design : Design) (cards : List Card) (image : Image) (inputs : TraceLine) (state : State) (control : CycleControl) (track : Track) (clean : IsClean design) (is_frame : IsFrame (frame_of design image))
    (tracked : IsTracked design image state track) (is_track : IsTrack (frame_of design image) track) (decides : IsControl design cards image inputs state control) where
  abbrev later : State
  later = after_control design cards image inputs state control

  abbrev new : Track
  new = next_track design track control later

  turn : IsTurn (frame_of design image) control.held track new
  turn = is_turn design cards image inputs state control track clean tracked is_track decides

  -- a flight that fires isn't killed, and has passed its stage
  pub fires_on : (q : ℕ) (f : Flight) → IsFiring design state control q f → (f.number < later.next) × (new.stage f.number ≡ suc q)
  fires_on q f firing =
      let is = tracked.flights q f firing.low firing.high firing.is in
      let high = firing.high in
      let there = is.stage in
      let inside = is.number in
      let less : f.number < later.next = is_left design cards image inputs state control track clean tracked is_track decides f.number (omega arith) (omega arith) (ap (is_killed design control) there ∙ firing.left) (inl inside) in
      (less, turn.moves f.number less (omega arith) (ap control.held there ∙ firing.free) ∙ ap suc there)

  fired_logged : (q : ℕ) (f : Flight) → IsFiring design state control q f → Each (IsLogged design new) (entries_of q f.number (flight_effect design cards inputs state q f))
  fired_logged q f firing = by_stage (cases_lt (q + design.slots + 1) design.branch)
    where
      by_stage : (q + design.slots + 1 < design.branch) ⊎ (design.branch ≤ q + design.slots + 1) → Each (IsLogged design new) (entries_of q f.number (flight_effect design cards inputs state q f))
      by_stage (inl early) =
          let none = early_writes_nothing design cards clean q f.place f.word f.locals state.storages (port_input inputs) early in
          subst (λ ws. Each (IsLogged design new) (map (entry_of q f.number) ws)) (sym none) tt
      by_stage (inr late) =
          let on = fires_on q f firing in
          let stage = on.1 in
          each_map (IsLogged design new) (entry_of q f.number) (flight_effect design cards inputs state q f).writes
          (each_always (λ (w : PortWrite). IsLogged design new (entry_of q f.number w)) (λ w. record { number = on.0; late = late; passed = omega arith }) (flight_effect design cards inputs state q f).writes)

  abbrev entries : List Entry
  entries = cycle_entries design cards inputs state control

  all_logged : Each (IsLogged design new) entries
  unfolding cycle_entries
  all_logged = each_told (IsLogged design new) (flight_entries design cards inputs state control) 1 state.flights (λ i f less at. by_stopped i f less at (control.held (1 + i)) (is_killed design control (1 + i)) refl refl)
    where
      by_stopped : (i : ℕ) (f : Flight) → i < length state.flights → slice_index_or state.flights i None ≡ Some f → (h k : Bool) → control.held (1 + i) ≡ h → is_killed design control (1 + i) ≡ k
          → Each (IsLogged design new) (option_map_or (entries_of (1 + i) f.number) (if h || k then None else Some (flight_effect design cards inputs state (1 + i) f)) [])
      by_stopped i f less at true k e g = tt
      by_stopped i f less at false true e g = tt
      by_stopped i f less at false false e g =
          let count = tracked.count in
          let index : 1 + i - 1 ≡ i = omega arith in
          fired_logged (1 + i) f (record { low = omega arith; high = omega (arith, count); is = ap (λ n. slice_index_or state.flights n None) index ∙ at; free = e; left = g })

  still_logged : (e : Entry) → IsLogged design track e → IsLogged design new e
  still_logged e is =
      let deep = deep_stays (frame_of design image) control.held track new is_frame is_track turn e.number (logged_deep design image track e is) in
      let up = stage_grows (frame_of design image) control.held track new turn e.number deep.0 in
      let passed = is.passed in
      record { number = deep.0; late = is.late; passed = omega arith }

  pub log_is : later.log ≡ state.log ++ entries
  unfolding after_control
  log_is = refl

  pub turn_logged : Each (IsLogged design track) state.log → Each (IsLogged design new) later.log
  turn_logged logged = subst (Each (IsLogged design new)) (sym log_is) (each_append (IsLogged design new) state.log entries (each_as (IsLogged design track) (IsLogged design new) still_logged state.log logged) all_logged)
