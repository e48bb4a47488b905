-- The track of a run of the machine, cycle by cycle.
use Rattle.std.proofs.Common.{◌≡◌, ℕ, zero, suc, ◌++◌, ◌+◌, ◌≤◌, ◌<◌, ◌%◌, ◌^◌, Bool, true, false, if◌then◌else◌, slice_index, List, Option, Some, None, option_and_then, refl, sym, ap, ◌∙◌, subst, arith, pow_pos}
use Rattle.std.proofs.Math.Nat.{mod-mod}
use Rattle.std.proofs.lemmas.Bool.{cond-false}
use Rattle.std.specs.List.{AllByRecursion as Each}
use Rattle.ap_bits.specs.declared.card.Card.{Card}
use Rattle.ap_desc.specs.Clean.{IsClean}
use Rattle.ap_desc.specs.declared.design.Design.{Design}
use Rattle.ap_dist.specs.Spaced.{IsSpaced, is_transfer_word, word_at}
use Rattle.ap_image.specs.declared.image.Image.{Image}
use Rattle.ap_image.specs.declared.trace.Trace.{Trace}
use Rattle.ap_image.specs.declared.trace.TraceLine.{TraceLine}
use Rattle.ap_model.proofs.MachineLaws.{holds_from_zero}
use Rattle.ap_model.specs.declared.state.Flight.{Flight}
use Rattle.ap_model.specs.declared.state.State.{State}
use Rattle.ap_model.specs.Cycles.{CycleControl, after_control, control_of, cycle, cycle_entries, flight_at, flight_effect, held_stages, inputs_at, is_killed, over, taken_transfer}
use Rattle.ap_model.specs.Stalls.{busy_from}
use Rattle.ap_model.specs.States.{start}
use Rattle.ap_space.proofs.Fired.{branch_high, branch_low, few_slots}
use Rattle.ap_space.proofs.Flights.{count_at_start, empty_at_start}
use Rattle.ap_space.proofs.Logged.{IsLogged, fires_on, log_is, turn_logged}
use Rattle.ap_space.proofs.Passed.{IsPassed, turn_passed}
use Rattle.ap_space.proofs.SampleRuns.{IsFiring, IsOldSample, turn_sampled}
use Rattle.ap_space.proofs.Tracked.{left_of, turn_tracked}
use Rattle.ap_space.proofs.Tracks.{Fetches, IsFrame, IsHold, IsTrack, IsTurn, Takes, Track, Waits, turn_track}
use Rattle.ap_space.proofs.Turns.{IsControl, IsTracked, TakesBy, fetches_is, frame_of, is_turn, next_track, takes_is, waits_is}

pub word_mod : (design : Design) (image : Image) (place : ℕ) → word_at design image (place % 2 ^ design.address) ≡ word_at design image place
word_mod design image place = ap (slice_index image.code) (mod-mod place (2 ^ design.address))

pub frame_is : (design : Design) (image : Image) (landings : List ℕ) (drain : ℕ) → IsClean design → IsSpaced design image landings drain → IsFrame (frame_of design image)
frame_is design image landings drain clean spaced = record {
  low = branch_low design clean;
  high = branch_high design clean;
  few = few_slots design clean;
  quiet = λ place j is some few. ap (is_transfer_word design) (word_mod design image (place + j)) ∙ spaced.slots place j is some few;
}

start_next : (design : Design) (image : Image) → 0 ≡ (start design image).next
unfolding start
start_next design image = refl

start_pc : (design : Design) (image : Image) → 0 ≡ (start design image).pc
unfolding start
start_pc design image = refl

-- What decides on a cycle.

module _ (design : Design) (cards : List Card) (image : Image) (inputs : TraceLine) (state : State) where
  abbrev control : CycleControl
  control = control_of design cards inputs state

  held_is : (stage : ℕ) → control.held stage ≡ held_stages design inputs state stage
  unfolding control_of
  held_is stage = refl

  taken_is : control.taken ≡ taken_transfer design cards inputs state
  unfolding control_of
  taken_is = refl

  hold_is : IsHold (frame_of design image) control.held
  hold_is =
      let holds = holds_from_zero design (busy_from design inputs.wait 1 state.flights) in
      record {
        below = λ stage earlier le held. held_is earlier ∙ holds.below stage earlier le (sym (held_is stage) ∙ held);
        transfer = λ held. held_is design.branch ∙ holds.transfer (sym (held_is 0) ∙ held);
      }

  pub taken_by_flight : (to : ℕ) → control.taken ≡ Some to → TakesBy design cards inputs state control to
  taken_by_flight to some = by_held (held_stages design inputs state design.branch) refl (sym taken_is ∙ some)
    where
      by_flight : (o : Option Flight) → flight_at state design.branch ≡ o → control.held design.branch ≡ false → option_and_then (λ flight. (flight_effect design cards inputs state design.branch flight).target) o ≡ Some to → TakesBy design cards inputs state control to
      by_flight None is free e = absurd cc
      by_flight (Some f) is free e = record { flight = f; is = is; free = free; target = e }

      by_held : (b : Bool) → held_stages design inputs state design.branch ≡ b → (if b then None else option_and_then (λ flight. (flight_effect design cards inputs state design.branch flight).target) (flight_at state design.branch)) ≡ Some to → TakesBy design cards inputs state control to
      by_held true held e = absurd cc
      by_held false held e = by_flight (flight_at state design.branch) refl (held_is design.branch ∙ held) e

-- The run.

module _ (design : Design) (cards : List Card) (image : Image) (trace : Trace) where
  abbrev pub state_at : ℕ → State
  state_at j = over design cards image trace j

  abbrev pub line_of : ℕ → TraceLine
  line_of j = inputs_at design trace j

  abbrev pub control_at : ℕ → CycleControl
  control_at j = control_of design cards (line_of j) (state_at j)

  pub state_next : (j : ℕ) → state_at (suc j) ≡ after_control design cards image (line_of j) (state_at j) (control_at j)
  unfolding over cycle
  state_next j = refl

  pub next_first : (state_at 0).next ≡ 0
  unfolding over start
  next_first = refl

  -- every transfer that is taken goes to an address
  abbrev pub TargetsFit : Type 0
  TargetsFit = (j to : ℕ) → (control_at j).taken ≡ Some to → to < 2 ^ design.address

  pub track_at : ℕ → Track
  track_at zero = record { next = 0; stage = λ i. 0; place = λ i. 0 }
  track_at (suc j) = next_track design (track_at j) (control_at j) (after_control design cards image (line_of j) (state_at j) (control_at j))

  pub next_start : (track_at 0).next ≡ 0
  unfolding track_at
  next_start = refl

  pub first_place : (i : ℕ) → (track_at 0).place i ≡ 0
  unfolding track_at
  first_place i = refl

  pub first_stage : (i : ℕ) → (track_at 0).stage i ≡ 0
  unfolding track_at
  first_stage i = refl

  module _ (clean : IsClean design) (is_frame : IsFrame (frame_of design image)) (fits : TargetsFit) where
    pub decides : (j : ℕ) → IsControl design cards image (line_of j) (state_at j) (control_at j)
    decides j = record { holds = hold_is design cards image (line_of j) (state_at j); taken = taken_by_flight design cards image (line_of j) (state_at j); fits = fits j }

    -- the track is one of the pipeline, and the flights are those of it
    pub record IsRun (j : ℕ) : Type 0 where
      pub track : IsTrack (frame_of design image) (track_at j)
      pub tracked : IsTracked design image (state_at j) (track_at j)
      pub passed : IsPassed (state_at j) (track_at j)
      pub sampled : Each (IsOldSample design image (track_at j)) (state_at j).sampled
      pub logged : Each (IsLogged design (track_at j)) (state_at j).log

    first_track : IsTrack (frame_of design image) (track_at 0)
    unfolding track_at
    first_track = record {
      ahead = λ i le. refl;
      inside = λ i less. absurd (omega arith);
      high = λ i. omega arith;
      rise = λ i j less le in_flight. absurd (omega arith);
      within = λ i le. pow_pos design.address;
      slots = λ t j less low is some few near. absurd (omega arith);
    }

    first_tracked : IsTracked design image (state_at 0) (track_at 0)
    unfolding track_at over
    first_tracked = record {
      count = count_at_start design image;
      next = start_next design image;
      pc = start_pc design image;
      flights = λ q f low high at. let none : None ≡ Some f = sym (empty_at_start design image q) ∙ at in absurd cc;
      numbers = λ i less still. absurd (omega arith);
    }

    first_passed : IsPassed (state_at 0) (track_at 0)
    unfolding track_at over start
    first_passed = record { all = λ i s some less. absurd (omega arith); only = λ i s e. absurd cc }

    first_sampled : Each (IsOldSample design image (track_at 0)) (state_at 0).sampled
    unfolding over start
    first_sampled = tt

    first_logged : Each (IsLogged design (track_at 0)) (state_at 0).log
    unfolding over start
    first_logged = tt

    next_is_track : (j : ℕ) → IsRun j → IsTrack (frame_of design image) (track_at (suc j))
    unfolding track_at
    next_is_track j before =
        turn_track (frame_of design image) is_frame (control_at j).held (track_at j) (track_at (suc j)) before.track
        (is_turn design cards image (line_of j) (state_at j) (control_at j) (track_at j) clean before.tracked before.track (decides j))

    next_is_tracked : (j : ℕ) → IsRun j → IsTracked design image (state_at (suc j)) (track_at (suc j))
    unfolding track_at
    next_is_tracked j before =
        subst (λ s. IsTracked design image s (track_at (suc j))) (sym (state_next j))
        (turn_tracked design cards image (line_of j) (state_at j) (control_at j) (track_at j) clean before.tracked before.track (decides j))

    next_is_passed : (j : ℕ) → IsRun j → IsPassed (state_at (suc j)) (track_at (suc j))
    unfolding track_at
    next_is_passed j before =
        subst (λ s. IsPassed s (track_at (suc j))) (sym (state_next j))
        (turn_passed design cards image (line_of j) (state_at j) (control_at j) (track_at j) clean before.tracked before.track (decides j) before.passed)

    next_is_sampled : (j : ℕ) → IsRun j → Each (IsOldSample design image (track_at (suc j))) (state_at (suc j)).sampled
    unfolding track_at
    next_is_sampled j before =
        subst (λ (s : State). Each (IsOldSample design image (track_at (suc j))) s.sampled) (sym (state_next j))
        (turn_sampled design cards image (line_of j) (state_at j) (control_at j) (track_at j) clean before.tracked before.track (decides j) before.sampled)

    next_is_logged : (j : ℕ) → IsRun j → Each (IsLogged design (track_at (suc j))) (state_at (suc j)).log
    unfolding track_at
    next_is_logged j before =
        subst (λ (s : State). Each (IsLogged design (track_at (suc j))) s.log) (sym (state_next j))
        (turn_logged design cards image (line_of j) (state_at j) (control_at j) (track_at j) clean is_frame before.tracked before.track (decides j) before.logged)

    pub run_at : (j : ℕ) → IsRun j
    run_at zero = record { track = first_track; tracked = first_tracked; passed = first_passed; sampled = first_sampled; logged = first_logged }
    run_at (suc j) = record { track = next_is_track j (run_at j); tracked = next_is_tracked j (run_at j); passed = next_is_passed j (run_at j); sampled = next_is_sampled j (run_at j); logged = next_is_logged j (run_at j) }

    -- a cycle is a turn
    pub turn_at : (j : ℕ) → IsTurn (frame_of design image) (control_at j).held (track_at j) (track_at (suc j))
    unfolding track_at
    turn_at j = is_turn design cards image (line_of j) (state_at j) (control_at j) (track_at j) clean (run_at j).tracked (run_at j).track (decides j)

    -- of what kind it is
    pub waits_at : (j : ℕ) → (control_at j).taken ≡ None → (control_at j).held 0 ≡ true → Waits (frame_of design image) (control_at j).held (track_at j) (track_at (suc j))
    unfolding track_at
    waits_at j none held = waits_is design cards image (line_of j) (state_at j) (control_at j) (track_at j) clean (run_at j).tracked (run_at j).track (decides j) none held

    pub fetches_at : (j : ℕ) → (control_at j).taken ≡ None → (control_at j).held 0 ≡ false → Fetches (frame_of design image) (control_at j).held (track_at j) (track_at (suc j))
    unfolding track_at
    fetches_at j none held = fetches_is design cards image (line_of j) (state_at j) (control_at j) (track_at j) clean (run_at j).tracked (run_at j).track (decides j) none held

    pub takes_at : (j to : ℕ) (some : (control_at j).taken ≡ Some to) → Takes (frame_of design image) (control_at j).held (track_at j) (track_at (suc j)) ((decides j).taken to some).flight.number to
    unfolding track_at
    takes_at j to some = takes_is design cards image (line_of j) (state_at j) (control_at j) (track_at j) clean (run_at j).tracked (run_at j).track (decides j) to some

    -- where nothing is held in the transfer's stage, and no transfer is taken, the flight there takes none
    pub untaken : (j : ℕ) (f : Flight) → (control_at j).taken ≡ None → (control_at j).held design.branch ≡ false → flight_at (state_at j) design.branch ≡ Some f
        → (flight_effect design cards (line_of j) (state_at j) design.branch f).target ≡ None
    untaken j f none free is =
        sym (ap (option_and_then (λ flight. (flight_effect design cards (line_of j) (state_at j) design.branch flight).target)) is)
        ∙ sym (cond-false (held_stages design (line_of j) (state_at j) design.branch) None (option_and_then (λ flight. (flight_effect design cards (line_of j) (state_at j) design.branch flight).target) (flight_at (state_at j) design.branch)) (sym (held_is design cards image (line_of j) (state_at j) design.branch) ∙ free))
        ∙ sym (taken_is design cards image (line_of j) (state_at j)) ∙ none

    -- a flight that fires isn't killed, and has passed its stage; a number that is left isn't killed
    pub fires_at : (j q : ℕ) (f : Flight) → IsFiring design (state_at j) (control_at j) q f → (f.number < (track_at (suc j)).next) × ((track_at (suc j)).stage f.number ≡ suc q)
    unfolding track_at
    fires_at j q f firing = fires_on design cards image (line_of j) (state_at j) (control_at j) (track_at j) clean is_frame (run_at j).tracked (run_at j).track (decides j) q f firing

    pub left_at : (j i : ℕ) → i < (track_at (suc j)).next → i ≤ (track_at j).next → (track_at j).stage i < design.stages → is_killed design (control_at j) ((track_at j).stage i) ≡ false
    unfolding track_at
    left_at j i less le in_flight = left_of design cards image (line_of j) (state_at j) (control_at j) (track_at j) clean (run_at j).tracked (run_at j).track (decides j) i less le in_flight

    -- what was written in it
    pub log_at : (j : ℕ) → (state_at (suc j)).log ≡ (state_at j).log ++ cycle_entries design cards (line_of j) (state_at j) (control_at j)
    log_at j = ap (λ (s : State). s.log) (state_next j) ∙ log_is design cards image (line_of j) (state_at j) (control_at j) (track_at j) clean is_frame (run_at j).tracked (run_at j).track (decides j)

    pub next_at : (j : ℕ) → (track_at j).next ≡ (state_at j).next
    next_at j = (run_at j).tracked.next
