-- After a cycle the flights are those of the track after its turn.
use Rattle.std.proofs.Common.{◌≡◌, ℕ, suc, ◌+◌, ◌-◌, ◌≤◌, ◌<◌, ◌||◌, Bool, true, false, if◌then◌else◌, slice_index, List, Option, Some, None, option_map, ◌⊎◌, inl, inr, refl, sym, ap, ◌∙◌, subst, arith}
use Rattle.std.proofs.lemmas.Bool.{cond-true, cond-false, cases_Bool, cases_lt, cases_order, both_ways, le-ltb, or_from, false_from_ne_true}
use Rattle.ap_bits.specs.declared.card.Card.{Card}
use Rattle.ap_desc.specs.Clean.{IsClean}
use Rattle.ap_desc.specs.declared.design.Design.{Design}
use Rattle.ap_image.specs.declared.image.Image.{Image}
use Rattle.ap_image.specs.declared.trace.TraceLine.{TraceLine}
use Rattle.ap_model.specs.declared.state.Flight.{Flight}
use Rattle.ap_model.specs.declared.state.StageEffect.{StageEffect}
use Rattle.ap_model.specs.declared.state.State.{State}
use Rattle.ap_model.specs.Cycles.{CycleControl, after_control, fetched, flight_at, flight_effect, gone_on, is_killed, leaving, staying}
use Rattle.ap_space.proofs.Fired.{branch_high, branch_low, few_slots}
use Rattle.ap_space.proofs.Flights.{comes_at, count_after, enters_at, stays_at}
use Rattle.ap_space.proofs.Tracks.{Frame, IsTrack, IsTurn, Kind, Track}
use Rattle.ap_space.proofs.Tracks.Kind.{fetches, takes, waits}
use Rattle.ap_space.proofs.Turns.{HasFlightOf, IsControl, IsFlightOf, IsTracked, all_free, by, flight_is, frame_of, free, is_turn, killed_is, last_place, left_low, next_quiet, next_taken, next_track, not_killed, t, transfer_is}

module _ (design : Design) (cards : List Card) (image : Image) (inputs : TraceLine) (state : State) (control : CycleControl) (track : Track) (clean : IsClean design)
    (tracked : IsTracked design image state track) (is_track : IsTrack (frame_of design image) track) (decides : IsControl design cards image inputs state control) where
  abbrev frame : Frame
  frame = frame_of design image

  abbrev later : State
  later = after_control design cards image inputs state control

  abbrev new : Track
  new = next_track design track control later

  turn : IsTurn frame control.held track new
  turn = is_turn design cards image inputs state control track clean tracked is_track decides

  -- which numbers are left
  pub is_left : (i : ℕ) → i ≤ track.next → track.stage i < design.stages → is_killed design control (track.stage i) ≡ false → (i < track.next) ⊎ (control.held 0 ≡ false) → i < later.next
  is_left i le in_flight left there = by_taken control.taken refl
    where
      by_held : control.taken ≡ None → (h : Bool) → control.held 0 ≡ h → (i < track.next) ⊎ (control.held 0 ≡ false) → i < later.next
      by_held none true held (inl less) =
          let end = next_quiet design cards image inputs state control track clean tracked is_track decides none ∙ cond-true (control.held 0) state.next (state.next + 1) held in
          let same = tracked.next in
          omega arith
      by_held none true held (inr free) = absurd (both_ways (control.held 0) free held)
      by_held none false held other =
          let end = next_quiet design cards image inputs state control track clean tracked is_track decides none ∙ cond-false (control.held 0) state.next (state.next + 1) held in
          let same = tracked.next in
          omega arith

      by_taken : (o : Option ℕ) → control.taken ≡ o → i < later.next
      by_taken None e = by_held e (control.held 0) refl there
      by_taken (Some to) e =
          let end = next_taken design cards image inputs state control track clean tracked is_track decides to e in
          let low = left_low design cards image inputs state control track clean tracked is_track decides to e i le in_flight (sym (killed_is design cards image inputs state control track clean tracked is_track decides (track.stage i) to e) ∙ left) in
          omega arith

  -- and that they aren't killed
  pub left_of : (i : ℕ) → i < later.next → i ≤ track.next → track.stage i < design.stages → is_killed design control (track.stage i) ≡ false
  left_of i less le in_flight = by_taken control.taken refl
    where
      by_taken : (o : Option ℕ) → control.taken ≡ o → is_killed design control (track.stage i) ≡ false
      by_taken None e = not_killed design cards image inputs state control track clean tracked is_track decides (track.stage i) e
      by_taken (Some to) e =
          let is = flight_is design cards image inputs state control track clean tracked is_track decides to e in
          let end = next_taken design cards image inputs state control track clean tracked is_track decides to e in
          killed_is design cards image inputs state control track clean tracked is_track decides (track.stage i) to e ∙ le-ltb design.slots (design.branch - track.stage i) (near is end (cases_order i number))
        where
          number : ℕ
          number = t design cards image inputs state control track clean tracked is_track decides to e

          near : IsFlightOf image track design.branch (by design cards image inputs state control track clean tracked is_track decides to e).flight → later.next ≡ suc (number + design.slots)
              → (i ≡ number) ⊎ ((i < number) ⊎ (number < i)) → design.branch - track.stage i ≤ design.slots
          near is end (inl same) = let there = is.stage in let stage = ap track.stage same in omega arith
          near is end (inr (inl before)) =
              let there = is.stage in
              let inside = is.number in
              let order = is_track.rise i number before (omega arith) in_flight in
              omega arith
          near is end (inr (inr behind)) =
              let there = is.stage in
              let few = few_slots design clean in
              let sum : number + (i - number) ≡ i = omega arith in
              let slot = is_track.slots number (i - number) is.number (omega arith) (transfer_is design cards image inputs state control track clean tracked is_track decides to e) (omega arith) (omega arith) (omega arith) in
              let equal = slot.1 in
              let stage : track.stage (number + (i - number)) ≡ track.stage i = ap track.stage sum in
              omega arith

  -- where a stage is held, no transfer is taken
  pub none_taken : (q : ℕ) → control.held q ≡ true → is_killed design control q ≡ false
  none_taken q held = by_taken control.taken refl
    where
      by_taken : (o : Option ℕ) → control.taken ≡ o → is_killed design control q ≡ false
      by_taken None e = not_killed design cards image inputs state control track clean tracked is_track decides q e
      by_taken (Some to) e = absurd (both_ways (control.held q) (all_free design cards image inputs state control track clean tracked is_track decides (free design cards image inputs state control track clean tracked is_track decides to e) q) held)

  -- Each flight.

  pub stayed_from : (o : Option Flight) (g : Flight) → option_map staying o ≡ Some g → (f : Flight) × (o ≡ Some f) × (g ≡ staying f)
  stayed_from None g e = absurd cc
  stayed_from (Some f) g e = (f, refl, cc)

  pub left_from : (h k : Bool) (f g : Flight) (effect : StageEffect) → option_map (gone_on f) (if h || k then None else Some effect) ≡ Some g → (h ≡ false) × (k ≡ false) × (g ≡ gone_on f effect)
  left_from true k f g effect e = absurd cc
  left_from false true f g effect e = absurd cc
  left_from false false f g effect e = (refl, refl, cc)

  pub entered_from : (h k : Bool) (f g : Flight) → (if h || k then None else Some f) ≡ Some g → (h ≡ false) × (k ≡ false) × (g ≡ f)
  entered_from true k f g e = absurd cc
  entered_from false true f g e = absurd cc
  entered_from false false f g e = (refl, refl, cc)

  -- a flight that was there, in its stage or the next one
  of_old : (q r : ℕ) (f g : Flight) → IsFlightOf image track q f → q < design.stages → is_killed design control q ≡ false → (control.held q ≡ true → r ≡ q) → (control.held q ≡ false → r ≡ suc q)
      → g.number ≡ f.number → g.place ≡ f.place → g.word ≡ f.word → IsFlightOf image new r g
  of_old q r f g is high left stays moves number place word =
      let inside : f.number < track.next = is.number in
      let there = is.stage in
      let in_flight : track.stage f.number < design.stages = omega arith in
      let less : f.number < later.next = is_left f.number (omega arith) in_flight (ap (is_killed design control) there ∙ left) (inl inside) in
      let same : new.place f.number ≡ track.place f.number = turn.places f.number less in
      record {
        number = subst (λ n. n < later.next) (sym number) less;
        stage = ap new.stage number ∙ by_held (cases_Bool (control.held q)) less in_flight there;
        place = place ∙ is.place ∙ sym same ∙ ap new.place (sym number);
        word = word ∙ is.word ∙ ap (slice_index image.code) (sym place);
      }
    where
      by_held : (control.held q ≡ true) ⊎ (control.held q ≡ false) → f.number < later.next → track.stage f.number < design.stages → track.stage f.number ≡ q → new.stage f.number ≡ r
      by_held (inl h) less in_flight there = turn.stays f.number less in_flight (ap control.held there ∙ h) ∙ there ∙ sym (stays h)
      by_held (inr h) less in_flight there = turn.moves f.number less in_flight (ap control.held there ∙ h) ∙ ap suc there ∙ sym (moves h)

  flight_stays : (q : ℕ) (g : Flight) → 1 ≤ q → q < design.stages → control.held q ≡ true → flight_at later q ≡ Some g → IsFlightOf image new q g
  flight_stays q g low high held at =
      let from = stayed_from (flight_at state q) g (sym (stays_at design cards inputs state control image tracked.count q low high held) ∙ at) in
      of_old q q from.0 g (tracked.flights q from.0 low high from.1) high (none_taken q held) (λ h. refl) (λ h. absurd (both_ways (control.held q) h held))
      (ap (λ (x : Flight). x.number) from.2) (ap (λ (x : Flight). x.place) from.2) (ap (λ (x : Flight). x.word) from.2)

  flight_comes : (p : ℕ) (g : Flight) → 1 ≤ p → suc p < design.stages → control.held (suc p) ≡ false → flight_at later (suc p) ≡ Some g → IsFlightOf image new (suc p) g
  flight_comes p g low high free at = by_flight (flight_at state p) refl (sym (comes_at design cards inputs state control image tracked.count p low high free) ∙ at)
    where
      by_flight : (o : Option Flight) → flight_at state p ≡ o → leaving design cards inputs state control p o ≡ Some g → IsFlightOf image new (suc p) g
      by_flight None is e = absurd cc
      by_flight (Some f) is e =
          let from = left_from (control.held p) (is_killed design control p) f g (flight_effect design cards inputs state p f) e in
          of_old p (suc p) f g (tracked.flights p f low (omega arith) is) (omega arith) from.1 (λ h. absurd (both_ways (control.held p) from.0 h)) (λ h. refl)
          (ap (λ (x : Flight). x.number) from.2) (ap (λ (x : Flight). x.place) from.2) (ap (λ (x : Flight). x.word) from.2)

  -- the word that was fetched
  fetched_there : control.held 0 ≡ false → is_killed design control 0 ≡ false → track.next < later.next
  fetched_there free left =
      let none = is_track.ahead track.next (omega arith) in
      let low = branch_low design clean in
      let high = branch_high design clean in
      is_left track.next (omega arith) (omega arith) (ap (is_killed design control) none ∙ left) (inr free)

  fetched_stage : control.held 0 ≡ false → track.next < later.next → new.stage track.next ≡ 1
  fetched_stage free less =
      let none = is_track.ahead track.next (omega arith) in
      let low = branch_low design clean in
      let high = branch_high design clean in
      turn.moves track.next less (omega arith) (ap control.held none ∙ free) ∙ ap suc none

  flight_enters : (g : Flight) → control.held 1 ≡ false → flight_at later 1 ≡ Some g → IsFlightOf image new 1 g
  flight_enters g free at =
      let low = branch_low design clean in
      let high = branch_high design clean in
      let from = entered_from (control.held 0) (is_killed design control 0) (fetched image state) g (sym (enters_at design cards inputs state control image tracked.count (omega arith) free) ∙ at) in
      let less : track.next < later.next = fetched_there from.0 from.1 in
      let number : g.number ≡ track.next = ap (λ (x : Flight). x.number) from.2 ∙ sym tracked.next in
      let place : g.place ≡ state.pc = ap (λ (x : Flight). x.place) from.2 in
      record {
        number = subst (λ n. n < later.next) (sym number) less;
        stage = ap new.stage number ∙ fetched_stage from.0 less;
        place = place ∙ sym tracked.pc ∙ sym (turn.places track.next less) ∙ ap new.place (sym number);
        word = ap (λ (x : Flight). x.word) from.2 ∙ ap (slice_index image.code) (sym place);
      }

  flights_tracked : (q : ℕ) (g : Flight) → 1 ≤ q → q < design.stages → flight_at later q ≡ Some g → IsFlightOf image new q g
  flights_tracked q g low high at = by_held (cases_Bool (control.held q)) (cases_lt 1 q)
    where
      by_held : (control.held q ≡ true) ⊎ (control.held q ≡ false) → (1 < q) ⊎ (q ≤ 1) → IsFlightOf image new q g
      by_held (inl h) first = flight_stays q g low high h at
      by_held (inr h) (inl more) =
          let same : suc (q - 1) ≡ q = omega arith in
          subst (λ r. IsFlightOf image new r g) same (flight_comes (q - 1) g (omega arith) (omega arith) (ap control.held same ∙ h) (ap (flight_at later) same ∙ at))
      by_held (inr h) (inr first) =
          let same : q ≡ 1 = omega arith in
          subst (λ r. IsFlightOf image new r g) (sym same) (flight_enters g (ap control.held (sym same) ∙ h) (ap (flight_at later) (sym same) ∙ at))

  -- Each number.

  old_number : (i : ℕ) → i < track.next → i < later.next → track.stage i < design.stages → new.stage i < design.stages → HasFlightOf later new i
  old_number i inside less in_flight still =
      let f = tracked.numbers i inside in_flight in
      by_held (cases_Bool (control.held (track.stage i))) f
    where
      low : 1 ≤ track.stage i
      low = is_track.inside i inside

      by_held : (control.held (track.stage i) ≡ true) ⊎ (control.held (track.stage i) ≡ false) → HasFlightOf state track i → HasFlightOf later new i
      by_held (inl h) f =
          let same : new.stage i ≡ track.stage i = turn.stays i less in_flight h in
          record {
            flight = staying f.flight;
            is = ap (flight_at later) same ∙ stays_at design cards inputs state control image tracked.count (track.stage i) low in_flight h ∙ ap (option_map staying) f.is;
            number = f.number;
          }
      by_held (inr h) f =
          let same : new.stage i ≡ suc (track.stage i) = turn.moves i less in_flight h in
          let next_free : control.held (suc (track.stage i)) ≡ false = false_from_ne_true (control.held (suc (track.stage i))) (λ held. both_ways (control.held (track.stage i)) h (decides.holds.below (suc (track.stage i)) (track.stage i) (omega arith) held)) in
          let left = left_of i less (omega arith) in_flight in
          let effect = flight_effect design cards inputs state (track.stage i) f.flight in
          record {
            flight = gone_on f.flight effect;
            is = ap (flight_at later) same ∙ comes_at design cards inputs state control image tracked.count (track.stage i) low (omega arith) next_free
                ∙ ap (leaving design cards inputs state control (track.stage i)) f.is
                ∙ ap (option_map (gone_on f.flight)) (cond-false (control.held (track.stage i) || is_killed design control (track.stage i)) None (Some effect) (or_from (control.held (track.stage i)) (is_killed design control (track.stage i)) h left));
            number = f.number;
          }

  new_number : (i : ℕ) → track.next ≤ i → i < later.next → HasFlightOf later new i
  new_number i outside less = by_kind turn.kind
    where
      by_free : control.held 0 ≡ false → later.next ≤ suc track.next → HasFlightOf later new i
      by_free free room =
          let low = branch_low design clean in
          let high = branch_high design clean in
          let none = is_track.ahead i outside in
          let same : i ≡ track.next = omega arith in
          let left : is_killed design control 0 ≡ false = ap (is_killed design control) (sym none) ∙ left_of i less (omega arith) (omega arith) in
          let first_free : control.held 1 ≡ false = all_free design cards image inputs state control track clean tracked is_track decides free 1 in
          record {
            flight = fetched image state;
            is = ap (flight_at later) (ap new.stage same ∙ fetched_stage free (omega arith)) ∙ enters_at design cards inputs state control image tracked.count (omega arith) first_free
                ∙ cond-false (control.held 0 || is_killed design control 0) None (Some (fetched image state)) (or_from (control.held 0) (is_killed design control 0) free left);
            number = sym tracked.next ∙ sym same;
          }

      by_kind : Kind frame control.held track new → HasFlightOf later new i
      by_kind (waits w) = let e = w.next in absurd (omega arith)
      by_kind (fetches f) = by_free f.free (let e = f.next in omega arith)
      by_kind (takes s to k) = by_free k.free k.room

  numbers_tracked : (i : ℕ) → i < later.next → new.stage i < design.stages → HasFlightOf later new i
  numbers_tracked i less still = by_side (cases_lt i track.next) (cases_lt (track.stage i) design.stages)
    where
      by_side : (i < track.next) ⊎ (track.next ≤ i) → (track.stage i < design.stages) ⊎ (design.stages ≤ track.stage i) → HasFlightOf later new i
      by_side (inl inside) (inl in_flight) = old_number i inside less in_flight still
      by_side (inl inside) (inr gone) = let e = turn.gone i less gone in absurd (omega arith)
      by_side (inr outside) other = new_number i outside less

  pub turn_tracked : IsTracked design image later new
  turn_tracked = record {
    count = count_after design cards inputs state control image tracked.count;
    next = refl;
    pc = last_place design cards image inputs state control track clean tracked is_track decides;
    flights = flights_tracked;
    numbers = numbers_tracked;
  }
