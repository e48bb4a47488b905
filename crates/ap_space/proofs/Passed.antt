-- The stages that the track says were passed are those that the machine keeps.
use Rattle.std.proofs.Common.{◌≡◌, ℕ, suc, ◌+◌, ◌-◌, ◌≤◌, ◌<◌, ◌==◌, ◌||◌, ◌&&◌, Bool, true, false, cond, if◌then◌else◌, nat_lt, List, [], ◌∷◌, ◌++◌, length, filter, slice_index_or, Option, Some, None, is_some, ◌⊎◌, inl, inr, refl, sym, ap, ◌∙◌, subst, arith}
use Rattle.std.proofs.lemmas.Bool.{and_from, and_parts, both_ways, cases_Bool, cases_lt, cond-true, cond-false, eq-eqb, eqb-true, false_from_ne_true, le-ltb, lt-ltb, or_cases, or_left, or_right, or_from}
use Rattle.std.specs.List.{AllByRecursion as Each, list_any}
use Rattle.ap_bits.specs.declared.card.Card.{Card}
use Rattle.ap_desc.specs.Clean.{IsClean}
use Rattle.ap_desc.specs.declared.design.Design.{Design}
use Rattle.ap_image.specs.declared.image.Image.{Image}
use Rattle.ap_image.specs.declared.trace.TraceLine.{TraceLine}
use Rattle.ap_model.specs.declared.state.Flight.{Flight}
use Rattle.ap_model.specs.declared.state.Pass.{Pass}
use Rattle.ap_model.specs.declared.state.State.{State}
use Rattle.ap_model.specs.Cycles.{CycleControl, after_control, cycle_passes, flight_at, flight_passes, is_killed, kept}
use Rattle.ap_space.proofs.Flights.{each_told, told_at}
use Rattle.ap_space.proofs.Tracked.{left_of}
use Rattle.ap_space.proofs.Deep.{stage_grows}
use Rattle.ap_space.proofs.Tracks.{IsTrack, IsTurn, Track}
use Rattle.ap_space.proofs.Turns.{IsControl, IsTracked, frame_of, is_turn, next_quiet, next_track}

abbrev pub is_pass : ℕ → ℕ → Pass → Bool
is_pass i s p = (p.number == i) && (p.stage == s)

abbrev pub has : ℕ → ℕ → List Pass → Bool
has i s passes = list_any (is_pass i s) passes

-- Lists.

pub any_append : {X : Type 0} (t : X → Bool) (xs ys : List X) → list_any t (xs ++ ys) ≡ (list_any t xs || list_any t ys)
any_append t [] ys = refl
any_append t (x ∷ xs) ys = ap (λ b. t x || b) (any_append t xs ys) ∙ either (t x) (list_any t xs) (list_any t ys)
  where
    either : (a b c : Bool) → (a || (b || c)) ≡ ((a || b) || c)
    either true b c = refl
    either false b c = refl

pub any_gives : {X : Type 0} (t : X → Bool) (P : X → Type 0) (G : Type 0) → ((x : X) → t x ≡ true → P x → G) → (xs : List X) → Each P xs → list_any t xs ≡ true → G
any_gives t P G gives [] each e = absurd cc
any_gives t P G gives (x ∷ xs) each e = by_case (or_cases (t x) (list_any t xs) e) (λ h. any_gives t P G gives xs each.1 h)
  where
    by_case : (t x ≡ true) ⊎ (list_any t xs ≡ true) → (list_any t xs ≡ true → G) → G
    by_case (inl h) later = gives x h each.0
    by_case (inr h) later = later h

-- a filter that keeps what is looked for, or nothing of it
any_kept : {X : Type 0} (t q : X → Bool) → ((x : X) → t x ≡ true → q x ≡ true) → (xs : List X) → list_any t (filter q xs) ≡ list_any t xs
any_kept t q keeps [] = refl
any_kept {X} t q keeps (x ∷ xs) = by_test (q x) refl (any_kept t q keeps xs)
  where
    by_test : (b : Bool) → q x ≡ b → list_any t (filter q xs) ≡ list_any t xs → list_any t (cond b (x ∷ filter q xs) (filter q xs)) ≡ (t x || list_any t xs)
    by_test true e rest = ap (λ b. t x || b) rest
    by_test false e rest = rest ∙ ap (λ b. b || list_any t xs) (sym (false_from_ne_true (t x) (λ h. both_ways (q x) e (keeps x h))))

any_dropped : {X : Type 0} (t q : X → Bool) → ((x : X) → t x ≡ true → q x ≡ false) → (xs : List X) → list_any t (filter q xs) ≡ false
any_dropped t q drops [] = refl
any_dropped {X} t q drops (x ∷ xs) = by_test (q x) refl (any_dropped t q drops xs)
  where
    by_test : (b : Bool) → q x ≡ b → list_any t (filter q xs) ≡ false → list_any t (cond b (x ∷ filter q xs) (filter q xs)) ≡ false
    by_test true e rest = or_from (t x) (list_any t (filter q xs)) (false_from_ne_true (t x) (λ h. both_ways (q x) (drops x h) e)) rest
    by_test false e rest = rest

has_low : (control : CycleControl) (next i s : ℕ) (passes : List Pass) → i < next → has i s (kept (λ (p : Pass). p.number) control next passes) ≡ has i s passes
has_low control next i s passes less = by_taken (is_some control.taken)
  where
    by_taken : (b : Bool) → has i s (if b then filter (λ (p : Pass). nat_lt p.number next) passes else passes) ≡ has i s passes
    by_taken true = any_kept (is_pass i s) (λ (p : Pass). nat_lt p.number next) (λ p h. let same = eqb-true p.number i (and_parts (p.number == i) (p.stage == s) h).0 in lt-ltb p.number next (omega arith)) passes
    by_taken false = refl

has_high : (control : CycleControl) (next i s to : ℕ) (passes : List Pass) → control.taken ≡ Some to → next ≤ i → has i s (kept (λ (p : Pass). p.number) control next passes) ≡ false
has_high control next i s to passes some ge =
    ap (λ o. has i s (if is_some o then filter (λ (p : Pass). nat_lt p.number next) passes else passes)) some
    ∙ any_dropped (is_pass i s) (λ (p : Pass). nat_lt p.number next) (λ p h. let same = eqb-true p.number i (and_parts (p.number == i) (p.stage == s) h).0 in le-ltb p.number next (omega arith)) passes

-- The passes of a cycle.

-- a flight that passes its stage
pub record IsPassing (design : Design) (state : State) (control : CycleControl) (i s : ℕ) : Type 0 where
  pub low : 1 ≤ s
  pub high : s < design.stages
  pub flight : Flight
  pub is : flight_at state s ≡ Some flight
  pub number : flight.number ≡ i
  pub free : control.held s ≡ false
  pub left : is_killed design control s ≡ false

module _ (design : Design) (state : State) (control : CycleControl) (count : length state.flights ≡ design.stages - 1) where
  passing_listed : (i s : ℕ) → IsPassing design state control i s → has i s (cycle_passes design state control) ≡ true
  unfolding cycle_passes
  passing_listed i s p =
      let low = p.low in
      let index : 1 + (s - 1) ≡ s = omega arith in
      let told = told_at (flight_passes design control) 1 state.flights (s - 1) p.flight p.is in
      let one : flight_passes design control (1 + (s - 1)) p.flight ≡ record { number = p.flight.number; stage = s } ∷ [] =
      ap (λ k. flight_passes design control k p.flight) index ∙ cond-false (control.held s || is_killed design control s) [] (record { number = p.flight.number; stage = s } ∷ []) (or_from (control.held s) (is_killed design control s) p.free p.left) in
      let here : is_pass i s (record { number = p.flight.number; stage = s }) ≡ true = and_from (p.flight.number == i) (s == s) (eq-eqb p.flight.number i p.number) (eq-eqb s s refl) in
      ap (has i s) told.2 ∙ any_append (is_pass i s) told.0 (flight_passes design control (1 + (s - 1)) p.flight ++ told.1)
      ∙ or_right (has i s told.0) (has i s (flight_passes design control (1 + (s - 1)) p.flight ++ told.1))
      (ap (λ ps. has i s (ps ++ told.1)) one ∙ or_left (is_pass i s (record { number = p.flight.number; stage = s })) (has i s told.1) here)

  all_passing : Each (λ (p : Pass). IsPassing design state control p.number p.stage) (cycle_passes design state control)
  unfolding cycle_passes
  all_passing =
      each_told (λ (p : Pass). IsPassing design state control p.number p.stage) (flight_passes design control) 1 state.flights
      (λ i f less at. by_stopped i f less at (control.held (1 + i)) (is_killed design control (1 + i)) refl refl)
    where
      by_stopped : (i : ℕ) (f : Flight) → i < length state.flights → slice_index_or state.flights i None ≡ Some f → (h k : Bool) → control.held (1 + i) ≡ h → is_killed design control (1 + i) ≡ k
          → Each (λ (p : Pass). IsPassing design state control p.number p.stage) (if h || k then [] else record { number = f.number; stage = 1 + i } ∷ [])
      by_stopped i f less at true k e g = tt
      by_stopped i f less at false true e g = tt
      by_stopped i f less at false false e g =
          let index : 1 + i - 1 ≡ i = omega arith in
          (record { low = omega arith; high = omega (arith, count); flight = f; is = ap (λ n. slice_index_or state.flights n None) index ∙ at; number = refl; free = e; left = g }, tt)

  listed_passing : (i s : ℕ) → has i s (cycle_passes design state control) ≡ true → IsPassing design state control i s
  listed_passing i s e =
      any_gives (is_pass i s) (λ (p : Pass). IsPassing design state control p.number p.stage) (IsPassing design state control i s)
      (λ p h is.
      let parts = and_parts (p.number == i) (p.stage == s) h in
      subst (λ n. IsPassing design state control n s) (eqb-true p.number i parts.0) (subst (λ t. IsPassing design state control p.number t) (eqb-true p.stage s parts.1) is))
      (cycle_passes design state control) all_passing e

-- the passes that a state keeps are those of its track
pub record IsPassed (state : State) (track : Track) : Type 0 where
  pub all : (i s : ℕ) → 1 ≤ s → s < track.stage i → has i s state.passes ≡ true
  pub only : (i s : ℕ) → has i s state.passes ≡ true → (1 ≤ s) × (s < track.stage i)

module _ (design : Design) (cards : List Card) (image : Image) (inputs : TraceLine) (state : State) (control : CycleControl) (track : Track) (clean : IsClean design)
    (tracked : IsTracked design image state track) (is_track : IsTrack (frame_of design image) track) (decides : IsControl design cards image inputs state control) (passed : IsPassed state track) where
  abbrev later : State
  later = after_control design cards image inputs state control

  abbrev new : Track
  new = next_track design track control later

  turn : IsTurn (frame_of design image) control.held track new
  turn = is_turn design cards image inputs state control track clean tracked is_track decides

  passes_are : later.passes ≡ kept (λ (p : Pass). p.number) control later.next (state.passes ++ cycle_passes design state control)
  unfolding after_control
  passes_are = refl

  has_before : (i s : ℕ) → i < later.next → has i s later.passes ≡ (has i s state.passes || has i s (cycle_passes design state control))
  has_before i s less = ap (has i s) passes_are ∙ has_low control later.next i s (state.passes ++ cycle_passes design state control) less ∙ any_append (is_pass i s) state.passes (cycle_passes design state control)

  fetched_before : (i : ℕ) → 1 ≤ track.stage i → i < track.next
  fetched_before i some = by_case (cases_lt i track.next)
    where
      by_case : (i < track.next) ⊎ (track.next ≤ i) → i < track.next
      by_case (inl h) = h
      by_case (inr h) = let none = is_track.ahead i h in absurd (omega arith)

  -- a number that goes on passes its stage
  goes_on : (i : ℕ) → i < later.next → 1 ≤ track.stage i → track.stage i < new.stage i → IsPassing design state control i (track.stage i)
  goes_on i less some more = by_case (cases_lt (track.stage i) design.stages) (cases_Bool (control.held (track.stage i)))
    where
      by_case : (track.stage i < design.stages) ⊎ (design.stages ≤ track.stage i) → (control.held (track.stage i) ≡ true) ⊎ (control.held (track.stage i) ≡ false) → IsPassing design state control i (track.stage i)
      by_case (inr h) other = let e = turn.gone i less h in absurd (omega arith)
      by_case (inl h) (inl held) = let e = turn.stays i less h held in absurd (omega arith)
      by_case (inl h) (inr free) =
          let inside : i < track.next = fetched_before i some in
          let f = tracked.numbers i inside h in
          record { low = some; high = h; flight = f.flight; is = f.is; number = f.number; free = free; left = left_of design cards image inputs state control track clean tracked is_track decides i less (omega arith) h }

  all_passed : (i s : ℕ) → 1 ≤ s → s < new.stage i → has i s later.passes ≡ true
  all_passed i s some less = by_next (cases_lt i later.next)
    where
      by_stage : i < later.next → (s < track.stage i) ⊎ (track.stage i ≤ s) → has i s later.passes ≡ true
      by_stage there (inl h) = has_before i s there ∙ or_left (has i s state.passes) (has i s (cycle_passes design state control)) (passed.all i s some h)
      by_stage there (inr h) =
          let most : new.stage i ≤ suc (track.stage i) = at_most there (cases_lt (track.stage i) design.stages) (cases_Bool (control.held (track.stage i))) in
          let same : track.stage i ≡ s = omega arith in
          has_before i s there
          ∙ or_right (has i s state.passes) (has i s (cycle_passes design state control))
          (subst (λ t. has i t (cycle_passes design state control) ≡ true) same (passing_listed design state control tracked.count i (track.stage i) (goes_on i there (omega arith) (omega arith))))
        where
          at_most : i < later.next → (track.stage i < design.stages) ⊎ (design.stages ≤ track.stage i) → (control.held (track.stage i) ≡ true) ⊎ (control.held (track.stage i) ≡ false) → new.stage i ≤ suc (track.stage i)
          at_most there (inr h) other = let e = turn.gone i there h in omega arith
          at_most there (inl h) (inl held) = let e = turn.stays i there h held in omega arith
          at_most there (inl h) (inr free) = let e = turn.moves i there h free in omega arith

      by_next : (i < later.next) ⊎ (later.next ≤ i) → has i s later.passes ≡ true
      by_next (inl h) = by_stage h (cases_lt s (track.stage i))
      by_next (inr h) = let none = turn.killed i h in absurd (omega arith)

  only_passed : (i s : ℕ) → has i s later.passes ≡ true → (1 ≤ s) × (s < new.stage i)
  only_passed i s e = by_taken control.taken refl
    where
      by_either : i < later.next → (has i s state.passes ≡ true) ⊎ (has i s (cycle_passes design state control) ≡ true) → (1 ≤ s) × (s < new.stage i)
      by_either there (inl h) =
          let before = passed.only i s h in
          let less = before.1 in
          let up = stage_grows (frame_of design image) control.held track new turn i there in
          (before.0, omega arith)
      by_either there (inr h) =
          let p = listed_passing design state control tracked.count i s h in
          let is = tracked.flights s p.flight p.low p.high p.is in
          let at : track.stage i ≡ s = ap track.stage (sym p.number) ∙ is.stage in
          let high = p.high in
          let up = turn.moves i there (omega arith) (ap control.held at ∙ p.free) in
          (p.low, omega arith)

      there_quiet : control.taken ≡ None → (has i s state.passes ≡ true) ⊎ (has i s (cycle_passes design state control) ≡ true) → i < later.next
      there_quiet none either = by_held (control.held 0) refl (inside either)
        where
          inside : (has i s state.passes ≡ true) ⊎ (has i s (cycle_passes design state control) ≡ true) → i < track.next
          inside (inl h) = let before = passed.only i s h in let less = before.1 in fetched_before i (omega arith)
          inside (inr h) =
              let p = listed_passing design state control tracked.count i s h in
              let is = tracked.flights s p.flight p.low p.high p.is in
              subst (λ n. n < track.next) p.number is.number

          by_held : (b : Bool) → control.held 0 ≡ b → i < track.next → i < later.next
          by_held true held less =
              let end = next_quiet design cards image inputs state control track clean tracked is_track decides none ∙ cond-true (control.held 0) state.next (state.next + 1) held in
              let same = tracked.next in
              omega arith
          by_held false held less =
              let end = next_quiet design cards image inputs state control track clean tracked is_track decides none ∙ cond-false (control.held 0) state.next (state.next + 1) held in
              let same = tracked.next in
              omega arith

      by_taken : (o : Option ℕ) → control.taken ≡ o → (1 ≤ s) × (s < new.stage i)
      by_taken None none =
          let all : has i s later.passes ≡ has i s (state.passes ++ cycle_passes design state control) = ap (has i s) (passes_are ∙ ap (λ o. if is_some o then filter (λ (p : Pass). nat_lt p.number later.next) (state.passes ++ cycle_passes design state control) else state.passes ++ cycle_passes design state control) none) in
          let either = or_cases (has i s state.passes) (has i s (cycle_passes design state control)) (sym (any_append (is_pass i s) state.passes (cycle_passes design state control)) ∙ sym all ∙ e) in
          by_either (there_quiet none either) either
      by_taken (Some to) some = by_next (cases_lt i later.next)
        where
          by_next : (i < later.next) ⊎ (later.next ≤ i) → (1 ≤ s) × (s < new.stage i)
          by_next (inl h) = by_either h (or_cases (has i s state.passes) (has i s (cycle_passes design state control)) (sym (has_before i s h) ∙ e))
          by_next (inr h) = absurd (both_ways (has i s later.passes) (ap (has i s) passes_are ∙ has_high control later.next i s to (state.passes ++ cycle_passes design state control) some h) e)

  pub turn_passed : IsPassed later new
  turn_passed = record { all = all_passed; only = only_passed }
