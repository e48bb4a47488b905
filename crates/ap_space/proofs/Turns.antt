-- A cycle of the machine is a turn of its track: the stages and places of numbers go on as the flights do.
use Rattle.std.proofs.Common.{◌≡◌, ℕ, suc, ◌+◌, ◌-◌, ◌≤◌, ◌<◌, ◌%◌, ◌^◌, ◌||◌, ◌&&◌, Bool, true, false, if◌then◌else◌, nat_lt, List, [], ◌∷◌, ◌++◌, length, fold, max, slice_index, slice_index_or, Option, Some, None, is_some, unwrap_or, ◌⊎◌, inl, inr, refl, sym, ap, ◌∙◌, subst, arith, append_assoc}
use Rattle.std.proofs.lemmas.Bool.{cond-true, cond-false, cases_lt, both_ways, lt-ltb, le-ltb, ltb-false, or_from, false_from_ne_true}
use Rattle.std.proofs.Math.Nat.{mod-eq_of_lt}
use Rattle.std.specs.List.{AllByRecursion as Each}
use Rattle.ap_bits.specs.declared.card.Card.{Card}
use Rattle.ap_desc.specs.Clean.{IsClean}
use Rattle.ap_desc.specs.declared.design.Design.{Design}
use Rattle.ap_dist.specs.Spaced.{is_transfer_word, word_at}
use Rattle.ap_image.specs.declared.image.Image.{Image}
use Rattle.ap_image.specs.declared.trace.TraceLine.{TraceLine}
use Rattle.ap_model.specs.declared.state.Flight.{Flight}
use Rattle.ap_model.specs.declared.state.State.{State}
use Rattle.ap_model.specs.Cycles.{CycleControl, after_control, flight_at, flight_effect, from_last, is_killed, next_number, next_pc, unkilled_number, unkilled_numbers}
use Rattle.ap_space.proofs.Fired.{branch_high, branch_low, few_slots, taken_in_branch}
use Rattle.ap_space.proofs.Flights.{each_told, told_at}
use Rattle.ap_space.proofs.Lists.{each_append, greatest_of}
use Rattle.ap_space.proofs.Tracks.{Fetches, Frame, IsHold, IsTrack, IsTurn, Kind, Takes, Track, Waits}
use Rattle.ap_space.proofs.Tracks.Kind.{fetches, takes, waits}

-- the pipeline of a design, with the words of an image
abbrev pub frame_of : Design → Image → Frame
frame_of design image = record { stages = design.stages; branch = design.branch; slots = design.slots; places = 2 ^ design.address; transfers = λ place. is_transfer_word design (word_at design image place) }

-- the track after a cycle: numbers that aren't killed go on where their stage isn't held, and the next one has the new pc
abbrev pub next_track : Design → Track → CycleControl → State → Track
next_track design track control after = record {
  next = after.next;
  stage = λ i. if nat_lt i after.next then (if nat_lt (track.stage i) design.stages then (if control.held (track.stage i) then track.stage i else suc (track.stage i)) else track.stage i) else 0;
  place = λ i. if nat_lt i after.next then track.place i else after.pc;
}

-- a flight is the word of its number, in the stage of the track
pub record IsFlightOf (image : Image) (track : Track) (q : ℕ) (f : Flight) : Type 0 where
  pub number : f.number < track.next
  pub stage : track.stage f.number ≡ q
  pub place : f.place ≡ track.place f.number
  pub word : f.word ≡ slice_index image.code f.place

pub record HasFlightOf (state : State) (track : Track) (i : ℕ) : Type 0 where
  pub flight : Flight
  pub is : flight_at state (track.stage i) ≡ Some flight
  pub number : flight.number ≡ i

-- the flights of a state are those of a track
pub record IsTracked (design : Design) (image : Image) (state : State) (track : Track) : Type 0 where
  pub count : length state.flights ≡ design.stages - 1
  pub next : track.next ≡ state.next
  pub pc : track.place track.next ≡ state.pc
  pub flights : (q : ℕ) (f : Flight) → 1 ≤ q → q < design.stages → flight_at state q ≡ Some f → IsFlightOf image track q f
  pub numbers : (i : ℕ) → i < track.next → track.stage i < design.stages → HasFlightOf state track i

-- the transfer that is taken is that of the flight in the transfer's stage
pub record TakesBy (design : Design) (cards : List Card) (inputs : TraceLine) (state : State) (control : CycleControl) (to : ℕ) : Type 0 where
  pub flight : Flight
  pub is : flight_at state design.branch ≡ Some flight
  pub free : control.held design.branch ≡ false
  pub target : (flight_effect design cards inputs state design.branch flight).target ≡ Some to

-- what decides on a cycle is sound
pub record IsControl (design : Design) (cards : List Card) (image : Image) (inputs : TraceLine) (state : State) (control : CycleControl) : Type 0 where
  pub holds : IsHold (frame_of design image) control.held
  pub taken : (to : ℕ) → control.taken ≡ Some to → TakesBy design cards inputs state control to
  pub fits : (to : ℕ) → control.taken ≡ Some to → to < 2 ^ design.address

module _ (design : Design) (cards : List Card) (image : Image) (inputs : TraceLine) (state : State) (control : CycleControl) (track : Track) (clean : IsClean design)
    (tracked : IsTracked design image state track) (is_track : IsTrack (frame_of design image) track) (decides : IsControl design cards image inputs state control) where
  abbrev after : State
  after = after_control design cards image inputs state control

  abbrev new : Track
  new = next_track design track control after

  next_is : after.next ≡ next_number design state control
  unfolding after_control
  next_is = refl

  pc_is : after.pc ≡ next_pc design state control
  unfolding after_control
  pc_is = refl

  -- The numbers that a taken transfer leaves.

  pub all_free : control.held 0 ≡ false → (stage : ℕ) → control.held stage ≡ false
  all_free free stage = false_from_ne_true (control.held stage) (λ held. both_ways (control.held 0) free (decides.holds.below stage 0 (omega arith) held))

  first_free : control.held design.branch ≡ false → control.held 0 ≡ false
  first_free free = false_from_ne_true (control.held 0) (λ held. both_ways (control.held design.branch) free (decides.holds.transfer held))

  pub not_killed : (q : ℕ) → control.taken ≡ None → is_killed design control q ≡ false
  not_killed q none = ap (λ o. is_some o && nat_lt design.slots (design.branch - q)) none

  pub killed_is : (q to : ℕ) → control.taken ≡ Some to → is_killed design control q ≡ nat_lt design.slots (design.branch - q)
  killed_is q to some = ap (λ o. is_some o && nat_lt design.slots (design.branch - q)) some

  -- what a transfer that is taken leaves: as many words as there are slots behind it
  module _ (to : ℕ) (some : control.taken ≡ Some to) where
    abbrev pub by : TakesBy design cards inputs state control to
    by = decides.taken to some

    abbrev pub t : ℕ
    t = by.flight.number

    pub flight_is : IsFlightOf image track design.branch by.flight
    flight_is = tracked.flights design.branch by.flight (branch_low design clean) (branch_high design clean) by.is

    pub free : control.held 0 ≡ false
    free = first_free by.free

    pub transfer_is : is_transfer_word design (word_at design image (track.place t)) ≡ true
    transfer_is =
        let kind = (taken_in_branch design cards clean design.branch by.flight.place by.flight.word by.flight.locals state.storages _ to by.target).1 in
        let word : by.flight.word ≡ word_at design image (track.place t) = flight_is.word ∙ ap (slice_index image.code) (flight_is.place ∙ small (track.place t) (is_track.within t (let less = flight_is.number in omega arith))) in
        ap (is_transfer_word design) (sym word) ∙ kind
      where
        small : (p : ℕ) → p < 2 ^ design.address → p ≡ p % 2 ^ design.address
        small p h = sym (mod-eq_of_lt h)

    -- the last slot
    last_there : (t + design.slots ≤ track.next) × (track.stage (t + design.slots) + design.slots ≡ design.branch)
    last_there = by_slots (cases_lt 0 design.slots)
      where
        by_slots : (0 < design.slots) ⊎ (design.slots ≤ 0) → (t + design.slots ≤ track.next) × (track.stage (t + design.slots) + design.slots ≡ design.branch)
        by_slots (inl h) =
            let there = flight_is.stage in
            let few = few_slots design clean in
            let slot = is_track.slots t design.slots flight_is.number (omega arith) transfer_is (omega arith) (omega arith) (omega arith) in
            (slot.0, (let e = slot.1 in omega arith))
        by_slots (inr h) =
            let there = flight_is.stage in
            let less = flight_is.number in
            let same : t + design.slots ≡ t = omega arith in
            let stage : track.stage (t + design.slots) ≡ track.stage t = ap track.stage same in
            (omega arith, omega arith)

    -- no number that is left is greater
    pub left_low : (i : ℕ) → i ≤ track.next → track.stage i < design.stages → nat_lt design.slots (design.branch - track.stage i) ≡ false → i ≤ t + design.slots
    left_low i le in_flight left = by_order (cases_lt t i)
      where
        by_order : (t < i) ⊎ (i ≤ t) → i ≤ t + design.slots
        by_order (inr h) = omega arith
        by_order (inl h) =
            let there = flight_is.stage in
            let high = branch_high design clean in
            let near = ltb-false design.slots (design.branch - track.stage i) left in
            let order = is_track.rise t i h le (omega arith) in
            omega arith

    abbrev Low : ℕ → Type 0
    Low i = i ≤ t + design.slots

    told_low : (q : ℕ) (f : Flight) → 1 ≤ q → q < design.stages → flight_at state q ≡ Some f → Each Low (unkilled_number design control q f)
    told_low q f low high at = by_kill (is_killed design control q) refl
      where
        by_kill : (b : Bool) → is_killed design control q ≡ b → Each Low (if b then [] else f.number ∷ [])
        by_kill true e = tt
        by_kill false e =
            let is = tracked.flights q f low high at in
            let less = is.number in
            let there = is.stage in
            (left_low f.number (omega arith) (omega arith) (ap (λ s. nat_lt design.slots (design.branch - s)) there ∙ sym (killed_is q to some) ∙ e), tt)

    flights_low : Each Low (from_last (unkilled_number design control) 1 state.flights)
    flights_low =
        each_told Low (unkilled_number design control) 1 state.flights
        (λ i f less at.
        let count = tracked.count in
        let index : 1 + i - 1 ≡ i = omega arith in
        told_low (1 + i) f (omega arith) (omega arith) (ap (λ k. slice_index_or state.flights k None) index ∙ at))

    abbrev tail : List ℕ
    tail = if control.held 0 || is_killed design control 0 then [] else state.next ∷ []

    tail_low : Each Low tail
    tail_low = by_kill (control.held 0) (is_killed design control 0) refl refl
      where
        by_kill : (h b : Bool) → control.held 0 ≡ h → is_killed design control 0 ≡ b → Each Low (if h || b then [] else state.next ∷ [])
        by_kill true b e g = tt
        by_kill false true e g = tt
        by_kill false false e g =
            let none = is_track.ahead track.next (omega arith) in
            let high = branch_high design clean in
            let same = tracked.next in
            let low = left_low track.next (omega arith) (omega arith) (ap (λ s. nat_lt design.slots (design.branch - s)) none ∙ sym (killed_is 0 to some) ∙ g) in
            (omega arith, tt)

    abbrev numbers : List ℕ
    numbers = unkilled_numbers design state control

    all_low : Each Low numbers
    all_low = each_append Low (from_last (unkilled_number design control) 1 state.flights) tail flights_low tail_low

    -- the last slot is among them
    last_listed : (before rest : List ℕ) × (numbers ≡ before ++ (t + design.slots) ∷ rest)
    last_listed = by_stage (cases_lt 0 (track.stage (t + design.slots)))
      where
        near : nat_lt design.slots (design.branch - track.stage (t + design.slots)) ≡ false
        near = let there = last_there.1 in le-ltb design.slots (design.branch - track.stage (t + design.slots)) (omega arith)

        by_stage : (0 < track.stage (t + design.slots)) ⊎ (track.stage (t + design.slots) ≤ 0) → (before rest : List ℕ) × (numbers ≡ before ++ (t + design.slots) ∷ rest)
        by_stage (inl h) =
            let there = last_there in
            let equal = there.1 in
            let reach = there.0 in
            let high = branch_high design clean in
            let less : t + design.slots < track.next = by_next (cases_lt (t + design.slots) track.next) h in
            let f = tracked.numbers (t + design.slots) less (omega arith) in
            let q = track.stage (t + design.slots) in
            let index : 1 + (q - 1) ≡ q = omega arith in
            let told = told_at (unkilled_number design control) 1 state.flights (q - 1) f.flight f.is in
            let one : unkilled_number design control (1 + (q - 1)) f.flight ≡ (t + design.slots) ∷ [] =
            ap (λ s. unkilled_number design control s f.flight) index
            ∙ cond-false (is_killed design control q) [] (f.flight.number ∷ []) (killed_is q to some ∙ near)
            ∙ ap (λ n. n ∷ []) f.number in
            (told.0, told.1 ++ tail, ap (λ xs. xs ++ tail) told.2 ∙ append_assoc told.0 (unkilled_number design control (1 + (q - 1)) f.flight ++ told.1) tail ∙ ap (λ ys. told.0 ++ ((ys ++ told.1) ++ tail)) one)
          where
            by_next : (t + design.slots < track.next) ⊎ (track.next ≤ t + design.slots) → 0 < track.stage (t + design.slots) → t + design.slots < track.next
            by_next (inl h) some = h
            by_next (inr h) some = let none = is_track.ahead (t + design.slots) h in absurd (omega arith)
        by_stage (inr h) =
            let there = last_there in
            let reach = there.0 in
            let none : track.stage (t + design.slots) ≡ 0 = omega arith in
            let whole : t + design.slots ≡ track.next = by_next (cases_lt (t + design.slots) track.next) none reach in
            let unkilled : (control.held 0 || is_killed design control 0) ≡ false = or_from (control.held 0) (is_killed design control 0) free (killed_is 0 to some ∙ ap (λ s. nat_lt design.slots (design.branch - s)) (sym none) ∙ near) in
            let one : tail ≡ (t + design.slots) ∷ [] = cond-false (control.held 0 || is_killed design control 0) [] (state.next ∷ []) unkilled ∙ ap (λ n. n ∷ []) (sym tracked.next ∙ sym whole) in
            (from_last (unkilled_number design control) 1 state.flights, [], ap (λ ys. from_last (unkilled_number design control) 1 state.flights ++ ys) one)
          where
            by_next : (t + design.slots < track.next) ⊎ (track.next ≤ t + design.slots) → track.stage (t + design.slots) ≡ 0 → t + design.slots ≤ track.next → t + design.slots ≡ track.next
            by_next (inl h) none reach = let some = is_track.inside (t + design.slots) h in absurd (omega arith)
            by_next (inr h) none reach = omega arith

    pub next_taken : after.next ≡ suc (t + design.slots)
    next_taken =
        let listed = last_listed in
        let most : fold max 0 numbers ≡ t + design.slots = ap (fold max 0) listed.2 ∙ greatest_of listed.0 (t + design.slots) listed.1 (subst (Each Low) listed.2 all_low) in
        let is : after.next ≡ fold max 0 numbers + 1 = next_is ∙ ap (λ o. if is_some o then fold max 0 numbers + 1 else if control.held 0 then state.next else state.next + 1) some in
        omega arith

    pc_taken : after.pc ≡ to
    pc_taken = pc_is ∙ cond-false (control.held 0) state.pc (unwrap_or control.taken ((state.pc + 1) % 2 ^ design.address)) free ∙ ap (λ o. unwrap_or o ((state.pc + 1) % 2 ^ design.address)) some

  pub next_quiet : control.taken ≡ None → after.next ≡ (if control.held 0 then state.next else state.next + 1)
  next_quiet none = next_is ∙ ap (λ o. if is_some o then fold max 0 (unkilled_numbers design state control) + 1 else if control.held 0 then state.next else state.next + 1) none

  -- The turn.

  pub last_place : new.place new.next ≡ after.pc
  last_place = cond-false (nat_lt after.next after.next) (track.place after.next) after.pc (le-ltb after.next after.next (omega arith))

  pub takes_is : (to : ℕ) (some : control.taken ≡ Some to) → Takes (frame_of design image) control.held track new (t to some) to
  takes_is to some = record {
    free = free to some;
    number = (flight_is to some).number;
    there = (flight_is to some).stage;
    transfers = transfer_is to some;
    next = next_taken to some;
    room = (let e = next_taken to some in let reach = (last_there to some).0 in omega arith);
    place = last_place ∙ pc_taken to some;
    fits = decides.fits to some;
  }

  pub waits_is : control.taken ≡ None → control.held 0 ≡ true → Waits (frame_of design image) control.held track new
  waits_is none held = record {
    held = held;
    next = next_quiet none ∙ cond-true (control.held 0) state.next (state.next + 1) held ∙ sym tracked.next;
    place = last_place ∙ pc_is ∙ cond-true (control.held 0) state.pc (unwrap_or control.taken ((state.pc + 1) % 2 ^ design.address)) held ∙ sym tracked.pc;
  }

  pub fetches_is : control.taken ≡ None → control.held 0 ≡ false → Fetches (frame_of design image) control.held track new
  fetches_is none held = record {
    free = held;
    next = (let e = next_quiet none ∙ cond-false (control.held 0) state.next (state.next + 1) held in let same = tracked.next in omega arith);
    place = last_place ∙ pc_is ∙ cond-false (control.held 0) state.pc (unwrap_or control.taken ((state.pc + 1) % 2 ^ design.address)) held
        ∙ ap (λ o. unwrap_or o ((state.pc + 1) % 2 ^ design.address)) none ∙ ap (λ p. (p + 1) % 2 ^ design.address) (sym tracked.pc);
  }

  kind_by : (o : Option ℕ) → control.taken ≡ o → (h : Bool) → control.held 0 ≡ h → Kind (frame_of design image) control.held track new
  kind_by None e true h = waits (waits_is e h)
  kind_by None e false h = fetches (fetches_is e h)
  kind_by (Some to) e h g = takes (t to e) to (takes_is to e)

  pub is_turn : IsTurn (frame_of design image) control.held track new
  is_turn = record {
    holds = decides.holds;
    kind = kind_by control.taken refl (control.held 0) refl;
    killed = λ i ge. cond-false (nat_lt i after.next) _ 0 (le-ltb i after.next ge);
    gone = λ i less gone. cond-true (nat_lt i after.next) _ 0 (lt-ltb i after.next less) ∙ cond-false (nat_lt (track.stage i) design.stages) _ (track.stage i) (le-ltb (track.stage i) design.stages gone);
    stays = λ i less there held. cond-true (nat_lt i after.next) _ 0 (lt-ltb i after.next less) ∙ cond-true (nat_lt (track.stage i) design.stages) _ (track.stage i) (lt-ltb (track.stage i) design.stages there) ∙ cond-true (control.held (track.stage i)) (track.stage i) (suc (track.stage i)) held;
    moves = λ i less there free. cond-true (nat_lt i after.next) _ 0 (lt-ltb i after.next less) ∙ cond-true (nat_lt (track.stage i) design.stages) _ (track.stage i) (lt-ltb (track.stage i) design.stages there) ∙ cond-false (control.held (track.stage i)) (track.stage i) (suc (track.stage i)) free;
    places = λ i less. cond-true (nat_lt i after.next) (track.place i) after.pc (lt-ltb i after.next less);
  }
