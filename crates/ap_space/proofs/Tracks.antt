-- A pipeline by the stages and places of its numbered words, and what a cycle does to them: words in flight keep their order, and the
-- slots of a transfer follow it stage by stage.
use Rattle.std.proofs.Common.{◌≡◌, ℕ, suc, ◌+◌, ◌-◌, ◌≤◌, ◌<◌, ◌%◌, Bool, true, false, ◌⊎◌, inl, inr, refl, sym, ap, ◌∙◌, subst, arith}
use Rattle.std.proofs.lemmas.Bool.{cases_lt, cases_order, both_ways}
use Rattle.std.proofs.Math.Nat.{add-mod-mod, mod-eq_of_lt}

-- how many words were fetched and not killed; the stage that each has come to, 0 for one that isn't fetched yet and the number of stages
-- for one that has left; and the place of each, the one that is fetched next included
pub record Track : Type 0 where
  pub next : ℕ
  pub stage : ℕ → ℕ
  pub place : ℕ → ℕ

-- the numbers of a pipeline: its stages, the stage of transfers, its slots, and the places of the code memory; whether the word at a
-- place is a transfer
pub record Frame : Type 0 where
  pub stages : ℕ
  pub branch : ℕ
  pub slots : ℕ
  pub places : ℕ
  pub transfers : ℕ → Bool

-- stages are there from 1 to the last, the transfer's is one of them, and it has no more slots than stages before it; a word in a slot of
-- a transfer is none
pub record IsFrame (frame : Frame) : Type 0 where
  pub low : 1 ≤ frame.branch
  pub high : frame.branch < frame.stages
  pub few : frame.slots ≤ frame.branch
  pub quiet : (place j : ℕ) → frame.transfers place ≡ true → 1 ≤ j → j ≤ frame.slots → frame.transfers ((place + j) % frame.places) ≡ false

-- the track is one of a pipeline
pub record IsTrack (frame : Frame) (track : Track) : Type 0 where
  pub ahead : (i : ℕ) → track.next ≤ i → track.stage i ≡ 0
  pub inside : (i : ℕ) → i < track.next → 1 ≤ track.stage i
  pub high : (i : ℕ) → track.stage i ≤ frame.stages
  pub rise : (i j : ℕ) → i < j → j ≤ track.next → track.stage i < frame.stages → track.stage j + j ≤ track.stage i + i
  pub within : (i : ℕ) → i ≤ track.next → track.place i < frame.places
  pub slots : (t j : ℕ) → t < track.next → track.stage t ≤ frame.branch → frame.transfers (track.place t) ≡ true → 1 ≤ j → j ≤ frame.slots → j ≤ track.stage t
      → (t + j ≤ track.next) × (track.stage (t + j) + j ≡ track.stage t) × (track.place (t + j) ≡ (track.place t + j) % frame.places)

-- what is held is held from stage 0 on, and with stage 0 the transfer's stage
pub record IsHold (frame : Frame) (hold : ℕ → Bool) : Type 0 where
  pub below : (stage earlier : ℕ) → earlier ≤ stage → hold stage ≡ true → hold earlier ≡ true
  pub transfer : hold 0 ≡ true → hold frame.branch ≡ true

-- the kinds of cycles: nothing is fetched; a word is fetched, and the next one is to come from the next place; a transfer is taken by a
-- number, and all behind its slots is killed
pub record Waits (frame : Frame) (hold : ℕ → Bool) (old new : Track) : Type 0 where
  pub held : hold 0 ≡ true
  pub next : new.next ≡ old.next
  pub place : new.place new.next ≡ old.place old.next

pub record Fetches (frame : Frame) (hold : ℕ → Bool) (old new : Track) : Type 0 where
  pub free : hold 0 ≡ false
  pub next : new.next ≡ suc old.next
  pub place : new.place new.next ≡ (old.place old.next + 1) % frame.places

pub record Takes (frame : Frame) (hold : ℕ → Bool) (old new : Track) (t target : ℕ) : Type 0 where
  pub free : hold 0 ≡ false
  pub number : t < old.next
  pub there : old.stage t ≡ frame.branch
  pub transfers : frame.transfers (old.place t) ≡ true
  pub next : new.next ≡ suc (t + frame.slots)
  pub room : new.next ≤ suc old.next
  pub place : new.place new.next ≡ target
  pub fits : target < frame.places

pub data Kind (frame : Frame) (hold : ℕ → Bool) (old new : Track) : Type 0 where
  waits : Waits frame hold old new → Kind frame hold old new
  fetches : Fetches frame hold old new → Kind frame hold old new
  takes : (t target : ℕ) → Takes frame hold old new t target → Kind frame hold old new

-- a cycle
pub record IsTurn (frame : Frame) (hold : ℕ → Bool) (old new : Track) : Type 0 where
  pub holds : IsHold frame hold
  pub kind : Kind frame hold old new
  pub killed : (i : ℕ) → new.next ≤ i → new.stage i ≡ 0
  pub gone : (i : ℕ) → i < new.next → frame.stages ≤ old.stage i → new.stage i ≡ old.stage i
  pub stays : (i : ℕ) → i < new.next → old.stage i < frame.stages → hold (old.stage i) ≡ true → new.stage i ≡ old.stage i
  pub moves : (i : ℕ) → i < new.next → old.stage i < frame.stages → hold (old.stage i) ≡ false → new.stage i ≡ suc (old.stage i)
  pub places : (i : ℕ) → i < new.next → new.place i ≡ old.place i

module _ (frame : Frame) (is_frame : IsFrame frame) (hold : ℕ → Bool) (old new : Track) (track : IsTrack frame old) (turn : IsTurn frame hold old new) where
  next_room : new.next ≤ suc old.next
  next_room = by_kind turn.kind
    where
      by_kind : Kind frame hold old new → new.next ≤ suc old.next
      by_kind (waits w) = let e = w.next in omega arith
      by_kind (fetches f) = let e = f.next in omega arith
      by_kind (takes t target k) = k.room

  -- where a word is fetched or a transfer is taken, nothing is held
  all_free : hold 0 ≡ false → (stage : ℕ) → hold stage ≡ false
  all_free free stage = by_case (hold stage) refl
    where
      by_case : (b : Bool) → hold stage ≡ b → hold stage ≡ false
      by_case true e = absurd (both_ways (hold 0) free (turn.holds.below stage 0 (omega arith) e))
      by_case false e = e

  -- what becomes of a number: it stays or goes on by one
  data Step (i : ℕ) : Type 0 where
    still : hold (old.stage i) ≡ true → new.stage i ≡ old.stage i → Step i
    onward : hold (old.stage i) ≡ false → new.stage i ≡ suc (old.stage i) → Step i

  step_of : (i : ℕ) → i < new.next → old.stage i < frame.stages → Step i
  step_of i lt in_flight = by_case (hold (old.stage i)) refl
    where
      by_case : (b : Bool) → hold (old.stage i) ≡ b → Step i
      by_case true e = still e (turn.stays i lt in_flight e)
      by_case false e = onward e (turn.moves i lt in_flight e)

  was_in_flight : (i : ℕ) → i < new.next → new.stage i < frame.stages → old.stage i < frame.stages
  was_in_flight i lt in_flight = by_case (cases_lt (old.stage i) frame.stages)
    where
      by_case : (old.stage i < frame.stages) ⊎ (frame.stages ≤ old.stage i) → old.stage i < frame.stages
      by_case (inl h) = h
      by_case (inr h) = let e = turn.gone i lt h in absurd (omega arith)

  -- Order.

  rise_inside : (i j : ℕ) → i < j → j < new.next → new.stage i < frame.stages → new.stage j + j ≤ new.stage i + i
  rise_inside i j less lt in_flight =
      let room = next_room in
      let one : old.stage i < frame.stages = was_in_flight i (omega arith) in_flight in
      let before : old.stage j + j ≤ old.stage i + i = track.rise i j less (omega arith) one in
      let two : old.stage j < frame.stages = omega arith in
      by_steps before (step_of i (omega arith) one) (step_of j lt two)
    where
      by_steps : old.stage j + j ≤ old.stage i + i → Step i → Step j → new.stage j + j ≤ new.stage i + i
      by_steps before (still h e) (still g f) = omega arith
      by_steps before (still h e) (onward g f) = absurd (both_ways (hold (old.stage j)) g (turn.holds.below (old.stage i) (old.stage j) (omega arith) h))
      by_steps before (onward h e) (still g f) = omega arith
      by_steps before (onward h e) (onward g f) = omega arith

  -- where nothing is held, all move
  rise_free : hold 0 ≡ false → (i : ℕ) → i < new.next → new.stage i < frame.stages → new.next ≤ new.stage i + i
  rise_free free i lt in_flight =
      let room = next_room in
      let one : old.stage i < frame.stages = was_in_flight i lt in_flight in
      let moved : new.stage i ≡ suc (old.stage i) = turn.moves i lt one (all_free free (old.stage i)) in
      by_order moved one (cases_lt i (new.next - 1))
    where
      by_order : new.stage i ≡ suc (old.stage i) → old.stage i < frame.stages → (i < new.next - 1) ⊎ (new.next - 1 ≤ i) → new.next ≤ new.stage i + i
      by_order moved one (inl less) =
          let room = next_room in
          let before : old.stage (new.next - 1) + (new.next - 1) ≤ old.stage i + i = track.rise i (new.next - 1) less (omega arith) one in
          omega arith
      by_order moved one (inr least) = omega arith

  rise_next : (i : ℕ) → i < new.next → new.stage i < frame.stages → new.next ≤ new.stage i + i
  rise_next i lt in_flight = by_kind turn.kind
    where
      by_kind : Kind frame hold old new → new.next ≤ new.stage i + i
      by_kind (waits w) =
          let same = w.next in
          let one : old.stage i < frame.stages = was_in_flight i lt in_flight in
          let before : old.stage old.next + old.next ≤ old.stage i + i = track.rise i old.next (omega arith) (omega arith) one in
          by_step before (step_of i lt one)
        where
          by_step : old.stage old.next + old.next ≤ old.stage i + i → Step i → new.next ≤ new.stage i + i
          by_step before (still h e) = let same = w.next in omega arith
          by_step before (onward h e) = let same = w.next in omega arith
      by_kind (fetches f) = rise_free f.free i lt in_flight
      by_kind (takes t target k) = rise_free k.free i lt in_flight

  pub turn_rise : (i j : ℕ) → i < j → j ≤ new.next → new.stage i < frame.stages → new.stage j + j ≤ new.stage i + i
  turn_rise i j less le in_flight = by_case (cases_lt j new.next)
    where
      by_case : (j < new.next) ⊎ (new.next ≤ j) → new.stage j + j ≤ new.stage i + i
      by_case (inl lt) = rise_inside i j less lt in_flight
      by_case (inr ge) =
          let none = turn.killed j ge in
          let most = rise_next i (omega arith) in_flight in
          omega arith

  turn_high : (i : ℕ) → new.stage i ≤ frame.stages
  turn_high i = by_case (cases_lt i new.next) (cases_lt (old.stage i) frame.stages)
    where
      by_step : old.stage i < frame.stages → Step i → new.stage i ≤ frame.stages
      by_step one (still h e) = omega arith
      by_step one (onward h e) = omega arith

      by_case : (i < new.next) ⊎ (new.next ≤ i) → (old.stage i < frame.stages) ⊎ (frame.stages ≤ old.stage i) → new.stage i ≤ frame.stages
      by_case (inr ge) other = let none = turn.killed i ge in omega arith
      by_case (inl lt) (inl one) = by_step one (step_of i lt one)
      by_case (inl lt) (inr gone) = let e = turn.gone i lt gone in let before = track.high i in omega arith

  -- a number that is there has come to a stage
  turn_inside : (i : ℕ) → i < new.next → 1 ≤ new.stage i
  turn_inside i lt = by_case (cases_lt i old.next) (cases_lt (old.stage i) frame.stages)
    where
      by_step : 1 ≤ old.stage i → Step i → 1 ≤ new.stage i
      by_step one (still h e) = omega arith
      by_step one (onward h e) = omega arith

      fresh : old.next ≤ i → Kind frame hold old new → old.stage i ≡ 0 → 1 ≤ new.stage i
      fresh ge (waits w) none = let same = w.next in absurd (omega arith)
      fresh ge (fetches f) none = let below = is_frame.high in let moved = turn.moves i lt (omega arith) (all_free f.free (old.stage i)) in omega arith
      fresh ge (takes t target k) none = let below = is_frame.high in let moved = turn.moves i lt (omega arith) (all_free k.free (old.stage i)) in omega arith

      by_case : (i < old.next) ⊎ (old.next ≤ i) → (old.stage i < frame.stages) ⊎ (frame.stages ≤ old.stage i) → 1 ≤ new.stage i
      by_case (inl less) (inl one) = by_step (track.inside i less) (step_of i lt one)
      by_case other (inr gone) = let e = turn.gone i lt gone in let below = is_frame.high in omega arith
      by_case (inr ge) (inl one) = fresh ge turn.kind (track.ahead i ge)

  turn_within : (i : ℕ) → i ≤ new.next → new.place i < frame.places
  turn_within i le = by_case (cases_lt i new.next)
    where
      positive : 0 < frame.places
      positive = let one = track.within 0 (omega arith) in omega arith

      last : Kind frame hold old new → new.place new.next < frame.places
      last (waits w) = subst (λ p. p < frame.places) (sym w.place) (track.within old.next (omega arith))
      last (fetches f) = let e = f.place in let some = positive in omega arith
      last (takes t target k) = let e = k.place in let fits = k.fits in omega arith

      by_case : (i < new.next) ⊎ (new.next ≤ i) → new.place i < frame.places
      by_case (inl lt) = let room = next_room in let same = turn.places i lt in let before = track.within i (omega arith) in omega arith
      by_case (inr ge) = let same : i ≡ new.next = omega arith in subst (λ x. new.place x < frame.places) (sym same) (last turn.kind)

  -- Slots.

  -- no transfer that is at most in the transfer's stage, and that isn't the one that is taken, is left where one is taken
  none_left : (t target s : ℕ) → Takes frame hold old new t target → s < new.next → old.stage s < frame.branch → frame.transfers (old.place s) ≡ true → ⊥
  none_left t target s taken lt low is = by_order (cases_order s t)
    where
      by_order : (s ≡ t) ⊎ ((s < t) ⊎ (t < s)) → ⊥
      by_order (inl same) = let there = taken.there in let also = ap old.stage same in omega arith
      by_order (inr (inl less)) =
          let there = taken.there in
          let number = taken.number in
          let high = is_frame.high in
          let before = track.rise s t less (omega arith) (omega arith) in
          omega arith
      by_order (inr (inr less)) =
          let there = taken.there in
          let few = is_frame.few in
          let end = taken.next in
          let sum : t + (s - t) ≡ s = omega arith in
          let slot = track.slots t (s - t) taken.number (omega arith) taken.transfers (omega arith) (omega arith) (omega arith) in
          let at : old.place s ≡ (old.place t + (s - t)) % frame.places = ap old.place (sym sum) ∙ slot.2 in
          both_ways (frame.transfers (old.place s)) (ap frame.transfers at ∙ is_frame.quiet (old.place t) (s - t) taken.transfers (omega arith) (omega arith)) is

  abbrev Follows : ℕ → ℕ → Type 0
  Follows t j = (t + j ≤ new.next) × (new.stage (t + j) + j ≡ new.stage t) × (new.place (t + j) ≡ (new.place t + j) % frame.places)

  module _ (t j : ℕ) (lt : t < new.next) (low : new.stage t ≤ frame.branch) (is : frame.transfers (new.place t) ≡ true) (some : 1 ≤ j) (few : j ≤ frame.slots) (near : j ≤ new.stage t) where
    was : old.stage t < frame.stages
    was = let high = is_frame.high in was_in_flight t lt (omega arith)

    also : frame.transfers (old.place t) ≡ true
    also = ap frame.transfers (sym (turn.places t lt)) ∙ is

    place_there : t + j < new.next → old.place (t + j) ≡ (old.place t + j) % frame.places → new.place (t + j) ≡ (new.place t + j) % frame.places
    place_there there e = turn.places (t + j) there ∙ e ∙ ap (λ p. (p + j) % frame.places) (sym (turn.places t lt))

    -- the transfer stays, and so do its slots
    slots_still : hold (old.stage t) ≡ true → new.stage t ≡ old.stage t → Follows t j
    slots_still held same = by_kind turn.kind
      where
        stopped : hold 0 ≡ true
        stopped = turn.holds.below (old.stage t) 0 (omega arith) held

        by_kind : Kind frame hold old new → Follows t j
        by_kind (fetches f) = absurd (both_ways (hold 0) f.free stopped)
        by_kind (takes s target k) = absurd (both_ways (hold 0) k.free stopped)
        by_kind (waits w) =
            let end = w.next in
            let slot = track.slots t j (omega arith) (omega arith) also some few (omega arith) in
            by_case slot (cases_lt (t + j) new.next)
          where
            by_case : (t + j ≤ old.next) × (old.stage (t + j) + j ≡ old.stage t) × (old.place (t + j) ≡ (old.place t + j) % frame.places) → (t + j < new.next) ⊎ (new.next ≤ t + j) → Follows t j
            by_case slot (inl there) =
                let end = w.next in
                let equal = slot.1 in
                let least = was in
                let keeps : new.stage (t + j) ≡ old.stage (t + j) = turn.stays (t + j) there (omega arith) (turn.holds.below (old.stage t) (old.stage (t + j)) (omega arith) held) in
                (omega arith, omega arith, place_there there slot.2)
            by_case slot (inr last) =
                let end = w.next in
                let equal = slot.1 in
                let reach = slot.0 in
                let here : t + j ≡ new.next = omega arith in
                let none = turn.killed (t + j) last in
                let before : old.stage (t + j) ≡ 0 = track.ahead (t + j) (omega arith) in
                let moved : new.place (t + j) ≡ old.place (t + j) = ap new.place here ∙ w.place ∙ ap old.place (sym (here ∙ end)) in
                (omega arith, omega arith, moved ∙ slot.2 ∙ ap (λ p. (p + j) % frame.places) (sym (turn.places t lt)))

    -- the transfer goes on; a slot goes on behind it, or is fetched next
    slots_onward : hold (old.stage t) ≡ false → new.stage t ≡ suc (old.stage t) → Follows t j
    slots_onward free more = by_kind turn.kind
      where
        by_kind : Kind frame hold old new → Follows t j
        by_kind (waits w) = absurd (both_ways (hold (old.stage t)) free (turn.holds.below frame.branch (old.stage t) (omega arith) (turn.holds.transfer w.held)))
        by_kind (takes s target k) = absurd (none_left s target t k lt (omega arith) also)
        by_kind (fetches f) = by_case (cases_lt j (suc (old.stage t)))
          where
            behind : (t + j ≤ old.next) × (old.stage (t + j) + j ≡ old.stage t) × (old.place (t + j) ≡ (old.place t + j) % frame.places) → Follows t j
            behind slot =
                let end = f.next in
                let equal = slot.1 in
                let reach = slot.0 in
                let least = was in
                let goes : new.stage (t + j) ≡ suc (old.stage (t + j)) = turn.moves (t + j) (omega arith) (omega arith) (all_free f.free (old.stage (t + j))) in
                (omega arith, omega arith, place_there (omega arith) slot.2)

            last_place : t + old.stage t ≡ old.next → old.place old.next ≡ (old.place t + old.stage t) % frame.places → j ≡ suc (old.stage t) → Follows t j
            last_place sum at here =
                let end = f.next in
                let whole : t + j ≡ new.next = omega arith in
                let none = turn.killed (t + j) (omega arith) in
                let add : 1 + (old.place t + old.stage t) ≡ old.place t + j = omega arith in
                let turned : old.place old.next + 1 ≡ 1 + old.place old.next = omega arith in
                let place : new.place (t + j) ≡ (old.place t + j) % frame.places =
                ap new.place whole ∙ f.place ∙ ap (λ p. p % frame.places) turned ∙ ap (λ p. (1 + p) % frame.places) at ∙ add-mod-mod 1 (old.place t + old.stage t) frame.places ∙ ap (λ p. p % frame.places) add in
                (omega arith, omega arith, place ∙ ap (λ p. (p + j) % frame.places) (sym (turn.places t lt)))

            -- the last slot so far is the word that is fetched
            newest : (t < old.next) ⊎ (old.next ≤ t) → j ≡ suc (old.stage t) → Follows t j
            newest (inl inside) here =
                let least = track.inside t inside in
                let slot = track.slots t (old.stage t) inside (omega arith) also least (omega arith) (omega arith) in
                let equal = slot.1 in
                let reach = slot.0 in
                let sum : t + old.stage t ≡ old.next = by_case (cases_lt (t + old.stage t) old.next) slot.0 slot.1 in
                last_place sum (ap old.place (sym sum) ∙ slot.2) here
              where
                by_case : (t + old.stage t < old.next) ⊎ (old.next ≤ t + old.stage t) → t + old.stage t ≤ old.next → old.stage (t + old.stage t) + old.stage t ≡ old.stage t → t + old.stage t ≡ old.next
                by_case (inl h) reach equal = let some = track.inside (t + old.stage t) h in absurd (omega arith)
                by_case (inr h) reach equal = omega arith
            newest (inr outside) here =
                let end = f.next in
                let none = track.ahead t outside in
                let same : t ≡ old.next = omega arith in
                let fits = track.within t (omega arith) in
                last_place (omega arith) (ap old.place (sym same) ∙ (let e : old.place t + old.stage t ≡ old.place t = omega arith in small (old.place t) (old.place t + old.stage t) e fits)) here
              where
                small : (p q : ℕ) → q ≡ p → p < frame.places → p ≡ q % frame.places
                small p q e h = sym (ap (λ x. x % frame.places) e ∙ mod-eq_of_lt h)

            by_case : (j < suc (old.stage t)) ⊎ (suc (old.stage t) ≤ j) → Follows t j
            by_case (inl h) =
                let end = f.next in
                let inside : t < old.next = by_side (cases_lt t old.next) in
                behind (track.slots t j inside (omega arith) also some few (omega arith))
              where
                by_side : (t < old.next) ⊎ (old.next ≤ t) → t < old.next
                by_side (inl inside) = inside
                by_side (inr outside) = let none = track.ahead t outside in absurd (omega arith)
            by_case (inr h) = newest (cases_lt t old.next) (omega arith)

    turn_slots : Follows t j
    turn_slots = by_step (step_of t lt was)
      where
        by_step : Step t → Follows t j
        by_step (still h e) = slots_still h e
        by_step (onward h e) = slots_onward h e

  -- a track stays one
  pub turn_track : IsTrack frame new
  turn_track = record {
    ahead = turn.killed;
    inside = turn_inside;
    high = turn_high;
    rise = turn_rise;
    within = turn_within;
    slots = turn_slots;
  }
