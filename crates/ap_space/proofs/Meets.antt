-- What the pipeline and its partner, one at a time with the samples of the whole run, have in common at a cycle; and that a flight which
-- fires then does what the partner's instruction does.
use Rattle.std.proofs.Common.{◌≡◌, ℕ, zero, suc, ◌+◌, ◌-◌, ◌≤◌, ◌<◌, ◌&&◌, Bool, true, false, nat_lt, List, ◌++◌, filter, slice_index, Option, Some, None, ◌⊎◌, inl, inr, refl, sym, ap, ◌∙◌, subst, arith, append-nil}
use Rattle.std.proofs.Math.Nat.{mod-eq_of_lt}
use Rattle.std.proofs.lemmas.Bool.{and_left, and_right, cases_Bool, cases_lt, lt-ltb, le-ltb}
use Rattle.std.specs.List.{AllByRecursion as Each}
use Rattle.std.specs.Option.{option_map_or}
use Rattle.ap_bits.specs.declared.card.Card.{Card}
use Rattle.ap_desc.specs.Clean.{IsClean}
use Rattle.ap_desc.specs.declared.design.Design.{Design}
use Rattle.ap_dist.specs.Distances.{dist_of}
use Rattle.ap_dist.specs.Spaced.{IsSpaced, word_at}
use Rattle.ap_image.specs.declared.image.Image.{Image}
use Rattle.ap_image.specs.declared.trace.Trace.{Trace}
use Rattle.ap_image.specs.declared.trace.TraceLine.{TraceLine}
use Rattle.ap_model.specs.declared.state.Entry.{Entry}
use Rattle.ap_model.specs.declared.state.Flight.{Flight}
use Rattle.ap_model.specs.declared.state.Sample.{Sample}
use Rattle.ap_model.specs.declared.state.StageEffect.{StageEffect}
use Rattle.ap_model.specs.declared.state.State.{State}
use Rattle.ap_model.specs.declared.storage.Storage.{Storage}
use Rattle.ap_model.specs.Cycles.{CycleControl, entries_of, flight_at, flight_effect, port_input}
use Rattle.ap_model.specs.Fire.{fire}
use Rattle.ap_model.specs.Landings.{LandsOn}
use Rattle.ap_model.specs.Runnable.{IsRunnable}
use Rattle.ap_model.specs.Sequence.{Partway, sample_input}
use Rattle.ap_model.specs.States.{start_storages}
use Rattle.ap_model.specs.WritesOf.{goes_to}
use Rattle.ap_space.specs.Prefix.{entries_to}
use Rattle.ap_space.proofs.Futures.{found_later, found_next}
use Rattle.ap_space.proofs.Gaps.{HasGaps, far_apart}
use Rattle.ap_space.proofs.Lists.{each_as, each_both, each_left, each_right, filter_parts, filter_none, filter_twice}
use Rattle.ap_space.proofs.Locals.{IsAccessed}
use Rattle.ap_space.proofs.Logged.{fires_on}
use Rattle.ap_space.proofs.Parts.{IsAtPair, IsBefore, IsBehind, IsBelow, IsOf, at_number, at_pair, before_pair, effect_is, effect_of, entries_are, log_below, log_of, part_of, word_of}
use Rattle.ap_space.proofs.Partner.{IsWritten, has_locals, log_written, target_of}
use Rattle.ap_space.proofs.Runs.{IsRun, TargetsFit, control_at, decides, frame_is, line_of, next_at, next_first, run_at, state_at, state_next, track_at, turn_at}
use Rattle.ap_space.proofs.SameFire.{WordSamples, fires_same}
use Rattle.ap_space.proofs.SampleRuns.{IsFiring, fresh_sample}
use Rattle.ap_space.proofs.Sampled.{found}
use Rattle.ap_space.proofs.Spacings.{access_before_write, spacing_is, spacing_of, write_before_read}
use Rattle.ap_space.proofs.Stores.{held_in, over_storages, part_storages, same_held}
use Rattle.ap_space.proofs.Deep.{IsDeep}
use Rattle.ap_space.proofs.Tracks.{Frame, IsFrame, IsTurn, Kind, Track}
use Rattle.ap_space.proofs.Tracks.Kind.{fetches, takes, waits}
use Rattle.ap_space.proofs.Turns.{IsFlightOf, frame_of}

-- what a run is taken of: a spaced image, and so many cycles
pub record Setting : Type 0 where
  pub design : Design
  pub cards : List Card
  pub image : Image
  pub trace : Trace
  pub c : ℕ
  pub landings : List ℕ
  pub drain : ℕ

pub record IsSetting (x : Setting) : Type 0 where
  pub clean : IsClean x.design
  pub runs : IsRunnable x.design x.cards
  pub spaced : IsSpaced x.design x.image x.landings x.drain
  pub fits : TargetsFit x.design x.cards x.image x.trace
  pub lands : LandsOn x.design x.cards x.image x.trace x.c x.landings

module _ (x : Setting) (is : IsSetting x) where
  abbrev pub frame : Frame
  frame = frame_of x.design x.image

  pub is_frame : IsFrame frame
  is_frame = frame_is x.design x.image x.landings x.drain is.clean is.spaced

  abbrev pub track : ℕ → Track
  track j = track_at x.design x.cards x.image x.trace j

  abbrev pub state : ℕ → State
  state j = state_at x.design x.cards x.image x.trace j

  abbrev pub control : ℕ → CycleControl
  control j = control_at x.design x.cards x.image x.trace j

  abbrev pub inputs : ℕ → TraceLine
  inputs j = line_of x.design x.cards x.image x.trace j

  pub run : (j : ℕ) → IsRun x.design x.cards x.image x.trace is.clean is_frame is.fits j
  run j = run_at x.design x.cards x.image x.trace is.clean is_frame is.fits j

  pub turn : (j : ℕ) → IsTurn frame (control j).held (track j) (track (suc j))
  turn j = turn_at x.design x.cards x.image x.trace is.clean is_frame is.fits j

  -- The partner, with the samples of all c cycles.

  abbrev pub samples : List Sample
  samples = (state x.c).sampled

  abbrev pub pc : ℕ → ℕ
  pc i = (at_number x.design x.cards x.image samples i).pc

  abbrev pub word : ℕ → ℕ
  word i = word_of x.design x.cards x.image samples i

  abbrev pub part : ℕ → ℕ → Partway
  part i s = part_of x.design x.cards x.image samples i s

  abbrev pub effect : ℕ → ℕ → StageEffect
  effect i s = effect_of x.design x.cards x.image samples i s

  abbrev pub target : ℕ → Option ℕ
  target i = target_of x.design x.cards x.image samples is.clean is.runs i

  abbrev pub all : List Entry
  all = log_of x.design x.cards x.image samples x.c

  abbrev pub Written : Entry → Type 0
  Written e = IsWritten x.design x.cards x.image samples is.clean is.runs e

  -- At a cycle: a number is on the path of the partner where no transfer that hasn't been taken yet would lead it elsewhere; and its
  -- samples agree with those of the whole run.

  abbrev pub OnPath : ℕ → ℕ → Type 0
  OnPath j i = (t : ℕ) → t + suc x.design.slots ≤ i → (track j).stage t ≤ x.design.branch → target t ≡ None

  abbrev pub Agrees : ℕ → ℕ → Type 0
  Agrees j i = (line : ℕ) (s : Sample) → found i line (state j).sampled ≡ Some s → found i line samples ≡ Some s

  abbrev pub is_passed : ℕ → Entry → Bool
  is_passed j e = nat_lt e.stage ((track j).stage e.number)

  -- what holds at a cycle
  pub record Meets (j : ℕ) : Type 0 where
    pub gaps : HasGaps frame (spacing_of x.design x.image x.landings x.drain) (track j)
    pub places : (i : ℕ) → i ≤ (track j).next → OnPath j i → (track j).place i ≡ pc i
    pub settled : (t : ℕ) → t < (track j).next → x.design.branch < (track j).stage t → (target t ≡ None) ⊎ (t + x.design.slots < (track j).next)
    pub locals : (s : ℕ) (f : Flight) → suc s < x.design.stages → flight_at (state j) (suc s) ≡ Some f → OnPath j f.number → Agrees j f.number → f.locals ≡ (part f.number s).locals
    pub logs : (place : Storage) → entries_to place (state j).log ≡ entries_to place (filter (is_passed j) all)

  -- Numbers that no transfer kills any more are on the path, and their samples stay.

  abbrev pub Deep : ℕ → ℕ → Type 0
  Deep j i = IsDeep frame (track j) i

  pub deep_on_path : (j i : ℕ) → Deep j i → OnPath j i
  deep_on_path j i deep t before low =
      let high = is_frame.high in
      let inside = deep.0 in
      let far = deep.1 in
      let order = (run j).track.rise t i (omega arith) (omega arith) (omega arith) in
      absurd (omega arith)

  pub deep_agrees : (j i : ℕ) → j ≤ x.c → Deep j i → Agrees j i
  deep_agrees j i le deep line s e =
      let sum : j + (x.c - j) ≡ x.c = omega arith in
      ap (λ k. found i line (state k).sampled) (sym sum) ∙ found_later x.design x.cards x.image x.trace is.clean is_frame is.fits (x.c - j) j i line s deep e

  pub path_down : (j i t : ℕ) → t ≤ i → OnPath j i → OnPath j t
  path_down j i t le on u before low = on u (omega arith) low

  pub agrees_before : (j i : ℕ) → i < (track (suc j)).next → Agrees (suc j) i → Agrees j i
  agrees_before j i less agrees line s e = agrees line s (found_next x.design x.cards x.image x.trace is.clean is_frame is.fits j i line s less e)

  -- no more words were fetched than there were cycles
  pub few_fetched : (j : ℕ) → (track j).next ≤ j
  few_fetched zero = first_low
    where
      first_low : (track 0).next ≤ 0
      first_low = let same = next_at x.design x.cards x.image x.trace is.clean is_frame is.fits 0 in let none = next_first x.design x.cards x.image x.trace in omega arith
  few_fetched (suc j) = by_kind (turn j).kind (few_fetched j)
    where
      by_kind : Kind frame (control j).held (track j) (track (suc j)) → (track j).next ≤ j → (track (suc j)).next ≤ suc j
      by_kind (waits w) low = let e = w.next in omega arith
      by_kind (fetches f) low = let e = f.next in omega arith
      by_kind (takes t to k) low = let room = k.room in omega arith

  module _ (j : ℕ) (meets : Meets j) where
    -- the word of a number on the path
    pub word_is : (i : ℕ) → i ≤ (track j).next → OnPath j i → word_at x.design x.image ((track j).place i) ≡ word i
    word_is i le on = ap (slice_index x.image.code) (mod-eq_of_lt ((run j).track.within i le) ∙ meets.places i le on)

    pub far : (i k : ℕ) → i < k → k ≤ (track j).next → (track j).stage i < x.design.stages → OnPath j i → OnPath j k → (track j).stage k + dist_of x.design (word i) (word k) ≤ (track j).stage i
    far i k before le in_flight one two =
        let apart = far_apart frame is_frame (spacing_of x.design x.image x.landings x.drain) (spacing_is x.design x.image x.landings x.drain is.clean is.spaced) (track j) (run j).track meets.gaps i k before le in_flight in
        let same : dist_of x.design (word_at x.design x.image ((track j).place i)) (word_at x.design x.image ((track j).place k)) ≡ dist_of x.design (word i) (word k) = λ l. dist_of x.design (word_is i (omega arith) one l) (word_is k le two l) in
        omega arith

    -- an entry that was passed is of a number that no transfer kills
    pub passed_deep : (e : Entry) → Written e → e.stage < (track j).stage e.number → Deep j e.number
    passed_deep e written passed = (by_next (cases_lt e.number (track j).next), (let late = written.late in omega arith))
      where
        by_next : (e.number < (track j).next) ⊎ ((track j).next ≤ e.number) → e.number < (track j).next
        by_next (inl h) = h
        by_next (inr h) = let none = (run j).track.ahead e.number h in absurd (omega arith)

    -- No write that isn't made yet is to be seen by a younger word that reads now.
    pub unpassed_older : (i s : ℕ) (place : Storage) (e : Entry) → i < (track j).next → (track j).stage i ≡ suc s → suc s < x.design.stages → OnPath j i → IsAccessed x.design (word i) (suc s) false place
        → Written e → e.number < i → e.stage < x.design.stages → (track j).stage e.number ≤ e.stage → goes_to place e.write.port e.write.at ≡ true → ⊥
    unpassed_older i s place e inside there high on reads written older in_stages late goes =
        let apart = far e.number i older (omega arith) (omega arith) (path_down j i e.number (omega arith) on) on in
        let close = write_before_read x.design (word e.number) (word i) e.stage (suc s) place (written.goes place goes) reads in
        omega arith

    -- No write that was made already is of a younger word that is to come after one that fires now.
    pub passed_younger : (i s : ℕ) (place : Storage) (writes : Bool) (e : Entry) → i < (track j).next → (track j).stage i ≡ suc s → suc s < x.design.stages → OnPath j i → IsAccessed x.design (word i) (suc s) writes place
        → Written e → i < e.number → e.stage < (track j).stage e.number → goes_to place e.write.port e.write.at ≡ true → ⊥
    passed_younger i s place writes e inside there high on accesses written younger passed goes =
        let deep = passed_deep e written passed in
        let below = deep.0 in
        let apart = far i e.number younger (omega arith) (omega arith) on (deep_on_path j e.number deep) in
        let close = access_before_write x.design (word i) (word e.number) (suc s) e.stage writes place accesses (written.goes place goes) in
        omega arith

  -- A flight that fires does what the partner's instruction does.
  module _ (j : ℕ) (less : j < x.c) (meets : Meets j) where
    module _ (s : ℕ) (f : Flight) (firing : IsFiring x.design (state j) (control j) (suc s) f) (on : OnPath j f.number) (agrees : Agrees (suc j) f.number) where
      abbrev i : ℕ
      i = f.number

      flight_is : IsFlightOf x.image (track j) (suc s) f
      flight_is = (run j).tracked.flights (suc s) f firing.low firing.high firing.is

      goes_on : i < (track (suc j)).next
      goes_on =
          let less_next = (fires_on x.design x.cards x.image (inputs j) (state j) (control j) (track j) is.clean is_frame (run j).tracked (run j).track (decides x.design x.cards x.image x.trace is.clean is_frame is.fits j) (suc s) f firing).0 in
          subst (λ n. i < n) (ap (λ (t : State). t.next) (sym (state_next x.design x.cards x.image x.trace j)) ∙ sym (next_at x.design x.cards x.image x.trace is.clean is_frame is.fits (suc j))) less_next

      pair : IsAtPair x.design x.cards x.image samples x.c i s
      pair =
          let inside = flight_is.number in
          let few = few_fetched j in
          let high = firing.high in
          at_pair x.design x.cards x.image samples x.c i s (omega arith) (omega arith)

      abbrev front : List Entry
      front = log_of x.design x.cards x.image samples i ++ (part i s).log

      abbrev block : List Entry
      block = entries_of (suc s) i (effect i s)

      abbrev IsIn : Entry → Type 0
      IsIn e = Written e × (e.stage < x.design.stages)

      all_in : Each IsIn (front ++ (block ++ pair.rest))
      all_in =
          subst (Each IsIn) pair.whole
          (each_as (λ e. Written e × IsBelow x.design x.cards x.image samples x.c e) IsIn (λ e h. (h.0, (let high = h.1.2 in let low = h.1.1 in omega arith))) all
          (each_both Written (IsBelow x.design x.cards x.image samples x.c) all (log_written x.design x.cards x.image samples is.clean is.runs x.c) (log_below x.design x.cards x.image samples x.c)))

      -- what it reads is the same
      module _ (place : Storage) (reads : IsAccessed x.design (word i) (suc s) false place) where
        abbrev goes : Entry → Bool
        goes e = goes_to place e.write.port e.write.at

        front_same : (e : Entry) → IsIn e → IsBefore x.design x.cards x.image samples i (suc s) e → (goes e && is_passed j e) ≡ goes e
        front_same e within before = by_goes (cases_Bool (goes e))
          where
            by_order : goes e ≡ true → (e.number < i) ⊎ ((e.number ≡ i) × (e.stage < suc s)) → is_passed j e ≡ true
            by_order goes_there (inl older) =
                lt-ltb e.stage ((track j).stage e.number)
                (by_stage (cases_lt e.stage ((track j).stage e.number)))
              where
                by_stage : (e.stage < (track j).stage e.number) ⊎ ((track j).stage e.number ≤ e.stage) → e.stage < (track j).stage e.number
                by_stage (inl h) = h
                by_stage (inr h) = absurd (unpassed_older j meets i s place e flight_is.number flight_is.stage firing.high on reads within.0 older within.1 h goes_there)
            by_order goes_there (inr same) =
                let stage : (track j).stage e.number ≡ suc s = ap (track j).stage same.0 ∙ flight_is.stage in
                lt-ltb e.stage ((track j).stage e.number) (let low = same.1 in omega arith)

            by_goes : (goes e ≡ true) ⊎ (goes e ≡ false) → (goes e && is_passed j e) ≡ goes e
            by_goes (inl goes_there) = (λ k. goes e && by_order goes_there before.1 k) ∙ both_true (goes e)
              where
                both_true : (b : Bool) → (b && true) ≡ b
                both_true true = refl
                both_true false = refl
            by_goes (inr elsewhere) = and_left (goes e) (is_passed j e) elsewhere ∙ sym elsewhere

        block_out : (e : Entry) → IsOf x.design x.cards x.image samples i (suc s) e → (goes e && is_passed j e) ≡ false
        block_out e same =
            let stage : (track j).stage e.number ≡ suc s = ap (track j).stage same.0 ∙ flight_is.stage in
            and_right (goes e) (is_passed j e) (le-ltb e.stage ((track j).stage e.number) (let here = same.1 in omega arith))

        rest_out : (e : Entry) → IsIn e → IsBehind x.design x.cards x.image samples i (suc s) e → (goes e && is_passed j e) ≡ false
        rest_out e within (inr same) =
            let stage : (track j).stage e.number ≡ suc s = ap (track j).stage same.0 ∙ flight_is.stage in
            and_right (goes e) (is_passed j e) (le-ltb e.stage ((track j).stage e.number) (let later = same.1 in omega arith))
        rest_out e within (inl younger) = by_goes (cases_Bool (goes e))
          where
            by_stage : goes e ≡ true → (e.stage < (track j).stage e.number) ⊎ ((track j).stage e.number ≤ e.stage) → is_passed j e ≡ false
            by_stage goes_there (inl h) = absurd (passed_younger j meets i s place false e flight_is.number flight_is.stage firing.high on reads within.0 younger h goes_there)
            by_stage goes_there (inr h) = le-ltb e.stage ((track j).stage e.number) h

            by_goes : (goes e ≡ true) ⊎ (goes e ≡ false) → (goes e && is_passed j e) ≡ false
            by_goes (inl goes_there) = and_right (goes e) (is_passed j e) (by_stage goes_there (cases_lt e.stage ((track j).stage e.number)))
            by_goes (inr elsewhere) = and_left (goes e) (is_passed j e) elsewhere

        -- the pipeline's log has the entries that stand before this pair
        seen : entries_to place (state j).log ≡ entries_to place front
        seen =
            let rest_in = each_right IsIn front (block ++ pair.rest) all_in in
            meets.logs place
            ∙ filter_twice goes (is_passed j) all
            ∙ ap (filter (λ e. goes e && is_passed j e)) pair.whole
            ∙ filter_parts (λ e. goes e && is_passed j e) goes (λ e. false) front block pair.rest
            (each_as (λ e. IsIn e × IsBefore x.design x.cards x.image samples i (suc s) e) (λ e. (goes e && is_passed j e) ≡ goes e) (λ e h. front_same e h.0 h.1) front
            (each_both IsIn (IsBefore x.design x.cards x.image samples i (suc s)) front (each_left IsIn front (block ++ pair.rest) all_in) (before_pair x.design x.cards x.image samples i s)))
            (each_as (IsOf x.design x.cards x.image samples i (suc s)) (λ e. (goes e && is_passed j e) ≡ false) block_out block (entries_are x.design x.cards x.image samples i (suc s) (effect i s)))
            (each_as (λ e. IsIn e × IsBehind x.design x.cards x.image samples i (suc s) e) (λ e. (goes e && is_passed j e) ≡ false) (λ e h. rest_out e h.0 h.1) pair.rest
            (each_both IsIn (IsBehind x.design x.cards x.image samples i (suc s)) pair.rest (each_right IsIn block pair.rest rest_in) pair.behind))
            ∙ ap (λ es. filter goes front ++ es) (filter_none (λ e. false) block (each_as (IsOf x.design x.cards x.image samples i (suc s)) (λ e. false ≡ false) (λ e h. refl) block (entries_are x.design x.cards x.image samples i (suc s) (effect i s))))
            ∙ append-nil (filter goes front)

        read_same : held_in (state j).storages place ≡ held_in (part i s).storages place
        read_same =
            ap (λ st. held_in st place) (over_storages x.design x.cards x.image x.trace j)
            ∙ same_held place (start_storages x.design x.image) (state j).log front seen
            ∙ ap (λ st. held_in st place) (sym (part_storages x.design x.cards x.image samples i s))

      word_same : f.word ≡ word i
      word_same = flight_is.word ∙ ap (slice_index x.image.code) (flight_is.place ∙ meets.places i (let inside = flight_is.number in omega arith) on)

      sampled_same : (line port : ℕ) → WordSamples x.design (word i) (suc s) line port → port_input (inputs j) line port ≡ sample_input samples i line port
      sampled_same line port sample =
          let less_next = goes_on in
          let is_later = ap (λ (t : State). t.next) (sym (state_next x.design x.cards x.image x.trace j)) ∙ sym (next_at x.design x.cards x.image x.trace is.clean is_frame is.fits (suc j)) in
          let fresh = fresh_sample x.design x.cards x.image (inputs j) (state j) (control j) (track j) is.clean (run j).tracked (run j).track (decides x.design x.cards x.image x.trace is.clean is_frame is.fits j) (run j).sampled
          (suc s) f firing line port (subst (λ w. WordSamples x.design w (suc s) line port) (sym word_same) sample) (subst (λ n. i < n) (sym is_later) less_next) in
          let kept : found i line samples ≡ Some fresh.0 = agrees line fresh.0 (ap (λ (t : State). found i line t.sampled) (state_next x.design x.cards x.image x.trace j) ∙ fresh.1) in
          sym fresh.2 ∙ ap (λ o. option_map_or (λ (r : Sample). r.value) o 0) (sym kept)

      pub fires_as_partner : flight_effect x.design x.cards (inputs j) (state j) (suc s) f ≡ effect i s
      fires_as_partner =
          (λ k. fire x.design x.cards (suc s) ((flight_is.place ∙ meets.places i (let inside = flight_is.number in omega arith) on) k) (word_same k) (meets.locals s f firing.high firing.is on (agrees_before j i goes_on agrees) k) (state j).storages (port_input (inputs j)))
          ∙ fires_same x.design x.cards is.runs (suc s) (pc i) (word i) (part i s).locals (state j).storages (part i s).storages (port_input (inputs j)) (sample_input samples i)
          (has_locals x.design x.cards x.image samples is.clean is.runs i s) read_same sampled_same
          ∙ sym (effect_is x.design x.cards x.image samples i s)
