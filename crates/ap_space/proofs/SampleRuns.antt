-- The samples after a cycle: an unkilled number keeps those that it has, and a line that fires adds what its input is.
use Rattle.std.proofs.Common.{◌≡◌, ℕ, zero, suc, ◌+◌, ◌-◌, ◌≤◌, ◌<◌, ◌==◌, ◌||◌, ◌&&◌, Bool, true, false, cond, if◌then◌else◌, nat_lt, List, [], ◌∷◌, ◌++◌, length, filter, slice_get, slice_index, slice_index_or, Contains, Option, Some, None, is_some, ◌⊎◌, inl, inr, refl, sym, ap, ◌∙◌, subst, arith}
use Rattle.std.proofs.lemmas.Bool.{and_parts, cases_order, cond-true, cond-false, eq-eqb, eqb-true, lt-ltb, ltb-true, or_left, or_right, or_from}
use Rattle.std.specs.List.{AllByRecursion as Each, list_any}
use Rattle.std.specs.Option.{option_map_or}
use Rattle.ap_bits.specs.declared.card.Card.{Card}
use Rattle.ap_desc.proofs.LineOrder.{own_in_order}
use Rattle.ap_desc.specs.Clean.{IsClean}
use Rattle.ap_desc.specs.Sound.{IsSound}
use Rattle.ap_desc.specs.declared.design.Design.{Design}
use Rattle.ap_desc.specs.declared.design.Instr.{Instr}
use Rattle.ap_desc.specs.declared.design.Micro.{Micro}
use Rattle.ap_dist.proofs.Matched.{instr_place}
use Rattle.ap_image.specs.declared.image.Image.{Image}
use Rattle.ap_image.specs.declared.trace.TraceLine.{TraceLine}
use Rattle.ap_model.specs.declared.state.Flight.{Flight}
use Rattle.ap_model.specs.declared.state.InputRead.{InputRead}
use Rattle.ap_model.specs.declared.state.Sample.{Sample}
use Rattle.ap_model.specs.declared.state.State.{State}
use Rattle.ap_model.specs.Cycles.{CycleControl, after_control, cycle_samples, flight_at, flight_effect, flight_samples, is_killed, kept, port_input, sample_of, samples_of}
use Rattle.ap_model.specs.Fire.{input_of, instr_of}
use Rattle.ap_space.proofs.Flights.{each_told, told_at}
use Rattle.ap_space.proofs.Lists.{each_append, each_as, each_map}
use Rattle.ap_space.proofs.Locals.{IsSampled}
use Rattle.ap_space.proofs.Passed.{any_append}
use Rattle.ap_space.proofs.SameFire.{WordSamples}
use Rattle.ap_space.proofs.Sampled.{IsFoundWith, IsReadBy, any_mapped, find_first, find_kept, find_later, find_with, found, is_sample, read_listed, reads_are}
use Rattle.ap_space.proofs.Deep.{stage_grows}
use Rattle.ap_space.proofs.Tracks.{IsTrack, IsTurn, Track}
use Rattle.ap_space.proofs.Turns.{IsControl, IsTracked, frame_of, is_turn, next_quiet, next_track}

-- One line of an instruction has a number.

at_split : {X : Type 0} (earlier : List X) (m : X) (rest : List X) → slice_get (earlier ++ m ∷ rest) (length earlier) ≡ Some m
at_split [] m rest = refl
at_split (x ∷ earlier) m rest = at_split earlier m rest

contains_at : {X : Type 0} (xs : List X) (i : ℕ) (x : X) → slice_get xs i ≡ Some x → Contains xs x
contains_at [] i x at = absurd cc
contains_at (y ∷ ys) zero x at = (0, omega arith, cc)
contains_at (y ∷ ys) (suc i) x at = let rest = contains_at ys i x at in (suc rest.0, (let less = rest.1 in omega arith), rest.2)

same_place : {X : Type 0} (xs : List X) (i j : ℕ) (x y : X) → slice_get xs i ≡ Some x → slice_get xs j ≡ Some y → i ≡ j → x ≡ y
same_place xs i j x y one two e = let both : Some x ≡ Some y = sym one ∙ ap (slice_get xs) e ∙ two in cc

one_line : (design : Design) → IsSound design → (word : ℕ) (instr : Instr) → instr_of design word ≡ Some instr → (q r line port other : ℕ) → IsSampled instr q line port → IsSampled instr r line other → (q ≡ r) × (port ≡ other)
one_line design sound word instr at q r line port other one two = by_order (cases_order (length one.earlier) (length two.earlier))
  where
    there : Contains design.instrs instr
    there = let p = instr_place design word instr at in contains_at design.instrs p.place instr p.is_there

    first : slice_get instr.micros (length one.earlier) ≡ Some one.micro
    first = ap (λ ms. slice_get ms (length one.earlier)) one.whole ∙ at_split one.earlier one.micro one.rest

    second : slice_get instr.micros (length two.earlier) ≡ Some two.micro
    second = ap (λ ms. slice_get ms (length two.earlier)) two.whole ∙ at_split two.earlier two.micro two.rest

    by_order : (length one.earlier ≡ length two.earlier) ⊎ ((length one.earlier < length two.earlier) ⊎ (length two.earlier < length one.earlier)) → (q ≡ r) × (port ≡ other)
    by_order (inl e) =
        let same : one.micro ≡ two.micro = same_place instr.micros (length one.earlier) (length two.earlier) one.micro two.micro first second e in
        let ports : Some port ≡ Some other = sym one.reads_it ∙ ap (λ (m : Micro). input_of m.act) same ∙ two.reads_it in
        (sym one.in_stage ∙ ap (λ (m : Micro). m.stage) same ∙ two.in_stage, cc)
    by_order (inr (inl h)) =
        let less = (own_in_order design instr (length one.earlier) (length two.earlier) one.micro two.micro sound there first second).1 h in
        let a = one.at_line in
        let b = two.at_line in
        absurd (omega arith)
    by_order (inr (inr h)) =
        let less = (own_in_order design instr (length two.earlier) (length one.earlier) two.micro one.micro sound there second first).1 h in
        let a = one.at_line in
        let b = two.at_line in
        absurd (omega arith)

-- the same of a word
pub one_sample : (design : Design) → IsSound design → (word q r line port other : ℕ) → WordSamples design word q line port → WordSamples design word r line other → (q ≡ r) × (port ≡ other)
one_sample design sound word q r line port other one two =
    let both : Some two.0 ≡ Some one.0 = sym two.1 ∙ one.1 in
    let same : two.0 ≡ one.0 = cc in
    one_line design sound word one.0 one.1 q r line port other one.2 (subst (λ i. IsSampled i r line other) same two.2)

-- a sample that was taken: its line stands in a stage that its number has passed
pub record IsOldSample (design : Design) (image : Image) (track : Track) (s : Sample) : Type 0 where
  pub number : s.number < track.next
  pub stage : ℕ
  pub port : ℕ
  pub before : stage < track.stage s.number
  pub samples : WordSamples design (slice_index image.code (track.place s.number)) stage s.line port

-- a flight that fires in this cycle
pub record IsFiring (design : Design) (state : State) (control : CycleControl) (q : ℕ) (f : Flight) : Type 0 where
  pub low : 1 ≤ q
  pub high : q < design.stages
  pub is : flight_at state q ≡ Some f
  pub free : control.held q ≡ false
  pub left : is_killed design control q ≡ false

-- a sample of this cycle
record IsNewSample (design : Design) (inputs : TraceLine) (state : State) (control : CycleControl) (s : Sample) : Type 0 where
  stage : ℕ
  flight : Flight
  firing : IsFiring design state control stage flight
  number : s.number ≡ flight.number
  read : IsReadBy design flight.word stage (port_input inputs) (record { line = s.line; value = s.value })

module _ (design : Design) (cards : List Card) (image : Image) (inputs : TraceLine) (state : State) (control : CycleControl) (track : Track) (clean : IsClean design)
    (tracked : IsTracked design image state track) (is_track : IsTrack (frame_of design image) track) (decides : IsControl design cards image inputs state control)
    (sampled : Each (IsOldSample design image track) state.sampled) where
  abbrev later : State
  later = after_control design cards image inputs state control

  abbrev new : Track
  new = next_track design track control later

  turn : IsTurn (frame_of design image) control.held track new
  turn = is_turn design cards image inputs state control track clean tracked is_track decides

  abbrev fresh : List Sample
  fresh = cycle_samples design cards inputs state control

  samples_are : later.sampled ≡ kept (λ (s : Sample). s.number) control later.next (state.sampled ++ fresh)
  unfolding after_control
  samples_are = refl

  all_new : Each (IsNewSample design inputs state control) fresh
  unfolding cycle_samples
  all_new = each_told (IsNewSample design inputs state control) (flight_samples design cards inputs state control) 1 state.flights (λ i f less at. by_stopped i f less at (control.held (1 + i)) (is_killed design control (1 + i)) refl refl)
    where
      by_stopped : (i : ℕ) (f : Flight) → i < length state.flights → slice_index_or state.flights i None ≡ Some f → (h k : Bool) → control.held (1 + i) ≡ h → is_killed design control (1 + i) ≡ k
          → Each (IsNewSample design inputs state control) (option_map_or (samples_of f.number) (if h || k then None else Some (flight_effect design cards inputs state (1 + i) f)) [])
      by_stopped i f less at true k e g = tt
      by_stopped i f less at false true e g = tt
      by_stopped i f less at false false e g =
          let count = tracked.count in
          let index : 1 + i - 1 ≡ i = omega arith in
          let firing : IsFiring design state control (1 + i) f = record { low = omega arith; high = omega (arith, count); is = ap (λ n. slice_index_or state.flights n None) index ∙ at; free = e; left = g } in
          each_map (IsNewSample design inputs state control) (sample_of f.number) (flight_effect design cards inputs state (1 + i) f).reads
          (each_as (IsReadBy design f.word (1 + i) (port_input inputs)) (λ r. IsNewSample design inputs state control (sample_of f.number r)) (λ r is. record { stage = 1 + i; flight = f; firing = firing; number = refl; read = record { port = is.port; samples = is.samples; value = is.value } })
          (flight_effect design cards inputs state (1 + i) f).reads (reads_are design cards (1 + i) f.place f.word f.locals state.storages (port_input inputs)))

  -- which samples are kept

  found_later : (i line : ℕ) → i < later.next → found i line later.sampled ≡ found i line (state.sampled ++ fresh)
  found_later i line less = ap (found i line) samples_are ∙ by_taken (is_some control.taken)
    where
      by_taken : (b : Bool) → found i line (if b then filter (λ (s : Sample). nat_lt s.number later.next) (state.sampled ++ fresh) else state.sampled ++ fresh) ≡ found i line (state.sampled ++ fresh)
      by_taken true =
          find_kept (is_sample i line) (λ (s : Sample). nat_lt s.number later.next)
          (λ s h. let same = eqb-true s.number i (and_parts (s.number == i) (s.line == line) h).0 in lt-ltb s.number later.next (omega arith)) (state.sampled ++ fresh)
      by_taken false = refl

  pub found_stays : (i line : ℕ) (s : Sample) → i < later.next → found i line state.sampled ≡ Some s → found i line later.sampled ≡ Some s
  found_stays i line s less e = found_later i line less ∙ find_first (is_sample i line) state.sampled fresh s e

  -- a line that fires adds its sample
  module _ (q : ℕ) (f : Flight) (firing : IsFiring design state control q f) (line port : ℕ) (samples : WordSamples design f.word q line port) where
    word_is : f.word ≡ slice_index image.code (track.place f.number)
    word_is = let is = tracked.flights q f firing.low firing.high firing.is in is.word ∙ ap (slice_index image.code) is.place

    stage_is : track.stage f.number ≡ q
    stage_is = (tracked.flights q f firing.low firing.high firing.is).stage

    none_before : Each (λ s. is_sample f.number line s ≡ true → ⊥) state.sampled
    none_before =
        each_as (IsOldSample design image track) (λ s. is_sample f.number line s ≡ true → ⊥)
        (λ s old h.
        let parts = and_parts (s.number == f.number) (s.line == line) h in
        let number : s.number ≡ f.number = eqb-true s.number f.number parts.0 in
        let at : s.line ≡ line = eqb-true s.line line parts.1 in
        let word : slice_index image.code (track.place s.number) ≡ f.word = ap (λ n. slice_index image.code (track.place n)) number ∙ sym word_is in
        let again : WordSamples design f.word old.stage line old.port = subst (λ l. WordSamples design f.word old.stage l old.port) at (subst (λ w. WordSamples design w old.stage s.line old.port) word old.samples) in
        let same = (one_sample design clean.sound f.word q old.stage line port old.port samples again).0 in
        let before = old.before in
        let stage : track.stage s.number ≡ q = ap track.stage number ∙ stage_is in
        omega arith)
        state.sampled sampled

    listed : list_any (is_sample f.number line) fresh ≡ true
    unfolding cycle_samples
    listed =
        let low = firing.low in
        let index : 1 + (q - 1) ≡ q = omega arith in
        let told = told_at (flight_samples design cards inputs state control) 1 state.flights (q - 1) f firing.is in
        let effect = flight_effect design cards inputs state q f in
        let one : flight_samples design cards inputs state control (1 + (q - 1)) f ≡ samples_of f.number effect =
        ap (λ k. flight_samples design cards inputs state control k f) index
        ∙ ap (λ o. option_map_or (samples_of f.number) o []) (cond-false (control.held q || is_killed design control q) None (Some effect) (or_from (control.held q) (is_killed design control q) firing.free firing.left)) in
        let test : (r : InputRead) → is_sample f.number line (sample_of f.number r) ≡ (r.line == line) = λ r. ap (λ b. b && (r.line == line)) (eq-eqb f.number f.number refl) in
        let here : list_any (is_sample f.number line) (samples_of f.number effect) ≡ true =
        any_mapped (is_sample f.number line) (sample_of f.number) effect.reads ∙ (λ i. list_any (λ r. test r i) effect.reads) ∙ read_listed design cards q f.place f.word f.locals state.storages (port_input inputs) line port samples in
        ap (list_any (is_sample f.number line)) told.2
        ∙ any_append (is_sample f.number line) told.0 (flight_samples design cards inputs state control (1 + (q - 1)) f ++ told.1)
        ∙ or_right (list_any (is_sample f.number line) told.0) (list_any (is_sample f.number line) (flight_samples design cards inputs state control (1 + (q - 1)) f ++ told.1))
        (ap (λ ss. list_any (is_sample f.number line) (ss ++ told.1)) one ∙ any_append (is_sample f.number line) (samples_of f.number effect) told.1 ∙ or_left (list_any (is_sample f.number line) (samples_of f.number effect)) (list_any (is_sample f.number line) told.1) here)

    abbrev Found : Type 0
    Found = IsFoundWith (is_sample f.number line) (IsNewSample design inputs state control) fresh

    value_is : (x : Found) → x.item.value ≡ port_input inputs line port
    value_is x =
        let s = x.item in
        let new_one = x.with_it in
        let parts = and_parts (s.number == f.number) (s.line == line) x.passes in
        let number : new_one.flight.number ≡ f.number = sym new_one.number ∙ eqb-true s.number f.number parts.0 in
        let at : s.line ≡ line = eqb-true s.line line parts.1 in
        let there = (tracked.flights new_one.stage new_one.flight new_one.firing.low new_one.firing.high new_one.firing.is).stage in
        let stage : new_one.stage ≡ q = sym there ∙ ap track.stage number ∙ stage_is in
        let flights : Some new_one.flight ≡ Some f = sym new_one.firing.is ∙ ap (flight_at state) stage ∙ firing.is in
        let flight : new_one.flight ≡ f = cc in
        let word : new_one.flight.word ≡ f.word = ap (λ (g : Flight). g.word) flight in
        let again : WordSamples design f.word new_one.stage line new_one.read.port = subst (λ l. WordSamples design f.word new_one.stage l new_one.read.port) at (subst (λ w. WordSamples design w new_one.stage s.line new_one.read.port) word new_one.read.samples) in
        let ports = (one_sample design clean.sound f.word q new_one.stage line port new_one.read.port samples again).1 in
        new_one.read.value ∙ (λ i. port_input inputs (at i) (sym ports i))

    pub fresh_sample : f.number < later.next → (s : Sample) × (found f.number line later.sampled ≡ Some s) × (s.value ≡ port_input inputs line port)
    fresh_sample less =
        let x : Found = find_with (is_sample f.number line) (IsNewSample design inputs state control) fresh all_new listed in
        (x.item, found_later f.number line less ∙ find_later (is_sample f.number line) state.sampled fresh none_before ∙ x.is, value_is x)

  -- The samples stay those of passed stages.

  old_sample : (s : Sample) → IsOldSample design image track s → s.number < later.next → IsOldSample design image new s
  old_sample s old less =
      let up = stage_grows (frame_of design image) control.held track new turn s.number less in
      let before = old.before in
      record {
        number = less;
        stage = old.stage;
        port = old.port;
        before = omega arith;
        samples = subst (λ p. WordSamples design (slice_index image.code p) old.stage s.line old.port) (sym (turn.places s.number less)) old.samples;
      }

  new_sample : (s : Sample) → IsNewSample design inputs state control s → s.number < later.next → IsOldSample design image new s
  new_sample s is less =
      let there = tracked.flights is.stage is.flight is.firing.low is.firing.high is.firing.is in
      let stage : track.stage s.number ≡ is.stage = ap track.stage is.number ∙ there.stage in
      let high = is.firing.high in
      let up : new.stage s.number ≡ suc (track.stage s.number) = turn.moves s.number less (omega arith) (ap control.held stage ∙ is.firing.free) in
      let word : is.flight.word ≡ slice_index image.code (new.place s.number) = there.word ∙ ap (slice_index image.code) (there.place ∙ ap track.place (sym is.number) ∙ sym (turn.places s.number less)) in
      record { number = less; stage = is.stage; port = is.read.port; before = omega arith; samples = subst (λ w. WordSamples design w is.stage s.line is.read.port) word is.read.samples }

  abbrev Goes : Sample → Type 0
  Goes s = s.number < later.next → IsOldSample design image new s

  all_go : Each Goes (state.sampled ++ fresh)
  all_go = each_append Goes state.sampled fresh (each_as (IsOldSample design image track) Goes old_sample state.sampled sampled) (each_as (IsNewSample design inputs state control) Goes new_sample fresh all_new)

  -- where no transfer is taken, no number is killed
  none_killed : control.taken ≡ None → track.next ≤ later.next
  none_killed none = by_held (control.held 0) refl
    where
      by_held : (b : Bool) → control.held 0 ≡ b → track.next ≤ later.next
      by_held true held = let end = next_quiet design cards image inputs state control track clean tracked is_track decides none ∙ cond-true (control.held 0) state.next (state.next + 1) held in let same = tracked.next in omega arith
      by_held false held = let end = next_quiet design cards image inputs state control track clean tracked is_track decides none ∙ cond-false (control.held 0) state.next (state.next + 1) held in let same = tracked.next in omega arith

  all_below : control.taken ≡ None → Each (λ (s : Sample). s.number < later.next) (state.sampled ++ fresh)
  all_below none =
      each_append (λ (s : Sample). s.number < later.next) state.sampled fresh
      (each_as (IsOldSample design image track) (λ s. s.number < later.next) (λ s old. let a = old.number in let b = none_killed none in omega arith) state.sampled sampled)
      (each_as (IsNewSample design inputs state control) (λ s. s.number < later.next)
      (λ s is.
      let there = tracked.flights is.stage is.flight is.firing.low is.firing.high is.firing.is in
      let inside = there.number in
      let number = is.number in
      let more = none_killed none in
      omega arith) fresh all_new)

  filter_goes : (xs : List Sample) → Each Goes xs → Each (IsOldSample design image new) (filter (λ (s : Sample). nat_lt s.number later.next) xs)
  filter_goes [] each = tt
  filter_goes (s ∷ xs) each = by_test (nat_lt s.number later.next) refl (filter_goes xs each.1)
    where
      by_test : (b : Bool) → nat_lt s.number later.next ≡ b → Each (IsOldSample design image new) (filter (λ (s : Sample). nat_lt s.number later.next) xs)
          → Each (IsOldSample design image new) (cond b (s ∷ filter (λ (s : Sample). nat_lt s.number later.next) xs) (filter (λ (s : Sample). nat_lt s.number later.next) xs))
      by_test true e rest = (each.0 (ltb-true s.number later.next e), rest)
      by_test false e rest = rest

  each_goes : (xs : List Sample) → Each Goes xs → Each (λ (s : Sample). s.number < later.next) xs → Each (IsOldSample design image new) xs
  each_goes [] each low = tt
  each_goes (s ∷ xs) each low = (each.0 low.0, each_goes xs each.1 low.1)

  pub turn_sampled : Each (IsOldSample design image new) later.sampled
  turn_sampled = subst (Each (IsOldSample design image new)) (sym samples_are) (by_taken control.taken refl)
    where
      by_taken : (o : Option ℕ) → control.taken ≡ o → Each (IsOldSample design image new) (if is_some o then filter (λ (s : Sample). nat_lt s.number later.next) (state.sampled ++ fresh) else state.sampled ++ fresh)
      by_taken None e = each_goes (state.sampled ++ fresh) all_go (all_below e)
      by_taken (Some to) e = filter_goes (state.sampled ++ fresh) all_go
