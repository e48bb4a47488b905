-- What becomes of the flights of a state in a cycle, stage by stage; and lists that are told of flights.
use Rattle.std.proofs.Common.{◌≡◌, ℕ, zero, suc, ◌+◌, ◌-◌, ◌≤◌, ◌<◌, true, false, List, [], ◌∷◌, ◌++◌, length, replicate, slice_index_or, Option, Some, None, option_map, refl, sym, ap, ◌∙◌, subst, arith, append_assoc, append-nil}
use Rattle.std.proofs.lemmas.Bool.{cond-true, cond-false}
use Rattle.std.specs.List.{AllByRecursion as Each}
use Rattle.std.specs.Option.{option_map_or}
use Rattle.ap_bits.specs.declared.card.Card.{Card}
use Rattle.ap_desc.specs.declared.design.Design.{Design}
use Rattle.ap_image.specs.declared.image.Image.{Image}
use Rattle.ap_image.specs.declared.trace.TraceLine.{TraceLine}
use Rattle.ap_model.specs.declared.state.Flight.{Flight}
use Rattle.ap_model.specs.declared.state.State.{State}
use Rattle.ap_model.specs.Cycles.{CycleControl, after_control, cycle_flights, entering, flight_at, flights_from, from_last, leaving, staying}
use Rattle.ap_model.specs.States.{start}
use Rattle.ap_space.proofs.Lists.{each_append}

module _ (design : Design) (cards : List Card) (inputs : TraceLine) (state : State) (control : CycleControl) where
  abbrev from : ℕ → Option Flight → List (Option Flight) → List (Option Flight)
  from stage coming flights = flights_from design cards inputs state control stage coming flights

  from_length : (stage : ℕ) (coming : Option Flight) (flights : List (Option Flight)) → length (from stage coming flights) ≡ length flights
  from_length stage coming [] = refl
  from_length stage coming (flight ∷ flights) = ap suc (from_length (stage + 1) (leaving design cards inputs state control stage flight) flights)

  from_held : (stage : ℕ) (coming : Option Flight) (flights : List (Option Flight)) (i : ℕ) → i < length flights → control.held (stage + i) ≡ true
      → slice_index_or (from stage coming flights) i None ≡ option_map staying (slice_index_or flights i None)
  from_held stage coming [] i less held = absurd (omega arith)
  from_held stage coming (flight ∷ flights) zero less held =
      let here : stage ≡ stage + 0 = omega arith in
      cond-true (control.held stage) (option_map staying flight) coming (ap control.held here ∙ held)
  from_held stage coming (flight ∷ flights) (suc i) less held =
      let here : stage + 1 + i ≡ stage + suc i = omega arith in
      from_held (stage + 1) (leaving design cards inputs state control stage flight) flights i (omega arith) (ap control.held here ∙ held)

  from_first : (stage : ℕ) (coming : Option Flight) (flights : List (Option Flight)) → 0 < length flights → control.held stage ≡ false → slice_index_or (from stage coming flights) 0 None ≡ coming
  from_first stage coming [] less free = absurd (omega arith)
  from_first stage coming (flight ∷ flights) less free = cond-false (control.held stage) (option_map staying flight) coming free

  from_later : (stage : ℕ) (coming : Option Flight) (flights : List (Option Flight)) (i : ℕ) → suc i < length flights → control.held (stage + suc i) ≡ false
      → slice_index_or (from stage coming flights) (suc i) None ≡ leaving design cards inputs state control (stage + i) (slice_index_or flights i None)
  from_later stage coming [] i less free = absurd (omega arith)
  from_later stage coming (flight ∷ flights) zero less free =
      let here : stage + 1 ≡ stage + suc 0 = omega arith in
      let same : stage ≡ stage + 0 = omega arith in
      from_first (stage + 1) (leaving design cards inputs state control stage flight) flights (omega arith) (ap control.held here ∙ free) ∙ ap (λ s. leaving design cards inputs state control s flight) same
  from_later stage coming (flight ∷ flights) (suc i) less free =
      let here : stage + 1 + suc i ≡ stage + suc (suc i) = omega arith in
      let same : stage + 1 + i ≡ stage + suc i = omega arith in
      from_later (stage + 1) (leaving design cards inputs state control stage flight) flights i (omega arith) (ap control.held here ∙ free)
      ∙ ap (λ s. leaving design cards inputs state control s (slice_index_or flights i None)) same

  module _ (image : Image) (count : length state.flights ≡ design.stages - 1) where
    abbrev after : State
    after = after_control design cards image inputs state control

    flights_after : after.flights ≡ from 1 (entering design image state control) state.flights
    unfolding after_control cycle_flights
    flights_after = refl

    pub count_after : length after.flights ≡ design.stages - 1
    count_after = ap length flights_after ∙ from_length 1 (entering design image state control) state.flights ∙ count

    -- the flight of a stage that is held stays
    pub stays_at : (q : ℕ) → 1 ≤ q → q < design.stages → control.held q ≡ true → flight_at after q ≡ option_map staying (flight_at state q)
    stays_at q low high held =
        let here : 1 + (q - 1) ≡ q = omega arith in
        ap (λ fs. slice_index_or fs (q - 1) None) flights_after
        ∙ from_held 1 (entering design image state control) state.flights (q - 1) (omega (arith, count)) (ap control.held here ∙ held)

    -- a stage that isn't held gets what leaves the stage before
    pub comes_at : (q : ℕ) → 1 ≤ q → suc q < design.stages → control.held (suc q) ≡ false → flight_at after (suc q) ≡ leaving design cards inputs state control q (flight_at state q)
    comes_at q low high free =
        let one : suc q - 1 ≡ suc (q - 1) = omega arith in
        let there : 1 + suc (q - 1) ≡ suc q = omega arith in
        let here : 1 + (q - 1) ≡ q = omega arith in
        ap (λ i. slice_index_or after.flights i None) one
        ∙ ap (λ fs. slice_index_or fs (suc (q - 1)) None) flights_after
        ∙ from_later 1 (entering design image state control) state.flights (q - 1) (omega (arith, count)) (ap control.held there ∙ free)
        ∙ ap (λ s. leaving design cards inputs state control s (flight_at state q)) here

    pub enters_at : 1 < design.stages → control.held 1 ≡ false → flight_at after 1 ≡ entering design image state control
    enters_at high free =
        let none : 1 - 1 ≡ 0 = omega arith in
        ap (λ i. slice_index_or after.flights i None) none
        ∙ ap (λ fs. slice_index_or fs 0 None) flights_after
        ∙ from_first 1 (entering design image state control) state.flights (omega (arith, count)) free

-- at the start all stages are empty
none_at : (n i : ℕ) → slice_index_or {A = Option Flight} (replicate n None) i None ≡ None
none_at zero i = refl
none_at (suc n) zero = refl
none_at (suc n) (suc i) = none_at n i

none_long : (n : ℕ) → length {A = Option Flight} (replicate n None) ≡ n
none_long zero = refl
none_long (suc n) = ap suc (none_long n)

pub empty_at_start : (design : Design) (image : Image) (q : ℕ) → flight_at (start design image) q ≡ None
unfolding start
empty_at_start design image q = none_at (design.stages - 1) (q - 1)

pub count_at_start : (design : Design) (image : Image) → length (start design image).flights ≡ design.stages - 1
unfolding start
count_at_start design image = none_long (design.stages - 1)

-- What is told of flights.

pub each_told : {X : Type 0} (P : X → Type 0) (told : ℕ → Flight → List X) (stage : ℕ) (flights : List (Option Flight))
    → ((i : ℕ) (f : Flight) → i < length flights → slice_index_or flights i None ≡ Some f → Each P (told (stage + i) f)) → Each P (from_last told stage flights)
each_told P told stage [] each = tt
each_told P told stage (flight ∷ flights) each =
    each_append P (from_last told (stage + 1) flights) (option_map_or (told stage) flight [])
    (each_told P told (stage + 1) flights (λ i f less at. let same : stage + suc i ≡ stage + 1 + i = omega arith in subst (λ s. Each P (told s f)) same (each (suc i) f (omega arith) at)))
    (by_flight flight refl)
  where
    by_flight : (o : Option Flight) → flight ≡ o → Each P (option_map_or (told stage) o [])
    by_flight None e = tt
    by_flight (Some f) e = let same : stage + 0 ≡ stage = omega arith in subst (λ s. Each P (told s f)) same (each 0 f (omega arith) e)

-- what is told of the flight of a stage stands in the list
pub told_at : {X : Type 0} (told : ℕ → Flight → List X) (stage : ℕ) (flights : List (Option Flight)) (i : ℕ) (f : Flight) → slice_index_or flights i None ≡ Some f
    → (before after : List X) × (from_last told stage flights ≡ before ++ (told (stage + i) f ++ after))
told_at told stage [] i f at = absurd cc
told_at told stage (flight ∷ flights) zero f at =
    let same : stage ≡ stage + 0 = omega arith in
    (from_last told (stage + 1) flights, [], ap (λ o. from_last told (stage + 1) flights ++ option_map_or (told stage) o []) at ∙ ap (λ s. from_last told (stage + 1) flights ++ told s f) same ∙ ap (λ ys. from_last told (stage + 1) flights ++ ys) (sym (append-nil (told (stage + 0) f))))
told_at told stage (flight ∷ flights) (suc i) f at =
    let rest = told_at told (stage + 1) flights i f at in
    let same : stage + 1 + i ≡ stage + suc i = omega arith in
    let here = option_map_or (told stage) flight [] in (
      rest.0,
      rest.1 ++ here,
      ap (λ xs. xs ++ here) rest.2 ∙ append_assoc rest.0 (told (stage + 1 + i) f ++ rest.1) here ∙ ap (λ ys. rest.0 ++ ys) (append_assoc (told (stage + 1 + i) f) rest.1 here) ∙ ap (λ s. rest.0 ++ (told s f ++ (rest.1 ++ here))) same,
    )
