-- Units that take several cycles are asked properly, so the circuit goes as the machine does.
use Rattle.std.proofs.Common.{◌≡◌, ◌≢◌, ℕ, zero, suc, ◌+◌, ◌-◌, ◌≤◌, ◌<◌, ◌==◌, ◌&&◌, ◌||◌, nat_lt, Bool, true, false, if◌then◌else◌, IfSome, List, [], ◌∷◌, length, map, slice_index_or, Option, Some, None, option_map, refl, ap, sym, subst, ◌∙◌, arith, eqb-true, ltb-false}
use Rattle.std.proofs.lemmas.Bool.{and_parts, eqb-false}
use Rattle.std.specs.List.{range_with_len}
use Rattle.ap_bits.specs.declared.card.Card.{Card}
use Rattle.ap_desc.specs.Clean.{IsClean}
use Rattle.ap_desc.specs.declared.design.Design.{Design}
use Rattle.ap_image.specs.declared.image.Image.{Image}
use Rattle.ap_image.specs.declared.trace.Trace.{Trace}
use Rattle.ap_image.specs.declared.trace.TraceLine.{TraceLine}
use Rattle.ap_model.specs.declared.state.Flight.{Flight}
use Rattle.ap_model.specs.declared.state.State.{State}
use Rattle.ap_model.specs.Cycles.{after_control, control_of, cycle, inputs_at, over, staying}
use Rattle.ap_model.specs.Stalls.{is_flight_busy, is_held_stage, need}
use Rattle.ap_model.specs.HeldStages.{all_held}
use Rattle.ap_model.proofs.MachineLaws.{held_cycles, holds_from_zero, needs_latency}
use Rattle.ap_cycle.specs.Circuit.{HoldsBusy, IsProper, NextState, ProperBefore}
use Rattle.ap_cycle.specs.KeptStates.{KeepsFrom, KeepsStage, KeepsState, is_asked}
use Rattle.ap_cycle.specs.Signals.{Signals}
use Rattle.ap_model.specs.FlightLocals.{HasLocals, HaveLocals, is_live}
use Rattle.ap_model.specs.UnitUse.{Ask, IsUnitOf, StableAsks, asks, latency_of, unit_ask}
use Rattle.ap_cycle.proofs.Run.{starts_hold}
use Rattle.ap_cycle.proofs.Shown.{Goes, IsCycle, ShowsAsks, ShowsBusy, Works}
use Rattle.ap_cycle.proofs.Steps.{cycle_holds, same_control}

-- The freeze: what holds one stage holds all. It is used for what a busy unit sees, and for nothing else.
frozen : (design : Design) (busy : List Bool) (s t : ℕ) → is_held_stage design busy s ≡ is_held_stage design busy t
unfolding is_held_stage
frozen design busy s t = refl

-- the flight of a stage
abbrev StandsAt : Design → Signals → ℕ → Option Flight → Type 0
StandsAt design signals stage flight = KeepsStage design signals stage flight × IfSome flight (HasLocals design stage)

stands_at : (design : Design) (signals : Signals) (stage : ℕ) (flights : List (Option Flight)) (i : ℕ) → i < length flights → KeepsFrom design signals stage flights → HaveLocals design stage flights → StandsAt design signals (stage + i) (slice_index_or flights i None)
stands_at design signals stage [] i h holds fits = let none : ⊥ = omega (arith, h) in absurd none
stands_at design signals stage (flight ∷ flights) zero h holds fits = subst (λ s. StandsAt design signals s flight) (omega arith) (holds.0, fits.0)
stands_at design signals stage (flight ∷ flights) (suc i) h holds fits =
    subst (λ s. StandsAt design signals s (slice_index_or flights i None)) (omega arith) (stands_at design signals (stage + 1) flights i (omega (arith, h)) holds.1 fits.1)

stands : (design : Design) (signals : Signals) (state : State) (stage : ℕ) → 1 ≤ stage → stage ≤ design.stages - 1 → KeepsState design signals state → HaveLocals design 1 state.flights → StandsAt design signals stage (slice_index_or state.flights (stage - 1) None)
stands design signals state stage low high holds fits =
    let count = holds.count in
    subst (λ s. StandsAt design signals s (slice_index_or state.flights (stage - 1) None)) (omega (arith, low)) (stands_at design signals 1 state.flights (stage - 1) (omega (arith, count, low, high)) holds.flights fits)

-- A unit that has an age was asked in a held cycle.

aged : (b : Bool) (n m : ℕ) → m ≡ (if b then n + 1 else 0) → 0 < m → b ≡ true
aged true n m e h = refl
aged false n m e h = let none : ⊥ = omega (arith, e, h) in absurd none

some_same : (x y : Ask) (o p : Option Ask) → Some x ≡ o → Some y ≡ p → o ≡ p → y ≡ x
some_same x y o p e f g = let both : Some y ≡ Some x = f ∙ sym g ∙ sym e in cc

-- A stage that isn't busy is done with its units.

-- the stage that a list of stages has at a place
busy_at : (busy : ℕ → Bool) (a n k : ℕ) → k < n → slice_index_or (map busy (range_with_len a n)) k false ≡ busy (a + k)
busy_at busy a zero k h = let none : ⊥ = omega (arith, h) in absurd none
busy_at busy a (suc n) zero h = let same : a ≡ a + 0 = omega arith in ap busy same
busy_at busy a (suc n) (suc k) h = let same : a + 1 + k ≡ a + suc k = omega arith in busy_at busy (a + 1) n k (omega (arith, h)) ∙ ap busy same

-- a stage that isn't held isn't busy
not_busy : (design : Design) (signals : Signals) (stage : ℕ) → HoldsBusy design signals → 1 ≤ stage → stage ≤ design.stages - 1 → signals.hold stage ≡ false → signals.busy stage ≡ false
not_busy design signals stage hold low high free = go (signals.busy stage) refl
  where
    go : (b : Bool) → signals.busy stage ≡ b → b ≡ false
    go false e = refl
    go true e =
        let busy = map signals.busy (range_with_len 1 (design.stages - 1)) in
        let same : 1 + (stage - 1) ≡ stage = omega (arith, low) in
        let back : stage - 1 + 1 ≡ stage = omega (arith, low) in
        let there = busy_at signals.busy 1 (design.stages - 1) (stage - 1) (omega (arith, low, high)) ∙ ap signals.busy same ∙ e in
        let held = (holds_from_zero design busy).busy_held (stage - 1) there in
        let never : true ≡ false = sym held ∙ ap (is_held_stage design busy) back ∙ sym (hold stage) ∙ free in
        cc

waited_enough : (wanted waited : ℕ) (other : Bool) → (nat_lt (waited + 1) wanted || other) ≡ false → wanted ≤ waited + 1
waited_enough wanted waited other e = go (nat_lt (waited + 1) wanted) refl e
  where
    go : (b : Bool) → nat_lt (waited + 1) wanted ≡ b → (b || other) ≡ false → wanted ≤ waited + 1
    go true p e = cc
    go false p e = ltb-false (waited + 1) wanted p

done_there : (design : Design) (inputs : TraceLine) (signals : Signals) (stage unit : ℕ) (flight : Option Flight) → StandsAt design signals stage flight → ShowsBusy design inputs signals stage → signals.busy stage ≡ false
    → is_asked design signals stage unit ≡ true → latency_of design unit ≤ signals.age unit + 1
done_there design inputs signals stage unit None there shows idle asked =
    let parts = and_parts (signals.valid stage) (asks design stage (signals.word stage) unit) asked in
    let never : true ≡ false = sym parts.0 ∙ there.0 in absurd cc
done_there design inputs signals stage unit (Some f) there shows idle asked =
    let parts = and_parts (signals.valid stage) (asks design stage (signals.word stage) unit) asked in
    let carries = there.0 in
    let asked_f : asks design stage f.word unit ≡ true = ap (λ w. asks design stage w unit) (sym carries.word) ∙ parts.1 in
    let quiet : is_flight_busy design inputs.wait stage f ≡ false = sym (shows.flight f there.1 carries) ∙ idle in
    let enough = waited_enough (need design stage f.word) f.waited _ quiet in
    let wanted = needs_latency design stage f.word unit asked_f in
    let age = carries.ages unit asked_f in
    omega (arith, enough, wanted, age)

module _ (design : Design) (cards : List Card) (image : Image) (clean : IsClean design) (none_first : (word i : ℕ) → is_live design word 1 i ≡ false) (stable : StableAsks design cards) where
  asked_again : (inputs later : TraceLine) (signals next : Signals) (state : State) → IsCycle design cards image inputs signals → NextState design signals next
      → KeepsState design signals state → HaveLocals design 1 state.flights → KeepsState design next (cycle design cards image inputs state) → HaveLocals design 1 (cycle design cards image inputs state).flights
      → (stage unit : ℕ) → 1 ≤ stage → stage ≤ design.stages - 1 → IsUnitOf design stage unit → ShowsAsks design cards inputs signals stage → ShowsAsks design cards later next stage
      → 0 < next.age unit → (is_asked design next stage unit ≡ true) × (next.ask unit ≡ signals.ask unit)
  unfolding cycle unit_ask
  asked_again inputs later signals next state is goes holds fits next_holds next_fits stage unit low high of_stage asks_now asks_later age =
      let both = and_parts (signals.hold stage) (is_asked design signals stage unit) (aged (signals.hold stage && is_asked design signals stage unit) (signals.age unit) (next.age unit) (goes.ages stage unit of_stage) age) in
      let parts = and_parts (signals.valid stage) (asks design stage (signals.word stage) unit) both.1 in
      let held_everywhere : (t : ℕ) → signals.hold t ≡ true = λ t. is.hold t ∙ frozen design (map signals.busy (range_with_len 1 (design.stages - 1))) t stage ∙ sym (is.hold stage) ∙ both.0 in
      let same : control_of design cards inputs state ≡ all_held signals.taken
      = same_control design cards inputs signals clean is.stages state holds fits is.hold ∙ (λ i. record { held = λ t. held_everywhere t i; taken = signals.taken }) in
      let storages : (cycle design cards image inputs state).storages ≡ state.storages = ap (λ c. (after_control design cards image inputs state c).storages) same ∙ (held_cycles design cards image inputs state signals.taken).storages in
      let flights : slice_index_or (cycle design cards image inputs state).flights (stage - 1) None ≡ option_map staying (slice_index_or state.flights (stage - 1) None)
      = ap (λ c. slice_index_or (after_control design cards image inputs state c).flights (stage - 1) None) same ∙ (held_cycles design cards image inputs state signals.taken).flights (stage - 1) in
      let now = stands design signals state stage low high holds fits in
      let afterwards = subst (StandsAt design next stage) flights (stands design next (cycle design cards image inputs state) stage low high next_holds next_fits) in
      go (slice_index_or state.flights (stage - 1) None) now afterwards parts.0 parts.1 (next_holds.storages ∙ storages ∙ sym holds.storages)
    where
      go : (flight : Option Flight) → StandsAt design signals stage flight → StandsAt design next stage (option_map staying flight) → signals.valid stage ≡ true → asks design stage (signals.word stage) unit ≡ true → next.storages ≡ signals.storages
          → (is_asked design next stage unit ≡ true) × (next.ask unit ≡ signals.ask unit)
      go None now later_on valid asked same = let never : true ≡ false = sym valid ∙ now.0 in absurd cc
      go (Some f) now later_on valid asked same =
          let asked_f : asks design stage f.word unit ≡ true = ap (λ w. asks design stage w unit) (sym now.0.word) ∙ asked in
          let carries = later_on.0 in (
            (λ i. carries.valid i && (ap (λ w. asks design stage w unit) carries.word ∙ asked_f) i),
            some_same (signals.ask unit) (next.ask unit) _ _ (asks_now f now.1 now.0 unit asked_f) (asks_later (staying f) later_on.1 carries unit asked_f)
                (ap (λ st. unit_ask design cards inputs st stage f unit) (sym same) ∙ stable inputs later next.storages stage f unit now.1 asked_f),
          )

  -- the units of a stage are asked properly in a cycle, if they were before
  module _ (trace : Trace) (c : ℕ) (signals : ℕ → Signals) (works : Works design cards image trace c signals) (memories : length image.mems ≡ length design.mems) (fits : (j : ℕ) → HaveLocals design 1 (over design cards image trace j).flights) where
    Known : ℕ → Type 0
    Known j = ((i : ℕ) → i ≤ j → KeepsState design (signals i) (over design cards image trace i)) × ProperBefore design signals j

    fresh_now : (j : ℕ) → j ≡ 0 → (unit : ℕ) → 0 < (signals j).age unit → ⊥
    fresh_now j e unit h = let none = ap (λ k. (signals k).age unit) e ∙ works.starts.fresh unit in omega (arith, h, none)

    proper_now : (j : ℕ) → j < c → Known j → (stage unit : ℕ) → 1 ≤ stage → stage ≤ design.stages - 1 → IsUnitOf design stage unit → IsProper design stage unit (signals (j - 1)) (signals j)
    unfolding Known over
    proper_now zero below known stage unit low high of_stage = record {
      held = λ h. absurd (fresh_now 0 refl unit h);
      done = λ free asked.
          let holds = known.0 0 (omega arith) in
          done_there design (inputs_at design trace 0) (signals 0) stage unit _ (stands design (signals 0) (over design cards image trace 0) stage low high holds (fits 0)) (works.busy 0 below known.1 stage low high)
          (not_busy design (signals 0) stage (works.hold 0 below) low high free) asked;
    }
    proper_now (suc i) below known stage unit low high of_stage =
        let less : i < c = omega (arith, below) in
        let more : i + 1 ≡ suc i = omega arith in
        let back : i ≡ suc i - 1 = omega arith in
        let before = known.0 i (omega arith) in
        let now = known.0 (suc i) (omega arith) in
        let cycled = works.cycles i less (λ k lower. known.1 k (omega (arith, lower))) in
        let next = subst (λ k. NextState design (signals i) (signals k)) more (works.next i less) in
        subst (λ k. IsProper design stage unit (signals k) (signals (suc i))) back (record {
          held = asked_again (inputs_at design trace i) (inputs_at design trace (suc i)) (signals i) (signals (suc i)) (over design cards image trace i) cycled next before (fits i) now (fits (suc i)) stage unit low high of_stage
              (works.asked i less stage low high) (works.asked (suc i) below stage low high);
          done = λ free asked.
              done_there design (inputs_at design trace (suc i)) (signals (suc i)) stage unit _ (stands design (signals (suc i)) (over design cards image trace (suc i)) stage low high now (fits (suc i))) (works.busy (suc i) below known.1 stage low high)
              (not_busy design (signals (suc i)) stage (works.hold (suc i) below) low high free) asked;
        })

    known_each : (j : ℕ) → j ≤ c → Known j
    unfolding Known over
    known_each zero h = (λ i low. let same : 0 ≡ i = omega (arith, low) in subst (λ k. KeepsState design (signals k) (over design cards image trace k)) same (starts_hold design image (signals 0) memories works.starts), λ i none. let never : ⊥ = omega (arith, none) in absurd never)
    known_each (suc j) h =
        let below : j < c = omega (arith, h) in
        let before = known_each j (omega (arith, h)) in
        let proper : ProperBefore design signals (suc j) = λ i low. upto j i below before low (i == j) refl in
        let more : suc j ≡ j + 1 = omega arith in
        let cycled = works.cycles j below (subst (ProperBefore design signals) more proper) in
        let next = subst (λ k. NextState design (signals j) (signals k)) (sym more) (works.next j below) in
        let after = cycle_holds design cards image (inputs_at design trace j) (signals j) (signals (suc j)) (over design cards image trace j) none_first clean cycled next (before.0 j (omega arith)) (fits j) in
        (λ i low. last j i before.0 after low (i == suc j) refl, proper)
      where
        upto : (j i : ℕ) → j < c → Known j → i < suc j → (b : Bool) → (i == j) ≡ b → (stage unit : ℕ) → 1 ≤ stage → stage ≤ design.stages - 1 → IsUnitOf design stage unit → IsProper design stage unit (signals (i - 1)) (signals i)
        upto j i below known low true e = subst (λ k. (stage unit : ℕ) → 1 ≤ stage → stage ≤ design.stages - 1 → IsUnitOf design stage unit → IsProper design stage unit (signals (k - 1)) (signals k)) (sym (eqb-true i j e)) (proper_now j below known)
        upto j i below known low false e = let apart : i ≢ j = eqb-false i j e in known.1 i (grind (arith, apart, low))

        last : (j i : ℕ) → ((i : ℕ) → i ≤ j → KeepsState design (signals i) (over design cards image trace i)) → KeepsState design (signals (suc j)) (over design cards image trace (suc j)) → i ≤ suc j → (b : Bool) → (i == suc j) ≡ b → KeepsState design (signals i) (over design cards image trace i)
        last j i earlier after low true e = subst (λ k. KeepsState design (signals k) (over design cards image trace k)) (sym (eqb-true i (suc j) e)) after
        last j i earlier after low false e = let apart : i ≢ suc j = eqb-false i (suc j) e in earlier i (grind (arith, apart, low))

    -- so all goes as the law on cycles asks
    pub works_goes : Goes design cards image trace c signals
    unfolding Known
    works_goes = record {
      starts = works.starts;
      cycles = λ j h. works.cycles j h (subst (ProperBefore design signals) (omega arith) (known_each (suc j) (omega (arith, h))).1);
      next = works.next;
    }
