-- The run of a unit that makes a step a cycle: its counter tells its age, and its registers hold the state after so many steps.
use Rattle.std.proofs.Common.{◌≡◌, ℕ, zero, suc, ◌+◌, ◌%◌, ◌^◌, ◌<◌, ◌≤◌, min, ⊎_elim, refl, sym, ap, subst, ◌∙◌, arith}
use Rattle.std.specs.Prelude.{◌==◌, ◌||◌, ◌↔◌, nat_lt, bit_and, if◌then◌else◌, Bool, true, false}
use Rattle.std.proofs.Math.Nat.{mod-eq_of_lt}
use Rattle.std.proofs.lemmas.Bool.{cases_lt, lt-ltb, le-ltb, ne_eqb}
use Rattle.ap_unit.specs.Ages.{UnitInput, age_after, age_at, IsHeld}
use Rattle.ap_unit.specs.Methods.{State, Method, after_steps, shown_of}
use Rattle.ap_unit.proofs.TopBits.{bit_cases}

-- whether steps are left, as one bit
abbrev pub left_of : ℕ → ℕ → ℕ
left_of w count = if nat_lt count w then 1 else 0

-- one more while steps are left
abbrev pub counted : ℕ → ℕ → ℕ → ℕ
counted w k count = if left_of w count == 1 then (count + 1) % 2 ^ k else count

-- the state before a step
abbrev pub before : Method → UnitInput → ℕ → State → State
before method input count held = if count == 0 then method.start input.a input.b else held

-- What the circuit gives in a cycle, by the inputs and by what its registers hold: whether it is busy, what it shows, and what the
-- registers take.
pub record Cycle (w k : ℕ) (method : Method) (input : UnitInput) (count : ℕ) (held : State) (busy y count' : ℕ) (held' : State) : Type 0 where
  pub go : input.go < 2
  pub busy_is : busy ≡ bit_and input.go (left_of w count)
  pub shown : y ≡ shown_of input.sel held
  pub count_is : count' ≡ (if input.adv == 1 then 0 else (if input.go == 1 then counted w k count else 0))
  pub held_is : held' ≡ (if left_of w count == 1 then method.step input.a input.b (before method input count held) else held)

left_more : (w count : ℕ) → count < w → left_of w count ≡ 1
left_more w count h = rw (lt-ltb count w h) refl

left_none : (w count : ℕ) → w ≤ count → left_of w count ≡ 0
left_none w count h = rw (le-ltb count w h) refl

-- where the counter holds the age up to w, so it does after a cycle
counts_on : (w k age : ℕ) → w < 2 ^ k → counted w k (min age w) ≡ min (age + 1) w
counts_on w k age room =
    ⊎_elim
    (λ more.
    let short : min age w < w = omega arith in
    let fits : min age w + 1 < 2 ^ k = omega arith in
    let same : min age w + 1 ≡ min (age + 1) w = omega arith in
    rw (left_more w (min age w) short) (mod-eq_of_lt fits ∙ same))
    (λ done.
    let whole : w ≤ min age w = omega arith in
    let same : min age w ≡ min (age + 1) w = omega arith in
    rw (left_none w (min age w) whole) same)
    (cases_lt age w)

-- after a cycle, too, the counter holds the age up to w
age_goes : (w k age go adv count count' : ℕ) → w < 2 ^ k → go < 2 → count ≡ min age w → count' ≡ (if adv == 1 then 0 else (if go == 1 then counted w k count else 0))
    → count' ≡ min (if adv == 1 || go == 0 then 0 else age + 1) w
age_goes w k age go adv count count' room small at is = is ∙ by_adv (adv == 1)
  where
    rest : 0 ≡ min 0 w
    rest = omega arith

    by_go : (if go == 1 then counted w k count else 0) ≡ min (if go == 0 then 0 else age + 1) w
    by_go =
        ⊎_elim
        (λ off. subst (λ g. (if g == 1 then counted w k count else 0) ≡ min (if g == 0 then 0 else age + 1) w) (sym off) rest)
        (λ on. subst (λ g. (if g == 1 then counted w k count else 0) ≡ min (if g == 0 then 0 else age + 1) w) (sym on) (ap (counted w k) at ∙ counts_on w k age room))
        (bit_cases go small)

    by_adv : (t : Bool) → (if t then 0 else (if go == 1 then counted w k count else 0)) ≡ min (if t || go == 0 then 0 else age + 1) w
    by_adv true = rest
    by_adv false = by_go

-- an age above 0 is one more than the age before
age_rises : (input : UnitInput) (age : ℕ) → 0 < age_after input age → age_after input age ≡ age + 1
age_rises input age h = by_rest (input.adv == 1 || input.go == 0) h
  where
    by_rest : (t : Bool) → 0 < (if t then 0 else age + 1) → (if t then 0 else age + 1) ≡ age + 1
    by_rest true h = absurd (omega arith)
    by_rest false h = refl

-- what the registers take is the state after one more step, where they hold that after as many as there were
one_step : (method : Method) (w a b age count : ℕ) (held : State) → 1 ≤ w → count ≡ min age w → (0 < age → held ≡ after_steps method a b (min age w))
    → (if left_of w count == 1 then method.step a b (if count == 0 then method.start a b else held) else held) ≡ after_steps method a b (min (age + 1) w)
one_step method w a b zero count held some at is =
    let none : count ≡ 0 = omega arith in
    let left = left_more w count (omega arith) in
    let one : 1 ≡ min (0 + 1) w = omega arith in
    rw (left, none) (ap (after_steps method a b) one)
one_step method w a b (suc age) count held some at is =
    ⊎_elim
    (λ more.
    let old : (count == 0) ≡ false = ne_eqb count 0 (λ (e : count ≡ 0). omega arith) in
    let left = left_more w count (omega arith) in
    let one : suc (min (suc age) w) ≡ min (suc age + 1) w = omega arith in
    rw (left, old) (ap (method.step a b) (is (omega arith)) ∙ ap (after_steps method a b) one))
    (λ done.
    let left = left_none w count (omega arith) in
    let one : min (suc age) w ≡ min (suc age + 1) w = omega arith in
    rw left (is (omega arith) ∙ ap (after_steps method a b) one))
    (cases_lt (suc age) w)

-- busy is 1 where the unit is asked and younger than its steps
busy_at : (w age go count busy : ℕ) → go < 2 → count ≡ min age w → busy ≡ bit_and go (left_of w count) → (busy ≡ 1) ↔ ((go ≡ 1) × (age < w))
busy_at w age go count busy small at is =
    ⊎_elim
    (λ more.
    let left = left_more w count (omega arith) in
    let busy_is : busy ≡ bit_and go 1 = is ∙ ap (bit_and go) left in
    ⊎_elim
    (λ off. let none : busy ≡ 0 = busy_is ∙ ap (λ g. bit_and g 1) off in (λ h. absurd (omega arith), λ h. absurd (omega (arith, h.0))))
    (λ on. let yes : busy ≡ 1 = busy_is ∙ ap (λ g. bit_and g 1) on in (λ h. (on, more), λ h. yes))
    (bit_cases go small))
    (λ done.
    let left = left_none w count (omega arith) in
    let busy_is : busy ≡ bit_and go 0 = is ∙ ap (bit_and go) left in
    ⊎_elim
    (λ off. let none : busy ≡ 0 = busy_is ∙ ap (λ g. bit_and g 0) off in (λ h. absurd (omega arith), λ h. absurd (omega (arith, h.1))))
    (λ on. let none : busy ≡ 0 = busy_is ∙ ap (λ g. bit_and g 0) on in (λ h. absurd (omega arith), λ h. absurd (omega (arith, h.1))))
    (bit_cases go small))
    (cases_lt age w)

module _ (w k c : ℕ) (method : Method) (room : w < 2 ^ k) (some : 1 ≤ w) (inputs : ℕ → UnitInput) (count count' busy y : ℕ → ℕ) (held held' : ℕ → State)
    (cycles : (j : ℕ) → j < c → Cycle w k method (inputs j) (count j) (held j) (busy j) (y j) (count' j) (held' j))
    (starts : count 0 ≡ 0) (counts_go : (j : ℕ) → suc j < c → count (suc j) ≡ count' j) (states_go : (j : ℕ) → suc j < c → held (suc j) ≡ held' j)
    (proper : (j : ℕ) → suc j < c → 0 < age_at inputs (suc j) → IsHeld (inputs j) (inputs (suc j))) where
  ages : (j : ℕ) → j < c → count j ≡ min (age_at inputs j) w
  ages zero h = omega arith
  ages (suc j) h =
      let now = cycles j (omega arith) in
      counts_go j h ∙ age_goes w k (age_at inputs j) (inputs j).go (inputs j).adv (count j) (count' j) room now.go (ages j (omega arith)) now.count_is

  states : (j : ℕ) → j < c → 0 < age_at inputs j → held j ≡ after_steps method (inputs j).a (inputs j).b (min (age_at inputs j) w)
  states zero h old = absurd (omega arith)
  states (suc j) h old =
      let now = cycles j (omega arith) in
      let same = proper j h old in
      let rises = age_rises (inputs j) (age_at inputs j) old in
      let stepped = one_step method w (inputs j).a (inputs j).b (age_at inputs j) (count j) (held j) some (ages j (omega arith)) (states j (omega arith)) in
      states_go j h ∙ now.held_is ∙ stepped ∙ (λ i. after_steps method (sym same.a i) (sym same.b i) (min (sym rises i) w))

  pub busy_shown : (j : ℕ) → j < c → (busy j ≡ 1) ↔ (((inputs j).go ≡ 1) × (age_at inputs j < w))
  busy_shown j h = let now = cycles j h in busy_at w (age_at inputs j) (inputs j).go (count j) (busy j) now.go (ages j h) now.busy_is

  pub value_shown : (j : ℕ) → j < c → w ≤ age_at inputs j → y j ≡ shown_of (inputs j).sel (after_steps method (inputs j).a (inputs j).b w)
  value_shown j h old =
      let now = cycles j h in
      let whole : min (age_at inputs j) w ≡ w = omega arith in
      now.shown ∙ ap (shown_of (inputs j).sel) (states j h (omega arith) ∙ ap (after_steps method (inputs j).a (inputs j).b) whole)
