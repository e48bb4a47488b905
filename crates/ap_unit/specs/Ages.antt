-- A unit that takes several cycles, as its inputs see it: how long it has been asked, and which inputs it may be given.
use Rattle.std.specs.Prelude.{◌≡◌, ℕ, zero, suc, ◌+◌, ◌-◌, ◌<◌, ◌≤◌, ◌==◌, ◌||◌, ◌⊎◌, if◌then◌else◌}

-- what a unit is given in one cycle
pub record UnitInput : Type 0 where
  pub sel : ℕ
  pub a : ℕ
  pub b : ℕ
  pub go : ℕ
  pub adv : ℕ

-- the age after a cycle: a cycle with adv = 1 or go = 0 makes it 0, any other adds 1
abbrev pub age_after : UnitInput → ℕ → ℕ
age_after input age = if input.adv == 1 || input.go == 0 then 0 else age + 1

-- the age in each cycle, counted from the inputs; it is 0 after reset
abbrev pub age_at : (ℕ → UnitInput) → ℕ → ℕ
age_at inputs zero = 0
age_at inputs (suc j) = age_after (inputs j) (age_at inputs j)

-- go is 1, and what is asked is as in the cycle before
pub record IsHeld (before now : UnitInput) : Type 0 where
  pub go : now.go ≡ 1
  pub sel : now.sel ≡ before.sel
  pub a : now.a ≡ before.a
  pub b : now.b ≡ before.b

-- The inputs of cycle j are proper for a unit of so many operations and this latency: where it is asked, one of its operations
-- is chosen; once it has an age, it is asked the same as before; and adv is 1 only where it isn't asked or is done.
pub record IsProperAt (count latency : ℕ) (inputs : ℕ → UnitInput) (j : ℕ) : Type 0 where
  pub chosen : (inputs j).go ≡ 1 → (inputs j).sel < count
  pub held : 0 < age_at inputs j → IsHeld (inputs (j - 1)) (inputs j)
  pub done : (inputs j).adv ≡ 1 → ((inputs j).go ≡ 0) ⊎ (latency - 1 ≤ age_at inputs j)

-- the inputs of the first c cycles are proper
abbrev pub AreProper : ℕ → ℕ → (ℕ → UnitInput) → ℕ → Type 0
AreProper count latency inputs c = (j : ℕ) → j < c → IsProperAt count latency inputs j
