-- Why a call of a desk gave up: by two counts, since no clause can see into a real disk.
use Rattle.std.specs.Prelude.{◌≡◌, ℕ, ◌+◌, ◌-◌, ◌^◌, ◌≤◌, min, Result, Ok, Err}
use Rattle.ap_desk.specs.declared.counts.Counts.{Counts}
use Rattle.ap_desk.specs.declared.desk.DeskFault.{DeskFault}
use Rattle.ap_desk.specs.declared.desk.DeskFault.TheVariants.{Failed, Missing, NoMemory}

-- one more, up to the last value
abbrev pub raised : ℕ → ℕ
raised count = min (count + 1) (2 ^ 64 - 1)

-- the count rose, or stands at its last value
abbrev pub Rose : ℕ → ℕ → Type 0
Rose before now = raised before ≤ now

-- the count rose or stands at its last value, and didn't fall
pub record Rises (before now : ℕ) : Type 0 where
  pub rose : Rose before now
  pub stays : before ≤ now

-- A call with this answer goes with these counts before and after it: a failed call raises the one, a missed file the other, and nothing
-- else changes a count.
abbrev pub HasCause : {T : Type 0} → Counts → Counts → Result T DeskFault → Type 0
HasCause before after (Ok value) = after ≡ before
HasCause before after (Err Failed) = Rises before.faults after.faults × (after.absent ≡ before.absent)
HasCause before after (Err Missing) = Rises before.absent after.absent × (after.faults ≡ before.faults)
HasCause before after (Err NoMemory) = after ≡ before
