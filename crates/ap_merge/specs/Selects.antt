-- Which entry a selection takes, and how many questions it asks at most.
use Rattle.std.specs.Prelude.{◌≡◌, ℕ, ◌+◌, ◌-◌, ◌^◌, ◌<◌, ◌≤◌, ◌==◌, ◌&&◌, nat_lt, max, Bool, true, if◌then◌else◌}
use Rattle.std.specs.List.{list_any, range_with_len}
use Rattle.ap_merge.specs.declared.table.Select.{Select, fold-Select}
use Rattle.ap_merge.specs.declared.table.Select.TheOpen.{Select-F}
use Rattle.ap_merge.specs.declared.table.Select.TheOpen as select

-- the condition of an entry from one place up to the one before another is 1
abbrev pub is_any_on : (ℕ → Bool) → ℕ → ℕ → Bool
is_any_on on from to = list_any on (range_with_len from (to - from))

-- the place that is taken, where that of each answer is known
abbrev pub level_place : (ℕ → Bool) → Select-F ℕ → ℕ
level_place on (select.Take place) = place
level_place on (select.Ask from to one other) = if is_any_on on from to then one else other

-- the place of the entry that a selection takes, where these conditions are 1
unfoldable pub selected : (ℕ → Bool) → Select → ℕ
selected on choice = fold-Select ℕ (level_place on) choice

abbrev pub level_depth : Select-F ℕ → ℕ
level_depth (select.Take place) = 0
level_depth (select.Ask from to one other) = max one other + 1

-- how many questions are asked at most
unfoldable pub depth : Select → ℕ
depth choice = fold-Select ℕ level_depth choice

-- The entries that a selection goes over: the first, and the place after the last. They are joined where each question is about the entries
-- of its first answer, those of the second come after them, and each answer has some.
pub record Span : Type 0 where
  pub first : ℕ
  pub past : ℕ
  pub joined : Bool

abbrev pub level_span : Select-F Span → Span
level_span (select.Take place) = record { first = place; past = place + 1; joined = true }
level_span (select.Ask from to one other) = record {
  first = from;
  past = other.past;
  joined = (one.first == from) && (one.past == to) && (other.first == to) && nat_lt from to && nat_lt to other.past && one.joined && other.joined;
}

unfoldable pub span_of : Select → Span
span_of choice = fold-Select Span level_span choice

-- the selection goes over the entries from one place up to the one before another
pub record GoesOver (choice : Select) (from to : ℕ) : Type 0 where
  pub first : (span_of choice).first ≡ from
  pub past : (span_of choice).past ≡ to
  pub joined : (span_of choice).joined ≡ true

-- this entry's condition is 1, and no other's of those from one place up to the one before another
pub record IsOnlyOn (on : ℕ → Bool) (from to place : ℕ) : Type 0 where
  pub low : from ≤ place
  pub high : place < to
  pub is_on : on place ≡ true
  pub alone : (other : ℕ) → from ≤ other → other < to → on other ≡ true → other ≡ place

-- of these entries the one is taken whose condition alone is 1
abbrev pub Selects : Select → ℕ → ℕ → Type 0
Selects choice from to = (on : ℕ → Bool) (place : ℕ) → IsOnlyOn on from to place → selected on choice ≡ place

-- among 2 ^ d entries at most d questions are asked: no more than the count of the entries has binary digits
abbrev pub IsBalanced : Select → ℕ → Type 0
IsBalanced choice count = (d : ℕ) → count ≤ 2 ^ d → depth choice ≤ d
