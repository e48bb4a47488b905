-- What is kept of the lines of a program that were judged.
use Rattle.std.specs.Prelude.{◌≡◌, ℕ, ◌+◌, ◌-◌, ◌^◌, ◌||◌, not, nat_lt, Bool, List, length, map, min, zip, is_some, option_map, if◌then◌else◌}
use Rattle.std.specs.List.{list_any}
use Rattle.std.specs.Str.{bytes_eq}
use Rattle.ap_desc.specs.declared.design.Design.{Design}
use Rattle.ap_desc.specs.declared.design.Mem.{Mem}
use Rattle.ap_program.specs.Labels.{landing_among}
use Rattle.ap_program.specs.Programs.{data_words, is_label_named, slots_before}
use Rattle.ap_program.specs.declared.so_far.SoFar.{SoFar}
use Rattle.ap_program.specs.declared.statement.ProgramLine.{ProgramLine}

-- this is what is kept of these lines
pub record IsSoFar (design : Design) (before : List ProgramLine) (so_far : SoFar) : Type 0 where
  pub seen : (name : List ℕ) → is_some (landing_among so_far.seen name) ≡ list_any (is_label_named name) before
  pub slots : so_far.slots ≡ option_map (λ n. min n (2 ^ 32 - 1)) (slots_before design before)
  pub words : so_far.words ≡ map (λ (m : Mem). min (length (data_words m.name before)) (2 ^ 64 - 1)) design.mems

-- the number of a memory's words, with so many more where it has this name
abbrev pub count_with : List ℕ → ℕ → Mem × ℕ → ℕ
count_with name count (mem, words) = if bytes_eq mem.name name then min (words + count) (2 ^ 64 - 1) else words

abbrev pub counts_with : Design → List ℕ → List ℕ → ℕ → List ℕ
counts_with design words name count = map (count_with name count) (zip design.mems words)

-- the words don't fit the memory, where it has so many words before
abbrev pub are_too_much : Mem → ℕ → List ℕ → Bool
are_too_much mem before words = list_any (λ word. not (nat_lt word (2 ^ mem.width))) words || nat_lt (2 ^ mem.address) (min (before + length words) (2 ^ 64 - 1))
