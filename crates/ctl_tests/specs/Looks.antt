-- Cycles of the processor of four stages, by what control looks at.
use Rattle.std.specs.Prelude.{ℕ, ◌==◌, if◌then◌else◌, Bool, true, false}
use Rattle.ap_ctl.specs.Meaning.{Look}

-- every stage has a word: this one in stage 2, and LD 1 1 0 in the others
abbrev pub with_word : ℕ → ℕ → ℕ
with_word word stage = if stage == 2 then word else 0x3240

-- MUL 3 1 2 is in stage 2, and the multiplier, unit 2, isn't done
abbrev pub multiplying : Look
multiplying = record { word = with_word 0x1651; valid = λ stage. true; wait = false; busy = λ unit. unit == 2; taken = true }

-- this word is in stage 2, and the memory has its readers wait
abbrev pub waiting : ℕ → Look
waiting word = record { word = with_word word; valid = λ stage. true; wait = true; busy = λ unit. false; taken = true }

-- BZ 1 5 is in stage 2, which has a word if this holds, and is taken
abbrev pub branching : Look
branching = record { word = with_word 0x5205; valid = λ stage. true; wait = false; busy = λ unit. false; taken = true }
