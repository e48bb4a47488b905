-- Which stages are busy, and which are held for it.
use Rattle.std.specs.Prelude.{ℕ, ◌+◌, ◌||◌, ◌&&◌, nat_lt, max, Bool, true, false, List, [], ◌∷◌, fold, filter_map, Option, None, option_map, slice_get}
use Rattle.std.specs.List.{list_any}
use Rattle.std.specs.Option.{option_map_or}
use Rattle.ap_desc.specs.declared.design.Design.{Design}
use Rattle.ap_desc.specs.declared.design.Unit.{Unit as Resource}
use Rattle.ap_desc.specs.declared.design.Instr.{Instr}
use Rattle.ap_desc.specs.declared.design.Micro.{Micro}
use Rattle.ap_desc.specs.declared.design.Act.{Act}
use Rattle.ap_desc.specs.declared.design.Act.TheVariants as act
use Rattle.ap_model.specs.declared.state.Flight.{Flight}
use Rattle.ap_model.specs.Fire.{instr_of, lines_in}

-- the latency of the unit that a line uses, if it uses one
abbrev pub line_latency : Design → Act → Option ℕ
line_latency design (act.Compute unit op a b) = option_map (λ (u : Resource). u.latency) (slice_get design.units unit)
line_latency design _ = None

-- the greatest latency of a unit that an instruction uses in a stage, or 1
abbrev pub instr_need : Design → ℕ → Instr → ℕ
instr_need design stage instr = fold max 1 (filter_map (λ (m : Micro). line_latency design m.act) (lines_in stage instr))

-- how many cycles a word needs in a stage, memories aside
unfoldable pub need : Design → ℕ → ℕ → ℕ
need design stage word = option_map_or (instr_need design stage) (instr_of design word) 1

-- the line reads or writes a memory
abbrev pub is_memory_line : Act → Bool
is_memory_line (act.ReadMem mem at) = true
is_memory_line (act.WriteMem mem at value guard) = true
is_memory_line _ = false

-- a word's instruction has a memory read or write in a stage, whatever its guard
unfoldable pub has_memory_line : Design → ℕ → ℕ → Bool
has_memory_line design stage word = option_map_or (λ (i : Instr). list_any (λ (m : Micro). is_memory_line m.act) (lines_in stage i)) (instr_of design word) false

-- the flight needs its stage for another cycle after this one, or it waits for a memory: wait is the value of mwait
abbrev pub is_flight_busy : Design → Bool → ℕ → Flight → Bool
is_flight_busy design wait stage flight = nat_lt (flight.waited + 1) (need design stage flight.word) || (wait && has_memory_line design stage flight.word)

-- a stage is busy where it is occupied and its flight is busy there. It doesn't matter whether the flight will be killed
abbrev pub is_busy : Design → Bool → ℕ → Option Flight → Bool
is_busy design wait stage flight = option_map_or (is_flight_busy design wait stage) flight false

-- whether each stage is busy, from this stage on
abbrev pub busy_from : Design → Bool → ℕ → List (Option Flight) → List Bool
busy_from design wait stage [] = []
busy_from design wait stage (flight ∷ flights) = is_busy design wait stage flight ∷ busy_from design wait (stage + 1) flights

-- A stage is held: all stages from 0 on are, where some stage is busy. The list says of each stage from 1 on whether it is busy.
-- This is the one place that says which stages a busy stage holds. Proofs know it by HoldsFromZero; only the law of the one count
-- and worked rows look into it.
unfoldable pub is_held_stage : Design → List Bool → ℕ → Bool
is_held_stage design busy stage = list_any (λ b. b) busy
