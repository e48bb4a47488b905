-- The locals of instructions that are live into a stage: a line of an earlier stage assigns them, and one of this stage or a later one looks
-- at them. The rule is the project's own.
use Rattle.std.specs.Prelude.{◌≡◌, ℕ, List, filter, length, map, slice_get, slice_index, true, Bool, IsSomeAnd}
use Rattle.std.specs.List.{range_with_len}
use Rattle.ap_desc.specs.declared.design.Design.{Design}
use Rattle.ap_desc.specs.declared.design.Instr.{Instr}
use Rattle.ap_model.specs.FlightLocals.{is_live_in}

-- the numbers of an instruction's locals that are live into the stage
abbrev pub live_locals : Design → ℕ → Instr → List ℕ
live_locals design stage instr = filter (λ i. is_live_in design stage i instr) (range_with_len 0 (length instr.locals))

-- and their widths
abbrev pub live_widths : Design → ℕ → Instr → List ℕ
live_widths design stage instr = map (slice_index instr.locals) (live_locals design stage instr)

-- a local of the instruction at this place is live into the stage
abbrev pub IsLive : Design → ℕ → ℕ → ℕ → Type 0
IsLive design stage number i = IsSomeAnd (slice_get design.instrs number) (λ instr. is_live_in design stage i instr ≡ true)
