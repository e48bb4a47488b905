use Rattle.std.proofs.Common.{◌≡◌, ℕ, ◌++◌, drop, flat_map, fold}
use Rattle.std.specs.List.{enumerate_from}
use Rattle.ap_desc.specs.declared.design.Instr.{Instr}
use Rattle.ap_pipe.specs.Ranks.{homes_from, homes_of, ranked, ranked_slots, ranked_widths}
use Rattle.ap_pipe.specs.Widths.{widest}
use Rattle.ap_pipe.proofs.homes.stage_slots.Given as goal

-- what is due is what the instructions so far gave, and those from here on
abbrev pub invariant-loop-number : goal.invariant-loop-number
invariant-loop-number l =
    (ranked_slots l.design l.stage ≡ fold (λ widths (i : Instr). widest widths (ranked_widths (ranked l.stage i))) l.widths (drop l.number l.design.instrs))
    × (homes_of l.design l.stage ≡ l.homes ++ flat_map (λ (instr : ℕ × Instr). homes_from instr.0 0 (ranked l.stage instr.1)) (enumerate_from l.number (drop l.number l.design.instrs)))
