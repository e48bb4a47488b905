use Rattle.std.proofs.Common.{◌≡◌, ℕ, ◌++◌, drop, flat_map}
use Rattle.std.specs.List.{enumerate_from}
use Rattle.ap_desc.specs.declared.design.Instr.{Instr}
use Rattle.ap_path.specs.Uses.{uses_in, uses_of}
use Rattle.ap_path.proofs.gather.uses_of.Given as goal

-- the uses so far, and those of the instructions from here on
abbrev pub invariant-loop-number : goal.invariant-loop-number
invariant-loop-number l = uses_of l.design ≡ l.uses ++ flat_map (λ (instr : ℕ × Instr). uses_in instr.0 instr.1.micros) (enumerate_from l.number (drop l.number l.design.instrs))
