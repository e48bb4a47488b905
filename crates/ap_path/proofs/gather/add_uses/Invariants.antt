use Rattle.std.proofs.Common.{◌≡◌, ℕ, ◌++◌, drop, filter_map}
use Rattle.std.specs.List.{enumerate_from}
use Rattle.ap_desc.specs.declared.design.Micro.{Micro}
use Rattle.ap_path.specs.Uses.{use_of, uses_in}
use Rattle.ap_path.proofs.gather.add_uses.Given as goal

-- the uses so far, and those of the lines from here on
abbrev pub invariant-loop-place : goal.invariant-loop-place
invariant-loop-place l = l.fn.uses ++ uses_in l.instr l.micros ≡ l.uses ++ filter_map (λ (line : ℕ × Micro). use_of l.instr line.0 line.1) (enumerate_from l.place (drop l.place l.micros))
