use Rattle.std.proofs.Common.{◌≡◌, ℕ, ◌++◌, drop, filter_map}
use Rattle.std.specs.List.{enumerate_from}
use Rattle.ap_desc.specs.Chains.{makers}
use Rattle.ap_desc.specs.declared.design.Micro.{Micro}
use Rattle.ap_course.specs.Lines.{use_of, uses_of}
use Rattle.ap_course.proofs.line.uses_of.Given as goal

-- the lines so far, and those from here on
abbrev pub invariant-loop-local : goal.invariant-loop-local
invariant-loop-local l = uses_of l.stage l.instr ≡ l.uses ++ filter_map (λ (p : ℕ × Micro). use_of l.stage p.0 p.1) (enumerate_from l.local (drop l.local (makers l.instr)))
