use Rattle.std.proofs.Common.{◌≡◌, ℕ, ◌++◌, drop, filter_map}
use Rattle.std.specs.List.{enumerate_from}
use Rattle.ap_desc.specs.Chains.{makers}
use Rattle.ap_desc.specs.declared.design.Micro.{Micro}
use Rattle.ap_course.specs.Lines.{line_of, lines_of}
use Rattle.ap_course.proofs.line.lines_of.Given as goal

-- the lines so far, and those from here on
abbrev pub invariant-loop-local : goal.invariant-loop-local
invariant-loop-local l = lines_of l.stage l.instr ≡ l.lines ++ filter_map (λ (p : ℕ × Micro). line_of l.stage p.0 p.1) (enumerate_from l.local (drop l.local (makers l.instr)))
