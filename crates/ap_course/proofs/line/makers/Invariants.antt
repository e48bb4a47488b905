use Rattle.std.proofs.Common.{◌≡◌, ◌==◌, ◌++◌, drop, filter}
use Rattle.ap_desc.specs.Chains.{makers}
use Rattle.ap_desc.specs.Designs.{assigned_count}
use Rattle.ap_desc.specs.declared.design.Micro.{Micro}
use Rattle.ap_course.proofs.line.makers.Given as goal

-- those so far, and those of the lines from here on
abbrev pub invariant-loop-micro : goal.invariant-loop-micro
invariant-loop-micro l = makers l.instr ≡ l.made ++ filter (λ (m : Micro). assigned_count m.act == 1) (drop l.micro-index l.instr.micros)
