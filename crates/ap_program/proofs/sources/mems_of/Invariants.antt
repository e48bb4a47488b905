use Rattle.std.proofs.Common.{◌≡◌, map, take}
use Rattle.ap_desc.specs.declared.design.Mem.{Mem}
use Rattle.ap_program.specs.Programs.{data_words}
use Rattle.ap_program.proofs.sources.mems_of.Given as goal

-- the words of the memories so far
abbrev pub invariant-loop-mem : goal.invariant-loop-mem
invariant-loop-mem l = l.mems ≡ map (λ (m : Mem). data_words m.name l.lines) (take l.mem-index l.design.mems)
