use Rattle.std.proofs.Common.{◌≡◌, drop, max}
use Rattle.std.specs.Prelude.{fold}
use Rattle.ap_dist.specs.LeastStarts.{drain_of_group}
use Rattle.ap_dist.specs.declared.source.Group.{Group}
use Rattle.ap_asm.proofs.placing.drain_of.Given as goal

-- what the groups so far ask for, and what those that are left do
abbrev pub invariant-loop-group : goal.invariant-loop-group
invariant-loop-group l = fold (λ most (g : Group). max most (drain_of_group l.design g)) l.drain (drop l.group-index l.source.groups) ≡ fold (λ most (g : Group). max most (drain_of_group l.design g)) 0 l.source.groups
