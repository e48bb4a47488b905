use Rattle.std.proofs.Common.{◌≡◌, ◌++◌, map, take, string_bytes}
use Rattle.ap_image.specs.declared.shape.MemShape.{MemShape}
use Rattle.ap_net.specs.Outside.{Group}
use Rattle.ap_eval.specs.Benches.{group_label}
use Rattle.ap_eval.proofs.row.labels_of.Given as goal

abbrev pub invariant-loop-group : goal.invariant-loop-group
invariant-loop-group l = map string_bytes l.labels.items ≡ map (λ (g : Group). group_label g.storage g.port) (take l.group-index l.outside.groups)

abbrev pub invariant-loop-mem : goal.invariant-loop-mem
invariant-loop-mem l = map string_bytes l.labels.items ≡ map (λ (g : Group). group_label g.storage g.port) l.outside.groups ++ map (λ (m : MemShape). m.name) (take l.mem-index l.outside.mems)
