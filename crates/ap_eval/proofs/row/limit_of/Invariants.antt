use Rattle.std.proofs.Common.{◌≡◌, map, take, string_bytes}
use Rattle.ap_eval.specs.Benches.{limit_by}
use Rattle.ap_eval.proofs.row.limit_of.Given as goal

abbrev pub invariant-loop-label : goal.invariant-loop-label
invariant-loop-label l = l.limit ≡ limit_by (map string_bytes (take l.label-index l.labels))
