use Rattle.std.proofs.Common.{◌≡◌, take}
use Rattle.std.specs.Prelude.{filter_map}
use Rattle.ap_dist.specs.Accesses.{access_of, accesses}
use Rattle.ap_dist.specs.Distances.{gap, greatest}
use Rattle.ap_dist.specs.declared.access.Access.{Access}
use Rattle.ap_dist.proofs.distance.distance.Given as goal

abbrev pub invariant-loop-micro : goal.invariant-loop-micro
invariant-loop-micro l = l.most ≡ greatest (λ (a : Access). greatest (gap a) (accesses l.design l.younger l.other)) (filter_map (access_of l.design l.older l.word) (take l.micro-index l.older.micros))
