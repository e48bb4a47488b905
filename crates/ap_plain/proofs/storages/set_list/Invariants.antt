use Rattle.std.proofs.Common.{◌≡◌, slice_set, take}
use Rattle.ap_plain.proofs.storages.set_list.Given as goal

abbrev pub invariant-loop-k : goal.invariant-loop-k
invariant-loop-k l = l.set ≡ take l.k (slice_set l.lists l.i l.list)
