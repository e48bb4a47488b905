use Rattle.std.proofs.Common.{◌≡◌, take}
use Rattle.ap_plain.proofs.storages.copied_lists.Given as goal

abbrev pub invariant-loop-old : goal.invariant-loop-old
invariant-loop-old l = l.list ≡ take l.old-index l.lists
