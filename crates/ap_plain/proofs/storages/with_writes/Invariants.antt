use Rattle.std.proofs.Common.{◌≡◌, fold, take}
use Rattle.ap_model.specs.Stored.{with_write}
use Rattle.ap_plain.proofs.storages.with_writes.Given as goal

abbrev pub invariant-loop-write : goal.invariant-loop-write
invariant-loop-write l = l.now ≡ fold with_write l.storages (take l.write-index l.writes)
