use Rattle.std.proofs.Common.{◌≡◌, take}
use Rattle.ap_store.specs.Writers.{paired}
use Rattle.ap_store.proofs.cells.drive_cells.Given as goal

-- the cells so far have their drivers
abbrev pub invariant-loop-index : goal.invariant-loop-index
invariant-loop-index l = l.out ≡ record l.fn.out { nexts = paired (take l.index l.cells) (take l.index l.next) }
