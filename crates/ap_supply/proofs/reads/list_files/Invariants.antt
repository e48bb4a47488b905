use Rattle.ap_supply.specs.Listing.{IsFileNumber, IsReadEntry, Lists}
use Rattle.ap_supply.proofs.reads.list_files.Given as goal

-- the files so far
abbrev pub invariant-loop-place : goal.invariant-loop-place
invariant-loop-place l = Lists (IsReadEntry l.design l.files) (IsFileNumber l.design l.place) l.fn.made l.made
