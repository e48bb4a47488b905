use Rattle.ap_supply.specs.Listing.{IsMemEntry, IsMemNumber, Lists}
use Rattle.ap_supply.proofs.reads.list_mems.Given as goal

-- the memories so far
abbrev pub invariant-loop-place : goal.invariant-loop-place
invariant-loop-place l = Lists (IsMemEntry l.design l.mems) (IsMemNumber l.place) l.fn.made l.made
