use Rattle.ap_supply.specs.Listing.{IsReadEntry, IsReadNumber, Lists}
use Rattle.ap_supply.proofs.reads.list_reads.Given as goal

-- the ports so far
abbrev pub invariant-loop-port : goal.invariant-loop-port
invariant-loop-port l = Lists (IsReadEntry l.design l.files) (IsReadNumber l.place l.port) l.fn.made l.made
