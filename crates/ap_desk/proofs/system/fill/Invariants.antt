use Rattle.std.proofs.Common.{◌≡◌, ◌≤◌, length, take}
use Rattle.std.specs.Io.KnownBytes.{Consumes}
use Rattle.ap_desk.proofs.system.fill.Given as goal

-- what was read stands in the front
abbrev pub invariant-loop : goal.invariant-loop
invariant-loop g l = record {
  same : length l.into ≡ length l.initial.into;
  within : l.count ≤ length l.into;
  consumed : Consumes (g.S.Read.remaining l.fn.source) (g.S.Read.remaining l.source) (take l.count l.into);
}
