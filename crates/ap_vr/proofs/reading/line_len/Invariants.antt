use Rattle.std.proofs.Common.{◌≡◌, ◌+◌, drop}
use Rattle.ap_vr.specs.TextLines.{first_len}
use Rattle.ap_vr.proofs.reading.line_len.Given as goal

abbrev pub invariant-loop-place : goal.invariant-loop-place
invariant-loop-place l = l.place + first_len (drop l.place l.rest) ≡ first_len l.rest
