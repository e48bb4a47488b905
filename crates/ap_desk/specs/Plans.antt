-- Which calls of a desk in memory are to fail.
use Rattle.std.specs.Prelude.{ℕ}
use Rattle.ap_desk.specs.declared.memory.DeskCall.{DeskCall}
use Rattle.ap_desk.specs.declared.memory.DeskCall.TheVariants.{Read, Create, Append}
use Rattle.ap_desk.specs.Calls.{MemState, with_failing}

-- the call of this kind and number is to fail too
abbrev pub failing_at : MemState → DeskCall → ℕ → MemState
failing_at state Read number = record state { reads = with_failing state.reads number }
failing_at state Create number = record state { creates = with_failing state.creates number }
failing_at state Append number = record state { appends = with_failing state.appends number }
