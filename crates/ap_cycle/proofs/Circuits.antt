-- A circuit is the machine.
use Rattle.std.proofs.Common.{◌≡◌, ℕ, ◌+◌, ◌≤◌, ◌<◌, List, length, arith}
use Rattle.ap_bits.specs.declared.card.Card.{Card}
use Rattle.ap_desc.specs.Clean.{FitsCards}
use Rattle.ap_desc.specs.declared.design.Design.{Design}
use Rattle.ap_image.specs.declared.image.Image.{Image}
use Rattle.ap_image.specs.declared.trace.Trace.{Trace}
use Rattle.ap_model.specs.Cycles.{inputs_at, over}
use Rattle.ap_model.specs.ShownRows.{row}
use Rattle.ap_model.proofs.MachineLaws.{clean_is_runnable, flights_have_locals, none_live_first, stable_asks}
use Rattle.ap_cycle.specs.Circuit.{EachStage, IsCircuit, ProperBefore}
use Rattle.ap_cycle.specs.KeptStates.{KeepsState}
use Rattle.ap_cycle.specs.Signals.{Signals, shown_row}
use Rattle.ap_cycle.proofs.Proper.{works_goes}
use Rattle.ap_cycle.proofs.Run.{holds_each, rows_each}
use Rattle.ap_cycle.proofs.Shown.{Goes, ShowsBusy, ShowsStage, Works}
use Rattle.ap_cycle.proofs.Stages.{flight_shown, stage_asks, stage_busy}

module _ (design : Design) (cards : List Card) (image : Image) (trace : Trace) (c : ℕ) (signals : ℕ → Signals) (fits : FitsCards design cards) (memories : length image.mems ≡ length design.mems) (circuit : IsCircuit design cards image trace c signals) where
  busy_there : (j : ℕ) → j < c → ProperBefore design signals j → EachStage design (ShowsBusy design (inputs_at design trace j) (signals j))
  busy_there j h proper stage low high = stage_busy design (inputs_at design trace j) (signals j) stage (circuit.busy j h proper stage low high)

  stage_shown : (j : ℕ) → j < c → ProperBefore design signals (j + 1) → EachStage design (ShowsStage design cards (inputs_at design trace j) (signals j))
  stage_shown j h proper stage low high =
      let busy = busy_there j h (λ i below. proper i (omega (arith, below))) stage low high in
      record {
        flight = λ flight has there. flight_shown design cards fits (inputs_at design trace j) (signals j) stage flight has there (busy.flight flight has there) (λ free. circuit.shown j h proper stage low high free flight has there);
        free = busy.free;
        quiet = circuit.quiet j h stage low high;
      }

  works : Works design cards image trace c signals
  works = record {
    starts = circuit.starts;
    hold = circuit.hold;
    asked = λ j h stage low high. stage_asks design cards fits (inputs_at design trace j) (signals j) stage (circuit.asked j h stage low high);
    busy = busy_there;
    cycles = λ j h proper. record { stages = stage_shown j h proper; hold = circuit.hold j h; theirs = circuit.writes j h; fetches = circuit.fetches j h };
    next = circuit.next;
  }

  goes : Goes design cards image trace c signals
  goes = works_goes design cards image fits.clean (none_live_first design cards (clean_is_runnable design cards fits)) (stable_asks design cards fits) trace c signals works memories (flights_have_locals design cards image trace (clean_is_runnable design cards fits))

  pub circuit_holds : (j : ℕ) → j ≤ c → KeepsState design (signals j) (over design cards image trace j)
  circuit_holds = holds_each design cards image trace c signals (none_live_first design cards (clean_is_runnable design cards fits)) fits.clean memories (flights_have_locals design cards image trace (clean_is_runnable design cards fits)) goes

  pub circuit_rows : (j : ℕ) → j < c → shown_row design (signals j) ≡ row design cards image trace j
  circuit_rows = rows_each design cards image trace c signals (none_live_first design cards (clean_is_runnable design cards fits)) fits.clean memories (flights_have_locals design cards image trace (clean_is_runnable design cards fits)) goes
