-- What the laws say, for proofs of the crates above.
use Rattle.std.proofs.Common.{◌≡◌, ℕ, ◌≤◌, Bool, true, false, List, Option}
use Rattle.ap_bits.specs.declared.card.Card.{Card}
use Rattle.ap_desc.specs.Clean.{FitsCards, IsClean}
use Rattle.ap_desc.specs.declared.design.Design.{Design}
use Rattle.ap_image.specs.declared.image.Image.{Image}
use Rattle.ap_image.specs.declared.trace.Trace.{Trace}
use Rattle.ap_image.specs.declared.trace.TraceLine.{TraceLine}
use Rattle.ap_model.specs.declared.state.State.{State}
use Rattle.ap_model.specs.Cycles.{after_control, over}
use Rattle.ap_model.specs.FlightLocals.{HaveLocals, is_live}
use Rattle.ap_model.specs.LineForms.{FiresByLine, ReadingsAreRight}
use Rattle.ap_model.specs.PortForms.{GoesByPorts, GoesThroughPorts, StageWritesByPorts, TargetsByLine, WritesByLine, Writing}
use Rattle.ap_model.specs.Runnable.{IsRunnable}
use Rattle.ap_model.specs.HeldStages.{HoldsAll, HoldsFromZero, all_held}
use Rattle.ap_model.specs.Stalls.{need}
use Rattle.ap_model.specs.UnitUse.{AsksAreRight, NeedsItsUnits, StableAsks, asks, latency_of}
use Rattle.ap_model.proofs.AskedByLine as asked
use Rattle.ap_model.proofs.FlightLocals as locals
use Rattle.ap_model.proofs.HeldCycles as still
use Rattle.ap_model.proofs.HeldStages as held
use Rattle.ap_model.proofs.LinesFire as lines
use Rattle.ap_model.proofs.OneTransfer as transfer
use Rattle.ap_model.proofs.PortRows as rows
use Rattle.ap_model.proofs.PortStorages as storages
use Rattle.ap_model.proofs.PortWrites as writes
use Rattle.ap_model.proofs.ReadEffects as reads
use Rattle.ap_model.proofs.StableAsks as stable
use Rattle.ap_model.proofs.StageLemmas as stages
use Rattle.ap_model.proofs.UnitNeeds as needs
use Rattle.ap_model.proofs.UsedPorts as used
use Rattle.ap_model.proofs.WritesApart.{writes_apart}

pub clean_is_runnable : (design : Design) (cards : List Card) → FitsCards design cards → IsRunnable design cards
clean_is_runnable = stages.clean_is_runnable

pub flights_have_locals : (design : Design) (cards : List Card) (image : Image) (trace : Trace) → IsRunnable design cards → (j : ℕ) → HaveLocals design 1 (over design cards image trace j).flights
flights_have_locals = locals.over_have

pub none_live_first : (design : Design) (cards : List Card) → IsRunnable design cards → (word i : ℕ) → is_live design word 1 i ≡ false
none_live_first = locals.none_live_first

pub fires_by_line : (design : Design) (cards : List Card) → FitsCards design cards → FiresByLine design cards
fires_by_line = lines.fires_by_line

pub readings_are_right : (design : Design) (cards : List Card) → FitsCards design cards → ReadingsAreRight design cards
readings_are_right = reads.readings_are_right

pub writes_by_line : (design : Design) (cards : List Card) → FitsCards design cards → WritesByLine design cards
writes_by_line = used.clean_writes_by_line

pub targets_by_line : (design : Design) → IsClean design → TargetsByLine design
targets_by_line = transfer.targets_by_line

pub stage_writes_by_ports : (design : Design) (cards : List Card) (writing : Writing) → IsClean design → StageWritesByPorts design cards writing
stage_writes_by_ports design cards writing clean stage place word held store input = writes.writes_by_ports design cards writing stage place word held store input (writes_apart design clean)

pub goes_by_ports : (design : Design) (writing : Writing) → IsClean design → GoesThroughPorts design writing → GoesByPorts design writing
goes_by_ports design writing clean theirs = record {
  groups = rows.groups_by_ports design writing (writes_apart design clean) theirs;
  storages = λ old new all stores. storages.stored design writing (writes_apart design clean) theirs old new stores all.regs all.files all.mems;
}

pub asks_are_right : (design : Design) (cards : List Card) → FitsCards design cards → AsksAreRight design cards
asks_are_right = asked.asks_are_right

pub stable_asks : (design : Design) (cards : List Card) → FitsCards design cards → StableAsks design cards
stable_asks = stable.stable_asks

pub needs_its_units : (design : Design) → NeedsItsUnits design
needs_its_units = needs.needs_its_units

pub needs_latency : (design : Design) (stage word unit : ℕ) → asks design stage word unit ≡ true → latency_of design unit ≤ need design stage word
needs_latency = needs.needs_latency

pub holds_from_zero : (design : Design) (busy : List Bool) → HoldsFromZero design busy
holds_from_zero = held.holds_from_zero

pub held_cycles : (design : Design) (cards : List Card) (image : Image) (inputs : TraceLine) (state : State) (taken : Option ℕ) → HoldsAll state (after_control design cards image inputs state (all_held taken))
held_cycles = still.held_cycles
