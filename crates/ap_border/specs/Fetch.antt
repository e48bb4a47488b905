-- What is fetched, and what the pc takes, in a finished draft that has control.
use Rattle.std.specs.Prelude.{◌≡◌, ℕ, ◌+◌, ◌%◌, ◌^◌, ◌<◌, if◌then◌else◌, codes, unwrap_or, Some, None}
use Rattle.ap_desc.specs.declared.design.Design.{Design}
use Rattle.ap_image.specs.declared.image.Image.{Image}
use Rattle.ap_image.specs.declared.trace.Trace.{Trace}
use Rattle.ap_net.specs.declared.cell.Wire.{Wire}
use Rattle.ap_net.specs.Draft.{Draft}
use Rattle.ap_net.specs.Outside.{Outside}
use Rattle.ap_net.specs.Readings.{Carries, Reading}
use Rattle.ap_net.specs.Runs.{Runs}
use Rattle.ap_cycle.specs.Circuit.{Fetches}
use Rattle.ap_signals.specs.NetRuns.{NetRun, pc_name}
use Rattle.ap_signals.specs.NetSignals.{net_signals}
use Rattle.ap_ctl.specs.declared.nets.ControlGiven.{ControlGiven}
use Rattle.ap_ctl.specs.declared.nets.ControlNets.{ControlNets}
use Rattle.ap_ctl.specs.Meaning.{Look, Sees, is_held, kills}
use Rattle.ap_border.specs.Control.{RunsControl, look_at}
use Rattle.ap_border.specs.Named.{IsNamed, IsRegisterNamed}

-- what the pc takes: it stays where stage 0 is held, takes the target where a transfer is taken, and else the next address
abbrev pub next_pc : Design → Look → (pc target : ℕ) → ℕ
next_pc design look pc target = if is_held design look 0 then pc else if kills design look then target else (pc + 1) % 2 ^ design.address

-- The pc and the address that is fetched, which is the pc; the target is what a transfer gives.
pub record HasFetch (design : Design) (d : Draft) (given : ControlGiven) (nets : ControlNets) : Type 0 where
  pub address : Wire
  pub address_named : IsNamed d (codes "iaddr") address
  pub pc : Wire
  pub pc_from : Wire
  pub pc_named : IsRegisterNamed d pc_name 0 pc pc_from
  pub shows : Carries d design.address (λ r x. x ≡ r.read pc.number) address
  pub target : Wire
  pub takes : Carries d design.address (λ r x. (look : Look) → Sees design given nets.valid r look → x ≡ next_pc design look (r.read pc.number) (r.read target.number)) pc_from

-- In each cycle the word at the pc is fetched. What is taken is the target, where a transfer is; and then the pc is what the border asks.
pub record FetchGoes (design : Design) (given : ControlGiven) (image : Image) (run : NetRun) (reading : ℕ → Reading) (target : Wire) (j : ℕ) : Type 0 where
  pub fetches : Fetches image (net_signals design run j)
  pub taken : (net_signals design run j).taken ≡ (if kills design (look_at design given run reading j) then Some ((reading j).read target.number) else None)
  pub pc : (net_signals design run (j + 1)).pc ≡ (if (net_signals design run j).hold 0 then (net_signals design run j).pc else unwrap_or (net_signals design run j).taken (((net_signals design run j).pc + 1) % 2 ^ design.address))

abbrev pub FetchIsShown : Type 0
FetchIsShown = (design : Design) (given : ControlGiven) (o : Outside) (image : Image) (trace : Trace) (run : NetRun) (c : ℕ) (reading : ℕ → Reading) → (runs : RunsControl design given run c reading)
    → Runs o run.flat image trace c run.states run.values → (has : HasFetch design runs.draft given runs.nets) → (j : ℕ) → j < c → FetchGoes design given image run reading has.target j

-- it is 0 at the start
abbrev pub FetchStarts : Type 0
FetchStarts = (design : Design) (given : ControlGiven) (run : NetRun) (c : ℕ) (reading : ℕ → Reading) → (runs : RunsControl design given run c reading) → HasFetch design runs.draft given runs.nets → (net_signals design run 0).pc ≡ 0
