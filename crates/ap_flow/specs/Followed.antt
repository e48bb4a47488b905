-- How a top grows in its last steps, and what follows from what in them.
use Rattle.std.specs.Prelude.{◌≡◌, ℕ, ◌<◌, List, [], ◌∷◌, length}
use Rattle.std.specs.List.{AllByRecursion as Each}
use Rattle.ap_desc.specs.declared.design.Design.{Design}
use Rattle.ap_net.specs.declared.cell.Wire.{Wire}
use Rattle.ap_net.specs.Draft.{Draft, Extends}
use Rattle.ap_net.specs.Modules.{ports_among}
use Rattle.ap_net.specs.Ready.{Dependence, numbers}
use Rattle.ap_pipe.specs.declared.table.SlotTable.{SlotTable}
use Rattle.ap_ctl.specs.declared.nets.ControlNets.{ControlNets}
use Rattle.ap_stages.specs.declared.stage.ServedStage.{ServedStage}
use Rattle.ap_front.specs.declared.ports.Ports.{Ports}
use Rattle.ap_front.specs.declared.registers.Registers.{Registers}
use Rattle.ap_front.specs.Opened.{front_wires}
use Rattle.ap_steps.specs.Clocked.{IsClocked}
use Rattle.ap_steps.specs.Intervals.{BeginningIsReady, CameAfter, IntervalIsReady}
use Rattle.ap_steps.specs.Steps.{AtEachStep, Grows, Step}
use Rattle.ap_steps.specs.TopOrder.{Follows, TopDrafts, TopNumbers, step}
use Rattle.ap_flow.specs.declared.flow.Flow.{Flow}
use Rattle.ap_flow.specs.Flowing.{Flows}

-- the last steps of a top
abbrev pub last_steps : Draft → Draft → Draft → List Step
last_steps flown fetched shown = step flown [] ∷ step fetched [] ∷ step shown [] ∷ []

-- Each draft grows from the one before. No port and no instance comes, and each register of the front takes something in the end.
pub record FlowGrows (design : Design) (table : SlotTable) (r : Registers) (p : Ports) (control : ControlNets) (target : Wire) (stages : List ServedStage) (made : Flow) (old new : Draft) (h : Flows design table r p control target stages made old new) : Type 0 where
  pub steps : AtEachStep Grows old (last_steps h.flown h.fetched new)
  pub extends : Extends old new
  pub instances : new.instances ≡ old.instances
  pub ports : ports_among new.nets ≡ ports_among old.nets
  pub clocked : Each (IsClocked new) (front_wires r)

abbrev pub FlowsGrow : Type 0
FlowsGrow = (design : Design) (table : SlotTable) (r : Registers) (p : Ports) (control : ControlNets) (target : Wire) (stages : List ServedStage) (made : Flow) (old new : Draft) (h : Flows design table r p control target stages made old new)
    → FlowGrows design table r p control target stages made old new h

-- These are the numbers of the front, of its outputs and of control,
pub record NumbersFlow (r : Registers) (p : Ports) (control : ControlNets) (n : TopNumbers) : Type 0 where
  pub front : n.front ≡ numbers (front_wires r)
  pub hold : n.hold ≡ numbers control.hold
  pub kill : n.kill ≡ control.kill.number
  pub address : n.address ≡ p.iaddr.number
  pub stall : n.stall ≡ p.stall.number
  pub kill_shown : n.kill_shown ≡ p.kill.number

-- and these are the drafts.
pub record DraftsFlow (design : Design) (table : SlotTable) (r : Registers) (p : Ports) (control : ControlNets) (target : Wire) (stages : List ServedStage) (made : Flow) (old new : Draft) (h : Flows design table r p control target stages made old new) (t : TopDrafts) : Type 0 where
  pub transferred : t.transferred ≡ old
  pub flown : t.flown ≡ h.flown
  pub fetched : t.fetched ≡ h.fetched
  pub shown : t.shown ≡ new

-- What came in the last steps follows from nets that were there before. The address follows from the registers of the front, and what is
-- shown from control.
pub record FollowsFlow (by : Dependence) (t : TopDrafts) (n : TopNumbers) : Type 0 where
  pub flown : BeginningIsReady by t.shown t.transferred → IntervalIsReady by t.shown t.transferred t.flown
  pub fetched : (from : List ℕ) × Each (λ k. k < length t.transferred.nets) from × CameAfter by from t.flown t.fetched
  pub shown : t.shown.nets ≡ t.fetched.nets
  pub address : Follows by t.fetched n.front n.address
  pub stall : Follows by t.shown n.hold n.stall
  pub kill : Follows by t.shown (n.kill ∷ []) n.kill_shown

abbrev pub FlowsFollow : Type 0
FlowsFollow = (by : Dependence) (design : Design) (table : SlotTable) (r : Registers) (p : Ports) (control : ControlNets) (target : Wire) (stages : List ServedStage) (made : Flow) (old new : Draft) (h : Flows design table r p control target stages made old new)
    (t : TopDrafts) (n : TopNumbers) → DraftsFlow design table r p control target stages made old new h t → NumbersFlow r p control n → FollowsFlow by t n
