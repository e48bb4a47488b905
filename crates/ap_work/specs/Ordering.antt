-- The order in which the nets of a top's second part are ready, by the numbers that they have in all of it.
use Rattle.std.specs.Prelude.{◌≡◌, ℕ, zero, suc, List, [], ◌∷◌, ◌++◌, flat_map, map}
use Rattle.std.specs.List.{AllByRecursion as Each}
use Rattle.ap_desc.specs.declared.design.Design.{Design}
use Rattle.ap_net.specs.Draft.{Draft}
use Rattle.ap_net.specs.Modules.{ModuleText}
use Rattle.ap_net.specs.Pending.{Among, CameAmong}
use Rattle.ap_net.specs.Ready.{Dependence, numbers}
use Rattle.ap_front.specs.declared.ports.Ports.{Ports}
use Rattle.ap_front.specs.declared.registers.Registers.{Registers}
use Rattle.ap_front.specs.Opened.{front_wires}
use Rattle.ap_parts.specs.Known.{AreKnown, Knows, needs_by}
use Rattle.ap_slow.specs.declared.place.SlowPlaced.{SlowPlaced}
use Rattle.ap_slow.specs.Driven.{unit_stage}
use Rattle.ap_slow.specs.Placed.{NeedAsSlow}
use Rattle.ap_steps.specs.TopOrder.{Follows, StepFollows, TopDrafts, TopNumbers, UnitFollows, UnitNumbers, holding_numbers, killing_numbers, unit_numbers}
use Rattle.ap_work.specs.declared.work.Work.{Work}
use Rattle.ap_work.specs.Working.{Works}

-- the numbers of a unit's nets
abbrev pub numbers_of : SlowPlaced → UnitNumbers
numbers_of x = record {
  sel = x.inputs.sel.number;
  a = x.inputs.a.number;
  b = x.inputs.b.number;
  go = x.inputs.go.number;
  adv = x.inputs.adv.number;
  busy = x.outputs.busy.number;
  y = x.outputs.y.number;
}

-- These are the numbers of the nets that control and the units are given and have.
pub record NumbersWork (r : Registers) (p : Ports) (made : Work) (n : TopNumbers) : Type 0 where
  pub front : n.front ≡ numbers (front_wires r)
  pub wait : Among n.given p.mwait.number
  pub valid : n.valid ≡ numbers made.nets.valid
  pub units : n.units ≡ map numbers_of made.units
  pub taken : n.taken ≡ made.taken.number
  pub decoded : n.decoded ≡ flat_map numbers made.nets.decoded
  pub hold : n.hold ≡ numbers made.nets.hold
  pub kill : n.kill ≡ made.nets.kill.number
  pub fires : n.fires ≡ numbers made.nets.fires

-- and these are the drafts
pub record DraftsWork (t : TopDrafts) (a b c d e : Draft) : Type 0 where
  pub filed : t.filed ≡ a
  pub united : t.united ≡ b
  pub stood : t.stood ≡ c
  pub controlled : t.controlled ≡ d
  pub steered : t.steered ≡ e

-- what a unit that some line uses waits for is driven by the stages
abbrev pub IsDrivenIn : List ℕ → ℕ → SlowPlaced → Type 0
IsDrivenIn driven zero x = Unit {0}
IsDrivenIn driven (suc s) x = Among driven x.inputs.sel.number × Among driven x.inputs.a.number × Among driven x.inputs.b.number

abbrev pub IsDrivenByStage : Design → List ℕ → SlowPlaced → Type 0
IsDrivenByStage design driven x = IsDrivenIn driven (unit_stage design x.unit) x

-- What came in each step is among the nets that are known, or follows from them.
pub record FollowsWork (by : Dependence) (t : TopDrafts) (n : TopNumbers) : Type 0 where
  pub united : CameAmong (flat_map unit_numbers n.units) t.filed t.united
  pub stood : CameAmong (n.taken ∷ []) t.united t.stood
  pub decoded : Each (Follows by t.controlled n.front) n.decoded
  pub hold : Each (Follows by t.controlled (holding_numbers n)) n.hold
  pub controlled : StepFollows by (killing_numbers n) t.stood t.controlled
  pub kill : Follows by t.controlled (killing_numbers n) n.kill
  pub fires : Each (Follows by t.controlled (killing_numbers n)) n.fires
  pub units : Each (UnitFollows by t n) n.units
  pub steered : StepFollows by (n.valid ++ n.decoded) t.controlled t.steered

-- It does so by an outside that looks at nothing for the valid bits, where the stages drive what units wait for.
abbrev pub WorkFollows : Type 0
WorkFollows = (by : Dependence) (design : Design) (r : Registers) (p : Ports) (own : List ModuleText) (places : List ℕ) (made : Work) (old new : Draft)
    (h : Works design r p own places made old new) (t : TopDrafts) (n : TopNumbers) → NeedAsSlow design own places by
    → DraftsWork t old h.united h.stood h.controlled new → NumbersWork r p made n → Each (λ k. by.looks k ≡ []) n.valid
    → Each (IsDrivenByStage design n.driven) made.units → FollowsWork by t n

-- By the names of their modules the units depend as they should.
abbrev pub KnownUnitsNeed : Type 0
KnownUnitsNeed = (knows : Knows) (design : Design) (own : List ModuleText) (places : List ℕ) (kinds : ℕ) (by : Dependence)
    → AreKnown knows design own places kinds → by.needs ≡ needs_by knows.names design → NeedAsSlow design own places by
