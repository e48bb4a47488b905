-- The order in which the nets of a processor's top are ready, which isn't that of the steps in which it's built. Nets are named by their numbers.
use Rattle.std.specs.Prelude.{◌≡◌, ◌⊎◌, ℕ, ◌<◌, ◌≤◌, List, [], ◌∷◌, ◌++◌, flat_map, length, map, slice_get, Some}
use Rattle.std.specs.List.{AllByRecursion as Each}
use Rattle.ap_net.specs.declared.net.Instance.{Instance}
use Rattle.ap_net.specs.declared.net.ModuleNet.{ModuleNet}
use Rattle.ap_net.specs.Draft.{Draft}
use Rattle.ap_net.specs.Pending.{Among, CameAmong}
use Rattle.ap_net.specs.Ready.{Dependence, ReadyAfter}
use Rattle.ap_net.specs.Wiring.{IsSource}
use Rattle.ap_steps.specs.Intervals.{BeginningIsReady, CameAfter, IntervalIsReady, StepIsReady}
use Rattle.ap_steps.specs.Steps.{AtEachStep, Grows, Step}

-- The drafts, each after the step that it's named by, and the instances that were placed.
pub record TopDrafts : Type 0 where
  -- the ports; the registers of the front; those of the design, and what they take
  pub ported : Draft
  pub opened : Draft
  pub declared : Draft
  pub registered : Draft
  -- files, units of several cycles, and the wire of what is taken
  pub filed : Draft
  pub united : Draft
  pub stood : Draft
  -- control, and what it tells units
  pub controlled : Draft
  pub steered : Draft
  -- the data of the stages, and units and read ports that no line uses
  pub staged : Draft
  pub idled : Draft
  pub rested : Draft
  -- writes and the transfer
  pub written : Draft
  pub transferred : Draft
  -- registers of the front, the address that is fetched, and what control shows
  pub flown : Draft
  pub fetched : Draft
  pub shown : Draft
  pub files : List Instance
  pub slow : List Instance
  pub quick : List Instance
  pub idle : List Instance

abbrev pub step : Draft → List Instance → Step
step d instances = record { made = d; placed = instances }

abbrev pub steps_of : TopDrafts → List Step
steps_of t = step t.opened [] ∷ step t.declared [] ∷ step t.registered [] ∷ step t.filed t.files ∷ step t.united t.slow ∷ step t.stood []
    ∷ step t.controlled [] ∷ step t.steered [] ∷ step t.staged t.quick ∷ step t.idled t.idle ∷ step t.rested [] ∷ step t.written [] ∷ step t.transferred []
    ∷ step t.flown [] ∷ step t.fetched [] ∷ step t.shown [] ∷ []

-- a unit of several cycles, in the order of its ports
pub record UnitNumbers : Type 0 where
  pub sel : ℕ
  pub a : ℕ
  pub b : ℕ
  pub go : ℕ
  pub adv : ℕ
  pub busy : ℕ
  pub y : ℕ

abbrev pub unit_numbers : UnitNumbers → List ℕ
unit_numbers u = u.sel ∷ u.a ∷ u.b ∷ u.go ∷ u.adv ∷ u.busy ∷ u.y ∷ []

-- where a memory is read, and what is read
pub record MemNumbers : Type 0 where
  pub at : ℕ
  pub value : ℕ

abbrev pub mem_numbers : MemNumbers → List ℕ
mem_numbers m = m.at ∷ m.value ∷ []

pub record TopNumbers : Type 0 where
  -- registers: of the front, of the design, and the valid bits
  pub front : List ℕ
  pub regs : List ℕ
  pub valid : List ℕ
  -- ports: the address that is fetched and the word, the other inputs, memories' read ports, what shows writes, and what control shows
  pub address : ℕ
  pub word : ℕ
  pub given : List ℕ
  pub mems : List MemNumbers
  pub outputs : List ℕ
  pub stall : ℕ
  pub kill_shown : ℕ
  -- the indices at the files' read ports, units of several cycles, and the wire of what is taken
  pub indices : List ℕ
  pub units : List UnitNumbers
  pub taken : ℕ
  -- control
  pub decoded : List ℕ
  pub hold : List ℕ
  pub kill : ℕ
  pub fires : List ℕ
  -- the wires that the stages drive, and the nets of their instructions
  pub driven : List ℕ
  pub rows : List ℕ

abbrev pub port_numbers : TopNumbers → List ℕ
port_numbers n = n.address ∷ n.word ∷ n.stall ∷ n.kill_shown ∷ n.given ++ (flat_map mem_numbers n.mems ++ n.outputs)

abbrev pub go_numbers : TopNumbers → List ℕ
go_numbers n = map (λ (u : UnitNumbers). u.go) n.units

abbrev pub busy_numbers : TopNumbers → List ℕ
busy_numbers n = map (λ (u : UnitNumbers). u.busy) n.units

-- on which whether a stage is held depends, and a kill besides
abbrev pub holding_numbers : TopNumbers → List ℕ
holding_numbers n = n.given ++ (n.front ++ busy_numbers n)

abbrev pub killing_numbers : TopNumbers → List ℕ
killing_numbers n = n.taken ∷ holding_numbers n

-- on which the data of the stages stands
abbrev pub data_numbers : TopNumbers → List ℕ
data_numbers n = n.front ++ (n.regs ++ (n.given ++ (n.decoded ++ go_numbers n)))

-- The net follows from some of these, and what came in a step does.
abbrev pub Follows : Dependence → Draft → List ℕ → ℕ → Type 0
Follows by d known n = (from : List ℕ) × Each (Among known) from × ReadyAfter by d from n

abbrev pub StepFollows : Dependence → List ℕ → Draft → Draft → Type 0
StepFollows by known a b = (from : List ℕ) × Each (Among known) from × CameAfter by from a b

-- an input or a register for which the outside looks at these
pub record IsSeen (by : Dependence) (d : Draft) (looked : List ℕ) (n : ℕ) : Type 0 where
  pub net : ModuleNet
  pub there : slice_get d.nets n ≡ Some net
  pub source : IsSource net.role
  pub looks : by.looks n ≡ looked

-- the wire is driven by the stages, or it is always 0
abbrev pub IsServed : Dependence → Draft → List ℕ → ℕ → Type 0
IsServed by d driven n = Among driven n ⊎ ReadyAfter by d [] n

-- A unit of several cycles: busy follows from go alone, and y from go and the operands.
pub record UnitFollows (by : Dependence) (t : TopDrafts) (n : TopNumbers) (u : UnitNumbers) : Type 0 where
  pub sel : IsServed by t.steered n.driven u.sel
  pub a : IsServed by t.steered n.driven u.a
  pub b : IsServed by t.steered n.driven u.b
  pub go : Follows by t.steered (n.valid ++ n.decoded) u.go
  pub adv : Follows by t.steered n.hold u.adv
  pub busy : ReadyAfter by t.united (u.go ∷ []) u.busy
  pub y : ReadyAfter by t.united (u.sel ∷ u.a ∷ u.b ∷ u.go ∷ []) u.y

-- What stands before control: registers and inputs, and what the late wires serve.
pub record StandFollows (by : Dependence) (t : TopDrafts) (n : TopNumbers) : Type 0 where
  pub ports : (k : ℕ) → k < length t.ported.nets → Among (port_numbers n) k
  pub opened : CameAmong n.front t.ported t.opened
  pub declared : CameAmong n.regs t.opened t.declared
  pub front : Each (IsSeen by t.shown []) n.front
  pub regs : Each (IsSeen by t.shown []) n.regs
  pub valid : Each (IsSeen by t.shown []) n.valid
  pub given : Each (IsSeen by t.shown []) n.given
  pub word : IsSeen by t.shown (n.address ∷ []) n.word
  pub mems : Each (λ (m : MemNumbers). IsSeen by t.shown (m.at ∷ []) m.value) n.mems
  pub registered : StepFollows by (n.regs ++ n.outputs) t.declared t.registered
  pub filed : (k : ℕ) → length t.registered.nets ≤ k → k < length t.filed.nets → Among n.indices k ⊎ ReadyAfter by t.filed n.indices k
  pub united : CameAmong (flat_map unit_numbers n.units) t.filed t.united
  pub stood : CameAmong (n.taken ∷ []) t.united t.stood

-- Control and the data of the stages.
pub record WorkFollows (by : Dependence) (t : TopDrafts) (n : TopNumbers) : Type 0 where
  pub decoded : Each (Follows by t.controlled n.front) n.decoded
  pub hold : Each (Follows by t.controlled (holding_numbers n)) n.hold
  pub controlled : StepFollows by (killing_numbers n) t.stood t.controlled
  pub kill : Follows by t.controlled (killing_numbers n) n.kill
  pub fires : Each (Follows by t.controlled (killing_numbers n)) n.fires
  pub units : Each (UnitFollows by t n) n.units
  pub steered : StepFollows by (n.valid ++ n.decoded) t.controlled t.steered
  pub staged : CameAfter by (data_numbers n) t.steered t.staged
  pub driven : Each (ReadyAfter by t.staged (data_numbers n)) n.driven
  pub rows : Each (ReadyAfter by t.staged (data_numbers n)) n.rows
  pub idled : CameAfter by [] t.staged t.idled
  pub rested : CameAfter by [] t.idled t.rested
  pub indices : Each (IsServed by t.rested n.driven) n.indices
  pub reads : Each (λ (m : MemNumbers). IsServed by t.rested n.driven m.at) n.mems

-- What the lines do, and the front. The registers of the front take what follows from nets that were there before.
pub record ActFollows (by : Dependence) (t : TopDrafts) (n : TopNumbers) : Type 0 where
  pub written : StepFollows by (n.fires ++ n.rows) t.rested t.written
  pub outputs : Each (Follows by t.written (n.fires ++ n.rows)) n.outputs
  pub transferred : StepFollows by (n.valid ++ n.rows) t.written t.transferred
  pub taken : Follows by t.transferred (n.valid ++ n.rows) n.taken
  pub flown : BeginningIsReady by t.shown t.transferred → IntervalIsReady by t.shown t.transferred t.flown
  pub fetched : (from : List ℕ) × Each (λ k. k < length t.transferred.nets) from × CameAfter by from t.flown t.fetched
  pub shown : t.shown.nets ≡ t.fetched.nets
  pub address : Follows by t.fetched n.front n.address
  pub stall : Follows by t.shown n.hold n.stall
  pub kill : Follows by t.shown (n.kill ∷ []) n.kill_shown

-- all that came in each step is ready in the last draft
pub record TopIsReady (by : Dependence) (t : TopDrafts) : Type 0 where
  pub ports : BeginningIsReady by t.shown t.ported
  pub ready : AtEachStep (StepIsReady by t.shown) t.ported (steps_of t)

abbrev pub TopsAreReady : Type 0
TopsAreReady = (by : Dependence) (t : TopDrafts) (n : TopNumbers) → AtEachStep Grows t.ported (steps_of t) → StandFollows by t n → WorkFollows by t n → ActFollows by t n → TopIsReady by t
