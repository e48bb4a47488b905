-- The nets of control: what each of them always tells, what came with them, and what they follow from.
use Rattle.std.specs.Prelude.{◌≡◌, ◌≢◌, ℕ, ◌-◌, ◌<◌, ◌≤◌, Bool, List, [], ◌∷◌, ◌++◌, length, map, zip, Contains}
use Rattle.std.specs.List.{AllByRecursion as Each, range_with_len}
use Rattle.ap_desc.specs.declared.design.Design.{Design}
use Rattle.ap_desc.specs.declared.design.Instr.{Instr}
use Rattle.ap_model.specs.Fire.{is_match}
use Rattle.ap_net.specs.declared.cell.Wire.{Wire}
use Rattle.ap_net.specs.declared.net.ModuleNet.{ModuleNet}
use Rattle.ap_net.specs.declared.net.Next.{Next}
use Rattle.ap_net.specs.declared.net.Role.TheVariants as role
use Rattle.ap_net.specs.Draft.{Draft, Extends, CanFresh, names_of}
use Rattle.ap_net.specs.Late.{StayLate}
use Rattle.ap_net.specs.Modules.{ports_among}
use Rattle.ap_net.specs.Names.{IsNew, IsNotNumbered}
use Rattle.ap_net.specs.Readings.{Carries}
use Rattle.ap_net.specs.Ready.{Dependence, ReadyAfter}
use Rattle.ap_net.specs.Runs.{bit}
use Rattle.ap_net.specs.Wiring.{IsRegister, Unclocked}
use Rattle.ap_signals.specs.NetRuns.{valid_name}
use Rattle.ap_ctl.specs.declared.nets.ControlGiven.{ControlGiven}
use Rattle.ap_ctl.specs.declared.nets.ControlNets.{ControlNets}
use Rattle.ap_ctl.specs.Building.{AddsAssigns, AddsComparisons, IsBit, IsFreshWire, Tells}
use Rattle.ap_ctl.specs.Decoding.{compared_in}
use Rattle.ap_ctl.specs.Given.{holding, killing}
use Rattle.ap_ctl.specs.Lists.{EachFrom, EachPair}
use Rattle.ap_ctl.specs.Meaning.{Look, Sees, fires, is_held, kills, next_valid}

-- The valid bits.

-- the register of a stage: one bit, 0 after the reset edge
abbrev pub valid_net : ℕ → ModuleNet
valid_net stage = record { name = valid_name stage; width = 1; role = role.Register 0 }

-- the registers of the stages from 1 on, where a net of this number comes first
abbrev pub valid_nets : ℕ → List ModuleNet
valid_nets count = map valid_net (range_with_len 1 count)

abbrev pub valid_wires : ℕ → ℕ → List Wire
valid_wires first count = map (λ number. record { number = number; width = 1 }) (range_with_len first count)

abbrev pub with_valid : Draft → ℕ → Draft
with_valid d count = record d { nets = d.nets ++ valid_nets count }

-- the name isn't that of a valid bit
abbrev pub IsNoValid : Design → List ℕ → Type 0
IsNoValid design name = (stage : ℕ) → 1 ≤ stage → stage < design.stages → valid_name stage ≢ name

-- other names than those of so many valid bits are as new as they were
abbrev pub KeepsOthers : ℕ → Draft → Draft → Type 0
KeepsOthers count old new = (name : List ℕ) → ((stage : ℕ) → 1 ≤ stage → stage ≤ count → valid_name stage ≢ name) → IsNew name (names_of old) → IsNew name (names_of new)

-- no net or instance has the name of a valid bit
abbrev pub HasNoValid : Design → Draft → Type 0
HasNoValid design d = (stage : ℕ) → 1 ≤ stage → stage < design.stages → IsNew (valid_name stage) (names_of d)

-- the register is there with one bit, and takes nothing yet
pub record IsFreeRegister (d : Draft) (w : Wire) : Type 0 where
  pub net : IsBit d.nets w
  pub register : IsRegister d.nets w.number
  pub free : Unclocked d.nexts w.number

abbrev pub next_by : Wire × Wire → Next
next_by p = record { register = p.0; from = p.1 }

-- each of the registers takes the net of its place
abbrev pub with_nexts : Draft → List Wire → List Wire → Draft
with_nexts d registers nets = record d { nexts = d.nexts ++ map next_by (zip registers nets) }

-- What the nets tell.

-- the net always tells what control means of it
abbrev pub Shows : Design → ControlGiven → List Wire → Draft → (Look → Bool) → Wire → Type 0
Shows design given valid d meaning w = Carries d 1 (λ r x. (look : Look) → Sees design given valid r look → x ≡ bit (meaning look)) w

-- the register takes a net that always tells this
pub record Takes (design : Design) (given : ControlGiven) (valid : List Wire) (d : Draft) (meaning : Look → Bool) (register : Wire) : Type 0 where
  pub from : Wire
  pub next : Contains d.nexts (record { register = register; from = from })
  pub shows : Shows design given valid d meaning from

-- the conditions of a stage's instructions: whether the word matches, be it valid or not
abbrev pub AreDecoded : Design → Draft → Wire → List Wire → Type 0
AreDecoded design d word conditions = EachPair (λ (i : Instr). Tells d (λ r. is_match (r.read word.number) i)) design.instrs conditions

-- the nets of control in a draft
pub record IsControl (design : Design) (given : ControlGiven) (d : Draft) (nets : ControlNets) : Type 0 where
  pub next : EachFrom (λ stage. Takes design given nets.valid d (λ look. next_valid design look stage)) 1 nets.valid
  pub decoded : EachPair (AreDecoded design d) given.words nets.decoded
  pub hold : EachFrom (λ stage. Shows design given nets.valid d (λ look. is_held design look stage)) 0 nets.hold
  pub stages : length nets.hold ≡ design.stages
  -- the whole pipeline freezes: each of the nets says it of every stage
  pub frozen : (stage : ℕ) → Each (Shows design given nets.valid d (λ look. is_held design look stage)) nets.hold
  pub fires : EachFrom (λ stage. Shows design given nets.valid d (λ look. fires design look stage)) 1 nets.fires
  pub flights : length nets.fires ≡ design.stages - 1
  pub kill : Shows design given nets.valid d (kills design) nets.kill

-- What came.

-- The valid bits came, and then fresh wires, driven by cells of control. Each stage's word is compared once for each test of a field.
-- Each valid bit got what it takes. All else stays.
pub record AddsControl (design : Design) (given : ControlGiven) (old new : Draft) (nets : ControlNets) : Type 0 where
  pub extends : Extends old new
  pub valid : nets.valid ≡ valid_wires (length old.nets) (design.stages - 1)
  pub wires : (more : List ModuleNet) × (new.nets ≡ old.nets ++ valid_nets (design.stages - 1) ++ more) × Each IsFreshWire more
  pub assigns : AddsAssigns old new
  pub compares : AddsComparisons (compared_in design given.words) old new
  pub nexts : (more : List Next) × (new.nexts ≡ old.nexts ++ more) × (map (λ (x : Next). x.register) more ≡ nets.valid)
  pub instances : new.instances ≡ old.instances
  pub ports : ports_among new.nets ≡ ports_among old.nets
  pub fresh : CanFresh new
  pub names : (name : List ℕ) → IsNotNumbered name → IsNoValid design name → IsNew name (names_of old) → IsNew name (names_of new)
  pub late : StayLate old new

-- What it follows from.

-- for these registers the outside looks at no net
abbrev pub LooksAtNone : Dependence → List Wire → Type 0
LooksAtNone by registers = Each (λ (w : Wire). by.looks w.number ≡ []) registers

-- each condition of a stage follows from the stage's word alone
abbrev pub FollowsWord : Draft → Wire → List Wire → Type 0
FollowsWord d word conditions = (by : Dependence) → Each (λ (w : Wire). ReadyAfter by d (word.number ∷ []) w.number) conditions

-- What came is ready once the nets that were given are, so nothing of it depends on itself or on any other net. So are the nets that
-- are answered, whichever they are: what fires and what is killed. A condition follows from its stage's word alone, and whether a
-- stage is held doesn't follow from what is taken.
pub record FollowsGiven (given : ControlGiven) (old new : Draft) (nets : ControlNets) : Type 0 where
  pub all : (by : Dependence) → LooksAtNone by nets.valid → (n : ℕ) → length old.nets ≤ n → n < length new.nets → ReadyAfter by new (killing given) n
  pub hold : (by : Dependence) → LooksAtNone by nets.valid → Each (λ (w : Wire). ReadyAfter by new (holding given) w.number) nets.hold
  pub decoded : EachPair (FollowsWord new) given.words nets.decoded
  pub fires : (by : Dependence) → LooksAtNone by nets.valid → Each (λ (w : Wire). ReadyAfter by new (killing given) w.number) nets.fires
  pub kill : (by : Dependence) → LooksAtNone by nets.valid → ReadyAfter by new (killing given) nets.kill.number
