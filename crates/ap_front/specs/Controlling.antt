-- Control, by the names at which its nets stand and at which it shows what it says.
use Rattle.std.specs.Prelude.{◌≡◌, ◌≢◌, ℕ, ◌-◌, List, [], ◌∷◌, codes, length, map, Contains}
use Rattle.ap_desc.specs.declared.design.Design.{Design}
use Rattle.ap_net.specs.declared.cell.Wire.{Wire}
use Rattle.ap_net.specs.Draft.{Draft, Extends}
use Rattle.ap_net.specs.Late.{IsLate}
use Rattle.ap_net.specs.Ready.{Dependence, ReadyAfter}
use Rattle.ap_net.specs.Modules.{ModuleText}
use Rattle.ap_net.specs.Readings.{Carries}
use Rattle.ap_pipe.specs.declared.table.StageSlots.{StageSlots}
use Rattle.ap_signals.specs.NetRuns.{valid_name}
use Rattle.ap_ctl.specs.declared.nets.ControlGiven.{ControlGiven}
use Rattle.ap_ctl.specs.declared.nets.ControlNets.{ControlNets}
use Rattle.ap_ctl.specs.Given.{slow_units}
use Rattle.ap_ctl.specs.Meaning.{is_held}
use Rattle.ap_ctl.specs.Lists.{EachFrom, EachPair}
use Rattle.ap_ctl.specs.Nets.{AddsControl, IsControl, Shows}
use Rattle.ap_flight.specs.declared.stage.Coming.{Coming}
use Rattle.ap_flight.specs.declared.stage.StageRegisters.{StageRegisters}
use Rattle.ap_border.specs.Control.{HasControl, IsBusyOf}
use Rattle.ap_border.specs.Named.{IsNamed, IsZeroNamed}
use Rattle.ap_front.specs.declared.registers.Registers.{Registers}
use Rattle.ap_front.specs.Driven.{IsFlying}

-- the words of the stages from 1 on
abbrev pub words_of : List StageRegisters → List Wire
words_of stages = map (λ (r : StageRegisters). r.word) stages

-- The nets of control in a draft: the valid bits and what it is given stand at their names, and two outputs show whether the stages are held
-- and a transfer is taken, by copies of its nets.
pub record IsControlled (design : Design) (d : Draft) (given : ControlGiven) (nets : ControlNets) (hold stall kill : Wire) : Type 0 where
  pub control : IsControl design given d nets
  pub valid : EachFrom (λ stage. IsZeroNamed d (valid_name stage)) 1 nets.valid
  pub count : length nets.valid ≡ design.stages - 1
  pub wait_named : IsNamed d (codes "mwait") given.mwait
  pub first : Contains nets.hold hold
  pub stall_named : IsNamed d (codes "stall") stall
  pub stall_shows : Carries d 1 (λ r x. x ≡ r.read hold.number) stall
  pub kill_named : IsNamed d (codes "kill") kill
  pub kill_shows : Carries d 1 (λ r x. x ≡ r.read nets.kill.number) kill

-- this goes on where the draft grows
abbrev pub ControlGoesOn : Type 0
ControlGoesOn = (design : Design) (a b : Draft) (given : ControlGiven) (nets : ControlNets) (hold stall kill : Wire) → Extends a b → IsControlled design a given nets hold stall kill → IsControlled design b given nets hold stall kill

-- With the registers of flights, driven, whose words control is given, and the busy nets of units, it is what the border asks.
abbrev pub ControlGivesBorder : Type 0
ControlGivesBorder = (design : Design) (d : Draft) (modules : List ModuleText) (given : ControlGiven) (nets : ControlNets) (hold stall kill idata pc_from : Wire) (stages : List StageSlots) (r : Registers) (comings : List Coming)
    → IsControlled design d given nets hold stall kill → IsFlying design d idata pc_from stages r comings → given.words ≡ words_of r.stages → EachPair (IsBusyOf design d modules) (slow_units design) given.busy → HasControl design d modules given nets

-- the busy net of a unit stays where the draft grows
abbrev pub BusyGoesOn : Type 0
BusyGoesOn = (design : Design) (a b : Draft) (modules : List ModuleText) (units : List ℕ) (busy : List Wire) → Extends a b → EachPair (IsBusyOf design a modules) units busy → EachPair (IsBusyOf design b modules) units busy

-- each net of control that says whether the stages are held says it of every stage, as the border asks of the flights
abbrev pub HoldsEachStage : Type 0
HoldsEachStage = (design : Design) (d : Draft) (given : ControlGiven) (nets : ControlNets) (hold : Wire) → IsControl design given d nets → Contains nets.hold hold → (stage : ℕ) → Shows design given nets.valid d (λ look. is_held design look stage) hold

-- The two outputs got their copies of control's nets, and nothing else came.
pub record ShowsControl (control : ControlNets) (stall kill : Wire) (old new : Draft) : Type 0 where
  pub hold : Wire
  pub first : Contains control.hold hold
  pub stall_shows : Carries new 1 (λ r x. x ≡ r.read hold.number) stall
  pub kill_shows : Carries new 1 (λ r x. x ≡ r.read control.kill.number) kill
  pub extends : Extends old new
  pub nexts : new.nexts ≡ old.nexts
  pub nets : new.nets ≡ old.nets
  pub instances : new.instances ≡ old.instances
  pub late : (x : Wire) → x.number ≢ stall.number → x.number ≢ kill.number → IsLate old x → IsLate new x
  pub stall_came : (by : Dependence) → ReadyAfter by new (hold.number ∷ []) stall.number
  pub kill_came : (by : Dependence) → ReadyAfter by new (control.kill.number ∷ []) kill.number

-- the valid bits that came with control stand at their names
abbrev pub ValidBitsAreNamed : Type 0
ValidBitsAreNamed = (design : Design) (given : ControlGiven) (old new : Draft) (nets : ControlNets) → AddsControl design given old new nets → EachFrom (λ stage. IsZeroNamed new (valid_name stage)) 1 nets.valid × (length nets.valid ≡ design.stages - 1)
