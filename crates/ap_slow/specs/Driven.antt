-- The wires go and adv of units of several cycles, driven by what control says of the stages that use them.
use Rattle.std.specs.Prelude.{◌≡◌, ◌≢◌, ℕ, zero, suc, ◌-◌, ◌<◌, ◌≤◌, ◌&&◌, not, List, [], ◌∷◌, ◌++◌, find, flat_map, length, slice_get, Some, unwrap_or}
use Rattle.std.specs.List.{AllByRecursion as Each, list_any, range_with_len}
use Rattle.ap_desc.specs.declared.design.Design.{Design}
use Rattle.ap_net.specs.declared.cell.Wire.{Wire}
use Rattle.ap_net.specs.Draft.{CanFresh, Draft, Extends, KeepsNew}
use Rattle.ap_net.specs.Late.{IsLate}
use Rattle.ap_net.specs.Modules.{ports_among}
use Rattle.ap_net.specs.Readings.{Carries}
use Rattle.ap_net.specs.Ready.{Dependence, ReadyAfter, numbers}
use Rattle.ap_net.specs.Wiring.{NoneTwice}
use Rattle.ap_ctl.specs.declared.nets.ControlNets.{ControlNets}
use Rattle.ap_ctl.specs.Building.{IsBit, Tells, is_on}
use Rattle.ap_ctl.specs.Given.{is_used_in}
use Rattle.ap_slow.specs.declared.place.SlowPlaced.{SlowPlaced}
use Rattle.ap_slow.specs.Asking.{user_conditions}
use Rattle.ap_slow.specs.Placed.{late_nets}

-- the first stage from 1 on whose lines use the unit, and 0 where there is none
abbrev pub unit_stage : Design → ℕ → ℕ
unit_stage design unit = unwrap_or (find (λ stage. is_used_in design stage unit) (range_with_len 1 (design.stages - 1))) 0

-- the nets of control by which units are asked: the valid bits and the conditions of all stages
abbrev pub asking : ControlNets → List ℕ
asking nets = numbers nets.valid ++ flat_map numbers nets.decoded

-- a condition of one bit for each instruction
pub record AreConditions (design : Design) (d : Draft) (conditions : List Wire) : Type 0 where
  pub count : length conditions ≡ length design.instrs
  pub each : Each (IsBit d.nets) conditions

-- The nets of control are there: a valid bit and conditions for each stage from 1 on, and what holds the stages.
pub record AreThere (design : Design) (d : Draft) (nets : ControlNets) : Type 0 where
  pub valid : Each (IsBit d.nets) nets.valid
  pub valid_count : length nets.valid ≡ design.stages - 1
  pub decoded : Each (AreConditions design d) nets.decoded
  pub decoded_count : length nets.decoded ≡ design.stages - 1
  pub hold : Each (IsBit d.nets) nets.hold
  pub some : 0 < length nets.hold

-- the wires that can be driven: each is to be driven later, and no two of them are one
pub record CanDrive (d : Draft) (placed : List SlowPlaced) : Type 0 where
  pub late : Each (IsLate d) (flat_map late_nets placed)
  pub apart : NoneTwice (numbers (flat_map late_nets placed))
  pub bits : Each (λ (x : SlowPlaced). (x.inputs.go.width ≡ 1) × (x.inputs.adv.width ≡ 1)) placed

-- In the stage that uses the unit, go says that the stage's word asks it, and adv that the stages aren't held. go follows from the valid
-- bits and the conditions alone.
pub record IsDriven (design : Design) (nets : ControlNets) (d : Draft) (stage : ℕ) (x : SlowPlaced) : Type 0 where
  pub valid : Wire
  pub valid_at : slice_get nets.valid (stage - 1) ≡ Some valid
  pub conditions : List Wire
  pub conditions_at : slice_get nets.decoded (stage - 1) ≡ Some conditions
  pub hold : Wire
  pub hold_at : slice_get nets.hold 0 ≡ Some hold
  pub go : Tells d (λ r. is_on r valid && list_any (is_on r) (user_conditions stage x.unit design.instrs conditions)) x.inputs.go
  pub go_ready : (by : Dependence) → ReadyAfter by d (asking nets) x.inputs.go.number
  pub adv : Tells d (λ r. not (is_on r hold)) x.inputs.adv
  pub adv_ready : (by : Dependence) → ReadyAfter by d (hold.number ∷ []) x.inputs.adv.number

-- the wire is always 0
pub record IsAtRest (d : Draft) (w : Wire) : Type 0 where
  pub never : Carries d w.width (λ r x. x ≡ 0) w
  pub ready : (by : Dependence) → ReadyAfter by d [] w.number

-- A unit that no line uses is never asked: all that reaches it is 0.
abbrev pub IsServedIn : Design → ControlNets → Draft → ℕ → SlowPlaced → Type 0
IsServedIn design nets d zero x = Each (IsAtRest d) (late_nets x)
IsServedIn design nets d (suc s) x = IsDriven design nets d (suc s) x

abbrev pub IsServed : Design → ControlNets → Draft → SlowPlaced → Type 0
IsServed design nets d x = IsServedIn design nets d (unit_stage design x.unit) x

-- what is driven: of a unit that is used go and adv, the others later by the stage
abbrev pub driven_in : ℕ → SlowPlaced → List Wire
driven_in zero x = late_nets x
driven_in (suc s) x = x.inputs.go ∷ x.inputs.adv ∷ []

abbrev pub driven_of : Design → SlowPlaced → List Wire
driven_of design x = driven_in (unit_stage design x.unit) x

-- Late wires of these numbers were driven, by wires that came and follow from these nets alone; all else stays.
pub record DrivesLate (driven from : List ℕ) (old new : Draft) : Type 0 where
  pub extends : Extends old new
  pub nexts : new.nexts ≡ old.nexts
  pub instances : new.instances ≡ old.instances
  pub ports : ports_among new.nets ≡ ports_among old.nets
  pub fresh : CanFresh new
  pub names : KeepsNew old new
  pub late : (x : Wire) → Each (λ n. n ≢ x.number) driven → IsLate old x → IsLate new x
  pub came : (by : Dependence) (n : ℕ) → length old.nets ≤ n → n < length new.nets → ReadyAfter by new from n

-- each unit is served, and nothing else was driven
pub record DrivesUnits (design : Design) (nets : ControlNets) (placed : List SlowPlaced) (old new : Draft) : Type 0 where
  pub each : Each (IsServed design nets new) placed
  pub drives : DrivesLate (numbers (flat_map (driven_of design) placed)) (asking nets) old new
