-- What control is given: the words of the stages, mwait, whether a transfer is taken, and the busy nets of units.
use Rattle.std.specs.Prelude.{◌≡◌, ℕ, ◌-◌, ◌==◌, ◌&&◌, nat_lt, Bool, List, ◌∷◌, ◌++◌, filter, length, map, zip}
use Rattle.std.specs.List.{AllByRecursion as Each, list_any, range_with_len}
use Rattle.ap_desc.specs.Ports.{micros_in}
use Rattle.ap_desc.specs.declared.design.Design.{Design}
use Rattle.ap_desc.specs.declared.design.Micro.{Micro}
use Rattle.ap_desc.specs.declared.design.Instr.{Instr}
use Rattle.ap_model.specs.Fire.{lines_in}
use Rattle.ap_model.specs.Stalls.{is_memory_line}
use Rattle.ap_model.specs.UnitUse.{is_use_of, latency_of}
use Rattle.ap_net.specs.declared.cell.Wire.{Wire}
use Rattle.ap_net.specs.declared.net.ModuleNet.{ModuleNet}
use Rattle.ap_net.specs.Cells.{IsNet}
use Rattle.ap_net.specs.Ready.{numbers}
use Rattle.ap_ctl.specs.declared.nets.ControlGiven.{ControlGiven}
use Rattle.ap_ctl.specs.Building.{IsBit}

-- the unit takes more than one cycle
abbrev pub is_slow_unit : Design → ℕ → Bool
is_slow_unit design unit = nat_lt 1 (latency_of design unit)

-- the units that take more than one cycle, in the order of their declaration
abbrev pub slow_units : Design → List ℕ
slow_units design = filter (is_slow_unit design) (range_with_len 0 (length design.units))

-- a line of the stage uses the unit
abbrev pub is_used_in : Design → ℕ → ℕ → Bool
is_used_in design stage unit = list_any (λ (m : Micro). (m.stage == stage) && is_use_of unit m.act) (micros_in design)

-- a net that has the bits of a code word
pub record IsWordNet (design : Design) (nets : List ModuleNet) (w : Wire) : Type 0 where
  pub net : IsNet nets w
  pub wide : w.width ≡ design.word

-- there is the word of each stage from 1 on, and the busy net of each slow unit
pub record IsGiven (design : Design) (nets : List ModuleNet) (given : ControlGiven) : Type 0 where
  pub stages : length given.words ≡ design.stages - 1
  pub words : Each (IsWordNet design nets) given.words
  pub mwait : IsBit nets given.mwait
  pub taken : IsBit nets given.taken
  pub units : length given.busy ≡ length (slow_units design)
  pub busy : Each (IsBit nets) given.busy

-- the nets on which it depends whether a stage is held
abbrev pub holding : ControlGiven → List ℕ
holding given = given.mwait.number ∷ numbers given.words ++ numbers given.busy

-- and those on which a kill depends besides
abbrev pub killing : ControlGiven → List ℕ
killing given = given.taken.number ∷ holding given

-- Of lists of nets those that count.

abbrev pub net_of : {X : Type 0} → X × Wire → Wire
net_of p = p.1

-- the busy nets of the units that the stage uses
abbrev pub unit_nets : Design → ℕ → List Wire → List Wire
unit_nets design stage busy = map net_of (filter (λ (p : ℕ × Wire). is_used_in design stage p.0) (zip (slow_units design) busy))

-- the instruction has a memory line in the stage
abbrev pub has_memory_line_in : ℕ → Instr → Bool
has_memory_line_in stage instr = list_any (λ (m : Micro). is_memory_line m.act) (lines_in stage instr)

-- the conditions of the instructions that have a memory line in the stage
abbrev pub memory_nets : Design → ℕ → List Wire → List Wire
memory_nets design stage conditions = map net_of (filter (λ (p : Instr × Wire). has_memory_line_in stage p.0) (zip design.instrs conditions))
