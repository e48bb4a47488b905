-- The nets on which the lines of a stage stand, as a stage was begun over them.
use Rattle.std.specs.Prelude.{◌≡◌, ℕ, List, Option}
use Rattle.ap_desc.specs.declared.design.Design.{Design}
use Rattle.ap_net.specs.declared.cell.Wire.{Wire}
use Rattle.ap_net.specs.Draft.{Draft, Extends}
use Rattle.ap_bank.specs.declared.regs.RegWrite.{RegWrite}
use Rattle.ap_bank.specs.Border.{BanksRegs}
use Rattle.ap_bank.specs.Regs.{AreRegs, DrivesRegs, IsReg, TakeWrites}
use Rattle.ap_ctl.specs.Lists.{EachPair}
use Rattle.ap_front.specs.declared.ports.Ports.{Ports}
use Rattle.ap_front.specs.Ports.{HasPorts, IsInput}
use Rattle.ap_pipe.specs.declared.table.StageSlots.{StageSlots}
use Rattle.ap_stage.specs.declared.node.Course.{Course}
use Rattle.ap_stage.specs.declared.source.Ground.{Ground}
use Rattle.ap_stages.specs.declared.begin.SharedNets.{SharedNets}
use Rattle.ap_stages.specs.declared.begin.StageNets.{StageNets}
use Rattle.ap_stages.specs.Begun.{IsBegun}
use Rattle.ap_values.specs.Served.{IsNamedGround}

-- the nets that all stages read have the names of the design's registers and input ports, and each register takes something
pub record AreSharedNamed (design : Design) (d : Draft) (shared : SharedNets) : Type 0 where
  pub regs : EachPair (IsReg d) design.regs shared.regs
  pub writes : List (Option RegWrite)
  pub takes : TakeWrites d shared.regs writes
  pub inputs : EachPair (IsInput d) design.inputs shared.inputs

-- Where a stage was begun over them, the nets of its lines are what they are named for, in each draft that goes on.
abbrev pub GroundsAreNamed : Type 0
GroundsAreNamed = (design : Design) (d : Draft) (stage : ℕ) (table : StageSlots) (shared : SharedNets) (own : StageNets) (old new : Draft) (ground : Ground) (courses : List Course)
    → IsBegun design stage table shared own old new ground courses → Extends new d → AreSharedNamed design d shared → IsNamedGround design d stage ground

-- the nets that all stages read are these registers and the input ports
pub record AreSharedOf (registers : List Wire) (ports : Ports) (shared : SharedNets) : Type 0 where
  pub regs_are : shared.regs ≡ registers
  pub inputs_are : shared.inputs ≡ ports.inputs

-- The registers of a finished draft and the input ports that were declared are what the nets that all stages read are named for.
abbrev pub SharedAreNamed : Type 0
SharedAreNamed = (design : Design) (a d : Draft) (ports : Ports) (registers : List Wire) (writes : List (Option RegWrite)) (shared : SharedNets) → HasPorts design a ports → Extends a d → BanksRegs design d registers writes
    → AreSharedOf registers ports shared → AreSharedNamed design d shared

-- So are they in each draft that goes on from where the registers were declared, and driven.
abbrev pub DrivenAreNamed : Type 0
DrivenAreNamed = (design : Design) (a b d : Draft) (ports : Ports) (registers : List Wire) (writes : List (Option RegWrite)) (shared : SharedNets) → HasPorts design a ports → AreRegs a design.regs registers
    → DrivesRegs registers writes a b → Extends b d → AreSharedOf registers ports shared → AreSharedNamed design d shared
