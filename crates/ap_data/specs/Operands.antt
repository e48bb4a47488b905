-- The nets of operands that the lines of a stage name.
use Rattle.std.specs.Prelude.{◌≡◌, ℕ, slice_get, Some}
use Rattle.ap_desc.specs.Chains.{operands_of}
use Rattle.ap_desc.specs.declared.design.Arg.{Arg}
use Rattle.ap_desc.specs.declared.design.Design.{Design}
use Rattle.ap_desc.specs.declared.design.Instr.{Instr}
use Rattle.ap_desc.specs.declared.design.Micro.{Micro}
use Rattle.ap_net.specs.declared.cell.Wire.{Wire}
use Rattle.ap_net.specs.Draft.{Draft}
use Rattle.ap_net.specs.Readings.{Always}
use Rattle.ap_stage.specs.declared.node.Course.{Course}
use Rattle.ap_stage.specs.declared.source.Ground.{Ground}
use Rattle.ap_stage.specs.Sources.{IsOperandNet}
use Rattle.ap_data.specs.Stage.{IsLinkNet, data_value}

-- a line of an instruction of the stage names this operand
pub record IsOperandOf (design : Design) (stage k : ℕ) (a : Arg) : Type 0 where
  pub instr : Instr
  pub at : slice_get design.instrs k ≡ Some instr
  pub place : ℕ
  pub line : Micro
  pub there : slice_get instr.micros place ≡ Some line
  pub in_stage : line.stage ≡ stage
  pub number : ℕ
  pub operand : slice_get (operands_of line.act) number ≡ Some a

-- The net of such an operand has always its value.
abbrev pub OperandsAreNets : Type 0
OperandsAreNets = (design : Design) (d : Draft) (stage k : ℕ) (ground : Ground) (c : Course) (a : Arg) (w : Wire) → IsLinkNet design stage d ground.place ground.link → IsOperandOf design stage k a → IsOperandNet d ground c.scope c.row.items a w
    → Always d (λ r. r.read w.number ≡ data_value design r ground c a)
