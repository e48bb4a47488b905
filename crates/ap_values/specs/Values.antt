-- The values of operands of a stage's instructions, and what the stage does besides its locals, by these.
use Rattle.std.specs.Prelude.{◌≡◌, ℕ, List, slice_get, Some}
use Rattle.std.specs.Option.{option_map_or}
use Rattle.ap_bits.specs.declared.card.Card.{Card}
use Rattle.ap_desc.specs.Clean.{FitsCards}
use Rattle.ap_desc.specs.declared.design.Arg.{Arg}
use Rattle.ap_desc.specs.declared.design.Design.{Design}
use Rattle.ap_desc.specs.declared.design.Instr.{Instr}
use Rattle.ap_model.specs.declared.storage.WritePort.{WritePort}
use Rattle.ap_net.specs.declared.cell.Wire.{Wire}
use Rattle.ap_net.specs.Draft.{Draft}
use Rattle.ap_net.specs.Modules.{ModuleText}
use Rattle.ap_net.specs.Readings.{Reading}
use Rattle.ap_ctl.specs.declared.nets.ControlGiven.{ControlGiven}
use Rattle.ap_ctl.specs.declared.nets.ControlNets.{ControlNets}
use Rattle.ap_stage.specs.declared.chain.Node.{Node}
use Rattle.ap_stage.specs.declared.node.Course.{Course}
use Rattle.ap_stage.specs.declared.source.Ground.{Ground}
use Rattle.ap_border.specs.Files.{HasFiles}
use Rattle.ap_border.specs.Flights.{HasFlights}
use Rattle.ap_border.specs.StageData.{HasInstr}
use Rattle.ap_data.specs.Stage.{IsLinkNet, IsStageOf, data_value}
use Rattle.ap_whole.specs.Effects.{HasTransfer, HasWrites, LeavesStage}
use Rattle.ap_whole.specs.Handed.{course_value}

-- the value of an operand of the instruction of this number
abbrev pub data_values : Design → Ground → List Course → ℕ → Reading → Arg → ℕ
data_values design ground courses k r a = option_map_or (λ (c : Course). data_value design r ground c a) (slice_get courses k) 0

-- Each instruction of a stage has its data, by these values.
abbrev pub InstrsAreByData : Type 0
InstrsAreByData = (design : Design) (cards : List Card) (d : Draft) (modules : List ModuleText) (files : HasFiles design d modules) (units : List ModuleText) (home : ℕ → Instr → ℕ → ℕ) (stage : ℕ) (base : Ground) (courses : List Course) (nodes : List Node)
    → FitsCards design cards → IsStageOf design cards d modules files units home stage base courses nodes → (k : ℕ) (instr : Instr) → slice_get design.instrs k ≡ Some instr
    → (h : HasInstr design cards d modules files home stage base.word base.place instr) × ((r : Reading) (a : Arg) → data_values design base courses k r a ≡ h.value r a)

-- What a stage writes by the values of its nets, it writes by these.
abbrev pub WritesAreByData : Type 0
WritesAreByData = (design : Design) (d : Draft) (modules : List ModuleText) (given : ControlGiven) (nets : ControlNets) (ground : Ground) (courses : List Course) (stage : ℕ) (p : WritePort) → IsLinkNet design stage d ground.place ground.link
    → HasWrites design d modules given nets ground.word (course_value ground courses) stage p → HasWrites design d modules given nets ground.word (data_values design ground courses) stage p

-- So it is with the transfer,
abbrev pub TransfersAreByData : Type 0
TransfersAreByData = (design : Design) (d : Draft) (modules : List ModuleText) (given : ControlGiven) (nets : ControlNets) (ground : Ground) (target : Wire) (courses : List Course) → IsLinkNet design design.branch d ground.place ground.link
    → HasTransfer design d modules given nets ground.word target (course_value ground courses) → HasTransfer design d modules given nets ground.word target (data_values design ground courses)

-- and with the locals that leave.
abbrev pub LeavesAreByData : Type 0
LeavesAreByData = (design : Design) (d : Draft) (modules : List ModuleText) (home : ℕ → Instr → ℕ → ℕ) (flights : HasFlights design d) (ground : Ground) (courses : List Course) (stage : ℕ)
    → LeavesStage design d modules home flights ground.word (course_value ground courses) stage → LeavesStage design d modules home flights ground.word (data_values design ground courses) stage
