-- What follows from writes and transfer that were made: for the border, and for the order in which nets are ready.
use Rattle.std.specs.Prelude.{◌≡◌, ℕ, ◌-◌, ◌≤◌, false, true, List, [], ◌∷◌, ◌++◌, Some, flat_map, option_to_list, slice_get}
use Rattle.std.specs.List.{AllByRecursion as Each}
use Rattle.ap_desc.specs.Clean.{IsClean}
use Rattle.ap_desc.specs.declared.design.Design.{Design}
use Rattle.ap_model.specs.declared.storage.WritePort.{WritePort}
use Rattle.ap_model.specs.declared.storage.WritePort.TheVariants as port
use Rattle.ap_model.specs.Ports.{is_used, is_used_in}
use Rattle.ap_net.specs.declared.cell.Wire.{Wire}
use Rattle.ap_net.specs.Draft.{Draft, Extends}
use Rattle.ap_net.specs.Modules.{ModuleText}
use Rattle.ap_net.specs.Ready.{Dependence, numbers}
use Rattle.ap_ctl.specs.declared.nets.ControlGiven.{ControlGiven}
use Rattle.ap_ctl.specs.declared.nets.ControlNets.{ControlNets}
use Rattle.ap_ctl.specs.Lists.{EachFrom}
use Rattle.ap_ctl.specs.Meaning as control
use Rattle.ap_ctl.specs.Nets.{Shows}
use Rattle.ap_front.specs.declared.ports.GroupPorts.{GroupPorts}
use Rattle.ap_front.specs.declared.ports.MemPorts.{MemPorts}
use Rattle.ap_front.specs.declared.ports.Ports.{Ports}
use Rattle.ap_front.specs.Ports.{HasPorts}
use Rattle.ap_stages.specs.declared.stage.ServedStage.{ServedStage}
use Rattle.ap_steps.specs.Steps.{Grows}
use Rattle.ap_steps.specs.TopOrder.{Follows, StepFollows, step}
use Rattle.ap_whole.specs.Effects.{HasTransfer, HasWrites}
use Rattle.ap_whole.specs.Handed.{AreInstrCourses, course_value}
use Rattle.ap_act.specs.Acting.{WritesAll, acting}
use Rattle.ap_act.specs.Outputs.{IsOutputOf, shown_outputs}
use Rattle.ap_act.specs.Taken.{TakesTransfer}

-- In a clean design the outputs of all ports through which lines write have their names and their bits.
abbrev pub OutputsAreNamed : Type 0
OutputsAreNamed = (design : Design) (d : Draft) (p : Ports) → IsClean design → HasPorts design d p → Each (IsOutputOf design d) (shown_outputs design p)

-- The border.

-- each stage has the instructions of the design, whose conditions tell which of them the stage's word matches
abbrev pub HaveInstrs : Design → Draft → List ServedStage → Type 0
HaveInstrs design d stages = Each (λ (s : ServedStage). AreInstrCourses design d s.ground s.courses.items) stages

-- The nets say of each stage from 1 on whether it fires, or whether it has a word.
abbrev pub ShowFires : Design → Draft → ControlGiven → ControlNets → Type 0
ShowFires design d given nets = EachFrom (λ stage. Shows design given nets.valid d (λ look. control.fires design look stage)) 1 nets.fires

abbrev pub ShowValid : Design → Draft → ControlGiven → ControlNets → Type 0
ShowValid design d given nets = EachFrom (λ stage. Shows design given nets.valid d (λ look. look.valid stage)) 1 nets.valid

-- In each later draft a whole processor has the writes of each stage, by each port through which its lines write.
abbrev pub WritesAreMade : Type 0
WritesAreMade = (design : Design) (p : Ports) (old new d : Draft) (modules : List ModuleText) (given : ControlGiven) (nets : ControlNets) (stages : List ServedStage) → IsClean design → HasPorts design new p
    → WritesAll design nets.fires stages (shown_outputs design p) old new → Extends new d → HaveInstrs design d stages → ShowFires design d given nets
    → (stage : ℕ) (q : WritePort) (s : ServedStage) → 1 ≤ stage → is_used_in design stage q ≡ true → slice_get stages (stage - 1) ≡ Some s
    → HasWrites design d modules given nets s.ground.word (course_value s.ground s.courses.items) stage q

-- And it has the transfer, where control is given the wire that was driven.
abbrev pub TransferIsMade : Type 0
TransferIsMade = (design : Design) (old new d : Draft) (modules : List ModuleText) (given : ControlGiven) (nets : ControlNets) (stages : List ServedStage) (target : Wire) → IsClean design
    → TakesTransfer design nets.valid stages given.taken target old new → Extends new d → HaveInstrs design d stages → ShowValid design d given nets
    → (s : ServedStage) → slice_get stages (design.branch - 1) ≡ Some s → HasTransfer design d modules given nets s.ground.word target (course_value s.ground s.courses.items)

-- The order.

-- the numbers of the outputs that show writes, as top's order has them
abbrev pub mem_write : MemPorts → List ℕ
mem_write m = m.enable.number ∷ m.address.number ∷ m.value.number ∷ []

abbrev pub group_numbers : GroupPorts → List ℕ
group_numbers g = g.enable.number ∷ g.value.number ∷ numbers (option_to_list g.index)

abbrev pub output_numbers : Ports → List ℕ
output_numbers p = flat_map mem_write p.mems ++ flat_map group_numbers p.groups

-- the outputs of each memory that no line writes follow from nothing
abbrev pub RestFollows : Dependence → Design → Draft → Ports → Type 0
RestFollows by design d p = (mem : ℕ) (m : MemPorts) → slice_get p.mems mem ≡ Some m → is_used design (port.Memory mem) ≡ false → Each (Follows by d []) (mem_write m)

-- What came follows from what fires and from the nets of the instructions; so do all outputs, where those at rest follow from nothing.
pub record WritesFollow (by : Dependence) (design : Design) (fires : List Wire) (stages : List ServedStage) (p : Ports) (old new : Draft) : Type 0 where
  pub came : StepFollows by (acting fires stages) old new
  pub outputs : RestFollows by design new p → Each (Follows by new (acting fires stages)) (output_numbers p)
  pub grows : Grows old (step new [])

abbrev pub WritesAreReady : Type 0
WritesAreReady = (by : Dependence) (design : Design) (fires : List Wire) (stages : List ServedStage) (p : Ports) (old new : Draft) → WritesAll design fires stages (shown_outputs design p) old new
    → WritesFollow by design fires stages p old new

-- What came with the transfer follows from what has a word and from the nets of the instructions, and so does the wire.
pub record TransferFollows (by : Dependence) (valid : List Wire) (stages : List ServedStage) (taken : Wire) (old new : Draft) : Type 0 where
  pub came : StepFollows by (acting valid stages) old new
  pub taken_follows : Follows by new (acting valid stages) taken.number
  pub grows : Grows old (step new [])

abbrev pub TransferIsReady : Type 0
TransferIsReady = (by : Dependence) (design : Design) (valid : List Wire) (stages : List ServedStage) (taken target : Wire) (old new : Draft) → TakesTransfer design valid stages taken target old new
    → TransferFollows by valid stages taken old new
