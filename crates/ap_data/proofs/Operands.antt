-- The value of an operand that a line of a stage names is the value of its net.
use Rattle.std.proofs.Common.{◌≡◌, ℕ, refl, ◌∙◌}
use Rattle.ap_desc.specs.declared.design.Arg.{Arg}
use Rattle.ap_desc.specs.declared.design.Arg.TheVariants as arg
use Rattle.ap_desc.specs.declared.design.Design.{Design}
use Rattle.ap_net.specs.Draft.{Draft}
use Rattle.ap_net.specs.Readings.{IsSettled, Reading}
use Rattle.ap_stage.specs.declared.node.Course.{Course}
use Rattle.ap_stage.specs.declared.source.Ground.{Ground}
use Rattle.ap_stage.specs.Shown.{course_value}
use Rattle.ap_data.proofs.Linked.{links_there}
use Rattle.ap_data.specs.Operands.{IsOperandOf, OperandsAreNets}
use Rattle.ap_data.specs.Stage.{IsLinkNet, data_value}

pub same_by_net : (design : Design) (d : Draft) (stage k : ℕ) (ground : Ground) (c : Course) (a : Arg) → IsLinkNet design stage d ground.place ground.link → IsOperandOf design stage k a → (r : Reading) → IsSettled d r → course_value r ground c a ≡ data_value design r ground c a
same_by_net design d stage k ground c (arg.Local n) link o r settled = refl
same_by_net design d stage k ground c (arg.Field n) link o r settled = refl
same_by_net design d stage k ground c arg.Pc link o r settled = refl
same_by_net design d stage k ground c arg.Link link o r settled = (link (links_there design stage k o.place o.number o.instr o.line o.at o.there o.in_stage o.operand)).holds r settled

pub operands_are_nets : OperandsAreNets
operands_are_nets design d stage k ground c a w link o net = record { holds = λ r settled. net.means.holds r settled ∙ same_by_net design d stage k ground c a link o r settled }
