use Rattle.ap_course.proofs.Ordered.{are_ordered}
use Rattle.ap_course.proofs.laws.nodes_are_ordered.Goals as goal

pub returns : goal.returns
returns c = λ design cards stage courses order nodes fits are is_order of. are_ordered design cards stage courses order nodes fits are is_order of
