use Rattle.ap_flat.specs.Dependence.{DependsIn}
use Rattle.ap_flat.proofs.Driving.{ranked_no_loop}
use Rattle.ap_flat.proofs.opened.ranked_nets_have_no_loop.Goals as goal

pub returns : goal.returns
returns c = λ net ranked looped. ranked_no_loop (DependsIn net) ranked looped
