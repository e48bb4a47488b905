use Rattle.ap_stages.proofs.Owning.{readable}
use Rattle.ap_stages.proofs.laws.own_nets_are_readable.Goals as goal

pub returns : goal.returns
returns c = λ design d slots shared registers decoded owns are count long enough stages conds regs inputs. readable design d slots shared registers decoded owns are count long enough stages conds regs inputs
