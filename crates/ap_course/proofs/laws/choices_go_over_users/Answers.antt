use Rattle.ap_course.proofs.Choosing.{over_users}
use Rattle.ap_course.proofs.laws.choices_go_over_users.Goals as goal

pub returns : goal.returns
returns c = over_users
