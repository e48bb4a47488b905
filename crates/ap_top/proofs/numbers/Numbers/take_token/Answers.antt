use Rattle.ap_top.proofs.Matching.{tagged_takes, tagged_not}
use Rattle.ap_top.proofs.numbers.Numbers.take_token.Goals as goal

pub returns-in-Some : goal.returns-in-Some
returns-in-Some c = tagged_takes _ _ _ c.in-Tagged.tag c.in-Tagged.letter _ _ _ c.in-Tagged.is c.in-Some.ensures c.take_number-in-Some.ensures

pub returns-in-None : goal.returns-in-None
returns-in-None c = tagged_not _ _ c.in-Tagged.tag c.in-Tagged.letter _ c.in-Tagged.is c.in-None.ensures
