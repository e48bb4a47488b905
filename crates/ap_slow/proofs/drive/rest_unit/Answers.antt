use Rattle.std.proofs.Common.{[]}
use Rattle.ap_net.proofs.Laws.{Extends-trans}
use Rattle.ap_slow.proofs.DrivenOne.{drives_more, rest_later}
use Rattle.ap_slow.proofs.drive.rest_unit.Goals as goal

pub returns-clause-rest : goal.returns-clause-rest
returns-clause-rest c =
    let e = c.in_ok-rest-5.ensures.drives.extends in
    let d = Extends-trans _ _ _ c.in_ok-rest-4.ensures.drives.extends e in
    let b = Extends-trans _ _ _ c.in_ok-rest-3.ensures.drives.extends d in
    let a = Extends-trans _ _ _ c.in_ok-rest-2.ensures.drives.extends b in
    (rest_later _ _ _ a c.in_ok-rest.ensures.rest, (rest_later _ _ _ b c.in_ok-rest-2.ensures.rest, (rest_later _ _ _ d c.in_ok-rest-3.ensures.rest, (rest_later _ _ _ e c.in_ok-rest-4.ensures.rest, (c.in_ok-rest-5.ensures.rest, tt)))))

pub returns-clause-drives : goal.returns-clause-drives
returns-clause-drives c =
    let two = drives_more _ _ [] [] _ _ _ c.in_ok-rest.ensures.drives c.in_ok-rest-2.ensures.drives (λ P h. h) in
    let three = drives_more _ _ [] [] _ _ _ two c.in_ok-rest-3.ensures.drives (λ P h. h) in
    let four = drives_more _ _ [] [] _ _ _ three c.in_ok-rest-4.ensures.drives (λ P h. h) in
    drives_more _ _ [] [] _ _ _ four c.in_ok-rest-5.ensures.drives (λ P h. h)
