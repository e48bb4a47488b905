use Rattle.std.proofs.Common.{sym, ◌∙◌}
use Rattle.ap_read.proofs.Places.{in_order, number_at}
use Rattle.ap_read.proofs.place.Place.fault.Goals as goal

pub returns-then-is_past_limit : goal.returns-then-is_past_limit
returns-then-is_past_limit c = λ earlier h.
    let late = sym c.is_late.ensures ∙ c.if-is_late.false in
    let misplaced = sym c.is_misplaced.ensures ∙ c.if-is_misplaced.false in
    (in_order earlier _ _ h late misplaced, number_at earlier _ _ h late ∙ sym c.is_past_limit.ensures ∙ c.if-is_past_limit.true)

pub returns : goal.returns
returns c = λ earlier h.
    let late = sym c.is_late.ensures ∙ c.if-is_late.false in
    let misplaced = sym c.is_misplaced.ensures ∙ c.if-is_misplaced.false in
    (in_order earlier _ _ h late misplaced, number_at earlier _ _ h late ∙ sym c.is_past_limit.ensures ∙ c.if-is_past_limit.false)
