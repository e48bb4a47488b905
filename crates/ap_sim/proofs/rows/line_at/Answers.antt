use Rattle.std.proofs.Common.{◌≡◌, sym, subst, ◌∙◌}
use Rattle.ap_image.specs.FitsShape.{idle, line_among}
use Rattle.ap_sim.proofs.RowSteps.{line_idle, line_there}
use Rattle.ap_sim.proofs.rows.line_at.Goals as goal

pub returns-in-Some : goal.returns-in-Some
returns-in-Some c = λ inputs is.
    let found = c.in-Some.ensures.lookup in
    sym (subst (λ lines. line_among lines inputs c.args.cycle ≡ c.in-Some.line.now) c.as_slice.ensures (line_there c.as_slice.result.now inputs c.args.cycle c.in-Some.line.now found.3.0 found.1))

pub returns-in-None : goal.returns-in-None
returns-in-None c = λ inputs is.
    let none = c.in-None.ensures.lookup in
    is ∙ sym (subst (λ lines. line_among lines inputs c.args.cycle ≡ idle inputs) c.as_slice.ensures (line_idle c.as_slice.result.now inputs c.args.cycle none.3))
