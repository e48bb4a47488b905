use Rattle.std.proofs.Common.{ap, sym, ◌∙◌}
use Rattle.std.specs.Str.{bytes_eq}
use Rattle.std.specs.Prelude.{position}
use Rattle.ap_vr.proofs.BuildSteps.{reset_at_place, reset_nowhere}
use Rattle.ap_vr.proofs.building.reset.Goals as goal

pub returns-in-Some-get : goal.returns-in-Some-get
returns-in-Some-get c =
    let found = c.in-Some-get.ensures.lookup in
    reset_at_place c.args.driven.now c.args.nexts.now c.args.name.now c.in-Some.place c.in-Some-get.next.now c.requires
    (sym (ap (λ n. position (bytes_eq n) c.args.driven.now) c.as_str.ensures) ∙ sym c.place.ensures ∙ c.in-Some.is) found.3.0 found.1

pub returns-in-None : goal.returns-in-None
returns-in-None c =
    reset_nowhere c.args.driven.now c.args.nexts.now c.args.name.now c.requires
    (sym (ap (λ n. position (bytes_eq n) c.args.driven.now) c.as_str.ensures) ∙ sym c.place.ensures ∙ c.in-None.is)
