use Rattle.std.proofs.Common.{subst}
use Rattle.std.proofs.lemmas.Result.{err_from_is_err_and}
use Rattle.ap_net.specs.Outside.{shape_of}
use Rattle.ap_top.specs.Simulation.{IsImageIn, IsImageRefused, StopsIn}
use Rattle.ap_top.proofs.Causes.{kept, reading_failed}
use Rattle.ap_top.proofs.Simulation.{image_at, image_stops, stops_never}
use Rattle.ap_top.proofs.simulating.read_memories.Goals as goal

pub returns-in_err-text-clause-stopped : goal.returns-in_err-text-clause-stopped
returns-in_err-text-clause-stopped g c =
    let p = err_from_is_err_and c.from_residual.result c.from_residual.ensures.1 in
    rw (p.1, p.2) tt

pub returns-in_err-text-clause-cause : goal.returns-in_err-text-clause-cause
returns-in_err-text-clause-cause g c =
    let p = err_from_is_err_and c.from_residual.result c.from_residual.ensures.1 in
    rw (p.1, p.2) (reading_failed (g.D.Desk.files c.args.desk.now) c.args.name.now _ _ c.in_err-text.field-0.0 c.in_err-text.ensures.cause c.in_err-text.ensures.missing)

pub returns-in_err-image-clause-stopped : goal.returns-in_err-image-clause-stopped
returns-in_err-image-clause-stopped g c =
    let p = err_from_is_err_and c.from_residual-in_err-image.result c.from_residual-in_err-image.ensures.1 in
    let shape = shape_of c.args.flat.now.outside in
    rw (p.1, p.2) (image_stops shape c.args.name.now c.in_ok-text.text.items (g.D.Desk.files c.args.desk.now) c.in_err-image.field-0.0 c.in_ok-text.ensures.whole
    (subst (λ t. StopsIn (IsImageRefused shape) t c.in_err-image.field-0.0) c.deref.ensures.value c.in_err-image.ensures.refused))

pub returns-in_err-image-clause-cause : goal.returns-in_err-image-clause-cause
returns-in_err-image-clause-cause g c =
    let p = err_from_is_err_and c.from_residual-in_err-image.result c.from_residual-in_err-image.ensures.1 in
    rw (p.1, p.2) (kept _ _ _ _ _ c.in_ok-text.ensures.cause (stops_never (IsImageRefused (shape_of c.args.flat.now.outside)) _ c.in_err-image.field-0.0 c.in_err-image.ensures.refused))

pub returns-clause-image : goal.returns-clause-image
returns-clause-image g c =
    let shape = shape_of c.args.flat.now.outside in
    image_at shape c.args.name.now c.in_ok-text.text.items (g.D.Desk.files c.args.desk.now) c.in_ok-image.image c.in_ok-text.ensures.whole
    (subst (λ t. IsImageIn shape t c.in_ok-image.image) c.deref.ensures.value c.in_ok-image.ensures.image)
