use Rattle.std.proofs.Common.{subst, sym}
use Rattle.ap_image.specs.ImageTexts.{image_fault}
use Rattle.ap_image.specs.TextFaults.{IsTextFault}
use Rattle.ap_net.specs.Outside.{shape_of}
use Rattle.ap_top.specs.Simulation.{IsImageIn, IsImageRefused, StopsIn}
use Rattle.ap_top.proofs.Simulation.{image_in}
use Rattle.ap_top.proofs.simulating.image_in.Goals as goal

pub returns-in-Ok-clause-image : goal.returns-in-Ok-clause-image
returns-in-Ok-clause-image c = subst (λ s. IsImageIn s c.args.text.now c.in-Ok.image) c.shape.ensures (c.in-Ok.ensures.faultless, c.in-Ok.ensures.value)

pub returns-in-Err-clause-refused : goal.returns-in-Err-clause-refused
returns-in-Err-clause-refused c =
    let shape = shape_of c.args.flat.now.outside in
    subst (λ s. StopsIn (IsImageRefused shape) c.args.text.now s) (sym c.stop_of_image.ensures)
    (image_in shape c.args.text.now c.in-Err.fault (subst (λ s. IsTextFault (image_fault s) c.args.text.now c.in-Err.fault) c.shape.ensures c.in-Err.ensures.refused))
