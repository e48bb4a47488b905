use Rattle.ap_asm.proofs.DesignShapes.{parts_have_shape}
use Rattle.ap_asm.proofs.shaping.shape_of.Goals as goal

pub new-requires : goal.new-requires
new-requires c = parts_have_shape c.args.design.now c.requires c.as_slice.result.now c.as_slice-2.result.now c.in_ok-mems.mems c.in_ok-inputs.inputs c.as_slice.ensures c.as_slice-2.ensures c.in_ok-mems.ensures c.in_ok-inputs.ensures
