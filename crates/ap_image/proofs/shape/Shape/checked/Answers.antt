use Rattle.ap_image.proofs.ShapeNames.{makes_shape, no_shape}
use Rattle.ap_image.proofs.shape.Shape.checked.Goals as goal

pub returns-then-not-are_mems_named-clause-none : goal.returns-then-not-are_mems_named-clause-none
returns-then-not-are_mems_named-clause-none c = no_shape c.args.code_address c.args.code_width c.args.mems c.args.inputs (let said = c.are_mems_named.ensures in cc)

pub new-requires : goal.new-requires
new-requires c = makes_shape c.args.code_address c.args.code_width c.args.mems c.args.inputs (let said = c.are_mems_named.ensures in cc)
