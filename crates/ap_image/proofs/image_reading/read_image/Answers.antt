use Rattle.std.proofs.Common.{◌∙◌, subst}
use Rattle.std.specs.List.{AllByRecursion as Each}
use Rattle.ap_bits.specs.Names.{IsName}
use Rattle.ap_image.specs.declared.shape.MemShape.{MemShape}
use Rattle.std.proofs.lemmas.Result.{IfOk-weaker}
use Rattle.ap_image.specs.ImageTexts.{image_fault}
use Rattle.ap_image.proofs.FirstFaults.{read_back}
use Rattle.ap_image.proofs.ImageWritten.{image_written}
use Rattle.ap_image.proofs.image_reading.read_image.Goals as goal

pub returns-clause-written : goal.returns-clause-written
returns-clause-written c = λ narrow image fit e short.
    let w = image_written c.args.shape.now image c.args.text.now c.rules.ensures (subst (Each (λ (m : MemShape). IsName m.name)) c.mems.ensures c.name_rules.ensures) narrow fit e in
    read_back (image_fault c.args.shape.now) c.args.text.now image c.read_short.result short w.0 (IfOk-weaker c.read_short.result _ _ (λ read is. is ∙ w.1) c.read_short.ensures.value) c.read_short.ensures.refused
