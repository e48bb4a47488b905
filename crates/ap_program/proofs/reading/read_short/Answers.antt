use Rattle.std.proofs.Common.{sym, subst, ◌∙◌}
use Rattle.ap_image.specs.FitsShape.{MemsFit}
use Rattle.ap_model.specs.DesignShape.{shape_of}
use Rattle.ap_program.specs.LineFaults.{AreFaultless}
use Rattle.ap_dist.specs.declared.source.Source.{Source}
use Rattle.ap_program.proofs.DataFits.{mems_fit}
use Rattle.ap_program.proofs.reading.read_short.Goals as goal

pub returns-clause-faultless : goal.returns-clause-faultless
returns-clause-faultless c = subst (λ lines. AreFaultless c.args.design.now lines) (c.as_slice-lines.ensures.value ∙ c.in_ok-lines.ensures) c.in_ok-judge.ensures.ok

pub returns-clause-mems : goal.returns-clause-mems
returns-clause-mems c =
    subst (λ (s : Source). MemsFit s.mems (shape_of c.args.design.now).mems) (sym c.in_ok-source.ensures) (mems_fit c.args.design.now c.requires.clean c.as_slice-lines.result.now c.in_ok-judge.ensures.ok)
