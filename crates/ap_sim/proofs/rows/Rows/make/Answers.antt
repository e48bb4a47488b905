use Rattle.std.proofs.Common.{sym, subst}
use Rattle.ap_image.specs.FitsShape.{LineFitsShape}
use Rattle.ap_net.proofs.Answered.{line_fits}
use Rattle.ap_net.specs.Outside.{shape_of}
use Rattle.ap_sim.proofs.rows.Rows.make.Goals as goal

pub step-requires : goal.step-requires
step-requires c =
    let o = c.self.inside.bench.flat.outside in
    subst (λ line. LineFitsShape line (shape_of o)) (sym (c.line_at-inputs.ensures (shape_of o).inputs c.self.invariant.1)) (line_fits o c.self.inside.trace.now.lines c.self.inside.next c.self.invariant.0.fits)
