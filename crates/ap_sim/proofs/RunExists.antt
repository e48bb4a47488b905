-- A netlist that is opened runs on every image and trace that fit, for any number of cycles.
use Rattle.std.proofs.Common.{ℕ, ap, subst}
use Rattle.ap_eval.proofs.Going.{cycle_on, fits_on, new, solution}
use Rattle.ap_flat.specs.Flats.{FlatParts, IsFlattened}
use Rattle.ap_image.specs.FitsShape.{LineFitsShape, line_at}
use Rattle.ap_image.specs.declared.trace.TraceLine.{TraceLine}
use Rattle.ap_net.proofs.Answered.{line_fits}
use Rattle.ap_net.proofs.Registers.{reset_fit}
use Rattle.ap_net.proofs.Running.{cycles_run}
use Rattle.ap_net.specs.Answering.{AlwaysRuns, StateFits}
use Rattle.ap_net.specs.Outside.{Outside, shape_of}
use Rattle.ap_net.specs.Runs.{NetState}

pub always_runs : (f : FlatParts) → IsFlattened f → AlwaysRuns f.outside f.net
always_runs f is image trace c fits trace_fits =
    cycles_run f.outside f.net image trace (record { registers = reset_fit f.net is.opened; mems = fits.mems }) (λ j old state.
    let line : TraceLine = line_at trace (shape_of f.outside).inputs j in
    let ok : LineFitsShape line (shape_of f.outside) = line_fits f.outside trace.lines j trace_fits in
    let s = solution f is image.code line old fits.code.each ok state in
    record {
      valuation = s.0;
      new = new f is image.code line old fits.code.each ok state s.0 s.1 s.2;
      cycle = cycle_on f is image.code line old fits.code.each ok state s.0 s.1 s.2;
      fits = fits_on f is image.code line old fits.code.each ok state s.0 s.1 s.2;
    }) c
