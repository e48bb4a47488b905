use Rattle.std.proofs.Common.{Bool, map, ap, ◌∙◌, List}
use Rattle.std.specs.Prelude.{filter, zip}
use Rattle.ap_net.specs.declared.cell.Wire.{Wire}
use Rattle.ap_ctl.specs.Given.{has_memory_line_in, net_of}
use Rattle.ap_ctl.proofs.Chosen.{marked_same}
use Rattle.ap_ctl.proofs.busy.memory_nets.Goals as goal

pub returns : goal.returns
returns c =
    let marks = c.as_slice-2.ensures ∙ c.of-marks.ensures ∙ c.in_ok-readers.ensures ∙ ap (map (has_memory_line_in c.args.stage)) c.as_slice.ensures in
    c.of.ensures ∙ c.in_ok-nets.ensures ∙ ap (λ (l : List Bool). map net_of (filter (λ (p : Bool × Wire). p.0) (zip l c.args.conditions.now))) marks
    ∙ marked_same (has_memory_line_in c.args.stage) c.args.design.now.instrs c.args.conditions.now
