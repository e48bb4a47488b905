-- A top that was built in steps of its pieces runs as the machine.
use Rattle.ap_steps.specs.Built.{BuiltAreFinished, BuiltEndNetlists}
use Rattle.ap_steps.specs.Steps.{last_draft}
use Rattle.ap_signals.specs.DesignOutside.{outside_of}
use Rattle.ap_parts.specs.Known.{dependence_of}
use Rattle.ap_whole.specs.Whole.{WholeProcessorsRun}
use Rattle.ap_built.specs.Running.{MadeTopsRun}
use Rattle.ap_built.specs.Top.{TopsAreProcessors}

pub made_tops_run : BuiltAreFinished → BuiltEndNetlists → TopsAreProcessors → WholeProcessorsRun → MadeTopsRun
made_tops_run finished ends processors run knows cards design modules registers first steps top fits h =
    let by = dependence_of knows.names design in
    let f = finished by (outside_of design) registers first steps top h.built h.finished in
    let net = ends by (outside_of design) registers first steps top modules h.built h.finished h.kept (record { each = h.parts.each; distinct = h.parts.distinct; below = h.parts.below }) h.instances in
    record {
      netlist = net;
      runs = run by design cards (last_draft first steps) modules top fits (record {
        kept = f.kept;
        ready = f.ready;
        finished = f.finished;
        netlist = net;
        ordered = h.parts.ordered;
        dependent = h.parts.dependent;
        ports = f.ports;
        looks = f.looks;
        processor = processors design cards (last_draft first steps) modules fits h.pieces;
      });
    }
