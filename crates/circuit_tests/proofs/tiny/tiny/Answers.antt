use Rattle.std.proofs.Common.{[], ◌∷◌}
use Rattle.ap_net.specs.Draft.{Draft}
use Rattle.ap_net.specs.Modules.{ModuleText}
use Rattle.ap_net.specs.Finished.{IsFinished}
use Rattle.circuit_tests.specs.Tiny.{tiny_by}
use Rattle.circuit_tests.proofs.Smallest.{exchanged, tiny_clocked, tiny_within}
use Rattle.circuit_tests.proofs.tiny.tiny.Goals as goal

pub finish-requires-clause-driven : goal.finish-requires-clause-driven
finish-requires-clause-driven c = record {
  driven = c.ready_nets_are_driven.ensures tiny_by c.in_ok-out.out c.in_ok-out.ensures.ready;
  clocked = tiny_clocked c.in_ok-out.out c.args.width c.in_ok-out.ensures.clocked c.in_ok-out.ensures.nexts;
}

pub returns : goal.returns
returns c =
    let d : Draft = c.in_ok-out.out in
    let m : ModuleText = c.in_ok-top.top in
    let fin : IsFinished d m = c.in_ok-top.ensures in (
      d,
      fin,
      λ exchange card named ports kept slow unit given looks.
          c.ready_nets_respond.ensures tiny_by d c.rules.ensures c.in_ok-out.ensures.ready m (exchange ∷ []) fin (record {
            each = (kept, tt);
            kept = c.rules-2.ensures;
            within = tiny_within fin.place exchange m d _ c.in_ok-out.ensures.placed fin.instances (exchanged c.args.unit.now exchange _ c.in_ok-out.ensures.connects named ports);
            ordered = (unit.ordered, tt);
            dependent = (c.slow_units_depend.ensures exchange card c.args.width slow unit, tt);
          }) given looks,
    )
