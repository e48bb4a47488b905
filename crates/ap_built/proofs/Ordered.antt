-- A top whose steps are in order is built in steps.
use Rattle.ap_steps.specs.TopOrder.{TopsAreReady}
use Rattle.ap_built.specs.Ordered.{OrderedTopsAreBuilt}

pub ordered_tops_are_built : TopsAreReady → OrderedTopsAreBuilt
ordered_tops_are_built ready by o registers t n h = record {
  name = h.name;
  begins = h.begins;
  bare = h.bare;
  grows = h.grows;
  kept = h.kept;
  looks = h.looks;
  ports = λ other agrees. let f = h.follows other agrees in (ready other t n h.grows f.stand f.work f.act).ports;
  ready = λ other agrees. let f = h.follows other agrees in (ready other t n h.grows f.stand f.work f.act).ready;
  clocked = h.clocked;
}
