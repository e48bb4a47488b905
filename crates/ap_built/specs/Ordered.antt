-- A processor's top whose drafts follow each other in the steps in which it is built, where what came in each follows from what it should.
use Rattle.std.specs.Prelude.{◌≡◌, List, [], codes, length, map}
use Rattle.std.specs.List.{AllByRecursion as Each}
use Rattle.ap_net.specs.declared.cell.Wire.{Wire}
use Rattle.ap_net.specs.Draft.{IsKept}
use Rattle.ap_net.specs.Modules.{port_net}
use Rattle.ap_net.specs.Outside.{Outside, ports_of}
use Rattle.ap_net.specs.Ready.{Dependence}
use Rattle.ap_runs.specs.FirstPorts.{looks_of}
use Rattle.ap_steps.specs.Built.{IsBuilt}
use Rattle.ap_steps.specs.Clocked.{IsClocked}
use Rattle.ap_steps.specs.Known.{AgreesAtKnown}
use Rattle.ap_steps.specs.Steps.{AtEachStep, Grows}
use Rattle.ap_steps.specs.TopOrder.{ActFollows, StandFollows, TopDrafts, TopNumbers, WorkFollows, steps_of}

-- what came in the steps follows as it should, by every outside that looks as it is known to
pub record FollowsInOrder (by : Dependence) (t : TopDrafts) (n : TopNumbers) : Type 0 where
  pub stand : StandFollows by t n
  pub work : WorkFollows by t n
  pub act : ActFollows by t n

-- The steps begin with the ports of the outside and nothing else, each grows from the one before, and what came in them is in order; these
-- registers take something in the end.
pub record IsTopOrdered (by : Dependence) (o : Outside) (registers : List Wire) (t : TopDrafts) (n : TopNumbers) : Type 0 where
  pub name : (t.ported).name ≡ codes "top"
  pub begins : (t.ported).nets ≡ map port_net (ports_of o)
  pub bare : (t.ported).instances ≡ []
  pub grows : AtEachStep Grows t.ported (steps_of t)
  pub kept : IsKept t.shown
  pub looks : by.looks ≡ looks_of o
  pub follows : (other : Dependence) → AgreesAtKnown (length (ports_of o)) registers by other → FollowsInOrder other t n
  pub clocked : Each (IsClocked t.shown) registers

-- then it is built in steps
abbrev pub OrderedTopsAreBuilt : Type 0
OrderedTopsAreBuilt = (by : Dependence) (o : Outside) (registers : List Wire) (t : TopDrafts) (n : TopNumbers) → IsTopOrdered by o registers t n → IsBuilt by o registers t.ported (steps_of t)
