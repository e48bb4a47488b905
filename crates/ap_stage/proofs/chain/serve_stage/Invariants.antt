use Rattle.std.proofs.Common.{◌≡◌, ℕ, ◌<◌, take, Some}
use Rattle.std.specs.Prelude.{slice_get}
use Rattle.std.specs.List.{AllByRecursion as Each}
use Rattle.ap_stage.specs.declared.chain.Node.{Node}
use Rattle.ap_stage.specs.Chained.{AreNodes, IsServedNode, IsWhole, UsesOnly}
use Rattle.ap_stage.specs.Courses.{AreSame, IsCourse}
use Rattle.ap_stage.specs.Served.{ServesNodes, StayReady}
use Rattle.ap_stage.proofs.chain.serve_stage.Given as goal

-- the ports so far serve, and the others can be served
abbrev pub invariant-loop-place : goal.invariant-loop-place
invariant-loop-place l = record {
  courses : Each (IsCourse l.out l.ground) l.courses;
  same : AreSame l.fn.courses l.courses;
  whole : Each IsWhole l.courses;
  only : Each (UsesOnly l.nodes) l.courses;
  served : (p : ℕ) (n : Node) → p < l.place → slice_get l.nodes p ≡ Some n → IsServedNode l.out l.ground l.modules l.courses n;
  rest : AreNodes l.out l.ground l.courses l.nodes l.modules l.place;
  serves : ServesNodes (take l.place l.nodes) l.fn.out l.out;
  ready : StayReady l.ground (take l.place l.nodes) l.fn.out l.fn.courses l.out l.courses;
}
