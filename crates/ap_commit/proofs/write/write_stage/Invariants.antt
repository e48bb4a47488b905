use Rattle.std.proofs.Common.{◌∷◌, take}
use Rattle.ap_net.specs.Making.{Makes}
use Rattle.ap_ctl.specs.Lists.{EachPair}
use Rattle.ap_stage.specs.Courses.{courses_numbers}
use Rattle.ap_stage.specs.Reads.{AreFrom}
use Rattle.ap_commit.specs.Written.{IsWritten, ports_numbers}
use Rattle.ap_commit.proofs.write.write_stage.Given as goal

-- the nets of the ports so far
abbrev pub invariant-loop-used : goal.invariant-loop-used
invariant-loop-used l = record {
  written : EachPair (IsWritten l.out l.design l.stage l.ground l.courses l.fires) (take l.used-index l.ports) l.list;
  from : AreFrom (l.fires.number ∷ courses_numbers l.ground l.courses) l.fn.out l.out (ports_numbers l.list);
  makes : Makes l.fn.out l.out;
}
