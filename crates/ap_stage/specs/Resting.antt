-- While a module is being built, all its nets rest on some that are driven later. Those that a stage drives are none of these any more.
use Rattle.std.specs.Prelude.{ℕ, ◌<◌, List, [], ◌++◌, length}
use Rattle.std.specs.List.{AllByRecursion as Each}
use Rattle.ap_net.specs.Draft.{Draft, Extends}
use Rattle.ap_net.specs.Ready.{AllReady, Dependence, ReadyAfter, numbers}
use Rattle.ap_stage.specs.declared.chain.Node.{Node}
use Rattle.ap_stage.specs.declared.node.Course.{Course}
use Rattle.ap_stage.specs.declared.source.Ground.{Ground}
use Rattle.ap_stage.specs.Courses.{courses_numbers}
use Rattle.ap_stage.specs.Reads.{AreReadyAfter}
use Rattle.ap_stage.specs.Served.{IsReadyNode, StayReady, stage_wires}

-- every net is ready once these are, now or later
abbrev pub RestsOn : Dependence → Draft → List ℕ → Type 0
RestsOn by d pending = (n : ℕ) → n < length d.nets → ReadyAfter by d pending n

-- The wires that a stage drives leave what is pending, where the nets of its instructions rest on what stays pending, and so does what each
-- port gives, together with its wires.
abbrev pub LateWiresLeave : Type 0
LateWiresLeave = (by : Dependence) (pending : List ℕ) (ground : Ground) (nodes : List Node) (old new : Draft) (courses served : List Course) → Extends old new → RestsOn by old (numbers (stage_wires nodes) ++ pending)
    → AreReadyAfter by old pending (courses_numbers ground courses) → Each (IsReadyNode by old pending) nodes → StayReady ground nodes old courses new served → RestsOn by new pending

-- where nothing is pending, every net is ready
abbrev pub RestedAreReady : Type 0
RestedAreReady = (by : Dependence) (d : Draft) → RestsOn by d [] → AllReady by d
