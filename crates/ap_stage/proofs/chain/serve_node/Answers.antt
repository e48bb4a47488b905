use Rattle.std.proofs.Common.{length, refl}
use Rattle.std.proofs.lemmas.Option.{slice_get_read, slice_get_within}
use Rattle.ap_stage.proofs.Chained.{ready_quick, served_quick}
use Rattle.ap_stage.proofs.chain.serve_node.Goals as goal

pub returns-in_ok-serve_quick-in-Quick-clause-served : goal.returns-in_ok-serve_quick-in-Quick-clause-served
returns-in_ok-serve_quick-in-Quick-clause-served c =
    let node = rw c.in-Quick.is at c.requires.node in
    let modules = c.args.modules.now in
    let u = c.in-Quick.unit in
    let inside = slice_get_within modules u.module node.0 node.1 in
    let at = slice_get_read modules (length modules) u.module c.index-modules-unit.result refl inside c.index-modules-unit.is in
    let y = c.in_ok-serve_quick-in-Quick.ensures in
    rw c.in-Quick.is (served_quick _ _ c.args.ground.now modules u c.index-modules-unit.result _ at y.served y.places)

pub returns-in_ok-serve_quick-in-Quick-clause-ready : goal.returns-in_ok-serve_quick-in-Quick-clause-ready
returns-in_ok-serve_quick-in-Quick-clause-ready c = rw c.in-Quick.is (ready_quick c.args.ground.now c.in-Quick.unit _ _ c.args.courses.now _ c.in_ok-serve_quick-in-Quick.ensures.from)

pub returns-in_ok-serve_slow-in-Slow-clause-ready : goal.returns-in_ok-serve_slow-in-Slow-clause-ready
returns-in_ok-serve_slow-in-Slow-clause-ready c = rw c.in-Slow.is c.in_ok-serve_slow-in-Slow.ensures.ready

pub returns-in_ok-serve_read-in-Read-clause-ready : goal.returns-in_ok-serve_read-in-Read-clause-ready
returns-in_ok-serve_read-in-Read-clause-ready c = rw c.in-Read.is c.in_ok-serve_read-in-Read.ensures.ready
