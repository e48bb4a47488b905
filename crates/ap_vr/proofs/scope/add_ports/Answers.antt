use Rattle.std.proofs.Common.{arith, refl}
use Rattle.ap_vr.specs.Scope.{port_name}
use Rattle.ap_vr.proofs.NameTables.{added_first, added_more, added_none, added_table}
use Rattle.ap_vr.proofs.scope.add_ports.Goals as goal

pub loop-place-init : goal.loop-place-init
loop-place-init c = added_none port_name c.args.from c.args.ports.now c.args.names.now

pub loop-place-preserved : goal.loop-place-preserved
loop-place-preserved c =
    added_more port_name c.args.from c.args.ports.now c.args.names.now c.loop-place.names _ c.loop-place.first _ c.loop-place.place c.index-ports-place.result c.as_str.result.now c.in_ok-new.new _
    c.loop-place.invariant c.loop-place-test.true c.index-ports-place.is c.as_str.ensures c.in_ok-new.ensures.new c.in_ok-new.ensures.table refl c.noted-first.ensures

pub returns-clause-table : goal.returns-clause-table
returns-clause-table c = added_table port_name c.args.from c.args.ports.now c.args.names.now c.loop-place.names c.loop-place.first c.loop-place.place c.loop-place.invariant (omega (arith, c.loop-place-test.false))

pub returns-clause-first : goal.returns-clause-first
returns-clause-first c = added_first port_name c.args.from c.args.ports.now c.args.names.now c.loop-place.names c.loop-place.first c.loop-place.place c.loop-place.invariant (omega (arith, c.loop-place-test.false))
