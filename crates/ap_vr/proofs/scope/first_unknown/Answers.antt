use Rattle.std.proofs.Common.{arith}
use Rattle.ap_vr.specs.Reading.{HasFewLines}
use Rattle.ap_vr.specs.Scope.{unknown_in}
use Rattle.ap_vr.proofs.Scoping.{each_got, found_begins, found_further, found_here, found_nowhere}
use Rattle.ap_vr.proofs.scope.first_unknown.Goals as goal

pub loop-module-init : goal.loop-module-init
loop-module-init c = found_begins unknown_in c.args.modules.now _ _ c.new-known.ensures c.new-earlier.ensures.items

pub unknown_in-requires-clause-known : goal.unknown_in-requires-clause-known
unknown_in-requires-clause-known c = rw c.deref.ensures.value c.loop-module.invariant.names

pub unknown_in-requires-clause-few : goal.unknown_in-requires-clause-few
unknown_in-requires-clause-few c = each_got HasFewLines c.args.modules.now c.loop-module.module-index c.module-item.result c.requires (omega arith) c.module-item.is

pub returns-then-is_some : goal.returns-then-is_some
returns-then-is_some c =
    found_here unknown_in c.args.modules.now _ _ c.loop-module.module-index c.module-item.result c.in_ok-line.line c.is_some.result c.loop-module.invariant (omega arith) c.module-item.is
    (rw c.deref.ensures.value at c.in_ok-line.ensures) c.is_some.ensures c.if-is_some.true

pub add_module-requires : goal.add_module-requires
add_module-requires c = c.loop-module.invariant.names

pub loop-module-preserved : goal.loop-module-preserved
loop-module-preserved c =
    found_further unknown_in c.args.modules.now _ _ _ _ c.loop-module.module-index c.module-item.result c.in_ok-line.line c.is_some.result c.loop-module.invariant (omega arith) c.module-item.is
    (rw c.deref.ensures.value at c.in_ok-line.ensures) c.is_some.ensures c.if-is_some.false c.in_ok-add_module.ensures.known c.in_ok-add_module.ensures.found

pub returns : goal.returns
returns c = found_nowhere unknown_in c.args.modules.now _ _ c.loop-module.module-index c.loop-module.invariant (omega arith)
