use Rattle.std.proofs.Common.{ap, arith}
use Rattle.ap_vr.specs.Reading.{HasFewLines}
use Rattle.ap_vr.specs.Scope.{repeated_after}
use Rattle.ap_vr.proofs.Scoping.{each_got, repeats_further, repeats_here, repeats_nowhere, repeats_within}
use Rattle.ap_vr.proofs.scope.first_repeated.Goals as goal

pub loop-module-init : goal.loop-module-init
loop-module-init c = ap (λ ns. repeated_after ns c.args.modules.now) c.new-names.ensures

pub returns-then-not-new : goal.returns-then-not-new
returns-then-not-new c =
    repeats_here c.args.modules.now c.loop-module.module-index c.module-item.result c.loop-module.names c.as_str.result.now c.in_ok-new.new (omega arith) c.module-item.is c.loop-module.invariant c.as_str.ensures c.in_ok-new.ensures.new c.if-not-new.true

pub repeated_in-requires : goal.repeated_in-requires
repeated_in-requires c = each_got HasFewLines c.args.modules.now c.loop-module.module-index c.module-item.result c.requires (omega arith) c.module-item.is

pub returns-then-is_some : goal.returns-then-is_some
returns-then-is_some c =
    repeats_within c.args.modules.now c.loop-module.module-index c.module-item.result c.loop-module.names c.as_str.result.now c.in_ok-new.new (omega arith) c.module-item.is c.loop-module.invariant c.as_str.ensures c.in_ok-new.ensures.new
    c.in_ok-line.line c.is_some.result c.if-not-new.false c.in_ok-line.ensures c.is_some.ensures c.if-is_some.true

pub loop-module-preserved : goal.loop-module-preserved
loop-module-preserved c =
    repeats_further c.args.modules.now c.loop-module.module-index c.module-item.result c.loop-module.names c.as_str.result.now c.in_ok-new.new (omega arith) c.module-item.is c.loop-module.invariant c.as_str.ensures c.in_ok-new.ensures.new
    _ c.in_ok-line.line c.is_some.result c.if-not-new.false c.in_ok-new.ensures.table c.in_ok-line.ensures c.is_some.ensures c.if-is_some.false

pub returns : goal.returns
returns c = repeats_nowhere c.args.modules.now c.loop-module.module-index c.loop-module.names c.loop-module.invariant (omega arith)
