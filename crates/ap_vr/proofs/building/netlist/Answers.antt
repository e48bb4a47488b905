use Rattle.std.proofs.Common.{arith, ◌∙◌, subst, sym}
use Rattle.ap_net.specs.Modules.{IsNetlist}
use Rattle.ap_vr.specs.Reading.{HasFewLines}
use Rattle.ap_vr.proofs.BuildSteps.{built_all, built_begins, built_further, distinct_here, rules_here}
use Rattle.ap_vr.proofs.BuiltNetlist.{faultless_build}
use Rattle.ap_vr.proofs.Scoping.{each_got}
use Rattle.ap_vr.proofs.building.netlist.Goals as goal

pub loop-module-init : goal.loop-module-init
loop-module-init c = built_begins c.args.modules.now _ _ _ c.new-known.ensures c.new-earlier.ensures.items c.new-made.ensures.items

pub build-requires-clause-known : goal.build-requires-clause-known
build-requires-clause-known c = rw c.deref.ensures.value c.loop-module.invariant.names

pub build-requires-clause-few : goal.build-requires-clause-few
build-requires-clause-few c = each_got HasFewLines c.args.modules.now c.loop-module.module-index c.module-item.result c.requires.few (omega arith) c.module-item.is

pub build-requires-clause-distinct : goal.build-requires-clause-distinct
build-requires-clause-distinct c = distinct_here c.args.modules.now c.requires.rules c.requires.faultless _ _ _ c.loop-module.module-index c.module-item.result c.loop-module.invariant (omega arith) c.module-item.is

pub build-requires-clause-rules : goal.build-requires-clause-rules
build-requires-clause-rules c = rw c.deref.ensures.value (rules_here c.args.modules.now c.requires.rules c.requires.faultless _ _ _ c.loop-module.module-index c.module-item.result c.loop-module.invariant (omega arith) c.module-item.is)

pub add_module-requires : goal.add_module-requires
add_module-requires c = c.loop-module.invariant.names

pub loop-module-preserved : goal.loop-module-preserved
loop-module-preserved c =
    built_further c.args.modules.now _ _ _ _ _ _ c.loop-module.module-index c.module-item.result _ c.loop-module.invariant (omega arith) c.module-item.is
    (rw c.deref.ensures.value at c.in_ok-build.ensures) c.in_ok-push.ensures.items c.in_ok-add_module.ensures.known c.in_ok-add_module.ensures.found

pub new-requires : goal.new-requires
new-requires c = subst IsNetlist (sym (built_all c.args.modules.now _ _ _ c.loop-module.module-index c.loop-module.invariant (omega arith))) (faultless_build c.args.modules.now c.requires.rules c.requires.top c.requires.faultless).0

pub returns : goal.returns
returns c = c.new.ensures ∙ built_all c.args.modules.now _ _ _ c.loop-module.module-index c.loop-module.invariant (omega arith)
