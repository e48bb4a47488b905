use Rattle.std.proofs.Common.{◌≡◌, drop}
use Rattle.ap_net.specs.Modules.{module_named}
use Rattle.ap_vw.proofs.line.find_module.Given as goal

abbrev pub invariant-loop-whole : goal.invariant-loop-whole
invariant-loop-whole l = module_named (drop l.whole-index l.modules) l.name ≡ module_named l.modules l.name
