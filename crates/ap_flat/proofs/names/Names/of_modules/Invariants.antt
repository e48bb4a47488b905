use Rattle.std.proofs.Common.{◌≡◌, map, take}
use Rattle.ap_net.specs.Modules.{ModuleText}
use Rattle.ap_flat.proofs.names.Names.of_modules.Given as goal

abbrev pub invariant-loop-whole : goal.invariant-loop-whole
invariant-loop-whole l = l.names ≡ take l.whole-index (map (λ (x : ModuleText). x.name) l.modules)
