use Rattle.ap_parts.specs.Parts.{AddsFiles}
use Rattle.ap_parts.proofs.modules.add_file_modules.Given as goal

abbrev pub invariant-loop-number : goal.invariant-loop-number
invariant-loop-number l = AddsFiles l.design l.number l.fn.modules.items l.modules.items
