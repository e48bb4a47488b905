use Rattle.std.proofs.Common.{◌≡◌, take}
use Rattle.ap_desc.specs.Shown.{shown_text}
use Rattle.ap_desc.proofs.writing.text_of.Given as goal

abbrev pub invariant-loop-numbered : goal.invariant-loop-numbered
invariant-loop-numbered l = l.text.items ≡ shown_text (take l.numbered-index l.statements)
