use Rattle.std.proofs.Common.{◌≡◌, ◌+◌, sum_by, take}
use Rattle.ap_desc.specs.declared.design.Field.{Field}
use Rattle.ap_enc.proofs.faults.do_fill.Given as goal

abbrev pub invariant-loop-field : goal.invariant-loop-field
invariant-loop-field l = l.left + sum_by (λ (x : Field). x.width) (take l.field-index l.fields) ≡ l.word
