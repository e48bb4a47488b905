use Rattle.std.proofs.Common.{◌≡◌, ℕ, ◌-◌, ◌++◌, ◌+◌, ◌∷◌, List, [], drop, ap, ◌∙◌, arith}
use Rattle.ap_desc.specs.Declarations.{fields_said}
use Rattle.ap_desc.specs.declared.design.Field.{Field}
use Rattle.ap_check.specs.FixedBits.{field_bits}
use Rattle.ap_check.proofs.FieldLists.{bits_dropped, placed_more}
use Rattle.ap_check.proofs.fields.placed_fields.Goals as goal

pub loop-field-preserved : goal.loop-field-preserved
loop-field-preserved c =
    let low : ℕ = c.loop-field.low - c.field-item.result.number in
    let dropped = bits_dropped c.args.fields.now c.loop-field.field-index c.field-item.result (omega arith) c.field-item.is in
    let under : low ≡ field_bits (drop (c.loop-field.field-index + 1) c.args.fields.now) = omega (arith, dropped, c.loop-field.invariant.1) in
    let pushed : c.push.new.self ≡ c.loop-field.placed ++ record { name = c.in_ok-name.name; width = c.field-item.result.number; low = low } ∷ [] = c.in_ok-push.ensures.ok in
    let named : c.in_ok-name.name ≡ c.field-item.result.field = c.in_ok-name.ensures in (
      ap (λ (l : List Field). l ++ fields_said (drop (c.loop-field.field-index + 1) c.args.fields.now))
          (pushed ∙ ap (λ (n : List ℕ). c.loop-field.placed ++ record { name = n; width = c.field-item.result.number; low = low } ∷ []) named)
          ∙ placed_more c.args.fields.now c.loop-field.field-index c.field-item.result c.loop-field.placed low (omega arith) c.field-item.is c.loop-field.invariant.0 under,
      under,
    )
