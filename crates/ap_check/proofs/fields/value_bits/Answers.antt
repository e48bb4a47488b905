use Rattle.std.proofs.Common.{◌≡◌, ℕ, ◌*◌, ◌%◌, ◌^◌, Option, Some, sym, subst, ◌∙◌}
use Rattle.ap_desc.specs.Designs.{value_bits}
use Rattle.ap_check.proofs.FixedBits.{value_shifted}
use Rattle.ap_check.proofs.fields.value_bits.Goals as goal

pub returns-in-Some : goal.returns-in-Some
returns-in-Some c =
    let is : Some c.in-Some.value ≡ c.args.value = cc in
    subst (λ (o : Option ℕ). c.in-Some.value * 2 ^ c.args.field.now.low % 18446744073709551616 ≡ value_bits c.args.word (c.args.field.now, o)) is
    (value_shifted c.args.word c.args.field.now c.in-Some.value c.requires (sym c.is_counted.ensures ∙ c.if-is_counted.true))
