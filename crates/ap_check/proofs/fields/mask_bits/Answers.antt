use Rattle.std.proofs.Common.{◌≡◌, ℕ, ◌*◌, ◌%◌, ◌^◌, Option, Some, sym, subst, ◌∙◌}
use Rattle.ap_desc.specs.Designs.{mask_bits}
use Rattle.ap_check.proofs.FixedBits.{mask_shifted}
use Rattle.ap_check.proofs.fields.mask_bits.Goals as goal

pub returns-in-Some : goal.returns-in-Some
returns-in-Some c =
    let is : Some c.in-Some.value ≡ c.args.value = cc in
    subst (λ (o : Option ℕ). c.mask.result * 2 ^ c.args.field.now.low % 18446744073709551616 ≡ mask_bits c.args.word (c.args.field.now, o)) is
    (mask_shifted c.args.word c.args.field.now c.in-Some.value c.mask.result c.requires (sym c.is_counted.ensures ∙ c.if-is_counted.true) c.mask.ensures)
