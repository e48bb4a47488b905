-- A format of a description has so few fields that the sum of their widths has 32 bits.
use Rattle.std.proofs.Common.{◌≡◌, ℕ, suc, ◌+◌, ◌*◌, ◌<◌, ◌≤◌, not, nat_le, nat_lt, Bool, true, false, List, [], ◌∷◌, ◌++◌, length, refl, arith, leb-true}
use Rattle.std.specs.Prelude.{◌==◌}
use Rattle.std.specs.List.{list_any}
use Rattle.std.proofs.lemmas.Bool.{and_parts, ltb-false, or_parts}
use Rattle.std.proofs.lemmas.List.Sums.{sum_by-cons}
use Rattle.ap_desc.proofs.InOrder.{due_at, said_by}
use Rattle.ap_desc.specs.Descriptions.{IsDescription}
use Rattle.ap_desc.specs.Designs.{is_field_width}
use Rattle.ap_desc.specs.Limits.{max_fields, max_formats}
use Rattle.ap_desc.specs.Order.{is_one_too_many, section_count}
use Rattle.ap_desc.specs.declared.description.Numbered.{Numbered}
use Rattle.ap_desc.specs.declared.statement.FieldNumber.{FieldNumber}
use Rattle.ap_desc.specs.declared.statement.Statement.{Statement}
use Rattle.ap_desc.specs.declared.statement.Statement.TheVariants as s
use Rattle.ap_check.specs.Added.{HasFewFields}
use Rattle.ap_check.specs.FixedBits.{field_bits}

few_here : (earlier : List Statement) (statement : Statement) → is_one_too_many earlier statement ≡ false → HasFewFields statement
few_here earlier (s.Format name fields) e =
    let parts = or_parts (section_count earlier (s.Format name fields) == max_formats) (nat_lt max_fields (length fields)) e in
    ltb-false max_fields (length fields) parts.1
few_here earlier _ e = tt

-- every statement of a description
pub has_few_fields : (statements before : List Numbered) (n : Numbered) (after : List Numbered) → IsDescription statements → statements ≡ before ++ n ∷ after → HasFewFields n.statement
has_few_fields statements before n after described split = let due = due_at statements before n after described split in few_here (said_by before) n.statement due.few

-- fields within a word of at most 64 bits
within_word : (word width : ℕ) → not (is_field_width word width) ≡ false → width ≤ word
within_word word width e =
    let inside = and_parts (nat_le 1 width) (nat_le width word) (kept (is_field_width word width) e) in
    leb-true width word inside.1
  where
    kept : (b : Bool) → not b ≡ false → b ≡ true
    kept true e = refl
    kept false e = absurd cc

bits_below : (word : ℕ) (fields : List FieldNumber) → word ≤ 64 → list_any (λ (f : FieldNumber). not (is_field_width word f.number)) fields ≡ false → field_bits fields ≤ length fields * 64
bits_below word [] small e = omega arith
bits_below word (f ∷ fields) small e =
    let parts = or_parts (not (is_field_width word f.number)) (list_any (λ (x : FieldNumber). not (is_field_width word x.number)) fields) e in
    let here : f.number ≤ word = within_word word f.number parts.0 in
    let later : field_bits fields ≤ length fields * 64 = bits_below word fields small parts.1 in
    let sum : field_bits (f ∷ fields) ≡ f.number + field_bits fields = sum_by-cons (λ (x : FieldNumber). x.number) f fields in
    let more : length (f ∷ fields) ≡ suc (length fields) = refl in
    omega arith

pub few_bits : (word : ℕ) (fields : List FieldNumber) → word ≤ 64 → length fields ≤ max_fields → list_any (λ (f : FieldNumber). not (is_field_width word f.number)) fields ≡ false → field_bits fields < 4294967296
few_bits word fields small few e = let below = bits_below word fields small e in omega arith
