-- Sums and lists of fields, field by field.
use Rattle.std.proofs.Common.{◌≡◌, ℕ, ◌+◌, ◌<◌, List, [], ◌∷◌, ◌++◌, suc, length, map, take, drop, get_or, sum_by, refl, sym, ap, ◌∙◌, append_assoc, drop-cons, add-one}
use Rattle.std.proofs.lemmas.List.{map-append, take_more}
use Rattle.std.proofs.lemmas.List.Sums.{sum_by-cons, sum_by-drop_more, sum_by_more}
use Rattle.ap_desc.specs.declared.design.Field.{Field}
use Rattle.ap_desc.specs.declared.statement.FieldNumber.{FieldNumber}
use Rattle.ap_desc.specs.Declarations.{fields_said}
use Rattle.ap_check.specs.FixedBits.{field_bits}

pub ruleset field_sums = (sum_by-drop_more, sum_by_more)

-- the widths of the fields are the numbers that stand with them
pub widths_said : (fields : List FieldNumber) → sum_by (λ (x : Field). x.width) (fields_said fields) ≡ sum_by (λ (f : FieldNumber). f.number) fields
widths_said [] = refl
widths_said (f ∷ fields) =
    sum_by-cons (λ (x : Field). x.width) (record { name = f.field; width = f.number; low = sum_by (λ (x : Field). x.width) (fields_said fields) }) (fields_said fields)
    ∙ ap (λ n. f.number + n) (widths_said fields) ∙ sym (sum_by-cons (λ (x : FieldNumber). x.number) f fields)

-- the widths of the fields from one on
pub bits_dropped : (fields : List FieldNumber) (i : ℕ) (x : FieldNumber) → i < length fields → x ≡ get_or fields i x → field_bits (drop i fields) ≡ x.number + field_bits (drop (i + 1) fields)
bits_dropped fields i x lt at =
    let rest : drop i fields ≡ x ∷ drop (i + 1) fields = drop-cons fields i x lt ∙ ap (λ y. y ∷ drop (suc i) fields) (sym at) ∙ ap (λ n. x ∷ drop n fields) (sym (add-one i)) in
    ap field_bits rest ∙ sum_by-cons (λ (f : FieldNumber). f.number) x (drop (i + 1) fields)

-- one more field is placed
pub placed_more : (fields : List FieldNumber) (i : ℕ) (x : FieldNumber) (placed : List Field) (low : ℕ) → i < length fields → x ≡ get_or fields i x
    → placed ++ fields_said (drop i fields) ≡ fields_said fields → low ≡ sum_by (λ (f : FieldNumber). f.number) (drop (i + 1) fields)
    → (placed ++ record { name = x.field; width = x.number; low = low } ∷ []) ++ fields_said (drop (i + 1) fields) ≡ fields_said fields
placed_more fields i x placed low lt at so_far under =
    let rest : drop i fields ≡ x ∷ drop (i + 1) fields = drop-cons fields i x lt ∙ ap (λ y. y ∷ drop (suc i) fields) (sym at) ∙ ap (λ n. x ∷ drop n fields) (sym (add-one i)) in
    let width : low ≡ sum_by (λ (y : Field). y.width) (fields_said (drop (i + 1) fields)) = under ∙ sym (widths_said (drop (i + 1) fields)) in
    append_assoc placed (record { name = x.field; width = x.number; low = low } ∷ []) (fields_said (drop (i + 1) fields))
    ∙ ap (λ n. placed ++ record { name = x.field; width = x.number; low = n } ∷ fields_said (drop (i + 1) fields)) width
    ∙ ap (λ l. placed ++ fields_said l) (sym rest) ∙ so_far

-- the images of the elements so far, with one more
pub mapped_more : {X Y : Type 0} (f : X → Y) (xs : List X) (i : ℕ) (x : X) → i < length xs → x ≡ get_or xs i x → map f (take (i + 1) xs) ≡ map f (take i xs) ++ f x ∷ []
mapped_more f xs i x lt at = ap (map f) (take_more xs i x lt) ∙ map-append f (take i xs) (get_or xs i x ∷ []) ∙ ap (λ y. map f (take i xs) ++ f y ∷ []) (sym at)
