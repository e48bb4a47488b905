-- The right side of an assign is read from its text.
use Rattle.std.proofs.Common.{◌≡◌, ℕ, ◌<◌, ◌^◌, false, List, [], ◌∷◌, ◌++◌, Option, Some, refl, ap, ◌∙◌}
use Rattle.std.specs.Prelude.{codes, option_map, option_and_then}
use Rattle.std.specs.Fmt.{decimal}
use Rattle.std.specs.Str.{bytes_eq}
use Rattle.ap_text.specs.Numbers.{number_value}
use Rattle.ap_text.proofs.Written.{number_value-decimal}
use Rattle.ap_net.specs.declared.cell.TwoOp.{TwoOp}
use Rattle.ap_net.specs.declared.cell.TwoOp.TheVariants as op
use Rattle.ap_net.specs.Names.{is_name_byte}
use Rattle.ap_net.specs.Text.{sign}
use Rattle.ap_vr.specs.declared.line.Right.{Right}
use Rattle.ap_vr.specs.declared.line.Right.TheVariants as right
use Rattle.ap_vr.specs.LineForms.{beside, if_width, operand_in, digits_after, op_in, joined_in, plain_right_in, right_by, right_in}
use Rattle.ap_vr.specs.LineTexts.{IsOperand, IsRight, IsWidth, right_text}
use Rattle.ap_vr.specs.Pieces.{pieces_of}
use Rattle.ap_vr.proofs.Regroup.{in_four, in_five, in_six, in_seven}
use Rattle.ap_vr.proofs.Pieces.{IsWord, word_then, piece_ends}
use Rattle.ap_vr.proofs.Words.{name_word, not_sign, operand_read, number_word, width_small, width_read, value_read, constant_pieces}

operand_word : (a : List ℕ) → IsOperand a → IsWord a
operand_word a h = name_word a h.0

-- both, where both are read
pub both_read : {A B : Type 0} (x : Option A) (y : Option B) (a : A) (b : B) → x ≡ Some a → y ≡ Some b → beside x y ≡ Some (a, b)
both_read x y a b e f = ap (λ x. beside x y) e ∙ ap (λ y. beside (Some a) y) f

-- the first piece of a right side that begins with an operand is neither of two signs
plain_first : (a : List ℕ) (rest : List (List ℕ)) (second : List ℕ) (m : Option Right) → IsWord a → plain_right_in second (a ∷ second ∷ rest) ≡ m → right_in (a ∷ second ∷ rest) ≡ m
unfolding right_in right_by
plain_first a rest second m word h = rw (not_sign a 126 [] word refl, not_sign a 123 [] word refl) h

copy_read : (a : List ℕ) → IsOperand a → right_in (pieces_of (right_text (right.Copy a) ++ codes ";\n")) ≡ Some (right.Copy a)
unfolding plain_right_in
copy_read a h =
    ap right_in (word_then a 59 (10 ∷ []) (operand_word a h) refl)
    ∙ plain_first a ((10 ∷ []) ∷ []) (59 ∷ []) (Some (right.Copy a)) (operand_word a h) (ap (option_map (λ v. right.Copy v)) (operand_read a h))

not_read : (a : List ℕ) → IsOperand a → right_in (pieces_of (right_text (right.Not a) ++ codes ";\n")) ≡ Some (right.Not a)
unfolding right_in right_by
not_read a h =
    ap (λ ps. right_in ((126 ∷ []) ∷ ps)) (word_then a 59 (10 ∷ []) (operand_word a h) refl)
    ∙ ap (option_map (λ v. right.Not v)) (operand_read a h)

const_read : (width v : ℕ) → IsWidth width → v < 2 ^ 64 → right_in (pieces_of (right_text (right.Const width v) ++ codes ";\n")) ≡ Some (right.Const width v)
unfolding plain_right_in
const_read width v h small =
    ap right_in (constant_pieces width v 59 (10 ∷ []) h small refl)
    ∙ plain_first (decimal width) ((100 ∷ decimal v) ∷ (59 ∷ []) ∷ (10 ∷ []) ∷ []) (39 ∷ []) (Some (right.Const width v)) (number_word width (width_small width h))
    (ap (option_map (λ (v : ℕ × ℕ). right.Const v.0 v.1)) (both_read (option_and_then if_width (number_value (decimal width))) (digits_after (100 ∷ decimal v)) width v (width_read width h) (value_read v small)))

cat_read : (a b : List ℕ) → IsOperand a → IsOperand b → right_in (pieces_of (right_text (right.Cat a b) ++ codes ";\n")) ≡ Some (right.Cat a b)
unfolding right_in right_by
cat_read a b h g =
    ap (λ ps. right_in ((123 ∷ []) ∷ ps)) (ap pieces_of (in_five a (codes ", ") b (codes "}") (codes ";\n"))
    ∙ word_then a 44 (32 ∷ (b ++ codes "};\n")) (operand_word a h) refl
    ∙ ap (λ ps. a ∷ (44 ∷ []) ∷ (32 ∷ []) ∷ ps) (word_then b 125 (59 ∷ 10 ∷ []) (operand_word b g) refl))
    ∙ ap (option_map (λ (v : List ℕ × List ℕ). right.Cat v.0 v.1)) (both_read (operand_in a) (operand_in b) a b (operand_read a h) (operand_read b g))

slice_read : (a : List ℕ) (h l : ℕ) → IsOperand a → h < 2 ^ 64 → l < 2 ^ 64 → right_in (pieces_of (right_text (right.Slice a h l) ++ codes ";\n")) ≡ Some (right.Slice a h l)
unfolding plain_right_in
slice_read a h l operand high low =
    ap right_in (ap pieces_of (in_seven a (codes "[") (decimal h) (codes ":") (decimal l) (codes "]") (codes ";\n"))
    ∙ word_then a 91 (decimal h ++ 58 ∷ (decimal l ++ codes "];\n")) (operand_word a operand) refl
    ∙ ap (λ ps. a ∷ (91 ∷ []) ∷ ps) (word_then (decimal h) 58 (decimal l ++ codes "];\n") (number_word h high) refl
    ∙ ap (λ ps. decimal h ∷ (58 ∷ []) ∷ ps) (word_then (decimal l) 93 (59 ∷ 10 ∷ []) (number_word l low) refl)))
    ∙ plain_first a (decimal h ∷ (58 ∷ []) ∷ decimal l ∷ (93 ∷ []) ∷ (59 ∷ []) ∷ (10 ∷ []) ∷ []) (91 ∷ []) (Some (right.Slice a h l)) (operand_word a operand)
    (ap (option_map (λ (v : List ℕ × (ℕ × ℕ)). right.Slice v.0 v.1.0 v.1.1)) (both_read (operand_in a) (beside (number_value (decimal h)) (number_value (decimal l))) a (h, l) (operand_read a operand)
    (both_read (number_value (decimal h)) (number_value (decimal l)) h l (number_value-decimal h high) (number_value-decimal l low))))

-- three operands
choose_read : (s a b : List ℕ) → IsOperand s → IsOperand a → IsOperand b → right_in (pieces_of (right_text (right.Choose s a b) ++ codes ";\n")) ≡ Some (right.Choose s a b)
unfolding plain_right_in joined_in
choose_read s a b f g h =
    ap right_in (ap pieces_of (in_six s (codes " ? ") a (codes " : ") b (codes ";\n"))
    ∙ word_then s 32 (63 ∷ 32 ∷ (a ++ 32 ∷ 58 ∷ 32 ∷ (b ++ codes ";\n"))) (operand_word s f) refl
    ∙ ap (λ ps. s ∷ (32 ∷ []) ∷ (63 ∷ []) ∷ (32 ∷ []) ∷ ps) (word_then a 32 (58 ∷ 32 ∷ (b ++ codes ";\n")) (operand_word a g) refl
    ∙ ap (λ ps. a ∷ (32 ∷ []) ∷ (58 ∷ []) ∷ (32 ∷ []) ∷ ps) (word_then b 59 (10 ∷ []) (operand_word b h) refl)))
    ∙ plain_first s ((63 ∷ []) ∷ (32 ∷ []) ∷ a ∷ (32 ∷ []) ∷ (58 ∷ []) ∷ (32 ∷ []) ∷ b ∷ (59 ∷ []) ∷ (10 ∷ []) ∷ []) (32 ∷ []) (Some (right.Choose s a b)) (operand_word s f)
    (ap (option_map (λ (v : List ℕ × (List ℕ × List ℕ)). right.Choose v.0 v.1.0 v.1.1)) (both_read (operand_in s) (beside (operand_in a) (operand_in b)) s (a, b) (operand_read s f)
    (both_read (operand_in a) (operand_in b) a b (operand_read a g) (operand_read b h))))

-- such a right side by its sign
joined_two : (o : TwoOp) (c : ℕ) (a b : List ℕ) → IsOperand a → IsOperand b → op_in (c ∷ []) ≡ Some o → bytes_eq (c ∷ []) (codes "?") ≡ false → bytes_eq (c ∷ []) (codes "=") ≡ false
    → joined_in (c ∷ []) (a ∷ (32 ∷ []) ∷ (c ∷ []) ∷ (32 ∷ []) ∷ b ∷ (59 ∷ []) ∷ (10 ∷ []) ∷ []) ≡ Some (right.Two o a b)
unfolding joined_in
joined_two o c a b g h known no_choice no_equal =
    rw (no_choice, no_equal)
    (ap (option_map (λ (v : TwoOp × (List ℕ × List ℕ)). right.Two v.0 v.1.0 v.1.1)) (both_read (op_in (c ∷ [])) (beside (operand_in a) (operand_in b)) o (a, b) known
    (both_read (operand_in a) (operand_in b) a b (operand_read a g) (operand_read b h))))

-- two operands with a sign of one byte between them
two_by : (o : TwoOp) (c : ℕ) (a b : List ℕ) → IsOperand a → IsOperand b → sign o ≡ 32 ∷ c ∷ 32 ∷ [] → is_name_byte c ≡ false → op_in (c ∷ []) ≡ Some o → bytes_eq (c ∷ []) (codes "?") ≡ false → bytes_eq (c ∷ []) (codes "=") ≡ false → right_in (pieces_of (right_text (right.Two o a b) ++ codes ";\n")) ≡ Some (right.Two o a b)
unfolding plain_right_in joined_in
two_by o c a b g h spelled other known no_choice no_equal =
    ap (λ sign. right_in (pieces_of (a ++ sign ++ b ++ codes ";\n"))) spelled
    ∙ ap right_in (ap pieces_of (in_four a (32 ∷ c ∷ 32 ∷ []) b (codes ";\n"))
    ∙ word_then a 32 (c ∷ 32 ∷ (b ++ codes ";\n")) (operand_word a g) refl
    ∙ ap (λ ps. a ∷ (32 ∷ []) ∷ ps) (piece_ends [] c (32 ∷ (b ++ codes ";\n")) other)
    ∙ ap (λ ps. a ∷ (32 ∷ []) ∷ (c ∷ []) ∷ (32 ∷ []) ∷ ps) (word_then b 59 (10 ∷ []) (operand_word b h) refl))
    ∙ plain_first a ((c ∷ []) ∷ (32 ∷ []) ∷ b ∷ (59 ∷ []) ∷ (10 ∷ []) ∷ []) (32 ∷ []) (Some (right.Two o a b)) (operand_word a g) (joined_two o c a b g h known no_choice no_equal)

-- the sign of two bytes
equal_read : (a b : List ℕ) → IsOperand a → IsOperand b → right_in (pieces_of (right_text (right.Two op.Eq a b) ++ codes ";\n")) ≡ Some (right.Two op.Eq a b)
unfolding plain_right_in joined_in
equal_read a b g h =
    ap right_in (ap pieces_of (in_four a (codes " == ") b (codes ";\n"))
    ∙ word_then a 32 (61 ∷ 61 ∷ 32 ∷ (b ++ codes ";\n")) (operand_word a g) refl
    ∙ ap (λ ps. a ∷ (32 ∷ []) ∷ (61 ∷ []) ∷ (61 ∷ []) ∷ (32 ∷ []) ∷ ps) (word_then b 59 (10 ∷ []) (operand_word b h) refl))
    ∙ plain_first a ((61 ∷ []) ∷ (61 ∷ []) ∷ (32 ∷ []) ∷ b ∷ (59 ∷ []) ∷ (10 ∷ []) ∷ []) (32 ∷ []) (Some (right.Two op.Eq a b)) (operand_word a g)
    (ap (option_map (λ (v : List ℕ × List ℕ). right.Two op.Eq v.0 v.1)) (both_read (operand_in a) (operand_in b) a b (operand_read a g) (operand_read b h)))

two_read : (o : TwoOp) (a b : List ℕ) → IsOperand a → IsOperand b → right_in (pieces_of (right_text (right.Two o a b) ++ codes ";\n")) ≡ Some (right.Two o a b)
unfolding op_in
two_read op.Add a b g h = two_by op.Add 43 a b g h refl refl refl refl refl
two_read op.Sub a b g h = two_by op.Sub 45 a b g h refl refl refl refl refl
two_read op.And a b g h = two_by op.And 38 a b g h refl refl refl refl refl
two_read op.Or a b g h = two_by op.Or 124 a b g h refl refl refl refl refl
two_read op.Xor a b g h = two_by op.Xor 94 a b g h refl refl refl refl refl
two_read op.Eq a b g h = equal_read a b g h
two_read op.Ltu a b g h = two_by op.Ltu 60 a b g h refl refl refl refl refl

-- each right side is read
pub right_read : (r : Right) → IsRight r → right_in (pieces_of (right_text r ++ codes ";\n")) ≡ Some r
right_read (right.Const width v) h = const_read width v h.0 h.1
right_read (right.Copy a) h = copy_read a h
right_read (right.Not a) h = not_read a h
right_read (right.Two o a b) h = two_read o a b h.0 h.1
right_read (right.Choose s a b) h = choose_read s a b h.0 h.1 h.2
right_read (right.Cat a b) h = cat_read a b h.0 h.1
right_read (right.Slice a high low) h = slice_read a high low h.0 h.1 h.2
