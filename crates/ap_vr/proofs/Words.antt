-- Names, numbers and signs as pieces of a line.
use Rattle.std.proofs.Common.{◌≡◌, ◌≢◌, ℕ, ◌+◌, ◌-◌, ◌<◌, ◌^◌, Bool, true, false, cond, ◌&&◌, not, nat_le, List, [], ◌∷◌, ◌++◌, length, Some, None, refl, sym, ap, ◌∙◌, arith, append_assoc}
use Rattle.std.specs.Prelude.{codes, option_and_then}
use Rattle.std.specs.List.{list_all, list_any}
use Rattle.std.specs.Str.{bytes_eq}
use Rattle.std.specs.Fmt.{decimal}
use Rattle.std.specs.Char.{digit_value}
use Rattle.std.specs.Str.Parse.{AllDigits}
use Rattle.std.proofs.lemmas.Bool.{and_parts, false≢true, le-leb, lt-ltb}
use Rattle.std.proofs.lemmas.Fmt.{decimal_is_IsNumeral}
use Rattle.std.proofs.lemmas.Slice.Eq.{bytes_eq-Decides}
use Rattle.std.proofs.lemmas.Str.Parse.{digit_from_value}
use Rattle.ap_bits.specs.Names.{starts_with_letter}
use Rattle.ap_text.specs.Numbers.{number_value}
use Rattle.ap_text.proofs.Written.{number_value-decimal}
use Rattle.ap_net.specs.Names.{is_name_byte, IsNetName, barred_words}
use Rattle.ap_net.specs.Text.{range_text, constant_text}
use Rattle.ap_vr.specs.LineForms.{name_in, operand_in, digits_after, if_high, if_width}
use Rattle.ap_vr.specs.LineTexts.{IsOperand, IsWidth}
use Rattle.ap_vr.specs.Pieces.{pieces_of}
use Rattle.ap_vr.proofs.Regroup.{in_four}
use Rattle.ap_vr.proofs.Pieces.{IsWord, word_then, past_word, piece_ends}

-- bytes that compare equal are equal, and others don't
pub same_bytes : (xs ys : List ℕ) → bytes_eq xs ys ≡ true → xs ≡ ys
same_bytes xs ys h = (bytes_eq-Decides xs ys).0 h

pub other_bytes : (xs ys : List ℕ) → xs ≢ ys → bytes_eq xs ys ≡ false
other_bytes xs ys h = by_case (bytes_eq xs ys) refl where
  by_case : (c : Bool) → bytes_eq xs ys ≡ c → bytes_eq xs ys ≡ false
  by_case true e = absurd (h (same_bytes xs ys e))
  by_case false e = e

-- a name is a word
some_byte : (name : List ℕ) → starts_with_letter name ≡ true → 0 < length name
some_byte [] h = absurd (false≢true h)
some_byte (b ∷ name) h = omega arith

pub name_word : (name : List ℕ) → IsNetName name → IsWord name
name_word name h =
    let short = and_parts (starts_with_letter name && list_all is_name_byte name && nat_le (length name) 100) (not (list_any (bytes_eq name) barred_words)) h in
    let long = and_parts (starts_with_letter name && list_all is_name_byte name) (nat_le (length name) 100) short.0 in
    let both = and_parts (starts_with_letter name) (list_all is_name_byte name) long.0 in
    record { all = both.1; some = some_byte name both.0 }

-- and no sign
pub not_sign : (name : List ℕ) (b : ℕ) (bytes : List ℕ) → IsWord name → is_name_byte b ≡ false → bytes_eq name (b ∷ bytes) ≡ false
not_sign name b bytes word other = by_case (bytes_eq name (b ∷ bytes)) refl where
  by_case : (c : Bool) → bytes_eq name (b ∷ bytes) ≡ c → bytes_eq name (b ∷ bytes) ≡ false
  by_case true e =
      let same : name ≡ b ∷ bytes = same_bytes name (b ∷ bytes) e in
      let first = and_parts (is_name_byte b) (list_all is_name_byte bytes) (sym (ap (list_all is_name_byte) same) ∙ word.all) in
      absurd (false≢true (sym other ∙ first.0))
  by_case false e = e

-- it is what its piece gives
pub name_read : (name : List ℕ) → IsNetName name → name_in name ≡ Some name
unfolding name_in
name_read name h = ap (λ c. cond c (Some name) None) h

pub operand_read : (name : List ℕ) → IsOperand name → operand_in name ≡ Some name
unfolding operand_in
operand_read name h =
    ap (λ c. cond c None (cond (bytes_eq name (codes "rst")) None (name_in name))) (other_bytes name (codes "clk") h.1)
    ∙ ap (λ c. cond c None (name_in name)) (other_bytes name (codes "rst") h.2)
    ∙ name_read name h.0

-- a decimal number is a word, and is read with its value
digit_byte : (c : ℕ) → digit_value c < 10 → is_name_byte c ≡ true
digit_byte c h = let r = digit_from_value c h in grind arith

digit_bytes : (digits : List ℕ) → AllDigits 10 digits → list_all is_name_byte digits ≡ true
digit_bytes [] h = refl
digit_bytes (d ∷ digits) h = ap (λ c. c && list_all is_name_byte digits) (digit_byte d h.0) ∙ digit_bytes digits h.1

pub number_word : (n : ℕ) → n < 2 ^ 64 → IsWord (decimal n)
number_word n h = let written = decimal_is_IsNumeral n h in record { all = digit_bytes (decimal n) written.0.1; some = written.0.0 }

-- widths are small numbers
pub width_small : (width : ℕ) → IsWidth width → width < 2 ^ 64
width_small width h = omega (arith, h.1)

pub high_small : (width : ℕ) → IsWidth width → width - 1 < 2 ^ 64
high_small width h = omega (arith, h.1)

pub width_read : (width : ℕ) → IsWidth width → option_and_then if_width (number_value (decimal width)) ≡ Some width
width_read width h =
    ap (option_and_then if_width) (number_value-decimal width (width_small width h))
    ∙ ap (λ c. cond c (Some width) None) (ap (λ c. c && nat_le width 64) (le-leb 1 width h.0) ∙ le-leb width 64 h.1)

pub high_read : (width : ℕ) → IsWidth width → option_and_then if_high (number_value (decimal (width - 1))) ≡ Some width
high_read width h =
    let below : width - 1 < 64 = omega (arith, h.0, h.1) in
    let back : (width - 1) + 1 ≡ width = omega (arith, h.0) in
    ap (option_and_then if_high) (number_value-decimal (width - 1) (high_small width h))
    ∙ ap (λ c. cond c (Some ((width - 1) + 1)) None) (lt-ltb (width - 1) 64 below)
    ∙ ap Some back

pub value_read : (v : ℕ) → v < 2 ^ 64 → digits_after (100 ∷ decimal v) ≡ Some v
unfolding digits_after
value_read v h = number_value-decimal v h

-- the bits of a net
pub range_pieces : (width : ℕ) (line : List ℕ) → IsWidth width → pieces_of (range_text width ++ line) ≡ (91 ∷ []) ∷ decimal (width - 1) ∷ (58 ∷ []) ∷ (48 ∷ []) ∷ (93 ∷ []) ∷ pieces_of line
range_pieces width line h =
    ap (λ ps. (91 ∷ []) ∷ ps) (ap pieces_of (append_assoc (decimal (width - 1)) (codes ":0]") line)
    ∙ word_then (decimal (width - 1)) 58 (48 ∷ 93 ∷ line) (number_word (width - 1) (high_small width h)) refl)

-- a constant, and then a byte that is none of a word
pub constant_pieces : (width v b : ℕ) (line : List ℕ) → IsWidth width → v < 2 ^ 64 → is_name_byte b ≡ false → pieces_of (constant_text width v ++ b ∷ line) ≡ decimal width ∷ (39 ∷ []) ∷ (100 ∷ decimal v) ∷ (b ∷ []) ∷ pieces_of line
constant_pieces width v b line h small other =
    ap pieces_of (in_four (decimal width) (codes "'d") (decimal v) (b ∷ line))
    ∙ word_then (decimal width) 39 (100 ∷ (decimal v ++ b ∷ line)) (number_word width (width_small width h)) refl
    ∙ ap (λ ps. decimal width ∷ (39 ∷ []) ∷ ps) (past_word (100 ∷ []) (decimal v) (b ∷ line) (number_word v small).all ∙ piece_ends (100 ∷ decimal v) b line other)
