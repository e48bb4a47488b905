-- What show writes of a statement: tokens of plain bytes, whose numbers are small.
use Rattle.std.proofs.Common.{◌≡◌, ℕ, ◌<◌, ◌^◌, List, [], ◌∷◌, ◌++◌, ◌&&◌, not, Bool, true, Option, Some, None, length, map, refl, arith, ◌∙◌}
use Rattle.std.specs.Prelude.{codes, nat_le, nat_lt, ◌==◌}
use Rattle.std.specs.Fmt.{decimal}
use Rattle.std.specs.Char.{is_ascii_alphanumeric, is_digit}
use Rattle.std.specs.List.{list_all}
use Rattle.std.proofs.lemmas.Bool.{and_parts}
use Rattle.std.proofs.lemmas.List.Folds.{list_all-append}
use Rattle.std.proofs.lemmas.Bool.Decides.{nat_tests}
use Rattle.ap_bits.specs.Names.{starts_with_letter}
use Rattle.ap_text.specs.Lines.{is_token}
use Rattle.ap_desc.specs.declared.statement.Word.{Word}
use Rattle.ap_desc.specs.declared.statement.Word.TheVariants.{Pc, Link, Named}
use Rattle.ap_desc.specs.declared.statement.FieldNumber.{FieldNumber}
use Rattle.ap_desc.specs.declared.statement.Statement.{Statement}
use Rattle.ap_desc.specs.declared.statement.Statement.TheVariants as s
use Rattle.ap_desc.specs.Reserved.{is_free_name}
use Rattle.ap_desc.specs.Spelling.{Token, exactly, tagged, operand, width_token, value_token, guard_tokens, Piece, Sign, Name, Number, Operand, Operation, Port, Access, Widths, Settings, Guard, form, piece_tokens, tokens_in, spelling, is_spellable, is_small, is_free_word, is_free_guard, are_free_fields, has_fields, IsSpellable}
use Rattle.ap_desc.proofs.Decimals.{decimal_are_digits}
use Rattle.ap_desc.proofs.FreeNames.{free_is_name, free_letters}
use Rattle.ap_desc.proofs.PartFits.{both}

-- a printing byte that is neither a blank nor the comment sign
abbrev pub is_plain : ℕ → Bool
is_plain b = nat_le 33 b && nat_le b 126 && not (b == 35)

-- a token stays one token of its line
abbrev pub is_whole : List ℕ → Bool
is_whole token = is_token token && list_all is_plain token

-- each byte that passes one test passes the other
pub weaker : (p q : ℕ → Bool) → ((b : ℕ) → p b ≡ true → q b ≡ true) → (bytes : List ℕ) → list_all p bytes ≡ true → list_all q bytes ≡ true
weaker p q w [] h = refl
weaker p q w (b ∷ bytes) h =
    let a = and_parts (p b) (list_all p bytes) h in
    both (w b a.0) (weaker p q w bytes a.1)

letter_is_plain : (b : ℕ) → is_ascii_alphanumeric b ≡ true → is_plain b ≡ true
letter_is_plain b h = grind (arith, nat_tests)

digit_is_plain : (b : ℕ) → is_digit b 10 ≡ true → is_plain b ≡ true
digit_is_plain b h = grind (arith, nat_tests)

pub joined_plain : (xs ys : List ℕ) → list_all is_plain xs ≡ true → list_all is_plain ys ≡ true → list_all is_plain (xs ++ ys) ≡ true
joined_plain xs ys p q = list_all-append is_plain xs ys ∙ both p q

pub decimal_plain : (n : ℕ) → n < 2 ^ 64 → list_all is_plain (decimal n) ≡ true
decimal_plain n h = weaker (λ b. is_digit b 10) is_plain digit_is_plain (decimal n) (decimal_are_digits n h)

letter_first : (name : List ℕ) → starts_with_letter name ≡ true → is_token name ≡ true
letter_first [] h = cc
letter_first (b ∷ bytes) h = refl

name_bytes : (name : List ℕ) → is_free_name name ≡ true → list_all is_plain name ≡ true
name_bytes name h = weaker is_ascii_alphanumeric is_plain letter_is_plain name (free_letters name h)

name_is_token : (name : List ℕ) → is_free_name name ≡ true → is_token name ≡ true
name_is_token name h =
    let a = and_parts (starts_with_letter name && list_all is_ascii_alphanumeric name) (nat_le (length name) 32) (free_is_name name h) in
    letter_first name (and_parts (starts_with_letter name) (list_all is_ascii_alphanumeric name) a.0).0

plain_name : (name : List ℕ) → is_free_name name ≡ true → is_whole name ≡ true
plain_name name h = both (name_is_token name h) (name_bytes name h)

begun_token : (xs ys : List ℕ) → is_token xs ≡ true → is_token (xs ++ ys) ≡ true
begun_token [] ys h = cc
begun_token (x ∷ xs) ys h = refl

plain_part : (name part : List ℕ) → is_free_name name ≡ true → list_all is_plain part ≡ true → is_whole (name ++ codes "." ++ part) ≡ true
plain_part name part h g = both
    (begun_token (name ++ codes ".") part (begun_token name (codes ".") (name_is_token name h)))
    (joined_plain (name ++ codes ".") part (joined_plain name (codes ".") (name_bytes name h) refl) g)

pub digit_below : (n : ℕ) → nat_lt n 10 ≡ true → n < 2 ^ 64
digit_below n h = grind (arith, nat_tests)

plain_port : (port : ℕ) → nat_lt port 10 ≡ true → list_all is_plain (decimal port) ≡ true
plain_port port h = decimal_plain port (digit_below port h)

-- the text of the token is plain, and its number is small
abbrev pub is_fit : Token → Bool
is_fit (exactly bytes) = is_whole bytes
is_fit (tagged tag n) = list_all is_plain tag && is_small n

fit_word : (word : Word) → is_free_word word ≡ true → is_fit (operand word) ≡ true
fit_word Pc h = refl
fit_word Link h = refl
fit_word (Named name) h = plain_name name h

fit_guard : (guard : Option Word) → is_free_guard guard ≡ true → list_all is_fit (guard_tokens guard) ≡ true
fit_guard None h = refl
fit_guard (Some word) h = both (fit_word word h) refl

-- the token of a field, with this mark between name and number
fit_field : (f : FieldNumber) (mark : List ℕ) → list_all is_plain mark ≡ true → (is_free_name f.field && is_small f.number) ≡ true → is_fit (tagged (f.field ++ mark) f.number) ≡ true
fit_field f mark plain h =
    let a = and_parts (is_free_name f.field) (is_small f.number) h in
    both (joined_plain f.field mark (name_bytes f.field a.0) plain) a.1

fit_widths : (fields : List FieldNumber) → are_free_fields fields ≡ true → list_all is_fit (map width_token fields) ≡ true
fit_widths [] h = refl
fit_widths (f ∷ fields) h =
    let a = and_parts (is_free_name f.field && is_small f.number) (are_free_fields fields) h in
    both (fit_field f (codes ":") refl a.0) (fit_widths fields a.1)

fit_values : (fields : List FieldNumber) → are_free_fields fields ≡ true → list_all is_fit (map value_token fields) ≡ true
fit_values [] h = refl
fit_values (f ∷ fields) h =
    let a = and_parts (is_free_name f.field && is_small f.number) (are_free_fields fields) h in
    both (fit_field f (codes "=") refl a.0) (fit_values fields a.1)

-- the words and signs of the language are plain
abbrev has_plain_sign : Piece → Bool
has_plain_sign (Sign word) = is_whole word
has_plain_sign (Port file letter port) = list_all is_plain letter
has_plain_sign (Access mem word) = list_all is_plain word
has_plain_sign _ = true

plain_signs : (statement : Statement) → list_all has_plain_sign (form statement) ≡ true
plain_signs s.End = refl
plain_signs _ = refl

fit_piece : (piece : Piece) → has_plain_sign piece ≡ true → is_spellable piece ≡ true → list_all is_fit (piece_tokens piece) ≡ true
fit_piece (Sign word) h g = both h refl
fit_piece (Name name) h g = both (plain_name name g) refl
fit_piece (Number n) h g = both g refl
fit_piece (Operand word) h g = both (fit_word word g) refl
fit_piece (Operation unit op) h g =
    let a = and_parts (is_free_name unit) (is_free_name op) g in
    both (plain_part unit op a.0 (name_bytes op a.1)) refl
fit_piece (Port file letter port) h g =
    let a = and_parts (is_free_name file) (nat_lt port 10) g in
    both (plain_part file (letter ++ decimal port) a.0 (joined_plain letter (decimal port) h (plain_port port a.1))) refl
fit_piece (Access mem word) h g = both (plain_part mem word g h) refl
fit_piece (Widths fields) h g = fit_widths fields (and_parts (has_fields fields) (are_free_fields fields) g).1
fit_piece (Settings fields) h g = fit_values fields g
fit_piece (Guard guard) h g = fit_guard guard g

fit_pieces : (pieces : List Piece) → list_all has_plain_sign pieces ≡ true → list_all is_spellable pieces ≡ true → list_all is_fit (tokens_in pieces) ≡ true
fit_pieces [] h g = refl
fit_pieces (piece ∷ []) h g = fit_piece piece (and_parts (has_plain_sign piece) true h).0 (and_parts (is_spellable piece) true g).0
fit_pieces (piece ∷ next ∷ pieces) h g =
    let a = and_parts (has_plain_sign piece) (list_all has_plain_sign (next ∷ pieces)) h in
    let b = and_parts (is_spellable piece) (list_all is_spellable (next ∷ pieces)) g in
    list_all-append is_fit (piece_tokens piece) (tokens_in (next ∷ pieces)) ∙ both (fit_piece piece a.0 b.0) (fit_pieces (next ∷ pieces) a.1 b.1)

-- what is written of a statement is fit
pub fit_spelling : (statement : Statement) → IsSpellable statement → list_all is_fit (spelling statement) ≡ true
fit_spelling statement h = fit_pieces (form statement) (plain_signs statement) h.pieces
