-- The text of lines whose tokens have one space between them is read as these lines.
use Rattle.std.proofs.Common.{◌≡◌, ℕ, ◌+◌, ◌<◌, ◌≤◌, suc, List, [], ◌∷◌, ◌++◌, ◌&&◌, not, Bool, true, refl, ap, ◌∙◌, arith, append-nil, append_assoc}
use Rattle.std.specs.Prelude.{filter, nat_le, ◌==◌}
use Rattle.std.specs.Char.{digit_value}
use Rattle.std.specs.Str.Parse.{AllDigits}
use Rattle.std.specs.List.{list_all, slice_split, onto_first, before_first, position_or_len, flat_map, AllByRecursion as Each}
use Rattle.std.proofs.lemmas.Bool.{and_from, and_parts, not-true}
use Rattle.std.proofs.lemmas.Bool.Decides.{nat_tests}
use Rattle.std.proofs.lemmas.List.Folds.{list_all-append}
use Rattle.std.proofs.lemmas.List.Splits.{slice_split-cons_no}
use Rattle.ap_text.specs.Lines.{TextLine, is_allowed, is_blank, is_clean, is_comment_sign, is_line_feed, is_skipped, is_token, lines_from, lines_of, numbered_from, tokens_of}

-- a printing byte that is neither a blank nor the comment sign
abbrev pub is_plain : ℕ → Bool
is_plain b = nat_le 33 b && nat_le b 126 && not (b == 35)

-- a token stays one token of its line
abbrev pub is_whole : List ℕ → Bool
is_whole token = is_token token && list_all is_plain token

-- the tokens of a line
pub record Spoken : Type 0 where
  pub first : List ℕ
  pub rest : List (List ℕ)

pub record IsWhole (line : Spoken) : Type 0 where
  pub first : is_whole line.first ≡ true
  pub rest : Each (λ token. is_whole token ≡ true) line.rest

abbrev pub spaced : List ℕ → List (List ℕ) → List ℕ
spaced first rest = first ++ flat_map (λ token. 32 ∷ token) rest

abbrev pub spoken_text : Spoken → List ℕ
spoken_text line = spaced line.first line.rest ++ 10 ∷ []

-- the lines from this number on
abbrev pub numbered : ℕ → List Spoken → List TextLine
numbered n [] = []
numbered n (line ∷ lines) = record { number = n; tokens = line.first ∷ line.rest; clean = true } ∷ numbered (n + 1) lines

-- each byte that passes one test passes the other
pub weaker : (p q : ℕ → Bool) → ((b : ℕ) → p b ≡ true → q b ≡ true) → (bytes : List ℕ) → list_all p bytes ≡ true → list_all q bytes ≡ true
weaker p q w [] h = refl
weaker p q w (b ∷ bytes) h = let both = and_parts (p b) (list_all p bytes) h in and_from (q b) (list_all q bytes) (w b both.0) (weaker p q w bytes both.1)

-- digits of a base up to 16 are plain
digit_plain : (b : ℕ) → digit_value b < 16 → is_plain b ≡ true
digit_plain b h = grind (arith, nat_tests)

pub digits_plain : (base : ℕ) (bytes : List ℕ) → base ≤ 16 → AllDigits base bytes → list_all is_plain bytes ≡ true
digits_plain base [] le h = refl
digits_plain base (b ∷ bytes) le h = and_from (is_plain b) (list_all is_plain bytes) (digit_plain b (omega (arith, h.0))) (digits_plain base bytes le h.1)

plain_unblank : (b : ℕ) → is_plain b ≡ true → not (is_blank b) ≡ true
plain_unblank b h = grind (arith, nat_tests)

plain_uncommented : (b : ℕ) → is_plain b ≡ true → not (is_comment_sign b) ≡ true
plain_uncommented b h = grind (arith, nat_tests)

plain_unended : (b : ℕ) → is_plain b ≡ true → not (is_line_feed b) ≡ true
plain_unended b h = grind (arith, nat_tests)

plain_allowed : (b : ℕ) → is_plain b ≡ true → is_allowed b ≡ true
plain_allowed b h = grind (arith, nat_tests)

-- none of the bytes passes the test
abbrev are_free_of : (ℕ → Bool) → List ℕ → Bool
are_free_of p bytes = list_all (λ b. not (p b)) bytes

-- a part without separator, and the separator after it
cut_at : (p : ℕ → Bool) (xs : List ℕ) (y : ℕ) (ys : List ℕ) → are_free_of p xs ≡ true → p y ≡ true → slice_split p (xs ++ y ∷ ys) ≡ xs ∷ slice_split p ys
cut_at p [] y ys h g = rw g refl
cut_at p (x ∷ xs) y ys h g =
    let both = and_parts (not (p x)) (are_free_of p xs) h in
    slice_split-cons_no p x (xs ++ y ∷ ys) (not-true (p x) both.0) ∙ ap (onto_first x) (cut_at p xs y ys both.1 g)

one_part : (p : ℕ → Bool) (xs : List ℕ) → are_free_of p xs ≡ true → slice_split p xs ≡ xs ∷ []
one_part p [] h = refl
one_part p (x ∷ xs) h =
    let both = and_parts (not (p x)) (are_free_of p xs) h in
    slice_split-cons_no p x xs (not-true (p x) both.0) ∙ ap (onto_first x) (one_part p xs both.1)

-- where nothing passes the test, all stands before the first that does
all_before : (p : ℕ → Bool) (xs : List ℕ) → are_free_of p xs ≡ true → before_first p xs ≡ xs
all_before p [] h = refl
all_before p (x ∷ xs) h =
    let both = and_parts (not (p x)) (are_free_of p xs) h in
    let more : 1 + position_or_len p xs ≡ suc (position_or_len p xs) = omega arith in
    rw (both.0, more) (ap (λ rest. x ∷ rest) (all_before p xs both.1))

plain_of : (token : List ℕ) → is_whole token ≡ true → list_all is_plain token ≡ true
plain_of token h = (and_parts (is_token token) (list_all is_plain token) h).1

-- tokens with one space between them are cut at the spaces
cut_tokens : (token : List ℕ) (tokens : List (List ℕ)) → is_whole token ≡ true → Each (λ t. is_whole t ≡ true) tokens → slice_split is_blank (spaced token tokens) ≡ token ∷ tokens
cut_tokens token [] h g = rw append-nil (one_part is_blank token (weaker is_plain (λ b. not (is_blank b)) plain_unblank token (plain_of token h)))
cut_tokens token (next ∷ tokens) h g =
    cut_at is_blank token 32 (spaced next tokens) (weaker is_plain (λ b. not (is_blank b)) plain_unblank token (plain_of token h)) refl
    ∙ ap (λ parts. token ∷ parts) (cut_tokens next tokens g.0 g.1)

-- none of them is empty
kept : (tokens : List (List ℕ)) → Each (λ t. is_whole t ≡ true) tokens → filter is_token tokens ≡ tokens
kept [] h = refl
kept (token ∷ tokens) h = rw (and_parts (is_token token) (list_all is_plain token) h.0).0 (ap (λ rest. token ∷ rest) (kept tokens h.1))

-- what holds of plain bytes and of a space holds of a line
all_of : (q : ℕ → Bool) → ((b : ℕ) → is_plain b ≡ true → q b ≡ true) → q 32 ≡ true → (token : List ℕ) (tokens : List (List ℕ)) → is_whole token ≡ true → Each (λ t. is_whole t ≡ true) tokens → list_all q (spaced token tokens) ≡ true
all_of q w space token [] h g = rw append-nil (weaker is_plain q w token (plain_of token h))
all_of q w space token (next ∷ tokens) h g =
    list_all-append q token (32 ∷ spaced next tokens)
    ∙ and_from (list_all q token) (list_all q (32 ∷ spaced next tokens)) (weaker is_plain q w token (plain_of token h)) (and_from (q 32) (list_all q (spaced next tokens)) space (all_of q w space next tokens g.0 g.1))

tokens_are : (line : Spoken) → IsWhole line → tokens_of (spaced line.first line.rest) ≡ line.first ∷ line.rest
tokens_are line h =
    ap (λ bytes. filter is_token (slice_split is_blank bytes)) (all_before is_comment_sign (spaced line.first line.rest) (all_of (λ b. not (is_comment_sign b)) plain_uncommented refl line.first line.rest h.first h.rest))
    ∙ ap (filter is_token) (cut_tokens line.first line.rest h.first h.rest)
    ∙ kept (line.first ∷ line.rest) (h.first, h.rest)

is_clean_line : (line : Spoken) → IsWhole line → is_clean (spaced line.first line.rest) ≡ true
is_clean_line line h = all_of is_allowed plain_allowed refl line.first line.rest h.first h.rest

-- the lines of such a text
lines_from_text : (n : ℕ) (lines : List Spoken) → Each IsWhole lines → lines_from n (flat_map spoken_text lines) ≡ numbered n lines
lines_from_text n [] h = refl
lines_from_text n (line ∷ lines) h =
    let rest = flat_map spoken_text lines in
    let bytes = spaced line.first line.rest in
    let free = all_of (λ b. not (is_line_feed b)) plain_unended refl line.first line.rest h.0.first h.0.rest in
    ap (lines_from n) (append_assoc bytes (10 ∷ []) rest)
    ∙ ap (λ parts. filter (λ (l : TextLine). not (is_skipped l)) (numbered_from n parts)) (cut_at is_line_feed bytes 10 rest free refl)
    ∙ (λ j. filter (λ (l : TextLine). not (is_skipped l)) (record { number = n; tokens = tokens_are line h.0 j; clean = is_clean_line line h.0 j } ∷ numbered_from (n + 1) (slice_split is_line_feed rest)))
    ∙ ap (λ l. record { number = n; tokens = line.first ∷ line.rest; clean = true } ∷ l) (lines_from_text (n + 1) lines h.1)

pub lines_are : (text : List ℕ) (lines : List Spoken) → text ≡ flat_map spoken_text lines → Each IsWhole lines → lines_of text ≡ numbered 1 lines
unfolding lines_of
lines_are text lines e h = ap (lines_from 1) e ∙ lines_from_text 1 lines h

-- lines after lines
pub numbered-append : (n : ℕ) (xs ys : List Spoken) → (m : ℕ) × (numbered n (xs ++ ys) ≡ numbered n xs ++ numbered m ys)
numbered-append n [] ys = (n, refl)
numbered-append n (x ∷ xs) ys = let rest = numbered-append (n + 1) xs ys in (rest.0, ap (λ l. record { number = n; tokens = x.first ∷ x.rest; clean = true } ∷ l) rest.1)
