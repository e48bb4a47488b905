use Rattle.std.proofs.Common.{◌≡◌, ℕ, ◌+◌, ◌<◌, ◌^◌, List, [], ◌∷◌, ◌++◌, ◌&&◌, not, Bool, true, false, cond, map, suc, refl, sym, ap, ◌∙◌, arith, append-nil, append_assoc, subst}
use Rattle.std.specs.Bool.{if◌then◌else◌}
use Rattle.std.specs.Fmt.{decimal}
use Rattle.std.specs.Prelude.{codes, filter}
use Rattle.std.specs.List.{list_all, slice_split, onto_first, before_first, position_or_len, flat_map, AllByRecursion as Each}
use Rattle.std.proofs.lemmas.Bool.{and_parts}
use Rattle.std.proofs.lemmas.List.Folds.{list_all-append}
use Rattle.std.proofs.lemmas.List.Splits.{slice_split-cons_no}
use Rattle.std.proofs.lemmas.Bool.Decides.{nat_tests}
use Rattle.ap_text.specs.Lines.{TextLine, is_allowed, is_blank, is_clean, is_comment_sign, is_line_feed, is_skipped, is_token, has_no_token, lines_from, lines_of, numbered_from, text_line, tokens_of}
use Rattle.ap_desc.specs.declared.description.Numbered.{Numbered}
use Rattle.ap_desc.specs.declared.statement.Statement.{Statement}
use Rattle.ap_desc.specs.declared.statement.Statement.TheVariants as s
use Rattle.ap_bits.specs.Beside.{EachBeside}
use Rattle.ap_desc.specs.Order.{is_micro}
use Rattle.ap_desc.specs.Reading.{SpellsLine, IsAt, ReadsAs}
use Rattle.ap_desc.specs.Shown.{after_space, line_bytes, renumbered, shown_text, shown_token, spaced}
use Rattle.ap_desc.specs.Spelling.{Token, exactly, tagged, IsSpellable, Spells, is_small, spelling}
use Rattle.ap_desc.proofs.PartFits.{both, left, right}
use Rattle.ap_desc.proofs.PlainTokens.{decimal_plain, fit_spelling, is_fit, is_plain, is_whole, joined_plain, weaker}
use Rattle.ap_desc.proofs.Decimals.{decimal_is_token}
use Rattle.ap_desc.proofs.ShownTokens.{shown_spells, small_below}

-- a byte of a line that show writes: it is allowed, and is no comment sign and no line feed
abbrev is_quiet : ℕ → Bool
is_quiet b = is_allowed b && not (is_comment_sign b) && not (is_line_feed b)

plain_is_quiet : (b : ℕ) → is_plain b ≡ true → is_quiet b ≡ true
plain_is_quiet b h = grind (arith, nat_tests)

quiet_is_allowed : (b : ℕ) → is_quiet b ≡ true → is_allowed b ≡ true
quiet_is_allowed b h = grind (arith, nat_tests)

plain_no_blank : (b : ℕ) → is_plain b ≡ true → is_blank b ≡ false
plain_no_blank b h = grind (arith, nat_tests)

quiet_no_comment : (b : ℕ) → is_quiet b ≡ true → is_comment_sign b ≡ false
quiet_no_comment b h = grind (arith, nat_tests)

quiet_no_line_feed : (b : ℕ) → is_quiet b ≡ true → is_line_feed b ≡ false
quiet_no_line_feed b h = grind (arith, nat_tests)

-- what is shown of a token whose text is plain and whose number is small is one whole token
token_after : (xs ys : List ℕ) → is_token ys ≡ true → is_token (xs ++ ys) ≡ true
token_after [] ys h = h
token_after (x ∷ xs) ys h = refl

whole_token : (token : Token) → is_fit token ≡ true → is_whole (shown_token token) ≡ true
whole_token (exactly bytes) h = h
whole_token (tagged tag n) h =
    let a = and_parts (list_all is_plain tag) (is_small n) h in
    let small : n < 2 ^ 64 = small_below n a.1 in
    both (token_after tag (decimal n) (decimal_is_token n small)) (joined_plain tag (decimal n) a.0 (decimal_plain n small))

abbrev is_shown_whole : Token → Bool
is_shown_whole token = is_whole (shown_token token)

whole_tokens : (tokens : List Token) → list_all is_fit tokens ≡ true → list_all is_shown_whole tokens ≡ true
whole_tokens [] h = refl
whole_tokens (token ∷ tokens) h =
    let a = and_parts (is_fit token) (list_all is_fit tokens) h in
    both (whole_token token a.0) (whole_tokens tokens a.1)

not_true : (b : Bool) → not b ≡ true → b ≡ false
not_true true h = cc
not_true false h = refl

-- none of the bytes passes the test
abbrev are_free_of : (ℕ → Bool) → List ℕ → Bool
are_free_of p bytes = list_all (λ b. not (p b)) bytes

-- a part without separator, and the separator after it
cut_at : (p : ℕ → Bool) (xs : List ℕ) (y : ℕ) (ys : List ℕ) → are_free_of p xs ≡ true → p y ≡ true → slice_split p (xs ++ y ∷ ys) ≡ xs ∷ slice_split p ys
cut_at p [] y ys h g = rw g refl
cut_at p (x ∷ xs) y ys h g =
    slice_split-cons_no p x (xs ++ y ∷ ys) (not_true (p x) (left (not (p x)) (are_free_of p xs) h))
    ∙ ap (onto_first x) (cut_at p xs y ys (right (not (p x)) (are_free_of p xs) h) g)

one_part : (p : ℕ → Bool) (xs : List ℕ) → are_free_of p xs ≡ true → slice_split p xs ≡ xs ∷ []
one_part p [] h = refl
one_part p (x ∷ xs) h =
    slice_split-cons_no p x xs (not_true (p x) (left (not (p x)) (are_free_of p xs) h)) ∙ ap (onto_first x) (one_part p xs (right (not (p x)) (are_free_of p xs) h))

-- where nothing passes the test, all stands before the first that does
all_before : (p : ℕ → Bool) (xs : List ℕ) → are_free_of p xs ≡ true → before_first p xs ≡ xs
all_before p [] h = refl
all_before p (x ∷ xs) h =
    let more : 1 + position_or_len p xs ≡ suc (position_or_len p xs) = omega arith in
    rw (left (not (p x)) (are_free_of p xs) h, more) (ap (λ rest. x ∷ rest) (all_before p xs (right (not (p x)) (are_free_of p xs) h)))

plain_unblank : (b : ℕ) → is_plain b ≡ true → not (is_blank b) ≡ true
plain_unblank b h = grind (arith, nat_tests)

quiet_uncommented : (b : ℕ) → is_quiet b ≡ true → not (is_comment_sign b) ≡ true
quiet_uncommented b h = grind (arith, nat_tests)

quiet_unended : (b : ℕ) → is_quiet b ≡ true → not (is_line_feed b) ≡ true
quiet_unended b h = grind (arith, nat_tests)

-- tokens with one space between them are cut at the spaces
cut_tokens : (token : List ℕ) (tokens : List Token) → list_all is_plain token ≡ true → list_all is_shown_whole tokens ≡ true → slice_split is_blank (token ++ flat_map after_space tokens) ≡ token ∷ map shown_token tokens
cut_tokens token [] h g = rw append-nil (one_part is_blank token (weaker is_plain (λ b. not (is_blank b)) plain_unblank token h))
cut_tokens token (next ∷ tokens) h g =
    let next_whole = left (is_shown_whole next) (list_all is_shown_whole tokens) g in
    cut_at is_blank token 32 (shown_token next ++ flat_map after_space tokens) (weaker is_plain (λ b. not (is_blank b)) plain_unblank token h) refl
    ∙ ap (λ parts. token ∷ parts) (cut_tokens (shown_token next) tokens (right (is_token (shown_token next)) (list_all is_plain (shown_token next)) next_whole) (right (is_shown_whole next) (list_all is_shown_whole tokens) g))

-- none of them is empty
kept : (tokens : List Token) → list_all is_shown_whole tokens ≡ true → filter is_token (map shown_token tokens) ≡ map shown_token tokens
kept [] h = refl
kept (token ∷ tokens) h =
    rw (left (is_token (shown_token token)) (list_all is_plain (shown_token token)) (left (is_shown_whole token) (list_all is_shown_whole tokens) h))
    (ap (λ rest. shown_token token ∷ rest) (kept tokens (right (is_shown_whole token) (list_all is_shown_whole tokens) h)))

quiet_token : (token : Token) → is_shown_whole token ≡ true → list_all is_quiet (shown_token token) ≡ true
quiet_token token h = weaker is_plain is_quiet plain_is_quiet (shown_token token) (right (is_token (shown_token token)) (list_all is_plain (shown_token token)) h)

quiet_rest : (tokens : List Token) → list_all is_shown_whole tokens ≡ true → list_all is_quiet (flat_map after_space tokens) ≡ true
quiet_rest [] h = refl
quiet_rest (token ∷ tokens) h =
    list_all-append is_quiet (after_space token) (flat_map after_space tokens)
    ∙ both (quiet_token token (left (is_shown_whole token) (list_all is_shown_whole tokens) h)) (quiet_rest tokens (right (is_shown_whole token) (list_all is_shown_whole tokens) h))

quiet_spaced : (tokens : List Token) → list_all is_shown_whole tokens ≡ true → list_all is_quiet (spaced tokens) ≡ true
quiet_spaced [] h = refl
quiet_spaced (token ∷ tokens) h =
    list_all-append is_quiet (shown_token token) (flat_map after_space tokens)
    ∙ both (quiet_token token (left (is_shown_whole token) (list_all is_shown_whole tokens) h)) (quiet_rest tokens (right (is_shown_whole token) (list_all is_shown_whole tokens) h))

-- a line, with two spaces before it or none
abbrev indented : Bool → List Token → List ℕ
indented is_inner tokens = (if is_inner then codes "  " else []) ++ spaced tokens

quiet_line : (is_inner : Bool) (tokens : List Token) → list_all is_shown_whole tokens ≡ true → list_all is_quiet (indented is_inner tokens) ≡ true
quiet_line true tokens h = quiet_spaced tokens h
quiet_line false tokens h = quiet_spaced tokens h

spaced_tokens : (tokens : List Token) → list_all is_shown_whole tokens ≡ true → filter is_token (slice_split is_blank (spaced tokens)) ≡ map shown_token tokens
spaced_tokens [] h = refl
spaced_tokens (token ∷ tokens) h =
    let first_whole = left (is_shown_whole token) (list_all is_shown_whole tokens) h in
    ap (filter is_token) (cut_tokens (shown_token token) tokens (right (is_token (shown_token token)) (list_all is_plain (shown_token token)) first_whole) (right (is_shown_whole token) (list_all is_shown_whole tokens) h))
    ∙ kept (token ∷ tokens) h

cut_line : (is_inner : Bool) (tokens : List Token) → list_all is_shown_whole tokens ≡ true → filter is_token (slice_split is_blank (indented is_inner tokens)) ≡ map shown_token tokens
cut_line true tokens h = spaced_tokens tokens h
cut_line false tokens h = spaced_tokens tokens h

shown_whole : (statement : Statement) → IsSpellable statement → list_all is_shown_whole (spelling statement) ≡ true
shown_whole statement h = whole_tokens (spelling statement) (fit_spelling statement h)

line_quiet : (statement : Statement) → IsSpellable statement → list_all is_quiet (line_bytes statement) ≡ true
line_quiet statement h = quiet_line (is_micro statement) (spelling statement) (shown_whole statement h)

-- the tokens of a line are those that were shown
line_tokens : (statement : Statement) → IsSpellable statement → tokens_of (line_bytes statement) ≡ map shown_token (spelling statement)
line_tokens statement h =
    ap (λ bytes. filter is_token (slice_split is_blank bytes)) (all_before is_comment_sign (line_bytes statement) (weaker is_quiet (λ b. not (is_comment_sign b)) quiet_uncommented (line_bytes statement) (line_quiet statement h)))
    ∙ cut_line (is_micro statement) (spelling statement) (shown_whole statement h)

line_clean : (statement : Statement) → IsSpellable statement → is_clean (line_bytes statement) ≡ true
line_clean statement h = weaker is_quiet is_allowed quiet_is_allowed (line_bytes statement) (line_quiet statement h)

-- the line of a statement spells it
pub line_spells : (number : ℕ) (statement : Statement) → IsSpellable statement → SpellsLine statement (text_line number (line_bytes statement))
line_spells number statement h = record {
  clean = line_clean statement h;
  spells = subst (λ (tokens : List (List ℕ)). Spells statement tokens) (sym (line_tokens statement h)) (shown_spells statement h);
}

shown_something : (statement : Statement) → has_no_token (map shown_token (spelling statement)) ≡ false
shown_something s.End = refl
shown_something _ = refl

not_skipped : (number : ℕ) (statement : Statement) → IsSpellable statement → is_skipped (text_line number (line_bytes statement)) ≡ false
not_skipped number statement h = ap (λ tokens. has_no_token tokens && is_clean (line_bytes statement)) (line_tokens statement h) ∙ ap (λ b. b && is_clean (line_bytes statement)) (shown_something statement)

lines_step : (number : ℕ) (n : Numbered) (rest : List Numbered) → IsSpellable n.statement → lines_from number (shown_text (n ∷ rest)) ≡ text_line number (line_bytes n.statement) ∷ lines_from (number + 1) (shown_text rest)
lines_step number n rest h =
    let parts : slice_split is_line_feed (shown_text (n ∷ rest)) ≡ line_bytes n.statement ∷ slice_split is_line_feed (shown_text rest) =
    ap (slice_split is_line_feed) (append_assoc (line_bytes n.statement) (codes "\n") (shown_text rest))
    ∙ cut_at is_line_feed (line_bytes n.statement) 10 (shown_text rest) (weaker is_quiet (λ b. not (is_line_feed b)) quiet_unended (line_bytes n.statement) (line_quiet n.statement h)) refl in
    ap (λ parts. filter (λ line. not (is_skipped line)) (numbered_from number parts)) parts
    ∙ ap (λ skipped. cond (not skipped) (text_line number (line_bytes n.statement) ∷ lines_from (number + 1) (shown_text rest)) (lines_from (number + 1) (shown_text rest))) (not_skipped number n.statement h)

lines_read : (number : ℕ) (statements : List Numbered) → Each (λ (n : Numbered). IsSpellable n.statement) statements → EachBeside IsAt (renumbered number statements) (lines_from number (shown_text statements))
lines_read number [] h = tt
lines_read number (n ∷ rest) h = subst (λ (lines : List TextLine). EachBeside IsAt (renumbered number (n ∷ rest)) lines) (sym (lines_step number n rest h.0))
    (record { number = refl; spells = line_spells number n.statement h.0 }, lines_read (number + 1) rest h.1)

-- the text that is shown reads as the statements, at the lines 1, 2 and so on
pub shown_reads : (statements : List Numbered) → Each (λ (n : Numbered). IsSpellable n.statement) statements → ReadsAs (shown_text statements) (renumbered 1 statements)
unfolding lines_of
shown_reads statements h = record {
  lines = lines_read 1 statements h;
}
