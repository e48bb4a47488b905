-- Names: what they are made of, and what they are not.
use Rattle.std.proofs.Common.{◌≡◌, ℕ, ◌==◌, ◌&&◌, not, Bool, true, false, List, [], ◌∷◌, Some, length, refl, sym, ap, ◌∙◌}
use Rattle.std.specs.Prelude.{nat_le}
use Rattle.std.specs.Char.{is_ascii_alphanumeric}
use Rattle.std.specs.Cmp.Lexicographic.{bytes_decides}
use Rattle.std.specs.List.{list_all}
use Rattle.std.specs.Str.{bytes_eq}
use Rattle.std.proofs.lemmas.Bool.{and_parts, and_from, eqb-true}
use Rattle.std.proofs.lemmas.Option.{cond_some}
use Rattle.ap_bits.specs.Names.{is_name, starts_with_letter}
use Rattle.ap_desc.specs.Reserved.{is_free_name, is_among, statement_words, micro_words, memory_words}
use Rattle.ap_desc.specs.TokenValues.{name_in}

pub free_is_name : (name : List ℕ) → is_free_name name ≡ true → is_name name ≡ true
free_is_name name h =
    let a = and_parts (is_name name && not (is_among name statement_words) && not (is_among name micro_words)) (not (is_among name memory_words)) h in
    let b = and_parts (is_name name && not (is_among name statement_words)) (not (is_among name micro_words)) a.0 in
    (and_parts (is_name name) (not (is_among name statement_words)) b.0).0

-- the bytes of a name are letters and digits
pub free_letters : (name : List ℕ) → is_free_name name ≡ true → list_all is_ascii_alphanumeric name ≡ true
free_letters name h =
    let a = and_parts (starts_with_letter name && list_all is_ascii_alphanumeric name) (nat_le (length name) 32) (free_is_name name h) in
    (and_parts (starts_with_letter name) (list_all is_ascii_alphanumeric name) a.0).1

not_passed : (b : Bool) → (b ≡ true → ⊥) → b ≡ false
not_passed true h = absurd (h refl)
not_passed false h = refl

-- a name that may be used isn't a word that may not
pub unlike : (name word : List ℕ) → is_free_name name ≡ true → is_free_name word ≡ false → bytes_eq name word ≡ false
unlike name word h g = not_passed (bytes_eq name word) (λ e. let wrong : true ≡ false = sym h ∙ ap is_free_name ((bytes_decides name word).0 e) ∙ g in cc)

-- no byte is this one
abbrev pub is_without : ℕ → List ℕ → Bool
is_without c bytes = list_all (λ b. not (b == c)) bytes

not_false : (b : Bool) → b ≡ false → not b ≡ true
not_false b e = rw e refl

letters_without : (c : ℕ) → is_ascii_alphanumeric c ≡ false → (bytes : List ℕ) → list_all is_ascii_alphanumeric bytes ≡ true → is_without c bytes ≡ true
letters_without c g [] h = refl
letters_without c g (b ∷ bytes) h =
    let a = and_parts (is_ascii_alphanumeric b) (list_all is_ascii_alphanumeric bytes) h in
    let apart : (b == c) ≡ false = not_passed (b == c) (λ e. let wrong : true ≡ false = sym a.0 ∙ ap is_ascii_alphanumeric (eqb-true b c e) ∙ g in cc) in
    and_from (not (b == c)) (is_without c bytes) (not_false (b == c) apart) (letters_without c g bytes a.1)

-- a separator doesn't stand in a name
pub free_without : (c : ℕ) → is_ascii_alphanumeric c ≡ false → (name : List ℕ) → is_free_name name ≡ true → is_without c name ≡ true
free_without c g name h = letters_without c g name (free_letters name h)

pub name_from : (token name : List ℕ) → name_in token ≡ Some name → (is_free_name name ≡ true) × (token ≡ name)
unfolding name_in
name_from token name h =
    let a = cond_some (is_free_name token) token name h in
    (ap is_free_name (sym a.1) ∙ a.0, a.1)

pub name_to : (name : List ℕ) → is_free_name name ≡ true → name_in name ≡ Some name
unfolding name_in
name_to name h = rw h refl
