use Rattle.std.proofs.Common.{◌≡◌, ◌≢◌, ℕ, ◌+◌, ◌%◌, ◌<◌, ◌≤◌, ◌^◌, ◌&&◌, Bool, true, false, List, [], ◌∷◌, ◌++◌, length, length-append, refl, sym, ap, ◌∙◌, arith, zero, suc}
use Rattle.std.specs.Prelude.{nat_le, not, IsTrue, ◌==◌}
use Rattle.std.specs.List.{list_all, list_any}
use Rattle.std.specs.Str.{IsAscii, IsUtf8, bytes_eq}
use Rattle.std.specs.Fmt.{decimal}
use Rattle.std.proofs.lemmas.Fmt.{decimal_by_steps, length-decimal-le}
use Rattle.std.proofs.lemmas.Str.{IsUtf8-from_ascii}
use Rattle.std.proofs.lemmas.List.Folds.{list_all-append}
use Rattle.std.proofs.lemmas.Bool.Decides.{nat_tests}
use Rattle.std.proofs.lemmas.Slice.Eq.{bytes_eq-Decides}
use Rattle.ap_bits.specs.Names.{starts_with_letter}
use Rattle.ap_net.specs.Names.{IsNetName, IsNew, IsNotNumbered, is_name_byte, numbered, barred_words}

-- each digit may stand in a name
digit_allowed : (d : ℕ) → d < 10 → is_name_byte (48 + d) ≡ true
digit_allowed d h = grind (arith, nat_tests)

decimal_allowed : (n : ℕ) → n < 2 ^ 64 → list_all is_name_byte (decimal n) ≡ true
decimal_allowed = decimal_by_steps (λ m ds. list_all is_name_byte ds ≡ true)
    (λ m l. rw (digit_allowed m l) refl)
    (λ m ds l h. list_all-append is_name_byte ds ((48 + m % 10) ∷ []) ∙ rw (h, digit_allowed (m % 10) (omega arith)) refl)

-- the names of fresh wires are names
pub IsNetName-numbered : (k : ℕ) → k < 2 ^ 64 → IsNetName (numbered k)
IsNetName-numbered k small =
    let short : length (decimal k) ≤ 20 = length-decimal-le 20 k (omega arith) (omega arith) small in
    let fits : nat_le (suc (length (decimal k))) 100 ≡ true = grind (arith, nat_tests) in
    rw (decimal_allowed k small, fits) refl

both_true : (a b : Bool) → (a && b) ≡ true → (a ≡ true) × (b ≡ true)
both_true true b h = (refl, h)
both_true false b h = cc

name_byte_is_ascii : (b : ℕ) → is_name_byte b ≡ true → b < 128
name_byte_is_ascii b h = grind (arith, nat_tests)

name_bytes_are_ascii : (name : List ℕ) → list_all is_name_byte name ≡ true → IsAscii name
name_bytes_are_ascii [] h i = omega arith
name_bytes_are_ascii (b ∷ bs) h zero = name_byte_is_ascii b (both_true (is_name_byte b) (list_all is_name_byte bs) h).0
name_bytes_are_ascii (b ∷ bs) h (suc i) = name_bytes_are_ascii bs (both_true (is_name_byte b) (list_all is_name_byte bs) h).1 i

-- a name is text
pub IsUtf8-name : (name : List ℕ) → IsNetName name → IsUtf8 name
IsUtf8-name name h =
    let front = both_true (starts_with_letter name && list_all is_name_byte name && nat_le (length name) 100) (not (list_any (bytes_eq name) barred_words)) h in
    let bytes = both_true (starts_with_letter name && list_all is_name_byte name) (nat_le (length name) 100) front.0 in
    IsUtf8-from_ascii name (name_bytes_are_ascii name (both_true (starts_with_letter name) (list_all is_name_byte name) bytes.0).1)

-- whether no name of the list is this one
abbrev pub is_new : List ℕ → List (List ℕ) → Bool
is_new name names = list_all (λ other. not (bytes_eq other name)) names

differ : (a b : List ℕ) → not (bytes_eq a b) ≡ true → a ≢ b
differ a b h e = let same : bytes_eq a b ≡ true = (bytes_eq-Decides a b).1 e in cc

-- the test tells that a name is new; on names that are written out it computes
pub IsNew-is_new : (name : List ℕ) (names : List (List ℕ)) → IsTrue (is_new name names) → IsNew name names
IsNew-is_new name [] h = tt
IsNew-is_new name (other ∷ names) h =
    let both = both_true (not (bytes_eq other name)) (is_new name names) h in
    (differ other name both.0, IsNew-is_new name names both.1)

-- whether a name begins with another letter than n
abbrev pub is_other_letter : List ℕ → Bool
is_other_letter [] = true
is_other_letter (b ∷ bs) = not (b == 110)

-- such a name isn't n and a number
pub IsNotNumbered-other : (name : List ℕ) → IsTrue (is_other_letter name) → IsNotNumbered name
IsNotNumbered-other name h k small e = let clash : is_other_letter (numbered k) ≡ true = sym (ap is_other_letter e) ∙ h in cc

-- a name that is k_, then bytes of names, then a number
pub IsNetName-numbered_kind : (middle : List ℕ) (k : ℕ) → IsTrue (list_all is_name_byte middle) → IsTrue (nat_le (length middle) 70) → k < 2 ^ 64 → IsNetName (107 ∷ 95 ∷ middle ++ decimal k)
IsNetName-numbered_kind middle k bytes few small =
    let short : length (decimal k) ≤ 20 = length-decimal-le 20 k (omega arith) (omega arith) small in
    let long = length-append middle (decimal k) in
    let le : length middle ≤ 70 = grind (arith, nat_tests, few) in
    let fits : nat_le (suc (suc (length (middle ++ decimal k)))) 100 ≡ true = grind (arith, nat_tests) in
    let all : list_all is_name_byte (middle ++ decimal k) ≡ true = list_all-append is_name_byte middle (decimal k) ∙ rw (bytes, decimal_allowed k small) refl in
    rw (all, fits) refl
