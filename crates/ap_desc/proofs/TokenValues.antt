-- What single tokens give: how they are spelled, and what else is spelled so.
use Rattle.std.proofs.Common.{◌≡◌, ℕ, ◌+◌, ◌<◌, ◌^◌, ◌==◌, ◌&&◌, not, Bool, true, false, List, [], ◌∷◌, ◌++◌, Option, Some, None, refl, sym, ap, ◌∙◌, subst, arith}
use Rattle.std.specs.Prelude.{codes, nat_lt, option_map, if◌then◌else◌}
use Rattle.std.specs.Char.{is_digit, digit_value}
use Rattle.std.specs.Cmp.Lexicographic.{bytes_decides}
use Rattle.std.specs.Fmt.{decimal}
use Rattle.std.specs.Str.{bytes_eq}
use Rattle.std.proofs.lemmas.Bool.{and_parts, eqb-true, eq-eqb, ltb-true}
use Rattle.std.proofs.lemmas.Bool.Decides.{nat_tests}
use Rattle.std.proofs.lemmas.Fmt.{decimal_digit}
use Rattle.std.proofs.lemmas.Option.{cond_some, same_Some}
use Rattle.ap_text.specs.Numbers.{number_value, if_fits, spelled_value}
use Rattle.ap_desc.specs.declared.statement.Word.{Word}
use Rattle.ap_desc.specs.declared.statement.Word.TheVariants.{Pc, Link, Named}
use Rattle.ap_desc.specs.Spelling.{is_free_word, word_text}
use Rattle.ap_desc.specs.TokenValues.{name_in, word_in, cut_on, led_by, port_in, beside}
use Rattle.ap_desc.proofs.FreeNames.{unlike, is_without, name_from, name_to}

-- what is known of two values that are both there
pub beside_some : {A B P : Type 0} (a : Option A) (b : Option B) (v : A × B) → beside a b ≡ Some v → (a ≡ Some v.0 → b ≡ Some v.1 → P) → P
beside_some None b v h k = cc
beside_some (Some x) None v h k = cc
beside_some (Some x) (Some y) v h k =
    let e : (x, y) ≡ v = same_Some (x, y) v h in
    k (λ i. Some (e i).0) (λ i. Some (e i).1)

-- what is known of a value that was made
pub map_some : {A B P : Type 0} (f : A → B) (o : Option A) (y : B) → option_map f o ≡ Some y → ((x : A) → o ≡ Some x → f x ≡ y → P) → P
map_some f None y h k = cc
map_some f (Some x) y h k = k x refl (same_Some (f x) y h)

-- which way a choice went
pub choose : {A P : Type 0} (b : Bool) (x y z : A) → (if b then x else y) ≡ z → (b ≡ true → x ≡ z → P) → (b ≡ false → y ≡ z → P) → P
choose true x y z h k l = k refl h
choose false x y z h k l = l refl h

if_fits_small : (o : Option ℕ) (n : ℕ) → if_fits o ≡ Some n → nat_lt n (2 ^ 64) ≡ true
if_fits_small None n h = cc
if_fits_small (Some v) n h =
    let a = cond_some (nat_lt v (2 ^ 64)) v n h in
    ap (λ n. nat_lt n (2 ^ 64)) (sym a.1) ∙ a.0

-- a number is small
pub number_small : (token : List ℕ) (n : ℕ) → number_value token ≡ Some n → nat_lt n (2 ^ 64) ≡ true
unfolding number_value
number_small token n h = if_fits_small (spelled_value token) n h

pub same_bytes : (a b : List ℕ) → bytes_eq a b ≡ true → a ≡ b
same_bytes a b e = (bytes_decides a b).0 e

-- an operand is spelled by its text, and its name may be used
pub word_from : (token : List ℕ) (word : Word) → word_in token ≡ Some word → (is_free_word word ≡ true) × (token ≡ word_text word)
unfolding word_in
word_from token word h =
    choose {P = (is_free_word word ≡ true) × (token ≡ word_text word)} (bytes_eq token (codes "pc")) (Some Pc) _ (Some word) h
    (λ e f. let q : Pc ≡ word = same_Some Pc word f in
    subst (λ w. (is_free_word w ≡ true) × (token ≡ word_text w)) q (refl, same_bytes token (codes "pc") e))
    (λ _ f. choose (bytes_eq token (codes "link")) (Some Link) (option_map Named (name_in token)) (Some word) f
    (λ e f. let q : Link ≡ word = same_Some Link word f in
    subst (λ w. (is_free_word w ≡ true) × (token ≡ word_text w)) q (refl, same_bytes token (codes "link") e))
    (λ _ f. map_some Named (name_in token) word f (λ name e q.
    let a = name_from token name e in
    subst (λ w. (is_free_word w ≡ true) × (token ≡ word_text w)) q (a.0, a.1))))

pub word_to : (word : Word) → is_free_word word ≡ true → word_in (word_text word) ≡ Some word
unfolding word_in
word_to Pc h = refl
word_to Link h = refl
word_to (Named name) h = rw (unlike name (codes "pc") h refl, unlike name (codes "link") h refl, name_to name h) refl

failed : (b : Bool) → not b ≡ true → b ≡ false
failed true h = cc
failed false h = refl

led_from : (o : Option (List ℕ × List ℕ)) (b : ℕ) (front back : List ℕ) {P : Type 0} → led_by b o ≡ Some (front, back) → ((rest : List ℕ) → o ≡ Some (rest, back) → b ∷ rest ≡ front → P) → P
led_from None b front back h k = cc
led_from (Some (rest, after)) b front back h k =
    let e : (b ∷ rest, after) ≡ (front, back) = same_Some (b ∷ rest, after) (front, back) h in
    k rest (λ i. Some (rest, (e i).1)) (λ i. (e i).0)

-- what is cut is joined again
pub cut_from : (c : ℕ) (token front back : List ℕ) → cut_on c token ≡ Some (front, back) → token ≡ front ++ c ∷ back
unfolding cut_on
cut_from c [] front back h = cc
cut_from c (b ∷ bytes) front back h =
    choose (b == c) (Some ([], bytes)) (led_by b (cut_on c bytes)) (Some (front, back)) h
    (λ e f. let q : ([], bytes) ≡ (front, back) = same_Some ([], bytes) (front, back) f in
    (λ i. eqb-true b c e i ∷ (q i).1) ∙ ap (λ front. front ++ c ∷ back) (λ i. (q i).0))
    (λ _ f. led_from (cut_on c bytes) b front back f (λ rest g q.
    ap (λ bytes. b ∷ bytes) (cut_from c bytes rest back g) ∙ ap (λ front. front ++ c ∷ back) q))

itself : (c : ℕ) → (c == c) ≡ true
itself c = eq-eqb c c refl

pub cut_found : (c : ℕ) (name rest : List ℕ) → is_without c name ≡ true → cut_on c (name ++ c ∷ rest) ≡ Some (name, rest)
unfolding cut_on
cut_found c [] rest h = rw (itself c) refl
cut_found c (b ∷ name) rest h =
    let a = and_parts (not (b == c)) (is_without c name) h in
    rw (failed (b == c) a.0, cut_found c name rest a.1) refl

pub cut_whole : (c : ℕ) (name : List ℕ) → is_without c name ≡ true → cut_on c name ≡ None
unfolding cut_on
cut_whole c [] h = refl
cut_whole c (b ∷ name) h =
    let a = and_parts (not (b == c)) (is_without c name) h in
    rw (failed (b == c) a.0, cut_whole c name a.1) refl

-- a digit is what is written of its value
digit_is : (d : ℕ) → is_digit d 10 ≡ true → 48 + digit_value d ≡ d
digit_is d h = grind (arith, nat_tests)

digit_passes : (n : ℕ) → n < 10 → is_digit (48 + n) 10 ≡ true
digit_passes n h = grind (arith, nat_tests)

digit_value_of : (n : ℕ) → n < 10 → digit_value (48 + n) ≡ n
digit_value_of n h = grind (arith, nat_tests)

-- a port is its letter and its number in decimal, which is below ten
pub port_from : (letter : ℕ) (part : List ℕ) (port : ℕ) → port_in letter part ≡ Some port → (nat_lt port 10 ≡ true) × (part ≡ letter ∷ decimal port)
unfolding port_in
port_from letter [] port h = cc
port_from letter (first ∷ []) port h = cc
port_from letter (first ∷ digit ∷ more ∷ bytes) port h = cc
port_from letter (first ∷ digit ∷ []) port h =
    let a = cond_some ((first == letter) && is_digit digit 10) (digit_value digit) port h in
    let b = and_parts (first == letter) (is_digit digit 10) a.0 in
    let low : digit_value digit < 10 = ltb-true (digit_value digit) 10 b.1 in (
      ap (λ n. nat_lt n 10) (sym a.1) ∙ b.1,
      (λ i. eqb-true first letter b.0 i ∷ sym (digit_is digit b.1) i ∷ []) ∙ ap (λ digits. letter ∷ digits) (sym (decimal_digit (digit_value digit) low) ∙ ap decimal a.1),
    )

pub port_to : (letter port : ℕ) → nat_lt port 10 ≡ true → port_in letter (letter ∷ decimal port) ≡ Some port
unfolding port_in
port_to letter port h =
    let low : port < 10 = ltb-true port 10 h in
    ap (λ digits. port_in letter (letter ∷ digits)) (decimal_digit port low) ∙ rw (itself letter, digit_passes port low, digit_value_of port low) refl
