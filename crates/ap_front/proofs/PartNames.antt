-- The names of a clean design's parts: each is a letter with letters and digits, and no two are one.
use Rattle.std.proofs.Common.{◌≡◌, ℕ, suc, ◌≤◌, ◌==◌, ◌&&◌, true, false, if◌then◌else◌, List, [], ◌∷◌, ◌++◌, length, map, take, drop, flat_map, refl, sym, ap, ◌∙◌, arith, append_assoc, length-append}
use Rattle.std.specs.Prelude.{nat_le, not}
use Rattle.std.specs.Char.{is_ascii_alphanumeric}
use Rattle.std.specs.List.{AllByRecursion as Each, list_all}
use Rattle.std.specs.Str.{bytes_eq}
use Rattle.std.proofs.lemmas.Bool.{and_parts, eqb-false, leb-true, le-leb, or_left, both_ways}
use Rattle.std.proofs.lemmas.Bool.Decides.{nat_tests}
use Rattle.std.proofs.lemmas.Slice.Eq.{bytes_eq-Decides}
use Rattle.std.proofs.Math.Seq.{take-append_seam}
use Rattle.ap_bits.specs.Names.{IsName, is_name, starts_with_letter}
use Rattle.ap_desc.specs.Clean.{IsClean}
use Rattle.ap_desc.specs.Parts.{file_names, input_names, mem_names, reg_names, unit_names}
use Rattle.ap_desc.specs.Reserved.{is_among, is_free_name, memory_words, micro_words, statement_words}
use Rattle.ap_desc.specs.Sound.{are_distinct, names_of_parts}
use Rattle.ap_desc.specs.declared.design.Design.{Design}
use Rattle.ap_desc.specs.declared.design.Field.{Field}
use Rattle.ap_desc.specs.declared.design.Format.{Format}
use Rattle.ap_desc.specs.declared.design.Instr.{Instr}
use Rattle.ap_net.specs.Names.{IsNetName, is_name_byte}
use Rattle.ap_net.proofs.Lists.{All-back, All-front}
use Rattle.ap_front.proofs.Apart.{Once, once_back, once_front, once_names}

-- Each is a name.

free_is_name : (name : List ℕ) → is_free_name name ≡ true → IsName name
free_is_name name h = (and_parts (is_name name) (not (is_among name statement_words)) (and_parts (is_name name && not (is_among name statement_words)) (not (is_among name micro_words)) (and_parts _ (not (is_among name memory_words)) h).0).0).0

named_each : (names : List (List ℕ)) → list_all is_free_name names ≡ true → Each IsName names
named_each [] h = tt
named_each (n ∷ names) h = let two = and_parts (is_free_name n) (list_all is_free_name names) h in (free_is_name n two.0, named_each names two.1)

pub all_named : (design : Design) → IsClean design → Each IsName (names_of_parts design)
all_named design clean = All-front IsName (names_of_parts design) formats (All-front IsName (names_of_parts design ++ formats) (map (λ (i : Instr). i.name) design.instrs) (named_each _ clean.sound.names))
  where
    formats : List (List ℕ)
    formats = flat_map (λ (f : Format). f.name ∷ map (λ (x : Field). x.name) f.fields) design.formats

pub all_once : (design : Design) → IsClean design → Once (names_of_parts design)
all_once design clean = once_names (names_of_parts design) (and_parts (are_distinct (names_of_parts design)) _ (and_parts _ _ (and_parts _ _ clean.sound.once).0).0).0

-- what holds of all of them, sort by sort
pub record OfParts (P : List ℕ → Type 0) (design : Design) : Type 0 where
  pub regs : Each P (reg_names design)
  pub files : Each P (file_names design)
  pub mems : Each P (mem_names design)
  pub inputs : Each P (input_names design)

pub named_parts : (design : Design) → IsClean design → OfParts IsName design
named_parts design clean =
    let r = reg_names design in
    let f = file_names design in
    let m = mem_names design in
    let i = input_names design in
    let four = All-front IsName (r ++ f ++ m ++ i) (unit_names design) (all_named design clean) in
    let three = All-front IsName (r ++ f ++ m) i four in
    let two = All-front IsName (r ++ f) m three in
    record { regs = All-front IsName r f two; files = All-back IsName r f two; mems = All-back IsName (r ++ f) m three; inputs = All-back IsName (r ++ f ++ m) i four }

pub record OnceParts (design : Design) : Type 0 where
  pub stored : Once (reg_names design ++ file_names design)
  pub regs : Once (reg_names design)
  pub files : Once (file_names design)
  pub mems : Once (mem_names design)
  pub inputs : Once (input_names design)

pub once_parts : (design : Design) → IsClean design → OnceParts design
once_parts design clean =
    let r = reg_names design in
    let f = file_names design in
    let m = mem_names design in
    let i = input_names design in
    let four = once_front (r ++ f ++ m ++ i) (unit_names design) (all_once design clean) in
    let three = once_front (r ++ f ++ m) i four in
    let two = once_front (r ++ f) m three in
    record { stored = two; regs = once_front r f two; files = once_back r f two; mems = once_back (r ++ f) m three; inputs = once_back (r ++ f ++ m) i four }

-- Names with _ after them.

-- a letter or digit is no _
no_bar : (b : ℕ) → is_ascii_alphanumeric b ≡ true → (b == 95) ≡ false
no_bar b h = grind (arith, nat_tests)

-- what stands before the first _, and after it
abbrev pub stem : List ℕ → List ℕ
stem [] = []
stem (b ∷ bs) = if b == 95 then [] else b ∷ stem bs

abbrev pub tail : List ℕ → List ℕ
tail [] = []
tail (b ∷ bs) = if b == 95 then bs else tail bs

pub stem_of : (n w : List ℕ) → list_all is_ascii_alphanumeric n ≡ true → stem (n ++ 95 ∷ w) ≡ n
stem_of [] w h = refl
stem_of (b ∷ n) w h =
    let two = and_parts (is_ascii_alphanumeric b) (list_all is_ascii_alphanumeric n) h in
    ap (λ t. if t then [] else b ∷ stem (n ++ 95 ∷ w)) (no_bar b two.0) ∙ ap (λ l. b ∷ l) (stem_of n w two.1)

pub tail_of : (n w : List ℕ) → list_all is_ascii_alphanumeric n ≡ true → tail (n ++ 95 ∷ w) ≡ w
tail_of [] w h = refl
tail_of (b ∷ n) w h =
    let two = and_parts (is_ascii_alphanumeric b) (list_all is_ascii_alphanumeric n) h in
    ap (λ t. if t then n ++ 95 ∷ w else tail (n ++ 95 ∷ w)) (no_bar b two.0) ∙ tail_of n w two.1

pub plain : (n : List ℕ) → IsName n → list_all is_ascii_alphanumeric n ≡ true
plain n h = (and_parts (starts_with_letter n) (list_all is_ascii_alphanumeric n) (and_parts (starts_with_letter n && list_all is_ascii_alphanumeric n) (nat_le (length n) 32) h).0).1

pub short : (n : List ℕ) → IsName n → length n ≤ 32
short n h = leb-true (length n) 32 (and_parts (starts_with_letter n && list_all is_ascii_alphanumeric n) (nat_le (length n) 32) h).1

-- a name has no _
pub has_no_bar : (n w : List ℕ) → list_all is_ascii_alphanumeric (n ++ 95 ∷ w) ≡ true → ⊥
has_no_bar [] w h = let off = (and_parts (is_ascii_alphanumeric 95) (list_all is_ascii_alphanumeric w) h).0 in cc
has_no_bar (b ∷ n) w h = has_no_bar n w (and_parts (is_ascii_alphanumeric b) (list_all is_ascii_alphanumeric (n ++ 95 ∷ w)) h).1

pub bar : (n w : List ℕ) → (n ++ 95 ∷ []) ++ w ≡ n ++ 95 ∷ w
bar n w = append_assoc n (95 ∷ []) w

-- two names with something after _ are one where both are
pub same_stem : (n m v w : List ℕ) → IsName n → IsName m → (n ++ 95 ∷ []) ++ v ≡ (m ++ 95 ∷ []) ++ w → n ≡ m
same_stem n m v w hn hm e = sym (stem_of n v (plain n hn)) ∙ ap stem (sym (bar n v) ∙ e ∙ bar m w) ∙ stem_of m w (plain m hm)

pub same_tail : (n m v w : List ℕ) → IsName n → IsName m → (n ++ 95 ∷ []) ++ v ≡ (m ++ 95 ∷ []) ++ w → v ≡ w
same_tail n m v w hn hm e = sym (tail_of n v (plain n hn)) ∙ ap tail (sym (bar n v) ∙ e ∙ bar m w) ∙ tail_of m w (plain m hm)

-- what stands before _ and one byte
pub same_front : (s t : List ℕ) (c d : ℕ) → (s ++ 95 ∷ []) ++ c ∷ [] ≡ (t ++ 95 ∷ []) ++ d ∷ [] → s ≡ t
same_front s t c d e =
    let both : s ++ 95 ∷ c ∷ [] ≡ t ++ 95 ∷ d ∷ [] = sym (bar s (c ∷ [])) ∙ e ∙ bar t (d ∷ []) in
    let l1 = length-append s (95 ∷ c ∷ []) in
    let l2 = length-append t (95 ∷ d ∷ []) in
    let l3 : length (s ++ 95 ∷ c ∷ []) ≡ length (t ++ 95 ∷ d ∷ []) = ap length both in
    let long : length s ≡ length t = omega arith in
    sym (take-append_seam s (95 ∷ c ∷ [])) ∙ ap (λ n. take n (s ++ 95 ∷ c ∷ [])) long ∙ ap (take (length t)) both ∙ take-append_seam t (95 ∷ d ∷ [])

-- lists that the test tells apart
pub told_apart : (a b : List ℕ) → bytes_eq a b ≡ false → a ≡ b → ⊥
told_apart a b off e = both_ways (bytes_eq a b) off ((bytes_eq-Decides a b).1 e)

pub head_differs : (a b : ℕ) (xs ys : List ℕ) → (a == b) ≡ false → a ∷ xs ≡ b ∷ ys → ⊥
head_differs a b xs ys d e = let same : a ≡ b = cc in eqb-false a b d same

-- Names of the subset.

alphanumeric_byte : (b : ℕ) → is_ascii_alphanumeric b ≡ true → is_name_byte b ≡ true
alphanumeric_byte b h = or_left (is_ascii_alphanumeric b) (b == 95) h

pub name_bytes : (bytes : List ℕ) → list_all is_ascii_alphanumeric bytes ≡ true → list_all is_name_byte bytes ≡ true
name_bytes [] h = refl
name_bytes (b ∷ bytes) h =
    let both = and_parts (is_ascii_alphanumeric b) (list_all is_ascii_alphanumeric bytes) h in
    rw (alphanumeric_byte b both.0, name_bytes bytes both.1) refl

-- a letter that ports begin with, _ and bytes of names
pub port_names : (middle : List ℕ) → list_all is_name_byte middle ≡ true → length middle ≤ 90 → IsNetName (112 ∷ 95 ∷ middle) × (IsNetName (109 ∷ 95 ∷ middle) × IsNetName (119 ∷ 95 ∷ middle))
port_names middle all le =
    let fits : nat_le (suc (suc (length middle))) 100 ≡ true = le-leb (suc (suc (length middle))) 100 (omega arith) in
    (rw (all, fits) refl, (rw (all, fits) refl, rw (all, fits) refl))

-- what follows one front is one
pub same_end : (p a b : List ℕ) → p ++ a ≡ p ++ b → a ≡ b
same_end [] a b e = e
same_end (x ∷ p) a b e = same_end p a b (ap (drop 1) e)
