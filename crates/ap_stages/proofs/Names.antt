-- The names of the instances of units: each is a name of a net, and those of two units differ.
use Rattle.std.proofs.Common.{◌≡◌, ℕ, zero, suc, ◌≤◌, ◌&&◌, true, false, List, [], ◌∷◌, ◌++◌, length, map, drop, Some, refl, sym, ap, ◌∙◌, arith}
use Rattle.std.specs.Prelude.{nat_le, not, slice_get}
use Rattle.std.specs.Char.{is_ascii_alphanumeric}
use Rattle.std.specs.List.{list_all, list_any}
use Rattle.std.specs.Str.{bytes_eq}
use Rattle.std.proofs.lemmas.Bool.{and_parts, leb-true, le-leb, or_left}
use Rattle.std.proofs.lemmas.Option.{same_Some}
use Rattle.std.proofs.lemmas.Slice.Eq.{bytes_eq-Decides}
use Rattle.ap_bits.specs.Names.{IsName, starts_with_letter}
use Rattle.ap_desc.specs.Clean.{IsClean}
use Rattle.ap_desc.specs.Parts.{file_names, format_names, input_names, mem_names, names_of_fields, reg_names, unit_names}
use Rattle.ap_desc.specs.Sound.{are_distinct, names_of_parts}
use Rattle.ap_desc.specs.declared.design.Design.{Design}
use Rattle.ap_desc.specs.declared.design.Format.{Format}
use Rattle.ap_desc.specs.declared.design.Instr.{Instr}
use Rattle.ap_desc.specs.declared.design.Unit.{Unit as Resource}
use Rattle.ap_net.specs.Names.{IsNetName, is_name_byte}
use Rattle.ap_ports.proofs.Members.{at_any}
use Rattle.ap_signals.specs.NetRuns.{unit_part}

alphanumeric_bytes : (bytes : List ℕ) → list_all is_ascii_alphanumeric bytes ≡ true → list_all is_name_byte bytes ≡ true
alphanumeric_bytes [] h = refl
alphanumeric_bytes (b ∷ bytes) h =
    let both = and_parts (is_ascii_alphanumeric b) (list_all is_ascii_alphanumeric bytes) h in
    let one : is_name_byte b ≡ true = or_left (is_ascii_alphanumeric b) _ both.0 in
    rw (one, alphanumeric_bytes bytes both.1) refl

-- the letter u, _ and a name of the description
pub unit_net_name : (name : List ℕ) → IsName name → IsNetName (117 ∷ 95 ∷ name)
unit_net_name name h =
    let few = and_parts (starts_with_letter name && list_all is_ascii_alphanumeric name) (nat_le (length name) 32) h in
    let bytes = and_parts (starts_with_letter name) (list_all is_ascii_alphanumeric name) few.0 in
    let short : length name ≤ 32 = leb-true (length name) 32 few.1 in
    let fits : nat_le (suc (suc (length name))) 100 ≡ true = le-leb (suc (suc (length name))) 100 (omega arith) in
    rw (alphanumeric_bytes name bytes.1, fits) refl

distinct_right : (xs ys : List (List ℕ)) → are_distinct (xs ++ ys) ≡ true → are_distinct ys ≡ true
distinct_right [] ys h = h
distinct_right (x ∷ xs) ys h = distinct_right xs ys (and_parts (not (list_any (bytes_eq x) (xs ++ ys))) (are_distinct (xs ++ ys)) h).1

not_among : (name : List ℕ) (names : List (List ℕ)) (k : ℕ) → not (list_any (bytes_eq name) names) ≡ true → slice_get names k ≡ Some name → ⊥
not_among name names k h at =
    let same : bytes_eq name name ≡ true = (bytes_eq-Decides name name).1 refl in
    let found : list_any (bytes_eq name) names ≡ true = at_any (bytes_eq name) names k name at same in
    let clash : false ≡ true = ap not (sym found) ∙ h in
    cc

distinct_at : (names : List (List ℕ)) → are_distinct names ≡ true → (i j : ℕ) (a : List ℕ) → slice_get names i ≡ Some a → slice_get names j ≡ Some a → i ≡ j
distinct_at [] h i j a at there = absurd cc
distinct_at (x ∷ names) h zero zero a at there = refl
distinct_at (x ∷ names) h zero (suc j) a at there =
    let both = and_parts (not (list_any (bytes_eq x) names)) (are_distinct names) h in
    absurd (not_among x names j both.0 (there ∙ sym at))
distinct_at (x ∷ names) h (suc i) zero a at there =
    let both = and_parts (not (list_any (bytes_eq x) names)) (are_distinct names) h in
    absurd (not_among x names i both.0 (at ∙ sym there))
distinct_at (x ∷ names) h (suc i) (suc j) a at there =
    let both = and_parts (not (list_any (bytes_eq x) names)) (are_distinct names) h in
    ap suc (distinct_at names both.1 i j a at there)

pub mapped_at : {X Y : Type 0} (f : X → Y) (xs : List X) (k : ℕ) (x : X) → slice_get xs k ≡ Some x → slice_get (map f xs) k ≡ Some (f x)
mapped_at f [] k x at = absurd cc
mapped_at f (y ∷ xs) zero x at = ap (λ z. Some (f z)) (same_Some y x at)
mapped_at f (y ∷ xs) (suc k) x at = mapped_at f xs k x at

pub units_named_once : (design : Design) → IsClean design → (i j : ℕ) (u v : Resource) → slice_get design.units i ≡ Some u → slice_get design.units j ≡ Some v → unit_part u ≡ unit_part v → i ≡ j
units_named_once design clean i j u v at there same =
    let fields = list_all (λ (f : Format). are_distinct (names_of_fields f.fields)) design.formats in
    let instrs = are_distinct (map (λ (i : Instr). i.name) design.instrs) in
    let a = and_parts (are_distinct (names_of_parts design) && are_distinct (format_names design) && instrs) fields clean.sound.once in
    let b = and_parts (are_distinct (names_of_parts design) && are_distinct (format_names design)) instrs a.0 in
    let c = and_parts (are_distinct (names_of_parts design)) (are_distinct (format_names design)) b.0 in
    let units = distinct_right (reg_names design ++ file_names design ++ mem_names design ++ input_names design) (unit_names design) c.0 in
    let name : u.name ≡ v.name = ap (drop 2) same in
    distinct_at (unit_names design) units i j v.name (mapped_at (λ (r : Resource). r.name) design.units i u at ∙ ap Some name) (mapped_at (λ (r : Resource). r.name) design.units j v there)
