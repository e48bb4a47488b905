-- The names of the modules of files differ in a sound design, and from those of kinds and of top.
use Rattle.std.proofs.Common.{◌≡◌, ◌≢◌, ℕ, ◌<◌, ◌&&◌, ◌||◌, Bool, true, false, List, [], ◌∷◌, ◌++◌, drop, map, refl, sym, ap, subst, arith}
use Rattle.std.specs.Prelude.{not, codes}
use Rattle.std.specs.List.{AllByRecursion as Each, list_all, list_any}
use Rattle.std.specs.Str.{bytes_eq}
use Rattle.std.proofs.lemmas.Bool.{and_parts}
use Rattle.std.proofs.lemmas.Slice.Eq.{bytes_eq-Decides}
use Rattle.ap_desc.specs.Clean.{IsClean}
use Rattle.ap_desc.specs.Parts.{file_names, format_names, input_names, mem_names, names_of_fields, reg_names, unit_names}
use Rattle.ap_desc.specs.Sound.{are_distinct, names_of_parts}
use Rattle.ap_desc.specs.declared.design.Design.{Design}
use Rattle.ap_desc.specs.declared.design.File.{File}
use Rattle.ap_desc.specs.declared.design.Format.{Format}
use Rattle.ap_desc.specs.declared.design.Instr.{Instr}
use Rattle.ap_net.specs.Names.{AreDistinct}
use Rattle.ap_net.proofs.Lists.{map-map}
use Rattle.ap_parts.specs.Parts.{file_module_name, kind_module_name}
use Rattle.ap_parts.proofs.Lists.{distinct_left, distinct_map, distinct_right}

-- Names begin with different letters.

abbrev first_letter : List ℕ → ℕ
first_letter [] = 0
first_letter (n ∷ name) = n

unequal : (a b x y : ℕ) → a ≡ x → b ≡ y → x < y → a ≡ b → ⊥
unequal a b x y p q lt e = absurd (omega arith)

pub file_is_no_kind : (f : File) (kind : List ℕ) (width : ℕ) → file_module_name f ≢ kind_module_name kind width
file_is_no_kind f kind width e = unequal 107 114 107 114 refl refl (omega arith) (sym (ap first_letter e))

pub kind_is_not_top : (kind : List ℕ) (width : ℕ) → kind_module_name kind width ≢ codes "top"
kind_is_not_top kind width e = unequal 107 116 107 116 refl refl (omega arith) (ap first_letter e)

pub file_is_not_top : (f : File) → file_module_name f ≢ codes "top"
file_is_not_top f e = unequal 114 116 114 116 refl refl (omega arith) (ap first_letter e)

-- Names that are tested to differ do.

no_other : (name : List ℕ) (names : List (List ℕ)) → not (list_any (bytes_eq name) names) ≡ true → Each (λ other. other ≢ name) names
no_other name [] h = tt
no_other name (first ∷ names) h = go (bytes_eq name first) refl h (no_other name names)
  where
    go : (b : Bool) → bytes_eq name first ≡ b → not (b || list_any (bytes_eq name) names) ≡ true
        → (not (list_any (bytes_eq name) names) ≡ true → Each (λ other. other ≢ name) names)
        → Each (λ other. other ≢ name) (first ∷ names)
    go true e h rest = absurd cc
    go false e h rest = ((λ same. let yes : bytes_eq name first ≡ true = (bytes_eq-Decides name first).1 (sym same) in cc), rest h)

are_apart : (names : List (List ℕ)) → are_distinct names ≡ true → AreDistinct names
are_apart [] h = tt
are_apart (name ∷ names) h =
    let both = and_parts (not (list_any (bytes_eq name) names)) (are_distinct names) h in
    (no_other name names both.0, are_apart names both.1)

-- Files of a clean design.

parts_apart : (design : Design) → IsClean design → AreDistinct (names_of_parts design)
parts_apart design clean =
    let fields = list_all (λ (f : Format). are_distinct (names_of_fields f.fields)) design.formats in
    let instrs = are_distinct (map (λ (i : Instr). i.name) design.instrs) in
    let a = and_parts (are_distinct (names_of_parts design) && are_distinct (format_names design) && instrs) fields clean.sound.once in
    let b = and_parts (are_distinct (names_of_parts design) && are_distinct (format_names design)) instrs a.0 in
    are_apart (names_of_parts design) (and_parts (are_distinct (names_of_parts design)) (are_distinct (format_names design)) b.0).0

files_apart : (design : Design) → IsClean design → AreDistinct (file_names design)
files_apart design clean =
    let four : List (List ℕ) = reg_names design ++ file_names design ++ mem_names design ++ input_names design in
    let three : List (List ℕ) = reg_names design ++ file_names design ++ mem_names design in
    let two : List (List ℕ) = reg_names design ++ file_names design in
    let rest : AreDistinct three = distinct_left three (input_names design) (distinct_left four (unit_names design) (parts_apart design clean)) in
    distinct_right (reg_names design) (file_names design) (distinct_left two (mem_names design) rest)

abbrev file_named : List ℕ → List ℕ
file_named name = codes "rf_" ++ name

pub file_modules_differ : (design : Design) → IsClean design → AreDistinct (map file_module_name design.files)
file_modules_differ design clean =
    subst AreDistinct (map-map (λ (f : File). f.name) file_named design.files)
    (distinct_map file_named (λ a b e. ap (drop 3) e) (file_names design) (files_apart design clean))
