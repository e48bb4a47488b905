-- The memories of a clean design are those of a shape: their names differ, and none is that of the code memory.
use Rattle.std.proofs.Common.{◌≡◌, ℕ, ◌&&◌, Bool, true, false, not, List, [], ◌∷◌, ◌++◌, map, refl, sym, ap, subst, ◌∙◌}
use Rattle.std.specs.Prelude.{◌≢◌, codes}
use Rattle.std.specs.List.{AllByRecursion as Each, flat_map, list_all, list_any}
use Rattle.std.specs.Str.{bytes_eq}
use Rattle.std.proofs.lemmas.Bool.{and_parts, both_ways, not-true, or_parts}
use Rattle.std.proofs.lemmas.Slice.Eq.{bytes_eq-Decides}
use Rattle.ap_desc.specs.Clean.{IsClean}
use Rattle.ap_desc.specs.Parts.{file_names, input_names, mem_names, reg_names, unit_names}
use Rattle.ap_desc.specs.Reserved.{is_free_name}
use Rattle.ap_desc.specs.Sound.{are_distinct}
use Rattle.ap_desc.specs.declared.design.Design.{Design}
use Rattle.ap_desc.specs.declared.design.Field.{Field}
use Rattle.ap_desc.specs.declared.design.Format.{Format}
use Rattle.ap_desc.specs.declared.design.InPort.{InPort}
use Rattle.ap_desc.specs.declared.design.Instr.{Instr}
use Rattle.ap_desc.specs.declared.design.Mem.{Mem}
use Rattle.ap_desc.proofs.FreeNames.{unlike}
use Rattle.ap_image.specs.Shapes.{AreDistinct, IsShape, shape_with}
use Rattle.ap_image.specs.declared.shape.MemShape.{MemShape}
use Rattle.ap_model.specs.DesignShape.{shape_of}
use Rattle.ap_program.proofs.DataFits.{mems_once}

differ : (x : List ℕ) (names : List (List ℕ)) → list_any (bytes_eq x) names ≡ false → Each (λ other. other ≢ x) names
differ x [] e = tt
differ x (n ∷ names) e =
    let parts = or_parts (bytes_eq x n) (list_any (bytes_eq x) names) e in
    ((λ same. both_ways (bytes_eq x n) parts.0 ((bytes_eq-Decides x n).1 (sym same))), differ x names parts.1)

distinct_names : (names : List (List ℕ)) → are_distinct names ≡ true → AreDistinct names
distinct_names [] e = tt
distinct_names (x ∷ names) e =
    let parts = and_parts (not (list_any (bytes_eq x) names)) (are_distinct names) e in
    (differ x names (not-true (list_any (bytes_eq x) names) parts.0), distinct_names names parts.1)

all_left : {X : Type 0} (test : X → Bool) (xs ys : List X) → list_all test (xs ++ ys) ≡ true → list_all test xs ≡ true
all_left test [] ys e = refl
all_left test (x ∷ xs) ys e = (let parts = and_parts (test x) (list_all test (xs ++ ys)) e in by (test x) parts.0 (all_left test xs ys parts.1))
  where
    by : (b : Bool) → b ≡ true → list_all test xs ≡ true → (b && list_all test xs) ≡ true
    by true e h = h
    by false e h = absurd cc

all_right : {X : Type 0} (test : X → Bool) (xs ys : List X) → list_all test (xs ++ ys) ≡ true → list_all test ys ≡ true
all_right test [] ys e = e
all_right test (x ∷ xs) ys e = all_right test xs ys (and_parts (test x) (list_all test (xs ++ ys)) e).1

free_mems : (design : Design) → IsClean design → list_all is_free_name (mem_names design) ≡ true
free_mems design clean =
    all_right is_free_name (reg_names design ++ file_names design) (mem_names design)
    (all_left is_free_name (reg_names design ++ file_names design ++ mem_names design) (input_names design)
    (all_left is_free_name (reg_names design ++ file_names design ++ mem_names design ++ input_names design) (unit_names design)
    (all_left is_free_name (reg_names design ++ file_names design ++ mem_names design ++ input_names design ++ unit_names design) formats
    (all_left is_free_name (reg_names design ++ file_names design ++ mem_names design ++ input_names design ++ unit_names design ++ formats) (map (λ (i : Instr). i.name) design.instrs) clean.sound.names))))
  where
    formats : List (List ℕ)
    formats = flat_map (λ (f : Format). f.name ∷ map (λ (x : Field). x.name) f.fields) design.formats

none_is_code : (mems : List Mem) → list_all is_free_name (map (λ (m : Mem). m.name) mems) ≡ true
    → Each (λ (m : MemShape). m.name ≢ codes "code") (map (λ (m : Mem). record { name = m.name; address = m.address; width = m.width }) mems)
none_is_code [] e = tt
none_is_code (mem ∷ mems) e =
    let parts = and_parts (is_free_name mem.name) (list_all is_free_name (map (λ (m : Mem). m.name) mems)) e in
    ((λ same. both_ways (bytes_eq mem.name (codes "code")) (unlike mem.name (codes "code") parts.0 refl) ((bytes_eq-Decides mem.name (codes "code")).1 same)), none_is_code mems parts.1)

same_names : (mems : List Mem) → map (λ (m : Mem). m.name) mems ≡ map (λ (m : MemShape). m.name) (map (λ (m : Mem). record { name = m.name; address = m.address; width = m.width }) mems)
same_names [] = refl
same_names (mem ∷ mems) = ap (λ names. mem.name ∷ names) (same_names mems)

design_has_shape : (design : Design) → IsClean design → IsShape (shape_of design)
design_has_shape design clean = record {
  distinct = subst AreDistinct (same_names design.mems) (distinct_names (mem_names design) (mems_once design clean));
  apart = none_is_code design.mems (free_mems design clean);
}

-- so are these parts
pub parts_have_shape : (design : Design) → IsClean design → (declared : List Mem) (ports : List InPort) (mems : List MemShape) (inputs : List ℕ) → declared ≡ design.mems → ports ≡ design.inputs
    → mems ≡ map (λ (m : Mem). record { name = m.name; address = m.address; width = m.width }) declared → inputs ≡ map (λ (p : InPort). p.width) ports → IsShape (shape_with design.address design.word mems inputs)
parts_have_shape design clean declared ports mems inputs is_mems are_ports e g =
    subst (λ ms. IsShape (shape_with design.address design.word ms inputs)) (sym (e ∙ ap (map (λ (m : Mem). record { name = m.name; address = m.address; width = m.width })) is_mems))
    (subst (λ ws. IsShape (shape_with design.address design.word (shape_of design).mems ws)) (sym (g ∙ ap (map (λ (p : InPort). p.width)) are_ports)) (design_has_shape design clean))
