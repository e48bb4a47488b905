-- The test of the names of memories is what a shape keeps.
use Rattle.std.proofs.Common.{◌≡◌, ◌≢◌, ℕ, Bool, true, false, List, [], ◌∷◌, map, refl, sym, ap}
use Rattle.std.specs.Prelude.{◌&&◌, ◌||◌, not, codes}
use Rattle.std.specs.List.{AllByRecursion as Each, list_any}
use Rattle.std.specs.Str.{bytes_eq}
use Rattle.std.specs.Cmp.Derive.{both_true}
use Rattle.std.proofs.lemmas.Slice.Eq.{bytes_eq-Decides}
use Rattle.ap_image.specs.declared.shape.MemShape.{MemShape}
use Rattle.ap_image.specs.Shapes.{AreDistinct, IsShape, are_mems_named, is_mem_named, shape_with}

-- where no memory is found to have this name, each has another
others_differ : (name : List ℕ) (mems : List MemShape) → list_any (is_mem_named name) mems ≡ false → Each (λ other. other ≢ name) (map (λ (m : MemShape). m.name) mems)
others_differ name [] h = tt
others_differ name (mem ∷ mems) h = go (others_differ name mems) (bytes_eq name mem.name) refl h
  where
    go : (list_any (is_mem_named name) mems ≡ false → Each (λ x. x ≢ name) (map (λ (m : MemShape). m.name) mems)) → (b : Bool) → bytes_eq name mem.name ≡ b
        → (b || list_any (is_mem_named name) mems) ≡ false → (mem.name ≢ name) × Each (λ x. x ≢ name) (map (λ (m : MemShape). m.name) mems)
    go rest true e f = cc
    go rest false e f = (λ same. let yes : bytes_eq name mem.name ≡ true = (bytes_eq-Decides name mem.name).1 (sym same) in cc, rest f)

-- and the other way round
none_found : (name : List ℕ) (mems : List MemShape) → Each (λ other. other ≢ name) (map (λ (m : MemShape). m.name) mems) → list_any (is_mem_named name) mems ≡ false
none_found name [] h = refl
none_found name (mem ∷ mems) h = go (none_found name mems h.1) (bytes_eq name mem.name) refl
  where
    go : list_any (is_mem_named name) mems ≡ false → (b : Bool) → bytes_eq name mem.name ≡ b → (b || list_any (is_mem_named name) mems) ≡ false
    go rest true e = absurd (h.0 (sym ((bytes_eq-Decides name mem.name).0 e)))
    go rest false e = rest

pub distinct_names : (mems : List MemShape) → are_mems_named mems ≡ true → AreDistinct (map (λ (m : MemShape). m.name) mems) × Each (λ (m : MemShape). m.name ≢ codes "code") mems
distinct_names [] h = (tt, tt)
distinct_names (mem ∷ mems) h = go (distinct_names mems) (bytes_eq mem.name (codes "code")) refl (list_any (is_mem_named mem.name) mems) refl h
  where
    go : (are_mems_named mems ≡ true → AreDistinct (map (λ (m : MemShape). m.name) mems) × Each (λ (m : MemShape). m.name ≢ codes "code") mems)
        → (code : Bool) → bytes_eq mem.name (codes "code") ≡ code → (twice : Bool) → list_any (is_mem_named mem.name) mems ≡ twice
        → (not code && not twice && are_mems_named mems) ≡ true
        → AreDistinct (map (λ (m : MemShape). m.name) (mem ∷ mems)) × Each (λ (m : MemShape). m.name ≢ codes "code") (mem ∷ mems)
    go rest true e twice f t = cc
    go rest false e true f t = cc
    go rest false e false f t = (
      (others_differ mem.name mems f, (rest t).0),
      (λ same. let yes : bytes_eq mem.name (codes "code") ≡ true = (bytes_eq-Decides mem.name (codes "code")).1 same in cc, (rest t).1),
    )

pub tested_names : (mems : List MemShape) → AreDistinct (map (λ (m : MemShape). m.name) mems) → Each (λ (m : MemShape). m.name ≢ codes "code") mems → are_mems_named mems ≡ true
tested_names [] d c = refl
tested_names (mem ∷ mems) d c = go (tested_names mems d.1 c.1) (none_found mem.name mems d.0) (bytes_eq mem.name (codes "code")) refl
  where
    go : are_mems_named mems ≡ true → list_any (is_mem_named mem.name) mems ≡ false → (code : Bool) → bytes_eq mem.name (codes "code") ≡ code → (not code && not (list_any (is_mem_named mem.name) mems) && are_mems_named mems) ≡ true
    go rest none true e = absurd (c.0 ((bytes_eq-Decides mem.name (codes "code")).0 e))
    go rest none false e = both_true (ap not none) rest

-- parts whose memories' names pass the test make a shape, and no others do
pub makes_shape : (address width : ℕ) (mems : List MemShape) (inputs : List ℕ) → are_mems_named mems ≡ true → IsShape (shape_with address width mems inputs)
makes_shape address width mems inputs h = let names = distinct_names mems h in record { distinct = names.0; apart = names.1 }

pub no_shape : (address width : ℕ) (mems : List MemShape) (inputs : List ℕ) → are_mems_named mems ≡ false → IsShape (shape_with address width mems inputs) → ⊥
no_shape address width mems inputs h is = let yes = tested_names mems is.distinct is.apart in cc
