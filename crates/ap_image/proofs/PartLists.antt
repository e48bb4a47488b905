-- The parts that an image may have: their names differ, so that a name finds one of them.
use Rattle.std.proofs.Common.{◌≡◌, ℕ, ◌+◌, ◌<◌, zero, suc, List, [], ◌∷◌, ◌++◌, length, get_or, map, Bool, true, false, cond, Some, None, refl, sym, ap, subst, ◌∙◌, arith, ◌≢◌, nat_lt, ⊎_elim}
use Rattle.std.specs.Prelude.{slice_get, slice_set, position}
use Rattle.std.specs.List.{AllByRecursion as Each, find, position_or_len}
use Rattle.std.specs.Option.{option_map}
use Rattle.std.specs.Str.{bytes_eq}
use Rattle.std.proofs.lemmas.Bool.{cases_lt, cond-true, false_from_ne_true, false≢true, lt-ltb}
use Rattle.std.proofs.lemmas.List.Folds.{find_at}
use Rattle.std.proofs.lemmas.List.Quantifiers.{position-Some}
use Rattle.std.proofs.lemmas.Option.{none-some, same_Some, slice_get-get_or, slice_get-map, slice_get_past}
use Rattle.std.proofs.lemmas.Slice.Eq.{bytes_eq-Decides}
use Rattle.ap_image.specs.declared.shape.MemShape.{MemShape}
use Rattle.ap_image.specs.ImageTexts.{code_part, part_named, parts_of}
use Rattle.ap_image.specs.Shapes.{AreDistinct, IsShape, Shape}

abbrev pub name_of : MemShape → List ℕ
name_of p = p.name

pub same_bytes : (xs ys : List ℕ) → bytes_eq xs ys ≡ true → xs ≡ ys
same_bytes xs ys h = (bytes_eq-Decides xs ys).0 h

pub bytes_same : (xs ys : List ℕ) → xs ≡ ys → bytes_eq xs ys ≡ true
bytes_same xs ys e = (bytes_eq-Decides xs ys).1 e

pub bytes_differ : (xs ys : List ℕ) → xs ≢ ys → bytes_eq xs ys ≡ false
bytes_differ xs ys h = false_from_ne_true (bytes_eq xs ys) (λ e. h (same_bytes xs ys e))

pub each_map : {X Y : Type 0} (P : Y → Type 0) (f : X → Y) (xs : List X) → Each (λ x. P (f x)) xs → Each P (map f xs)
each_map P f [] h = tt
each_map P f (x ∷ xs) h = (h.0, each_map P f xs h.1)

pub each_weaker : {X : Type 0} (P Q : X → Type 0) → ((x : X) → P x → Q x) → (xs : List X) → Each P xs → Each Q xs
each_weaker P Q f [] h = tt
each_weaker P Q f (x ∷ xs) h = (f x h.0, each_weaker P Q f xs h.1)

pub each_push : {X : Type 0} (P : X → Type 0) (xs : List X) (x : X) → Each P xs → P x → Each P (xs ++ x ∷ [])
each_push P [] x h p = (p, tt)
each_push P (y ∷ xs) x h p = (h.0, each_push P xs x h.1 p)

pub each_at : {X : Type 0} (P : X → Type 0) (xs : List X) (k : ℕ) (x : X) → Each P xs → slice_get xs k ≡ Some x → P x
each_at P [] k x h e = cc
each_at P (y ∷ xs) zero x h e = subst P (same_Some y x e) h.0
each_at P (y ∷ xs) (suc k) x h e = each_at P xs k x h.1 e

pub map_same : {X Y : Type 0} (f g : X → Y) → ((x : X) → f x ≡ g x) → (xs : List X) → map f xs ≡ map g xs
map_same f g e [] = refl
map_same f g e (x ∷ xs) = (λ j. e x j ∷ map_same f g e xs j)

-- the names of the parts differ
pub distinct_parts : (shape : Shape) → IsShape shape → AreDistinct (map name_of (parts_of shape))
distinct_parts shape h = (each_map (λ other. other ≢ code_part) name_of shape.mems h.apart, h.distinct)

-- the part of a place within the list
pub part_at : (parts : List MemShape) (place : ℕ) → place < length parts → (p : MemShape) × (slice_get parts place ≡ Some p)
part_at [] place lt = absurd (omega arith)
part_at (p ∷ parts) zero lt = (p, refl)
part_at (p ∷ parts) (suc place) lt = part_at parts place (omega arith)

pub at_place : {X : Type 0} (f : MemShape → X) (parts : List MemShape) (place : ℕ) (p : MemShape) (d : X) → slice_get parts place ≡ Some p → get_or (map f parts) place d ≡ f p
at_place f [] place p d e = cc
at_place f (q ∷ parts) zero p d e = ap f (same_Some q p e)
at_place f (q ∷ parts) (suc place) p d e = at_place f parts place p d e

pub at_place_some : {X : Type 0} (f : MemShape → X) (parts : List MemShape) (place : ℕ) (p : MemShape) → slice_get parts place ≡ Some p → slice_get (map f parts) place ≡ Some (f p)
at_place_some f parts place p e = slice_get-map f parts place ∙ ap (option_map f) e

pub named_at : (parts : List MemShape) (place : ℕ) (name : List ℕ) → slice_get (map name_of parts) place ≡ Some name → (p : MemShape) × (slice_get parts place ≡ Some p) × (p.name ≡ name) × (place < length parts)
named_at [] place name e = cc
named_at (p ∷ parts) zero name e = (p, refl, same_Some p.name name e, omega arith)
named_at (p ∷ parts) (suc place) name e = let rest = named_at parts place name e in (rest.0, rest.1, rest.2, omega (arith, rest.3))

-- whoever has another name
others : {X : Type 0} (f g : MemShape → X) (name : List ℕ) (parts : List MemShape) → Each (λ other. other ≢ name) (map name_of parts) → map (λ (q : MemShape). cond (bytes_eq name q.name) (g q) (f q)) parts ≡ map f parts
others f g name [] h = refl
others f g name (q ∷ parts) h = rw (bytes_differ name q.name (λ e. h.0 (sym e))) (ap (λ rest. f q ∷ rest) (others f g name parts h.1))

-- a change of the part of this name is one at its place
pub map_at : {X : Type 0} (f g : MemShape → X) (parts : List MemShape) (place : ℕ) (p : MemShape) → AreDistinct (map name_of parts) → slice_get parts place ≡ Some p
    → map (λ (q : MemShape). cond (bytes_eq p.name q.name) (g q) (f q)) parts ≡ slice_set (map f parts) place (g p)
map_at f g [] place p h e = cc
map_at f g (q ∷ parts) zero p h e = let same : q ≡ p = same_Some q p e in
    subst (λ (r : MemShape). map (λ (q : MemShape). cond (bytes_eq r.name q.name) (g q) (f q)) (q ∷ parts) ≡ slice_set (map f (q ∷ parts)) zero (g r)) same
    (rw (bytes_same q.name q.name refl) (ap (λ rest. g q ∷ rest) (others f g q.name parts h.0)))
map_at f g (q ∷ parts) (suc place) p h e =
    let apart : p.name ≢ q.name = each_at (λ other. other ≢ q.name) (map name_of parts) place p.name h.0 (at_place_some name_of parts place p e) in
    rw (bytes_differ p.name q.name apart) (ap (λ rest. f q ∷ rest) (map_at f g parts place p h.1 e))

-- what holds of each part goes on where only that of this name changes
all_others : (P Q : MemShape → Type 0) (name : List ℕ) → ((q : MemShape) → bytes_eq name q.name ≡ false → P q → Q q) → (parts : List MemShape) → Each (λ other. other ≢ name) (map name_of parts) → Each P parts → Each Q parts
all_others P Q name keep [] h each = tt
all_others P Q name keep (q ∷ parts) h each = (keep q (bytes_differ name q.name (λ e. h.0 (sym e))) each.0, all_others P Q name keep parts h.1 each.1)

pub each_change : (P Q : MemShape → Type 0) (parts : List MemShape) (place : ℕ) (p : MemShape) → AreDistinct (map name_of parts) → slice_get parts place ≡ Some p → Q p → ((q : MemShape) → bytes_eq p.name q.name ≡ false → P q → Q q) → Each P parts → Each Q parts
each_change P Q [] place p h e changed keep each = tt
each_change P Q (q ∷ parts) zero p h e changed keep each = let same : q ≡ p = same_Some q p e in
    (subst Q (sym same) changed, all_others P Q p.name keep parts (subst (λ (r : MemShape). Each (λ other. other ≢ r.name) (map name_of parts)) same h.0) each.1)
each_change P Q (q ∷ parts) (suc place) p h e changed keep each =
    let apart : p.name ≢ q.name = each_at (λ other. other ≢ q.name) (map name_of parts) place p.name h.0 (at_place_some name_of parts place p e) in
    (keep q (bytes_differ p.name q.name apart) each.0, each_change P Q parts place p h.1 e changed keep each.1)

-- a name finds the part that has it
pub found_at : (parts : List MemShape) (place : ℕ) (p : MemShape) → AreDistinct (map name_of parts) → slice_get parts place ≡ Some p → part_named parts p.name ≡ Some p
found_at [] place p h e = cc
found_at (q ∷ parts) zero p h e = let same : q ≡ p = same_Some q p e in
    subst (λ (r : MemShape). part_named (q ∷ parts) r.name ≡ Some r) same (rw (bytes_same q.name q.name refl) refl)
found_at (q ∷ parts) (suc place) p h e =
    let apart : p.name ≢ q.name = each_at (λ other. other ≢ q.name) (map name_of parts) place p.name h.0 (at_place_some name_of parts place p e) in
    rw (bytes_differ q.name p.name (λ same. apart (sym same))) (found_at parts place p h.1 e)

-- the place at which a search ends
position_at : (test : MemShape → Bool) (mems : List MemShape) (place : ℕ) (d : MemShape) → position test mems ≡ Some place → (m : MemShape) × (slice_get mems place ≡ Some m) × (test m ≡ true)
position_at test mems place d e = let h = position-Some test mems place d e in (get_or mems place d, slice_get-get_or mems place d h.0, h.1)

position_none : (test : MemShape → Bool) (mems : List MemShape) → position test mems ≡ None → find test mems ≡ None
position_none test mems e = ⊎_elim
    (λ lt. let wrong : Some (position_or_len test mems) ≡ None = sym (cond-true (nat_lt (position_or_len test mems) (length mems)) (Some (position_or_len test mems)) None (lt-ltb (position_or_len test mems) (length mems) lt)) ∙ e in absurd (none-some (position_or_len test mems) (sym wrong)))
    (λ le. find_at test mems ∙ slice_get_past mems (position_or_len test mems) le)
    (cases_lt (position_or_len test mems) (length mems))

-- the place of a data memory
pub mem_found : (shape : Shape) (name : List ℕ) (place : ℕ) → position (λ (m : MemShape). bytes_eq m.name name) shape.mems ≡ Some place → slice_get (map name_of (parts_of shape)) (place + 1) ≡ Some name
mem_found shape name place e =
    let next : place + 1 ≡ suc place = omega arith in
    let h = position_at (λ (m : MemShape). bytes_eq m.name name) shape.mems place (record { name = name; address = 0; width = 0 }) e in
    rw next (at_place_some name_of shape.mems place h.0 h.1 ∙ ap Some (same_bytes h.0.name name h.2))

pub none_named : (shape : Shape) (name : List ℕ) → bytes_eq name code_part ≡ false → position (λ (m : MemShape). bytes_eq m.name name) shape.mems ≡ None → part_named (parts_of shape) name ≡ None
none_named shape name other e =
    rw (bytes_differ code_part name (λ same. false≢true (sym other ∙ bytes_same name code_part (sym same)))) (position_none (λ (m : MemShape). bytes_eq m.name name) shape.mems e)
