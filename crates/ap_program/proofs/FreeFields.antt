-- The free fields of an instruction, while its fields are gone over; and lists side by side.
use Rattle.std.proofs.Common.{◌≡◌, ℕ, ◌+◌, ◌-◌, ◌<◌, ◌≤◌, Bool, true, false, List, [], ◌∷◌, ◌++◌, length, get_or, map, drop, Option, Some, None, is_none, is_some, not, refl, sym, ap, ◌∙◌, add-one, arith, append_assoc, append-nil}
use Rattle.std.specs.Prelude.{filter_map, zip}
use Rattle.std.specs.List.{cons_option, enumerate_from}
use Rattle.std.proofs.Math.Seq.{drop-cons}
use Rattle.std.proofs.lemmas.List.{length-drop}
use Rattle.ap_desc.specs.declared.design.Field.{Field}
use Rattle.ap_program.specs.LineFaults.{free_place}
use Rattle.ap_program.specs.declared.operands.FreeField.{FreeField}

-- what is left begins with the item there
rest_at : {X : Type 0} (xs : List X) (i : ℕ) (d : X) → i < length xs → drop i xs ≡ get_or xs i d ∷ drop (i + 1) xs
rest_at xs i d lt = rw add-one (drop-cons xs i d lt)

pub zip_at : {X Y : Type 0} (xs : List X) (ys : List Y) (i : ℕ) (dx : X) (dy : Y) → i < length xs → i < length ys → zip (drop i xs) (drop i ys) ≡ (get_or xs i dx, get_or ys i dy) ∷ zip (drop (i + 1) xs) (drop (i + 1) ys)
zip_at xs ys i dx dy lx ly = ap (λ zs. zip zs (drop i ys)) (rest_at xs i dx lx) ∙ ap (λ zs. zip (get_or xs i dx ∷ drop (i + 1) xs) zs) (rest_at ys i dy ly)

-- nothing is left
zip_none : {X Y : Type 0} (xs : List X) (ys : List Y) → ys ≡ [] → zip xs ys ≡ []
zip_none [] ys e = refl
zip_none (x ∷ xs) [] e = refl
zip_none (x ∷ xs) (y ∷ ys) e = absurd cc

twice : (b : Bool) → not (not b) ≡ b
twice true = refl
twice false = refl

pub is_none_by : {X : Type 0} (o : Option X) (b : Bool) → is_some o ≡ not b → is_none o ≡ b
is_none_by o b e = ap not e ∙ twice b

none_left : {X : Type 0} (ys : List X) → length ys ≡ 0 → ys ≡ []
none_left [] e = refl
none_left (y ∷ ys) e = absurd (omega arith)

no_rest : {X : Type 0} (xs : List X) (i : ℕ) → length xs ≤ i → drop i xs ≡ []
no_rest xs i le = none_left (drop i xs) (length-drop i xs ∙ (omega arith))

pub zip_past_left : {X Y : Type 0} (xs : List X) (ys : List Y) (i : ℕ) → length xs ≤ i → zip (drop i xs) (drop i ys) ≡ []
zip_past_left xs ys i le = ap (λ zs. zip zs (drop i ys)) (no_rest xs i le)

pub zip_past_right : {X Y : Type 0} (xs : List X) (ys : List Y) (i : ℕ) → length ys ≤ i → zip (drop i xs) (drop i ys) ≡ []
zip_past_right xs ys i le = zip_none (drop i xs) (drop i ys) (no_rest ys i le)

-- the free fields from a place on
abbrev pub free_from : List Field → List (Option ℕ) → ℕ → List FreeField
free_from fields fixed i = filter_map free_place (enumerate_from i (zip (drop i fields) (drop i fixed)))

at_place : (fields : List Field) (fixed : List (Option ℕ)) (i : ℕ) (df : Field) (dx : Option ℕ) → i < length fields → i < length fixed
    → free_from fields fixed i ≡ cons_option (free_place (i, (get_or fields i df, get_or fixed i dx))) (free_from fields fixed (i + 1))
at_place fields fixed i df dx lf lx = ap (λ ps. filter_map free_place (enumerate_from i ps)) (zip_at fields fixed i df dx lf lx)

fixed_place : (i : ℕ) (field : Field) (o : Option ℕ) (rest : List FreeField) → is_none o ≡ false → cons_option (free_place (i, (field, o))) rest ≡ rest
fixed_place i field (Some v) rest e = refl
fixed_place i field None rest e = absurd (let wrong : true ≡ false = e in cc)

open_place : (i : ℕ) (field : Field) (o : Option ℕ) (rest : List FreeField) → is_none o ≡ true → cons_option (free_place (i, (field, o))) rest ≡ record { place = i; width = field.width } ∷ rest
open_place i field (Some v) rest e = absurd (let wrong : false ≡ true = e in cc)
open_place i field None rest e = refl

-- one more field
pub free_same : (fields : List Field) (fixed : List (Option ℕ)) (i : ℕ) (dx : Option ℕ) (free whole : List FreeField) → i < length fields → i < length fixed → is_none (get_or fixed i dx) ≡ false
    → free ++ free_from fields fixed i ≡ whole → free ++ free_from fields fixed (i + 1) ≡ whole
free_same fields fixed i dx free whole lf lx e before = by (drop i fields) refl
  where
    by : (rest : List Field) → drop i fields ≡ rest → free ++ free_from fields fixed (i + 1) ≡ whole
    by [] at = absurd (let count : length (drop i fields) ≡ 0 = ap length at in let real : length (drop i fields) ≡ length fields - i = length-drop i fields in omega arith)
    by (field ∷ rest) at = ap (λ fs. free ++ fs) (sym (fixed_place i (get_or fields i field) (get_or fixed i dx) (free_from fields fixed (i + 1)) e) ∙ sym (at_place fields fixed i field dx lf lx)) ∙ before

pub free_more : (fields : List Field) (fixed : List (Option ℕ)) (i : ℕ) (d : Field) (dx : Option ℕ) (free new whole : List FreeField) → i < length fields → i < length fixed → is_none (get_or fixed i dx) ≡ true
    → new ≡ free ++ record { place = i; width = (get_or fields i d).width } ∷ [] → free ++ free_from fields fixed i ≡ whole → new ++ free_from fields fixed (i + 1) ≡ whole
free_more fields fixed i d dx free new whole lf lx e made before =
    ap (λ fs. fs ++ free_from fields fixed (i + 1)) made ∙ append_assoc free _ _
    ∙ ap (λ fs. free ++ fs) (sym (open_place i (get_or fields i d) (get_or fixed i dx) (free_from fields fixed (i + 1)) e) ∙ sym (at_place fields fixed i d dx lf lx)) ∙ before

pub free_past : (fields : List Field) (fixed : List (Option ℕ)) (i : ℕ) (free whole : List FreeField) → length fields ≤ i → free ++ free_from fields fixed i ≡ whole → free ≡ whole
free_past fields fixed i free whole le before = sym (append-nil free) ∙ ap (λ ps. free ++ filter_map free_place (enumerate_from i ps)) (sym (zip_past_left fields fixed i le)) ∙ before

pub free_all : (fields : List Field) (fixed : List (Option ℕ)) (i : ℕ) (free whole : List FreeField) → length fixed ≤ i → free ++ free_from fields fixed i ≡ whole → free ≡ whole
free_all fields fixed i free whole le before = sym (append-nil free) ∙ ap (λ ps. free ++ filter_map free_place (enumerate_from i ps)) (sym (zip_past_right fields fixed i le)) ∙ before

-- one more pair of a list that is made of two
pub pairs_more : {X Y Z : Type 0} (f : X × Y → Z) (xs : List X) (ys : List Y) (i : ℕ) (dx : X) (dy : Y) (made new whole : List Z) → i < length xs → i < length ys → new ≡ made ++ f (get_or xs i dx, get_or ys i dy) ∷ []
    → made ++ map f (zip (drop i xs) (drop i ys)) ≡ whole → new ++ map f (zip (drop (i + 1) xs) (drop (i + 1) ys)) ≡ whole
pairs_more f xs ys i dx dy made new whole lx ly is before =
    ap (λ zs. zs ++ map f (zip (drop (i + 1) xs) (drop (i + 1) ys))) is ∙ append_assoc made _ _ ∙ ap (λ ps. made ++ map f ps) (sym (zip_at xs ys i dx dy lx ly)) ∙ before

pub pairs_past_left : {X Y Z : Type 0} (f : X × Y → Z) (xs : List X) (ys : List Y) (i : ℕ) (made whole : List Z) → length xs ≤ i → made ++ map f (zip (drop i xs) (drop i ys)) ≡ whole → made ≡ whole
pairs_past_left f xs ys i made whole le before = sym (append-nil made) ∙ ap (λ ps. made ++ map f ps) (sym (zip_past_left xs ys i le)) ∙ before

pub pairs_past_right : {X Y Z : Type 0} (f : X × Y → Z) (xs : List X) (ys : List Y) (i : ℕ) (made whole : List Z) → length ys ≤ i → made ++ map f (zip (drop i xs) (drop i ys)) ≡ whole → made ≡ whole
pairs_past_right f xs ys i made whole le before = sym (append-nil made) ∙ ap (λ ps. made ++ map f ps) (sym (zip_past_right xs ys i le)) ∙ before

-- the same, where the second item, or the first, was read before
pub pairs_read_right : {X Y Z : Type 0} (f : X × Y → Z) (xs : List X) (ys : List Y) (i : ℕ) (dx : X) (y : Y) (z : Z) (made new whole : List Z) → i < length xs → i < length ys → y ≡ get_or ys i y → z ≡ f (get_or xs i dx, y) → new ≡ made ++ z ∷ []
    → made ++ map f (zip (drop i xs) (drop i ys)) ≡ whole → new ++ map f (zip (drop (i + 1) xs) (drop (i + 1) ys)) ≡ whole
pairs_read_right f xs ys i dx y z made new whole lx ly at is put before =
    pairs_more f xs ys i dx y made new whole lx ly (put ∙ ap (λ w. made ++ w ∷ []) is ∙ ap (λ w. made ++ f (get_or xs i dx, w) ∷ []) at) before

pub pairs_read_left : {X Y Z : Type 0} (f : X × Y → Z) (xs : List X) (ys : List Y) (i : ℕ) (x : X) (dy : Y) (z : Z) (made new whole : List Z) → i < length xs → i < length ys → x ≡ get_or xs i x → z ≡ f (x, get_or ys i dy) → new ≡ made ++ z ∷ []
    → made ++ map f (zip (drop i xs) (drop i ys)) ≡ whole → new ++ map f (zip (drop (i + 1) xs) (drop (i + 1) ys)) ≡ whole
pairs_read_left f xs ys i x dy z made new whole lx ly at is put before =
    pairs_more f xs ys i x dy made new whole lx ly (put ∙ ap (λ w. made ++ w ∷ []) is ∙ ap (λ w. made ++ f (w, get_or ys i dy) ∷ []) at) before
