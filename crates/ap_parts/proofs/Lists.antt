-- Lists by place, and lists of names that differ.
use Rattle.std.proofs.Common.{◌≡◌, ◌≢◌, ℕ, zero, suc, ◌<◌, ◌≤◌, ◌||◌, Bool, true, false, cond, List, [], ◌∷◌, ◌++◌, length, get_or, map, Option, Some, None, refl, sym, ap, subst, ◌∙◌, arith}
use Rattle.std.specs.Prelude.{nat_lt, not, position, slice_get, IsSomeAnd}
use Rattle.std.specs.List.{AllByRecursion as Each, list_any, position_or_len}
use Rattle.std.proofs.lemmas.Bool.{both_ways, ltb-false, not-true}
use Rattle.std.proofs.lemmas.List.Sums.{prefix_len_passes}
use Rattle.std.proofs.lemmas.Option.{get_or_from_slice_get, slice_get_within}
use Rattle.ap_ctl.specs.Lists.{EachPair}
use Rattle.ap_net.specs.Names.{AreDistinct}
use Rattle.ap_net.proofs.Lists.{All-front, All-join, All-map, some_same}

-- what passes is among those of which some pass, and back
pub any_at : {X : Type 0} (t : X → Bool) (xs : List X) (k : ℕ) (x : X) → slice_get xs k ≡ Some x → t x ≡ true → list_any t xs ≡ true
any_at t [] k x at is = cc
any_at t (y ∷ xs) zero x at is = ap (λ b. b || list_any t xs) (ap t (some_same at) ∙ is)
any_at t (y ∷ xs) (suc k) x at is = later (t y) (any_at t xs k x at is)
  where
    later : (b : Bool) → list_any t xs ≡ true → (b || list_any t xs) ≡ true
    later true h = refl
    later false h = h

pub any_there : {X : Type 0} (t : X → Bool) (xs : List X) → list_any t xs ≡ true → (k : ℕ) × (x : X) × (slice_get xs k ≡ Some x) × (t x ≡ true)
any_there t [] h = cc
any_there {X} t (y ∷ xs) h = go (t y) refl h (any_there t xs)
  where
    go : (b : Bool) → t y ≡ b → (b || list_any t xs) ≡ true → (list_any t xs ≡ true → (k : ℕ) × (x : X) × (slice_get xs k ≡ Some x) × (t x ≡ true))
        → (k : ℕ) × (x : X) × (slice_get (y ∷ xs) k ≡ Some x) × (t x ≡ true)
    go true is h ih = (zero, y, refl, is)
    go false is h ih = let (k, x, at, on) = ih h in (suc k, x, at, on)

-- where no place is the first that passes, nothing passes
cond_none : {X : Type 0} (b : Bool) (y : X) → cond b (Some y) None ≡ None → b ≡ false
cond_none true y e = absurd cc
cond_none false y e = refl

pub none_at : {X : Type 0} (p : X → Bool) (xs : List X) → position p xs ≡ None → (i : ℕ) (x : X) → slice_get xs i ≡ Some x → p x ≡ true → ⊥
none_at p xs e i x at passes =
    let first : ℕ = position_or_len p xs in
    let all : length xs ≤ first = ltb-false first (length xs) (cond_none (nat_lt first (length xs)) first e) in
    let within : i < length xs = slice_get_within xs i x at in
    let early : i < first = omega arith in
    let fails : p (get_or xs i x) ≡ false = not-true (p (get_or xs i x)) (prefix_len_passes (λ y. not (p y)) xs i x early) in
    both_ways (p x) (ap p (sym (get_or_from_slice_get xs i x x at)) ∙ fails) passes

-- a fact of what an option has
pub some_and : {X : Type 0} (P : X → Type 0) (o : Option X) → IsSomeAnd o P → (x : X) × (o ≡ Some x) × P x
some_and P None h = absurd h
some_and P (Some x) h = (x, refl, h)

-- what stands beside an element
pub pair_at : {X Y : Type 0} (P : X → Y → Type 0) (xs : List X) (ys : List Y) → EachPair P xs ys → (i : ℕ) (x : X) → slice_get xs i ≡ Some x
    → (y : Y) × (slice_get ys i ≡ Some y) × P x y
pair_at P [] ys h i x at = cc
pair_at P (w ∷ xs) [] h i x at = absurd h
pair_at P (w ∷ xs) (z ∷ ys) h zero x at = let same : w ≡ x = some_same at in (z, refl, subst (λ v. P v z) same h.0)
pair_at P (w ∷ xs) (z ∷ ys) h (suc i) x at = pair_at P xs ys h.1 i x at

-- two lists that say the same at each place
pub same_map : {X Y Z : Type 0} (f : X → Z) (g : Y → Z) (xs : List X) (ys : List Y) → length xs ≡ length ys
    → ((i : ℕ) (x : X) (y : Y) → slice_get xs i ≡ Some x → slice_get ys i ≡ Some y → f x ≡ g y) → map f xs ≡ map g ys
same_map f g [] [] long h = refl
same_map f g [] (y ∷ ys) long h = absurd (omega arith)
same_map f g (x ∷ xs) [] long h = absurd (omega arith)
same_map f g (x ∷ xs) (y ∷ ys) long h =
    let head : f x ≡ g y = h zero x y refl refl in
    let tail : map f xs ≡ map g ys = same_map f g xs ys (omega arith) (λ i v w at there. h (suc i) v w at there) in
    (λ i. head i ∷ tail i)

pub distinct_left : (xs ys : List (List ℕ)) → AreDistinct (xs ++ ys) → AreDistinct xs
distinct_left [] ys h = tt
distinct_left (x ∷ xs) ys h = (All-front (λ other. other ≢ x) xs ys h.0, distinct_left xs ys h.1)

pub distinct_right : (xs ys : List (List ℕ)) → AreDistinct (xs ++ ys) → AreDistinct ys
distinct_right [] ys h = h
distinct_right (x ∷ xs) ys h = distinct_right xs ys h.1

pub distinct_join : (xs ys : List (List ℕ)) → AreDistinct xs → AreDistinct ys → Each (λ x. Each (λ y. y ≢ x) ys) xs → AreDistinct (xs ++ ys)
distinct_join [] ys h g apart = g
distinct_join (x ∷ xs) ys h g apart = (All-join (λ other. other ≢ x) xs ys h.0 apart.0, distinct_join xs ys h.1 g apart.1)

-- names that are made of different names
pub distinct_map : (f : List ℕ → List ℕ) → ((a b : List ℕ) → f a ≡ f b → a ≡ b) → (names : List (List ℕ)) → AreDistinct names
    → AreDistinct (map f names)
distinct_map f one [] h = tt
distinct_map f one (name ∷ names) h = (All-map (λ other. other ≢ f name) f names (made names h.0), distinct_map f one names h.1)
  where
    made : (others : List (List ℕ)) → Each (λ other. other ≢ name) others → Each (λ other. f other ≢ f name) others
    made [] h = tt
    made (other ∷ others) h = ((λ e. h.0 (one other name e)), made others h.1)

-- two lists of which this holds at each place
pub pairs_from : {X Y : Type 0} (P : X → Y → Type 0) (xs : List X) (ys : List Y) → length ys ≡ length xs
    → ((i : ℕ) (x : X) (y : Y) → slice_get xs i ≡ Some x → slice_get ys i ≡ Some y → P x y) → EachPair P xs ys
pairs_from P [] [] long f = tt
pairs_from P [] (y ∷ ys) long f = absurd (omega arith)
pairs_from P (x ∷ xs) [] long f = absurd (omega arith)
pairs_from P (x ∷ xs) (y ∷ ys) long f = (f zero x y refl refl, pairs_from P xs ys (omega arith) (λ i v w at there. f (suc i) v w at there))
