-- Numbers in a row, and lists that are made of one list for each.
use Rattle.std.proofs.Common.{◌≡◌, ℕ, zero, suc, ◌+◌, ◌<◌, ◌≤◌, List, [], ◌∷◌, ◌++◌, length, flat_map, map, take, get_or, Some, refl, sym, ap, ◌∙◌, arith, append_assoc, append-nil}
use Rattle.std.specs.Prelude.{Bool, true, false, if◌then◌else◌, filter, slice_get}
use Rattle.std.specs.List.{AllByRecursion as Each, range_with_len}
use Rattle.std.proofs.lemmas.List.{take_more}
use Rattle.std.proofs.lemmas.List.Elements.{filter-append}

pub range_more : (a n : ℕ) → range_with_len a (n + 1) ≡ range_with_len a n ++ (a + n) ∷ []
range_more a zero = ap (λ k. k ∷ []) (omega arith)
range_more a (suc n) =
    let more : suc n + 1 ≡ suc (n + 1) = omega arith in
    let further : a + 1 + n ≡ a + suc n = omega arith in
    ap (range_with_len a) more ∙ ap (λ rest. a ∷ rest) (range_more (a + 1) n ∙ ap (λ k. range_with_len (a + 1) n ++ k ∷ []) further)

-- from 0 on
pub range_next : (n : ℕ) → range_with_len 0 (n + 1) ≡ range_with_len 0 n ++ n ∷ []
range_next n = let here : 0 + n ≡ n = omega arith in range_more 0 n ∙ ap (λ k. range_with_len 0 n ++ k ∷ []) here

pub flat_map_append : {X Y : Type 0} (f : X → List Y) (xs ys : List X) → flat_map f (xs ++ ys) ≡ flat_map f xs ++ flat_map f ys
flat_map_append f [] ys = refl
flat_map_append f (x ∷ xs) ys = ap (λ rest. f x ++ rest) (flat_map_append f xs ys) ∙ sym (append_assoc (f x) (flat_map f xs) (flat_map f ys))

-- one number more
pub flat_map_next : {Y : Type 0} (f : ℕ → List Y) (n : ℕ) → flat_map f (range_with_len 0 (n + 1)) ≡ flat_map f (range_with_len 0 n) ++ f n
flat_map_next f n =
    ap (flat_map f) (range_next n) ∙ flat_map_append f (range_with_len 0 n) (n ∷ []) ∙ ap (λ rest. flat_map f (range_with_len 0 n) ++ rest) (append-nil (f n))

-- one element more
pub flat_map_take : {X Y : Type 0} (f : X → List Y) (xs : List X) (i : ℕ) (d : X) → i < length xs → flat_map f (take (i + 1) xs) ≡ flat_map f (take i xs) ++ f (get_or xs i d)
flat_map_take f xs i d lt =
    let x = get_or xs i d in
    ap (flat_map f) (take_more xs i d lt) ∙ flat_map_append f (take i xs) (x ∷ []) ∙ ap (λ rest. flat_map f (take i xs) ++ rest) (append-nil (f x))

-- what is the same of each number is the same of all
pub flat_map_same : {X Y : Type 0} (f g : X → List Y) (xs : List X) → Each (λ x. f x ≡ g x) xs → flat_map f xs ≡ flat_map g xs
flat_map_same f g [] h = refl
flat_map_same f g (x ∷ xs) h = (λ i. h.0 i ++ flat_map_same f g xs h.1 i)

-- the number at a place
pub range_at : (a n i : ℕ) → i < n → slice_get (range_with_len a n) i ≡ Some (a + i)
range_at a zero i lt = absurd (omega arith)
range_at a (suc n) zero lt = let here : a ≡ a + 0 = omega arith in ap Some here
range_at a (suc n) (suc i) lt = let here : a + 1 + i ≡ a + suc i = omega arith in range_at (a + 1) n i (omega arith) ∙ ap Some here

pub map_at : {Y : Type 0} (f : ℕ → Y) (a n i : ℕ) → i < n → slice_get (map f (range_with_len a n)) i ≡ Some (f (a + i))
map_at f a zero i lt = absurd (omega arith)
map_at f a (suc n) zero lt = let here : a ≡ a + 0 = omega arith in ap (λ k. Some (f k)) here
map_at f a (suc n) (suc i) lt = let here : a + 1 + i ≡ a + suc i = omega arith in map_at f (a + 1) n i (omega arith) ∙ ap (λ k. Some (f k)) here

-- what holds of each number of a row
pub each_in_range : (P : ℕ → Type 0) (a n : ℕ) → ((k : ℕ) → a ≤ k → k < a + n → P k) → Each P (range_with_len a n)
each_in_range P a zero f = tt
each_in_range P a (suc n) f = (f a (omega arith) (omega arith), each_in_range P (a + 1) n (λ k low high. f k (omega arith) (omega arith)))

-- and of each of the lists that are made
pub each_made : {Y : Type 0} (P : Y → Type 0) (f : ℕ → List Y) (a n : ℕ) → ((k : ℕ) → a ≤ k → k < a + n → Each P (f k)) → Each P (flat_map f (range_with_len a n))
each_made P f a zero h = tt
each_made {Y = Y} P f a (suc n) h = joined (f a) (flat_map f (range_with_len (a + 1) n)) (h a (omega arith) (omega arith)) (each_made P f (a + 1) n (λ k low high. h k (omega arith) (omega arith)))
  where
    joined : (xs ys : List Y) → Each P xs → Each P ys → Each P (xs ++ ys)
    joined [] ys g r = r
    joined (x ∷ xs) ys g r = (g.0, joined xs ys g.1 r)

-- the numbers of a row that pass a test, with the next one where it passes, and without it where it doesn't
pub picked_more : (test : ℕ → Bool) (front made : List ℕ) (n : ℕ) → made ≡ front ++ filter test (range_with_len 0 n) → test n ≡ true → made ++ n ∷ [] ≡ front ++ filter test (range_with_len 0 (n + 1))
picked_more test front made n before passes =
    let last : filter test (n ∷ []) ≡ n ∷ [] = ap (λ b. if b then n ∷ [] else []) passes in
    ap (λ l. l ++ n ∷ []) before ∙ append_assoc front (filter test (range_with_len 0 n)) (n ∷ [])
    ∙ ap (λ l. front ++ l) (ap (λ l. filter test (range_with_len 0 n) ++ l) (sym last) ∙ sym (filter-append test (range_with_len 0 n) (n ∷ [])) ∙ ap (filter test) (sym (range_next n)))

pub passed_over : (test : ℕ → Bool) (front made : List ℕ) (n : ℕ) → made ≡ front ++ filter test (range_with_len 0 n) → test n ≡ false → made ≡ front ++ filter test (range_with_len 0 (n + 1))
passed_over test front made n before none =
    let last : filter test (n ∷ []) ≡ [] = ap (λ b. if b then n ∷ [] else []) none in
    before
    ∙ ap (λ l. front ++ l) (sym (append-nil (filter test (range_with_len 0 n))) ∙ ap (λ l. filter test (range_with_len 0 n) ++ l) (sym last) ∙ sym (filter-append test (range_with_len 0 n) (n ∷ [])) ∙ ap (filter test) (sym (range_next n)))
