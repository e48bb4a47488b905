use Rattle.std.proofs.Common.{◌≡◌, ℕ, ◌+◌, ◌<◌, Bool, true, false, arith, ⊎_elim, List, [], ◌∷◌, ◌++◌, length, get_or, take, Some, None, Option, sym, ap, ◌∙◌, append-nil, refl}
use Rattle.std.specs.Prelude.{slice_get, slice_index, count_by}
use Rattle.std.specs.List.{filter_map}
use Rattle.std.proofs.Math.Seq.{get_or-append_seam}
use Rattle.std.proofs.Math.ListN.{get_or-append}
use Rattle.std.proofs.lemmas.Option.{get_or_from_slice_get}
use Rattle.std.proofs.lemmas.Bool.{cases_lt}
use Rattle.std.proofs.lemmas.List.Sums.{count_by_more_yes, count_by_more_no}
use Rattle.ap_net.specs.Places.{one_more_if}
use Rattle.std.proofs.lemmas.List.{take_more}
use Rattle.std.proofs.lemmas.List.Elements.{filter_map-append}

one_more : {X Y : Type 0} (h : X → Option Y) (xs : List X) (i : ℕ) (x : X) → i < length xs → x ≡ get_or xs i x → filter_map h (take (i + 1) xs) ≡ filter_map h (take i xs) ++ filter_map h (x ∷ [])
one_more h xs i x lt e = ap (filter_map h) (take_more xs i x lt) ∙ filter_map-append h (take i xs) (get_or xs i x ∷ []) ∙ ap (λ y. filter_map h (take i xs) ++ filter_map h (y ∷ [])) (sym e)

-- the next item gives one more
pub some_more : {X Y : Type 0} (h : X → Option Y) (xs : List X) (i : ℕ) (x : X) (y : Y) (ys : List Y) → i < length xs → x ≡ get_or xs i x → h x ≡ Some y
    → ys ≡ filter_map h (take i xs) → ys ++ y ∷ [] ≡ filter_map h (take (i + 1) xs)
some_more h xs i x y ys lt e f g = ap (λ l. l ++ y ∷ []) g ∙ sym (one_more h xs i x lt e ∙ ap (λ l. filter_map h (take i xs) ++ l) (rw f refl))

-- the next item gives nothing
pub none_more : {X Y : Type 0} (h : X → Option Y) (xs : List X) (i : ℕ) (x : X) (ys : List Y) → i < length xs → x ≡ get_or xs i x → h x ≡ None
    → ys ≡ filter_map h (take i xs) → ys ≡ filter_map h (take (i + 1) xs)
none_more h xs i x ys lt e f g = g ∙ sym (one_more h xs i x lt e ∙ ap (λ l. filter_map h (take i xs) ++ l) (rw f refl) ∙ append-nil (filter_map h (take i xs)))

count_more : {X : Type 0} (p : X → Bool) (xs : List X) (i : ℕ) (x : X) → i < length xs → x ≡ get_or xs i x → count_by p (take (i + 1) xs) ≡ one_more_if (p x) (count_by p (take i xs))
count_more p xs i x lt e = go (p x) refl
  where
    go : (b : Bool) → p x ≡ b → count_by p (take (i + 1) xs) ≡ one_more_if b (count_by p (take i xs))
    go true h = count_by_more_yes p xs i x lt (ap p (sym e) ∙ h)
    go false h = count_by_more_no p xs i x lt (ap p (sym e) ∙ h)

one_more_above : (b : Bool) (m n : ℕ) → one_more_if b (m + n) ≡ m + one_more_if b n
one_more_above true m n = omega arith
one_more_above false m n = refl

-- the number after the next item: of a count, and of a count above others
pub free_after : {X : Type 0} (p : X → Bool) (xs : List X) (i : ℕ) (x : X) (b : Bool) (free free' base : ℕ) → i < length xs → x ≡ get_or xs i x → p x ≡ b
    → free ≡ base + count_by p (take i xs) → free' ≡ one_more_if b free → free' ≡ base + count_by p (take (i + 1) xs)
free_after p xs i x b free free' base lt e t f g =
    g ∙ ap (one_more_if b) f ∙ one_more_above b base (count_by p (take i xs)) ∙ ap (λ n. base + n) (sym (count_more p xs i x lt e ∙ ap (λ c. one_more_if c (count_by p (take i xs))) t))

pub first_after : {X : Type 0} (p : X → Bool) (xs : List X) (i : ℕ) (x : X) (b : Bool) (free free' : ℕ) → i < length xs → x ≡ get_or xs i x → p x ≡ b
    → free ≡ count_by p (take i xs) → free' ≡ one_more_if b free → free' ≡ count_by p (take (i + 1) xs)
first_after p xs i x b free free' lt e t f g = g ∙ ap (one_more_if b) f ∙ sym (count_more p xs i x lt e ∙ ap (λ c. one_more_if c (count_by p (take i xs))) t)

-- what holds of the numbers so far holds with one more
pub each_more : {X : Type 0} (place : X → ℕ → ℕ) (xs : List X) (numbers : List ℕ) (i number : ℕ) (x : X) → length numbers ≡ i → x ≡ get_or xs i x → i < length xs
    → ((n : ℕ) (y : X) → n < i → slice_get xs n ≡ Some y → slice_index numbers n ≡ place y n) → number ≡ place x i
    → (n : ℕ) (y : X) → n < i + 1 → slice_get xs n ≡ Some y → slice_index (numbers ++ number ∷ []) n ≡ place y n
each_more place xs numbers i number x long e lt each same n y le at =
    ⊎_elim
    (λ below. let short : n < length numbers = omega arith in get_or-append numbers (number ∷ []) 0 n short ∙ each n y below at)
    (λ above.
    let here : n ≡ i = omega arith in
    let last : n ≡ length numbers = omega arith in
    let found : x ≡ y = e ∙ ap (λ k. get_or xs k x) (sym here) ∙ get_or_from_slice_get xs n y x at in
    ap (slice_index (numbers ++ number ∷ [])) last ∙ get_or-append_seam numbers number [] 0 ∙ same ∙ ap (λ z. place z i) found ∙ ap (place y) (sym here))
    (cases_lt n i)
