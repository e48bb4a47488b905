-- Lists that are made number by number.
use Rattle.std.proofs.Common.{◌≡◌, ℕ, zero, suc, ◌+◌, ◌<◌, ◌≤◌, List, [], ◌∷◌, ◌++◌, length, map, Some, refl, ap, ◌∙◌, arith}
use Rattle.std.specs.Prelude.{slice_get}
use Rattle.std.specs.List.{range_with_len}
use Rattle.ap_ctl.specs.Lists.{EachFrom}

pub range_at : (a n i : ℕ) → i < n → slice_get (range_with_len a n) i ≡ Some (a + i)
range_at a zero i lt = absurd (omega arith)
range_at a (suc n) zero lt = let here : a ≡ a + 0 = omega arith in ap Some here
range_at a (suc n) (suc i) lt = let here : a + 1 + i ≡ a + suc i = omega arith in range_at (a + 1) n i (omega arith) ∙ ap Some here

pub range_long : {X : Type 0} (f : ℕ → X) (a n : ℕ) → length (map f (range_with_len a n)) ≡ n
range_long f a zero = refl
range_long f a (suc n) = ap suc (range_long f (a + 1) n)

range_more : {X : Type 0} (f : ℕ → X) (a n m : ℕ) → m ≡ a + n → map f (range_with_len a n) ++ f m ∷ [] ≡ map f (range_with_len a (suc n))
range_more f a zero m e = let same : m ≡ a = omega (arith, e) in ap (λ k. f k ∷ []) same
range_more f a (suc n) m e = ap (λ l. f a ∷ l) (range_more f (a + 1) n m (omega (arith, e)))

-- one more element, which is that of the next number
pub pushed : {X : Type 0} (f : ℕ → X) (n : ℕ) (xs : List X) (x : X) → xs ≡ map f (range_with_len 0 n) → x ≡ f n → xs ++ x ∷ [] ≡ map f (range_with_len 0 (n + 1))
pushed f n xs x l e =
    let next : suc n ≡ n + 1 = omega arith in
    (λ i. l i ++ e i ∷ []) ∙ range_more f 0 n n (omega arith) ∙ ap (λ k. map f (range_with_len 0 k)) next

pub each_from_range : {X : Type 0} (P : ℕ → X → Type 0) (f : ℕ → X) (a n : ℕ) → ((k : ℕ) → a ≤ k → k < a + n → P k (f k)) → EachFrom P a (map f (range_with_len a n))
each_from_range P f a zero h = tt
each_from_range P f a (suc n) h = (h a (omega arith) (omega arith), each_from_range P f (a + 1) n (λ k low high. h k (omega (arith, low)) (omega (arith, high))))
