-- So many numbers, among which are all below their count: no two of them are one.
use Rattle.std.proofs.Common.{◌≡◌, ◌≢◌, ℕ, zero, suc, ◌<◌, ◌≤◌, List, [], ◌∷◌, ◌++◌, length, sym, ap, subst, arith, inl, inr, ⊎_elim, length-append}
use Rattle.std.specs.List.{AllByRecursion as Each}
use Rattle.ap_net.specs.Pending.{Among}
use Rattle.ap_net.specs.Wiring.{NoneTwice}
use Rattle.ap_net.proofs.Lists.{All-back, All-from, All-front, All-join}

-- where a number stands
split : (xs : List ℕ) (n : ℕ) → Among xs n → (front : List ℕ) × (back : List ℕ) × (xs ≡ front ++ n ∷ back)
split [] n h = absurd h
split (x ∷ xs) n h = ⊎_elim
    (λ e. ([], xs, ap (λ y. y ∷ xs) e))
    (λ more. let cut = split xs n more in (x ∷ cut.0, cut.1, ap (λ l. x ∷ l) cut.2))
    h

others : (front back : List ℕ) (n k : ℕ) → n ≢ k → Among (front ++ n ∷ back) k → Among (front ++ back) k
others [] back n k ne h = ⊎_elim (λ e. absurd (ne e)) (λ more. more) h
others (x ∷ front) back n k ne h = ⊎_elim (λ e. inl e) (λ more. inr (others front back n k ne more)) h

each_with : (P : ℕ → Type 0) (front back : List ℕ) (n : ℕ) → P n → Each P (front ++ back) → Each P (front ++ n ∷ back)
each_with P front back n p h = All-join P front (n ∷ back) (All-front P front back h) (p, All-back P front back h)

once_with : (front back : List ℕ) (n : ℕ) → Each (λ x. x ≢ n) (front ++ back) → NoneTwice (front ++ back) → NoneTwice (front ++ n ∷ back)
once_with [] back n other h = (other, h)
once_with (x ∷ front) back n other h = (each_with (λ y. y ≢ x) front back n (λ e. other.0 (sym e)) h.0, once_with front back n other.1 h.1)

pub record ArePlaced (n : ℕ) (xs : List ℕ) : Type 0 where
  pub apart : NoneTwice xs
  pub below : Each (λ x. x < n) xs

pub all_apart : (n : ℕ) (xs : List ℕ) → length xs ≤ n → ((k : ℕ) → k < n → Among xs k) → ArePlaced n xs
all_apart zero [] few all = record { apart = tt; below = tt }
all_apart zero (x ∷ xs) few all = absurd (omega (arith, few))
all_apart (suc n) xs few all =
    let cut = split xs n (all n (omega arith)) in
    let front = cut.0 in
    let back = cut.1 in
    let l1 : length xs ≡ length (front ++ n ∷ back) = ap length cut.2 in
    let l2 = length-append front (n ∷ back) in
    let l3 = length-append front back in
    let rest = all_apart n (front ++ back) (omega (arith, few, l1, l2, l3)) (λ k lt. others front back n k (λ e. absurd (omega (arith, e, lt))) (subst (λ l. Among l k) cut.2 (all k (omega (arith, lt))))) in
    record {
      apart = subst NoneTwice (sym cut.2) (once_with front back n (All-from (λ x. x < n) (λ x. x ≢ n) (λ x lt e. absurd (omega (arith, lt, e))) (front ++ back) rest.below) rest.apart);
      below = subst (Each (λ x. x < suc n)) (sym cut.2) (each_with (λ x. x < suc n) front back n (omega arith) (All-from (λ x. x < n) (λ x. x < suc n) (λ x lt. omega (arith, lt)) (front ++ back) rest.below));
    }
