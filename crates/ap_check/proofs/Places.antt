-- Two lines of one description: one stands before the other, or they are the same line.
use Rattle.std.proofs.Common.{◌≡◌, ℕ, ◌<◌, List, [], ◌∷◌, ◌++◌, ◌⊎◌, inl, inr, refl, sym, ap, subst, ◌∙◌, arith, append_assoc}
use Rattle.ap_desc.specs.Descriptions.{RiseAbove}
use Rattle.ap_desc.specs.declared.description.Numbered.{Numbered}

head_same : {X : Type 0} (x y : X) (xs ys : List X) → x ∷ xs ≡ y ∷ ys → x ≡ y
head_same x y xs ys e = cc

tail_same : {X : Type 0} (x y : X) (xs ys : List X) → x ∷ xs ≡ y ∷ ys → xs ≡ ys
tail_same x y xs ys e = cc

both_same : {X : Type 0} (x y : X) (xs ys : List X) → x ≡ y → xs ≡ ys → x ∷ xs ≡ y ∷ ys
both_same x y xs ys e h = cc

-- where the other stands: among those before, at the same place, or among those after
abbrev pub IsBeside : {X : Type 0} → List X → X → List X → List X → X → List X → Type 0
IsBeside {X} before n after before' n' after' =
    ((mid : List X) × (before ≡ before' ++ n' ∷ mid)) ⊎ (((before' ≡ before) × (n' ≡ n)) ⊎ ((mid : List X) × (after ≡ mid ++ n' ∷ after')))

pub beside : {X : Type 0} (before : List X) (n : X) (after before' : List X) (n' : X) (after' : List X) → before ++ n ∷ after ≡ before' ++ n' ∷ after' → IsBeside before n after before' n' after'
beside [] n after [] n' after' e = inr (inl (refl, sym (head_same n n' after after' e)))
beside [] n after (b' ∷ before') n' after' e = inr (inr (before', tail_same n b' after (before' ++ n' ∷ after') e))
beside (b ∷ before) n after [] n' after' e = inl (before, ap (λ x. x ∷ before) (head_same b n' (before ++ n ∷ after) after' e))
beside {X} (b ∷ before) n after (b' ∷ before') n' after' e = by (beside before n after before' n' after' (tail_same b b' (before ++ n ∷ after) (before' ++ n' ∷ after') e))
  where
    first : b ≡ b'
    first = head_same b b' (before ++ n ∷ after) (before' ++ n' ∷ after') e

    by : IsBeside before n after before' n' after' → IsBeside (b ∷ before) n after (b' ∷ before') n' after'
    by (inl (mid, same)) = inl (mid, both_same b b' before (before' ++ n' ∷ mid) first same)
    by (inr (inl (same, at))) = inr (inl (both_same b' b before' before (sym first) same, at))
    by (inr (inr (mid, same))) = inr (inr (mid, same))

-- the lines after one are above it
rise_after : (low : ℕ) (before : List Numbered) (n : Numbered) (after : List Numbered) → RiseAbove low (before ++ n ∷ after) → RiseAbove n.line after
rise_after low [] n after rise = rise.1
rise_after low (b ∷ before) n after rise = rise_after b.line before n after rise.1

rise_to : (low : ℕ) (mid : List Numbered) (n : Numbered) (after : List Numbered) → RiseAbove low (mid ++ n ∷ after) → low < n.line
rise_to low [] n after rise = rise.0
rise_to low (b ∷ mid) n after rise = let up = rise_to b.line mid n after rise.1 in let here = rise.0 in omega arith

-- a line further on has a higher number
pub later_line : (statements before : List Numbered) (n : Numbered) (mid : List Numbered) (m : Numbered) (after : List Numbered) → RiseAbove 0 statements → statements ≡ before ++ n ∷ (mid ++ m ∷ after) → n.line < m.line
later_line statements before n mid m after rise e = rise_to n.line mid m after (rise_after 0 before n (mid ++ m ∷ after) (subst (RiseAbove 0) e rise))

-- of a line that isn't further on than another, where it stands
pub not_later : (statements before : List Numbered) (n : Numbered) (after before' : List Numbered) (n' : Numbered) (after' : List Numbered) → RiseAbove 0 statements
    → statements ≡ before ++ n ∷ after → statements ≡ before' ++ n' ∷ after' → (n.line < n'.line → ⊥)
    → ((mid : List Numbered) × (before ≡ before' ++ n' ∷ mid) × (n'.line < n.line)) ⊎ ((before' ≡ before) × (n' ≡ n))
not_later statements before n after before' n' after' rise e e' low = by (beside before n after before' n' after' (sym e ∙ e'))
  where
    by : IsBeside before n after before' n' after' → ((mid : List Numbered) × (before ≡ before' ++ n' ∷ mid) × (n'.line < n.line)) ⊎ ((before' ≡ before) × (n' ≡ n))
    by (inl (mid, same)) = inl (mid, same, later_line statements before' n' mid n after rise (e ∙ ap (λ l. l ++ n ∷ after) same ∙ append_assoc before' (n' ∷ mid) (n ∷ after)))
    by (inr (inl at)) = inr at
    by (inr (inr (mid, same))) = absurd (low (later_line statements before n mid n' after' rise (e ∙ ap (λ l. before ++ n ∷ l) same)))
