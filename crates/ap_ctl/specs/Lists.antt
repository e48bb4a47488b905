-- Lists beside each other, and lists by number.
use Rattle.std.specs.Prelude.{ℕ, ◌+◌, List, [], ◌∷◌}

-- two lists are of one length, and this holds of the elements of each place
abbrev pub EachPair : {X Y : Type 0} → (X → Y → Type 0) → List X → List Y → Type 0
EachPair P [] [] = Unit {0}
EachPair P [] (y ∷ ys) = ⊥
EachPair P (x ∷ xs) [] = ⊥
EachPair P (x ∷ xs) (y ∷ ys) = P x y × EachPair P xs ys

-- this holds of each element, the first of which has the number n
abbrev pub EachFrom : {X : Type 0} → (ℕ → X → Type 0) → ℕ → List X → Type 0
EachFrom P n [] = Unit {0}
EachFrom P n (x ∷ xs) = P n x × EachFrom P (n + 1) xs
