-- Two lists, one beside the other.
use Rattle.std.specs.Prelude.{List, [], ◌∷◌}

-- this holds of each two that stand beside each other, and neither list is longer
abbrev pub EachBeside : {X Y : Type 0} → (X → Y → Type 0) → List X → List Y → Type 0
EachBeside R [] [] = Unit {0}
EachBeside R [] (y ∷ ys) = ⊥
EachBeside R (x ∷ xs) [] = ⊥
EachBeside R (x ∷ xs) (y ∷ ys) = R x y × EachBeside R xs ys
