-- What every description keeps.
use Rattle.std.specs.Prelude.{ℕ, ◌<◌, IsTrue, List, [], ◌∷◌, map}
use Rattle.std.specs.List.{AllByRecursion as Each}
use Rattle.ap_desc.specs.declared.description.Numbered.{Numbered}
use Rattle.ap_desc.specs.Spelling.{IsSpellable}
use Rattle.ap_desc.specs.Order.{are_in_order, is_complete}

-- the lines rise, and the first is above this one
abbrev pub RiseAbove : ℕ → List Numbered → Type 0
RiseAbove line [] = Unit {0}
RiseAbove line (n ∷ rest) = (line < n.line) × RiseAbove n.line rest

-- statements without fault of form, at lines that rise from 1 on
pub record IsDescription (statements : List Numbered) : Type 0 where
  pub spelled : Each (λ (n : Numbered). IsSpellable n.statement) statements
  pub lines : RiseAbove 0 statements
  pub order : IsTrue (are_in_order [] (map (λ n. n.statement) statements))
  pub complete : IsTrue (is_complete (map (λ n. n.statement) statements))
