-- Designs that the machine can be run on.
use Rattle.std.specs.Prelude.{◌≤◌, List, [], ◌∷◌}
use Rattle.std.specs.List.{AllByRecursion as Each}
use Rattle.ap_bits.specs.declared.card.Card.{Card}
use Rattle.ap_desc.specs.Shelf.{IsOfCards}
use Rattle.ap_desc.specs.Sound.{IsSound}
use Rattle.ap_desc.specs.declared.design.Design.{Design}
use Rattle.ap_desc.specs.declared.design.Instr.{Instr}
use Rattle.ap_desc.specs.declared.design.Micro.{Micro}

-- the stages of the lines never fall
abbrev pub NeverFall : List Micro → Type 0
NeverFall [] = Unit {0}
NeverFall (m ∷ []) = Unit {0}
NeverFall (m ∷ n ∷ micros) = (m.stage ≤ n.stage) × NeverFall (n ∷ micros)

-- no line is in stage 0
abbrev pub NoneInZero : List Micro → Type 0
NoneInZero micros = Each (λ (m : Micro). 1 ≤ m.stage) micros

-- the design is sound, its units are of the cards, and the lines of each instruction stand in the order of their stages, none of them
-- in stage 0
pub record IsRunnable (design : Design) (cards : List Card) : Type 0 where
  pub sound : IsSound design
  pub of_cards : IsOfCards design cards
  pub order : Each (λ (i : Instr). NeverFall i.micros) design.instrs
  pub later : Each (λ (i : Instr). NoneInZero i.micros) design.instrs
