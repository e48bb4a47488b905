-- What a call of the program is given.
use Rattle.std.specs.Prelude.{ℕ, List, map, Option}
use Rattle.std.specs.String.{string_bytes}
use Rattle.std.specs.declared.string.String.{String}
use Rattle.ap_bits.specs.declared.card.Card.{Card}
use Rattle.ap_desk.specs.Files.{Files}

-- the cards of the shelf, the words, and the files before the call, where the desk tells them
pub record Call : Type 0 where
  pub cards : List Card
  pub words : List (List ℕ)
  pub told : Option Files

-- the call with these words
abbrev pub call_of : {Z : Type 0} → List Card → List (String Z) → Option Files → Call
call_of cards words told = record { cards = cards; words = map string_bytes words; told = told }
