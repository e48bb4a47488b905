-- The numbers that were found for the letters of a form so far, and which forms have them.
use Rattle.std.specs.Prelude.{◌≡◌, ◌↔◌, ℕ, List, [], Bool, false, IsTrue, Option, None, IfSome, slice_index_or}
use Rattle.ap_bits.specs.declared.card.Card.{Card}
use Rattle.ap_top.specs.declared.form.Form.{Form}
use Rattle.ap_top.specs.declared.pattern.Letter.{Letter}
use Rattle.ap_top.specs.declared.pattern.Piece.{Piece}
use Rattle.ap_top.specs.declared.pattern.Piece.TheVariants.{Exactly, Number, Tagged}
use Rattle.ap_top.specs.Form.{DueToken, exactly, tagged, value_of, place_of, IsForm, HasAddition, unit_line}

-- the token that a piece of the table stands for
abbrev pub token_of : Piece → DueToken
token_of (Exactly text) = exactly text.now
token_of (Number letter) = tagged [] letter
token_of (Tagged text letter) = tagged text.now letter

-- what was found for a letter
abbrev pub found_at : List (Option ℕ) → Letter → Option ℕ
found_at found letter = slice_index_or found (place_of letter) None

-- the form has the numbers that were found
abbrev pub Agrees : List (Option ℕ) → Form → Type 0
Agrees found form = (letter : Letter) → IfSome (found_at found letter) (λ value. value_of form letter ≡ value)

-- a part of the text was taken: where it holds for some form, what is found afterwards says for which; and otherwise no form that agrees has it
pub record TakesPart (old new : List (Option ℕ)) (fact : Form → Type 0) (taken : Bool) : Type 0 where
  pub some : IsTrue taken → (form : Form) → Agrees new form ↔ (Agrees old form × fact form)
  pub none : taken ≡ false → (form : Form) → Agrees old form → fact form → ⊥

-- the same, where the numbers are within their ranges besides: some form has those that were found
pub record TakesFitting (old new : List (Option ℕ)) (fact : Form → Type 0) (taken : Bool) : Type 0 where
  pub some : IsTrue taken → (form : Form) → Agrees new form ↔ (Agrees old form × fact form)
  pub fits : IsTrue taken → (form : Form) × Agrees new form × IsForm form
  pub none : taken ≡ false → (form : Form) → Agrees old form → fact form → IsForm form → ⊥

-- Whether the shelf has what the line at this place asks for, by the numbers that were found with it: only the line `unit` asks,
-- for the unit of a form that has them; where it isn't there, some form that has them lacks it, or none has numbers within their ranges.
pub record IsServed (cards : List Card) (found : List (Option ℕ)) (place : ℕ) (served : Bool) : Type 0 where
  pub yes : IsTrue served → place ≡ unit_line → (form : Form) × Agrees found form × HasAddition cards form.width
  pub asks : served ≡ false → place ≡ unit_line
  pub no : served ≡ false → (given : Form) → Agrees found given → IsForm given → (form : Form) × Agrees found form × (HasAddition cards form.width → ⊥)
