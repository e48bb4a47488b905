-- Nets of one width, of which one is chosen by its number.
use Rattle.std.specs.Prelude.{◌≡◌, ℕ, ◌==◌, if◌then◌else◌, List, [], ◌∷◌, map, Option, Some, None, All}
use Rattle.ap_net.specs.declared.cell.Wire.{Wire}
use Rattle.ap_net.specs.declared.net.ModuleNet.{ModuleNet}
use Rattle.ap_net.specs.Cells.{IsNet}
use Rattle.ap_net.specs.Draft.{Draft}
use Rattle.ap_net.specs.Late.{Reads}
use Rattle.ap_net.specs.Pending.{IsFrom}

-- the net is declared, and has w bits
pub record IsOfWidth (nets : List ModuleNet) (w : ℕ) (x : Wire) : Type 0 where
  pub net : IsNet nets x
  pub wide : x.width ≡ w

-- the values of nets, where read gives the value of a net by its number
abbrev pub values_of : (ℕ → ℕ) → List Wire → List ℕ
values_of read nets = map (λ x. read x.number) nets

-- of two nets the value of the second where the bit is 1, else of the first; of the first where it is alone
abbrev pub pair_value : (ℕ → ℕ) → ℕ → Wire → Option Wire → ℕ
pair_value read bit first None = read first.number
pair_value read bit first (Some second) = if bit == 1 then read second.number else read first.number

-- what such a choice reads
abbrev pub number_of : Option Wire → List ℕ
number_of None = []
number_of (Some x) = x.number ∷ []

abbrev pub pair_numbers : Wire → Wire → Option Wire → List ℕ
pair_numbers bit first second = bit.number ∷ first.number ∷ number_of second

-- nets came that read these of the old ones alone, and each of those that are answered is one of these, or came
pub record YieldsEach (from : List ℕ) (old new : Draft) (nets : List Wire) : Type 0 where
  pub reads : Reads from old new
  pub results : All (λ (x : Wire). IsFrom from old new x.number) nets
