-- In which slot of a stage the homes of its locals say that a local stands.
use Rattle.std.specs.Prelude.{◌≡◌, ℕ, ◌<◌, ◌==◌, ◌&&◌, if◌then◌else◌, true, List, [], ◌∷◌, length, slice_get, Some, suc, find}
use Rattle.std.specs.Option.{option_map_or}
use Rattle.ap_desc.specs.Clean.{IsClean}
use Rattle.ap_desc.specs.declared.design.Design.{Design}
use Rattle.ap_desc.specs.declared.design.Instr.{Instr}
use Rattle.ap_model.specs.Fire.{is_match}
use Rattle.ap_model.specs.FlightLocals.{is_live_in}
use Rattle.ap_pipe.specs.Slots.{AreHomes}
use Rattle.ap_pipe.specs.declared.table.Home.{Home}

-- the number of the first instruction that the word matches
abbrev pub match_number : ℕ → List Instr → ℕ
match_number word [] = 0
match_number word (x ∷ instrs) = if is_match word x then 0 else suc (match_number word instrs)

-- the number of an instruction of a clean design: that of the one that its own fixed bits match
abbrev pub number_of : Design → Instr → ℕ
number_of design instr = match_number instr.fixed_value design.instrs

-- the slot of the first home of an instruction's local
abbrev pub home_of : Design → List Home → Instr → ℕ → ℕ
home_of design homes instr i = option_map_or (λ (h : Home). h.slot) (find (λ (h : Home). (h.instr == number_of design instr) && (h.local == i)) homes) 0

-- a home of the local of the instruction of this number, in this slot
pub record IsHomeOf (homes : List Home) (k i slot : ℕ) : Type 0 where
  pub place : ℕ
  pub home : Home
  pub there : slice_get homes place ≡ Some home
  pub instr : home.instr ≡ k
  pub local : home.local ≡ i
  pub stands : slot ≡ home.slot

-- In a clean design each local that is live into a stage has its home there, which is a slot of the stage.
pub record HasHome (widths : List ℕ) (homes : List Home) (k i slot : ℕ) : Type 0 where
  pub home : IsHomeOf homes k i slot
  pub within : slot < length widths

abbrev pub HomesAreFound : Type 0
HomesAreFound = (design : Design) (stage : ℕ) (widths : List ℕ) (homes : List Home) → IsClean design → AreHomes design stage widths homes → (k i : ℕ) (instr : Instr) → slice_get design.instrs k ≡ Some instr → is_live_in design stage i instr ≡ true
    → HasHome widths homes k i (home_of design homes instr i)
