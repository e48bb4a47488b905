-- The listing of an assembled program: its drain, its landings, and each placed word with the name of its instruction.
use Rattle.std.specs.Prelude.{ℕ, ◌++◌, List, [], take, codes}
use Rattle.std.specs.Fmt.{decimal}
use Rattle.std.specs.List.{enumerate_from, flat_map}
use Rattle.std.specs.Option.{option_map_or}
use Rattle.ap_desc.specs.declared.design.Design.{Design}
use Rattle.ap_desc.specs.declared.design.Instr.{Instr}
use Rattle.ap_model.specs.Fire.{instr_of}
use Rattle.ap_text.specs.Numbers.{hexadecimal}

abbrev pub landing_text : ℕ → List ℕ
landing_text landing = codes "landing " ++ decimal landing ++ codes "\n"

-- the name of the instruction that a word matches
abbrev pub name_of : Design → ℕ → List ℕ
name_of design word = option_map_or (λ (i : Instr). i.name) (instr_of design word) []

abbrev pub place_text : Design → ℕ × ℕ → List ℕ
place_text design (place, word) = decimal place ++ codes " " ++ hexadecimal word ++ codes " " ++ name_of design word ++ codes "\n"

-- the listing of a program of this drain, with these landings, whose placed words are the first of the code
abbrev pub listing_text : Design → ℕ → List ℕ → ℕ → List ℕ → List ℕ
listing_text design drain landings placed code =
    codes "drain " ++ decimal drain ++ codes "\n" ++ flat_map landing_text landings ++ flat_map (place_text design) (enumerate_from 0 (take placed code))
