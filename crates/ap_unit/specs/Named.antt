-- How the project's own kinds name the wires and registers of their modules.
use Rattle.std.specs.Prelude.{ℕ, ◌==◌, ◌&&◌, IsTrue, Bool, false, List, [], ◌∷◌}
use Rattle.std.specs.Char.{is_ascii_digit}
use Rattle.std.specs.List.{list_all, AllByRecursion as Each}
use Rattle.ap_net.specs.declared.net.Net.{Net}
use Rattle.ap_net.specs.declared.net.RegNet.{RegNet}
use Rattle.ap_net.specs.Draft.{Draft}
use Rattle.ap_net.specs.Modules.{ModuleText, IsModule}
use Rattle.ap_net.specs.Finished.{IsFinished}

-- decimal digits, at least one
abbrev pub are_digits : List ℕ → Bool
are_digits [] = false
are_digits (d ∷ ds) = list_all is_ascii_digit (d ∷ ds)

-- the letter, followed by decimal digits
abbrev pub is_lettered : ℕ → List ℕ → Bool
is_lettered letter [] = false
is_lettered letter (b ∷ bs) = b == letter && are_digits bs

-- each wire is named n (byte 110) and digits, and each register q (byte 113) and digits
pub record IsPlainlyNamed (m : ModuleText) : Type 0 where
  pub wires : Each (λ (x : Net). IsTrue (is_lettered 110 x.name)) m.wires
  pub regs : Each (λ (x : RegNet). IsTrue (is_lettered 113 x.name)) m.regs

-- so are the wires and registers of each module that is made of the draft
abbrev pub NamesPlainly : Draft → Type 0
NamesPlainly d = (m : ModuleText) → IsModule m → IsFinished d m → IsPlainlyNamed m
