-- A printer: what is left of the module that has begun, and the modules after it.
use Rattle.std.specs.Prelude.{◌≡◌, ℕ, Bool, true, false, List, [], ◌∷◌, ◌++◌}
use Rattle.std.specs.List.{AllByRecursion as Each}
use Rattle.ap_net.specs.Modules.{ModuleText, IsInstanceIn}
use Rattle.ap_vw.specs.declared.left.Left.{Left}
use Rattle.ap_vw.specs.LeftLines.{IsLeft, lines_left}
use Rattle.ap_vw.specs.NetLines.{lines_of}

-- the lines that are printed later
abbrev pub printed_later : Left → List ModuleText → List (List ℕ)
printed_later left modules = lines_left left ++ lines_of left.earlier.now modules

-- the instances of these modules are of these other ones
abbrev pub AreInstancesIn : List ModuleText → List ModuleText → Type 0
AreInstancesIn earlier modules = Each (λ (m : ModuleText). Each (IsInstanceIn earlier) m.instances) modules

-- what a printer keeps: where a module is done, it was the last one
pub record IsPrinter (left : Left) (modules : List ModuleText) : Type 0 where
  pub begun : IsLeft left
  pub instances : AreInstancesIn left.earlier.now modules
  pub ended : lines_left left ≡ [] → modules ≡ []

-- the next line was appended, or none was left
abbrev pub Prints : List (List ℕ) → List (List ℕ) → List ℕ → List ℕ → Bool → Type 0
Prints [] new before after more = (more ≡ false) × (new ≡ []) × (after ≡ before)
Prints (line ∷ lines) new before after more = (more ≡ true) × (new ≡ lines) × (after ≡ before ++ line)
