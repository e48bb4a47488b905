-- Facts that hold in every reading that solves a netlist while it is being built. They go on where the draft grows.
use Rattle.std.specs.Prelude.{◌≡◌, ℕ, List}
use Rattle.ap_net.specs.declared.cell.Wire.{Wire}
use Rattle.ap_net.specs.Cells.{IsNet}
use Rattle.ap_net.specs.Modules.{ModuleText}
use Rattle.ap_net.specs.Draft.{Draft, Extends, SettlesOpen}

-- a netlist's modules, and a number for each net of the draft and of each instance's part
pub record Reading : Type 0 where
  pub modules : List ModuleText
  pub read : ℕ → ℕ
  pub parts : ℕ → ℕ → ℕ

-- the reading solves the draft and its parts
abbrev pub IsSettled : Draft → Reading → Type 0
IsSettled d r = SettlesOpen r.modules d r.read r.parts

-- the fact holds in every reading that solves the draft and its parts
pub record Always (d : Draft) (Fact : Reading → Type 0) : Type 0 where
  pub holds : (r : Reading) → IsSettled d r → Fact r

-- the net is there with its width, and its value always means this
pub record Carries (d : Draft) (width : ℕ) (Means : Reading → ℕ → Type 0) (w : Wire) : Type 0 where
  pub net : IsNet d.nets w
  pub wide : w.width ≡ width
  pub means : Always d (λ r. Means r (r.read w.number))

-- A reading that solves a draft solves each that the draft grew from. So a fact that always holds of one goes on.
abbrev pub FactsGoOn : Type 0
FactsGoOn = (a b : Draft) → Extends a b → (r : Reading) → IsSettled b r → IsSettled a r
