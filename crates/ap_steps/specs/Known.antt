-- The inputs and registers of a draft are those that are known, where every net is ready whatever else the outside looks at: a further one
-- wouldn't be ready by an outside that looks, for it, at itself.
use Rattle.std.specs.Prelude.{◌≡◌, ◌⊎◌, ℕ, ◌<◌, ◌≤◌, List, length, slice_get, Some}
use Rattle.ap_net.specs.declared.cell.Wire.{Wire}
use Rattle.ap_net.specs.declared.net.ModuleNet.{ModuleNet}
use Rattle.ap_net.specs.Draft.{Draft, Extends, IsKept}
use Rattle.ap_net.specs.Modules.{regs_among}
use Rattle.ap_net.specs.Pending.{Among}
use Rattle.ap_net.specs.Ready.{AllReady, Dependence, numbers}
use Rattle.ap_net.specs.Wiring.{IsSource}

-- the net is one of the first so many, or one of these registers
abbrev pub IsKnown : ℕ → List Wire → ℕ → Type 0
IsKnown count registers n = (n < count) ⊎ Among (numbers registers) n

-- The other dependence looks at the same for the known nets, and lets modules depend on the same; for other nets it may look anywhere.
pub record AgreesAtKnown (count : ℕ) (registers : List Wire) (by other : Dependence) : Type 0 where
  pub looks : (n : ℕ) → IsKnown count registers n → other.looks n ≡ by.looks n
  pub needs : other.needs ≡ by.needs

-- every net is ready by each such
abbrev pub AllReadyByKnown : ℕ → List Wire → Dependence → Draft → Type 0
AllReadyByKnown count registers by d = (other : Dependence) → AgreesAtKnown count registers by other → AllReady other d

abbrev pub SourcesAreKnown : Type 0
SourcesAreKnown = (count : ℕ) (registers : List Wire) (by : Dependence) (d : Draft) → IsKept d → AllReadyByKnown count registers by d
    → (n : ℕ) (net : ModuleNet) → slice_get d.nets n ≡ Some net → IsSource net.role → IsKnown count registers n

-- none came where none is known
abbrev pub KnownRegistersStay : Type 0
KnownRegistersStay = (count : ℕ) (registers : List Wire) (by : Dependence) (a b d : Draft) → IsKept d → AllReadyByKnown count registers by d → Extends a b → Extends b d
    → ((n : ℕ) → length a.nets ≤ n → n < length b.nets → IsKnown count registers n → ⊥) → regs_among b.nets ≡ regs_among a.nets
