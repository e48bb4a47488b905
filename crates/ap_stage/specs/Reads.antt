-- Nets that follow from others, and wires that are driven where they were declared earlier.
use Rattle.std.specs.Prelude.{◌≡◌, ◌≢◌, ℕ, ◌<◌, ◌≤◌, List, [], ◌∷◌, ◌++◌, length, map}
use Rattle.std.specs.List.{AllByRecursion as Each}
use Rattle.ap_net.specs.declared.cell.Wire.{Wire}
use Rattle.ap_net.specs.declared.net.Instance.{Instance}
use Rattle.ap_net.specs.Draft.{Adds, CanFresh, Draft, RegistersBelow, names_of}
use Rattle.ap_net.specs.Late.{IsLate, Reads}
use Rattle.ap_net.specs.Modules.{ports_among}
use Rattle.ap_net.specs.Names.{IsNew, IsNotNumbered}
use Rattle.ap_net.specs.Pending.{IsFrom}
use Rattle.ap_net.specs.Ready.{Dependence, ReadyAfter}

-- What came reads these nets of the old draft alone, and each of the other nets is one of these, or came.
pub record AreFrom (from : List ℕ) (old new : Draft) (nets : List ℕ) : Type 0 where
  pub reads : Reads from old new
  pub results : Each (IsFrom from old new) nets

-- each net is ready once these are, now or later
abbrev pub AreReadyAfter : Dependence → Draft → List ℕ → List ℕ → Type 0
AreReadyAfter by d base nets = Each (ReadyAfter by d base) nets

-- each net that came is
abbrev pub CameReady : Dependence → List ℕ → Draft → Draft → Type 0
CameReady by base old new = (n : ℕ) → length old.nets ≤ n → n < length new.nets → ReadyAfter by new base n

-- the wire is none of these
abbrev pub IsNone : List Wire → Wire → Type 0
IsNone wires x = Each (λ (w : Wire). w.number ≢ x.number) wires

-- These instances were placed, and these wires were driven that were declared earlier. All else stays as it was: no other wire of the old
-- draft and no register got a driver.
pub record Serves (placed : List Instance) (driven : List Wire) (old new : Draft) : Type 0 where
  pub adds : Adds old new
  pub instances : new.instances ≡ old.instances ++ placed
  pub fresh : CanFresh old → CanFresh new
  pub names : (name : List ℕ) → IsNotNumbered name → IsNew name (map (λ (i : Instance). i.name) placed) → IsNew name (names_of old) → IsNew name (names_of new)
  pub ports : ports_among new.nets ≡ ports_among old.nets
  pub registers : (k : ℕ) → RegistersBelow old.nets k → RegistersBelow new.nets k
  pub late : (x : Wire) → IsLate old x → IsNone driven x → IsLate new x

-- One wire was driven that was declared earlier: it, and what came, is ready once these nets are.
pub record DrivesLate (from : List ℕ) (to : Wire) (old new : Draft) : Type 0 where
  pub serves : Serves [] (to ∷ []) old new
  pub came : (by : Dependence) → CameReady by from old new
  pub driven : (by : Dependence) → ReadyAfter by new from to.number
