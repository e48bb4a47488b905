-- What the steps of a builder say of nets that are ready, and of nets that are driven later.
use Rattle.std.specs.Prelude.{◌≡◌, ◌≢◌, ℕ, ◌<◌, ◌≤◌, length, slice_get, Some, List, true}
use Rattle.ap_net.specs.declared.cell.Wire.{Wire}
use Rattle.ap_net.specs.declared.net.Instance.{Instance}
use Rattle.ap_net.specs.declared.net.Role.{Role}
use Rattle.ap_net.specs.Cells.{IsNet}
use Rattle.ap_net.specs.Wiring.{IsSource, IsFree, Undriven, Unjoined}
use Rattle.ap_net.specs.Draft.{Draft, Extends}
use Rattle.ap_net.specs.Ready.{Dependence, ReadyAfter, needed}

-- the net was declared, and is driven later
pub record IsLate (d : Draft) (w : Wire) : Type 0 where
  pub net : IsNet d.nets w
  pub free : IsFree d.nets w.number
  pub undriven : Undriven d.assigns w.number
  pub unjoined : Unjoined d.instances w.number

-- a net that was just declared, where it is no input and no register
abbrev pub IsLateUnlessSource : Role → Draft → Wire → Type 0
IsLateUnlessSource kind d w = (IsSource kind → ⊥) → IsLate d w

-- Nets came that read these of the old ones alone: each is ready once these are, now or later; what was late is late still.
pub record Reads (from : List ℕ) (old new : Draft) : Type 0 where
  pub extends : Extends old new
  pub nexts : new.nexts ≡ old.nexts
  pub came : (by : Dependence) (n : ℕ) → length old.nets ≤ n → n < length new.nets → ReadyAfter by new from n
  pub late : (x : Wire) → IsLate old x → IsLate new x

-- a net that was late is driven now, by what reads these nets
pub record Drives (from : List ℕ) (to : Wire) (old new : Draft) : Type 0 where
  pub extends : Extends old new
  pub nexts : new.nexts ≡ old.nexts
  pub came : (by : Dependence) → ReadyAfter by new from to.number
  pub late : (x : Wire) → x.number ≢ to.number → IsLate old x → IsLate new x

-- An instance was placed over nets that may be driven later: each output is ready once those inputs are that it needs.
pub record Joins (i : Instance) (old new : Draft) : Type 0 where
  pub extends : Extends old new
  pub nexts : new.nexts ≡ old.nexts
  pub outputs : (by : Dependence) (p : ℕ) (w : Wire) → slice_get i.nets p ≡ Some w → slice_get i.drives p ≡ Some true
      → ReadyAfter by new (needed (by.needs i.module p) i.drives i.nets) w.number
  pub late : (x : Wire) → IsLate old x → IsLate new x

-- what was late is late still
abbrev pub StayLate : Draft → Draft → Type 0
StayLate old new = (x : Wire) → IsLate old x → IsLate new x
