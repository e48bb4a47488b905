-- Fresh wires that are driven later.
use Rattle.std.specs.Prelude.{◌≡◌, ℕ, ◌≤◌, List, length}
use Rattle.std.specs.List.{AllByRecursion as Each}
use Rattle.ap_net.specs.declared.cell.Wire.{Wire}
use Rattle.ap_net.specs.Draft.{Draft, Extends, CanFresh, KeepsNew}
use Rattle.ap_net.specs.Late.{IsLate, StayLate}
use Rattle.ap_net.specs.Modules.{ports_among}
use Rattle.ap_net.specs.Pending.{CameAmong}
use Rattle.ap_net.specs.Ready.{numbers}
use Rattle.ap_net.specs.Wiring.{NoneTwice}

pub record IsLateWide (d : Draft) (width : ℕ) (w : Wire) : Type 0 where
  pub late : IsLate d w
  pub wide : w.width ≡ width

-- So many wires of these bits came, no two of them one and none that was there before, each to be driven later; all else stays.
pub record DeclaresLate (count width : ℕ) (made : List Wire) (old new : Draft) : Type 0 where
  pub many : length made ≡ count
  pub each : Each (IsLateWide new width) made
  pub apart : NoneTwice (numbers made)
  pub extends : Extends old new
  pub assigns : new.assigns ≡ old.assigns
  pub nexts : new.nexts ≡ old.nexts
  pub instances : new.instances ≡ old.instances
  pub ports : ports_among new.nets ≡ ports_among old.nets
  pub fresh : CanFresh new
  pub names : KeepsNew old new
  pub late : StayLate old new
  pub came : CameAmong (numbers made) old new
  pub above : Each (λ (w : Wire). length old.nets ≤ w.number) made
