-- An output that shows a net.
use Rattle.std.specs.Prelude.{◌≡◌, [], ◌∷◌}
use Rattle.ap_net.specs.declared.cell.Wire.{Wire}
use Rattle.ap_net.specs.Draft.{Draft}
use Rattle.ap_net.specs.Late.{Drives}
use Rattle.ap_net.specs.Readings.{Carries}

-- The late net got the value of the other, and nothing else came.
pub record ShowsNet (to from : Wire) (old new : Draft) : Type 0 where
  pub carries : Carries new from.width (λ r x. x ≡ r.read from.number) to
  pub drives : Drives (from.number ∷ []) to old new
  pub nets : new.nets ≡ old.nets
  pub instances : new.instances ≡ old.instances
