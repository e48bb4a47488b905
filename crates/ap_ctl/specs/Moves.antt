-- What lets the flights of a cycle go on, by nets.
use Rattle.std.specs.Prelude.{ℕ, zero, suc, ◌-◌, ◌&&◌, not, if◌then◌else◌, Bool, false, List, ◌∷◌, ◌++◌, flat_map, slice_get}
use Rattle.std.specs.Option.{option_map_or}
use Rattle.ap_desc.specs.declared.design.Design.{Design}
use Rattle.ap_net.specs.declared.cell.Wire.{Wire}
use Rattle.ap_net.specs.Draft.{Draft}
use Rattle.ap_net.specs.Ready.{numbers}
use Rattle.ap_net.specs.Readings.{Reading}
use Rattle.ap_ctl.specs.declared.move_on.Gates.{Gates}
use Rattle.ap_ctl.specs.declared.nets.ControlGiven.{ControlGiven}
use Rattle.ap_ctl.specs.Building.{Tells, is_on}
use Rattle.ap_ctl.specs.Meaning.{is_killable}

-- the net at a place of a list is 1
abbrev pub is_on_at : Reading → List Wire → ℕ → Bool
is_on_at r nets place = option_map_or (is_on r) (slice_get nets place) false

-- the nets from which it follows whether a stage is busy: its valid bit, mwait, its conditions, and the busy nets
abbrev pub stage_numbers : Wire → List Wire → ControlGiven → List ℕ
stage_numbers valid conditions given = valid.number ∷ given.mwait.number ∷ numbers conditions ++ numbers given.busy

-- and whether the stages are held
abbrev pub busy_numbers : List Wire → List (List Wire) → ControlGiven → List ℕ
busy_numbers valid decoded given = given.mwait.number ∷ numbers valid ++ flat_map numbers decoded ++ numbers given.busy

-- what the gates tell
pub record AreGates (d : Draft) (taken : Wire) (g : Gates) : Type 0 where
  pub goes : Tells d (λ r. not (is_on r g.hold)) g.goes
  pub kill : Tells d (λ r. is_on r taken && not (is_on r g.hold)) g.kill
  pub lives : Tells d (λ r. not (is_on r g.hold) && not (is_on r taken && not (is_on r g.hold))) g.lives

-- what lets through what is in the stage
abbrev pub open_gate : Design → Gates → ℕ → Wire
open_gate design g stage = if is_killable design stage then g.lives else g.goes

-- the stage's flight fires
abbrev pub fire_of : Design → Gates → List Wire → ℕ → Reading → Bool
fire_of design g valid stage r = is_on_at r valid (stage - 1) && is_on r (open_gate design g stage)

-- a word comes to the stage after so many: the fetched one, or that of the stage before
abbrev pub coming_of : Design → Gates → List Wire → ℕ → Reading → Bool
coming_of design g fires zero r = is_on r (open_gate design g 0)
coming_of design g fires (suc place) r = is_on_at r fires place

-- there is a word in the stage in the next cycle
abbrev pub next_of : Design → Gates → List Wire → List Wire → ℕ → Reading → Bool
next_of design g valid fires stage r = if is_on r g.hold then is_on_at r valid (stage - 1) else coming_of design g fires (stage - 1) r

-- what the next valid bits read
abbrev pub next_numbers : Gates → List Wire → List Wire → List ℕ
next_numbers g valid fires = g.hold.number ∷ g.goes.number ∷ g.lives.number ∷ numbers valid ++ numbers fires
