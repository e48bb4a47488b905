-- What comes to the stages, of the registers, of control and of what is left to the slots.
use Rattle.std.specs.Prelude.{◌≡◌, ℕ, List, length, slice_get, Some}
use Rattle.ap_net.specs.declared.cell.Wire.{Wire}
use Rattle.ap_flight.specs.declared.entry.Leaving.{Leaving}
use Rattle.ap_flight.specs.declared.stage.Coming.{Coming}
use Rattle.ap_front.specs.declared.registers.Registers.{Registers}
use Rattle.ap_front.specs.Driven.{AreChained}

pub record AreComings (r : Registers) (idata hold : Wire) (locals : List (List Leaving)) (comings : List Coming) : Type 0 where
  pub long : length comings ≡ length r.stages
  pub chained : AreChained idata r.pc r.stages comings
  pub held : (place : ℕ) (c : Coming) → slice_get comings place ≡ Some c → c.hold ≡ hold
  pub left : (place : ℕ) (c : Coming) → slice_get comings place ≡ Some c → slice_get locals place ≡ Some c.locals
