-- What flights leave to a slot: nets, each under the condition of an instruction.
use Rattle.std.specs.Prelude.{◌≡◌, ℕ, ◌≤◌, ◌==◌, Bool, true, false, List, [], ◌∷◌, map, filter, zip}
use Rattle.std.specs.List.{AllByRecursion as Each, list_any}
use Rattle.ap_net.specs.declared.cell.Wire.{Wire}
use Rattle.ap_net.specs.declared.net.ModuleNet.{ModuleNet}
use Rattle.ap_net.specs.Cells.{IsNet}
use Rattle.ap_net.specs.Readings.{Reading}
use Rattle.ap_ctl.specs.Building.{IsBit, is_on}
use Rattle.ap_pipe.specs.declared.table.Home.{Home}
use Rattle.ap_flight.specs.declared.entry.Leaving.{Leaving}

-- the condition has one bit, and the net no more than so many
pub record IsLeaving (nets : List ModuleNet) (width : ℕ) (l : Leaving) : Type 0 where
  pub cond : IsBit nets l.cond
  pub net : IsNet nets l.net
  pub fits : l.net.width ≤ width

-- where the condition is 1, this is left
abbrev pub Leaves : Reading → ℕ → Leaving → Type 0
Leaves r v l = is_on r l.cond ≡ true → r.read l.net.number ≡ v

-- the condition of one of them is 1
abbrev pub is_left : Reading → List Leaving → Bool
is_left r list = list_any (λ (l : Leaving). is_on r l.cond) list

-- where one leaves something, and all that leave something leave this value, the value is it
abbrev pub IsLeft : List Leaving → Reading → ℕ → Type 0
IsLeft list r x = (v : ℕ) → Each (Leaves r v) list → is_left r list ≡ true → x ≡ v

-- the numbers of the nets and their conditions
abbrev pub leaving_numbers : List Leaving → List ℕ
leaving_numbers [] = []
leaving_numbers (l ∷ list) = l.cond.number ∷ l.net.number ∷ leaving_numbers list

abbrev pub is_in_slot : ℕ → Home × Leaving → Bool
is_in_slot slot p = p.0.slot == slot

abbrev pub leaving_of : Home × Leaving → Leaving
leaving_of p = p.1

-- what is left to a slot, where there is one for each home
abbrev pub left_to : ℕ → List Home → List Leaving → List Leaving
left_to slot homes list = map leaving_of (filter (is_in_slot slot) (zip homes list))

-- What a slot takes: it stays where the stage is held, and else takes what is left to it.
pub record SlotTakes (hold register : Wire) (list : List Leaving) (r : Reading) (x : ℕ) : Type 0 where
  pub stays : is_on r hold ≡ true → x ≡ r.read register.number
  pub takes : is_on r hold ≡ false → IsLeft list r x
