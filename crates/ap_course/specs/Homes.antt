-- Where a stage finds the locals of an instruction that come from earlier stages: in the slots of their homes.
use Rattle.std.specs.Prelude.{◌≡◌, ◌≢◌, ℕ, ◌==◌, ◌&&◌, true, Contains, List, filter, filter_map, find, map, slice_get, Option, Some}
use Rattle.std.specs.List.{AllByRecursion as Each, range_with_len}
use Rattle.std.specs.Option.{option_and_then, option_map}
use Rattle.ap_desc.specs.declared.design.Design.{Design}
use Rattle.ap_desc.specs.declared.design.Instr.{Instr}
use Rattle.ap_model.specs.FlightLocals.{is_live_in}
use Rattle.ap_net.specs.declared.cell.Wire.{Wire}
use Rattle.ap_net.specs.declared.net.ModuleNet.{ModuleNet}
use Rattle.ap_net.specs.Cells.{IsNet}
use Rattle.ap_pipe.specs.declared.table.Home.{Home}
use Rattle.ap_stage.specs.declared.node.PortUse.{PortUse}
use Rattle.ap_stage.specs.declared.slot.Stored.{Stored}
use Rattle.ap_stage.specs.Rows.{MakesNone}
use Rattle.ap_stage.specs.Slots.{AreStoredOnce, IsStored}
use Rattle.ap_course.specs.Lines.{lines_of, scope_of, uses_of}

-- the homes of the instruction at this place of the design
abbrev pub homes_in : List Home → ℕ → List Home
homes_in homes number = filter (λ (h : Home). h.instr == number) homes

-- the local of this number in the slot of its home
abbrev pub in_home : List Wire → ℕ → Home → Option Stored
in_home slots i home = option_map (λ (w : Wire). record { local = i; slot = w }) (slice_get slots home.slot)

-- where the local stands, if it has one of these homes
abbrev pub stored_at : List Home → List Wire → ℕ → Option Stored
stored_at homes slots i = option_and_then (in_home slots i) (find (λ (h : Home). h.local == i) homes)

-- and each of the first so many locals of the instruction
abbrev pub stored_of : List Home → List Wire → ℕ → ℕ → List Stored
stored_of homes slots number count = filter_map (stored_at (homes_in homes number) slots) (range_with_len 0 count)

-- the home and the slot behind a stored local: of all homes the first that is the local's
pub record IsHomed (homes : List Home) (slots : List Wire) (k i : ℕ) (s : Stored) : Type 0 where
  pub home : Home
  pub there : Contains homes home
  pub first : find (λ (h : Home). (h.instr == k) && (h.local == i)) homes ≡ Some home
  pub instr : home.instr ≡ k
  pub local : home.local ≡ i
  pub slot : slice_get slots home.slot ≡ Some s.slot
  pub number : s.local ≡ i

-- the registers of slots are there, with the widths of the slots
pub record AreSlots (nets : List ModuleNet) (widths : List ℕ) (slots : List Wire) : Type 0 where
  pub nets_are : Each (IsNet nets) slots
  pub wide : map (λ (w : Wire). w.width) slots ≡ widths

-- one of these is the local's
abbrev pub IsIn : List Stored → ℕ → Type 0
IsIn stored i = (j : ℕ) × (s : Stored) × (slice_get stored j ≡ Some s) × (s.local ≡ i)

-- Where the locals of an instruction stand that are live into the stage: each in a slot that has room for it, none twice, and none that a
-- line of the stage makes.
pub record AreStored (design : Design) (nets : List ModuleNet) (stage : ℕ) (instr : Instr) (stored : List Stored) : Type 0 where
  pub each : Each (IsStored nets (scope_of design instr)) stored
  pub once : AreStoredOnce stored
  pub live : (i : ℕ) → is_live_in design stage i instr ≡ true → IsIn stored i
  pub lines : Each (λ (s : Stored). MakesNone (lines_of stage instr) s.local) stored
  pub uses : Each (λ (s : Stored). (j : ℕ) (u : PortUse) → slice_get (uses_of stage instr) j ≡ Some u → s.local ≢ u.local) stored
