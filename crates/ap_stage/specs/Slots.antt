-- Locals that stand in slots, as a stage reads them.
use Rattle.std.specs.Prelude.{◌≡◌, ◌≢◌, ℕ, ◌%◌, ◌^◌, ◌<◌, ◌≤◌, List, Option, Some, length, map, slice_get}
use Rattle.std.specs.List.{AllByRecursion as Each}
use Rattle.ap_desc.specs.Designs.{width_at}
use Rattle.ap_net.specs.declared.cell.Wire.{Wire}
use Rattle.ap_net.specs.declared.net.ModuleNet.{ModuleNet}
use Rattle.ap_net.specs.Cells.{IsNet}
use Rattle.ap_net.specs.Draft.{Draft}
use Rattle.ap_net.specs.Readings.{Carries}
use Rattle.ap_stage.specs.declared.slot.Stored.{Stored}
use Rattle.ap_stage.specs.declared.source.Scope.{Scope}
use Rattle.ap_stage.specs.Reads.{AreFrom}
use Rattle.ap_stage.specs.Sources.{row_numbers}
use Rattle.ap_stage.specs.Trees.{IsShallow}

-- the bits of a local
abbrev pub local_bits : Scope → ℕ → ℕ
local_bits scope i = width_at (λ (width : ℕ). width) scope.widths i

-- the slot's net is there, and has room for the local
pub record IsStored (nets : List ModuleNet) (scope : Scope) (s : Stored) : Type 0 where
  pub slot : IsNet nets s.slot
  pub local : s.local < length scope.widths
  pub some : 1 ≤ local_bits scope s.local
  pub room : local_bits scope s.local ≤ s.slot.width

-- no local stands in two slots
abbrev pub AreStoredOnce : List Stored → Type 0
AreStoredOnce stored = (j k : ℕ) (one other : Stored) → slice_get stored j ≡ Some one → slice_get stored k ≡ Some other → one.local ≡ other.local → j ≡ k

-- the row has the local's net, which carries the low bits of the slot
pub record HasStored (d : Draft) (scope : Scope) (row : List (Option Wire)) (s : Stored) : Type 0 where
  pub net : Wire
  pub at : slice_get row s.local ≡ Some (Some net)
  pub carries : Carries d (local_bits scope s.local) (λ r x. x ≡ r.read s.slot.number % 2 ^ local_bits scope s.local) net

-- the numbers of the slots
abbrev pub slot_numbers : List Stored → List ℕ
slot_numbers stored = map (λ (s : Stored). s.slot.number) stored

-- a local that stands in none of these
abbrev pub IsUnstored : List Stored → ℕ → Type 0
IsUnstored stored local = Each (λ (s : Stored). local ≢ s.local) stored

-- What came for a row reads the slots alone, and so do the row's nets. No more `? :` stand before these than before the slots, and a local
-- that stands in no slot is as it was.
pub record FromSlots (stored : List Stored) (old : Draft) (row : List (Option Wire)) (new : Draft) (filled : List (Option Wire)) : Type 0 where
  pub from : AreFrom (slot_numbers stored) old new (row_numbers filled)
  pub low : (most : ℕ) → Each (IsShallow old most) (slot_numbers stored) → Each (IsShallow new most) (row_numbers filled)
  pub others : (local : ℕ) → IsUnstored stored local → slice_get filled local ≡ slice_get row local
