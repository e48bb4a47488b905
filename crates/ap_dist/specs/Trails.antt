-- Which lines of an instruction access what, or write what, kept under slots: for each slot the last line, and for each line the one
-- before it with the same slot. Lines are counted from 1 on, and 0 is none.
use Rattle.std.specs.Prelude.{◌≡◌, ℕ, ◌+◌, ◌-◌, ◌%◌, ◌<◌, ◌≤◌, Bool, List, length, Option, Some, None, option_and_then, slice_get, slice_index, if◌then◌else◌}
use Rattle.ap_desc.specs.declared.design.Instr.{Instr}
use Rattle.ap_desc.specs.declared.design.Micro.{Micro}
use Rattle.ap_desc.specs.declared.design.Act.{Act}
use Rattle.ap_desc.specs.declared.design.Act.TheVariants as act
use Rattle.ap_dist.specs.declared.access.Part.{Part}
use Rattle.ap_dist.specs.declared.access.Part.TheVariants as part

-- the slot of a register, of a file's cells or of a memory: one of 76
abbrev pub slot_of : Part → ℕ
slot_of (part.Register reg) = reg % 64
slot_of (part.Cell file index) = 64 + file % 8
slot_of (part.Memory mem) = 72 + mem % 4

-- the slot of what a line accesses, or of what it writes where writes alone are asked for
abbrev pub slot_of_act : Bool → Act → Option ℕ
slot_of_act writes_only (act.ReadReg reg) = if writes_only then None else Some (reg % 64)
slot_of_act writes_only (act.ReadFile file port index) = if writes_only then None else Some (64 + file % 8)
slot_of_act writes_only (act.ReadMem mem at) = if writes_only then None else Some (72 + mem % 4)
slot_of_act writes_only (act.WriteReg reg value guard) = Some (reg % 64)
slot_of_act writes_only (act.WriteFile file port index value guard) = Some (64 + file % 8)
slot_of_act writes_only (act.WriteMem mem at value guard) = Some (72 + mem % 4)
slot_of_act writes_only _ = None

abbrev pub slot_of_line : Bool → Micro → Option ℕ
slot_of_line writes_only micro = slot_of_act writes_only micro.act

-- the slot of the line at a place
abbrev pub slot_at : Instr → Bool → ℕ → Option ℕ
slot_at instr writes_only place = option_and_then (slot_of_line writes_only) (slice_get instr.micros place)

-- before a place, this is the last line of the slot
pub record IsLastBefore (instr : Instr) (writes_only : Bool) (slot place line : ℕ) : Type 0 where
  pub before : line ≤ place
  pub here : 0 < line → slot_at instr writes_only (line - 1) ≡ Some slot
  pub none_after : (other : ℕ) → line ≤ other → other < place → slot_at instr writes_only other ≡ Some slot → ⊥

-- the last lines of the slots, and for each line of a slot the one before it
pub record HasTrails (instr : Instr) (writes_only : Bool) (last before : List ℕ) : Type 0 where
  pub ends : (slot : ℕ) → slot < 76 → IsLastBefore instr writes_only slot (length instr.micros) (slice_index last slot)
  pub steps : (place slot : ℕ) → slot_at instr writes_only place ≡ Some slot → IsLastBefore instr writes_only slot place (slice_index before place)
