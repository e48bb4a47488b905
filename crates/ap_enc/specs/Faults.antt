-- What is wrong with the word of one instruction, and the first instruction with which something is.
use Rattle.std.specs.Prelude.{ℕ, ◌==◌, ◌&&◌, Bool, take, bit_and, zip, Option, Some, None, option_and_then, slice_get, if◌then◌else◌}
use Rattle.std.specs.List.{list_any}
use Rattle.ap_desc.specs.Designs.{is_named_nop, fields_of}
use Rattle.ap_desc.specs.WordFaults.{has_lines, is_unfit}
use Rattle.ap_desc.specs.declared.design.Design.{Design}
use Rattle.ap_desc.specs.declared.design.Instr.{Instr}
use Rattle.ap_desc.specs.declared.fault.Fault.{Fault}
use Rattle.ap_desc.specs.declared.fault.Fault.TheVariants as f

-- a fixed value doesn't fit its field
abbrev pub has_unfit : Design → Instr → Bool
has_unfit design instr = list_any is_unfit (zip (fields_of design instr) instr.fixed)

-- the patterns agree in the bits that both fix
abbrev pub do_agree : Instr → Instr → Bool
do_agree one other = bit_and one.fixed_value other.fixed_mask == bit_and other.fixed_value one.fixed_mask

-- the pattern agrees with that of an instruction before the place
abbrev pub overlaps : Design → ℕ → Instr → Bool
overlaps design place instr = list_any (do_agree instr) (take place design.instrs)

-- NOP that does something
abbrev pub is_full_nop : Instr → Bool
is_full_nop instr = is_named_nop instr && has_lines instr.micros

-- the first of the faults of an instruction's word
abbrev pub instr_fault : Design → ℕ → Instr → Option Fault
instr_fault design place instr = if has_unfit design instr then Some f.FieldValue else if overlaps design place instr then Some f.Overlap else if is_full_nop instr then Some f.NopNotEmpty else None

-- the same of the instruction at a place
abbrev pub fault_at : Design → ℕ → Option Fault
fault_at design place = option_and_then (instr_fault design place) (slice_get design.instrs place)
