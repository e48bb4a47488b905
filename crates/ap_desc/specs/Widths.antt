-- What each line of an instruction needs of the widths of its operands and of its numbers. Each fault of widths that a line may
-- have is a test of what it does; `width` gives the width of each operand. The rules are the project's own.
use Rattle.std.specs.Prelude.{ℕ, ◌+◌, ◌^◌, ◌==◌, ◌&&◌, ◌||◌, nat_le, nat_lt, not, Bool, false, Option}
use Rattle.std.specs.Option.{option_map_or}
use Rattle.ap_desc.specs.declared.design.Design.{Design}
use Rattle.ap_desc.specs.declared.design.Reg.{Reg}
use Rattle.ap_desc.specs.declared.design.File.{File}
use Rattle.ap_desc.specs.declared.design.Mem.{Mem}
use Rattle.ap_desc.specs.declared.design.Unit.{Unit as Resource}
use Rattle.ap_desc.specs.declared.design.Arg.{Arg}
use Rattle.ap_desc.specs.declared.design.Act.{Act}
use Rattle.ap_desc.specs.declared.design.Act.TheVariants as act
use Rattle.ap_desc.specs.Limits.{max_width}
use Rattle.ap_desc.specs.Designs.{is_width, has_bits, width_at}

abbrev pub reg_width : Design → ℕ → ℕ
reg_width design reg = width_at (λ (r : Reg). r.width) design.regs reg

abbrev pub file_width : Design → ℕ → ℕ
file_width design file = width_at (λ (f : File). f.width) design.files file

abbrev pub mem_width : Design → ℕ → ℕ
mem_width design mem = width_at (λ (m : Mem). m.width) design.mems mem

abbrev pub mem_address : Design → ℕ → ℕ
mem_address design mem = width_at (λ (m : Mem). m.address) design.mems mem

abbrev pub unit_width : Design → ℕ → ℕ
unit_width design unit = width_at (λ (u : Resource). u.width) design.units unit

-- so many bits number the file's cells
abbrev pub is_index : Design → ℕ → ℕ → Bool
is_index design file bits = 2 ^ bits == width_at (λ (f : File). f.cells) design.files file

-- the constant or the extension has no width that a value may have, or two operands side by side have more than 64 bits
abbrev pub has_bad_width : (Arg → ℕ) → Act → Bool
has_bad_width width (act.Const bits value) = not (is_width bits)
has_bad_width width (act.Zext bits a) = not (is_width bits)
has_bad_width width (act.Sext bits a) = not (is_width bits)
has_bad_width width (act.Cat a b) = not (nat_le (width a + width b) max_width)
has_bad_width width _ = false

-- an operand that is no guard, condition or target hasn't the width that is needed; an extension is narrower than its operand
abbrev pub differs : Design → (Arg → ℕ) → Act → Bool
differs design width (act.Compute unit op a b) = not (width a == unit_width design unit) || not (width b == unit_width design unit)
differs design width (act.ReadFile file port index) = not (is_index design file (width index))
differs design width (act.ReadMem mem at) = not (width at == mem_address design mem)
differs design width (act.Zext bits a) = nat_lt bits (width a)
differs design width (act.Sext bits a) = nat_lt bits (width a)
differs design width (act.WriteFile file port index value guard) = not (is_index design file (width index)) || not (width value == file_width design file)
differs design width (act.WriteReg reg value guard) = not (width value == reg_width design reg)
differs design width (act.WriteMem mem at value guard) = not (width at == mem_address design mem) || not (width value == mem_width design mem)
differs design width _ = false

-- the bounds of a slice are in the wrong order, or the high one isn't below the operand's width
abbrev pub is_bad_slice : (Arg → ℕ) → Act → Bool
is_bad_slice width (act.Slice high low a) = nat_lt high low || not (nat_lt high (width a))
is_bad_slice width _ = false

-- the constant doesn't fit
abbrev pub is_wide_constant : Act → Bool
is_wide_constant (act.Const bits value) = not (has_bits bits value)
is_wide_constant _ = false

-- the guard, where there is one, hasn't one bit
abbrev pub is_wide_guard : (Arg → ℕ) → Option Arg → Bool
is_wide_guard width guard = option_map_or (λ g. not (width g == 1)) guard false

-- a guard or condition hasn't one bit
abbrev pub is_not_one_bit : (Arg → ℕ) → Act → Bool
is_not_one_bit width (act.WriteFile file port index value guard) = is_wide_guard width guard
is_not_one_bit width (act.WriteReg reg value guard) = is_wide_guard width guard
is_not_one_bit width (act.WriteMem mem at value guard) = is_wide_guard width guard
is_not_one_bit width (act.Branch cond target) = not (width cond == 1)
is_not_one_bit width _ = false

-- a target isn't as wide as a code address
abbrev pub is_no_target : Design → (Arg → ℕ) → Act → Bool
is_no_target design width (act.Branch cond target) = not (width target == design.address)
is_no_target design width (act.Jump target) = not (width target == design.address)
is_no_target design width _ = false

-- none of these holds of the line
abbrev pub has_widths : Design → (Arg → ℕ) → Act → Bool
has_widths design width a =
    not (has_bad_width width a) && not (differs design width a) && not (is_bad_slice width a) && not (is_wide_constant a)
    && not (is_not_one_bit width a) && not (is_no_target design width a)
