-- The widths of a line that has no fault of widths: they stay where more locals follow, and its local has one that a value may have.
use Rattle.std.proofs.Common.{◌≡◌, ℕ, zero, suc, ◌<◌, ◌≤◌, ◌+◌, ◌-◌, true, false, List, [], ◌∷◌, ◌++◌, length, Option, Some, None, refl, ap, ◌∙◌, arith, le-leb, leb-true, ltb-true, ltb-false}
use Rattle.std.specs.Prelude.{◌||◌, not, nat_le, nat_lt, slice_get, IfSome, IsSomeAnd, option_to_list}
use Rattle.std.specs.List.{AllByRecursion as Each}
use Rattle.std.proofs.lemmas.Bool.{and_from, and_parts, not-false, or_parts}
use Rattle.ap_bits.specs.declared.card.Card.{Card}
use Rattle.ap_desc.proofs.LocalWidths.{arg_width_stays}
use Rattle.ap_desc.specs.Chains.{operands_of}
use Rattle.ap_desc.specs.Designs.{IsArg, IsInRange, arg_width, is_width, local_width, width_at}
use Rattle.ap_desc.specs.Order.{is_micro}
use Rattle.ap_desc.specs.Scope.{Scope}
use Rattle.ap_desc.specs.Widths.{differs, has_bad_width, has_widths, is_bad_slice, is_no_target, is_not_one_bit, is_wide_constant}
use Rattle.ap_desc.specs.WidthFaults.{does, is_beyond, is_out_of_range, is_too_wide, width_in}
use Rattle.ap_desc.specs.declared.design.Design.{Design}
use Rattle.ap_desc.specs.declared.design.Reg.{Reg}
use Rattle.ap_desc.specs.declared.design.File.{File}
use Rattle.ap_desc.specs.declared.design.Mem.{Mem}
use Rattle.ap_desc.specs.declared.design.InPort.{InPort}
use Rattle.ap_desc.specs.declared.design.Unit.{Unit as Resource}
use Rattle.ap_desc.specs.declared.design.Field.{Field}
use Rattle.ap_desc.specs.declared.design.Instr.{Instr}
use Rattle.ap_desc.specs.declared.design.Arg.{Arg}
use Rattle.ap_desc.specs.declared.design.Arg.TheVariants as arg
use Rattle.ap_desc.specs.declared.design.Act.{Act}
use Rattle.ap_desc.specs.declared.design.Act.TheVariants as act
use Rattle.ap_desc.specs.declared.statement.Statement.{Statement}
use Rattle.ap_desc.specs.declared.statement.Statement.TheVariants as s

-- the operands of a line in range are there
guard_operands : (locals : ℕ) (fields : List Field) (guard : Option Arg) → IfSome guard (IsArg locals fields) → Each (IsArg locals fields) (option_to_list guard)
guard_operands locals fields None h = tt
guard_operands locals fields (Some g) h = (h, tt)

operands_there : (design : Design) (locals : ℕ) (fields : List Field) (a : Act) → IsInRange design locals fields a → Each (IsArg locals fields) (operands_of a)
operands_there design locals fields (act.Compute unit op a b) h = (h.1, (h.2, tt))
operands_there design locals fields (act.ReadFile file port index) h = (h.1, tt)
operands_there design locals fields (act.ReadReg reg) h = tt
operands_there design locals fields (act.ReadMem mem at) h = (h.1, tt)
operands_there design locals fields (act.ReadIn input) h = tt
operands_there design locals fields (act.Const width value) h = tt
operands_there design locals fields (act.Zext width a) h = (h, tt)
operands_there design locals fields (act.Sext width a) h = (h, tt)
operands_there design locals fields (act.Slice high low a) h = (h, tt)
operands_there design locals fields (act.Cat a b) h = (h.0, (h.1, tt))
operands_there design locals fields (act.WriteFile file port index value guard) h = (h.1, (h.2, guard_operands locals fields guard h.3))
operands_there design locals fields (act.WriteReg reg value guard) h = (h.1, guard_operands locals fields guard h.2)
operands_there design locals fields (act.WriteMem mem at value guard) h = (h.1, (h.2, guard_operands locals fields guard h.3))
operands_there design locals fields (act.Branch cond target) h = (h.0, (h.1, tt))
operands_there design locals fields (act.Jump target) h = (h, tt)

-- a line looks at the widths of its operands alone
pub widths_alike : (design : Design) (v w : Arg → ℕ) (a : Act) → Each (λ x. v x ≡ w x) (operands_of a) → has_widths design v a ≡ has_widths design w a
widths_alike design v w (act.Compute unit op a b) each = simp (each.0, each.1.0)
widths_alike design v w (act.ReadFile file port index) each = simp each.0
widths_alike design v w (act.ReadReg reg) each = refl
widths_alike design v w (act.ReadMem mem at) each = simp each.0
widths_alike design v w (act.ReadIn input) each = refl
widths_alike design v w (act.Const width value) each = refl
widths_alike design v w (act.Zext width a) each = simp each.0
widths_alike design v w (act.Sext width a) each = simp each.0
widths_alike design v w (act.Slice high low a) each = simp each.0
widths_alike design v w (act.Cat a b) each = simp (each.0, each.1.0)
widths_alike design v w (act.WriteFile file port index value None) each = simp (each.0, each.1.0)
widths_alike design v w (act.WriteFile file port index value (Some g)) each = simp (each.0, each.1.0, each.1.1.0)
widths_alike design v w (act.WriteReg reg value None) each = simp each.0
widths_alike design v w (act.WriteReg reg value (Some g)) each = simp (each.0, each.1.0)
widths_alike design v w (act.WriteMem mem at value None) each = simp (each.0, each.1.0)
widths_alike design v w (act.WriteMem mem at value (Some g)) each = simp (each.0, each.1.0, each.1.1.0)
widths_alike design v w (act.Branch cond target) each = simp (each.0, each.1.0)
widths_alike design v w (act.Jump target) each = simp each.0

all_stay : (design : Design) (fields : List Field) (widths more : List ℕ) (xs : List Arg) → Each (IsArg (length widths) fields) xs
    → Each (λ x. arg_width design (widths ++ more) fields x ≡ arg_width design widths fields x) xs
all_stay design fields widths more [] each = tt
all_stay design fields widths more (x ∷ xs) each = (arg_width_stays design fields widths more x each.0, all_stay design fields widths more xs each.1)

-- a line in range has the widths that it needs, however many more locals follow
pub has_widths_stays : (design : Design) (fields : List Field) (widths more : List ℕ) (a : Act) → IsInRange design (length widths) fields a
    → has_widths design (arg_width design (widths ++ more) fields) a ≡ has_widths design (arg_width design widths fields) a
has_widths_stays design fields widths more a range =
    widths_alike design (arg_width design (widths ++ more) fields) (arg_width design widths fields) a (all_stay design fields widths more (operands_of a) (operands_there design (length widths) fields a range))

-- a line of an instruction is out of range where its stage is, or its widths
pub micro_range : (cards : List Card) (scope : Scope) (statement : Statement) → is_micro statement ≡ true → is_out_of_range cards scope statement ≡ (is_beyond scope statement || does cards scope (has_bad_width (width_in scope)) statement)
micro_range cards scope (s.Stages count) micro = absurd cc
micro_range cards scope (s.Address bits) micro = absurd cc
micro_range cards scope (s.Word bits) micro = absurd cc
micro_range cards scope (s.Transfer stage slots) micro = absurd cc
micro_range cards scope (s.Reg name width reset) micro = absurd cc
micro_range cards scope (s.File name width cells reads writes) micro = absurd cc
micro_range cards scope (s.Mem name address width) micro = absurd cc
micro_range cards scope (s.In name width) micro = absurd cc
micro_range cards scope (s.Unit name kind width) micro = absurd cc
micro_range cards scope (s.Format name fields) micro = absurd cc
micro_range cards scope _ micro = refl

pub micro_wide : (cards : List Card) (scope : Scope) (statement : Statement) → is_micro statement ≡ true → is_too_wide cards scope statement ≡ does cards scope is_wide_constant statement
micro_wide cards scope (s.Reg name width reset) micro = absurd cc
micro_wide cards scope _ micro = refl

-- none of the faults
pub none_of_widths : (design : Design) (width : Arg → ℕ) (a : Act) → has_bad_width width a ≡ false → differs design width a ≡ false → is_bad_slice width a ≡ false → is_wide_constant a ≡ false
    → is_not_one_bit width a ≡ false → is_no_target design width a ≡ false → has_widths design width a ≡ true
none_of_widths design width a one two three four five six = simp (one, two, three, four, five, six)

width_parts : (w : ℕ) → is_width w ≡ true → (1 ≤ w) × (w ≤ 64)
width_parts w e = let two = and_parts (nat_le 1 w) (nat_le w 64) e in (leb-true 1 w two.0, leb-true w 64 two.1)

width_from : (w : ℕ) → 1 ≤ w → w ≤ 64 → is_width w ≡ true
width_from w low high = and_from (nat_le 1 w) (nat_le w 64) (le-leb 1 w low) (le-leb w 64 high)

-- what all of a list have, one that is there has
pub width_there : {X : Type 0} (width : X → ℕ) (xs : List X) (i : ℕ) → Each (λ x. is_width (width x) ≡ true) xs → i < length xs → is_width (width_at width xs i) ≡ true
width_there width [] i each low = absurd (omega arith)
width_there width (x ∷ xs) zero each low = each.0
width_there width (x ∷ xs) (suc i) each low = width_there width xs i each.1 (omega arith)

-- the parts of a design have widths that values may have
pub record HasWidths (design : Design) : Type 0 where
  pub regs : Each (λ (x : Reg). is_width x.width ≡ true) design.regs
  pub files : Each (λ (x : File). is_width x.width ≡ true) design.files
  pub mems : Each (λ (x : Mem). is_width x.width ≡ true) design.mems
  pub inputs : Each (λ (x : InPort). is_width x.width ≡ true) design.inputs
  pub units : Each (λ (x : Resource). is_width x.width ≡ true) design.units
  pub address : is_width design.address ≡ true

module _ (design : Design) (fields : List Field) (widths : List ℕ) (parts : HasWidths design) (of_fields : Each (λ (x : Field). is_width x.width ≡ true) fields) (of_locals : Each (λ w. is_width w ≡ true) widths) where
  arg_is_width : (a : Arg) → IsArg (length widths) fields a → is_width (arg_width design widths fields a) ≡ true
  arg_is_width (arg.Local i) there = width_there (λ w. w) widths i of_locals there
  arg_is_width (arg.Field i) there = width_there (λ (x : Field). x.width) fields i of_fields there
  arg_is_width arg.Pc there = parts.address
  arg_is_width arg.Link there = parts.address

  file_there : (P : File → Type 0) (files : List File) (i : ℕ) → IsSomeAnd (slice_get files i) P → i < length files
  file_there P [] i h = absurd h
  file_there P (x ∷ files) zero h = omega arith
  file_there P (x ∷ files) (suc i) h = let low = file_there P files i h in omega arith

  -- the local of a line has such a width
  pub local_is_width : (a : Act) → IsInRange design (length widths) fields a → has_bad_width (arg_width design widths fields) a ≡ false → is_bad_slice (arg_width design widths fields) a ≡ false
      → Each (λ w. is_width w ≡ true) (option_to_list (local_width design widths fields a))
  local_is_width (act.Compute unit op a b) range bad slice = (width_there (λ (x : Resource). x.width) design.units unit parts.units range.0, tt)
  local_is_width (act.ReadFile file port index) range bad slice = (width_there (λ (x : File). x.width) design.files file parts.files (file_there (λ f. port < f.reads) design.files file range.0), tt)
  local_is_width (act.ReadReg reg) range bad slice = (width_there (λ (x : Reg). x.width) design.regs reg parts.regs range, tt)
  local_is_width (act.ReadMem mem at) range bad slice = (width_there (λ (x : Mem). x.width) design.mems mem parts.mems range.0, tt)
  local_is_width (act.ReadIn input) range bad slice = (width_there (λ (x : InPort). x.width) design.inputs input parts.inputs range, tt)
  local_is_width (act.Const width value) range bad slice = (not-false (is_width width) bad, tt)
  local_is_width (act.Zext width a) range bad slice = (not-false (is_width width) bad, tt)
  local_is_width (act.Sext width a) range bad slice = (not-false (is_width width) bad, tt)
  local_is_width (act.Slice high low a) range bad slice =
      let two = or_parts (nat_lt high low) (not (nat_lt high (arg_width design widths fields a))) slice in
      let ordered : low ≤ high = ltb-false high low two.0 in
      let inside : high < arg_width design widths fields a = ltb-true high (arg_width design widths fields a) (not-false (nat_lt high (arg_width design widths fields a)) two.1) in
      let most = width_parts (arg_width design widths fields a) (arg_is_width a range) in
      (width_from (high - low + 1) (omega arith) (omega (arith, most.1)), tt)
  local_is_width (act.Cat a b) range bad slice =
      let fits : arg_width design widths fields a + arg_width design widths fields b ≤ 64 = leb-true _ 64 (not-false (nat_le (arg_width design widths fields a + arg_width design widths fields b) 64) bad) in
      let least = width_parts (arg_width design widths fields a) (arg_is_width a range.0) in
      (width_from (arg_width design widths fields a + arg_width design widths fields b) (omega (arith, least.0)) fits, tt)
  local_is_width _ range bad slice = tt

-- a design with other instructions is the same to a line
module _ (design : Design) (instrs : List Instr) where
  abbrev other : Design
  other = record design { instrs = instrs }

  pub arg_width_other : (widths : List ℕ) (fields : List Field) (a : Arg) → arg_width design widths fields a ≡ arg_width other widths fields a
  arg_width_other widths fields (arg.Local i) = refl
  arg_width_other widths fields _ = refl

  pub local_width_other : (widths : List ℕ) (fields : List Field) (a : Act) → local_width design widths fields a ≡ local_width other widths fields a
  local_width_other widths fields (act.Cat a b) = ap (λ n. Some (n + arg_width design widths fields b)) (arg_width_other widths fields a) ∙ ap (λ n. Some (arg_width other widths fields a + n)) (arg_width_other widths fields b)
  local_width_other widths fields _ = refl

  pub has_widths_other : (width : Arg → ℕ) (a : Act) → has_widths design width a ≡ has_widths other width a
  has_widths_other width (act.Compute unit op a b) = refl
  has_widths_other width _ = refl

  pub in_range_other : (locals : ℕ) (fields : List Field) (a : Act) → IsInRange design locals fields a → IsInRange other locals fields a
  in_range_other locals fields (act.Compute unit op a b) h = h
  in_range_other locals fields _ h = h
