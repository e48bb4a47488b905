-- The design as far as its statements have come: what a statement adds, and the faults of widths that stop it.
use Rattle.std.specs.Prelude.{◌≡◌, ℕ, ◌+◌, ◌-◌, ◌<◌, ◌++◌, not, Bool, false, List, [], ◌∷◌, ◌||◌, Option, Some, None, map, min, sum_by, option_map, option_to_list, slice_get, if◌then◌else◌, Result, MatchResult}
use Rattle.std.specs.Option.{option_map_or}
use Rattle.ap_bits.specs.Cards.{allows, latency_at}
use Rattle.ap_bits.specs.declared.card.Card.{Card}
use Rattle.ap_desc.specs.declared.design.Act.{Act}
use Rattle.ap_desc.specs.declared.design.Act.TheVariants as act
use Rattle.ap_desc.specs.declared.design.Arg.{Arg}
use Rattle.ap_desc.specs.declared.design.Design.{Design}
use Rattle.ap_desc.specs.declared.design.Field.{Field}
use Rattle.ap_desc.specs.declared.design.File.{File}
use Rattle.ap_desc.specs.declared.design.Format.{Format}
use Rattle.ap_desc.specs.declared.design.Instr.{Instr}
use Rattle.ap_desc.specs.declared.design.Micro.{Micro}
use Rattle.ap_desc.specs.declared.fault.Fault.{Fault}
use Rattle.ap_desc.specs.declared.fault.Fault.TheVariants as f
use Rattle.ap_desc.specs.declared.statement.Statement.{Statement}
use Rattle.ap_desc.specs.declared.statement.FieldNumber.{FieldNumber}
use Rattle.ap_desc.specs.Instructions.{fixed_of}
use Rattle.ap_desc.specs.Designs.{is_width, arg_width, fields_of, is_stage, local_width, width_at}
use Rattle.ap_desc.specs.Scope.{Scope, with_declared}
use Rattle.ap_desc.specs.WidthFaults.{is_different, is_no_slice, is_off_target, is_out_of_range, is_refused, is_too_wide, is_wide_test}
use Rattle.ap_desc.specs.Widths as w
use Rattle.ap_check.specs.FixedBits.{mask_of, value_of}
use Rattle.ap_check.specs.Numbers.{narrowed}
use Rattle.ap_check.specs.Uses.{IsStoppedBy}
use Rattle.ap_check.specs.declared.draft.Draft.{Draft}
use Rattle.ap_check.specs.declared.stop.Stop.{Stop}

-- the first of the faults of widths, in the order of their numbers
unfoldable pub first_width_fault : Bool → Bool → Bool → Bool → Bool → Bool → Bool → Option Fault
first_width_fault range differs slice wide test target refused =
    if range then Some f.Range else if differs then Some f.Differs else if slice then Some f.Slice else if wide then Some f.TooWideConstant
    else if test then Some f.NotOneBit else if target then Some f.Target else if refused then Some f.KindRefuses else None

-- the first fault of widths of a statement
abbrev pub width_fault : List Card → Scope → Statement → Option Fault
width_fault cards scope statement =
    first_width_fault (is_out_of_range cards scope statement) (is_different cards scope statement) (is_no_slice cards scope statement) (is_too_wide cards scope statement)
    (is_wide_test cards scope statement) (is_off_target cards scope statement) (is_refused cards statement)

-- a design outside of instructions
abbrev pub outside : Design → Scope
outside design = record { design = design; instrs = []; fields = []; locals = []; widths = [] }

-- the statement has no fault of widths, and the design has what it declares; or its first fault of widths stops it
abbrev pub IsSaid : List Card → ℕ → Draft → Statement → Draft → Result (Unit {0}) Stop → Type 0
IsSaid cards line old statement new result = MatchResult result
    (λ _. (width_fault cards (outside old.design) statement ≡ None) × (new ≡ record old { design = with_declared cards line statement old.design }))
    (IsStoppedBy (width_fault cards (outside old.design) statement))

-- of the instruction that began last: the fields of its format, and the widths of its locals
abbrev pub draft_fields : Draft → List Field
draft_fields draft = option_map_or (fields_of draft.design) draft.begun []

abbrev pub draft_widths : Draft → List ℕ
draft_widths draft = option_map_or (λ (i : Instr). i.locals) draft.begun []

-- the width of an operand of one of its lines
abbrev pub width_in : Draft → Arg → ℕ
width_in draft a = arg_width draft.design (draft_widths draft) (draft_fields draft) a

-- the first fault of widths of a line in this stage
abbrev pub line_fault : Design → (Arg → ℕ) → ℕ → Act → Option Fault
line_fault design width stage a =
    first_width_fault (not (is_stage design.stages stage) || w.has_bad_width width a) (w.differs design width a) (w.is_bad_slice width a) (w.is_wide_constant a)
    (w.is_not_one_bit width a) (w.is_no_target design width a) false

-- the width of the local that a line assigns, in 32 bits
abbrev pub local_in : Draft → Act → Option ℕ
local_in draft (act.Slice high low a) = Some (narrowed (high - low + 1))
local_in draft (act.Cat a b) = Some (narrowed (width_in draft a + width_in draft b))
local_in draft a = local_width draft.design (draft_widths draft) (draft_fields draft) a

-- the instruction with one more line
abbrev pub instr_with : Option ℕ → Micro → Instr → Instr
instr_with width m instr = record instr { locals = instr.locals ++ option_to_list width; micros = instr.micros ++ m ∷ [] }

-- the draft with one more line of the instruction that began last
abbrev pub with_line : Draft → Micro → Draft
with_line draft m = record draft { begun = option_map (instr_with (local_in draft m.act) m) draft.begun }

-- the numbers of the line and of what it is compared with have 32 bits
abbrev pub AreNarrow : Design → (Arg → ℕ) → Act → Type 0
AreNarrow design width (act.Slice high low a) = width a < 4294967296
AreNarrow design width (act.ReadFile file port index) = width_at (λ (x : File). x.reads) design.files file < 4294967296
AreNarrow design width (act.WriteFile file port index value guard) = width_at (λ (x : File). x.writes) design.files file < 4294967296
AreNarrow design width _ = Unit {0}

-- the first fault of widths of a unit of a kind of this card
abbrev pub unit_fault : Card → ℕ → Option Fault
unit_fault card width = first_width_fault (not (is_width width)) false false false false false (not (allows card.widths width))

-- the design has the unit of the kind of this card and place; or its first fault of widths stops it
abbrev pub IsUnitSaid : Card → Draft → ℕ → List ℕ → ℕ → Draft → Result (Unit {0}) Stop → Type 0
IsUnitSaid card old place name width new result = MatchResult result
    (λ _. (unit_fault card width ≡ None)
    × (new ≡ record old { design = record old.design { units = old.design.units ++ record { name = name; kind = place; width = width; latency = latency_at card width } ∷ [] } }))
    (IsStoppedBy (unit_fault card width))

-- the fields of the format at a place
abbrev pub fields_at : Draft → ℕ → List Field
fields_at draft i = option_map_or (λ (x : Format). x.fields) (slice_get draft.design.formats i) []

-- the design, the instruction that began last included
abbrev pub completed : Draft → Design
completed draft = record draft.design { instrs = draft.design.instrs ++ option_to_list draft.begun }

-- an instruction begins, of the format at a place
abbrev pub with_instr : Draft → ℕ → List ℕ → ℕ → List FieldNumber → Draft
with_instr draft line name format fixed = record draft {
  design = completed draft;
  begun = Some (record {
    name = name;
    line = line;
    format = format;
    fixed = map (fixed_of fixed) (fields_at draft format);
    fixed_mask = min (sum_by (mask_of draft.design.word fixed) (fields_at draft format)) 18446744073709551615;
    fixed_value = min (sum_by (value_of draft.design.word fixed) (fields_at draft format)) 18446744073709551615;
    locals = [];
    micros = [];
  });
}
