-- What a statement adds to the design of a draft.
use Rattle.std.specs.Prelude.{◌≡◌, ℕ, ◌<◌, ◌≤◌, List, length, None, Result, MatchResult}
use Rattle.ap_bits.specs.declared.card.Card.{Card}
use Rattle.ap_desc.specs.declared.design.Act.{Act}
use Rattle.ap_desc.specs.declared.statement.FieldNumber.{FieldNumber}
use Rattle.ap_desc.specs.declared.statement.Statement.{Statement}
use Rattle.ap_desc.specs.declared.statement.Statement.TheVariants as s
use Rattle.ap_desc.specs.Instructions.{stage_of}
use Rattle.ap_desc.specs.Limits.{max_fields}
use Rattle.ap_desc.specs.Spelling.{field_names}
use Rattle.ap_check.specs.Drafts.{AreNarrow, IsSaid, line_fault, width_in, with_instr, with_line}
use Rattle.ap_check.specs.Numbers.{narrowed}
use Rattle.ap_check.specs.Uses.{IsStoppedBy}
use Rattle.ap_check.specs.declared.draft.Draft.{Draft}
use Rattle.ap_check.specs.declared.stop.Stop.{Stop}
use Rattle.ap_check.specs.declared.uses.Use.{Use}
use Rattle.ap_check.specs.declared.uses.Use.TheVariants as u

-- an instruction that uses names of fields fixes the fields of these names
abbrev pub HasFixed : Statement → Use → Type 0
HasFixed (s.Instr name format fixed) (u.Format i names) = names ≡ field_names fixed
HasFixed statement used = Unit {0}

-- a format has no more fields than it may
abbrev pub HasFewFields : Statement → Type 0
HasFewFields (s.Format name fields) = length fields ≤ max_fields
HasFewFields statement = Unit {0}

-- a line adds what it does, or is stopped by its first fault of widths; the numbers that its own are compared with have 32 bits
pub record IsLineAddedAs (line : ℕ) (old : Draft) (statement : Statement) (a : Act) (new : Draft) (result : Result (Unit {0}) Stop) : Type 0 where
  pub stages : old.design.stages < 4294967296
  pub narrow : AreNarrow old.design (width_in old) a
  pub added : MatchResult result
      (λ _. (line_fault old.design (width_in old) (stage_of statement) a ≡ None) × (new ≡ with_line old (record { line = line; stage = narrowed (stage_of statement); act = a })))
      (IsStoppedBy (line_fault old.design (width_in old) (stage_of statement) a))

abbrev pub IsLineAdded : ℕ → Draft → Statement → Use → Draft → Result (Unit {0}) Stop → Type 0
IsLineAdded line old statement (u.Line a) new result = IsLineAddedAs line old statement a new result
IsLineAdded line old statement used new result = Unit {0}

-- an instruction begins
abbrev pub IsInstrAdded : ℕ → Draft → List ℕ → List FieldNumber → Use → Draft → Result (Unit {0}) Stop → Type 0
IsInstrAdded line old name fixed (u.Format i names) new result = MatchResult result (λ _. new ≡ with_instr old line name i fixed) (IsStoppedBy None)
IsInstrAdded line old name fixed used new result = Unit {0}

-- the statement adds what it describes, or is stopped by its first fault of widths
abbrev pub IsAdded : List Card → ℕ → Draft → Statement → Use → Draft → Result (Unit {0}) Stop → Type 0
IsAdded cards line old (s.Stages count) used new result = IsSaid cards line old (s.Stages count) new result
IsAdded cards line old (s.Address bits) used new result = IsSaid cards line old (s.Address bits) new result
IsAdded cards line old (s.Word bits) used new result = IsSaid cards line old (s.Word bits) new result
IsAdded cards line old (s.Transfer stage slots) used new result = IsSaid cards line old (s.Transfer stage slots) new result
IsAdded cards line old (s.Reg name width reset) used new result = IsSaid cards line old (s.Reg name width reset) new result
IsAdded cards line old (s.File name width cells reads writes) used new result = IsSaid cards line old (s.File name width cells reads writes) new result
IsAdded cards line old (s.Mem name address width) used new result = IsSaid cards line old (s.Mem name address width) new result
IsAdded cards line old (s.In name width) used new result = IsSaid cards line old (s.In name width) new result
IsAdded cards line old (s.Unit name kind width) used new result = IsSaid cards line old (s.Unit name kind width) new result
IsAdded cards line old (s.Format name fields) used new result = IsSaid cards line old (s.Format name fields) new result
IsAdded cards line old s.End used new result = IsSaid cards line old s.End new result
IsAdded cards line old (s.Instr name format fixed) used new result = IsInstrAdded line old name fixed used new result
IsAdded cards line old statement used new result = IsLineAdded line old statement used new result
