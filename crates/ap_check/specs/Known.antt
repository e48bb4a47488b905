-- What is known after statements: the names that they declare, and, as long as no fault of widths was noted, what they describe.
use Rattle.std.specs.Prelude.{◌≡◌, ℕ, ◌≤◌, Bool, IsTrue, List, [], ◌∷◌, ◌++◌, map, reverse, Option, Some, None, option_map, is_some, slice_get, Result, MatchResult}
use Rattle.std.specs.List.{list_all}
use Rattle.std.specs.Option.{option_map_or}
use Rattle.ap_bits.specs.Cards.{operation_names}
use Rattle.ap_bits.specs.declared.card.Card.{Card}
use Rattle.ap_desc.specs.declared.description.Numbered.{Numbered}
use Rattle.ap_desc.specs.declared.design.Design.{Design}
use Rattle.ap_desc.specs.declared.design.Instr.{Instr}
use Rattle.ap_desc.specs.declared.fault.DescFault.{DescFault}
use Rattle.ap_desc.specs.declared.fault.DescFault.TheVariants.{Refused, NoMemory}
use Rattle.ap_desc.specs.declared.fault.Fault.{Fault}
use Rattle.ap_desc.specs.declared.fault.Refusal.{Refusal}
use Rattle.ap_desc.specs.Declarations.{declarations}
use Rattle.ap_desc.specs.FaultTable.{phase_of}
use Rattle.ap_desc.specs.Instructions.{Block, blocks_of, instr_of}
use Rattle.ap_desc.specs.Least.{HoldsNowhere, IsLeast}
use Rattle.ap_desc.specs.StatementFaults.{HasStatementFault, is_faulty}
use Rattle.ap_check.specs.Phases.{IsFirstOf}
use Rattle.ap_check.specs.declared.draft.Draft.{Draft}
use Rattle.ap_check.specs.declared.environment.Environment.{Environment}
use Rattle.ap_desc.specs.declared.design.Field.{Field}
use Rattle.ap_desc.specs.declared.design.File.{File}
use Rattle.ap_desc.specs.declared.design.Format.{Format}
use Rattle.ap_desc.specs.declared.design.Unit.{Unit as Resource}
use Rattle.ap_desc.specs.Parts.{reg_names, file_names, mem_names, input_names, unit_names, format_names, names_of_fields}
use Rattle.ap_desc.specs.Scope.{Scope, scope_after}
use Rattle.ap_check.specs.declared.declared.Declared.{Declared}
use Rattle.ap_check.specs.declared.declared.Ports.{Ports}

abbrev pub ports_of : File → Ports
ports_of file = record { reads = file.reads; writes = file.writes }

abbrev pub operations_of : List Card → Resource → List (List ℕ)
operations_of cards unit = option_map_or operation_names (slice_get cards unit.kind) []

abbrev pub has_kind : List Card → Resource → Bool
has_kind cards unit = is_some (slice_get cards unit.kind)

-- the tables of the names that a scope has, with the place of the format of the instruction that began last
abbrev pub tables_of : List Card → Scope → Option ℕ → Declared
tables_of cards scope place = record {
  regs = reg_names scope.design;
  files = file_names scope.design;
  mems = mem_names scope.design;
  inputs = input_names scope.design;
  units = unit_names scope.design;
  formats = format_names scope.design;
  instrs = reverse scope.instrs;
  ports = map ports_of scope.design.files;
  operations = map (operations_of cards) scope.design.units;
  fields = map (λ (f : Format). names_of_fields f.fields) scope.design.formats;
  begun = place;
  locals = scope.locals;
}

-- the format at the place has the fields of the scope; where there is none the scope has none
abbrev pub IsOpen : List Format → List Field → Option ℕ → Type 0
IsOpen formats fields None = fields ≡ []
IsOpen formats fields (Some i) = option_map (λ (f : Format). f.fields) (slice_get formats i) ≡ Some fields

-- the tables are those of the scope, and its units have cards
pub record KnowsNames (cards : List Card) (scope : Scope) (d : Declared) : Type 0 where
  pub tables : d ≡ tables_of cards scope d.begun
  pub fields : IsOpen scope.design.formats scope.fields d.begun
  pub kinds : IsTrue (list_all (has_kind cards) scope.design.units)

-- the instructions that ended, and the one that began last, are those of the blocks, the last of which stands first
abbrev pub IsSplit : List Card → Design → List Block → List Instr → Option Instr → Type 0
IsSplit cards design [] closed None = closed ≡ []
IsSplit cards design [] closed (Some instr) = ⊥
IsSplit cards design (b ∷ blocks) closed None = ⊥
IsSplit cards design (b ∷ blocks) closed (Some instr) = (closed ≡ map (instr_of cards design) (reverse blocks)) × (instr ≡ instr_of cards design b)

-- the draft describes these statements, the first ones of all: it has what they declare, and their instructions over what all declare
pub record Describes (cards : List Card) (statements before : List Numbered) (draft : Draft) : Type 0 where
  pub declares : record draft.design { instrs = [] } ≡ declarations before cards
  pub split : IsSplit cards (declarations statements cards) (blocks_of before) draft.design.instrs draft.begun
  pub narrow : draft.design.word ≤ 64

-- a fault of this phase holds at a line of these statements
abbrev pub HasFaultOf : List Numbered → List Card → ℕ → Fault → ℕ → Type 0
HasFaultOf statements cards phase kind line = (phase_of kind ≡ phase) × HasStatementFault statements cards kind line

-- what is noted is the least fault of widths of the statements so far; nothing where they have none
abbrev pub IsNoted : List Numbered → List Card → Option Refusal → Type 0
IsNoted statements cards None = HoldsNowhere (HasFaultOf statements cards 3)
IsNoted statements cards (Some refusal) = IsLeast (HasFaultOf statements cards 3) refusal

-- what an environment keeps after the first ones of all statements, where they have no fault of names
pub record Knows (cards : List Card) (statements before : List Numbered) (env : Environment) : Type 0 where
  pub clean : HoldsNowhere (HasFaultOf before cards 2)
  pub names : KnowsNames cards (scope_after before cards) env.declared
  pub noted : IsNoted before cards env.noted
  pub describes : env.noted ≡ None → Describes cards statements before env.draft

-- why a statement isn't taken after these: it has this fault of names, the first by its number, or memory ran out
abbrev pub IsNameFault : List Card → List Numbered → Numbered → DescFault → Type 0
IsNameFault cards before n (Refused refusal) =
    (refusal.phase ≡ 2) × (refusal.line ≡ n.line) × IsFirstOf (is_faulty cards (scope_after before cards) n.statement) 2 refusal.kind
IsNameFault cards before n NoMemory = Unit {0}

-- the statement is taken after these, or has a fault of names
abbrev pub IsTaken : List Card → List Numbered → List Numbered → Numbered → Environment → Result (Unit {0}) DescFault → Type 0
IsTaken cards statements before n env result = MatchResult result (λ _. Knows cards statements (before ++ n ∷ []) env) (IsNameFault cards before n)
