-- The faults of names and widths, at the lines of a description.
use Rattle.std.specs.Prelude.{◌≡◌, ℕ, Bool, false, IsTrue, List, ◌∷◌, ◌++◌}
use Rattle.ap_bits.specs.declared.card.Card.{Card}
use Rattle.ap_desc.specs.declared.description.Numbered.{Numbered}
use Rattle.ap_desc.specs.declared.fault.Fault.{Fault}
use Rattle.ap_desc.specs.declared.fault.Fault.TheVariants as f
use Rattle.ap_desc.specs.declared.statement.Statement.{Statement}
use Rattle.ap_desc.specs.NameFaults.{is_unknown, is_twice, is_no_kind, is_no_operation}
use Rattle.ap_desc.specs.Scope.{Scope, scope_after}
use Rattle.ap_desc.specs.WidthFaults.{is_out_of_range, is_different, is_no_slice, is_too_wide, is_wide_test, is_off_target, is_refused}

-- a fault of names or widths holds of a statement in this scope
abbrev pub is_faulty : List Card → Scope → Statement → Fault → Bool
is_faulty cards scope statement f.Unknown = is_unknown scope statement
is_faulty cards scope statement f.Twice = is_twice scope statement
is_faulty cards scope statement f.NoKind = is_no_kind cards statement
is_faulty cards scope statement f.NoOperation = is_no_operation cards scope statement
is_faulty cards scope statement f.Range = is_out_of_range cards scope statement
is_faulty cards scope statement f.Differs = is_different cards scope statement
is_faulty cards scope statement f.Slice = is_no_slice cards scope statement
is_faulty cards scope statement f.TooWideConstant = is_too_wide cards scope statement
is_faulty cards scope statement f.NotOneBit = is_wide_test cards scope statement
is_faulty cards scope statement f.Target = is_off_target cards scope statement
is_faulty cards scope statement f.KindRefuses = is_refused cards statement
is_faulty cards scope statement _ = false

-- among the statements this one stands at the line, and these stand before it
pub record IsLineOf (statements : List Numbered) (line : ℕ) (before : List Numbered) (n : Numbered) : Type 0 where
  pub after : List Numbered
  pub parts : statements ≡ before ++ n ∷ after
  pub numbered : n.line ≡ line

-- a fault of names or widths holds at the line
pub record HasStatementFault (statements : List Numbered) (cards : List Card) (kind : Fault) (line : ℕ) : Type 0 where
  pub before : List Numbered
  pub n : Numbered
  pub place : IsLineOf statements line before n
  pub holds : IsTrue (is_faulty cards (scope_after before cards) n.statement kind)
