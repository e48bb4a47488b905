-- The faults of widths of a line are those of what it does, also with its numbers in 32 bits.
use Rattle.std.proofs.Common.{◌≡◌, ℕ, ◌<◌, Bool, true, false, not, ◌||◌, nat_lt, List, Option, Some, None, option_map, is_some, refl, sym, ap, ◌∙◌, arith}
use Rattle.std.specs.Prelude.{IsTrue, slice_get, option_and_then, if◌then◌else◌}
use Rattle.std.specs.List.{list_all}
use Rattle.std.specs.Option.{option_map_or}
use Rattle.std.proofs.lemmas.Bool.Decides.{nat_tests}
use Rattle.ap_bits.specs.Cards.{operation_names}
use Rattle.ap_bits.specs.declared.card.Card.{Card}
use Rattle.ap_desc.specs.declared.design.Act.{Act}
use Rattle.ap_desc.specs.declared.design.Act.TheVariants as act
use Rattle.ap_desc.specs.declared.design.Arg.{Arg}
use Rattle.ap_desc.specs.declared.design.Arg.TheVariants as arg
use Rattle.ap_desc.specs.declared.design.Design.{Design}
use Rattle.ap_desc.specs.declared.design.Unit.{Unit as Resource}
use Rattle.ap_desc.specs.declared.fault.Fault.{Fault}
use Rattle.ap_desc.specs.declared.fault.Fault.TheVariants as f
use Rattle.ap_desc.specs.declared.statement.Statement.{Statement}
use Rattle.ap_desc.specs.declared.statement.Statement.TheVariants as s
use Rattle.ap_desc.specs.declared.statement.Word.{Word}
use Rattle.ap_desc.specs.declared.statement.Word.TheVariants.{Pc, Link, Named}
use Rattle.ap_desc.specs.Designs.{is_stage, is_width}
use Rattle.ap_desc.specs.Instructions as i
use Rattle.ap_desc.specs.Instructions.{act_of, arg_of, stage_of}
use Rattle.ap_desc.specs.Order.{is_micro}
use Rattle.ap_desc.specs.Parts.{place_of, unit_named, unit_names}
use Rattle.ap_desc.specs.Reserved.{is_among}
use Rattle.ap_desc.specs.Scope.{Scope}
use Rattle.ap_desc.specs.WidthFaults as widths
use Rattle.ap_check.specs.Drafts.{AreNarrow, first_width_fault, line_fault, width_fault}
use Rattle.ap_check.specs.Known.{IsOpen, has_kind, operations_of, tables_of}
use Rattle.ap_check.specs.Numbers.{narrowed, narrowed_act}
use Rattle.ap_check.specs.Tables.{arg_in, line_act, operation_place}
use Rattle.ap_check.specs.declared.declared.Declared.{Declared}
use Rattle.ap_check.proofs.NameLists.{named_all}
use Rattle.ap_check.proofs.TableFaults.{fields_same, got_named}

-- of a line the faults are those of what it does
pub line_same : (cards : List Card) (scope : Scope) (statement : Statement) → is_micro statement ≡ true
    → width_fault cards scope statement ≡ option_map_or (line_fault scope.design (widths.width_in scope) (stage_of statement)) (act_of cards scope.design (arg_of scope.fields scope.locals) statement) None
line_same cards scope (s.Stages count) micro = absurd cc
line_same cards scope (s.Address bits) micro = absurd cc
line_same cards scope (s.Word bits) micro = absurd cc
line_same cards scope (s.Transfer stage slots) micro = absurd cc
line_same cards scope (s.Reg name width reset) micro = absurd cc
line_same cards scope (s.File name width cells reads writes) micro = absurd cc
line_same cards scope (s.Mem name address width) micro = absurd cc
line_same cards scope (s.In name width) micro = absurd cc
line_same cards scope (s.Unit name kind width) micro = absurd cc
line_same cards scope (s.Format name fields) micro = absurd cc
line_same cards scope (s.Instr name format fixed) micro = absurd cc
line_same cards scope s.End micro = absurd cc
line_same cards scope _ micro = refl

module _ (cards : List Card) (scope : Scope) (place : Option ℕ) (begun : IsOpen scope.design.formats scope.fields place) (kinds : IsTrue (list_all (has_kind cards) scope.design.units)) where
  abbrev d : Declared
  d = tables_of cards scope place

  arg_same : (word : Word) → arg_in d word ≡ arg_of scope.fields scope.locals word
  arg_same Pc = refl
  arg_same Link = refl
  arg_same (Named name) = ap (λ names. if is_among name scope.locals then arg.Local (place_of scope.locals name) else arg.Field (place_of names name)) (fields_same cards scope place begun kinds)

  guard_same : (guard : Option Word) → option_map (arg_in d) guard ≡ option_map (arg_of scope.fields scope.locals) guard
  guard_same None = refl
  guard_same (Some word) = ap Some (arg_same word)

  operation_same : (unit op : List ℕ) → operation_place d (place_of (unit_names scope.design) unit) op ≡ i.operation_place cards scope.design unit op
  operation_same unit op =
      ap (λ o. option_map_or (λ (operations : List (List ℕ)). place_of operations op) o 0) (got_named (operations_of cards) (λ (x : Resource). x.name) scope.design.units unit)
      ∙ go (unit_named scope.design unit) refl
    where
      of_card : (x : Resource) (o : Option Card) → slice_get cards x.kind ≡ o → is_some (slice_get cards x.kind) ≡ true
          → place_of (operations_of cards x) op ≡ option_map_or (λ (card : Card). place_of (operation_names card) op) (slice_get cards x.kind) 0
      of_card x None e has = let no : is_some (slice_get cards x.kind) ≡ false = ap is_some e in absurd (let wrong : true ≡ false = sym has ∙ no in cc)
      of_card x (Some card) e has = rw e refl

      go : (o : Option Resource) → unit_named scope.design unit ≡ o
          → option_map_or (λ (operations : List (List ℕ)). place_of operations op) (option_map (operations_of cards) o) 0
          ≡ option_map_or (λ (card : Card). place_of (operation_names card) op) (option_and_then (λ (x : Resource). slice_get cards x.kind) o) 0
      go None e = refl
      go (Some x) e = of_card x (slice_get cards x.kind) refl (named_all (has_kind cards) (λ (y : Resource). y.name) scope.design.units unit x kinds e)

  -- what a line does, by the tables
  pub act_same : (statement : Statement) → line_act d statement ≡ option_map narrowed_act (act_of cards scope.design (arg_of scope.fields scope.locals) statement)
  act_same (s.Compute stage to unit op a b) = let e = operation_same unit op in let p = arg_same a in let q = arg_same b in cc
  act_same (s.ReadFile stage to file port index) = let p = arg_same index in cc
  act_same (s.ReadMemory stage to mem at) = let p = arg_same at in cc
  act_same (s.Zext stage to width a) = let p = arg_same a in cc
  act_same (s.Sext stage to width a) = let p = arg_same a in cc
  act_same (s.Slice stage to high low a) = let p = arg_same a in cc
  act_same (s.Cat stage to a b) = let p = arg_same a in let q = arg_same b in cc
  act_same (s.WriteFile stage file port index value guard) = let p = arg_same index in let q = arg_same value in let g = guard_same guard in cc
  act_same (s.WriteRegister stage reg value guard) = let q = arg_same value in let g = guard_same guard in cc
  act_same (s.WriteMemory stage mem at value guard) = let p = arg_same at in let q = arg_same value in let g = guard_same guard in cc
  act_same (s.Branch stage cond target) = let p = arg_same cond in let q = arg_same target in cc
  act_same (s.Jump stage target) = let p = arg_same target in cc
  act_same _ = refl

-- a width in 32 bits
narrow_width : (bits : ℕ) → is_width (narrowed bits) ≡ is_width bits
narrow_width bits = grind (arith, nat_tests)

kept_width : (bits : ℕ) → is_width bits ≡ true → narrowed bits ≡ bits
kept_width bits e = grind (arith, nat_tests)

-- a slice beyond its operand
narrow_slice : (high low width : ℕ) → width < 4294967296 → (nat_lt (narrowed high) (narrowed low) || not (nat_lt (narrowed high) width)) ≡ (nat_lt high low || not (nat_lt high width))
narrow_slice high low width small = grind (arith, nat_tests)

-- what comes after a range that is wrong
past_range : (b : Bool) (p q : Option Fault) → (if (b || true) then Some f.Range else p) ≡ (if (b || true) then Some f.Range else q)
past_range true p q = refl
past_range false p q = refl

-- the first fault of a line stays with its numbers in 32 bits
pub narrow_fault : (design : Design) (width : Arg → ℕ) (stage : ℕ) (a : Act) → AreNarrow design width a → line_fault design width stage (narrowed_act a) ≡ line_fault design width stage a
unfolding first_width_fault
narrow_fault design width stage (act.Const bits value) narrow = go (is_width bits) refl where
  go : (b : Bool) → is_width bits ≡ b → line_fault design width stage (act.Const (narrowed bits) value) ≡ line_fault design width stage (act.Const bits value)
  go true e = ap (λ n. line_fault design width stage (act.Const n value)) (kept_width bits e)
  go false e = let same : is_width (narrowed bits) ≡ false = narrow_width bits ∙ e in rw (same, e) (past_range (not (is_stage design.stages stage)) _ _)
narrow_fault design width stage (act.Zext bits a) narrow = go (is_width bits) refl where
  go : (b : Bool) → is_width bits ≡ b → line_fault design width stage (act.Zext (narrowed bits) a) ≡ line_fault design width stage (act.Zext bits a)
  go true e = ap (λ n. line_fault design width stage (act.Zext n a)) (kept_width bits e)
  go false e = let same : is_width (narrowed bits) ≡ false = narrow_width bits ∙ e in rw (same, e) (past_range (not (is_stage design.stages stage)) _ _)
narrow_fault design width stage (act.Sext bits a) narrow = go (is_width bits) refl where
  go : (b : Bool) → is_width bits ≡ b → line_fault design width stage (act.Sext (narrowed bits) a) ≡ line_fault design width stage (act.Sext bits a)
  go true e = ap (λ n. line_fault design width stage (act.Sext n a)) (kept_width bits e)
  go false e = let same : is_width (narrowed bits) ≡ false = narrow_width bits ∙ e in rw (same, e) (past_range (not (is_stage design.stages stage)) _ _)
narrow_fault design width stage (act.Slice high low a) narrow =
    ap (λ b. first_width_fault (not (is_stage design.stages stage) || false) false b false false false false) (narrow_slice high low (width a) narrow)
narrow_fault design width stage _ narrow = refl
