-- The faults of names by the tables are those of the scope.
use Rattle.std.proofs.Common.{◌≡◌, ℕ, zero, suc, nat_lt, subst, arith, Bool, true, false, not, ◌&&◌, ◌||◌, List, [], ◌∷◌, map, Option, Some, None, option_map, is_some, refl, sym, ap, ◌∙◌}
use Rattle.std.specs.Prelude.{IsTrue, reverse, slice_get, option_and_then}
use Rattle.std.specs.List.{list_all, list_any}
use Rattle.std.specs.Option.{option_map_or}
use Rattle.std.specs.Str.{bytes_eq}
use Rattle.std.proofs.lemmas.List.{reverse-append}
use Rattle.std.proofs.lemmas.List.Folds.{list_any-append}
use Rattle.ap_bits.specs.Cards.{operation_names}
use Rattle.ap_bits.specs.declared.card.Card.{Card}
use Rattle.ap_desc.specs.declared.design.File.{File}
use Rattle.ap_desc.specs.declared.design.Format.{Format}
use Rattle.ap_desc.specs.declared.design.Unit.{Unit as Resource}
use Rattle.ap_desc.specs.declared.statement.FieldNumber.{FieldNumber}
use Rattle.ap_desc.specs.declared.statement.Word.{Word}
use Rattle.ap_desc.specs.declared.statement.Word.TheVariants.{Pc, Link, Named}
use Rattle.ap_desc.specs.declared.statement.Statement.{Statement}
use Rattle.ap_desc.specs.declared.statement.Statement.TheVariants as s
use Rattle.ap_desc.specs.NameFaults as n
use Rattle.ap_desc.specs.NameFaults.{is_missing}
use Rattle.ap_desc.specs.Instructions.{assigned_name}
use Rattle.ap_desc.specs.Parts.{fields_named, file_names, file_named, format_names, mem_names, reg_names, named, names_of_fields, place_of, unit_named, unit_names}
use Rattle.ap_desc.specs.Reserved.{is_among}
use Rattle.ap_desc.specs.Scope.{Scope}
use Rattle.ap_desc.specs.Sound.{are_distinct}
use Rattle.ap_desc.specs.Spelling.{field_names}
use Rattle.ap_check.specs.Known.{IsOpen, KnowsNames, has_kind, operations_of, ports_of, tables_of}
use Rattle.ap_check.specs.Phases.{IsFaultOf}
use Rattle.ap_check.specs.Tables.{first_name_fault, name_fault, is_local_taken, is_no_guard, is_no_operand, is_no_operation, is_no_read_port, is_no_write_port, is_part, is_twice, is_unknown, is_without, names_at, open_fields, ports_at}
use Rattle.ap_check.specs.declared.declared.Declared.{Declared}
use Rattle.ap_check.specs.declared.declared.Ports.{Ports}
use Rattle.ap_desc.specs.StatementFaults.{is_faulty}
use Rattle.std.proofs.lemmas.Bool.Decides.{nat_tests}
use Rattle.ap_check.proofs.FirstOf.{first_of_names}
use Rattle.ap_check.proofs.NameLists.{among_append, at_place, named_all, none_named}

pub get_map : {X Y : Type 0} (f : X → Y) (xs : List X) (i : ℕ) → slice_get (map f xs) i ≡ option_map f (slice_get xs i)
get_map f [] i = refl
get_map f (x ∷ xs) zero = refl
get_map f (x ∷ xs) (suc i) = get_map f xs i

-- what is found by a name among the images of a list
pub got_named : {X Y : Type 0} (f : X → Y) (name_of : X → List ℕ) (xs : List X) (name : List ℕ) → slice_get (map f xs) (place_of (map name_of xs) name) ≡ option_map f (named name_of xs name)
got_named f name_of xs name = get_map f xs (place_of (map name_of xs) name) ∙ ap (option_map f) (at_place name_of xs name)

fields_mapped : (o : Option Format) → option_map (λ (f : Format). names_of_fields f.fields) o ≡ option_map names_of_fields (option_map (λ (f : Format). f.fields) o)
fields_mapped None = refl
fields_mapped (Some f) = refl

among_reverse : (name : List ℕ) (xs : List (List ℕ)) → is_among name (reverse xs) ≡ is_among name xs
among_reverse name [] = refl
among_reverse name (x ∷ xs) = ap (is_among name) (reverse-append (x ∷ []) xs) ∙ among_append name (reverse xs) (x ∷ []) ∙ swap (is_among name (reverse xs)) (bytes_eq name x) ∙ ap (λ c. bytes_eq name x || c) (among_reverse name xs) where
  swap : (a c : Bool) → (a || (c || false)) ≡ (c || a)
  swap true true = refl
  swap true false = refl
  swap false true = refl
  swap false false = refl

module _ (cards : List Card) (scope : Scope) (place : Option ℕ) (begun : IsOpen scope.design.formats scope.fields place) (kinds : IsTrue (list_all (has_kind cards) scope.design.units)) where
  abbrev d : Declared
  d = tables_of cards scope place

  -- the fields of the format of the instruction that began last
  pub fields_same : open_fields d ≡ names_of_fields scope.fields
  fields_same = go place begun where
    go : (o : Option ℕ) → IsOpen scope.design.formats scope.fields o → option_map_or (names_at (map (λ (f : Format). names_of_fields f.fields) scope.design.formats)) o [] ≡ names_of_fields scope.fields
    go None h = sym (ap names_of_fields h)
    go (Some i) h =
        ap (λ o. option_map_or (λ (names : List (List ℕ)). names) o []) (get_map (λ (f : Format). names_of_fields f.fields) scope.design.formats i ∙ fields_mapped (slice_get scope.design.formats i) ∙ ap (option_map names_of_fields) h)

  pub operand_same : (word : Word) → is_no_operand d word ≡ n.is_no_operand scope word
  operand_same Pc = refl
  operand_same Link = refl
  operand_same (Named name) = ap (λ names. is_missing name names && is_missing name scope.locals) fields_same

  pub guard_same : (guard : Option Word) → is_no_guard d guard ≡ n.is_no_guard scope guard
  guard_same None = refl
  guard_same (Some word) = operand_same word

  pub taken_same : (name : List ℕ) → is_local_taken d name ≡ n.is_local_taken scope name
  taken_same name = ap (λ names. is_among name names || is_among name scope.locals) fields_same

  any_taken : (names : List (List ℕ)) → list_any (is_local_taken d) names ≡ list_any (n.is_local_taken scope) names
  any_taken [] = refl
  any_taken (name ∷ names) = ap (λ b. b || list_any (is_local_taken d) names) (taken_same name) ∙ ap (λ b. n.is_local_taken scope name || b) (any_taken names)

  -- ports, by the file of a name
  ports_same : (file : List ℕ) → ports_at d (place_of (file_names scope.design) file) ≡ option_map_or ports_of (file_named scope.design file) (record { reads = 0; writes = 0 })
  ports_same file = ap (λ o. option_map_or (λ (p : Ports). p) o (record { reads = 0; writes = 0 })) (got_named ports_of (λ (f : File). f.name) scope.design.files file) ∙ go (file_named scope.design file) where
    go : (o : Option File) → option_map_or (λ (p : Ports). p) (option_map ports_of o) (record { reads = 0; writes = 0 }) ≡ option_map_or ports_of o (record { reads = 0; writes = 0 })
    go None = refl
    go (Some f) = refl

  not_below_zero : (port : ℕ) → not (nat_lt port 0) ≡ true
  not_below_zero port = grind (arith, nat_tests)

  pub read_port_same : (file : List ℕ) (port : ℕ) → is_no_read_port d file port ≡ n.is_no_read_port scope file port
  read_port_same file port = go (is_among file (file_names scope.design)) refl where
    by_file : (o : Option File) → not (nat_lt port (option_map_or ports_of o (record { reads = 0; writes = 0 })).reads) ≡ option_map_or (λ (f : File). not (nat_lt port f.reads)) o true
    by_file None = not_below_zero port
    by_file (Some f) = refl

    core : not (nat_lt port (ports_at d (place_of (file_names scope.design) file)).reads) ≡ n.is_no_read_port scope file port
    core = ap (λ (p : Ports). not (nat_lt port p.reads)) (ports_same file) ∙ by_file (file_named scope.design file)

    go : (b : Bool) → is_among file (file_names scope.design) ≡ b → (not (is_among file (file_names scope.design)) || not (nat_lt port (ports_at d (place_of (file_names scope.design) file)).reads)) ≡ n.is_no_read_port scope file port
    go true e = ap (λ b. not b || not (nat_lt port (ports_at d (place_of (file_names scope.design) file)).reads)) e ∙ core
    go false e = ap (λ b. not b || not (nat_lt port (ports_at d (place_of (file_names scope.design) file)).reads)) e
        ∙ sym (ap (λ o. option_map_or (λ (f : File). not (nat_lt port f.reads)) o true) (none_named (λ (f : File). f.name) scope.design.files file e))

  pub write_port_same : (file : List ℕ) (port : ℕ) → is_no_write_port d file port ≡ n.is_no_write_port scope file port
  write_port_same file port = go (is_among file (file_names scope.design)) refl where
    by_file : (o : Option File) → not (nat_lt port (option_map_or ports_of o (record { reads = 0; writes = 0 })).writes) ≡ option_map_or (λ (f : File). not (nat_lt port f.writes)) o true
    by_file None = not_below_zero port
    by_file (Some f) = refl

    core : not (nat_lt port (ports_at d (place_of (file_names scope.design) file)).writes) ≡ n.is_no_write_port scope file port
    core = ap (λ (p : Ports). not (nat_lt port p.writes)) (ports_same file) ∙ by_file (file_named scope.design file)

    go : (b : Bool) → is_among file (file_names scope.design) ≡ b → (not (is_among file (file_names scope.design)) || not (nat_lt port (ports_at d (place_of (file_names scope.design) file)).writes)) ≡ n.is_no_write_port scope file port
    go true e = ap (λ b. not b || not (nat_lt port (ports_at d (place_of (file_names scope.design) file)).writes)) e ∙ core
    go false e = ap (λ b. not b || not (nat_lt port (ports_at d (place_of (file_names scope.design) file)).writes)) e
        ∙ sym (ap (λ o. option_map_or (λ (f : File). not (nat_lt port f.writes)) o true) (none_named (λ (f : File). f.name) scope.design.files file e))

  -- the fields of the format of a name
  pub format_same : (format : List ℕ) → names_at d.fields (place_of d.formats format) ≡ names_of_fields (fields_named scope.design format)
  format_same format =
      ap (λ o. option_map_or (λ (names : List (List ℕ)). names) o []) (got_named (λ (f : Format). names_of_fields f.fields) (λ (f : Format). f.name) scope.design.formats format)
      ∙ go (named (λ (f : Format). f.name) scope.design.formats format)
    where
      go : (o : Option Format) → option_map_or (λ (names : List (List ℕ)). names) (option_map (λ (f : Format). names_of_fields f.fields) o) [] ≡ names_of_fields (option_map_or (λ (f : Format). f.fields) o [])
      go None = refl
      go (Some f) = refl

  or_same : (a b c e : Bool) → a ≡ c → b ≡ e → (a || b) ≡ (c || e)
  or_same a b c e p q = cc

  pub unknown_same : (statement : Statement) → is_unknown d statement ≡ n.is_unknown scope statement
  unknown_same (s.Instr name format fixed) = ap (λ names. is_missing format (format_names scope.design) || list_any (λ (f : FieldNumber). is_missing f.field names) fixed) (format_same format)
  unknown_same (s.Compute stage to unit op a b) = or_same _ _ _ _ (ap (λ x. is_missing unit (unit_names scope.design) || x) (operand_same a)) (operand_same b)
  unknown_same (s.ReadFile stage to file port index) = or_same _ _ _ _ (read_port_same file port) (operand_same index)
  unknown_same (s.ReadRegister stage to reg) = refl
  unknown_same (s.ReadMemory stage to mem at) = ap (λ x. is_missing mem (mem_names scope.design) || x) (operand_same at)
  unknown_same (s.ReadInput stage to input) = refl
  unknown_same (s.Zext stage to width a) = operand_same a
  unknown_same (s.Sext stage to width a) = operand_same a
  unknown_same (s.Slice stage to high low a) = operand_same a
  unknown_same (s.Cat stage to a b) = or_same _ _ _ _ (operand_same a) (operand_same b)
  unknown_same (s.WriteFile stage file port index value guard) =
      or_same _ _ _ _ (or_same _ _ _ _ (or_same _ _ _ _ (write_port_same file port) (operand_same index)) (operand_same value)) (guard_same guard)
  unknown_same (s.WriteRegister stage reg value guard) = or_same _ _ _ _ (ap (λ x. is_missing reg (reg_names scope.design) || x) (operand_same value)) (guard_same guard)
  unknown_same (s.WriteMemory stage mem at value guard) =
      or_same _ _ _ _ (or_same _ _ _ _ (ap (λ x. is_missing mem (mem_names scope.design) || x) (operand_same at)) (operand_same value)) (guard_same guard)
  unknown_same (s.Branch stage cond target) = or_same _ _ _ _ (operand_same cond) (operand_same target)
  unknown_same (s.Jump stage target) = operand_same target
  unknown_same _ = refl

  part_same : (name : List ℕ) → is_part d name ≡ n.is_part scope name
  part_same name = sym (simp list_any-append)

  pub twice_same : (statement : Statement) → is_twice d statement ≡ n.is_twice scope statement
  twice_same (s.Reg name width reset) = part_same name
  twice_same (s.File name width cells reads writes) = part_same name
  twice_same (s.Mem name address width) = part_same name
  twice_same (s.In name width) = part_same name
  twice_same (s.Unit name kind width) = part_same name
  twice_same (s.Format name fields) = refl
  twice_same (s.Instr name format fixed) = ap (λ b. b || not (are_distinct (field_names fixed))) (among_reverse name scope.instrs)
  twice_same statement = any_taken (assigned_name statement)

  -- the unit of a name has a card
  pub without_same : (statement : Statement) → is_without d statement ≡ n.is_no_operation cards scope statement
  without_same (s.Compute stage to unit op a b) =
      ap (λ o. option_map_or (λ (operations : List (List ℕ)). is_missing op operations) o false) (got_named (operations_of cards) (λ (x : Resource). x.name) scope.design.units unit)
      ∙ go (unit_named scope.design unit) refl
    where
      of_card : (x : Resource) (o : Option Card) → slice_get cards x.kind ≡ o → is_some (slice_get cards x.kind) ≡ true
          → is_missing op (operations_of cards x) ≡ option_map_or (λ (card : Card). is_missing op (operation_names card)) (slice_get cards x.kind) false
      of_card x None e has = let no : is_some (slice_get cards x.kind) ≡ false = ap is_some e in absurd (let wrong : true ≡ false = sym has ∙ no in cc)
      of_card x (Some card) e has = rw e refl

      go : (o : Option Resource) → unit_named scope.design unit ≡ o
          → option_map_or (λ (operations : List (List ℕ)). is_missing op operations) (option_map (operations_of cards) o) false
          ≡ option_map_or (λ (card : Card). is_missing op (operation_names card)) (option_and_then (λ (x : Resource). slice_get cards x.kind) o) false
      go None e = refl
      go (Some x) e = of_card x (slice_get cards x.kind) refl (named_all (has_kind cards) (λ (y : Resource). y.name) scope.design.units unit x kinds e)
  without_same _ = refl

  -- the first fault of names is that of the scope
  pub name_faults_same : (statement : Statement) → name_fault cards d statement
      ≡ first_name_fault (n.is_unknown scope statement) (n.is_twice scope statement) (n.is_no_kind cards statement) (n.is_no_operation cards scope statement)
  name_faults_same statement =
      ap (λ b. first_name_fault b (is_twice d statement) (n.is_no_kind cards statement) (is_without d statement)) (unknown_same statement)
      ∙ ap (λ b. first_name_fault (n.is_unknown scope statement) b (n.is_no_kind cards statement) (is_without d statement)) (twice_same statement)
      ∙ ap (first_name_fault (n.is_unknown scope statement) (n.is_twice scope statement) (n.is_no_kind cards statement)) (without_same statement)

-- the first fault of names by the tables is the first one of the phase
pub names_judged : (cards : List Card) (scope : Scope) (d : Declared) (statement : Statement) → KnowsNames cards scope d → IsFaultOf (is_faulty cards scope statement) 2 (name_fault cards d statement)
names_judged cards scope d statement knows =
    let same : name_fault cards d statement ≡ first_name_fault (n.is_unknown scope statement) (n.is_twice scope statement) (n.is_no_kind cards statement) (n.is_no_operation cards scope statement) =
    ap (λ t. name_fault cards t statement) knows.tables ∙ name_faults_same cards scope d.begun knows.fields knows.kinds statement in
    subst (IsFaultOf (is_faulty cards scope statement) 2) (sym same) (first_of_names (is_faulty cards scope statement) _ _ _ _ refl refl refl refl)
