-- One more statement without fault of names: its tables are those of the scope with it.
use Rattle.std.proofs.Common.{◌≡◌, ℕ, zero, suc, Bool, true, false, not, ◌&&◌, ◌||◌, List, [], ◌∷◌, ◌++◌, map, Option, Some, None, option_map, is_some, refl, sym, ap, subst, ◌∙◌, append-nil}
use Rattle.std.specs.Prelude.{IsTrue, reverse, slice_get}
use Rattle.std.specs.List.{list_all, list_any}
use Rattle.std.specs.Option.{option_map_or}
use Rattle.std.proofs.lemmas.Bool.{and_from, or_parts}
use Rattle.std.proofs.lemmas.List.{map-append, reverse-append}
use Rattle.std.proofs.lemmas.List.Folds.{list_all-append}
use Rattle.ap_bits.specs.Cards.{latency_at, operation_names}
use Rattle.ap_bits.specs.declared.card.Card.{Card}
use Rattle.ap_desc.specs.declared.description.Numbered.{Numbered}
use Rattle.ap_desc.specs.declared.design.File.{File}
use Rattle.ap_desc.specs.declared.design.Format.{Format}
use Rattle.ap_desc.specs.declared.design.InPort.{InPort}
use Rattle.ap_desc.specs.declared.design.Mem.{Mem}
use Rattle.ap_desc.specs.declared.design.Reg.{Reg}
use Rattle.ap_desc.specs.declared.design.Unit.{Unit as Resource}
use Rattle.ap_desc.specs.declared.statement.FieldNumber.{FieldNumber}
use Rattle.ap_desc.specs.declared.statement.Statement.{Statement}
use Rattle.ap_desc.specs.declared.statement.Statement.TheVariants as s
use Rattle.ap_desc.specs.Declarations.{fields_said}
use Rattle.ap_desc.specs.NameFaults as n
use Rattle.ap_desc.specs.Parts.{card_named, format_names, kind_names, names_of_fields, place_of}
use Rattle.ap_desc.specs.Reserved.{is_among}
use Rattle.ap_desc.specs.Scope.{Scope, scope_with}
use Rattle.ap_desc.specs.Spelling.{field_names}
use Rattle.ap_check.specs.Known.{IsOpen, KnowsNames, has_kind, operations_of, ports_of, tables_of}
use Rattle.ap_check.specs.Names.{with_name}
use Rattle.ap_check.specs.Tables.{first_name_fault, is_local_taken, is_part, is_twice, is_unknown, is_without, name_fault}
use Rattle.ap_check.specs.Uses.{declared_with, use_of}
use Rattle.ap_check.specs.declared.declared.Declared.{Declared}
use Rattle.ap_check.specs.declared.declared.Ports.{Ports}
use Rattle.ap_check.specs.declared.uses.Use.{Use}
use Rattle.ap_check.proofs.NameLists.{at_place, named_there, with_new}

-- where no fault is the first one, none holds
pub none_of_names : (u t k o : Bool) → first_name_fault u t k o ≡ None → (u ≡ false) × (t ≡ false) × (k ≡ false) × (o ≡ false)
unfolding first_name_fault
none_of_names true t k o e = absurd cc
none_of_names false true k o e = absurd cc
none_of_names false false true o e = absurd cc
none_of_names false false false true e = absurd cc
none_of_names false false false false e = (refl, refl, refl, refl)

names_said : (fields : List FieldNumber) → names_of_fields (fields_said fields) ≡ field_names fields
names_said [] = refl
names_said (f ∷ fields) = ap (λ names. f.field ∷ names) (names_said fields)

got_first : {X : Type 0} (xs : List X) (x y : X) (i : ℕ) → slice_get xs i ≡ Some y → slice_get (xs ++ x ∷ []) i ≡ Some y
got_first [] x y i e = absurd cc
got_first (z ∷ xs) x y zero e = e
got_first (z ∷ xs) x y (suc i) e = got_first xs x y i e

module _ (cards : List Card) (scope : Scope) (place : Option ℕ) (begun : IsOpen scope.design.formats scope.fields place) (kinds : IsTrue (list_all (has_kind cards) scope.design.units)) (line : ℕ) where
  abbrev d : Declared
  d = tables_of cards scope place

  abbrev Grown : Statement → Type 0
  Grown statement = KnowsNames cards (scope_with cards scope (record { line = line; statement = statement })) (declared_with cards d statement (use_of cards d statement))

  abbrev IsClean : Statement → Type 0
  IsClean statement = (is_unknown d statement ≡ false) × (is_twice d statement ≡ false) × (n.is_no_kind cards statement ≡ false) × (is_without d statement ≡ false)

  -- a new part is in none of the tables of parts
  parts_new : (name : List ℕ) → is_part d name ≡ false → (is_among name d.regs ≡ false) × (is_among name d.files ≡ false) × (is_among name d.mems ≡ false) × (is_among name d.inputs ≡ false) × (is_among name d.units ≡ false)
  parts_new name e =
      let four = or_parts (is_among name d.regs || is_among name d.files || is_among name d.mems || is_among name d.inputs) (is_among name d.units) e in
      let three = or_parts (is_among name d.regs || is_among name d.files || is_among name d.mems) (is_among name d.inputs) four.0 in
      let two = or_parts (is_among name d.regs || is_among name d.files) (is_among name d.mems) three.0 in
      let one = or_parts (is_among name d.regs) (is_among name d.files) two.0 in
      (one.0, one.1, two.1, three.1, four.1)

  -- a table of names with a new one is that of the parts with it
  grown : {X : Type 0} (name_of : X → List ℕ) (xs : List X) (x : X) → is_among (name_of x) (map name_of xs) ≡ false → with_name (map name_of xs) (name_of x) ≡ map name_of (xs ++ x ∷ [])
  grown name_of xs x new = with_new (map name_of xs) (name_of x) new ∙ sym (map-append name_of xs (x ∷ []))

  reg_grown : (name : List ℕ) (width reset : ℕ) → IsClean (s.Reg name width reset) → Grown (s.Reg name width reset)
  reg_grown name width reset clean = record {
    tables = ap (λ names. record d { regs = names }) (grown (λ (r : Reg). r.name) scope.design.regs (record { name = name; width = width; reset = reset }) (parts_new name clean.1).0);
    fields = begun;
    kinds = kinds;
  }

  file_grown : (name : List ℕ) (width cells reads writes : ℕ) → IsClean (s.File name width cells reads writes) → Grown (s.File name width cells reads writes)
  file_grown name width cells reads writes clean =
      let file : File = record { name = name; width = width; cells = cells; reads = reads; writes = writes } in
      let own : Ports = record { reads = reads; writes = writes } in
      record {
        tables = ap (λ names. record d { files = names; ports = d.ports ++ own ∷ [] }) (grown (λ (f : File). f.name) scope.design.files file (parts_new name clean.1).1)
            ∙ ap (λ ports. record d { files = map (λ (f : File). f.name) (scope.design.files ++ file ∷ []); ports = ports }) (sym (map-append ports_of scope.design.files (file ∷ [])));
        fields = begun;
        kinds = kinds;
      }

  mem_grown : (name : List ℕ) (address width : ℕ) → IsClean (s.Mem name address width) → Grown (s.Mem name address width)
  mem_grown name address width clean = record {
    tables = ap (λ names. record d { mems = names }) (grown (λ (m : Mem). m.name) scope.design.mems (record { name = name; address = address; width = width }) (parts_new name clean.1).2);
    fields = begun;
    kinds = kinds;
  }

  input_grown : (name : List ℕ) (width : ℕ) → IsClean (s.In name width) → Grown (s.In name width)
  input_grown name width clean = record {
    tables = ap (λ names. record d { inputs = names }) (grown (λ (p : InPort). p.name) scope.design.inputs (record { name = name; width = width }) (parts_new name clean.1).3);
    fields = begun;
    kinds = kinds;
  }

  unit_grown : (name kind : List ℕ) (width latency : ℕ) → is_among name d.units ≡ false → not (is_among kind (kind_names cards)) ≡ false
      → let unit : Resource = record { name = name; kind = place_of (kind_names cards) kind; width = width; latency = latency } in
      KnowsNames cards (record scope { design = record scope.design { units = scope.design.units ++ unit ∷ [] } })
      (record d { units = with_name d.units name; operations = d.operations ++ option_map_or operation_names (card_named cards kind) [] ∷ [] })
  unit_grown name kind width latency new found =
      let unit : Resource = record { name = name; kind = place_of (kind_names cards) kind; width = width; latency = latency } in
      let at = at_place (λ (c : Card). c.name) cards kind in
      let there = named_there (λ (c : Card). c.name) cards kind found in
      let has : has_kind cards unit ≡ true = ap is_some at ∙ ap is_some there.1 in
      record {
        tables = ap (λ names. record d { units = names; operations = d.operations ++ option_map_or operation_names (card_named cards kind) [] ∷ [] }) (grown (λ (u : Resource). u.name) scope.design.units unit new)
            ∙ ap (λ o. record d { units = map (λ (u : Resource). u.name) (scope.design.units ++ unit ∷ []); operations = d.operations ++ option_map_or operation_names o [] ∷ [] }) (sym at)
            ∙ ap (λ operations. record d { units = map (λ (u : Resource). u.name) (scope.design.units ++ unit ∷ []); operations = operations }) (sym (map-append (operations_of cards) scope.design.units (unit ∷ [])));
        fields = begun;
        kinds = list_all-append (has_kind cards) scope.design.units (unit ∷ []) ∙ and_from (list_all (has_kind cards) scope.design.units) (has_kind cards unit && true) kinds (and_from (has_kind cards unit) true has refl);
      }

  format_grown : (name : List ℕ) (fields : List FieldNumber) → IsClean (s.Format name fields) → Grown (s.Format name fields)
  format_grown name fields clean =
      let format : Format = record { name = name; line = line; fields = fields_said fields } in
      let new : is_among name (format_names scope.design) ≡ false = (or_parts (is_among name (format_names scope.design)) _ clean.1).0 in
      record {
        tables = ap (λ names. record d { formats = names; fields = d.fields ++ field_names fields ∷ [] }) (grown (λ (f : Format). f.name) scope.design.formats format new)
            ∙ ap (λ ns. record d { formats = map (λ (f : Format). f.name) (scope.design.formats ++ format ∷ []); fields = d.fields ++ ns ∷ [] }) (sym (names_said fields))
            ∙ ap (λ nss. record d { formats = map (λ (f : Format). f.name) (scope.design.formats ++ format ∷ []); fields = nss }) (sym (map-append (λ (f : Format). names_of_fields f.fields) scope.design.formats (format ∷ [])));
        fields = later place begun;
        kinds = kinds;
      }
    where
      later : (o : Option ℕ) → IsOpen scope.design.formats scope.fields o → IsOpen (scope.design.formats ++ record { name = name; line = line; fields = fields_said fields } ∷ []) scope.fields o
      later None h = h
      later (Some i) h = of_format (slice_get scope.design.formats i) refl h where
        of_format : (o : Option Format) → slice_get scope.design.formats i ≡ o → option_map (λ (f : Format). f.fields) o ≡ Some scope.fields
            → option_map (λ (f : Format). f.fields) (slice_get (scope.design.formats ++ record { name = name; line = line; fields = fields_said fields } ∷ []) i) ≡ Some scope.fields
        of_format None e g = absurd cc
        of_format (Some f) e g = ap (option_map (λ (x : Format). x.fields)) (got_first scope.design.formats _ f i e) ∙ g

  instr_grown : (name format : List ℕ) (fixed : List FieldNumber) → IsClean (s.Instr name format fixed) → Grown (s.Instr name format fixed)
  instr_grown name format fixed clean =
      let new : is_among name (reverse scope.instrs) ≡ false = (or_parts (is_among name (reverse scope.instrs)) _ clean.1).0 in
      let there = named_there (λ (f : Format). f.name) scope.design.formats format (or_parts (not (is_among format (format_names scope.design))) _ clean.0).0 in
      record {
        tables = ap (λ names. record d { instrs = names; begun = Some (place_of d.formats format); locals = [] }) (with_new (reverse scope.instrs) name new ∙ sym (reverse-append (name ∷ []) scope.instrs));
        fields = ap (option_map (λ (f : Format). f.fields)) (at_place (λ (f : Format). f.name) scope.design.formats format ∙ there.1)
            ∙ sym (ap (λ o. Some (option_map_or (λ (f : Format). f.fields) o [])) there.1);
        kinds = kinds;
      }

  -- a line with and without a new local
  assigns : (to : List ℕ) (widths : List ℕ) → list_any (is_local_taken d) (to ∷ []) ≡ false
      → KnowsNames cards (record scope { locals = scope.locals ++ to ∷ []; widths = widths }) (record d { locals = with_name d.locals to })
  assigns to widths clean =
      let taken = (or_parts (is_local_taken d to) false clean).0 in
      record {
        tables = ap (λ names. record d { locals = names }) (with_new scope.locals to (or_parts _ (is_among to scope.locals) taken).1);
        fields = begun;
        kinds = kinds;
      }

  assigns_none : (widths : List ℕ) → KnowsNames cards (record scope { locals = scope.locals ++ []; widths = widths }) d
  assigns_none widths = record {
    tables = ap (λ names. record d { locals = names }) (sym (append-nil scope.locals));
    fields = begun;
    kinds = kinds;
  }

  pub all_grown : (statement : Statement) → IsClean statement → Grown statement
  all_grown (s.Stages count) clean = record { tables = refl; fields = begun; kinds = kinds }
  all_grown (s.Address bits) clean = record { tables = refl; fields = begun; kinds = kinds }
  all_grown (s.Word bits) clean = record { tables = refl; fields = begun; kinds = kinds }
  all_grown (s.Transfer stage slots) clean = record { tables = refl; fields = begun; kinds = kinds }
  all_grown s.End clean = record { tables = refl; fields = begun; kinds = kinds }
  all_grown (s.Reg name width reset) clean = reg_grown name width reset clean
  all_grown (s.File name width cells reads writes) clean = file_grown name width cells reads writes clean
  all_grown (s.Mem name address width) clean = mem_grown name address width clean
  all_grown (s.In name width) clean = input_grown name width clean
  all_grown (s.Unit name kind width) clean = unit_grown name kind width (option_map_or (λ (c : Card). latency_at c width) (card_named cards kind) 0) (parts_new name clean.1).4 clean.2
  all_grown (s.Format name fields) clean = format_grown name fields clean
  all_grown (s.Instr name format fixed) clean = instr_grown name format fixed clean
  all_grown (s.Compute stage to unit op a b) clean = assigns to _ clean.1
  all_grown (s.ReadFile stage to file port index) clean = assigns to _ clean.1
  all_grown (s.ReadRegister stage to reg) clean = assigns to _ clean.1
  all_grown (s.ReadMemory stage to mem at) clean = assigns to _ clean.1
  all_grown (s.ReadInput stage to input) clean = assigns to _ clean.1
  all_grown (s.Const stage to width value) clean = assigns to _ clean.1
  all_grown (s.Zext stage to width a) clean = assigns to _ clean.1
  all_grown (s.Sext stage to width a) clean = assigns to _ clean.1
  all_grown (s.Slice stage to high low a) clean = assigns to _ clean.1
  all_grown (s.Cat stage to a b) clean = assigns to _ clean.1
  all_grown _ clean = assigns_none _

-- the tables after one more statement
pub names_grow : (cards : List Card) (scope : Scope) (m : Numbered) (d : Declared) (used : Use) → KnowsNames cards scope d → name_fault cards d m.statement ≡ None → used ≡ use_of cards d m.statement
    → KnowsNames cards (scope_with cards scope m) (declared_with cards d m.statement used)
names_grow cards scope m d used knows clean same =
    let after : (t : Declared) → d ≡ t → KnowsNames cards (scope_with cards scope m) (declared_with cards t m.statement (use_of cards t m.statement)) → KnowsNames cards (scope_with cards scope m) (declared_with cards d m.statement used) =
    λ t e h. subst (λ x. KnowsNames cards (scope_with cards scope m) (declared_with cards d m.statement x)) (sym same) (subst (λ x. KnowsNames cards (scope_with cards scope m) (declared_with cards x m.statement (use_of cards x m.statement))) (sym e) h) in
    after (tables_of cards scope d.begun) knows.tables
    (all_grown cards scope d.begun knows.fields knows.kinds m.line m.statement (none_of_names _ _ _ _ (sym (ap (λ t. name_fault cards t m.statement) knows.tables) ∙ clean)))
