-- The names of a description without fault: each may be used, and none stands twice in its space.
use Rattle.std.proofs.Common.{◌≡◌, ℕ, Bool, true, false, List, [], ◌∷◌, ◌++◌, map, inl, inr, refl, sym, subst, ap, ◌∙◌, append_assoc, append-nil, flat_map}
use Rattle.std.specs.Prelude.{◌||◌, not, codes, fold, if◌then◌else◌}
use Rattle.std.specs.List.{AllByRecursion as Each, list_any}
use Rattle.std.specs.Str.{bytes_eq}
use Rattle.std.proofs.lemmas.Bool.{and_parts, or_left, or_parts, or_right, or_cases}
use Rattle.std.proofs.lemmas.List.{map-append}
use Rattle.std.proofs.lemmas.List.Folds.{list_any-append}
use Rattle.ap_bits.specs.declared.card.Card.{Card}
use Rattle.ap_desc.proofs.Growing.{declared_grows}
use Rattle.ap_desc.proofs.InOrder.{said_by}
use Rattle.ap_desc.proofs.Named.{distinct_with}
use Rattle.ap_desc.proofs.SoundParts.{clear, fields_names, file_form, format_form, format_spelled, input_form, mem_form, reg_form, spelled_form, unit_form}
use Rattle.ap_desc.proofs.Splits.{each_append, each_said, grow}
use Rattle.ap_desc.specs.Declarations.{declarations, file_said, format_said, input_said, mem_said, reg_said, unit_said}
use Rattle.ap_desc.specs.Descriptions.{IsDescription}
use Rattle.ap_desc.specs.Instructions.{Block, begun, block_after, with_line}
use Rattle.ap_desc.specs.Least.{HoldsNowhere}
use Rattle.ap_desc.specs.NameFaults.{is_twice}
use Rattle.ap_desc.specs.Order.{is_micro, is_nop}
use Rattle.ap_desc.specs.Parts.{file_names, format_names, input_names, mem_names, names_of_fields, reg_names, unit_names}
use Rattle.ap_desc.specs.Reserved.{is_among, is_free_name}
use Rattle.ap_desc.specs.Scope.{Scope, scope_after, with_declared}
use Rattle.ap_desc.specs.Sound.{are_distinct, names_of_parts}
use Rattle.ap_desc.specs.Spelling.{field_names}
use Rattle.ap_desc.specs.StatementFaults.{HasStatementFault}
use Rattle.ap_desc.specs.declared.description.Numbered.{Numbered}
use Rattle.ap_desc.specs.declared.design.Design.{Design}
use Rattle.ap_desc.specs.declared.design.Reg.{Reg}
use Rattle.ap_desc.specs.declared.design.File.{File}
use Rattle.ap_desc.specs.declared.design.Mem.{Mem}
use Rattle.ap_desc.specs.declared.design.InPort.{InPort}
use Rattle.ap_desc.specs.declared.design.Unit.{Unit as Resource}
use Rattle.ap_desc.specs.declared.design.Format.{Format}
use Rattle.ap_desc.specs.declared.design.Field.{Field}
use Rattle.ap_desc.specs.declared.fault.Fault.TheVariants as f
use Rattle.ap_desc.specs.declared.statement.Statement.{Statement}
use Rattle.ap_desc.specs.declared.statement.Statement.TheVariants as s

pub each_map : {X Y : Type 0} (P : Y → Type 0) (g : X → Y) (xs : List X) → Each (λ x. P (g x)) xs → Each P (map g xs)
each_map P g [] each = tt
each_map P g (x ∷ xs) each = (each.0, each_map P g xs each.1)

each_flat : {X Y : Type 0} (P : Y → Type 0) (g : X → List Y) (xs : List X) → Each (λ x. Each P (g x)) xs → Each P (flat_map g xs)
each_flat P g [] each = tt
each_flat P g (x ∷ xs) each = each_append P (g x) (flat_map g xs) each.0 (each_flat P g xs each.1)

-- one more name in the middle
insert_at : (old new xs ys : List (List ℕ)) (name : List ℕ) → old ≡ xs ++ ys → new ≡ xs ++ name ∷ ys → are_distinct old ≡ true → is_among name old ≡ false → are_distinct new ≡ true
insert_at old new xs ys name e g distinct fresh =
    subst (λ ns. are_distinct ns ≡ true) (sym g) (distinct_with xs ys name (subst (λ ns. are_distinct ns ≡ true) e distinct) (subst (λ ns. is_among name ns ≡ false) e fresh))

-- the names of parts with one more of each sort
parts_push : (cards : List Card) (scope : Scope) (line : ℕ) (statement : Statement) → are_distinct (names_of_parts scope.design) ≡ true → is_twice scope statement ≡ false → are_distinct (names_of_parts (with_declared cards line statement scope.design)) ≡ true
parts_push cards scope line (s.Reg name width reset) distinct fresh =
    insert_at (names_of_parts scope.design) (names_of_parts (with_declared cards line (s.Reg name width reset) scope.design)) (reg_names scope.design) (file_names scope.design ++ (mem_names scope.design ++ (input_names scope.design ++ unit_names scope.design))) name
    (simp append_assoc) (simp (map-append, append_assoc)) distinct fresh
parts_push cards scope line (s.File name width cells reads writes) distinct fresh =
    insert_at (names_of_parts scope.design) (names_of_parts (with_declared cards line (s.File name width cells reads writes) scope.design)) (reg_names scope.design ++ file_names scope.design) (mem_names scope.design ++ (input_names scope.design ++ unit_names scope.design)) name
    (simp append_assoc) (simp (map-append, append_assoc)) distinct fresh
parts_push cards scope line (s.Mem name address width) distinct fresh =
    insert_at (names_of_parts scope.design) (names_of_parts (with_declared cards line (s.Mem name address width) scope.design)) (reg_names scope.design ++ (file_names scope.design ++ mem_names scope.design)) (input_names scope.design ++ unit_names scope.design) name
    (simp append_assoc) (simp (map-append, append_assoc)) distinct fresh
parts_push cards scope line (s.In name width) distinct fresh =
    insert_at (names_of_parts scope.design) (names_of_parts (with_declared cards line (s.In name width) scope.design)) (reg_names scope.design ++ (file_names scope.design ++ (mem_names scope.design ++ input_names scope.design))) (unit_names scope.design) name
    (simp append_assoc) (simp (map-append, append_assoc)) distinct fresh
parts_push cards scope line (s.Unit name kind width) distinct fresh =
    insert_at (names_of_parts scope.design) (names_of_parts (with_declared cards line (s.Unit name kind width) scope.design)) (reg_names scope.design ++ (file_names scope.design ++ (mem_names scope.design ++ (input_names scope.design ++ unit_names scope.design)))) [] name
    (simp (append_assoc, append-nil)) (simp (map-append, append_assoc)) distinct fresh
parts_push cards scope line _ distinct fresh = distinct

formats_push : (cards : List Card) (scope : Scope) (line : ℕ) (statement : Statement) → are_distinct (format_names scope.design) ≡ true → is_twice scope statement ≡ false → are_distinct (format_names (with_declared cards line statement scope.design)) ≡ true
formats_push cards scope line (s.Format name fields) distinct fresh =
    insert_at (format_names scope.design) (format_names (with_declared cards line (s.Format name fields) scope.design)) (format_names scope.design) [] name (sym (append-nil (format_names scope.design))) (simp map-append) distinct
    (or_parts (is_among name (format_names scope.design)) (not (are_distinct (field_names fields))) fresh).0
formats_push cards scope line _ distinct fresh = distinct

-- an instruction NOP has begun, where a line begins one
nop_block : (n : Numbered) (statement : Statement) → is_nop statement ≡ true → list_any (λ (b : Block). bytes_eq b.name (codes "NOP")) (begun n statement) ≡ true
nop_block n (s.Instr name format fixed) e = or_left (bytes_eq name (codes "NOP")) false e
nop_block n _ e = absurd cc

nop_micro : (statement : Statement) → is_nop statement ≡ true → is_micro statement ≡ false
nop_micro (s.Instr name format fixed) e = refl
nop_micro _ e = absurd cc

with_line_names : (n : Numbered) (blocks : List Block) → list_any (λ (b : Block). bytes_eq b.name (codes "NOP")) (with_line n blocks) ≡ list_any (λ (b : Block). bytes_eq b.name (codes "NOP")) blocks
with_line_names n [] = refl
with_line_names n (b ∷ blocks) = refl

stays_named : (n : Numbered) (blocks : List Block) → list_any (λ (b : Block). bytes_eq b.name (codes "NOP")) blocks ≡ true → list_any (λ (b : Block). bytes_eq b.name (codes "NOP")) (block_after blocks n) ≡ true
stays_named n blocks e = go (is_micro n.statement) where
  go : (micro : Bool) → list_any (λ (b : Block). bytes_eq b.name (codes "NOP")) (if micro then with_line n blocks else begun n n.statement ++ blocks) ≡ true
  go true = with_line_names n blocks ∙ e
  go false = list_any-append (λ (b : Block). bytes_eq b.name (codes "NOP")) (begun n n.statement) blocks ∙ or_right (list_any (λ (b : Block). bytes_eq b.name (codes "NOP")) (begun n n.statement)) _ e

pub nop_begun : (lines : List Numbered) (blocks : List Block) → (list_any (λ (b : Block). bytes_eq b.name (codes "NOP")) blocks || list_any is_nop (said_by lines)) ≡ true → list_any (λ (b : Block). bytes_eq b.name (codes "NOP")) (fold block_after blocks lines) ≡ true
nop_begun [] blocks e = elim (or_cases (list_any (λ (b : Block). bytes_eq b.name (codes "NOP")) blocks) false e) [ inl there ↦ there | inr wrong ↦ absurd cc ]
nop_begun (n ∷ lines) blocks e = nop_begun lines (block_after blocks n) (elim (or_cases (list_any (λ (b : Block). bytes_eq b.name (codes "NOP")) blocks) (is_nop n.statement || list_any is_nop (said_by lines)) e) [
  | inl there ↦ or_left _ _ (stays_named n blocks there)
  | inr later ↦ elim (or_cases (is_nop n.statement) (list_any is_nop (said_by lines)) later) [
    | inl here ↦ or_left _ _ (now here)
    | inr more ↦ or_right _ _ more
  ]
]) where
  now : is_nop n.statement ≡ true → list_any (λ (b : Block). bytes_eq b.name (codes "NOP")) (block_after blocks n) ≡ true
  now here =
      ap (λ c. list_any (λ (b : Block). bytes_eq b.name (codes "NOP")) (if c then with_line n blocks else begun n n.statement ++ blocks)) (nop_micro n.statement here)
      ∙ list_any-append (λ (b : Block). bytes_eq b.name (codes "NOP")) (begun n n.statement) blocks ∙ or_left _ (list_any (λ (b : Block). bytes_eq b.name (codes "NOP")) blocks) (nop_block n n.statement here)

module _ (statements : List Numbered) (cards : List Card) (described : IsDescription statements) (none : HoldsNowhere (HasStatementFault statements cards)) where
  abbrev all : Design
  all = declarations statements cards

  pub parts_once : are_distinct (names_of_parts all) ≡ true
  parts_once = grow (λ lines. are_distinct (names_of_parts (declarations lines cards)) ≡ true) [] statements (λ before n after parts once.
      subst (λ d. are_distinct (names_of_parts d) ≡ true) (sym (declared_grows statements cards before n after described parts))
      (parts_push cards (scope_after before cards) n.line n.statement once (clear statements cards described none before n after parts f.Twice))) refl

  pub formats_once : are_distinct (format_names all) ≡ true
  formats_once = grow (λ lines. are_distinct (format_names (declarations lines cards)) ≡ true) [] statements (λ before n after parts once.
      subst (λ d. are_distinct (format_names d) ≡ true) (sym (declared_grows statements cards before n after described parts))
      (formats_push cards (scope_after before cards) n.line n.statement once (clear statements cards described none before n after parts f.Twice))) refl

  pub free_parts : Each (λ name. is_free_name name ≡ true) (names_of_parts all)
  free_parts = each_append _ (reg_names all ++ file_names all ++ mem_names all ++ input_names all) (unit_names all)
      (each_append _ (reg_names all ++ file_names all ++ mem_names all) (input_names all)
      (each_append _ (reg_names all ++ file_names all) (mem_names all) (each_append _ (reg_names all) (file_names all) regs files) mems) inputs) units where
        regs : Each (λ name. is_free_name name ≡ true) (reg_names all)
        regs = each_map (λ name. is_free_name name ≡ true) (λ (x : Reg). x.name) all.regs (each_said (λ (n : Numbered). reg_said n.statement) (λ (x : Reg). is_free_name x.name ≡ true) statements (λ before n after x parts says.
            (and_parts (is_free_name x.name) _ (spelled_form statements cards described none before n after (s.Reg x.name x.width x.reset) parts (reg_form n.statement x says)).pieces).0))

        files : Each (λ name. is_free_name name ≡ true) (file_names all)
        files = each_map (λ name. is_free_name name ≡ true) (λ (x : File). x.name) all.files (each_said (λ (n : Numbered). file_said n.statement) (λ (x : File). is_free_name x.name ≡ true) statements (λ before n after x parts says.
            (and_parts (is_free_name x.name) _ (spelled_form statements cards described none before n after (s.File x.name x.width x.cells x.reads x.writes) parts (file_form n.statement x says)).pieces).0))

        mems : Each (λ name. is_free_name name ≡ true) (mem_names all)
        mems = each_map (λ name. is_free_name name ≡ true) (λ (x : Mem). x.name) all.mems (each_said (λ (n : Numbered). mem_said n.statement) (λ (x : Mem). is_free_name x.name ≡ true) statements (λ before n after x parts says.
            (and_parts (is_free_name x.name) _ (spelled_form statements cards described none before n after (s.Mem x.name x.address x.width) parts (mem_form n.statement x says)).pieces).0))

        inputs : Each (λ name. is_free_name name ≡ true) (input_names all)
        inputs = each_map (λ name. is_free_name name ≡ true) (λ (x : InPort). x.name) all.inputs (each_said (λ (n : Numbered). input_said n.statement) (λ (x : InPort). is_free_name x.name ≡ true) statements (λ before n after x parts says.
            (and_parts (is_free_name x.name) _ (spelled_form statements cards described none before n after (s.In x.name x.width) parts (input_form n.statement x says)).pieces).0))

        units : Each (λ name. is_free_name name ≡ true) (unit_names all)
        units = each_map (λ name. is_free_name name ≡ true) (λ (x : Resource). x.name) all.units (each_said (λ (n : Numbered). unit_said cards n.statement) (λ (x : Resource). is_free_name x.name ≡ true) statements (λ before n after x parts says.
            let (kind, form, place, latency) = unit_form cards n.statement x says in
            (and_parts (is_free_name x.name) _ (spelled_form statements cards described none before n after (s.Unit x.name kind x.width) parts form).pieces).0))

  pub free_formats : Each (λ name. is_free_name name ≡ true) (flat_map (λ (x : Format). x.name ∷ map (λ (y : Field). y.name) x.fields) all.formats)
  free_formats = each_flat (λ name. is_free_name name ≡ true) (λ (x : Format). x.name ∷ map (λ (y : Field). y.name) x.fields) all.formats
      (each_said (λ (n : Numbered). format_said n.line n.statement) (λ (x : Format). Each (λ name. is_free_name name ≡ true) (x.name ∷ names_of_fields x.fields)) statements (λ before n after x parts says.
      let (fields, form, are, line) = format_form n.line n.statement x says in
      let names : names_of_fields x.fields ≡ field_names fields = ap names_of_fields are ∙ fields_names fields in
      subst (λ ns. Each (λ name. is_free_name name ≡ true) (x.name ∷ ns)) (sym names)
      (format_spelled x.name fields (spelled_form statements cards described none before n after (s.Format x.name fields) parts form)).0))
