-- What a description without fault declares: each part within its limits, of the cards, and named once.
use Rattle.std.proofs.Common.{◌≡◌, ℕ, suc, ◌<◌, ◌≤◌, Bool, true, false, List, [], ◌∷◌, ◌++◌, length, Option, Some, is_some, refl, sym, subst, ap, ◌∙◌, arith, le-leb, eq-eqb}
use Rattle.std.specs.Prelude.{◌&&◌, ◌==◌, not, nat_le, nat_lt, slice_get, IsSomeAnd}
use Rattle.std.specs.List.{AllByRecursion as Each, count_by, filter_map, list_all, list_any}
use Rattle.std.specs.Option.{option_map_or}
use Rattle.std.proofs.lemmas.Bool.{and_from, and_parts, both_ways, false_from_ne_true, ltb-false, not-false, or_parts}
use Rattle.std.proofs.lemmas.Option.{same_Some}
use Rattle.ap_bits.specs.Cards.{FitsWidth, allows, latency_at}
use Rattle.ap_bits.specs.declared.card.Card.{Card}
use Rattle.ap_desc.proofs.InOrder.{due_at, said_by}
use Rattle.ap_desc.proofs.Named.{at_place, named_there}
use Rattle.ap_desc.proofs.Splits.{each_said, each_split, first_said, said_count, said_length, said_within, settled}
use Rattle.ap_desc.specs.Declarations.{address_said, branch_said, declarations, fields_said, file_said, first_number, format_said, input_said, mem_said, reg_said, slots_said, stages_said, unit_said, word_said}
use Rattle.ap_desc.specs.Descriptions.{IsDescription}
use Rattle.ap_desc.specs.Designs.{ArePlaced, has_bits, is_address_width, is_between, is_field_width, is_file_within, is_format_within, is_mem_within, is_reg_within, is_slot_count, is_stage_count, is_transfer_stage, is_width, is_word_width}
use Rattle.ap_desc.specs.Least.{HoldsNowhere}
use Rattle.ap_desc.specs.Order.{has_section, is_inside, is_nop, is_one_too_many, section, section_count}
use Rattle.ap_desc.specs.Parts.{card_named, format_names, kind_names, names_of_fields, place_of}
use Rattle.ap_desc.specs.Reserved.{is_among, is_free_name}
use Rattle.ap_desc.specs.Scope.{scope_after}
use Rattle.ap_desc.specs.Shelf.{IsOfCard}
use Rattle.ap_desc.specs.Sound.{are_distinct}
use Rattle.ap_desc.specs.Spelling.{IsSpellable, are_free_fields, field_names, has_fields, is_small}
use Rattle.ap_desc.specs.StatementFaults.{HasStatementFault, is_faulty}
use Rattle.ap_desc.specs.declared.description.Numbered.{Numbered}
use Rattle.ap_desc.specs.declared.design.Design.{Design}
use Rattle.ap_desc.specs.declared.design.Reg.{Reg}
use Rattle.ap_desc.specs.declared.design.File.{File}
use Rattle.ap_desc.specs.declared.design.Mem.{Mem}
use Rattle.ap_desc.specs.declared.design.InPort.{InPort}
use Rattle.ap_desc.specs.declared.design.Unit.{Unit as Resource}
use Rattle.ap_desc.specs.declared.design.Format.{Format}
use Rattle.ap_desc.specs.declared.design.Field.{Field}
use Rattle.ap_desc.specs.declared.fault.Fault.{Fault}
use Rattle.ap_desc.specs.declared.fault.Fault.TheVariants as f
use Rattle.ap_desc.specs.declared.statement.FieldNumber.{FieldNumber}
use Rattle.ap_desc.specs.declared.statement.Statement.{Statement}
use Rattle.ap_desc.specs.declared.statement.Statement.TheVariants as s

-- a statement that declares something is of its form
pub reg_form : (statement : Statement) (x : Reg) → reg_said statement ≡ Some x → statement ≡ s.Reg x.name x.width x.reset
reg_form (s.Reg name width reset) x e = ap (λ (y : Reg). s.Reg y.name y.width y.reset) (same_Some _ x e)
reg_form _ x e = absurd cc

pub file_form : (statement : Statement) (x : File) → file_said statement ≡ Some x → statement ≡ s.File x.name x.width x.cells x.reads x.writes
file_form (s.File name width cells reads writes) x e = ap (λ (y : File). s.File y.name y.width y.cells y.reads y.writes) (same_Some _ x e)
file_form _ x e = absurd cc

pub mem_form : (statement : Statement) (x : Mem) → mem_said statement ≡ Some x → statement ≡ s.Mem x.name x.address x.width
mem_form (s.Mem name address width) x e = ap (λ (y : Mem). s.Mem y.name y.address y.width) (same_Some _ x e)
mem_form _ x e = absurd cc

pub input_form : (statement : Statement) (x : InPort) → input_said statement ≡ Some x → statement ≡ s.In x.name x.width
input_form (s.In name width) x e = ap (λ (y : InPort). s.In y.name y.width) (same_Some _ x e)
input_form _ x e = absurd cc

pub unit_form : (cards : List Card) (statement : Statement) (x : Resource) → unit_said cards statement ≡ Some x
    → (kind : List ℕ) × (statement ≡ s.Unit x.name kind x.width) × (x.kind ≡ place_of (kind_names cards) kind) × (x.latency ≡ option_map_or (λ (c : Card). latency_at c x.width) (card_named cards kind) 0)
unit_form cards (s.Unit name kind width) x e =
    let same = same_Some _ x e in (
      kind,
      ap (λ (y : Resource). s.Unit y.name kind y.width) same,
      sym (ap (λ (y : Resource). y.kind) same),
      sym (ap (λ (y : Resource). y.latency) same) ∙ ap (λ (y : Resource). option_map_or (λ (c : Card). latency_at c y.width) (card_named cards kind) 0) same,
    )
unit_form cards _ x e = absurd cc

pub format_form : (line : ℕ) (statement : Statement) (x : Format) → format_said line statement ≡ Some x → (fields : List FieldNumber) × (statement ≡ s.Format x.name fields) × (x.fields ≡ fields_said fields) × (x.line ≡ line)
format_form line (s.Format name fields) x e =
    let same = same_Some _ x e in
    (fields, ap (λ (y : Format). s.Format y.name fields) same, sym (ap (λ (y : Format). y.fields) same), sym (ap (λ (y : Format). y.line) same))
format_form line _ x e = absurd cc

transfer_form : (line : ℕ) (statement : Statement) (x : ℕ) → branch_said statement ≡ Some x → (slots : ℕ) × (statement ≡ s.Transfer x slots)
transfer_form line (s.Transfer stage slots) x e = (slots, ap (λ n. s.Transfer n slots) (same_Some stage x e))
transfer_form line _ x e = absurd cc

slots_form : (statement : Statement) (x : ℕ) → slots_said statement ≡ Some x → (stage : ℕ) × (statement ≡ s.Transfer stage x)
slots_form (s.Transfer stage slots) x e = (stage, ap (λ n. s.Transfer stage n) (same_Some slots x e))
slots_form _ x e = absurd cc

stages_form : (statement : Statement) (x : ℕ) → stages_said statement ≡ Some x → statement ≡ s.Stages x
stages_form (s.Stages count) x e = ap s.Stages (same_Some count x e)
stages_form _ x e = absurd cc

address_form : (statement : Statement) (x : ℕ) → address_said statement ≡ Some x → statement ≡ s.Address x
address_form (s.Address bits) x e = ap s.Address (same_Some bits x e)
address_form _ x e = absurd cc

word_form : (statement : Statement) (x : ℕ) → word_said statement ≡ Some x → statement ≡ s.Word x
word_form (s.Word bits) x e = ap s.Word (same_Some bits x e)
word_form _ x e = absurd cc

-- and it is of its section
pub reg_section : (statement : Statement) → is_some (reg_said statement) ≡ (section statement == 4)
reg_section (s.Reg name width reset) = refl
reg_section _ = refl

pub file_section : (statement : Statement) → is_some (file_said statement) ≡ (section statement == 5)
file_section (s.File name width cells reads writes) = refl
file_section _ = refl

pub mem_section : (statement : Statement) → is_some (mem_said statement) ≡ (section statement == 6)
mem_section (s.Mem name address width) = refl
mem_section _ = refl

pub input_section : (statement : Statement) → is_some (input_said statement) ≡ (section statement == 7)
input_section (s.In name width) = refl
input_section _ = refl

pub unit_section : (cards : List Card) (statement : Statement) → is_some (unit_said cards statement) ≡ (section statement == 8)
unit_section cards (s.Unit name kind width) = refl
unit_section cards _ = refl

pub format_section : (line : ℕ) (statement : Statement) → is_some (format_said line statement) ≡ (section statement == 9)
format_section line (s.Format name fields) = refl
format_section line _ = refl

stages_section : (statement : Statement) → is_some (stages_said statement) ≡ (section statement == 0)
stages_section (s.Stages count) = refl
stages_section _ = refl

address_section : (statement : Statement) → is_some (address_said statement) ≡ (section statement == 1)
address_section (s.Address bits) = refl
address_section _ = refl

word_section : (statement : Statement) → is_some (word_said statement) ≡ (section statement == 2)
word_section (s.Word bits) = refl
word_section _ = refl

transfer_section : (statement : Statement) → (is_some (branch_said statement) ≡ (section statement == 3)) × (is_some (slots_said statement) ≡ (section statement == 3))
transfer_section (s.Transfer stage slots) = (refl, refl)
transfer_section _ = (refl, refl)

pub fields_names : (fields : List FieldNumber) → names_of_fields (fields_said fields) ≡ field_names fields
fields_names [] = refl
fields_names (x ∷ fields) = ap (λ ns. x.field ∷ ns) (fields_names fields)

pub fields_placed : (fields : List FieldNumber) → ArePlaced (fields_said fields)
fields_placed [] = tt
fields_placed (x ∷ fields) = (refl, fields_placed fields)

fields_length : (fields : List FieldNumber) → length (fields_said fields) ≡ length fields
fields_length [] = refl
fields_length (x ∷ fields) = ap suc (fields_length fields)

fields_within : (word : ℕ) (fields : List FieldNumber) → list_any (λ (x : FieldNumber). not (is_field_width word x.number)) fields ≡ false → list_all (λ (x : Field). is_field_width word x.width) (fields_said fields) ≡ true
fields_within word [] e = refl
fields_within word (x ∷ fields) e =
    let parts = or_parts (not (is_field_width word x.number)) (list_any (λ (x : FieldNumber). not (is_field_width word x.number)) fields) e in
    and_from (is_field_width word x.number) _ (not-false (is_field_width word x.number) parts.0) (fields_within word fields parts.1)

-- what the spelling of a format says of its names, and that it has a field
pub free_fields : (fields : List FieldNumber) → are_free_fields fields ≡ true → Each (λ name. is_free_name name ≡ true) (field_names fields)
free_fields [] e = tt
free_fields (x ∷ fields) e =
    let two = and_parts (is_free_name x.field && is_small x.number) (are_free_fields fields) e in
    ((and_parts (is_free_name x.field) (is_small x.number) two.0).0, free_fields fields two.1)

pub format_spelled : (name : List ℕ) (fields : List FieldNumber) → IsSpellable (s.Format name fields) → Each (λ n. is_free_name n ≡ true) (name ∷ field_names fields) × (has_fields fields ≡ true)
format_spelled name fields spelled =
    let two = and_parts (is_free_name name) ((has_fields fields && are_free_fields fields) && true) spelled.pieces in
    let three = and_parts (has_fields fields) (are_free_fields fields) (and_parts (has_fields fields && are_free_fields fields) true two.1).0 in
    ((two.0, free_fields fields three.1), three.0)

some_field : (fields : List FieldNumber) → has_fields fields ≡ true → 1 ≤ length fields
some_field [] e = absurd cc
some_field (x ∷ fields) e = omega arith

module _ (statements : List Numbered) (cards : List Card) (described : IsDescription statements) (none : HoldsNowhere (HasStatementFault statements cards)) where
  -- no line has a fault
  pub clear : (before : List Numbered) (n : Numbered) (after : List Numbered) → statements ≡ before ++ n ∷ after → (kind : Fault) → is_faulty cards (scope_after before cards) n.statement kind ≡ false
  clear before n after parts kind = false_from_ne_true (is_faulty cards (scope_after before cards) n.statement kind) (λ h. none kind n.line (record {
    before = before;
    n = n;
    place = record { after = after; parts = parts; numbered = refl };
    holds = h;
  }))

  -- nor has a line of this form
  pub clear_form : (before : List Numbered) (n : Numbered) (after : List Numbered) (statement : Statement) → statements ≡ before ++ n ∷ after → n.statement ≡ statement → (kind : Fault) → is_faulty cards (scope_after before cards) statement kind ≡ false
  clear_form before n after statement parts form kind = subst (λ x. is_faulty cards (scope_after before cards) x kind ≡ false) form (clear before n after parts kind)

  pub spelled_form : (before : List Numbered) (n : Numbered) (after : List Numbered) (statement : Statement) → statements ≡ before ++ n ∷ after → n.statement ≡ statement → IsSpellable statement
  spelled_form before n after statement parts form =
      subst IsSpellable form (each_split (λ (m : Numbered). IsSpellable m.statement) before n after (subst (Each (λ (m : Numbered). IsSpellable m.statement)) parts described.spelled))

  abbrev declared : Design
  declared = declarations statements cards

  pub regs_within : Each (λ x. is_reg_within x ≡ true) declared.regs
  regs_within = each_said (λ (n : Numbered). reg_said n.statement) (λ x. is_reg_within x ≡ true) statements (λ before n after x parts says.
      let form = reg_form n.statement x says in
      and_from (is_width x.width) (has_bits x.width x.reset)
      (not-false (is_width x.width) (clear_form before n after (s.Reg x.name x.width x.reset) parts form f.Range))
      (not-false (has_bits x.width x.reset) (clear_form before n after (s.Reg x.name x.width x.reset) parts form f.TooWideConstant)))

  pub files_within : Each (λ x. is_file_within x ≡ true) declared.files
  files_within = each_said (λ (n : Numbered). file_said n.statement) (λ x. is_file_within x ≡ true) statements (λ before n after x parts says.
      not-false (is_file_within x) (clear_form before n after (s.File x.name x.width x.cells x.reads x.writes) parts (file_form n.statement x says) f.Range))

  pub mems_within : Each (λ x. is_mem_within x ≡ true) declared.mems
  mems_within = each_said (λ (n : Numbered). mem_said n.statement) (λ x. is_mem_within x ≡ true) statements (λ before n after x parts says.
      not-false (is_mem_within x) (clear_form before n after (s.Mem x.name x.address x.width) parts (mem_form n.statement x says) f.Range))

  pub inputs_within : Each (λ (x : InPort). is_width x.width ≡ true) declared.inputs
  inputs_within = each_said (λ (n : Numbered). input_said n.statement) (λ (x : InPort). is_width x.width ≡ true) statements (λ before n after x parts says.
      not-false (is_width x.width) (clear_form before n after (s.In x.name x.width) parts (input_form n.statement x says) f.Range))

  pub units_within : Each (λ (x : Resource). is_width x.width ≡ true) declared.units
  units_within = each_said (λ (n : Numbered). unit_said cards n.statement) (λ (x : Resource). is_width x.width ≡ true) statements (λ before n after x parts says.
      let (kind, form, place, latency) = unit_form cards n.statement x says in
      not-false (is_width x.width) (clear_form before n after (s.Unit x.name kind x.width) parts form f.Range))

  -- units are of the cards
  pub units_of_cards : Each (IsOfCard cards) declared.units
  units_of_cards = each_said (λ (n : Numbered). unit_said cards n.statement) (IsOfCard cards) statements of_card where
    of_card : (before : List Numbered) (n : Numbered) (after : List Numbered) (x : Resource) → statements ≡ before ++ n ∷ after → unit_said cards n.statement ≡ Some x → IsOfCard cards x
    of_card before n after x parts says =
        let (kind, form, place, latency) = unit_form cards n.statement x says in
        let (card, found) = named_there (λ (c : Card). c.name) cards kind (clear_form before n after (s.Unit x.name kind x.width) parts form f.NoKind) in
        let refused = clear_form before n after (s.Unit x.name kind x.width) parts form f.KindRefuses in
        let fits : allows card.widths x.width ≡ true = not-false (allows card.widths x.width) (sym (ap (λ o. option_map_or (λ (c : Card). not (allows c.widths x.width)) o false) found) ∙ refused) in
        let at : slice_get cards x.kind ≡ Some card = ap (slice_get cards) place ∙ at_place (λ (c : Card). c.name) cards kind ∙ found in
        let time : x.latency ≡ latency_at card x.width = latency ∙ ap (λ o. option_map_or (λ (c : Card). latency_at c x.width) o 0) found in
        subst (λ o. IsSomeAnd o (λ card. FitsWidth card x.width × (x.latency ≡ latency_at card x.width))) (sym at) (fits, time)

  -- the header's statements stand there
  pub headers : (has_section (said_by statements) 0 ≡ true) × (has_section (said_by statements) 1 ≡ true) × (has_section (said_by statements) 2 ≡ true) × (has_section (said_by statements) 3 ≡ true)
  headers =
      let whole : (has_section (said_by statements) 0 && has_section (said_by statements) 1 && has_section (said_by statements) 2 && has_section (said_by statements) 3
      && list_any is_nop (said_by statements) && not (is_inside (said_by statements))) ≡ true = described.complete in
      let all = and_parts _ _ (and_parts _ _ whole).0 in
      let four = and_parts _ _ all.0 in
      let three = and_parts _ _ four.0 in
      let two = and_parts _ _ three.0 in
      (two.0, two.1, three.1, four.1)

  -- what each of some numbers passes, the first passes
  first_passes : (g : Numbered → Option ℕ) (k : ℕ) (test : ℕ → Bool) → ((n : Numbered) → is_some (g n) ≡ (section n.statement == k)) → has_section (said_by statements) k ≡ true
      → Each (λ x. test x ≡ true) (filter_map g statements) → test (first_number (filter_map g statements)) ≡ true
  first_passes g k test same there each =
      let (x, rest, e) = first_said g k same statements there in
      subst (λ xs. test (first_number xs) ≡ true) (sym e) ((subst (Each (λ y. test y ≡ true)) e each).0)

  pub stages_within : is_stage_count declared.stages ≡ true
  stages_within = first_passes (λ n. stages_said n.statement) 0 is_stage_count (λ n. stages_section n.statement) headers.0
      (each_said (λ (n : Numbered). stages_said n.statement) (λ x. is_stage_count x ≡ true) statements (λ before n after x parts says.
      not-false (is_stage_count x) (clear_form before n after (s.Stages x) parts (stages_form n.statement x says) f.Range)))

  pub address_within : is_address_width declared.address ≡ true
  address_within = first_passes (λ n. address_said n.statement) 1 is_address_width (λ n. address_section n.statement) headers.1
      (each_said (λ (n : Numbered). address_said n.statement) (λ x. is_address_width x ≡ true) statements (λ before n after x parts says.
      not-false (is_address_width x) (clear_form before n after (s.Address x) parts (address_form n.statement x says) f.Range)))

  pub word_within : is_word_width declared.word ≡ true
  word_within = first_passes (λ n. word_said n.statement) 2 is_word_width (λ n. word_section n.statement) headers.2
      (each_said (λ (n : Numbered). word_said n.statement) (λ x. is_word_width x ≡ true) statements (λ before n after x parts says.
      not-false (is_word_width x) (clear_form before n after (s.Word x) parts (word_form n.statement x says) f.Range)))

  -- stages and word are known where a later section begins
  stages_settled : (before : List Numbered) (n : Numbered) (after : List Numbered) → statements ≡ before ++ n ∷ after → 0 < section n.statement → (declarations before cards).stages ≡ declared.stages
  stages_settled before n after parts later = ap first_number (settled statements (λ m. stages_said m.statement) 0 (λ m x says. ap section (stages_form m.statement x says)) described before n after parts later)

  word_settled : (before : List Numbered) (n : Numbered) (after : List Numbered) → statements ≡ before ++ n ∷ after → 2 < section n.statement → (declarations before cards).word ≡ declared.word
  word_settled before n after parts later = ap first_number (settled statements (λ m. word_said m.statement) 2 (λ m x says. ap section (word_form m.statement x says)) described before n after parts later)

  transfer_right : (before : List Numbered) (n : Numbered) (after : List Numbered) (stage slots : ℕ) → statements ≡ before ++ n ∷ after → n.statement ≡ s.Transfer stage slots
      → (is_transfer_stage declared.stages stage ≡ true) × (is_slot_count slots ≡ true)
  transfer_right before n after stage slots parts form =
      let e = clear_form before n after (s.Transfer stage slots) parts form f.Range in
      let known = stages_settled before n after parts (subst (λ k. 0 < k) (sym (ap section form)) (omega arith)) in
      let two = and_parts (is_transfer_stage (declarations before cards).stages stage) (is_slot_count slots) (not-false (is_transfer_stage (declarations before cards).stages stage && is_slot_count slots) e) in
      (subst (λ n. is_transfer_stage n stage ≡ true) known two.0, two.1)

  pub branch_within : is_transfer_stage declared.stages declared.branch ≡ true
  branch_within = first_passes (λ n. branch_said n.statement) 3 (is_transfer_stage declared.stages) (λ n. (transfer_section n.statement).0) headers.3
      (each_said (λ (n : Numbered). branch_said n.statement) (λ x. is_transfer_stage declared.stages x ≡ true) statements (λ before n after x parts says.
      let (slots, form) = transfer_form n.line n.statement x says in (transfer_right before n after x slots parts form).0))

  pub slots_within : is_slot_count declared.slots ≡ true
  slots_within = first_passes (λ n. slots_said n.statement) 3 is_slot_count (λ n. (transfer_section n.statement).1) headers.3
      (each_said (λ (n : Numbered). slots_said n.statement) (λ x. is_slot_count x ≡ true) statements (λ before n after x parts says.
      let (stage, form) = slots_form n.statement x says in (transfer_right before n after stage x parts form).1))

  -- no more of a section than its limit
  limited : {X : Type 0} (g : Numbered → Option X) (k limit : ℕ) → ((n : Numbered) → is_some (g n) ≡ (section n.statement == k))
      → ((before : List Numbered) (n : Numbered) (after : List Numbered) (x : X) → statements ≡ before ++ n ∷ after → g n ≡ Some x → (count_by (λ other. section other == k) (said_by before) == limit) ≡ false)
      → nat_le (length (filter_map g statements)) limit ≡ true
  limited {X} g k limit same few = le-leb (length (filter_map g statements)) limit (said_within g limit statements full) where
    full : (before : List Numbered) (n : Numbered) (after : List Numbered) (x : X) → statements ≡ before ++ n ∷ after → g n ≡ Some x → length (filter_map g before) ≡ limit → ⊥
    full before n after x parts says at =
        let count = said_count (λ other. section other == k) before ∙ sym (said_length g (λ m. section m.statement == k) same before) ∙ at in
        both_ways (count_by (λ other. section other == k) (said_by before) == limit) (few before n after x parts says) (eq-eqb (count_by (λ other. section other == k) (said_by before)) limit count)

  few_form : (before : List Numbered) (n : Numbered) (after : List Numbered) (statement : Statement) → statements ≡ before ++ n ∷ after → n.statement ≡ statement → is_one_too_many (said_by before) statement ≡ false
  few_form before n after statement parts form = subst (λ x. is_one_too_many (said_by before) x ≡ false) form (due_at statements before n after described parts).few

  pub regs_few : nat_le (length declared.regs) 64 ≡ true
  regs_few = limited (λ n. reg_said n.statement) 4 64 (λ n. reg_section n.statement) (λ before n after x parts says. few_form before n after (s.Reg x.name x.width x.reset) parts (reg_form n.statement x says))

  pub files_few : nat_le (length declared.files) 8 ≡ true
  files_few = limited (λ n. file_said n.statement) 5 8 (λ n. file_section n.statement) (λ before n after x parts says. few_form before n after (s.File x.name x.width x.cells x.reads x.writes) parts (file_form n.statement x says))

  pub mems_few : nat_le (length declared.mems) 4 ≡ true
  mems_few = limited (λ n. mem_said n.statement) 6 4 (λ n. mem_section n.statement) (λ before n after x parts says. few_form before n after (s.Mem x.name x.address x.width) parts (mem_form n.statement x says))

  pub inputs_few : nat_le (length declared.inputs) 8 ≡ true
  inputs_few = limited (λ n. input_said n.statement) 7 8 (λ n. input_section n.statement) (λ before n after x parts says. few_form before n after (s.In x.name x.width) parts (input_form n.statement x says))

  pub units_few : nat_le (length declared.units) 32 ≡ true
  units_few = limited (λ n. unit_said cards n.statement) 8 32 (λ n. unit_section cards n.statement) (λ before n after x parts says.
      let (kind, form, place, latency) = unit_form cards n.statement x says in few_form before n after (s.Unit x.name kind x.width) parts form)

  pub formats_few : nat_le (length declared.formats) 32 ≡ true
  formats_few = limited (λ n. format_said n.line n.statement) 9 32 (λ n. format_section n.line n.statement) (λ before n after x parts says.
      let (fields, form, are, line) = format_form n.line n.statement x says in
      (or_parts (section_count (said_by before) (s.Format x.name fields) == 32) (nat_lt 16 (length fields)) (few_form before n after (s.Format x.name fields) parts form)).0)

  pub formats_within : Each (λ x. is_format_within declared.word x ≡ true) declared.formats
  formats_within = each_said (λ (n : Numbered). format_said n.line n.statement) (λ x. is_format_within declared.word x ≡ true) statements within where
    within : (before : List Numbered) (n : Numbered) (after : List Numbered) (x : Format) → statements ≡ before ++ n ∷ after → format_said n.line n.statement ≡ Some x → is_format_within declared.word x ≡ true
    within before n after x parts says =
        let (fields, form, are, line) = format_form n.line n.statement x says in
        let known = word_settled before n after parts (subst (λ k. 2 < k) (sym (ap section form)) (omega arith)) in
        let widths = subst (λ w. list_any (λ (y : FieldNumber). not (is_field_width w y.number)) fields ≡ false) known (clear_form before n after (s.Format x.name fields) parts form f.Range) in
        let few = (or_parts (section_count (said_by before) (s.Format x.name fields) == 32) (nat_lt 16 (length fields)) (few_form before n after (s.Format x.name fields) parts form)).1 in
        let most : length fields ≤ 16 = ltb-false 16 (length fields) few in
        let least = some_field fields (format_spelled x.name fields (spelled_form before n after (s.Format x.name fields) parts form)).1 in
        let count = fields_length fields in
        subst (λ (ys : List Field). (is_between 1 16 (length ys) && list_all (λ (y : Field). is_field_width declared.word y.width) ys) ≡ true) (sym are)
        (and_from (is_between 1 16 (length (fields_said fields))) (list_all (λ (y : Field). is_field_width declared.word y.width) (fields_said fields))
        (and_from (nat_le 1 (length (fields_said fields))) (nat_le (length (fields_said fields)) 16) (le-leb 1 (length (fields_said fields)) (omega arith)) (le-leb (length (fields_said fields)) 16 (omega arith)))
        (fields_within declared.word fields widths))

  pub formats_placed : Each (λ (x : Format). ArePlaced x.fields) declared.formats
  formats_placed = each_said (λ (n : Numbered). format_said n.line n.statement) (λ (x : Format). ArePlaced x.fields) statements (λ before n after x parts says.
      let (fields, form, are, line) = format_form n.line n.statement x says in subst ArePlaced (sym are) (fields_placed fields))

  pub fields_once : Each (λ (x : Format). are_distinct (names_of_fields x.fields) ≡ true) declared.formats
  fields_once = each_said (λ (n : Numbered). format_said n.line n.statement) (λ (x : Format). are_distinct (names_of_fields x.fields) ≡ true) statements (λ before n after x parts says.
      let (fields, form, are, line) = format_form n.line n.statement x says in
      let twice = or_parts (is_among x.name (format_names (declarations before cards))) (not (are_distinct (field_names fields))) (clear_form before n after (s.Format x.name fields) parts form f.Twice) in
      ap are_distinct (ap names_of_fields are ∙ fields_names fields) ∙ not-false (are_distinct (field_names fields)) twice.1)
