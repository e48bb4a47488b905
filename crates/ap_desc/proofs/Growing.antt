-- What lines declare and what the next line may name, line after line.
use Rattle.std.proofs.Common.{◌≡◌, ℕ, ◌<◌, ◌≤◌, ◌==◌, Bool, true, false, if◌then◌else◌, List, [], ◌∷◌, ◌++◌, map, Option, Some, None, inl, inr, refl, sym, subst, ap, ◌∙◌, arith, append_assoc, append-nil}
use Rattle.std.specs.Prelude.{option_and_then, option_map, option_to_list}
use Rattle.std.specs.List.{AllByRecursion as Each, filter_map}
use Rattle.std.proofs.lemmas.Bool.{and_parts, eqb-true}
use Rattle.std.proofs.lemmas.List.Concat.{flat_map-append}
use Rattle.std.proofs.lemmas.List.Elements.{filter_map-append}
use Rattle.std.proofs.lemmas.List.Sums.{fold_push}
use Rattle.ap_bits.specs.declared.card.Card.{Card}
use Rattle.ap_desc.proofs.Members.{In, in_left, in_right}
use Rattle.ap_desc.proofs.InOrder.{IsDue, HasBegun, due_at, earlier_sections, header_first, micro_has_begun, no_blocks, said_by, section_most}
use Rattle.ap_desc.specs.Declarations.{address_said, all_said, all_said_at, branch_said, declarations, slots_said, stages_said, transfer_line_said, word_said}
use Rattle.ap_desc.specs.Descriptions.{IsDescription}
use Rattle.ap_desc.specs.Designs.{local_width, widths_of}
use Rattle.ap_desc.specs.Instructions.{Block, act_of, arg_of, assigned_name, begun, block_after, blocks_of, each_after, local_names, micro_of, micros_of, with_line}
use Rattle.ap_desc.specs.Order.{is_micro, section}
use Rattle.ap_desc.specs.Parts.{fields_named}
use Rattle.ap_desc.specs.Scope.{Scope, open_fields, open_lines, scope_after, scope_with, with_declared, with_micro, with_outer}
use Rattle.ap_desc.specs.declared.description.Numbered.{Numbered}
use Rattle.ap_desc.specs.declared.design.Design.{Design}
use Rattle.ap_desc.specs.declared.design.Field.{Field}
use Rattle.ap_desc.specs.declared.design.Micro.{Micro}
use Rattle.ap_desc.specs.declared.design.Act.{Act}
use Rattle.ap_desc.specs.declared.statement.Statement.{Statement}
use Rattle.ap_desc.specs.declared.statement.Statement.TheVariants as s

-- of a header statement's number nothing was said before it
abbrev pub IsSaidFirst : List Numbered → Statement → Type 0
IsSaidFirst before (s.Stages count) = all_said stages_said before ≡ []
IsSaidFirst before (s.Address bits) = all_said address_said before ≡ []
IsSaidFirst before (s.Word bits) = all_said word_said before ≡ []
IsSaidFirst before (s.Transfer stage slots) = (all_said branch_said before ≡ []) × (all_said slots_said before ≡ []) × (all_said_at transfer_line_said before ≡ [])
IsSaidFirst before _ = Unit {0}

pub none_said : {X : Type 0} (f : Numbered → Option X) (k : ℕ) → ((n : Numbered) → section n.statement < k → f n ≡ None) → (before : List Numbered) → Each (λ e. section e < k) (said_by before) → filter_map f before ≡ []
none_said f k none [] each = refl
none_said f k none (n ∷ before) each = simp (none n each.0) (none_said f k none before each.1)

stages_none : (statement : Statement) → section statement < 0 → stages_said statement ≡ None
stages_none statement low = absurd (omega arith)

address_none : (statement : Statement) → section statement < 1 → address_said statement ≡ None
address_none (s.Address bits) low = absurd (omega arith)
address_none _ low = refl

word_none : (statement : Statement) → section statement < 2 → word_said statement ≡ None
word_none (s.Word bits) low = absurd (omega arith)
word_none _ low = refl

transfer_none : (line : ℕ) (statement : Statement) → section statement < 3 → (branch_said statement ≡ None) × (slots_said statement ≡ None) × (transfer_line_said line statement ≡ None)
transfer_none line (s.Transfer stage slots) low = absurd (omega arith)
transfer_none line _ low = (refl, refl, refl)

said_first : (before : List Numbered) (statement : Statement) → IsDue (said_by before) statement → IsSaidFirst before statement
said_first before (s.Stages count) due = none_said (λ n. stages_said n.statement) 0 (λ n. stages_none n.statement) before (header_first (said_by before) (s.Stages count) due.late refl)
said_first before (s.Address bits) due = none_said (λ n. address_said n.statement) 1 (λ n. address_none n.statement) before (header_first (said_by before) (s.Address bits) due.late refl)
said_first before (s.Word bits) due = none_said (λ n. word_said n.statement) 2 (λ n. word_none n.statement) before (header_first (said_by before) (s.Word bits) due.late refl)
said_first before (s.Transfer stage slots) due =
    let each = header_first (said_by before) (s.Transfer stage slots) due.late refl in (
      none_said (λ n. branch_said n.statement) 3 (λ n low. (transfer_none n.line n.statement low).0) before each,
      none_said (λ n. slots_said n.statement) 3 (λ n low. (transfer_none n.line n.statement low).1) before each,
      none_said (λ n. transfer_line_said n.line n.statement) 3 (λ n low. (transfer_none n.line n.statement low).2) before each,
    )
said_first before _ due = tt

-- one more line
pub declared_push : (cards : List Card) (before : List Numbered) (line : ℕ) (statement : Statement) → IsSaidFirst before statement
    → declarations (before ++ record { line = line; statement = statement } ∷ []) cards ≡ with_declared cards line statement (declarations before cards)
declared_push cards before line (s.Stages count) first = simp (filter_map-append, append-nil, first)
declared_push cards before line (s.Address bits) first = simp (filter_map-append, append-nil, first)
declared_push cards before line (s.Word bits) first = simp (filter_map-append, append-nil, first)
declared_push cards before line (s.Transfer stage slots) first = simp (filter_map-append, append-nil, first.0, first.1, first.2)
declared_push cards before line (s.Reg name width reset) first = simp (filter_map-append, append-nil)
declared_push cards before line (s.File name width cells reads writes) first = simp (filter_map-append, append-nil)
declared_push cards before line (s.Mem name address width) first = simp (filter_map-append, append-nil)
declared_push cards before line (s.In name width) first = simp (filter_map-append, append-nil)
declared_push cards before line (s.Unit name kind width) first = simp (filter_map-append, append-nil)
declared_push cards before line (s.Format name fields) first = simp (filter_map-append, append-nil)
declared_push cards before line _ first = simp (filter_map-append, append-nil)

pub declared_grows : (statements : List Numbered) (cards : List Card) (before : List Numbered) (n : Numbered) (after : List Numbered) → IsDescription statements → statements ≡ before ++ n ∷ after
    → declarations (before ++ n ∷ []) cards ≡ with_declared cards n.line n.statement (declarations before cards)
declared_grows statements cards before n after described parts = declared_push cards before n.line n.statement (said_first before n.statement (due_at statements before n after described parts))

-- lines of instructions declare nothing
nothing_declared : (cards : List Card) (line : ℕ) (statement : Statement) (d : Design) → section statement ≡ 10 → with_declared cards line statement d ≡ d
nothing_declared cards line (s.Stages count) d late = absurd (omega arith)
nothing_declared cards line (s.Address bits) d late = absurd (omega arith)
nothing_declared cards line (s.Word bits) d late = absurd (omega arith)
nothing_declared cards line (s.Transfer stage slots) d late = absurd (omega arith)
nothing_declared cards line (s.Reg name width reset) d late = absurd (omega arith)
nothing_declared cards line (s.File name width cells reads writes) d late = absurd (omega arith)
nothing_declared cards line (s.Mem name address width) d late = absurd (omega arith)
nothing_declared cards line (s.In name width) d late = absurd (omega arith)
nothing_declared cards line (s.Unit name kind width) d late = absurd (omega arith)
nothing_declared cards line (s.Format name fields) d late = absurd (omega arith)
nothing_declared cards line _ d late = refl

later_section : (before : List Numbered) (n : Numbered) (m : Numbered) → In m before → section m.statement ≡ 10 → Each (λ e. section e ≤ section n.statement) (said_by before) → section n.statement ≡ 10
later_section (x ∷ before) n m (inl same) late each = let low : section m.statement ≤ section n.statement = subst (λ (y : Numbered). section y.statement ≤ section n.statement) (sym same) each.0 in let most = section_most n.statement in omega arith
later_section (x ∷ before) n m (inr h) late each = later_section before n m h late each.1
later_section [] n m h late each = absurd h

-- once a line of instructions has come, what follows declares nothing
no_more : (statements : List Numbered) (cards : List Card) (m : Numbered) → IsDescription statements → section m.statement ≡ 10 → (before after : List Numbered) → In m before → statements ≡ before ++ after
    → declarations (before ++ after) cards ≡ declarations before cards
no_more statements cards m described late before [] there parts = ap (λ lines. declarations lines cards) (append-nil before)
no_more statements cards m described late before (n ∷ after) there parts =
    let due = due_at statements before n after described parts in
    let own : section n.statement ≡ 10 = later_section before n m there late (earlier_sections (said_by before) n.statement due.late) in
    let split : before ++ n ∷ after ≡ (before ++ n ∷ []) ++ after = sym (append_assoc before (n ∷ []) after) in
    let rest = no_more statements cards m described late (before ++ n ∷ []) after (in_left m before (n ∷ []) there) (parts ∙ split) in
    ap (λ lines. declarations lines cards) split ∙ rest ∙ declared_grows statements cards before n after described parts ∙ nothing_declared cards n.line n.statement (declarations before cards) own

-- what lines declare is what the whole declares, where the next line is of an instruction
pub declared_by_then : (statements : List Numbered) (cards : List Card) (before : List Numbered) (n : Numbered) (after : List Numbered) → IsDescription statements → statements ≡ before ++ n ∷ after → section n.statement ≡ 10
    → declarations before cards ≡ declarations statements cards
declared_by_then statements cards before n after described parts late =
    let split : statements ≡ (before ++ n ∷ []) ++ after = parts ∙ sym (append_assoc before (n ∷ []) after) in
    let rest = no_more statements cards n described late (before ++ n ∷ []) after (in_right n before (n ∷ []) (inl refl)) split in
    sym (ap (λ lines. declarations lines cards) split ∙ rest ∙ declared_grows statements cards before n after described parts ∙ nothing_declared cards n.line n.statement (declarations before cards) late)

-- one more line of an instruction
each_after-append : {X Y : Type 0} (f : List X → X → Option Y) (earlier xs : List X) (x : X) → each_after f earlier (xs ++ x ∷ []) ≡ each_after f earlier xs ++ option_to_list (f (earlier ++ xs) x)
each_after-append f earlier [] x = append-nil (option_to_list (f earlier x)) ∙ ap (λ e. option_to_list (f e x)) (sym (append-nil earlier))
each_after-append f earlier (y ∷ xs) x =
    ap (λ ys. option_to_list (f earlier y) ++ ys) (each_after-append f (earlier ++ y ∷ []) xs x ∙ ap (λ e. each_after f (earlier ++ y ∷ []) xs ++ option_to_list (f e x)) (append_assoc earlier (y ∷ []) xs))
    ∙ sym (append_assoc (option_to_list (f earlier y)) (each_after f (earlier ++ y ∷ []) xs) (option_to_list (f (earlier ++ y ∷ xs) x)))

pub locals_push : (lines : List Numbered) (n : Numbered) → local_names (lines ++ n ∷ []) ≡ local_names lines ++ assigned_name n.statement
locals_push lines n = flat_map-append (λ (m : Numbered). assigned_name m.statement) lines (n ∷ []) ∙ ap (λ xs. local_names lines ++ xs) (append-nil (assigned_name n.statement))

pub micros_push : (cards : List Card) (design : Design) (fields : List Field) (lines : List Numbered) (n : Numbered)
    → micros_of cards design fields (lines ++ n ∷ []) ≡ micros_of cards design fields lines ++ option_to_list (micro_of cards design fields (local_names lines) n)
micros_push cards design fields lines n = each_after-append (λ earlier m. micro_of cards design fields (local_names earlier) m) [] lines n

widths_push : (design : Design) (fields : List Field) (micros : List Micro) (line stage : ℕ) (act : Option Act)
    → widths_of design fields (micros ++ option_to_list (option_map (λ a. record { line = line; stage = stage; act = a }) act))
    ≡ widths_of design fields micros ++ option_to_list (option_and_then (local_width design (widths_of design fields micros) fields) act)
widths_push design fields micros line stage None = ap (widths_of design fields) (append-nil micros) ∙ sym (append-nil (widths_of design fields micros))
widths_push design fields micros line stage (Some a) =
    fold_push (λ widths (m : Micro). widths ++ option_to_list (local_width design widths fields m.act)) [] micros (record { line = line; stage = stage; act = a })

-- the scope of these declarations and instructions
abbrev pub scope_of : List Card → Design → List Block → Scope
scope_of cards design blocks = record {
  design = design;
  instrs = map (λ (b : Block). b.name) blocks;
  fields = open_fields design blocks;
  locals = local_names (open_lines blocks);
  widths = widths_of design (open_fields design blocks) (micros_of cards design (open_fields design blocks) (open_lines blocks));
}

micro_grows : (cards : List Card) (design : Design) (blocks : List Block) (n : Numbered) → HasBegun blocks → scope_of cards design (with_line n blocks) ≡ with_micro cards (scope_of cards design blocks) n.statement
micro_grows cards design blocks n (b, rest, e) = subst (λ bs. scope_of cards design (with_line n bs) ≡ with_micro cards (scope_of cards design bs) n.statement) (sym e) here where
  fields : List Field
  fields = fields_named design b.format

  widths : widths_of design fields (micros_of cards design fields (b.lines ++ n ∷ [])) ≡ (with_micro cards (scope_of cards design (b ∷ rest)) n.statement).widths
  widths = ap (widths_of design fields) (micros_push cards design fields b.lines n)
      ∙ widths_push design fields (micros_of cards design fields b.lines) n.line _ (act_of cards design (arg_of fields (local_names b.lines)) n.statement)

  here : scope_of cards design (with_line n (b ∷ rest)) ≡ with_micro cards (scope_of cards design (b ∷ rest)) n.statement
  here = ap (λ ls. record { design = design; instrs = b.name ∷ map (λ (c : Block). c.name) rest; fields = fields; locals = ls; widths = widths_of design fields (micros_of cards design fields (b.lines ++ n ∷ [])) }) (locals_push b.lines n)
      ∙ ap (λ ws. record { design = design; instrs = b.name ∷ map (λ (c : Block). c.name) rest; fields = fields; locals = local_names b.lines ++ assigned_name n.statement; widths = ws }) widths

-- outside of instructions: where something is declared none has begun
outer_grows : (cards : List Card) (design : Design) (blocks : List Block) (n : Numbered) (statement : Statement) → is_micro statement ≡ false → (section statement < 10 → blocks ≡ [])
    → scope_of cards (with_declared cards n.line statement design) (begun n statement ++ blocks) ≡ with_outer cards (scope_of cards design blocks) n.line statement
outer_grows cards design blocks n (s.Instr name format fixed) outer none = refl
outer_grows cards design blocks n s.End outer none = refl
outer_grows cards design blocks n (s.Stages count) outer none = rw (none (omega arith)) refl
outer_grows cards design blocks n (s.Address bits) outer none = rw (none (omega arith)) refl
outer_grows cards design blocks n (s.Word bits) outer none = rw (none (omega arith)) refl
outer_grows cards design blocks n (s.Transfer stage slots) outer none = rw (none (omega arith)) refl
outer_grows cards design blocks n (s.Reg name width reset) outer none = rw (none (omega arith)) refl
outer_grows cards design blocks n (s.File name width cells reads writes) outer none = rw (none (omega arith)) refl
outer_grows cards design blocks n (s.Mem name address width) outer none = rw (none (omega arith)) refl
outer_grows cards design blocks n (s.In name width) outer none = rw (none (omega arith)) refl
outer_grows cards design blocks n (s.Unit name kind width) outer none = rw (none (omega arith)) refl
outer_grows cards design blocks n (s.Format name fields) outer none = rw (none (omega arith)) refl
outer_grows cards design blocks n _ outer none = absurd cc

pub below_ten : (before : List Statement) (statement : Statement) → section statement < 10 → Each (λ e. section e ≤ section statement) before → Each (λ e. section e < 10) before
below_ten [] statement low each = tt
below_ten (e ∷ before) statement low each = (let up : section e ≤ section statement = each.0 in omega arith, below_ten before statement low each.1)

pub micro_section : (statement : Statement) → is_micro statement ≡ true → section statement ≡ 10
micro_section statement micro = eqb-true (section statement) 10 (and_parts (section statement == 10) _ (and_parts _ _ micro).0).0

pub scope_grows : (statements : List Numbered) (cards : List Card) (before : List Numbered) (n : Numbered) (after : List Numbered) → IsDescription statements → statements ≡ before ++ n ∷ after
    → scope_after (before ++ n ∷ []) cards ≡ scope_with cards (scope_after before cards) n
scope_grows statements cards before n after described parts = go (is_micro n.statement) refl where
  due : IsDue (said_by before) n.statement
  due = due_at statements before n after described parts

  declared : declarations (before ++ n ∷ []) cards ≡ with_declared cards n.line n.statement (declarations before cards)
  declared = declared_grows statements cards before n after described parts

  blocks : blocks_of (before ++ n ∷ []) ≡ block_after (blocks_of before) n
  blocks = fold_push block_after [] before n

  after_one : scope_after (before ++ n ∷ []) cards ≡ scope_of cards (with_declared cards n.line n.statement (declarations before cards)) (block_after (blocks_of before) n)
  after_one = ap (λ d. scope_of cards d (blocks_of (before ++ n ∷ []))) declared ∙ ap (scope_of cards (with_declared cards n.line n.statement (declarations before cards))) blocks

  none : section n.statement < 10 → blocks_of before ≡ []
  none low = no_blocks before (below_ten (said_by before) n.statement low (earlier_sections (said_by before) n.statement due.late))

  go : (micro : Bool) → is_micro n.statement ≡ micro → scope_after (before ++ n ∷ []) cards ≡ scope_with cards (scope_after before cards) n
  go true micro =
      let same : with_declared cards n.line n.statement (declarations before cards) ≡ declarations before cards = nothing_declared cards n.line n.statement (declarations before cards) (micro_section n.statement micro) in
      after_one ∙ ap (λ d. scope_of cards d (block_after (blocks_of before) n)) same
      ∙ ap (λ m. scope_of cards (declarations before cards) (if m then with_line n (blocks_of before) else begun n n.statement ++ blocks_of before)) micro
      ∙ micro_grows cards (declarations before cards) (blocks_of before) n (micro_has_begun before n due micro)
      ∙ ap (λ m. if m then with_micro cards (scope_after before cards) n.statement else with_outer cards (scope_after before cards) n.line n.statement) (sym micro)
  go false outer =
      after_one
      ∙ ap (λ m. scope_of cards (with_declared cards n.line n.statement (declarations before cards)) (if m then with_line n (blocks_of before) else begun n n.statement ++ blocks_of before)) outer
      ∙ outer_grows cards (declarations before cards) (blocks_of before) n n.statement outer none
      ∙ ap (λ m. if m then with_micro cards (scope_after before cards) n.statement else with_outer cards (scope_after before cards) n.line n.statement) (sym outer)
