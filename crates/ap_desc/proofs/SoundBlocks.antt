-- The instructions of a description without fault, as its text has them: each of their lines has none in the scope of those before it.
use Rattle.std.proofs.Common.{◌≡◌, ℕ, suc, ◌≤◌, ◌+◌, Bool, true, false, cond, if◌then◌else◌, List, [], ◌∷◌, ◌++◌, map, length, inl, inr, refl, sym, subst, ap, ◌∙◌, arith, append_assoc, append-nil, length-append}
use Rattle.std.specs.Prelude.{◌⊎◌, ◌==◌, not}
use Rattle.std.specs.List.{AllByRecursion as Each, count_by, list_any}
use Rattle.std.proofs.lemmas.Bool.{and_from, and_parts, both_ways, cases_eq, eq-eqb, not-true, not_from_false, or_parts}
use Rattle.std.proofs.lemmas.List.{map-append}
use Rattle.std.proofs.lemmas.List.Sums.{fold_push, sum_by_push}
use Rattle.ap_bits.specs.declared.card.Card.{Card}
use Rattle.ap_desc.proofs.Growing.{declared_by_then, micro_section, scope_of}
use Rattle.ap_desc.proofs.InOrder.{HasBegun, IsDue, due_at, micro_has_begun, said_by}
use Rattle.ap_desc.proofs.SoundParts.{clear, clear_form, spelled_form}
use Rattle.ap_desc.proofs.Splits.{grow}
use Rattle.ap_desc.specs.Declarations.{declarations}
use Rattle.ap_desc.specs.Descriptions.{IsDescription}
use Rattle.ap_desc.specs.Designs.{widths_of}
use Rattle.ap_desc.specs.Instructions.{Block, begun, block_after, blocks_of, local_names, micros_of, with_line}
use Rattle.ap_desc.specs.Least.{HoldsNowhere}
use Rattle.ap_desc.specs.NameFaults.{is_missing}
use Rattle.ap_desc.specs.Order.{is_end, is_instr, is_micro, is_one_too_many, micro_count, micros_after, section}
use Rattle.ap_desc.specs.Parts.{fields_named, format_names, names_of_fields}
use Rattle.ap_desc.specs.Reserved.{is_among, is_free_name}
use Rattle.ap_desc.specs.Scope.{Scope, open_lines}
use Rattle.ap_desc.specs.Sound.{are_distinct}
use Rattle.ap_desc.specs.Spelling.{field_names}
use Rattle.ap_desc.specs.StatementFaults.{HasStatementFault, is_faulty}
use Rattle.ap_desc.specs.declared.description.Numbered.{Numbered}
use Rattle.ap_desc.specs.declared.design.Design.{Design}
use Rattle.ap_desc.specs.declared.design.Field.{Field}
use Rattle.ap_desc.specs.declared.fault.Fault.{Fault}
use Rattle.ap_desc.specs.declared.fault.Fault.TheVariants as f
use Rattle.ap_desc.specs.declared.statement.FieldNumber.{FieldNumber}
use Rattle.ap_desc.specs.declared.statement.Statement.{Statement}
use Rattle.ap_desc.specs.declared.statement.Statement.TheVariants as s

module _ (cards : List Card) (design : Design) where
  -- the scope within an instruction, after these lines of it
  abbrev pub scope_for : List (List ℕ) → List Field → List Numbered → Scope
  scope_for names fields earlier = record {
    design = design;
    instrs = names;
    fields = fields;
    locals = local_names earlier;
    widths = widths_of design fields (micros_of cards design fields earlier);
  }

  -- a line of an instruction has no fault after these lines of it, and is none too many
  pub record IsRightLine (fields : List Field) (earlier : List Numbered) (m : Numbered) : Type 0 where
    pub names : List (List ℕ)
    pub micro : is_micro m.statement ≡ true
    pub few : (length earlier == 64) ≡ false
    pub sound : (kind : Fault) → is_faulty cards (scope_for names fields earlier) m.statement kind ≡ false

  abbrev pub AreRightLines : List Field → List Numbered → List Numbered → Type 0
  AreRightLines fields earlier [] = Unit {0}
  AreRightLines fields earlier (m ∷ lines) = IsRightLine fields earlier m × AreRightLines fields (earlier ++ m ∷ []) lines

  lines_push : (fields : List Field) (earlier lines : List Numbered) (m : Numbered) → AreRightLines fields earlier lines → IsRightLine fields (earlier ++ lines) m → AreRightLines fields earlier (lines ++ m ∷ [])
  lines_push fields earlier [] m right one = (subst (λ e. IsRightLine fields e m) (append-nil earlier) one, tt)
  lines_push fields earlier (x ∷ lines) m right one = (right.0, lines_push fields (earlier ++ x ∷ []) lines m right.1 (subst (λ e. IsRightLine fields e m) (sym (append_assoc earlier (x ∷ []) lines)) one))

  -- an instruction whose format is declared, whose name may be used, and whose lines are right
  pub record IsRightBlock (block : Block) : Type 0 where
    pub format : is_missing block.format (format_names design) ≡ false
    pub free : is_free_name block.name ≡ true
    pub lines : AreRightLines (fields_named design block.format) [] block.lines

micro_few : (earlier : List Statement) (statement : Statement) → is_micro statement ≡ true → is_one_too_many earlier statement ≡ (micro_count earlier == 64)
micro_few earlier (s.Stages count) micro = absurd cc
micro_few earlier (s.Address bits) micro = absurd cc
micro_few earlier (s.Word bits) micro = absurd cc
micro_few earlier (s.Transfer stage slots) micro = absurd cc
micro_few earlier (s.Reg name width reset) micro = absurd cc
micro_few earlier (s.File name width cells reads writes) micro = absurd cc
micro_few earlier (s.Mem name address width) micro = absurd cc
micro_few earlier (s.In name width) micro = absurd cc
micro_few earlier (s.Unit name kind width) micro = absurd cc
micro_few earlier (s.Format name fields) micro = absurd cc
micro_few earlier (s.Instr name format fixed) micro = absurd cc
micro_few earlier s.End micro = absurd cc
micro_few earlier _ micro = refl

micro_no_instr : (statement : Statement) → is_micro statement ≡ true → is_instr statement ≡ false
micro_no_instr statement micro = not-true (is_instr statement) (and_parts (section statement == 10) (not (is_instr statement)) (and_parts _ (not (is_end statement)) micro).0).1

-- what isn't of an instruction begins one, or changes nothing of them
begins_or_not : (n : Numbered) (statement : Statement) → ((begun n statement ≡ []) × (is_instr statement ≡ false)) ⊎ ((name format : List ℕ) × (fixed : List FieldNumber) × (statement ≡ s.Instr name format fixed))
begins_or_not n (s.Instr name format fixed) = inr (name, format, fixed, refl)
begins_or_not n _ = inl (refl, refl)

module _ (statements : List Numbered) (cards : List Card) (described : IsDescription statements) (none : HoldsNowhere (HasStatementFault statements cards)) where
  abbrev whole : Design
  whole = declarations statements cards

  -- after these lines: the instructions are right, named once, and within their limits
  pub record Stands (before : List Numbered) (blocks : List Block) : Type 0 where
    pub right : Each (IsRightBlock cards whole) blocks
    pub once : are_distinct (map (λ (b : Block). b.name) blocks) ≡ true
    pub lines : micro_count (said_by before) ≡ length (open_lines blocks)
    pub counted : length blocks ≡ count_by is_instr (said_by before)
    pub few : length blocks ≤ 256

  more_said : (before : List Numbered) (n : Numbered) → said_by (before ++ n ∷ []) ≡ said_by before ++ n.statement ∷ []
  more_said before n = map-append (λ (m : Numbered). m.statement) before (n ∷ [])

  count_push : (before : List Numbered) (n : Numbered) → count_by is_instr (said_by (before ++ n ∷ [])) ≡ count_by is_instr (said_by before) + cond (is_instr n.statement) 1 0
  count_push before n = ap (count_by is_instr) (more_said before n) ∙ sum_by_push (λ x. cond (is_instr x) 1 0) (said_by before) n.statement

  micros_more : (before : List Numbered) (n : Numbered) → micro_count (said_by (before ++ n ∷ [])) ≡ micros_after (micro_count (said_by before)) n.statement
  micros_more before n = ap micro_count (more_said before n) ∙ fold_push micros_after 0 (said_by before) n.statement

  -- one more line of the instruction that began last
  stands_micro : (before : List Numbered) (n : Numbered) (after : List Numbered) (b : Block) (rest : List Block) → statements ≡ before ++ n ∷ after → is_micro n.statement ≡ true → blocks_of before ≡ b ∷ rest
      → Stands before (b ∷ rest) → Stands (before ++ n ∷ []) (record b { lines = b.lines ++ n ∷ [] } ∷ rest)
  stands_micro before n after b rest parts micro e st = record {
    right = (record { format = st.right.0.format; free = st.right.0.free; lines = lines_push cards whole (fields_named whole b.format) [] b.lines n st.right.0.lines line }, st.right.1);
    once = st.once;
    lines = micros_more before n ∙ more ∙ ap (λ k. k + 1) st.lines ∙ sym (length-append b.lines (n ∷ []));
    counted = st.counted ∙ sym (count_push before n ∙ ap (λ c. count_by is_instr (said_by before) + cond c 1 0) other ∙ plain);
    few = st.few;
  } where
    due : IsDue (said_by before) n.statement
    due = due_at statements before n after described parts

    other : is_instr n.statement ≡ false
    other = micro_no_instr n.statement micro

    plain : count_by is_instr (said_by before) + 0 ≡ count_by is_instr (said_by before)
    plain = omega arith

    more : micros_after (micro_count (said_by before)) n.statement ≡ micro_count (said_by before) + 1
    more = ap (λ c. if c then 0 else if is_micro n.statement then micro_count (said_by before) + 1 else micro_count (said_by before)) other ∙ ap (λ c. if c then micro_count (said_by before) + 1 else micro_count (said_by before)) micro

    same : declarations before cards ≡ whole
    same = declared_by_then statements cards before n after described parts (micro_section n.statement micro)

    line : IsRightLine cards whole (fields_named whole b.format) b.lines n
    line = record {
      names = map (λ (c : Block). c.name) (b ∷ rest);
      micro = micro;
      few = subst (λ k. (k == 64) ≡ false) st.lines (sym (micro_few (said_by before) n.statement micro) ∙ due.few);
      sound = λ kind. subst (λ bs. is_faulty cards (scope_of cards whole bs) n.statement kind ≡ false) e
          (subst (λ d. is_faulty cards (scope_of cards d (blocks_of before)) n.statement kind ≡ false) same (clear statements cards described none before n after parts kind));
    }

  stands_begun : (before : List Numbered) (n : Numbered) (after : List Numbered) (name format : List ℕ) (fixed : List FieldNumber) → statements ≡ before ++ n ∷ after → n.statement ≡ s.Instr name format fixed
      → Stands before (blocks_of before) → Stands (before ++ n ∷ []) (record { line = n.line; name = name; format = format; fixed = fixed; lines = [] } ∷ blocks_of before)
  stands_begun before n after name format fixed parts form st = record {
    right = (record { format = subst (λ d. is_missing format (format_names d) ≡ false) same known.0; free = free; lines = tt }, st.right);
    once = and_from (not (is_among name (map (λ (b : Block). b.name) (blocks_of before)))) (are_distinct (map (λ (b : Block). b.name) (blocks_of before)))
        (not_from_false (is_among name (map (λ (b : Block). b.name) (blocks_of before))) twice.0) st.once;
    lines = micros_more before n ∙ ap (micros_after (micro_count (said_by before))) form;
    counted = count;
    few = most (cases_eq (length (blocks_of before)) 256);
  } where
    same : declarations before cards ≡ whole
    same = declared_by_then statements cards before n after described parts (ap section form)

    known : (is_missing format (format_names (declarations before cards)) ≡ false) × (list_any (λ (x : FieldNumber). is_missing x.field (names_of_fields (fields_named (declarations before cards) format))) fixed ≡ false)
    known = or_parts (is_missing format (format_names (declarations before cards))) (list_any (λ (x : FieldNumber). is_missing x.field (names_of_fields (fields_named (declarations before cards) format))) fixed)
        (clear_form statements cards described none before n after (s.Instr name format fixed) parts form f.Unknown)

    twice : (is_among name (map (λ (b : Block). b.name) (blocks_of before)) ≡ false) × (not (are_distinct (field_names fixed)) ≡ false)
    twice = or_parts (is_among name (map (λ (b : Block). b.name) (blocks_of before))) (not (are_distinct (field_names fixed))) (clear_form statements cards described none before n after (s.Instr name format fixed) parts form f.Twice)

    free : is_free_name name ≡ true
    free = (and_parts (is_free_name name) _ (spelled_form statements cards described none before n after (s.Instr name format fixed) parts form).pieces).0

    count : suc (length (blocks_of before)) ≡ count_by is_instr (said_by (before ++ n ∷ []))
    count = let grown = count_push before n ∙ ap (λ x. count_by is_instr (said_by before) + cond (is_instr x) 1 0) form in let so_far = st.counted in omega arith

    full : (count_by is_instr (said_by before) == 256) ≡ false
    full = subst (λ x. is_one_too_many (said_by before) x ≡ false) form (due_at statements before n after described parts).few

    most : ((length (blocks_of before) ≡ 256) ⊎ (length (blocks_of before) ≡ 256 → ⊥)) → suc (length (blocks_of before)) ≤ 256
    most (inl at) = absurd (both_ways (count_by is_instr (said_by before) == 256) full (eq-eqb (count_by is_instr (said_by before)) 256 (sym st.counted ∙ at)))
    most (inr other) = let so_far = st.few in omega arith

  stands_same : (before : List Numbered) (n : Numbered) → is_micro n.statement ≡ false → is_instr n.statement ≡ false → Stands before (blocks_of before) → Stands (before ++ n ∷ []) (blocks_of before)
  stands_same before n outer other st = record {
    right = st.right;
    once = st.once;
    lines = micros_more before n ∙ ap (λ c. if c then 0 else if is_micro n.statement then micro_count (said_by before) + 1 else micro_count (said_by before)) other
        ∙ ap (λ c. if c then micro_count (said_by before) + 1 else micro_count (said_by before)) outer ∙ st.lines;
    counted = st.counted ∙ sym (count_push before n ∙ ap (λ c. count_by is_instr (said_by before) + cond c 1 0) other ∙ plain);
    few = st.few;
  } where
    plain : count_by is_instr (said_by before) + 0 ≡ count_by is_instr (said_by before)
    plain = omega arith

  stands_step : (before : List Numbered) (n : Numbered) (after : List Numbered) → statements ≡ before ++ n ∷ after → Stands before (blocks_of before) → Stands (before ++ n ∷ []) (blocks_of (before ++ n ∷ []))
  stands_step before n after parts st = subst (Stands (before ++ n ∷ [])) (sym (fold_push block_after [] before n)) (go (is_micro n.statement) refl) where
    line : (is_micro n.statement ≡ true) → HasBegun (blocks_of before) → Stands (before ++ n ∷ []) (with_line n (blocks_of before))
    line micro (b, rest, e) = subst (λ bs. Stands (before ++ n ∷ []) (with_line n bs)) (sym e) (stands_micro before n after b rest parts micro e (subst (Stands before) e st))

    outside : is_micro n.statement ≡ false → (((begun n n.statement ≡ []) × (is_instr n.statement ≡ false)) ⊎ ((name format : List ℕ) × (fixed : List FieldNumber) × (n.statement ≡ s.Instr name format fixed)))
        → Stands (before ++ n ∷ []) (begun n n.statement ++ blocks_of before)
    outside outer (inl (nothing, other)) = subst (λ bs. Stands (before ++ n ∷ []) (bs ++ blocks_of before)) (sym nothing) (stands_same before n outer other st)
    outside outer (inr (name, format, fixed, form)) =
        subst (λ x. Stands (before ++ n ∷ []) (begun n x ++ blocks_of before)) (sym form) (stands_begun before n after name format fixed parts form st)

    go : (micro : Bool) → is_micro n.statement ≡ micro → Stands (before ++ n ∷ []) (if is_micro n.statement then with_line n (blocks_of before) else begun n n.statement ++ blocks_of before)
    go true micro = subst (λ c. Stands (before ++ n ∷ []) (if c then with_line n (blocks_of before) else begun n n.statement ++ blocks_of before)) (sym micro)
        (line micro (micro_has_begun before n (due_at statements before n after described parts) micro))
    go false outer = subst (λ c. Stands (before ++ n ∷ []) (if c then with_line n (blocks_of before) else begun n n.statement ++ blocks_of before)) (sym outer) (outside outer (begins_or_not n n.statement))

  pub all_stands : Stands statements (blocks_of statements)
  all_stands = grow (λ lines. Stands lines (blocks_of lines)) [] statements stands_step (record { right = tt; once = refl; lines = refl; counted = refl; few = omega arith })
