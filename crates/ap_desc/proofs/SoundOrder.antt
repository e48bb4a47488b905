-- The lines of a description's design: they rise as those of its text do.
use Rattle.std.proofs.Common.{◌≡◌, ℕ, ◌<◌, ◌≤◌, Bool, true, false, if◌then◌else◌, List, [], ◌∷◌, ◌++◌, map, reverse, None, is_some, inl, inr, refl, sym, subst, ap, ◌∙◌, arith, append_assoc, append-nil, flat_map}
use Rattle.std.specs.Prelude.{◌⊎◌, ◌==◌}
use Rattle.std.specs.List.{AllByRecursion as Each, cons_option}
use Rattle.std.proofs.lemmas.List.{map-append, reverse-append}
use Rattle.std.proofs.lemmas.List.Concat.{flat_map-append}
use Rattle.std.proofs.lemmas.List.Elements.{filter_map-append}
use Rattle.std.proofs.lemmas.List.Sums.{fold_push}
use Rattle.ap_desc.proofs.Growing.{below_ten, none_said}
use Rattle.ap_desc.proofs.InOrder.{HasBegun, IsDue, due_at, earlier_sections, micro_has_begun, no_blocks, said_by}
use Rattle.ap_desc.proofs.LineOrder.{rise_right}
use Rattle.ap_desc.proofs.Members.{In, in_left, in_right}
use Rattle.ap_desc.proofs.Splits.{first_said, grow}
use Rattle.ap_desc.specs.Declarations.{all_said_at, first_number, format_said, transfer_line_said}
use Rattle.ap_desc.specs.Descriptions.{IsDescription, RiseAbove}
use Rattle.ap_desc.specs.Designs.{Rise}
use Rattle.ap_desc.specs.Instructions.{Block, begun, block_after, blocks_of, with_line}
use Rattle.ap_desc.specs.Order.{has_section, is_micro, section}
use Rattle.ap_desc.specs.declared.description.Numbered.{Numbered}
use Rattle.ap_desc.specs.declared.design.Format.{Format}
use Rattle.ap_desc.specs.declared.statement.Statement.{Statement}
use Rattle.ap_desc.specs.declared.statement.Statement.TheVariants as s

-- the lines of an instruction
abbrev pub block_lines : Block → List ℕ
block_lines b = b.line ∷ map (λ (m : Numbered). m.line) b.lines

-- the lines of transfer, the formats and the instructions that these lines say
abbrev pub transfer_lines : List Numbered → List ℕ
transfer_lines lines = all_said_at transfer_line_said lines

abbrev pub format_lines : List Numbered → List ℕ
format_lines lines = map (λ (x : Format). x.line) (all_said_at format_said lines)

abbrev pub instr_lines : List Block → List ℕ
instr_lines blocks = flat_map block_lines (reverse blocks)

abbrev text_lines : List Numbered → List Block → List ℕ
text_lines lines blocks = transfer_lines lines ++ (format_lines lines ++ instr_lines blocks)

transfer_push : (before : List Numbered) (n : Numbered) → transfer_lines (before ++ n ∷ []) ≡ transfer_lines before ++ cons_option (transfer_line_said n.line n.statement) []
transfer_push before n = filter_map-append (λ (m : Numbered). transfer_line_said m.line m.statement) before (n ∷ [])

format_push : (before : List Numbered) (n : Numbered) → format_lines (before ++ n ∷ []) ≡ format_lines before ++ map (λ (x : Format). x.line) (cons_option (format_said n.line n.statement) [])
format_push before n =
    ap (map (λ (x : Format). x.line)) (filter_map-append (λ (m : Numbered). format_said m.line m.statement) before (n ∷ []))
    ∙ map-append (λ (x : Format). x.line) (all_said_at format_said before) (cons_option (format_said n.line n.statement) [])

instrs_push : (b : Block) (blocks : List Block) → instr_lines (b ∷ blocks) ≡ instr_lines blocks ++ block_lines b
instrs_push b blocks = ap (flat_map block_lines) (reverse-append (b ∷ []) blocks) ∙ flat_map-append block_lines (reverse blocks) (b ∷ []) ∙ ap (λ xs. instr_lines blocks ++ xs) (append-nil (block_lines b))

with_line_push : (n : Numbered) (b : Block) (rest : List Block) → instr_lines (with_line n (b ∷ rest)) ≡ instr_lines (b ∷ rest) ++ n.line ∷ []
with_line_push n b rest =
    instrs_push (record b { lines = b.lines ++ n ∷ [] }) rest
    ∙ ap (λ xs. instr_lines rest ++ (b.line ∷ xs)) (map-append (λ (m : Numbered). m.line) b.lines (n ∷ []))
    ∙ sym (append_assoc (instr_lines rest) (block_lines b) (n.line ∷ []))
    ∙ ap (λ xs. xs ++ n.line ∷ []) (sym (instrs_push b rest))

format_none : (line : ℕ) (statement : Statement) → section statement < 9 → format_said line statement ≡ None
format_none line (s.Format name fields) low = absurd (omega arith)
format_none line _ low = refl

-- each of these is the line of one of those
abbrev AreOf : List Numbered → List ℕ → Type 0
AreOf lines xs = Each (λ k. In k (map (λ (m : Numbered). m.line) lines)) xs

rise_push : (low : ℕ) (xs : List ℕ) (k : ℕ) → Rise low xs → low < k → Each (λ x. x < k) xs → Rise low (xs ++ k ∷ [])
rise_push low [] k rise below each = (below, tt)
rise_push low (x ∷ xs) k rise below each = (rise.0, rise_push x xs k rise.1 each.0 each.1)

earlier_lower : (low : ℕ) (before : List Numbered) (n : Numbered) (after : List Numbered) → RiseAbove low (before ++ n ∷ after) → (low < n.line) × ((k : ℕ) → In k (map (λ (m : Numbered). m.line) before) → k < n.line)
earlier_lower low [] n after rise = (rise.0, λ k h. absurd h)
earlier_lower low (m ∷ before) n after rise = step (earlier_lower m.line before n after rise.1) where
  step : ((m.line < n.line) × ((k : ℕ) → In k (map (λ (x : Numbered). x.line) before) → k < n.line)) → (low < n.line) × ((k : ℕ) → In k (map (λ (x : Numbered). x.line) (m ∷ before)) → k < n.line)
  step rest = (let above : low < m.line = rise.0 in let more : m.line < n.line = rest.0 in omega arith, there) where
    there : (k : ℕ) → In k (map (λ (x : Numbered). x.line) (m ∷ before)) → k < n.line
    there k (inl e) = subst (λ x. x < n.line) (sym e) rest.0
    there k (inr h) = rest.1 k h

-- a line of an instruction is neither a transfer nor a format
micro_says : (line : ℕ) (statement : Statement) → is_micro statement ≡ true → (transfer_line_said line statement ≡ None) × (format_said line statement ≡ None)
micro_says line (s.Transfer stage slots) micro = absurd cc
micro_says line (s.Format name fields) micro = absurd cc
micro_says line _ micro = (refl, refl)

transfer_there : (line : ℕ) (statement : Statement) → is_some (transfer_line_said line statement) ≡ (section statement == 3)
transfer_there line (s.Transfer stage slots) = refl
transfer_there line _ = refl

begun_push : (n : Numbered) (statement : Statement) (blocks : List Block) → instr_lines (begun n statement ++ blocks) ≡ instr_lines blocks ++ flat_map block_lines (begun n statement)
begun_push n (s.Instr name format fixed) blocks = instrs_push (record { line = n.line; name = name; format = format; fixed = fixed; lines = [] }) blocks
begun_push n _ blocks = sym (append-nil (instr_lines blocks))

-- the text's lines after a statement: the same, or one more
abbrev MoreOrSame : Numbered → List ℕ → List ℕ → Type 0
MoreOrSame n old new = (new ≡ old) ⊎ (new ≡ old ++ n.line ∷ [])

outer_lines : (n : Numbered) (statement : Statement) (t fs bs : List ℕ) → is_micro statement ≡ false → (section statement < 9 → fs ≡ []) → (section statement < 10 → bs ≡ [])
    → MoreOrSame n (t ++ (fs ++ bs)) ((t ++ cons_option (transfer_line_said n.line statement) []) ++ ((fs ++ map (λ (x : Format). x.line) (cons_option (format_said n.line statement) [])) ++ (bs ++ flat_map block_lines (begun n statement))))
outer_lines n (s.Transfer stage slots) t fs bs outer no_format no_block = inr (simp (no_format (omega arith), no_block (omega arith), append-nil))
outer_lines n (s.Format name fields) t fs bs outer no_format no_block = inr (simp (no_block (omega arith), append-nil, append_assoc))
outer_lines n (s.Instr name format fixed) t fs bs outer no_format no_block = inr (simp (append-nil, append_assoc))
outer_lines n _ t fs bs outer no_format no_block = inl (simp append-nil)

more_of : (before : List Numbered) (n : Numbered) (xs : List ℕ) → AreOf before xs → AreOf (before ++ n ∷ []) xs
more_of before n [] of = tt
more_of before n (x ∷ xs) of =
    (subst (In x) (sym (map-append (λ (m : Numbered). m.line) before (n ∷ []))) (in_left x (map (λ (m : Numbered). m.line) before) (n.line ∷ []) of.0), more_of before n xs of.1)

each_push : {X : Type 0} (P : X → Type 0) (xs : List X) (x : X) → Each P xs → P x → Each P (xs ++ x ∷ [])
each_push P [] x each p = (p, tt)
each_push P (y ∷ xs) x each p = (each.0, each_push P xs x each.1 p)

each_lower : (k : ℕ) (lines xs : List ℕ) → Each (λ x. In x lines) xs → ((x : ℕ) → In x lines → x < k) → Each (λ x. x < k) xs
each_lower k lines [] each low = tt
each_lower k lines (x ∷ xs) each low = (low x each.0, each_lower k lines xs each.1 low)

below_nine : (before : List Statement) (statement : Statement) → section statement < 9 → Each (λ e. section e ≤ section statement) before → Each (λ e. section e < 9) before
below_nine [] statement low each = tt
below_nine (e ∷ before) statement low each = (let up : section e ≤ section statement = each.0 in omega arith, below_nine before statement low each.1)

module _ (statements : List Numbered) (described : IsDescription statements) where
  -- the lines of the text so far rise, and are lines of it
  record Rises (before : List Numbered) (lines : List ℕ) : Type 0 where
    rise : Rise 0 lines
    of_text : AreOf before lines

  rises_on : (before : List Numbered) (n : Numbered) (after : List Numbered) (old new : List ℕ) → statements ≡ before ++ n ∷ after → MoreOrSame n old new → Rises before old → Rises (before ++ n ∷ []) new
  rises_on before n after old new parts (inl same) r = subst (Rises (before ++ n ∷ [])) (sym same) (record { rise = r.rise; of_text = more_of before n old r.of_text })
  rises_on before n after old new parts (inr more) r = subst (Rises (before ++ n ∷ [])) (sym more) (record {
    rise = rise_push 0 old n.line r.rise lower.0 (each_lower n.line (map (λ (m : Numbered). m.line) before) old r.of_text lower.1);
    of_text = each_push _ old n.line (more_of before n old r.of_text) own;
  }) where
    lower : (0 < n.line) × ((k : ℕ) → In k (map (λ (m : Numbered). m.line) before) → k < n.line)
    lower = earlier_lower 0 before n after (subst (RiseAbove 0) parts described.lines)

    own : In n.line (map (λ (m : Numbered). m.line) (before ++ n ∷ []))
    own = subst (In n.line) (sym (map-append (λ (m : Numbered). m.line) before (n ∷ []))) (in_right n.line (map (λ (m : Numbered). m.line) before) (n.line ∷ []) (inl refl))

  lines_grow : (before : List Numbered) (n : Numbered) (after : List Numbered) → statements ≡ before ++ n ∷ after → MoreOrSame n (text_lines before (blocks_of before)) (text_lines (before ++ n ∷ []) (blocks_of (before ++ n ∷ [])))
  lines_grow before n after parts = subst (λ bs. MoreOrSame n (text_lines before (blocks_of before)) (text_lines (before ++ n ∷ []) bs)) (sym (fold_push block_after [] before n)) (go (is_micro n.statement) refl) where
    due : IsDue (said_by before) n.statement
    due = due_at statements before n after described parts

    low : Each (λ e. section e ≤ section n.statement) (said_by before)
    low = earlier_sections (said_by before) n.statement due.late

    no_format : section n.statement < 9 → format_lines before ≡ []
    no_format below = ap (map (λ (x : Format). x.line)) (none_said (λ m. format_said m.line m.statement) 9 (λ m. format_none m.line m.statement) before (below_nine (said_by before) n.statement below low))

    no_block : section n.statement < 10 → instr_lines (blocks_of before) ≡ []
    no_block below = ap instr_lines (no_blocks before (below_ten (said_by before) n.statement below low))

    transfers : transfer_lines (before ++ n ∷ []) ≡ transfer_lines before ++ cons_option (transfer_line_said n.line n.statement) []
    transfers = transfer_push before n

    formats : format_lines (before ++ n ∷ []) ≡ format_lines before ++ map (λ (x : Format). x.line) (cons_option (format_said n.line n.statement) [])
    formats = format_push before n

    line : is_micro n.statement ≡ true → HasBegun (blocks_of before) → MoreOrSame n (text_lines before (blocks_of before)) (text_lines (before ++ n ∷ []) (with_line n (blocks_of before)))
    line micro (b, rest, e) =
        let says = micro_says n.line n.statement micro in
        let own = transfers ∙ ap (λ o. transfer_lines before ++ cons_option o []) says.0 ∙ append-nil (transfer_lines before) in
        let its = formats ∙ ap (λ o. format_lines before ++ map (λ (x : Format). x.line) (cons_option o [])) says.1 ∙ append-nil (format_lines before) in
        let more : instr_lines (with_line n (blocks_of before)) ≡ instr_lines (blocks_of before) ++ n.line ∷ [] =
        subst (λ bs. instr_lines (with_line n bs) ≡ instr_lines bs ++ n.line ∷ []) (sym e) (with_line_push n b rest) in
        inr (ap (λ t. t ++ (format_lines (before ++ n ∷ []) ++ instr_lines (with_line n (blocks_of before)))) own
        ∙ ap (λ fs. transfer_lines before ++ (fs ++ instr_lines (with_line n (blocks_of before)))) its
        ∙ ap (λ bs. transfer_lines before ++ (format_lines before ++ bs)) more
        ∙ ap (λ xs. transfer_lines before ++ xs) (sym (append_assoc (format_lines before) (instr_lines (blocks_of before)) (n.line ∷ [])))
        ∙ sym (append_assoc (transfer_lines before) (format_lines before ++ instr_lines (blocks_of before)) (n.line ∷ [])))

    outside : is_micro n.statement ≡ false → MoreOrSame n (text_lines before (blocks_of before)) (text_lines (before ++ n ∷ []) (begun n n.statement ++ blocks_of before))
    outside outer =
        subst (λ t. MoreOrSame n (text_lines before (blocks_of before)) (t ++ (format_lines (before ++ n ∷ []) ++ instr_lines (begun n n.statement ++ blocks_of before)))) (sym transfers)
        (subst (λ fs. MoreOrSame n (text_lines before (blocks_of before)) ((transfer_lines before ++ cons_option (transfer_line_said n.line n.statement) []) ++ (fs ++ instr_lines (begun n n.statement ++ blocks_of before)))) (sym formats)
        (subst (λ bs. MoreOrSame n (text_lines before (blocks_of before)) ((transfer_lines before ++ cons_option (transfer_line_said n.line n.statement) []) ++ ((format_lines before ++ map (λ (x : Format). x.line) (cons_option (format_said n.line n.statement) [])) ++ bs)))
        (sym (begun_push n n.statement (blocks_of before))) (outer_lines n n.statement (transfer_lines before) (format_lines before) (instr_lines (blocks_of before)) outer no_format no_block)))

    go : (micro : Bool) → is_micro n.statement ≡ micro → MoreOrSame n (text_lines before (blocks_of before)) (text_lines (before ++ n ∷ []) (if is_micro n.statement then with_line n (blocks_of before) else begun n n.statement ++ blocks_of before))
    go true micro = subst (λ c. MoreOrSame n (text_lines before (blocks_of before)) (text_lines (before ++ n ∷ []) (if c then with_line n (blocks_of before) else begun n n.statement ++ blocks_of before))) (sym micro)
        (line micro (micro_has_begun before n due micro))
    go false outer = subst (λ c. MoreOrSame n (text_lines before (blocks_of before)) (text_lines (before ++ n ∷ []) (if c then with_line n (blocks_of before) else begun n n.statement ++ blocks_of before))) (sym outer) (outside outer)

  text_rises : Rises statements (text_lines statements (blocks_of statements))
  text_rises = grow (λ lines. Rises lines (text_lines lines (blocks_of lines))) [] statements
      (λ before n after parts r. rises_on before n after (text_lines before (blocks_of before)) (text_lines (before ++ n ∷ []) (blocks_of (before ++ n ∷ []))) parts (lines_grow before n after parts) r)
      (record { rise = tt; of_text = tt })

  -- the lines of the design rise
  pub design_rises : has_section (said_by statements) 3 ≡ true → Rise 0 (first_number (transfer_lines statements) ∷ (format_lines statements ++ instr_lines (blocks_of statements)))
  design_rises there =
      let (x, rest, e) = first_said (λ n. transfer_line_said n.line n.statement) 3 (λ n. transfer_there n.line n.statement) statements there in
      let later = format_lines statements ++ instr_lines (blocks_of statements) in
      let whole : Rise 0 (x ∷ (rest ++ later)) = subst (λ t. Rise 0 (t ++ later)) e text_rises.rise in
      subst (λ t. Rise 0 (first_number t ∷ later)) (sym e) (whole.0, rise_right x rest later whole.1)
