-- What stands before a statement of a description: no later section, and an instruction where the statement is a line of one.
use Rattle.std.proofs.Common.{◌≡◌, ◌<◌, ◌≤◌, Bool, true, false, if◌then◌else◌, List, [], ◌∷◌, ◌++◌, map, fold, inl, inr, refl, sym, subst, ap, ◌∙◌, arith, append_assoc, append-nil}
use Rattle.std.specs.Prelude.{◌⊎◌, ◌&&◌, ◌||◌, not, nat_le, nat_lt}
use Rattle.std.specs.List.{AllByRecursion as Each, list_any}
use Rattle.std.proofs.lemmas.Bool.{and_parts, both_ways, leb-false, ltb-false, not-true, or_parts}
use Rattle.std.proofs.lemmas.List.{map-append}
use Rattle.ap_desc.specs.Descriptions.{IsDescription}
use Rattle.ap_desc.specs.Instructions.{Block, begun, block_after, blocks_of, with_line}
use Rattle.ap_desc.specs.Order.{are_in_order, inside_after, is_end, is_header, is_inside, is_late_for, is_micro, is_misplaced, is_one_too_many, is_out_of_order, section}
use Rattle.ap_desc.specs.declared.description.Numbered.{Numbered}
use Rattle.ap_desc.specs.declared.statement.Statement.{Statement}
use Rattle.ap_desc.specs.declared.statement.Statement.TheVariants as s

-- the statements of lines
abbrev pub said_by : List Numbered → List Statement
said_by lines = map (λ (n : Numbered). n.statement) lines

-- a statement stands where it is due after those before it
pub record IsDue (before : List Statement) (statement : Statement) : Type 0 where
  pub late : list_any (is_late_for statement) before ≡ false
  pub placed : is_misplaced (is_inside before) statement ≡ false
  pub few : is_one_too_many before statement ≡ false

order_at : (earlier before : List Statement) (statement : Statement) (after : List Statement) → are_in_order earlier (before ++ statement ∷ after) ≡ true → IsDue (earlier ++ before) statement
order_at earlier [] statement after e =
    let all = and_parts (not (is_out_of_order earlier statement) && not (is_one_too_many earlier statement)) (are_in_order (earlier ++ statement ∷ []) after) e in
    let two = and_parts (not (is_out_of_order earlier statement)) (not (is_one_too_many earlier statement)) all.0 in
    let due = or_parts (list_any (is_late_for statement) earlier) (is_misplaced (is_inside earlier) statement) (not-true (is_out_of_order earlier statement) two.0) in
    subst (λ xs. IsDue xs statement) (sym (append-nil earlier)) (record { late = due.0; placed = due.1; few = not-true (is_one_too_many earlier statement) two.1 })
order_at earlier (first ∷ before) statement after e =
    let all = and_parts (not (is_out_of_order earlier first) && not (is_one_too_many earlier first)) (are_in_order (earlier ++ first ∷ []) (before ++ statement ∷ after)) e in
    subst (λ xs. IsDue xs statement) (append_assoc earlier (first ∷ []) before) (order_at (earlier ++ first ∷ []) before statement after all.1)

pub due_at : (statements before : List Numbered) (n : Numbered) (after : List Numbered) → IsDescription statements → statements ≡ before ++ n ∷ after → IsDue (said_by before) n.statement
due_at statements before n after described parts =
    let split : said_by statements ≡ said_by before ++ n.statement ∷ said_by after = ap said_by parts ∙ map-append (λ (m : Numbered). m.statement) before (n ∷ after) in
    order_at [] (said_by before) n.statement (said_by after) (subst (λ xs. are_in_order [] xs ≡ true) split described.order)

-- no section is beyond that of instructions
pub section_most : (statement : Statement) → section statement ≤ 10
section_most (s.Stages count) = omega arith
section_most (s.Address bits) = omega arith
section_most (s.Word bits) = omega arith
section_most (s.Transfer stage slots) = omega arith
section_most (s.Reg name width reset) = omega arith
section_most (s.File name width cells reads writes) = omega arith
section_most (s.Mem name address width) = omega arith
section_most (s.In name width) = omega arith
section_most (s.Unit name kind width) = omega arith
section_most (s.Format name fields) = omega arith
section_most _ = omega arith

-- what stands before is of no later section, and of an earlier one where the statement is of the header
not_late : (statement earlier : Statement) → is_late_for statement earlier ≡ false → (section earlier ≤ section statement) × (is_header statement ≡ true → section earlier < section statement)
not_late statement earlier e = go (is_header statement) refl e where
  go : (b : Bool) → is_header statement ≡ b → (if b then nat_le (section statement) (section earlier) else nat_lt (section statement) (section earlier)) ≡ false
      → (section earlier ≤ section statement) × (is_header statement ≡ true → section earlier < section statement)
  go true header fails = let below : section earlier < section statement = leb-false (section statement) (section earlier) fails in (omega arith, λ h. below)
  go false header fails = (ltb-false (section statement) (section earlier) fails, λ h. absurd (both_ways (is_header statement) header h))

pub earlier_sections : (before : List Statement) (statement : Statement) → list_any (is_late_for statement) before ≡ false → Each (λ e. section e ≤ section statement) before
earlier_sections [] statement late = tt
earlier_sections (first ∷ before) statement late =
    let parts = or_parts (is_late_for statement first) (list_any (is_late_for statement) before) late in
    ((not_late statement first parts.0).0, earlier_sections before statement parts.1)

pub header_first : (before : List Statement) (statement : Statement) → list_any (is_late_for statement) before ≡ false → is_header statement ≡ true → Each (λ e. section e < section statement) before
header_first [] statement late header = tt
header_first (first ∷ before) statement late header =
    let parts = or_parts (is_late_for statement first) (list_any (is_late_for statement) before) late in
    ((not_late statement first parts.0).1 header, header_first before statement parts.1 header)

-- a statement of no instruction neither begins nor goes on with one
outside_instructions : (n : Numbered) (statement : Statement) → section statement < 10 → (is_micro statement ≡ false) × (begun n statement ≡ [])
outside_instructions n (s.Stages count) low = (refl, refl)
outside_instructions n (s.Address bits) low = (refl, refl)
outside_instructions n (s.Word bits) low = (refl, refl)
outside_instructions n (s.Transfer stage slots) low = (refl, refl)
outside_instructions n (s.Reg name width reset) low = (refl, refl)
outside_instructions n (s.File name width cells reads writes) low = (refl, refl)
outside_instructions n (s.Mem name address width) low = (refl, refl)
outside_instructions n (s.In name width) low = (refl, refl)
outside_instructions n (s.Unit name kind width) low = (refl, refl)
outside_instructions n (s.Format name fields) low = (refl, refl)
outside_instructions n _ low = absurd (omega arith)

pub no_blocks : (before : List Numbered) → Each (λ e. section e < 10) (said_by before) → blocks_of before ≡ []
no_blocks [] each = refl
no_blocks (n ∷ before) each =
    let out = outside_instructions n n.statement each.0 in
    let first : block_after [] n ≡ [] = ap (λ b. if b then with_line n [] else begun n n.statement ++ []) out.0 ∙ ap (λ bs. bs ++ []) out.1 in
    ap (λ bs. fold block_after bs before) first ∙ no_blocks before each.1

-- inside an instruction one has begun
abbrev pub HasBegun : List Block → Type 0
HasBegun blocks = (b : Block) × (rest : List Block) × (blocks ≡ b ∷ rest)

inside_or_begins : (n : Numbered) (inside : Bool) (statement : Statement) → inside_after inside statement ≡ true → (inside ≡ true) ⊎ ((is_micro statement ≡ false) × HasBegun (begun n statement))
inside_or_begins n inside (s.Instr name format fixed) e = inr (refl, (_, [], refl))
inside_or_begins n inside s.End e = absurd cc
inside_or_begins n inside _ e = inl e

begun_after : (n : Numbered) (blocks : List Block) → HasBegun blocks → HasBegun (block_after blocks n)
begun_after n blocks (b, rest, e) = go (is_micro n.statement) (begun n n.statement) where
  go : (micro : Bool) (new : List Block) → HasBegun (if micro then with_line n blocks else new ++ blocks)
  go true new = (record b { lines = b.lines ++ n ∷ [] }, rest, ap (with_line n) e)
  go false [] = (b, rest, e)
  go false (c ∷ new) = (c, new ++ blocks, refl)

inside_begun : (before : List Numbered) (inside : Bool) (blocks : List Block) → (inside ≡ true → HasBegun blocks) → fold inside_after inside (said_by before) ≡ true → HasBegun (fold block_after blocks before)
inside_begun [] inside blocks there e = there e
inside_begun (n ∷ before) inside blocks there e = inside_begun before (inside_after inside n.statement) (block_after blocks n) step e where
  new_one : (is_micro n.statement ≡ false) × HasBegun (begun n n.statement) → HasBegun (block_after blocks n)
  new_one (out, (b, rest, same)) = (b, rest ++ blocks, ap (λ c. if c then with_line n blocks else begun n n.statement ++ blocks) out ∙ ap (λ bs. bs ++ blocks) same)

  step : inside_after inside n.statement ≡ true → HasBegun (block_after blocks n)
  step now = elim (inside_or_begins n inside n.statement now) [ inl before_too ↦ begun_after n blocks (there before_too) | inr new ↦ new_one new ]

-- a line of an instruction stands inside one
inside_of : (inside : Bool) (statement : Statement) → is_misplaced inside statement ≡ false → is_micro statement ≡ true → inside ≡ true
inside_of true statement placed micro = refl
inside_of false statement placed micro =
    let here : (if is_micro statement || is_end statement then true else false) ≡ false = placed in
    let wrong : true ≡ false = rw micro at here in
    absurd cc

pub micro_has_begun : (before : List Numbered) (n : Numbered) → IsDue (said_by before) n.statement → is_micro n.statement ≡ true → HasBegun (blocks_of before)
micro_has_begun before n due micro = inside_begun before false [] (λ e. absurd cc) (inside_of (is_inside (said_by before)) n.statement due.placed micro)
