-- What statements outside of instructions add to the design.
use Rattle.std.proofs.Common.{◌≡◌, ℕ, ◌≤◌, not, nat_le, Bool, true, false, List, [], ◌∷◌, ◌++◌, Some, None, Ok, Err, refl, sym, ap, subst, ◌∙◌, leb-true}
use Rattle.std.specs.Prelude.{if◌then◌else◌, Result, MatchResult}
use Rattle.std.proofs.lemmas.Bool.{and_parts}
use Rattle.std.proofs.lemmas.List.Sums.{fold_push}
use Rattle.ap_bits.specs.declared.card.Card.{Card}
use Rattle.ap_desc.specs.declared.description.Numbered.{Numbered}
use Rattle.ap_desc.specs.declared.design.Design.{Design}
use Rattle.ap_desc.specs.declared.design.Instr.{Instr}
use Rattle.ap_desc.specs.declared.statement.Statement.{Statement}
use Rattle.ap_desc.specs.declared.statement.Statement.TheVariants as s
use Rattle.ap_desc.specs.declared.fault.Fault.TheVariants as f
use Rattle.ap_desc.specs.Declarations.{declarations}
use Rattle.ap_desc.specs.Designs as designs
use Rattle.ap_desc.specs.Instructions.{Block, begun, block_after, blocks_of, with_line}
use Rattle.ap_desc.specs.Order.{is_instr, is_micro}
use Rattle.ap_desc.specs.Scope.{Scope, scope_after, with_declared}
use Rattle.ap_check.specs.Drafts.{IsSaid, outside, width_fault}
use Rattle.ap_check.specs.Known.{Describes, IsSplit}
use Rattle.ap_check.specs.Uses.{IsStoppedBy}
use Rattle.ap_check.specs.declared.draft.Draft.{Draft}
use Rattle.ap_check.specs.declared.stop.Stop.{Stop}
use Rattle.ap_check.proofs.FirstFaults.{not_broken, range_first}

abbrev bare : Design → Design
bare design = record design { instrs = [] }

-- the faults of a statement outside of instructions look at declarations only
pub outer_same : (cards : List Card) (scope : Scope) (design : Design) (statement : Statement) → is_micro statement ≡ false → bare design ≡ scope.design → width_fault cards (outside design) statement ≡ width_fault cards scope statement
outer_same cards scope design (s.Stages count) outer e = refl
outer_same cards scope design (s.Address bits) outer e = refl
outer_same cards scope design (s.Word bits) outer e = refl
outer_same cards scope design (s.Transfer stage slots) outer e = ap (λ (d : Design). width_fault cards (outside d) (s.Transfer stage slots)) e
outer_same cards scope design (s.Reg name width reset) outer e = refl
outer_same cards scope design (s.File name width cells reads writes) outer e = refl
outer_same cards scope design (s.Mem name address width) outer e = refl
outer_same cards scope design (s.In name width) outer e = refl
outer_same cards scope design (s.Unit name kind width) outer e = refl
outer_same cards scope design (s.Format name fields) outer e = ap (λ (d : Design). width_fault cards (outside d) (s.Format name fields)) e
outer_same cards scope design (s.Instr name format fixed) outer e = refl
outer_same cards scope design s.End outer e = refl
outer_same cards scope design _ outer e = absurd cc

-- a statement declares the same beside instructions, and leaves them
pub declared_beside : (cards : List Card) (line : ℕ) (statement : Statement) (design : Design) → bare (with_declared cards line statement design) ≡ with_declared cards line statement (bare design)
declared_beside cards line (s.Stages count) design = refl
declared_beside cards line (s.Address bits) design = refl
declared_beside cards line (s.Word bits) design = refl
declared_beside cards line (s.Transfer stage slots) design = refl
declared_beside cards line (s.Reg name width reset) design = refl
declared_beside cards line (s.File name width cells reads writes) design = refl
declared_beside cards line (s.Mem name address width) design = refl
declared_beside cards line (s.In name width) design = refl
declared_beside cards line (s.Unit name kind width) design = refl
declared_beside cards line (s.Format name fields) design = refl
declared_beside cards line _ design = refl

pub instrs_left : (cards : List Card) (line : ℕ) (statement : Statement) (design : Design) → (with_declared cards line statement design).instrs ≡ design.instrs
instrs_left cards line (s.Stages count) design = refl
instrs_left cards line (s.Address bits) design = refl
instrs_left cards line (s.Word bits) design = refl
instrs_left cards line (s.Transfer stage slots) design = refl
instrs_left cards line (s.Reg name width reset) design = refl
instrs_left cards line (s.File name width cells reads writes) design = refl
instrs_left cards line (s.Mem name address width) design = refl
instrs_left cards line (s.In name width) design = refl
instrs_left cards line (s.Unit name kind width) design = refl
instrs_left cards line (s.Format name fields) design = refl
instrs_left cards line _ design = refl

-- the blocks with one more statement
pub blocks_push : (before : List Numbered) (n : Numbered) → blocks_of (before ++ n ∷ []) ≡ block_after (blocks_of before) n
blocks_push before n = fold_push block_after [] before n

-- a statement that declares keeps the word within 64 bits
word_kept : (cards : List Card) (line : ℕ) (statement : Statement) (design : Design) → width_fault cards (outside design) statement ≡ None → design.word ≤ 64 → (with_declared cards line statement design).word ≤ 64
word_kept cards line (s.Word bits) design none small = go (designs.is_word_width bits) refl where
  go : (b : Bool) → designs.is_word_width bits ≡ b → bits ≤ 64
  go true e = leb-true bits 64 (and_parts (nat_le 8 bits) (nat_le bits 64) e).1
  go false e =
      let wrong : width_fault cards (outside design) (s.Word bits) ≡ Some f.Range = range_first (not (designs.is_word_width bits)) false false false false false false (not_broken (designs.is_word_width bits) e) in
      absurd (let no : Some f.Range ≡ None = sym wrong ∙ none in cc)
word_kept cards line (s.Stages count) design none small = small
word_kept cards line (s.Address bits) design none small = small
word_kept cards line (s.Transfer stage slots) design none small = small
word_kept cards line (s.Reg name width reset) design none small = small
word_kept cards line (s.File name width cells reads writes) design none small = small
word_kept cards line (s.Mem name address width) design none small = small
word_kept cards line (s.In name width) design none small = small
word_kept cards line (s.Unit name kind width) design none small = small
word_kept cards line (s.Format name fields) design none small = small
word_kept cards line _ design none small = small

-- no instruction begins or goes on
blocks_kept : (blocks : List Block) (n : Numbered) (statement : Statement) → is_micro statement ≡ false → is_instr statement ≡ false → (if is_micro statement then with_line n blocks else begun n statement ++ blocks) ≡ blocks
blocks_kept blocks n (s.Stages count) outer plain = refl
blocks_kept blocks n (s.Address bits) outer plain = refl
blocks_kept blocks n (s.Word bits) outer plain = refl
blocks_kept blocks n (s.Transfer stage slots) outer plain = refl
blocks_kept blocks n (s.Reg name width reset) outer plain = refl
blocks_kept blocks n (s.File name width cells reads writes) outer plain = refl
blocks_kept blocks n (s.Mem name address width) outer plain = refl
blocks_kept blocks n (s.In name width) outer plain = refl
blocks_kept blocks n (s.Unit name kind width) outer plain = refl
blocks_kept blocks n (s.Format name fields) outer plain = refl
blocks_kept blocks n s.End outer plain = refl
blocks_kept blocks n (s.Instr name format fixed) outer plain = absurd cc
blocks_kept blocks n _ outer plain = absurd cc

-- what the draft step of a statement outside of instructions shows
abbrev pub IsStepped : List Card → List Numbered → List Numbered → Numbered → Draft → Result (Unit {0}) Stop → Type 0
IsStepped cards statements before n new result = MatchResult result
    (λ _. (width_fault cards (scope_after before cards) n.statement ≡ None) × Describes cards statements (before ++ n ∷ []) new)
    (IsStoppedBy (width_fault cards (scope_after before cards) n.statement))

pub outer_step : (cards : List Card) (statements before : List Numbered) (n : Numbered) (old new : Draft) (result : Result (Unit {0}) Stop) → is_micro n.statement ≡ false → is_instr n.statement ≡ false
    → declarations (before ++ n ∷ []) cards ≡ with_declared cards n.line n.statement (declarations before cards)
    → Describes cards statements before old → IsSaid cards n.line old n.statement new result → IsStepped cards statements before n new result
outer_step cards statements before n old new (Ok done) outer plain law knows said =
    let same = outer_same cards (scope_after before cards) old.design n.statement outer knows.declares in (
      sym same ∙ said.0,
      record {
        declares = ap (λ (d : Draft). bare d.design) said.1 ∙ declared_beside cards n.line n.statement old.design ∙ ap (with_declared cards n.line n.statement) knows.declares ∙ sym law;
        split =
            let blocks : blocks_of (before ++ n ∷ []) ≡ blocks_of before = blocks_push before n ∙ blocks_kept (blocks_of before) n n.statement outer plain in
            let closed : new.design.instrs ≡ old.design.instrs = ap (λ (d : Draft). d.design.instrs) said.1 ∙ instrs_left cards n.line n.statement old.design in
            let open_one : new.begun ≡ old.begun = ap (λ (d : Draft). d.begun) said.1 in
            subst (λ bs. IsSplit cards (declarations statements cards) bs new.design.instrs new.begun) (sym blocks)
            (subst (λ is. IsSplit cards (declarations statements cards) (blocks_of before) is new.begun) (sym closed)
            (subst (λ o. IsSplit cards (declarations statements cards) (blocks_of before) old.design.instrs o) (sym open_one) knows.split));
        narrow = subst (λ (d : Draft). d.design.word ≤ 64) (sym said.1) (word_kept cards n.line n.statement old.design said.0 knows.narrow);
      },
    )
outer_step cards statements before n old new (Err why) outer plain law knows said =
    subst (λ fault. IsStoppedBy fault why) (outer_same cards (scope_after before cards) old.design n.statement outer knows.declares) said
