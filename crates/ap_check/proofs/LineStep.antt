-- What one more line of an instruction adds to a draft that describes the statements before it.
use Rattle.std.proofs.Common.{◌≡◌, ℕ, ◌+◌, ◌-◌, ◌<◌, ◌≤◌, true, not, nat_le, List, [], ◌∷◌, ◌++◌, Option, Some, None, option_map, Ok, Err, refl, sym, ap, subst, ◌∙◌, arith, leb-true}
use Rattle.std.specs.Prelude.{if◌then◌else◌, Result, MatchResult}
use Rattle.std.specs.Option.{option_map_or}
use Rattle.std.proofs.lemmas.Bool.{not-false, or_parts}
use Rattle.ap_bits.specs.declared.card.Card.{Card}
use Rattle.ap_desc.specs.declared.description.Numbered.{Numbered}
use Rattle.ap_desc.specs.declared.design.Act.{Act}
use Rattle.ap_desc.specs.declared.design.Act.TheVariants as act
use Rattle.ap_desc.specs.declared.design.Arg.{Arg}
use Rattle.ap_desc.specs.declared.design.Design.{Design}
use Rattle.ap_desc.specs.declared.design.Field.{Field}
use Rattle.ap_desc.specs.declared.design.Instr.{Instr}
use Rattle.ap_desc.specs.declared.design.Micro.{Micro}
use Rattle.ap_desc.specs.Declarations.{declarations}
use Rattle.ap_desc.specs.Designs.{arg_width, local_width, widths_of}
use Rattle.ap_desc.specs.Instructions.{Block, act_of, arg_of, begun, blocks_of, instr_of, local_names, micros_of, stage_of, with_line}
use Rattle.ap_desc.specs.NameFaults as n
use Rattle.ap_desc.specs.Order.{is_micro}
use Rattle.ap_desc.specs.Scope.{Scope, open_fields, open_lines, scope_after}
use Rattle.ap_desc.specs.WidthFaults as widths
use Rattle.ap_check.specs.Added.{IsLineAddedAs}
use Rattle.ap_check.specs.Drafts.{AreNarrow, draft_fields, draft_widths, instr_with, line_fault, local_in, width_fault, width_in, with_line as with_draft_line}
use Rattle.ap_check.specs.Known.{Describes, IsSplit}
use Rattle.ap_check.specs.Numbers.{narrowed, narrowed_act}
use Rattle.ap_check.specs.Uses.{IsStoppedBy}
use Rattle.ap_check.specs.declared.draft.Draft.{Draft}
use Rattle.ap_check.specs.declared.stop.Stop.{Stop}
use Rattle.ap_check.proofs.DraftLines.{fields_drafted, instr_grown, widths_drafted}
use Rattle.ap_check.proofs.KeptActs.{PortFits, kept_act, kept_stage, none_of_widths, slice_parts}
use Rattle.ap_check.proofs.LineFaults.{line_same, narrow_fault}
use Rattle.ap_check.proofs.LineSteps.{fault_at, fault_beside, local_beside, width_beside}
use Rattle.ap_check.proofs.Outer.{IsStepped, blocks_push}

-- the widths of operands in a draft are those of the scope
module _ (cards : List Card) (whole : Design) (blocks : List Block) (draft : Draft) (same : record draft.design { instrs = [] } ≡ whole) (split : IsSplit cards whole blocks draft.design.instrs draft.begun) where
  abbrev fields : List Field
  fields = open_fields whole blocks

  abbrev locals : List ℕ
  locals = widths_of whole fields (micros_of cards whole fields (open_lines blocks))

  fields_same : draft_fields draft ≡ fields
  fields_same = fields_drafted cards whole draft.design blocks draft.design.instrs draft.begun same split

  locals_same : draft_widths draft ≡ locals
  locals_same = widths_drafted cards whole blocks draft.design.instrs draft.begun split

  pub width_same : (x : Arg) → width_in draft x ≡ arg_width whole locals fields x
  width_same x =
      sym (width_beside draft.design [] (draft_widths draft) (draft_fields draft) x)
      ∙ ap (λ (d : Design). arg_width d (draft_widths draft) (draft_fields draft) x) same
      ∙ ap (λ ws. arg_width whole ws (draft_fields draft) x) locals_same ∙ ap (λ fs. arg_width whole locals fs x) fields_same

  pub fault_same : (stage : ℕ) (a : Act) → line_fault draft.design (width_in draft) stage a ≡ line_fault whole (arg_width whole locals fields) stage a
  fault_same stage a =
      sym (fault_beside draft.design [] stage (width_in draft) a) ∙ ap (λ (d : Design). line_fault d (width_in draft) stage a) same
      ∙ fault_at whole stage (width_in draft) (arg_width whole locals fields) width_same a

  pub local_same : (a : Act) → local_width draft.design (draft_widths draft) (draft_fields draft) a ≡ local_width whole locals fields a
  local_same a =
      sym (local_beside draft.design [] (draft_widths draft) (draft_fields draft) a) ∙ ap (λ (d : Design). local_width d (draft_widths draft) (draft_fields draft) a) same
      ∙ ap (λ ws. local_width whole ws (draft_fields draft) a) locals_same ∙ ap (λ fs. local_width whole locals fs a) fields_same

-- the width of a new local of a line without fault has 32 bits
local_kept : (draft : Draft) (stage : ℕ) (a : Act) → line_fault draft.design (width_in draft) stage a ≡ None → AreNarrow draft.design (width_in draft) a
    → local_in draft a ≡ local_width draft.design (draft_widths draft) (draft_fields draft) a
local_kept draft stage (act.Slice high low a) none narrow =
    let order = slice_parts high low (width_in draft a) (none_of_widths _ _ _ _ _ _ _ none).2 in
    let below : high < width_in draft a = order.1 in
    let kept : narrowed (high - low + 1) ≡ high - low + 1 = omega arith in
    ap Some kept
local_kept draft stage (act.Cat a b) none narrow =
    let fits : nat_le (width_in draft a + width_in draft b) 64 ≡ true = not-false (nat_le (width_in draft a + width_in draft b) 64) (or_parts _ (not (nat_le (width_in draft a + width_in draft b) 64)) (none_of_widths _ _ _ _ _ _ _ none).0).1 in
    let low : width_in draft a + width_in draft b ≤ 64 = leb-true (width_in draft a + width_in draft b) 64 fits in
    let kept : narrowed (width_in draft a + width_in draft b) ≡ width_in draft a + width_in draft b = omega arith in
    ap Some kept
local_kept draft stage _ none narrow = refl

-- the instruction that began last, with the line
split_grown : (cards : List Card) (whole : Design) (blocks : List Block) (n : Numbered) (a : Act) (closed : List Instr) (begun : Option Instr) (width : Option ℕ)
    → act_of cards whole (arg_of (open_fields whole blocks) (local_names (open_lines blocks))) n.statement ≡ Some a
    → width ≡ local_width whole (widths_of whole (open_fields whole blocks) (micros_of cards whole (open_fields whole blocks) (open_lines blocks))) (open_fields whole blocks) a
    → IsSplit cards whole blocks closed begun
    → IsSplit cards whole (with_line n blocks) closed (option_map (instr_with width (record { line = n.line; stage = stage_of n.statement; act = a })) begun)
split_grown cards whole [] n a closed None width e same h = h
split_grown cards whole [] n a closed (Some instr) width e same h = absurd h
split_grown cards whole (b ∷ blocks) n a closed None width e same h = absurd h
split_grown cards whole (b ∷ blocks) n a closed (Some instr) width e same h =
    let m : Micro = record { line = n.line; stage = stage_of n.statement; act = a } in
    (h.0, ap (instr_with width m) h.1 ∙ ap (λ o. instr_with o m (instr_of cards whole b)) same ∙ sym (instr_grown cards whole b n a e))

narrow_back : (design : Design) (width : Arg → ℕ) (a : Act) → AreNarrow design width (narrowed_act a) → AreNarrow design width a
narrow_back design width (act.Slice high low a) h = h
narrow_back design width (act.ReadFile file port index) h = h
narrow_back design width (act.WriteFile file port index value guard) h = h
narrow_back design width _ h = tt

port_beside : (design : Design) (a : Act) → PortFits (record design { instrs = [] }) a → PortFits design a
port_beside design (act.ReadFile file port index) h = h
port_beside design (act.WriteFile file port index value guard) h = h
port_beside design _ h = tt

-- `acted` is what the statement does, and the line's numbers are narrowed
pub line_step : (cards : List Card) (statements before : List Numbered) (n : Numbered) (a : Act) (old new : Draft) (result : Result (Unit {0}) Stop) → is_micro n.statement ≡ true
    → declarations (before ++ n ∷ []) cards ≡ declarations before cards
    → declarations before cards ≡ declarations statements cards
    → (let scope : Scope = scope_after before cards in act_of cards scope.design (arg_of scope.fields scope.locals) n.statement ≡ Some a)
    → PortFits (declarations before cards) a
    → Describes cards statements before old → IsLineAddedAs n.line old n.statement (narrowed_act a) new result
    → IsStepped cards statements before n new result
line_step cards statements before n a old new result micro law whole acted ports knows added = by result added.added where
  split : IsSplit cards (declarations before cards) (blocks_of before) old.design.instrs old.begun
  split = subst (λ (d : Design). IsSplit cards d (blocks_of before) old.design.instrs old.begun) (sym whole) knows.split

  -- the fault of the scope is that of the line
  fault : width_fault cards (scope_after before cards) n.statement ≡ line_fault old.design (width_in old) (stage_of n.statement) a
  fault = line_same cards (scope_after before cards) n.statement micro
      ∙ ap (λ o. option_map_or (line_fault (declarations before cards) (widths.width_in (scope_after before cards)) (stage_of n.statement)) o None) acted
      ∙ sym (fault_same cards (declarations before cards) (blocks_of before) old knows.declares split (stage_of n.statement) a)

  narrow : AreNarrow old.design (width_in old) a
  narrow = narrow_back old.design (width_in old) a added.narrow

  same_fault : line_fault old.design (width_in old) (stage_of n.statement) (narrowed_act a) ≡ line_fault old.design (width_in old) (stage_of n.statement) a
  same_fault = narrow_fault old.design (width_in old) (stage_of n.statement) a narrow

  by : (r : Result (Unit {0}) Stop) → MatchResult r
      (λ _. (line_fault old.design (width_in old) (stage_of n.statement) (narrowed_act a) ≡ None) × (new ≡ with_draft_line old (record { line = n.line; stage = narrowed (stage_of n.statement); act = narrowed_act a })))
      (IsStoppedBy (line_fault old.design (width_in old) (stage_of n.statement) (narrowed_act a)))
      → IsStepped cards statements before n new r
  by (Ok done) h =
      let none : line_fault old.design (width_in old) (stage_of n.statement) a ≡ None = sym same_fault ∙ h.0 in
      let here : PortFits old.design a = port_beside old.design a (subst (λ (d : Design). PortFits d a) (sym knows.declares) ports) in
      let act_kept : narrowed_act a ≡ a = kept_act old.design (width_in old) (stage_of n.statement) a none narrow here in
      let stage_kept : narrowed (stage_of n.statement) ≡ stage_of n.statement = kept_stage old.design (width_in old) (stage_of n.statement) a none added.stages in
      let made : new ≡ with_draft_line old (record { line = n.line; stage = stage_of n.statement; act = a }) =
      h.1 ∙ ap (λ (x : Act). with_draft_line old (record { line = n.line; stage = narrowed (stage_of n.statement); act = x })) act_kept
      ∙ ap (λ t. with_draft_line old (record { line = n.line; stage = t; act = a })) stage_kept in
      let blocks : blocks_of (before ++ n ∷ []) ≡ with_line n (blocks_of before) =
      blocks_push before n ∙ ap (λ m. if m then with_line n (blocks_of before) else begun n n.statement ++ blocks_of before) micro in
      let acts = subst (λ (d : Design). act_of cards d (arg_of (open_fields d (blocks_of before)) (local_names (open_lines (blocks_of before)))) n.statement ≡ Some a) whole acted in
      let width = local_kept old (stage_of n.statement) a none narrow ∙ local_same cards (declarations statements cards) (blocks_of before) old (knows.declares ∙ whole) knows.split a in (
        fault ∙ none,
        record {
          declares = ap (λ (d : Draft). record d.design { instrs = [] }) made ∙ knows.declares ∙ sym law;
          split =
              subst (λ bs. IsSplit cards (declarations statements cards) bs new.design.instrs new.begun) (sym blocks)
              (subst (λ (d : Draft). IsSplit cards (declarations statements cards) (with_line n (blocks_of before)) d.design.instrs d.begun) (sym made)
              (split_grown cards (declarations statements cards) (blocks_of before) n a old.design.instrs old.begun (local_in old a) acts width knows.split));
          narrow = subst (λ (d : Draft). d.design.word ≤ 64) (sym made) knows.narrow;
        },
      )
  by (Err why) h = subst (λ f. IsStoppedBy f why) (sym (fault ∙ sym same_fault)) h
