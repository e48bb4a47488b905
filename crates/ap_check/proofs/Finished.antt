-- What is known after all statements.
use Rattle.std.proofs.Common.{◌≡◌, ℕ, ◌+◌, ◌<◌, ◌≤◌, List, [], ◌∷◌, ◌++◌, length, take, drop, get_or, map, Some, None, Ok, Err, refl, sym, ap, subst, ◌∙◌, append_assoc}
use Rattle.std.specs.Prelude.{IfErr, IfOk, OnOk, Result, reverse}
use Rattle.std.proofs.lemmas.List.{take-append-drop, take_all, take_more}
use Rattle.ap_bits.specs.declared.card.Card.{Card}
use Rattle.ap_desc.specs.declared.description.Numbered.{Numbered}
use Rattle.ap_desc.specs.declared.design.Design.{Design}
use Rattle.ap_desc.specs.declared.fault.DescFault.{DescFault}
use Rattle.ap_desc.specs.declared.fault.DescFault.TheVariants.{Refused, NoMemory}
use Rattle.ap_desc.specs.declared.fault.Refusal.{Refusal}
use Rattle.ap_desc.specs.Descriptions.{IsDescription}
use Rattle.ap_desc.specs.Declarations.{declarations}
use Rattle.ap_desc.specs.DesignOf.{design_of}
use Rattle.ap_desc.specs.Instructions.{blocks_of, instr_of}
use Rattle.ap_desc.specs.Least.{HoldsNowhere, IsLeast}
use Rattle.ap_desc.specs.StatementFaults.{HasStatementFault}
use Rattle.ap_check.specs.Drafts.{completed}
use Rattle.ap_check.specs.Known.{HasFaultOf, IsNameFault, IsNoted, Knows}
use Rattle.ap_check.specs.Resolved.{IsResolvable, IsLineFault}
use Rattle.ap_check.specs.declared.environment.Environment.{Environment}
use Rattle.ap_check.proofs.DraftLines.{instrs_completed}
use Rattle.ap_check.proofs.Refused.{names_refused, none_refused, widths_refused}

-- an element of a list between those before it and those after it
pub parts_at : (items : List Numbered) (i : ℕ) (n : Numbered) → i < length items → n ≡ get_or items i n → (take (i + 1) items ≡ take i items ++ n ∷ []) × (items ≡ take i items ++ n ∷ drop (i + 1) items)
parts_at items i n lt at =
    let next : take (i + 1) items ≡ take i items ++ n ∷ [] = take_more items i n lt ∙ ap (λ (x : Numbered). take i items ++ x ∷ []) (sym at) in
    (next, sym (take-append-drop (i + 1) items) ∙ ap (λ l. l ++ drop (i + 1) items) next ∙ append_assoc (take i items) (n ∷ []) (drop (i + 1) items))

-- nothing is noted: no fault of names or widths, and the design is the one that the statements describe
pub finished_clean : (cards : List Card) (statements : List Numbered) (env : Environment) → Knows cards statements statements env → env.noted ≡ None → HoldsNowhere (HasStatementFault statements cards)
finished_clean cards statements env knows none = none_refused statements cards knows.clean (subst (IsNoted statements cards) none knows.noted)

pub finished_design : (cards : List Card) (statements : List Numbered) (env : Environment) → Knows cards statements statements env → env.noted ≡ None → completed env.draft ≡ design_of statements cards
finished_design cards statements env knows none =
    let describes = knows.describes none in
    ap (λ l. record env.draft.design { instrs = l }) (instrs_completed cards (declarations statements cards) (blocks_of statements) env.draft.design.instrs env.draft.begun describes.split)
    ∙ ap (λ (d : Design). record d { instrs = map (instr_of cards (declarations statements cards)) (reverse (blocks_of statements)) }) describes.declares

-- what is noted is the least fault of all
pub finished_refused : (cards : List Card) (statements : List Numbered) (env : Environment) (refusal : Refusal) → Knows cards statements statements env → env.noted ≡ Some refusal → IsLeast (HasStatementFault statements cards) refusal
finished_refused cards statements env refusal knows some = widths_refused statements cards refusal knows.clean (subst (IsNoted statements cards) some knows.noted)

-- all statements have come
pub all_known : (cards : List Card) (items : List Numbered) (i : ℕ) (env : Environment) → length items ≤ i → Knows cards items (take i items) env → Knows cards items items env
all_known cards items i env past knows = subst (λ (l : List Numbered). Knows cards items l env) (take_all i items past) knows

-- what the end answers
module _ (cards : List Card) (statements : List Numbered) (env : Environment) (knows : Knows cards statements statements env) where
  pub end_faultless : (r : Result Design DescFault) → OnOk r (env.noted ≡ None) → IfOk r (λ _. IsResolvable statements cards)
  end_faultless (Ok design) right = finished_clean cards statements env knows right
  end_faultless (Err why) right = tt

  pub end_design : (r : Result Design DescFault) → OnOk r (env.noted ≡ None) → IfOk r (λ design. design ≡ completed env.draft) → IfOk r (λ design. design ≡ design_of statements cards)
  end_design (Ok design) right made = made ∙ finished_design cards statements env knows right
  end_design (Err why) right made = tt

  pub end_refused : (r : Result Design DescFault) → IfErr r (λ fault. (refusal : Refusal) → fault ≡ Refused refusal → env.noted ≡ Some refusal) → IfErr r (IsLineFault statements cards)
  end_refused (Ok design) noted = tt
  end_refused (Err (Refused refusal)) noted = finished_refused cards statements env refusal knows (noted refusal refl)
  end_refused (Err NoMemory) noted = tt

  -- what holds of the design where no line has a fault holds of the one that is answered
  pub end_holds : (P : Design → Type 0) → (HoldsNowhere (HasStatementFault statements cards) → P (design_of statements cards)) → (r : Result Design DescFault) → OnOk r (env.noted ≡ None) → IfOk r (λ design. design ≡ completed env.draft) → IfOk r P
  end_holds P law (Ok design) right made = subst P (sym (made ∙ finished_design cards statements env knows right)) (law (finished_clean cards statements env knows right))
  end_holds P law (Err why) right made = tt

-- a statement with a fault of names ends the work
pub stopped_refused : (cards : List Card) (statements before : List Numbered) (n : Numbered) (after : List Numbered) (why : DescFault) → IsDescription statements → statements ≡ before ++ n ∷ after
    → HoldsNowhere (HasFaultOf before cards 2) → IsNameFault cards before n why → IsLineFault statements cards why
stopped_refused cards statements before n after (Refused refusal) described split clean fault = names_refused statements cards before n after refusal described split clean fault
stopped_refused cards statements before n after NoMemory described split clean fault = tt
