-- The faults of an instruction.
use Rattle.std.proofs.Common.{◌≡◌, ℕ, Bool, true, false, cond, not, Some, None, List, [], ◌∷◌, length, refl, sym, ap, ◌∙◌, ◌||◌}
use Rattle.std.specs.Prelude.{is_none, option_and_then, slice_get, zip, ◌==◌}
use Rattle.std.specs.List.{list_any}
use Rattle.std.specs.Option.{option_map_or}
use Rattle.std.proofs.lemmas.Bool.{cond-false, cond-true}
use Rattle.ap_desc.specs.declared.design.Design.{Design}
use Rattle.ap_desc.specs.declared.design.Instr.{Instr}
use Rattle.ap_program.specs.Labels.{is_unlisted, landing_among}
use Rattle.ap_program.specs.LineFaults.{first_call_fault, free_places, has_unfit, has_wrong_count, is_unknown, of_instr, pair_is_unfit}
use Rattle.ap_program.specs.Programs.{instr_named, landing_of}
use Rattle.ap_program.specs.declared.fault.AsmKind.TheVariants as kind
use Rattle.ap_program.specs.declared.statement.Call.{Call}
use Rattle.ap_program.specs.declared.statement.ProgramLine.{ProgramLine}
use Rattle.ap_program.specs.declared.statement.Written.{Written}
use Rattle.ap_program.specs.declared.statement.Written.TheVariants as written

-- the table has the labels of the lines
abbrev pub HasLabels : List (List ℕ × ℕ) → List ProgramLine → Type 0
HasLabels labels lines = (name : List ℕ) → landing_among labels name ≡ landing_of name lines

same_unknown : (labels : List (List ℕ × ℕ)) (lines : List ProgramLine) → HasLabels labels lines → (o : Written) → is_unlisted labels o ≡ is_unknown lines o
same_unknown labels lines h (written.Label name) = ap is_none (h name)
same_unknown labels lines h (written.Number v) = refl
same_unknown labels lines h (written.Minus v) = refl

any_same : {X : Type 0} (p q : X → Bool) (xs : List X) → ((x : X) → p x ≡ q x) → list_any p xs ≡ list_any q xs
any_same p q [] h = refl
any_same p q (x ∷ xs) h = ap (λ b. b || list_any p xs) (h x) ∙ ap (λ b. q x || b) (any_same p q xs h)

-- the faults of a known instruction
faults_of : (design : Design) (lines : List ProgramLine) (call : Call) (place : ℕ) (instr : Instr) → Some place ≡ instr_named design call.instr → slice_get design.instrs place ≡ Some instr
    → first_call_fault design lines call ≡ cond (list_any (is_unknown lines) call.operands) (Some kind.UnknownLabel) (cond (has_wrong_count design call instr) (Some kind.OperandCount) (cond (has_unfit design call instr) (Some kind.FieldRange) None))
faults_of design lines call place instr at there =
    cond-false (is_none (instr_named design call.instr)) (Some kind.UnknownInstruction) _ (ap is_none (sym at))
    ∙ ap (λ b. cond (list_any (is_unknown lines) call.operands) (Some kind.UnknownLabel) (cond b (Some kind.OperandCount) (cond (of_instr design (has_unfit design) call) (Some kind.FieldRange) None))) (found (has_wrong_count design))
    ∙ ap (λ b. cond (list_any (is_unknown lines) call.operands) (Some kind.UnknownLabel) (cond (has_wrong_count design call instr) (Some kind.OperandCount) (cond b (Some kind.FieldRange) None))) (found (has_unfit design))
  where
    found : (test : Call → Instr → Bool) → of_instr design test call ≡ test call instr
    found test = ap (λ o. option_map_or (test call) (option_and_then (slice_get design.instrs) o) false) (sym at) ∙ ap (λ o. option_map_or (test call) o false) there

pub call_unlisted : (design : Design) (labels : List (List ℕ × ℕ)) (lines : List ProgramLine) (call : Call) (place : ℕ) (instr : Instr) → HasLabels labels lines → Some place ≡ instr_named design call.instr → slice_get design.instrs place ≡ Some instr
    → list_any (is_unlisted labels) call.operands ≡ true → Some kind.UnknownLabel ≡ first_call_fault design lines call
call_unlisted design labels lines call place instr h at there e =
    sym (faults_of design lines call place instr at there ∙ cond-true (list_any (is_unknown lines) call.operands) (Some kind.UnknownLabel) _ (sym (any_same (is_unlisted labels) (is_unknown lines) call.operands (same_unknown labels lines h)) ∙ e))

known : (design : Design) (labels : List (List ℕ × ℕ)) (lines : List ProgramLine) (call : Call) (place : ℕ) (instr : Instr) → HasLabels labels lines → Some place ≡ instr_named design call.instr → slice_get design.instrs place ≡ Some instr
    → list_any (is_unlisted labels) call.operands ≡ false → first_call_fault design lines call ≡ cond (has_wrong_count design call instr) (Some kind.OperandCount) (cond (has_unfit design call instr) (Some kind.FieldRange) None)
known design labels lines call place instr h at there e =
    faults_of design lines call place instr at there ∙ cond-false (list_any (is_unknown lines) call.operands) (Some kind.UnknownLabel) _ (sym (any_same (is_unlisted labels) (is_unknown lines) call.operands (same_unknown labels lines h)) ∙ e)

pub call_count : (design : Design) (labels : List (List ℕ × ℕ)) (lines : List ProgramLine) (call : Call) (place : ℕ) (instr : Instr) → HasLabels labels lines → Some place ≡ instr_named design call.instr → slice_get design.instrs place ≡ Some instr
    → list_any (is_unlisted labels) call.operands ≡ false → (length call.operands == length (free_places design instr)) ≡ false → Some kind.OperandCount ≡ first_call_fault design lines call
call_count design labels lines call place instr h at there e count = sym (known design labels lines call place instr h at there e ∙ cond-true (has_wrong_count design call instr) (Some kind.OperandCount) _ (ap not count))

pub call_unfit : (design : Design) (labels : List (List ℕ × ℕ)) (lines : List ProgramLine) (call : Call) (place : ℕ) (instr : Instr) → HasLabels labels lines → Some place ≡ instr_named design call.instr → slice_get design.instrs place ≡ Some instr
    → list_any (is_unlisted labels) call.operands ≡ false → (length call.operands == length (free_places design instr)) ≡ true → list_any (pair_is_unfit design instr) (zip (free_places design instr) call.operands) ≡ true → Some kind.FieldRange ≡ first_call_fault design lines call
call_unfit design labels lines call place instr h at there e count unfit =
    sym (known design labels lines call place instr h at there e ∙ cond-false (has_wrong_count design call instr) (Some kind.OperandCount) _ (ap not count) ∙ cond-true (has_unfit design call instr) (Some kind.FieldRange) None unfit)

pub call_fine : (design : Design) (labels : List (List ℕ × ℕ)) (lines : List ProgramLine) (call : Call) (place : ℕ) (instr : Instr) → HasLabels labels lines → Some place ≡ instr_named design call.instr → slice_get design.instrs place ≡ Some instr
    → list_any (is_unlisted labels) call.operands ≡ false → (length call.operands == length (free_places design instr)) ≡ true → list_any (pair_is_unfit design instr) (zip (free_places design instr) call.operands) ≡ false → None ≡ first_call_fault design lines call
call_fine design labels lines call place instr h at there e count unfit =
    sym (known design labels lines call place instr h at there e ∙ cond-false (has_wrong_count design call instr) (Some kind.OperandCount) _ (ap not count) ∙ cond-false (has_unfit design call instr) (Some kind.FieldRange) None unfit)
