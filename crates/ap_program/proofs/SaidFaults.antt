-- The first fault of each sort of line.
use Rattle.std.proofs.Common.{◌≡◌, ℕ, ◌∷◌, ◌++◌, Bool, true, false, cond, List, Option, Some, None, refl, sym, ap, ◌∙◌}
use Rattle.std.specs.Prelude.{find, is_none, is_some, if◌then◌else◌}
use Rattle.std.specs.List.{list_any}
use Rattle.std.specs.Option.{option_or}
use Rattle.ap_desc.specs.declared.design.Design.{Design}
use Rattle.ap_program.specs.LineFaults.{all_kinds, first_call_fault, first_fault, first_slot_fault, has_unfit, has_wrong_count, is_bad_data, is_unknown, of_instr, said_fault}
use Rattle.ap_program.specs.Programs.{instr_named, is_label_named, is_slot_next}
use Rattle.ap_program.specs.Labels.{landing_among}
use Rattle.ap_program.specs.SoFar.{IsSoFar}
use Rattle.ap_program.specs.declared.so_far.SoFar.{SoFar}
use Rattle.ap_program.specs.declared.fault.AsmKind.{AsmKind}
use Rattle.ap_program.specs.declared.fault.AsmKind.TheVariants as kind
use Rattle.ap_program.specs.declared.statement.Call.{Call}
use Rattle.ap_program.specs.declared.statement.ProgramLine.{ProgramLine}
use Rattle.ap_program.specs.declared.statement.Statement.{Statement}
use Rattle.ap_program.specs.declared.statement.Statement.TheVariants as says

-- the first fault by what a line says
abbrev pub first_by : Design → List ProgramLine → List ProgramLine → List ProgramLine → Option Statement → Option AsmKind
first_by design all before after said = find (said_fault design all before after said) all_kinds

pub first_of : (design : Design) (before : List ProgramLine) (line : ProgramLine) (after : List ProgramLine) (said : Option Statement) → line.says ≡ said → first_by design (before ++ line ∷ after) before after said ≡ first_fault design before line after
first_of design before line after said e = ap (first_by design (before ++ line ∷ after) before after) (sym e)

pub of_nothing : (design : Design) (all before after : List ProgramLine) → first_by design all before after None ≡ Some kind.BadForm
of_nothing design all before after = refl

pub of_label : (design : Design) (all before after : List ProgramLine) (name : List ℕ)
    → first_by design all before after (Some (says.Label name)) ≡ (if list_any (is_label_named name) before then Some kind.LabelTwice else if is_slot_next after then Some kind.LabelInSlot else None)
of_label design all before after name = refl

pub of_instruction : (design : Design) (all before after : List ProgramLine) (call : Call) → first_by design all before after (Some (says.Instr call)) ≡ first_call_fault design all call
of_instruction design all before after call = refl

pub of_data : (design : Design) (all before after : List ProgramLine) (mem words : List ℕ) → first_by design all before after (Some (says.Data mem words)) ≡ (if is_bad_data design before (Some (says.Data mem words)) then Some kind.BadData else None)
of_data design all before after mem words = refl

after_four : {X : Type 0} (a b c d : Bool) (w x y z : X) (rest : Option X)
    → cond a (Some w) (cond b (Some x) (cond c (Some y) (cond d (Some z) rest))) ≡ option_or (cond a (Some w) (cond b (Some x) (cond c (Some y) (cond d (Some z) None)))) rest
after_four true b c d w x y z rest = refl
after_four false true c d w x y z rest = refl
after_four false false true d w x y z rest = refl
after_four false false false true w x y z rest = refl
after_four false false false false w x y z rest = refl

pub of_slot : (design : Design) (all before after : List ProgramLine) (call : Call) → first_by design all before after (Some (says.Slot call)) ≡ option_or (first_call_fault design all call) (first_slot_fault design before call)
of_slot design all before after call =
    after_four (is_none (instr_named design call.instr)) (list_any (is_unknown all) call.operands) (of_instr design (has_wrong_count design) call) (of_instr design (has_unfit design) call) kind.UnknownInstruction kind.UnknownLabel kind.OperandCount kind.FieldRange (first_slot_fault design before call)

-- the first fault of a line, by what it says
pub said_nothing : (design : Design) (before : List ProgramLine) (line : ProgramLine) (after : List ProgramLine) → line.says ≡ None → Some kind.BadForm ≡ first_fault design before line after
said_nothing design before line after e = first_of design before line after None e

pub said_label : (design : Design) (before : List ProgramLine) (line : ProgramLine) (after : List ProgramLine) (name : List ℕ) (so_far : SoFar) (slot_next : Bool) → line.says ≡ Some (says.Label name) → IsSoFar design before so_far → slot_next ≡ is_slot_next after
    → (if is_some (landing_among so_far.seen name) then Some kind.LabelTwice else if slot_next then Some kind.LabelInSlot else None) ≡ first_fault design before line after
said_label design before line after name so_far slot_next e h next =
    ap (λ b. if b then Some kind.LabelTwice else if slot_next then Some kind.LabelInSlot else None) (h.seen name)
    ∙ ap (λ b. if list_any (is_label_named name) before then Some kind.LabelTwice else if b then Some kind.LabelInSlot else None) next
    ∙ first_of design before line after (Some (says.Label name)) e

pub said_instr : (design : Design) (before : List ProgramLine) (line : ProgramLine) (after : List ProgramLine) (call : Call) → line.says ≡ Some (says.Instr call) → first_call_fault design (before ++ line ∷ after) call ≡ first_fault design before line after
said_instr design before line after call e = first_of design before line after (Some (says.Instr call)) e

pub said_slot : (design : Design) (before : List ProgramLine) (line : ProgramLine) (after : List ProgramLine) (call : Call) → line.says ≡ Some (says.Slot call)
    → option_or (first_call_fault design (before ++ line ∷ after) call) (first_slot_fault design before call) ≡ first_fault design before line after
said_slot design before line after call e = sym (of_slot design (before ++ line ∷ after) before after call) ∙ first_of design before line after (Some (says.Slot call)) e

pub said_data : (design : Design) (before : List ProgramLine) (line : ProgramLine) (after : List ProgramLine) (mem words : List ℕ) → line.says ≡ Some (says.Data mem words)
    → (if is_bad_data design before (Some (says.Data mem words)) then Some kind.BadData else None) ≡ first_fault design before line after
said_data design before line after mem words e = first_of design before line after (Some (says.Data mem words)) e
