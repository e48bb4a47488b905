-- The groups of a program without fault fit its design.
use Rattle.std.proofs.Common.{◌≡◌, ℕ, suc, ◌+◌, ◌≤◌, ◌||◌, Bool, true, false, List, [], ◌∷◌, ◌++◌, length, Option, Some, None, inl, inr, refl, sym, ap, subst, ◌∙◌, arith, append_assoc}
use Rattle.std.specs.Prelude.{is_none, is_some, option_map, slice_get, ◌==◌, if◌then◌else◌}
use Rattle.std.specs.List.{AllByRecursion as Each}
use Rattle.std.specs.Option.{option_map_or}
use Rattle.std.proofs.lemmas.Bool.{cases_Bool, cond-false, cond-true, false_from_ne_true, eqb-false}
use Rattle.ap_desc.specs.Clean.{IsClean}
use Rattle.ap_desc.specs.declared.design.Design.{Design}
use Rattle.ap_desc.specs.declared.design.Instr.{Instr}
use Rattle.ap_dist.specs.Places.{does_transfer, group_length}
use Rattle.ap_dist.specs.declared.source.Source.{Source}
use Rattle.ap_dist.specs.declared.source.SourceLine.{SourceLine}
use Rattle.ap_program.specs.Fits.{GroupFits, LineFits, SourceFits}
use Rattle.ap_program.specs.LineFaults.{AreFaultless, free_places, line_fault, said_fault}
use Rattle.ap_program.specs.Programs.{instr_by, instr_named, is_transfer_call, landing_of, slot_by, slots_after, slots_before}
use Rattle.ap_program.specs.Sources.{group_of, groups_from, slot_lines, source_line, source_of}
use Rattle.ap_program.specs.declared.fault.AsmKind.{AsmKind}
use Rattle.ap_program.specs.declared.fault.AsmKind.TheVariants as kind
use Rattle.ap_program.specs.declared.operands.FreeField.{FreeField}
use Rattle.ap_program.specs.declared.statement.Call.{Call}
use Rattle.ap_program.specs.declared.statement.ProgramLine.{ProgramLine}
use Rattle.ap_program.specs.declared.statement.Statement.{Statement}
use Rattle.ap_program.specs.declared.statement.Statement.TheVariants as says
use Rattle.ap_program.proofs.CountedLines.{slots_more}
use Rattle.ap_program.proofs.FieldWidths.{free_low}
use Rattle.ap_program.proofs.FittingLines.{call_fits, landing_within}

-- what is known of a program that is gone over
record IsRead (design : Design) (all : List ProgramLine) (groups : ℕ) : Type 0 where
  faultless : AreFaultless design all
  within : (name : List ℕ) (n : ℕ) → landing_of name all ≡ Some n → n ≤ groups
  wide : (place : ℕ) (instr : Instr) → slice_get design.instrs place ≡ Some instr → Each (λ (f : FreeField). 1 ≤ f.width) (free_places design instr)

-- no fault holds of a line of it
fine : (design : Design) (all : List ProgramLine) (groups : ℕ) → IsRead design all groups → (before : List ProgramLine) (line : ProgramLine) (rest : List ProgramLine) → all ≡ before ++ line ∷ rest → (said : Option Statement) → line.says ≡ said → (k : AsmKind)
    → said_fault design (before ++ line ∷ rest) before rest said k ≡ false
fine design all groups r before line rest e said is k =
    subst (λ s. said_fault design (before ++ line ∷ rest) before rest s k ≡ false) is
    (false_from_ne_true (line_fault design before line rest k) (λ holds. r.faultless k line.number (record { before = before; line = line; after = rest; among = e; at = refl; holds = holds })))

call_is_fit : (design : Design) (all : List ProgramLine) (groups : ℕ) → IsRead design all groups → (before : List ProgramLine) (line : ProgramLine) (rest : List ProgramLine) → all ≡ before ++ line ∷ rest → (call : Call) → line.says ≡ Some (says.Instr call) → LineFits design groups (source_line design all call)
call_is_fit design all groups r before line rest e call is =
    call_fits design groups all call r.within r.wide (fine design all groups r before line rest e (Some (says.Instr call)) is kind.UnknownInstruction)
    (fine design all groups r before line rest e (Some (says.Instr call)) is kind.OperandCount) (fine design all groups r before line rest e (Some (says.Instr call)) is kind.FieldRange)

slot_is_fit : (design : Design) (all : List ProgramLine) (groups : ℕ) → IsRead design all groups → (before : List ProgramLine) (line : ProgramLine) (rest : List ProgramLine) → all ≡ before ++ line ∷ rest → (call : Call) → line.says ≡ Some (says.Slot call) → LineFits design groups (source_line design all call)
slot_is_fit design all groups r before line rest e call is =
    call_fits design groups all call r.within r.wide (fine design all groups r before line rest e (Some (says.Slot call)) is kind.UnknownInstruction)
    (fine design all groups r before line rest e (Some (says.Slot call)) is kind.OperandCount) (fine design all groups r before line rest e (Some (says.Slot call)) is kind.FieldRange)

one_later : (all before : List ProgramLine) (line : ProgramLine) (rest : List ProgramLine) → all ≡ before ++ line ∷ rest → all ≡ (before ++ line ∷ []) ++ rest
one_later all before line rest e = e ∙ sym (append_assoc before (line ∷ []) rest)

-- so many slot lines stand there, and these fit
record SlotsFit (design : Design) (groups n : ℕ) (slots : List SourceLine) : Type 0 where
  each : Each (LineFits design groups) slots
  plain : Each (λ (line : SourceLine). does_transfer design line.instr ≡ false) slots
  few : n + length slots ≤ design.slots

plain_line : (design : Design) (all : List ProgramLine) (call : Call) → is_none (instr_named design call.instr) ≡ false → is_transfer_call design call ≡ false → does_transfer design (source_line design all call).instr ≡ false
plain_line design all call known e = by (instr_named design call.instr) refl
  where
    by : (o : Option ℕ) → instr_named design call.instr ≡ o → does_transfer design (source_line design all call).instr ≡ false
    by None at = absurd (let wrong : true ≡ false = sym (ap is_none at) ∙ known in cc)
    by (Some place) at = rw at (rw at at e)

-- the slot lines behind a transfer
slots_fit : (design : Design) (all : List ProgramLine) (groups : ℕ) → IsRead design all groups → (before rest : List ProgramLine) → all ≡ before ++ rest → (n : ℕ) → slots_before design before ≡ Some n → n ≤ design.slots → SlotsFit design groups n (slot_lines design all rest)
slots_fit design all groups r before [] e n at le = record { each = tt; plain = tt; few = omega arith }
slots_fit design all groups r before (line ∷ rest) e n at le = by line.says refl (λ m next_at next_le. slots_fit design all groups r (before ++ line ∷ []) rest (one_later all before line rest e) m next_at next_le)
  where
    next : (said : Option Statement) → line.says ≡ said → slots_before design (before ++ line ∷ []) ≡ option_map_or (λ call. if is_transfer_call design call then Some 0 else None) (instr_by said) (if is_some (slot_by said) then option_map suc (Some n) else if is_some said then Some n else None)
    next said is = slots_more design before line ∙ ap (λ s. slots_after design s line) at
        ∙ ap (λ s. option_map_or (λ call. if is_transfer_call design call then Some 0 else None) (instr_by s) (if is_some (slot_by s) then option_map suc (Some n) else if is_some s then Some n else None)) is

    by : (said : Option Statement) → line.says ≡ said → ((m : ℕ) → slots_before design (before ++ line ∷ []) ≡ Some m → m ≤ design.slots → SlotsFit design groups m (slot_lines design all rest)) → SlotsFit design groups n (slot_lines design all (line ∷ rest))
    by None is later = absurd (let wrong : true ≡ false = fine design all groups r before line rest e None is kind.BadForm in cc)
    by (Some (says.Instr call)) is later = rw is (record { each = tt; plain = tt; few = omega arith })
    by (Some (says.Label name)) is later = rw is (later n (next (Some (says.Label name)) is) le)
    by (Some (says.Data mem words)) is later = rw is (later n (next (Some (says.Data mem words)) is) le)
    by (Some (says.Slot call)) is later =
        let stray : (n == design.slots) ≡ false = sym (ap (λ s. option_map_or (λ slots. slots == design.slots) s true) at) ∙ fine design all groups r before line rest e (Some (says.Slot call)) is kind.TooManySlots in
        let less : suc n ≤ design.slots = (let ne = eqb-false n design.slots stray in omega arith) in
        let others = later (suc n) (next (Some (says.Slot call)) is) less in
        let known = fine design all groups r before line rest e (Some (says.Slot call)) is kind.UnknownInstruction in
        rw is (record {
          each = (slot_is_fit design all groups r before line rest e call is, others.each);
          plain = (plain_line design all call known (fine design all groups r before line rest e (Some (says.Slot call)) is kind.TransferInSlot), others.plain);
          few = (let few = others.few in omega arith);
        })

-- and there are none behind another instruction
no_slots : (design : Design) (all : List ProgramLine) (groups : ℕ) → IsRead design all groups → (before rest : List ProgramLine) → all ≡ before ++ rest → slots_before design before ≡ None → slot_lines design all rest ≡ []
no_slots design all groups r before [] e at = refl
no_slots design all groups r before (line ∷ rest) e at = by line.says refl (λ next_at. no_slots design all groups r (before ++ line ∷ []) rest (one_later all before line rest e) next_at)
  where
    next : (said : Option Statement) → line.says ≡ said → slots_before design (before ++ line ∷ []) ≡ option_map_or (λ call. if is_transfer_call design call then Some 0 else None) (instr_by said) (if is_some (slot_by said) then None else if is_some said then None else None)
    next said is = slots_more design before line ∙ ap (λ s. slots_after design s line) at
        ∙ ap (λ s. option_map_or (λ call. if is_transfer_call design call then Some 0 else None) (instr_by s) (if is_some (slot_by s) then None else if is_some s then None else None)) is

    by : (said : Option Statement) → line.says ≡ said → (slots_before design (before ++ line ∷ []) ≡ None → slot_lines design all rest ≡ []) → slot_lines design all (line ∷ rest) ≡ []
    by None is later = absurd (let wrong : true ≡ false = fine design all groups r before line rest e None is kind.BadForm in cc)
    by (Some (says.Instr call)) is later = rw is refl
    by (Some (says.Label name)) is later = rw is (later (next (Some (says.Label name)) is))
    by (Some (says.Data mem words)) is later = rw is (later (next (Some (says.Data mem words)) is))
    by (Some (says.Slot call)) is later = absurd (let wrong : true ≡ false = sym (ap (λ s. option_map_or (λ slots. slots == design.slots) s true) at) ∙ fine design all groups r before line rest e (Some (says.Slot call)) is kind.TooManySlots in cc)

-- the slots of a group
group_is_fit : (design : Design) (all : List ProgramLine) (groups : ℕ) → IsRead design all groups → (before : List ProgramLine) (line : ProgramLine) (rest : List ProgramLine) → all ≡ before ++ line ∷ rest → (labelled : Bool) (call : Call) → line.says ≡ Some (says.Instr call)
    → GroupFits design groups (group_of design all labelled rest call)
group_is_fit design all groups r before line rest e labelled call is = elim (cases_Bool (is_transfer_call design call)) [
  | inl hit ↦ (let some : slots_before design (before ++ line ∷ []) ≡ Some 0 = behind ∙ cond-true (is_transfer_call design call) (Some 0) None hit in
      let slots = slots_fit design all groups r (before ++ line ∷ []) rest (one_later all before line rest e) 0 some (omega arith) in
      let few = slots.few in
      let room : group_length design (group_of design all labelled rest call) ≡ design.slots + 1 = cond-true (does_transfer design (source_line design all call).instr) (design.slots + 1) 1 (transfers hit) in
      record { first = call_is_fit design all groups r before line rest e call is; slots = slots.each; room = omega (arith, room, few); plain = slots.plain })
  | inr miss ↦ (let none : slots_before design (before ++ line ∷ []) ≡ None = behind ∙ cond-false (is_transfer_call design call) (Some 0) None miss in
      let empty : slot_lines design all rest ≡ [] = no_slots design all groups r (before ++ line ∷ []) rest (one_later all before line rest e) none in
      let room : group_length design (group_of design all labelled rest call) ≡ 1 = cond-false (does_transfer design (source_line design all call).instr) (design.slots + 1) 1 (plain_line design all call known miss) in
      let zero_lines : length (slot_lines design all rest) ≡ 0 = ap length empty in
      record { first = call_is_fit design all groups r before line rest e call is; slots = rw empty tt; room = omega (arith, room, zero_lines); plain = rw empty tt })
]
  where
    known : is_none (instr_named design call.instr) ≡ false
    known = fine design all groups r before line rest e (Some (says.Instr call)) is kind.UnknownInstruction

    behind : slots_before design (before ++ line ∷ []) ≡ (if is_transfer_call design call then Some 0 else None)
    behind = slots_more design before line ∙ ap (λ s. option_map_or (λ c. if is_transfer_call design c then Some 0 else None) (instr_by s) (if is_some (slot_by s) then option_map suc (slots_before design before) else if is_some s then slots_before design before else None)) is

    transfers : is_transfer_call design call ≡ true → does_transfer design (source_line design all call).instr ≡ true
    transfers hit = by (instr_named design call.instr) refl
      where
        by : (o : Option ℕ) → instr_named design call.instr ≡ o → does_transfer design (source_line design all call).instr ≡ true
        by None at = absurd (let wrong : true ≡ false = sym (ap is_none at) ∙ known in cc)
        by (Some place) at = rw at (rw at at hit)

groups_fit : (design : Design) (all : List ProgramLine) (groups : ℕ) → IsRead design all groups → (before rest : List ProgramLine) → all ≡ before ++ rest → (labelled : Bool) → Each (GroupFits design groups) (groups_from design all labelled rest)
groups_fit design all groups r before [] e labelled = tt
groups_fit design all groups r before (line ∷ rest) e labelled = by line.says refl (λ lab. groups_fit design all groups r (before ++ line ∷ []) rest (one_later all before line rest e) lab)
  where
    by : (said : Option Statement) → line.says ≡ said → ((lab : Bool) → Each (GroupFits design groups) (groups_from design all lab rest)) → Each (GroupFits design groups) (groups_from design all labelled (line ∷ rest))
    by None is later = rw is (later (labelled || false))
    by (Some (says.Instr call)) is later = rw is (group_is_fit design all groups r before line rest e labelled call is, later false)
    by (Some (says.Label name)) is later = rw is (later (labelled || true))
    by (Some (says.Data mem words)) is later = rw is (later (labelled || false))
    by (Some (says.Slot call)) is later = rw is (later (labelled || false))

-- a program without fault fits
pub program_fits : (design : Design) → IsClean design → (all : List ProgramLine) → AreFaultless design all → SourceFits design (source_of design all)
program_fits design clean all faultless = record {
  groups = groups_fit design all (length (groups_from design all false all))
      (record { faultless = faultless; within = λ name n at. landing_within design all name false all n at; wide = λ place instr at. free_low design clean place instr at }) [] all refl false;
}

pub source_fits : (design : Design) → IsClean design → (lines : List ProgramLine) (source : Source) → source ≡ source_of design lines → AreFaultless design lines → SourceFits design source
source_fits design clean lines source e faultless = subst (SourceFits design) (sym e) (program_fits design clean lines faultless)
