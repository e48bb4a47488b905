-- A line without fault fits its instruction.
use Rattle.std.proofs.Common.{◌≡◌, ℕ, ◌+◌, ◌-◌, ◌^◌, ◌≤◌, ◌||◌, Bool, true, false, List, [], ◌∷◌, length, map, Option, Some, None, refl, sym, ap, ◌∙◌, arith}
use Rattle.std.specs.Prelude.{is_none, is_some, nat_lt, option_and_then, option_map, slice_get, unwrap_or, zip, if◌then◌else◌, ◌==◌}
use Rattle.std.specs.List.{AllByRecursion as Each, list_any}
use Rattle.std.specs.Option.{option_map_or}
use Rattle.std.specs.Str.{bytes_eq}
use Rattle.std.proofs.lemmas.Bool.{eqb-true, ltb-false, ltb-true, not-false, or_parts}
use Rattle.std.proofs.lemmas.List.{length-map}
use Rattle.std.proofs.lemmas.Nat.{mod_below, pow_pos}
use Rattle.std.proofs.lemmas.Option.{same_Some}
use Rattle.std.proofs.lemmas.Slice.Zip.{length-zip}
use Rattle.ap_desc.specs.declared.design.Design.{Design}
use Rattle.ap_desc.specs.declared.design.Instr.{Instr}
use Rattle.ap_enc.proofs.Places.{first_at}
use Rattle.ap_program.specs.Fits.{LineFits, OperandFits}
use Rattle.ap_program.specs.LineFaults.{free_places, has_unfit, has_wrong_count, is_index_field, is_unfit, of_instr, pair_is_unfit}
use Rattle.ap_program.specs.Programs.{instr_by, instr_named, is_label, is_label_named, landing_of}
use Rattle.ap_program.specs.Sources.{group_of, groups_from, operand_beside, operand_of, source_line}
use Rattle.ap_program.specs.declared.operands.FreeField.{FreeField}
use Rattle.ap_program.specs.declared.statement.Call.{Call}
use Rattle.ap_program.specs.declared.statement.ProgramLine.{ProgramLine}
use Rattle.ap_program.specs.declared.statement.Written.{Written}
use Rattle.ap_program.specs.declared.statement.Written.TheVariants as written

-- every label stands before a group, or behind the last one
pub landing_within : (design : Design) (all : List ProgramLine) (name : List ℕ) (labelled : Bool) (lines : List ProgramLine) (n : ℕ) → landing_of name lines ≡ Some n → n ≤ length (groups_from design all labelled lines)
landing_within design all name labelled [] n e = absurd cc
landing_within design all name labelled (line ∷ lines) n e =
    by (is_label_named name line) (instr_by line.says) (landing_of name lines) refl e (λ lab k at. landing_within design all name lab lines k at)
  where
    by : (named : Bool) (call : Option Call) (later : Option ℕ) → landing_of name lines ≡ later → (if named then Some 0 else option_map (λ k. (if is_some call then 1 else 0) + k) later) ≡ Some n
        → ((lab : Bool) (k : ℕ) → landing_of name lines ≡ Some k → k ≤ length (groups_from design all lab lines))
        → n ≤ length (option_map_or (λ c. group_of design all labelled lines c ∷ groups_from design all false lines) call (groups_from design all (labelled || is_label line) lines))
    by true call later at e rest = let zero_is : 0 ≡ n = same_Some 0 n e in omega arith
    by false call None at e rest = absurd cc
    by false None (Some k) at e rest = (let is : 0 + k ≡ n = same_Some (0 + k) n e in let le = rest (labelled || is_label line) k at in omega arith)
    by false (Some c) (Some k) at e rest = (let is : 1 + k ≡ n = same_Some (1 + k) n e in let le = rest false k at in omega arith)

cons_fit : (design : Design) (instr : Instr) (groups : ℕ) (all : List ProgramLine) → ((name : List ℕ) (n : ℕ) → landing_of name all ≡ Some n → n ≤ groups) → (field : FreeField) (o : Written) → 1 ≤ field.width → is_unfit design instr field o ≡ false
    → OperandFits design instr groups (field, operand_of all field.width o)
cons_fit design instr groups all within field (written.Number v) low e = ltb-true v (2 ^ field.width) (not-false (nat_lt v (2 ^ field.width)) e)
cons_fit design instr groups all within field (written.Minus v) low e = mod_below (2 ^ field.width - v) (2 ^ field.width) (pow_pos field.width)
cons_fit design instr groups all within field (written.Label name) low e =
    let both = or_parts (nat_lt field.width design.address) (is_index_field instr field.place) e in
    (there (landing_of name all) refl, ltb-false field.width design.address both.0, both.1)
  where
    there : (o : Option ℕ) → landing_of name all ≡ o → unwrap_or o 0 ≤ groups
    there None at = omega arith
    there (Some n) at = within name n at

all_fit : (design : Design) (instr : Instr) (groups : ℕ) (all : List ProgramLine) → ((name : List ℕ) (n : ℕ) → landing_of name all ≡ Some n → n ≤ groups) → (free : List FreeField) (os : List Written) → Each (λ (f : FreeField). 1 ≤ f.width) free
    → list_any (pair_is_unfit design instr) (zip free os) ≡ false → Each (OperandFits design instr groups) (zip free (map (operand_beside all) (zip free os)))
all_fit design instr groups all within [] os low e = tt
all_fit design instr groups all within (f ∷ free) [] low e = tt
all_fit design instr groups all within (f ∷ free) (o ∷ os) low e =
    let both = or_parts (is_unfit design instr f o) (list_any (pair_is_unfit design instr) (zip free os)) e in
    (cons_fit design instr groups all within f o low.0 both.0, all_fit design instr groups all within free os low.1 both.1)

-- a call without these faults fits its instruction
pub call_fits : (design : Design) (groups : ℕ) (all : List ProgramLine) (call : Call) → ((name : List ℕ) (n : ℕ) → landing_of name all ≡ Some n → n ≤ groups)
    → ((place : ℕ) (instr : Instr) → slice_get design.instrs place ≡ Some instr → Each (λ (f : FreeField). 1 ≤ f.width) (free_places design instr))
    → is_none (instr_named design call.instr) ≡ false → of_instr design (has_wrong_count design) call ≡ false → of_instr design (has_unfit design) call ≡ false → LineFits design groups (source_line design all call)
call_fits design groups all call within wide known count unfit = named (instr_named design call.instr) refl
  where
    found : (place : ℕ) (o : Option Instr) → instr_named design call.instr ≡ Some place → slice_get design.instrs place ≡ o → LineFits design groups (source_line design all call)
    found place None at none = absurd (let first = first_at (λ (i : Instr). bytes_eq i.name call.instr) design.instrs place at in let wrong : Some first.item ≡ None = sym first.is_there ∙ none in cc)
    found place (Some instr) at there =
        let is : option_and_then (slice_get design.instrs) (instr_named design call.instr) ≡ Some instr = ap (option_and_then (slice_get design.instrs)) at ∙ there in
        let same_count : length call.operands ≡ length (free_places design instr) = eqb-true (length call.operands) (length (free_places design instr)) (not-false (length call.operands == length (free_places design instr)) (sym (ap (λ o. option_map_or (has_wrong_count design call) o false) is) ∙ count)) in
        let fits : list_any (pair_is_unfit design instr) (zip (free_places design instr) call.operands) ≡ false = sym (ap (λ o. option_map_or (has_unfit design call) o false) is) ∙ unfit in
        let number : unwrap_or (instr_named design call.instr) 0 ≡ place = ap (λ o. unwrap_or o 0) at in
        let free : option_map_or (free_places design) (slice_get design.instrs (unwrap_or (instr_named design call.instr) 0)) [] ≡ free_places design instr = ap (λ p. option_map_or (free_places design) (slice_get design.instrs p) []) number ∙ ap (λ o. option_map_or (free_places design) o []) there in
        record {
          instr = instr;
          is_instr = ap (slice_get design.instrs) number ∙ there;
          count = ap (λ (fs : List FreeField). length (map (operand_beside all) (zip fs call.operands))) free ∙ length-map (zip (free_places design instr) call.operands) (operand_beside all)
              ∙ length-zip (free_places design instr) call.operands ∙ (omega arith);
          operands = rw free (all_fit design instr groups all within (free_places design instr) call.operands (wide place instr there) fits);
        }

    named : (o : Option ℕ) → instr_named design call.instr ≡ o → LineFits design groups (source_line design all call)
    named None at = absurd (let hit : true ≡ false = sym (ap is_none at) ∙ known in cc)
    named (Some place) at = found place (slice_get design.instrs place) at refl
