-- The program that lines say, while they are gone over.
use Rattle.std.proofs.Common.{◌≡◌, ℕ, zero, suc, ◌+◌, ◌-◌, ◌<◌, ◌≤◌, ◌||◌, Bool, true, false, List, [], ◌∷◌, ◌++◌, length, get_or, map, take, drop, Option, Some, None, is_some, refl, sym, ap, ◌∙◌, arith, add-one, append_assoc, append-nil}
use Rattle.std.specs.Prelude.{is_some, option_map, option_to_list, if◌then◌else◌}
use Rattle.std.specs.Option.{option_map_or}
use Rattle.std.proofs.Math.Seq.{drop-cons}
use Rattle.std.proofs.lemmas.Bool.{cond-false, cond-true}
use Rattle.std.proofs.lemmas.List.{length-drop}
use Rattle.ap_desc.specs.declared.design.Design.{Design}
use Rattle.ap_dist.specs.declared.source.Group.{Group}
use Rattle.ap_dist.specs.declared.source.SourceLine.{SourceLine}
use Rattle.ap_program.specs.Programs.{instr_by, is_instr, is_label, slot_by}
use Rattle.ap_program.specs.Sources.{group_of, groups_from, slot_lines, source_line}
use Rattle.ap_program.specs.declared.statement.Call.{Call}
use Rattle.ap_program.specs.declared.statement.ProgramLine.{ProgramLine}

-- what is left of a list begins with the item there
pub rest_from : {X : Type 0} (xs : List X) (i : ℕ) (x : X) → i < length xs → x ≡ get_or xs i x → drop i xs ≡ x ∷ drop (i + 1) xs
rest_from xs i x lt e = rw add-one (drop-cons xs i x lt ∙ ap (λ y. y ∷ drop (suc i) xs) (sym e))

one_more : {X : Type 0} (xs : List X) (x : X) (ys : List X) → (xs ++ x ∷ []) ++ ys ≡ xs ++ x ∷ ys
one_more xs x ys = append_assoc xs (x ∷ []) ys

pub rest_at : {X : Type 0} (xs : List X) (i : ℕ) (d : X) → i < length xs → drop i xs ≡ get_or xs i d ∷ drop (i + 1) xs
rest_at xs i d lt = rw add-one (drop-cons xs i d lt)

none_left : {X : Type 0} (ys : List X) → length ys ≡ 0 → ys ≡ []
none_left [] e = refl
none_left (y ∷ ys) e = absurd (omega arith)

no_rest : {X : Type 0} (xs : List X) (i : ℕ) → length xs ≤ i → drop i xs ≡ []
no_rest xs i le = none_left (drop i xs) (length-drop i xs ∙ (omega arith))

-- so many of a list as it has are all
take_rest : {X : Type 0} (n : ℕ) (xs : List X) → length xs ≤ n → take n xs ≡ xs
take_rest zero [] le = refl
take_rest (suc n) [] le = refl
take_rest zero (x ∷ xs) le = absurd (omega arith)
take_rest (suc n) (x ∷ xs) le = ap (λ ys. x ∷ ys) (take_rest n xs (omega arith))

pub rest_all : {X : Type 0} (xs : List X) (i : ℕ) → take (length xs - i) (drop i xs) ≡ drop i xs
rest_all xs i = let long = length-drop i xs in take_rest (length xs - i) (drop i xs) (omega arith)

-- lines that are no slot lines, and none that begin a group
pub slot_of_none : (design : Design) (all : List ProgramLine) (line : ProgramLine) → slot_by line.says ≡ None → None ≡ option_map (source_line design all) (slot_by line.says)
slot_of_none design all line e = sym (ap (option_map (source_line design all)) e)

pub group_of_none : (design : Design) (all : List ProgramLine) (labelled : Bool) (lines : List ProgramLine) (line : ProgramLine) → instr_by line.says ≡ None → None ≡ option_map (group_of design all labelled lines) (instr_by line.says)
group_of_none design all labelled lines line e = sym (ap (option_map (group_of design all labelled lines)) e)

-- one more line, up to the next instruction
slots_of : (design : Design) (all lines : List ProgramLine) (line : ProgramLine) → is_instr line ≡ false → slot_lines design all (line ∷ lines) ≡ option_to_list (option_map (source_line design all) (slot_by line.says)) ++ slot_lines design all lines
slots_of design all lines line e =
    cond-false (is_instr line) [] (map (source_line design all) (option_to_list (slot_by line.says)) ++ slot_lines design all lines) e
    ∙ ap (λ xs. xs ++ slot_lines design all lines) (by (slot_by line.says))
  where
    by : (o : Option Call) → map (source_line design all) (option_to_list o) ≡ option_to_list (option_map (source_line design all) o)
    by None = refl
    by (Some call) = refl

pub slots_more : (design : Design) (all lines : List ProgramLine) (i : ℕ) (line : ProgramLine) (slots new whole : List SourceLine) → i < length lines → line ≡ get_or lines i line → is_instr line ≡ false
    → new ≡ slots ++ option_to_list (option_map (source_line design all) (slot_by line.says)) → slots ++ slot_lines design all (drop i lines) ≡ whole → new ++ slot_lines design all (drop (i + 1) lines) ≡ whole
slots_more design all lines i line slots new whole lt at e made before =
    ap (λ xs. xs ++ slot_lines design all (drop (i + 1) lines)) made ∙ append_assoc slots _ _
    ∙ ap (λ xs. slots ++ xs) (sym (slots_of design all (drop (i + 1) lines) line e)) ∙ ap (λ ls. slots ++ slot_lines design all ls) (sym (rest_from lines i line lt at)) ∙ before

pub slots_stop : (design : Design) (all lines : List ProgramLine) (i : ℕ) (line : ProgramLine) (slots whole : List SourceLine) → i < length lines → line ≡ get_or lines i line → is_instr line ≡ true → slots ++ slot_lines design all (drop i lines) ≡ whole → slots ≡ whole
slots_stop design all lines i line slots whole lt at e before =
    sym (append-nil slots)
    ∙ ap (λ xs. slots ++ xs) (sym (ap (slot_lines design all) (rest_from lines i line lt at) ∙ cond-true (is_instr line) [] _ e)) ∙ before

pub slots_done : (design : Design) (all lines : List ProgramLine) (i : ℕ) (slots whole : List SourceLine) → length lines ≤ i → slots ++ slot_lines design all (drop i lines) ≡ whole → slots ≡ whole
slots_done design all lines i slots whole le before = sym (append-nil slots) ∙ ap (λ ls. slots ++ slot_lines design all ls) (sym (no_rest lines i le)) ∙ before

-- one more line
pub group_line : (design : Design) (all : List ProgramLine) (labelled : Bool) (line : ProgramLine) (lines : List ProgramLine)
    → groups_from design all labelled (line ∷ lines) ≡ option_to_list (option_map (group_of design all labelled lines) (instr_by line.says)) ++ groups_from design all (if is_instr line then false else labelled || is_label line) lines
group_line design all labelled line lines = by (instr_by line.says)
  where
    by : (o : Option Call) → option_map_or (λ call. group_of design all labelled lines call ∷ groups_from design all false lines) o (groups_from design all (labelled || is_label line) lines)
        ≡ option_to_list (option_map (group_of design all labelled lines) o) ++ groups_from design all (if is_some o then false else labelled || is_label line) lines
    by None = refl
    by (Some call) = refl

pub groups_more : (design : Design) (all lines : List ProgramLine) (i : ℕ) (line : ProgramLine) (labelled : Bool) (groups new : List Group) → i < length lines → line ≡ get_or lines i line
    → new ≡ groups ++ option_to_list (option_map (group_of design all labelled (drop (i + 1) lines)) (instr_by line.says)) → groups ++ groups_from design all labelled (drop i lines) ≡ groups_from design all false lines
    → new ++ groups_from design all (if is_instr line then false else labelled || is_label line) (drop (i + 1) lines) ≡ groups_from design all false lines
groups_more design all lines i line labelled groups new lt at made before =
    ap (λ gs. gs ++ groups_from design all (if is_instr line then false else labelled || is_label line) (drop (i + 1) lines)) made
    ∙ append_assoc groups _ _ ∙ ap (λ gs. groups ++ gs) (sym (group_line design all labelled line (drop (i + 1) lines))) ∙ ap (λ ls. groups ++ groups_from design all labelled ls) (sym (rest_from lines i line lt at)) ∙ before

pub groups_done : (design : Design) (all lines : List ProgramLine) (i : ℕ) (labelled : Bool) (groups whole : List Group) → length lines ≤ i → groups ++ groups_from design all labelled (drop i lines) ≡ whole → groups ≡ whole
groups_done design all lines i labelled groups whole le before = sym (append-nil groups) ∙ ap (λ ls. groups ++ groups_from design all labelled ls) (sym (no_rest lines i le)) ∙ before
