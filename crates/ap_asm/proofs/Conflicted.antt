-- Slot lines that are too near, by their words and by their lines; and the numbers of lines, which rise.
use Rattle.std.proofs.Common.{◌≡◌, ℕ, zero, suc, ◌+◌, ◌<◌, ◌≤◌, ◌||◌, Bool, true, false, List, [], ◌∷◌, ◌++◌, length, map, Option, Some, None, is_some, refl, sym, ap, subst, ◌∙◌, arith, ⊎_elim}
use Rattle.std.specs.Prelude.{if◌then◌else◌, option_to_list, slice_get}
use Rattle.std.specs.List.{slice_index_or}
use Rattle.std.specs.Option.{option_map_or}
use Rattle.std.proofs.lemmas.Bool.{cases_lt}
use Rattle.std.proofs.lemmas.Option.{get_or_from_slice_get, same_Some}
use Rattle.ap_bits.specs.Beside.{EachBeside}
use Rattle.ap_desc.specs.Clean.{IsClean}
use Rattle.ap_desc.specs.declared.design.Design.{Design}
use Rattle.ap_dist.specs.Places.{line_at, lines_of_group}
use Rattle.ap_dist.specs.declared.source.Group.{Group}
use Rattle.ap_dist.specs.declared.source.Source.{Source}
use Rattle.ap_dist.specs.declared.source.SourceLine.{SourceLine}
use Rattle.ap_program.specs.Fits.{SourceFits}
use Rattle.ap_program.specs.LineFaults.{LinesRise}
use Rattle.ap_program.specs.Programs.{instr_by, is_instr, is_label, is_slot, slot_by}
use Rattle.ap_program.specs.Sources.{group_of, groups_from, numbers_of, slot_lines, slot_numbers, source_line}
use Rattle.ap_program.specs.declared.statement.Call.{Call}
use Rattle.ap_program.specs.declared.statement.ProgramLine.{ProgramLine}
use Rattle.ap_asm.specs.Conflicts.{AreSlotsApart, AreWordsApart, HasAsMany, IsNear, IsNearAt}
use Rattle.ap_asm.specs.Layouts.{HasNumbers}
use Rattle.ap_asm.specs.LinePlaces.{HasSlotConflict, dist_of_lines, number_at}
use Rattle.ap_asm.specs.Words.{ArePlainWords, IsPlainWord}
use Rattle.ap_asm.proofs.Besides.{beside_left, beside_length, beside_right, item_there}
use Rattle.ap_asm.proofs.GroupLines.{line_fits, line_from, line_in, line_of}
use Rattle.ap_asm.proofs.LineDistances.{line_distance}

-- The numbers of lines rise from group to group, and within a group.

abbrev SlotsOf : Bool → Bool → ProgramLine → List ProgramLine → List ℕ
SlotsOf a b line lines = if a then [] else (if b then line.number ∷ [] else []) ++ slot_numbers lines

abbrev NumbersOf : Bool → ProgramLine → List ProgramLine → List (List ℕ)
NumbersOf a line lines = if a then (line.number ∷ slot_numbers lines) ∷ numbers_of lines else numbers_of lines

above_step : (low : ℕ) (line : ProgramLine) (lines : List ProgramLine) (m : ℕ) → low < line.number → ((k : ℕ) → slice_get (slot_numbers lines) k ≡ Some m → line.number < m) → (a b : Bool) (k : ℕ) → slice_get (SlotsOf a b line lines) k ≡ Some m → low < m
above_step low line lines m lt ih true b k at = absurd cc
above_step low line lines m lt ih false true zero at = (let z = same_Some line.number m at in omega arith)
above_step low line lines m lt ih false true (suc k) at = (let h = ih k at in omega arith)
above_step low line lines m lt ih false false k at = (let h = ih k at in omega arith)

slots_above : (low : ℕ) (lines : List ProgramLine) → LinesRise low lines → (i m : ℕ) → slice_get (slot_numbers lines) i ≡ Some m → low < m
slots_above low [] rise i m e = absurd cc
slots_above low (line ∷ lines) rise i m e = above_step low line lines m rise.0 (λ k at. slots_above line.number lines rise.1 k m at) (is_instr line) (is_slot line) i e

rise_step : (line : ProgramLine) (lines : List ProgramLine) (m n : ℕ) → ((k : ℕ) → slice_get (slot_numbers lines) k ≡ Some n → line.number < n)
    → ((k l : ℕ) → k < l → slice_get (slot_numbers lines) k ≡ Some m → slice_get (slot_numbers lines) l ≡ Some n → m < n)
    → (a b : Bool) (k l : ℕ) → k < l → slice_get (SlotsOf a b line lines) k ≡ Some m → slice_get (SlotsOf a b line lines) l ≡ Some n → m < n
rise_step line lines m n above ih true b k l less at there = absurd cc
rise_step line lines m n above ih false true k zero less at there = absurd (omega arith)
rise_step line lines m n above ih false true zero (suc l) less at there = (let z = same_Some line.number m at in let h = above l there in omega arith)
rise_step line lines m n above ih false true (suc k) (suc l) less at there = ih k l (omega arith) at there
rise_step line lines m n above ih false false k l less at there = ih k l less at there

slots_rise : (low : ℕ) (lines : List ProgramLine) → LinesRise low lines → (i j m n : ℕ) → i < j → slice_get (slot_numbers lines) i ≡ Some m → slice_get (slot_numbers lines) j ≡ Some n → m < n
slots_rise low [] rise i j m n lt one two = absurd cc
slots_rise low (line ∷ lines) rise i j m n lt one two =
    rise_step line lines m n (λ k at. slots_above line.number lines rise.1 k n at) (λ k l less at there. slots_rise line.number lines rise.1 k l m n less at there) (is_instr line) (is_slot line) i j lt one two

numbers_step : (low : ℕ) (line : ProgramLine) (lines : List ProgramLine) (m : ℕ) → low < line.number → ((k : ℕ) → slice_get (slot_numbers lines) k ≡ Some m → line.number < m) → ((h k : ℕ) → number_at (numbers_of lines) h k ≡ Some m → line.number < m)
    → (a : Bool) (h k : ℕ) → number_at (NumbersOf a line lines) h k ≡ Some m → low < m
numbers_step low line lines m lt above ih true zero zero at = (let z = same_Some line.number m at in omega arith)
numbers_step low line lines m lt above ih true zero (suc k) at = (let h = above k at in omega arith)
numbers_step low line lines m lt above ih true (suc h) k at = (let r = ih h k at in omega arith)
numbers_step low line lines m lt above ih false h k at = (let r = ih h k at in omega arith)

numbers_above : (low : ℕ) (lines : List ProgramLine) → LinesRise low lines → (g i m : ℕ) → number_at (numbers_of lines) g i ≡ Some m → low < m
numbers_above low [] rise g i m e = absurd cc
numbers_above low (line ∷ lines) rise g i m e =
    numbers_step low line lines m rise.0 (λ k at. slots_above line.number lines rise.1 k m at) (λ h k at. numbers_above line.number lines rise.1 h k m at) (is_instr line) g i e

before_step : (line : ProgramLine) (lines : List ProgramLine) (h j m n : ℕ) → (number_at (numbers_of lines) h j ≡ Some n → line.number < n) → ((k : ℕ) → slice_get (slot_numbers lines) k ≡ Some m → number_at (numbers_of lines) h j ≡ Some n → m < n)
    → (a b : Bool) (k : ℕ) → slice_get (SlotsOf a b line lines) k ≡ Some m → number_at (NumbersOf a line lines) h j ≡ Some n → m < n
before_step line lines h j m n above ih true b k at there = absurd cc
before_step line lines h j m n above ih false true zero at there = (let z = same_Some line.number m at in let r = above there in omega arith)
before_step line lines h j m n above ih false true (suc k) at there = ih k at there
before_step line lines h j m n above ih false false k at there = ih k at there

slots_before : (low : ℕ) (lines : List ProgramLine) → LinesRise low lines → (i h j m n : ℕ) → slice_get (slot_numbers lines) i ≡ Some m → number_at (numbers_of lines) h j ≡ Some n → m < n
slots_before low [] rise i h j m n one two = absurd cc
slots_before low (line ∷ lines) rise i h j m n one two =
    before_step line lines h j m n (λ there. numbers_above line.number lines rise.1 h j n there) (λ k at there. slots_before line.number lines rise.1 k h j m n at there) (is_instr line) (is_slot line) i one two

groups_step : (line : ProgramLine) (lines : List ProgramLine) (j m n : ℕ) → ((f : ℕ) → number_at (numbers_of lines) f j ≡ Some n → line.number < n)
    → ((k f : ℕ) → slice_get (slot_numbers lines) k ≡ Some m → number_at (numbers_of lines) f j ≡ Some n → m < n) → ((e f k : ℕ) → e < f → number_at (numbers_of lines) e k ≡ Some m → number_at (numbers_of lines) f j ≡ Some n → m < n)
    → (a : Bool) (e f k : ℕ) → e < f → number_at (NumbersOf a line lines) e k ≡ Some m → number_at (NumbersOf a line lines) f j ≡ Some n → m < n
groups_step line lines j m n above slots ih true e zero k less at there = absurd (omega arith)
groups_step line lines j m n above slots ih true zero (suc f) zero less at there = (let z = same_Some line.number m at in let r = above f there in omega arith)
groups_step line lines j m n above slots ih true zero (suc f) (suc k) less at there = slots k f at there
groups_step line lines j m n above slots ih true (suc e) (suc f) k less at there = ih e f k (omega arith) at there
groups_step line lines j m n above slots ih false e f k less at there = ih e f k less at there

groups_rise : (low : ℕ) (lines : List ProgramLine) → LinesRise low lines → (g h i j m n : ℕ) → g < h → number_at (numbers_of lines) g i ≡ Some m → number_at (numbers_of lines) h j ≡ Some n → m < n
groups_rise low [] rise g h i j m n lt one two = absurd cc
groups_rise low (line ∷ lines) rise g h i j m n lt one two =
    groups_step line lines j m n (λ f there. numbers_above line.number lines rise.1 f j n there) (λ k f at there. slots_before line.number lines rise.1 k f j m n at there)
    (λ e f k less at there. groups_rise line.number lines rise.1 e f k j m n less at there) (is_instr line) g h i lt one two

within_step : (line : ProgramLine) (lines : List ProgramLine) (m n : ℕ) → ((l : ℕ) → slice_get (slot_numbers lines) l ≡ Some n → line.number < n) → ((k l : ℕ) → k < l → slice_get (slot_numbers lines) k ≡ Some m → slice_get (slot_numbers lines) l ≡ Some n → m < n)
    → ((e k l : ℕ) → k < l → number_at (numbers_of lines) e k ≡ Some m → number_at (numbers_of lines) e l ≡ Some n → m < n)
    → (a : Bool) (e k l : ℕ) → k < l → number_at (NumbersOf a line lines) e k ≡ Some m → number_at (NumbersOf a line lines) e l ≡ Some n → m < n
within_step line lines m n above slots ih true zero k zero less at there = absurd (omega arith)
within_step line lines m n above slots ih true zero zero (suc l) less at there = (let z = same_Some line.number m at in let h = above l there in omega arith)
within_step line lines m n above slots ih true zero (suc k) (suc l) less at there = slots k l (omega arith) at there
within_step line lines m n above slots ih true (suc e) k l less at there = ih e k l less at there
within_step line lines m n above slots ih false e k l less at there = ih e k l less at there

within_rise : (low : ℕ) (lines : List ProgramLine) → LinesRise low lines → (g i j m n : ℕ) → i < j → number_at (numbers_of lines) g i ≡ Some m → number_at (numbers_of lines) g j ≡ Some n → m < n
within_rise low [] rise g i j m n lt one two = absurd cc
within_rise low (line ∷ lines) rise g i j m n lt one two =
    within_step line lines m n (λ l there. slots_above line.number lines rise.1 l n there) (λ k l less at there. slots_rise line.number lines rise.1 k l m n less at there)
    (λ e k l less at there. within_rise line.number lines rise.1 e k l m n less at there) (is_instr line) g i j lt one two

-- Each line of a group has a number.

count_step : (design : Design) (all lines : List ProgramLine) (line : ProgramLine) → length (slot_numbers lines) ≡ length (slot_lines design all lines)
    → (a : Bool) (o : Option Call) → length (if a then [] else (if is_some o then line.number ∷ [] else []) ++ slot_numbers lines) ≡ length (if a then [] else map (source_line design all) (option_to_list o) ++ slot_lines design all lines)
count_step design all lines line ih true o = refl
count_step design all lines line ih false None = ih
count_step design all lines line ih false (Some call) = ap suc ih

slot_count : (design : Design) (all lines : List ProgramLine) → length (slot_numbers lines) ≡ length (slot_lines design all lines)
slot_count design all [] = refl
slot_count design all (line ∷ lines) = count_step design all lines line (slot_count design all lines) (is_instr line) (slot_by line.says)

have_step : (design : Design) (all : List ProgramLine) (labelled : Bool) (line : ProgramLine) (lines : List ProgramLine) → ((l : Bool) → EachBeside HasNumbers (groups_from design all l lines) (numbers_of lines))
    → (o : Option Call) → EachBeside HasNumbers (option_map_or (λ call. group_of design all labelled lines call ∷ groups_from design all false lines) o (groups_from design all (labelled || is_label line) lines)) (NumbersOf (is_some o) line lines)
have_step design all labelled line lines ih None = ih (labelled || is_label line)
have_step design all labelled line lines ih (Some call) = (ap suc (slot_count design all lines), ih false)

pub have_numbers : (design : Design) (all : List ProgramLine) (labelled : Bool) (lines : List ProgramLine) → EachBeside HasNumbers (groups_from design all labelled lines) (numbers_of lines)
have_numbers design all labelled [] = tt
have_numbers design all labelled (line ∷ lines) = have_step design all labelled line lines (λ l. have_numbers design all l lines) (instr_by line.says)

-- Words of a group that are too near are lines that are.

pub as_many : (design : Design) (groups : List Group) (words numbers : List (List ℕ)) → EachBeside (ArePlainWords design) groups words → EachBeside HasNumbers groups numbers → EachBeside HasAsMany words numbers
as_many design [] [] [] a b = tt
as_many design [] [] (n ∷ numbers) a b = absurd b
as_many design [] (w ∷ words) numbers a b = absurd a
as_many design (g ∷ groups) [] numbers a b = absurd a
as_many design (g ∷ groups) (w ∷ words) [] a b = absurd b
as_many design (g ∷ groups) (w ∷ words) (n ∷ numbers) a b = (b.0 ∙ sym (beside_length (IsPlainWord design) (lines_of_group g) w a.0), as_many design groups words numbers a.1 b.1)

near_lines : (design : Design) → IsClean design → (source : Source) → SourceFits design source → (words : List (List ℕ)) → EachBeside (ArePlainWords design) source.groups words → (g i j : ℕ) (older younger : SourceLine) → i < j
    → line_at source g i ≡ Some older → line_at source g j ≡ Some younger → j < i + dist_of_lines design older younger → IsNear design (slice_index_or words g []) j
near_lines design clean source fits words plain g i j older younger lt a b near =
    let l = line_of source g i older a in
    let ws = beside_left (ArePlainWords design) source.groups words plain g l.group l.is_group in
    let x = beside_left (IsPlainWord design) (lines_of_group l.group) ws.other ws.holds i older l.is_line in
    let y = beside_left (IsPlainWord design) (lines_of_group l.group) ws.other ws.holds j younger (line_in source g j l.group younger l.is_group b) in
    let e = line_distance design clean (length source.groups) [] older younger x.other y.other (line_fits design source fits g i older a) (line_fits design source fits g j younger b) x.holds y.holds in
    let same : slice_index_or words g [] ≡ ws.other = get_or_from_slice_get words g ws.other [] ws.is_there in
    record { older = i; order = lt; word = x.other; is_word = ap (λ z. slice_get z i) same ∙ x.is_there; younger = y.other; is_younger = ap (λ z. slice_get z j) same ∙ y.is_there; near = omega arith }

pub slots_apart : (design : Design) → IsClean design → (source : Source) → SourceFits design source → (words : List (List ℕ)) → EachBeside (ArePlainWords design) source.groups words → AreWordsApart design words → AreSlotsApart design source
slots_apart design clean source fits words plain apart g i j older younger lt a b = ⊎_elim
    (λ near. absurd (apart g j (near_lines design clean source fits words plain g i j older younger lt a b near)))
    (λ far. omega arith)
    (cases_lt j (i + dist_of_lines design older younger))

-- and back
conflict_of : (design : Design) → IsClean design → (source : Source) → SourceFits design source → (words numbers : List (List ℕ)) → EachBeside (ArePlainWords design) source.groups words → (g j number : ℕ) → g < length source.groups
    → IsNear design (slice_index_or words g []) j → number_at numbers g j ≡ Some number → HasSlotConflict design source numbers number
conflict_of design clean source fits words numbers plain g j number few near at =
    let w = item_there words g (let e = beside_length (ArePlainWords design) source.groups words plain in omega arith) in
    let x = beside_right (ArePlainWords design) source.groups words plain g w.0 w.1 in
    let same : slice_index_or words g [] ≡ w.0 = get_or_from_slice_get words g w.0 [] w.1 in
    let older = beside_right (IsPlainWord design) (lines_of_group x.other) w.0 x.holds near.older near.word (ap (λ z. slice_get z near.older) (sym same) ∙ near.is_word) in
    let younger = beside_right (IsPlainWord design) (lines_of_group x.other) w.0 x.holds j near.younger (ap (λ z. slice_get z j) (sym same) ∙ near.is_younger) in
    let a = line_from source g near.older x.other older.other x.is_there older.is_there in
    let b = line_from source g j x.other younger.other x.is_there younger.is_there in
    let e = line_distance design clean (length source.groups) [] older.other younger.other near.word near.younger (line_fits design source fits g near.older older.other a) (line_fits design source fits g j younger.other b) older.holds younger.holds in
    record { group = g; older = near.older; younger = j; order = near.order; older_line = older.other; is_older = a; younger_line = younger.other; is_younger = b; near = (let n = near.near in omega arith); at = at }

-- beyond the groups there are no words
pub near_within : (design : Design) (words : List (List ℕ)) (g j : ℕ) → IsNear design (slice_index_or words g []) j → g < length words
near_within design words g j near = ⊎_elim (λ lt. lt) (λ le. absurd (beyond words g le near)) (cases_lt g (length words))
  where
    beyond : (ws : List (List ℕ)) (k : ℕ) → length ws ≤ k → IsNear design (slice_index_or ws k []) j → ⊥
    beyond [] k le n = (let h : None ≡ Some n.word = n.is_word in cc)
    beyond (w ∷ ws) zero le n = omega arith
    beyond (w ∷ ws) (suc k) le n = beyond ws k (omega arith) n

-- The first word that is too near is that of the least line.

pub record IsLeastConflict (design : Design) (source : Source) (numbers : List (List ℕ)) (line : ℕ) : Type 0 where
  pub here : HasSlotConflict design source numbers line
  pub first : (number : ℕ) → HasSlotConflict design source numbers number → line ≤ number

pub least_conflict : (design : Design) → IsClean design → (source : Source) → SourceFits design source → (words : List (List ℕ)) (lines : List ProgramLine) (line : ℕ) → LinesRise 0 lines → EachBeside (ArePlainWords design) source.groups words
    → IsNearAt design words (numbers_of lines) line → IsLeastConflict design source (numbers_of lines) line
least_conflict design clean source fits words lines line rise plain near = record {
  here = conflict_of design clean source fits words (numbers_of lines) plain near.group near.place line (let lt = near_within design words near.group near.place near.first.here in let e = beside_length (ArePlainWords design) source.groups words plain in omega arith) near.first.here near.at;
  first = first;
}
  where
    first : (number : ℕ) → HasSlotConflict design source (numbers_of lines) number → line ≤ number
    first number c = ⊎_elim
        (λ before. absurd (near.first.groups c.group c.younger before near_there))
        (λ from. ⊎_elim
        (λ after. let lt = groups_rise 0 lines rise near.group c.group near.place c.younger line number after near.at c.at in omega arith)
        (λ here.
        let same : c.group ≡ near.group = omega arith in
        ⊎_elim
        (λ sooner. absurd (near.first.places c.younger sooner (subst (λ g. IsNear design (slice_index_or words g []) c.younger) same near_there)))
        (λ later.
        let at : number_at (numbers_of lines) near.group c.younger ≡ Some number = ap (λ g. number_at (numbers_of lines) g c.younger) (sym same) ∙ c.at in
        ⊎_elim
        (λ less. let lt = within_rise 0 lines rise near.group near.place c.younger line number less near.at at in omega arith)
        (λ equal. let e : near.place ≡ c.younger = omega arith in let z = same_Some line number (sym near.at ∙ ap (number_at (numbers_of lines) near.group) e ∙ at) in omega arith)
        (cases_lt near.place c.younger))
        (cases_lt c.younger near.place))
        (cases_lt near.group c.group))
        (cases_lt c.group near.group)
      where
        near_there : IsNear design (slice_index_or words c.group []) c.younger
        near_there = near_lines design clean source fits words plain c.group c.older c.younger c.older_line c.younger_line c.order c.is_older c.is_younger c.near
