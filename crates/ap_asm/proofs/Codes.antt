-- The words of the code memory: those of one more group over those that were there.
use Rattle.std.proofs.Common.{◌≡◌, ℕ, suc, ◌+◌, ◌-◌, ◌^◌, ◌<◌, ◌≤◌, List, ◌++◌, length, take, drop, replicate, Some, is_some, sym, ap, subst, ◌∙◌, arith, ⊎_elim}
use Rattle.std.specs.Prelude.{IsTrue, slice_get, slice_index}
use Rattle.std.proofs.Math.ListN.{drop_of_length-le, get_or-append}
use Rattle.std.proofs.Math.Seq.{take-length}
use Rattle.std.proofs.lemmas.Bool.{cases_lt}
use Rattle.std.proofs.lemmas.List.{append-nil, get_or-append_right, get_or-drop, get_or-replicate, get_or-take, length-append, length-drop, length-replicate, length-take-le}
use Rattle.std.proofs.lemmas.Option.{get_or_from_slice_get, slice_get_within}
use Rattle.ap_desc.specs.declared.design.Design.{Design}
use Rattle.ap_dist.specs.Places.{IsPlainNop, group_length, has_line, line_at, lines_of_group}
use Rattle.ap_dist.specs.declared.source.Group.{Group}
use Rattle.ap_dist.specs.declared.source.Source.{Source}
use Rattle.ap_dist.specs.declared.source.SourceLine.{SourceLine}
use Rattle.ap_program.specs.Fits.{GroupFits, SourceFits}
use Rattle.ap_asm.specs.Layouts.{AreStarts}
use Rattle.ap_asm.specs.Standing.{HoldsGroups}
use Rattle.ap_asm.specs.Words.{AreWordsAmong, IsWordAmong}
use Rattle.ap_asm.proofs.Besides.{beside_left, beside_length, beside_right, item_there}
use Rattle.ap_asm.proofs.GroupLines.{end_of, group_fits, line_below, line_from, line_in}
use Rattle.ap_asm.proofs.Starting.{stacked_of}

-- a list with words written over it from a place on
abbrev pub written : List ℕ → ℕ → List ℕ → List ℕ
written code start words = take start code ++ words ++ drop (start + length words) code

front_length : (code : List ℕ) (start : ℕ) → start ≤ length code → length (take start code) ≡ start
front_length code start le = length-take-le start code le

begin_length : (code : List ℕ) (start : ℕ) (words : List ℕ) → start ≤ length code → length (take start code ++ words) ≡ start + length words
begin_length code start words le = (let a = length-append (take start code) words in let c = front_length code start le in omega arith)

pub written_length : (code : List ℕ) (start : ℕ) (words : List ℕ) → start + length words ≤ length code → length (written code start words) ≡ length code
written_length code start words le =
    let a : length (written code start words) ≡ length (take start code ++ words) + length (drop (start + length words) code) = length-append (take start code ++ words) (drop (start + length words) code) in
    let b = begin_length code start words (omega arith) in
    let d = length-drop (start + length words) code in
    omega arith

written_before : (code : List ℕ) (start : ℕ) (words : List ℕ) (p : ℕ) → start + length words ≤ length code → p < start → slice_index (written code start words) p ≡ slice_index code p
written_before code start words p le lt =
    let b = begin_length code start words (omega arith) in
    let c = front_length code start (omega arith) in
    get_or-append (take start code ++ words) (drop (start + length words) code) 0 p (omega arith) ∙ get_or-append (take start code) words 0 p (omega arith) ∙ get_or-take start code p 0 lt

written_here : (code : List ℕ) (start : ℕ) (words : List ℕ) (k word : ℕ) → start + length words ≤ length code → slice_get words k ≡ Some word → slice_index (written code start words) (start + k) ≡ word
written_here code start words k word le at =
    let lt = slice_get_within words k word at in
    let b = begin_length code start words (omega arith) in
    get_or-append (take start code ++ words) (drop (start + length words) code) 0 (start + k) (omega arith)
    ∙ get_or-append_right (take start code) words start (start + k) 0 (front_length code start (omega arith)) (omega arith)
    ∙ ap (slice_index words) (let z : start + k - start ≡ k = omega arith in z) ∙ get_or_from_slice_get words k word 0 at

written_after : (code : List ℕ) (start : ℕ) (words : List ℕ) (p : ℕ) → start + length words ≤ length code → start + length words ≤ p → slice_index (written code start words) p ≡ slice_index code p
written_after code start words p le far =
    get_or-append_right (take start code ++ words) (drop (start + length words) code) (start + length words) p 0 (begin_length code start words (omega arith)) far
    ∙ get_or-drop (start + length words) code (p - (start + length words)) 0
    ∙ ap (slice_index code) (let z : start + length words + (p - (start + length words)) ≡ p = omega arith in z)

-- what was written in the slice of a vector is in the vector
pub written_back : (new items shown : List ℕ) (len : ℕ) → shown ≡ items → length shown ≡ len → length new ≡ length shown → take len (new ++ drop (length new) items) ≡ new
written_back new items shown len same size kept =
    let e : length items ≡ len = ap length (sym same) ∙ size in
    ap (λ xs. take len (new ++ xs)) (drop_of_length-le items (let z : length items ≤ length new = omega arith in z)) ∙ ap (take len) (append-nil new) ∙ ap (λ n. take n new) (let z : len ≡ length new = omega arith in z) ∙ take-length new

-- a group has no more words than places
pub words_within : (design : Design) (groups : ℕ) (ends : List ℕ) (x : Group) (words : List ℕ) → GroupFits design groups x → AreWordsAmong design ends x words → length words ≤ group_length design x
words_within design groups ends x words fits among = (let e = beside_length (IsWordAmong design ends) (lines_of_group x) words among in let room = fits.room in omega arith)

-- the group has room in the code
pub code_room : (design : Design) (source : Source) → SourceFits design source → (starts ends : List ℕ) (n : ℕ) (x : Group) (words code : List ℕ) → AreStarts design source (length source.groups) starts → slice_get source.groups n ≡ Some x
    → AreWordsAmong design ends x words → length code ≡ 2 ^ design.address → slice_index starts n + length words ≤ length code
code_room design source fits starts ends n x words code known at among size =
    let f = group_fits design source fits n x at in
    let few = words_within design (length source.groups) ends x words f among in
    let lt = slice_get_within source.groups n x at in
    let top = known.within (suc n) (omega arith) in
    let e = end_of design source starts n x at in
    omega arith

pub held_more : (design : Design) (source : Source) → SourceFits design source → (starts ends : List ℕ) (n : ℕ) (x : Group) (words code : List ℕ) → AreStarts design source (length source.groups) starts → slice_get source.groups n ≡ Some x
    → AreWordsAmong design ends x words → HoldsGroups design source starts ends n code → HoldsGroups design source starts ends (n + 1) (written code (slice_index starts n) words)
held_more design source fits starts ends n x words code known is_group among holds = record {
  size = written_length code (slice_index starts n) words room ∙ holds.size;
  lines = lines;
  others = others;
}
  where
    room : slice_index starts n + length words ≤ length code
    room = code_room design source fits starts ends n x words code known is_group among holds.size

    within : n < length source.groups
    within = slice_get_within source.groups n x is_group

    lines : (g i : ℕ) (line : SourceLine) → g < n + 1 → line_at source g i ≡ Some line → IsWordAmong design ends line (slice_index (written code (slice_index starts n) words) (slice_index starts g + i))
    lines g i line lt a = ⊎_elim
        (λ early.
        let below = line_below design source starts (length source.groups) fits (stacked_of design source starts (length source.groups) known) g n i line early within a in
        let behind = stacked_of design source starts (length source.groups) known n within in
        subst (IsWordAmong design ends line) (sym (written_before code (slice_index starts n) words (slice_index starts g + i) room (omega arith))) (holds.lines g i line early a))
        (λ late.
        let e : g ≡ n = omega arith in
        let a2 : line_at source n i ≡ Some line = ap (λ h. line_at source h i) (sym e) ∙ a in
        let r = beside_left (IsWordAmong design ends) (lines_of_group x) words among i line (line_in source n i x line is_group a2) in
        subst (IsWordAmong design ends line) (sym (ap (λ h. slice_index (written code (slice_index starts n) words) (slice_index starts h + i)) e ∙ written_here code (slice_index starts n) words i r.other room r.is_there)) r.holds)
        (cases_lt g n)

    -- no line of the group stands at the place
    NotHere : ℕ → Type 0
    NotHere p = (i : ℕ) → IsTrue (has_line source n i) → slice_index starts n + i ≡ p → ⊥

    same_there : (p : ℕ) → NotHere p → slice_index (written code (slice_index starts n) words) p ≡ slice_index code p
    same_there p free = ⊎_elim
        (λ before. written_before code (slice_index starts n) words p room before)
        (λ from. ⊎_elim
        (λ inside.
        let w = item_there words (p - slice_index starts n) (omega arith) in
        let r = beside_right (IsWordAmong design ends) (lines_of_group x) words among (p - slice_index starts n) w.0 w.1 in
        absurd (free (p - slice_index starts n) (ap is_some (line_from source n (p - slice_index starts n) x r.other is_group r.is_there)) (omega arith)))
        (λ after. written_after code (slice_index starts n) words p room after)
        (cases_lt p (slice_index starts n + length words)))
        (cases_lt p (slice_index starts n))

    others : (p : ℕ) → p < 2 ^ design.address → ((g i : ℕ) → g < n + 1 → IsTrue (has_line source g i) → slice_index starts g + i ≡ p → ⊥) → IsPlainNop design (slice_index (written code (slice_index starts n) words) p)
    others p lt free = subst (IsPlainNop design) (sym (same_there p (λ i is at. free n i (omega arith) is at))) (holds.others p lt (λ g i l is at. free g i (omega arith) is at))

-- before the first group, all words are NOP
pub held_none : (design : Design) (source : Source) (starts ends : List ℕ) (nop : ℕ) → IsPlainNop design nop → HoldsGroups design source starts ends 0 (replicate (2 ^ design.address) nop)
held_none design source starts ends nop plain = record {
  size = length-replicate (2 ^ design.address) nop;
  lines = λ g i line lt a. absurd (omega arith);
  others = λ p lt free. subst (IsPlainNop design) (sym (get_or-replicate (2 ^ design.address) p nop 0 lt)) plain;
}
