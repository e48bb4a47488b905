-- A program at its places: what its words are, and what they do.
use Rattle.std.proofs.Common.{◌≡◌, ℕ, zero, suc, ◌+◌, ◌-◌, ◌^◌, ◌<◌, ◌≤◌, ◌⊎◌, inl, inr, Bool, true, false, List, [], ◌∷◌, length, map, Option, Some, None, is_some, refl, sym, ap, subst, ◌∙◌, arith, ⊎_elim, mod-eq_of_lt}
use Rattle.std.specs.Prelude.{IsSomeAnd, IsTrue, filter_map, slice_get, slice_index, zip, ◌||◌}
use Rattle.std.specs.List.{AllByRecursion as Each, list_any}
use Rattle.std.specs.Option.{option_map_or}
use Rattle.std.proofs.lemmas.Bool.{both_ways, cases_lt}
use Rattle.std.proofs.lemmas.Option.{slice_get_within}
use Rattle.ap_desc.specs.Clean.{IsClean}
use Rattle.ap_desc.specs.Designs.{is_named_nop}
use Rattle.ap_desc.specs.Ports.{is_transfer}
use Rattle.ap_desc.specs.Sound.{IsEmptyNop}
use Rattle.ap_desc.specs.declared.design.Design.{Design}
use Rattle.ap_desc.specs.declared.design.Instr.{Instr}
use Rattle.ap_desc.specs.declared.design.Micro.{Micro}
use Rattle.ap_desc.proofs.Encoded.{encoded_if_clean}
use Rattle.ap_dist.specs.Accesses.{access_of, accesses, accesses_of}
use Rattle.ap_dist.specs.Distances.{dist_of, gap_between, greatest, instr_out, out_of}
use Rattle.ap_dist.specs.Places.{IsPlainNop, IsWordOfLine, does_transfer, end_before, has_line, line_at, operand_value}
use Rattle.ap_dist.specs.Spaced.{is_nop_word, is_transfer_word, word_at}
use Rattle.ap_dist.specs.declared.source.Operand.{Operand}
use Rattle.ap_dist.specs.declared.source.Operand.TheVariants as operand
use Rattle.ap_dist.specs.declared.source.Source.{Source}
use Rattle.ap_dist.specs.declared.source.SourceLine.{SourceLine}
use Rattle.ap_dist.proofs.Bounds.{dist_from_none, dist_to_none}
use Rattle.ap_dist.proofs.Greatest.{most_of_ones}
use Rattle.ap_dist.proofs.Matched.{each_here, matched_instr, word_accesses}
use Rattle.ap_enc.specs.Words.{IsWordOf}
use Rattle.ap_enc.proofs.Found.{one_match}
use Rattle.ap_image.specs.declared.image.Image.{Image}
use Rattle.ap_model.specs.Fire.{instr_of}
use Rattle.ap_program.specs.Fits.{OperandFits, SourceFits}
use Rattle.ap_program.specs.LineFaults.{free_places}
use Rattle.ap_program.specs.declared.operands.FreeField.{FreeField}
use Rattle.ap_asm.specs.Layouts.{AreStarts}
use Rattle.ap_asm.specs.LinePlaces.{dist_of_lines, out_of_line}
use Rattle.ap_asm.specs.Standing.{AreEnds, HoldsGroups}
use Rattle.ap_asm.specs.Words.{IsWordAmong, value_among}
use Rattle.ap_asm.proofs.GroupLines.{line_before_end, line_fits, line_of}
use Rattle.ap_asm.proofs.LineDistances.{line_distance}
use Rattle.ap_asm.proofs.Sizes.{room_ends}

-- The words that are NOP.

pub record IsEmptyWord (design : Design) (word : ℕ) : Type 0 where
  pub instr : Instr
  pub is_instr : instr_of design word ≡ Some instr
  pub named : is_named_nop instr ≡ true
  pub empty : instr.micros ≡ []

record IsThere {X : Type 0} (p : X → Bool) (xs : List X) : Type 0 where
  place : ℕ
  item : X
  at : slice_get xs place ≡ Some item
  passes : p item ≡ true

any_there : {X : Type 0} (p : X → Bool) (xs : List X) → list_any p xs ≡ true → IsThere p xs
any_there p [] h = absurd cc
any_there p (x ∷ xs) h = by (λ g. any_there p xs g) (p x) refl h
  where
    by : (list_any p xs ≡ true → IsThere p xs) → (b : Bool) → p x ≡ b → (b || list_any p xs) ≡ true → IsThere p (x ∷ xs)
    by ih true e g = record { place = 0; item = x; at = refl; passes = e }
    by ih false e g = (let t = ih g in record { place = suc t.place; item = t.item; at = t.at; passes = t.passes })

some_and : {X : Type 0} (P : X → Type 0) (o : Option X) (x : X) → o ≡ Some x → P x → IsSomeAnd o P
some_and P o x e h = subst (λ y. IsSomeAnd y P) (sym e) h

pub empty_word : (design : Design) → IsClean design → (word : ℕ) → IsPlainNop design word → IsEmptyWord design word
empty_word design clean word plain =
    let t = any_there is_named_nop design.instrs clean.sound.nop in
    let w = plain t.place (some_and (λ i. IsTrue (is_named_nop i)) (slice_get design.instrs t.place) t.item t.at t.passes) in
    record {
      instr = t.item;
      is_instr = matched_instr design word t.place t.item t.at (record { matches = w.matches; only = λ other m. one_match design clean word other t.place m w.matches });
      named = t.passes;
      empty = each_here IsEmptyNop design.instrs (encoded_if_clean design clean).nop t.place t.item t.at t.passes;
    }

pub empty_is_nop : (design : Design) (word : ℕ) → IsEmptyWord design word → is_nop_word design word ≡ true
empty_is_nop design word e = ap (λ o. option_map_or is_named_nop o false) e.is_instr ∙ e.named

pub empty_stays : (design : Design) (word : ℕ) → IsEmptyWord design word → is_transfer_word design word ≡ false
empty_stays design word e = ap (λ o. option_map_or (λ (i : Instr). list_any (λ (m : Micro). is_transfer m.act) i.micros) o false) e.is_instr ∙ ap (list_any (λ (m : Micro). is_transfer m.act)) e.empty

empty_accesses : (design : Design) (word : ℕ) → IsEmptyWord design word → accesses_of design word ≡ []
empty_accesses design word e = word_accesses design word e.instr e.is_instr ∙ ap (filter_map (access_of design e.instr (Some word))) e.empty

pub empty_from : (design : Design) (x y : ℕ) → IsEmptyWord design x → dist_of design x y ≡ 1
empty_from design x y e = dist_from_none design x y (empty_accesses design x e)

pub empty_to : (design : Design) (x y : ℕ) → IsEmptyWord design y → dist_of design x y ≡ 1
empty_to design x y e = dist_to_none design x y (empty_accesses design y e)

empty_instr_out : (design : Design) (instr : Instr) → instr.micros ≡ [] → instr_out design instr ≡ 1
unfolding instr_out
empty_instr_out design instr e =
    ap (λ xs. greatest (λ (other : Instr). gap_between xs (accesses design other None)) design.instrs) (ap (filter_map (access_of design instr None)) e) ∙ most_of_ones design.instrs

pub empty_out : (design : Design) (word : ℕ) → IsEmptyWord design word → out_of design word ≡ 1
empty_out design word e = ap (λ o. option_map_or (instr_out design) o 1) e.is_instr ∙ empty_instr_out design e.instr e.empty

-- A program whose groups stand at their starts, and whose words are in the image.

pub record IsPlacement (design : Design) (source : Source) (starts ends : List ℕ) (image : Image) : Type 0 where
  pub clean : IsClean design
  pub fits : SourceFits design source
  pub known : AreStarts design source (length source.groups) starts
  pub ended : AreEnds design source starts (length source.groups) ends
  pub held : HoldsGroups design source starts ends (length source.groups) image.code

pub group_within : (source : Source) (g i : ℕ) (line : SourceLine) → line_at source g i ≡ Some line → g < length source.groups
group_within source g i line a = (let l = line_of source g i line a in slice_get_within source.groups g l.group l.is_group)

-- a line stands so many places before the end of the code memory as there are stages
pub line_room : (design : Design) (source : Source) (starts ends : List ℕ) (image : Image) → IsPlacement design source starts ends image → (g i : ℕ) (line : SourceLine) → line_at source g i ≡ Some line
    → slice_index starts g + i + design.stages < 2 ^ design.address
line_room design source starts ends image p g i line a =
    let lt = line_before_end design source starts p.fits g i line a in
    let few = group_within source g i line a in
    let top = p.known.within (suc g) (omega arith) in
    let e = room_ends design p.clean in
    omega arith

pub word_here : (design : Design) (image : Image) (place : ℕ) → place < 2 ^ design.address → word_at design image place ≡ slice_index image.code place
word_here design image place lt = ap (slice_index image.code) (mod-eq_of_lt lt)

pub line_word : (design : Design) (source : Source) (starts ends : List ℕ) (image : Image) → IsPlacement design source starts ends image → (g i : ℕ) (line : SourceLine) → line_at source g i ≡ Some line
    → IsWordAmong design ends line (word_at design image (slice_index starts g + i))
line_word design source starts ends image p g i line a =
    subst (IsWordAmong design ends line) (sym (word_here design image (slice_index starts g + i) (let lt = line_room design source starts ends image p g i line a in omega arith)))
    (p.held.lines g i line (group_within source g i line a) a)

-- the instruction of a line's word
pub word_instr : (design : Design) (source : Source) (starts ends : List ℕ) (image : Image) → IsPlacement design source starts ends image → (g i : ℕ) (line : SourceLine) → line_at source g i ≡ Some line
    → instr_of design (word_at design image (slice_index starts g + i)) ≡ slice_get design.instrs line.instr
word_instr design source starts ends image p g i line a =
    let f = line_fits design source p.fits g i line a in
    let w = line_word design source starts ends image p g i line a in
    matched_instr design (word_at design image (slice_index starts g + i)) line.instr f.instr f.is_instr
    (record { matches = w.matches; only = λ other m. one_match design p.clean (word_at design image (slice_index starts g + i)) other line.instr m w.matches })
    ∙ sym f.is_instr

pub word_out : (design : Design) (source : Source) (starts ends : List ℕ) (image : Image) → IsPlacement design source starts ends image → (g i : ℕ) (line : SourceLine) → line_at source g i ≡ Some line
    → out_of design (word_at design image (slice_index starts g + i)) ≡ out_of_line design line
word_out design source starts ends image p g i line a = ap (λ o. option_map_or (instr_out design) o 1) (word_instr design source starts ends image p g i line a)

pub word_transfers : (design : Design) (source : Source) (starts ends : List ℕ) (image : Image) → IsPlacement design source starts ends image → (g i : ℕ) (line : SourceLine) → line_at source g i ≡ Some line
    → is_transfer_word design (word_at design image (slice_index starts g + i)) ≡ does_transfer design line.instr
word_transfers design source starts ends image p g i line a = ap (λ o. option_map_or (λ (x : Instr). list_any (λ (m : Micro). is_transfer m.act) x.micros) o false) (word_instr design source starts ends image p g i line a)

pub word_distance : (design : Design) (source : Source) (starts ends : List ℕ) (image : Image) → IsPlacement design source starts ends image → (g i h j : ℕ) (older younger : SourceLine) → line_at source g i ≡ Some older → line_at source h j ≡ Some younger
    → dist_of design (word_at design image (slice_index starts g + i)) (word_at design image (slice_index starts h + j)) ≡ dist_of_lines design older younger
word_distance design source starts ends image p g i h j older younger a b =
    line_distance design p.clean (length source.groups) ends older younger (word_at design image (slice_index starts g + i)) (word_at design image (slice_index starts h + j))
    (line_fits design source p.fits g i older a) (line_fits design source p.fits h j younger b) (line_word design source starts ends image p g i older a) (line_word design source starts ends image p h j younger b)

-- The word of a line, by the places of its labels.

values_same : (design : Design) (source : Source) (starts ends : List ℕ) (instr : Instr) → AreEnds design source starts (length source.groups) ends → (free : List FreeField) (os : List Operand) → length os ≡ length free
    → Each (OperandFits design instr (length source.groups)) (zip free os) → map (value_among ends) os ≡ map (operand_value design source starts) os
values_same design source starts ends instr ended free [] count fit = refl
values_same design source starts ends instr ended [] (o ∷ os) count fit = absurd (omega arith)
values_same design source starts ends instr ended (f ∷ free) (operand.Value v ∷ os) count fit = ap (λ vs. v ∷ vs) (values_same design source starts ends instr ended free os (omega arith) fit.1)
values_same design source starts ends instr ended (f ∷ free) (operand.Landing g ∷ os) count fit =
    ap (λ v. v ∷ map (value_among ends) os) (ended.each g fit.0.0) ∙ ap (λ vs. end_before design source starts g ∷ vs) (values_same design source starts ends instr ended free os (omega arith) fit.1)

pub word_of_line : (design : Design) (source : Source) (starts ends : List ℕ) (image : Image) → IsPlacement design source starts ends image → (g i : ℕ) (line : SourceLine) → line_at source g i ≡ Some line
    → IsWordOfLine design source starts line (word_at design image (slice_index starts g + i))
word_of_line design source starts ends image p g i line a =
    let f = line_fits design source p.fits g i line a in
    subst (λ vs. IsWordOf design line.instr vs (word_at design image (slice_index starts g + i))) (values_same design source starts ends f.instr p.ended (free_places design f.instr) line.operands f.count f.operands)
    (line_word design source starts ends image p g i line a)

-- What stands at a place: a line, or nothing.

pub record IsLineAt (source : Source) (starts : List ℕ) (place : ℕ) : Type 0 where
  pub group : ℕ
  pub number : ℕ
  pub line : SourceLine
  pub is_line : line_at source group number ≡ Some line
  pub at : slice_index starts group + number ≡ place

find_line : (source : Source) (starts : List ℕ) (place count : ℕ) → IsLineAt source starts place ⊎ ((g i : ℕ) → g < count → IsTrue (has_line source g i) → slice_index starts g + i ≡ place → ⊥)
find_line source starts place zero = inr (λ g i lt is at. absurd (omega arith))
find_line source starts place (suc n) = ⊎_elim
    (λ found. inl found)
    (λ none. ⊎_elim
    (λ before. inr (λ g i lt is at. ⊎_elim (λ early. none g i early is at) (λ late. let e : g ≡ n = omega arith in let s = ap (slice_index starts) e in omega arith) (cases_lt g n)))
    (λ from. by none from (line_at source n (place - slice_index starts n)) refl)
    (cases_lt place (slice_index starts n)))
    (find_line source starts place n)
  where
    by : ((g i : ℕ) → g < n → IsTrue (has_line source g i) → slice_index starts g + i ≡ place → ⊥) → slice_index starts n ≤ place → (o : Option SourceLine) → line_at source n (place - slice_index starts n) ≡ o
        → IsLineAt source starts place ⊎ ((g i : ℕ) → g < suc n → IsTrue (has_line source g i) → slice_index starts g + i ≡ place → ⊥)
    by none from (Some line) e = inl (record { group = n; number = place - slice_index starts n; line = line; is_line = e; at = omega arith })
    by none from None e = inr (λ g i lt is at. ⊎_elim
        (λ early. none g i early is at)
        (λ late.
        let same : g ≡ n = omega arith in
        let s = ap (slice_index starts) same in
        let k : i ≡ place - slice_index starts n = omega arith in
        both_ways (has_line source g i) (ap (λ h. is_some (line_at source h i)) same ∙ ap (λ j. is_some (line_at source n j)) k ∙ ap is_some e) is)
        (cases_lt g n))

pub at_place : (design : Design) (source : Source) (starts ends : List ℕ) (image : Image) → IsPlacement design source starts ends image → (place : ℕ) → place < 2 ^ design.address → IsLineAt source starts place ⊎ IsEmptyWord design (word_at design image place)
at_place design source starts ends image p place lt = ⊎_elim
    (λ found. inl found)
    (λ none. inr (empty_word design p.clean (word_at design image place) (subst (IsPlainNop design) (sym (word_here design image place lt)) (p.held.others place lt none))))
    (find_line source starts place (length source.groups))
