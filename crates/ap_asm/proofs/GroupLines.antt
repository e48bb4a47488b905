-- The lines of a program's groups, and where groups end.
use Rattle.std.proofs.Common.{◌≡◌, ℕ, zero, suc, ◌+◌, ◌<◌, ◌≤◌, Bool, true, false, List, length, Option, Some, None, is_some, refl, sym, ap, subst, ◌∙◌, arith, ⊎_elim}
use Rattle.std.specs.Prelude.{IsTrue, if◌then◌else◌, option_and_then, slice_get, slice_index}
use Rattle.std.specs.Option.{option_map_or}
use Rattle.std.proofs.lemmas.Bool.{cases_lt}
use Rattle.std.proofs.lemmas.Option.{same_Some, slice_get_within}
use Rattle.ap_desc.specs.declared.design.Design.{Design}
use Rattle.ap_dist.specs.LeastStarts.{drain_of}
use Rattle.ap_dist.specs.Places.{does_transfer, end_before, group_length, has_line, line_at, lines_of_group}
use Rattle.ap_dist.specs.declared.source.Group.{Group}
use Rattle.ap_dist.specs.declared.source.Source.{Source}
use Rattle.ap_dist.specs.declared.source.SourceLine.{SourceLine}
use Rattle.ap_dist.proofs.Matched.{each_here}
use Rattle.ap_program.specs.Fits.{GroupFits, LineFits, SourceFits}
use Rattle.ap_asm.proofs.Besides.{item_there}
use Rattle.ap_asm.specs.LinePlaces.{HasFullImage, IsLeastPlace, MayStand, dist_of_lines, number_at, out_of_line}

-- the group of a line
pub record IsLineOf (source : Source) (g i : ℕ) (line : SourceLine) : Type 0 where
  pub group : Group
  pub is_group : slice_get source.groups g ≡ Some group
  pub is_line : slice_get (lines_of_group group) i ≡ Some line

pub line_of : (source : Source) (g i : ℕ) (line : SourceLine) → line_at source g i ≡ Some line → IsLineOf source g i line
line_of source g i line e = by (slice_get source.groups g) refl e
  where
    by : (o : Option Group) → slice_get source.groups g ≡ o → option_and_then (λ (x : Group). slice_get (lines_of_group x) i) o ≡ Some line → IsLineOf source g i line
    by None is h = absurd cc
    by (Some x) is h = record { group = x; is_group = is; is_line = h }

pub line_from : (source : Source) (g i : ℕ) (x : Group) (line : SourceLine) → slice_get source.groups g ≡ Some x → slice_get (lines_of_group x) i ≡ Some line → line_at source g i ≡ Some line
line_from source g i x line is there = ap (λ o. option_and_then (λ (y : Group). slice_get (lines_of_group y) i) o) is ∙ there

-- the same line of the same group
pub line_in : (source : Source) (g i : ℕ) (x : Group) (line : SourceLine) → slice_get source.groups g ≡ Some x → line_at source g i ≡ Some line → slice_get (lines_of_group x) i ≡ Some line
line_in source g i x line is e = sym (ap (λ o. option_and_then (λ (y : Group). slice_get (lines_of_group y) i) o) is) ∙ e

-- the line at a place that has one
pub record IsLine (source : Source) (g i : ℕ) : Type 0 where
  pub line : SourceLine
  pub is_line : line_at source g i ≡ Some line

pub there : (source : Source) (g i : ℕ) → IsTrue (has_line source g i) → IsLine source g i
there source g i is = by (line_at source g i) refl is
  where
    by : (o : Option SourceLine) → line_at source g i ≡ o → is_some o ≡ true → IsLine source g i
    by None e h = absurd cc
    by (Some line) e h = record { line = line; is_line = e }

pub group_fits : (design : Design) (source : Source) → SourceFits design source → (g : ℕ) (x : Group) → slice_get source.groups g ≡ Some x → GroupFits design (length source.groups) x
group_fits design source fits g x at = each_here (GroupFits design (length source.groups)) source.groups fits.groups g x at

pub line_fits : (design : Design) (source : Source) → SourceFits design source → (g i : ℕ) (line : SourceLine) → line_at source g i ≡ Some line → LineFits design (length source.groups) line
line_fits design source fits g i line e = by i l.is_line
  where
    l : IsLineOf source g i line
    l = line_of source g i line e

    f : GroupFits design (length source.groups) l.group
    f = group_fits design source fits g l.group l.is_group

    by : (j : ℕ) → slice_get (lines_of_group l.group) j ≡ Some line → LineFits design (length source.groups) line
    by zero there = subst (LineFits design (length source.groups)) (same_Some l.group.first line there) f.first
    by (suc j) there = each_here (LineFits design (length source.groups)) l.group.in_slots f.slots j line there

-- a line stands within its group
pub line_within : (design : Design) (groups : ℕ) (x : Group) → GroupFits design groups x → (i : ℕ) (line : SourceLine) → slice_get (lines_of_group x) i ≡ Some line → i < group_length design x
line_within design groups x fits i line at = (let lt = slice_get_within (lines_of_group x) i line at in let room = fits.room in omega arith)

pub end_of : (design : Design) (source : Source) (starts : List ℕ) (g : ℕ) (x : Group) → slice_get source.groups g ≡ Some x → end_before design source starts (suc g) ≡ slice_index starts g + group_length design x
end_of design source starts g x at = ap (λ o. slice_index starts g + option_map_or (group_length design) o 0) at

pub line_before_end : (design : Design) (source : Source) (starts : List ℕ) → SourceFits design source → (g i : ℕ) (line : SourceLine) → line_at source g i ≡ Some line → slice_index starts g + i < end_before design source starts (suc g)
line_before_end design source starts fits g i line e =
    let l = line_of source g i line e in
    let lt = line_within design (length source.groups) l.group (group_fits design source fits g l.group l.is_group) i line l.is_line in
    let same = end_of design source starts g l.group l.is_group in
    omega arith

pub one_long : (design : Design) (x : Group) → 1 ≤ group_length design x
one_long design x = by (does_transfer design x.first.instr)
  where
    by : (b : Bool) → 1 ≤ (if b then design.slots + 1 else 1)
    by true = omega arith
    by false = omega arith

-- each of the first so many groups stands behind those before it
abbrev pub AreStacked : Design → Source → List ℕ → ℕ → Type 0
AreStacked design source starts count = (g : ℕ) → g < count → end_before design source starts g ≤ slice_index starts g

pub ends_rise : (design : Design) (source : Source) (starts : List ℕ) (count : ℕ) → AreStacked design source starts count → (g h : ℕ) → g ≤ h → h ≤ count → end_before design source starts g ≤ end_before design source starts h
ends_rise design source starts count stacked g zero le top = (let e : g ≡ 0 = omega arith in subst (λ x. end_before design source starts x ≤ 0) (sym e) (omega arith))
ends_rise design source starts count stacked g (suc h) le top = ⊎_elim
    (λ early. let a = ends_rise design source starts count stacked g h (omega arith) (omega arith) in let b = stacked h (omega arith) in omega arith)
    (λ late. let e : g ≡ suc h = omega arith in subst (λ x. end_before design source starts x ≤ end_before design source starts (suc h)) (sym e) (omega arith))
    (cases_lt g (suc h))

pub ends_grow : (design : Design) (source : Source) (starts : List ℕ) (count : ℕ) → AreStacked design source starts count → count ≤ length source.groups → (g h : ℕ) → g < h → h ≤ count → end_before design source starts g < end_before design source starts h
ends_grow design source starts count stacked few g h lt top =
    let x = item_there source.groups g (omega arith) in
    let a = stacked g (omega arith) in
    let e = end_of design source starts g x.0 x.1 in
    let one = one_long design x.0 in
    let b = ends_rise design source starts count stacked (suc g) h (omega arith) top in
    omega arith

-- a line of an earlier group stands before a later group
pub line_below : (design : Design) (source : Source) (starts : List ℕ) (count : ℕ) → SourceFits design source → AreStacked design source starts count → (g h i : ℕ) (line : SourceLine) → g < h → h < count → line_at source g i ≡ Some line
    → slice_index starts g + i < end_before design source starts h
line_below design source starts count fits stacked g h i line lt top e =
    let a = line_before_end design source starts fits g i line e in
    let b = ends_rise design source starts count stacked (suc g) h (omega arith) (omega arith) in
    omega arith

-- What a group may do depends on the starts before it alone.

abbrev pub IsSameBelow : List ℕ → List ℕ → ℕ → Type 0
IsSameBelow starts other count = (h : ℕ) → h < count → slice_index starts h ≡ slice_index other h

pub end_same : (design : Design) (source : Source) (starts other : List ℕ) (g : ℕ) → IsSameBelow starts other g → end_before design source starts g ≡ end_before design source other g
end_same design source starts other zero same = refl
end_same design source starts other (suc g) same = ap (λ n. n + option_map_or (group_length design) (slice_get source.groups g) 0) (same g (omega arith))

pub may_same : (design : Design) (source : Source) (starts other : List ℕ) (drain g place : ℕ) → IsSameBelow starts other g → MayStand design source starts drain g place → MayStand design source other drain g place
may_same design source starts other drain g place same may = record {
  behind = subst (λ n. n ≤ place) (end_same design source starts other g same) may.behind;
  drained = λ is. subst (λ n. n + drain ≤ place) (end_same design source starts other g same) (may.drained is);
  apart = λ h i j older younger lt a b. subst (λ n. dist_of_lines design older younger + (n + i) ≤ place + j) (same h lt) (may.apart h i j older younger lt a b);
  taken = λ h i older lt a is. subst (λ n. out_of_line design older + (n + i) ≤ design.branch + 1 + drain + place) (same h lt) (may.taken h i older lt a is);
}

pub may_later : (design : Design) (source : Source) (starts : List ℕ) (drain g place later : ℕ) → place ≤ later → MayStand design source starts drain g place → MayStand design source starts drain g later
may_later design source starts drain g place later le may = record {
  behind = (let h = may.behind in omega arith);
  drained = λ is. (let h = may.drained is in omega arith);
  apart = λ h i j older younger lt a b. (let one = may.apart h i j older younger lt a b in omega arith);
  taken = λ h i older lt a is. (let one = may.taken h i older lt a is in omega arith);
}

pub least_same : (design : Design) (source : Source) (starts other : List ℕ) (drain g : ℕ) → IsSameBelow starts other (suc g) → IsLeastPlace design source starts drain g → IsLeastPlace design source other drain g
least_same design source starts other drain g same least = record {
  may = subst (λ p. MayStand design source other drain g p) (same g (omega arith)) (may_same design source starts other drain g (slice_index starts g) (λ h lt. same h (omega arith)) least.may);
  least = λ place e may. least.least place (e ∙ sym (same g (omega arith))) (may_same design source other starts drain g place (λ h lt. sym (same h (omega arith))) may);
}

-- So the least starts are those of one list.

not_below : (design : Design) (source : Source) (starts other : List ℕ) (drain g : ℕ) → IsSameBelow starts other g → IsLeastPlace design source starts drain g → IsLeastPlace design source other drain g → slice_index starts g < slice_index other g → ⊥
not_below design source starts other drain g same one two lt = by (slice_index other g) refl lt
  where
    by : (n : ℕ) → slice_index other g ≡ n → slice_index starts g < n → ⊥
    by zero e below = omega arith
    by (suc p) e below = two.least p (sym e) (may_later design source other drain g (slice_index starts g) p (omega arith) (may_same design source starts other drain g (slice_index starts g) same one.may))

least_equal : (design : Design) (source : Source) (starts other : List ℕ) (drain g : ℕ) → IsSameBelow starts other g → IsLeastPlace design source starts drain g → IsLeastPlace design source other drain g → slice_index starts g ≡ slice_index other g
least_equal design source starts other drain g same one two = ⊎_elim
    (λ lt. absurd (not_below design source starts other drain g same one two lt))
    (λ le. ⊎_elim
    (λ gt. absurd (not_below design source other starts drain g (λ h lt. sym (same h lt)) two one gt))
    (λ ge. omega arith)
    (cases_lt (slice_index other g) (slice_index starts g)))
    (cases_lt (slice_index starts g) (slice_index other g))

pub one_list : (design : Design) (source : Source) (starts other : List ℕ) (drain n : ℕ) → ((g : ℕ) → g < n → IsLeastPlace design source starts drain g) → ((g : ℕ) → g < n → IsLeastPlace design source other drain g) → IsSameBelow starts other n
one_list design source starts other drain zero one two h lt = absurd (omega arith)
one_list design source starts other drain (suc n) one two h lt =
    let before : IsSameBelow starts other n = one_list design source starts other drain n (λ g l. one g (omega arith)) (λ g l. two g (omega arith)) in
    ⊎_elim
    (λ early. before h early)
    (λ late. let e : h ≡ n = omega arith in subst (λ k. slice_index starts k ≡ slice_index other k) (sym e) (least_equal design source starts other drain n before (one n (omega arith)) (two n (omega arith))))
    (cases_lt h n)

-- and the image is full at one line
no_sooner : (design : Design) (source : Source) (numbers : List (List ℕ)) (m n : ℕ) (one : HasFullImage design source numbers m) (two : HasFullImage design source numbers n) → one.group < two.group → ⊥
no_sooner design source numbers m n one two lt =
    let same = one_list design source one.starts two.starts (drain_of design source) (suc one.group) (λ g l. one.least g (omega arith)) (λ g l. two.least g (omega arith)) in
    let e = end_same design source one.starts two.starts (suc one.group) same in
    let beyond = one.beyond in
    let within = two.within (suc one.group) (omega arith) in
    omega arith

pub full_once : (design : Design) (source : Source) (numbers : List (List ℕ)) (m n : ℕ) → HasFullImage design source numbers m → HasFullImage design source numbers n → m ≡ n
full_once design source numbers m n one two = ⊎_elim
    (λ lt. absurd (no_sooner design source numbers m n one two lt))
    (λ le. ⊎_elim
    (λ gt. absurd (no_sooner design source numbers n m two one gt))
    (λ ge. let e : one.group ≡ two.group = omega arith in same_Some m n (sym one.at ∙ ap (λ g. number_at numbers g 0) e ∙ two.at))
    (cases_lt two.group one.group))
    (cases_lt one.group two.group)
