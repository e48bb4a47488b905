-- The first line that has a fault, behind lines that have none, has the least fault of all.
use Rattle.std.proofs.Common.{◌≡◌, ℕ, ◌+◌, ◌<◌, ◌≤◌, true, false, List, [], ◌∷◌, ◌++◌, length, get_or, take, drop, Some, None, refl, sym, ap, subst, ◌∙◌, arith, ⊎_elim}
use Rattle.std.proofs.lemmas.Bool.{both_ways, cases_lt}
use Rattle.std.proofs.lemmas.List.{length-take, take-append-drop, take_more}
use Rattle.ap_desc.specs.declared.design.Design.{Design}
use Rattle.ap_program.specs.AsmKinds.{IsLeastOf, number_of}
use Rattle.ap_program.specs.LineFaults.{AreFaultless, HasLineFault, LinesRise, first_fault, line_fault}
use Rattle.ap_program.specs.Labels.{landing_among}
use Rattle.ap_program.specs.Programs.{landing_of}
use Rattle.ap_program.specs.declared.fault.AsmKind.{AsmKind}
use Rattle.ap_program.specs.declared.statement.ProgramLine.{ProgramLine}
use Rattle.ap_program.proofs.FirstKinds.{IsLeastKind, first_is_least, none_is_first}
use Rattle.ap_program.proofs.SourceLines.{rest_at, rest_from}

-- the lines before this place have no fault
abbrev pub AreFineBefore : Design → List ProgramLine → ℕ → Type 0
AreFineBefore design lines i =
    (before : List ProgramLine) (line : ProgramLine) (after : List ProgramLine) → lines ≡ before ++ line ∷ after → length before < i → (kind : AsmKind) → line_fault design before line after kind ≡ false

-- two ways to cut a list at one place are one
record IsSameCut {X : Type 0} (before : List X) (line : X) (after front : List X) (here : X) (rest : List X) : Type 0 where
  same_before : before ≡ front
  same_line : line ≡ here
  same_after : after ≡ rest

cut_more : {X : Type 0} (x y : X) (before : List X) (line : X) (after front : List X) (here : X) (rest : List X) → x ≡ y → IsSameCut before line after front here rest → IsSameCut (x ∷ before) line after (y ∷ front) here rest
cut_more x y before line after front here rest e h = record { same_before = ap (λ z. z ∷ before) e ∙ ap (λ zs. y ∷ zs) h.same_before; same_line = h.same_line; same_after = h.same_after }

same_cut : {X : Type 0} (before : List X) (line : X) (after front : List X) (here : X) (rest : List X) → before ++ line ∷ after ≡ front ++ here ∷ rest → length before ≡ length front → IsSameCut before line after front here rest
same_cut [] line after [] here rest e same = record { same_before = refl; same_line = cc; same_after = cc }
same_cut [] line after (y ∷ front) here rest e same = absurd (omega arith)
same_cut (x ∷ before) line after [] here rest e same = absurd (omega arith)
same_cut (x ∷ before) line after (y ∷ front) here rest e same = (let head : x ≡ y = cc in let tail : before ++ line ∷ after ≡ front ++ here ∷ rest = cc in let count : length before ≡ length front = omega arith in cut_more x y before line after front here rest head (same_cut before line after front here rest tail count))

above_low : (n : ℕ) (before : List ProgramLine) (line : ProgramLine) (after : List ProgramLine) → LinesRise n (before ++ line ∷ after) → n < line.number
above_low n [] line after h = h.0
above_low n (x ∷ before) line after h = let lt = above_low x.number before line after h.1 in let first = h.0 in omega arith

-- a line behind another has a greater number
number_above : (n : ℕ) (before : List ProgramLine) (line : ProgramLine) (after front : List ProgramLine) (here : ProgramLine) (rest : List ProgramLine) → LinesRise n (before ++ line ∷ after) → before ++ line ∷ after ≡ front ++ here ∷ rest → length front < length before → here.number < line.number
number_above n [] line after front here rest rise e lt = absurd (omega arith)
number_above n (x ∷ before) line after [] here rest rise e lt =
    let same : x ≡ here = cc in let less = above_low x.number before line after rise.1 in let is : x.number ≡ here.number = ap (λ (l : ProgramLine). l.number) same in omega arith
number_above n (x ∷ before) line after (y ∷ front) here rest rise e lt = (let tail : before ++ line ∷ after ≡ front ++ here ∷ rest = cc in let less : length front < length before = omega arith in number_above x.number before line after front here rest rise.1 tail less)

-- why the line is the least: its number is no greater than that of any line with a fault, and at its number it has the least kind
least_here : (design : Design) (lines front : List ProgramLine) (here : ProgramLine) (rest : List ProgramLine) (i : ℕ) (kind : AsmKind) → lines ≡ front ++ here ∷ rest → length front ≡ i → LinesRise 0 lines → AreFineBefore design lines i → IsLeastKind (line_fault design front here rest) kind
    → (other : AsmKind) (number : ℕ) (h : HasLineFault design lines other number) → (here.number ≤ number) × (number ≡ here.number → number_of kind ≤ number_of other)
least_here design lines front here rest i kind e at rise fine least other number h = ⊎_elim
    (λ early. absurd (both_ways (line_fault design h.before h.line h.after other) (fine h.before h.line h.after h.among early other) h.holds))
    (λ late. ⊎_elim
    (λ behind.
    let less : here.number < h.line.number = number_above 0 h.before h.line h.after front here rest (subst (LinesRise 0) h.among rise) (sym h.among ∙ e) (omega arith) in
    let is = h.at in
    (omega arith, λ same. absurd (omega arith)))
    (λ not_behind.
    let one = same_cut h.before h.line h.after front here rest (sym h.among ∙ e) (omega arith) in
    let is : number ≡ here.number = sym h.at ∙ ap (λ (l : ProgramLine). l.number) one.same_line in
    (omega arith, λ same. least.least other (cut_holds h.before h.line h.after one h.holds)))
    (cases_lt i (length h.before)))
    (cases_lt (length h.before) i)
  where
    cut_holds : (b : List ProgramLine) (l : ProgramLine) (a : List ProgramLine) → IsSameCut b l a front here rest → line_fault design b l a other ≡ true → line_fault design front here rest other ≡ true
    cut_holds b l a s holds = rw (← s.same_before, ← s.same_line, ← s.same_after) holds

-- the first line that has a fault has the least one
pub least_of_lines : (design : Design) (lines front : List ProgramLine) (here : ProgramLine) (rest : List ProgramLine) (i : ℕ) (kind : AsmKind) → lines ≡ front ++ here ∷ rest → length front ≡ i → LinesRise 0 lines → AreFineBefore design lines i
    → IsLeastKind (line_fault design front here rest) kind → IsLeastOf (HasLineFault design lines) kind here.number
least_of_lines design lines front here rest i kind e at rise fine least = record {
  holds = record { before = front; line = here; after = rest; among = e; at = refl; holds = least.holds };
  first = λ other number h. (least_here design lines front here rest i kind e at rise fine least other number h).0;
  least = λ other h. (least_here design lines front here rest i kind e at rise fine least other here.number h).1 refl;
}

-- one more line without fault
pub fine_more : (design : Design) (lines front : List ProgramLine) (here : ProgramLine) (rest : List ProgramLine) (i : ℕ) → lines ≡ front ++ here ∷ rest → length front ≡ i → AreFineBefore design lines i → ((kind : AsmKind) → line_fault design front here rest kind ≡ false) → AreFineBefore design lines (i + 1)
fine_more design lines front here rest i e at fine none before line after among lt kind = ⊎_elim
    (λ early. fine before line after among early kind)
    (λ late. let one = same_cut before line after front here rest (sym among ∙ e) (omega arith) in rw (one.same_before, one.same_line, one.same_after) (none kind))
    (cases_lt (length before) i)

pub fine_none : (design : Design) (lines : List ProgramLine) → AreFineBefore design lines 0
fine_none design lines before line after among lt kind = absurd (omega arith)

shorter : {X : Type 0} (before : List X) (line : X) (after : List X) → length before < length (before ++ line ∷ after)
shorter [] line after = omega arith
shorter (x ∷ before) line after = let lt = shorter before line after in omega arith

-- where all lines are fine, there is no fault
pub all_fine : (design : Design) (lines : List ProgramLine) (i : ℕ) → length lines ≤ i → AreFineBefore design lines i → AreFaultless design lines
all_fine design lines i e fine kind number h =
    let lt : length h.before < i = (let s = shorter h.before h.line h.after in let whole : length lines ≡ length (h.before ++ h.line ∷ h.after) = ap length h.among in omega arith) in
    both_ways (line_fault design h.before h.line h.after kind) (fine h.before h.line h.after h.among lt kind) h.holds

-- the lines before one, the line, and those behind it
pub split_at : (lines : List ProgramLine) (i : ℕ) (line : ProgramLine) → i < length lines → line ≡ get_or lines i line → lines ≡ take i lines ++ line ∷ drop (i + 1) lines
split_at lines i line lt is = sym (take-append-drop i lines) ∙ ap (λ ls. take i lines ++ ls) (rest_from lines i line lt is)

pub split_read : (lines : List ProgramLine) (i : ℕ) (d : ProgramLine) → i < length lines → lines ≡ take i lines ++ get_or lines i d ∷ drop (i + 1) lines
split_read lines i d lt = sym (take-append-drop i lines) ∙ ap (λ ls. take i lines ++ ls) (rest_at lines i d lt)

front_length : (lines : List ProgramLine) (i : ℕ) → i < length lines → length (take i lines) ≡ i
front_length lines i lt = length-take i lines ∙ (omega arith)

-- the first fault of the first line that has one
pub judged : (design : Design) (lines : List ProgramLine) (i : ℕ) (line : ProgramLine) (kind : AsmKind) → i < length lines → lines ≡ take i lines ++ line ∷ drop (i + 1) lines → LinesRise 0 lines → AreFineBefore design lines i
    → Some kind ≡ first_fault design (take i lines) line (drop (i + 1) lines) → IsLeastOf (HasLineFault design lines) kind line.number
judged design lines i line kind lt split rise fine e =
    least_of_lines design lines (take i lines) line (drop (i + 1) lines) i kind split (front_length lines i lt) rise fine (first_is_least design (take i lines) line (drop (i + 1) lines) kind (sym e))

pub judged_fine : (design : Design) (lines : List ProgramLine) (i : ℕ) (line : ProgramLine) → i < length lines → lines ≡ take i lines ++ line ∷ drop (i + 1) lines → AreFineBefore design lines i → None ≡ first_fault design (take i lines) line (drop (i + 1) lines) → AreFineBefore design lines (i + 1)
judged_fine design lines i line lt split fine e = fine_more design lines (take i lines) line (drop (i + 1) lines) i split (front_length lines i lt) fine (none_is_first design (take i lines) line (drop (i + 1) lines) (sym e))

-- the labels of all lines are those of the lines before one, the line, and those behind it
pub labels_of_split : (labels : List (List ℕ × ℕ)) (lines : List ProgramLine) (i : ℕ) (line : ProgramLine) → lines ≡ take i lines ++ line ∷ drop (i + 1) lines → ((name : List ℕ) → landing_among labels name ≡ landing_of name lines)
    → (name : List ℕ) → landing_among labels name ≡ landing_of name (take i lines ++ line ∷ drop (i + 1) lines)
labels_of_split labels lines i line split h name = h name ∙ ap (landing_of name) split

pub one_taken : (lines : List ProgramLine) (i : ℕ) (line : ProgramLine) → i < length lines → line ≡ get_or lines i line → take (i + 1) lines ≡ take i lines ++ line ∷ []
one_taken lines i line lt is = take_more lines i line lt ∙ ap (λ l. take i lines ++ l ∷ []) (sym is)
