-- Going over the lines of a text: the line at a place, those before it, and those from it on.
use Rattle.std.proofs.Common.{◌≡◌, ℕ, suc, ◌+◌, ◌<◌, List, [], ◌∷◌, ◌++◌, length, get_or, take, drop, map, Bool, true, false, refl, sym, ap, ◌∙◌, add-one}
use Rattle.std.specs.List.{list_any}
use Rattle.std.proofs.Math.ListN.{length-map}
use Rattle.std.proofs.Math.Seq.{drop-cons}
use Rattle.std.proofs.lemmas.List.{take-append-drop, take_more}
use Rattle.std.proofs.lemmas.List.Folds.{list_any_at, list_any_more}
use Rattle.ap_text.specs.declared.line.Line.{Line}
use Rattle.ap_text.specs.Lines.{TextLine}
use Rattle.ap_text.specs.Spans.{line_in}
use Rattle.ap_text.proofs.Laws.{get_or-map-line_in}

-- the rest of a list begins with the element there
pub rest_from : {X : Type 0} (xs : List X) (i : ℕ) (x : X) → i < length xs → get_or xs i x ≡ x → drop i xs ≡ x ∷ drop (i + 1) xs
rest_from xs i x lt e = rw add-one (drop-cons xs i x lt ∙ ap (λ y. y ∷ drop (suc i) xs) e)

-- a line of a list, as one of the lines that they stand for
pub view_at : (text : List ℕ) (lines : List Line) (i : ℕ) (line : Line) → i < length lines → line ≡ get_or lines i line → get_or (map (line_in text) lines) i (line_in text line) ≡ line_in text line
view_at text lines i line lt is = get_or-map-line_in text lines i line (line_in text line) lt is

pub view_there : (text : List ℕ) (lines : List Line) (i : ℕ) → i < length lines → i < length (map (line_in text) lines)
view_there text lines i lt = simp length-map lt

pub drop_at : (text : List ℕ) (lines : List Line) (i : ℕ) (line : Line) → i < length lines → line ≡ get_or lines i line → drop i (map (line_in text) lines) ≡ line_in text line ∷ drop (i + 1) (map (line_in text) lines)
drop_at text lines i line lt is = rest_from (map (line_in text) lines) i (line_in text line) (view_there text lines i lt) (view_at text lines i line lt is)

pub take_at : (text : List ℕ) (lines : List Line) (i : ℕ) (line : Line) → i < length lines → line ≡ get_or lines i line → take (i + 1) (map (line_in text) lines) ≡ take i (map (line_in text) lines) ++ line_in text line ∷ []
take_at text lines i line lt is = take_more (map (line_in text) lines) i (line_in text line) (view_there text lines i lt) ∙ ap (λ l. take i (map (line_in text) lines) ++ l ∷ []) (view_at text lines i line lt is)

-- the test fails of one more line
pub none_more : (p : TextLine → Bool) (text : List ℕ) (lines : List Line) (i : ℕ) (line : Line) → i < length lines → line ≡ get_or lines i line → list_any p (take i (map (line_in text) lines)) ≡ false → p (line_in text line) ≡ false → list_any p (take (i + 1) (map (line_in text) lines)) ≡ false
none_more p text lines i line lt is none fails =
    let more = list_any_more p (map (line_in text) lines) i (line_in text line) (view_there text lines i lt) in
    let last = ap p (view_at text lines i line lt is) ∙ fails in
    rw (more, none, last) refl

-- the test holds of a line
pub some_one : (p : TextLine → Bool) (text : List ℕ) (lines : List Line) (i : ℕ) (line : Line) → i < length lines → line ≡ get_or lines i line → p (line_in text line) ≡ true → list_any p (map (line_in text) lines) ≡ true
some_one p text lines i line lt is holds = list_any_at p (map (line_in text) lines) i (line_in text line) (view_there text lines i lt) (ap p (view_at text lines i line lt is) ∙ holds)

-- the lines before a line, the line, and those after it
pub split_at : (text : List ℕ) (lines : List Line) (i : ℕ) (line : Line) → i < length lines → line ≡ get_or lines i line → map (line_in text) lines ≡ take i (map (line_in text) lines) ++ line_in text line ∷ drop (i + 1) (map (line_in text) lines)
split_at text lines i line lt is = sym (take-append-drop i (map (line_in text) lines)) ∙ ap (λ l. take i (map (line_in text) lines) ++ l) (drop_at text lines i line lt is)
