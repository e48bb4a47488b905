-- Going over the lines of a text: a line, those before it and those after it.
use Rattle.std.proofs.Common.{◌≡◌, ℕ, ◌+◌, ◌<◌, List, [], ◌∷◌, ◌++◌, length, get_or, take, drop, map, sym, ap, ◌∙◌, add-one}
use Rattle.std.proofs.Math.ListN.{length-map}
use Rattle.std.proofs.Math.Seq.{drop-cons}
use Rattle.std.proofs.lemmas.List.{take-append-drop, take_more}
use Rattle.ap_text.specs.declared.line.Line.{Line}
use Rattle.ap_text.specs.Spans.{line_in}
use Rattle.ap_text.proofs.Laws.{get_or-map-line_in}

view_there : (text : List ℕ) (lines : List Line) (i : ℕ) → i < length lines → i < length (map (line_in text) lines)
view_there text lines i lt = simp length-map lt

-- one more line
pub take_at : (text : List ℕ) (lines : List Line) (i : ℕ) (line : Line) → i < length lines → line ≡ get_or lines i line → take (i + 1) (map (line_in text) lines) ≡ take i (map (line_in text) lines) ++ line_in text line ∷ []
take_at text lines i line lt is = take_more (map (line_in text) lines) i (line_in text line) (view_there text lines i lt) ∙ ap (λ l. take i (map (line_in text) lines) ++ l ∷ []) (get_or-map-line_in text lines i line (line_in text line) lt is)

-- the lines before a line, the line, and those after it
pub split_at : (text : List ℕ) (lines : List Line) (i : ℕ) (line : Line) → i < length lines → line ≡ get_or lines i line → map (line_in text) lines ≡ take i (map (line_in text) lines) ++ line_in text line ∷ drop (i + 1) (map (line_in text) lines)
split_at text lines i line lt is = sym (take-append-drop i (map (line_in text) lines)) ∙ ap (λ l. take i (map (line_in text) lines) ++ l) (rest ∙ ap (λ l. l ∷ drop (i + 1) (map (line_in text) lines)) (get_or-map-line_in text lines i line (line_in text line) lt is)) where
  rest : drop i (map (line_in text) lines) ≡ get_or (map (line_in text) lines) i (line_in text line) ∷ drop (i + 1) (map (line_in text) lines)
  rest = rw add-one (drop-cons (map (line_in text) lines) i (line_in text line) (view_there text lines i lt))
