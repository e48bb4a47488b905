-- Laws for readers that go over the lines of a text: of the line at a place, as a loop or a read gives it.
use Rattle.std.proofs.Common.{◌≡◌, ℕ, ◌<◌, List, length, get_or, map, sym, ap, ◌∙◌, subst}
use Rattle.std.proofs.lemmas.List.{get_or-map}
use Rattle.ap_text.specs.declared.line.Line.{Line}
use Rattle.ap_text.specs.Lines.{TextLine}
use Rattle.ap_text.specs.Spans.{IsLineWithin, AreLinesWithin, line_in}

-- its tokens are parts of the text
pub IsLineWithin-item : (text : List ℕ) (lines : List Line) (i : ℕ) (line : Line) → i < length lines → line ≡ get_or lines i line → AreLinesWithin text lines → IsLineWithin text line
IsLineWithin-item text lines i line inside is all = subst (λ l. IsLineWithin text l) (sym is) (all.each i line inside)

-- it stands at that place
pub get_or-map-line_in : (text : List ℕ) (lines : List Line) (i : ℕ) (line : Line) (d : TextLine) → i < length lines → line ≡ get_or lines i line → get_or (map (line_in text) lines) i d ≡ line_in text line
get_or-map-line_in text lines i line d inside is = get_or-map (line_in text) lines i line d inside ∙ ap (line_in text) (sym is)

pub ruleset laws = (IsLineWithin-item, get_or-map-line_in)
