-- Spans of a text, and what they stand for in it.
use Rattle.std.specs.Prelude.{ℕ, ◌≤◌, ◌==◌, ◌&&◌, List, [], ◌∷◌, length, map, slice_range, All, nat_lt, if◌then◌else◌}
use Rattle.ap_text.specs.Lines.{TextLine}
use Rattle.ap_text.specs.declared.line.Span.{Span}
use Rattle.ap_text.specs.declared.line.Line.{Line}

-- the span is a part of the text
pub record IsWithin (text : List ℕ) (span : Span) : Type 0 where
  pub order : span.from ≤ span.to
  pub room : span.to ≤ length text

-- its bytes
abbrev pub bytes_in : List ℕ → Span → List ℕ
bytes_in text span = slice_range text span.from span.to

-- what stands of a part between blanks in the list: nothing where it is empty
abbrev pub unless_empty : Span → List Span
unless_empty part = if nat_lt part.from part.to then part ∷ [] else []

-- each token of the line is a part of the text
pub record IsLineWithin (text : List ℕ) (line : Line) : Type 0 where
  pub tokens : All (IsWithin text) line.tokens

-- and so is each token of each line
pub record AreLinesWithin (text : List ℕ) (lines : List Line) : Type 0 where
  pub each : All (IsLineWithin text) lines

-- a line whose tokens are spans, as its reader sees it
abbrev pub line_in : List ℕ → Line → TextLine
line_in text line = record { number = line.number; tokens = map (bytes_in text) line.tokens; clean = line.clean }

-- what stands of a line in the list: nothing where it has neither a token nor a bad byte
abbrev pub unless_bare : Line → List Line
unless_bare line = if (length line.tokens == 0) && line.clean then [] else line ∷ []
