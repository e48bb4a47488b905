-- The lines of a text, as far as a loop has come that cuts it at its line feeds.
use Rattle.std.proofs.Common.{◌≡◌, ℕ, ◌+◌, ◌<◌, ◌≤◌, ◌&&◌, ◌==◌, not, Bool, true, false, cond, List, [], ◌∷◌, ◌++◌, length, get_or, map, filter, All, slice_range, refl, sym, ap, ◌∙◌, arith}
use Rattle.std.specs.List.{slice_split}
use Rattle.std.proofs.lemmas.List.{map-append, append_assoc, append-nil}
use Rattle.std.proofs.lemmas.List.Elements.{All-push}
use Rattle.ap_text.specs.declared.line.Line.{Line}
use Rattle.ap_text.specs.Lines.{has_no_token, is_line_feed, is_skipped, lines_from, lines_of, numbered_from, text_line, unless_skipped}
use Rattle.ap_text.specs.Spans.{IsLineWithin, bytes_in, line_in, unless_bare}
use Rattle.ap_text.proofs.Cuts.{NoneBetween, none_between_same, none_between_more, slice_split_part, slice_split_last}

-- the lines so far, where the line that is read now has this number, began at this place and has no line feed yet
pub record LinesSoFar (text : List ℕ) (lines : List Line) (number from at : ℕ) : Type 0 where
  pub order : from ≤ at
  pub count : number ≤ from + 1
  pub none : NoneBetween is_line_feed text from at
  pub gives : map (line_in text) lines ++ lines_from number (slice_range text from (length text)) ≡ lines_of text
  pub within : All (IsLineWithin text) lines

-- the first line of what is left, and the others
filter-numbered : (number : ℕ) (line : List ℕ) (others : List (List ℕ)) → filter (λ l. not (is_skipped l)) (numbered_from number (line ∷ others)) ≡ unless_skipped (text_line number line) ++ filter (λ l. not (is_skipped l)) (numbered_from (number + 1) others)
filter-numbered number line others = by_case (is_skipped (text_line number line)) where
  by_case : (b : Bool) → cond (not b) (text_line number line ∷ filter (λ l. not (is_skipped l)) (numbered_from (number + 1) others)) (filter (λ l. not (is_skipped l)) (numbered_from (number + 1) others)) ≡ cond (not b) (text_line number line ∷ []) [] ++ filter (λ l. not (is_skipped l)) (numbered_from (number + 1) others)
  by_case true = refl
  by_case false = refl

-- a line of spans has no token where it has no span
has_no_token-map : {A : Type 0} (f : A → List ℕ) (xs : List A) → has_no_token (map f xs) ≡ (length xs == 0)
has_no_token-map f [] = refl
has_no_token-map f (x ∷ xs) = grind arith

-- a line of spans stands in the list where the line that it stands for does
map-unless_bare : (text : List ℕ) (line : Line) → map (line_in text) (unless_bare line) ≡ unless_skipped (line_in text line)
map-unless_bare text line = rw (has_no_token-map (bytes_in text) line.tokens) (by_case ((length line.tokens == 0) && line.clean)) where
  by_case : (b : Bool) → map (line_in text) (cond b [] (line ∷ [])) ≡ cond (not b) (line_in text line ∷ []) []
  by_case true = refl
  by_case false = refl

-- so one more line of spans adds the line that it stands for
map-line_added : (text : List ℕ) (lines : List Line) (line : Line) (number : ℕ) (bytes : List ℕ) → line_in text line ≡ text_line number bytes → map (line_in text) (lines ++ unless_bare line) ≡ map (line_in text) lines ++ unless_skipped (text_line number bytes)
map-line_added text lines line number bytes is_line =
    map-append (line_in text) lines (unless_bare line) ∙ ap (λ ls. map (line_in text) lines ++ ls) (map-unless_bare text line ∙ ap unless_skipped is_line)

-- one more line keeps the spans within the text
All-unless_bare : (text : List ℕ) (lines : List Line) (line : Line) → IsLineWithin text line → All (IsLineWithin text) lines → All (IsLineWithin text) (lines ++ unless_bare line)
All-unless_bare text lines line inside within = by_case ((length line.tokens == 0) && line.clean) where
  by_case : (b : Bool) → All (IsLineWithin text) (lines ++ cond b [] (line ∷ []))
  by_case true = rw append-nil within
  by_case false = All-push (IsLineWithin text) lines line within inside

-- a line feed ends the line
pub lines_so_far-line_feed : (text : List ℕ) (lines : List Line) (number from at : ℕ) (line : Line) → LinesSoFar text lines number from at → at < length text → is_line_feed (get_or text at 0) ≡ true → line_in text line ≡ text_line number (bytes_in text (record { from = from; to = at })) → IsLineWithin text line → LinesSoFar text (lines ++ unless_bare line) (number + 1) (at + 1) (at + 1)
lines_so_far-line_feed text lines number from at line so_far inside ends is_line within = record {
  order = omega arith;
  count = omega arith;
  none = none_between_same is_line_feed text (at + 1);
  gives = rw (map-line_added text lines line number (slice_range text from at) is_line)
      (append_assoc (map (line_in text) lines) _ _ ∙ ap (λ ls. map (line_in text) lines ++ ls) (sym first) ∙ so_far.gives);
  within = All-unless_bare text lines line within so_far.within;
} where
  first : lines_from number (slice_range text from (length text)) ≡ unless_skipped (text_line number (slice_range text from at)) ++ lines_from (number + 1) (slice_range text (at + 1) (length text))
  first = ap (λ parts. filter (λ l. not (is_skipped l)) (numbered_from number parts)) (slice_split_part is_line_feed text from at (length text) so_far.order inside (omega arith) so_far.none ends) ∙ filter-numbered number (slice_range text from at) (slice_split is_line_feed (slice_range text (at + 1) (length text)))

-- another byte goes on with it
pub lines_so_far-other : (text : List ℕ) (lines : List Line) (number from at : ℕ) → LinesSoFar text lines number from at → is_line_feed (get_or text at 0) ≡ false → LinesSoFar text lines number from (at + 1)
lines_so_far-other text lines number from at so_far other = record {
  order = omega arith;
  count = so_far.count;
  none = none_between_more is_line_feed text from at so_far.none other;
  gives = so_far.gives;
  within = so_far.within;
}

-- at the end the last line completes them
pub lines_so_far-end : (text : List ℕ) (lines : List Line) (number from : ℕ) (line : Line) → LinesSoFar text lines number from (length text) → line_in text line ≡ text_line number (bytes_in text (record { from = from; to = length text })) → map (line_in text) (lines ++ unless_bare line) ≡ lines_of text
lines_so_far-end text lines number from line so_far is_line =
    map-line_added text lines line number (slice_range text from (length text)) is_line
    ∙ ap (λ ls. map (line_in text) lines ++ ls) (sym last) ∙ so_far.gives where
      last : lines_from number (slice_range text from (length text)) ≡ unless_skipped (text_line number (slice_range text from (length text)))
      last = ap (λ parts. filter (λ l. not (is_skipped l)) (numbered_from number parts)) (slice_split_last is_line_feed text from (length text) (omega arith) so_far.none) ∙ filter-numbered number (slice_range text from (length text)) [] ∙ append-nil _

pub lines_so_far-within : (text : List ℕ) (lines : List Line) (number from at : ℕ) (line : Line) → LinesSoFar text lines number from at → IsLineWithin text line → All (IsLineWithin text) (lines ++ unless_bare line)
lines_so_far-within text lines number from at line so_far within = All-unless_bare text lines line within so_far.within
