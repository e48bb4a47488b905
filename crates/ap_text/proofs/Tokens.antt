-- The tokens of a line, as far as a loop has come that cuts it at its blanks.
use Rattle.std.proofs.Common.{◌≡◌, ℕ, ◌+◌, ◌-◌, ◌<◌, ◌≤◌, Bool, true, false, cond, List, [], ◌∷◌, ◌++◌, length, get_or, map, filter, All, slice_range, nat_lt, refl, sym, ap, ◌∙◌, arith}
use Rattle.std.specs.List.{slice_split}
use Rattle.std.proofs.lemmas.List.{map-append, append_assoc, append-nil}
use Rattle.std.proofs.lemmas.List.Edits.{length-between}
use Rattle.std.proofs.lemmas.List.Elements.{All-push}
use Rattle.ap_text.specs.declared.line.Span.{Span}
use Rattle.ap_text.specs.Lines.{is_blank, is_token}
use Rattle.ap_text.specs.Spans.{IsWithin, bytes_in, unless_empty}
use Rattle.ap_text.proofs.Cuts.{NoneBetween, none_between_same, none_between_more, slice_split_part, slice_split_last}

-- a list is a token where it has something in it
is_token_is : (xs : List ℕ) → is_token xs ≡ nat_lt 0 (length xs)
is_token_is [] = refl
is_token_is (x ∷ xs) = grind arith

-- a part is a token where its span isn't empty
is_token-bytes_in : (text : List ℕ) (from to : ℕ) → to ≤ length text → is_token (slice_range text from to) ≡ nat_lt from to
is_token-bytes_in text from to room = is_token_is (slice_range text from to) ∙ (let e : length (slice_range text from to) ≡ to - from = length-between text from to room in rw e (grind arith))

-- the tokens of a part of a line that has no comment
abbrev pub tokens_between : List ℕ → ℕ → ℕ → List (List ℕ)
tokens_between text from to = filter is_token (slice_split is_blank (slice_range text from to))

-- what a part adds to the tokens
filter-part : (text : List ℕ) (from to : ℕ) (others : List (List ℕ)) → to ≤ length text → filter is_token (slice_range text from to ∷ others) ≡ map (bytes_in text) (unless_empty (record { from = from; to = to })) ++ filter is_token others
filter-part text from to others room = rw (is_token-bytes_in text from to room) (cond_part (nat_lt from to)) where
  cond_part : (b : Bool) → cond b (slice_range text from to ∷ filter is_token others) (filter is_token others) ≡ map (bytes_in text) (cond b ((record { from = from; to = to }) ∷ []) []) ++ filter is_token others
  cond_part true = refl
  cond_part false = refl

-- the spans so far, where the part that is read now began at this place and has no blank yet
pub record TokensSoFar (text : List ℕ) (code : Span) (spans : List Span) (from at : ℕ) : Type 0 where
  pub start : code.from ≤ at
  pub order : from ≤ at
  pub none : NoneBetween is_blank text from at
  pub gives : map (bytes_in text) spans ++ tokens_between text from code.to ≡ tokens_between text code.from code.to
  pub within : All (IsWithin text) spans

-- one more part keeps the spans within the text
All-unless_empty : (text : List ℕ) (spans : List Span) (from to : ℕ) → from ≤ to → to ≤ length text → All (IsWithin text) spans → All (IsWithin text) (spans ++ unless_empty (record { from = from; to = to }))
All-unless_empty text spans from to order room within = by_case (nat_lt from to) where
  by_case : (b : Bool) → All (IsWithin text) (spans ++ cond b ((record { from = from; to = to }) ∷ []) [])
  by_case true = All-push (IsWithin text) spans (record { from = from; to = to }) within (record { order = order; room = room })
  by_case false = rw append-nil within

-- a blank ends the part
pub tokens_so_far-blank : (text : List ℕ) (code : Span) (spans : List Span) (from at : ℕ) → TokensSoFar text code spans from at → at < code.to → code.to ≤ length text → is_blank (get_or text at 0) ≡ true → TokensSoFar text code (spans ++ unless_empty (record { from = from; to = at })) (at + 1) (at + 1)
tokens_so_far-blank text code spans from at so_far high room blank = record {
  start = omega arith;
  order = omega arith;
  none = none_between_same is_blank text (at + 1);
  gives = rw (map-append (bytes_in text) spans (unless_empty (record { from = from; to = at })))
      (append_assoc (map (bytes_in text) spans) _ _ ∙ ap (λ ts. map (bytes_in text) spans ++ ts) (sym first) ∙ so_far.gives);
  within = All-unless_empty text spans from at so_far.order (omega arith) so_far.within;
} where
  first : tokens_between text from code.to ≡ map (bytes_in text) (unless_empty (record { from = from; to = at })) ++ tokens_between text (at + 1) code.to
  first = ap (filter is_token) (slice_split_part is_blank text from at code.to so_far.order high room so_far.none blank) ∙ filter-part text from at (slice_split is_blank (slice_range text (at + 1) code.to)) (omega arith)

-- another byte goes on with it
pub tokens_so_far-other : (text : List ℕ) (code : Span) (spans : List Span) (from at : ℕ) → TokensSoFar text code spans from at → is_blank (get_or text at 0) ≡ false → TokensSoFar text code spans from (at + 1)
tokens_so_far-other text code spans from at so_far other = record {
  start = omega arith;
  order = omega arith;
  none = none_between_more is_blank text from at so_far.none other;
  gives = so_far.gives;
  within = so_far.within;
}

-- at the end the last part completes them
pub tokens_so_far-end : (text : List ℕ) (code : Span) (spans : List Span) (from : ℕ) → TokensSoFar text code spans from code.to → code.to ≤ length text → map (bytes_in text) (spans ++ unless_empty (record { from = from; to = code.to })) ≡ tokens_between text code.from code.to
tokens_so_far-end text code spans from so_far room =
    map-append (bytes_in text) spans (unless_empty (record { from = from; to = code.to })) ∙ ap (λ ts. map (bytes_in text) spans ++ ts) (sym last) ∙ so_far.gives where
      last : tokens_between text from code.to ≡ map (bytes_in text) (unless_empty (record { from = from; to = code.to }))
      last = ap (filter is_token) (slice_split_last is_blank text from code.to room so_far.none) ∙ filter-part text from code.to [] room ∙ append-nil _

pub tokens_so_far-within : (text : List ℕ) (code : Span) (spans : List Span) (from : ℕ) → TokensSoFar text code spans from code.to → code.to ≤ length text → All (IsWithin text) (spans ++ unless_empty (record { from = from; to = code.to }))
tokens_so_far-within text code spans from so_far room = All-unless_empty text spans from code.to so_far.order room so_far.within
