-- Parts of a text, and a text that is cut at its separators.
use Rattle.std.proofs.Common.{◌≡◌, ℕ, ◌+◌, ◌-◌, ◌<◌, ◌≤◌, Bool, true, false, not, List, [], ◌∷◌, ◌++◌, length, get_or, take, All, position, slice_range, sym, ap, ◌∙◌, Option, inl, inr, arith, rules}
use Rattle.std.specs.List.{slice_split, position_or_len, before_first}
use Rattle.std.specs.Option.{unwrap_or}
use Rattle.std.proofs.lemmas.List.{places, same_lists, take-take}
use Rattle.std.proofs.lemmas.List.Edits.{length-between, get_or-between}
use Rattle.std.proofs.lemmas.List.Elements.{All-from_get_or}
use Rattle.std.proofs.lemmas.List.Splits.{slice_split_at, slice_split_none}
use Rattle.std.proofs.lemmas.List.Sums.{prefix_len-le-length}
use Rattle.std.proofs.lemmas.Bool.{cases_lt}
use Rattle.std.proofs.lemmas.Grind.{common_steps}
use Rattle.ap_text.specs.declared.line.Span.{Span}
use Rattle.ap_text.specs.Spans.{IsWithin, bytes_in}

-- a front of a part
pub take-slice_range : (xs : List ℕ) (from n to : ℕ) → n ≤ to - from → take n (slice_range xs from to) ≡ slice_range xs from (from + n)
take-slice_range xs from n to fits = grind (arith, take-take)

-- a part around a place within it
slice_range_at : (xs : List ℕ) (from at to : ℕ) → from ≤ at → at < to → to ≤ length xs → slice_range xs from to ≡ slice_range xs from at ++ (get_or xs at 0 ∷ slice_range xs (at + 1) to)
slice_range_at xs from at to low high room = same_lists _ _ (search (rules, places)) (λ k d h. grind (arith, places))

-- no byte from one place up to another passes
pub record NoneBetween (p : ℕ → Bool) (xs : List ℕ) (from to : ℕ) : Type 0 where
  pub fails : (k : ℕ) → from ≤ k → k < to → p (get_or xs k 0) ≡ false

-- none does where nothing is between
pub none_between_same : (p : ℕ → Bool) (xs : List ℕ) (at : ℕ) → NoneBetween p xs at at
none_between_same p xs at = record { fails = λ k low high. absurd (omega arith) }

-- nor does one more
pub none_between_more : (p : ℕ → Bool) (xs : List ℕ) (from at : ℕ) → NoneBetween p xs from at → p (get_or xs at 0) ≡ false → NoneBetween p xs from (at + 1)
none_between_more p xs from at none fails = record { fails = λ k low high. (elim (cases_lt k at) [ inl h ↦ none.fails k low h | inr h ↦ (let e : k ≡ at = omega arith in rw e fails) ]) }

-- then none of that part does
none_of_part : (p : ℕ → Bool) (xs : List ℕ) (from to : ℕ) → to ≤ length xs → NoneBetween p xs from to → All (λ x. p x ≡ false) (slice_range xs from to)
none_of_part p xs from to room none =
    All-from_get_or (λ x. p x ≡ false) (slice_range xs from to) 0 (λ k h.
    let inside : from + k < to = omega (arith, length-between xs from to room) in
    ap p (get_or-between xs from to k 0 inside) ∙ none.fails (from + k) (omega arith) inside)

-- the first part ends at the first byte that passes
pub slice_split_part : (p : ℕ → Bool) (xs : List ℕ) (from at to : ℕ) → from ≤ at → at < to → to ≤ length xs → NoneBetween p xs from at → p (get_or xs at 0) ≡ true → slice_split p (slice_range xs from to) ≡ slice_range xs from at ∷ slice_split p (slice_range xs (at + 1) to)
slice_split_part p xs from at to low high room none passes =
    ap (slice_split p) (slice_range_at xs from at to low high room)
    ∙ slice_split_at p (slice_range xs from at) (get_or xs at 0) (slice_range xs (at + 1) to) (none_of_part p xs from at (omega arith) none) passes

-- and there is one part where none does
pub slice_split_last : (p : ℕ → Bool) (xs : List ℕ) (from to : ℕ) → to ≤ length xs → NoneBetween p xs from to → slice_split p (slice_range xs from to) ≡ slice_range xs from to ∷ []
slice_split_last p xs from to room none = slice_split_none p (slice_range xs from to) (none_of_part p xs from to room none)

-- the place of a part's comment is within the text
pub place_within : (p : ℕ → Bool) (text : List ℕ) (span : Span) → IsWithin text span → span.from + position_or_len p (bytes_in text span) ≤ span.to
place_within p text span within =
    omega (arith, within.order, prefix_len-le-length (λ b. not (p b)) (bytes_in text span), length-between text span.from span.to within.room)

-- the place that a search answers, or the length
pub unwrap_or-position : (p : ℕ → Bool) (xs : List ℕ) → unwrap_or (position p xs) (length xs) ≡ position_or_len p xs
unwrap_or-position p xs = grind (arith, common_steps, prefix_len-le-length)

-- what stands before the first byte that passes
pub bytes_in-front : (p : ℕ → Bool) (text : List ℕ) (span : Span) → IsWithin text span → bytes_in text (record { from = span.from; to = span.from + position_or_len p (bytes_in text span) }) ≡ before_first p (bytes_in text span)
bytes_in-front p text span within =
    let room : position_or_len p (bytes_in text span) ≤ span.to - span.from = omega (arith, place_within p text span within) in
    sym (take-slice_range text span.from (position_or_len p (bytes_in text span)) span.to room)

-- what a search for a byte answers, or else the length, is the place
pub place_found : (p : ℕ → Bool) (bytes part : List ℕ) (found : Option ℕ) (len : ℕ) → bytes ≡ part → found ≡ position p bytes → len ≡ unwrap_or found (length bytes) → len ≡ position_or_len p part
place_found p bytes part found len is_part is_place is_len =
    is_len ∙ ap (λ o. unwrap_or o (length bytes)) is_place ∙ unwrap_or-position p bytes ∙ ap (position_or_len p) is_part
