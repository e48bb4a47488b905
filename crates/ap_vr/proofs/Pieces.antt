-- The pieces of a line, as far as a loop has come that cuts it, and those of a line that begins with a word.
use Rattle.std.proofs.Common.{◌≡◌, ℕ, ◌+◌, ◌<◌, ◌≤◌, Bool, true, false, cond, List, [], ◌∷◌, ◌++◌, ◌-◌, length, get_or, take, drop, drop-cons, slice_range, refl, sym, ap, subst, ◌∙◌, arith, add-one, append-nil, append_assoc, length-drop}
use Rattle.std.specs.List.{list_all}
use Rattle.std.specs.Prelude.{if◌then◌else◌, nat_lt}
use Rattle.std.proofs.lemmas.Bool.{and_parts, ltb-true, ltb-false}
use Rattle.std.proofs.Math.Seq.{take-length, drop-length}
use Rattle.std.proofs.lemmas.List.{take_more, get_or-drop}
use Rattle.std.proofs.lemmas.List.Edits.{length-between}
use Rattle.std.proofs.lemmas.List.Folds.{drop_split}
use Rattle.ap_net.specs.Names.{is_name_byte}
use Rattle.ap_vr.specs.Pieces.{after_word, last_word, pieces_after, pieces_of, word_between}

-- a byte of a word, and one that is none
pub piece_more : (word : List ℕ) (b : ℕ) (line : List ℕ) → is_name_byte b ≡ true → pieces_after word (b ∷ line) ≡ pieces_after (word ++ b ∷ []) line
piece_more word b line h = ap (λ c. cond c (pieces_after (word ++ b ∷ []) line) (after_word word ((b ∷ []) ∷ pieces_after [] line))) h

pub piece_ends : (word : List ℕ) (b : ℕ) (line : List ℕ) → is_name_byte b ≡ false → pieces_after word (b ∷ line) ≡ after_word word ((b ∷ []) ∷ pieces_of line)
piece_ends word b line h = ap (λ c. cond c (pieces_after (word ++ b ∷ []) line) (after_word word ((b ∷ []) ∷ pieces_after [] line))) h

-- past the bytes of a word
pub past_word : (word name line : List ℕ) → list_all is_name_byte name ≡ true → pieces_after word (name ++ line) ≡ pieces_after (word ++ name) line
past_word word [] line h = ap (λ w. pieces_after w line) (sym (append-nil word))
past_word word (b ∷ name) line h =
    let parts = and_parts (is_name_byte b) (list_all is_name_byte name) h in
    piece_more word b (name ++ line) parts.0 ∙ past_word (word ++ b ∷ []) name line parts.1 ∙ ap (λ w. pieces_after w line) (append_assoc word (b ∷ []) name)

-- one more byte of a word
all_more : (name : List ℕ) (b : ℕ) → list_all is_name_byte name ≡ true → is_name_byte b ≡ true → list_all is_name_byte (name ++ b ∷ []) ≡ true
all_more [] b h e = rw e refl
all_more (c ∷ name) b h e = let parts = and_parts (is_name_byte c) (list_all is_name_byte name) h in rw (parts.0, all_more name b parts.1 e) refl

-- the pieces so far, where the word that is read now began at this place
pub record PiecesSoFar (line : List ℕ) (pieces : List (List ℕ)) (from at : ℕ) : Type 0 where
  pub order : from ≤ at
  pub word : list_all is_name_byte (slice_range line from at) ≡ true
  pub gives : pieces ++ pieces_of (drop from line) ≡ pieces_of line

-- a word: bytes of words, and at least one
pub record IsWord (name : List ℕ) : Type 0 where
  pub all : list_all is_name_byte name ≡ true
  pub some : 0 < length name

pub after_some : (word : List ℕ) (pieces : List (List ℕ)) → 0 < length word → after_word word pieces ≡ word ∷ pieces
after_some [] pieces h = absurd (omega (arith, h))
after_some (b ∷ word) pieces h = refl

-- a word, and then a byte that is none of a word
pub word_then : (name : List ℕ) (b : ℕ) (line : List ℕ) → IsWord name → is_name_byte b ≡ false → pieces_of (name ++ b ∷ line) ≡ name ∷ (b ∷ []) ∷ pieces_of line
word_then name b line word other =
    past_word [] name (b ∷ line) word.all ∙ piece_ends name b line other ∙ after_some name ((b ∷ []) ∷ pieces_of line) word.some

-- a byte of a list, and the part that ends with it
cut_at : (xs : List ℕ) (i : ℕ) → i < length xs → drop i xs ≡ get_or xs i 0 ∷ drop (i + 1) xs
cut_at xs i h = rw add-one (drop-cons xs i 0 h)

one_byte : (xs : List ℕ) (i : ℕ) → i < length xs → slice_range xs i (i + 1) ≡ get_or xs i 0 ∷ []
one_byte xs i h = let e : (i + 1) - i ≡ 1 = omega arith in rw (e, cut_at xs i h) refl

part_more : (xs : List ℕ) (from at : ℕ) → from ≤ at → at < length xs → slice_range xs from (at + 1) ≡ slice_range xs from at ++ get_or xs at 0 ∷ []
part_more xs from at order h =
    let n : (at + 1) - from ≡ (at - from) + 1 = omega (arith, order) in
    let room : at - from < length (drop from xs) = rw length-drop (omega (arith, order, h)) in
    let place : from + (at - from) ≡ at = omega (arith, order) in
    ap (λ n. take n (drop from xs)) n ∙ take_more (drop from xs) (at - from) 0 room ∙ ap (λ b. slice_range xs from at ++ b ∷ []) (get_or-drop from xs (at - from) 0 ∙ ap (λ i. get_or xs i 0) place)

part_length : (xs : List ℕ) (from at : ℕ) → from < at → at ≤ length xs → 0 < length (slice_range xs from at)
part_length xs from at order room = let e : length (slice_range xs from at) ≡ at - from = length-between xs from at room in rw e (omega (arith, order))

part_nothing : (xs : List ℕ) (at : ℕ) → slice_range xs at at ≡ []
part_nothing xs at = let e : at - at ≡ 0 = omega arith in rw e refl

-- before the first byte
pub pieces_begin : (line : List ℕ) → PiecesSoFar line [] 0 0
pieces_begin line = record { order = omega arith; word = refl; gives = refl }

-- a byte of a word
pub pieces_go_on : (line : List ℕ) (pieces : List (List ℕ)) (from at : ℕ) → PiecesSoFar line pieces from at → at < length line → is_name_byte (get_or line at 0) ≡ true → PiecesSoFar line pieces from (at + 1)
pieces_go_on line pieces from at far h e = record {
  order = omega (arith, far.order);
  word = rw (part_more line from at far.order h) (all_more (slice_range line from at) (get_or line at 0) far.word e);
  gives = far.gives;
}

-- what is left before a byte that is none of a word
left_pieces : (line : List ℕ) (from at : ℕ) → from ≤ at → at < length line → list_all is_name_byte (slice_range line from at) ≡ true → is_name_byte (get_or line at 0) ≡ false → pieces_of (drop from line) ≡ after_word (slice_range line from at) ((get_or line at 0 ∷ []) ∷ pieces_of (drop (at + 1) line))
left_pieces line from at order h word e =
    ap pieces_of (drop_split line from at order ∙ ap (λ rest. slice_range line from at ++ rest) (cut_at line at h))
    ∙ past_word [] (slice_range line from at) (get_or line at 0 ∷ drop (at + 1) line) word
    ∙ piece_ends (slice_range line from at) (get_or line at 0) (drop (at + 1) line) e

-- a byte that is none, after a word, and after none
pub pieces_after_word : (line : List ℕ) (pieces : List (List ℕ)) (from at : ℕ) → PiecesSoFar line pieces from at → from < at → at < length line → is_name_byte (get_or line at 0) ≡ false
    → PiecesSoFar line (pieces ++ slice_range line from at ∷ [] ++ slice_range line at (at + 1) ∷ []) (at + 1) (at + 1)
pieces_after_word line pieces from at far some h e = record {
  order = omega arith;
  word = rw (part_nothing line (at + 1)) refl;
  gives =
      ap (λ sign. pieces ++ slice_range line from at ∷ [] ++ sign ∷ [] ++ pieces_of (drop (at + 1) line)) (one_byte line at h)
      ∙ regroup pieces (slice_range line from at) (get_or line at 0 ∷ []) (pieces_of (drop (at + 1) line))
      ∙ ap (λ rest. pieces ++ rest) (sym (after_some (slice_range line from at) ((get_or line at 0 ∷ []) ∷ pieces_of (drop (at + 1) line)) (part_length line from at some (omega (arith, h)))) ∙ sym (left_pieces line from at far.order h far.word e))
      ∙ far.gives;
} where
  regroup : (xs : List (List ℕ)) (a b : List ℕ) (rest : List (List ℕ)) → xs ++ a ∷ [] ++ b ∷ [] ++ rest ≡ xs ++ (a ∷ b ∷ rest)
  regroup xs a b rest = simp append_assoc

pub pieces_after_sign : (line : List ℕ) (pieces : List (List ℕ)) (at : ℕ) → PiecesSoFar line pieces at at → at < length line → is_name_byte (get_or line at 0) ≡ false → PiecesSoFar line (pieces ++ slice_range line at (at + 1) ∷ []) (at + 1) (at + 1)
pieces_after_sign line pieces at far h e = record {
  order = omega arith;
  word = rw (part_nothing line (at + 1)) refl;
  gives =
      ap (λ sign. pieces ++ sign ∷ [] ++ pieces_of (drop (at + 1) line)) (one_byte line at h)
      ∙ append_assoc pieces ((get_or line at 0 ∷ []) ∷ []) (pieces_of (drop (at + 1) line))
      ∙ ap (λ rest. pieces ++ rest) (sym (left_pieces line at at (omega arith) h far.word e ∙ ap (λ word. after_word word ((get_or line at 0 ∷ []) ∷ pieces_of (drop (at + 1) line))) (part_nothing line at)))
      ∙ far.gives;
}

-- both
pub pieces_cut : (line : List ℕ) (pieces : List (List ℕ)) (from at : ℕ) → PiecesSoFar line pieces from at → at < length line → is_name_byte (get_or line at 0) ≡ false
    → PiecesSoFar line (pieces ++ word_between line from at ++ slice_range line at (at + 1) ∷ []) (at + 1) (at + 1)
pieces_cut line pieces from at far h e = by_case (nat_lt from at) refl where
  by_case : (b : Bool) → nat_lt from at ≡ b → PiecesSoFar line (pieces ++ (if b then slice_range line from at ∷ [] else []) ++ slice_range line at (at + 1) ∷ []) (at + 1) (at + 1)
  by_case true some = pieces_after_word line pieces from at far (ltb-true from at some) h e
  by_case false none =
      let same : from ≡ at = omega (arith, far.order, ltb-false from at none) in
      rw append-nil (pieces_after_sign line pieces at (subst (λ n. PiecesSoFar line pieces n at) same far) h e)

-- the last word, and no last word
pub pieces_end_in_word : (line : List ℕ) (pieces : List (List ℕ)) (from : ℕ) → PiecesSoFar line pieces from (length line) → from < length line → pieces ++ drop from line ∷ [] ≡ pieces_of line
pieces_end_in_word line pieces from far some =
    let whole : slice_range line from (length line) ≡ drop from line = take-all from in
    let word : list_all is_name_byte (drop from line) ≡ true = sym (ap (list_all is_name_byte) whole) ∙ far.word in
    let long : 0 < length (drop from line) = rw length-drop (omega (arith, some)) in
    ap (λ ps. pieces ++ ps) (sym (ap pieces_of (sym (append-nil (drop from line))) ∙ past_word [] (drop from line) [] word ∙ after_some (drop from line) [] long)) ∙ far.gives where
      take-all : (from : ℕ) → slice_range line from (length line) ≡ drop from line
      take-all from = let e : length (drop from line) ≡ length line - from = length-drop from line in ap (λ n. take n (drop from line)) (sym e) ∙ take-length (drop from line)

pub pieces_end : (line : List ℕ) (pieces : List (List ℕ)) (from : ℕ) → PiecesSoFar line pieces from (length line) → length line ≤ from → pieces ≡ pieces_of line
pieces_end line pieces from far none =
    let e : from ≡ length line = omega (arith, none, far.order) in
    sym (append-nil pieces) ∙ ap (λ rest. pieces ++ pieces_of rest) (sym (ap (λ n. drop n line) e ∙ drop-length line)) ∙ far.gives

pub pieces_finish : (line : List ℕ) (pieces : List (List ℕ)) (from : ℕ) → PiecesSoFar line pieces from (length line) → pieces ++ last_word line from ≡ pieces_of line
pieces_finish line pieces from far = by_case (nat_lt from (length line)) refl where
  by_case : (b : Bool) → nat_lt from (length line) ≡ b → pieces ++ (if b then drop from line ∷ [] else []) ≡ pieces_of line
  by_case true some = pieces_end_in_word line pieces from far (ltb-true from (length line) some)
  by_case false none = append-nil pieces ∙ pieces_end line pieces from far (ltb-false from (length line) none)
