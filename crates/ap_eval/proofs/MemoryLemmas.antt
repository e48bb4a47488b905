-- The words of a memory that were given or written.
use Rattle.std.proofs.Common.{◌≡◌, ℕ, zero, suc, ◌+◌, ◌<◌, ◌≤◌, List, [], ◌∷◌, length, take, refl, sym, ap, ◌∙◌, arith, set, ⊎_elim}
use Rattle.std.specs.Prelude.{slice_index}
use Rattle.std.proofs.lemmas.Bool.{cases_lt}
use Rattle.std.proofs.lemmas.List.{get_or-take, get_or-set_other, length-set}
use Rattle.ap_image.specs.Words.{with_word}
use Rattle.ap_eval.specs.Cells.{IsMemory}

take_past : (words : List ℕ) (known n : ℕ) → known ≤ n → slice_index (take known words) n ≡ 0
take_past words zero n le = refl
take_past [] (suc known) n le = refl
take_past (x ∷ words) (suc known) zero le = absurd (omega arith)
take_past (x ∷ words) (suc known) (suc n) le = take_past words known n (omega arith)

-- an unknown word is 0
pub known_word : (words : List ℕ) (known n : ℕ) → IsMemory words known → slice_index words n ≡ slice_index (take known words) n
known_word words known n m = ⊎_elim (λ lt. sym (get_or-take known words n 0 lt)) (λ le. m.rest n le ∙ sym (take_past words known n le)) (cases_lt n known)

grown : (words : List ℕ) (known a w : ℕ) → a < length words → known ≤ a → ((n : ℕ) → known ≤ n → slice_index words n ≡ 0) → take (suc a) (set words a w) ≡ with_word (take known words) a w
grown [] known a w lt le zeros = absurd (omega arith)
grown (x ∷ words) zero zero w lt le zeros = refl
grown (x ∷ words) zero (suc a) w lt le zeros =
    let head : x ≡ 0 = zeros zero (omega arith) in
    let tail = grown words zero a w (omega arith) (omega arith) (λ n h. zeros (suc n) (omega arith)) in
    λ i. head i ∷ tail i
grown (x ∷ words) (suc known) zero w lt le zeros = absurd (omega arith)
grown (x ∷ words) (suc known) (suc a) w lt le zeros = ap (λ (l : List ℕ). x ∷ l) (grown words known a w (omega arith) (omega arith) (λ n h. zeros (suc n) (omega arith)))

pub grown_words : (words : List ℕ) (known a w : ℕ) → a < length words → known ≤ a → IsMemory words known → take (a + 1) (set words a w) ≡ with_word (take known words) a w
grown_words words known a w lt le m = let e : a + 1 ≡ suc a = omega arith in ap (λ k. take k (set words a w)) e ∙ grown words known a w lt le m.rest

pub changed_words : (words : List ℕ) (known a w : ℕ) → a < known → known ≤ length words → take known (set words a w) ≡ with_word (take known words) a w
changed_words words zero a w lt le = absurd (omega arith)
changed_words [] (suc known) a w lt le = absurd (omega arith)
changed_words (x ∷ words) (suc known) zero w lt le = refl
changed_words (x ∷ words) (suc known) (suc a) w lt le = ap (λ (l : List ℕ). x ∷ l) (changed_words words known a w (omega arith) (omega arith))

pub put_keeps : (words : List ℕ) (known now a w : ℕ) → known ≤ now → a < now → now ≤ length words → IsMemory words known → IsMemory (set words a w) now
put_keeps words known now a w le lt room m = record {
  within = let e : length (set words a w) ≡ length words = length-set words a w in omega arith;
  rest = λ n h. get_or-set_other words a n w 0 (λ e. absurd (omega arith)) ∙ m.rest n (omega arith);
}
