-- Comparing the tokens of a line with words.
use Rattle.std.proofs.Common.{◌≡◌, ℕ, suc, ◌+◌, ◌<◌, ◌&&◌, List, [], ◌∷◌, ◌++◌, length, get_or, drop, map, Bool, true, false, Some, refl, sym, ap, subst, ◌∙◌, arith}
use Rattle.std.specs.Prelude.{codes, ◌==◌, fold, slice_get}
use Rattle.std.specs.Borrow.{Bor}
use Rattle.std.specs.List.{starts_with}
use Rattle.std.specs.Str.{bytes_eq}
use Rattle.std.specs.Cmp.Lexicographic.{pointwise}
use Rattle.std.proofs.lemmas.List.Sums.{fold-append}
use Rattle.std.proofs.lemmas.Bool.{cond-true, cond-false}
use Rattle.std.proofs.lemmas.Bool.Decides.{nat_tests}
use Rattle.std.proofs.Math.ListN.{length-map}
use Rattle.std.proofs.lemmas.List.{get_or-map}
use Rattle.std.proofs.lemmas.Option.{get_or_from_slice_get}
use Rattle.ap_text.specs.Lines.{TextLine}
use Rattle.ap_desc.specs.Faults.{begins, consists_of, open_after}
use Rattle.ap_read.proofs.Lines.{rest_from}

-- the first words beside the first tokens
pub step_words : (words tokens : List (List ℕ)) (word token : List ℕ) → bytes_eq word token ≡ true → starts_with bytes_eq (token ∷ tokens) (word ∷ words) ≡ starts_with bytes_eq tokens words
step_words words tokens word token same = ap (λ b. b && starts_with bytes_eq tokens words) same

pub stop_words : (words tokens : List (List ℕ)) (word token : List ℕ) → bytes_eq word token ≡ false → starts_with bytes_eq (token ∷ tokens) (word ∷ words) ≡ false
stop_words words tokens word token other = ap (λ b. b && starts_with bytes_eq tokens words) other

pub end_words : (tokens : List (List ℕ)) → starts_with bytes_eq tokens [] ≡ true
end_words tokens = refl

-- fewer tokens than words
pub few_tokens : (words tokens : List (List ℕ)) → length tokens < length words → starts_with bytes_eq tokens words ≡ false
few_tokens [] tokens lt = absurd (omega arith)
few_tokens (word ∷ words) [] lt = refl
few_tokens (word ∷ words) (token ∷ tokens) lt = ap (λ b. bytes_eq word token && b) (few_tokens words tokens (omega arith)) ∙ none (bytes_eq word token)
  where
    none : (b : Bool) → (b && false) ≡ false
    none true = refl
    none false = refl

-- exactly one token
pub one_word : (word : List ℕ) (tokens : List (List ℕ)) → ((length tokens == 1) && starts_with bytes_eq tokens (word ∷ [])) ≡ pointwise bytes_eq (word ∷ []) tokens
one_word word [] = refl
one_word word (token ∷ []) = refl
one_word word (token ∷ other ∷ tokens) = several (length tokens) (bytes_eq word token)
  where
    several : (n : ℕ) (b : Bool) → ((suc (suc n) == 1) && (b && true)) ≡ (b && false)
    several n true = grind (arith, nat_tests)
    several n false = grind (arith, nat_tests)

-- what a line makes of an open instruction
pub opens : (is_open : Bool) (line : TextLine) → begins (codes "instr" ∷ []) line ≡ true → open_after is_open line ≡ true
opens is_open line b = cond-true (begins (codes "instr" ∷ []) line) true _ b

pub closes : (is_open : Bool) (line : TextLine) → begins (codes "instr" ∷ []) line ≡ false → consists_of (codes "end" ∷ []) line ≡ true → open_after is_open line ≡ false
closes is_open line b e = cond-false (begins (codes "instr" ∷ []) line) true _ b ∙ cond-true (consists_of (codes "end" ∷ []) line) false is_open e

pub stays : (is_open : Bool) (line : TextLine) → begins (codes "instr" ∷ []) line ≡ false → consists_of (codes "end" ∷ []) line ≡ false → open_after is_open line ≡ is_open
stays is_open line b e = cond-false (begins (codes "instr" ∷ []) line) true _ b ∙ cond-false (consists_of (codes "end" ∷ []) line) false is_open e

pub open_more : (lines front : List TextLine) (line : TextLine) (is_open now : Bool) → lines ≡ front ++ line ∷ [] → is_open ≡ fold open_after false front → now ≡ open_after is_open line → now ≡ fold open_after false lines
open_more lines front line is_open now e before after = after ∙ ap (λ b. open_after b line) before ∙ sym (fold-append open_after false front (line ∷ [])) ∙ sym (ap (fold open_after false) e)

got_from : {X : Type 0} (xs : List X) (i : ℕ) (x : X) → i < length xs → slice_get xs i ≡ Some x → drop i xs ≡ x ∷ drop (i + 1) xs
got_from xs i x lt e = rest_from xs i x lt (get_or_from_slice_get xs i x x e)

words_from : (words : List (Bor (List ℕ))) (i : ℕ) (d : Bor (List ℕ)) → i < length words → drop i (map (λ word. word.now) words) ≡ (get_or words i d).now ∷ drop (i + 1) (map (λ word. word.now) words)
words_from words i d lt = rest_from (map (λ word. word.now) words) i (get_or words i d).now (simp length-map lt) (get_or-map (λ (word : Bor (List ℕ)). word.now) words i d (get_or words i d).now lt)

-- the next word is the next token
pub word_more : (tokens : List (List ℕ)) (words : List (Bor (List ℕ))) (i : ℕ) (d : Bor (List ℕ)) (token word : List ℕ) → i < length words → i < length tokens → slice_get tokens i ≡ Some token → word ≡ (get_or words i d).now → bytes_eq word token ≡ true
    → starts_with bytes_eq tokens (map (λ w. w.now) words) ≡ starts_with bytes_eq (drop i tokens) (drop i (map (λ w. w.now) words)) → starts_with bytes_eq tokens (map (λ w. w.now) words) ≡ starts_with bytes_eq (drop (i + 1) tokens) (drop (i + 1) (map (λ w. w.now) words))
word_more tokens words i d token word lt lt' there is same before =
    before
    ∙ ap (λ l. starts_with bytes_eq l (drop i (map (λ (w : Bor (List ℕ)). w.now) words))) (got_from tokens i token lt' there)
    ∙ ap (starts_with bytes_eq (token ∷ drop (i + 1) tokens)) (words_from words i d lt)
    ∙ step_words (drop (i + 1) (map (λ w. w.now) words)) (drop (i + 1) tokens) (get_or words i d).now token (subst (λ w. bytes_eq w token ≡ true) is same)

-- it isn't
pub word_stop : (tokens : List (List ℕ)) (words : List (Bor (List ℕ))) (i : ℕ) (d : Bor (List ℕ)) (token word : List ℕ) → i < length words → i < length tokens → slice_get tokens i ≡ Some token → word ≡ (get_or words i d).now → bytes_eq word token ≡ false
    → starts_with bytes_eq tokens (map (λ w. w.now) words) ≡ starts_with bytes_eq (drop i tokens) (drop i (map (λ w. w.now) words)) → starts_with bytes_eq tokens (map (λ w. w.now) words) ≡ false
word_stop tokens words i d token word lt lt' there is other before =
    before
    ∙ ap (λ l. starts_with bytes_eq l (drop i (map (λ (w : Bor (List ℕ)). w.now) words))) (got_from tokens i token lt' there)
    ∙ ap (starts_with bytes_eq (token ∷ drop (i + 1) tokens)) (words_from words i d lt)
    ∙ stop_words (drop (i + 1) (map (λ w. w.now) words)) (drop (i + 1) tokens) (get_or words i d).now token (subst (λ w. bytes_eq w token ≡ false) is other)
