-- The first line of a text, and the lines after it.
use Rattle.std.proofs.Common.{◌≡◌, ◌≢◌, ℕ, ◌+◌, ◌<◌, ◌≤◌, ◌==◌, Bool, true, false, cond, List, [], ◌∷◌, length, take, drop, get_or, drop-cons, refl, sym, ap, ◌∙◌, arith, add-one}
use Rattle.ap_vr.specs.TextLines.{first_len, led_by, text_lines}

-- a line feed, and another byte
pub len_line_feed : (b : ℕ) (text : List ℕ) → (b == 10) ≡ true → first_len (b ∷ text) ≡ 1
len_line_feed b text h = ap (λ c. cond c 1 (first_len text + 1)) h

pub len_other : (b : ℕ) (text : List ℕ) → (b == 10) ≡ false → first_len (b ∷ text) ≡ first_len text + 1
len_other b text h = ap (λ c. cond c 1 (first_len text + 1)) h

len_more : (b : ℕ) (text : List ℕ) → first_len text ≤ length text → first_len (b ∷ text) ≤ length (b ∷ text)
len_more b text h = by_case (b == 10) refl where
  by_case : (c : Bool) → (b == 10) ≡ c → first_len (b ∷ text) ≤ length (b ∷ text)
  by_case true e = rw (len_line_feed b text e) (omega arith)
  by_case false e = rw (len_other b text e) (omega (arith, h))

-- the first line is within the text, and it has a byte where the text has one
pub len_within : (text : List ℕ) → first_len text ≤ length text
len_within [] = omega arith
len_within (b ∷ text) = len_more b text (len_within text)

pub len_some : (b : ℕ) (text : List ℕ) → 0 < first_len (b ∷ text)
len_some b text = by_case (b == 10) refl where
  by_case : (c : Bool) → (b == 10) ≡ c → 0 < first_len (b ∷ text)
  by_case true e = rw (len_line_feed b text e) (omega arith)
  by_case false e = rw (len_other b text e) (omega arith)

-- a list with a byte isn't empty
pub not_nil : (b : ℕ) (text : List ℕ) → (b ∷ text) ≢ []
not_nil b text h = cc

take_suc : (n b : ℕ) (text : List ℕ) → take (n + 1) (b ∷ text) ≡ b ∷ take n text
take_suc n b text = rw add-one refl

drop_suc : (n b : ℕ) (text : List ℕ) → drop (n + 1) (b ∷ text) ≡ drop n text
drop_suc n b text = rw add-one refl

-- a byte before a text whose first line is cut off
led_cut : (b : ℕ) (text : List ℕ) → (text ≢ [] → text_lines text ≡ take (first_len text) text ∷ text_lines (drop (first_len text) text)) → led_by b (text_lines text) ≡ (b ∷ take (first_len text) text) ∷ text_lines (drop (first_len text) text)
led_cut b [] h = refl
led_cut b (c ∷ text) h = ap (led_by b) (h (not_nil c text))

cut_more : (b : ℕ) (text : List ℕ) → led_by b (text_lines text) ≡ (b ∷ take (first_len text) text) ∷ text_lines (drop (first_len text) text) → text_lines (b ∷ text) ≡ take (first_len (b ∷ text)) (b ∷ text) ∷ text_lines (drop (first_len (b ∷ text)) (b ∷ text))
cut_more b text led = by_case (b == 10) refl where
  by_case : (c : Bool) → (b == 10) ≡ c → text_lines (b ∷ text) ≡ take (first_len (b ∷ text)) (b ∷ text) ∷ text_lines (drop (first_len (b ∷ text)) (b ∷ text))
  by_case true e = ap (λ c. cond c ((b ∷ []) ∷ text_lines text) (led_by b (text_lines text))) e ∙ sym (ap (λ n. take n (b ∷ text) ∷ text_lines (drop n (b ∷ text))) (len_line_feed b text e))
  by_case false e =
      ap (λ c. cond c ((b ∷ []) ∷ text_lines text) (led_by b (text_lines text))) e
      ∙ led
      ∙ sym (ap (λ n. take n (b ∷ text) ∷ text_lines (drop n (b ∷ text))) (len_other b text e) ∙ ap (λ l. l ∷ text_lines (drop (first_len text + 1) (b ∷ text))) (take_suc (first_len text) b text) ∙ ap (λ l. (b ∷ take (first_len text) text) ∷ text_lines l) (drop_suc (first_len text) b text))

-- a text's lines are its first line, and the lines of what is left
pub lines_cut : (text : List ℕ) → text ≢ [] → text_lines text ≡ take (first_len text) text ∷ text_lines (drop (first_len text) text)
lines_cut [] h = absurd (h refl)
lines_cut (b ∷ text) h = cut_more b text (led_cut b text (lines_cut text))

cut_at : (text : List ℕ) (i : ℕ) → i < length text → drop i text ≡ get_or text i 0 ∷ drop (i + 1) text
cut_at text i h = rw add-one (drop-cons text i 0 h)

-- going on past a byte that is no line feed, and at one
pub len_step : (text : List ℕ) (i : ℕ) → i < length text → (get_or text i 0 == 10) ≡ false → first_len (drop i text) ≡ first_len (drop (i + 1) text) + 1
len_step text i h e = ap first_len (cut_at text i h) ∙ len_other (get_or text i 0) (drop (i + 1) text) e

pub len_found : (text : List ℕ) (i : ℕ) → i < length text → (get_or text i 0 == 10) ≡ true → first_len (drop i text) ≡ 1
len_found text i h e = ap first_len (cut_at text i h) ∙ len_line_feed (get_or text i 0) (drop (i + 1) text) e
