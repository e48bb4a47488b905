-- The text as far as a loop has written it.
use Rattle.std.proofs.Common.{◌≡◌, ℕ, ◌+◌, ◌<◌, Bool, true, false, cond, List, [], ◌∷◌, ◌++◌, length, refl, sym, ap, ◌∙◌, arith, append_assoc, append-nil, true≢false}
use Rattle.ap_net.specs.Text.{AppendsFront}
use Rattle.ap_vw.specs.NetLines.{text_of}
use Rattle.ap_vw.specs.Printing.{Prints}

-- these bytes were appended, and the lines that are left are the rest of the text; none is left where there is no more
pub record IsWrittenSoFar (text old : List ℕ) (left : List (List ℕ)) (more : Bool) (out : List ℕ) : Type 0 where
  pub given : List ℕ
  pub appended : out ≡ old ++ given
  pub rest : text ≡ given ++ text_of left
  pub none : more ≡ false → left ≡ []

pub written_first : (text old : List ℕ) (left : List (List ℕ)) → text_of left ≡ text → IsWrittenSoFar text old left true old
written_first text old left h = record { given = []; appended = sym (append-nil old); rest = sym h; none = λ e. absurd (true≢false e) }

-- one more line
pub written_more : (text old : List ℕ) (left new : List (List ℕ)) (more next : Bool) (before after : List ℕ) → IsWrittenSoFar text old left more before → Prints left new before after next → IsWrittenSoFar text old new next after
written_more text old [] new more next before after so_far h = record {
  given = so_far.given;
  appended = h.2 ∙ so_far.appended;
  rest = so_far.rest ∙ ap (λ l. so_far.given ++ text_of l) (sym h.1);
  none = λ _. h.1;
}
written_more text old (line ∷ lines) new more next before after so_far h = record {
  given = so_far.given ++ line;
  appended = h.2 ∙ ap (λ t. t ++ line) so_far.appended ∙ append_assoc old so_far.given line;
  rest = so_far.rest ∙ sym (append_assoc so_far.given line (text_of lines)) ∙ ap (λ l. so_far.given ++ line ++ text_of l) (sym h.1);
  none = λ e. absurd (true≢false (sym h.0 ∙ e));
}

-- fewer lines are left
pub fewer_left : (left new : List (List ℕ)) (next : Bool) (before after : List ℕ) → Prints left new before after next → length new + cond next 1 0 < length left + 1
fewer_left [] new next before after h = rw (h.0, h.1) (omega arith)
fewer_left (line ∷ lines) new next before after h = rw (h.0, h.1) (omega arith)

-- some front of the text was appended, and at the end all of it
pub written_front : (text old : List ℕ) (left : List (List ℕ)) (more : Bool) (out : List ℕ) → IsWrittenSoFar text old left more out → AppendsFront text old out
written_front text old left more out so_far = (so_far.given, text_of left, so_far.rest, so_far.appended)

pub written_all : (text old : List ℕ) (left : List (List ℕ)) (out : List ℕ) → IsWrittenSoFar text old left false out → out ≡ old ++ text
written_all text old left out so_far =
    so_far.appended ∙ ap (λ t. old ++ t) (sym (append-nil so_far.given) ∙ ap (λ l. so_far.given ++ text_of l) (sym (so_far.none refl)) ∙ sym so_far.rest)
