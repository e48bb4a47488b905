-- A text that is appended to a file as its lines are printed.
use Rattle.std.proofs.Common.{◌≡◌, ℕ, ◌+◌, ◌≤◌, ◌<◌, List, [], ◌∷◌, ◌++◌, length, take, drop, Bool, true, false, cond, Some, None, Option, refl, sym, ap, subst, inl, inr, ⊎_elim, ◌∙◌, arith, append_assoc, append-nil, true≢false}
use Rattle.std.proofs.Math.Seq.{take-append_seam, drop-append_seam}
use Rattle.ap_desk.specs.Files.{Files, Goes, Gains, GainsFront, Stands}
use Rattle.ap_desk.proofs.Steps.{GainsSoFar, gains_all, gains_front, gains_more, gains_none}
use Rattle.ap_vw.specs.NetLines.{text_of}
use Rattle.ap_vw.specs.Printing.{Prints}
use Rattle.ap_top.specs.Streaming.{Moves}

-- some front of the text was appended, then comes what is held, and then the lines that are left
pub record IsStreaming (name text : List ℕ) (start now : Option Files) (held : List ℕ) (left : List (List ℕ)) (more : Bool) : Type 0 where
  pub front : List ℕ
  pub files : Goes (GainsSoFar name text (length front)) start now
  pub parts : text ≡ front ++ (held ++ text_of left)
  pub none : more ≡ false → left ≡ []

pub streaming_first : (name text : List ℕ) (start : Option Files) (left : List (List ℕ)) → text_of left ≡ text → IsStreaming name text start start [] left true
streaming_first name text start left h = record { front = []; files = gains_none start name text; parts = sym h; none = λ e. absurd (true≢false e) }

-- one more line is held
pub streaming_line : (name text : List ℕ) (start now : Option Files) (held held' : List ℕ) (left new : List (List ℕ)) (more next : Bool) → IsStreaming name text start now held left more → Prints left new held held' next
    → IsStreaming name text start now held' new next
streaming_line name text start now held held' [] new more next h p = record {
  front = h.front;
  files = h.files;
  parts = h.parts ∙ sym (λ i. h.front ++ (p.2 i ++ text_of (p.1 i)));
  none = λ _. p.1;
}
streaming_line name text start now held held' (line ∷ lines) new more next h p = record {
  front = h.front;
  files = h.files;
  parts = h.parts ∙ ap (λ t. h.front ++ t) (sym (append_assoc held line (text_of lines))) ∙ sym (λ i. h.front ++ (p.2 i ++ text_of (p.1 i)));
  none = λ e. absurd (true≢false (sym p.0 ∙ e));
}

joined : (text front held rest : List ℕ) → text ≡ front ++ (held ++ rest) → take (length front) text ++ held ≡ take (length (front ++ held)) text
joined text front held rest h =
    ap (λ t. t ++ held) (ap (take (length front)) h ∙ take-append_seam front (held ++ rest))
    ∙ sym (ap (take (length (front ++ held))) (h ∙ sym (append_assoc front held rest)) ∙ take-append_seam (front ++ held) rest)

-- what was held is appended, or stays
pub streaming_moved : (name text : List ℕ) (start now now' : Option Files) (held held' : List ℕ) (left : List (List ℕ)) (more : Bool) → IsStreaming name text start now held left more → Moves name held held' now now'
    → IsStreaming name text start now' held' left more
streaming_moved name text start now now' held held' left more h m = ⊎_elim
    (λ stays. record {
      front = h.front;
      files = subst (λ (t : Option Files). Goes (GainsSoFar name text (length h.front)) start t) (sym stays.0) h.files;
      parts = h.parts ∙ ap (λ t. h.front ++ (t ++ text_of left)) (sym stays.1);
      none = h.none;
    })
    (λ moved. record {
      front = h.front ++ held;
      files = gains_more start now now' name text held (length h.front) (length (h.front ++ held)) (joined text h.front held (text_of left) h.parts) h.files moved.0;
      parts = h.parts ∙ sym (append_assoc h.front held (text_of left)) ∙ ap (λ t. (h.front ++ held) ++ (t ++ text_of left)) (sym moved.1);
      none = h.none;
    })
    m

-- a front of what was held is appended
pub streaming_failed : (name text : List ℕ) (start now now' : Option Files) (held : List ℕ) (left : List (List ℕ)) (more : Bool) → IsStreaming name text start now held left more → Goes (GainsFront name held) now now'
    → Goes (GainsFront name text) start now'
streaming_failed name text start now now' held left more h g =
    let is_held : take (length held) (drop (length h.front) text) ≡ held =
    ap (λ t. take (length held) (drop (length h.front) t)) h.parts ∙ ap (take (length held)) (drop-append_seam h.front (held ++ text_of left)) ∙ take-append_seam held (text_of left) in
    gains_front start now now' name text (length h.front) (length held) h.files (subst (λ (t : List ℕ). Goes (GainsFront name t) now now') (sym is_held) g)

-- what was appended is a front of the text
pub streaming_stopped : (name text : List ℕ) (start now : Option Files) (held : List ℕ) (left : List (List ℕ)) (more : Bool) → IsStreaming name text start now held left more → Goes (GainsFront name text) start now
streaming_stopped name text start now held left more h = by_cases start now (length h.front) h.files
  where
    by_cases : (start now : Option Files) (n : ℕ) → Goes (GainsSoFar name text n) start now → Goes (GainsFront name text) start now
    by_cases None None n g = tt
    by_cases None (Some b) n g = absurd g
    by_cases (Some a) None n g = absurd g
    by_cases (Some a) (Some b) n g = ⊎_elim (λ none. inl none.1) (λ some. inr (n, some)) g

-- nothing is held, and no line is left
pub streaming_done : (name text : List ℕ) (start now : Option Files) (held : List ℕ) (left : List (List ℕ)) → IsStreaming name text start now held left false → length held < 1 → Stands name start → Goes (Gains name text) start now
streaming_done name text start now [] left h few there =
    let all : text ≡ h.front = h.parts ∙ ap (λ l. h.front ++ text_of l) (h.none refl) ∙ append-nil h.front in
    let long : length text ≤ length h.front = omega (arith, ap length all) in
    gains_all start now name text (length h.front) long (λ _. there) h.files
streaming_done name text start now (x ∷ held) left h few there = absurd (omega arith)

-- lines are printed as long as there are some
pub fewer_left : (left new : List (List ℕ)) (next : Bool) (before after : List ℕ) → Prints left new before after next → length new + cond next 1 0 < length left + 1
fewer_left [] new next before after h = rw (h.0, h.1) (omega arith)
fewer_left (line ∷ lines) new next before after h = rw (h.0, h.1) (omega arith)
