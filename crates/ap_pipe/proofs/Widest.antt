-- At each place the greater of two widths: how a loop makes it, and that it is great enough.
use Rattle.std.proofs.Common.{◌≡◌, ℕ, zero, suc, ◌+◌, ◌<◌, ◌≤◌, max, List, [], ◌∷◌, ◌++◌, length, get_or, drop, fold, map, Some, refl, sym, ap, ◌∙◌, arith, append-nil, append_assoc, slice_get, slice_index}
use Rattle.std.proofs.lemmas.Option.{same_Some}
use Rattle.ap_desc.specs.declared.design.Instr.{Instr}
use Rattle.ap_path.proofs.Going.{none_left}
use Rattle.ap_pipe.proofs.Ranked.{map_long}
use Rattle.ap_pipe.specs.Ranks.{IsNextWidth, ranked_widths}
use Rattle.ap_pipe.specs.Widths.{widest}
use Rattle.ap_pipe.specs.declared.live.LiveLocal.{LiveLocal}

-- so many of the widths are there, each at least as great
pub record AreHeld (widths slots : List ℕ) : Type 0 where
  pub holds : (k : ℕ) → k < length widths → (k < length slots) × (slice_index widths k ≤ slice_index slots k)

pub held_first : (widths others : List ℕ) → AreHeld widths (widest widths others)
held_first [] others = record { holds = λ k low. absurd (omega arith) }
held_first (w ∷ widths) [] = record { holds = λ k low. (low, omega arith) }
held_first (w ∷ widths) (x ∷ others) = record { holds = go (held_first widths others) }
  where
    go : AreHeld widths (widest widths others) → (k : ℕ) → k < length (w ∷ widths) → (k < length (max w x ∷ widest widths others)) × (slice_index (w ∷ widths) k ≤ slice_index (max w x ∷ widest widths others) k)
    go h zero low = (omega arith, omega arith)
    go h (suc k) low = let rest = h.holds k (omega arith) in (let more = rest.0 in omega arith, rest.1)

pub held_second : (widths others : List ℕ) → AreHeld others (widest widths others)
held_second [] others = record { holds = λ k low. (low, omega arith) }
held_second (w ∷ widths) [] = record { holds = λ k low. absurd (omega arith) }
held_second (w ∷ widths) (x ∷ others) = record { holds = go (held_second widths others) }
  where
    go : AreHeld others (widest widths others) → (k : ℕ) → k < length (x ∷ others) → (k < length (max w x ∷ widest widths others)) × (slice_index (x ∷ others) k ≤ slice_index (max w x ∷ widest widths others) k)
    go h zero low = (omega arith, omega arith)
    go h (suc k) low = let rest = h.holds k (omega arith) in (let more = rest.0 in omega arith, rest.1)

held_by_both : (one other slots : List ℕ) → AreHeld one other → AreHeld other slots → AreHeld one slots
held_by_both one other slots first second = record {
  holds = λ k low.
      let a = first.holds k low in
      let b = second.holds k a.0 in
      let up : slice_index one k ≤ slice_index other k = a.1 in
      let on : slice_index other k ≤ slice_index slots k = b.1 in
      (b.0, omega arith);
}

-- what all give is at least what each gives
held_start : (f : Instr → List ℕ) (widths : List ℕ) (instrs : List Instr) → AreHeld widths (fold (λ ws i. widest ws (f i)) widths instrs)
held_start f widths [] = record { holds = λ k low. (low, omega arith) }
held_start f widths (i ∷ instrs) = held_by_both widths (widest widths (f i)) (fold (λ ws j. widest ws (f j)) (widest widths (f i)) instrs) (held_first widths (f i)) (held_start f (widest widths (f i)) instrs)

pub held_each : (f : Instr → List ℕ) (widths : List ℕ) (instrs : List Instr) (n : ℕ) (i : Instr) → slice_get instrs n ≡ Some i → AreHeld (f i) (fold (λ ws j. widest ws (f j)) widths instrs)
held_each f widths [] n i at = absurd cc
held_each f widths (j ∷ instrs) zero i at =
    let same : j ≡ i = same_Some j i at in
    rw (← same) (held_by_both (f j) (widest widths (f j)) (fold (λ ws k. widest ws (f k)) (widest widths (f j)) instrs) (held_second widths (f j)) (held_start f (widest widths (f j)) instrs))
held_each f widths (j ∷ instrs) (suc n) i at = held_each f (widest widths (f j)) instrs n i at

-- The loop: what is due is what was made and what is left.

widest_none : (widths : List ℕ) → widest widths [] ≡ widths
widest_none [] = refl
widest_none (w ∷ widths) = refl

width_at : (list : List LiveLocal) (place : ℕ) (d : LiveLocal) → place < length list → drop place (ranked_widths list) ≡ (get_or list place d).width ∷ drop (place + 1) (ranked_widths list)
width_at [] place d low = absurd (omega arith)
width_at (l ∷ list) zero d low = refl
width_at (l ∷ list) (suc place) d low = width_at list place d (omega arith) ∙ ap (λ k. (get_or list place d).width ∷ drop k (ranked_widths (l ∷ list))) (sym (more place))
  where
    more : (n : ℕ) → suc n + 1 ≡ suc (n + 1)
    more n = omega arith

slot_at : (widths : List ℕ) (place : ℕ) → place < length widths → drop place widths ≡ get_or widths place 0 ∷ drop (place + 1) widths
slot_at [] place low = absurd (omega arith)
slot_at (w ∷ widths) zero low = refl
slot_at (w ∷ widths) (suc place) low = slot_at widths place (omega arith) ∙ ap (λ k. get_or widths place 0 ∷ drop k (w ∷ widths)) (sym (more place))
  where
    more : (n : ℕ) → suc n + 1 ≡ suc (n + 1)
    more n = omega arith

none_past : (list : List LiveLocal) (place : ℕ) → length list ≤ place → drop place (ranked_widths list) ≡ []
none_past list place past = none_left (ranked_widths list) place (let long = map_long (λ (l : LiveLocal). l.width) list in omega arith)

pub next_both : (widths : List ℕ) (list : List LiveLocal) (place : ℕ) (d : LiveLocal) → place < length widths → place < length list → IsNextWidth widths (ranked_widths list) place (max (get_or widths place 0) (get_or list place d).width)
next_both widths list place d first second =
    ap (λ ws. widest ws (drop place (ranked_widths list))) (slot_at widths place first) ∙ ap (widest (get_or widths place 0 ∷ drop (place + 1) widths)) (width_at list place d second)

pub next_first : (widths : List ℕ) (list : List LiveLocal) (place : ℕ) → place < length widths → length list ≤ place → IsNextWidth widths (ranked_widths list) place (get_or widths place 0)
next_first widths list place first past =
    ap (λ ws. widest ws (drop place (ranked_widths list))) (slot_at widths place first)
    ∙ ap (widest (get_or widths place 0 ∷ drop (place + 1) widths)) (none_past list place past)
    ∙ ap (λ ws. get_or widths place 0 ∷ ws) (sym (ap (widest (drop (place + 1) widths)) (none_past list (place + 1) (omega arith)) ∙ widest_none (drop (place + 1) widths)))

pub next_second : (widths : List ℕ) (list : List LiveLocal) (place : ℕ) (d : LiveLocal) → length widths ≤ place → place < length list → IsNextWidth widths (ranked_widths list) place (get_or list place d).width
next_second widths list place d past second =
    ap (λ ws. widest ws (drop place (ranked_widths list))) (none_left widths place past)
    ∙ width_at list place d second
    ∙ ap (λ ws. (get_or list place d).width ∷ widest ws (drop (place + 1) (ranked_widths list))) (sym (none_left widths (place + 1) (omega arith)))

pub widths_step : (widths others made due : List ℕ) (place width : ℕ) → due ≡ made ++ widest (drop place widths) (drop place others) → IsNextWidth widths others place width
    → due ≡ (made ++ width ∷ []) ++ widest (drop (place + 1) widths) (drop (place + 1) others)
widths_step widths others made due place width h next = h ∙ ap (λ ws. made ++ ws) next ∙ sym (append_assoc made (width ∷ []) (widest (drop (place + 1) widths) (drop (place + 1) others)))

pub widths_end : (widths made due : List ℕ) (list : List LiveLocal) (place : ℕ) → length widths ≤ place → length list ≤ place → due ≡ made ++ widest (drop place widths) (drop place (ranked_widths list)) → due ≡ made
widths_end widths made due list place past behind h =
    h ∙ ap (λ ws. made ++ widest ws (drop place (ranked_widths list))) (none_left widths place past) ∙ ap (λ ws. made ++ ws) (none_past list place behind) ∙ append-nil made
