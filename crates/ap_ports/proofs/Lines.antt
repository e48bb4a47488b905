-- The lines of a sound design's instructions rise from one instruction to the next.
use Rattle.std.proofs.Common.{◌≡◌, ℕ, zero, suc, ◌<◌, ◌≤◌, List, [], ◌∷◌, ◌++◌, map, Some, inl, inr, subst, ap, ◌∙◌, arith, flat_map}
use Rattle.std.specs.Prelude.{◌⊎◌, slice_get, option_map}
use Rattle.std.proofs.lemmas.Bool.{cases_order}
use Rattle.std.proofs.lemmas.Option.{same_Some, slice_get-map}
use Rattle.ap_desc.proofs.DesignLaws.{own_in_order}
use Rattle.ap_desc.proofs.LineOrder.{instr_lines, rise_above, rise_left, rise_right, sound_rise}
use Rattle.ap_desc.specs.Designs.{Rise}
use Rattle.ap_desc.specs.Sound.{IsSound}
use Rattle.ap_desc.specs.declared.design.Design.{Design}
use Rattle.ap_desc.specs.declared.design.Instr.{Instr}
use Rattle.ap_desc.specs.declared.design.Micro.{Micro}
use Rattle.ap_ports.proofs.Members.{contains_at}

-- what comes later is above a number
rise_after : (low : ℕ) (xs ys : List ℕ) (i n : ℕ) → Rise low (xs ++ ys) → slice_get xs i ≡ Some n → Rise n ys
rise_after low [] ys i n r at = absurd cc
rise_after low (x ∷ xs) ys zero n r at = subst (λ m. Rise m ys) (same_Some x n at) (rise_right x xs ys r.1)
rise_after low (x ∷ xs) ys (suc i) n r at = rise_after x xs ys i n r.1 at

abbrev own_lines : Instr → List ℕ
own_lines i = map (λ (m : Micro). m.line) i.micros

line_at : (i : Instr) (place : ℕ) (m : Micro) → slice_get i.micros place ≡ Some m → slice_get (own_lines i) place ≡ Some m.line
line_at i place m at = slice_get-map (λ (x : Micro). x.line) i.micros place ∙ ap (option_map (λ (x : Micro). x.line)) at

-- every line of these instructions is above what came before
lines_above : (low : ℕ) (instrs : List Instr) → Rise low (flat_map instr_lines instrs) → (k : ℕ) (instr : Instr) → slice_get instrs k ≡ Some instr → (place : ℕ) (m : Micro) → slice_get instr.micros place ≡ Some m → low < m.line
lines_above low [] r k instr at place m there = absurd cc
lines_above low (x ∷ xs) r zero instr at place m there =
    let here : x ≡ instr = same_Some x instr at in
    let below : low < x.line = r.0 in
    let own = rise_left x.line (own_lines x) (flat_map instr_lines xs) r.1 in
    let above : x.line < m.line = rise_above x.line (own_lines x) place m.line own (line_at x place m (ap (λ (i : Instr). slice_get i.micros place) here ∙ there)) in
    omega arith
lines_above low (x ∷ xs) r (suc k) instr at place m there =
    let below : low < x.line = r.0 in
    let above : x.line < m.line = lines_above x.line xs (rise_right x.line (own_lines x) (flat_map instr_lines xs) r.1) k instr at place m there in
    omega arith

lines_apart : (low : ℕ) (instrs : List Instr) → Rise low (flat_map instr_lines instrs) → (j k : ℕ) → j < k → (one other : Instr) → slice_get instrs j ≡ Some one → slice_get instrs k ≡ Some other
    → (i place : ℕ) (m n : Micro) → slice_get one.micros i ≡ Some m → slice_get other.micros place ≡ Some n → m.line < n.line
lines_apart low [] r j k lt one other at again i place m n there later = absurd cc
lines_apart low (x ∷ xs) r j zero lt one other at again i place m n there later = absurd (omega arith)
lines_apart low (x ∷ xs) r zero (suc k) lt one other at again i place m n there later =
    let here : x ≡ one = same_Some x one at in
    let rest = rise_after x.line (own_lines x) (flat_map instr_lines xs) i m.line r.1 (line_at x i m (ap (λ (y : Instr). slice_get y.micros i) here ∙ there)) in
    lines_above m.line xs rest k other again place n later
lines_apart low (x ∷ xs) r (suc j) (suc k) lt one other at again i place m n there later =
    let less : j < k = omega arith in
    lines_apart x.line xs (rise_right x.line (own_lines x) (flat_map instr_lines xs) r.1) j k less one other at again i place m n there later

-- a line of an earlier instruction has a lower number
pub earlier_instr : (design : Design) → IsSound design → (j k : ℕ) → j < k → (one other : Instr) → slice_get design.instrs j ≡ Some one → slice_get design.instrs k ≡ Some other
    → (i place : ℕ) (m n : Micro) → slice_get one.micros i ≡ Some m → slice_get other.micros place ≡ Some n → m.line < n.line
earlier_instr design sound = lines_apart 0 design.instrs (sound_rise design sound)

-- of two lines of one instruction, the later place has no lower number
pub later_place : (design : Design) → IsSound design → (number : ℕ) (instr : Instr) → slice_get design.instrs number ≡ Some instr → (i j : ℕ) (m n : Micro)
    → slice_get instr.micros i ≡ Some m → slice_get instr.micros j ≡ Some n → i ≤ j → m.line ≤ n.line
later_place design sound number instr at i j m n one other le = go (cases_order m.line n.line) where
  go : ((m.line ≡ n.line) ⊎ ((m.line < n.line) ⊎ (n.line < m.line))) → m.line ≤ n.line
  go (inl same) = omega arith
  go (inr (inl less)) = omega arith
  go (inr (inr more)) = let turned : j < i = (own_in_order design instr j i n m sound (contains_at design.instrs number instr at) other one).0 more in absurd (omega arith)
