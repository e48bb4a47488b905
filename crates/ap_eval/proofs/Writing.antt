-- Data memories are written one after another.
use Rattle.std.proofs.Common.{◌≡◌, ℕ, zero, suc, ◌+◌, ◌-◌, ◌*◌, ◌<◌, ◌≤◌, List, [], ◌∷◌, ◌++◌, length, get_or, take, drop, sym, ap, subst, ◌∙◌, arith, set}
use Rattle.std.proofs.lemmas.List.{length-set}
use Rattle.ap_eval.specs.Cells.{Cells, rooms_of}
use Rattle.ap_eval.specs.Ops.{cells_after, data_after}

written : (read : ℕ → ℕ) (p : ℕ) (k : ℕ) (memories : List Cells) (x d : Cells) → k < length memories → x ≡ cells_after read p (get_or memories k d)
    → take (suc k) (set memories k x) ++ data_after read (p + 5) (drop (suc k) (set memories k x)) ≡ take k memories ++ data_after read p (drop k memories)
written read p k [] x d lt e = absurd (omega arith)
written read p zero (m ∷ memories) x d lt e = ap (λ (y : Cells). y ∷ data_after read (p + 5) memories) e
written read p (suc k) (m ∷ memories) x d lt e = ap (λ (l : List Cells). m ∷ l) (written read p k memories x d (omega arith) e)

rooms_same : (k : ℕ) (memories : List Cells) (x d : Cells) → k < length memories → x.room ≡ (get_or memories k d).room → rooms_of (set memories k x) ≡ rooms_of memories
rooms_same k [] x d lt e = absurd (omega arith)
rooms_same zero (m ∷ memories) x d lt e = ap (λ n. n ∷ rooms_of memories) e
rooms_same (suc k) (m ∷ memories) x d lt e = ap (λ (l : List ℕ). m.room ∷ l) (rooms_same k memories x d (omega arith) e)

-- what a loop keeps of the memories, where the first ones were written
pub record Writes (read : ℕ → ℕ) (first number port : ℕ) (before now after : List Cells) : Type 0 where
  pub long : length now ≡ length before
  pub at : port ≡ first + 5 * (number - 1)
  pub rooms : rooms_of now ≡ rooms_of before
  pub same : take number now ++ data_after read port (drop number now) ≡ after

pub writes_more : (read : ℕ → ℕ) (first number port : ℕ) (before now after : List Cells) (x d : Cells) → 1 ≤ number → number < length now → x ≡ cells_after read port (get_or now number d)
    → Writes read first number port before now after → Writes read first (number + 1) (port + 5) before (set now number x) after
writes_more read first number port before now after x d some lt e w =
    let next : number + 1 ≡ suc number = omega arith in
    let p : port ≡ first + 5 * (number - 1) = w.at in
    record {
      long = length-set now number x ∙ w.long;
      at = omega arith;
      rooms = rooms_same number now x d lt (ap (λ (y : Cells). y.room) e) ∙ w.rooms;
      same = subst (λ k. take k (set now number x) ++ data_after read (port + 5) (drop k (set now number x)) ≡ after) (sym next) (written read port number now x d lt e ∙ w.same);
    }
