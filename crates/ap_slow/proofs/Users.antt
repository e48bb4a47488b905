-- The conditions of users are among those of all.
use Rattle.std.proofs.Common.{◌≡◌, ℕ, zero, suc, ◌+◌, Bool, true, false, List, [], ◌∷◌, ◌++◌, Some, cond, drop, filter, map, inr, refl, sym, ap, ◌∙◌, arith}
use Rattle.std.specs.Prelude.{slice_get, zip}
use Rattle.std.specs.List.{AllByRecursion as Each}
use Rattle.ap_desc.specs.declared.design.Instr.{Instr}
use Rattle.ap_net.specs.declared.cell.Wire.{Wire}
use Rattle.ap_net.specs.Pending.{Among}
use Rattle.ap_net.specs.Ready.{numbers}
use Rattle.ap_net.proofs.Lists.{some_same}
use Rattle.ap_ctl.proofs.Built.{Each-weaker, among_nets, among_some}
use Rattle.ap_slow.specs.Asking.{condition_of, if_wanted, is_user, user_conditions, uses_unit}

pub users_each : (P : Wire → Type 0) (stage unit : ℕ) (instrs : List Instr) (conditions : List Wire) → Each P conditions → Each P (user_conditions stage unit instrs conditions)
users_each P stage unit [] conditions h = tt
users_each P stage unit (x ∷ instrs) [] h = tt
users_each P stage unit (x ∷ instrs) (w ∷ conditions) h = go (uses_unit stage unit x) (users_each P stage unit instrs conditions h.1)
  where
    go : (b : Bool) → Each P (user_conditions stage unit instrs conditions)
        → Each P (map condition_of (cond b ((x, w) ∷ filter (is_user stage unit) (zip instrs conditions)) (filter (is_user stage unit) (zip instrs conditions))))
    go true later = (h.0, later)
    go false later = later

pub users_among : (stage unit n : ℕ) (instrs : List Instr) (conditions : List Wire) → Each (Among (n ∷ numbers conditions)) (numbers (user_conditions stage unit instrs conditions))
users_among stage unit n instrs conditions =
    Each-weaker (Among (numbers conditions)) (Among (n ∷ numbers conditions)) (λ m at. inr at) (numbers (user_conditions stage unit instrs conditions))
    (among_some conditions (user_conditions stage unit instrs conditions) (users_each (λ (w : Wire). Among (numbers conditions) w.number) stage unit instrs conditions (among_nets conditions)))

-- One instruction after another.

drop_at : {X : Type 0} (xs : List X) (n : ℕ) (x : X) → slice_get xs n ≡ Some x → drop n xs ≡ x ∷ drop (n + 1) xs
drop_at [] n x at = cc
drop_at (y ∷ xs) zero x at = ap (λ z. z ∷ xs) (some_same at)
drop_at {X} (y ∷ xs) (suc n) x at = let next : n + 1 ≡ suc n = omega arith in drop_at xs n x at ∙ ap (λ k. x ∷ drop k xs) next ∙ later xs x n
  where
    later : (xs : List X) (x : X) (n : ℕ) → x ∷ drop (suc n) xs ≡ x ∷ drop (suc n + 1) (y ∷ xs)
    later xs x n = let next : suc n + 1 ≡ suc (suc n) = omega arith in ap (λ k. x ∷ drop k (y ∷ xs)) (sym next)

pub users_step : (stage unit n : ℕ) (instrs : List Instr) (conditions : List Wire) (x : Instr) (w : Wire) → slice_get instrs n ≡ Some x → slice_get conditions n ≡ Some w
    → user_conditions stage unit (drop n instrs) (drop n conditions) ≡ if_wanted (uses_unit stage unit x) w ++ user_conditions stage unit (drop (n + 1) instrs) (drop (n + 1) conditions)
users_step stage unit n instrs conditions x w at there =
    (λ i. user_conditions stage unit (drop_at instrs n x at i) (drop_at conditions n w there i)) ∙ go (uses_unit stage unit x) (filter (is_user stage unit) (zip (drop (n + 1) instrs) (drop (n + 1) conditions)))
  where
    go : (b : Bool) (rest : List (Instr × Wire)) → map condition_of (cond b ((x, w) ∷ rest) rest) ≡ if_wanted b w ++ map condition_of rest
    go true rest = refl
    go false rest = refl
