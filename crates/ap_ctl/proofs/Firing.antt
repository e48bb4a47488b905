-- Which flights fire, and where words are in the next cycle, by nets.
use Rattle.std.proofs.Common.{◌≡◌, ℕ, zero, suc, ◌<◌, Bool, true, false, List, [], ◌∷◌, length, get_or, inl, inr, refl, ap, arith}
use Rattle.std.specs.Prelude.{if◌then◌else◌, Contains}
use Rattle.std.specs.List.{AllByRecursion as Each}
use Rattle.std.specs.Option.{option_map_or}
use Rattle.std.proofs.lemmas.List.Elements.{All-contains, All-from_recursion}
use Rattle.std.proofs.lemmas.Option.{slice_get-get_or}
use Rattle.ap_desc.specs.declared.design.Design.{Design}
use Rattle.ap_net.specs.declared.cell.Wire.{Wire}
use Rattle.ap_net.specs.Pending.{Among}
use Rattle.ap_net.specs.Ready.{numbers}
use Rattle.ap_net.specs.Readings.{Reading}
use Rattle.ap_ctl.specs.declared.move_on.Gates.{Gates}
use Rattle.ap_ctl.specs.Building.{is_on}
use Rattle.ap_ctl.specs.Meaning.{is_killable}
use Rattle.ap_ctl.specs.Moves.{is_on_at, next_numbers, open_gate}
use Rattle.ap_ctl.proofs.Built.{Each-weaker, among_nets}
use Rattle.ap_ctl.proofs.Stages.{among_l, among_r}

-- one of two nets
pub open_one : (P : Wire → Type 0) (design : Design) (g : Gates) (stage : ℕ) → P g.lives → P g.goes → P (open_gate design g stage)
open_one P design g stage lives goes = by (is_killable design stage) where
  by : (b : Bool) → P (if b then g.lives else g.goes)
  by true = lives
  by false = goes

pub on_at : (r : Reading) (nets : List Wire) (place : ℕ) (d : Wire) → place < length nets → is_on_at r nets place ≡ is_on r (get_or nets place d)
on_at r nets place d lt = ap (λ o. option_map_or (is_on r) o false) (slice_get-get_or nets place d lt)

-- one of a list of nets
pub one_has : (P : Wire → Type 0) (nets : List Wire) (x : Wire) → Each P nets → Contains nets x → P x
one_has P nets x h there = All-contains P nets x (All-from_recursion P nets h) there

pub next_among : (g : Gates) (valid fires : List Wire) → Each (λ (w : Wire). Among (next_numbers g valid fires) w.number) (g.goes ∷ g.lives ∷ fires)
next_among g valid fires = (
  inr (inl refl),
  (
    inr (inr (inl refl)),
    Each-weaker (λ (w : Wire). Among (numbers fires) w.number) (λ (w : Wire). Among (next_numbers g valid fires) w.number) (λ w h. inr (inr (inr (among_r (numbers valid) (numbers fires) w.number h)))) fires (among_nets fires),
  ),
)

pub next_valid_among : (g : Gates) (valid fires : List Wire) → Each (λ (w : Wire). Among (next_numbers g valid fires) w.number) valid
next_valid_among g valid fires = Each-weaker (λ (w : Wire). Among (numbers valid) w.number) (λ (w : Wire). Among (next_numbers g valid fires) w.number) (λ w h. inr (inr (inr (among_l (numbers valid) (numbers fires) w.number h)))) valid (among_nets valid)

pub contains_first : {X : Type 0} (x : X) (xs : List X) → Contains (x ∷ xs) x
contains_first x xs = (zero, omega arith, refl)

pub contains_later : {X : Type 0} (y : X) (xs : List X) (x : X) → Contains xs x → Contains (y ∷ xs) x
contains_later y xs x (k, low, at) = (suc k, omega arith, at)

pub contains_index : {X : Type 0} (xs : List X) (i : ℕ) (d : X) → i < length xs → Contains xs (get_or xs i d)
contains_index [] i d lt = absurd (omega arith)
contains_index (x ∷ xs) zero d lt = contains_first x xs
contains_index (x ∷ xs) (suc i) d lt = contains_later x xs (get_or xs i d) (contains_index xs i d (omega arith))
