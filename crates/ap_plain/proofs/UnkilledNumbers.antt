-- No number of a flight that isn't killed is above the limit of all.
use Rattle.std.proofs.Common.{◌≡◌, ℕ, ◌+◌, ◌≤◌, ◌||◌, Bool, true, false, if◌then◌else◌, IfSome, List, [], ◌∷◌, fold, max, Option, Some, None, arith}
use Rattle.std.specs.List.{AllByRecursion as Each}
use Rattle.ap_desc.specs.declared.design.Design.{Design}
use Rattle.ap_model.specs.declared.state.Flight.{Flight}
use Rattle.ap_model.specs.declared.state.State.{State}
use Rattle.ap_model.specs.Cycles.{CycleControl, unkilled_numbers, is_killed, unkilled_number, from_last}
use Rattle.ap_model.specs.Fitting.{CountsWithin}
use Rattle.ap_model.proofs.EffectFits.{each_append}

numbers_within : (design : Design) (control : CycleControl) (limit stage : ℕ) (flights : List (Option Flight)) → Each (λ (o : Option Flight). IfSome o (λ (f : Flight). f.number ≤ limit)) flights
    → Each (λ n. n ≤ limit) (from_last (unkilled_number design control) stage flights)
numbers_within design control limit stage [] each = tt
numbers_within design control limit stage (None ∷ flights) each = each_append (λ n. n ≤ limit) (from_last (unkilled_number design control) (stage + 1) flights) [] (numbers_within design control limit (stage + 1) flights each.1) tt
numbers_within design control limit stage (Some f ∷ flights) each =
    each_append (λ n. n ≤ limit) (from_last (unkilled_number design control) (stage + 1) flights) (unkilled_number design control stage f) (numbers_within design control limit (stage + 1) flights each.1) (go (is_killed design control stage))
  where
    go : (b : Bool) → Each (λ n. n ≤ limit) (if b then [] else f.number ∷ [])
    go true = tt
    go false = (each.0, tt)

fold_within : (limit : ℕ) (first : ℕ) (numbers : List ℕ) → first ≤ limit → Each (λ n. n ≤ limit) numbers → fold max first numbers ≤ limit
fold_within limit first [] h each = h
fold_within limit first (n ∷ numbers) h each = fold_within limit (max first n) numbers (omega (arith, h, each.0)) each.1

pub greatest_within : (limit : ℕ) (design : Design) (state : State) (control : CycleControl) → CountsWithin limit state → fold max 0 (unkilled_numbers design state control) ≤ limit
greatest_within limit design state control counts =
    fold_within limit 0 (unkilled_numbers design state control) (omega arith)
    (each_append (λ n. n ≤ limit) (from_last (unkilled_number design control) 1 state.flights) (if control.held 0 || is_killed design control 0 then [] else state.next ∷ []) (numbers_within design control limit 1 state.flights counts.numbers) (go (control.held 0 || is_killed design control 0)))
  where
    go : (b : Bool) → Each (λ n. n ≤ limit) (if b then [] else state.next ∷ [])
    go true = tt
    go false = (counts.next, tt)
