-- The orders of the stages from 1 on.
use Rattle.std.proofs.Common.{◌≡◌, ℕ, ◌+◌, ◌-◌, ◌<◌, ◌≤◌, List, [], ◌∷◌, ◌++◌, length, Some, subst, sym, arith, length-append}
use Rattle.std.specs.Prelude.{slice_get}
use Rattle.ap_desc.specs.Chains.{IsChainOrder}
use Rattle.ap_desc.specs.declared.design.Design.{Design}
use Rattle.ap_desc.specs.declared.design.Node.{Node}
use Rattle.ap_path.specs.Tables.{AreOrdersOf}
use Rattle.ap_path.proofs.Going.{get_pushed}

-- the orders of the stages before this one
pub record AreOrdersTo (design : Design) (stage : ℕ) (orders : List (List Node)) : Type 0 where
  pub count : length orders + 1 ≡ stage
  pub each : (place : ℕ) (order : List Node) → slice_get orders place ≡ Some order → IsChainOrder design (place + 1) order

pub orders_step : (design : Design) (stage : ℕ) (orders : List (List Node)) (order : List Node) → AreOrdersTo design stage orders → IsChainOrder design stage order → AreOrdersTo design (stage + 1) (orders ++ order ∷ [])
orders_step design stage orders order h one = record {
  count = let long = length-append orders (order ∷ []) in let count = h.count in omega arith;
  each = get_pushed (λ place o. IsChainOrder design (place + 1) o) orders order h.each (subst (λ s. IsChainOrder design s order) (sym h.count) one);
}

pub orders_end : (design : Design) (stage : ℕ) (orders : List (List Node)) → 1 ≤ stage → stage ≡ design.stages → AreOrdersTo design stage orders → AreOrdersOf design orders
orders_end design stage orders low same h = record { count = let count = h.count in omega arith; each = h.each }
