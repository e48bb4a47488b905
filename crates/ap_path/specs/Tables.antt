-- The tables of a design's paths.
use Rattle.std.specs.Prelude.{◌≡◌, ℕ, ◌+◌, ◌-◌, List, length, Some, slice_get}
use Rattle.ap_desc.specs.Chains.{IsChainOrder}
use Rattle.ap_desc.specs.declared.design.Design.{Design}
use Rattle.ap_desc.specs.declared.design.Node.{Node}
use Rattle.ap_path.specs.Uses.{uses_of}
use Rattle.ap_path.specs.declared.table.PathTable.{PathTable}

-- for each stage from 1 on an order of its nodes in which every edge goes forward
pub record AreOrdersOf (design : Design) (orders : List (List Node)) : Type 0 where
  pub count : length orders ≡ design.stages - 1
  pub each : (place : ℕ) (order : List Node) → slice_get orders place ≡ Some order → IsChainOrder design (place + 1) order

-- the table has the uses of the design's lines, and an order for each stage
pub record ArePathsOf (design : Design) (table : PathTable) : Type 0 where
  pub uses : table.uses ≡ uses_of design
  pub orders : AreOrdersOf design table.orders
