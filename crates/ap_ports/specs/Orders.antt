-- The nodes of a stage in the order in which they are picked: first those that lead to the most.
use Rattle.std.specs.Prelude.{◌≡◌, ℕ, zero, suc, ◌+◌, ◌<◌, ◌≤◌, ◌⊎◌, List, length, Some, slice_get, slice_index}
use Rattle.std.specs.Int.{bit_at}
use Rattle.ap_desc.specs.Ports.{micros_in}
use Rattle.ap_desc.specs.declared.design.Design.{Design}
use Rattle.ap_desc.specs.declared.design.Micro.{Micro}
use Rattle.ap_desc.specs.declared.design.Node.{Node}
use Rattle.ap_ports.specs.Flow.{Some_of}
use Rattle.ap_ports.specs.Numbers.{IsNumberedNode, node_number, number_of_node}
use Rattle.ap_ports.specs.Ways.{Has}
use Rattle.ap_ports.specs.declared.ways.Ways.{Ways}

-- the line stands in the stage and uses the node of this number
abbrev pub IsUse : ℕ → ℕ → Micro → Type 0
IsUse stage n m = (m.stage ≡ stage) × (node_number m.act ≡ Some n)

-- the node is in the set, or one of these lines uses it in the stage
abbrev pub UsesNodeIn : ℕ → ℕ → List Micro → ℕ → Type 0
UsesNodeIn nodes stage micros n = Has nodes n ⊎ Some_of (IsUse stage n) micros

-- a line of the design does
abbrev pub UsesNode : Design → ℕ → ℕ → Type 0
UsesNode design stage n = Some_of (IsUse stage n) (micros_in design)

-- how many of the first so many bits are 1
unfoldable pub bits_below : ℕ → ℕ → ℕ
bits_below row zero = 0
bits_below row (suc k) = bits_below row k + bit_at row k

-- how many nodes each one leads to
abbrev pub AreAhead : Ways → List ℕ → Type 0
AreAhead ways ahead = (length ahead ≡ 68) × ((n : ℕ) → n < 68 → slice_index ahead n ≡ bits_below (slice_index ways.rows n) 68)

-- the node is picked by now: it leads to more than those of this turn, or it is of this turn and comes before the number
abbrev pub IsBy : List ℕ → ℕ → ℕ → Node → Type 0
IsBy ahead behind number x =
    (69 ≤ slice_index ahead (number_of_node x) + behind) ⊎ ((slice_index ahead (number_of_node x) + behind ≡ 68) × (number_of_node x < number))

-- the nodes of the set that are picked by now, each at one place, those that lead to more before those that lead to fewer
pub record IsPicked (nodes : ℕ) (ahead : List ℕ) (behind number : ℕ) (order : List Node) : Type 0 where
  pub low : (x : Node) → Some_of (λ y. y ≡ x) order → IsNumberedNode x × Has nodes (number_of_node x) × IsBy ahead behind number x
  pub all : (x : Node) → IsNumberedNode x → Has nodes (number_of_node x) → IsBy ahead behind number x → Some_of (λ y. y ≡ x) order
  pub once : (x : Node) (i j : ℕ) → slice_get order i ≡ Some x → slice_get order j ≡ Some x → i ≡ j
  pub falling : (i j : ℕ) (x y : Node) → i < j → slice_get order i ≡ Some x → slice_get order j ≡ Some y
      → slice_index ahead (number_of_node y) ≤ slice_index ahead (number_of_node x)
