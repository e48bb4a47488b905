-- Which nodes lead to which in the union graph of a stage, by the lines so far.
use Rattle.std.specs.Prelude.{◌≡◌, ℕ, ◌==◌, ◌↔◌, ◌⊎◌, true, Bool, List, Some, take}
use Rattle.std.specs.List.{list_any, flat_map}
use Rattle.ap_desc.specs.Chains.{Edge, IsLooped, Leads}
use Rattle.ap_desc.specs.declared.design.Design.{Design}
use Rattle.ap_desc.specs.declared.design.Instr.{Instr}
use Rattle.ap_desc.specs.declared.design.Micro.{Micro}
use Rattle.ap_desc.specs.declared.design.Node.{Node}
use Rattle.ap_ports.specs.Flow.{TakesNode}
use Rattle.ap_ports.specs.Numbers.{IsNumberedNode, node_number, number_of_node}
use Rattle.ap_ports.specs.Ways.{LeadsTo}
use Rattle.ap_ports.specs.declared.flow.Locals.{Locals}
use Rattle.ap_ports.specs.declared.ways.Ways.{Ways}

-- the numbers of two nodes stand so where the one leads to the other, by edges of the lines that count
abbrev pub ShowsEdges : Design → ℕ → (ℕ → Bool) → Ways → Type 0
ShowsEdges design stage counts ways =
    (x y : Node) → IsNumberedNode x → IsNumberedNode y → LeadsTo ways (number_of_node x) (number_of_node y) ↔ Leads (Edge design stage counts) x y

abbrev pub IsGraphOf : Design → ℕ → Ways → Type 0
IsGraphOf design stage = ShowsEdges design stage (λ n. true)

-- the lines that count close no loop of the stage, and the ways are those of their edges
abbrev pub IsOpenBy : Design → ℕ → (ℕ → Bool) → Ways → Type 0
IsOpenBy design stage counts ways = ShowsEdges design stage counts ways × (IsLooped design stage counts → ⊥)

-- the number is that of one of these lines
abbrev pub is_line_of : List Micro → ℕ → Bool
is_line_of micros n = list_any (λ (m : Micro). m.line == n) micros

-- so of these lines
abbrev pub IsOpenAfter : Design → ℕ → List Micro → Ways → Type 0
IsOpenAfter design stage done = IsOpenBy design stage (is_line_of done)

-- the lines of the instructions before one
abbrev pub lines_before : Design → ℕ → List Micro
lines_before design number = flat_map (λ (i : Instr). i.micros) (take number design.instrs)

-- the line closes a loop: its node leads to one from which it takes an operand
abbrev pub Closes : Ways → Locals → Micro → ℕ → Type 0
Closes ways locals m to = (u : ℕ) × TakesNode locals m u × LeadsTo ways to u

-- the line's edges are added to the ways, where it makes some in the stage
pub record IsAdded (locals : Locals) (m : Micro) (stage : ℕ) (old new : Ways) : Type 0 where
  pub unclosed : (to : ℕ) → m.stage ≡ stage → node_number m.act ≡ Some to → Closes old locals m to → ⊥
  pub added : (to : ℕ) → m.stage ≡ stage → node_number m.act ≡ Some to → (x y : ℕ)
      → LeadsTo new x y ↔ (LeadsTo old x y ⊎ ((u : ℕ) × TakesNode locals m u × LeadsTo old x u × LeadsTo old to y))
  pub same : ((to : ℕ) → m.stage ≡ stage → node_number m.act ≡ Some to → ⊥) → (x y : ℕ) → LeadsTo new x y ↔ LeadsTo old x y

-- the line closes a loop with the ways so far
pub record IsClosing (locals : Locals) (m : Micro) (stage : ℕ) (ways : Ways) (line : ℕ) : Type 0 where
  pub number : ℕ
  pub uses : node_number m.act ≡ Some number
  pub in_stage : m.stage ≡ stage
  pub at : m.line ≡ line
  pub closes : Closes ways locals m number
