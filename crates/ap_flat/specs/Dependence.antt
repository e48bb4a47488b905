-- On which nets a net of an opened netlist directly depends, loops, and orders in which each net stands after those.
use Rattle.std.specs.Prelude.{◌≡◌, ◌⊎◌, ℕ, ◌<◌, ◌++◌, true, false, List, codes, slice_get, Some}
use Rattle.ap_bits.specs.Names.{IsName}
use Rattle.ap_net.specs.declared.cell.Wire.{Wire}
use Rattle.ap_net.specs.declared.net.Assign.{Assign}
use Rattle.ap_net.specs.declared.net.Port.{Port}
use Rattle.ap_net.specs.Cells.{operands}
use Rattle.ap_net.specs.Modules.{ModuleText}
use Rattle.ap_net.specs.Flat.{Flat, equations, opened, top_ports}

-- an equation of the net n reads the net m
pub record ReadsIn (f : Flat) (n m : ℕ) : Type 0 where
  pub place : ℕ
  pub equation : Assign
  pub among : slice_get (equations f) place ≡ Some equation
  pub drives : equation.to.number ≡ n
  pub spot : ℕ
  pub operand : Wire
  pub reads : slice_get (operands equation.cell) spot ≡ Some operand
  pub is : operand.number ≡ m

-- the names of the ports of a memory of this name, or of what would be one
abbrev pub mem_port : List ℕ → List ℕ → List ℕ
mem_port name what = codes "m_" ++ name ++ codes "_" ++ what

-- what stands at an input of the one name is looked up by an output of the other: a code word by its address, and a memory's word
pub data IsAskedBy : List ℕ → List ℕ → Type 0 where
  asks_code : IsAskedBy (codes "idata") (codes "iaddr")
  asks_memory : (name : List ℕ) → IsName name → IsAskedBy (mem_port name (codes "rd")) (mem_port name (codes "ra"))

-- the port n is an input that is looked up by the output m; the ports of top are its first nets, by the same numbers
pub record Looks (ports : List Port) (n m : ℕ) : Type 0 where
  pub input : Port
  pub output : Port
  pub at_input : slice_get ports n ≡ Some input
  pub at_output : slice_get ports m ≡ Some output
  pub enters : input.output ≡ false
  pub leaves : output.output ≡ true
  pub asked : IsAskedBy input.name output.name

-- the net n directly depends on the net m
abbrev pub DependsOn : Flat → List Port → ℕ → ℕ → Type 0
DependsOn f ports n m = ReadsIn f n m ⊎ Looks ports n m

-- so in a netlist that is opened
abbrev pub DependsIn : List ModuleText → ℕ → ℕ → Type 0
DependsIn net = DependsOn (opened net) (top_ports net)

-- from n one comes to m, by one step or more
pub data Leads (D : ℕ → ℕ → Type 0) : ℕ → ℕ → Type 0 where
  by_one : {n m : ℕ} → D n m → Leads D n m
  by_more : {n m k : ℕ} → D n m → Leads D m k → Leads D n k

-- some net depends on itself
abbrev pub IsLooped : (ℕ → ℕ → Type 0) → Type 0
IsLooped D = (n : ℕ) × Leads D n n

-- all of so many nets in an order: each once, and after those on which it depends
pub record IsOrder (D : ℕ → ℕ → Type 0) (count : ℕ) (order : List ℕ) : Type 0 where
  pub within : (i n : ℕ) → slice_get order i ≡ Some n → n < count
  pub all : (n : ℕ) → n < count → (i : ℕ) × (slice_get order i ≡ Some n)
  pub once : (i j n : ℕ) → slice_get order i ≡ Some n → slice_get order j ≡ Some n → i ≡ j
  pub after : (i n m : ℕ) → slice_get order i ≡ Some n → D n m → (j : ℕ) × (j < i) × (slice_get order j ≡ Some m)

-- some rank of the nets rises along all dependences
abbrev pub IsRanked : (ℕ → ℕ → Type 0) → Type 0
IsRanked D = (rank : ℕ → ℕ) × ((n m : ℕ) → D n m → rank m < rank n)
