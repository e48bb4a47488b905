-- What is kept of an instruction's locals: the stage of the line that assigned each, the nodes from which it comes by wiring, and whether
-- it reaches what may change while a slow unit works.
use Rattle.std.specs.Prelude.{◌≡◌, ℕ, ◌+◌, ◌<◌, ◌==◌, ◌⊎◌, ◌↔◌, Bool, true, false, IsTrue, List, [], ◌∷◌, length, filter, slice_get, slice_index, slice_index_or, Option, Some, if◌then◌else◌}
use Rattle.ap_desc.specs.Chains.{IsWiredFrom, Reaches, is_wiring, makers, operands_of}
use Rattle.ap_desc.specs.Designs.{assigned_count}
use Rattle.ap_desc.specs.StageFaults.{is_unstable}
use Rattle.ap_desc.specs.declared.design.Arg.{Arg}
use Rattle.ap_desc.specs.declared.design.Arg.TheVariants as arg
use Rattle.ap_desc.specs.declared.design.Design.{Design}
use Rattle.ap_desc.specs.declared.design.Instr.{Instr}
use Rattle.ap_desc.specs.declared.design.Micro.{Micro}
use Rattle.ap_ports.specs.Numbers.{node_number}
use Rattle.ap_ports.specs.Ways.{Has}
use Rattle.ap_ports.specs.declared.flow.Locals.{Locals}

-- it holds of some element
abbrev pub Some_of : {X : Type 0} → (X → Type 0) → List X → Type 0
Some_of P [] = ⊥
Some_of P (x ∷ xs) = P x ⊎ Some_of P xs

-- a local is one of so many
abbrev pub IsLocalOf : ℕ → Arg → Type 0
IsLocalOf count (arg.Local i) = i < count
IsLocalOf count _ = Unit {0}

-- the nodes that are kept of an operand that was assigned in this stage
abbrev pub nodes_at : Locals → ℕ → Option Arg → ℕ
nodes_at locals stage (Some (arg.Local i)) = if slice_index locals.stages i == stage then slice_index locals.nodes i else 0
nodes_at locals stage _ = 0

-- whether the operand was assigned in this stage and reaches what may change
abbrev pub shaky_at : Locals → ℕ → Option Arg → Bool
shaky_at locals stage (Some (arg.Local i)) = if slice_index locals.stages i == stage then slice_index_or locals.unstable i false else false
shaky_at locals stage _ = false

-- an operand of the line is kept so
abbrev pub TakesNode : Locals → Micro → ℕ → Type 0
TakesNode locals m node = Some_of (λ a. Has (nodes_at locals m.stage (Some a)) node) (operands_of m.act)

abbrev pub TakesShaky : Locals → Micro → Type 0
TakesShaky locals m = Some_of (λ a. shaky_at locals m.stage (Some a) ≡ true) (operands_of m.act)

-- what the local of a line comes from by wiring: the node that the line uses, or what its operands come from where it's wiring
abbrev pub GivesNode : Locals → Micro → ℕ → Type 0
GivesNode locals m node = (node_number m.act ≡ Some node) ⊎ (IsTrue (is_wiring m.act) × TakesNode locals m node)

-- the local of the line is kept after those before it, which stay
pub record IsTaken (design : Design) (m : Micro) (old new : Locals) : Type 0 where
  pub count : new.count ≡ old.count + 1
  pub stage : slice_index new.stages old.count ≡ m.stage
  pub node : (n : ℕ) → Has (slice_index new.nodes old.count) n ↔ GivesNode old m n
  pub shaky : (slice_index_or new.unstable old.count false ≡ true) ↔ (IsTrue (is_unstable design m.act) ⊎ TakesShaky old m)
  pub stages : (i : ℕ) → i < old.count → slice_index new.stages i ≡ slice_index old.stages i
  pub nodes : (i : ℕ) → i < old.count → slice_index new.nodes i ≡ slice_index old.nodes i
  pub others : (i : ℕ) → i < old.count → slice_index_or new.unstable i false ≡ slice_index_or old.unstable i false

-- the operand comes by wiring from a line that uses the node of this number
abbrev pub ComesFromNode : Instr → ℕ → Arg → ℕ → Type 0
ComesFromNode instr stage a node = (source : Micro) × (node_number source.act ≡ Some node) × IsWiredFrom instr stage a source

-- the operand reaches a line whose result may change
abbrev pub MayChange : Design → Instr → ℕ → Arg → Type 0
MayChange design instr stage a = (source : Micro) × Reaches instr stage a source × IsTrue (is_unstable design source.act)

-- the local at this place, which this line assigned, is kept
pub record IsKept (design : Design) (instr : Instr) (i : ℕ) (m : Micro) (locals : Locals) : Type 0 where
  pub stage : slice_index locals.stages i ≡ m.stage
  pub node : (n : ℕ) → Has (slice_index locals.nodes i) n ↔ ComesFromNode instr m.stage (arg.Local i) n
  pub shaky : (slice_index_or locals.unstable i false ≡ true) ↔ MayChange design instr m.stage (arg.Local i)

-- so many of the locals of an instruction are kept
abbrev pub AreKept : Design → Instr → ℕ → Locals → Type 0
AreKept design instr count locals =
    (locals.count ≡ count) × ((i : ℕ) (m : Micro) → i < count → slice_get (makers instr) i ≡ Some m → IsKept design instr i m locals)

-- how many locals these lines assign
abbrev pub made_by : List Micro → ℕ
made_by micros = length (filter (λ (m : Micro). assigned_count m.act == 1) micros)
