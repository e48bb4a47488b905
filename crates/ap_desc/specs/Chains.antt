-- From which lines an operand comes within a stage, the union graph of a stage, and its loops. The rules are the project's own.
use Rattle.std.specs.Prelude.{◌≡◌, ℕ, ◌<◌, ◌==◌, nat_le, nat_lt, Bool, true, false, IsTrue, List, [], ◌∷◌, ◌++◌, filter, Any, Contains, Option, Some, None, option_and_then, option_to_list, slice_get, if◌then◌else◌, ◌↔◌, ◌⊎◌}
use Rattle.std.specs.List.{AllByRecursion as Each}
use Rattle.ap_desc.specs.declared.design.Design.{Design}
use Rattle.ap_desc.specs.declared.design.Instr.{Instr}
use Rattle.ap_desc.specs.declared.design.Micro.{Micro}
use Rattle.ap_desc.specs.declared.design.Node.{Node}
use Rattle.ap_desc.specs.declared.design.Node.TheVariants as node
use Rattle.ap_desc.specs.declared.design.Arg.{Arg}
use Rattle.ap_desc.specs.declared.design.Arg.TheVariants as arg
use Rattle.ap_desc.specs.declared.design.Act.{Act}
use Rattle.ap_desc.specs.declared.design.Act.TheVariants as act
use Rattle.ap_desc.specs.Designs.{assigned_count}
use Rattle.ap_desc.specs.Ports.{micros_in}

-- the operands of a line, in the order of its form
abbrev pub operands_of : Act → List Arg
operands_of (act.Compute unit op a b) = a ∷ b ∷ []
operands_of (act.ReadFile file port index) = index ∷ []
operands_of (act.ReadReg reg) = []
operands_of (act.ReadMem mem at) = at ∷ []
operands_of (act.ReadIn input) = []
operands_of (act.Const width value) = []
operands_of (act.Zext width a) = a ∷ []
operands_of (act.Sext width a) = a ∷ []
operands_of (act.Slice high low a) = a ∷ []
operands_of (act.Cat a b) = a ∷ b ∷ []
operands_of (act.WriteFile file port index value guard) = index ∷ value ∷ option_to_list guard
operands_of (act.WriteReg reg value guard) = value ∷ option_to_list guard
operands_of (act.WriteMem mem at value guard) = at ∷ value ∷ option_to_list guard
operands_of (act.Branch cond target) = cond ∷ target ∷ []
operands_of (act.Jump target) = target ∷ []

-- a line that only rearranges bits
abbrev pub is_wiring : Act → Bool
is_wiring (act.Zext width a) = true
is_wiring (act.Sext width a) = true
is_wiring (act.Slice high low a) = true
is_wiring (act.Cat a b) = true
is_wiring _ = false

-- the node that a line uses: a unit, a read port of a file, or the read of a memory
abbrev pub node_of : Act → Option Node
node_of (act.Compute unit op a b) = Some (node.Unit unit)
node_of (act.ReadFile file port index) = Some (node.FileRead file port)
node_of (act.ReadMem mem at) = Some (node.MemRead mem)
node_of _ = None

-- the lines of an instruction that assign its locals, in order
abbrev pub makers : Instr → List Micro
makers instr = filter (λ (m : Micro). assigned_count m.act == 1) instr.micros

-- the line, where it stands in the stage
abbrev pub if_in_stage : ℕ → Micro → Option Micro
if_in_stage stage m = if m.stage == stage then Some m else None

-- the line of the instruction that makes the operand, where one in the stage does
abbrev pub maker_in : Instr → ℕ → Arg → Option Micro
maker_in instr stage (arg.Local i) = option_and_then (if_in_stage stage) (slice_get (makers instr) i)
maker_in instr stage _ = None

-- the operand comes from the line, through these lines of its instruction one after another, all of them in the stage: the first
-- makes the operand, each further one an operand of the one before
abbrev pub ComesFrom : Instr → ℕ → Arg → List Micro → Micro → Type 0
ComesFrom instr stage a [] source = maker_in instr stage a ≡ Some source
ComesFrom instr stage a (m ∷ through) source = (maker_in instr stage a ≡ Some m) × Any (λ b. ComesFrom instr stage b through source) (operands_of m.act)

-- the operand reaches the line within the stage, through lines of any sort
abbrev pub Reaches : Instr → ℕ → Arg → Micro → Type 0
Reaches instr stage a source = (through : List Micro) × ComesFrom instr stage a through source

-- the operand is the local of the line, or is made from it by wiring lines of the stage
abbrev pub IsWiredFrom : Instr → ℕ → Arg → Micro → Type 0
IsWiredFrom instr stage a source = (through : List Micro) × Each (λ (m : Micro). IsTrue (is_wiring m.act)) through × ComesFrom instr stage a through source

-- the operand is made by the source, or by a line of the stage that has the second property
abbrev pub IsMadeBy : Instr → ℕ → Arg → Micro → (Micro → Type 0) → Type 0
IsMadeBy instr stage a source GoesOn =
    (m : Micro) × (maker_in instr stage a ≡ Some m) × ((m ≡ source) ⊎ GoesOn m)

-- the operand is made from the source through the line: one of the line's operands reaches it, or the line is wiring and one of them is
-- wired from it
abbrev pub ReachesBehind : Instr → ℕ → Micro → Micro → Type 0
ReachesBehind instr stage source m = Any (λ b. Reaches instr stage b source) (operands_of m.act)

abbrev pub IsWiredBehind : Instr → ℕ → Micro → Micro → Type 0
IsWiredBehind instr stage source m =
    IsTrue (is_wiring m.act) × Any (λ b. IsWiredFrom instr stage b source) (operands_of m.act)

-- an edge of the union graph of a stage: some line of the stage, of a number that counts, uses `to` with an operand that comes by wiring
-- from a line of its instruction and stage that uses `from`
pub record Edge (design : Design) (stage : ℕ) (counts : ℕ → Bool) (from to : Node) : Type 0 where
  pub instr : Instr
  pub is_instr : Contains design.instrs instr
  pub user : Micro
  pub is_line : Contains instr.micros user
  pub in_stage : user.stage ≡ stage
  pub counted : IsTrue (counts user.line)
  pub uses : node_of user.act ≡ Some to
  pub source : Micro
  pub uses_from : node_of source.act ≡ Some from
  pub wired : Any (λ a. IsWiredFrom instr stage a source) (operands_of user.act)

-- the edges of the lines up to one, before it, and of its number
abbrev pub EdgeUpTo : Design → ℕ → ℕ → Node → Node → Type 0
EdgeUpTo design stage line = Edge design stage (λ n. nat_le n line)

abbrev pub EdgeBefore : Design → ℕ → ℕ → Node → Node → Type 0
EdgeBefore design stage line = Edge design stage (λ n. nat_lt n line)

abbrev pub EdgeOf : Design → ℕ → ℕ → Node → Node → Type 0
EdgeOf design stage line = Edge design stage (λ n. n == line)

-- steps lead from the first on, to each of these in turn
abbrev pub IsWalk : {X : Type 0} → (X → X → Type 0) → X → List X → Type 0
IsWalk Step from [] = Unit {0}
IsWalk Step from (x ∷ xs) = Step from x × IsWalk Step x xs

-- a walk of at least one step that comes back to where it began
abbrev pub HasLoop : {X : Type 0} → (X → X → Type 0) → Type 0
HasLoop {X} Step = (x : X) × (between : List X) × IsWalk Step x (between ++ x ∷ [])

-- the second is the first, or a walk leads there
abbrev pub Leads : {X : Type 0} → (X → X → Type 0) → X → X → Type 0
Leads {X} Step x y = (x ≡ y) ⊎ ((between : List X) × IsWalk Step x (between ++ y ∷ []))

-- these steps, and further ones to one end
abbrev pub StepsTo : {X : Type 0} → (X → X → Type 0) → (X → Type 0) → X → X → X → Type 0
StepsTo Step From to x y = Step x y ⊎ (From x × (y ≡ to))

-- an operand of the line comes by wiring from a line of its instruction and stage that uses the node
abbrev pub TakesFrom : Instr → Micro → Node → Type 0
TakesFrom instr user from =
    (source : Micro) × (node_of source.act ≡ Some from)
    × Any (λ a. IsWiredFrom instr user.stage a source) (operands_of user.act)

-- the edge that a line makes goes from such a node to its own
abbrev pub MakesEdge : Instr → Micro → Node → Node → Type 0
MakesEdge instr user from to = (node_of user.act ≡ Some to) × TakesFrom instr user from

-- the union graph of a stage has a loop, of edges from lines that count
abbrev pub IsLooped : Design → ℕ → (ℕ → Bool) → Type 0
IsLooped design stage counts = HasLoop (Edge design stage counts)

-- the line closes a loop of its stage: the lines up to it have one, and without it they have none
pub record ClosesLoop (design : Design) (stage line : ℕ) : Type 0 where
  pub micro : Micro
  pub is_line : Contains (micros_in design) micro
  pub at : micro.line ≡ line
  pub in_stage : micro.stage ≡ stage
  pub closed : IsLooped design stage (λ n. nat_le n line)
  pub open_before : IsLooped design stage (λ n. nat_lt n line) → ⊥

-- a line of the stage uses the node
abbrev pub IsNodeOf : Design → ℕ → Node → Type 0
IsNodeOf design stage n = Any (λ (m : Micro). (m.stage ≡ stage) × (node_of m.act ≡ Some n)) (micros_in design)

-- the first stands in the list at a lower place than the second
abbrev pub StandsBefore : {X : Type 0} → List X → X → X → Type 0
StandsBefore {X} xs x y = (i j : ℕ) × (i < j) × (slice_get xs i ≡ Some x) × (slice_get xs j ≡ Some y)

-- the list has each node of the stage, at one place, and every edge of its union graph goes forward in it
pub record IsChainOrder (design : Design) (stage : ℕ) (order : List Node) : Type 0 where
  pub nodes : (n : Node) → Contains order n ↔ IsNodeOf design stage n
  pub once : (n : Node) (i j : ℕ) → slice_get order i ≡ Some n → slice_get order j ≡ Some n → i ≡ j
  pub forward : (from to : Node) → Edge design stage (λ n. true) from to → StandsBefore order from to
