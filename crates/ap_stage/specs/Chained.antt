-- Ports that are served one after another, each when the nets of its users' operands are there.
use Rattle.std.specs.Prelude.{◌≡◌, ◌≢◌, ◌⊎◌, ℕ, ◌<◌, ◌≤◌, List, Some, length, slice_get}
use Rattle.std.specs.List.{AllByRecursion as Each}
use Rattle.ap_desc.specs.Chains.{operands_of}
use Rattle.ap_desc.specs.declared.design.Act.{Act}
use Rattle.ap_desc.specs.declared.design.Act.TheVariants as act
use Rattle.ap_desc.specs.declared.design.Arg.{Arg}
use Rattle.ap_desc.specs.declared.design.Arg.TheVariants as arg
use Rattle.ap_net.specs.declared.cell.Wire.{Wire}
use Rattle.ap_net.specs.Draft.{Draft}
use Rattle.ap_net.specs.Modules.{ModuleText}
use Rattle.ap_stage.specs.declared.chain.Node.{Node}
use Rattle.ap_stage.specs.declared.chain.Node.TheVariants as node
use Rattle.ap_stage.specs.declared.node.Course.{Course}
use Rattle.ap_stage.specs.declared.node.PortUse.{PortUse}
use Rattle.ap_stage.specs.declared.row.Line.{Line}
use Rattle.ap_stage.specs.declared.source.Ground.{Ground}
use Rattle.ap_stage.specs.Courses.{users_of}
use Rattle.ap_stage.specs.Served.{IsQuick, IsReader, IsServedQuick, IsServedRead, IsServedSlow, IsSlow, names_placed, port_of, wires_of}
use Rattle.ap_stage.specs.Sources.{HasNet}
use Rattle.ap_stage.specs.Users.{args_of}

-- the operand is the result of a port, or is made of it by lines that use no port
pub data TakesFrom (c : Course) (port : ℕ) : Arg → Type 0 where
  result : (k : ℕ) (u : PortUse) → slice_get c.uses k ≡ Some u → u.port ≡ port → TakesFrom c port (arg.Local u.local)
  wired : (k j : ℕ) (l : Line) (a : Arg) → slice_get c.lines k ≡ Some l → slice_get (operands_of l.act) j ≡ Some a → TakesFrom c port a → TakesFrom c port (arg.Local l.local)

-- the line uses no port but a register's or an input's
abbrev pub IsPortless : Act → Type 0
IsPortless (act.ReadReg reg) = Unit {0}
IsPortless (act.ReadIn input) = Unit {0}
IsPortless (act.Const width value) = Unit {0}
IsPortless (act.Zext width a) = Unit {0}
IsPortless (act.Sext width a) = Unit {0}
IsPortless (act.Slice high low a) = Unit {0}
IsPortless (act.Cat a b) = Unit {0}
IsPortless _ = ⊥

-- a line of the instruction makes the local, or a port gives it
abbrev pub IsMadeByLine : Course → ℕ → Type 0
IsMadeByLine c local = (k : ℕ) × (l : Line) × (slice_get c.lines k ≡ Some l) × (l.local ≡ local)

abbrev pub IsGivenByPort : Course → ℕ → Type 0
IsGivenByPort c local = (k : ℕ) × (u : PortUse) × (slice_get c.uses k ≡ Some u) × (u.local ≡ local)

-- the operand is no local, or one that has a net, that a line makes or that a port gives
abbrev pub HasOrigin : Course → Arg → Type 0
HasOrigin c (arg.Local i) = HasNet c.row.items (arg.Local i) ⊎ (IsMadeByLine c i ⊎ IsGivenByPort c i)
HasOrigin c _ = Unit {0}

-- each operand of the instruction's lines comes from somewhere, and no two of its lines use one port
pub record IsWhole (c : Course) : Type 0 where
  pub portless : Each (λ (l : Line). IsPortless l.act) c.lines
  pub lines : Each (λ (l : Line). Each (HasOrigin c) (operands_of l.act)) c.lines
  pub uses : Each (λ (u : PortUse). Each (HasOrigin c) (args_of u.asked)) c.uses
  pub once : (j k : ℕ) (one other : PortUse) → slice_get c.uses j ≡ Some one → slice_get c.uses k ≡ Some other → one.port ≡ other.port → j ≡ k

-- the ports of the nodes before a place
abbrev pub IsBefore : List Node → ℕ → ℕ → Type 0
IsBefore nodes place port = (j : ℕ) × (n : Node) × (j < place) × (slice_get nodes j ≡ Some n) × (port_of n ≡ port)

-- the operands of a user take from these ports alone
abbrev pub TakesBut : (ℕ → Type 0) → Course × PortUse → Type 0
TakesBut Done user = Each (λ (a : Arg). (from : ℕ) → TakesFrom user.0 from a → Done from) (args_of user.1.asked)

-- and those of all users of the port
abbrev pub TakeFrom : (ℕ → Type 0) → ℕ → List Course → Type 0
TakeFrom Done port courses = Each (TakesBut Done) (users_of port courses)

-- the port can be served for these instructions
abbrev pub IsNode : Draft → Ground → List Course → List ModuleText → Node → Type 0
IsNode d nets courses modules (node.Quick u) = (m : ModuleText) × (slice_get modules u.module ≡ Some m) × IsQuick d nets courses u m
IsNode d nets courses modules (node.Slow u) = IsSlow d nets courses u
IsNode d nets courses modules (node.Read p) = IsReader d nets courses p

-- from this place on the ports can be served, and take from those before them alone
abbrev pub AreNodes : Draft → Ground → List Course → List Node → List ModuleText → ℕ → Type 0
AreNodes d nets courses nodes modules from = (place : ℕ) (n : Node) → from ≤ place → slice_get nodes place ≡ Some n
    → IsNode d nets courses modules n × TakeFrom (IsBefore nodes place) (port_of n) courses

-- no net and no name stands in both
pub record IsApart (one other : Node) : Type 0 where
  pub port : port_of one ≢ port_of other
  pub wires : Each (λ (w : Wire). Each (λ (x : Wire). x.number ≢ w.number) (wires_of other)) (wires_of one)
  pub names : Each (λ name. Each (λ before. before ≢ name) (names_placed other)) (names_placed one)

-- no port stands twice, and no wire and no name
abbrev pub AreApart : List Node → Type 0
AreApart nodes = (j k : ℕ) (one other : Node) → slice_get nodes j ≡ Some one → slice_get nodes k ≡ Some other → j ≢ k → IsApart one other

-- the port serves these instructions
abbrev pub IsServedNode : Draft → Ground → List ModuleText → List Course → Node → Type 0
IsServedNode d nets modules courses (node.Quick u) = IsServedQuick d nets modules u courses
IsServedNode d nets modules courses (node.Slow u) = IsServedSlow d nets u courses
IsServedNode d nets modules courses (node.Read p) = IsServedRead d nets p courses

-- each port that an instruction uses is one of these
abbrev pub UsesOnly : List Node → Course → Type 0
UsesOnly nodes c = Each (λ (u : PortUse). IsBefore nodes (length nodes) u.port) c.uses

-- each local that the instruction's lines make has its net
pub record IsFull (c : Course) : Type 0 where
  pub lines : Each (λ (l : Line). HasNet c.row.items (arg.Local l.local)) c.lines
  pub uses : Each (λ (u : PortUse). HasNet c.row.items (arg.Local u.local)) c.uses
