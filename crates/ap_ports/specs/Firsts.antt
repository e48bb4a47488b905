-- The first number of which something holds, and the least fault among some kinds.
use Rattle.std.specs.Prelude.{◌≡◌, ℕ, ◌+◌, ◌<◌, ◌≤◌, ◌==◌, ◌&&◌, ◌⊎◌, nat_lt, Bool, IsTrue, true, List, [], ◌∷◌, Option, Some, None, slice_get}
use Rattle.ap_desc.specs.Chains.{ClosesLoop}
use Rattle.ap_desc.specs.Least.{HoldsNowhere, IsLeast}
use Rattle.ap_desc.specs.Meaning.{MeetsPortFault}
use Rattle.ap_desc.specs.Ports.{share_port}
use Rattle.ap_desc.specs.StageFaults.{ReachesUnstable, is_slow, is_write}
use Rattle.ap_desc.specs.declared.design.Design.{Design}
use Rattle.ap_desc.specs.declared.design.Instr.{Instr}
use Rattle.ap_desc.specs.declared.design.Micro.{Micro}
use Rattle.ap_desc.specs.declared.fault.Fault.{Fault}
use Rattle.ap_desc.specs.declared.fault.Fault.TheVariants as f
use Rattle.ap_desc.specs.declared.fault.Refusal.{Refusal}
use Rattle.ap_ports.specs.Elsewhere.{IsAstray}

-- the least number of which it holds, or none where it holds of none
abbrev pub IsFirst : (ℕ → Type 0) → Option ℕ → Type 0
IsFirst P None = (n : ℕ) → P n → ⊥
IsFirst P (Some n) = P n × ((other : ℕ) → P other → n ≤ other)

-- the least fault, or none where no fault holds
abbrev pub IsLeastIn : (Fault → ℕ → Type 0) → Option Refusal → Type 0
IsLeastIn Holds None = HoldsNowhere Holds
IsLeastIn Holds (Some refusal) = IsLeast Holds refusal

-- the kind is one of these
abbrev pub IsAmong : List Fault → Fault → Type 0
IsAmong [] kind = ⊥
IsAmong (x ∷ kinds) kind = (x ≡ kind) ⊎ IsAmong kinds kind

-- a fault of ports or stages, of one of these kinds
abbrev pub MeetsOneOf : Design → List Fault → Fault → ℕ → Type 0
MeetsOneOf design kinds kind line = IsAmong kinds kind × MeetsPortFault design kind line

-- the line at a place of an instruction
abbrev pub LineAt : List Micro → ℕ → (Micro → Type 0) → Type 0
LineAt micros place P = (m : Micro) × (slice_get micros place ≡ Some m) × P m

-- an earlier line of the instruction uses the port of the line at the place
abbrev pub IsTwice : List Micro → ℕ → Type 0
IsTwice micros place = LineAt micros place (λ m. (i : ℕ) × (i < place) × LineAt micros i (λ (e : Micro). share_port e.act m.act ≡ true))

-- the line at the place is of a lower stage than the line before it
abbrev pub IsBack : List Micro → ℕ → Type 0
IsBack micros place = LineAt micros place (λ m. (i : ℕ) × (i + 1 ≡ place) × LineAt micros i (λ (e : Micro). m.stage < e.stage))

-- the line is in stage 0
abbrev pub is_zero : Micro → Bool
is_zero m = m.stage == 0

-- a write in a stage in which a transfer may still kill it
abbrev pub is_early : Design → Micro → Bool
is_early design m = is_write m.act && nat_lt (m.stage + design.slots + 1) design.branch

-- a slow unit with an operand that may change while it works
abbrev pub IsUnsteady : Design → Instr → Micro → Type 0
IsUnsteady design instr m = IsTrue (is_slow design m.act) × ReachesUnstable design instr m.stage m.act

-- the line at a place of an instruction has a fault that shows without the graph; of lines that use a port in two stages only those
-- count that aren't in the stage of its first use, which the least of all is among
abbrev pub BreaksAt : Design → Instr → Fault → ℕ → Type 0
BreaksAt design instr f.TwiceInInstruction place = IsTwice instr.micros place
BreaksAt design instr f.TwoStages place = LineAt instr.micros place (IsAstray design)
BreaksAt design instr f.StageZero place = LineAt instr.micros place (λ m. is_zero m ≡ true)
BreaksAt design instr f.StageOrder place = IsBack instr.micros place
BreaksAt design instr f.EarlyCommit place = LineAt instr.micros place (λ m. is_early design m ≡ true)
BreaksAt design instr f.UnstableOperand place = LineAt instr.micros place (IsUnsteady design instr)
BreaksAt design instr _ place = ⊥

-- the line at this number has such a fault
pub record BreaksIn (design : Design) (kind : Fault) (line : ℕ) : Type 0 where
  pub instr : Instr
  pub number : ℕ
  pub is_instr : slice_get design.instrs number ≡ Some instr
  pub place : ℕ
  pub micro : Micro
  pub is_line : slice_get instr.micros place ≡ Some micro
  pub at : micro.line ≡ line
  pub breaks : BreaksAt design instr kind place

-- the line closes a loop of some stage
abbrev pub ClosesSome : Design → ℕ → Type 0
ClosesSome design line = (stage : ℕ) × ClosesLoop design stage line
