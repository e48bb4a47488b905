-- The registers of a description in a processor's top: their declaration, and what they take.
use Rattle.std.specs.Prelude.{◌≡◌, ℕ, ◌+◌, ◌<◌, ◌≤◌, if◌then◌else◌, List, [], ◌∷◌, ◌++◌, Option, Some, None, length, map}
use Rattle.std.specs.List.{AllByRecursion as Each}
use Rattle.ap_desc.specs.declared.design.Reg.{Reg}
use Rattle.ap_net.specs.declared.cell.Wire.{Wire}
use Rattle.ap_net.specs.declared.net.ModuleNet.{ModuleNet}
use Rattle.ap_net.specs.declared.net.Next.{Next}
use Rattle.ap_net.specs.declared.net.Role.TheVariants as role
use Rattle.ap_net.specs.Draft.{Draft, Extends, CanFresh, KeepsNew, names_of}
use Rattle.ap_net.specs.Late.{StayLate}
use Rattle.ap_net.specs.Modules.{ports_among}
use Rattle.ap_net.specs.Names.{IsNew}
use Rattle.ap_net.specs.Readings.{Reading}
use Rattle.ap_net.specs.Ready.{Dependence, ReadyAfter, numbers}
use Rattle.ap_net.specs.Wiring.{NoneTwice}
use Rattle.ap_signals.specs.NetRuns.{reg_name}
use Rattle.ap_ctl.specs.Building.{IsBit, is_on}
use Rattle.ap_ctl.specs.Lists.{EachPair}
use Rattle.ap_flight.specs.Stages.{IsLike, IsOpen, TakesNet}
use Rattle.ap_border.specs.Named.{IsResetNamed}
use Rattle.ap_bank.specs.declared.regs.RegWrite.{RegWrite}

-- the net of a register, and the draft with registers
abbrev pub reg_net : Reg → ModuleNet
reg_net r = record { name = reg_name r; width = r.width; role = role.Register r.reset }

abbrev pub with_regs : Draft → List Reg → Draft
with_regs d regs = record d { nets = d.nets ++ map reg_net regs }

-- they have the numbers from this one on
abbrev pub reg_wires : ℕ → List Reg → List Wire
reg_wires number [] = []
reg_wires number (r ∷ regs) = record { number = number; width = r.width } ∷ reg_wires (number + 1) regs

-- no net or instance has one of their names
abbrev pub IsNewReg : Draft → Reg → Type 0
IsNewReg d r = IsNew (reg_name r) (names_of d)

abbrev pub AreNewRegs : List Reg → Draft → Type 0
AreNewRegs regs d = Each (IsNewReg d) regs

-- a name that none of them has is as new as it was
abbrev pub KeepsOtherRegs : List Reg → Draft → Draft → Type 0
KeepsOtherRegs regs old new = (name : List ℕ) → Each (λ (r : Reg). reg_name r ≡ name → ⊥) regs → IsNew name (names_of old) → IsNew name (names_of new)

-- a register by its name, with its bits and its value after the reset edge
pub record IsReg (d : Draft) (r : Reg) (w : Wire) : Type 0 where
  pub begins : IsResetNamed d (reg_name r) r.reset w
  pub wide : w.width ≡ r.width

-- The registers are there, no two are one, and none takes anything yet.
pub record AreRegs (d : Draft) (regs : List Reg) (registers : List Wire) : Type 0 where
  pub each : EachPair (IsReg d) regs registers
  pub opened : Each (IsOpen d) registers
  pub apart : NoneTwice (numbers registers)

-- what is written to a register has its bits
abbrev pub IsRegWrite : List ModuleNet → Wire → Option RegWrite → Type 0
IsRegWrite nets register None = Unit {0}
IsRegWrite nets register (Some w) = IsBit nets w.enable × IsLike nets register w.value

-- it takes what is written, and else keeps what it holds
abbrev pub RegTakes : Wire → Option RegWrite → Reading → ℕ → Type 0
RegTakes register None r x = x ≡ r.read register.number
RegTakes register (Some w) r x = x ≡ (if is_on r w.enable then r.read w.value.number else r.read register.number)

-- the nets that it reads
abbrev pub reg_numbers : Wire → Option RegWrite → List ℕ
reg_numbers register None = register.number ∷ []
reg_numbers register (Some w) = w.enable.number ∷ w.value.number ∷ register.number ∷ []

abbrev pub regs_numbers : List Wire → List (Option RegWrite) → List ℕ
regs_numbers [] writes = []
regs_numbers (register ∷ registers) [] = []
regs_numbers (register ∷ registers) (w ∷ writes) = reg_numbers register w ++ regs_numbers registers writes

-- each register takes what is written to it
abbrev pub TakeWrites : Draft → List Wire → List (Option RegWrite) → Type 0
TakeWrites d registers writes = EachPair (λ register write. TakesNet d (RegTakes register write) register) registers writes

-- Each register got what it takes. Fresh wires came, which follow from these nets and have their drivers; all else stays.
pub record DrivesRegs (registers : List Wire) (writes : List (Option RegWrite)) (old new : Draft) : Type 0 where
  pub takes : TakeWrites new registers writes
  pub extends : Extends old new
  pub nexts : (more : List Next) × (new.nexts ≡ old.nexts ++ more) × (map (λ (x : Next). x.register) more ≡ registers)
  pub instances : new.instances ≡ old.instances
  pub ports : ports_among new.nets ≡ ports_among old.nets
  pub fresh : CanFresh new
  pub names : KeepsNew old new
  pub late : StayLate old new
  pub came : (by : Dependence) (n : ℕ) → length old.nets ≤ n → n < length new.nets → ReadyAfter by new (regs_numbers registers writes) n
