-- The registers of a stage, and what they take.
use Rattle.std.specs.Prelude.{◌≡◌, ℕ, ◌+◌, ◌<◌, ◌≤◌, if◌then◌else◌, List, [], ◌∷◌, ◌++◌, length, map, slice_get, Some, Contains}
use Rattle.ap_net.specs.declared.cell.Wire.{Wire}
use Rattle.ap_net.specs.declared.net.ModuleNet.{ModuleNet}
use Rattle.ap_net.specs.declared.net.Next.{Next}
use Rattle.ap_net.specs.Cells.{IsNet}
use Rattle.ap_net.specs.Draft.{Draft, Extends, CanFresh, KeepsNew}
use Rattle.ap_net.specs.Late.{StayLate}
use Rattle.ap_net.specs.Making.{Closes}
use Rattle.ap_net.specs.Modules.{ports_among}
use Rattle.ap_net.specs.Readings.{Carries, Reading}
use Rattle.ap_net.specs.Ready.{Dependence, ReadyAfter, numbers}
use Rattle.ap_net.specs.Wiring.{IsRegister, Unclocked}
use Rattle.ap_ctl.specs.Building.{IsBit, is_on}
use Rattle.ap_ctl.specs.Lists.{EachFrom, EachPair}
use Rattle.ap_pipe.specs.declared.table.Home.{Home}
use Rattle.ap_flight.specs.declared.entry.Leaving.{Leaving}
use Rattle.ap_flight.specs.declared.stage.Coming.{Coming}
use Rattle.ap_flight.specs.declared.stage.StageRegisters.{StageRegisters}
use Rattle.ap_flight.specs.Entries.{SlotTakes, leaving_numbers, left_to}

-- the registers of a stage: word, place, slots
abbrev pub stage_wires : StageRegisters → List Wire
stage_wires registers = registers.word ∷ registers.place ∷ registers.slots

-- the register is there, and takes nothing yet
pub record IsOpen (d : Draft) (w : Wire) : Type 0 where
  pub net : IsNet d.nets w
  pub register : IsRegister d.nets w.number
  pub free : Unclocked d.nexts w.number

-- the net is there with the bits of the register
pub record IsLike (nets : List ModuleNet) (register w : Wire) : Type 0 where
  pub net : IsNet nets w
  pub same : w.width ≡ register.width

-- what is left has a condition of one bit, and no more bits than the slot of its home
pub record FitsHome (nets : List ModuleNet) (slots : List Wire) (home : Home) (l : Leaving) : Type 0 where
  pub cond : IsBit nets l.cond
  pub net : IsNet nets l.net
  pub fits : (slot : Wire) → slice_get slots home.slot ≡ Some slot → l.net.width ≤ slot.width

-- what comes to a stage: the nets are there, and there is one for each home
pub record IsComing (registers : StageRegisters) (homes : List Home) (nets : List ModuleNet) (coming : Coming) : Type 0 where
  pub hold : IsBit nets coming.hold
  pub word : IsLike nets registers.word coming.word
  pub place : IsLike nets registers.place coming.place
  pub locals : EachPair (FitsHome nets registers.slots) homes coming.locals

abbrev pub coming_numbers : StageRegisters → Coming → List ℕ
coming_numbers registers coming = coming.hold.number ∷ coming.word.number ∷ coming.place.number ∷ numbers (stage_wires registers) ++ leaving_numbers coming.locals

-- the register takes a net that always means this
pub record TakesNet (d : Draft) (Means : Reading → ℕ → Type 0) (register : Wire) : Type 0 where
  pub from : Wire
  pub next : Contains d.nexts (record { register = register; from = from })
  pub carries : Carries d register.width Means from

-- a register stays where the stage is held, and else takes what comes
abbrev pub PassesOn : Wire → Wire → Wire → Reading → ℕ → Type 0
PassesOn hold register w r x = x ≡ (if is_on r hold then r.read register.number else r.read w.number)

-- the nets are what the slots of these registers take, from a number on
abbrev pub AreSlotNets : Draft → Wire → List Home → List Leaving → ℕ → List Wire → List Wire → Type 0
AreSlotNets d hold homes list slot [] [] = Unit {0}
AreSlotNets d hold homes list slot (register ∷ registers) [] = ⊥
AreSlotNets d hold homes list slot [] (w ∷ nets) = ⊥
AreSlotNets d hold homes list slot (register ∷ registers) (w ∷ nets) =
    Carries d register.width (SlotTakes hold register (left_to slot homes list)) w × AreSlotNets d hold homes list (slot + 1) registers nets

-- Each register of the stage got what it takes: word, place and slots stay where the stage is held. Else the word and the place are those
-- that come, and a slot takes what is left to it. Fresh wires came, which follow from what comes and from the registers and have their
-- drivers; all else stays.
pub record DrivesStage (registers : StageRegisters) (homes : List Home) (coming : Coming) (old new : Draft) : Type 0 where
  pub word : TakesNet new (PassesOn coming.hold registers.word coming.word) registers.word
  pub place : TakesNet new (PassesOn coming.hold registers.place coming.place) registers.place
  pub slots : EachFrom (λ slot register. TakesNet new (SlotTakes coming.hold register (left_to slot homes coming.locals)) register) 0 registers.slots
  pub extends : Extends old new
  pub nexts : (more : List Next) × (new.nexts ≡ old.nexts ++ more) × (map (λ (x : Next). x.register) more ≡ stage_wires registers)
  pub instances : new.instances ≡ old.instances
  pub ports : ports_among new.nets ≡ ports_among old.nets
  pub fresh : CanFresh new
  pub names : KeepsNew old new
  pub late : StayLate old new
  pub came : (by : Dependence) (n : ℕ) → length old.nets ≤ n → n < length new.nets → ReadyAfter by new (coming_numbers registers coming) n
  pub closes : Closes old new
