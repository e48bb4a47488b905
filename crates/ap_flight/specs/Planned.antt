-- The registers in which a stage has its flight: its word, the word's address, and the slots of live locals.
use Rattle.std.specs.Prelude.{◌≡◌, ℕ, ◌+◌, ◌≤◌, List, [], ◌∷◌, ◌++◌, map}
use Rattle.std.specs.List.{AllByRecursion as Each}
use Rattle.ap_desc.specs.declared.design.Design.{Design}
use Rattle.ap_net.specs.declared.cell.Wire.{Wire}
use Rattle.ap_net.specs.declared.net.ModuleNet.{ModuleNet}
use Rattle.ap_net.specs.declared.net.Role.TheVariants as role
use Rattle.ap_net.specs.Draft.{Draft, names_of}
use Rattle.ap_net.specs.Names.{AreDistinct, IsNetName, IsNew, IsNotNumbered}
use Rattle.ap_pipe.specs.declared.table.StageSlots.{StageSlots}
use Rattle.ap_signals.specs.NetRuns.{place_name, slot_name, word_name}
use Rattle.ap_flight.specs.declared.plan.Planned.{Planned}

-- the slots from a number on
abbrev pub slots_from : ℕ → ℕ → List ℕ → List Planned
slots_from stage slot [] = []
slots_from stage slot (width ∷ widths) = record { name = slot_name stage slot; width = width } ∷ slots_from stage (slot + 1) widths

-- the registers of a stage whose slots have these widths
abbrev pub stage_plan : Design → ℕ → List ℕ → List Planned
stage_plan design stage widths =
    record { name = word_name stage; width = design.word } ∷ record { name = place_name stage; width = design.address } ∷ slots_from stage 0 widths

-- those of the stages from one on
abbrev pub stages_plan : Design → ℕ → List StageSlots → List Planned
stages_plan design stage [] = []
stages_plan design stage (slots ∷ stages) = stage_plan design stage slots.widths ++ stages_plan design (stage + 1) stages

-- a register that can be declared
pub record IsPlan (p : Planned) : Type 0 where
  pub named : IsNetName p.name
  pub other : IsNotNumbered p.name
  pub low : 1 ≤ p.width
  pub high : p.width ≤ 64

abbrev pub IsNewIn : Draft → Planned → Type 0
IsNewIn d p = IsNew p.name (names_of d)

abbrev pub planned_name : Planned → List ℕ
planned_name p = p.name

-- no two have one name, and no net or instance has one of theirs
pub record AreNew (plan : List Planned) (d : Draft) : Type 0 where
  pub each : Each (IsNewIn d) plan
  pub apart : AreDistinct (map planned_name plan)

-- the register is 0 after the reset edge
abbrev pub register_net : Planned → ModuleNet
register_net p = record { name = p.name; width = p.width; role = role.Register 0 }

-- the draft with these registers
abbrev pub with_registers : Draft → List Planned → Draft
with_registers d plan = record d { nets = d.nets ++ map register_net plan }

-- they have the numbers from this one on
abbrev pub register_wires : ℕ → List Planned → List Wire
register_wires number [] = []
register_wires number (p ∷ plan) = record { number = number; width = p.width } ∷ register_wires (number + 1) plan

-- a name that none of them has is as new as it was
abbrev pub KeepsOther : List Planned → Draft → Draft → Type 0
KeepsOther plan old new = (name : List ℕ) → Each (λ (p : Planned). p.name ≡ name → ⊥) plan → IsNew name (names_of old) → IsNew name (names_of new)
