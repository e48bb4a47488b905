-- Where a top begins, and at which nets the outside looks for the inputs and registers of its first part, in each later draft.
use Rattle.std.specs.Prelude.{◌≡◌, List, [], ◌∷◌, ◌++◌, codes, length, map}
use Rattle.std.specs.List.{AllByRecursion as Each}
use Rattle.ap_desc.specs.declared.design.Design.{Design}
use Rattle.ap_net.specs.declared.cell.Wire.{Wire}
use Rattle.ap_net.specs.Draft.{Draft, Extends}
use Rattle.ap_net.specs.Modules.{port_net}
use Rattle.ap_net.specs.Outside.{ports_of}
use Rattle.ap_net.specs.Ready.{Dependence, numbers}
use Rattle.ap_runs.specs.FirstPorts.{looks_of}
use Rattle.ap_pipe.specs.declared.table.StageSlots.{StageSlots}
use Rattle.ap_signals.specs.DesignOutside.{outside_of}
use Rattle.ap_front.specs.NewNames.{ported}
use Rattle.ap_front.specs.Opened.{front_wires}
use Rattle.ap_steps.specs.Clocked.{IsClocked}
use Rattle.ap_steps.specs.Known.{AgreesAtKnown}
use Rattle.ap_steps.specs.TopOrder.{IsSeen, MemNumbers}
use Rattle.ap_lead.specs.declared.store.Lead.{Lead}
use Rattle.ap_lead.specs.Leading.{given_numbers, mem_read}
use Rattle.ap_lead.specs.Storing.{Leads}

-- A top begins with the ports of its outside, and with nothing else.
pub record BeginsWithOutside (design : Design) : Type 0 where
  pub name : (ported design).name ≡ codes "top"
  pub begins : (ported design).nets ≡ map port_net (ports_of (outside_of design))
  pub bare : (ported design).instances ≡ []

abbrev pub LeadsBegin : Type 0
LeadsBegin = (design : Design) → BeginsWithOutside design

-- the registers: those of the front, then those of the description
abbrev pub lead_registers : Lead → List Wire
lead_registers made = front_wires made.declared.front ++ made.declared.regs

-- Registers, and inputs but those of memories, look at nothing; the word that is fetched, where it is fetched; what is read, where it is read.
pub record LeadIsSeen (by : Dependence) (made : Lead) (d : Draft) : Type 0 where
  pub front : Each (IsSeen by d []) (numbers (front_wires made.declared.front))
  pub regs : Each (IsSeen by d []) (numbers made.declared.regs)
  pub given : Each (IsSeen by d []) (given_numbers made.declared.ports)
  pub word : IsSeen by d (made.declared.ports.iaddr.number ∷ []) made.declared.ports.idata.number
  pub mems : Each (λ (m : MemNumbers). IsSeen by d (m.at ∷ []) m.value) (map mem_read made.declared.ports.mems)

-- So it is by each dependence that agrees with the outside at the ports and at these registers, and maybe at others.
abbrev pub LeadsAreSeen : Type 0
LeadsAreSeen = (by other : Dependence) (design : Design) (stages : List StageSlots) (made : Lead) (a d : Draft) (more : List Wire) → Leads design stages made a → Extends a d
    → by.looks ≡ looks_of (outside_of design) → AgreesAtKnown (length (ports_of (outside_of design))) (lead_registers made ++ more) by other → LeadIsSeen other made d

-- the registers of the description take something
abbrev pub RegsAreClocked : Type 0
RegsAreClocked = (design : Design) (stages : List StageSlots) (made : Lead) (a d : Draft) → Leads design stages made a → Extends a d → Each (IsClocked d) made.declared.regs
