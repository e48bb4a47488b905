-- What the border asks of a top that was put together: its front, storages and units of several cycles.
use Rattle.std.proofs.Common.{ℕ, List}
use Rattle.std.specs.Prelude.{length}
use Rattle.ap_bits.specs.declared.card.Card.{Card}
use Rattle.ap_desc.specs.Clean.{FitsCards, IsClean}
use Rattle.ap_desc.specs.declared.design.Design.{Design}
use Rattle.ap_net.specs.Draft.{Draft, Extends}
use Rattle.ap_net.specs.Modules.{ModuleText}
use Rattle.ap_net.proofs.Drafts.{Extends-refl, Extends-trans}
use Rattle.ap_pipe.specs.Slots.{AreSlotsOf}
use Rattle.ap_bank.specs.Border.{BanksRegs}
use Rattle.ap_flow.specs.Border.{FlowsGiveFront, IsControlOf}
use Rattle.ap_front.proofs.PortNets.{ports_go_on}
use Rattle.ap_parts.specs.Known.{AreKnown, HasParts, known_by}
use Rattle.ap_built.specs.Front.{IsFrontBuilt}
use Rattle.ap_lead.specs.Leading.{LeadGivesRegs}
use Rattle.ap_lead.specs.Left.{LeadsLeaveRest}
use Rattle.ap_lead.specs.Writes.{reg_writes}
use Rattle.ap_staged.specs.Led.{BanksReads, LeadsBankReads}
use Rattle.ap_work.specs.Serving.{ServesBorder, WorkServesBorder}
use Rattle.ap_work.specs.Working.{StandsControlled, WorkStands}
use Rattle.ap_gen.specs.declared.tables.Tables.{Tables}
use Rattle.ap_gen.specs.declared.top.Top.{Top}
use Rattle.ap_gen.specs.Tops.{Tops, control_of, front_of, ports_of, regs_of}
use Rattle.ap_gen.proofs.BuiltGrown.{filed_on, is_top, steered_on, steered_to_acted}

module _ (design : Design) (tables : Tables) (modules : List ModuleText) (places : List ℕ) (made : Top) (new : Draft) (h : Tops design tables modules places made new) where
  -- Control. ------------------------------------------------------------------------------------------------------------------

  pub controlled : IsClean design → WorkStands → StandsControlled design made.start.work new
  controlled clean stands =
      stands design (front_of made.start) (ports_of made.start) modules places made.start.work h.before.before.before.starts.filed h.before.before.before.steered new clean h.before.before.before.starts.works
      (steered_on design tables modules places made new h)

  pub is_control_of : IsControlOf design (front_of made.start) (ports_of made.start) made.start.work.given (control_of made.start) h.acted
  is_control_of =
      let l = h.before.before.before.starts.leads in
      let w = h.before.before.before.starts.works in
      let filed : Draft = h.before.before.before.starts.filed in
      let to_filed : Extends l.first filed = Extends-trans l.first l.driven filed l.drives.extends l.stores.extends in
      let to_stood : Extends filed w.stood = Extends-trans filed w.united w.stood w.placed.adds.extends w.declares.adds.extends in
      record {
        before = w.stood;
        after = w.controlled;
        ports = ports_go_on design l.first w.stood (ports_of made.start) (Extends-trans l.first filed w.stood to_filed to_stood) l.declares.ports;
        words = w.gives.words;
        wait = w.gives.wait;
        adds = w.adds;
        control = w.control;
        later = Extends-trans w.controlled h.before.before.before.steered h.acted w.drives.drives.extends (steered_to_acted design tables modules places made new h);
      }

  -- Registers. ----------------------------------------------------------------------------------------------------------------

  pub banks_regs : LeadGivesRegs → BanksRegs design new (regs_of made.start) (reg_writes (ports_of made.start).groups (length design.regs))
  banks_regs give = give design tables.slots.stages made.start.lead h.before.before.before.starts.filed new h.before.before.before.starts.leads (filed_on design tables modules places made new h)

  -- Over any modules that have the design's parts. ------------------------------------------------------------------------------

  module _ (cards other : List Card) (exchange : List ModuleText) (fits : FitsCards design other) (has : HasParts (known_by cards) other design exchange) where
    pub banks_reads : LeadsBankReads → BanksReads design new exchange made.start.lead.files
    banks_reads bank =
        bank design tables.slots.stages made.start.lead h.before.before.before.starts.filed new (known_by cards) other exchange fits.clean has h.before.before.before.starts.leads (filed_on design tables modules places made new h)

    pub serves_border : (kinds : ℕ) → AreKnown (known_by cards) design modules places kinds → LeadsLeaveRest → WorkServesBorder → ServesBorder (known_by cards) other design new exchange made.start.work
    serves_border kinds known leave serve =
        serve (known_by cards) other design (front_of made.start) (ports_of made.start) modules places kinds exchange made.start.work h.before.before.before.starts.filed h.before.before.before.steered new known fits has
        h.before.before.before.starts.works (steered_on design tables modules places made new h) (is_top design tables modules places made new h leave)

    pub front_built : ServesBorder (known_by cards) other design new exchange made.start.work → AreSlotsOf design tables.slots → FlowsGiveFront
        → IsFrontBuilt design new exchange tables.slots (front_of made.start) made.flow.comings made.flow.fetching made.start.work.given (control_of made.start)
    front_built served slots give =
        give design exchange tables.slots (front_of made.start) (ports_of made.start) made.start.work.given (control_of made.start) made.target made.stages.stages.items made.flow h.acted new new slots h.flows (Extends-refl new)
        is_control_of served.busy
