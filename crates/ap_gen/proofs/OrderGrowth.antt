-- The steps of a top that was put together of its parts: each grows from the one before, and the registers take something in the end.
use Rattle.std.proofs.Common.{◌≡◌, ℕ, List, [], refl, subst, ◌∙◌, append-nil}
use Rattle.std.specs.List.{AllByRecursion as Each}
use Rattle.ap_bits.specs.declared.card.Card.{Card}
use Rattle.ap_desc.specs.declared.design.Design.{Design}
use Rattle.ap_net.specs.declared.net.Instance.{Instance}
use Rattle.ap_net.specs.Draft.{Draft, Extends}
use Rattle.ap_net.specs.Modules.{ModuleText}
use Rattle.ap_net.specs.Ready.{Dependence}
use Rattle.ap_net.proofs.Drafts.{Extends-trans}
use Rattle.ap_net.proofs.Lists.{All-join}
use Rattle.ap_front.specs.NewNames.{ported}
use Rattle.ap_front.specs.Opened.{front_wires}
use Rattle.ap_parts.specs.Known.{dependence_of, known_by}
use Rattle.ap_steps.specs.Clocked.{IsClocked}
use Rattle.ap_steps.specs.Steps.{AtEachStep, Grows}
use Rattle.ap_steps.specs.TopOrder.{step, steps_of}
use Rattle.ap_steps.proofs.Clocked.{registers_are_clocked}
use Rattle.ap_lead.specs.Declaring.{opened}
use Rattle.ap_lead.specs.Leading.{LeadFollows, steps_to}
use Rattle.ap_lead.specs.Seen.{lead_registers}
use Rattle.ap_lead.proofs.Leaving.{known_files_need}
use Rattle.ap_lead.proofs.Led.{leads_follow}
use Rattle.ap_lead.proofs.SeenNets.{regs_are_clocked}
use Rattle.ap_rest.specs.Idle.{idle_units}
use Rattle.ap_rest.specs.Reads.{idle_reads, idle_writes}
use Rattle.ap_rest.proofs.Fitted.{idles_grow, rests_grow}
use Rattle.ap_act.specs.Follow.{TransferFollows, WritesFollow}
use Rattle.ap_act.proofs.Follow.{transfer_is_ready, writes_are_ready}
use Rattle.ap_flow.specs.Followed.{FlowGrows}
use Rattle.ap_flow.proofs.Followed.{flows_grow}
use Rattle.ap_gen.specs.declared.tables.Tables.{Tables}
use Rattle.ap_gen.specs.declared.top.Top.{Top}
use Rattle.ap_gen.specs.Tops.{Tops, control_of, front_of, ports_of, regs_of}
use Rattle.ap_gen.specs.Whole.{drafts_of, registers_of}
use Rattle.ap_gen.proofs.Growing.{Grown, acts_grow, work_on}

-- two steps without instances are one
joined : (a b c : Draft) → Grows a (step b []) → Grows b (step c []) → Grows a (step c [])
joined a b c g h = record {
  extends = Extends-trans a b c g.extends h.extends;
  instances = h.instances ∙ append-nil b.instances ∙ g.instances;
  ports = h.ports ∙ g.ports;
}

module _ (cards : List Card) (design : Design) (tables : Tables) (modules : List ModuleText) (places : List ℕ) (made : Top) (new : Draft) (h : Tops design tables modules places made new) where
  abbrev by : Dependence
  by = dependence_of (known_by cards).names design

  pub lead_of : (other : Dependence) → other.needs ≡ by.needs → LeadFollows other design tables.slots.stages made.start.lead h.before.before.before.starts.filed h.before.before.before.starts.leads
  lead_of other needs =
      leads_follow other design tables.slots.stages made.start.lead h.before.before.before.starts.filed h.before.before.before.starts.leads (known_files_need cards design other needs)

  lead_steps : AtEachStep Grows (ported design) (steps_to (opened design tables.slots.stages) h.before.before.before.starts.leads.first h.before.before.before.starts.leads.driven h.before.before.before.starts.filed h.before.before.before.starts.leads.stores.placed)
  lead_steps =
      let lead = lead_of by refl in
      subst (λ (files : List Instance). AtEachStep Grows (ported design) (steps_to (opened design tables.slots.stages) h.before.before.before.starts.leads.first h.before.before.before.starts.leads.driven h.before.before.before.starts.filed files)) lead.files_are lead.grows

  pub flow_grows : FlowGrows design tables.slots (front_of made.start) (ports_of made.start) (control_of made.start) made.target made.stages.stages.items made.flow h.acted new h.flows
  flow_grows = flows_grow design tables.slots (front_of made.start) (ports_of made.start) (control_of made.start) made.target made.stages.stages.items made.flow h.acted new h.flows

  pub writes_of : (other : Dependence) → WritesFollow other design (control_of made.start).fires made.stages.stages.items (ports_of made.start) h.before.rested h.before.acts.written
  writes_of other = writes_are_ready other design (control_of made.start).fires made.stages.stages.items (ports_of made.start) h.before.rested h.before.acts.written h.before.acts.writes

  pub transfer_of : (other : Dependence) → TransferFollows other (control_of made.start).valid made.stages.stages.items made.start.work.taken h.before.acts.written h.acted
  transfer_of other = transfer_is_ready other design (control_of made.start).valid made.stages.stages.items made.start.work.taken made.target h.before.acts.written h.acted h.before.acts.transfers

  pub grows : AtEachStep Grows (ported design) (steps_of (drafts_of design tables modules places made new h))
  grows =
      let lead = lead_steps in
      let r = h.before.before.rests in
      let serves = h.before.before.before.makes.staged.serves in
      let work = (work_on design tables modules places made.start h.before.before.before.steered h.before.before.before.starts).steps in
      let flow = flow_grows.steps in (
        lead.0,
        (
          lead.1.0,
          (
            lead.1.1.0,
            (
              lead.1.1.1.0,
              (
                work.0,
                (
                  work.1.0,
                  (
                    work.1.1.0,
                    (
                      work.1.1.1.0,
                      (
                        record { extends = serves.serves.adds.extends; instances = serves.serves.instances; ports = serves.serves.ports },
                        (
                          idles_grow design modules places (idle_units design) h.before.before.staged r.idled r.idles,
                          (
                            joined r.idled r.read h.before.rested
                                (rests_grow (idle_reads design made.start.lead.files (ports_of made.start).mems) r.idled r.read r.reads)
                                (rests_grow (idle_writes design 0 (ports_of made.start).mems) r.read h.before.rested r.writes),
                            ((writes_of by).grows, ((transfer_of by).grows, flow)),
                          ),
                        ),
                      ),
                    ),
                  ),
                ),
              ),
            ),
          ),
        ),
      )

  -- Drafts in the last one. ------------------------------------------------------------------------------------------------------

  at_acted : Grown design tables modules places made.start made.stages h.before.before.staged h.before.before.before h.acted
  at_acted = acts_grow design tables modules places made.start made.stages made.target h.acted h.before

  pub filed_shown : Extends h.before.before.before.starts.filed new
  filed_shown = Extends-trans h.before.before.before.starts.filed h.acted new at_acted.filed flow_grows.extends

  pub steered_shown : Extends h.before.before.before.steered new
  steered_shown = Extends-trans h.before.before.before.steered h.acted new at_acted.steered.extends flow_grows.extends

  pub clocked : Each (IsClocked new) (registers_of made)
  clocked =
      let front = front_wires (front_of made.start) in
      All-join (IsClocked new) (lead_registers made.start.lead) (control_of made.start).valid
      (All-join (IsClocked new) front (regs_of made.start) flow_grows.clocked
      (regs_are_clocked design tables.slots.stages made.start.lead h.before.before.before.starts.filed new h.before.before.before.starts.leads filed_shown))
      (registers_are_clocked.later h.before.before.before.steered new (control_of made.start).valid steered_shown
      (work_on design tables modules places made.start h.before.before.before.steered h.before.before.before.starts).clocked)
