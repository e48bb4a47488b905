-- The drafts of a top that was put together, up to its last one.
use Rattle.std.proofs.Common.{◌≡◌, ℕ, List, ◌∙◌}
use Rattle.std.specs.Prelude.{codes}
use Rattle.ap_desc.specs.declared.design.Design.{Design}
use Rattle.ap_net.specs.Draft.{Draft, Extends}
use Rattle.ap_net.specs.Modules.{ModuleText}
use Rattle.ap_net.proofs.Drafts.{Extends-trans}
use Rattle.ap_front.specs.Ports.{HasPorts}
use Rattle.ap_front.proofs.PortNets.{ports_go_on}
use Rattle.ap_lead.specs.Left.{LeadsLeaveRest}
use Rattle.ap_gen.specs.declared.tables.Tables.{Tables}
use Rattle.ap_gen.specs.declared.top.Top.{Top}
use Rattle.ap_gen.specs.Tops.{Tops, ports_of}
use Rattle.ap_gen.proofs.Growing.{Grown, acts_add, acts_grow, rests_grow_on}

module _ (design : Design) (tables : Tables) (modules : List ModuleText) (places : List ℕ) (made : Top) (new : Draft) (h : Tops design tables modules places made new) where
  pub acted_on : Extends h.acted new
  acted_on = Extends-trans h.acted h.flows.flown new h.flows.flights.drives.extends (Extends-trans h.flows.flown h.flows.fetched new h.flows.fetches.extends h.flows.shows.extends)

  grown : Grown design tables modules places made.start made.stages h.before.before.staged h.before.before.before h.acted
  grown = acts_grow design tables modules places made.start made.stages made.target h.acted h.before

  pub first_on : Extends h.before.before.before.starts.leads.first new
  first_on = Extends-trans h.before.before.before.starts.leads.first h.acted new grown.first acted_on

  pub first_to : Extends h.before.before.before.starts.leads.first h.before.acts.written
  first_to =
      let rests = rests_grow_on design tables modules places made.start made.stages h.before.rested h.before.before in
      Extends-trans h.before.before.before.starts.leads.first h.before.rested h.before.acts.written rests.first h.before.acts.writes.drives.extends

  pub filed_on : Extends h.before.before.before.starts.filed new
  filed_on = Extends-trans h.before.before.before.starts.filed h.acted new grown.filed acted_on

  pub steered_to_acted : Extends h.before.before.before.steered h.acted
  steered_to_acted = grown.steered.extends

  pub steered_on : Extends h.before.before.before.steered new
  steered_on = Extends-trans h.before.before.before.steered h.acted new grown.steered.extends acted_on

  pub staged_on : Extends h.before.before.staged new
  staged_on = Extends-trans h.before.before.staged h.acted new grown.later.extends acted_on

  pub rested_on : Extends h.before.rested new
  rested_on = Extends-trans h.before.rested h.acted new (acts_add design tables modules places made.start made.stages made.target h.acted h.before).extends acted_on

  pub written_on : Extends h.before.acts.written new
  written_on = Extends-trans h.before.acts.written h.acted new h.before.acts.transfers.drives.extends acted_on

  -- What stands in the last one. ----------------------------------------------------------------------------------------------

  pub ports_at : (d : Draft) → Extends h.before.before.before.starts.leads.first d → HasPorts design d (ports_of made.start)
  ports_at d later = ports_go_on design h.before.before.before.starts.leads.first d (ports_of made.start) later h.before.before.before.starts.leads.declares.ports

  pub is_top : LeadsLeaveRest → new.name ≡ codes "top"
  is_top leave = filed_on.name ∙ (leave design tables.slots.stages made.start.lead h.before.before.before.starts.filed h.before.before.before.starts.leads).top
