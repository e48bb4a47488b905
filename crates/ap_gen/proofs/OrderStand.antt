-- What stands before control in a top that was put together of its parts: registers and inputs, and what the late wires serve.
use Rattle.std.proofs.Common.{◌≡◌, ℕ, ◌≤◌, List, [], length, refl, sym, subst, inl, arith}
use Rattle.std.specs.List.{AllByRecursion as Each}
use Rattle.std.proofs.lemmas.List.{length-map, map-append}
use Rattle.ap_bits.specs.declared.card.Card.{Card}
use Rattle.ap_desc.specs.declared.design.Design.{Design}
use Rattle.ap_net.specs.declared.cell.Wire.{Wire}
use Rattle.ap_net.specs.Draft.{Draft, Extends}
use Rattle.ap_net.specs.Modules.{ModuleText, port_net}
use Rattle.ap_net.specs.Outside.{ports_of as ports_from}
use Rattle.ap_net.specs.Pending.{Among}
use Rattle.ap_net.specs.Ready.{Dependence, numbers}
use Rattle.ap_net.proofs.Drafts.{longer}
use Rattle.ap_net.proofs.Growing.{stays}
use Rattle.ap_net.proofs.Lists.{All-both, All-from, All-map, All-unmap}
use Rattle.ap_ctl.proofs.Built.{among_all}
use Rattle.ap_slow.proofs.Lates.{among_back}
use Rattle.ap_front.specs.NewNames.{ported}
use Rattle.ap_parts.specs.Known.{AreKnown, dependence_of, known_by}
use Rattle.ap_runs.specs.FirstPorts.{looks_of}
use Rattle.ap_signals.specs.DesignOutside.{outside_of}
use Rattle.ap_steps.specs.Known.{AgreesAtKnown}
use Rattle.ap_steps.specs.TopOrder.{IsSeen, StandFollows, TopDrafts, TopNumbers}
use Rattle.ap_steps.proofs.PortNumbers.{known_are_seen}
use Rattle.ap_lead.specs.Seen.{LeadIsSeen, lead_registers}
use Rattle.ap_lead.proofs.SeenNets.{leads_are_seen}
use Rattle.ap_work.specs.Leaving.{IsLaterRegister}
use Rattle.ap_work.specs.Ordering.{FollowsWork, IsDrivenByStage}
use Rattle.ap_work.proofs.Grown.{known_units_need}
use Rattle.ap_work.proofs.Ordered.{work_follows}
use Rattle.ap_gen.specs.declared.tables.Tables.{Tables}
use Rattle.ap_gen.specs.declared.top.Top.{Top}
use Rattle.ap_gen.specs.Tops.{Tops, control_of, front_of, ports_of}
use Rattle.ap_gen.specs.Whole.{drafts_of, numbers_of, registers_of}
use Rattle.ap_gen.proofs.Growing.{work_on}
use Rattle.ap_gen.proofs.OrderGrowth.{filed_shown, grows, lead_of, steered_shown}

-- registers that came after the ports look at nothing
seen_later : (by other : Dependence) (design : Design) (all : List Wire) (low : ℕ) (a d : Draft) → by.looks ≡ looks_of (outside_of design) → AgreesAtKnown (length (ports_from (outside_of design))) all by other → length (ports_from (outside_of design)) ≤ low
    → Extends a d → (w : Wire) → Among (numbers all) w.number → IsLaterRegister low a w → IsSeen other d [] w.number
seen_later by other design all low a d looks agrees few later w among r =
    let high = r.later in
    known_are_seen.registers (outside_of design) all by other d looks agrees w.number r.net (omega (arith, few, high)) among (stays a.nets d.nets later.nets w.number r.net r.there) r.source

module _ (cards : List Card) (design : Design) (tables : Tables) (modules : List ModuleText) (places : List ℕ) (made : Top) (new : Draft) (h : Tops design tables modules places made new)
    (other : Dependence) (agrees : AgreesAtKnown (length (ports_from (outside_of design))) (registers_of made) (dependence_of (known_by cards).names design) other) where
  abbrev t : TopDrafts
  t = drafts_of design tables modules places made new h

  abbrev n : TopNumbers
  n = numbers_of made

  few : length (ports_from (outside_of design)) ≤ length h.before.before.before.starts.filed.nets
  few =
      let g = grows cards design tables modules places made new h in
      let ports : length (ported design).nets ≡ length (ports_from (outside_of design)) = length-map (ports_from (outside_of design)) port_net in
      let one = longer t.ported t.opened g.0.extends in
      let two = longer t.opened t.declared g.1.0.extends in
      let three = longer t.declared t.registered g.1.1.0.extends in
      let four = longer t.registered t.filed g.1.1.1.0.extends in
      omega (arith, ports, one, two, three, four)

  valid_among : Each (λ (w : Wire). Among (numbers (registers_of made)) w.number) (control_of made.start).valid
  valid_among =
      let valid = (control_of made.start).valid in
      let lead = lead_registers made.start.lead in
      All-from (λ (w : Wire). Among (numbers valid) w.number) (λ (w : Wire). Among (numbers (registers_of made)) w.number)
      (λ w k. subst (λ ns. Among ns w.number) (sym (map-append (λ (x : Wire). x.number) lead valid)) (among_back (numbers lead) (numbers valid) w.number k))
      valid (All-unmap (Among (numbers valid)) (λ (w : Wire). w.number) valid (among_all (numbers valid)))

  pub valid_seen : Each (IsSeen other new []) n.valid
  valid_seen =
      let valid = (control_of made.start).valid in
      let steered = h.before.before.before.steered in
      let low = length h.before.before.before.starts.filed.nets in
      All-map (IsSeen other new []) (λ (w : Wire). w.number) valid
      (All-both (λ (w : Wire). Among (numbers (registers_of made)) w.number) (IsLaterRegister low steered) (λ (w : Wire). IsSeen other new [] w.number)
      (seen_later (dependence_of (known_by cards).names design) other design (registers_of made) low steered new refl agrees few (steered_shown cards design tables modules places made new h))
      valid valid_among (work_on design tables modules places made.start steered h.before.before.before.starts).registers)

  lead_seen : LeadIsSeen other made.start.lead new
  lead_seen =
      leads_are_seen (dependence_of (known_by cards).names design) other design tables.slots.stages made.start.lead h.before.before.before.starts.filed new (control_of made.start).valid h.before.before.before.starts.leads
      (filed_shown cards design tables modules places made new h) refl agrees

  -- What came with units and control, where the stages drive what units wait for.
  pub work_of : (kinds : ℕ) → AreKnown (known_by cards) design modules places kinds → Each (IsDrivenByStage design n.driven) made.start.work.units → FollowsWork other t n
  work_of kinds known driven =
      let starts = h.before.before.before.starts in
      work_follows other design (front_of made.start) (ports_of made.start) modules places made.start.work starts.filed h.before.before.before.steered starts.works t n
      (known_units_need (known_by cards) design modules places kinds other known agrees.needs)
      (record { filed = refl; united = refl; stood = refl; controlled = refl; steered = refl })
      (record { front = refl; wait = inl refl; valid = refl; units = refl; taken = refl; decoded = refl; hold = refl; kill = refl; fires = refl })
      (All-from (IsSeen other new []) (λ k. other.looks k ≡ []) (λ k s. s.looks) n.valid valid_seen)
      driven

  pub stand_follows : FollowsWork other t n → StandFollows other t n
  stand_follows work =
      let lead = lead_of cards design tables modules places made new h other agrees.needs in
      let seen = lead_seen in
      record {
        ports = lead.ports;
        opened = lead.front_came;
        declared = lead.regs_came;
        front = seen.front;
        regs = seen.regs;
        valid = valid_seen;
        given = seen.given;
        word = seen.word;
        mems = seen.mems;
        registered = lead.registered;
        filed = lead.filed;
        united = work.united;
        stood = work.stood;
      }
