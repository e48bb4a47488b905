-- The second part of a top can be made over the first.
use Rattle.std.proofs.Common.{ℕ, ap, ◌∙◌}
use Rattle.std.specs.Prelude.{if◌then◌else◌}
use Rattle.std.proofs.lemmas.Bool.{lt-ltb}
use Rattle.ap_bits.specs.declared.card.Latency.TheVariants.{One, WidthPlusOne}
use Rattle.ap_desc.specs.declared.design.Unit.{Unit as Resource}
use Rattle.ap_net.proofs.Drafts.{Extends-trans}
use Rattle.ap_unit.specs.Units.{ports_by}
use Rattle.ap_parts.specs.Known.{StandsThere, known_ports}
use Rattle.ap_parts.proofs.Lists.{pair_at}
use Rattle.ap_lead.specs.Left.{LeadsLeaveRest}
use Rattle.ap_work.specs.Working.{OpenFrontsStand}
use Rattle.ap_gen.specs.Started.{KnownAreSlow, LeadsAreControlled}

-- the modules of units of several cycles are there
pub known_are_slow : KnownAreSlow
known_are_slow knows design modules places kinds known unit u at slow =
    let (place, there, stands) = pair_at (λ (x : Resource) (k : ℕ). StandsThere modules k (knows.names x) (known_ports knows x)) design.units places known.units unit u at in
    record {
      whole = stands.whole;
      stands = record { place = place; there = there; at = stands.at };
      has = record {
        select = knows.selects u;
        ports = stands.has ∙ ap (λ b. ports_by (if b then WidthPlusOne else One) (knows.selects u) u.width) (lt-ltb 1 u.latency slow);
      };
    }

pub leads_are_controlled : OpenFrontsStand → LeadsLeaveRest → LeadsAreControlled
leads_are_controlled stand leave design slots lead d are h =
    let rest = leave design slots.stages lead d h in
    let later = Extends-trans h.first h.driven d h.drives.extends h.stores.extends in
    record {
      front = stand design slots lead.declared.front lead.declared.ports h.first d are h.declares.front h.declares.front_open h.declares.ports later;
      units = λ unit u at. rest.units u;
      valid = λ stage low high. rest.valid stage;
      top = rest.top;
      fresh = rest.fresh;
    }
