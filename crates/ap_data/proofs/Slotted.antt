-- Locals that stand in slots.
use Rattle.std.proofs.Common.{ap, ◌∙◌}
use Rattle.ap_net.proofs.Laws.{settled_before}
use Rattle.ap_stage.specs.Sources.{net_value}
use Rattle.ap_data.specs.Slots.{SlotsStand}

pub slots_stand : SlotsStand
slots_stand a d base c served s name from h e same named = record {
  slot = s.slot;
  from = from;
  named = named;
  reads = record { holds = λ r settled. ap (net_value r) (same.keeps.kept s.local h.net h.at) ∙ h.carries.means.holds r (settled_before e r settled) };
}
