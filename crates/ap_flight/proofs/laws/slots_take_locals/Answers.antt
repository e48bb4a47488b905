use Rattle.ap_flight.proofs.Locals.{all_fit, contained, leaves_all, one_leaves}
use Rattle.ap_flight.proofs.laws.slots_take_locals.Goals as goal

pub returns : goal.returns
returns c = λ design stage slots word r list value clean are lt conds values. record {
  take = λ place home instr there at m hold register x off t.
      let apart = (c.clean_is_encoded.ensures design clean).words in
      t.takes off (value home.local)
      (leaves_all design word lt apart r value home instr at m slots.homes list (all_fit design word lt apart r value home instr at m stage slots.widths slots.homes are.homes (contained slots.homes place home there)) conds values)
      (one_leaves design word lt apart r value home instr at m slots.homes list place there conds);
}
