use Rattle.ap_effect.proofs.Effects.{transfer_shows}
use Rattle.ap_effect.proofs.laws.nets_show_transfer.Goals as goal

pub returns : goal.returns
returns c = transfer_shows (λ design clean. (c.clean_is_encoded.ensures design clean).words) c.transfers_have_one_line.ensures
