use Rattle.ap_ctl.proofs.Fields.{matches_by_fields}
use Rattle.ap_ctl.proofs.laws.words_match_by_fields.Goals as goal

pub returns : goal.returns
returns c = matches_by_fields c.clean_is_encoded.ensures
