use Rattle.ap_whole.proofs.Homes.{has_home}
use Rattle.ap_whole.proofs.laws.homes_are_found.Goals as goal

pub returns : goal.returns
returns c = λ design stage widths homes clean are k i instr at live.
    has_home design clean (c.clean_is_encoded.ensures design clean).words (λ x here. c.agreeing_patterns_share_words.ensures.lies design x clean.sound here) stage widths homes are k i instr at live
