use Rattle.std.proofs.lemmas.Bool.{leb-true}
use Rattle.ap_stages.proofs.link.stage_link.Goals as goal

pub link_net-requires-clause-few : goal.link_net-requires-clause-few
link_net-requires-clause-few c = leb-true c.args.design.now.slots 8 c.requires.clean.sound.within.slots
