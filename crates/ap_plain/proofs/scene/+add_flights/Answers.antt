use Rattle.ap_plain.specs.Scenes.{control_of_scene}
use Rattle.ap_plain.proofs.SceneLemmas.{flights_next_fit}
use Rattle.ap_plain.proofs.scene.+add_flights.Goals as goal

pub returns-in_ok-add_flights-in-len1-up-clause-fits : goal.returns-in_ok-add_flights-in-len1-up-clause-fits
returns-in_ok-add_flights-in-len1-up-clause-fits t c =
    flights_next_fit c.args.scene.now.design.now c.args.scene.now.cards.now c.args.scene.now.inputs.now c.args.scene.now.state.now (control_of_scene c.args.scene.now) c.args.stage c.args.coming
    c.in_ok-left-in-len1-up.left c.flight-item.result c.args.flights.now c.in-len1-up.len_at_least c.flight-item.is c.requires.coming c.requires.flights c.in_ok-left-in-len1-up.ensures.value c.in_ok-add_flights-in-len1-up.ensures.fits
