use Rattle.ap_plain.specs.Scenes.{control_of_scene}
use Rattle.ap_plain.proofs.SceneLemmas.{entries_fit}
use Rattle.ap_plain.proofs.scene.add_flight_entries.Goals as goal

pub returns-in_ok-add_writes-clause-fits : goal.returns-in_ok-add_writes-clause-fits
returns-in_ok-add_writes-clause-fits c =
    entries_fit c.args.scene.now.design.now c.args.scene.now.cards.now c.args.scene.now.inputs.now c.args.scene.now.state.now (control_of_scene c.args.scene.now) c.args.stage c.args.flight.now _
    c.in_ok-effect.field-0 c.in-Some-2.effect c.in-Some.is c.in_ok-effect.ensures.value c.in-Some-2.is c.in_ok-effect.ensures.fits
