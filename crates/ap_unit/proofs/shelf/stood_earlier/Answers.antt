use Rattle.ap_unit.proofs.Names.{stood_test}
use Rattle.ap_unit.proofs.shelf.stood_earlier.Goals as goal

pub returns : goal.returns
returns g c = stood_test _ c.args.kinds.now c.args.i c.index-kinds-i.result c.name_of-name.result.now c.place_among.result c.is_some.result c.requires c.index-kinds-i.is c.name_of-name.ensures c.place_among.ensures.place c.is_some.ensures
