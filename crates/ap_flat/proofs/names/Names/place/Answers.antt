use Rattle.std.proofs.Common.{Some, None}
use Rattle.std.specs.String.{string_bytes}
use Rattle.ap_flat.proofs.NameLists.{found_place}
use Rattle.ap_flat.proofs.names.Names.place.Goals as goal

pub returns-in-Some : goal.returns-in-Some
returns-in-Some c = rw (← c.self.view_is) (found_place string_bytes c.args.name.now c.self.inside.names.keys (Some c.in-Some.place) c.in-Some.ensures.index c.in-Some.ensures.found)

pub returns-in-None : goal.returns-in-None
returns-in-None c = rw (← c.self.view_is) (found_place string_bytes c.args.name.now c.self.inside.names.keys None c.in-None.ensures.index c.in-None.ensures.found)
