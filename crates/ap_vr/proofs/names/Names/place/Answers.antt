use Rattle.std.proofs.Common.{◌∙◌}
use Rattle.std.specs.String.{string_bytes}
use Rattle.std.specs.Str.{bytes_eq}
use Rattle.ap_vr.proofs.NameTables.{position_of_map}
use Rattle.ap_vr.proofs.names.Names.place.Goals as goal

pub returns : goal.returns
returns c = rw (← c.self.view_is) (c.get_index_of.ensures.index ∙ position_of_map string_bytes (bytes_eq c.args.name.now) c.self.inside.names.keys)
