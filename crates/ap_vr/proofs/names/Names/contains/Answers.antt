use Rattle.std.proofs.Common.{◌∙◌}
use Rattle.std.specs.String.{string_bytes}
use Rattle.std.specs.Str.{bytes_eq}
use Rattle.ap_vr.proofs.NameTables.{any_of_map}
use Rattle.ap_vr.proofs.names.Names.contains.Goals as goal

pub returns : goal.returns
returns c = rw (← c.self.view_is) (c.contains.ensures ∙ any_of_map string_bytes (bytes_eq c.args.name.now) c.self.inside.names.keys)
