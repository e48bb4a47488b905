use Rattle.std.proofs.Common.{◌∙◌}
use Rattle.std.specs.String.{string_bytes}
use Rattle.ap_check.proofs.NameLists.{any_among}
use Rattle.ap_check.proofs.names.Names.contains.Goals as goal

pub returns : goal.returns
returns c = rw (← c.self.view_is) (c.contains.ensures ∙ any_among string_bytes c.args.name.now c.self.inside.names.keys)
