use Rattle.std.specs.String.{string_bytes}
use Rattle.ap_flat.proofs.NameLists.{named_last}
use Rattle.ap_flat.proofs.names.Names.add.Goals as goal

pub returns : goal.returns
returns c = rw (c.in_ok-_new.ensures.keys, ← c.self.view_is) (named_last string_bytes c.args.name.now c.in_ok-name.name c.self.inside.names.keys c.in_ok-name.ensures.ok)
