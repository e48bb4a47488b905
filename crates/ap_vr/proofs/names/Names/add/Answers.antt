use Rattle.std.specs.String.{string_bytes}
use Rattle.ap_vr.proofs.NameTables.{named_last, named_new}
use Rattle.ap_vr.proofs.names.Names.add.Goals as goal

pub returns-clause-table : goal.returns-clause-table
returns-clause-table c = rw (c.in_ok-new.ensures.keys, ← c.self.view_is) (named_last string_bytes c.args.name.now c.in_ok-name.name c.self.inside.names.keys c.in_ok-name.ensures.ok)

pub returns-clause-new : goal.returns-clause-new
returns-clause-new c = rw (← c.self.view_is) (named_new string_bytes c.args.name.now c.in_ok-name.name c.self.inside.names.keys c.in_ok-new.new c.in_ok-name.ensures.ok c.in_ok-new.ensures.added)
