use Rattle.std.proofs.Common.{sym, ◌∙◌}
use Rattle.ap_check.proofs.NewUnit.{unit_found, unit_missing}
use Rattle.ap_check.proofs.declared.Declared.new_unit.Goals as goal

pub returns-in-Some : goal.returns-in-Some
returns-in-Some g c = unit_found _ c.args.self.now c.args.name.now c.args.kind.now c.as_str.result.now c.in-Some._place c.as_str.ensures.same c.in-Some.ensures.place (sym c.is_part.ensures ∙ c.if-is_part.false)

pub returns-in-None : goal.returns-in-None
returns-in-None g c = unit_missing _ c.args.self.now c.args.name.now c.args.kind.now c.as_str.result.now c.as_str.ensures.same c.in-None.ensures.place (sym c.is_part.ensures ∙ c.if-is_part.false)
