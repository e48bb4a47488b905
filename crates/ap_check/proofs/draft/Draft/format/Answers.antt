use Rattle.std.proofs.Common.{sym, ◌∙◌}
use Rattle.ap_check.proofs.FewFields.{few_bits}
use Rattle.ap_check.proofs.draft.Draft.format.Goals as goal

pub placed_fields-requires : goal.placed_fields-requires
placed_fields-requires c = few_bits c.args.self.now.design.word c.args.fields.now c.requires.word c.requires.few (sym c.has_wrong_field.ensures ∙ c.if-has_wrong_field.false)
