use Rattle.std.proofs.Common.{sym, ap, ◌∙◌, arith}
use Rattle.ap_desc.specs.Reserved.{is_among}
use Rattle.ap_check.specs.Names.{with_name}
use Rattle.ap_check.proofs.NameLists.{fields_more, fields_twice}
use Rattle.ap_check.proofs.uses.distinct_names.Goals as goal

pub returns-then-contains : goal.returns-then-contains
returns-then-contains c =
    fields_twice c.args.fields.now c.loop-field.field-index c.field-item.result c.loop-field.names (omega arith) c.field-item.is c.loop-field.invariant.0
    (sym (ap (λ x. is_among x c.loop-field.names) c.as_str.ensures.same) ∙ sym c.contains.ensures ∙ c.if-contains.true)

pub loop-field-preserved : goal.loop-field-preserved
loop-field-preserved c =
    fields_more c.args.fields.now c.loop-field.field-index c.field-item.result c.loop-field.names c.add.new.self (omega arith) c.field-item.is c.loop-field.invariant.0 c.loop-field.invariant.1
    (sym (ap (λ x. is_among x c.loop-field.names) c.as_str.ensures.same) ∙ sym c.contains.ensures ∙ c.if-contains.false)
    (c.in_ok-add.ensures ∙ ap (λ x. with_name c.loop-field.names x) c.as_str-in-loop-field.ensures.same)
