use Rattle.std.proofs.Common.{get_or, sym, ap, ◌∙◌}
use Rattle.ap_image.proofs.OneMoreLine.{begin_step, second_fault, unknown_fault}
use Rattle.ap_image.proofs.image_reading.begin_part.Goals as goal

pub returns-in_default-clause-err : goal.returns-in_default-clause-err
returns-in_default-clause-err c = λ before line h b n. unknown_fault c.args.shape.now before line c.args.so_far.now c.args.number c.args.name.now _ h b c.in_default.ensures.none n c.at.ensures

pub returns-then-index-clause-err : goal.returns-then-index-clause-err
returns-then-index-clause-err c = λ before line h b n. second_fault c.args.shape.now before line c.args.so_far.now c.in-Some.place c.args.number c.args.name.now _ h b c.in-Some.ensures.some
    (sym c.if-index.true ∙ c.index.ensures ∙ ap (get_or c.args.so_far.now.begun.items c.in-Some.place) c.if-index.true) n c.at-then-index.ensures

pub returns-clause-ok : goal.returns-clause-ok
returns-clause-ok c = λ before line h b. begin_step c.args.shape.now before line c.args.so_far.now c.begin.new.self c.in-Some.place c.args.name.now c.rules.ensures h b c.in-Some.ensures.some
    (sym c.if-index.false ∙ c.index.ensures ∙ ap (get_or c.args.so_far.now.begun.items c.in-Some.place) c.if-index.false) c.begin.ensures.begun c.begin.ensures.words c.begin.ensures.at
