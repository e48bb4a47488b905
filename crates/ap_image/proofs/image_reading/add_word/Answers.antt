use Rattle.std.proofs.Common.{◌^◌, nat_lt, sym, ap, ◌∙◌}
use Rattle.ap_image.proofs.OneMoreLine.{grown_from, many_fault, place_within, wide_fault, word_step}
use Rattle.ap_image.proofs.image_reading.add_word.Goals as goal

pub returns-then-not-has_bits-clause-err : goal.returns-then-not-has_bits-clause-err
returns-then-not-has_bits-clause-err c = λ before line h g n. wide_fault c.args.shape.now before line c.args.so_far.now c.in-Some.place c.args.word c.width_at.result c.args.number _ c.rules.ensures h g c.in-Some.is c.width_at.ensures (sym c.has_bits.ensures ∙ c.if-not-has_bits.true) n c.at-then-not-has_bits.ensures

pub returns-then-not-has_bits-2-clause-err : goal.returns-then-not-has_bits-2-clause-err
returns-then-not-has_bits-2-clause-err c = λ before line h g n. many_fault c.args.shape.now before line c.args.so_far.now c.in-Some.place c.args.word c.width_at.result c.address_at.result c.args.number c.index.result.now _ c.rules.ensures h g c.in-Some.is c.width_at.ensures c.address_at.ensures c.index.ensures
    (sym c.has_bits.ensures ∙ c.if-not-has_bits.false)
    (ap (λ n. nat_lt n (2 ^ c.address_at.result)) (sym c.len.ensures) ∙ sym c.has_bits-2.ensures ∙ c.if-not-has_bits-2.true) n c.at-then-not-has_bits-2.ensures

pub returns-clause-ok : goal.returns-clause-ok
returns-clause-ok c = λ before line h g. word_step c.args.shape.now before line c.args.so_far.now c.add.new.self c.in-Some.place c.args.word c.width_at.result c.address_at.result c.index.result.now c.rules.ensures h g c.in-Some.is c.width_at.ensures c.address_at.ensures c.index.ensures
    (sym c.has_bits.ensures ∙ c.if-not-has_bits.false)
    (ap (λ n. nat_lt n (2 ^ c.address_at.result)) (sym c.len.ensures) ∙ sym c.has_bits-2.ensures ∙ c.if-not-has_bits-2.false)
    c.add.ensures.begun
    (grown_from c.args.so_far.now.words.items c.add.new.self.words.items c.in-Some.place c.index.result.now c.args.word (place_within c.args.shape.now before c.args.so_far.now c.in-Some.place h c.in-Some.is) c.index.ensures c.in_ok-add.ensures.words)
    c.add.ensures.at
