use Rattle.std.proofs.Common.{◌≡◌, ◌<◌, Some, refl, sym, ◌∙◌, arith}
use Rattle.ap_enc.specs.Words.{first_unfit}
use Rattle.ap_enc.proofs.Encoded.{packed_read, read_of, unfit_read, unfit_small}
use Rattle.ap_enc.proofs.word.encode.Goals as goal

pub overflow_cast-result : goal.overflow_cast-result
overflow_cast-result c =
    let r = read_of c.args.design.now c.as_slice.result.now c.as_slice.ensures c.args.instr c.requires.instr c.index-as_slice-instr.result c.index-as_slice-instr.is c.fields_of-fields.result.now c.as_slice-fixed.result.now c.fields_of-fields.ensures c.as_slice-fixed.ensures in
    let small : c.in-Some.number < 16 = unfit_small c.args.design.now c.requires.clean.sound c.args.instr c.fields_of-fields.result.now c.as_slice-fixed.result.now c.args.values.now c.in-Some.number r (sym c.first_unfit.ensures ∙ c.in-Some.is) in
    omega arith

pub packed-requires-clause-placed : goal.packed-requires-clause-placed
packed-requires-clause-placed c =
    let r = read_of c.args.design.now c.as_slice.result.now c.as_slice.ensures c.args.instr c.requires.instr c.index-as_slice-instr.result c.index-as_slice-instr.is c.fields_of-fields.result.now c.as_slice-fixed.result.now c.fields_of-fields.ensures c.as_slice-fixed.ensures in
    (packed_read c.args.design.now c.requires.clean.sound (c.clean_is_encoded.ensures c.args.design.now c.requires.clean) c.args.instr c.fields_of-fields.result.now c.as_slice-fixed.result.now c.args.values.now r c.requires.values
    (sym (unfit_read c.args.design.now c.args.instr c.fields_of-fields.result.now c.as_slice-fixed.result.now c.args.values.now r) ∙ sym c.first_unfit.ensures ∙ c.in-None.is)).placed

pub packed-requires-clause-fit : goal.packed-requires-clause-fit
packed-requires-clause-fit c =
    let r = read_of c.args.design.now c.as_slice.result.now c.as_slice.ensures c.args.instr c.requires.instr c.index-as_slice-instr.result c.index-as_slice-instr.is c.fields_of-fields.result.now c.as_slice-fixed.result.now c.fields_of-fields.ensures c.as_slice-fixed.ensures in
    (packed_read c.args.design.now c.requires.clean.sound (c.clean_is_encoded.ensures c.args.design.now c.requires.clean) c.args.instr c.fields_of-fields.result.now c.as_slice-fixed.result.now c.args.values.now r c.requires.values
    (sym (unfit_read c.args.design.now c.args.instr c.fields_of-fields.result.now c.as_slice-fixed.result.now c.args.values.now r) ∙ sym c.first_unfit.ensures ∙ c.in-None.is)).fit

pub packed-requires-clause-width : goal.packed-requires-clause-width
packed-requires-clause-width c =
    let r = read_of c.args.design.now c.as_slice.result.now c.as_slice.ensures c.args.instr c.requires.instr c.index-as_slice-instr.result c.index-as_slice-instr.is c.fields_of-fields.result.now c.as_slice-fixed.result.now c.fields_of-fields.ensures c.as_slice-fixed.ensures in
    (packed_read c.args.design.now c.requires.clean.sound (c.clean_is_encoded.ensures c.args.design.now c.requires.clean) c.args.instr c.fields_of-fields.result.now c.as_slice-fixed.result.now c.args.values.now r c.requires.values
    (sym (unfit_read c.args.design.now c.args.instr c.fields_of-fields.result.now c.as_slice-fixed.result.now c.args.values.now r) ∙ sym c.first_unfit.ensures ∙ c.in-None.is)).width

pub returns-in-Some-clause-err : goal.returns-in-Some-clause-err
returns-in-Some-clause-err c =
    let r = read_of c.args.design.now c.as_slice.result.now c.as_slice.ensures c.args.instr c.requires.instr c.index-as_slice-instr.result c.index-as_slice-instr.is c.fields_of-fields.result.now c.as_slice-fixed.result.now c.fields_of-fields.ensures c.as_slice-fixed.ensures in
    sym (unfit_read c.args.design.now c.args.instr c.fields_of-fields.result.now c.as_slice-fixed.result.now c.args.values.now r) ∙ sym c.first_unfit.ensures ∙ c.in-Some.is

pub returns-in-Some-clause-fits : goal.returns-in-Some-clause-fits
returns-in-Some-clause-fits c =
    let r = read_of c.args.design.now c.as_slice.result.now c.as_slice.ensures c.args.instr c.requires.instr c.index-as_slice-instr.result c.index-as_slice-instr.is c.fields_of-fields.result.now c.as_slice-fixed.result.now c.fields_of-fields.ensures c.as_slice-fixed.ensures in
    let unfit : first_unfit c.args.design.now c.args.instr c.args.values.now ≡ Some c.in-Some.number =
    sym (unfit_read c.args.design.now c.args.instr c.fields_of-fields.result.now c.as_slice-fixed.result.now c.args.values.now r) ∙ sym c.first_unfit.ensures ∙ c.in-Some.is in
    (λ e. absurd (cc), λ e. absurd (cc))

pub returns-in-None-clause-ok : goal.returns-in-None-clause-ok
returns-in-None-clause-ok c =
    let r = read_of c.args.design.now c.as_slice.result.now c.as_slice.ensures c.args.instr c.requires.instr c.index-as_slice-instr.result c.index-as_slice-instr.is c.fields_of-fields.result.now c.as_slice-fixed.result.now c.fields_of-fields.ensures c.as_slice-fixed.ensures in
    rw c.packed.ensures
    (packed_read c.args.design.now c.requires.clean.sound (c.clean_is_encoded.ensures c.args.design.now c.requires.clean) c.args.instr c.fields_of-fields.result.now c.as_slice-fixed.result.now c.args.values.now r c.requires.values
    (sym (unfit_read c.args.design.now c.args.instr c.fields_of-fields.result.now c.as_slice-fixed.result.now c.args.values.now r) ∙ sym c.first_unfit.ensures ∙ c.in-None.is)).word

pub returns-in-None-clause-fits : goal.returns-in-None-clause-fits
returns-in-None-clause-fits c =
    let r = read_of c.args.design.now c.as_slice.result.now c.as_slice.ensures c.args.instr c.requires.instr c.index-as_slice-instr.result c.index-as_slice-instr.is c.fields_of-fields.result.now c.as_slice-fixed.result.now c.fields_of-fields.ensures c.as_slice-fixed.ensures in
    (λ e. sym (unfit_read c.args.design.now c.args.instr c.fields_of-fields.result.now c.as_slice-fixed.result.now c.args.values.now r) ∙ sym c.first_unfit.ensures ∙ c.in-None.is, λ e. refl)
