use Rattle.std.proofs.Common.{◌≡◌, ◌+◌, ◌*◌, ◌^◌, ◌%◌, ◌<◌, sym, ap, ◌∙◌, get_or, arith}
use Rattle.std.specs.Prelude.{zip}
use Rattle.ap_enc.specs.Packed.{packed}
use Rattle.ap_enc.proofs.Pairs.{both_fit, packed_fits, packed_fixed, packed_free}
use Rattle.ap_enc.proofs.word.+packed.Goals as goal

pub overflow_add-result : goal.overflow_add-result
overflow_add-result t c =
    let whole : packed (zip c.args.fields.now c.args.fixed.now) c.args.values.now ≡ c.in-Some-default.value * 2 ^ c.field-item.result.low + c.packed.result =
    packed_fixed c.args.fields.now c.args.fixed.now c.args.values.now c.field-item.result c.in-Some-default.value (omega arith) (omega arith) c.field-item.is c.in-Some-default.is-0 ∙ ap (λ n. c.in-Some-default.value * 2 ^ c.field-item.result.low + n) (sym c.packed.ensures) in
    let less : packed (zip c.args.fields.now c.args.fixed.now) c.args.values.now < 2 ^ 64 = packed_fits (zip c.args.fields.now c.args.fixed.now) c.args.values.now c.requires.placed c.requires.fit c.requires.width in
    let sum : c.in-Some-default.value * 2 ^ c.field-item.result.low % 2 ^ 64 + c.packed.result ≡ packed (zip c.args.fields.now c.args.fixed.now) c.args.values.now =
    both_fit (packed (zip c.args.fields.now c.args.fixed.now) c.args.values.now) (c.in-Some-default.value * 2 ^ c.field-item.result.low) c.packed.result whole less in
    omega arith

pub overflow_add-result-in-None-len1-up : goal.overflow_add-result-in-None-len1-up
overflow_add-result-in-None-len1-up t c =
    let whole : packed (zip c.args.fields.now c.args.fixed.now) c.args.values.now ≡ get_or c.args.values.now 0 0 * 2 ^ c.field-item.result.low + c.packed-in-None-len1-up.result =
    packed_free c.args.fields.now c.args.fixed.now c.args.values.now c.field-item.result (omega arith) (omega arith) c.in-None-len1-up.len_at_least c.field-item.is c.in-None-len1-up.is-0
    ∙ ap (λ n. get_or c.args.values.now 0 0 * 2 ^ c.field-item.result.low + n) (sym c.packed-in-None-len1-up.ensures) in
    let less : packed (zip c.args.fields.now c.args.fixed.now) c.args.values.now < 2 ^ 64 = packed_fits (zip c.args.fields.now c.args.fixed.now) c.args.values.now c.requires.placed c.requires.fit c.requires.width in
    let sum : get_or c.args.values.now 0 0 * 2 ^ c.field-item.result.low % 2 ^ 64 + c.packed-in-None-len1-up.result ≡ packed (zip c.args.fields.now c.args.fixed.now) c.args.values.now =
    both_fit (packed (zip c.args.fields.now c.args.fixed.now) c.args.values.now) (get_or c.args.values.now 0 0 * 2 ^ c.field-item.result.low) c.packed-in-None-len1-up.result whole less in
    omega arith

pub returns-in-Some-default : goal.returns-in-Some-default
returns-in-Some-default t c =
    let whole : packed (zip c.args.fields.now c.args.fixed.now) c.args.values.now ≡ c.in-Some-default.value * 2 ^ c.field-item.result.low + c.packed.result =
    packed_fixed c.args.fields.now c.args.fixed.now c.args.values.now c.field-item.result c.in-Some-default.value (omega arith) (omega arith) c.field-item.is c.in-Some-default.is-0 ∙ ap (λ n. c.in-Some-default.value * 2 ^ c.field-item.result.low + n) (sym c.packed.ensures) in
    let less : packed (zip c.args.fields.now c.args.fixed.now) c.args.values.now < 2 ^ 64 = packed_fits (zip c.args.fields.now c.args.fixed.now) c.args.values.now c.requires.placed c.requires.fit c.requires.width in
    both_fit (packed (zip c.args.fields.now c.args.fixed.now) c.args.values.now) (c.in-Some-default.value * 2 ^ c.field-item.result.low) c.packed.result whole less

pub returns-in-None-len1-up : goal.returns-in-None-len1-up
returns-in-None-len1-up t c =
    let whole : packed (zip c.args.fields.now c.args.fixed.now) c.args.values.now ≡ get_or c.args.values.now 0 0 * 2 ^ c.field-item.result.low + c.packed-in-None-len1-up.result =
    packed_free c.args.fields.now c.args.fixed.now c.args.values.now c.field-item.result (omega arith) (omega arith) c.in-None-len1-up.len_at_least c.field-item.is c.in-None-len1-up.is-0
    ∙ ap (λ n. get_or c.args.values.now 0 0 * 2 ^ c.field-item.result.low + n) (sym c.packed-in-None-len1-up.ensures) in
    let less : packed (zip c.args.fields.now c.args.fixed.now) c.args.values.now < 2 ^ 64 = packed_fits (zip c.args.fields.now c.args.fixed.now) c.args.values.now c.requires.placed c.requires.fit c.requires.width in
    both_fit (packed (zip c.args.fields.now c.args.fixed.now) c.args.values.now) (get_or c.args.values.now 0 0 * 2 ^ c.field-item.result.low) c.packed-in-None-len1-up.result whole less
