use Rattle.std.proofs.Common.{◌<◌, length, ◌∙◌, arith}
use Rattle.ap_program.proofs.DataFaults.{count_there, data_is}
use Rattle.ap_program.proofs.Transfers.{there_read}
use Rattle.ap_program.proofs.judging.is_bad_data.Goals as goal

pub returns : goal.returns
returns c = λ before h.
    let low : c.in-Some.place < length c.args.design.now.mems = c.in-Some.ensures.within in
    let few : c.in-Some.place < length c.args.so_far.now.words = omega (arith, low, c.requires.counts) in
    c.are_too_much.ensures
    ∙ data_is c.args.design.now before c.args.so_far.now c.args.name.now c.args.words.now c.in-Some.place _ c.index-as_slice-place.result c.requires.clean h c.in-Some.ensures.place
    (there_read c.args.design.now.mems c.as_slice.result.now c.in-Some.place c.index-as_slice-place.result c.as_slice.ensures low c.index-as_slice-place.is) (count_there c.as_slice-2.result.now c.args.so_far.now.words c.in-Some.place _ c.as_slice-2.ensures few)
