use Rattle.std.proofs.Common.{◌≡◌, ◌+◌, ◌<◌, length, replicate, sym, ap, subst, ◌∙◌, arith}
use Rattle.std.specs.Prelude.{slice_index}
use Rattle.ap_asm.specs.Standing.{HoldsGroups}
use Rattle.ap_asm.proofs.Codes.{code_room, held_more, held_none, written, written_back, written_length}
use Rattle.ap_asm.proofs.Links.{there_read}
use Rattle.ap_asm.proofs.encoding.code_of.Goals as goal

pub loop-i-init : goal.loop-i-init
loop-i-init c = subst (HoldsGroups c.args.design.now c.args.source.now c.args.starts.now c.args.ends.now 0) (sym (c.in_ok-code.ensures ∙ ap (λ n. replicate n c.in_ok-nop.nop) c.code_size.ensures.size)) (held_none c.args.design.now c.args.source.now c.args.starts.now c.args.ends.now c.in_ok-nop.nop c.in_ok-nop.ensures)

pub write_words-requires : goal.write_words-requires
write_words-requires c =
    let lt : c.loop-i.i < length c.args.source.now.groups = (let z = ap length c.as_slice-group-items.ensures in omega (arith, c.loop-i-test.true)) in
    let x = there_read c.args.source.now.groups c.as_slice-group-items.result.now c.loop-i.i c.group-item.result c.as_slice-group-items.ensures lt c.group-item.is in
    let room = code_room c.args.design.now c.args.source.now c.requires.fits c.args.starts.now c.args.ends.now c.loop-i.i c.group-item.result c.in_ok-words.words c.loop-i.code.items c.requires.starts x c.in_ok-words.ensures c.loop-i.invariant.size in
    let w = ap length c.as_slice.ensures in
    let v = ap length c.as_mut_slice.ensures.value in
    omega arith

pub loop-i-preserved : goal.loop-i-preserved
loop-i-preserved c =
    let lt : c.loop-i.i < length c.args.source.now.groups = (let z = ap length c.as_slice-group-items.ensures in omega (arith, c.loop-i-test.true)) in
    let x = there_read c.args.source.now.groups c.as_slice-group-items.result.now c.loop-i.i c.group-item.result c.as_slice-group-items.ensures lt c.group-item.is in
    let room = code_room c.args.design.now c.args.source.now c.requires.fits c.args.starts.now c.args.ends.now c.loop-i.i c.group-item.result c.in_ok-words.words c.loop-i.code.items c.requires.starts x c.in_ok-words.ensures c.loop-i.invariant.size in
    let new : c.write_words.new.code ≡ written c.loop-i.code.items (slice_index c.args.starts.now c.loop-i.i) c.in_ok-words.words =
    c.write_words.ensures ∙ ap (λ ws. written c.as_mut_slice.result.now (slice_index c.args.starts.now c.loop-i.i) ws) c.as_slice.ensures ∙ ap (λ xs. written xs (slice_index c.args.starts.now c.loop-i.i) c.in_ok-words.words) c.as_mut_slice.ensures.value in
    let same : length c.write_words.new.code ≡ length c.as_mut_slice.result.now = ap length new ∙ written_length c.loop-i.code.items (slice_index c.args.starts.now c.loop-i.i) c.in_ok-words.words room ∙ sym (ap length c.as_mut_slice.ensures.value) in
    subst (HoldsGroups c.args.design.now c.args.source.now c.args.starts.now c.args.ends.now (c.loop-i.i + 1)) (sym (written_back c.write_words.new.code c.loop-i.code.items c.as_mut_slice.result.now c.loop-i.code.len c.as_mut_slice.ensures.value c.as_mut_slice.ensures.len same ∙ new))
    (held_more c.args.design.now c.args.source.now c.requires.fits c.args.starts.now c.args.ends.now c.loop-i.i c.group-item.result c.in_ok-words.words c.loop-i.code.items c.requires.starts x c.in_ok-words.ensures c.loop-i.invariant)

pub returns : goal.returns
returns c =
    let all : c.loop-i.i ≡ length c.args.source.now.groups = (let d = ap length c.as_slice-group-items.ensures in let e = c.loop-i.auto.i-end in omega (arith, c.loop-i-test.false)) in
    subst (λ n. HoldsGroups c.args.design.now c.args.source.now c.args.starts.now c.args.ends.now n c.loop-i.code.items) all c.loop-i.invariant
