use Rattle.std.proofs.Common.{suc, ◌+◌, ◌<◌, ◌∷◌, ◌++◌, [], length, ap, ◌∙◌, arith}
use Rattle.std.specs.Prelude.{slice_index}
use Rattle.ap_asm.proofs.GroupLines.{end_of}
use Rattle.ap_asm.proofs.Links.{there_read}
use Rattle.ap_asm.proofs.Listed.{ends_more, no_ends}
use Rattle.ap_asm.proofs.Sizes.{room_low}
use Rattle.ap_asm.proofs.encoding.ends_of.Goals as goal

pub loop-i-init : goal.loop-i-init
loop-i-init c = no_ends c.args.design.now c.args.source.now c.args.starts.now c.push.new.self.items (c.in_ok-push.ensures.items ∙ ap (λ xs. xs ++ 0 ∷ []) c.new-ends.ensures.items)

pub overflow_add-starts : goal.overflow_add-starts
overflow_add-starts c =
    let lt : c.loop-i.i < length c.args.source.now.groups = (let z = ap length c.as_slice-group-items.ensures in omega (arith, c.loop-i-test.true)) in
    let x = there_read c.args.source.now.groups c.as_slice-group-items.result.now c.loop-i.i c.group-item.result c.as_slice-group-items.ensures lt c.group-item.is in
    let top = c.requires.starts.within (suc c.loop-i.i) (omega arith) in
    let e = end_of c.args.design.now c.args.source.now c.args.starts.now c.loop-i.i c.group-item.result x in
    let low = room_low c.args.design.now c.requires.clean in
    let g = c.group_length.ensures in
    omega arith

pub loop-i-preserved : goal.loop-i-preserved
loop-i-preserved c =
    let lt : c.loop-i.i < length c.args.source.now.groups = (let z = ap length c.as_slice-group-items.ensures in omega (arith, c.loop-i-test.true)) in
    let x = there_read c.args.source.now.groups c.as_slice-group-items.result.now c.loop-i.i c.group-item.result c.as_slice-group-items.ensures lt c.group-item.is in
    ends_more c.args.design.now c.args.source.now c.args.starts.now c.loop-i.ends.items c.loop-i.i (slice_index c.args.starts.now c.loop-i.i + c.group_length.result) c.group-item.result c.push-in-loop-i.new.self.items c.loop-i.invariant x
    (ap (λ n. slice_index c.args.starts.now c.loop-i.i + n) c.group_length.ensures) c.in_ok-push-2.ensures.items
