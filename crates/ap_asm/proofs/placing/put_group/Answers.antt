use Rattle.std.proofs.Common.{◌+◌, ◌<◌, length, get_or, drop, refl, ap, ◌∙◌, arith}
use Rattle.ap_asm.proofs.PlacedLists.{placed_done, placed_first, placed_next}
use Rattle.ap_asm.proofs.placing.put_group.Goals as goal

pub loop-i-init : goal.loop-i-init
loop-i-init c =
    placed_first c.args.outs.now c.args.start c.args.words.now c.args.group.now.first c.args.group.now.in_slots c.args.placed.now.items c.push.new.self.items (get_or c.args.words.now 0 0) c.out_of.result
    (let w = c.requires.words in omega arith) refl c.out_of.ensures.out c.in_ok-push.ensures.items

pub loop-i-preserved : goal.loop-i-preserved
loop-i-preserved c =
    let lt : c.loop-i.i < length c.args.group.now.in_slots = (let z = ap length c.as_slice-line-items.ensures in omega (arith, c.loop-i-test.true)) in
    placed_next c.args.outs.now c.args.start c.args.words.now c.args.group.now.in_slots c.loop-i.i (c.args.start + 1 + c.loop-i.i) (get_or c.args.words.now (c.loop-i.i + 1) 0) c.out_of-in-loop-i.result c.line-item.result c.loop-i.placed.items c.push-in-loop-i.new.self.items _
    (let w = c.requires.words in omega arith) lt refl (c.line-item.is ∙ ap (λ xs. get_or xs c.loop-i.i c.line-item.result) c.as_slice-line-items.ensures) refl c.out_of-in-loop-i.ensures.out c.in_ok-push-2.ensures.items c.loop-i.invariant

pub returns : goal.returns
returns c =
    placed_done c.args.outs.now (c.args.start + 1 + c.loop-i.i) (drop (c.loop-i.i + 1) c.args.words.now) c.args.group.now.in_slots c.loop-i.i c.loop-i.placed.items _
    (let z = ap length c.as_slice-line-items.ensures in omega (arith, c.loop-i-test.false)) c.loop-i.invariant
