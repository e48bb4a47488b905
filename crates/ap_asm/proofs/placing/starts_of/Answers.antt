use Rattle.std.proofs.Common.{◌≡◌, ◌+◌, ◌<◌, ◌++◌, Some, length, sym, ap, subst, ◌∙◌, arith, []}
use Rattle.std.specs.List.{slice_index_or}
use Rattle.ap_dist.specs.Places.{lines_of_group}
use Rattle.ap_asm.specs.Layouts.{AreStarts, placed_from}
use Rattle.ap_asm.specs.LinePlaces.{number_at}
use Rattle.ap_asm.proofs.Links.{there_read}
use Rattle.ap_asm.proofs.Placings.{drain_small, first_number, group_words_count, next_here, numbers_count, placing_full, placing_none, placing_step, words_count, words_few, words_of}
use Rattle.ap_asm.proofs.placing.starts_of.Goals as goal

pub loop-i-init : goal.loop-i-init
loop-i-init c = placing_none c.args.design.now c.args.layout.now.source c.new-starts.result c.new-placed.result.items c.new-starts.ensures c.new-placed.ensures.items

pub bounds-as_slice-i : goal.bounds-as_slice-i
bounds-as_slice-i c =
    let a = ap length c.as_slice.ensures in
    let b = words_count c.args.design.now c.args.layout.now c.requires.layout in
    let d = ap length c.as_slice-group-items.ensures in
    omega (arith, c.loop-i-test.true)

pub start_of-start-requires-clause-drain : goal.start_of-start-requires-clause-drain
start_of-start-requires-clause-drain c = drain_small c.args.design.now c.requires.clean c.args.layout.now c.requires.layout

pub first_line-line-requires-clause-within : goal.first_line-line-requires-clause-within
first_line-line-requires-clause-within c =
    let a = ap length c.as_slice-then-end-room.ensures in
    let b = numbers_count c.args.design.now c.args.layout.now c.requires.layout in
    let d = ap length c.as_slice-group-items.ensures in
    omega (arith, c.loop-i-test.true)

pub first_line-line-requires-clause-some : goal.first_line-line-requires-clause-some
first_line-line-requires-clause-some c =
    let lt : c.loop-i.i < length c.args.layout.now.source.groups = (let d = ap length c.as_slice-group-items.ensures in omega (arith, c.loop-i-test.true)) in
    let x = there_read c.args.layout.now.source.groups c.as_slice-group-items.result.now c.loop-i.i c.group-item.result c.as_slice-group-items.ensures lt c.group-item.is in
    subst (λ ns. 0 < length (slice_index_or ns c.loop-i.i [])) (sym c.as_slice-then-end-room.ensures) (first_number c.args.design.now c.args.layout.now c.requires.layout c.loop-i.i c.group-item.result x)

pub returns-then-end-room-clause-full : goal.returns-then-end-room-clause-full
returns-then-end-room-clause-full c =
    let lt : c.loop-i.i < length c.args.layout.now.source.groups = (let d = ap length c.as_slice-group-items.ensures in omega (arith, c.loop-i-test.true)) in
    let x = there_read c.args.layout.now.source.groups c.as_slice-group-items.result.now c.loop-i.i c.group-item.result c.as_slice-group-items.ensures lt c.group-item.is in
    let few : c.loop-i.i < length c.args.layout.now.words = (let b = words_count c.args.design.now c.args.layout.now c.requires.layout in omega arith) in
    let w = there_read c.args.layout.now.words c.as_slice.result.now c.loop-i.i c.index-as_slice-i.result c.as_slice.ensures few c.index-as_slice-i.is ∙ ap Some (sym c.as_slice-words.ensures) in
    let next = next_here c.args.design.now c.args.layout.now c.loop-i.i c.loop-i.starts c.loop-i.end c.loop-i.placed.items c.group-item.result c.as_slice-words.result.now c.start_of-start.result c.as_slice-in-loop-i.result.now c.requires.layout c.loop-i.invariant x w
    c.as_slice-in-loop-i.ensures.value c.start_of-start.ensures.low c.start_of-start.ensures.behind c.start_of-start.ensures.least in
    let g = c.group_length.ensures in
    let r = c.room_of-room.ensures.room in
    let beyond = c.if-end-room.true in
    rw c.at.ensures (placing_full c.args.design.now c.requires.clean c.args.layout.now c.loop-i.i c.loop-i.starts c.loop-i.end c.loop-i.placed.items c.group-item.result c.as_slice-words.result.now c.start_of-start.result c.first_line-line.result next (omega arith)
    (subst (λ ns. number_at ns c.loop-i.i 0 ≡ Some c.first_line-line.result) c.as_slice-then-end-room.ensures c.first_line-line.ensures))

pub put_group-requires-clause-words : goal.put_group-requires-clause-words
put_group-requires-clause-words c =
    let lt : c.loop-i.i < length c.args.layout.now.source.groups = (let d = ap length c.as_slice-group-items.ensures in omega (arith, c.loop-i-test.true)) in
    let x = there_read c.args.layout.now.source.groups c.as_slice-group-items.result.now c.loop-i.i c.group-item.result c.as_slice-group-items.ensures lt c.group-item.is in
    let few : c.loop-i.i < length c.args.layout.now.words = (let b = words_count c.args.design.now c.args.layout.now c.requires.layout in omega arith) in
    let w = there_read c.args.layout.now.words c.as_slice.result.now c.loop-i.i c.index-as_slice-i.result c.as_slice.ensures few c.index-as_slice-i.is ∙ ap Some (sym c.as_slice-words.ensures) in
    group_words_count c.args.design.now c.group-item.result c.as_slice-words.result.now (words_of c.args.design.now c.args.layout.now c.requires.layout c.loop-i.i c.group-item.result c.as_slice-words.result.now x w)

pub put_group-requires-clause-few : goal.put_group-requires-clause-few
put_group-requires-clause-few c =
    let lt : c.loop-i.i < length c.args.layout.now.source.groups = (let d = ap length c.as_slice-group-items.ensures in omega (arith, c.loop-i-test.true)) in
    let x = there_read c.args.layout.now.source.groups c.as_slice-group-items.result.now c.loop-i.i c.group-item.result c.as_slice-group-items.ensures lt c.group-item.is in
    let few : c.loop-i.i < length c.args.layout.now.words = (let b = words_count c.args.design.now c.args.layout.now c.requires.layout in omega arith) in
    let w = there_read c.args.layout.now.words c.as_slice.result.now c.loop-i.i c.index-as_slice-i.result c.as_slice.ensures few c.index-as_slice-i.is ∙ ap Some (sym c.as_slice-words.ensures) in
    words_few c.args.design.now c.requires.clean c.args.layout.now c.requires.layout c.loop-i.i c.group-item.result c.as_slice-words.result.now x w

pub loop-i-preserved : goal.loop-i-preserved
loop-i-preserved c =
    let lt : c.loop-i.i < length c.args.layout.now.source.groups = (let d = ap length c.as_slice-group-items.ensures in omega (arith, c.loop-i-test.true)) in
    let x = there_read c.args.layout.now.source.groups c.as_slice-group-items.result.now c.loop-i.i c.group-item.result c.as_slice-group-items.ensures lt c.group-item.is in
    let few : c.loop-i.i < length c.args.layout.now.words = (let b = words_count c.args.design.now c.args.layout.now c.requires.layout in omega arith) in
    let w = there_read c.args.layout.now.words c.as_slice.result.now c.loop-i.i c.index-as_slice-i.result c.as_slice.ensures few c.index-as_slice-i.is ∙ ap Some (sym c.as_slice-words.ensures) in
    let next = next_here c.args.design.now c.args.layout.now c.loop-i.i c.loop-i.starts c.loop-i.end c.loop-i.placed.items c.group-item.result c.as_slice-words.result.now c.start_of-start.result c.as_slice-in-loop-i.result.now c.requires.layout c.loop-i.invariant x w
    c.as_slice-in-loop-i.ensures.value c.start_of-start.ensures.low c.start_of-start.ensures.behind c.start_of-start.ensures.least in
    let r = c.room_of-room.ensures.room in
    placing_step c.args.design.now c.requires.clean c.args.layout.now c.loop-i.i c.loop-i.starts c.loop-i.end c.loop-i.placed.items c.group-item.result c.as_slice-words.result.now c.start_of-start.result (c.start_of-start.result + c.group_length.result) c.push.new.self
    c.put_group.new.placed.items next (ap (λ n. c.start_of-start.result + n) c.group_length.ensures) (let room = c.if-end-room.false in omega arith) c.in_ok-push.ensures.ok
    (c.in_ok-put_group.ensures ∙ ap (λ os. c.loop-i.placed.items ++ placed_from os c.start_of-start.result c.as_slice-words.result.now (lines_of_group c.group-item.result)) c.as_slice-in-loop-i-2.ensures)

pub returns-clause-starts : goal.returns-clause-starts
returns-clause-starts c =
    let all : c.loop-i.i ≡ length c.args.layout.now.source.groups = (let d = ap length c.as_slice-group-items.ensures in let e = c.loop-i.auto.i-end in omega (arith, c.loop-i-test.false)) in
    subst (λ n. AreStarts c.args.design.now c.args.layout.now.source n c.loop-i.starts) all c.loop-i.invariant.known
