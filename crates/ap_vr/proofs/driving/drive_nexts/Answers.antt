use Rattle.std.proofs.Common.{◌∷◌, [], true, ap, arith, refl}
use Rattle.ap_vr.specs.Driving.{next_drives}
use Rattle.ap_vr.specs.Nets.{number_of}
use Rattle.ap_vr.proofs.Marks.{driven_all, driven_begins, driven_first, driven_more, number_within}
use Rattle.ap_vr.proofs.driving.drive_nexts.Goals as goal

pub loop-place-init : goal.loop-place-init
loop-place-init c = driven_begins (next_drives (number_of c.args.nets.now.names)) c.args.nets.now.forms true c.args.from c.args.nexts.now c.args.marked.now.items

pub drive-right-requires : goal.drive-right-requires
drive-right-requires c = number_within c.args.nets.now c.args.marked.now.items c.loop-place.marked.items _ _ c.requires.numbered c.loop-place.invariant.long c.number.ensures

pub loop-place-preserved : goal.loop-place-preserved
loop-place-preserved c =
    driven_more (next_drives (number_of c.args.nets.now.names)) c.args.nets.now.forms true c.args.from c.args.nexts.now c.args.marked.now.items c.loop-place.marked.items _ c.loop-place.first _ c.loop-place.place c.index-nexts-place.result (c.number.result ∷ []) c.drive-right.result _
    c.loop-place.invariant c.loop-place-test.true c.index-nexts-place.is (ap (λ n. n ∷ []) c.number.ensures) c.drive-right.ensures.right c.drive-right.ensures.driven c.drive-right.ensures.length refl c.noted-first.ensures

pub returns-clause-first : goal.returns-clause-first
returns-clause-first c = driven_first (next_drives (number_of c.args.nets.now.names)) c.args.nets.now.forms true c.args.from c.args.nexts.now c.args.marked.now.items c.loop-place.marked.items c.loop-place.first c.loop-place.place c.loop-place.invariant (omega (arith, c.loop-place-test.false))

pub returns-clause-driven : goal.returns-clause-driven
returns-clause-driven c = driven_all (next_drives (number_of c.args.nets.now.names)) c.args.nets.now.forms true c.args.from c.args.nexts.now c.args.marked.now.items c.loop-place.marked.items c.loop-place.first c.loop-place.place c.loop-place.invariant (omega (arith, c.loop-place-test.false))

pub returns-clause-length : goal.returns-clause-length
returns-clause-length c = c.loop-place.invariant.long
