use Rattle.std.proofs.Common.{◌<◌, length, take, get_or, arith}
use Rattle.std.proofs.lemmas.List.{take_more}
use Rattle.ap_unit.specs.Shelves.{cards_of}
use Rattle.ap_ctl.proofs.Beside.{EachPair-push}
use Rattle.ap_parts.specs.Parts.{IsKindModule}
use Rattle.ap_parts.specs.declared.modules.KindWidth.{KindWidth}
use Rattle.ap_parts.proofs.modules.kind_modules.Goals as goal

pub loop-pair-preserved : goal.loop-pair-preserved
loop-pair-preserved g c =
    let none : KindWidth = record { kind = 0; width = 0 } in
    let inside : c.loop-pair.pair-index < length c.args.kinds.now = omega arith in
    rw (c.in_ok-push.ensures.items, take_more c.args.kinds.now c.loop-pair.pair-index none inside)
    (EachPair-push (IsKindModule (cards_of (λ x. (goal.UnitKind-dyn g x).card x.1) c.args.shelf.now)) (take c.loop-pair.pair-index c.args.kinds.now) c.loop-pair.modules.items (get_or c.args.kinds.now c.loop-pair.pair-index none) c.in_ok-whole.whole c.loop-pair.invariant c.in_ok-whole.ensures)
