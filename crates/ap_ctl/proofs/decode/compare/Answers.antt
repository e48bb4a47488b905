use Rattle.std.proofs.Common.{◌+◌, ◌-◌, ◌∷◌, [], refl, sym, subst, ◌∙◌, inl}
use Rattle.std.specs.Prelude.{Contains}
use Rattle.ap_net.specs.declared.cell.Wire.{Wire}
use Rattle.ap_net.specs.declared.cell.Cell.TheVariants as cell
use Rattle.ap_net.proofs.Laws.{Carries-Makes, meant}
use Rattle.ap_ctl.proofs.Bits.{tested}
use Rattle.ap_ctl.proofs.Built.{Gives-compared, Gives-made, made_later, made_there, pair_gives}
use Rattle.ap_ctl.proofs.decode.compare.Goals as goal

pub returns-clause-tells : goal.returns-clause-tells
returns-clause-tells c =
    let hit = c.in_ok-hit.ensures in
    let wanted = Carries-Makes hit.makes c.in_ok-wanted.ensures.carries in
    let bits = Carries-Makes hit.makes (Carries-Makes c.in_ok-wanted.ensures.makes c.in_ok-bits.ensures.carries) in
    record { carries = meant (λ r s e. e ∙ tested (r.read c.args.word.number) (r.read c.in_ok-bits.bits.number) (r.read c.in_ok-wanted.wanted.number) c.args.test.low c.args.test.width c.args.test.value c.requires.test.some (bits.means.holds r s) (wanted.means.holds r s)) hit.carries }

pub returns-clause-gives : goal.returns-clause-gives
returns-clause-gives c =
    let t = c.args.test in
    let bits = c.in_ok-bits.ensures in
    let wanted = c.in_ok-wanted.ensures in
    let hit = c.in_ok-hit.ensures in
    let first = Gives-made c.args.out.now c.make.new.self t.width (cell.Slice c.args.word (t.low + t.width - 1) t.low) c.in_ok-bits.bits bits.ok bits.wire c.requires.fresh bits.makes bits.reads bits.net.0 tt refl in
    let second = Gives-made c.make.new.self c.make-2.new.self t.width (cell.Const t.value) c.in_ok-wanted.wanted wanted.ok wanted.wire first.builds.fresh wanted.makes wanted.reads wanted.net.0 tt refl in
    let slice : Contains c.make-2.new.self.assigns (record { to = c.in_ok-bits.bits; cell = cell.Slice c.args.word (t.low + t.width - 1) t.low }) =
    made_later c.make.new.self c.make-2.new.self _ second.builds.reads.extends (subst (λ (w : Wire). Contains c.make.new.self.assigns (record { to = w; cell = cell.Slice c.args.word (t.low + t.width - 1) t.low })) (sym bits.wire) (made_there c.args.out.now c.make.new.self t.width (cell.Slice c.args.word (t.low + t.width - 1) t.low) bits.ok)) in
    let constant : Contains c.make-2.new.self.assigns (record { to = c.in_ok-wanted.wanted; cell = cell.Const t.value }) =
    subst (λ (w : Wire). Contains c.make-2.new.self.assigns (record { to = w; cell = cell.Const t.value })) (sym wanted.wire) (made_there c.make.new.self c.make-2.new.self t.width (cell.Const t.value) wanted.ok) in
    let third = Gives-compared c.make-2.new.self c.make-3.new.self c.args.word c.in_ok-bits.bits c.in_ok-wanted.wanted t c.in_ok-hit.hit hit.ok hit.wire second.builds.fresh hit.makes hit.reads hit.net.0 slice constant in
    pair_gives (c.args.word.number ∷ []) (c.args.word.number ∷ []) [] c.args.out.now c.make.new.self c.make-2.new.self c.make-3.new.self c.in_ok-bits.bits c.in_ok-wanted.wanted c.in_ok-hit.hit c.requires.fresh first (inl refl, tt) second tt third
