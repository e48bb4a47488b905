use Rattle.std.proofs.Common.{◌-◌, ◌/◌, ◌≤◌, length, take, drop, ◌∙◌, arith, rules}
use Rattle.ap_ctl.proofs.Bits.{Each-drop, Each-take, IsBit-Makes, IsBit-Tells, any_halves, joined_any, on_of, told}
use Rattle.ap_effect.specs.Writers.{IsGuarded, is_acting}
use Rattle.ap_effect.proofs.Acting.{Tells-Makes, one_acts, one_guarded, one_wiring}
use Rattle.ap_effect.proofs.Growing.{guarded_on}
use Rattle.ap_effect.proofs.Reading.{halves_wiring, second_length}
use Rattle.ap_effect.proofs.enable.+any_acts.Goals as goal

pub acts-requires-clause-writer : goal.acts-requires-clause-writer
acts-requires-clause-writer t c = one_guarded _ c.args.writers.now _ (omega arith) c.requires.writers

pub returns-then-writers-eq1-clause-tells : goal.returns-then-writers-eq1-clause-tells
returns-then-writers-eq1-clause-tells t c = one_acts c.args.writers.now _ c.in_ok-alone.alone (omega arith) c.in_ok-alone.ensures.tells

pub returns-then-writers-eq1-clause-wiring : goal.returns-then-writers-eq1-clause-wiring
returns-then-writers-eq1-clause-wiring t c = one_wiring c.args.writers.now _ _ _ c.in_ok-alone.alone (omega arith) c.in_ok-alone.ensures.wiring

pub any_acts-requires-2 : goal.any_acts-requires-2
any_acts-requires-2 t c =
    let writers = c.args.writers.now in
    let middle = length writers / 2 in
    let long = second_length middle writers in
    let some : 1 ≤ length (take (length writers - middle) (drop middle writers)) = omega arith in
    let each = Each-take (IsGuarded c.args.out.now.nets) (length writers - middle) (drop middle writers) (Each-drop (IsGuarded c.args.out.now.nets) middle writers c.requires.writers) in
    (search rules, (c.in_ok-first.ensures.wiring.makes.fresh c.requires.fresh, (some, guarded_on _ _ (take (length writers - middle) (drop middle writers)) c.in_ok-first.ensures.wiring.makes each)))

pub either-requires-clause-a : goal.either-requires-clause-a
either-requires-clause-a t c = IsBit-Makes _ _ c.in_ok-first.first c.in_ok-second.ensures.wiring.makes (IsBit-Tells c.in_ok-first.ensures.tells)

pub either-requires-clause-b : goal.either-requires-clause-b
either-requires-clause-b t c = IsBit-Tells c.in_ok-second.ensures.tells

pub returns-clause-tells : goal.returns-clause-tells
returns-clause-tells t c =
    let any = c.in_ok-any.ensures in
    let second = Tells-Makes any.wiring.makes c.in_ok-second.ensures.tells in
    let first = Tells-Makes any.wiring.makes (Tells-Makes c.in_ok-second.ensures.wiring.makes c.in_ok-first.ensures.tells) in
    told (λ r s. joined_any (on_of first r s) (on_of second r s) ∙ any_halves (is_acting r) (length c.args.writers.now / 2) c.args.writers.now) any.tells

pub returns-clause-wiring : goal.returns-clause-wiring
returns-clause-wiring t c =
    halves_wiring (length c.args.writers.now / 2) c.args.writers.now _ _ _ _ c.in_ok-first.first c.in_ok-second.second c.in_ok-any.any c.in_ok-first.ensures.wiring c.in_ok-second.ensures.wiring c.in_ok-any.ensures.wiring
