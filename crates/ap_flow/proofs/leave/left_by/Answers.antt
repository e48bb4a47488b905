use Rattle.std.proofs.Common.{◌≡◌, ◌-◌, suc, [], Some, refl, sym, ap, subst, ◌∙◌, arith}
use Rattle.std.specs.Prelude.{slice_get}
use Rattle.std.specs.List.{AllByRecursion as Each}
use Rattle.ap_ctl.specs.Lists.{EachPair}
use Rattle.ap_ctl.proofs.Beside.{item_at}
use Rattle.ap_stages.specs.declared.stage.ServedStage.{ServedStage}
use Rattle.ap_outcome.specs.Outcomes.{CanLeave, IsLeavingOf}
use Rattle.ap_flow.specs.Left.{courses_of}
use Rattle.ap_flow.proofs.Left.{courses_at, none_before}
use Rattle.ap_flow.proofs.leave.left_by.Goals as goal

pub returns-then-stage-eq0 : goal.returns-then-stage-eq0
returns-then-stage-eq0 c =
    let stages = c.args.stages.now in
    let homes = c.args.homes.now in
    let none : c.args.stage ≡ 0 = omega arith in
    let left = none_before stages homes (subst (λ n. Each (CanLeave (courses_of stages n)) homes) none c.requires.homes) in
    rw c.new.ensures (subst (λ n. EachPair (IsLeavingOf (courses_of stages n)) homes []) (sym none) left)

pub leavings-requires : goal.leavings-requires
leavings-requires c =
    let stages = c.args.stages.now in
    let homes = c.args.homes.now in
    let s : ServedStage = c.index-stages-stage.result in
    let at : slice_get stages (c.args.stage - 1) ≡ Some s = item_at stages stages (c.args.stage - 1) s refl (omega arith) c.index-stages-stage.is in
    let number : c.args.stage ≡ suc (c.args.stage - 1) = omega arith in
    let own : courses_of stages c.args.stage ≡ s.courses.items = ap (courses_of stages) number ∙ courses_at stages (c.args.stage - 1) s at in
    record { homes = subst (λ l. Each (CanLeave l) homes) (own ∙ sym c.deref.ensures.value) c.requires.homes }

pub returns : goal.returns
returns c =
    let stages = c.args.stages.now in
    let homes = c.args.homes.now in
    let s : ServedStage = c.index-stages-stage.result in
    let at : slice_get stages (c.args.stage - 1) ≡ Some s = item_at stages stages (c.args.stage - 1) s refl (omega arith) c.index-stages-stage.is in
    let number : c.args.stage ≡ suc (c.args.stage - 1) = omega arith in
    let own : courses_of stages c.args.stage ≡ s.courses.items = ap (courses_of stages) number ∙ courses_at stages (c.args.stage - 1) s at in
    subst (λ l. EachPair (IsLeavingOf l) homes c.in_ok-list.list) (sym (own ∙ sym c.deref.ensures.value)) c.in_ok-list.ensures.leavings
