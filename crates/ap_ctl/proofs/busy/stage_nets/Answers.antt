use Rattle.std.proofs.Common.{◌≡◌, ◌∷◌, ℕ, List, length, sym, ap, subst, ◌∙◌}
use Rattle.std.specs.Prelude.{◌&&◌, ◌||◌}
use Rattle.std.specs.List.{AllByRecursion as Each, list_any}
use Rattle.std.proofs.lemmas.Bool.{eqb-true}
use Rattle.ap_net.specs.declared.cell.Wire.{Wire}
use Rattle.ap_net.specs.Pending.{Among}
use Rattle.ap_net.specs.Ready.{numbers}
use Rattle.ap_ctl.specs.Building.{GivesEach, IsBit, is_on}
use Rattle.ap_ctl.specs.Given.{memory_nets, unit_nets}
use Rattle.ap_ctl.specs.Moves.{stage_numbers}
use Rattle.ap_ctl.proofs.Bits.{IsBit-Tells, on_of}
use Rattle.ap_ctl.proofs.Built.{EachBit-Builds, GivesEach-push, from_these, push_each}
use Rattle.ap_ctl.proofs.Chosen.{chosen_each}
use Rattle.ap_ctl.proofs.Stages.{more_waits, none_waits, stage_nothing, stage_readers}
use Rattle.ap_ctl.proofs.Within.{units_within}
use Rattle.ap_ctl.proofs.busy.stage_nets.Goals as goal

pub unit_nets-requires : goal.unit_nets-requires
unit_nets-requires c = units_within c.args.design.now c.requires.clean

pub returns-then-is_empty-clause-nets : goal.returns-then-is_empty-clause-nets
returns-then-is_empty-clause-nets c =
    subst (λ (l : List Wire). Each (IsBit c.args.out.now.nets) l) (sym (c.in_ok-nets.ensures ∙ ap (unit_nets c.args.design.now c.args.stage) c.as_slice.ensures)) (chosen_each (IsBit c.args.out.now.nets) _ _ c.args.given.now.busy c.requires.given.busy)

pub returns-then-is_empty-clause-tells : goal.returns-then-is_empty-clause-tells
returns-then-is_empty-clause-tells c = record {
  holds = λ r s.
      let none : length c.in_ok-readers.readers ≡ 0 = eqb-true (length c.in_ok-readers.readers) 0 (sym c.is_empty.ensures ∙ c.if-is_empty.true) in
      let readers : memory_nets c.args.design.now c.args.stage c.args.conditions.now ≡ c.in_ok-readers.readers = sym c.in_ok-readers.ensures in
      ap (list_any (is_on r)) (c.in_ok-nets.ensures ∙ ap (unit_nets c.args.design.now c.args.stage) c.as_slice.ensures)
      ∙ none_waits (list_any (is_on r) (unit_nets c.args.design.now c.args.stage c.args.given.now.busy)) (is_on r c.args.given.now.mwait) (is_on r c.args.valid) r (memory_nets c.args.design.now c.args.stage c.args.conditions.now) (ap length readers ∙ none);
}

pub returns-then-is_empty-clause-gives : goal.returns-then-is_empty-clause-gives
returns-then-is_empty-clause-gives c =
    subst (λ (l : List Wire). GivesEach (stage_numbers c.args.valid c.args.conditions.now c.args.given.now) c.args.out.now c.args.out.now l) (sym (c.in_ok-nets.ensures ∙ ap (unit_nets c.args.design.now c.args.stage) c.as_slice.ensures))
    (stage_nothing c.args.design.now c.args.given.now c.args.stage c.args.valid c.args.conditions.now c.args.out.now c.requires.fresh)

pub waits-requires-clause-conditions : goal.waits-requires-clause-conditions
waits-requires-clause-conditions c =
    subst (λ (l : List Wire). Each (IsBit c.args.out.now.nets) l) (sym (c.as_slice-2.ensures ∙ c.in_ok-readers.ensures)) (chosen_each (IsBit c.args.out.now.nets) _ c.args.design.now.instrs c.args.conditions.now c.requires.conditions)

pub returns-clause-nets : goal.returns-clause-nets
returns-clause-nets c =
    let y = c.in_ok-wait.ensures in
    let is = c.in_ok-nets.ensures ∙ ap (unit_nets c.args.design.now c.args.stage) c.as_slice.ensures in
    rw c.in_ok-push.ensures.ok (push_each (IsBit c.waits.new.out.nets) c.in_ok-nets.nets c.in_ok-wait.wait
    (EachBit-Builds y.gives.builds c.in_ok-nets.nets (subst (λ (l : List Wire). Each (IsBit c.args.out.now.nets) l) (sym is) (chosen_each (IsBit c.args.out.now.nets) _ _ c.args.given.now.busy c.requires.given.busy)))
    (IsBit-Tells y.tells))

pub returns-clause-tells : goal.returns-clause-tells
returns-clause-tells c = record {
  holds = λ r s.
      let is = c.in_ok-nets.ensures ∙ ap (unit_nets c.args.design.now c.args.stage) c.as_slice.ensures in
      let readers = c.as_slice-2.ensures ∙ c.in_ok-readers.ensures in
      let u = is_on r c.args.given.now.mwait && is_on r c.args.valid in
      ap (list_any (is_on r)) c.in_ok-push.ensures.ok
      ∙ more_waits r c.in_ok-nets.nets c.in_ok-wait.wait (u && list_any (is_on r) (memory_nets c.args.design.now c.args.stage c.args.conditions.now)) (on_of c.in_ok-wait.ensures.tells r s ∙ ap (λ l. u && list_any (is_on r) l) readers)
      ∙ ap (λ l. list_any (is_on r) l || (u && list_any (is_on r) (memory_nets c.args.design.now c.args.stage c.args.conditions.now))) is;
}

pub returns-clause-gives : goal.returns-clause-gives
returns-clause-gives c =
    let y = c.in_ok-wait.ensures in
    let design = c.args.design.now in
    let given = c.args.given.now in
    let from : List ℕ = stage_numbers c.args.valid c.args.conditions.now given in
    let readers = c.as_slice-2.ensures ∙ c.in_ok-readers.ensures in
    let is = c.in_ok-nets.ensures ∙ ap (unit_nets design c.args.stage) c.as_slice.ensures in
    let more : List ℕ = given.mwait.number ∷ c.args.valid.number ∷ numbers c.as_slice-2.result.now in
    let nothing : GivesEach from c.args.out.now c.args.out.now c.in_ok-nets.nets = subst (λ (l : List Wire). GivesEach from c.args.out.now c.args.out.now l) (sym is) (stage_nothing design given c.args.stage c.args.valid c.args.conditions.now c.args.out.now c.requires.fresh) in
    rw c.in_ok-push.ensures.ok (GivesEach-push from more c.args.out.now c.args.out.now c.waits.new.out c.in_ok-nets.nets c.in_ok-wait.wait nothing y.gives
    (from_these from c.args.out.now c.args.out.now more (subst (λ (l : List Wire). Each (Among from) (given.mwait.number ∷ c.args.valid.number ∷ numbers l)) (sym readers) (stage_readers design given c.args.stage c.args.valid c.args.conditions.now))))
