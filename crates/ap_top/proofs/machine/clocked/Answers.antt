use Rattle.std.proofs.Common.{◌≡◌, subst, sym}
use Rattle.ap_net.specs.Draft.{Draft, IsKept}
use Rattle.ap_net.specs.Wiring.{IsDriven}
use Rattle.ap_top.specs.Circuits.{nets_of}
use Rattle.ap_top.proofs.TwoStage.{clocked_draft, clocked-IsDriven, pushed_four}
use Rattle.ap_top.proofs.Behaviour.{designed}
use Rattle.ap_net.specs.Finished.{IsFinished}
use Rattle.ap_top.proofs.machine.clocked.Goals as goal

pub finish-requires-clause-driven : goal.finish-requires-clause-driven
finish-requires-clause-driven c =
    let all = pushed_four (c.args.circuit).out _ _ _ c.next-4.new.self _ _ _ _ c.requires.nexts c.in_ok-next.ensures.ok c.in_ok-next-2.ensures.ok c.in_ok-next-3.ensures.ok c.in_ok-next-4.ensures.ok in
    subst (λ (x : Draft). IsDriven x.nets x.assigns x.nexts x.instances) (sym all) (clocked-IsDriven c.args.form c.args.number c.args.select (c.args.circuit).out (nets_of c.args.circuit) c.requires.shown)

pub returns : goal.returns
returns c = λ operation same unit is.
    let d : Draft = (c.args.circuit).out in
    let all : c.next-4.new.self ≡ clocked_draft c.args.form d (nets_of c.args.circuit) =
    pushed_four (c.args.circuit).out _ _ _ c.next-4.new.self _ _ _ _ c.requires.nexts c.in_ok-next.ensures.ok c.in_ok-next-2.ensures.ok c.in_ok-next-3.ensures.ok c.in_ok-next-4.ensures.ok in
    designed c.args.form operation c.args.number c.args.select same unit is d (nets_of c.args.circuit) c.requires.shown c.in_ok-top.top (subst (λ (x : Draft). IsFinished x c.in_ok-top.top) all c.in_ok-top.ensures) c.rules-2.ensures
    (subst IsKept all c.rules.ensures) c.names_are_found.ensures.nets c.names_are_found.ensures.registers c.netlists_open.ensures
