use Rattle.std.proofs.Common.{◌≡◌, ℕ, ◌≤◌, List, Some, get_or, length, ap, sym, subst, ◌∙◌, arith}
use Rattle.std.specs.Prelude.{slice_get}
use Rattle.std.proofs.lemmas.List.{take_all}
use Rattle.std.proofs.lemmas.Option.{slice_get-get_or}
use Rattle.ap_net.proofs.Lists.{All-at}
use Rattle.ap_ctl.proofs.Beside.{EachPair-length}
use Rattle.ap_front.specs.Ports.{AreMemPorts}
use Rattle.ap_act.specs.declared.outputs.PortOutputs.{PortOutputs}
use Rattle.ap_act.specs.Acting.{WritesAll}
use Rattle.ap_act.specs.Outputs.{IsOutputOf, shown_outputs}
use Rattle.ap_act.proofs.Lines.{mems_few}
use Rattle.ap_act.proofs.Named.{outputs_are_named}
use Rattle.ap_act.proofs.Steps.{can_later, drives_add, next_apart, next_late}
use Rattle.ap_act.proofs.Written.{no_outputs, writes_more, writes_none}
use Rattle.ap_act.proofs.write.write_all.Goals as goal

pub shown_outputs-requires-clause-few : goal.shown_outputs-requires-clause-few
shown_outputs-requires-clause-few c =
    let design = c.args.design.now in
    let most = mems_few design c.requires.clean in
    let same = EachPair-length (AreMemPorts c.args.out.now) design.mems c.args.ports.now.mems c.requires.ports.mems in
    omega (arith, most, same)

pub write_one-requires-clause-fresh : goal.write_one-requires-clause-fresh
write_one-requires-clause-fresh c = c.loop-outputs.invariant.drives.fresh

pub write_one-requires-clause-can : goal.write_one-requires-clause-can
write_one-requires-clause-can c = can_later c.args.design.now c.args.out.now c.loop-outputs.out c.args.fires.now c.args.stages.now (drives_add c.loop-outputs.invariant.drives) c.requires.can

pub write_one-requires-clause-used : goal.write_one-requires-clause-used
write_one-requires-clause-used c =
    let design = c.args.design.now in
    let shown = shown_outputs design c.args.ports.now in
    let i : ℕ = c.loop-outputs.outputs-index in
    let items : List PortOutputs = c.as_slice-outputs-items.result.now in
    let o : PortOutputs = get_or items i no_outputs in
    let at : slice_get shown i ≡ Some o = ap (λ (l : List PortOutputs). slice_get l i) (sym (c.as_slice-outputs-items.ensures ∙ c.in_ok-list.ensures)) ∙ slice_get-get_or items i no_outputs c.loop-outputs-test.true in
    (All-at (IsOutputOf design c.args.out.now) shown i o (outputs_are_named design c.args.out.now c.args.ports.now c.requires.clean c.requires.ports) at).used

pub write_one-requires-clause-sized : goal.write_one-requires-clause-sized
write_one-requires-clause-sized c =
    let design = c.args.design.now in
    let shown = shown_outputs design c.args.ports.now in
    let i : ℕ = c.loop-outputs.outputs-index in
    let items : List PortOutputs = c.as_slice-outputs-items.result.now in
    let o : PortOutputs = get_or items i no_outputs in
    let at : slice_get shown i ≡ Some o = ap (λ (l : List PortOutputs). slice_get l i) (sym (c.as_slice-outputs-items.ensures ∙ c.in_ok-list.ensures)) ∙ slice_get-get_or items i no_outputs c.loop-outputs-test.true in
    (All-at (IsOutputOf design c.args.out.now) shown i o (outputs_are_named design c.args.out.now c.args.ports.now c.requires.clean c.requires.ports) at).sized

pub write_one-requires-clause-late : goal.write_one-requires-clause-late
write_one-requires-clause-late c =
    let shown = shown_outputs c.args.design.now c.args.ports.now in
    let i : ℕ = c.loop-outputs.outputs-index in
    let items : List PortOutputs = c.as_slice-outputs-items.result.now in
    let o : PortOutputs = get_or items i no_outputs in
    let at : slice_get shown i ≡ Some o = ap (λ (l : List PortOutputs). slice_get l i) (sym (c.as_slice-outputs-items.ensures ∙ c.in_ok-list.ensures)) ∙ slice_get-get_or items i no_outputs c.loop-outputs-test.true in
    next_late c.args.out.now c.loop-outputs.out shown _ i o at c.requires.free c.loop-outputs.invariant.drives

pub write_one-requires-clause-apart : goal.write_one-requires-clause-apart
write_one-requires-clause-apart c =
    let shown = shown_outputs c.args.design.now c.args.ports.now in
    let i : ℕ = c.loop-outputs.outputs-index in
    let items : List PortOutputs = c.as_slice-outputs-items.result.now in
    let o : PortOutputs = get_or items i no_outputs in
    let at : slice_get shown i ≡ Some o = ap (λ (l : List PortOutputs). slice_get l i) (sym (c.as_slice-outputs-items.ensures ∙ c.in_ok-list.ensures)) ∙ slice_get-get_or items i no_outputs c.loop-outputs-test.true in
    next_apart c.args.out.now shown i o at c.requires.free

pub loop-outputs-init : goal.loop-outputs-init
loop-outputs-init c = writes_none c.args.design.now c.args.fires.now c.args.stages.now c.args.out.now c.requires.fresh

pub loop-outputs-preserved : goal.loop-outputs-preserved
loop-outputs-preserved c =
    let design = c.args.design.now in
    let shown = shown_outputs design c.args.ports.now in
    let i : ℕ = c.loop-outputs.outputs-index in
    let items : List PortOutputs = c.as_slice-outputs-items.result.now in
    let o : PortOutputs = get_or items i no_outputs in
    let at : slice_get shown i ≡ Some o = ap (λ (l : List PortOutputs). slice_get l i) (sym (c.as_slice-outputs-items.ensures ∙ c.in_ok-list.ensures)) ∙ slice_get-get_or items i no_outputs c.loop-outputs-test.true in
    writes_more design c.args.fires.now c.args.stages.now shown i o c.args.out.now c.loop-outputs.out c.write_one.new.out at c.loop-outputs.invariant c.in_ok-write_one.ensures.written c.in_ok-write_one.ensures.drives

pub returns : goal.returns
returns c =
    let design = c.args.design.now in
    let shown = shown_outputs design c.args.ports.now in
    let i : ℕ = c.loop-outputs.outputs-index in
    let items : List PortOutputs = c.as_slice-outputs-items.result.now in
    let same : length items ≡ length shown = ap length (c.as_slice-outputs-items.ensures ∙ c.in_ok-list.ensures) in
    let end : length items ≤ i = c.loop-outputs-test.false in
    subst (λ (l : List PortOutputs). WritesAll design c.args.fires.now c.args.stages.now l c.args.out.now c.loop-outputs.out) (take_all i shown (omega (arith, same, end))) c.loop-outputs.invariant
