use Rattle.std.proofs.Common.{◌≡◌, ◌++◌, ◌∷◌, [], List, false, true, if◌then◌else◌, ap, sym, append-nil, ◌∙◌}
use Rattle.ap_model.specs.declared.storage.WritePort.TheVariants as port
use Rattle.ap_model.specs.Ports.{is_used}
use Rattle.ap_act.specs.declared.outputs.PortOutputs.{PortOutputs}
use Rattle.ap_act.specs.Outputs.{mem_outputs}
use Rattle.ap_act.proofs.Lines.{unused_at, used_at}
use Rattle.ap_act.proofs.outputs.add_mem.Goals as goal

pub returns-then-stage-eq0 : goal.returns-then-stage-eq0
returns-then-stage-eq0 c =
    let list : List PortOutputs = c.args.list.now in
    let off : is_used c.args.design.now (port.Memory c.args.mem) ≡ false = unused_at c.args.design.now (port.Memory c.args.mem) c.in_ok-stage.stage c.in_ok-stage.ensures c.if-stage-eq0.true in
    sym (append-nil list) ∙ ap (λ b. list ++ (if b then mem_outputs c.args.mem c.args.ports ∷ [] else [])) (sym off)

pub returns : goal.returns
returns c =
    let list : List PortOutputs = c.args.list.now in
    let on : is_used c.args.design.now (port.Memory c.args.mem) ≡ true = used_at c.args.design.now (port.Memory c.args.mem) c.in_ok-stage.stage c.in_ok-stage.ensures c.if-stage-eq0.false in
    c.in_ok-push.ensures.ok ∙ ap (λ o. list ++ o ∷ []) c.mem_outputs.ensures ∙ ap (λ b. list ++ (if b then mem_outputs c.args.mem c.args.ports ∷ [] else [])) (sym on)
