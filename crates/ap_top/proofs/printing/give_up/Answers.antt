use Rattle.std.proofs.Common.{subst, ◌∙◌}
use Rattle.ap_desk.specs.Files.{Goes, GainsFront, stdout_name}
use Rattle.ap_top.proofs.Changes.{either_front}
use Rattle.ap_top.proofs.printing.give_up.Goals as goal

pub returns-clause-line : goal.returns-clause-line
returns-clause-line g c =
    subst (λ t. Goes (GainsFront stdout_name t) (g.D.Desk.files c.args.desk.now) (g.D.Desk.files c.append.new.self)) (c.as_bytes.ensures.value ∙ c.line.ensures) (either_front c.append.result _ _ _ _ c.append.ensures.ok c.append.ensures.err)
