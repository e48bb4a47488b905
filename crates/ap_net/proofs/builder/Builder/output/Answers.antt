use Rattle.std.proofs.lemmas.Result.{on_ok_weaker}
use Rattle.ap_net.proofs.builder.Builder.output.Goals as goal

pub returns-clause-late : goal.returns-clause-late
returns-clause-late c = on_ok_weaker c.named.result (λ late. late (λ s. s)) c.named.ensures.late
