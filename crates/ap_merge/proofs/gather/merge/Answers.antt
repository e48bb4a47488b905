use Rattle.std.proofs.Common.{subst, sym}
use Rattle.ap_merge.specs.Choices.{AreChoices}
use Rattle.ap_merge.specs.Gathered.{AreFew}
use Rattle.ap_merge.proofs.Few.{few}
use Rattle.ap_merge.proofs.gather.merge.Goals as goal

pub choices_of-requires : goal.choices_of-requires
choices_of-requires c = subst AreFew (sym c.as_slice.ensures) (few c.args.design.now c.args.paths.now c.requires.clean c.requires.paths)

pub returns : goal.returns
returns c = subst (λ uses. AreChoices uses c.in_ok-choices.choices) c.as_slice.ensures c.in_ok-choices.ensures
