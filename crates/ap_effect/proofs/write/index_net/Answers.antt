use Rattle.std.proofs.Common.{Option, ℕ, subst}
use Rattle.std.specs.List.{AllByRecursion as Each}
use Rattle.ap_net.proofs.Laws.{Makes-refl, Reads-refl}
use Rattle.ap_effect.specs.Writers.{IsWriter}
use Rattle.ap_effect.proofs.Growing.{have_index}
use Rattle.ap_effect.proofs.write.index_net.Goals as goal

pub returns-in-None-clause-net : goal.returns-in-None-clause-net
returns-in-None-clause-net c = rw c.in-None.is tt

pub returns-in-None-clause-reads : goal.returns-in-None-clause-reads
returns-in-None-clause-reads c = Reads-refl _ _

pub returns-in-None-clause-makes : goal.returns-in-None-clause-makes
returns-in-None-clause-makes c = Makes-refl _

pub chosen_index-requires-clause-writers : goal.chosen_index-requires-clause-writers
chosen_index-requires-clause-writers c = have_index _ _ c.args.width c.args.writers.now (subst (λ (b : Option ℕ). Each (IsWriter c.args.out.now.nets b c.args.width) c.args.writers.now) c.in-Some.is c.requires.writers)

pub returns-in_ok-index-in-Some-clause-net : goal.returns-in_ok-index-in-Some-clause-net
returns-in_ok-index-in-Some-clause-net c = rw c.in-Some.is c.in_ok-index-in-Some.ensures.net

pub returns-in_ok-index-in-Some-clause-results : goal.returns-in_ok-index-in-Some-clause-results
returns-in_ok-index-in-Some-clause-results c = (c.in_ok-index-in-Some.ensures.yields.result, tt)
