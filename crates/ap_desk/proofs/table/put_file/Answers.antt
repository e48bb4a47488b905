use Rattle.ap_desk.proofs.Stored.{files_of-set, files_of-push}
use Rattle.std.proofs.Common.{refl, ap, ◌∙◌}
use Rattle.ap_desk.specs.Places.{files_of}
use Rattle.ap_desk.proofs.table.put_file.Goals as goal

pub returns-in-Some-clause-ok : goal.returns-in-Some-clause-ok
returns-in-Some-clause-ok c = let found = rw c.deref.ensures.value at c.in-Some.ensures.found in files_of-set _ _ _ _ c.index_mut.result.now found.0 (ap (λ f. f.name) c.index_mut.ensures.value)

pub returns-in_ok-push-in-None-clause-ok : goal.returns-in_ok-push-in-None-clause-ok
returns-in_ok-push-in-None-clause-ok c = let none = rw c.deref.ensures.value at c.in-None.ensures.none in ap files_of c.in_ok-push-in-None.ensures.items ∙ files_of-push _ _ _ _ none c.in_ok-name-in-None.ensures.ok refl
