use Rattle.std.proofs.lemmas.List.{length-map}
use Rattle.ap_unit.proofs.Names.{AreDistinct-none, within}
use Rattle.ap_unit.proofs.shelf.Shelf.new.Goals as goal

pub returns-in-None-clause-differ : goal.returns-in-None-clause-differ
returns-in-None-clause-differ g c =
    let none = rw c.deref.ensures.value at c.in-None.ensures.none in
    AreDistinct-none _ (λ j stood. none j (rw (length-map, length-map) at (within _ j stood)) stood)
