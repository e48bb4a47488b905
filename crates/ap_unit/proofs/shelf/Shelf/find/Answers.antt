use Rattle.std.proofs.Common.{ℕ, ◌<◌, List, length, map, Option, Some, None}
use Rattle.std.specs.Prelude.{IfSome}
use Rattle.std.proofs.lemmas.List.{length-map}
use Rattle.ap_unit.proofs.shelf.Shelf.find.Goals as goal

-- a place in a list is one in what a function gives of each element
mapped_within : {X Y : Type 0} (f : X → Y) (xs : List X) (o : Option ℕ) → IfSome o (λ i. i < length xs) → IfSome o (λ i. i < length (map f xs))
mapped_within f xs None h = h
mapped_within f xs (Some i) h = rw length-map h

pub returns-clause-within : goal.returns-clause-within
returns-clause-within g c = mapped_within _ c.args.self.now.kinds.items c.place_among.result (rw c.deref.ensures.value at c.place_among.ensures.within)
