use Rattle.std.proofs.Common.{◌≡◌, ℕ, ◌<◌, List, length, map, get_or, Some, refl, ap, ◌∙◌}
use Rattle.std.specs.Prelude.{slice_get, option_map}
use Rattle.std.proofs.lemmas.List.{length-map}
use Rattle.std.proofs.lemmas.Option.{slice_get_read, slice_get-map}
use Rattle.ap_unit.proofs.shelf.Shelf.kind.Goals as goal

-- what a function gives of the element at a place
mapped_at : {X Y : Type 0} (f : X → Y) (xs : List X) (i : ℕ) (x : X) → i < length (map f xs) → x ≡ get_or xs i x → slice_get (map f xs) i ≡ Some (f x)
mapped_at f xs i x lt e =
    let lt' : i < length xs = rw length-map at lt in
    slice_get-map f xs i ∙ ap (option_map f) (slice_get_read xs (length xs) i x refl lt' e)

pub returns : goal.returns
returns g c = rw c.deref_box-1.ensures.1 (mapped_at _ c.args.self.now.kinds.items c.args.i c.index.result.now c.requires c.index.ensures)
