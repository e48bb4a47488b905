use Rattle.std.proofs.Common.{◌≡◌, ◌<◌, ℕ, [], length, Some}
use Rattle.std.specs.Prelude.{slice_get}
use Rattle.ap_flat.specs.Drivers.{Reads}
use Rattle.ap_flat.specs.Searching.{IsSearch}
use Rattle.ap_flat.specs.declared.order.Mark.TheVariants as mark
use Rattle.ap_flat.proofs.order.order_of.Given as goal

abbrev pub invariant-loop-root : goal.invariant-loop-root
invariant-loop-root l = record {
  long : length l.search.marks.items ≡ length l.drivers;
  empty : l.search.path.items ≡ [];
  search : IsSearch (Reads l.drivers) l.search.marks.items l.search.path.items l.search.order.items;
  done : (n : ℕ) → n < l.root → slice_get l.search.marks.items n ≡ Some mark.Done;
}
