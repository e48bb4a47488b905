use Rattle.std.proofs.Common.{◌≡◌, length, Some}
use Rattle.std.specs.Prelude.{◌⊎◌, slice_get}
use Rattle.ap_flat.specs.Drivers.{Reads}
use Rattle.ap_flat.specs.Searching.{IsSearch, StaysDone, most_steps}
use Rattle.ap_flat.specs.declared.order.Mark.TheVariants as mark
use Rattle.ap_flat.proofs.order.Search.visit.Given as goal

abbrev pub invariant-follow : goal.invariant-follow
invariant-follow l = record {
  long : length l.self.marks.items ≡ length l.fn.self.marks.items;
  search : IsSearch (Reads l.drivers) l.self.marks.items l.self.path.items l.self.order.items;
  begun : (slice_get l.self.marks.items l.root ≡ Some mark.Open) ⊎ (slice_get l.self.marks.items l.root ≡ Some mark.Done);
  stays : StaysDone l.fn.self.marks.items l.self.marks.items;
}

abbrev pub decreases-follow : goal.decreases-follow
decreases-follow l = most_steps l.self.marks.items l.self.path.items
