use Rattle.std.proofs.Common.{◌≡◌, length}
use Rattle.std.specs.List.{AllByRecursion as Each}
use Rattle.ap_net.specs.Making.{Makes}
use Rattle.ap_stage.specs.Offers.{IsOffer}
use Rattle.stage_tests.proofs.nets.nine_offers.Given as goal

abbrev pub invariant-loop-place : goal.invariant-loop-place
invariant-loop-place l = record {
  offers : Each (IsOffer l.out.nets 8) l.offers.items;
  count : length l.offers.items ≡ l.place;
  makes : Makes l.fn.out l.out;
}
