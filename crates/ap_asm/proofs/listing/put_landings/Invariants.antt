use Rattle.std.proofs.Common.{◌≡◌, ◌++◌, take}
use Rattle.std.specs.List.{flat_map}
use Rattle.ap_asm.specs.Listings.{landing_text}
use Rattle.ap_asm.proofs.listing.put_landings.Given as goal

abbrev pub invariant-loop-landing : goal.invariant-loop-landing
invariant-loop-landing l = l.out.items ≡ l.fn.out.items ++ flat_map landing_text (take l.landing-index l.landings)
