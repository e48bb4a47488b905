use Rattle.std.proofs.Common.{◌<◌, length, get_or, refl, arith}
use Rattle.ap_asm.specs.Listings.{landing_text}
use Rattle.ap_asm.proofs.ListedLines.{lines_more}
use Rattle.ap_asm.proofs.listing.put_landings.Goals as goal

pub loop-landing-preserved : goal.loop-landing-preserved
loop-landing-preserved c =
    let lt : c.loop-landing.landing-index < length c.args.landings.now = omega arith in
    lines_more landing_text c.args.landings.now c.loop-landing.landing-index (get_or c.args.landings.now c.loop-landing.landing-index 0) c.args.out.now.items c.loop-landing.out.items c.put_landing.new.out.items lt refl c.loop-landing.invariant c.in_ok-put_landing.ensures
