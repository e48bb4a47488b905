use Rattle.std.proofs.Common.{get_or, refl}
use Rattle.ap_asm.specs.Listings.{place_text}
use Rattle.ap_asm.proofs.ListedLines.{numbered_more}
use Rattle.ap_asm.proofs.listing.put_words.Goals as goal

pub loop-place-preserved : goal.loop-place-preserved
loop-place-preserved c =
    numbered_more (place_text c.args.design.now) c.args.words.now c.loop-place.place (get_or c.args.words.now c.loop-place.place 0) c.loop-place.out.items c.put_word.new.out.items _ c.loop-place-test.true refl c.loop-place.invariant c.in_ok-put_word.ensures
