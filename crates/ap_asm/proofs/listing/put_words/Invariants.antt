use Rattle.std.proofs.Common.{◌≡◌, ◌++◌, drop}
use Rattle.std.specs.List.{enumerate_from, flat_map}
use Rattle.ap_asm.specs.Listings.{place_text}
use Rattle.ap_asm.proofs.listing.put_words.Given as goal

-- the lines so far, and those of the words that are left
abbrev pub invariant-loop-place : goal.invariant-loop-place
invariant-loop-place l = l.out.items ++ flat_map (place_text l.design) (enumerate_from l.place (drop l.place l.words)) ≡ l.fn.out.items ++ flat_map (place_text l.design) (enumerate_from 0 l.words)
