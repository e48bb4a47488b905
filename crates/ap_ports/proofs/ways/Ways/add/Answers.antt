use Rattle.std.proofs.Common.{◌≡◌, get_or, sym, subst}
use Rattle.std.specs.Prelude.{◌⊎◌, ◌↔◌, ℕ}
use Rattle.std.specs.Int.{bit_at}
use Rattle.ap_ports.proofs.Sets.{joined_all, joined_leads}
use Rattle.ap_ports.proofs.ways.Ways.add.Goals as goal

pub returns : goal.returns
returns c x y =
    let row = get_or c.args.self.now.rows x 0 in
    let behind = get_or c.args.self.now.rows c.args.to 0 in
    let new = joined_all c.args.self.now.rows c.join.new.rows c.args.sources behind c.join.ensures.length c.join.ensures.each x in
    subst (λ n. (bit_at n y ≡ 1) ↔ ((bit_at row y ≡ 1) ⊎ ((u : ℕ) × (bit_at c.args.sources u ≡ 1) × (bit_at row u ≡ 1) × (bit_at behind y ≡ 1))))
    (sym new) (joined_leads row behind c.args.sources y c.ranges.sources.fits)
