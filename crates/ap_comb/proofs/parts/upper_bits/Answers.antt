use Rattle.std.proofs.Common.{◌∙◌, ◌≡◌, ◌/◌, ◌^◌}
use Rattle.ap_comb.proofs.Cuts.{upper_cut}
use Rattle.ap_net.proofs.Laws.{Yields-made, carried}
use Rattle.ap_comb.proofs.parts.upper_bits.Goals as goal

pub returns-clause-value : goal.returns-clause-value
returns-clause-value c = λ read s.
    let cut = c.in_ok-cut.ensures.value read s in
    (cut.0, cut.1 ∙ upper_cut (read c.args.x.number) c.args.x.width c.args.from (cut.0.fits c.args.x.number c.args.x.width c.requires.x.declared) c.requires.within)

pub returns-clause-reads : goal.returns-clause-reads
returns-clause-reads c = let cut = c.in_ok-cut.ensures in Yields-made _ _ _ _ _ cut.reads cut.wire cut.net.0

pub returns-clause-carries : goal.returns-clause-carries
returns-clause-carries c = let cut = c.in_ok-cut.ensures in carried c.args.out.now _ _ (λ read y. y ≡ read c.args.x.number / 2 ^ c.args.from) _ cut.net.0 cut.net.1 (returns-clause-value c)
