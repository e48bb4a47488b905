use Rattle.std.proofs.Common.{◌==◌, ap, inl, inr, refl, sym, ◌∙◌}
use Rattle.ap_net.proofs.Laws.{Makes-refl, Yields-made, Yields-same}
use Rattle.ap_stage.proofs.Choosing.{either_made, same_either, same_wire}
use Rattle.ap_stage.proofs.choose.either.Goals as goal

pub returns-then-yes-no-clause-carries : goal.returns-then-yes-no-clause-carries
returns-then-yes-no-clause-carries c = record {
  net = c.requires.yes;
  wide = c.requires.wide;
  means = record { holds = λ r s. same_either (r.read c.args.cond.number == 1) (r.read c.args.yes.number) (r.read c.args.no.number) (ap r.read c.if-yes-no.true) };
}

pub returns-then-yes-no-clause-reads : goal.returns-then-yes-no-clause-reads
returns-then-yes-no-clause-reads c = Yields-same _ _ _ (inr (inl refl))

pub returns-then-yes-no-clause-makes : goal.returns-then-yes-no-clause-makes
returns-then-yes-no-clause-makes c = Makes-refl _

pub returns-then-yes-no-clause-tree : goal.returns-then-yes-no-clause-tree
returns-then-yes-no-clause-tree c = inl (same_wire c.args.yes c.args.no c.if-yes-no.true (c.requires.same ∙ sym c.requires.wide), refl)

pub returns-clause-reads : goal.returns-clause-reads
returns-clause-reads c = let net = c.in_ok-net.ensures in Yields-made _ _ _ _ _ net.reads net.wire net.net.0

pub returns-clause-tree : goal.returns-clause-tree
returns-clause-tree c = let net = c.in_ok-net.ensures in either_made _ _ c.args.width c.args.cond c.args.yes c.args.no _ net.ok net.wire
