use Rattle.std.proofs.Common.{rules, ◌≡◌, ◌<◌, true, length, subst}
use Rattle.ap_net.proofs.Laws.{Carries-Makes, IsNet-Makes, Makes-refl, Makes-trans, Yields-same}
use Rattle.ap_merge.specs.declared.table.Select.{Select}
use Rattle.ap_merge.specs.Selects.{depth, span_of}
use Rattle.ap_merge.proofs.SelectValues.{depth-ask}
use Rattle.ap_stage.specs.Offers.{IsOver, nets_of, numbers_of}
use Rattle.ap_stage.specs.Trees.{leaf}
use Rattle.ap_stage.proofs.Choosing.{chosen_reads, net_among, net_asked, net_read, net_taken, offers_on, one_over, other_falls, other_over, take_low, tree_of_either, tree_on}
use Rattle.ap_stage.proofs.Shallow.{tree_over}
use Rattle.ap_stage.proofs.choose.+chosen.Goals as goal

pub offer_at-requires : goal.offer_at-requires
offer_at-requires t c = take_low (length c.args.offers.now) c.in-Take.place (subst (IsOver (length c.args.offers.now)) c.in-Take.is c.requires.over)

pub returns-in-Take-clause-carries : goal.returns-in-Take-clause-carries
returns-in-Take-clause-carries t c = rw c.in-Take.is (net_taken _ c.args.width c.args.offers.now c.in-Take.place c.offer_at.result c.requires.offers c.offer_at.ensures)

pub returns-in-Take-clause-reads : goal.returns-in-Take-clause-reads
returns-in-Take-clause-reads t c = Yields-same _ _ _ (net_read c.args.offers.now c.in-Take.place c.offer_at.result c.offer_at.ensures)

pub returns-in-Take-clause-makes : goal.returns-in-Take-clause-makes
returns-in-Take-clause-makes t c = Makes-refl _

pub returns-in-Take-clause-tree : goal.returns-in-Take-clause-tree
returns-in-Take-clause-tree t c = leaf _ _ (net_among c.args.offers.now c.in-Take.place c.offer_at.result c.offer_at.ensures)

pub returns-in-Take-clause-shallow : goal.returns-in-Take-clause-shallow
returns-in-Take-clause-shallow t c = tree_over _ _ (nets_of c.args.offers.now) (depth c.args.select.now) _ (Makes-refl _).adds.extends (leaf _ _ (net_among c.args.offers.now c.in-Take.place c.offer_at.result c.offer_at.ensures))

pub offered-requires-clause-over : goal.offered-requires-clause-over
offered-requires-clause-over t c = rw c.get.ensures (one_over (length c.args.offers.now) _ _ c.in-Ask.yes c.in-Ask.no (subst (IsOver (length c.args.offers.now)) c.in-Ask.is c.requires.over))

pub chosen-requires : goal.chosen-requires
chosen-requires t c =
    let less : depth c.get-in-Ask.result.now < depth c.args.select.now = rw c.get-in-Ask.ensures (other_falls c.args.select.now _ _ c.in-Ask.yes c.in-Ask.no c.in-Ask.is) in (
      search rules,
      (
        c.in_ok-first-in-Ask.ensures.makes.fresh c.requires.fresh,
        (
          offers_on _ _ c.args.width c.args.offers.now c.in_ok-first-in-Ask.ensures.makes c.requires.offers,
          rw c.get-in-Ask.ensures (other_over (length c.args.offers.now) _ _ c.in-Ask.yes c.in-Ask.no (subst (IsOver (length c.args.offers.now)) c.in-Ask.is c.requires.over)),
        ),
      ),
    )

pub either-requires-clause-cond : goal.either-requires-clause-cond
either-requires-clause-cond t c = IsNet-Makes _ _ _ c.in_ok-second-in-Ask.ensures.makes c.in_ok-first-in-Ask.ensures.cond.net

pub either-requires-clause-yes : goal.either-requires-clause-yes
either-requires-clause-yes t c = IsNet-Makes _ _ _ c.in_ok-second-in-Ask.ensures.makes c.in_ok-first-in-Ask.ensures.net.net

pub returns-in_ok-net-in-Ask-clause-makes : goal.returns-in_ok-net-in-Ask-clause-makes
returns-in_ok-net-in-Ask-clause-makes t c = Makes-trans _ _ _ c.in_ok-first-in-Ask.ensures.makes (Makes-trans _ _ _ c.in_ok-second-in-Ask.ensures.makes c.in_ok-net-in-Ask.ensures.makes)

pub returns-in_ok-net-in-Ask-clause-carries : goal.returns-in_ok-net-in-Ask-clause-carries
returns-in_ok-net-in-Ask-clause-carries t c =
    let later = Makes-trans _ _ _ c.in_ok-second-in-Ask.ensures.makes c.in_ok-net-in-Ask.ensures.makes in
    let joined = subst (λ (s : Select). (span_of s).joined ≡ true) c.in-Ask.is c.requires.over.joined in
    rw (c.in-Ask.is) (net_asked c.either.new.out c.args.width c.args.offers.now _ _ c.in-Ask.yes c.in-Ask.no c.in_ok-first-in-Ask.first.cond c.in_ok-first-in-Ask.first.net c.in_ok-second-in-Ask.second c.in_ok-net-in-Ask.net joined
    (rw (← c.get.ensures) (Carries-Makes later c.in_ok-first-in-Ask.ensures.cond))
    (rw (← c.get.ensures) (Carries-Makes later c.in_ok-first-in-Ask.ensures.net))
    (rw (← c.get-in-Ask.ensures) (Carries-Makes c.in_ok-net-in-Ask.ensures.makes c.in_ok-second-in-Ask.ensures.carries))
    c.in_ok-net-in-Ask.ensures.carries)

pub returns-in_ok-net-in-Ask-clause-reads : goal.returns-in_ok-net-in-Ask-clause-reads
returns-in_ok-net-in-Ask-clause-reads t c =
    chosen_reads (numbers_of c.args.offers.now) _ _ _ _ _ _ _ _ c.in_ok-first-in-Ask.ensures.cond_reads c.in_ok-first-in-Ask.ensures.net_reads c.in_ok-second-in-Ask.ensures.reads c.in_ok-net-in-Ask.ensures.reads

pub returns-in_ok-net-in-Ask-clause-tree : goal.returns-in_ok-net-in-Ask-clause-tree
returns-in_ok-net-in-Ask-clause-tree t c =
    let later = Makes-trans _ _ _ c.in_ok-second-in-Ask.ensures.makes c.in_ok-net-in-Ask.ensures.makes in
    rw (c.in-Ask.is, depth-ask _ _ c.in-Ask.yes c.in-Ask.no) (tree_of_either c.either.new.out (nets_of c.args.offers.now) (depth c.in-Ask.yes) (depth c.in-Ask.no) _ _ _ _ c.in_ok-net-in-Ask.ensures.tree
    (rw (← c.get.ensures) (tree_on _ _ _ _ _ later.adds.extends c.in_ok-first-in-Ask.ensures.tree))
    (rw (← c.get-in-Ask.ensures) (tree_on _ _ _ _ _ c.in_ok-net-in-Ask.ensures.makes.adds.extends c.in_ok-second-in-Ask.ensures.tree)))

pub returns-in_ok-net-in-Ask-clause-shallow : goal.returns-in_ok-net-in-Ask-clause-shallow
returns-in_ok-net-in-Ask-clause-shallow t c =
    tree_over _ _ (nets_of c.args.offers.now) (depth c.args.select.now) _ (Makes-trans _ _ _ c.in_ok-first-in-Ask.ensures.makes (Makes-trans _ _ _ c.in_ok-second-in-Ask.ensures.makes c.in_ok-net-in-Ask.ensures.makes)).adds.extends (returns-in_ok-net-in-Ask-clause-tree t c)
