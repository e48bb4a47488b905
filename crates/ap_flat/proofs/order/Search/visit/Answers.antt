use Rattle.std.proofs.Common.{◌<◌, length, sym, subst, ◌∙◌}
use Rattle.std.proofs.lemmas.List.{length-set}
use Rattle.std.proofs.lemmas.Option.{slice_get_within}
use Rattle.ap_flat.specs.declared.order.Mark.TheVariants as mark
use Rattle.ap_flat.specs.Searching.{StaysDone}
use Rattle.ap_flat.proofs.Steps.{begun_first, end_low, first_open, open_stays}
use Rattle.ap_flat.proofs.order.Search.visit.Goals as goal

pub open-requires : goal.open-requires
open-requires c = slice_get_within c.args.self.now.marks.items c.args.root mark.New c.requires.new

pub follow-init : goal.follow-init
follow-init c = record {
  long = rw c.in_ok-open.ensures.marks (length-set c.args.self.now.marks.items c.args.root mark.Open);
  search = rw (c.in_ok-open.ensures.marks, c.in_ok-open.ensures.path, c.in_ok-open.ensures.order)
      (first_open c.args.drivers.now c.args.self.now.marks.items c.args.self.now.path.items c.args.self.now.order.items c.args.root c.requires.search c.requires.empty c.requires.new);
  begun = rw c.in_ok-open.ensures.marks (begun_first c.args.self.now.marks.items c.args.root c.requires.new);
  stays = subst (StaysDone c.args.self.now.marks.items) (sym c.in_ok-open.ensures.marks) (open_stays c.args.self.now.marks.items c.args.root c.requires.new);
}

pub step-requires-clause-low : goal.step-requires-clause-low
step-requires-clause-low c =
    let low : c.in-Some.net < length c.follow.self.marks.items = end_low c.args.drivers.now c.follow.self.marks.items c.follow.self.path.items c.follow.self.order.items c.in-Some.net c.follow.invariant.search c.in-Some.ensures.some in
    subst (λ n. c.in-Some.net < n) (c.follow.invariant.long ∙ sym c.requires.long) low
