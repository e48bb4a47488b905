use Rattle.std.proofs.Common.{◌<◌, length, get_or, inl, inr, sym, ap, subst, arith}
use Rattle.std.proofs.lemmas.Option.{slice_get-get_or}
use Rattle.ap_flat.specs.declared.driver.Driver.TheVariants as driver
use Rattle.ap_flat.specs.declared.order.Mark.TheVariants as mark
use Rattle.ap_flat.specs.Searching.{StaysBegun, StaysDone}
use Rattle.ap_flat.proofs.Steps.{each_among, mark_at, end_low, step_close, step_open, step_loop, close_stays, close_begun, close_smaller, open_stays, open_begun, open_smaller, reads_low}
use Rattle.ap_flat.proofs.order.Search.step.Goals as goal

pub undone_read-requires : goal.undone_read-requires
undone_read-requires c = rw c.deref.ensures.value (reads_low c.args.drivers.now (length c.args.self.now.marks.items) c.args.net _ c.requires.declared (slice_get-get_or c.args.drivers.now c.args.net driver.Given c.requires.low))

pub close-requires : goal.close-requires
close-requires c = end_low c.args.drivers.now c.args.self.now.marks.items c.args.self.now.path.items c.args.self.now.order.items c.args.net c.requires.search c.requires.last

pub returns-in_default-clause-search : goal.returns-in_default-clause-search
returns-in_default-clause-search c =
    rw (c.in_ok-close.ensures.marks, c.in_ok-close.ensures.order)
    (step_close c.args.drivers.now c.args.self.now.marks.items c.args.self.now.path.items c.args.self.now.order.items c.args.net c.requires.search c.requires.last
    (get_or c.args.drivers.now c.args.net driver.Given) (slice_get-get_or c.args.drivers.now c.args.net driver.Given c.requires.low) c.close.new.self.path.items c.in_ok-close.ensures.path
    (rw c.deref.ensures.value at c.in_default.ensures.none))

pub returns-in_default-clause-stays : goal.returns-in_default-clause-stays
returns-in_default-clause-stays c = subst (StaysDone c.args.self.now.marks.items) (sym c.in_ok-close.ensures.marks)
    (close_stays c.args.drivers.now c.args.self.now.marks.items c.args.self.now.path.items c.args.self.now.order.items c.args.net c.requires.search c.requires.last)

pub returns-in_default-clause-begun : goal.returns-in_default-clause-begun
returns-in_default-clause-begun c = subst (StaysBegun c.args.self.now.marks.items) (sym c.in_ok-close.ensures.marks)
    (close_begun c.args.drivers.now c.args.self.now.marks.items c.args.self.now.path.items c.args.self.now.order.items c.args.net c.requires.search c.requires.last)

pub returns-in_default-clause-smaller : goal.returns-in_default-clause-smaller
returns-in_default-clause-smaller c = rw c.in_ok-close.ensures.marks
    (close_smaller c.args.drivers.now c.args.self.now.marks.items c.args.self.now.path.items c.args.self.now.order.items c.args.net c.requires.search c.requires.last c.close.new.self.path.items c.in_ok-close.ensures.path)

pub index-requires : goal.index-requires
index-requires c =
    let low : c.in-Some.read < length c.args.self.now.marks.items = each_among (λ m. m < length c.args.self.now.marks.items) _ c.in-Some.read
    (reads_low c.args.drivers.now (length c.args.self.now.marks.items) c.args.net _ c.requires.declared (slice_get-get_or c.args.drivers.now c.args.net driver.Given c.requires.low)) c.in-Some.ensures.some.0 in
    let same = ap length c.deref.ensures.value in
    let long = c.deref.ensures.len in
    omega arith

pub open-requires : goal.open-requires
open-requires c = each_among (λ m. m < length c.args.self.now.marks.items) _ c.in-Some.read
    (reads_low c.args.drivers.now (length c.args.self.now.marks.items) c.args.net _ c.requires.declared (slice_get-get_or c.args.drivers.now c.args.net driver.Given c.requires.low)) c.in-Some.ensures.some.0

pub returns-in-Open-clause-looped : goal.returns-in-Open-clause-looped
returns-in-Open-clause-looped c = λ e. elim c.in-Open.is [
  | inl seen ↦ step_loop c.args.drivers.now c.args.self.now.marks.items c.args.self.now.path.items c.args.self.now.order.items c.args.net c.requires.search c.requires.last
      (get_or c.args.drivers.now c.args.net driver.Given) (slice_get-get_or c.args.drivers.now c.args.net driver.Given c.requires.low) c.in-Some.read c.in-Some.ensures.some.0
      (mark_at c.args.self.now.marks.items c.in-Some.read c.index.result.now mark.Open (each_among (λ m. m < length c.args.self.now.marks.items) _ c.in-Some.read (reads_low c.args.drivers.now (length c.args.self.now.marks.items) c.args.net _ c.requires.declared (slice_get-get_or c.args.drivers.now c.args.net driver.Given c.requires.low)) c.in-Some.ensures.some.0) c.index.ensures seen)
  | inr done ↦ absurd ((rw c.deref.ensures.value at c.in-Some.ensures.some.1) (mark_at c.args.self.now.marks.items c.in-Some.read c.index.result.now mark.Done (each_among (λ m. m < length c.args.self.now.marks.items) _ c.in-Some.read (reads_low c.args.drivers.now (length c.args.self.now.marks.items) c.args.net _ c.requires.declared (slice_get-get_or c.args.drivers.now c.args.net driver.Given c.requires.low)) c.in-Some.ensures.some.0) c.index.ensures done))
]

pub returns-clause-search : goal.returns-clause-search
returns-clause-search c =
    rw (c.in_ok-open-in-New.ensures.marks, c.in_ok-open-in-New.ensures.path, c.in_ok-open-in-New.ensures.order)
    (step_open c.args.drivers.now c.args.self.now.marks.items c.args.self.now.path.items c.args.self.now.order.items c.args.net c.requires.search c.requires.last
    (get_or c.args.drivers.now c.args.net driver.Given) (slice_get-get_or c.args.drivers.now c.args.net driver.Given c.requires.low) c.in-Some.read c.in-Some.ensures.some.0 (mark_at c.args.self.now.marks.items c.in-Some.read c.index.result.now mark.New (each_among (λ m. m < length c.args.self.now.marks.items) _ c.in-Some.read (reads_low c.args.drivers.now (length c.args.self.now.marks.items) c.args.net _ c.requires.declared (slice_get-get_or c.args.drivers.now c.args.net driver.Given c.requires.low)) c.in-Some.ensures.some.0) c.index.ensures c.in-New.is))

pub returns-clause-stays : goal.returns-clause-stays
returns-clause-stays c = subst (StaysDone c.args.self.now.marks.items) (sym c.in_ok-open-in-New.ensures.marks) (open_stays c.args.self.now.marks.items c.in-Some.read (mark_at c.args.self.now.marks.items c.in-Some.read c.index.result.now mark.New (each_among (λ m. m < length c.args.self.now.marks.items) _ c.in-Some.read (reads_low c.args.drivers.now (length c.args.self.now.marks.items) c.args.net _ c.requires.declared (slice_get-get_or c.args.drivers.now c.args.net driver.Given c.requires.low)) c.in-Some.ensures.some.0) c.index.ensures c.in-New.is))

pub returns-clause-begun : goal.returns-clause-begun
returns-clause-begun c = subst (StaysBegun c.args.self.now.marks.items) (sym c.in_ok-open-in-New.ensures.marks) (open_begun c.args.self.now.marks.items c.in-Some.read (mark_at c.args.self.now.marks.items c.in-Some.read c.index.result.now mark.New (each_among (λ m. m < length c.args.self.now.marks.items) _ c.in-Some.read (reads_low c.args.drivers.now (length c.args.self.now.marks.items) c.args.net _ c.requires.declared (slice_get-get_or c.args.drivers.now c.args.net driver.Given c.requires.low)) c.in-Some.ensures.some.0) c.index.ensures c.in-New.is))

pub returns-clause-smaller : goal.returns-clause-smaller
returns-clause-smaller c = rw (c.in_ok-open-in-New.ensures.marks, c.in_ok-open-in-New.ensures.path) (open_smaller c.args.self.now.marks.items c.args.self.now.path.items c.in-Some.read (mark_at c.args.self.now.marks.items c.in-Some.read c.index.result.now mark.New (each_among (λ m. m < length c.args.self.now.marks.items) _ c.in-Some.read (reads_low c.args.drivers.now (length c.args.self.now.marks.items) c.args.net _ c.requires.declared (slice_get-get_or c.args.drivers.now c.args.net driver.Given c.requires.low)) c.in-Some.ensures.some.0) c.index.ensures c.in-New.is))
