use Rattle.std.proofs.Common.{ap, ◌∙◌, arith}
use Rattle.ap_net.specs.declared.cell.Cell.TheVariants as cell
use Rattle.ap_net.specs.declared.net.Assign.{Assign}
use Rattle.ap_net.specs.declared.net.Join.{Join}
use Rattle.ap_net.specs.Flat.{Flat}
use Rattle.ap_flat.proofs.Driving.{drive_assign, drive_join, join_low}
use Rattle.ap_flat.proofs.driver.equations_of.Goals as goal

abbrev no_assign : Assign
no_assign = record { to = record { number = 0; width = 0 }; cell = cell.Const 0 }

abbrev no_join : Join
no_join = record { to = record { number = 0; width = 0 }; from = record { number = 0; width = 0 } }

pub loop-assign-preserved : goal.loop-assign-preserved
loop-assign-preserved c =
    let more = drive_assign c.args.opening.now c.deref-assign-items.result.now c.loop-assign.assign-index no_assign c.loop-assign.drivers.items c.requires.flat
    (c.deref-assign-items.ensures.value ∙ ap (λ (f : Flat). f.assigns) c.opening.view_is) c.loop-assign-test.true c.loop-assign.invariant.long c.loop-assign.invariant.are in
    record { long = more.long; are = more.are }

pub index_mut-requires-in-loop-join : goal.index_mut-requires-in-loop-join
index_mut-requires-in-loop-join c =
    let low = join_low c.args.opening.now c.deref-join-items.result.now c.loop-join.join-index no_join c.requires.flat
    (c.deref-join-items.ensures.value ∙ ap (λ (f : Flat). f.joins) c.opening.view_is) c.loop-join-test.true in
    let long = c.loop-join.invariant.long in
    omega (arith, c.loop-join.drivers.ok.0)

pub loop-join-preserved : goal.loop-join-preserved
loop-join-preserved c =
    let more = drive_join c.args.opening.now c.deref-join-items.result.now c.loop-join.join-index no_join c.loop-join.drivers.items c.requires.flat
    (c.deref-join-items.ensures.value ∙ ap (λ (f : Flat). f.joins) c.opening.view_is) c.loop-join-test.true c.loop-join.invariant.long c.loop-join.invariant.are in
    record { long = more.long; are = more.are }
