use Rattle.std.proofs.Common.{refl, arith}
use Rattle.ap_net.specs.declared.cell.Wire.{Wire}
use Rattle.ap_net.specs.declared.cell.Wire.{Wire}
use Rattle.ap_net.proofs.Laws.{IsNet-Makes}
use Rattle.ap_stage.specs.Sources.{source_numbers}
use Rattle.ap_stage.proofs.Followed.{only_later}
use Rattle.ap_stage.proofs.Lined.{cat_line, cat_wiring, found_no, found_some, ground_on, none_reads, rows_on}
use Rattle.ap_stage.proofs.line.cat_net.Goals as goal

pub operand_net-requires-2-clause-fresh : goal.operand_net-requires-2-clause-fresh
operand_net-requires-2-clause-fresh c = (rw c.in-Some.is at c.in_ok-first.ensures.wiring).makes.fresh c.requires.fresh

pub operand_net-requires-2-clause-ground : goal.operand_net-requires-2-clause-ground
operand_net-requires-2-clause-ground c = ground_on _ _ c.args.ground.now (rw c.in-Some.is at c.in_ok-first.ensures.wiring).makes c.requires.ground

pub operand_net-requires-2-clause-row : goal.operand_net-requires-2-clause-row
operand_net-requires-2-clause-row c = rows_on _ _ c.args.scope.now c.args.row.now (rw c.in-Some.is at c.in_ok-first.ensures.wiring).makes c.requires.row

pub joined-requires-clause-fresh : goal.joined-requires-clause-fresh
joined-requires-clause-fresh c = (rw c.in-Some-second.is at c.in_ok-second.ensures.wiring).makes.fresh ((rw c.in-Some.is at c.in_ok-first.ensures.wiring).makes.fresh c.requires.fresh)

pub joined-requires-clause-a : goal.joined-requires-clause-a
joined-requires-clause-a c = IsNet-Makes _ _ c.in-Some.x (rw c.in-Some-second.is at c.in_ok-second.ensures.wiring).makes (rw c.in-Some.is at c.in_ok-first.ensures.net).net

pub joined-requires-clause-b : goal.joined-requires-clause-b
joined-requires-clause-b c = (rw c.in-Some-second.is at c.in_ok-second.ensures.net).net

pub joined-requires-clause-high : goal.joined-requires-clause-high
joined-requires-clause-high c =
    let one = (rw c.in-Some.is at c.in_ok-first.ensures.net).wide in
    let other = (rw c.in-Some-second.is at c.in_ok-second.ensures.net).wide in
    let room = c.requires.room in
    omega arith

pub returns-clause-net : goal.returns-clause-net
returns-clause-net c =
    cat_line _ _ _ c.args.ground.now c.args.scope.now c.args.row.now c.args.a c.args.b c.in-Some.x c.in-Some-second.y _ (rw c.in-Some-second.is at c.in_ok-second.ensures.wiring).makes c.in_ok-both.ensures.wiring.makes
    (rw c.in-Some.is at c.in_ok-first.ensures.net) (rw c.in-Some-second.is at c.in_ok-second.ensures.net) c.in_ok-both.ensures.carries

pub returns-clause-wiring : goal.returns-clause-wiring
returns-clause-wiring c =
    cat_wiring (source_numbers c.args.ground.now c.args.row.now) _ _ _ _ c.in-Some.x c.in-Some-second.y _ (rw c.in-Some.is at c.in_ok-first.ensures.wiring) (rw c.in-Some-second.is at c.in_ok-second.ensures.wiring) c.in_ok-both.ensures.wiring

pub returns-clause-found : goal.returns-clause-found
returns-clause-found c = (λ h. refl, λ h. (found_some _ c.in-Some.x c.in-Some.is c.in_ok-first.ensures.found, found_some _ c.in-Some-second.y c.in-Some-second.is c.in_ok-second.ensures.found))

pub returns-in_default-clause-none : goal.returns-in_default-clause-none
returns-in_default-clause-none c = none_reads _ _ _ _ c.in_default.is c.in_ok-first.ensures.none

pub returns-in_default-clause-found : goal.returns-in_default-clause-found
returns-in_default-clause-found c = found_no Wire _ c.in_default.is c.in_ok-first.ensures.found (λ h. h.0)

pub returns-in_default-second-clause-none : goal.returns-in_default-second-clause-none
returns-in_default-second-clause-none c =
    let first = rw c.in-Some.is at c.in_ok-first.ensures.wiring in
    only_later (source_numbers c.args.ground.now c.args.row.now) _ _ _ first.yields.reads first.makes (none_reads _ _ _ _ c.in_default-second.is c.in_ok-second.ensures.none)

pub returns-in_default-second-clause-found : goal.returns-in_default-second-clause-found
returns-in_default-second-clause-found c = found_no Wire _ c.in_default-second.is c.in_ok-second.ensures.found (λ h. h.1)
