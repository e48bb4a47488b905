use Rattle.std.proofs.Common.{refl, arith}
use Rattle.ap_net.specs.declared.cell.Wire.{Wire}
use Rattle.ap_stage.proofs.Lined.{found_no, found_some, line_wiring, none_reads, zext_line}
use Rattle.ap_stage.proofs.line.zext_net.Goals as goal

pub zero_extended-requires-clause-a : goal.zero_extended-requires-clause-a
zero_extended-requires-clause-a c = (rw c.in-Some.is at c.in_ok-found.ensures.net).net

pub zero_extended-requires-clause-order : goal.zero_extended-requires-clause-order
zero_extended-requires-clause-order c = let wide = (rw c.in-Some.is at c.in_ok-found.ensures.net).wide in let room = c.requires.room.0 in omega arith

pub returns-clause-net : goal.returns-clause-net
returns-clause-net c = zext_line _ _ c.args.ground.now c.args.scope.now c.args.row.now c.args.a c.args.width c.in-Some.x _ c.in_ok-wide.ensures.wiring.makes (rw c.in-Some.is at c.in_ok-found.ensures.net) c.in_ok-wide.ensures.carries

pub returns-clause-wiring : goal.returns-clause-wiring
returns-clause-wiring c = line_wiring _ _ _ _ c.in-Some.x _ (rw c.in-Some.is at c.in_ok-found.ensures.wiring) c.in_ok-wide.ensures.wiring

pub returns-clause-found : goal.returns-clause-found
returns-clause-found c = (λ h. refl, λ h. found_some _ c.in-Some.x c.in-Some.is c.in_ok-found.ensures.found)

pub returns-in_default-clause-none : goal.returns-in_default-clause-none
returns-in_default-clause-none c = none_reads _ _ _ _ c.in_default.is c.in_ok-found.ensures.none

pub returns-in_default-clause-found : goal.returns-in_default-clause-found
returns-in_default-clause-found c = found_no Wire _ c.in_default.is c.in_ok-found.ensures.found (λ h. h)
