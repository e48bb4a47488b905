use Rattle.ap_vr.proofs.Scoping.{found_pushed, found_stays, known_more, known_same}
use Rattle.ap_vr.proofs.scope.add_module.Goals as goal

pub returns-then-not-new-clause-known : goal.returns-then-not-new-clause-known
returns-then-not-new-clause-known c = known_same c.args.known.now _ _ c.as_str.result.now c.in_ok-new.new c.requires c.in_ok-new.ensures.table c.in_ok-new.ensures.new c.if-not-new.true

pub returns-then-not-new-clause-found : goal.returns-then-not-new-clause-found
returns-then-not-new-clause-found c = found_stays c.args.known.now _ c.args.named.now c.as_str.result.now c.in_ok-new.new c.requires c.as_str.ensures c.in_ok-new.ensures.new c.if-not-new.true

pub returns-clause-known : goal.returns-clause-known
returns-clause-known c =
    known_more c.args.known.now _ c.args.modules.now.items _ c.args.named c.as_str.result.now c.in_ok-new.new c.requires c.in_ok-new.ensures.table c.as_str.ensures c.in_ok-new.ensures.new c.if-not-new.false c.in_ok-push.ensures.items

pub returns-clause-found : goal.returns-clause-found
returns-clause-found c = found_pushed c.args.modules.now.items _ c.args.named c.in_ok-push.ensures.items
