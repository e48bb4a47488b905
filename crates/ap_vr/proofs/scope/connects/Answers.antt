use Rattle.std.proofs.Common.{◌≡◌, ◌∙◌, ◌&&◌, ap, length, rules, sym, tests}
use Rattle.std.specs.List.{list_all, zip}
use Rattle.std.proofs.lemmas.Bool.{eq-eqb}
use Rattle.std.proofs.lemmas.Iterator.{YieldsList-from_slice, YieldsList-from_zip}
use Rattle.std.proofs.lemmas.Iterator.Search.{all_from_yields_List}
use Rattle.ap_vr.specs.Scope.{is_of_port}
use Rattle.ap_vr.proofs.scope.connects.Goals as goal

pub returns-then-connections-ports : goal.returns-then-connections-ports
returns-then-connections-ports c =
    let all : c.all.result ≡ list_all is_of_port (zip c.args.connections.now c.args.ports.now) =
    all_from_yields_List is_of_port c.all.new.self _ c.all.result c.all.ensures.ran (YieldsList-from_zip (YieldsList-from_slice c.args.connections.now cc) (YieldsList-from_slice c.args.ports.now cc)) (λ x b q k. search (rules, tests)) in
    all ∙ sym (ap (λ b. b && list_all is_of_port (zip c.args.connections.now c.args.ports.now)) (eq-eqb (length c.args.connections.now) (length c.args.ports.now) c.if-connections-ports.true))
