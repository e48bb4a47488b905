use Rattle.std.proofs.lemmas.Result.{err_from_is_err_and}
use Rattle.ap_desk.proofs.Steps.{becomes_all, becomes_front, becomes_stands}
use Rattle.ap_net.specs.Text.{netlist_text}
use Rattle.ap_top.proofs.streaming.write_netlist.Goals as goal

pub append_netlist-requires-clause-there : goal.append_netlist-requires-clause-there
append_netlist-requires-clause-there g c = becomes_stands _ _ _ _ c.in_ok-create.ensures.ok

pub returns-in_err-append_netlist-clause-err : goal.returns-in_err-append_netlist-clause-err
returns-in_err-append_netlist-clause-err g c =
    let p = err_from_is_err_and c.from_residual-in_err-append_netlist.result c.from_residual-in_err-append_netlist.ensures.1 in
    rw p.1 (becomes_front _ _ _ c.args.name.now (netlist_text c.args.net.now) c.in_ok-create.ensures.ok c.in_err-append_netlist.ensures.err)

pub returns-clause-ok : goal.returns-clause-ok
returns-clause-ok g c = becomes_all _ _ _ c.args.name.now (netlist_text c.args.net.now) c.in_ok-create.ensures.ok c.in_ok-append_netlist.ensures.ok
