use Rattle.std.proofs.Common.{◌<◌, ◌++◌, List, get_or, length, arith}
use Rattle.std.proofs.lemmas.Option.{slice_get-get_or}
use Rattle.ap_net.specs.declared.cell.Wire.{Wire}
use Rattle.ap_ctl.proofs.Beside.{no_wire}
use Rattle.ap_rest.specs.Reads.{idle_indices}
use Rattle.ap_rest.proofs.Listed.{indices_end, indices_more}
use Rattle.ap_rest.proofs.reads.add_idle_indices.Goals as goal

pub loop-place-preserved : goal.loop-place-preserved
loop-place-preserved c =
    let xs : List Wire = c.args.indices.now in
    let n = c.loop-place.place in
    let inside : n < length xs = omega arith in
    let w : Wire = get_or xs n no_wire in
    let at = slice_get-get_or xs n no_wire inside in
    indices_more c.args.design.now c.loop-place.nets c.add_unless.new.nets (c.args.nets.now ++ idle_indices c.args.design.now c.args.file 0 xs) c.args.file n xs w c.is_port_used-used.result at c.is_port_used-used.ensures c.in_ok-add_unless.ensures c.loop-place.invariant

pub returns : goal.returns
returns c =
    let xs : List Wire = c.args.indices.now in
    indices_end c.args.design.now c.loop-place.nets (c.args.nets.now ++ idle_indices c.args.design.now c.args.file 0 xs) c.args.file c.loop-place.place xs (omega arith) c.loop-place.invariant
