use Rattle.std.proofs.Common.{◌+◌, ◌<◌, length, arith}
use Rattle.ap_supply.specs.Listing.{IsMemEntry, IsMemNumber}
use Rattle.ap_supply.proofs.Listed.{lists_push, mem_or_last}
use Rattle.ap_supply.proofs.Served.{mem_entry}
use Rattle.ap_supply.proofs.reads.list_mems.Goals as goal

pub loop-place-preserved : goal.loop-place-preserved
loop-place-preserved c =
    let design = c.args.design.now in
    let mems = c.args.mems.now in
    let place = c.loop-place.place in
    let low : place < length design.mems = omega (arith, c.requires.count) in
    lists_push (IsMemEntry design mems) (IsMemNumber place) (IsMemNumber (place + 1)) c.args.made.now c.loop-place.made c.push.new.self c.mem_entry-entry.result c.in_ok-push.ensures.ok c.loop-place.invariant
    (mem_entry design mems place c.mem_entry-entry.result c.requires.clean low c.mem_entry-entry.ensures) (λ n wanted. mem_or_last place c.mem_entry-entry.result.number n c.mem_entry-entry.ensures.number wanted)
