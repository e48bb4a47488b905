use Rattle.std.proofs.Common.{◌∷◌, [], sym}
use Rattle.ap_flight.proofs.Driving.{open_made}
use Rattle.ap_bank.proofs.Driven.{drives_one}
use Rattle.ap_bank.proofs.regs.drive_reg.Goals as goal

pub next-requires : goal.next-requires
next-requires c =
    let m = c.in_ok-net.ensures.makes in
    let o = (open_made _ _ m (c.args.register ∷ []) (c.requires.register, tt)).0 in
    let n = c.in_ok-net.ensures.carries in
    record { fits = record { register = o.net; clocked = o.register; from = n.net; same = sym n.wide }; unclocked = o.free }

pub returns : goal.returns
returns c =
    let n = c.in_ok-net.ensures in
    let k = c.in_ok-next.ensures in
    drives_one c.args.register c.args.write c.args.out.now c.next_of.new.out c.next.new.self c.in_ok-net.net n.carries n.yields n.makes k.ok k.stay c.requires.fresh
