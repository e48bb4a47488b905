use Rattle.std.proofs.Common.{◌∷◌, [], sym, subst}
use Rattle.ap_net.specs.Draft.{Draft}
use Rattle.ap_net.specs.Cells.{IsNet}
use Rattle.ap_net.proofs.Laws.{IsNet-Makes}
use Rattle.ap_flight.proofs.Driving.{open_made}
use Rattle.ap_front.proofs.Fetched.{drives_fetch}
use Rattle.ap_front.proofs.fetch.fetch.Goals as goal

pub next_pc-requires : goal.next_pc-requires
next_pc-requires c =
    let g = c.requires.given in
    record { fresh = c.requires.fresh; pc = g.pc.net; hold = g.hold; kill = g.kill; target = g.target }

pub next-requires : goal.next-requires
next-requires c =
    let m = c.in_ok-next.ensures.makes in
    let o = (open_made _ _ m (c.args.given.pc ∷ []) (c.requires.given.pc, tt)).0 in
    let n = c.in_ok-next.ensures.carries in
    record { fits = record { register = o.net; clocked = o.register; from = n.net; same = sym n.wide }; unclocked = o.free }

pub show-requires : goal.show-requires
show-requires c =
    let n = c.in_ok-next.ensures in
    let k = c.in_ok-next-2.ensures in
    record {
      late = k.stay c.args.given.address (n.yields.reads.late c.args.given.address c.requires.given.address);
      net = subst (λ (d : Draft). IsNet d.nets c.args.given.pc) (sym k.ok) (IsNet-Makes _ _ c.args.given.pc n.makes c.requires.given.pc.net);
      same = c.requires.given.same;
    }

pub returns : goal.returns
returns c = drives_fetch c.args.given c.args.out.now c.next_pc.new.out c.next.new.self c.show.new.out c.in_ok-next.next c.in_ok-next.ensures.carries c.in_ok-next.ensures.yields c.in_ok-next.ensures.makes c.in_ok-next-2.ensures.ok c.in_ok-next-2.ensures.stay c.in_ok-show.ensures c.requires.fresh
