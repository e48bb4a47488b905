use Rattle.std.proofs.Common.{refl}
use Rattle.ap_net.specs.Wiring.{IsWired, IsConnected}
use Rattle.ap_net.proofs.Lists.{get_end}
use Rattle.ap_net.proofs.Wired.{IsNet-end, CellFits-more}
use Rattle.ap_net.proofs.LateSteps.{IsLate-net, Reads-made}
use Rattle.ap_net.proofs.Drafts.{Adds-made, Settles-made}
use Rattle.ap_net.proofs.Making.{Closes-made}
use Rattle.ap_net.proofs.builder.Builder.show.Goals as goal

pub cell-requires-clause-fits : goal.cell-requires-clause-fits
cell-requires-clause-fits c = rw (c.in_ok-to.ensures.ok, c.in_ok-to.ensures.wire) (CellFits-more c.args.self.now.nets _ c.args.width c.args.cell c.requires.fits)

pub cell-requires-clause-late : goal.cell-requires-clause-late
cell-requires-clause-late c =
    let wired : IsWired c.args.self.now.nets c.args.self.now.assigns c.args.self.now.nexts = rw (← c.self.view_is) c.self.invariant.wired in
    let connected : IsConnected c.args.self.now.nets c.args.self.now.assigns c.args.self.now.instances = rw (← c.self.view_is) c.self.invariant.connected in
    rw (c.in_ok-to.ensures.ok, c.in_ok-to.ensures.wire) (IsLate-net c.args.self.now _ wired.results connected.declared c.requires.low c.requires.high (λ s. s))

pub returns-clause-net : goal.returns-clause-net
returns-clause-net c = rw (c.in_ok-cell.ensures.ok, c.in_ok-to.ensures.ok, c.in_ok-to.ensures.wire) (IsNet-end c.args.self.now.nets _ c.requires.low c.requires.high, refl)

pub returns-clause-value : goal.returns-clause-value
returns-clause-value c = rw (c.in_ok-cell.ensures.ok, c.in_ok-to.ensures.ok, c.in_ok-to.ensures.wire) (Settles-made c.args.self.now _ c.args.cell)

pub returns-clause-adds : goal.returns-clause-adds
returns-clause-adds c = rw (c.in_ok-cell.ensures.ok, c.in_ok-to.ensures.ok, c.in_ok-to.ensures.wire) (Adds-made c.args.self.now _ c.args.cell)

pub returns-clause-there : goal.returns-clause-there
returns-clause-there c = rw (c.in_ok-cell.ensures.ok, c.in_ok-to.ensures.ok, c.in_ok-to.ensures.wire) (get_end c.args.self.now.nets _)

pub returns-clause-closes : goal.returns-clause-closes
returns-clause-closes c = rw (c.in_ok-cell.ensures.ok, c.in_ok-to.ensures.ok, c.in_ok-to.ensures.wire) (Closes-made c.args.self.now _ c.args.cell (λ s. s) c.requires.fits)

pub returns-clause-carries : goal.returns-clause-carries
returns-clause-carries c = rw (c.in_ok-cell.ensures.ok, c.in_ok-to.ensures.ok, c.in_ok-to.ensures.wire) (record {
  net = IsNet-end c.args.self.now.nets _ c.requires.low c.requires.high;
  wide = refl;
  means = record { holds = λ r s. (Settles-made c.args.self.now _ c.args.cell r.read s.own).1 };
})

pub returns-clause-reads : goal.returns-clause-reads
returns-clause-reads c = rw (c.in_ok-cell.ensures.ok, c.in_ok-to.ensures.ok, c.in_ok-to.ensures.wire) (Reads-made c.args.self.now _ c.args.cell)
