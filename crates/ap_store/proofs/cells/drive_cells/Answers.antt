use Rattle.std.proofs.Common.{◌≡◌, ◌∙◌, List, ap, arith, get_or, length, subst, sym}
use Rattle.ap_net.specs.declared.cell.Wire.{Wire}
use Rattle.ap_net.specs.declared.net.ModuleNet.{ModuleNet}
use Rattle.ap_net.specs.declared.net.Next.{Next}
use Rattle.ap_net.specs.Draft.{Draft, with_next}
use Rattle.ap_net.specs.Wiring.{NextFits, Unclocked}
use Rattle.ap_store.proofs.Drivers.{none, pair_at, paired_all, paired_more, unclocked_at}
use Rattle.ap_store.proofs.cells.drive_cells.Goals as goal

pub loop-index-init : goal.loop-index-init
loop-index-init c = ap (λ (nexts : List Next). record c.args.out.now { nexts = nexts }) c.requires.new

pub next-requires-clause-fits : goal.next-requires-clause-fits
next-requires-clause-fits c =
    let pair : Next = record { register = get_or c.args.cells.now c.loop-index.index none; from = get_or c.args.next.now c.loop-index.index none } in
    subst (λ (nets : List ModuleNet). NextFits nets pair) (sym (ap (λ (d : Draft). d.nets) c.loop-index.invariant))
    (pair_at (NextFits c.args.out.now.nets) c.args.cells.now c.args.next.now c.loop-index.index none none c.loop-index-test.true c.requires.long c.requires.fits)

pub next-requires-clause-unclocked : goal.next-requires-clause-unclocked
next-requires-clause-unclocked c =
    subst (λ (nexts : List Next). Unclocked nexts (get_or c.args.cells.now c.loop-index.index none).number) (sym (ap (λ (d : Draft). d.nexts) c.loop-index.invariant))
    (unclocked_at c.args.cells.now c.args.next.now c.loop-index.index none c.requires.numbers c.loop-index-test.true)

pub loop-index-preserved : goal.loop-index-preserved
loop-index-preserved c =
    let i = c.loop-index.index in
    let out : Draft = c.args.out.now in
    let register : Wire = get_or c.args.cells.now i none in
    let from : Wire = get_or c.args.next.now i none in
    c.in_ok-next.ensures.ok
    ∙ ap (λ (d : Draft). with_next d register from) c.loop-index.invariant
    ∙ ap (λ (nexts : List Next). record out { nexts = nexts }) (sym (paired_more c.args.cells.now c.args.next.now i none none c.loop-index-test.true c.requires.long))

pub returns : goal.returns
returns c =
    let ended : c.loop-index.index ≡ length c.args.cells.now = omega arith in
    c.loop-index.invariant ∙ ap (λ (nexts : List Next). record c.args.out.now { nexts = nexts }) (paired_all c.args.cells.now c.args.next.now c.loop-index.index ended c.requires.long)
