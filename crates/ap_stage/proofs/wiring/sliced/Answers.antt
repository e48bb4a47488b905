use Rattle.std.proofs.Common.{◌≡◌, ◌+◌, ◌-◌, ◌/◌, ◌%◌, ◌^◌, refl, ap, ◌∙◌, arith}
use Rattle.ap_net.specs.declared.cell.Cell.TheVariants as cell
use Rattle.ap_net.proofs.Laws.{meant}
use Rattle.ap_stage.proofs.Wired.{wiring_made}
use Rattle.ap_stage.proofs.wiring.sliced.Goals as goal

pub make-requires-clause-fits : goal.make-requires-clause-fits
make-requires-clause-fits c = let order = c.requires.order in (c.requires.a, c.requires.order, c.requires.within, omega arith)

pub returns-clause-carries : goal.returns-clause-carries
returns-clause-carries c =
    let order = c.requires.order in
    let same : c.args.high + 1 - c.args.low ≡ c.args.high - c.args.low + 1 = omega arith in
    meant (λ r s h. h ∙ ap (λ k. (r.read c.args.a.number / 2 ^ c.args.low) % 2 ^ k) same) c.in_ok-bits.ensures.carries

pub returns-clause-wiring : goal.returns-clause-wiring
returns-clause-wiring c =
    let bits = c.in_ok-bits.ensures in
    wiring_made c.args.out.now c.make.new.self _ (cell.Slice c.args.a c.args.high c.args.low) c.in_ok-bits.bits bits.makes bits.reads bits.ok bits.wire bits.net.0 refl
