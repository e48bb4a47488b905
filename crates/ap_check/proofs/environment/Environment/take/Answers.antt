use Rattle.std.proofs.Common.{List, ap}
use Rattle.std.proofs.lemmas.Result.{err_from_is_err_and}
use Rattle.ap_bits.specs.declared.card.Card.{Card}
use Rattle.ap_unit.specs.Shelves.{cards_of}
use Rattle.ap_check.specs.declared.declared.Declared.{Declared}
use Rattle.ap_check.proofs.Taken.{has_fixed, has_kind_of, refused_first, taken}
use Rattle.ap_check.proofs.environment.Environment.take.Goals as goal

pub describe-requires-clause-fixed : goal.describe-requires-clause-fixed
describe-requires-clause-fixed g c =
    has_fixed (cards_of (λ x. (goal.UnitKind-dyn g x).card x.1) c.args.shelf.now) c.args.self.now.declared c.args.n.now.statement c.in_ok-used.used c.in_ok-used.ensures.used

pub describe-requires-clause-kind : goal.describe-requires-clause-kind
describe-requires-clause-kind g c =
    has_kind_of (cards_of (λ x. (goal.UnitKind-dyn g x).card x.1) c.args.shelf.now) c.args.self.now.declared c.args.n.now.statement c.in_ok-used.ensures.clean

pub returns-in_err-used : goal.returns-in_err-used
returns-in_err-used g c =
    let p = err_from_is_err_and c.from_residual.result c.from_residual.ensures.1 in
    λ statements before after described split knows.
    rw (p.1, p.2) (refused_first (cards_of (λ x. (goal.UnitKind-dyn g x).card x.1) c.args.shelf.now) before c.args.n.now c.args.self.now.declared c.in_err-used.field-0.0 knows.names c.in_err-used.ensures.refused)

pub returns : goal.returns
returns g c =
    let cards : List Card = cards_of (λ x. (goal.UnitKind-dyn g x).card x.1) c.args.shelf.now in
    let grow = c.descriptions_grow.ensures in
    λ statements before after described split knows.
    taken cards statements before c.args.n.now after c.args.self.now c.describe.new.self (record c.describe.new.self { declared = c.declare.new.self }) c.in_ok-used.used
    described split (grow.scope statements cards before c.args.n.now after described split) (grow.declared statements cards before c.args.n.now after described split)
    (λ at. grow.whole statements cards before c.args.n.now after described split at)
    knows c.in_ok-used.ensures.clean c.in_ok-used.ensures.used c.in_ok-describe.ensures.declared c.in_ok-describe.ensures.described
    (ap (λ (d : Declared). record c.describe.new.self { declared = d }) c.in_ok-declare.ensures)
