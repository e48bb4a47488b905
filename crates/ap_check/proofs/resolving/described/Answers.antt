use Rattle.std.proofs.Common.{◌≡◌, ◌+◌, List, take, drop, sym, subst, arith}
use Rattle.std.proofs.lemmas.Result.{err_from_is_err_and}
use Rattle.std.specs.Prelude.{IfErr, IfOk}
use Rattle.ap_bits.specs.declared.card.Card.{Card}
use Rattle.ap_desc.specs.Descriptions.{IsDescription}
use Rattle.ap_desc.specs.DesignOf.{design_of}
use Rattle.ap_desc.specs.declared.description.Numbered.{Numbered}
use Rattle.ap_unit.specs.Shelves.{cards_of}
use Rattle.ap_check.specs.Known.{Knows}
use Rattle.ap_check.specs.Resolved.{IsResolvable, IsLineFault}
use Rattle.ap_check.proofs.FewFields.{has_few_fields}
use Rattle.ap_check.proofs.Finished.{all_known, end_design, end_faultless, end_refused, parts_at, stopped_refused}
use Rattle.ap_check.proofs.resolving.described.Goals as goal

pub loop-n-init : goal.loop-n-init
loop-n-init g c = c.new-environment.ensures (cards_of (λ x. (goal.UnitKind-dyn g x).card x.1) c.args.shelf.now) c.statements-n-items.result.now

pub take-requires-clause-word : goal.take-requires-clause-word
take-requires-clause-word g c = λ none. (c.loop-n.invariant.describes none).narrow

pub take-requires-clause-few : goal.take-requires-clause-few
take-requires-clause-few g c =
    let items : List Numbered = c.statements-n-items.result.now in
    let described : IsDescription items = subst IsDescription (sym c.statements-n-items.ensures) c.rules.ensures in
    let parts = parts_at items c.loop-n.n-index c.n-item.result (omega arith) c.n-item.is in
    has_few_fields items (take c.loop-n.n-index items) c.n-item.result (drop (c.loop-n.n-index + 1) items) described parts.1

pub returns-in_err-take-clause-refused : goal.returns-in_err-take-clause-refused
returns-in_err-take-clause-refused g c =
    let cards : List Card = cards_of (λ x. (goal.UnitKind-dyn g x).card x.1) c.args.shelf.now in
    let items : List Numbered = c.statements-n-items.result.now in
    let described : IsDescription items = subst IsDescription (sym c.statements-n-items.ensures) c.rules.ensures in
    let parts = parts_at items c.loop-n.n-index c.n-item.result (omega arith) c.n-item.is in
    let fault = c.in_err-take.ensures items (take c.loop-n.n-index items) (drop (c.loop-n.n-index + 1) items) described parts.1 c.loop-n.invariant in
    let p = err_from_is_err_and c.from_residual.result c.from_residual.ensures.1 in
    rw (p.1, p.2) (subst (λ (st : List Numbered). IsLineFault st cards c.in_err-take.field-0.0) c.statements-n-items.ensures
    (stopped_refused cards items (take c.loop-n.n-index items) c.n-item.result (drop (c.loop-n.n-index + 1) items) c.in_err-take.field-0.0 described parts.1 c.loop-n.invariant.clean fault))

pub loop-n-preserved : goal.loop-n-preserved
loop-n-preserved g c =
    let cards : List Card = cards_of (λ x. (goal.UnitKind-dyn g x).card x.1) c.args.shelf.now in
    let items : List Numbered = c.statements-n-items.result.now in
    let described : IsDescription items = subst IsDescription (sym c.statements-n-items.ensures) c.rules.ensures in
    let parts = parts_at items c.loop-n.n-index c.n-item.result (omega arith) c.n-item.is in
    subst (λ (b : List Numbered). Knows cards items b c.take.new.self) (sym parts.0)
    (c.in_ok-take.ensures items (take c.loop-n.n-index items) (drop (c.loop-n.n-index + 1) items) described parts.1 c.loop-n.invariant)

pub returns-clause-faultless : goal.returns-clause-faultless
returns-clause-faultless g c =
    let cards : List Card = cards_of (λ x. (goal.UnitKind-dyn g x).card x.1) c.args.shelf.now in
    let items : List Numbered = c.statements-n-items.result.now in
    let knows = all_known cards items c.loop-n.n-index c.loop-n.environment (omega arith) c.loop-n.invariant in
    subst (λ (st : List Numbered). IfOk c.finish.result (λ made. IsResolvable st cards)) c.statements-n-items.ensures (end_faultless cards items c.loop-n.environment knows c.finish.result c.finish.ensures.right)

pub returns-clause-design : goal.returns-clause-design
returns-clause-design g c =
    let cards : List Card = cards_of (λ x. (goal.UnitKind-dyn g x).card x.1) c.args.shelf.now in
    let items : List Numbered = c.statements-n-items.result.now in
    let knows = all_known cards items c.loop-n.n-index c.loop-n.environment (omega arith) c.loop-n.invariant in
    subst (λ (st : List Numbered). IfOk c.finish.result (λ made. made ≡ design_of st cards)) c.statements-n-items.ensures
    (end_design cards items c.loop-n.environment knows c.finish.result c.finish.ensures.right c.finish.ensures.design)

pub returns-clause-refused : goal.returns-clause-refused
returns-clause-refused g c =
    let cards : List Card = cards_of (λ x. (goal.UnitKind-dyn g x).card x.1) c.args.shelf.now in
    let items : List Numbered = c.statements-n-items.result.now in
    let knows = all_known cards items c.loop-n.n-index c.loop-n.environment (omega arith) c.loop-n.invariant in
    subst (λ (st : List Numbered). IfErr c.finish.result (IsLineFault st cards)) c.statements-n-items.ensures (end_refused cards items c.loop-n.environment knows c.finish.result c.finish.ensures.refused)
