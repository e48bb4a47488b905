use Rattle.std.proofs.Common.{◌≡◌, List, sym, subst, ◌∙◌}
use Rattle.std.proofs.lemmas.Result.{err_from_is_err_and}
use Rattle.ap_bits.specs.declared.card.Card.{Card}
use Rattle.ap_desc.specs.Clean.{FitsCards}
use Rattle.ap_desc.specs.DesignOf.{design_of}
use Rattle.ap_desc.specs.Least.{HoldsNowhere}
use Rattle.ap_desc.specs.Meaning.{MeetsPortFault}
use Rattle.ap_desc.specs.Sound.{IsSound}
use Rattle.ap_desc.specs.declared.design.Design.{Design}
use Rattle.ap_unit.specs.Shelves.{cards_of}
use Rattle.ap_check.specs.Resolved.{IsPortFault}
use Rattle.ap_check.proofs.Judged.{fits, lines_refused, meaningful, ports_refused, words_refused}
use Rattle.ap_check.proofs.resolving.resolve.Goals as goal

pub judged_words-requires : goal.judged_words-requires
judged_words-requires g c =
    let cards : List Card = cards_of (λ x. (goal.UnitKind-dyn g x).card x.1) c.args.shelf.now in
    subst IsSound (sym c.in_ok-design.ensures.design) (c.faultless_descriptions_are_sound.ensures.sound c.args.description.now cards c.rules.ensures c.in_ok-design.ensures.faultless)

pub judged_ports-requires : goal.judged_ports-requires
judged_ports-requires g c =
    let cards : List Card = cards_of (λ x. (goal.UnitKind-dyn g x).card x.1) c.args.shelf.now in
    subst IsSound (sym (c.in_ok-design-2.ensures.same ∙ c.in_ok-design.ensures.design)) (c.faultless_descriptions_are_sound.ensures.sound c.args.description.now cards c.rules.ensures c.in_ok-design.ensures.faultless)

pub returns-in_err-design-clause-refused : goal.returns-in_err-design-clause-refused
returns-in_err-design-clause-refused g c =
    let p = err_from_is_err_and c.from_residual.result c.from_residual.ensures.1 in
    rw (p.1, p.2) (lines_refused (cards_of (λ x. (goal.UnitKind-dyn g x).card x.1) c.args.shelf.now) c.args.description.now c.in_err-design.field-0.0 c.in_err-design.ensures.refused)

pub returns-in_err-design-2-clause-refused : goal.returns-in_err-design-2-clause-refused
returns-in_err-design-2-clause-refused g c =
    let p = err_from_is_err_and c.from_residual-in_err-design-2.result c.from_residual-in_err-design-2.ensures.1 in
    rw (p.1, p.2)
    (words_refused (cards_of (λ x. (goal.UnitKind-dyn g x).card x.1) c.args.shelf.now) c.args.description.now c.in_ok-design.design c.in_ok-design.ensures.design c.in_ok-design.ensures.faultless
    c.in_err-design-2.field-0.0 c.in_err-design-2.ensures.refused)

pub returns-in_err-design-3-clause-refused : goal.returns-in_err-design-3-clause-refused
returns-in_err-design-3-clause-refused g c =
    let p = err_from_is_err_and c.from_residual-in_err-design-3.result c.from_residual-in_err-design-3.ensures.1 in
    rw (p.1, p.2)
    (ports_refused (cards_of (λ x. (goal.UnitKind-dyn g x).card x.1) c.args.shelf.now) c.args.description.now c.in_ok-design.design c.in_ok-design.ensures.design c.in_ok-design.ensures.faultless c.in_ok-design-2.ensures.right
    c.in_err-design-3.field-0.0 (subst (λ (d : Design). IsPortFault d c.in_err-design-3.field-0.0) c.in_ok-design-2.ensures.same c.in_err-design-3.ensures.refused))

pub returns-clause-faultless : goal.returns-clause-faultless
returns-clause-faultless g c =
    let cards : List Card = cards_of (λ x. (goal.UnitKind-dyn g x).card x.1) c.args.shelf.now in
    let is : c.in_ok-design.design ≡ design_of c.args.description.now cards = c.in_ok-design.ensures.design in
    let no_port : HoldsNowhere (MeetsPortFault c.in_ok-design.design) = subst (λ (d : Design). HoldsNowhere (MeetsPortFault d)) c.in_ok-design-2.ensures.same c.in_ok-design-3.ensures.right in
    meaningful cards c.args.description.now c.in_ok-design.design is c.in_ok-design.ensures.faultless c.in_ok-design-2.ensures.right no_port

pub returns-clause-fits : goal.returns-clause-fits
returns-clause-fits g c =
    let cards : List Card = cards_of (λ x. (goal.UnitKind-dyn g x).card x.1) c.args.shelf.now in
    let is : c.in_ok-design.design ≡ design_of c.args.description.now cards = c.in_ok-design.ensures.design in
    let no_port : HoldsNowhere (MeetsPortFault c.in_ok-design.design) = subst (λ (d : Design). HoldsNowhere (MeetsPortFault d)) c.in_ok-design-2.ensures.same c.in_ok-design-3.ensures.right in
    let sound = c.faultless_descriptions_are_sound.ensures.sound c.args.description.now cards c.rules.ensures c.in_ok-design.ensures.faultless in
    let of_cards = c.faultless_descriptions_are_sound.ensures.of_cards c.args.description.now cards c.rules.ensures c.in_ok-design.ensures.faultless in
    subst (λ (d : Design). FitsCards d cards) (sym (c.in_ok-design-3.ensures.same ∙ c.in_ok-design-2.ensures.same))
    (fits cards c.args.description.now c.in_ok-design.design is c.in_ok-design.ensures.faultless c.in_ok-design-2.ensures.right no_port sound of_cards)
