use Rattle.std.proofs.Common.{◌≡◌, ℕ, List, Some, true, false, sym, ap, subst, ◌∙◌, arith, true≢false}
use Rattle.ap_bits.specs.declared.card.Card.{Card}
use Rattle.ap_desc.specs.NameFaults.{is_missing}
use Rattle.ap_desc.specs.Parts.{card_named, kind_names, place_of}
use Rattle.ap_desc.specs.Reserved.{is_among}
use Rattle.ap_unit.specs.Shelves.{cards_of}
use Rattle.ap_check.proofs.FirstFaults.{not_broken}
use Rattle.ap_check.proofs.NameLists.{kind_card, kind_from, no_kind_from}
use Rattle.ap_check.proofs.NewUnit.{unit_said_so}
use Rattle.ap_check.proofs.draft.Draft.unit_of.Goals as goal

pub returns-in-Some : goal.returns-in-Some
returns-in-Some g c =
    let cards : List Card = cards_of (λ x. (goal.UnitKind-dyn g x).card x.1) c.args.shelf.now in
    let kind : Card = (goal.UnitKind-dyn g c.kind.result.now).card c.kind.result.now.1 in
    let found : card_named cards c.as_str.result.now ≡ Some kind = kind_card c.as_str.result.now cards c.in-Some.place kind c.in-Some.ensures.place c.kind.ensures in
    let named : card_named cards c.args.kind.now ≡ Some kind = subst (λ (t : List ℕ). card_named cards t ≡ Some kind) c.as_str.ensures.same found in
    let place = kind_from c.as_str.result.now 0 cards c.in-Some.place (sym c.in-Some.ensures.place) in
    let first : c.in-Some.place ≡ place_of (kind_names cards) c.as_str.result.now = omega (arith, place.1) in
    let here : c.in-Some.place ≡ place_of (kind_names cards) c.args.kind.now = first ∙ ap (place_of (kind_names cards)) c.as_str.ensures.same in
    unit_said_so cards kind c.args.self.now c.in-Some.place c.args.name.now c.args.kind.now c.args.width c.unit.new.self c.unit.result named here c.unit.ensures

pub returns-in-None : goal.returns-in-None
returns-in-None g c =
    let cards : List Card = cards_of (λ x. (goal.UnitKind-dyn g x).card x.1) c.args.shelf.now in
    let gone : is_among c.as_str.result.now (kind_names cards) ≡ false = no_kind_from c.as_str.result.now 0 cards (sym c.in-None.ensures.place) in
    let named : is_among c.args.kind.now (kind_names cards) ≡ false = subst (λ (t : List ℕ). is_among t (kind_names cards) ≡ false) c.as_str.ensures.same gone in
    let there : is_missing c.args.kind.now (kind_names cards) ≡ false = c.requires in
    absurd (true≢false (sym (not_broken (is_among c.args.kind.now (kind_names cards)) named) ∙ there))
