use Rattle.std.proofs.Common.{◌≡◌, ℕ, List, [], Option, Some, None, sym, ap, subst, ◌∙◌}
use Rattle.std.specs.Option.{option_map_or}
use Rattle.std.specs.Prelude.{IfOk}
use Rattle.ap_bits.specs.Cards.{operation_names}
use Rattle.ap_bits.specs.declared.card.Card.{Card}
use Rattle.ap_desc.specs.Parts.{card_named}
use Rattle.ap_unit.specs.Shelves.{cards_of}
use Rattle.ap_check.proofs.NameLists.{kind_card, no_kind_from, none_named}
use Rattle.ap_check.proofs.uses.operations_named.Goals as goal

pub returns-in-Some : goal.returns-in-Some
returns-in-Some g c =
    let cards : List Card = cards_of (λ x. (goal.UnitKind-dyn g x).card x.1) c.args.shelf.now in
    let kind : Card = (goal.UnitKind-dyn g c.kind.result.now).card c.kind.result.now.1 in
    let found : card_named cards c.as_str.result.now ≡ Some kind = kind_card c.as_str.result.now cards c.in-Some.place kind c.in-Some.ensures.place c.kind.ensures in
    let named : card_named cards c.args.kind.now ≡ Some kind = subst (λ (t : List ℕ). card_named cards t ≡ Some kind) c.as_str.ensures.same found in
    let names : operation_names kind ≡ option_map_or operation_names (card_named cards c.args.kind.now) [] = sym (ap (λ (o : Option Card). option_map_or operation_names o []) named) in
    subst (λ (ns : List (List ℕ)). IfOk c.operations_of.result (λ made. made ≡ ns)) names c.operations_of.ensures

pub returns-in-None : goal.returns-in-None
returns-in-None g c =
    let cards : List Card = cards_of (λ x. (goal.UnitKind-dyn g x).card x.1) c.args.shelf.now in
    let gone : card_named cards c.as_str.result.now ≡ None = none_named (λ (k : Card). k.name) cards c.as_str.result.now (no_kind_from c.as_str.result.now 0 cards (sym c.in-None.ensures.place)) in
    let named : card_named cards c.args.kind.now ≡ None = subst (λ (t : List ℕ). card_named cards t ≡ None) c.as_str.ensures.same gone in
    let e = c.new.ensures in
    c.new.ensures ∙ sym (ap (λ (o : Option Card). option_map_or operation_names o []) named)
