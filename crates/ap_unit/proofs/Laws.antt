-- What those who write kinds need: a test that tells that a card keeps the rules of cards, which computes on a card that is
-- written out, and how show_result tells that a unit was built.
use Rattle.std.proofs.Common.{◌≡◌, ◌≢◌, ℕ, ◌&&◌, Bool, true, List, [], ◌∷◌, length, ap, subst, ◌∙◌}
use Rattle.std.specs.Prelude.{nat_le, not, IsTrue}
use Rattle.std.specs.List.{AllByRecursion as Each, list_all}
use Rattle.std.specs.Str.{bytes_eq}
use Rattle.std.proofs.lemmas.Bool.{and_parts, leb-true}
use Rattle.std.proofs.lemmas.Slice.Eq.{bytes_eq-Decides}
use Rattle.ap_bits.specs.declared.card.Card.{Card}
use Rattle.ap_bits.specs.Names.{is_name, IsName}
use Rattle.ap_net.specs.Names.{AreDistinct}
use Rattle.ap_bits.specs.declared.card.Latency.TheVariants.{One}
use Rattle.ap_bits.specs.Cards.{select_width, operation_names}
use Rattle.ap_net.specs.declared.cell.Wire.{Wire}
use Rattle.ap_net.specs.Draft.{Draft}
use Rattle.ap_unit.specs.declared.pieces.Inputs.{Inputs}
use Rattle.ap_unit.specs.Built.{IsUnitDraft}
use Rattle.ap_unit.specs.Pieces.{input_wires, HasValue}
use Rattle.ap_unit.specs.Cards.{IsKindCard}

-- whether no name stands twice
abbrev pub are_distinct : List (List ℕ) → Bool
are_distinct [] = true
are_distinct (name ∷ names) = list_all (λ other. not (bytes_eq other name)) names && are_distinct names

-- whether a card keeps the rules
abbrev pub is_kind_card : Card → Bool
is_kind_card card = is_name card.name && nat_le 1 (length card.ops) && nat_le (length card.ops) 64 && list_all is_name (operation_names card) && are_distinct (operation_names card)

differ : (a b : List ℕ) → not (bytes_eq a b) ≡ true → a ≢ b
differ a b h e = let same : bytes_eq a b ≡ true = (bytes_eq-Decides a b).1 e in cc

others : (name : List ℕ) (names : List (List ℕ)) → list_all (λ other. not (bytes_eq other name)) names ≡ true → Each (λ other. other ≢ name) names
others name [] h = tt
others name (other ∷ names) h =
    let both = and_parts (not (bytes_eq other name)) (list_all (λ other. not (bytes_eq other name)) names) h in
    (differ other name both.0, others name names both.1)

distinct : (names : List (List ℕ)) → are_distinct names ≡ true → AreDistinct names
distinct [] h = tt
distinct (name ∷ names) h =
    let both = and_parts (list_all (λ other. not (bytes_eq other name)) names) (are_distinct names) h in
    (others name names both.0, distinct names both.1)

all_names : (names : List (List ℕ)) → list_all is_name names ≡ true → Each IsName names
all_names [] h = tt
all_names (name ∷ names) h = let both = and_parts (is_name name) (list_all is_name names) h in (both.0, all_names names both.1)

pub IsKindCard-is_kind_card : (card : Card) → IsTrue (is_kind_card card) → IsKindCard card
IsKindCard-is_kind_card card h =
    let named = list_all is_name (operation_names card) in
    let front = is_name card.name && nat_le 1 (length card.ops) && nat_le (length card.ops) 64 in
    let one = and_parts (front && named) (are_distinct (operation_names card)) h in
    let two = and_parts front named one.0 in
    let three = and_parts (is_name card.name && nat_le 1 (length card.ops)) (nat_le (length card.ops) 64) two.0 in
    let four = and_parts (is_name card.name) (nat_le 1 (length card.ops)) three.0 in
    record {
      name = four.0;
      some = leb-true 1 (length card.ops) four.1;
      few = leb-true (length card.ops) 64 three.1;
      operations = all_names (operation_names card) two.1;
      distinct = distinct (operation_names card) one.1;
    }

pub ruleset kind_cards = (IsKindCard-is_kind_card)

-- A unit was built at the width of the declared inputs: where the net that is shown has the value of the card's operations, this is
-- what show_result's clause gives.
pub shown_unit : (card : Card) (s w : ℕ) (inputs : Inputs) (d new : Draft) (y : Wire) → inputs ≡ input_wires s w → card.latency ≡ One → s ≡ select_width card → HasValue d inputs y card
    → ((c : Card) → c.latency ≡ One → inputs.sel.width ≡ select_width c → HasValue d inputs y c → IsUnitDraft new c inputs.a.width) → IsUnitDraft new card w
shown_unit card s w inputs d new y is one select value shows =
    subst (IsUnitDraft new card) (ap (λ (i : Inputs). i.a.width) is) (shows card one (ap (λ (i : Inputs). i.sel.width) is ∙ select) value)
