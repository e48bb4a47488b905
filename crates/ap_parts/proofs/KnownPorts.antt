-- The ports of a unit's module by what a top knows of it.
use Rattle.std.proofs.Common.{◌≡◌, ℕ, ◌+◌, ◌<◌, ◌≤◌, true, List, Some, refl, sym, ap, ◌∙◌, arith}
use Rattle.std.specs.Prelude.{nat_lt, if◌then◌else◌, slice_get}
use Rattle.std.proofs.lemmas.Bool.{lt-ltb}
use Rattle.ap_bits.specs.Cards.{FitsWidth, cycles_at, latency_at, select_width}
use Rattle.ap_bits.specs.declared.card.Card.{Card}
use Rattle.ap_bits.specs.declared.card.Latency.{Latency}
use Rattle.ap_bits.specs.declared.card.Latency.TheVariants.{One, WidthPlusOne}
use Rattle.ap_desc.specs.Clean.{FitsCards}
use Rattle.ap_desc.specs.Shelf.{IsOfCard}
use Rattle.ap_desc.specs.declared.design.Design.{Design}
use Rattle.ap_desc.specs.declared.design.Unit.{Unit as Resource}
use Rattle.ap_net.proofs.Lists.{All-at}
use Rattle.ap_unit.specs.Units.{ports_by, unit_ports}
use Rattle.ap_parts.specs.Known.{Knows, known_ports, latency_by}
use Rattle.ap_parts.proofs.KindNames.{width_fits}
use Rattle.ap_parts.proofs.Lists.{some_and}

pub slow_ports : (knows : Knows) (u : Resource) → 1 < u.latency → known_ports knows u ≡ ports_by WidthPlusOne (knows.selects u) u.width
slow_ports knows u slow = ap (λ b. ports_by (if b then WidthPlusOne else One) (knows.selects u) u.width) (lt-ltb 1 u.latency slow)

pub quick_ports : (knows : Knows) (u : Resource) → u.latency ≡ 1 → known_ports knows u ≡ ports_by One (knows.selects u) u.width
quick_ports knows u quick = ap (λ n. ports_by (latency_by n) (knows.selects u) u.width) quick

-- the latency of a card by the number of cycles
latency_is : (l : Latency) (w : ℕ) → 1 ≤ w → latency_by (cycles_at l w) ≡ l
latency_is One w some = refl
latency_is WidthPlusOne w some = let slow : nat_lt 1 (w + 1) ≡ true = lt-ltb 1 (w + 1) (omega arith) in rw slow refl

pub ports_known : (card : Card) (u : Resource) (select : ℕ) → FitsWidth card u.width → u.latency ≡ latency_at card u.width
    → select_width card ≡ select → unit_ports card u.width ≡ ports_by (latency_by u.latency) select u.width
ports_known card u select fits latency same =
    let some : 1 ≤ u.width = (width_fits card u.width fits).0 in
    let l : card.latency ≡ latency_by u.latency = sym (latency_is card.latency u.width some) ∙ ap latency_by (sym latency) in
    ap (λ (x : Latency). ports_by x (select_width card) u.width) l ∙ ap (λ s. ports_by (latency_by u.latency) s u.width) same

-- the card of a unit of cards that fit
pub card_at : (cards : List Card) (design : Design) → FitsCards design cards → (unit : ℕ) (u : Resource) → slice_get design.units unit ≡ Some u
    → (c : Card) × (slice_get cards u.kind ≡ Some c) × FitsWidth c u.width × (u.latency ≡ latency_at c u.width)
card_at cards design fits unit u at =
    let is_of = All-at (IsOfCard cards) design.units unit u fits.of_cards.units at in
    let h = some_and (λ (c : Card). FitsWidth c u.width × (u.latency ≡ latency_at c u.width)) (slice_get cards u.kind) is_of in
    (h.0, h.1, h.2.0, h.2.1)
