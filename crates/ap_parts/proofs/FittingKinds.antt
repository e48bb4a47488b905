-- The kinds and widths of units that fit cards.
use Rattle.std.proofs.Common.{◌≡◌, ℕ, List, [], ◌∷◌, Option, Some, None}
use Rattle.std.specs.Prelude.{IsSomeAnd, position, slice_get}
use Rattle.std.specs.List.{AllByRecursion as Each}
use Rattle.ap_bits.specs.Cards.{FitsWidth, latency_at}
use Rattle.ap_bits.specs.declared.card.Card.{Card}
use Rattle.ap_desc.specs.Shelf.{IsOfCard}
use Rattle.ap_desc.specs.declared.design.Unit.{Unit as Resource}
use Rattle.ap_net.proofs.Lists.{All-join}
use Rattle.ap_parts.specs.Known.{IsFirstKind}
use Rattle.ap_parts.specs.Parts.{FitsShelf, is_alike, kind_of, kinds_of, with_kind, with_kind_at}
use Rattle.ap_parts.specs.declared.modules.KindWidth.{KindWidth}

fits_shelf : (cards : List Card) (u : Resource) → IsOfCard cards u → FitsShelf cards (kind_of u)
fits_shelf cards u h = by (slice_get cards u.kind) h
  where
    by : (o : Option Card) → IsSomeAnd o (λ c. FitsWidth c u.width × (u.latency ≡ latency_at c u.width)) → IsSomeAnd o (λ c. FitsWidth c u.width)
    by None h = absurd h
    by (Some c) h = h.0

one_kind : (Fact : KindWidth → Type 0) (o : Option ℕ) (kinds : List KindWidth) (p : KindWidth) → Each Fact kinds → Fact p → Each Fact (with_kind_at o kinds p)
one_kind Fact None kinds p h is = All-join Fact kinds (p ∷ []) h (is, tt)
one_kind Fact (Some place) kinds p h is = h

-- what holds of the kind and width of each unit holds of all that are gathered
each_kind : (Fact : KindWidth → Type 0) (kinds : List KindWidth) (units : List Resource) → Each Fact kinds → Each (λ (u : Resource). Fact (kind_of u)) units
    → Each Fact (kinds_of kinds units)
each_kind Fact kinds [] h of = h
each_kind Fact kinds (u ∷ units) h of =
    let one = one_kind Fact (position (is_alike (kind_of u)) kinds) kinds (kind_of u) h of.0 in
    each_kind Fact (with_kind kinds (kind_of u)) units one of.1

all_fit : (cards : List Card) (units : List Resource) → Each (IsOfCard cards) units → Each (λ (u : Resource). FitsShelf cards (kind_of u)) units
all_fit cards [] of = tt
all_fit cards (u ∷ units) of = (fits_shelf cards u of.0, all_fit cards units of.1)

pub kinds_fit : (cards : List Card) (kinds : List KindWidth) (units : List Resource) → Each (FitsShelf cards) kinds → Each (IsOfCard cards) units
    → Each (FitsShelf cards) (kinds_of kinds units)
kinds_fit cards kinds units h of = each_kind (FitsShelf cards) kinds units h (all_fit cards units of)

-- the kind is the first of its name, and fits its width
abbrev pub IsFirstFit : List Card → KindWidth → Type 0
IsFirstFit cards p = IsFirstKind cards p.kind × FitsShelf cards p

all_first : (cards : List Card) (units : List Resource) → Each (λ (u : Resource). IsFirstKind cards u.kind) units → Each (IsOfCard cards) units
    → Each (λ (u : Resource). IsFirstFit cards (kind_of u)) units
all_first cards [] first of = tt
all_first cards (u ∷ units) first of = ((first.0, fits_shelf cards u of.0), all_first cards units first.1 of.1)

pub first_kinds_fit : (cards : List Card) (units : List Resource) → Each (λ (u : Resource). IsFirstKind cards u.kind) units → Each (IsOfCard cards) units
    → Each (IsFirstFit cards) (kinds_of [] units)
first_kinds_fit cards units first of = each_kind (IsFirstFit cards) [] units tt (all_first cards units first of)
