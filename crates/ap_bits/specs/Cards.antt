-- What a card says of its resource: its widths, its latency, its operations and their values, and the width of the input by
-- which an operation is chosen.
use Rattle.std.specs.Prelude.{ℕ, zero, suc, ◌+◌, ◌^◌, ◌==◌, ◌&&◌, ◌≤◌, nat_le, if◌then◌else◌, IsTrue, Bool, List, [], ◌∷◌, map, length, slice_get}
use Rattle.std.specs.List.{list_any}
use Rattle.std.specs.Option.{option_map_or}
use Rattle.ap_bits.specs.Terms.{term_value}
use Rattle.ap_bits.specs.declared.card.Card.{Card}
use Rattle.ap_bits.specs.declared.card.OpCard.{OpCard}
use Rattle.ap_bits.specs.declared.card.Widths.{Widths}
use Rattle.ap_bits.specs.declared.card.Widths.TheVariants.{Any, PowersOfTwo}
use Rattle.ap_bits.specs.declared.card.Latency.{Latency}
use Rattle.ap_bits.specs.declared.card.Latency.TheVariants.{One, WidthPlusOne}

-- whether a resource can have a width of w bits
abbrev pub allows : Widths → ℕ → Bool
allows Any w = nat_le 1 w && nat_le w 64
allows PowersOfTwo w = list_any (λ power. w == power) (1 ∷ 2 ∷ 4 ∷ 8 ∷ 16 ∷ 32 ∷ 64 ∷ [])

-- the width is one of the card's
abbrev pub FitsWidth : Card → ℕ → Type 0
FitsWidth card w = IsTrue (allows card.widths w)

-- how many cycles that is at w bits
abbrev pub cycles_at : Latency → ℕ → ℕ
cycles_at One w = 1
cycles_at WidthPlusOne w = w + 1

abbrev pub latency_at : Card → ℕ → ℕ
latency_at card w = cycles_at card.latency w

-- the names of a card's operations, in order
abbrev pub operation_names : Card → List (List ℕ)
operation_names card = map (λ (op : OpCard). op.name) card.ops

-- the value of the operation of this number at w bits; 0 where there is none
abbrev pub operation_value : Card → ℕ → ℕ → ℕ → ℕ → ℕ
operation_value card w op a b = option_map_or (λ (o : OpCard). term_value o.term w a b) (slice_get card.ops op) 0

-- the least of s, s + 1 and so on, of which tries further ones are looked at, whose power of two is at least n
abbrev pub least_power : ℕ → ℕ → ℕ → ℕ
least_power zero s n = s
least_power (suc tries) s n = if nat_le n (2 ^ s) then s else least_power tries (s + 1) n

-- the width of `sel` for so many operations: the least s of at least 1 with n ≤ 2^s, which is at most n
abbrev pub select_width_for : ℕ → ℕ
select_width_for n = least_power n 1 n

abbrev pub select_width : Card → ℕ
select_width card = select_width_for (length card.ops)

-- s is the least number of at least 1 with n ≤ 2^s
pub record IsLeastPower (n s : ℕ) : Type 0 where
  pub low : 1 ≤ s
  pub room : n ≤ 2 ^ s
  pub least : (t : ℕ) → 1 ≤ t → n ≤ 2 ^ t → s ≤ t
