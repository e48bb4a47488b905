-- Sets of nodes: two of them have one in common where the bits that both have aren't 0.
use Rattle.std.proofs.Common.{◌≡◌, ℕ, zero, suc, ◌*◌, ◌%◌, ◌^◌, ◌<◌, ◌≤◌, min, Bool, true, false, List, length, get_or, inl, inr, refl, sym, subst, ap, ◌∙◌, arith, pow_pos, eqb-true}
use Rattle.std.specs.Prelude.{◌⊎◌, ◌↔◌, ◌==◌, bit_and, bit_or, if◌then◌else◌, not}
use Rattle.std.specs.Int.{bit_at}
use Rattle.std.proofs.lemmas.Bool.{cases_eq, cases_lt, eqb-false, ne_eqb, not-true, not_from_false}
use Rattle.std.proofs.lemmas.List.{get_or_past}
use Rattle.std.proofs.lemmas.Nat.{pow_below}
use Rattle.std.proofs.lemmas.Nat.Bits.{bit_at-lt, bit_at-pow_other, bit_at-pow_same, bit_at-zero, bit_at_and, bit_at_or, same_from_bits_below}
use lib.Bits.{and_le_r, and_zero_l}
use Rattle.ap_ports.specs.Ways.{joined}

-- a bit is in both sets
pub both_have : (a b u : ℕ) → bit_at a u ≡ 1 → bit_at b u ≡ 1 → bit_at (bit_and a b) u ≡ 1
both_have a b u one two = bit_at_and a b u ∙ ap (λ n. min n (bit_at b u)) one ∙ ap (min 1) two

both_from : (m n : ℕ) → min m n ≡ 1 → m < 2 → n < 2 → (m ≡ 1) × (n ≡ 1)
both_from m n e low other = (omega arith, omega arith)

-- the first of some bits that is 1, or none
one_or_none : (a n : ℕ) → ((u : ℕ) × (bit_at a u ≡ 1)) ⊎ ((i : ℕ) → i < n → bit_at a i ≡ 0)
one_or_none a zero = inr (λ i low. absurd (omega arith))
one_or_none a (suc n) = step (one_or_none a n) where
  step : (((u : ℕ) × (bit_at a u ≡ 1)) ⊎ ((i : ℕ) → i < n → bit_at a i ≡ 0)) → ((u : ℕ) × (bit_at a u ≡ 1)) ⊎ ((i : ℕ) → i < suc n → bit_at a i ≡ 0)
  step (inl found) = inl found
  step (inr none) = here (cases_lt 0 (bit_at a n)) where
    here : ((0 < bit_at a n) ⊎ (bit_at a n ≤ 0)) → ((u : ℕ) × (bit_at a u ≡ 1)) ⊎ ((i : ℕ) → i < suc n → bit_at a i ≡ 0)
    here (inl some) = let low = bit_at-lt a n in inl (n, omega arith)
    here (inr no_bit) = inr (λ i low. elim (cases_lt i n) [ inl less ↦ none i less | inr up ↦ let same : i ≡ n = omega arith in subst (λ k. bit_at a k ≡ 0) (sym same) (omega arith) ])

-- a set and one of so many bits have a node in common where the bits that both have aren't 0
pub common : (w a b : ℕ) → b < 2 ^ w → (bit_and a b ≡ 0 → ⊥) → (u : ℕ) × (bit_at b u ≡ 1) × (bit_at a u ≡ 1)
common w a b fits some = elim (one_or_none (bit_and a b) w) [
  | inl found ↦
      let (u, at) = found in
      let parts = both_from (bit_at a u) (bit_at b u) (sym (bit_at_and a b u) ∙ at) (bit_at-lt a u) (bit_at-lt b u) in
      (u, parts.1, parts.0)
  | inr none ↦ absurd (some (same_from_bits_below w (bit_and a b) 0 (let low = and_le_r a b in omega arith) (pow_pos w) (λ i low. none i low ∙ sym (bit_at-zero i))))
]

pub in_common : (a b u : ℕ) → bit_at b u ≡ 1 → bit_at a u ≡ 1 → bit_and a b ≡ 0 → ⊥
in_common a b u two one e = let wrong : bit_at 0 u ≡ 1 = ap (λ n. bit_at n u) (sym e) ∙ both_have a b u one two in let none = bit_at-zero u in omega arith

-- a joined set has what one of them has
pub joined_has : (a b y : ℕ) → bit_at (bit_or a b) y ≡ 1 → (bit_at a y ≡ 1) ⊎ (bit_at b y ≡ 1)
joined_has a b y e =
    let either = bit_at_or a b y in
    let low = bit_at-lt a y in
    let other = bit_at-lt b y in
    elim (cases_lt 0 (bit_at a y)) [ inl some ↦ inl (omega arith) | inr no_bit ↦ inr (omega arith) ]

pub joined_left : (a b y : ℕ) → bit_at a y ≡ 1 → bit_at (bit_or a b) y ≡ 1
joined_left a b y e = let either = bit_at_or a b y in let other = bit_at-lt b y in omega arith

pub joined_right : (a b y : ℕ) → bit_at b y ≡ 1 → bit_at (bit_or a b) y ≡ 1
joined_right a b y e = let either = bit_at_or a b y in let low = bit_at-lt a y in omega arith

-- whether the bits that both have are 0
abbrev pub row_test : ℕ → ℕ → Bool
row_test row among = bit_and row among == 0

-- what a joined row has
pub joined_leads : (row behind sources y : ℕ) → sources < 2 ^ 128
    → (bit_at (joined sources behind row) y ≡ 1) ↔ ((bit_at row y ≡ 1) ⊎ ((u : ℕ) × (bit_at sources u ≡ 1) × (bit_at row u ≡ 1) × (bit_at behind y ≡ 1)))
joined_leads row behind sources y fits = go (bit_and row sources == 0) refl where
  go : (b : Bool) → (bit_and row sources == 0) ≡ b
      → (bit_at (if b then row else bit_or row behind) y ≡ 1) ↔ ((bit_at row y ≡ 1) ⊎ ((u : ℕ) × (bit_at sources u ≡ 1) × (bit_at row u ≡ 1) × (bit_at behind y ≡ 1)))
  go true e = (λ has. inl has, back) where
    back : ((bit_at row y ≡ 1) ⊎ ((u : ℕ) × (bit_at sources u ≡ 1) × (bit_at row u ≡ 1) × (bit_at behind y ≡ 1))) → bit_at row y ≡ 1
    back (inl has) = has
    back (inr (u, two, one, rest)) = absurd (in_common row sources u two one (eqb-true (bit_and row sources) 0 e))
  go false e = (there, back) where
    there : bit_at (bit_or row behind) y ≡ 1 → (bit_at row y ≡ 1) ⊎ ((u : ℕ) × (bit_at sources u ≡ 1) × (bit_at row u ≡ 1) × (bit_at behind y ≡ 1))
    there has = elim (joined_has row behind y has) [
      | inl own ↦ inl own
      | inr rest ↦ let (u, two, one) = common 128 row sources fits (eqb-false (bit_and row sources) 0 e) in inr (u, two, one, rest)
    ]

    back : ((bit_at row y ≡ 1) ⊎ ((u : ℕ) × (bit_at sources u ≡ 1) × (bit_at row u ≡ 1) × (bit_at behind y ≡ 1))) → bit_at (bit_or row behind) y ≡ 1
    back (inl has) = joined_left row behind y has
    back (inr (u, two, one, rest)) = joined_right row behind y rest

-- past its end a list of rows has none, joined or not
pub joined_all : (old new : List ℕ) (sources behind : ℕ) → length new ≡ length old → ((k : ℕ) → k < length old → get_or new k 0 ≡ joined sources behind (get_or old k 0))
    → (k : ℕ) → get_or new k 0 ≡ joined sources behind (get_or old k 0)
joined_all old new sources behind same each k = elim (cases_lt k (length old)) [
  | inl low ↦ each k low
  | inr past ↦
      let none : get_or new k 0 ≡ 0 = get_or_past new k 0 (omega arith) in
      let old_none : get_or old k 0 ≡ 0 = get_or_past old k 0 past in
      let apart : (bit_and 0 sources == 0) ≡ true = ap (λ n. n == 0) (and_zero_l sources) in
      none ∙ sym (ap (joined sources behind) old_none ∙ ap (λ b. if b then 0 else bit_or 0 behind) apart)
]

-- the test whether a row has one of a set
pub row_has : (row among : ℕ) → among < 2 ^ 128 → (not (row_test row among) ≡ true) ↔ ((u : ℕ) × (bit_at among u ≡ 1) × (bit_at row u ≡ 1))
row_has row among fits = (there, back) where
  there : not (row_test row among) ≡ true → (u : ℕ) × (bit_at among u ≡ 1) × (bit_at row u ≡ 1)
  there e = common 128 row among fits (eqb-false (bit_and row among) 0 (not-true (row_test row among) e))

  back : ((u : ℕ) × (bit_at among u ≡ 1) × (bit_at row u ≡ 1)) → not (row_test row among) ≡ true
  back (u, two, one) = not_from_false (row_test row among) (ne_eqb (bit_and row among) 0 (in_common row among u two one))

-- the set of one node
one_power : (k : ℕ) → 2 ^ k < 2 ^ 128 → 1 * 2 ^ k % 2 ^ 128 ≡ 2 ^ k
one_power k small = omega arith

only_there : (k n : ℕ) → bit_at (2 ^ k) n ≡ 1 → n ≡ k
only_there k n has = elim (cases_eq n k) [ inl same ↦ same | inr other ↦ (let none = bit_at-pow_other k n other in absurd (omega arith)) ]

pub only_one : (k : ℕ) → k < 68 → (n : ℕ) → (bit_at (1 * 2 ^ k % 2 ^ 128) n ≡ 1) ↔ (n ≡ k)
only_one k low n =
    let power : 1 * 2 ^ k % 2 ^ 128 ≡ 2 ^ k = one_power k (pow_below k 128 (omega arith)) in
    (λ has. only_there k n (ap (λ m. bit_at m n) (sym power) ∙ has), λ same. ap (λ m. bit_at m n) power ∙ ap (bit_at (2 ^ k)) same ∙ bit_at-pow_same k)
