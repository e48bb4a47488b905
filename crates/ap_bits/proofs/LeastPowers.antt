-- The least power of two that is at least a number.
use Rattle.std.proofs.Common.{◌≡◌, ℕ, zero, suc, ◌+◌, ◌^◌, ◌<◌, ◌≤◌, subst, arith, inl, inr}
use Rattle.std.proofs.lemmas.Bool.{cases_lt, le-leb, lt-leb}
use Rattle.ap_bits.proofs.LowBits.{below_power, power_le}
use Rattle.ap_bits.specs.Cards.{IsLeastPower, least_power, select_width_for}

-- the same, counted from s on
record IsLeastFrom (s n r : ℕ) : Type 0 where
  low : s ≤ r
  room : n ≤ 2 ^ r
  least : (t : ℕ) → s ≤ t → n ≤ 2 ^ t → r ≤ t

later : (s n r : ℕ) → 2 ^ s < n → IsLeastFrom (s + 1) n r → IsLeastFrom s n r
later s n r small from_next = record {
  low = omega (arith, from_next.low);
  room = from_next.room;
  least = λ t after room. from_next.least t (elim (cases_lt s t) [ inl p ↦ omega arith | inr p ↦ absurd (omega (arith, power_le t s p)) ]) room;
}

found : (tries s n : ℕ) → n ≤ 2 ^ (s + tries) → IsLeastFrom s n (least_power tries s n)
found zero s n room =
    let same : s + 0 ≡ s = omega arith in
    record { low = omega arith; room = subst (λ k. n ≤ 2 ^ k) same room; least = λ t after fits. after }
found (suc tries) s n room =
    let same : s + suc tries ≡ s + 1 + tries = omega arith in
    elim (cases_lt (2 ^ s) n) [
      | inl small ↦ rw (lt-leb n (2 ^ s) small) (later s n (least_power tries (s + 1) n) small (found tries (s + 1) n (subst (λ k. n ≤ 2 ^ k) same room)))
      | inr large ↦ rw (le-leb n (2 ^ s) large) (record { low = omega arith; room = large; least = λ t after fits. after })
    ]

pub select_width_is_least : (n : ℕ) → IsLeastPower n (select_width_for n)
select_width_is_least n =
    let from_one = found n 1 n (omega (arith, below_power n, power_le n (1 + n) (omega arith))) in
    record { low = from_one.low; room = from_one.room; least = from_one.least }
