-- A selection by halves takes the right entry, and asks few questions.
use Rattle.std.proofs.Common.{◌≡◌, ℕ, zero, suc, ◌+◌, ◌-◌, ◌*◌, ◌/◌, ◌^◌, ◌<◌, ◌≤◌, ◌⊎◌, ◌==◌, ◌&&◌, ◌||◌, nat_lt, max, Bool, true, false, if◌then◌else◌, inl, inr, refl, sym, subst, ap, ◌∙◌, arith}
use Rattle.std.specs.List.{list_any, range_with_len}
use Rattle.std.proofs.Math.Nat.{two-pow-succ}
use Rattle.std.proofs.lemmas.Bool.{both_ways, cases_eq, cases_lt, eq-eqb, lt-ltb, or_cases, or_left, or_right}
use Rattle.ap_merge.specs.Selects.{GoesOver, IsBalanced, IsOnlyOn, Selects, Span, depth, is_any_on, selected, span_of}
use Rattle.ap_merge.specs.declared.table.Select.{Select, Ask, Take}
use Rattle.ap_merge.proofs.SelectValues.{depth-ask, depth-take, selected-ask, selected-take, span-ask, span-take}

-- one of these numbers passes
any_in_range : (on : ℕ → Bool) (from n : ℕ) → list_any on (range_with_len from n) ≡ true → (k : ℕ) × (from ≤ k) × (k < from + n) × (on k ≡ true)
any_in_range on from zero e = absurd cc
any_in_range on from (suc n) e = elim (or_cases (on from) (list_any on (range_with_len (from + 1) n)) e) [
  | inl here ↦ (from, omega arith, omega arith, here)
  | inr later ↦ let (k, low, high, is_on) = any_in_range on (from + 1) n later in (k, omega arith, omega arith, is_on)
]

in_range_any : (on : ℕ → Bool) (from n k : ℕ) → from ≤ k → k < from + n → on k ≡ true → list_any on (range_with_len from n) ≡ true
in_range_any on from zero k low high is_on = absurd (omega arith)
in_range_any on from (suc n) k low high is_on = elim (cases_eq from k) [
  | inl same ↦ or_left (on from) (list_any on (range_with_len (from + 1) n)) (ap on same ∙ is_on)
  | inr other ↦ or_right (on from) (list_any on (range_with_len (from + 1) n)) (in_range_any on (from + 1) n k (omega arith) (omega arith) is_on)
]

pub selects_one : (from to : ℕ) → to - from ≡ 1 → Selects (Take from) from to
selects_one from to one on place only = let low = only.low in let high = only.high in selected-take on from ∙ omega arith

-- the one entry whose condition is 1 is in the first half where one of these is on, else in the second
pub in_first : (on : ℕ → Bool) (from middle to place : ℕ) → middle ≤ to → IsOnlyOn on from to place → is_any_on on from middle ≡ true → IsOnlyOn on from middle place
in_first on from middle to place high only some =
    let (k, above, below, is_on) = any_in_range on from (middle - from) some in
    let same : k ≡ place = only.alone k above (omega arith) is_on in
    record { low = only.low; high = omega arith; is_on = only.is_on; alone = λ other up under o. only.alone other up (omega arith) o }

pub in_second : (on : ℕ → Bool) (from middle to place : ℕ) → from ≤ middle → IsOnlyOn on from to place → is_any_on on from middle ≡ false → IsOnlyOn on middle to place
in_second on from middle to place low only none =
    let above : middle ≤ place = elim (cases_lt place middle) [
      | inl below ↦
          let from_here = only.low in
          absurd (both_ways (is_any_on on from middle) none (in_range_any on from (middle - from) place only.low (omega arith) only.is_on))
      | inr above ↦ above
    ] in
    record { low = above; high = only.high; is_on = only.is_on; alone = λ other up under o. only.alone other (omega arith) under o }

pub selects_halves : (one other : Select) (from middle to : ℕ) → from ≤ middle → middle ≤ to → Selects one from middle → Selects other middle to → Selects (Ask from middle one other) from to
selects_halves one other from middle to low high first second on place only = selected-ask on from middle one other ∙ go (is_any_on on from middle) refl
  where
    go : (b : Bool) → is_any_on on from middle ≡ b → (if b then selected on one else selected on other) ≡ place
    go true some = first on place (in_first on from middle to place high only some)
    go false none = second on place (in_second on from middle to place low only none)

pub balanced_one : (from count : ℕ) → IsBalanced (Take from) count
balanced_one from count d most = rw (depth-take from) (omega arith)

pub balanced_halves : (one other : Select) (from to : ℕ) → 2 ≤ to - from → IsBalanced one (from + (to - from) / 2 - from) → IsBalanced other (to - (from + (to - from) / 2)) → IsBalanced (Ask from (from + (to - from) / 2) one other) (to - from)
balanced_halves one other from to two first second zero most = absurd (omega arith)
balanced_halves one other from to two first second (suc d) most =
    let double : 2 ^ suc d ≡ 2 ^ d + 2 ^ d = two-pow-succ d in
    let left : depth one ≤ d = first d (omega arith) in
    let right : depth other ≤ d = second d (omega arith) in
    rw (depth-ask from (from + (to - from) / 2) one other) (omega arith)

pub over_one : (from to : ℕ) → to - from ≡ 1 → GoesOver (Take from) from to
over_one from to one = record { first = ap (λ (s : Span). s.first) (span-take from); past = ap (λ (s : Span). s.past) (span-take from) ∙ omega arith; joined = ap (λ (s : Span). s.joined) (span-take from) }

pub over_halves : (one other : Select) (from middle to : ℕ) → from < middle → middle < to → GoesOver one from middle → GoesOver other middle to → GoesOver (Ask from middle one other) from to
over_halves one other from middle to low high a b =
    let begins : ((span_of one).first == from) ≡ true = eq-eqb (span_of one).first from a.first in
    let ends : ((span_of one).past == middle) ≡ true = eq-eqb (span_of one).past middle a.past in
    let goes_on : ((span_of other).first == middle) ≡ true = eq-eqb (span_of other).first middle b.first in
    let some : nat_lt from middle ≡ true = lt-ltb from middle low in
    let more : nat_lt middle (span_of other).past ≡ true = lt-ltb middle (span_of other).past (subst (λ n. middle < n) (sym b.past) high) in
    record {
      first = ap (λ (s : Span). s.first) (span-ask from middle one other);
      past = ap (λ (s : Span). s.past) (span-ask from middle one other) ∙ b.past;
      joined = ap (λ (s : Span). s.joined) (span-ask from middle one other) ∙ rw (begins, ends, goes_on, some, more, a.joined, b.joined) refl;
    }
