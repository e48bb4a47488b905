-- The names of a stage's registers.
use Rattle.std.proofs.Common.{◌≡◌, ◌≢◌, ℕ, suc, ◌+◌, ◌%◌, ◌^◌, ◌<◌, ◌≤◌, true, false, List, [], ◌∷◌, ◌++◌, length, map, drop, refl, sym, ap, subst, ◌∙◌, arith}
use Rattle.std.specs.Prelude.{nat_le, ◌==◌}
use Rattle.std.proofs.lemmas.Bool.{eqb-false}
use Rattle.std.specs.Fmt.{decimal}
use Rattle.std.specs.List.{AllByRecursion as Each, list_all}
use Rattle.std.proofs.lemmas.Bool.Decides.{nat_tests}
use Rattle.std.proofs.lemmas.Fmt.{decimal_by_steps, decimal_digit, decimal_injective, length-decimal-le}
use Rattle.std.proofs.lemmas.List.Folds.{list_all-append}
use Rattle.ap_desc.specs.declared.design.Design.{Design}
use Rattle.ap_net.specs.Names.{AreDistinct, IsNetName, is_name_byte}
use Rattle.ap_net.proofs.Laws.{IsNotNumbered-other}
use Rattle.ap_signals.specs.NetRuns.{place_name, slot_name, word_name}
use Rattle.ap_flight.specs.Planned.{IsPlan, planned_name, slots_from, stage_plan}
use Rattle.ap_flight.proofs.SlotWidths.{IsFit}

digit_allowed : (d : ℕ) → d < 10 → is_name_byte (48 + d) ≡ true
digit_allowed d h = grind (arith, nat_tests)

decimal_allowed : (n : ℕ) → n < 2 ^ 64 → list_all is_name_byte (decimal n) ≡ true
decimal_allowed = decimal_by_steps (λ m ds. list_all is_name_byte ds ≡ true)
    (λ m l. rw (digit_allowed m l) refl)
    (λ m ds l h. list_all-append is_name_byte ds ((48 + m % 10) ∷ []) ∙ rw (h, digit_allowed (m % 10) (omega arith)) refl)

-- a name of one of these letters, _, and bytes of names
abbrev AreNames : List ℕ → Type 0
AreNames rest = IsNetName (120 ∷ 95 ∷ rest) × (IsNetName (97 ∷ 95 ∷ rest) × IsNetName (108 ∷ 95 ∷ rest))

are_names : (rest : List ℕ) → list_all is_name_byte rest ≡ true → length rest ≤ 70 → AreNames rest
are_names rest all le =
    let fits : nat_le (suc (suc (length rest))) 100 ≡ true = grind (arith, nat_tests) in
    (rw (all, fits) refl, (rw (all, fits) refl, rw (all, fits) refl))

digit_names : (stage : ℕ) → stage < 10 → AreNames (decimal stage)
digit_names stage lt =
    let all : list_all is_name_byte ((48 + stage) ∷ []) ≡ true = rw (digit_allowed stage lt) refl in
    subst AreNames (sym (decimal_digit stage lt)) (are_names ((48 + stage) ∷ []) all (omega arith))

-- the name of a slot, where the stage has one digit
slot_is : (stage slot : ℕ) → stage < 10 → slot_name stage slot ≡ 108 ∷ 95 ∷ (48 + stage) ∷ 95 ∷ decimal slot
slot_is stage slot lt = ap (λ ds. 108 ∷ 95 ∷ ((ds ++ 95 ∷ []) ++ decimal slot)) (decimal_digit stage lt)

slot_named : (stage slot : ℕ) → stage < 10 → slot < 2 ^ 64 → IsNetName (slot_name stage slot)
slot_named stage slot lt small =
    let all : list_all is_name_byte ((48 + stage) ∷ 95 ∷ decimal slot) ≡ true = rw (digit_allowed stage lt, decimal_allowed slot small) refl in
    let short : length (decimal slot) ≤ 20 = length-decimal-le 20 slot (omega arith) (omega arith) small in
    subst IsNetName (sym (slot_is stage slot lt)) (are_names ((48 + stage) ∷ 95 ∷ decimal slot) all (omega arith)).1.1

slot_apart : (stage one other : ℕ) → stage < 10 → one < 2 ^ 64 → other < 2 ^ 64 → one < other → slot_name stage other ≢ slot_name stage one
slot_apart stage one other lt a b less e =
    let same : decimal other ≡ decimal one = ap (drop 4) (sym (slot_is stage other lt) ∙ e ∙ slot_is stage one lt) in
    let equal : other ≡ one = decimal_injective other one b a same in
    absurd (omega arith)

-- names with other first letters differ
head_differs : (a b : ℕ) (xs ys : List ℕ) → (a == b) ≡ false → a ∷ xs ≡ b ∷ ys → ⊥
head_differs a b xs ys d e = let same : a ≡ b = cc in eqb-false a b d same

-- What a stage has planned.

slots_plan : (stage slot : ℕ) (widths : List ℕ) → stage < 10 → slot + length widths ≤ 64 → Each IsFit widths → Each IsPlan (slots_from stage slot widths)
slots_plan stage slot [] lt few h = tt
slots_plan stage slot (w ∷ widths) lt few h = (
  record { named = slot_named stage slot lt (omega arith); other = IsNotNumbered-other (slot_name stage slot) refl; low = h.0.low; high = h.0.high },
  slots_plan stage (slot + 1) widths lt (omega arith) h.1,
)

later_apart : (stage one slot : ℕ) (widths : List ℕ) → stage < 10 → one < slot → slot + length widths ≤ 64 → Each (λ name. name ≢ slot_name stage one) (map planned_name (slots_from stage slot widths))
later_apart stage one slot [] lt less few = tt
later_apart stage one slot (w ∷ widths) lt less few = (slot_apart stage one slot lt (omega arith) (omega arith) less, later_apart stage one (slot + 1) widths lt (omega arith) (omega arith))

slots_apart : (stage slot : ℕ) (widths : List ℕ) → stage < 10 → slot + length widths ≤ 64 → AreDistinct (map planned_name (slots_from stage slot widths))
slots_apart stage slot [] lt few = tt
slots_apart stage slot (w ∷ widths) lt few = (later_apart stage slot (slot + 1) widths lt (omega arith) (omega arith), slots_apart stage (slot + 1) widths lt (omega arith))

no_word : (stage slot : ℕ) (widths : List ℕ) → Each (λ name. name ≢ word_name stage) (map planned_name (slots_from stage slot widths))
no_word stage slot [] = tt
no_word stage slot (w ∷ widths) = (head_differs 108 120 _ _ refl, no_word stage (slot + 1) widths)

no_place : (stage slot : ℕ) (widths : List ℕ) → Each (λ name. name ≢ place_name stage) (map planned_name (slots_from stage slot widths))
no_place stage slot [] = tt
no_place stage slot (w ∷ widths) = (head_differs 108 97 _ _ refl, no_place stage (slot + 1) widths)

pub plan_apart : (design : Design) (stage : ℕ) (widths : List ℕ) → stage < 10 → length widths ≤ 64 → AreDistinct (map planned_name (stage_plan design stage widths))
plan_apart design stage widths lt few = ((head_differs 97 120 _ _ refl, no_word stage 0 widths), (no_place stage 0 widths, slots_apart stage 0 widths lt (omega arith)))

pub are_plans : (design : Design) (stage : ℕ) (widths : List ℕ) → stage < 10 → IsFit design.word → IsFit design.address → length widths ≤ 64 → Each IsFit widths → Each IsPlan (stage_plan design stage widths)
are_plans design stage widths lt word address few h = (
  record { named = (digit_names stage lt).0; other = IsNotNumbered-other (word_name stage) refl; low = word.low; high = word.high },
  (record { named = (digit_names stage lt).1.0; other = IsNotNumbered-other (place_name stage) refl; low = address.low; high = address.high }, slots_plan stage 0 widths lt (omega arith) h),
)
