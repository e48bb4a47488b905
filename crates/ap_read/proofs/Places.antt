-- The few numbers of a place say what the statements before it say.
use Rattle.std.proofs.Common.{◌≡◌, ℕ, ◌+◌, ◌<◌, ◌≤◌, ◌&&◌, ◌||◌, List, [], ◌∷◌, ◌++◌, length, Bool, true, false, cond, refl, sym, ap, ◌∙◌, arith, length-append}
use Rattle.std.specs.Prelude.{◌==◌, nat_lt, nat_le, count_by}
use Rattle.std.specs.Bool.{if◌then◌else◌}
use Rattle.std.specs.List.{list_any}
use Rattle.std.proofs.lemmas.List.Folds.{list_any-append}
use Rattle.std.proofs.lemmas.List.Sums.{fold-append, sum_by_push}
use Rattle.std.proofs.lemmas.Bool.Decides.{nat_tests}
use Rattle.ap_desc.specs.declared.statement.Statement.{Statement}
use Rattle.ap_desc.specs.declared.statement.Statement.TheVariants as s
use Rattle.ap_desc.specs.Order.{section, section_count, is_header, is_instr, is_micro, is_late_for, is_misplaced, is_inside, is_out_of_order, is_one_too_many, inside_after, micros_after}
use Rattle.ap_read.specs.declared.place.Place.{Place}
use Rattle.ap_read.specs.Places.{IsPlaceAfter, is_late_at, is_past_limit, count_at, place_after}

or_false_left : (a b : Bool) → (a || b) ≡ false → a ≡ false
or_false_left true b h = cc
or_false_left false b h = refl

-- nothing comes before the first statement
pub none_before : IsPlaceAfter [] (record { begun = 0; count = 0; instructions = 0; inside = false; micros = 0 })
none_before = record {
  late = λ statement. none_late (is_header statement) (section statement);
  latest = λ number e. refl;
  later = λ number h. refl;
  instructions = refl;
  inside = refl;
  micros = refl;
  few_count = omega arith;
  few_instructions = omega arith;
  few_micros = omega arith;
}
  where
    none_late : (h : Bool) (a : ℕ) → false ≡ (if h then nat_lt a 0 else nat_lt (a + 1) 0)
    none_late true a = grind (arith, nat_tests)
    none_late false a = grind (arith, nat_tests)

bound_plain : (h : Bool) (b begun : ℕ) → (if h then nat_lt b begun else nat_lt (b + 1) begun) ≡ false → begun ≤ b + 1
bound_plain true b begun e = grind (arith, nat_tests)
bound_plain false b begun e = grind (arith, nat_tests)

-- where the statement isn't late, at most its own section was begun
bound : (begun : ℕ) (statement : Statement) → is_late_at begun statement ≡ false → begun ≤ section statement + 1
bound begun statement e = bound_plain (is_header statement) (section statement) begun e

late_new : (h : Bool) (a b begun : ℕ) → begun ≤ b → ((if h then nat_lt a begun else nat_lt (a + 1) begun) || (if h then nat_le a b else nat_lt a b)) ≡ (if h then nat_lt a (b + 1) else nat_lt (a + 1) (b + 1))
late_new true a b begun le = grind (arith, nat_tests)
late_new false a b begun le = grind (arith, nat_tests)

late_same : (h : Bool) (a b begun : ℕ) → begun ≡ b + 1 → ((if h then nat_lt a begun else nat_lt (a + 1) begun) || (if h then nat_le a b else nat_lt a b)) ≡ (if h then nat_lt a begun else nat_lt (a + 1) begun)
late_same true a b begun le = grind (arith, nat_tests)
late_same false a b begun le = grind (arith, nat_tests)

any_push : (p : Statement → Bool) (xs : List Statement) (y : Statement) → list_any p (xs ++ y ∷ []) ≡ (list_any p xs || p y)
any_push p xs y = list_any-append p xs (y ∷ []) ∙ ap (λ b. list_any p xs || b) (or_nothing (p y))
  where
    or_nothing : (b : Bool) → (b || false) ≡ b
    or_nothing true = refl
    or_nothing false = refl

count_push : (p : Statement → Bool) (xs : List Statement) (y : Statement) → count_by p (xs ++ y ∷ []) ≡ count_by p xs + cond (p y) 1 0
count_push p xs y = sum_by_push (λ x. cond (p x) 1 0) xs y

-- what is counted of a list with one more
one_more : (p : Statement → Bool) (xs : List Statement) (y : Statement) (n : ℕ) → p y ≡ true → count_by p xs ≡ n → count_by p (xs ++ y ∷ []) ≡ n + 1
one_more p xs y n is e = count_push p xs y ∙ ap (λ b. count_by p xs + cond b 1 0) is ∙ ap (λ m. m + 1) e

no_more : (p : Statement → Bool) (xs : List Statement) (y : Statement) (n : ℕ) → p y ≡ false → count_by p xs ≡ n → count_by p (xs ++ y ∷ []) ≡ n
no_more p xs y n isnt e = count_push p xs y ∙ ap (λ b. count_by p xs + cond b 1 0) isnt ∙ plus_none (count_by p xs) n e
  where
    plus_none : (a n : ℕ) → a ≡ n → a + 0 ≡ n
    plus_none a n e = omega arith

counted : (test : Bool) (a n : ℕ) → a ≡ n → a + cond test 1 0 ≡ (if test then n + 1 else n)
counted true a n e = omega arith
counted false a n e = omega arith

same_number : (a b : ℕ) → a ≡ b → (a == b) ≡ true
same_number a b e = grind (arith, nat_tests)

other_number : (a b : ℕ) → a < b → (a == b) ≡ false
other_number a b lt = grind (arith, nat_tests)

few : (test : Bool) (a b n : ℕ) → a ≤ n → b ≤ n → (if test then a + 1 else b) ≤ n + 1
few true a b n h g = omega arith
few false a b n h g = omega arith

few_one : (test : Bool) (a n : ℕ) → a ≤ n → (if test then 1 else a + 1) ≤ n + 1
few_one true a n h = omega arith
few_one false a n h = omega arith

few_micro : (one two : Bool) (a n : ℕ) → a ≤ n → (if one then 0 else if two then a + 1 else a) ≤ n + 1
few_micro true two a n h = omega arith
few_micro false true a n h = omega arith
few_micro false false a n h = omega arith

-- the parts that depend on whether the statement begins a section
record Sections (earlier : List Statement) (begun count : ℕ) : Type 0 where
  pub late : (statement : Statement) → list_any (is_late_for statement) earlier ≡ is_late_at begun statement
  pub latest : (number : ℕ) → begun ≡ number + 1 → count_by (λ other. section other == number) earlier ≡ count
  pub later : (number : ℕ) → begun ≤ number → count_by (λ other. section other == number) earlier ≡ 0

sections_after : (earlier : List Statement) (begun count : ℕ) (t : Statement) (is_new : Bool) → nat_le begun (section t) ≡ is_new → begun ≤ section t + 1 → Sections earlier begun count
    → Sections (earlier ++ t ∷ []) (if is_new then section t + 1 else begun) (if is_new then 1 else count + 1)
sections_after earlier begun count t true test le h =
    let new : begun ≤ section t = grind (arith, nat_tests) in
    record {
      late = λ statement. any_push (is_late_for statement) earlier t ∙ ap (λ b. b || is_late_for statement t) (h.late statement) ∙ late_new (is_header statement) (section statement) (section t) begun new;
      latest = λ number e. let same : section t ≡ number = omega arith in one_more (λ other. section other == number) earlier t 0 (same_number (section t) number same) (h.later number (omega arith));
      later = λ number e. no_more (λ other. section other == number) earlier t 0 (other_number (section t) number (omega arith)) (h.later number (omega arith));
    }
sections_after earlier begun count t false test le h =
    let same : begun ≡ section t + 1 = grind (arith, nat_tests) in
    record {
      late = λ statement. any_push (is_late_for statement) earlier t ∙ ap (λ b. b || is_late_for statement t) (h.late statement) ∙ late_same (is_header statement) (section statement) (section t) begun same;
      latest = λ number e. let here : section t ≡ number = omega arith in one_more (λ other. section other == number) earlier t count (same_number (section t) number here) (h.latest number e);
      later = λ number e. no_more (λ other. section other == number) earlier t 0 (other_number (section t) number (omega arith)) (h.later number e);
    }

-- a statement that isn't out of order isn't late
not_late : (earlier : List Statement) (place : Place) (statement : Statement) → IsPlaceAfter earlier place → is_out_of_order earlier statement ≡ false → is_late_at place.begun statement ≡ false
not_late earlier place statement h e = sym (h.late statement) ∙ or_false_left (list_any (is_late_for statement) earlier) (is_misplaced (is_inside earlier) statement) e

-- one more statement that stands where it is due
pub after_one : (earlier : List Statement) (place : Place) (statement : Statement) → IsPlaceAfter earlier place → is_out_of_order earlier statement ≡ false → IsPlaceAfter (earlier ++ statement ∷ []) (place_after place statement)
after_one earlier place statement h e =
    let sections = sections_after earlier place.begun place.count statement (nat_le place.begun (section statement)) refl (bound place.begun statement (not_late earlier place statement h e)) (record { late = h.late; latest = h.latest; later = h.later }) in
    let longer : length (earlier ++ statement ∷ []) ≡ length earlier + 1 = length-append earlier (statement ∷ []) in
    record {
      late = sections.late;
      latest = sections.latest;
      later = sections.later;
      instructions = count_push is_instr earlier statement ∙ counted (is_instr statement) (count_by is_instr earlier) place.instructions h.instructions;
      inside = fold-append inside_after false earlier (statement ∷ []) ∙ ap (λ b. inside_after b statement) h.inside;
      micros = fold-append micros_after 0 earlier (statement ∷ []) ∙ ap (λ n. micros_after n statement) h.micros;
      few_count = rw longer (few_one (nat_le place.begun (section statement)) place.count (length earlier) h.few_count);
      few_instructions = rw longer (few (is_instr statement) place.instructions place.instructions (length earlier) h.few_instructions h.few_instructions);
      few_micros = rw longer (few_micro (is_instr statement) (is_micro statement) place.micros (length earlier) h.few_micros);
    }

-- the order of the statement is judged by the numbers
pub order_at : (earlier : List Statement) (place : Place) (statement : Statement) → IsPlaceAfter earlier place → is_out_of_order earlier statement ≡ (is_late_at place.begun statement || is_misplaced place.inside statement)
order_at earlier place statement h = ap (λ b. b || is_misplaced (is_inside earlier) statement) (h.late statement) ∙ ap (λ b. is_late_at place.begun statement || is_misplaced b statement) h.inside

count_before : (earlier : List Statement) (place : Place) (statement : Statement) (test : Bool) → nat_lt (section statement) place.begun ≡ test → IsPlaceAfter earlier place → is_late_at place.begun statement ≡ false → section_count earlier statement ≡ (if test then place.count else 0)
count_before earlier place statement true e h fine =
    let le = bound place.begun statement fine in
    h.latest (section statement) (grind (arith, nat_tests))
count_before earlier place statement false e h fine = h.later (section statement) (grind (arith, nat_tests))

counted_at : (earlier : List Statement) (place : Place) (statement : Statement) → IsPlaceAfter earlier place → is_late_at place.begun statement ≡ false → section_count earlier statement ≡ count_at place statement
counted_at earlier place statement h fine = count_before earlier place statement (nat_lt (section statement) place.begun) refl h fine

-- and so is its number
pub number_at : (earlier : List Statement) (place : Place) (statement : Statement) → IsPlaceAfter earlier place → is_late_at place.begun statement ≡ false → is_one_too_many earlier statement ≡ is_past_limit place statement
number_at earlier place (s.Reg name width reset) h fine = ap (λ n. n == 64) (counted_at earlier place (s.Reg name width reset) h fine)
number_at earlier place (s.File name width cells reads writes) h fine = ap (λ n. n == 8) (counted_at earlier place (s.File name width cells reads writes) h fine)
number_at earlier place (s.Mem name address width) h fine = ap (λ n. n == 4) (counted_at earlier place (s.Mem name address width) h fine)
number_at earlier place (s.In name width) h fine = ap (λ n. n == 8) (counted_at earlier place (s.In name width) h fine)
number_at earlier place (s.Unit name kind width) h fine = ap (λ n. n == 32) (counted_at earlier place (s.Unit name kind width) h fine)
number_at earlier place (s.Format name fields) h fine = ap (λ n. (n == 32) || nat_lt 16 (length fields)) (counted_at earlier place (s.Format name fields) h fine)
number_at earlier place (s.Instr name format fixed) h fine = ap (λ n. n == 256) h.instructions
number_at earlier place statement h fine = ap (λ n. is_micro statement && (n == 64)) h.micros

-- a statement that is neither late nor misplaced is in order
pub in_order : (earlier : List Statement) (place : Place) (statement : Statement) → IsPlaceAfter earlier place → is_late_at place.begun statement ≡ false → is_misplaced place.inside statement ≡ false → is_out_of_order earlier statement ≡ false
in_order earlier place statement h late misplaced = order_at earlier place statement h ∙ ap (λ b. b || is_misplaced place.inside statement) late ∙ misplaced
