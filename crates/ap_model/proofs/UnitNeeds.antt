-- A flight needs its stage for another cycle exactly where one of its units is not done.
use Rattle.std.proofs.Common.{◌≡◌, ◌≢◌, ℕ, zero, suc, ◌+◌, ◌≤◌, ◌<◌, ◌==◌, ◌&&◌, ◌||◌, nat_lt, max, Bool, true, false, List, [], ◌∷◌, length, fold, filter_map, slice_get, Option, Some, None, option_map, refl, ap, sym, ◌∙◌, arith, eqb-true, ltb-true, ltb-false}
use Rattle.std.proofs.lemmas.Bool.{and_parts, lt-ltb, eqb-false}
use Rattle.std.specs.List.{AllByRecursion as Each, list_any, range_with_len, cons_option}
use Rattle.std.specs.Option.{option_map_or}
use Rattle.ap_desc.specs.declared.design.Design.{Design}
use Rattle.ap_desc.specs.declared.design.Instr.{Instr}
use Rattle.ap_desc.specs.declared.design.Micro.{Micro}
use Rattle.ap_desc.specs.declared.design.Act.{Act}
use Rattle.ap_desc.specs.declared.design.Act.TheVariants as act
use Rattle.ap_desc.specs.declared.design.Unit.{Unit as Resource}
use Rattle.ap_model.specs.declared.state.Flight.{Flight}
use Rattle.ap_model.specs.Fire.{instr_of, lines_in}
use Rattle.ap_model.specs.Stalls.{instr_need, line_latency, need}
use Rattle.ap_model.specs.UnitUse.{NeedsItsUnits, asks, is_busy_with, is_use_of, latency_of}
use Rattle.ap_desc.proofs.OnePort.{each_as, from_any}

fold_high : (x : ℕ) (xs : List ℕ) → x ≤ fold max x xs
fold_high x [] = omega arith
fold_high x (y ∷ ys) = let rest = fold_high (max x y) ys in grind (arith, rest)

use_latency : (design : Design) (unit : ℕ) (a : Act) → is_use_of unit a ≡ true → 1 < latency_of design unit → line_latency design a ≡ Some (latency_of design unit)
use_latency design unit (act.Compute other op x y) used slow = ap (λ k. option_map (λ (u : Resource). u.latency) (slice_get design.units k)) (eqb-true other unit used) ∙ go (slice_get design.units unit) slow
  where
    go : (o : Option Resource) → 1 < option_map_or (λ (u : Resource). u.latency) o 0 → option_map (λ (u : Resource). u.latency) o ≡ Some (option_map_or (λ (u : Resource). u.latency) o 0)
    go None h = let none : ⊥ = omega (arith, h) in absurd none
    go (Some u) h = refl
use_latency design unit _ used slow = cc

used_high : (design : Design) (unit : ℕ) → 1 < latency_of design unit → (micros : List Micro) (x : ℕ) → list_any (λ (m : Micro). is_use_of unit m.act) micros ≡ true
    → latency_of design unit ≤ fold max x (filter_map (λ (m : Micro). line_latency design m.act) micros)
used_high design unit slow [] x any = cc
used_high design unit slow (m ∷ micros) x any = go (is_use_of unit m.act) refl any (line_latency design m.act) refl (λ y rest. used_high design unit slow micros y rest)
  where
    go : (b : Bool) → is_use_of unit m.act ≡ b → (b || list_any (λ (m : Micro). is_use_of unit m.act) micros) ≡ true → (o : Option ℕ) → line_latency design m.act ≡ o
        → ((y : ℕ) → list_any (λ (m : Micro). is_use_of unit m.act) micros ≡ true → latency_of design unit ≤ fold max y (filter_map (λ (m : Micro). line_latency design m.act) micros))
        → latency_of design unit ≤ fold max x (cons_option o (filter_map (λ (m : Micro). line_latency design m.act) micros))
    go true p any None e rest = let never : None ≡ Some (latency_of design unit) = sym e ∙ use_latency design unit m.act p slow in absurd cc
    go true p any (Some l) e rest =
        let same : Some l ≡ Some (latency_of design unit) = sym e ∙ use_latency design unit m.act p slow in
        let is : l ≡ latency_of design unit = cc in
        let high = fold_high (max x l) (filter_map (λ (m : Micro). line_latency design m.act) micros) in
        grind (arith, is, high)
    go false p any None e rest = rest x any
    go false p any (Some l) e rest = rest (max x l) any

pub needs_latency : (design : Design) (stage word unit : ℕ) → asks design stage word unit ≡ true → latency_of design unit ≤ need design stage word
unfolding asks need
needs_latency design stage word unit asked = go (instr_of design word) asked
  where
    go : (o : Option Instr) → (nat_lt 1 (latency_of design unit) && option_map_or (λ (i : Instr). list_any (λ (m : Micro). is_use_of unit m.act) (lines_in stage i)) o false) ≡ true → latency_of design unit ≤ option_map_or (instr_need design stage) o 1
    go None h = let never : false ≡ true = (and_parts (nat_lt 1 (latency_of design unit)) false h).1 in absurd cc
    go (Some i) h =
        let both = and_parts (nat_lt 1 (latency_of design unit)) (list_any (λ (m : Micro). is_use_of unit m.act) (lines_in stage i)) h in
        used_high design unit (ltb-true 1 (latency_of design unit) both.0) (lines_in stage i) 1 both.1

same_bool : (a b : Bool) → (a ≡ true → b ≡ true) → (b ≡ true → a ≡ true) → a ≡ b
same_bool true b f g = sym (f refl)
same_bool false true f g = g refl
same_bool false false f g = refl

-- a number below a greatest one is below some of them
below_some : (G : Type 0) (x y : ℕ) (xs : List ℕ) → x < fold max y xs → (x < y → G) → Each (λ z. x < z → G) xs → G
below_some G x y [] h first each = first h
below_some G x y (z ∷ zs) h first each = below_some G x (max y z) zs h (λ low. go (nat_lt x y) refl low) each.1
  where
    go : (b : Bool) → nat_lt x y ≡ b → x < max y z → G
    go true e low = first (ltb-true x y e)
    go false e low = let no = ltb-false x y e in let second : x < z = grind (arith, no, low) in each.0 second

any_in_range : (t : ℕ → Bool) (k a n : ℕ) → a ≤ k → k < a + n → t k ≡ true → list_any t (range_with_len a n) ≡ true
any_in_range t k a zero low high e = let none : ⊥ = omega (arith, low, high) in absurd none
any_in_range t k a (suc n) low high e = go (k == a) refl (λ lower. any_in_range t k (a + 1) n lower (omega (arith, high)) e)
  where
    or_true : (b c : Bool) → c ≡ true → (b || c) ≡ true
    or_true true c h = refl
    or_true false c h = h

    go : (b : Bool) → (k == a) ≡ b → (a + 1 ≤ k → list_any t (range_with_len (a + 1) n) ≡ true) → (t a || list_any t (range_with_len (a + 1) n)) ≡ true
    go true p rest = ap (λ b. b || list_any t (range_with_len (a + 1) n)) (ap t (sym (eqb-true k a p)) ∙ e)
    go false p rest = let apart : k ≢ a = eqb-false k a p in or_true (t a) (list_any t (range_with_len (a + 1) n)) (rest (grind (arith, apart, low)))

each_latency : (P : ℕ → Type 0) (f : Micro → Option ℕ) (micros : List Micro) → Each (λ (m : Micro). (l : ℕ) → f m ≡ Some l → P l) micros → Each P (filter_map f micros)
each_latency P f [] e = tt
each_latency P f (m ∷ micros) e = go (f m) refl (each_latency P f micros e.1)
  where
    go : (o : Option ℕ) → f m ≡ o → Each P (filter_map f micros) → Each P (cons_option o (filter_map f micros))
    go None p rest = rest
    go (Some l) p rest = (e.0 l p, rest)

get_some : {X : Type 0} (xs : List X) (i : ℕ) (x : X) → slice_get xs i ≡ Some x → i < length xs
get_some [] i x e = cc
get_some (y ∷ ys) zero x e = omega arith
get_some (y ∷ ys) (suc i) x e = let rest = get_some ys i x e in omega (arith, rest)

is_same : (n : ℕ) → (n == n) ≡ true
is_same n = grind arith

-- the unit of a line that has a latency
by_line : (design : Design) (G : Type 0) (a : Act) (l : ℕ) → line_latency design a ≡ Some l → ((u : ℕ) → is_use_of u a ≡ true → u < length design.units → latency_of design u ≡ l → G) → G
by_line design G (act.Compute u op a b) l e f = go (slice_get design.units u) refl e
  where
    go : (o : Option Resource) → slice_get design.units u ≡ o → option_map (λ (u : Resource). u.latency) o ≡ Some l → G
    go None p q = cc
    go (Some r) p q = let is : r.latency ≡ l = cc in f u (is_same u) (get_some design.units u r p) (ap (λ o. option_map_or (λ (u : Resource). u.latency) o 0) p ∙ is)
by_line design G _ l e f = cc

asks_by : (design : Design) (stage word unit : ℕ) (instr : Instr) → instr_of design word ≡ Some instr → nat_lt 1 (latency_of design unit) ≡ true → list_any (λ (m : Micro). is_use_of unit m.act) (lines_in stage instr) ≡ true → asks design stage word unit ≡ true
unfolding asks
asks_by design stage word unit instr at slow used =
    ap (λ o. nat_lt 1 (latency_of design unit) && option_map_or (λ (i : Instr). list_any (λ (m : Micro). is_use_of unit m.act) (lines_in stage i)) o false) at ∙ (λ i. slow i && used i)

or_later : (a b : Bool) → b ≡ true → (a || b) ≡ true
or_later true b e = refl
or_later false b e = e

uses_found : (micros : List Micro) → Each (λ (m : Micro). (u : ℕ) → is_use_of u m.act ≡ true → list_any (λ (e : Micro). is_use_of u e.act) micros ≡ true) micros
uses_found [] = tt
uses_found (m ∷ micros) = (
  λ u e. ap (λ b. b || list_any (λ (x : Micro). is_use_of u x.act) micros) e,
  each_as (λ (x : Micro). (u : ℕ) → is_use_of u x.act ≡ true → list_any (λ (e : Micro). is_use_of u e.act) micros ≡ true) (λ (x : Micro). (u : ℕ) → is_use_of u x.act ≡ true → list_any (λ (e : Micro). is_use_of u e.act) (m ∷ micros) ≡ true)
      (λ x f u e. or_later (is_use_of u m.act) (list_any (λ (e : Micro). is_use_of u e.act) micros) (f u e)) micros (uses_found micros),
)

module _ (design : Design) (stage : ℕ) (flight : Flight) where
  to_need : list_any (is_busy_with design stage flight) (range_with_len 0 (length design.units)) ≡ true → nat_lt (flight.waited + 1) (need design stage flight.word) ≡ true
  to_need any = from_any (is_busy_with design stage flight) (nat_lt (flight.waited + 1) (need design stage flight.word) ≡ true) (range_with_len 0 (length design.units)) any (all (range_with_len 0 (length design.units)))
    where
      all : (units : List ℕ) → Each (λ u. is_busy_with design stage flight u ≡ true → nat_lt (flight.waited + 1) (need design stage flight.word) ≡ true) units
      all [] = tt
      all (u ∷ units) = (
        (λ e.
            let parts = and_parts (asks design stage flight.word u) (nat_lt (flight.waited + 1) (latency_of design u)) e in
            let low = ltb-true (flight.waited + 1) (latency_of design u) parts.1 in
            let wanted = needs_latency design stage flight.word u parts.0 in
            lt-ltb (flight.waited + 1) (need design stage flight.word) (omega (arith, low, wanted))),
        all units,
      )

  from_need : nat_lt (flight.waited + 1) (need design stage flight.word) ≡ true → list_any (is_busy_with design stage flight) (range_with_len 0 (length design.units)) ≡ true
  unfolding need
  from_need e = go (instr_of design flight.word) refl (ltb-true (flight.waited + 1) (need design stage flight.word) e)
    where
      at_unit : (instr : Instr) → instr_of design flight.word ≡ Some instr → (l u : ℕ) → list_any (λ (m : Micro). is_use_of u m.act) (lines_in stage instr) ≡ true → u < length design.units → latency_of design u ≡ l → flight.waited + 1 < l
          → list_any (is_busy_with design stage flight) (range_with_len 0 (length design.units)) ≡ true
      at_unit instr at l u used within is low =
          let asked = asks_by design stage flight.word u instr at (lt-ltb 1 (latency_of design u) (omega (arith, is, low))) used in
          let late = lt-ltb (flight.waited + 1) (latency_of design u) (omega (arith, is, low)) in
          any_in_range (is_busy_with design stage flight) u 0 (length design.units) (omega arith) (omega (arith, within)) (λ i. asked i && late i)

      go : (o : Option Instr) → instr_of design flight.word ≡ o → flight.waited + 1 < option_map_or (instr_need design stage) o 1 → list_any (is_busy_with design stage flight) (range_with_len 0 (length design.units)) ≡ true
      go None at low = let none : ⊥ = omega (arith, low) in absurd none
      go (Some instr) at low =
          let G = list_any (is_busy_with design stage flight) (range_with_len 0 (length design.units)) ≡ true in
          below_some G (flight.waited + 1) 1 (filter_map (λ (m : Micro). line_latency design m.act) (lines_in stage instr)) low (λ h. let none : ⊥ = omega (arith, h) in absurd none)
          (each_latency (λ z. flight.waited + 1 < z → G) (λ (m : Micro). line_latency design m.act) (lines_in stage instr)
          (each_as (λ (m : Micro). (u : ℕ) → is_use_of u m.act ≡ true → list_any (λ (e : Micro). is_use_of u e.act) (lines_in stage instr) ≡ true) (λ (m : Micro). (l : ℕ) → line_latency design m.act ≡ Some l → flight.waited + 1 < l → G)
          (λ m itself l has h. by_line design G m.act l has (λ u uses within is. at_unit instr at l u (itself u uses) within is h)) (lines_in stage instr) (uses_found (lines_in stage instr))))

  pub need_by_units : nat_lt (flight.waited + 1) (need design stage flight.word) ≡ list_any (is_busy_with design stage flight) (range_with_len 0 (length design.units))
  need_by_units = same_bool _ _ from_need to_need

pub needs_its_units : (design : Design) → NeedsItsUnits design
needs_its_units design stage flight = need_by_units design stage flight
