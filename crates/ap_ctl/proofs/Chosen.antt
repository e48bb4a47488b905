-- Lists of nets that are chosen by what they stand beside, and what it means that one of them is 1.
use Rattle.std.proofs.Common.{◌≡◌, ℕ, ◌^◌, ◌<◌, Bool, true, false, List, [], ◌∷◌, length, map, Some, refl, sym, ap, ◌∙◌, flat_map}
use Rattle.std.specs.Prelude.{◌&&◌, ◌||◌, bit_and, filter, find, zip, if◌then◌else◌}
use Rattle.std.specs.List.{AllByRecursion as Each, list_any, range_with_len}
use Rattle.std.specs.Option.{option_map_or}
use Rattle.std.proofs.lemmas.List.Folds.{list_any-append}
use Rattle.std.proofs.lemmas.Bool.{eqb-true, false_from_ne_true}
use Rattle.ap_desc.specs.Designs.{Matches}
use Rattle.ap_desc.specs.Sound.{AreApart, ShareNoWord}
use Rattle.ap_desc.specs.declared.design.Design.{Design}
use Rattle.ap_desc.specs.declared.design.Instr.{Instr}
use Rattle.ap_model.specs.Fire.{instr_of, is_match}
use Rattle.ap_model.specs.Stalls.{has_memory_line}
use Rattle.ap_net.specs.declared.cell.Wire.{Wire}
use Rattle.ap_net.specs.Pending.{Among}
use Rattle.ap_net.specs.Readings.{Reading}
use Rattle.ap_ctl.specs.Building.{is_on}
use Rattle.ap_ctl.specs.Given.{has_memory_line_in, is_slow_unit, is_used_in, memory_nets, net_of, slow_units, unit_nets}
use Rattle.ap_ctl.specs.Lists.{EachPair}
use Rattle.ap_ctl.specs.Meaning.{Look, has_busy_unit}

-- one of the chosen nets is 1 exactly where the fact holds of one that is chosen
pub pairs_any : {X : Type 0} (p q : X → Bool) (r : Reading) (xs : List X) (ws : List Wire) → EachPair (λ x (w : Wire). is_on r w ≡ q x) xs ws
    → list_any (is_on r) (map net_of (filter (λ (z : X × Wire). p z.0) (zip xs ws))) ≡ list_any (λ x. p x && q x) xs
pairs_any p q r [] [] h = refl
pairs_any p q r [] (w ∷ ws) h = absurd h
pairs_any p q r (x ∷ xs) [] h = absurd h
pairs_any {X} p q r (x ∷ xs) (w ∷ ws) h = by (pairs_any p q r xs ws h.1) (p x) where
  by : (rest : list_any (is_on r) (map net_of (filter (λ (z : X × Wire). p z.0) (zip xs ws))) ≡ list_any (λ x. p x && q x) xs) (b : Bool) → list_any (is_on r) (map net_of (if b then (x, w) ∷ filter (λ (z : X × Wire). p z.0) (zip xs ws) else filter (λ (z : X × Wire). p z.0) (zip xs ws))) ≡ ((b && q x) || list_any (λ x. p x && q x) xs)
  by rest true = ap (λ b. b || list_any (is_on r) (map net_of (filter (λ (z : X × Wire). p z.0) (zip xs ws)))) h.0 ∙ ap (λ b. q x || b) rest
  by rest false = rest

-- what holds of each net holds of each that is chosen
pub chosen_each : {X : Type 0} (P : Wire → Type 0) (p : X × Wire → Bool) (xs : List X) (ws : List Wire) → Each P ws → Each P (map net_of (filter p (zip xs ws)))
chosen_each P p [] ws h = tt
chosen_each P p (x ∷ xs) [] h = tt
chosen_each {X} P p (x ∷ xs) (w ∷ ws) h = by (chosen_each P p xs ws h.1) (p (x, w)) where
  by : (rest : Each P (map net_of (filter p (zip xs ws)))) (b : Bool) → Each P (map net_of (if b then (x, w) ∷ filter p (zip xs ws) else filter p (zip xs ws)))
  by rest true = (h.0, rest)
  by rest false = rest

-- Units.

units_any : (design : Design) (stage : ℕ) (busy : ℕ → Bool) (units : List ℕ)
    → list_any (λ unit. is_used_in design stage unit && busy unit) (filter (is_slow_unit design) units) ≡ list_any (λ unit. is_slow_unit design unit && is_used_in design stage unit && busy unit) units
units_any design stage busy [] = refl
units_any design stage busy (u ∷ units) = by (units_any design stage busy units) (is_slow_unit design u) where
  by : (rest : list_any (λ unit. is_used_in design stage unit && busy unit) (filter (is_slow_unit design) units) ≡ list_any (λ unit. is_slow_unit design unit && is_used_in design stage unit && busy unit) units) (b : Bool) → list_any (λ unit. is_used_in design stage unit && busy unit) (if b then u ∷ filter (is_slow_unit design) units else filter (is_slow_unit design) units)
      ≡ ((b && is_used_in design stage u && busy u) || list_any (λ unit. is_slow_unit design unit && is_used_in design stage unit && busy unit) units)
  by rest true = ap (λ b. (is_used_in design stage u && busy u) || b) rest
  by rest false = rest

back : {X : Type 0} (r : Reading) (q : X → Bool) (xs : List X) (ws : List Wire) → EachPair (λ x (w : Wire). q x ≡ is_on r w) xs ws → EachPair (λ x (w : Wire). is_on r w ≡ q x) xs ws
back r q [] [] h = tt
back r q [] (w ∷ ws) h = absurd h
back r q (x ∷ xs) [] h = absurd h
back r q (x ∷ xs) (w ∷ ws) h = (sym h.0, back r q xs ws h.1)

pub units_busy : (design : Design) (stage : ℕ) (busy : List Wire) (r : Reading) (look : Look) → EachPair (λ unit (w : Wire). look.busy unit ≡ is_on r w) (slow_units design) busy
    → list_any (is_on r) (unit_nets design stage busy) ≡ has_busy_unit design look stage
units_busy design stage busy r look h =
    pairs_any (is_used_in design stage) look.busy r (slow_units design) busy (back r look.busy (slow_units design) busy h)
    ∙ units_any design stage look.busy (range_with_len 0 (length design.units))

-- Memories.

-- an instruction that the word doesn't match
none_match : (p : Instr → Bool) (bits word : ℕ) (one : Instr) (instrs : List Instr) → word < 2 ^ bits → Matches one word → Each (ShareNoWord bits one) instrs → list_any (λ i. p i && is_match word i) instrs ≡ false
none_match p bits word one [] lt m h = refl
none_match p bits word one (i ∷ instrs) lt m h =
    let apart : is_match word i ≡ false = false_from_ne_true (is_match word i) (λ e. h.0 word lt m (eqb-true (bit_and word i.fixed_mask) i.fixed_value e)) in
    ap (λ b. (p i && b) || list_any (λ i. p i && is_match word i) instrs) apart ∙ no_and (p i) (list_any (λ i. p i && is_match word i) instrs) (none_match p bits word one instrs lt m h.1)
  where
    no_and : (a b : Bool) → b ≡ false → ((a && false) || b) ≡ false
    no_and true b e = e
    no_and false b e = e

-- of instructions that share no word the first that a word matches is the only one
first_any : (p : Instr → Bool) (bits word : ℕ) (instrs : List Instr) → word < 2 ^ bits → AreApart bits instrs → list_any (λ i. p i && is_match word i) instrs ≡ option_map_or p (find (is_match word) instrs) false
first_any p bits word [] lt h = refl
first_any p bits word (i ∷ instrs) lt h = by (first_any p bits word instrs lt h.1) (is_match word i) refl where
  alone : (a : Bool) → ((a && true) || false) ≡ a
  alone true = refl
  alone false = refl

  none : (a b : Bool) → ((a && false) || b) ≡ b
  none true b = refl
  none false b = refl

  by : (rest : list_any (λ i. p i && is_match word i) instrs ≡ option_map_or p (find (is_match word) instrs) false) (b : Bool) → is_match word i ≡ b
      → ((p i && b) || list_any (λ i. p i && is_match word i) instrs) ≡ option_map_or p (if b then Some i else find (is_match word) instrs) false
  by rest true e = ap (λ b. (p i && true) || b) (none_match p bits word i instrs lt (eqb-true (bit_and word i.fixed_mask) i.fixed_value e) h.0) ∙ alone (p i)
  by rest false e = none (p i) (list_any (λ i. p i && is_match word i) instrs) ∙ rest

pub memory_line : (design : Design) (stage word : ℕ) → word < 2 ^ design.word → AreApart design.word design.instrs → list_any (λ i. has_memory_line_in stage i && is_match word i) design.instrs ≡ has_memory_line design stage word
unfolding has_memory_line instr_of
memory_line design stage word lt apart = first_any (has_memory_line_in stage) design.word word design.instrs lt apart

pub memory_waits : (design : Design) (stage word : ℕ) (conditions : List Wire) (r : Reading) → word < 2 ^ design.word → AreApart design.word design.instrs
    → EachPair (λ i (w : Wire). is_on r w ≡ is_match word i) design.instrs conditions → list_any (is_on r) (memory_nets design stage conditions) ≡ has_memory_line design stage word
memory_waits design stage word conditions r lt apart h =
    pairs_any (has_memory_line_in stage) (is_match word) r design.instrs conditions h ∙ memory_line design stage word lt apart

-- a test of all that the elements of a list have
pub any_flat : {X Y : Type 0} (p : Y → Bool) (f : X → List Y) (xs : List X) → list_any p (flat_map f xs) ≡ list_any (λ x. list_any p (f x)) xs
any_flat p f [] = refl
any_flat p f (x ∷ xs) = list_any-append p (f x) (flat_map f xs) ∙ ap (λ b. list_any p (f x) || b) (any_flat p f xs)

-- the numbers of chosen nets are among those of all
pub among_chosen : {X : Type 0} (from : List ℕ) (p : X × Wire → Bool) (xs : List X) (ws : List Wire) → Each (λ (w : Wire). Among from w.number) ws → Each (λ (w : Wire). Among from w.number) (map net_of (filter p (zip xs ws)))
among_chosen from p xs ws h = chosen_each (λ (w : Wire). Among from w.number) p xs ws h

-- to mark elements and to choose by the marks is to choose by the test
pub marked_same : {X : Type 0} (p : X → Bool) (xs : List X) (ws : List Wire) → map net_of (filter (λ (z : Bool × Wire). z.0) (zip (map p xs) ws)) ≡ map net_of (filter (λ (z : X × Wire). p z.0) (zip xs ws))
marked_same p [] ws = refl
marked_same p (x ∷ xs) [] = refl
marked_same {X} p (x ∷ xs) (w ∷ ws) = by (marked_same p xs ws) (p x) where
  by : (rest : map net_of (filter (λ (z : Bool × Wire). z.0) (zip (map p xs) ws)) ≡ map net_of (filter (λ (z : X × Wire). p z.0) (zip xs ws))) (b : Bool)
      → map net_of (if b then (b, w) ∷ filter (λ (z : Bool × Wire). z.0) (zip (map p xs) ws) else filter (λ (z : Bool × Wire). z.0) (zip (map p xs) ws))
      ≡ map net_of (if b then (x, w) ∷ filter (λ (z : X × Wire). p z.0) (zip xs ws) else filter (λ (z : X × Wire). p z.0) (zip xs ws))
  by rest true = ap (λ l. w ∷ l) rest
  by rest false = rest
