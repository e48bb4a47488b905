-- Whether a stage's word asks a unit, by conditions.
use Rattle.std.proofs.Common.{◌≡◌, ℕ, ◌+◌, ◌-◌, ◌^◌, ◌<◌, ◌≤◌, ◌&&◌, ◌||◌, Bool, true, false, List, [], ◌∷◌, Some, filter, map, refl, sym, ap, subst, ◌∙◌, arith, eqb-true}
use Rattle.std.specs.Prelude.{◌==◌, cond, find, if◌then◌else◌, zip}
use Rattle.std.specs.List.{AllByRecursion as Each, list_any}
use Rattle.std.specs.Option.{option_map_or}
use Rattle.std.proofs.lemmas.Bool.{false_from_ne_true, lt-ltb}
use Rattle.ap_desc.specs.Sound.{AreApart, ShareNoWord}
use Rattle.ap_desc.specs.declared.design.Design.{Design}
use Rattle.ap_desc.specs.declared.design.Instr.{Instr}
use Rattle.ap_desc.specs.declared.design.Micro.{Micro}
use Rattle.ap_model.specs.Fire.{instr_of, is_match}
use Rattle.ap_model.specs.UnitUse.{asks, is_use_of, latency_of}
use Rattle.ap_net.specs.declared.cell.Wire.{Wire}
use Rattle.ap_net.specs.Draft.{Draft}
use Rattle.ap_net.specs.Readings.{IsSettled, Reading}
use Rattle.ap_net.specs.Runs.{bit}
use Rattle.ap_ctl.specs.declared.nets.ControlGiven.{ControlGiven}
use Rattle.ap_ctl.specs.declared.nets.ControlNets.{ControlNets}
use Rattle.ap_ctl.specs.Building.{Tells, is_on}
use Rattle.ap_ctl.specs.Lists.{EachPair}
use Rattle.ap_ctl.specs.Meaning.{Look, Sees}
use Rattle.ap_ctl.specs.Nets.{Shows}
use Rattle.ap_ctl.proofs.Beside.{EachFrom-at}
use Rattle.ap_slow.specs.Asking.{IsStageOf, condition_of, is_user, user_conditions, uses_unit}

bit_says : (b : Bool) → (bit b == 1) ≡ b
bit_says true = refl
bit_says false = refl

-- lines of the stage that pass are lines that stand in the stage and pass
any_in_stage : (p q : Micro → Bool) (xs : List Micro) → list_any q (filter p xs) ≡ list_any (λ (m : Micro). p m && q m) xs
any_in_stage p q [] = refl
any_in_stage p q (x ∷ xs) = go (p x) (any_in_stage p q xs)
  where
    go : (b : Bool) → list_any q (filter p xs) ≡ list_any (λ (m : Micro). p m && q m) xs → list_any q (cond b (x ∷ filter p xs) (filter p xs)) ≡ ((b && q x) || list_any (λ (m : Micro). p m && q m) xs)
    go true rest = ap (λ (b : Bool). q x || b) rest
    go false rest = rest

module _ (word : ℕ) (f : Instr → Bool) where
  abbrev matched : Instr → Bool
  matched i = f i && is_match word i

  none_matched : (bits : ℕ) → word < 2 ^ bits → (one : Instr) → is_match word one ≡ true → (xs : List Instr) → Each (ShareNoWord bits one) xs → list_any matched xs ≡ false
  none_matched bits lt one m [] apart = refl
  none_matched bits lt one m (x ∷ xs) apart =
      let off : is_match word x ≡ false = false_from_ne_true (is_match word x) (λ n. apart.0 word lt (eqb-true _ _ m) (eqb-true _ _ n)) in
      (λ i. (f x && off i) || list_any matched xs) ∙ never (f x) (list_any matched xs) (none_matched bits lt one m xs apart.1)
    where
      never : (a b : Bool) → b ≡ false → ((a && false) || b) ≡ false
      never true b e = e
      never false b e = e

  -- what holds of the one instruction that the word matches
  of_match : (bits : ℕ) → word < 2 ^ bits → (xs : List Instr) → AreApart bits xs → option_map_or f (find (is_match word) xs) false ≡ list_any matched xs
  of_match bits lt [] apart = refl
  of_match bits lt (x ∷ xs) apart = go (is_match word x) refl (of_match bits lt xs apart.1)
    where
      here : (a b : Bool) → b ≡ false → a ≡ ((a && true) || b)
      here true b e = refl
      here false b e = sym e

      later : (a b : Bool) → b ≡ ((a && false) || b)
      later true b = refl
      later false b = refl

      go : (b : Bool) → is_match word x ≡ b → option_map_or f (find (is_match word) xs) false ≡ list_any matched xs → option_map_or f (if b then Some x else find (is_match word) xs) false ≡ ((f x && b) || list_any matched xs)
      go true e rest = here (f x) (list_any matched xs) (none_matched bits lt x e xs apart.0)
      go false e rest = rest ∙ later (f x) (list_any matched xs)

-- which of the conditions of users is 1
any_user : (d : Draft) (r : Reading) → IsSettled d r → (word : Wire) (stage unit : ℕ) (instrs : List Instr) (conditions : List Wire) → EachPair (λ (i : Instr). Tells d (λ s. is_match (s.read word.number) i)) instrs conditions
    → list_any (is_on r) (user_conditions stage unit instrs conditions) ≡ list_any (λ (i : Instr). uses_unit stage unit i && is_match (r.read word.number) i) instrs
any_user d r settled word stage unit [] [] h = refl
any_user d r settled word stage unit [] (w ∷ conditions) h = absurd h
any_user d r settled word stage unit (x ∷ instrs) [] h = absurd h
any_user d r settled word stage unit (x ∷ instrs) (w ∷ conditions) h = go (uses_unit stage unit x) (any_user d r settled word stage unit instrs conditions h.1)
  where
    says : is_on r w ≡ is_match (r.read word.number) x
    says = ap (λ n. n == 1) ((h.0).carries.means.holds r settled) ∙ bit_says (is_match (r.read word.number) x)

    go : (b : Bool) → list_any (is_on r) (user_conditions stage unit instrs conditions) ≡ list_any (λ (i : Instr). uses_unit stage unit i && is_match (r.read word.number) i) instrs
        → list_any (is_on r) (map condition_of (cond b ((x, w) ∷ filter (is_user stage unit) (zip instrs conditions)) (filter (is_user stage unit) (zip instrs conditions))))
        ≡ ((b && is_match (r.read word.number) x) || list_any (λ (i : Instr). uses_unit stage unit i && is_match (r.read word.number) i) instrs)
    go true later = λ i. says i || later i
    go false later = later

asks_is : (design : Design) → AreApart design.word design.instrs → (stage unit word : ℕ) → 1 < latency_of design unit → word < 2 ^ design.word
    → asks design stage word unit ≡ list_any (λ (i : Instr). uses_unit stage unit i && is_match word i) design.instrs
unfolding asks instr_of
asks_is design apart stage unit word slow lt =
    (λ k. lt-ltb 1 (latency_of design unit) slow k && option_map_or (λ (i : Instr). any_in_stage (λ (m : Micro). m.stage == stage) (λ (m : Micro). is_use_of unit m.act) i.micros k) (find (is_match word) design.instrs) false)
    ∙ of_match word (uses_unit stage unit) design.word lt design.instrs apart

pub asking_shown : (design : Design) → AreApart design.word design.instrs → (given : ControlGiven) (d : Draft) (nets : ControlNets) (stage unit : ℕ) (word valid w : Wire) (conditions : List Wire) → 1 < latency_of design unit
    → IsStageOf design given d nets stage word valid conditions → Tells d (λ r. is_on r valid && list_any (is_on r) (user_conditions stage unit design.instrs conditions)) w
    → Shows design given nets.valid d (λ look. look.valid stage && asks design stage (look.word stage) unit) w
asking_shown design apart given d nets stage unit word valid w conditions slow is tells = record {
  net = tells.carries.net;
  wide = tells.carries.wide;
  means = record { holds = shown };
}
  where
    low : 1 ≤ stage
    low = is.low

    number : 1 + (stage - 1) ≡ stage
    number = omega (arith, low)

    shown : (r : Reading) → IsSettled d r → (look : Look) → Sees design given nets.valid r look → r.read w.number ≡ bit (look.valid stage && asks design stage (look.word stage) unit)
    shown r settled look sees =
        let word_is : look.word stage ≡ r.read word.number = subst (λ n. look.word n ≡ r.read word.number) number (EachFrom-at (λ n (x : Wire). look.word n ≡ r.read x.number) 1 given.words sees.words (stage - 1) word is.word_at) in
        let valid_is : look.valid stage ≡ is_on r valid = subst (λ n. look.valid n ≡ is_on r valid) number (EachFrom-at (λ n (x : Wire). look.valid n ≡ is_on r x) 1 nets.valid sees.bits (stage - 1) valid is.valid_at) in
        let fits : r.read word.number < 2 ^ design.word = subst (λ n. r.read word.number < 2 ^ n) is.wide ((settled.own).fits word.number word.width is.net.declared) in
        let asked : list_any (is_on r) (user_conditions stage unit design.instrs conditions) ≡ asks design stage (look.word stage) unit =
        any_user d r settled word stage unit design.instrs conditions is.decoded ∙ sym (asks_is design apart stage unit (r.read word.number) slow fits) ∙ ap (λ n. asks design stage n unit) (sym word_is) in
        tells.carries.means.holds r settled ∙ (λ i. bit (sym valid_is i && asked i))
