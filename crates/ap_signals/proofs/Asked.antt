-- Between what is proper for the signals and what is proper for a unit.
use Rattle.std.proofs.Common.{◌≡◌, ℕ, suc, ◌+◌, ◌-◌, ◌≤◌, ◌==◌, ◌&&◌, ◌||◌, ◌⊎◌, inl, inr, not, Bool, true, false, if◌then◌else◌, refl, ap, ◌∙◌, arith}
use Rattle.ap_desc.specs.declared.design.Design.{Design}
use Rattle.ap_model.specs.UnitUse.{Ask, latency_of}
use Rattle.ap_net.specs.Runs.{bit}
use Rattle.ap_unit.specs.Ages.{age_at}
use Rattle.ap_cycle.specs.Circuit.{IsProper}
use Rattle.ap_cycle.specs.KeptStates.{is_asked}
use Rattle.ap_cycle.specs.Signals.{Signals}
use Rattle.ap_signals.specs.Asked.{AgesGo, ProperForUnits, asked_input}

is_one : (b : Bool) → bit b ≡ 1 → b ≡ true
is_one true e = refl
is_one false e = let never : ⊥ = omega (arith, e) in absurd never

open_one : (b : Bool) → bit (not b) ≡ 1 → b ≡ false
open_one true e = let never : ⊥ = omega (arith, e) in absurd never
open_one false e = refl

pub properly : (design : Design) (signals : ℕ → Signals) → ProperForUnits design signals
properly design signals stage unit count c low high of_stage has_age chosen proper j below =
    let inputs = λ (i : ℕ). asked_input design stage unit (signals i) in
    let is = proper j below stage unit low high of_stage in
    let age = has_age j below in
    record {
      chosen = λ go. chosen j below (is_one (is_asked design (signals j) stage unit) go);
      held = λ aged.
          let both = is.held (omega (arith, aged, age)) in
          record { go = ap bit both.0; sel = ap (λ (x : Ask). x.sel) both.1; a = ap (λ (x : Ask). x.a) both.1; b = ap (λ (x : Ask). x.b) both.1 };
      done = λ adv. by (is_asked design (signals j) stage unit) refl (open_one ((signals j).hold stage) adv) is age;
    }
  where
    by : (b : Bool) → is_asked design (signals j) stage unit ≡ b → (signals j).hold stage ≡ false → IsProper design stage unit (signals (j - 1)) (signals j) → (signals j).age unit ≡ age_at (λ i. asked_input design stage unit (signals i)) j
        → (bit (is_asked design (signals j) stage unit) ≡ 0) ⊎ (latency_of design unit - 1 ≤ age_at (λ i. asked_input design stage unit (signals i)) j)
    by true e free is age = let done = is.done free e in inr (omega (arith, done, age))
    by false e free is age = inl (ap bit e)

pub aging : (design : Design) (signals : ℕ → Signals) → AgesGo design signals
aging design signals stage unit j =
    let more : j + 1 ≡ suc j = omega arith in
    ap (age_at (λ i. asked_input design stage unit (signals i))) more ∙ go ((signals j).hold stage) (is_asked design (signals j) stage unit)
  where
    go : (h b : Bool) → (if bit (not h) == 1 || bit b == 0 then 0 else age_at (λ i. asked_input design stage unit (signals i)) j + 1) ≡ (if h && b then age_at (λ i. asked_input design stage unit (signals i)) j + 1 else 0)
    go true true = refl
    go true false = refl
    go false true = refl
    go false false = refl
