-- What a unit of several cycles is given, cycle by cycle, as the signals have it.
use Rattle.std.specs.Prelude.{◌≡◌, ℕ, ◌+◌, ◌-◌, ◌≤◌, ◌<◌, ◌&&◌, if◌then◌else◌, not, true}
use Rattle.ap_desc.specs.declared.design.Design.{Design}
use Rattle.ap_model.specs.UnitUse.{IsUnitOf, latency_of}
use Rattle.ap_net.specs.Runs.{bit}
use Rattle.ap_unit.specs.Ages.{AreProper, UnitInput, age_at}
use Rattle.ap_cycle.specs.Circuit.{ProperBefore}
use Rattle.ap_cycle.specs.KeptStates.{is_asked}
use Rattle.ap_cycle.specs.Signals.{Signals}

-- go is 1 where the word in the stage asks the unit, and adv where the stage isn't held
abbrev pub asked_input : Design → ℕ → ℕ → Signals → UnitInput
asked_input design stage unit signals = record {
  sel = (signals.ask unit).sel;
  a = (signals.ask unit).a;
  b = (signals.ask unit).b;
  go = bit (is_asked design signals stage unit);
  adv = bit (not (signals.hold stage));
}

-- the age that the signals have is the one that the unit's inputs give
abbrev pub HasAge : Design → ℕ → ℕ → (ℕ → Signals) → ℕ → Type 0
HasAge design stage unit signals c = (j : ℕ) → j < c → (signals j).age unit ≡ age_at (λ i. asked_input design stage unit (signals i)) j

-- in the first c cycles an asked unit is asked one of so many operations
abbrev pub AsksOneOf : Design → ℕ → ℕ → (ℕ → Signals) → ℕ → ℕ → Type 0
AsksOneOf design stage unit signals count c = (j : ℕ) → j < c → is_asked design (signals j) stage unit ≡ true → ((signals j).ask unit).sel < count

-- what is proper for the signals is proper for the unit of the stage
abbrev pub ProperForUnits : Design → (ℕ → Signals) → Type 0
ProperForUnits design signals = (stage unit count c : ℕ) → 1 ≤ stage → stage ≤ design.stages - 1 → IsUnitOf design stage unit → HasAge design stage unit signals c → AsksOneOf design stage unit signals count c
    → ProperBefore design signals c → AreProper count (latency_of design unit) (λ j. asked_input design stage unit (signals j)) c

-- the age goes on as the next state's equation says
abbrev pub AgesGo : Design → (ℕ → Signals) → Type 0
AgesGo design signals = (stage unit j : ℕ) → age_at (λ i. asked_input design stage unit (signals i)) (j + 1)
    ≡ (if (signals j).hold stage && is_asked design (signals j) stage unit then age_at (λ i. asked_input design stage unit (signals i)) j + 1 else 0)
