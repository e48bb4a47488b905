-- Units that take several cycles, in a run.
use Rattle.std.specs.Prelude.{◌≡◌, ◌↔◌, ℕ, ◌-◌, ◌<◌, length}
use Rattle.ap_bits.specs.declared.card.Card.{Card}
use Rattle.ap_bits.specs.declared.card.Latency.TheVariants.{WidthPlusOne}
use Rattle.ap_bits.specs.Cards.{latency_at}
use Rattle.ap_net.specs.Alone.{RunsAlone}
use Rattle.ap_net.specs.Modules.{IsModule, ModuleText}
use Rattle.ap_unit.specs.Ages.{AreProper, age_at}
use Rattle.ap_unit.specs.Units.{IsUnit, busy_of, input_of}

-- Where the inputs before a cycle were proper, and a unit that has an age is still asked, the unit is busy exactly where it is asked and
-- isn't done, whatever its operands are in the cycle.
abbrev pub BusyGoesByGo : Type 0
BusyGoesByGo = (m : ModuleText) (card : Card) (w : ℕ) → card.latency ≡ WidthPlusOne → IsUnit m card w → IsModule m → 0 < length card.ops → (c : ℕ) (reads : ℕ → ℕ → ℕ) → RunsAlone m c reads
    → (j : ℕ) → j < c → AreProper (length card.ops) (latency_at card w) (λ i. input_of (reads i)) j → (0 < age_at (λ i. input_of (reads i)) j → (input_of (reads j)).go ≡ 1)
    → (busy_of (reads j) ≡ 1) ↔ (((input_of (reads j)).go ≡ 1) × (age_at (λ i. input_of (reads i)) j < latency_at card w - 1))
