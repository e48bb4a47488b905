-- What a unit of a card at a width is: a module that has the ports due, and that gives the values of the card's operations.
-- The rules are the project's own.
use Rattle.std.specs.Prelude.{◌≡◌, ℕ, ◌-◌, ◌<◌, ◌≤◌, ◌↔◌, List, [], ◌∷◌, length, codes, true, false}
use Rattle.ap_bits.specs.declared.card.Card.{Card}
use Rattle.ap_bits.specs.declared.card.Latency.{Latency}
use Rattle.ap_bits.specs.declared.card.Latency.TheVariants.{One, WidthPlusOne}
use Rattle.ap_bits.specs.Cards.{latency_at, select_width, operation_value}
use Rattle.ap_net.specs.declared.net.Port.{Port}
use Rattle.ap_net.specs.Wiring.{Settles, IsOrdered}
use Rattle.ap_net.specs.Modules.{ModuleText, nets_of}
use Rattle.ap_net.specs.Depends.{DependsOnNone}
use Rattle.ap_net.specs.Alone.{RunsAlone}
use Rattle.ap_unit.specs.Ages.{UnitInput, age_at, AreProper}

abbrev pub in_port : List ℕ → ℕ → Port
in_port name width = record { name = name; width = width; output = false }

abbrev pub out_port : List ℕ → ℕ → Port
out_port name width = record { name = name; width = width; output = true }

-- the ports after clk and rst, where sel has s bits
abbrev pub ports_by : Latency → ℕ → ℕ → List Port
ports_by One s w = in_port (codes "sel") s ∷ in_port (codes "a") w ∷ in_port (codes "b") w ∷ out_port (codes "y") w ∷ []
ports_by WidthPlusOne s w = in_port (codes "sel") s ∷ in_port (codes "a") w ∷ in_port (codes "b") w ∷ in_port (codes "go") 1 ∷ in_port (codes "adv") 1
    ∷ out_port (codes "busy") 1 ∷ out_port (codes "y") w ∷ []

abbrev pub unit_ports : Card → ℕ → List Port
unit_ports card w = ports_by card.latency (select_width card) w

-- Ports have the first numbers of a module's nets, in order: those of a unit that takes one cycle, and those of one that takes
-- several.
pub record QuickPorts : Type 0 where
  pub sel : ℕ
  pub a : ℕ
  pub b : ℕ
  pub y : ℕ

abbrev pub quick_port : QuickPorts
quick_port = record { sel = 0; a = 1; b = 2; y = 3 }

pub record SlowPorts : Type 0 where
  pub sel : ℕ
  pub a : ℕ
  pub b : ℕ
  pub go : ℕ
  pub adv : ℕ
  pub busy : ℕ
  pub y : ℕ

abbrev pub slow_port : SlowPorts
slow_port = record { sel = 0; a = 1; b = 2; go = 3; adv = 4; busy = 5; y = 6 }

-- With one cycle: whatever the registers hold, y is in every solution the value of the operation that sel chooses.
abbrev pub Computes : ModuleText → Card → ℕ → Type 0
Computes m card w = (read : ℕ → ℕ) → Settles (nets_of m) m.assigns read → read quick_port.sel < length card.ops
    → read quick_port.y ≡ operation_value card w (read quick_port.sel) (read quick_port.a) (read quick_port.b)

-- what a solution gives the unit
abbrev pub input_of : (ℕ → ℕ) → UnitInput
input_of read = record { sel = read slow_port.sel; a = read slow_port.a; b = read slow_port.b; go = read slow_port.go; adv = read slow_port.adv }

-- and what it shows: busy and y
abbrev pub busy_of : (ℕ → ℕ) → ℕ
busy_of read = read slow_port.busy

abbrev pub result_of : (ℕ → ℕ) → ℕ
result_of read = read slow_port.y

-- busy is 1 exactly where the unit is asked and isn't done; where it is asked and done, y is the value of the operation
pub record ShowsAge (card : Card) (w age : ℕ) (read : ℕ → ℕ) : Type 0 where
  pub busy : (busy_of read ≡ 1) ↔ (((input_of read).go ≡ 1) × (age < latency_at card w - 1))
  pub value : (input_of read).go ≡ 1 → latency_at card w - 1 ≤ age → result_of read ≡ operation_value card w (input_of read).sel (input_of read).a (input_of read).b

-- With several cycles: in every run over proper inputs the unit shows its age; busy depends on no input but go, and y doesn't
-- depend on adv.
pub record ComputesInCycles (m : ModuleText) (card : Card) (w : ℕ) : Type 0 where
  pub runs : (c : ℕ) (reads : ℕ → ℕ → ℕ) → RunsAlone m c reads → AreProper (length card.ops) (latency_at card w) (λ j. input_of (reads j)) c
      → (j : ℕ) → j < c → ShowsAge card w (age_at (λ i. input_of (reads i)) j) (reads j)
  pub busy : DependsOnNone m.assigns slow_port.busy (slow_port.sel ∷ slow_port.a ∷ slow_port.b ∷ slow_port.adv ∷ [])
  pub value : DependsOnNone m.assigns slow_port.y (slow_port.adv ∷ [])

abbrev pub Behaves : Latency → ModuleText → Card → ℕ → Type 0
Behaves One m card w = Computes m card w
Behaves WidthPlusOne m card w = ComputesInCycles m card w

-- The module is a unit of the card at w bits: it has the ports due and no instances, no net of it depends on itself, and it
-- behaves as the card says.
pub record IsUnit (m : ModuleText) (card : Card) (w : ℕ) : Type 0 where
  pub ports : m.ports ≡ unit_ports card w
  pub instances : m.instances ≡ []
  pub ordered : IsOrdered m.assigns
  pub behaves : Behaves card.latency m card w
