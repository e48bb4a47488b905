-- The stage in which each port is used first, and lines that use one in another.
use Rattle.std.specs.Prelude.{◌≡◌, ℕ, ◌<◌, ◌==◌, ◌⊎◌, Bool, true, false, List, [], ◌∷◌, length, Option, Some, None, slice_index_or, if◌then◌else◌}
use Rattle.std.specs.Option.{option_map_or}
use Rattle.ap_desc.specs.Ports.{is_stray_transfer, micros_in}
use Rattle.ap_desc.specs.declared.design.Act.{Act}
use Rattle.ap_desc.specs.declared.design.Design.{Design}
use Rattle.ap_desc.specs.declared.design.Micro.{Micro}
use Rattle.ap_ports.specs.Numbers.{port_number}

-- the line uses the port of this number
abbrev pub uses_number : ℕ → Act → Bool
uses_number port a = option_map_or (λ n. n == port) (port_number a) false

-- the stage of the first of these lines that uses the port
abbrev pub first_stage : ℕ → List Micro → Option ℕ
first_stage port [] = None
first_stage port (m ∷ micros) = if uses_number port m.act then Some m.stage else first_stage port micros

-- the first of two, where it is there
abbrev pub either : Option ℕ → Option ℕ → Option ℕ
either None other = other
either (Some n) other = Some n

-- the stages that were noted, and those of the first uses in these lines for ports that had none
abbrev pub AreNoted : List (Option ℕ) → List (Option ℕ) → List Micro → Type 0
AreNoted old new micros =
    (length new ≡ length old)
    × ((port : ℕ) → port < length old → slice_index_or new port None ≡ either (slice_index_or old port None) (first_stage port micros))

-- each port has the stage of its first use in the design
abbrev pub AreFirstStages : Design → List (Option ℕ) → Type 0
AreFirstStages design stages =
    (length stages ≡ 153) × ((port : ℕ) → port < 153 → slice_index_or stages port None ≡ first_stage port (micros_in design))

-- the line uses a port in another stage than the first line that uses it, or is a transfer in a wrong one
abbrev pub IsAstray : Design → Micro → Type 0
IsAstray design m =
    (is_stray_transfer design m ≡ true)
    ⊎ ((port stage : ℕ) × (port_number m.act ≡ Some port) × (first_stage port (micros_in design) ≡ Some stage) × (stage ≡ m.stage → ⊥))
