-- A unit of several cycles, as who uses it knows it.
use Rattle.std.specs.Prelude.{◌≡◌, ℕ, ◌+◌, ◌-◌, ◌<◌, ◌==◌, nat_lt, if◌then◌else◌, List, [], ◌∷◌, length, slice_index, Some, Bool, true}
use Rattle.std.specs.List.{AllByRecursion as Each}
use Rattle.ap_bits.specs.declared.card.Card.{Card}
use Rattle.ap_bits.specs.declared.card.Latency.TheVariants.{WidthPlusOne}
use Rattle.ap_bits.specs.Cards.{latency_at}
use Rattle.ap_image.specs.declared.image.Image.{Image}
use Rattle.ap_image.specs.declared.trace.Trace.{Trace}
use Rattle.ap_net.specs.declared.cell.Wire.{Wire}
use Rattle.ap_net.specs.declared.net.ModuleNet.{ModuleNet}
use Rattle.ap_net.specs.Cells.{IsNet, AreOfOneWidth}
use Rattle.ap_net.specs.Wiring.{Settles}
use Rattle.ap_net.specs.Modules.{ModuleText, IsModule, IsInstanceIn, module_named, nets_of}
use Rattle.ap_net.specs.Draft.{Draft}
use Rattle.ap_net.specs.Readings.{Always}
use Rattle.ap_net.specs.Ready.{Dependence, ReadyAfter, numbers}
use Rattle.ap_net.specs.Flat.{base_of, opened_over}
use Rattle.ap_net.specs.Outside.{Outside}
use Rattle.ap_net.specs.Runs.{NetState, Runs}
use Rattle.ap_net.specs.Alone.{RunsAlone, IsPart}
use Rattle.ap_net.specs.Responding.{DependsAs}
use Rattle.ap_unit.specs.declared.slow.SlowInputs.{SlowInputs}
use Rattle.ap_unit.specs.declared.slow.SlowOutputs.{SlowOutputs}
use Rattle.ap_unit.specs.Ages.{UnitInput, IsHeld, age_at, AreProper}
use Rattle.ap_unit.specs.Units.{IsUnit, ShowsAge, input_of, busy_of, result_of, slow_port}

-- the nets at its inputs are declared, and wide as the ports are
pub record AreSlowInputs (nets : List ModuleNet) (i : SlowInputs) : Type 0 where
  pub sel : IsNet nets i.sel
  pub operands : AreOfOneWidth nets i.a i.b
  pub go : IsNet nets i.go
  pub go_bit : i.go.width ≡ 1
  pub adv : IsNet nets i.adv
  pub adv_bit : i.adv.width ≡ 1

-- in the order of the ports
abbrev pub input_nets : SlowInputs → List Wire
input_nets i = i.sel ∷ i.a ∷ i.b ∷ i.go ∷ i.adv ∷ []

-- the outputs that are made, where so many nets were declared before
abbrev pub output_nets : ℕ → ℕ → SlowOutputs
output_nets n w = record { busy = record { number = n; width = 1 }; y = record { number = n + 1; width = w } }

-- what is asked of the unit, and what its part of a reading shows, by the nets at its ports
abbrev pub asked_by : (ℕ → ℕ) → SlowInputs → UnitInput
asked_by read i = record { sel = read i.sel.number; a = read i.a.number; b = read i.b.number; go = read i.go.number; adv = read i.adv.number }

pub record SeesUnit (m : ModuleText) (inputs : SlowInputs) (outputs : SlowOutputs) (read part : ℕ → ℕ) : Type 0 where
  pub settles : Settles (nets_of m) m.assigns part
  pub asked : input_of part ≡ asked_by read inputs
  pub busy : read outputs.busy.number ≡ busy_of part
  pub y : read outputs.y.number ≡ result_of part

-- in every netlist where a module has the unit's name
abbrev pub AlwaysSeesUnit : Draft → List ℕ → ℕ → SlowInputs → SlowOutputs → Type 0
AlwaysSeesUnit d name k inputs outputs = Always d (λ r. (m : ModuleText) → module_named r.modules name ≡ Some m → SeesUnit m inputs outputs r.read (r.parts k))

-- the outputs depend on these inputs alone, by the numbers of the ports: busy on go, and y on all that come before adv
abbrev pub slow_needs : ℕ → ℕ → Bool
slow_needs p q = if p == slow_port.busy then q == slow_port.go else (if p == slow_port.y then nat_lt q slow_port.adv else true)

-- the net is ready once these are, where the module of this name depends as slow units do
abbrev pub IsReadyByUnit : List ℕ → Draft → List Wire → Wire → Type 0
IsReadyByUnit name d from w = (by : Dependence) → by.needs name ≡ slow_needs → ReadyAfter by d (numbers from) w.number

-- a unit depends so
abbrev pub SlowUnitsDepend : Type 0
SlowUnitsDepend = (m : ModuleText) (card : Card) (w : ℕ) → card.latency ≡ WidthPlusOne → IsUnit m card w → DependsAs m slow_needs

-- In cycle j an operation is chosen where the unit is asked, and it is asked the same as before once it has an age. Nothing is said
-- of adv.
pub record IsAskedAt (count : ℕ) (inputs : ℕ → UnitInput) (j : ℕ) : Type 0 where
  pub chosen : (inputs j).go ≡ 1 → (inputs j).sel < count
  pub held : 0 < age_at inputs j → IsHeld (inputs (j - 1)) (inputs j)

-- Proper inputs before cycle j, and in j an operation that is asked for as before, give busy in j, and the value where it is due: who
-- decides on adv by busy may rely on it.
abbrev pub AskedUnitsShow : Type 0
AskedUnitsShow = (m : ModuleText) (card : Card) (w : ℕ) → card.latency ≡ WidthPlusOne → IsUnit m card w → IsModule m → (c : ℕ) (reads : ℕ → ℕ → ℕ) → RunsAlone m c reads
    → (j : ℕ) → j < c → AreProper (length card.ops) (latency_at card w) (λ i. input_of (reads i)) j → IsAskedAt (length card.ops) (λ i. input_of (reads i)) j
    → ShowsAge card w (age_at (λ i. input_of (reads i)) j) (reads j)

-- the part of instance k in each cycle
abbrev pub part_read : List ModuleText → ModuleText → ℕ → (ℕ → List ℕ) → ℕ → ℕ → ℕ
part_read modules top k valuations j n = slice_index (valuations j) (base_of modules top k + n)

-- So does the part of an instance in a netlist's run, whose inputs are given by the part's reading.
abbrev pub PlacedUnitsShow : Type 0
PlacedUnitsShow = (o : Outside) (modules : List ModuleText) (top : ModuleText) → Each IsModule modules → IsModule top → Each (IsInstanceIn modules) top.instances
    → (image : Image) (trace : Trace) (c : ℕ) (states : ℕ → NetState) (valuations : ℕ → List ℕ) → Runs o (opened_over modules top) image trace c states valuations
    → (k : ℕ) (m : ModuleText) → IsPart modules top k m → (card : Card) (w : ℕ) → card.latency ≡ WidthPlusOne → IsUnit m card w
    → (j : ℕ) → j < c → AreProper (length card.ops) (latency_at card w) (λ i. input_of (part_read modules top k valuations i)) j → IsAskedAt (length card.ops) (λ i. input_of (part_read modules top k valuations i)) j
    → ShowsAge card w (age_at (λ i. input_of (part_read modules top k valuations i)) j) (part_read modules top k valuations j)
