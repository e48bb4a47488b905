-- The nets of a finished draft by their names: those of top, and those of the parts of its instances.
use Rattle.std.specs.Prelude.{◌≡◌, ◌≢◌, ℕ, ◌+◌, ◌<◌, List, slice_get, Some, Contains}
use Rattle.ap_net.specs.declared.cell.Wire.{Wire}
use Rattle.ap_net.specs.declared.net.Instance.{Instance}
use Rattle.ap_net.specs.declared.net.ModuleNet.{ModuleNet}
use Rattle.ap_net.specs.Draft.{Draft}
use Rattle.ap_net.specs.Modules.{ModuleText, module_named, nets_of}
use Rattle.ap_net.specs.Readings.{Reading}
use Rattle.ap_net.specs.Wiring.{reset_of}
use Rattle.ap_runs.specs.RunReadings.{ReadsRun}
use Rattle.ap_signals.specs.NetRuns.{HasRegister, NetRun, held_value, net_value, part_value, taken_value}

-- the net has this name
pub record IsNamed (d : Draft) (name : List ℕ) (w : Wire) : Type 0 where
  pub net : ModuleNet
  pub there : slice_get d.nets w.number ≡ Some net
  pub named : net.name ≡ name

-- and this value after the reset edge, where it is a register
pub record IsResetNamed (d : Draft) (name : List ℕ) (value : ℕ) (w : Wire) : Type 0 where
  pub net : ModuleNet
  pub there : slice_get d.nets w.number ≡ Some net
  pub named : net.name ≡ name
  pub reset : reset_of net.role ≡ value

abbrev pub IsZeroNamed : Draft → List ℕ → Wire → Type 0
IsZeroNamed d name w = IsResetNamed d name 0 w

-- it is a register, which takes the other net
pub record IsRegisterNamed (d : Draft) (name : List ℕ) (value : ℕ) (register from : Wire) : Type 0 where
  pub begins : IsResetNamed d name value register
  pub next : Contains d.nexts (record { register = register; from = from })

-- the net is joined to the net of this name in the part of this name
pub record IsPartNet (d : Draft) (modules : List ModuleText) (part name : List ℕ) (w : Wire) : Type 0 where
  pub k : ℕ
  pub of : Instance
  pub at : slice_get d.instances k ≡ Some of
  pub named : of.name ≡ part
  pub other : part ≢ d.name
  pub whole : ModuleText
  pub found : module_named modules of.module ≡ Some whole
  pub port : ℕ
  pub net : ModuleNet
  pub there : slice_get (nets_of whole) port ≡ Some net
  pub is : net.name ≡ name
  pub joined : slice_get of.nets port ≡ Some w

-- the run is read, cycle by cycle
abbrev pub IsReadBy : Draft → List ModuleText → NetRun → ℕ → (ℕ → Reading) → Type 0
IsReadBy d modules run c reading = ReadsRun d modules run.flat c run.states run.values reading

abbrev pub NamesAreRead : Type 0
NamesAreRead = (d : Draft) (modules : List ModuleText) (run : NetRun) (c : ℕ) (reading : ℕ → Reading) → IsReadBy d modules run c reading
    → (name : List ℕ) (w : Wire) → IsNamed d name w → (j : ℕ) → j < c → net_value run j name ≡ (reading j).read w.number

abbrev pub PartsAreRead : Type 0
PartsAreRead = (d : Draft) (modules : List ModuleText) (run : NetRun) (c : ℕ) (reading : ℕ → Reading) → IsReadBy d modules run c reading
    → (part name : List ℕ) (w : Wire) → IsPartNet d modules part name w → (j : ℕ) → j < c → part_value run j part name ≡ (reading j).read w.number

-- a register by its name: it is there, has this value at the start, and in each cycle it holds the one net's value, takes the other's,
-- and holds that in the next cycle
pub record IsRegisterRead (run : NetRun) (c : ℕ) (reading : ℕ → Reading) (name : List ℕ) (value : ℕ) (register from : Wire) : Type 0 where
  pub there : HasRegister run.flat 0 name
  pub starts : held_value run 0 name ≡ value
  pub holds : (j : ℕ) → j < c → held_value run j name ≡ (reading j).read register.number
  pub takes : (j : ℕ) → j < c → taken_value run j name ≡ (reading j).read from.number
  pub goes : (j : ℕ) → j < c → held_value run (j + 1) name ≡ (reading j).read from.number

abbrev pub RegistersAreRead : Type 0
RegistersAreRead = (d : Draft) (modules : List ModuleText) (run : NetRun) (c : ℕ) (reading : ℕ → Reading) → IsReadBy d modules run c reading
    → (name : List ℕ) (value : ℕ) (register from : Wire) → IsRegisterNamed d name value register from → IsRegisterRead run c reading name value register from
