-- The ports of a draft that come first keep their numbers in the finished module; so an outside that looks by ports looks where the draft
-- says.
use Rattle.std.specs.Prelude.{◌≡◌, ℕ, ◌<◌, ◌≤◌, true, List, [], length, slice_get, Some, unwrap_or}
use Rattle.ap_net.specs.declared.net.ModuleNet.{ModuleNet}
use Rattle.ap_net.specs.Answering.{LooksByPorts, port_looks}
use Rattle.ap_net.specs.Draft.{Draft}
use Rattle.ap_net.specs.Finished.{IsFinished}
use Rattle.ap_net.specs.Modules.{ModuleText}
use Rattle.ap_net.specs.Outside.{Outside}
use Rattle.ap_net.specs.Places.{is_port}
use Rattle.ap_net.specs.Responding.{looked_in}

-- the first so many nets of the draft are ports
abbrev pub BeginsWithPorts : Draft → ℕ → Type 0
BeginsWithPorts d count = (n : ℕ) → n < count → (net : ModuleNet) × (slice_get d.nets n ≡ Some net) × (is_port net ≡ true)

abbrev pub FirstPortsStay : Type 0
FirstPortsStay = (d : Draft) (m : ModuleText) (fin : IsFinished d m) (count : ℕ) → BeginsWithPorts d count → (n : ℕ) → n < count → (fin.place n ≡ n) × (fin.back n ≡ n)

-- at which nets an outside looks for a net of a draft whose ports come first
abbrev pub looks_of : Outside → ℕ → List ℕ
looks_of o n = unwrap_or (slice_get (port_looks o) n) []

abbrev pub PortsAreLookedAt : Type 0
PortsAreLookedAt = (d : Draft) (m : ModuleText) (fin : IsFinished d m) (o : Outside) → BeginsWithPorts d (length (port_looks o)) → LooksByPorts o (looked_in m fin.place fin.back (looks_of o))
