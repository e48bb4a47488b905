-- What instances add to the equations of a module and to the order of its nets. The nets of an instance are those of its module,
-- under the module's own numbers; its ports have the first of them.
use Rattle.std.specs.Prelude.{◌≡◌, ℕ, ◌<◌, List, slice_get, Some, Bool, true, false}
use Rattle.std.specs.List.{AllByRecursion as Each}
use Rattle.ap_net.specs.declared.cell.Wire.{Wire}
use Rattle.ap_net.specs.declared.net.Assign.{Assign}
use Rattle.ap_net.specs.declared.net.Instance.{Instance}
use Rattle.ap_net.specs.Wiring.{Settles, Ranked, IsOrdered}
use Rattle.ap_net.specs.Modules.{ModuleText, nets_of, module_named}

-- the part of an instance, read by its module's numbers: it solves the module, and each port equals its connected net
pub record SolvesPart (m : ModuleText) (i : Instance) (read part : ℕ → ℕ) : Type 0 where
  pub settles : Settles (nets_of m) m.assigns part
  pub joined : (p : ℕ) (w : Wire) → slice_get i.nets p ≡ Some w → part p ≡ read w.number

-- part k is what instance k is read by
abbrev pub SolveParts : List ModuleText → List Instance → (ℕ → ℕ) → (ℕ → ℕ → ℕ) → Type 0
SolveParts modules instances read parts = (k : ℕ) (i : Instance) (m : ModuleText) → slice_get instances k ≡ Some i → module_named modules i.module ≡ Some m → SolvesPart m i read (parts k)

-- a connection to an output comes after the port, one to an input before it
abbrev pub Follows : Bool → ℕ → ℕ → Type 0
Follows true net port = port < net
Follows false net port = net < port

-- the ranks rise along the assigns of the instance's module, and along its connections
pub record OrdersPart (m : ModuleText) (i : Instance) (rank part : ℕ → ℕ) : Type 0 where
  pub ranked : Ranked part m.assigns
  pub joined : (p : ℕ) (w : Wire) (drives : Bool) → slice_get i.nets p ≡ Some w → slice_get i.drives p ≡ Some drives → Follows drives (rank w.number) (part p)

-- A rank of the nets of a module and of its instances, which rises along all assigns and connections: so no net depends on
-- itself once instances are opened.
pub record IsOpenOrder (modules : List ModuleText) (assigns : List Assign) (instances : List Instance) (rank : ℕ → ℕ) (parts : ℕ → ℕ → ℕ) : Type 0 where
  pub ranked : Ranked rank assigns
  pub each : (k : ℕ) (i : Instance) (m : ModuleText) → slice_get instances k ≡ Some i → module_named modules i.module ≡ Some m → OrdersPart m i rank (parts k)

-- no net of any of the modules depends on itself
abbrev pub AreOrdered : List ModuleText → Type 0
AreOrdered modules = Each (λ (m : ModuleText). IsOrdered m.assigns) modules
