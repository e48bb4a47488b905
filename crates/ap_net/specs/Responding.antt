-- What follows where every net of a draft is ready: its wires and outputs have their drivers, no net depends on itself, and the
-- netlist has a solution whatever its sources are given by an outside that looks where it is said to.
use Rattle.std.specs.Prelude.{◌≡◌, ℕ, ◌<◌, List, [], length, map, slice_get, Some, Bool, true, false, if◌then◌else◌, IsTrue, nat_lt}
use Rattle.std.specs.List.{AllByRecursion as Each}
use Rattle.ap_net.specs.declared.net.ModuleNet.{ModuleNet}
use Rattle.ap_net.specs.Wiring.{IsSource, IsOrdered}
use Rattle.ap_net.specs.Modules.{ModuleText, IsModule, IsInstanceIn, nets_of, outputs}
use Rattle.ap_net.specs.Opened.{AreOrdered, IsOpenOrder}
use Rattle.ap_net.specs.Flat.{plain_nets, opened_over, Solves}
use Rattle.ap_net.specs.Sources.{Given, Takes}
use Rattle.ap_net.specs.Finished.{IsFinished}
use Rattle.ap_net.specs.Draft.{Draft, IsKept, AreDriven}
use Rattle.ap_net.specs.Depends.{DependsWithin, DependsOnNone}
use Rattle.ap_net.specs.Ready.{Dependence, AllReady}
use Rattle.ap_net.specs.Pending.{Among}

-- An output of the module depends on no other inputs than it may: for each output a set of nets that has all that it depends on.
pub record DependsAs (m : ModuleText) (needs : ℕ → ℕ → Bool) : Type 0 where
  pub among : ℕ → ℕ → Bool
  pub within : (p : ℕ) → slice_get (outputs m) p ≡ Some true → DependsWithin m.assigns p (among p)
  pub inputs : (p q : ℕ) → slice_get (outputs m) p ≡ Some true → slice_get (outputs m) q ≡ Some false → IsTrue (among p q) → needs p q ≡ true

abbrev pub AreDependent : Dependence → List ModuleText → Type 0
AreDependent by modules = Each (λ (m : ModuleText). DependsAs m (by.needs m.name)) modules

-- any module may depend on all its inputs
abbrev pub DependOnAll : Type 0
DependOnAll = (m : ModuleText) → DependsAs m (λ p q. true)

-- it depends as it may, where each output depends on none of the inputs on which it may not
abbrev pub DependOnNeeded : Type 0
DependOnNeeded = (m : ModuleText) (needs : ℕ → ℕ → Bool) (others : ℕ → List ℕ) → ((p : ℕ) → slice_get (outputs m) p ≡ Some true → DependsOnNone m.assigns p (others p))
    → ((p q : ℕ) → slice_get (outputs m) p ≡ Some true → slice_get (outputs m) q ≡ Some false → needs p q ≡ false → Among (others p) q) → DependsAs m needs

-- at which nets of a finished module the outside looks for a source, where the draft's numbers are these
abbrev pub looked_in : ModuleText → (ℕ → ℕ) → (ℕ → ℕ) → (ℕ → List ℕ) → ℕ → List ℕ
looked_in m place back looks n = if nat_lt n (length (nets_of m)) then map place (looks (back n)) else []

-- what a source is given depends on those nets alone
abbrev pub LooksAt : (nets : List ModuleNet) → Given nets → (ℕ → List ℕ) → Type 0
LooksAt nets given looked = (n : ℕ) (net : ModuleNet) (f g : ℕ → ℕ) → slice_get nets n ≡ Some net → IsSource net.role
    → ((j k : ℕ) → slice_get (looked n) j ≡ Some k → f k ≡ g k) → given.number n f ≡ given.number n g

-- the module's instances are of these modules, each of which keeps its rules, has no net that depends on itself, and depends as
-- it may
pub record IsOver (by : Dependence) (modules : List ModuleText) (m : ModuleText) : Type 0 where
  pub each : Each IsModule modules
  pub kept : IsModule m
  pub within : Each (IsInstanceIn modules) m.instances
  pub ordered : AreOrdered modules
  pub dependent : AreDependent by modules

-- Whatever the sources are given by an outside that looks where it is said, the netlist has a solution.
abbrev pub Responds : Dependence → (d : Draft) → ModuleText → List ModuleText → Type 0
Responds by d m modules = (fin : IsFinished d m) → IsOver by modules m → (given : Given (plain_nets (opened_over modules m).nets))
    → LooksAt (plain_nets (opened_over modules m).nets) given (looked_in m fin.place fin.back by.looks)
    → (v : List ℕ) × Solves (opened_over modules m) v × Takes (plain_nets (opened_over modules m).nets) given v

-- An order of the nets of top and of all instances, in which what the outside looks at is lower too.
pub record HasOrder (by : Dependence) (d : Draft) (modules : List ModuleText) : Type 0 where
  pub rank : ℕ → ℕ
  pub parts : ℕ → ℕ → ℕ
  pub order : IsOpenOrder modules d.assigns d.instances rank parts
  pub looks : (n m j : ℕ) (net : ModuleNet) → slice_get d.nets n ≡ Some net → IsSource net.role → slice_get (by.looks n) j ≡ Some m → (m < length d.nets) × (rank m < rank n)

abbrev pub ReadyHaveOrders : Type 0
ReadyHaveOrders = (by : Dependence) (d : Draft) → IsKept d → AllReady by d
    → (modules : List ModuleText) → Each (IsInstanceIn modules) d.instances → AreOrdered modules → AreDependent by modules → HasOrder by d modules

-- where every net of a draft is ready, its module responds
abbrev pub ReadyRespond : Type 0
ReadyRespond = (by : Dependence) (d : Draft) → IsKept d → AllReady by d → (m : ModuleText) (modules : List ModuleText) → Responds by d m modules

-- its wires and outputs have their drivers
abbrev pub ReadyAreDriven : Type 0
ReadyAreDriven = (by : Dependence) (d : Draft) → AllReady by d → AreDriven d

-- and without instances it has an order of its assigns
abbrev pub ReadyAreOrdered : Type 0
ReadyAreOrdered = (by : Dependence) (d : Draft) (m : ModuleText) → IsKept d → d.instances ≡ [] → AllReady by d → IsFinished d m → IsOrdered m.assigns
