-- A module that is being built, and how a piece of circuit makes it grow.
use Rattle.std.specs.Prelude.{◌≡◌, ◌≢◌, ℕ, ◌<◌, ◌≤◌, List, [], ◌∷◌, ◌++◌, length, codes, slice_get, Some, count_by, Bool, true, false}
use Rattle.ap_net.specs.declared.net.Role.{Role}
use Rattle.ap_net.specs.declared.net.Role.TheVariants as role
use Rattle.ap_net.specs.declared.net.ModuleNet.{ModuleNet}
use Rattle.ap_net.specs.declared.net.Assign.{Assign}
use Rattle.ap_net.specs.declared.cell.Wire.{Wire}
use Rattle.ap_net.specs.declared.cell.Cell.{Cell}
use Rattle.ap_net.specs.declared.net.Next.{Next}
use Rattle.ap_net.specs.declared.net.Instance.{Instance}
use Rattle.ap_net.specs.Modules.{ModuleText}
use Rattle.ap_net.specs.Names.{HasFresh, IsNetName, IsNew, IsNotNumbered, numbered}
use Rattle.ap_net.specs.Wiring.{IsWired, IsConnected, IsSource, reset_of, Undriven, Unjoined, Settles, names_taken}
use Rattle.ap_net.specs.Opened.{SolveParts}

-- a module's name, its nets in the order of their declaration, what drives them, and its instances
pub record Draft : Type 0 where
  pub name : List ℕ
  pub nets : List ModuleNet
  pub assigns : List Assign
  pub nexts : List Next
  pub instances : List Instance

-- the names that are taken
abbrev pub names_of : Draft → List (List ℕ)
names_of d = names_taken d.instances d.nets

-- the net is a wire: neither a port nor a register
abbrev pub is_plain : Role → Bool
is_plain role.Input = false
is_plain role.Output = false
is_plain role.Plain = true
is_plain (role.Register reset) = false

abbrev pub is_wire : ModuleNet → Bool
is_wire net = is_plain net.role

-- the number of wires among the nets
abbrev pub wire_count : List ModuleNet → ℕ
wire_count nets = count_by is_wire nets

-- what a module that is being built keeps, where count is the number of its wires
pub record IsDraft (d : Draft) (count : ℕ) : Type 0 where
  pub name : IsNetName d.name
  pub wired : IsWired d.nets d.assigns d.nexts
  pub connected : IsConnected d.nets d.assigns d.instances
  pub alone : d.name ≢ codes "top" → d.instances ≡ []
  pub wires : count ≡ wire_count d.nets

-- its rules, whatever the number of its wires
abbrev pub IsKept : Draft → Type 0
IsKept d = IsDraft d (wire_count d.nets)

abbrev pub draft_of : List ℕ → List ModuleNet → List Assign → List Next → List Instance → Draft
draft_of name nets assigns nexts instances = record { name = name; nets = nets; assigns = assigns; nexts = nexts; instances = instances }

-- nothing but a name
abbrev pub blank : List ℕ → Draft
blank name = draft_of name [] [] [] []

-- the draft with one more net, whose wire is the next one; a fresh wire is named by the number of wires before it
abbrev pub with_net : Draft → List ℕ → ℕ → Role → Draft
with_net d name width kind = record d { nets = d.nets ++ record { name = name; width = width; role = kind } ∷ [] }

abbrev pub next_wire : Draft → ℕ → Wire
next_wire d width = record { number = length d.nets; width = width }

abbrev pub with_fresh : Draft → ℕ → Draft
with_fresh d width = with_net d (numbered (wire_count d.nets)) width role.Plain

-- with one more assign, driver of a register, or instance
abbrev pub with_assign : Draft → Wire → Cell → Draft
with_assign d to cell = record d { assigns = d.assigns ++ record { to = to; cell = cell } ∷ [] }

abbrev pub with_made : Draft → ℕ → Cell → Draft
with_made d width cell = with_assign (with_fresh d width) (next_wire d width) cell

abbrev pub with_next : Draft → Wire → Wire → Draft
with_next d register from = record d { nexts = d.nexts ++ record { register = register; from = from } ∷ [] }

abbrev pub with_instance : Draft → Instance → Draft
with_instance d i = record d { instances = d.instances ++ i ∷ [] }

-- ys begins with xs
abbrev pub Begins : {X : Type 0} → List X → List X → Type 0
Begins {X} xs ys = (more : List X) × (ys ≡ xs ++ more)

-- all that was there stays
pub record Extends (old new : Draft) : Type 0 where
  pub name : new.name ≡ old.name
  pub nets : Begins old.nets new.nets
  pub assigns : Begins old.assigns new.assigns
  pub nexts : Begins old.nexts new.nexts
  pub instances : Begins old.instances new.instances

-- A piece of circuit was added: all that was there stays, and no register got a driver.
pub record Adds (old new : Draft) : Type 0 where
  pub extends : Extends old new
  pub nexts : new.nexts ≡ old.nexts

-- every wire and output has its driver
abbrev pub AreDriven : Draft → Type 0
AreDriven d = (n : ℕ) (net : ModuleNet) → slice_get d.nets n ≡ Some net → (IsSource net.role → ⊥) → Undriven d.assigns n → Unjoined d.instances n → ⊥

-- every register has a number below k
abbrev pub RegistersBelow : List ModuleNet → ℕ → Type 0
RegistersBelow nets k = (n : ℕ) (net : ModuleNet) → slice_get nets n ≡ Some net → net.role ≡ role.Register (reset_of net.role) → n < k

-- fresh wires can be had any number of times
abbrev pub CanFresh : Draft → Type 0
CanFresh d = HasFresh (names_of d) (wire_count d.nets)

-- they can be had still, where the name isn't n and a number
abbrev pub KeepsFresh : List ℕ → Draft → Draft → Type 0
KeepsFresh name old new = IsNotNumbered name → CanFresh old → CanFresh new

-- a name that isn't n and a number is as new as it was
abbrev pub KeepsNew : Draft → Draft → Type 0
KeepsNew old new = (name : List ℕ) → IsNotNumbered name → IsNew name (names_of old) → IsNew name (names_of new)

-- the reading fits the nets so far and meets every equation of their assigns
abbrev pub SettlesDraft : Draft → (ℕ → ℕ) → Type 0
SettlesDraft d read = Settles d.nets d.assigns read

-- a reading that settles the new draft settles the old one, and has this meaning
abbrev pub Means : Draft → Draft → ((ℕ → ℕ) → Type 0) → Type 0
Means old new Meaning = (read : ℕ → ℕ) → SettlesDraft new read → SettlesDraft old read × Meaning read

-- Readings of a module and its instances: they settle the draft, and part k solves instance k's module, whose ports equal the
-- connected nets. The instances' modules are the first of their names among these.
pub record SettlesOpen (modules : List ModuleText) (d : Draft) (read : ℕ → ℕ) (parts : ℕ → ℕ → ℕ) : Type 0 where
  pub own : SettlesDraft d read
  pub each : SolveParts modules d.instances read parts
