-- A netlist with its instances opened: the nets of top and of each instance side by side, and the solutions of its equations.
use Rattle.std.specs.Prelude.{◌≡◌, ℕ, suc, zero, ◌+◌, ◌-◌, ◌^◌, ◌<◌, ◌==◌, ◌&&◌, nat_lt, List, [], ◌∷◌, ◌++◌, length, map, slice_get, slice_index, Option, Some, None, Bool, true, false, if◌then◌else◌}
use Rattle.std.specs.Str.{bytes_eq}
use Rattle.std.specs.List.{AllByRecursion as Each}
use Rattle.ap_net.specs.declared.cell.Wire.{Wire}
use Rattle.ap_net.specs.declared.cell.Cell.TheVariants as cell
use Rattle.ap_net.specs.declared.net.Role.{Role}
use Rattle.ap_net.specs.declared.net.Role.TheVariants as role
use Rattle.ap_net.specs.declared.net.ModuleNet.{ModuleNet}
use Rattle.ap_net.specs.declared.net.FlatNet.{FlatNet}
use Rattle.ap_net.specs.declared.net.Port.{Port}
use Rattle.ap_net.specs.declared.net.Assign.{Assign}
use Rattle.ap_net.specs.declared.net.Next.{Next}
use Rattle.ap_net.specs.declared.net.Instance.{Instance}
use Rattle.ap_net.specs.declared.net.Join.{Join}
use Rattle.ap_net.specs.Cells.{IsNet, CellFits}
use Rattle.ap_net.specs.Wiring.{Settles, Undriven, DrivenOnce, ClockedOnce, NextFits, IsFree, IsSource, reset_of}
use Rattle.ap_net.specs.Modules.{ModuleText, IsNetlist, nets_of, module_named, last_module, earlier, assign_placed, next_placed, reset_value}

-- The parts' names, the nets of all parts in one list and numbered through it, what drives them, and the connections.
pub record Flat : Type 0 where
  pub parts : List (List ℕ)
  pub nets : List FlatNet
  pub assigns : List Assign
  pub nexts : List Next
  pub joins : List Join

-- a net of top in the whole, and one of an instance, whose ports are plain nets of the whole
abbrev pub inner_role : Role → Role
inner_role role.Input = role.Plain
inner_role role.Output = role.Plain
inner_role role.Plain = role.Plain
inner_role (role.Register reset) = role.Register reset

abbrev pub top_net : ModuleNet → FlatNet
top_net net = record { part = 0; name = net.name; width = net.width; role = net.role }

abbrev pub part_net : ℕ → ModuleNet → FlatNet
part_net part net = record { part = part; name = net.name; width = net.width; role = inner_role net.role }

-- the nets, assigns and registers' drivers of an instance's module
abbrev pub nets_in : Option ModuleText → List ModuleNet
nets_in None = []
nets_in (Some m) = nets_of m

abbrev pub assigns_in : Option ModuleText → List Assign
assigns_in None = []
assigns_in (Some m) = m.assigns

abbrev pub nexts_in : Option ModuleText → List Next
nexts_in None = []
nexts_in (Some m) = m.nexts

-- how many nets an instance has
abbrev pub part_size : List ModuleText → Instance → ℕ
part_size modules i = length (nets_in (module_named modules i.module))

-- the instances' nets, part by part from this one on
abbrev pub part_nets : List ModuleText → ℕ → List Instance → List FlatNet
part_nets modules part [] = []
part_nets modules part (i ∷ instances) = map (part_net part) (nets_in (module_named modules i.module)) ++ part_nets modules (part + 1) instances

-- their assigns and registers' drivers, where the nets of the first instance are numbered from base on
abbrev pub part_assigns : List ModuleText → ℕ → List Instance → List Assign
part_assigns modules base [] = []
part_assigns modules base (i ∷ instances) = map (assign_placed (λ n. base + n)) (assigns_in (module_named modules i.module)) ++ part_assigns modules (base + part_size modules i) instances

abbrev pub part_nexts : List ModuleText → ℕ → List Instance → List Next
part_nexts modules base [] = []
part_nexts modules base (i ∷ instances) = map (next_placed (λ n. base + n)) (nexts_in (module_named modules i.module)) ++ part_nexts modules (base + part_size modules i) instances

-- the connections of ports that are numbered from n on: an output's net equals the port, an input port equals its net
abbrev pub joins_from : ℕ → List Bool → List Wire → List Join
joins_from n [] nets = []
joins_from n (drives ∷ more) [] = []
joins_from n (true ∷ more) (w ∷ nets) = record { to = w; from = record { number = n; width = w.width } } ∷ joins_from (n + 1) more nets
joins_from n (false ∷ more) (w ∷ nets) = record { to = record { number = n; width = w.width }; from = w } ∷ joins_from (n + 1) more nets

abbrev pub part_joins : List ModuleText → ℕ → List Instance → List Join
part_joins modules base [] = []
part_joins modules base (i ∷ instances) = joins_from base i.drives i.nets ++ part_joins modules (base + part_size modules i) instances

-- the number of the first net of instance k
abbrev pub base_from : List ModuleText → ℕ → List Instance → ℕ → ℕ
base_from modules base [] k = base
base_from modules base (i ∷ instances) zero = base
base_from modules base (i ∷ instances) (suc k) = base_from modules (base + part_size modules i) instances k

abbrev pub base_of : List ModuleText → ModuleText → ℕ → ℕ
base_of modules top k = base_from modules (length (nets_of top)) top.instances k

-- top opened over the modules of its instances
abbrev pub opened_over : List ModuleText → ModuleText → Flat
opened_over modules top = record {
  parts = top.name ∷ map (λ (i : Instance). i.name) top.instances;
  nets = map top_net (nets_of top) ++ part_nets modules 1 top.instances;
  assigns = top.assigns ++ part_assigns modules (length (nets_of top)) top.instances;
  nexts = top.nexts ++ part_nexts modules (length (nets_of top)) top.instances;
  joins = part_joins modules (length (nets_of top)) top.instances;
}

abbrev pub opened_last : List ModuleText → Option ModuleText → Flat
opened_last modules None = record { parts = []; nets = []; assigns = []; nexts = []; joins = [] }
opened_last modules (Some top) = opened_over modules top

-- the netlist opened
abbrev pub opened : List ModuleText → Flat
opened modules = opened_last (earlier modules) (last_module modules)

-- the ports of the last module
abbrev pub ports_by_last : Option ModuleText → List Port
ports_by_last None = []
ports_by_last (Some top) = top.ports

abbrev pub top_ports : List ModuleText → List Port
top_ports modules = ports_by_last (last_module modules)

-- the nets without their parts
abbrev pub plain_net : FlatNet → ModuleNet
plain_net net = record { name = net.name; width = net.width; role = net.role }

abbrev pub plain_nets : List FlatNet → List ModuleNet
plain_nets nets = map plain_net nets

-- a connection as an equation: the one net is a copy of the other
abbrev pub join_assign : Join → Assign
join_assign j = record { to = j.to; cell = cell.Copy j.from }

-- all equations
abbrev pub equations : Flat → List Assign
equations f = f.assigns ++ map join_assign f.joins

-- A solution: one number for each net, which fits its width, and every equation holds. There is no order of evaluation.
pub record Solves (f : Flat) (v : List ℕ) : Type 0 where
  pub long : length v ≡ length f.nets
  pub settles : Settles (plain_nets f.nets) (equations f) (slice_index v)

-- what the nets and equations of an opened netlist keep: operands and results are declared and of the right width, no source
-- is assigned, and no net is driven twice
pub record IsFlat (f : Flat) : Type 0 where
  pub results : Each (λ (a : Assign). IsNet (plain_nets f.nets) a.to) (equations f)
  pub cells : Each (λ (a : Assign). CellFits (plain_nets f.nets) a.to.width a.cell) (equations f)
  pub free : Each (λ (a : Assign). IsFree (plain_nets f.nets) a.to.number) (equations f)
  pub once : DrivenOnce (equations f)

-- every net that is no source has an equation
abbrev pub IsFlatDriven : Flat → Type 0
IsFlatDriven f = (n : ℕ) (net : ModuleNet) → slice_get (plain_nets f.nets) n ≡ Some net → (IsSource net.role → ⊥) → Undriven (equations f) n → ⊥

-- the net is the one of this name in this part
abbrev pub is_named : ℕ → List ℕ → FlatNet → Bool
is_named part name net = net.part == part && bytes_eq net.name name

-- the value of the first net of this name in a part
abbrev pub value_in_part : ℕ → List FlatNet → List ℕ → List ℕ → ℕ
value_in_part part [] v name = 0
value_in_part part (net ∷ nets) [] name = 0
value_in_part part (net ∷ nets) (x ∷ v) name = if is_named part name net then x else value_in_part part nets v name

-- in top
abbrev pub value_named : List FlatNet → List ℕ → List ℕ → ℕ
value_named nets v name = value_in_part 0 nets v name

-- whether a number is that of the net of this name in this part
abbrev pub names_net : ℕ → List ℕ → Option FlatNet → Bool
names_net part name None = false
names_net part name (Some net) = is_named part name net

-- what the register of this name in a part holds, where the registers' numbers stand in the order of their drivers
abbrev pub register_among : ℕ → List FlatNet → List Next → List ℕ → List ℕ → ℕ
register_among part nets [] registers name = 0
register_among part nets (x ∷ nexts) [] name = 0
register_among part nets (x ∷ nexts) (value ∷ registers) name = if names_net part name (slice_get nets x.register.number) then value else register_among part nets nexts registers name

abbrev pub register_in : ℕ → Flat → List ℕ → List ℕ → ℕ
register_in part f registers name = register_among part f.nets f.nexts registers name

-- in top
abbrev pub register_named : Flat → List ℕ → List ℕ → ℕ
register_named f registers name = register_in 0 f registers name

-- the value of a net after the reset edge by its number; 0 for what is no register
abbrev pub reset_in : Flat → ℕ → ℕ
reset_in f n = reset_value (slice_get (plain_nets f.nets) n)

-- A function of the nets of top and one of those of each instance, as a function of the nets of the whole.
abbrev pub spread_parts : List ModuleText → List Instance → (ℕ → ℕ → ℕ) → ℕ → ℕ
spread_parts modules [] parts n = 0
spread_parts modules (i ∷ instances) parts n = if nat_lt n (part_size modules i) then parts 0 n else spread_parts modules instances (λ k. parts (k + 1)) (n - part_size modules i)

abbrev pub spread : List ModuleText → ModuleText → (ℕ → ℕ) → (ℕ → ℕ → ℕ) → ℕ → ℕ
spread modules top own parts n = if nat_lt n (length (nets_of top)) then own n else spread_parts modules top.instances parts (n - length (nets_of top))

-- no two nets of one part have the same name
abbrev pub NamesDiffer : List FlatNet → Type 0
NamesDiffer nets = (i j : ℕ) (a b : FlatNet) → slice_get nets i ≡ Some a → slice_get nets j ≡ Some b → a.part ≡ b.part → a.name ≡ b.name → i ≡ j

-- every register's driver is of a register, and no two are of one
pub record AreClocked (f : Flat) : Type 0 where
  pub declared : Each (λ (x : Next). x.register.number < length f.nets) f.nexts
  pub once : ClockedOnce f.nexts

-- in a solution each net's number is found by its part and its name
abbrev pub NamesAreFound : Type 0
NamesAreFound = (nets : List FlatNet) → NamesDiffer nets → (v : List ℕ) → length v ≡ length nets
    → (n : ℕ) (net : FlatNet) → slice_get nets n ≡ Some net → value_in_part net.part nets v net.name ≡ slice_index v n

-- and what a register holds by those of the register
abbrev pub RegistersAreFound : Type 0
RegistersAreFound = (f : Flat) → NamesDiffer f.nets → AreClocked f → (registers : List ℕ) → length registers ≡ length f.nexts
    → (k : ℕ) (x : Next) (net : FlatNet) → slice_get f.nexts k ≡ Some x → slice_get f.nets x.register.number ≡ Some net → register_in net.part f registers net.name ≡ slice_index registers k

-- what every opened netlist keeps; the driver of a register takes a declared net of the register's width, and reset values fit
pub record IsOpenNetlist (f : Flat) : Type 0 where
  pub flat : IsFlat f
  pub driven : IsFlatDriven f
  pub names : NamesDiffer f.nets
  pub clocked : AreClocked f
  pub registers : Each (NextFits (plain_nets f.nets)) f.nexts
  pub resets : Each (λ (n : ModuleNet). reset_of n.role < 2 ^ n.width) (plain_nets f.nets)

abbrev pub NetlistsOpen : Type 0
NetlistsOpen = (modules : List ModuleText) → IsNetlist modules → IsOpenNetlist (opened modules)
