-- Finished modules and netlists, as plain records.
use Rattle.std.specs.Prelude.{◌≡◌, ◌≢◌, ℕ, ◌<◌, List, [], ◌∷◌, ◌++◌, length, map, filter_map, codes, slice_get, Option, Some, None, Bool, true, false, if◌then◌else◌}
use Rattle.std.specs.List.{AllByRecursion as Each}
use Rattle.std.specs.Str.{bytes_eq}
use Rattle.ap_net.specs.declared.cell.Wire.{Wire}
use Rattle.ap_net.specs.declared.cell.Cell.{Cell}
use Rattle.ap_net.specs.declared.cell.Cell.TheVariants as cell
use Rattle.ap_net.specs.declared.net.Role.{Role}
use Rattle.ap_net.specs.declared.net.Role.TheVariants as role
use Rattle.ap_net.specs.declared.net.ModuleNet.{ModuleNet}
use Rattle.ap_net.specs.declared.net.Port.{Port}
use Rattle.ap_net.specs.declared.net.Net.{Net}
use Rattle.ap_net.specs.declared.net.RegNet.{RegNet}
use Rattle.ap_net.specs.declared.net.Assign.{Assign}
use Rattle.ap_net.specs.declared.net.Next.{Next}
use Rattle.ap_net.specs.declared.net.Instance.{Instance}
use Rattle.ap_net.specs.Names.{IsNetName, AreDistinct}
use Rattle.ap_net.specs.Wiring.{IsWired, IsConnected, IsDriven, reset_of}

-- what a module's text has, line by line
pub record ModuleText : Type 0 where
  pub name : List ℕ
  pub ports : List Port
  pub wires : List Net
  pub regs : List RegNet
  pub assigns : List Assign
  pub nexts : List Next
  pub instances : List Instance

abbrev pub module_of : List ℕ → List Port → List Net → List RegNet → List Assign → List Next → List Instance → ModuleText
module_of name ports wires regs assigns nexts instances = record { name = name; ports = ports; wires = wires; regs = regs; assigns = assigns; nexts = nexts; instances = instances }

abbrev pub port_net : Port → ModuleNet
port_net p = record { name = p.name; width = p.width; role = if p.output then role.Output else role.Input }

abbrev pub wire_net : Net → ModuleNet
wire_net n = record { name = n.name; width = n.width; role = role.Plain }

abbrev pub reg_net : RegNet → ModuleNet
reg_net r = record { name = r.name; width = r.width; role = role.Register r.reset }

-- the nets as they are numbered: the ports, then the wires, then the registers
abbrev pub nets_among : List Port → List Net → List RegNet → List ModuleNet
nets_among ports wires regs = map port_net ports ++ map wire_net wires ++ map reg_net regs

abbrev pub nets_of : ModuleText → List ModuleNet
nets_of m = nets_among m.ports m.wires m.regs

-- the name of a net by its number
abbrev pub name_of : Option ModuleNet → List ℕ
name_of None = []
name_of (Some net) = net.name

abbrev pub name_at : List ModuleNet → ℕ → List ℕ
name_at nets n = name_of (slice_get nets n)

-- the value of a net after the reset edge by its number; 0 for what is no register
abbrev pub reset_value : Option ModuleNet → ℕ
reset_value None = 0
reset_value (Some net) = reset_of net.role

abbrev pub reset_at : List ModuleNet → ℕ → ℕ
reset_at nets n = reset_value (slice_get nets n)

-- what a finished module keeps; only a module that is named top has instances
pub record IsModule (m : ModuleText) : Type 0 where
  pub name : IsNetName m.name
  pub ports : 0 < length m.ports
  pub wired : IsWired (nets_of m) m.assigns m.nexts
  pub connected : IsConnected (nets_of m) m.assigns m.instances
  pub driven : IsDriven (nets_of m) m.assigns m.nexts m.instances
  pub alone : m.name ≢ codes "top" → m.instances ≡ []

-- the first module of this name
abbrev pub module_named : List ModuleText → List ℕ → Option ModuleText
module_named [] name = None
module_named (m ∷ modules) name = if bytes_eq m.name name then Some m else module_named modules name

-- which ports of a module are outputs, and an instance of it with these nets
abbrev pub outputs : ModuleText → List Bool
outputs m = map (λ (p : Port). p.output) m.ports

abbrev pub instance_of : List ℕ → ModuleText → List Wire → Instance
instance_of name m nets = record { name = name; «module» = m.name; nets = nets; drives = outputs m }

-- the instance connects the ports of the module in order: it names the module, each connected net is as wide as its port, and
-- drives is right
pub record Connects (m : ModuleText) (i : Instance) : Type 0 where
  pub named : i.module ≡ m.name
  pub widths : map (λ (w : Wire). w.width) i.nets ≡ map (λ (p : Port). p.width) m.ports
  pub drives : i.drives ≡ outputs m

-- the instance connects the first of these modules that has its module's name
pub record IsInstanceIn (modules : List ModuleText) (i : Instance) : Type 0 where
  pub whole : ModuleText
  pub found : module_named modules i.module ≡ Some whole
  pub connects : Connects whole i

-- the last module, and those before it
abbrev pub last_module : List ModuleText → Option ModuleText
last_module [] = None
last_module (m ∷ []) = Some m
last_module (m ∷ n ∷ modules) = last_module (n ∷ modules)

abbrev pub earlier : List ModuleText → List ModuleText
earlier [] = []
earlier (m ∷ []) = []
earlier (m ∷ n ∷ modules) = m ∷ earlier (n ∷ modules)

-- the last module is named top, and its instances are of earlier ones
abbrev pub EndsInTop : Option ModuleText → List ModuleText → Type 0
EndsInTop None modules = ⊥
EndsInTop (Some top) modules = (top.name ≡ codes "top") × Each (IsInstanceIn modules) top.instances

-- each module keeps its rules, their names differ, and the last one is top
pub record IsNetlist (modules : List ModuleText) : Type 0 where
  pub each : Each IsModule modules
  pub distinct : AreDistinct (map (λ m. m.name) modules)
  pub last : EndsInTop (last_module modules) (earlier modules)

-- the ports, wires and registers among nets, in the order of their declaration
abbrev pub port_by : Role → ModuleNet → Option Port
port_by role.Input net = Some (record { name = net.name; width = net.width; output = false })
port_by role.Output net = Some (record { name = net.name; width = net.width; output = true })
port_by role.Plain net = None
port_by (role.Register reset) net = None

abbrev pub wire_by : Role → ModuleNet → Option Net
wire_by role.Input net = None
wire_by role.Output net = None
wire_by role.Plain net = Some (record { name = net.name; width = net.width })
wire_by (role.Register reset) net = None

abbrev pub reg_by : Role → ModuleNet → Option RegNet
reg_by role.Input net = None
reg_by role.Output net = None
reg_by role.Plain net = None
reg_by (role.Register reset) net = Some (record { name = net.name; width = net.width; reset = reset })

abbrev pub ports_among : List ModuleNet → List Port
ports_among nets = filter_map (λ net. port_by net.role net) nets

abbrev pub wires_among : List ModuleNet → List Net
wires_among nets = filter_map (λ net. wire_by net.role net) nets

abbrev pub regs_among : List ModuleNet → List RegNet
regs_among nets = filter_map (λ net. reg_by net.role net) nets

-- a wire, a cell, an assign and a register's driver under other numbers
abbrev pub placed : (ℕ → ℕ) → Wire → Wire
placed place w = record { number = place w.number; width = w.width }

abbrev pub cell_placed : (ℕ → ℕ) → Cell → Cell
cell_placed place (cell.Const c) = cell.Const c
cell_placed place (cell.Copy a) = cell.Copy (placed place a)
cell_placed place (cell.Not a) = cell.Not (placed place a)
cell_placed place (cell.Two o a b) = cell.Two o (placed place a) (placed place b)
cell_placed place (cell.Choose s a b) = cell.Choose (placed place s) (placed place a) (placed place b)
cell_placed place (cell.Cat a b) = cell.Cat (placed place a) (placed place b)
cell_placed place (cell.Slice a h l) = cell.Slice (placed place a) h l

abbrev pub assign_placed : (ℕ → ℕ) → Assign → Assign
assign_placed place a = record { to = placed place a.to; cell = cell_placed place a.cell }

abbrev pub next_placed : (ℕ → ℕ) → Next → Next
next_placed place x = record { register = placed place x.register; from = placed place x.from }

abbrev pub instance_placed : (ℕ → ℕ) → Instance → Instance
instance_placed place i = record i { nets = map (placed place) i.nets }
