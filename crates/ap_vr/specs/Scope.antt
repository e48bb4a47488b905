-- Names that lines use without a declaration, and names that are declared twice. These are the project's own rules.
use Rattle.std.specs.Prelude.{ℕ, ◌+◌, ◌==◌, ◌&&◌, not, Bool, true, false, if◌then◌else◌, List, [], ◌∷◌, ◌++◌, length, map, find, zip, codes, Option, Some, None}
use Rattle.std.specs.List.{list_all, list_any, position_from}
use Rattle.std.specs.Option.{option_or}
use Rattle.std.specs.Str.{bytes_eq}
use Rattle.ap_net.specs.declared.net.Net.{Net}
use Rattle.ap_net.specs.declared.net.Port.{Port}
use Rattle.ap_vr.specs.declared.line.Right.{Right}
use Rattle.ap_vr.specs.declared.line.Right.TheVariants as right
use Rattle.ap_vr.specs.declared.line.NamedAssign.{NamedAssign}
use Rattle.ap_vr.specs.declared.line.NamedNext.{NamedNext}
use Rattle.ap_vr.specs.declared.line.Connection.{Connection}
use Rattle.ap_vr.specs.declared.line.NamedInstance.{NamedInstance}
use Rattle.ap_vr.specs.declared.module.NamedModule.{NamedModule}

-- the name is one of these
abbrev pub is_among : List (List ℕ) → List ℕ → Bool
is_among names name = list_any (bytes_eq name) names

abbrev pub port_name : Port → List ℕ
port_name p = p.name

abbrev pub net_name : Net → List ℕ
net_name n = n.name

abbrev pub instance_name : NamedInstance → List ℕ
instance_name i = i.name

abbrev pub module_name : NamedModule → List ℕ
module_name m = m.name

-- the two ports that every module has
abbrev pub own_names : List (List ℕ)
own_names = codes "clk" ∷ codes "rst" ∷ []

-- the names of a module's nets, in the order of their lines
abbrev pub net_names : NamedModule → List (List ℕ)
net_names m = map port_name m.ports ++ map net_name m.wires ++ map net_name m.regs

-- the names that a line may use: those of nets, and clk and rst, which a line may try to drive
abbrev pub usable : NamedModule → List (List ℕ)
usable m = net_names m ++ own_names

-- the lines in which a module's ports, wires, registers, assigns, drivers of registers and instances begin
abbrev pub ports_from : NamedModule → ℕ
ports_from m = m.line + 3

abbrev pub wires_from : NamedModule → ℕ
wires_from m = m.line + 4 + length m.ports

abbrev pub regs_from : NamedModule → ℕ
regs_from m = wires_from m + length m.wires

abbrev pub assigns_from : NamedModule → ℕ
assigns_from m = regs_from m + length m.regs

abbrev pub nexts_from : NamedModule → ℕ
nexts_from m = assigns_from m + length m.assigns

abbrev pub instances_from : NamedModule → ℕ
instances_from m = nexts_from m + length m.nexts

-- a right side names declared nets alone
abbrev pub knows_right : (List ℕ → Bool) → Right → Bool
knows_right known (right.Const width value) = true
knows_right known (right.Copy a) = known a
knows_right known (right.Not a) = known a
knows_right known (right.Two o a b) = known a && known b
knows_right known (right.Choose s a b) = known s && known a && known b
knows_right known (right.Cat a b) = known a && known b
knows_right known (right.Slice a h l) = known a

abbrev pub knows_assign : (List ℕ → Bool) → NamedAssign → Bool
knows_assign known a = known a.to && knows_right known a.right

abbrev pub knows_next : (List ℕ → Bool) → NamedNext → Bool
knows_next known x = known x.register && known x.from

-- a connection is of this port
abbrev pub is_of_port : Connection × Port → Bool
is_of_port q = bytes_eq q.0.port q.1.name

-- the connections are those of these ports, in order
abbrev pub connects : List Connection → List Port → Bool
connects connections ports = (length connections == length ports) && list_all is_of_port (zip connections ports)

abbrev pub knows_nets : (List ℕ → Bool) → List Connection → Bool
knows_nets known connections = list_all (λ (c : Connection). known c.net) connections

-- the first of these modules that has this name
abbrev pub module_named : List NamedModule → List ℕ → Option NamedModule
module_named modules name = find (λ (m : NamedModule). bytes_eq name m.name) modules

abbrev pub connects_to : (List ℕ → Bool) → NamedInstance → Option NamedModule → Bool
connects_to known i None = false
connects_to known i (Some m) = connects i.connections m.ports && knows_nets known i.connections

-- an instance is of a module that is found, and connects declared nets to its ports in order
abbrev pub knows_instance : (List ℕ → Option NamedModule) → (List ℕ → Bool) → NamedInstance → Bool
knows_instance found known i = connects_to known i (found i.module)

-- the first of some lines, whose numbers begin with this one, that uses a name which isn't known
abbrev pub unknown_assign : (List ℕ → Bool) → ℕ → List NamedAssign → Option ℕ
unknown_assign known from assigns = position_from (λ (a : NamedAssign). not (knows_assign known a)) from assigns

abbrev pub unknown_next : (List ℕ → Bool) → ℕ → List NamedNext → Option ℕ
unknown_next known from nexts = position_from (λ (x : NamedNext). not (knows_next known x)) from nexts

abbrev pub unknown_instance : (List ℕ → Option NamedModule) → (List ℕ → Bool) → ℕ → List NamedInstance → Option ℕ
unknown_instance found known from instances = position_from (λ (i : NamedInstance). not (knows_instance found known i)) from instances

-- the first line of a module that uses a name that isn't declared, where instances are of modules that are found
abbrev pub unknown_by : (List ℕ → Option NamedModule) → (List ℕ → Bool) → NamedModule → Option ℕ
unknown_by found known m = option_or (option_or (unknown_assign known (assigns_from m) m.assigns) (unknown_next known (nexts_from m) m.nexts)) (unknown_instance found known (instances_from m) m.instances)

unfoldable pub unknown_in : (List ℕ → Option NamedModule) → NamedModule → Option ℕ
unknown_in found m = unknown_by found (is_among (usable m)) m

-- the first line that a rule finds in one of some modules, each of which may have instances of those before it
abbrev pub first_by : ((List ℕ → Option NamedModule) → NamedModule → Option ℕ) → List NamedModule → List NamedModule → Option ℕ
first_by rule earlier [] = None
first_by rule earlier (m ∷ modules) = option_or (rule (module_named earlier) m) (first_by rule (earlier ++ m ∷ []) modules)

abbrev pub first_unknown : List NamedModule → Option ℕ
first_unknown modules = first_by unknown_in [] modules

-- the first of some lines, whose numbers begin with this one, that declares a name which stands before it or is one of these
abbrev pub first_repeat : List (List ℕ) → ℕ → List (List ℕ) → Option ℕ
first_repeat before line [] = None
first_repeat before line (name ∷ names) = if is_among before name then Some line else first_repeat (before ++ name ∷ []) (line + 1) names

-- the first line of a module that declares a net or an instance whose name is taken
unfoldable pub repeated_in : NamedModule → Option ℕ
repeated_in m = option_or (option_or (option_or (first_repeat own_names (ports_from m) (map port_name m.ports))
    (first_repeat (own_names ++ map port_name m.ports) (wires_from m) (map net_name m.wires)))
    (first_repeat ((own_names ++ map port_name m.ports) ++ map net_name m.wires) (regs_from m) (map net_name m.regs)))
    (first_repeat (((own_names ++ map port_name m.ports) ++ map net_name m.wires) ++ map net_name m.regs) (instances_from m) (map instance_name m.instances))

-- and of some modules, whose own names differ from these and from each other's
abbrev pub repeated_after : List (List ℕ) → List NamedModule → Option ℕ
repeated_after names [] = None
repeated_after names (m ∷ modules) = if is_among names m.name then Some m.line else option_or (repeated_in m) (repeated_after (names ++ m.name ∷ []) modules)

abbrev pub first_repeated : List NamedModule → Option ℕ
first_repeated modules = repeated_after [] modules
