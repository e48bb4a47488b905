-- The netlist that modules without fault make: names become numbers, and the reset values go to the registers.
use Rattle.std.specs.Prelude.{◌≡◌, ℕ, ◌<◌, ◌≤◌, ◌^◌, Bool, List, [], ◌∷◌, ◌++◌, length, map, find, Option}
use Rattle.std.specs.List.{AllByRecursion as Each}
use Rattle.std.specs.Option.{option_map_or}
use Rattle.std.specs.Str.{bytes_eq}
use Rattle.ap_net.specs.declared.cell.Cell.{Cell}
use Rattle.ap_net.specs.declared.cell.Cell.TheVariants as cell
use Rattle.ap_net.specs.declared.cell.Wire.{Wire}
use Rattle.ap_net.specs.declared.net.Assign.{Assign}
use Rattle.ap_net.specs.declared.net.Instance.{Instance}
use Rattle.ap_net.specs.declared.net.Net.{Net}
use Rattle.ap_net.specs.declared.net.Next.{Next}
use Rattle.ap_net.specs.declared.net.Port.{Port}
use Rattle.ap_net.specs.declared.net.RegNet.{RegNet}
use Rattle.ap_net.specs.Modules.{IsNetlist, ModuleText, module_of}
use Rattle.ap_net.specs.Text.{Spells, netlist_text}
use Rattle.ap_vr.specs.declared.fault.NetFault.{NetFault}
use Rattle.ap_vr.specs.declared.fault.NetFault.TheVariants.{At, NoMemory}
use Rattle.ap_vr.specs.declared.fault.NetKind.{NetKind}
use Rattle.ap_vr.specs.declared.line.Connection.{Connection}
use Rattle.ap_vr.specs.declared.line.NamedAssign.{NamedAssign}
use Rattle.ap_vr.specs.declared.line.NamedInstance.{NamedInstance}
use Rattle.ap_vr.specs.declared.line.NamedNext.{NamedNext}
use Rattle.ap_vr.specs.declared.line.Right.{Right}
use Rattle.ap_vr.specs.declared.line.Right.TheVariants as right
use Rattle.ap_vr.specs.declared.module.NamedModule.{NamedModule}
use Rattle.ap_vr.specs.declared.nets.NetForm.{NetForm}
use Rattle.ap_vr.specs.Judged.{IsFaultless, IsTextFault}
use Rattle.ap_vr.specs.Named.{IsNamedModule, named_text}
use Rattle.ap_vr.specs.Nets.{net_forms, number_of, width_of}
use Rattle.ap_vr.specs.Reading.{EndsInTop, text_limit}
use Rattle.ap_vr.specs.Scope.{module_named, usable}
use Rattle.ap_vr.specs.Tables.{with_names}

-- the net of a name
abbrev pub wire_of : List (List ℕ) → List NetForm → List ℕ → Wire
wire_of names forms name = record { number = number_of names name; width = width_of names forms name }

abbrev pub cell_of : (List ℕ → Wire) → Right → Cell
cell_of wire (right.Const width value) = cell.Const value
cell_of wire (right.Copy a) = cell.Copy (wire a)
cell_of wire (right.Not a) = cell.Not (wire a)
cell_of wire (right.Two o a b) = cell.Two o (wire a) (wire b)
cell_of wire (right.Choose s a b) = cell.Choose (wire s) (wire a) (wire b)
cell_of wire (right.Cat a b) = cell.Cat (wire a) (wire b)
cell_of wire (right.Slice a h l) = cell.Slice (wire a) h l

-- the places of a slice are numbers of 32 bits
abbrev pub HasSmallPlaces : Right → Type 0
HasSmallPlaces (right.Const width value) = Unit {0}
HasSmallPlaces (right.Copy a) = Unit {0}
HasSmallPlaces (right.Not a) = Unit {0}
HasSmallPlaces (right.Two o a b) = Unit {0}
HasSmallPlaces (right.Choose s a b) = Unit {0}
HasSmallPlaces (right.Cat a b) = Unit {0}
HasSmallPlaces (right.Slice a h l) = (h < 2 ^ 32) × (l < 2 ^ 32)

abbrev pub HaveSmallPlaces : List NamedAssign → Type 0
HaveSmallPlaces assigns = Each (λ (a : NamedAssign). HasSmallPlaces a.right) assigns

abbrev pub assign_of : (List ℕ → Wire) → NamedAssign → Assign
assign_of wire a = record { to = wire a.to; cell = cell_of wire a.right }

abbrev pub next_of : (List ℕ → Wire) → NamedNext → Next
next_of wire x = record { register = wire x.register; from = wire x.from }

abbrev pub output_of : Port → Bool
output_of p = p.output

-- the ports of a module that is found, and a net that is connected
abbrev pub ports_by : Option NamedModule → List Port
ports_by found = option_map_or (λ (m : NamedModule). m.ports) found []

abbrev pub net_joined : (List ℕ → Wire) → Connection → Wire
net_joined wire c = wire c.net

-- an instance, whose module's ports say which of its nets it drives
abbrev pub instance_of : (List ℕ → Option NamedModule) → (List ℕ → Wire) → NamedInstance → Instance
instance_of found wire i = record {
  name = i.name;
  «module» = i.module;
  nets = map (net_joined wire) i.connections;
  drives = map output_of (ports_by (found i.module));
}

abbrev pub register_name : NamedNext → List ℕ
register_name x = x.register

-- no register is driven by two of these lines
abbrev pub AreClockedOnce : List NamedNext → Type 0
AreClockedOnce nexts = with_names [] (map register_name nexts) ≡ map register_name nexts

-- the value that a register takes at the reset edge, by the line that drives it
abbrev pub reset_among : List NamedNext → List ℕ → ℕ
reset_among nexts name = option_map_or (λ (x : NamedNext). x.reset) (find (λ (x : NamedNext). bytes_eq name x.register) nexts) 0

abbrev pub reg_of : List NamedNext → Net → RegNet
reg_of nexts n = record { name = n.name; width = n.width; reset = reset_among nexts n.name }

-- a module, where its nets are these by their names
abbrev pub built_by : (List ℕ → Option NamedModule) → (List ℕ → Wire) → NamedModule → ModuleText
built_by found wire m = module_of m.name m.ports m.wires (map (reg_of m.nexts) m.regs) (map (assign_of wire) m.assigns) (map (next_of wire) m.nexts) (map (instance_of found wire) m.instances)

abbrev pub built_in : (List ℕ → Option NamedModule) → NamedModule → ModuleText
built_in found m = built_by found (wire_of (usable m) (net_forms m)) m

-- some modules, each of which may have instances of those before it
abbrev pub built_after : List NamedModule → List NamedModule → List ModuleText
built_after earlier [] = []
built_after earlier (m ∷ modules) = built_in (module_named earlier) m ∷ built_after (earlier ++ m ∷ []) modules

abbrev pub built : List NamedModule → List ModuleText
built modules = built_after [] modules

-- modules without fault make a netlist, and it has their text
abbrev pub FaultlessBuild : Type 0
FaultlessBuild = (modules : List NamedModule) → Each IsNamedModule modules → EndsInTop modules → IsFaultless modules → IsNetlist (built modules) × (netlist_text (built modules) ≡ named_text modules)

-- a text spells one netlist
abbrev pub SpellsOne : Type 0
SpellsOne = (text : List ℕ) (a b : List ModuleText) → IsNetlist a → IsNetlist b → Spells a text → Spells b text → a ≡ b

-- the netlist is the only one that the text spells
abbrev pub IsOnly : List ℕ → List ModuleText → Type 0
IsOnly text net = (other : List ModuleText) → IsNetlist other → Spells other text → net ≡ other

-- the text has no fault
abbrev pub IsWithoutFault : List ℕ → Type 0
IsWithoutFault text = (line : ℕ) (kind : NetKind) → IsTextFault text (At line kind) → ⊥

-- where the text is that of a netlist, and within the limit, it was want of memory
abbrev pub IsWantOfMemory : List ℕ → NetFault → Type 0
IsWantOfMemory text why = (net : List ModuleText) → IsNetlist net → Spells net text → length text ≤ text_limit → why ≡ NoMemory
