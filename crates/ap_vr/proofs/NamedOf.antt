-- The modules by names that a netlist is, and that their text is its own.
use Rattle.std.proofs.Common.{◌≡◌, ℕ, ◌+◌, List, [], ◌∷◌, ◌++◌, map, refl, sym, ap, ◌∙◌}
use Rattle.std.specs.List.{flat_map}
use Rattle.std.specs.Prelude.{codes}
use Rattle.ap_net.specs.declared.cell.Cell.{Cell}
use Rattle.ap_net.specs.declared.cell.Cell.TheVariants as cell
use Rattle.ap_net.specs.declared.cell.Wire.{Wire}
use Rattle.ap_net.specs.declared.net.Assign.{Assign}
use Rattle.ap_net.specs.declared.net.Instance.{Instance}
use Rattle.ap_net.specs.declared.net.ModuleNet.{ModuleNet}
use Rattle.ap_net.specs.declared.net.Net.{Net}
use Rattle.ap_net.specs.declared.net.Next.{Next}
use Rattle.ap_net.specs.declared.net.Port.{Port}
use Rattle.ap_net.specs.declared.net.RegNet.{RegNet}
use Rattle.ap_net.specs.Modules.{ModuleText, module_named, nets_of, reset_at}
use Rattle.ap_net.specs.Text.{always_line, assign_line, cell_text, connections_text, instance_line, module_text, ports_in, reg_line, wire_line, wire_name}
use Rattle.ap_vr.specs.declared.line.Connection.{Connection}
use Rattle.ap_vr.specs.declared.line.NamedAssign.{NamedAssign}
use Rattle.ap_vr.specs.declared.line.NamedInstance.{NamedInstance}
use Rattle.ap_vr.specs.declared.line.NamedNext.{NamedNext}
use Rattle.ap_vr.specs.declared.line.Right.{Right}
use Rattle.ap_vr.specs.declared.line.Right.TheVariants as right
use Rattle.ap_vr.specs.declared.module.NamedModule.{NamedModule}
use Rattle.ap_vr.specs.LineTexts.{joined_text, named_always_line, named_assign_line, named_instance_line, register_line, right_text}
use Rattle.ap_vr.specs.Named.{named_head, named_module_text, named_text}
use Rattle.ap_vr.specs.Reading.{AreNumbered, line_count}
use Rattle.ap_vr.proofs.BuiltText.{regroup}

abbrev pub right_of : List ModuleNet → ℕ → Cell → Right
right_of nets bits (cell.Const value) = right.Const bits value
right_of nets bits (cell.Copy a) = right.Copy (wire_name nets a)
right_of nets bits (cell.Not a) = right.Not (wire_name nets a)
right_of nets bits (cell.Two o a b) = right.Two o (wire_name nets a) (wire_name nets b)
right_of nets bits (cell.Choose s a b) = right.Choose (wire_name nets s) (wire_name nets a) (wire_name nets b)
right_of nets bits (cell.Cat a b) = right.Cat (wire_name nets a) (wire_name nets b)
right_of nets bits (cell.Slice a h l) = right.Slice (wire_name nets a) h l

abbrev pub assign_named : List ModuleNet → Assign → NamedAssign
assign_named nets a = record { to = wire_name nets a.to; right = right_of nets a.to.width a.cell }

abbrev pub next_named : List ModuleNet → Next → NamedNext
next_named nets x = record { register = wire_name nets x.register; width = x.register.width; reset = reset_at nets x.register.number; from = wire_name nets x.from }

abbrev pub net_of_reg : RegNet → Net
net_of_reg r = record { name = r.name; width = r.width }

-- the connections of an instance whose module has these ports
abbrev pub connections_of : List ModuleNet → List Port → List Wire → List Connection
connections_of nets [] wires = []
connections_of nets (p ∷ ports) [] = []
connections_of nets (p ∷ ports) (w ∷ wires) = record { port = p.name; net = wire_name nets w } ∷ connections_of nets ports wires

abbrev pub instance_named : List ModuleText → List ModuleNet → Instance → NamedInstance
instance_named before nets i = record { name = i.name; «module» = i.module; connections = connections_of nets (ports_in (module_named before i.module)) i.nets }

-- a module that begins in this line, and has instances of these
abbrev pub named_of : List ModuleText → ℕ → ModuleText → NamedModule
named_of before line m = record {
  line = line;
  name = m.name;
  ports = m.ports;
  wires = m.wires;
  regs = map net_of_reg m.regs;
  assigns = map (assign_named (nets_of m)) m.assigns;
  nexts = map (next_named (nets_of m)) m.nexts;
  instances = map (instance_named before (nets_of m)) m.instances;
}

abbrev pub all_named : List ModuleText → ℕ → List ModuleText → List NamedModule
all_named before line [] = []
all_named before line (m ∷ modules) = named_of before line m ∷ all_named before (line + line_count (named_of before line m)) modules

pub all_numbered : (before : List ModuleText) (line : ℕ) (modules : List ModuleText) → AreNumbered line (all_named before line modules)
all_numbered before line [] = tt
all_numbered before line (m ∷ modules) = (refl, all_numbered before (line + line_count (named_of before line m)) modules)

-- the texts of lines
lines_same : {X Y : Type 0} (f : X → List ℕ) (g : Y → List ℕ) (h : X → Y) → ((x : X) → g (h x) ≡ f x) → (xs : List X) → flat_map g (map h xs) ≡ flat_map f xs
lines_same f g h e [] = refl
lines_same f g h e (x ∷ xs) = ap (λ l. l ++ flat_map g (map h xs)) (e x) ∙ ap (λ l. f x ++ l) (lines_same f g h e xs)

right_same : (nets : List ModuleNet) (bits : ℕ) (c : Cell) → right_text (right_of nets bits c) ≡ cell_text nets bits c
right_same nets bits (cell.Const value) = refl
right_same nets bits (cell.Copy a) = refl
right_same nets bits (cell.Not a) = refl
right_same nets bits (cell.Two o a b) = refl
right_same nets bits (cell.Choose s a b) = refl
right_same nets bits (cell.Cat a b) = refl
right_same nets bits (cell.Slice a h l) = refl

assign_same : (nets : List ModuleNet) (a : Assign) → named_assign_line (assign_named nets a) ≡ assign_line nets a
assign_same nets a = ap (λ t. codes "  assign " ++ wire_name nets a.to ++ codes " = " ++ t ++ codes ";\n") (right_same nets a.to.width a.cell)

next_same : (nets : List ModuleNet) (x : Next) → named_always_line (next_named nets x) ≡ always_line nets x
unfolding always_line
next_same nets x = refl

connections_same : (nets : List ModuleNet) (ports : List Port) (wires : List Wire) → flat_map joined_text (connections_of nets ports wires) ≡ connections_text nets ports wires
connections_same nets [] wires = refl
connections_same nets (p ∷ ports) [] = refl
connections_same nets (p ∷ ports) (w ∷ wires) = ap (λ l. (codes ", ." ++ p.name ++ codes "(" ++ wire_name nets w ++ codes ")") ++ l) (connections_same nets ports wires)

instance_same : (before : List ModuleText) (nets : List ModuleNet) (i : Instance) → named_instance_line (instance_named before nets i) ≡ instance_line before nets i
instance_same before nets i = ap (λ l. codes "  " ++ i.module ++ codes " " ++ i.name ++ codes " (.clk(clk), .rst(rst)" ++ l ++ codes ");\n") (connections_same nets (ports_in (module_named before i.module)) i.nets)

named_same : (before : List ModuleText) (line : ℕ) (m : ModuleText) → named_module_text (named_of before line m) ≡ module_text before m
named_same before line m =
    let nets = nets_of m in
    let head : List ℕ = named_head (named_of before line m) ++ codes "\n);\n" in
    let w : List ℕ = flat_map wire_line m.wires in
    ap (λ t. t ++ codes "endmodule\n")
    (ap (λ l. head ++ (w ++ l ++ flat_map named_assign_line (map (assign_named nets) m.assigns) ++ flat_map named_always_line (map (next_named nets) m.nexts) ++ flat_map named_instance_line (map (instance_named before nets) m.instances)))
    (lines_same reg_line register_line net_of_reg (λ r. refl) m.regs)
    ∙ ap (λ l. head ++ (w ++ flat_map reg_line m.regs ++ l ++ flat_map named_always_line (map (next_named nets) m.nexts) ++ flat_map named_instance_line (map (instance_named before nets) m.instances)))
    (lines_same (assign_line nets) named_assign_line (assign_named nets) (assign_same nets) m.assigns)
    ∙ ap (λ l. head ++ (w ++ flat_map reg_line m.regs ++ flat_map (assign_line nets) m.assigns ++ l ++ flat_map named_instance_line (map (instance_named before nets) m.instances)))
    (lines_same (always_line nets) named_always_line (next_named nets) (next_same nets) m.nexts)
    ∙ ap (λ l. head ++ (w ++ flat_map reg_line m.regs ++ flat_map (assign_line nets) m.assigns ++ flat_map (always_line nets) m.nexts ++ l))
    (lines_same (instance_line before nets) named_instance_line (instance_named before nets) (instance_same before nets) m.instances)
    ∙ sym (regroup head w (flat_map reg_line m.regs) (flat_map (assign_line nets) m.assigns) (flat_map (always_line nets) m.nexts) (flat_map (instance_line before nets) m.instances)))

pub text_named : (before : List ModuleText) (line : ℕ) (modules : List ModuleText) → named_text (all_named before line modules) ≡ flat_map (module_text before) modules
text_named before line [] = refl
text_named before line (m ∷ modules) =
    ap (λ l. l ++ named_text (all_named before (line + line_count (named_of before line m)) modules)) (named_same before line m)
    ∙ ap (λ l. module_text before m ++ l) (text_named before (line + line_count (named_of before line m)) modules)
