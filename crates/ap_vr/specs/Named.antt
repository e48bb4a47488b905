-- Modules as their lines say them, by names, and the text that they have.
use Rattle.std.specs.Prelude.{◌≡◌, ℕ, ◌<◌, List, [], ◌∷◌, ◌++◌, length, codes}
use Rattle.std.specs.List.{flat_map, AllByRecursion as Each}
use Rattle.ap_net.specs.Names.{IsNetName}
use Rattle.ap_net.specs.Text.{port_text, wire_line}
use Rattle.ap_vr.specs.declared.line.Line.{Line}
use Rattle.ap_vr.specs.declared.line.Line.TheVariants as line
use Rattle.ap_vr.specs.declared.module.NamedModule.{NamedModule}
use Rattle.ap_vr.specs.LineTexts.{IsPort, IsDeclared, IsAssign, IsNext, IsInstance, register_line, named_assign_line, named_always_line, named_instance_line}

-- a module of which nothing but its name stands there yet
abbrev pub blank : ℕ → List ℕ → NamedModule
blank at name = record { line = at; name = name; ports = []; wires = []; regs = []; assigns = []; nexts = []; instances = [] }

-- a module with what one more line says
abbrev pub grown : NamedModule → Line → NamedModule
grown m (line.Module name) = m
grown m line.Clock = m
grown m line.Reset = m
grown m (line.Port p more) = record m { ports = m.ports ++ p ∷ [] }
grown m line.Close = m
grown m (line.Wire n) = record m { wires = m.wires ++ n ∷ [] }
grown m (line.Reg n) = record m { regs = m.regs ++ n ∷ [] }
grown m (line.Assign a) = record m { assigns = m.assigns ++ a ∷ [] }
grown m (line.Always x) = record m { nexts = m.nexts ++ x ∷ [] }
grown m (line.Instance i) = record m { instances = m.instances ++ i ∷ [] }
grown m line.End = m

-- the head of a module as far as its ports, each after the comma of the line before it
abbrev pub named_head : NamedModule → List ℕ
named_head m = codes "module " ++ m.name ++ codes " (\n  input clk,\n  input rst" ++ flat_map port_text m.ports

-- the lines between the head and the end
abbrev pub named_body : NamedModule → List ℕ
named_body m = flat_map wire_line m.wires ++ flat_map register_line m.regs ++ flat_map named_assign_line m.assigns
    ++ flat_map named_always_line m.nexts ++ flat_map named_instance_line m.instances

-- a module
abbrev pub named_module_text : NamedModule → List ℕ
named_module_text m = named_head m ++ codes "\n);\n" ++ named_body m ++ codes "endmodule\n"

-- modules, one after another
abbrev pub named_text : List NamedModule → List ℕ
named_text modules = flat_map named_module_text modules

-- what a module of a text keeps: its names and numbers are such as lines may have, it has a port, and only top has instances
pub record IsNamedModule (m : NamedModule) : Type 0 where
  pub name : IsNetName m.name
  pub some : 0 < length m.ports
  pub ports : Each IsPort m.ports
  pub wires : Each IsDeclared m.wires
  pub regs : Each IsDeclared m.regs
  pub assigns : Each IsAssign m.assigns
  pub nexts : Each IsNext m.nexts
  pub instances : Each IsInstance m.instances
  pub alone : (m.name ≡ codes "top" → ⊥) → m.instances ≡ []
