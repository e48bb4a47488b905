-- The lines of a netlist, one after another, are its text.
use Rattle.std.proofs.Common.{◌≡◌, ℕ, ◌<◌, Bool, true, false, List, [], ◌∷◌, ◌++◌, length, map, refl, sym, ap, ◌∙◌, arith, append_assoc, append-nil}
use Rattle.std.specs.Prelude.{if◌then◌else◌, codes}
use Rattle.std.specs.List.{flat_map, AllByRecursion as Each}
use Rattle.std.proofs.lemmas.Grind.{flat_map-append}
use Rattle.std.proofs.lemmas.List.Folds.{flat_map-map}
use Rattle.ap_net.specs.declared.net.Port.{Port}
use Rattle.ap_net.specs.Modules.{ModuleText, IsModule, IsNetlist, earlier, nets_of}
use Rattle.ap_net.specs.Text.{always_line, assign_line, instance_line, module_head, module_text, netlist_text, port_text, range_text, reg_line, wire_line}
use Rattle.ap_vw.specs.NetLines.{body_lines, lines_of, module_lines, netlist_lines, port_line, port_lines, text_of}

pub text_append : (xs ys : List (List ℕ)) → text_of (xs ++ ys) ≡ text_of xs ++ text_of ys
text_append xs ys = flat_map-append (λ (line : List ℕ). line) xs ys

text_map : {X : Type 0} (f : X → List ℕ) (xs : List X) → text_of (map f xs) ≡ flat_map f xs
text_map f xs = flat_map-map (λ (line : List ℕ). line) f xs

-- a port after the comma of the line before it, and what ends its line
port_led : (p : Port) (more : Bool) → codes ",\n" ++ port_line p more ≡ port_text p ++ (if more then codes ",\n" else codes "\n")
port_led p more = by_case p.output (if more then codes ",\n" else codes "\n") where
  by_case : (output : Bool) (end : List ℕ) → codes ",\n" ++ ((if output then codes "  output " else codes "  input ") ++ range_text p.width ++ codes " " ++ p.name ++ end) ≡ (if output then codes ",\n  output " else codes ",\n  input ") ++ range_text p.width ++ codes " " ++ p.name ++ end
  by_case true end = refl
  by_case false end = refl

-- the ports after the comma of the line before them
ports_led : (p : Port) (ports : List Port) → codes ",\n" ++ text_of (port_lines (p ∷ ports)) ≡ flat_map port_text (p ∷ ports) ++ codes "\n"
ports_led p [] =
    ap (λ t. codes ",\n" ++ t) (append-nil (port_line p false)) ∙ port_led p false ∙ ap (λ t. t ++ codes "\n") (sym (append-nil (port_text p)))
ports_led p (q ∷ ports) =
    sym (append_assoc (codes ",\n") (port_line p true) (text_of (port_lines (q ∷ ports))))
    ∙ ap (λ t. t ++ text_of (port_lines (q ∷ ports))) (port_led p true)
    ∙ append_assoc (port_text p) (codes ",\n") (text_of (port_lines (q ∷ ports)))
    ∙ ap (λ t. port_text p ++ t) (ports_led q ports)
    ∙ sym (append_assoc (port_text p) (flat_map port_text (q ∷ ports)) (codes "\n"))

some_ports : (ports : List Port) → 0 < length ports → codes ",\n" ++ text_of (port_lines ports) ≡ flat_map port_text ports ++ codes "\n"
some_ports [] h = absurd (omega (arith, h))
some_ports (p ∷ ports) h = ports_led p ports

-- texts one after another
grouped : (w r a n i e : List ℕ) → w ++ r ++ a ++ n ++ i ++ (e ++ []) ≡ w ++ r ++ a ++ n ++ i ++ e
grouped w r a n i e = ap (λ t. w ++ r ++ a ++ n ++ i ++ t) (append-nil e)

body_text : (modules : List ModuleText) (m : ModuleText) → text_of (body_lines modules m m.wires m.regs m.assigns m.nexts m.instances)
    ≡ flat_map wire_line m.wires ++ flat_map reg_line m.regs ++ flat_map (assign_line (nets_of m)) m.assigns ++ flat_map (always_line (nets_of m)) m.nexts ++ flat_map (instance_line modules (nets_of m)) m.instances ++ codes "endmodule\n"
body_text modules m =
    let w = map wire_line m.wires in
    let r = map reg_line m.regs in
    let a = map (assign_line (nets_of m)) m.assigns in
    let n = map (always_line (nets_of m)) m.nexts in
    let i = map (instance_line modules (nets_of m)) m.instances in
    text_append (w ++ r ++ a ++ n ++ i) (codes "endmodule\n" ∷ [])
    ∙ (λ j. (text_append (w ++ r ++ a ++ n) i ∙ (λ k. (text_append (w ++ r ++ a) n ∙ (λ l. (text_append (w ++ r) a ∙ (λ o. (text_append w r ∙ (λ q. text_map wire_line m.wires q ++ text_map reg_line m.regs q)) o ++ text_map (assign_line (nets_of m)) m.assigns o)) l ++ text_map (always_line (nets_of m)) m.nexts l)) k ++ text_map (instance_line modules (nets_of m)) m.instances k)) j ++ append-nil (codes "endmodule\n") j)

-- the head and what follows it
head_with : (name ports rest body : List ℕ) → codes ",\n" ++ ports ≡ rest ++ codes "\n" → (codes "module " ++ name ++ codes " (\n") ++ (codes "  input clk,\n" ++ (codes "  input rst,\n" ++ (ports ++ (codes ");\n" ++ body)))) ≡ codes "module " ++ name ++ codes " (\n  input clk,\n  input rst" ++ rest ++ codes "\n);\n" ++ body
head_with name ports rest body h =
    let lead : List ℕ = codes "module " ++ name ++ codes " (\n  input clk,\n  input rst" in
    let start : (codes "module " ++ name ++ codes " (\n") ++ (codes "  input clk,\n" ++ (codes "  input rst,\n" ++ (ports ++ (codes ");\n" ++ body)))) ≡ lead ++ ((codes ",\n" ++ ports) ++ (codes ");\n" ++ body)) =
    ap (λ t. codes "module " ++ t) (append_assoc name (codes " (\n") (codes "  input clk,\n" ++ (codes "  input rst,\n" ++ (ports ++ (codes ");\n" ++ body))))
    ∙ sym (append_assoc name (codes " (\n  input clk,\n  input rst") (codes ",\n" ++ (ports ++ (codes ");\n" ++ body))))) in
    start ∙ ap (λ t. lead ++ (t ++ (codes ");\n" ++ body))) h
    ∙ ap (λ t. lead ++ t) (append_assoc rest (codes "\n") (codes ");\n" ++ body))
    ∙ sym (append_assoc lead rest (codes "\n);\n" ++ body))
    ∙ sym (append_assoc (lead ++ rest) (codes "\n);\n") body)

module_is : (modules : List ModuleText) (m : ModuleText) → 0 < length m.ports → text_of (module_lines modules m) ≡ module_text modules m
module_is modules m some =
    let body = body_lines modules m m.wires m.regs m.assigns m.nexts m.instances in
    ap (λ t. (codes "module " ++ m.name ++ codes " (\n") ++ (codes "  input clk,\n" ++ (codes "  input rst,\n" ++ t))) (text_append (port_lines m.ports) (codes ");\n" ∷ body))
    ∙ head_with m.name (text_of (port_lines m.ports)) (flat_map port_text m.ports) (text_of body) (some_ports m.ports some)
    ∙ ap (λ t. module_head m ++ t) (body_text modules m)
    ∙ regroup (module_head m) (flat_map wire_line m.wires) (flat_map reg_line m.regs) (flat_map (assign_line (nets_of m)) m.assigns) (flat_map (always_line (nets_of m)) m.nexts) (flat_map (instance_line modules (nets_of m)) m.instances) (codes "endmodule\n") where
      regroup : (h w r a n i e : List ℕ) → h ++ (w ++ r ++ a ++ n ++ i ++ e) ≡ h ++ w ++ r ++ a ++ n ++ i ++ e
      regroup h w r a n i e = simp append_assoc

modules_are : (within modules : List ModuleText) → Each IsModule modules → text_of (lines_of within modules) ≡ flat_map (module_text within) modules
modules_are within [] h = refl
modules_are within (m ∷ modules) h =
    text_append (module_lines within m) (lines_of within modules) ∙ (λ j. module_is within m h.0.ports j ++ modules_are within modules h.1 j)

-- all lines of a netlist are its text
pub lines_are_text : (modules : List ModuleText) → IsNetlist modules → text_of (netlist_lines modules) ≡ netlist_text modules
lines_are_text modules h = modules_are (earlier modules) modules h.each
