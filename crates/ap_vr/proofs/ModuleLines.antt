-- Modules as lists of lines: their text, that each line is due in its place, and that the lines give the modules back.
use Rattle.std.proofs.Common.{◌≡◌, ℕ, suc, ◌+◌, ◌<◌, Bool, true, false, List, [], ◌∷◌, ◌++◌, length, map, refl, sym, ap, ◌∙◌, arith, append_assoc, append-nil}
use Rattle.std.specs.List.{AllByRecursion as Each, flat_map}
use Rattle.std.specs.Prelude.{codes, if◌then◌else◌}
use Rattle.std.proofs.lemmas.Grind.{flat_map-append}
use Rattle.ap_net.specs.declared.net.Net.{Net}
use Rattle.ap_net.specs.declared.net.Port.{Port}
use Rattle.ap_net.specs.Text.{port_text, range_text}
use Rattle.ap_net.proofs.Lists.{All-join, All-map}
use Rattle.ap_vr.specs.declared.line.Line.{Line}
use Rattle.ap_vr.specs.declared.line.Line.TheVariants as line
use Rattle.ap_vr.specs.declared.line.NamedAssign.{NamedAssign}
use Rattle.ap_vr.specs.declared.line.NamedInstance.{NamedInstance}
use Rattle.ap_vr.specs.declared.line.NamedNext.{NamedNext}
use Rattle.ap_vr.specs.declared.module.NamedModule.{NamedModule}
use Rattle.ap_vr.specs.LineTexts.{IsLine, IsPort, line_text, named_always_line, named_assign_line, named_instance_line, port_line, register_line}
use Rattle.ap_vr.specs.Named.{IsNamedModule, blank, grown, named_body, named_module_text, named_text}
use Rattle.ap_vr.specs.Reading.{AreNumbered, line_count}

-- the lines of ports: a comma follows each but the last
abbrev pub port_lines : List Port → List Line
port_lines [] = []
port_lines (p ∷ []) = line.Port p false ∷ []
port_lines (p ∷ q ∷ ports) = line.Port p true ∷ port_lines (q ∷ ports)

-- the lines of a module
abbrev pub body_lines : NamedModule → List Line
body_lines m = map line.Wire m.wires ++ map line.Reg m.regs ++ map line.Assign m.assigns ++ map line.Always m.nexts ++ map line.Instance m.instances

abbrev pub lines_in : NamedModule → List Line
lines_in m = line.Module m.name ∷ line.Clock ∷ line.Reset ∷ (port_lines m.ports ++ line.Close ∷ (body_lines m ++ line.End ∷ []))

abbrev pub all_lines : List NamedModule → List Line
all_lines modules = flat_map lines_in modules

-- a list of lines of one sort
sort_text : {X : Type 0} (f : X → Line) (t : X → List ℕ) → ((x : X) → line_text (f x) ≡ t x) → (xs : List X) → flat_map line_text (map f xs) ≡ flat_map t xs
sort_text f t e [] = refl
sort_text f t e (x ∷ xs) = ap (λ l. l ++ flat_map line_text (map f xs)) (e x) ∙ ap (λ l. t x ++ l) (sort_text f t e xs)

-- the ports, each after the comma of the line before it
port_between : (output : Bool) (range name : List ℕ) → (if output then codes ",\n  output " else codes ",\n  input ") ++ range ++ codes " " ++ name ≡ codes ",\n" ++ ((if output then codes "  output " else codes "  input ") ++ range ++ codes " " ++ name)
port_between true range name = refl
port_between false range name = refl

abbrev port_plain : Port → List ℕ
port_plain p = (if p.output then codes "  output " else codes "  input ") ++ range_text p.width ++ codes " " ++ p.name

ports_text : (p : Port) (ports : List Port) → flat_map port_text (p ∷ ports) ++ codes "\n" ≡ codes ",\n" ++ flat_map line_text (port_lines (p ∷ ports))
ports_text p [] =
    ap (λ l. l ++ codes "\n") (append-nil (port_text p) ∙ port_between p.output (range_text p.width) p.name)
    ∙ append_assoc (codes ",\n") (port_plain p) (codes "\n") ∙ ap (λ l. codes ",\n" ++ l) (sym (append-nil (port_line p false)))
ports_text p (q ∷ ports) =
    append_assoc (port_text p) (flat_map port_text (q ∷ ports)) (codes "\n") ∙ ap (λ l. port_text p ++ l) (ports_text q ports)
    ∙ ap (λ l. l ++ (codes ",\n" ++ flat_map line_text (port_lines (q ∷ ports)))) (port_between p.output (range_text p.width) p.name)
    ∙ append_assoc (codes ",\n") (port_plain p) (codes ",\n" ++ flat_map line_text (port_lines (q ∷ ports)))
    ∙ ap (λ l. codes ",\n" ++ l) (sym (append_assoc (port_plain p) (codes ",\n") (flat_map line_text (port_lines (q ∷ ports)))))

body_text : (m : NamedModule) → flat_map line_text (body_lines m) ≡ named_body m
body_text m =
    let w = map line.Wire m.wires in
    let r = map line.Reg m.regs in
    let a = map line.Assign m.assigns in
    let x = map line.Always m.nexts in
    let i = map line.Instance m.instances in
    flat_map-append line_text (w ++ r ++ a ++ x) i
    ∙ ap (λ l. l ++ flat_map line_text i) (flat_map-append line_text (w ++ r ++ a) x
    ∙ ap (λ l. l ++ flat_map line_text x) (flat_map-append line_text (w ++ r) a
    ∙ ap (λ l. l ++ flat_map line_text a) (flat_map-append line_text w r
    ∙ ap (λ l. flat_map line_text w ++ l) (sort_text line.Reg register_line (λ n. refl) m.regs))
    ∙ ap (λ l. flat_map line_text w ++ flat_map register_line m.regs ++ l) (sort_text line.Assign named_assign_line (λ a. refl) m.assigns))
    ∙ ap (λ l. flat_map line_text w ++ flat_map register_line m.regs ++ flat_map named_assign_line m.assigns ++ l) (sort_text line.Always named_always_line (λ x. refl) m.nexts))
    ∙ ap (λ l. flat_map line_text w ++ flat_map register_line m.regs ++ flat_map named_assign_line m.assigns ++ flat_map named_always_line m.nexts ++ l) (sort_text line.Instance named_instance_line (λ i. refl) m.instances)
    ∙ ap (λ l. l ++ flat_map register_line m.regs ++ flat_map named_assign_line m.assigns ++ flat_map named_always_line m.nexts ++ flat_map named_instance_line m.instances) (sort_text line.Wire (λ n. line_text (line.Wire n)) (λ n. refl) m.wires)

six : (n h p c b e : List ℕ) → n ++ h ++ p ++ c ++ b ++ e ≡ n ++ (h ++ (p ++ (c ++ (b ++ e))))
six n h p c b e = append_assoc (n ++ h ++ p ++ c) b e ∙ append_assoc (n ++ h ++ p) c (b ++ e) ∙ append_assoc (n ++ h) p (c ++ (b ++ e)) ∙ append_assoc n h (p ++ (c ++ (b ++ e)))

ports_some : (ports : List Port) → 0 < length ports → flat_map port_text ports ++ codes "\n" ≡ codes ",\n" ++ flat_map line_text (port_lines ports)
ports_some [] some = absurd (omega (arith, some))
ports_some (p ∷ ports) some = ports_text p ports

pub module_text : (m : NamedModule) → IsNamedModule m → flat_map line_text (lines_in m) ≡ named_module_text m
module_text m rules =
    let ports : List ℕ = flat_map port_text m.ports in
    let lines : List ℕ = flat_map line_text (port_lines m.ports) in
    let name : List ℕ = codes "module " ++ m.name in
    let behind : List ℕ = codes ");\n" ++ (named_body m ++ codes "endmodule\n") in
    let inner : flat_map line_text (port_lines m.ports ++ line.Close ∷ (body_lines m ++ line.End ∷ [])) ≡ flat_map line_text (port_lines m.ports) ++ (codes ");\n" ++ (named_body m ++ codes "endmodule\n")) =
    flat_map-append line_text (port_lines m.ports) (line.Close ∷ (body_lines m ++ line.End ∷ []))
    ∙ ap (λ l. flat_map line_text (port_lines m.ports) ++ (codes ");\n" ++ l)) (flat_map-append line_text (body_lines m) (line.End ∷ []) ∙ ap (λ l. l ++ codes "endmodule\n") (body_text m)) in
    ap (λ l. (codes "module " ++ m.name ++ codes " (\n") ++ (codes "  input clk,\n" ++ (codes "  input rst,\n" ++ l))) inner
    ∙ append_assoc (codes "module " ++ m.name) (codes " (\n") (codes "  input clk,\n" ++ (codes "  input rst,\n" ++ (flat_map line_text (port_lines m.ports) ++ (codes ");\n" ++ (named_body m ++ codes "endmodule\n")))))
    ∙ ap (λ l. (codes "module " ++ m.name) ++ (codes " (\n  input clk,\n  input rst" ++ (l ++ (codes ");\n" ++ (named_body m ++ codes "endmodule\n"))))) (sym (ports_some m.ports rules.some))
    ∙ ap (λ l. (codes "module " ++ m.name) ++ (codes " (\n  input clk,\n  input rst" ++ l)) (append_assoc (flat_map port_text m.ports) (codes "\n") (codes ");\n" ++ (named_body m ++ codes "endmodule\n")))
    ∙ sym (six (codes "module " ++ m.name) (codes " (\n  input clk,\n  input rst") (flat_map port_text m.ports) (codes "\n);\n") (named_body m) (codes "endmodule\n"))

pub text_of_lines : (modules : List NamedModule) → Each IsNamedModule modules → flat_map line_text (all_lines modules) ≡ named_text modules
text_of_lines [] rules = refl
text_of_lines (m ∷ modules) rules = flat_map-append line_text (lines_in m) (all_lines modules) ∙ ap (λ l. l ++ flat_map line_text (all_lines modules)) (module_text m rules.0) ∙ ap (λ l. named_module_text m ++ l) (text_of_lines modules rules.1)

-- each of these lines is one
port_rules : (ports : List Port) → Each IsPort ports → Each IsLine (port_lines ports)
port_rules [] h = tt
port_rules (p ∷ []) h = (h.0, tt)
port_rules (p ∷ q ∷ ports) h = (h.0, port_rules (q ∷ ports) h.1)

line_rules : (m : NamedModule) → IsNamedModule m → Each IsLine (lines_in m)
line_rules m h = (
  h.name,
  (
    tt,
    (
      tt,
      All-join IsLine (port_lines m.ports) (line.Close ∷ (body_lines m ++ line.End ∷ [])) (port_rules m.ports h.ports) (
        tt,
        All-join IsLine (body_lines m) (line.End ∷ [])
            (All-join IsLine (map line.Wire m.wires ++ map line.Reg m.regs ++ map line.Assign m.assigns ++ map line.Always m.nexts) (map line.Instance m.instances)
            (All-join IsLine (map line.Wire m.wires ++ map line.Reg m.regs ++ map line.Assign m.assigns) (map line.Always m.nexts)
            (All-join IsLine (map line.Wire m.wires ++ map line.Reg m.regs) (map line.Assign m.assigns)
            (All-join IsLine (map line.Wire m.wires) (map line.Reg m.regs) (All-map IsLine line.Wire m.wires h.wires) (All-map IsLine line.Reg m.regs h.regs))
            (All-map IsLine line.Assign m.assigns h.assigns)) (All-map IsLine line.Always m.nexts h.nexts)) (All-map IsLine line.Instance m.instances h.instances))
            (tt, tt),
      ),
    ),
  ),
)

pub all_line_rules : (modules : List NamedModule) → Each IsNamedModule modules → Each IsLine (all_lines modules)
all_line_rules [] h = tt
all_line_rules (m ∷ modules) h = All-join IsLine (lines_in m) (all_lines modules) (line_rules m h.0) (all_line_rules modules h.1)

-- the modules that lines give, where the next line has this number and this module has begun
abbrev pub parsed : ℕ → NamedModule → List Line → List NamedModule
parsed n cur [] = []
parsed n cur (line.Module name ∷ lines) = parsed (n + 1) (blank n name) lines
parsed n cur (line.End ∷ lines) = cur ∷ parsed (n + 1) cur lines
parsed n cur (line.Clock ∷ lines) = parsed (n + 1) cur lines
parsed n cur (line.Reset ∷ lines) = parsed (n + 1) cur lines
parsed n cur (line.Close ∷ lines) = parsed (n + 1) cur lines
parsed n cur (line.Port p more ∷ lines) = parsed (n + 1) (grown cur (line.Port p more)) lines
parsed n cur (line.Wire w ∷ lines) = parsed (n + 1) (grown cur (line.Wire w)) lines
parsed n cur (line.Reg r ∷ lines) = parsed (n + 1) (grown cur (line.Reg r)) lines
parsed n cur (line.Assign a ∷ lines) = parsed (n + 1) (grown cur (line.Assign a)) lines
parsed n cur (line.Always x ∷ lines) = parsed (n + 1) (grown cur (line.Always x)) lines
parsed n cur (line.Instance i ∷ lines) = parsed (n + 1) (grown cur (line.Instance i)) lines

-- lines of one sort
sort_parsed : {X : Type 0} (f : X → Line) (put : NamedModule → List X → NamedModule) → ((c : NamedModule) → put c [] ≡ c) → ((c : NamedModule) (x : X) (xs : List X) → put (put c (x ∷ [])) xs ≡ put c (x ∷ xs))
    → ((n : ℕ) (c : NamedModule) (x : X) (lines : List Line) → parsed n c (f x ∷ lines) ≡ parsed (n + 1) (put c (x ∷ [])) lines)
    → (n : ℕ) (c : NamedModule) (xs : List X) (lines : List Line) → parsed n c (map f xs ++ lines) ≡ parsed (n + length xs) (put c xs) lines
sort_parsed f put none more step n c [] lines = ap (λ d. parsed n d lines) (sym (none c)) ∙ ap (λ k. parsed k (put c []) lines) (let z : n ≡ n + 0 = omega arith in z)
sort_parsed f put none more step n c (x ∷ xs) lines =
    step n c x (map f xs ++ lines) ∙ sort_parsed f put none more step (n + 1) (put c (x ∷ [])) xs lines
    ∙ ap (λ d. parsed ((n + 1) + length xs) d lines) (more c x xs) ∙ ap (λ k. parsed k (put c (x ∷ xs)) lines) (let z : (n + 1) + length xs ≡ n + suc (length xs) = omega arith in z)

abbrev put_ports : NamedModule → List Port → NamedModule
put_ports c xs = record c { ports = c.ports ++ xs }

abbrev put_wires : NamedModule → List Net → NamedModule
put_wires c xs = record c { wires = c.wires ++ xs }

abbrev put_regs : NamedModule → List Net → NamedModule
put_regs c xs = record c { regs = c.regs ++ xs }

abbrev put_assigns : NamedModule → List NamedAssign → NamedModule
put_assigns c xs = record c { assigns = c.assigns ++ xs }

abbrev put_nexts : NamedModule → List NamedNext → NamedModule
put_nexts c xs = record c { nexts = c.nexts ++ xs }

abbrev put_instances : NamedModule → List NamedInstance → NamedModule
put_instances c xs = record c { instances = c.instances ++ xs }

wires_parsed : (n : ℕ) (c : NamedModule) (xs : List Net) (lines : List Line) → parsed n c (map line.Wire xs ++ lines) ≡ parsed (n + length xs) (put_wires c xs) lines
wires_parsed = sort_parsed line.Wire put_wires (λ c. ap (λ l. (let d : NamedModule = record c { wires = l } in d)) (append-nil c.wires)) (λ c x xs. ap (λ l. (let d : NamedModule = record c { wires = l } in d)) (append_assoc c.wires (x ∷ []) xs)) (λ n c x lines. refl)

regs_parsed : (n : ℕ) (c : NamedModule) (xs : List Net) (lines : List Line) → parsed n c (map line.Reg xs ++ lines) ≡ parsed (n + length xs) (put_regs c xs) lines
regs_parsed = sort_parsed line.Reg put_regs (λ c. ap (λ l. (let d : NamedModule = record c { regs = l } in d)) (append-nil c.regs)) (λ c x xs. ap (λ l. (let d : NamedModule = record c { regs = l } in d)) (append_assoc c.regs (x ∷ []) xs)) (λ n c x lines. refl)

assigns_parsed : (n : ℕ) (c : NamedModule) (xs : List NamedAssign) (lines : List Line) → parsed n c (map line.Assign xs ++ lines) ≡ parsed (n + length xs) (put_assigns c xs) lines
assigns_parsed = sort_parsed line.Assign put_assigns (λ c. ap (λ l. (let d : NamedModule = record c { assigns = l } in d)) (append-nil c.assigns)) (λ c x xs. ap (λ l. (let d : NamedModule = record c { assigns = l } in d)) (append_assoc c.assigns (x ∷ []) xs)) (λ n c x lines. refl)

nexts_parsed : (n : ℕ) (c : NamedModule) (xs : List NamedNext) (lines : List Line) → parsed n c (map line.Always xs ++ lines) ≡ parsed (n + length xs) (put_nexts c xs) lines
nexts_parsed = sort_parsed line.Always put_nexts (λ c. ap (λ l. (let d : NamedModule = record c { nexts = l } in d)) (append-nil c.nexts)) (λ c x xs. ap (λ l. (let d : NamedModule = record c { nexts = l } in d)) (append_assoc c.nexts (x ∷ []) xs)) (λ n c x lines. refl)

instances_parsed : (n : ℕ) (c : NamedModule) (xs : List NamedInstance) (lines : List Line) → parsed n c (map line.Instance xs ++ lines) ≡ parsed (n + length xs) (put_instances c xs) lines
instances_parsed = sort_parsed line.Instance put_instances (λ c. ap (λ l. (let d : NamedModule = record c { instances = l } in d)) (append-nil c.instances)) (λ c x xs. ap (λ l. (let d : NamedModule = record c { instances = l } in d)) (append_assoc c.instances (x ∷ []) xs)) (λ n c x lines. refl)

ports_parsed : (n : ℕ) (c : NamedModule) (xs : List Port) (lines : List Line) → parsed n c (port_lines xs ++ lines) ≡ parsed (n + length xs) (put_ports c xs) lines
ports_parsed n c [] lines = ap (λ l. parsed n (record c { ports = l }) lines) (sym (append-nil c.ports)) ∙ ap (λ k. parsed k (put_ports c []) lines) (let z : n ≡ n + 0 = omega arith in z)
ports_parsed n c (p ∷ []) lines = refl
ports_parsed n c (p ∷ q ∷ ports) lines =
    ports_parsed (n + 1) (put_ports c (p ∷ [])) (q ∷ ports) lines
    ∙ ap (λ l. parsed ((n + 1) + length (q ∷ ports)) (record c { ports = l }) lines) (append_assoc c.ports (p ∷ []) (q ∷ ports))
    ∙ ap (λ k. parsed k (put_ports c (p ∷ q ∷ ports)) lines) (let z : (n + 1) + length (q ∷ ports) ≡ n + length (p ∷ q ∷ ports) = omega arith in z)

-- the lines of a module give it, and then what follows
pub six_lists : (w r a x i rest : List Line) → w ++ r ++ a ++ x ++ i ++ rest ≡ w ++ (r ++ (a ++ (x ++ (i ++ rest))))
six_lists w r a x i rest = append_assoc (w ++ r ++ a ++ x) i rest ∙ append_assoc (w ++ r ++ a) x (i ++ rest) ∙ append_assoc (w ++ r) a (x ++ (i ++ rest)) ∙ append_assoc w r (a ++ (x ++ (i ++ rest)))

abbrev at_line : ℕ → NamedModule → NamedModule
at_line n m = record m { line = n }

-- a module as far as its lines of each sort
abbrev with_ports : ℕ → NamedModule → NamedModule
with_ports k m = put_ports (blank k m.name) m.ports

abbrev with_wires : ℕ → NamedModule → NamedModule
with_wires k m = put_wires (with_ports k m) m.wires

abbrev with_regs : ℕ → NamedModule → NamedModule
with_regs k m = put_regs (with_wires k m) m.regs

abbrev with_assigns : ℕ → NamedModule → NamedModule
with_assigns k m = put_assigns (with_regs k m) m.assigns

abbrev with_nexts : ℕ → NamedModule → NamedModule
with_nexts k m = put_nexts (with_assigns k m) m.nexts

body_parsed : (n k : ℕ) (c m : NamedModule) (rest : List Line) → c ≡ put_ports (blank k m.name) m.ports
    → parsed n c ((body_lines m ++ line.End ∷ []) ++ rest) ≡ at_line k m ∷ parsed (((((n + length m.wires) + length m.regs) + length m.assigns) + length m.nexts) + length m.instances + 1) (at_line k m) rest
body_parsed n k c m rest e =
    ap (parsed n c) (append_assoc (body_lines m) (line.End ∷ []) rest ∙ six_lists (map line.Wire m.wires) (map line.Reg m.regs) (map line.Assign m.assigns) (map line.Always m.nexts) (map line.Instance m.instances) (line.End ∷ rest))
    ∙ ap (λ (d : NamedModule). parsed n d (map line.Wire m.wires ++ (map line.Reg m.regs ++ (map line.Assign m.assigns ++ (map line.Always m.nexts ++ (map line.Instance m.instances ++ line.End ∷ rest)))))) e
    ∙ wires_parsed n (with_ports k m) m.wires (map line.Reg m.regs ++ (map line.Assign m.assigns ++ (map line.Always m.nexts ++ (map line.Instance m.instances ++ line.End ∷ rest))))
    ∙ regs_parsed (n + length m.wires) (with_wires k m) m.regs (map line.Assign m.assigns ++ (map line.Always m.nexts ++ (map line.Instance m.instances ++ line.End ∷ rest)))
    ∙ assigns_parsed (n + length m.wires + length m.regs) (with_regs k m) m.assigns (map line.Always m.nexts ++ (map line.Instance m.instances ++ line.End ∷ rest))
    ∙ nexts_parsed (n + length m.wires + length m.regs + length m.assigns) (with_assigns k m) m.nexts (map line.Instance m.instances ++ line.End ∷ rest)
    ∙ instances_parsed (n + length m.wires + length m.regs + length m.assigns + length m.nexts) (with_nexts k m) m.instances (line.End ∷ rest)

module_parsed : (n : ℕ) (cur m : NamedModule) (rest : List Line) → parsed n cur (lines_in m ++ rest) ≡ at_line n m ∷ parsed (n + line_count m) (at_line n m) rest
module_parsed n cur m rest =
    ap (parsed (((n + 1) + 1) + 1) (blank n m.name)) (append_assoc (port_lines m.ports) (line.Close ∷ (body_lines m ++ line.End ∷ [])) rest)
    ∙ ports_parsed (((n + 1) + 1) + 1) (blank n m.name) m.ports (line.Close ∷ ((body_lines m ++ line.End ∷ []) ++ rest))
    ∙ body_parsed ((((n + 1) + 1) + 1) + length m.ports + 1) n (put_ports (blank n m.name) m.ports) m rest refl
    ∙ ap (λ k. at_line n m ∷ parsed k (at_line n m) rest) count
  where
    count : ((((((((((n + 1) + 1) + 1) + length m.ports + 1) + length m.wires) + length m.regs) + length m.assigns) + length m.nexts) + length m.instances + 1)) ≡ n + line_count m
    count = omega arith

pub all_parsed : (n : ℕ) (cur : NamedModule) (modules : List NamedModule) → AreNumbered n modules → parsed n cur (all_lines modules) ≡ modules
all_parsed n cur [] h = refl
all_parsed n cur (m ∷ modules) h =
    module_parsed n cur m (all_lines modules)
    ∙ ap (λ k. at_line k m ∷ parsed (n + line_count m) (at_line n m) (all_lines modules)) (sym h.0)
    ∙ ap (λ l. m ∷ l) (all_parsed (n + line_count m) (at_line n m) modules h.1)
