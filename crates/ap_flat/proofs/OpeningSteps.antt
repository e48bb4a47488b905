-- A netlist opened part by part.
use Rattle.std.proofs.Common.{◌≡◌, Bool, true, false, ℕ, ◌+◌, List, [], ◌∷◌, ◌++◌, length, map, Option, refl, sym, ap, ◌∙◌, append_assoc, append-nil, length-append}
use Rattle.std.proofs.lemmas.List.{length-map, map-append}
use Rattle.ap_net.specs.declared.cell.Wire.{Wire}
use Rattle.ap_net.specs.declared.net.ModuleNet.{ModuleNet}
use Rattle.ap_net.specs.declared.net.Port.{Port}
use Rattle.ap_net.specs.declared.net.Net.{Net}
use Rattle.ap_net.specs.declared.net.RegNet.{RegNet}
use Rattle.ap_net.specs.declared.net.Instance.{Instance}
use Rattle.ap_net.specs.declared.net.FlatNet.{FlatNet}
use Rattle.ap_net.specs.declared.net.Join.{Join}
use Rattle.ap_net.specs.Modules.{ModuleText, nets_of, module_named, port_net, wire_net, reg_net, assign_placed, next_placed}
use Rattle.ap_net.specs.Flat.{Flat, opened_over, nets_in, assigns_in, nexts_in, joins_from, part_nets, part_assigns, part_nexts, part_joins}
use Rattle.ap_net.specs.declared.net.Assign.{Assign}
use Rattle.ap_net.specs.declared.net.Next.{Next}
use Rattle.ap_net.proofs.Lists.{map-map}
use Rattle.ap_flat.specs.Opening.{net_in, with_top, with_part}

-- the nets of a module, put in three pieces
pub nets_together : (f : ModuleNet → FlatNet) (old : List FlatNet) (m : ModuleText)
    → ((old ++ map (λ (p : Port). f (port_net p)) m.ports) ++ map (λ (n : Net). f (wire_net n)) m.wires) ++ map (λ (r : RegNet). f (reg_net r)) m.regs ≡ old ++ map f (nets_of m)
nets_together f old m =
    let a : List FlatNet = map (λ (p : Port). f (port_net p)) m.ports in
    let b : List FlatNet = map (λ (n : Net). f (wire_net n)) m.wires in
    let c : List FlatNet = map (λ (r : RegNet). f (reg_net r)) m.regs in
    let pieces : map f (nets_of m) ≡ (a ++ b) ++ c =
    map-append f (map port_net m.ports ++ map wire_net m.wires) (map reg_net m.regs)
    ∙ ap (λ l. l ++ map f (map reg_net m.regs)) (map-append f (map port_net m.ports) (map wire_net m.wires))
    ∙ (λ i. (map-map port_net f m.ports i ++ map-map wire_net f m.wires i) ++ map-map reg_net f m.regs i) in
    append_assoc (old ++ a) b c ∙ append_assoc old a (b ++ c) ∙ ap (λ l. old ++ l) (sym (append_assoc a b c)) ∙ ap (λ l. old ++ l) (sym pieces)

-- with the part of an instance's module, if there is one
abbrev pub with_in : Option ModuleText → Instance → Flat → Flat
with_in o i f = record {
  parts = f.parts ++ i.name ∷ [];
  nets = f.nets ++ map (net_in false (length f.parts)) (nets_in o);
  assigns = f.assigns ++ map (assign_placed (λ n. length f.nets + n)) (assigns_in o);
  nexts = f.nexts ++ map (next_placed (λ n. length f.nets + n)) (nexts_in o);
  joins = f.joins ++ joins_from (length f.nets) i.drives i.nets;
}

-- with these instances, one after another
abbrev pub opened_from : List ModuleText → List Instance → Flat → Flat
opened_from modules [] f = f
opened_from modules (i ∷ instances) f = opened_from modules instances (with_in (module_named modules i.module) i f)

abbrev pub flat_of : List (List ℕ) → List FlatNet → List Assign → List Next → List Join → Flat
flat_of parts nets assigns nexts joins = record { parts = parts; nets = nets; assigns = assigns; nexts = nexts; joins = joins }

flat_same : {f g : Flat} → f.parts ≡ g.parts → f.nets ≡ g.nets → f.assigns ≡ g.assigns → f.nexts ≡ g.nexts → f.joins ≡ g.joins → f ≡ g
flat_same {f} {g} a b c d e = λ i. record { parts = a i; nets = b i; assigns = c i; nexts = d i; joins = e i }

-- what they add
abbrev pub with_all : List ModuleText → List Instance → Flat → Flat
with_all modules instances f = record {
  parts = f.parts ++ map (λ (i : Instance). i.name) instances;
  nets = f.nets ++ part_nets modules (length f.parts) instances;
  assigns = f.assigns ++ part_assigns modules (length f.nets) instances;
  nexts = f.nexts ++ part_nexts modules (length f.nets) instances;
  joins = f.joins ++ part_joins modules (length f.nets) instances;
}

pub opened_from_all : (modules : List ModuleText) (instances : List Instance) (f : Flat) → opened_from modules instances f ≡ with_all modules instances f
opened_from_all modules [] f = flat_same (sym (append-nil f.parts)) (sym (append-nil f.nets)) (sym (append-nil f.assigns)) (sym (append-nil f.nexts)) (sym (append-nil f.joins))
opened_from_all modules (i ∷ instances) f =
    let o : Option ModuleText = module_named modules i.module in
    let g : Flat = with_in o i f in
    let parts : length g.parts ≡ length f.parts + 1 = length-append f.parts (i.name ∷ []) in
    let size : length g.nets ≡ length f.nets + length (nets_in o) =
    length-append f.nets (map (net_in false (length f.parts)) (nets_in o)) ∙ ap (λ n. length f.nets + n) (length-map (nets_in o) (net_in false (length f.parts))) in
    opened_from_all modules instances g
    ∙ flat_same
    (append_assoc f.parts (i.name ∷ []) (map (λ (x : Instance). x.name) instances))
    (append_assoc f.nets (map (net_in false (length f.parts)) (nets_in o)) (part_nets modules (length g.parts) instances)
    ∙ ap (λ n. f.nets ++ (map (net_in false (length f.parts)) (nets_in o) ++ part_nets modules n instances)) parts)
    (append_assoc f.assigns (map (assign_placed (λ n. length f.nets + n)) (assigns_in o)) (part_assigns modules (length g.nets) instances)
    ∙ ap (λ n. f.assigns ++ (map (assign_placed (λ k. length f.nets + k)) (assigns_in o) ++ part_assigns modules n instances)) size)
    (append_assoc f.nexts (map (next_placed (λ n. length f.nets + n)) (nexts_in o)) (part_nexts modules (length g.nets) instances)
    ∙ ap (λ n. f.nexts ++ (map (next_placed (λ k. length f.nets + k)) (nexts_in o) ++ part_nexts modules n instances)) size)
    (append_assoc f.joins (joins_from (length f.nets) i.drives i.nets) (part_joins modules (length g.nets) instances)
    ∙ ap (λ n. f.joins ++ (joins_from (length f.nets) i.drives i.nets ++ part_joins modules n instances)) size)

-- from top alone on, all instances make the whole
pub opened_whole : (modules : List ModuleText) (top : ModuleText) → opened_from modules top.instances (with_top top) ≡ opened_over modules top
opened_whole modules top =
    let size : length (map (net_in true 0) (nets_of top)) ≡ length (nets_of top) = length-map (nets_of top) (net_in true 0) in
    opened_from_all modules top.instances (with_top top)
    ∙ flat_same refl refl
    (ap (λ n. top.assigns ++ part_assigns modules n top.instances) size)
    (ap (λ n. top.nexts ++ part_nexts modules n top.instances) size)
    (ap (λ n. part_joins modules n top.instances) size)

-- a part put piece by piece
pub part_more : (m : ModuleText) (i : Instance) (f old : Flat) (base part : ℕ) (name : List ℕ) (assigns : List Assign) (nexts : List Next) (drives : List Bool) (wires : List Wire) (parts_more : List (List ℕ)) (nets_more : List FlatNet) (assigns_more : List Assign) (nexts_more : List Next) (joins_more : List Join)
    → old ≡ f → base ≡ length old.nets → part ≡ length old.parts → name ≡ i.name → assigns ≡ m.assigns → nexts ≡ m.nexts → drives ≡ i.drives → wires ≡ i.nets
    → parts_more ≡ old.parts ++ name ∷ [] → nets_more ≡ old.nets ++ map (net_in false part) (nets_of m) → assigns_more ≡ old.assigns ++ map (assign_placed (λ n. base + n)) assigns
    → nexts_more ≡ old.nexts ++ map (next_placed (λ n. base + n)) nexts → joins_more ≡ old.joins ++ joins_from base drives wires
    → flat_of parts_more nets_more assigns_more nexts_more joins_more ≡ with_part m i f
part_more m i f old base part name assigns nexts drives wires parts_more nets_more assigns_more nexts_more joins_more same base_is part_is name_is assigns_is nexts_is drives_is wires_is a b c d e =
    flat_same (a ∙ ap (λ n. old.parts ++ n ∷ []) name_is) (b ∙ ap (λ p. old.nets ++ map (net_in false p) (nets_of m)) part_is)
    (c ∙ (λ j. old.assigns ++ map (assign_placed (λ n. base_is j + n)) (assigns_is j))) (d ∙ (λ j. old.nexts ++ map (next_placed (λ n. base_is j + n)) (nexts_is j)))
    (e ∙ (λ j. old.joins ++ joins_from (base_is j) (drives_is j) (wires_is j)))
    ∙ ap (λ (g : Flat). with_part m i g) same
