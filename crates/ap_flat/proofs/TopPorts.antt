-- The ports of top are the first nets of the whole, and no other net is an input.
use Rattle.std.proofs.Common.{◌≡◌, ◌≢◌, ℕ, zero, suc, ◌+◌, ◌-◌, ◌<◌, List, [], ◌∷◌, ◌++◌, length, get_or, map, take, Option, Some, refl, sym, ap, subst, ◌∙◌, append_assoc, arith}
use Rattle.std.specs.Prelude.{slice_get}
use Rattle.std.specs.List.{AllByRecursion as Each}
use Rattle.std.proofs.lemmas.List.{map-append}
use Rattle.std.proofs.lemmas.Option.{slice_get-get_or}
use Rattle.ap_net.specs.declared.net.ModuleNet.{ModuleNet}
use Rattle.ap_net.specs.declared.net.FlatNet.{FlatNet}
use Rattle.ap_net.specs.declared.net.Port.{Port}
use Rattle.ap_net.specs.declared.net.Net.{Net}
use Rattle.ap_net.specs.declared.net.RegNet.{RegNet}
use Rattle.ap_net.specs.declared.net.Instance.{Instance}
use Rattle.ap_net.specs.declared.net.Role.{Role}
use Rattle.ap_net.specs.declared.net.Role.TheVariants as role
use Rattle.ap_net.specs.Names.{AreDistinct}
use Rattle.ap_net.specs.Modules.{ModuleText, EndsInTop, IsInstanceIn, IsModule, IsNetlist, earlier, last_module, module_named, nets_of, port_net, wire_net, reg_net}
use Rattle.ap_net.specs.Flat.{inner_role, nets_in, opened, opened_last, opened_over, part_net, part_nets, ports_by_last, top_net, top_ports}
use Rattle.ap_net.proofs.Lists.{All-at, All-front, All-join, map-map}
use Rattle.ap_net.proofs.Netlists.{All-last, top_of}
use Rattle.ap_flat.specs.PortNets.{BeginsWithPorts}

abbrev NoInput : FlatNet → Type 0
NoInput net = net.role ≢ role.Input

inner_no_input : (r : Role) → inner_role r ≢ role.Input
inner_no_input role.Input e = cc
inner_no_input role.Output e = cc
inner_no_input role.Plain e = cc
inner_no_input (role.Register reset) e = cc

part_no_input : (part : ℕ) (nets : List ModuleNet) → Each NoInput (map (part_net part) nets)
part_no_input part [] = tt
part_no_input part (net ∷ nets) = (inner_no_input net.role, part_no_input part nets)

parts_no_input : (modules : List ModuleText) (part : ℕ) (instances : List Instance) → Each NoInput (part_nets modules part instances)
parts_no_input modules part [] = tt
parts_no_input modules part (i ∷ instances) = All-join NoInput (map (part_net part) (nets_in (module_named modules i.module))) (part_nets modules (part + 1) instances) (part_no_input part (nets_in (module_named modules i.module))) (parts_no_input modules (part + 1) instances)

wires_no_input : (wires : List Net) → Each NoInput (map (λ (n : Net). top_net (wire_net n)) wires)
wires_no_input [] = tt
wires_no_input (n ∷ wires) = ((λ e. cc), wires_no_input wires)

regs_no_input : (regs : List RegNet) → Each NoInput (map (λ (r : RegNet). top_net (reg_net r)) regs)
regs_no_input [] = tt
regs_no_input (r ∷ regs) = ((λ e. cc), regs_no_input regs)

over_begins : (modules : List ModuleText) (top : ModuleText) → BeginsWithPorts top.ports (opened_over modules top).nets
over_begins modules top =
    let p : List FlatNet = map (λ (x : Port). top_net (port_net x)) top.ports in
    let w : List FlatNet = map (λ (x : Net). top_net (wire_net x)) top.wires in
    let r : List FlatNet = map (λ (x : RegNet). top_net (reg_net x)) top.regs in
    let rest : List FlatNet = part_nets modules 1 top.instances in
    let own : map top_net (nets_of top) ≡ (p ++ w) ++ r =
    map-append top_net (map port_net top.ports ++ map wire_net top.wires) (map reg_net top.regs)
    ∙ ap (λ l. l ++ map top_net (map reg_net top.regs)) (map-append top_net (map port_net top.ports) (map wire_net top.wires))
    ∙ (λ i. (map-map port_net top_net top.ports i ++ map-map wire_net top_net top.wires i) ++ map-map reg_net top_net top.regs i) in
    record {
      others = w ++ (r ++ rest);
      split = ap (λ l. l ++ rest) own ∙ append_assoc (p ++ w) r rest ∙ append_assoc p w (r ++ rest);
      within = λ n net at. All-at NoInput (w ++ (r ++ rest)) n net (All-join NoInput w (r ++ rest) (wires_no_input top.wires) (All-join NoInput r rest (regs_no_input top.regs) (parts_no_input modules 1 top.instances))) at;
    }

-- the names of ports differ
distinct_front : (xs ys : List (List ℕ)) → AreDistinct (xs ++ ys) → AreDistinct xs
distinct_front [] ys h = tt
distinct_front (x ∷ xs) ys h = (All-front (λ other. other ≢ x) xs ys h.0, distinct_front xs ys h.1)

pub ports_distinct : (top : ModuleText) → IsModule top → AreDistinct (map (λ (p : Port). p.name) top.ports)
ports_distinct top kept =
    let name : ModuleNet → List ℕ = λ (n : ModuleNet). n.name in
    let all : AreDistinct (map name (nets_of top)) = kept.wired.distinct.1.1 in
    let split : map name (nets_of top) ≡ map name (map port_net top.ports) ++ (map name (map wire_net top.wires) ++ map name (map reg_net top.regs)) =
    map-append name (map port_net top.ports ++ map wire_net top.wires) (map reg_net top.regs)
    ∙ ap (λ l. l ++ map name (map reg_net top.regs)) (map-append name (map port_net top.ports) (map wire_net top.wires))
    ∙ append_assoc (map name (map port_net top.ports)) (map name (map wire_net top.wires)) (map name (map reg_net top.regs)) in
    subst AreDistinct (map-map port_net name top.ports)
    (distinct_front (map name (map port_net top.ports)) (map name (map wire_net top.wires) ++ map name (map reg_net top.regs)) (subst AreDistinct split all))

-- so of a netlist
pub record HasPorts (net : List ModuleText) : Type 0 where
  pub begins : BeginsWithPorts (top_ports net) (opened net).nets
  pub distinct : AreDistinct (map (λ (p : Port). p.name) (top_ports net))

pub has_ports : (net : List ModuleText) → IsNetlist net → HasPorts net
has_ports net h =
    let t = top_of net (earlier net) h.last in
    let kept : IsModule t.top = All-last IsModule net t.top h.each t.last in
    record {
      begins = subst (λ (o : Option ModuleText). BeginsWithPorts (ports_by_last o) (opened_last (earlier net) o).nets) (sym t.last) (over_begins (earlier net) t.top);
      distinct = subst (λ (o : Option ModuleText). AreDistinct (map (λ (p : Port). p.name) (ports_by_last o))) (sym t.last) (ports_distinct t.top kept);
    }

-- the last module of a netlist stands at the end
pub last_at : (modules : List ModuleText) (m : ModuleText) → slice_get modules (length modules - 1) ≡ Some m → last_module modules ≡ Some m
last_at [] m at = at
last_at (x ∷ []) m at = at
last_at (x ∷ y ∷ modules) m at =
    let e : length (x ∷ y ∷ modules) - 1 ≡ suc (length (y ∷ modules) - 1) = omega arith in
    last_at (y ∷ modules) m (ap (slice_get (x ∷ y ∷ modules)) (sym e) ∙ at)

not_empty : (net : List ModuleText) → IsNetlist net → 0 < length net
not_empty [] kept = absurd kept.last
not_empty (m ∷ net) kept = omega arith

pub last_is : (net : List ModuleText) (m : ModuleText) → IsNetlist net → m ≡ get_or net (length net - 1) m → last_module net ≡ Some m
last_is net m kept at =
    let some : 0 < length net = not_empty net kept in
    last_at net m (slice_get-get_or net (length net - 1) m (omega arith) ∙ ap Some (sym at))

pub last_ports : (net : List ModuleText) (m : ModuleText) (ports : List Port) → IsNetlist net → m ≡ get_or net (length net - 1) m → ports ≡ m.ports → ports ≡ top_ports net
last_ports net m ports kept at is = is ∙ ap ports_by_last (sym (last_is net m kept at))

pub earlier_take : (net : List ModuleText) → earlier net ≡ take (length net - 1) net
earlier_take [] = refl
earlier_take (m ∷ []) = refl
earlier_take (m ∷ n ∷ net) =
    let up : length (m ∷ n ∷ net) - 1 ≡ suc (length (n ∷ net) - 1) = omega arith in
    ap (λ l. m ∷ l) (earlier_take (n ∷ net)) ∙ ap (λ k. take k (m ∷ n ∷ net)) (sym up)

-- the netlist opened by its last module and those before it
module _ (net : List ModuleText) (kept : IsNetlist net) (m : ModuleText) (at : m ≡ get_or net (length net - 1) m) (modules : List ModuleText) (is : modules ≡ take (length net - 1) net) where
  same_modules : modules ≡ earlier net
  same_modules = is ∙ sym (earlier_take net)

  pub whole_opened : opened_over modules m ≡ opened net
  whole_opened = ap (λ l. opened_over l m) same_modules ∙ ap (opened_last (earlier net)) (sym (last_is net m kept at))

  pub whole_distinct : AreDistinct (map (λ (x : ModuleText). x.name) modules)
  whole_distinct = subst (λ l. AreDistinct (map (λ (x : ModuleText). x.name) l)) (sym is) (front_distinct (length net - 1) net kept.distinct)
    where
      each_front : (name : List ℕ) (k : ℕ) (ms : List ModuleText) → Each (λ other. other ≢ name) (map (λ (x : ModuleText). x.name) ms) → Each (λ other. other ≢ name) (map (λ (x : ModuleText). x.name) (take k ms))
      each_front name zero ms h = tt
      each_front name (suc k) [] h = tt
      each_front name (suc k) (x ∷ ms) h = (h.0, each_front name k ms h.1)

      front_distinct : (k : ℕ) (ms : List ModuleText) → AreDistinct (map (λ (x : ModuleText). x.name) ms) → AreDistinct (map (λ (x : ModuleText). x.name) (take k ms))
      front_distinct zero ms h = tt
      front_distinct (suc k) [] h = tt
      front_distinct (suc k) (x ∷ ms) h = (each_front x.name k ms h.0, front_distinct k ms h.1)

  pub whole_within : Each (IsInstanceIn modules) m.instances
  whole_within = subst (λ l. Each (IsInstanceIn l) m.instances) (sym same_modules) (subst (λ (o : Option ModuleText). EndsInTop o (earlier net)) (last_is net m kept at) kept.last).1
