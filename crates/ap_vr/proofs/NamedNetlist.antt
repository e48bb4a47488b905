-- A netlist comes back whole: its modules by names are built as they were.
use Rattle.std.proofs.Common.{◌≡◌, ◌≢◌, ℕ, ◌+◌, Bool, true, false, cond, List, [], ◌∷◌, ◌++◌, map, Option, Some, refl, sym, ap, subst, ◌∙◌, append_assoc, append-nil}
use Rattle.std.specs.List.{AllByRecursion as Each}
use Rattle.std.specs.Prelude.{codes}
use Rattle.std.specs.Str.{bytes_eq}
use Rattle.ap_net.specs.declared.cell.Wire.{Wire}
use Rattle.ap_net.specs.declared.net.Instance.{Instance}
use Rattle.ap_net.specs.declared.net.ModuleNet.{ModuleNet}
use Rattle.ap_net.specs.declared.net.Port.{Port}
use Rattle.ap_net.specs.Cells.{IsNet}
use Rattle.ap_net.specs.Modules as whole
use Rattle.ap_net.specs.Modules.{Connects, IsInstanceIn, IsModule, IsNetlist, ModuleText, earlier, last_module, module_of, nets_of}
use Rattle.ap_net.specs.Names.{AreDistinct}
use Rattle.ap_net.specs.Text.{ports_in, wire_name}
use Rattle.ap_vr.specs.declared.module.NamedModule.{NamedModule}
use Rattle.ap_vr.specs.Built.{built_after, built_in, instance_of, net_joined, output_of, ports_by, wire_of}
use Rattle.ap_vr.specs.Nets.{net_forms}
use Rattle.ap_vr.specs.Reading.{line_count}
use Rattle.ap_vr.specs.Scope.{module_named, usable}
use Rattle.ap_vr.proofs.BuiltNetlist.{bytes_same}
use Rattle.ap_vr.proofs.NamedBack.{assigns_back, nexts_back, regs_back, wire_back}
use Rattle.ap_vr.proofs.NamedOf.{all_named, connections_of, instance_named, named_of}

-- a module that is found by its name among those of a netlist is found among those by names
pub record IsShown (found : Option NamedModule) (v : ModuleText) : Type 0 where
  pub module_by_name : NamedModule
  pub is : found ≡ Some module_by_name
  pub ports : module_by_name.ports ≡ v.ports

abbrev pub AreShown : List ModuleText → (List ℕ → Option NamedModule) → Type 0
AreShown before found = (name : List ℕ) (v : ModuleText) → whole.module_named before name ≡ Some v → IsShown (found name) v

pub shown : (before : List ModuleText) (line : ℕ) (modules : List ModuleText) → AreShown modules (module_named (all_named before line modules))
shown before line [] name v is = cc
shown before line (m ∷ modules) name v is = go (bytes_eq m.name name) refl (shown before (line + line_count (named_of before line m)) modules name v) where
  test : (b : Bool) → bytes_eq m.name name ≡ b → module_named (all_named before line (m ∷ modules)) name ≡ cond b (Some (named_of before line m)) (module_named (all_named before (line + line_count (named_of before line m)) modules) name)
  test b h = ap (λ c. cond c (Some (named_of before line m)) (module_named (all_named before (line + line_count (named_of before line m)) modules) name)) (bytes_same name m.name ∙ h)

  here : (b : Bool) → bytes_eq m.name name ≡ b → cond b (Some m) (whole.module_named modules name) ≡ Some v
  here b h = sym (ap (λ c. cond c (Some m) (whole.module_named modules name)) h) ∙ is

  go : (b : Bool) → bytes_eq m.name name ≡ b → (whole.module_named modules name ≡ Some v → IsShown (module_named (all_named before (line + line_count (named_of before line m)) modules) name) v)
      → IsShown (module_named (all_named before line (m ∷ modules)) name) v
  go true h later =
      let it : Some m ≡ Some v = here true h in
      let same : m ≡ v = cc in
      record { module_by_name = named_of before line m; is = test true h; ports = ap (λ (k : ModuleText). k.ports) same }
  go false h later =
      let n = later (here false h) in
      record { module_by_name = n.module_by_name; is = test false h ∙ n.is; ports = n.ports }

-- an instance connects the first module of its name, and that is found among those by names
pub record IsJoined (before : List ModuleText) (found : List ℕ → Option NamedModule) (i : Instance) : Type 0 where
  pub joins : IsInstanceIn before i
  pub shows : IsShown (found i.module) joins.whole

pub all_joined : (before : List ModuleText) (found : List ℕ → Option NamedModule) → AreShown before found → (instances : List Instance) → Each (IsInstanceIn before) instances → Each (IsJoined before found) instances
all_joined before found are_shown [] is = tt
all_joined before found are_shown (i ∷ instances) is = (record { joins = is.0; shows = are_shown i.module is.0.whole is.0.found }, all_joined before found are_shown instances is.1)

-- the nets that are connected come back
joined_back : (nets : List ModuleNet) (wire : List ℕ → Wire) → ((w : Wire) → IsNet nets w → wire (wire_name nets w) ≡ w) → (ports : List Port) (wires : List Wire) → map (λ (w : Wire). w.width) wires ≡ map (λ (p : Port). p.width) ports
    → Each (IsNet nets) wires → map (net_joined wire) (connections_of nets ports wires) ≡ wires
joined_back nets wire back [] [] e h = refl
joined_back nets wire back [] (w ∷ wires) e h = cc
joined_back nets wire back (p ∷ ports) [] e h = refl
joined_back nets wire back (p ∷ ports) (w ∷ wires) e h =
    let rest : map (λ (w : Wire). w.width) wires ≡ map (λ (p : Port). p.width) ports = cc in
    ap (λ v. v ∷ map (net_joined wire) (connections_of nets ports wires)) (back w h.0) ∙ ap (λ l. w ∷ l) (joined_back nets wire back ports wires rest h.1)

module _ (before : List ModuleText) (line : ℕ) (m : ModuleText) (rules : IsModule m) (found : List ℕ → Option NamedModule) where
  instance_back : (i : Instance) → IsJoined before found i → Each (IsNet (nets_of m)) i.nets
      → instance_of found (wire_of (usable (named_of before line m)) (net_forms (named_of before line m))) (instance_named before (nets_of m) i) ≡ i
  instance_back i both declared =
      let is = both.joins in
      let wire = wire_of (usable (named_of before line m)) (net_forms (named_of before line m)) in
      let w = both.shows in
      let nets : map (net_joined wire) (connections_of (nets_of m) (ports_in (whole.module_named before i.module)) i.nets) ≡ i.nets =
      ap (λ o. map (net_joined wire) (connections_of (nets_of m) (ports_in o) i.nets)) is.found
      ∙ joined_back (nets_of m) wire (wire_back before line m rules) is.whole.ports i.nets is.connects.widths declared in
      let drives : map output_of (ports_by (found i.module)) ≡ i.drives = ap (λ o. map output_of (ports_by o)) w.is ∙ ap (map output_of) w.ports ∙ sym is.connects.drives in
      ap (λ l. (let j : Instance = record { name = i.name; «module» = i.module; nets = l; drives = map output_of (ports_by (found i.module)) } in j)) nets
      ∙ ap (λ l. (let j : Instance = record { name = i.name; «module» = i.module; nets = i.nets; drives = l } in j)) drives

  pub instances_back : (instances : List Instance) → Each (IsJoined before found) instances → Each (λ (i : Instance). Each (IsNet (nets_of m)) i.nets) instances
      → map (instance_of found (wire_of (usable (named_of before line m)) (net_forms (named_of before line m)))) (map (instance_named before (nets_of m)) instances) ≡ instances
  instances_back [] is declared = refl
  instances_back (i ∷ instances) is declared =
      ap (λ j. j ∷ map (instance_of found (wire_of (usable (named_of before line m)) (net_forms (named_of before line m)))) (map (instance_named before (nets_of m)) instances)) (instance_back i is.0 declared.0)
      ∙ ap (λ l. i ∷ l) (instances_back instances is.1 declared.1)

  pub module_back : Each (IsJoined before found) m.instances → built_in found (named_of before line m) ≡ m
  module_back is =
      let wire = wire_of (usable (named_of before line m)) (net_forms (named_of before line m)) in
      let built = built_in found (named_of before line m) in
      ap (λ l. module_of m.name m.ports m.wires l built.assigns built.nexts built.instances) (regs_back before line m rules)
      ∙ ap (λ l. module_of m.name m.ports m.wires m.regs l built.nexts built.instances) (assigns_back (nets_of m) wire (wire_back before line m rules) m.assigns rules.wired.results rules.wired.cells)
      ∙ ap (λ l. module_of m.name m.ports m.wires m.regs m.assigns l built.instances) (nexts_back (nets_of m) wire (wire_back before line m rules) m.nexts rules.wired.registers)
      ∙ ap (λ l. module_of m.name m.ports m.wires m.regs m.assigns m.nexts l) (instances_back m.instances is rules.connected.declared)

-- only the last module has instances
pub others_alone : (name : List ℕ) (modules : List ModuleText) (before : List ModuleText) → whole.EndsInTop (last_module modules) before → Each (λ n. n ≢ name) (map (λ (m : ModuleText). m.name) modules) → name ≢ codes "top"
others_alone name [] before ends other e = absurd ends
others_alone name (m ∷ []) before ends other e = other.0 (ends.0 ∙ sym e)
others_alone name (m ∷ n ∷ modules) before ends other e = others_alone name (n ∷ modules) before ends other.1 e

-- some modules of a netlist, after those that these are by names
pub netlist_back : (before : List ModuleText) (line : ℕ) (modules : List ModuleText) (named : List NamedModule) → Each IsModule modules → AreDistinct (map (λ (m : ModuleText). m.name) modules) → whole.EndsInTop (last_module modules) before
    → AreShown before (module_named (named ++ all_named before line (earlier modules))) → built_after named (all_named before line modules) ≡ modules
netlist_back before line [] named rules distinct ends are_shown = refl
netlist_back before line (m ∷ []) named rules distinct ends are_shown =
    ap (λ k. k ∷ []) (module_back before line m rules.0 (module_named named) (all_joined before (module_named named) (subst (λ l. AreShown before (module_named l)) (append-nil named) are_shown) m.instances ends.1))
netlist_back before line (m ∷ n ∷ modules) named rules distinct ends are_shown =
    let alone : m.instances ≡ [] = rules.0.alone (others_alone m.name (n ∷ modules) before ends distinct.0) in
    let one : built_in (module_named named) (named_of before line m) ≡ m =
    module_back before line m rules.0 (module_named named) (subst (Each (IsJoined before (module_named named))) (sym alone) tt) in
    ap (λ k. k ∷ built_after (named ++ named_of before line m ∷ []) (all_named before (line + line_count (named_of before line m)) (n ∷ modules))) one
    ∙ ap (λ l. m ∷ l) (netlist_back before (line + line_count (named_of before line m)) (n ∷ modules) (named ++ named_of before line m ∷ []) rules.1 distinct.1 ends
    (subst (λ l. AreShown before (module_named l)) (sym (append_assoc named (named_of before line m ∷ []) (all_named before (line + line_count (named_of before line m)) (earlier (n ∷ modules))))) are_shown))
