-- Modules without fault make a netlist, and it has their text.
use Rattle.std.proofs.Common.{◌≡◌, ◌≢◌, ℕ, ◌==◌, Bool, true, false, cond, List, [], ◌∷◌, ◌++◌, length, map, zip, Option, Some, refl, sym, ap, subst, ◌∙◌, arith, append_assoc, append-nil}
use Rattle.std.specs.List.{AllByRecursion as Each, flat_map, list_all}
use Rattle.std.specs.Option.{option_map_or}
use Rattle.std.specs.Prelude.{codes}
use Rattle.std.specs.Str.{bytes_eq}
use Rattle.std.proofs.lemmas.Bool.{and_parts, eqb-true}
use Rattle.std.proofs.lemmas.Slice.Eq.{bytes_eq-Decides}
use Rattle.ap_net.specs.declared.cell.Wire.{Wire}
use Rattle.ap_net.specs.declared.net.Port.{Port}
use Rattle.ap_net.specs.Modules as whole
use Rattle.ap_net.specs.Modules.{Connects, IsInstanceIn, IsModule, IsNetlist, ModuleText, earlier, last_module, outputs}
use Rattle.ap_net.specs.Names.{AreDistinct}
use Rattle.ap_net.specs.Text.{module_text, ports_in}
use Rattle.ap_net.proofs.Lists.{All-both, All-map}
use Rattle.ap_vr.specs.declared.line.Connection.{Connection}
use Rattle.ap_vr.specs.declared.line.NamedInstance.{NamedInstance}
use Rattle.ap_vr.specs.declared.module.NamedModule.{NamedModule}
use Rattle.ap_vr.specs.Built.{FaultlessBuild, built, built_after, built_in, instance_of, output_of, ports_by, wire_of}
use Rattle.ap_vr.specs.Named.{IsNamedModule, named_module_text, named_text}
use Rattle.ap_vr.specs.Nets.{net_forms, width_of}
use Rattle.ap_vr.specs.Reading.{EndsInTop}
use Rattle.ap_vr.specs.Scope.{is_among, knows_instance, module_name, module_named, usable}
use Rattle.ap_vr.specs.Widths.{connections_fit, instance_fits, is_as_wide}
use Rattle.ap_vr.proofs.BuiltInstances.{is_known}
use Rattle.ap_vr.proofs.BuiltModule.{built_keeps}
use Rattle.ap_vr.proofs.BuiltText.{HasPorts, module_same}
use Rattle.ap_vr.proofs.Differing.{modules_new}
use Rattle.ap_vr.proofs.Rules.{AreFaultless, IsFaultlessModule, each_faultless, fitting_widths, known_names}
use Rattle.ap_vr.proofs.Words.{same_bytes}

-- comparing bytes goes both ways
pub bytes_same : (a b : List ℕ) → bytes_eq a b ≡ bytes_eq b a
bytes_same a b = go (bytes_eq a b) (bytes_eq b a) refl refl where
  go : (x y : Bool) → bytes_eq a b ≡ x → bytes_eq b a ≡ y → bytes_eq a b ≡ bytes_eq b a
  go true y e f = e ∙ sym ((bytes_eq-Decides b a).1 (sym (same_bytes a b e)))
  go false true e f = let no : bytes_eq a b ≡ true = (bytes_eq-Decides a b).1 (sym (same_bytes b a f)) in cc
  go false false e f = e ∙ sym f

-- all modules but the last
abbrev pub front_of : List NamedModule → List NamedModule
front_of [] = []
front_of (m ∷ []) = []
front_of (m ∷ n ∷ modules) = m ∷ front_of (n ∷ modules)

-- a module that is found by its name has been built, and its ports are the same
pub record IsMirror (before : List ModuleText) (name : List ℕ) (w : NamedModule) : Type 0 where
  pub made : ModuleText
  pub found : whole.module_named before name ≡ Some made
  pub named : made.name ≡ name
  pub ports : made.ports ≡ w.ports

mirror : (e modules : List NamedModule) (name : List ℕ) (w : NamedModule) → module_named modules name ≡ Some w → IsMirror (built_after e modules) name w
mirror e [] name w is = cc
mirror e (m ∷ modules) name w is = go (bytes_eq name m.name) refl (mirror (e ++ m ∷ []) modules name w) where
  test : (b : Bool) → bytes_eq name m.name ≡ b → whole.module_named (built_after e (m ∷ modules)) name ≡ cond b (Some (built_in (module_named e) m)) (whole.module_named (built_after (e ++ m ∷ []) modules) name)
  test b h = ap (λ c. cond c (Some (built_in (module_named e) m)) (whole.module_named (built_after (e ++ m ∷ []) modules) name)) (bytes_same m.name name ∙ h)

  here : (b : Bool) → bytes_eq name m.name ≡ b → cond b (Some m) (module_named modules name) ≡ Some w
  here b h = sym (ap (λ c. cond c (Some m) (module_named modules name)) h) ∙ is

  go : (b : Bool) → bytes_eq name m.name ≡ b → (module_named modules name ≡ Some w → IsMirror (built_after (e ++ m ∷ []) modules) name w) → IsMirror (built_after e (m ∷ modules)) name w
  go true h later =
      let it : Some m ≡ Some w = here true h in
      let same : m ≡ w = cc in
      record { made = built_in (module_named e) m; found = test true h; named = sym (same_bytes name m.name h); ports = ap (λ (k : NamedModule). k.ports) same }
  go false h later =
      let n = later (here false h) in
      record { made = n.made; found = test false h ∙ n.found; named = n.named; ports = n.ports }

-- what is built before the last module
earlier_built : (e modules : List NamedModule) → earlier (built_after e modules) ≡ built_after e (front_of modules)
earlier_built e [] = refl
earlier_built e (m ∷ []) = refl
earlier_built e (m ∷ n ∷ modules) = ap (λ l. built_in (module_named e) m ∷ l) (earlier_built (e ++ m ∷ []) (n ∷ modules))

names_built : (e modules : List NamedModule) → map (λ (m : ModuleText). m.name) (built_after e modules) ≡ map module_name modules
names_built e [] = refl
names_built e (m ∷ modules) = ap (λ l. m.name ∷ l) (names_built (e ++ m ∷ []) modules)

each_keeps : (e modules : List NamedModule) → Each IsNamedModule modules → AreFaultless e modules → Each IsModule (built_after e modules)
each_keeps e [] rules h = tt
each_keeps e (m ∷ modules) rules h = (built_keeps (module_named e) m rules.0 h.0, each_keeps (e ++ m ∷ []) modules rules.1 h.1)

-- the modules before the last aren't top
not_top : (name : List ℕ) (modules : List NamedModule) → EndsInTop modules → Each (λ n. n ≢ name) (map module_name modules) → name ≢ codes "top"
not_top name [] ends other e = absurd ends
not_top name (m ∷ []) ends other e = other.0 (ends ∙ sym e)
not_top name (m ∷ n ∷ modules) ends other e = not_top name (n ∷ modules) ends other.1 e

-- the nets that are connected are as wide as the ports
widths_same : (wire : List ℕ → Wire) (connections : List Connection) (ports : List Port) → length connections ≡ length ports → connections_fit (λ n. (wire n).width) connections ports ≡ true
    → map (λ (w : Wire). w.width) (map (λ (c : Connection). wire c.net) connections) ≡ map (λ (p : Port). p.width) ports
widths_same wire [] [] long fit = refl
widths_same wire [] (p ∷ ports) long fit = absurd (omega (arith, long))
widths_same wire (c ∷ connections) [] long fit = absurd (omega (arith, long))
widths_same wire (c ∷ connections) (p ∷ ports) long fit =
    let both = and_parts ((wire c.net).width == p.width) (list_all (is_as_wide (λ n. (wire n).width)) (zip connections ports)) fit in
    let rest = widths_same wire connections ports (let shorter : length connections ≡ length ports = omega (arith, long) in shorter) both.1 in
    ap (λ w. w ∷ map (λ (w : Wire). w.width) (map (λ (c : Connection). wire c.net) connections)) (eqb-true (wire c.net).width p.width both.0) ∙ ap (λ l. p.width ∷ l) rest

-- modules that are found by name are those that are built
abbrev AreMirrored : List ModuleText → (List ℕ → Option NamedModule) → Type 0
AreMirrored before found = (name : List ℕ) (w : NamedModule) → found name ≡ Some w → IsMirror before name w

module _ (before : List ModuleText) (found : List ℕ → Option NamedModule) (mirrored : AreMirrored before found) where
  has_ports : (i : NamedInstance) → HasPorts before found i
  has_ports i w is = let v = mirrored i.module w is in ap ports_in v.found ∙ v.ports

  all_ports : (instances : List NamedInstance) → Each (HasPorts before found) instances
  all_ports [] = tt
  all_ports (i ∷ instances) = (has_ports i, all_ports instances)

  instance_in : (wire : List ℕ → Wire) (known : List ℕ → Bool) (i : NamedInstance) → knows_instance found known i ≡ true → instance_fits found (λ n. (wire n).width) i ≡ true → IsInstanceIn before (instance_of found wire i)
  instance_in wire known i k fit =
      let w = is_known found known i k in
      let v = mirrored i.module w.whole w.is in
      record {
        whole = v.made;
        found = v.found;
        connects = record {
          named = sym v.named;
          widths =
              widths_same wire i.connections w.whole.ports w.long (sym (ap (λ o. option_map_or (λ (m : NamedModule). connections_fit (λ n. (wire n).width) i.connections m.ports) o true) w.is) ∙ fit)
              ∙ ap (map (λ (p : Port). p.width)) (sym v.ports);
          drives = ap (λ o. map output_of (ports_by o)) w.is ∙ ap (map output_of) (sym v.ports);
        };
      }

  instances_in : (m : NamedModule) → IsFaultlessModule found m → Each (IsInstanceIn before) (map (instance_of found (wire_of (usable m) (net_forms m))) m.instances)
  instances_in m h =
      All-map (IsInstanceIn before) (instance_of found (wire_of (usable m) (net_forms m))) m.instances
      (All-both (λ (i : NamedInstance). knows_instance found (is_among (usable m)) i ≡ true) (λ (i : NamedInstance). instance_fits found (width_of (usable m) (net_forms m)) i ≡ true)
      (λ (i : NamedInstance). IsInstanceIn before (instance_of found (wire_of (usable m) (net_forms m)) i)) (instance_in (wire_of (usable m) (net_forms m)) (is_among (usable m))) m.instances
      (known_names found m h.known).instances (fitting_widths found m h.fit).instances)

-- the last module is top, and its instances are of those before it; and all modules have their text
module _ (before : List ModuleText) where
  last_is_top : (e modules : List NamedModule) → AreFaultless e modules → EndsInTop modules → AreMirrored before (module_named (e ++ front_of modules)) → whole.EndsInTop (last_module (built_after e modules)) before
  last_is_top e [] h ends mirrored = absurd ends
  last_is_top e (m ∷ []) h ends mirrored = (ends, instances_in before (module_named e) (subst (λ l. AreMirrored before (module_named l)) (append-nil e) mirrored) m h.0)
  last_is_top e (m ∷ n ∷ modules) h ends mirrored =
      last_is_top (e ++ m ∷ []) (n ∷ modules) h.1 ends (subst (λ l. AreMirrored before (module_named l)) (sym (append_assoc e (m ∷ []) (front_of (n ∷ modules)))) mirrored)

  texts_same : (e modules : List NamedModule) → Each IsNamedModule modules → AreFaultless e modules → EndsInTop modules → AreDistinct (map module_name modules) → AreMirrored before (module_named (e ++ front_of modules))
      → flat_map (module_text before) (built_after e modules) ≡ named_text modules
  texts_same e [] rules h ends distinct mirrored = refl
  texts_same e (m ∷ []) rules h ends distinct mirrored =
      ap (λ l. l ++ []) (module_same before (module_named e) m rules.0 h.0 (all_ports before (module_named e) (subst (λ l. AreMirrored before (module_named l)) (append-nil e) mirrored) m.instances))
  texts_same e (m ∷ n ∷ modules) rules h ends distinct mirrored =
      let alone = rules.0.alone (not_top m.name (n ∷ modules) ends distinct.0) in
      let none : Each (HasPorts before (module_named e)) m.instances = subst (Each (HasPorts before (module_named e))) (sym alone) tt in
      ap (λ l. l ++ flat_map (module_text before) (built_after (e ++ m ∷ []) (n ∷ modules))) (module_same before (module_named e) m rules.0 h.0 none)
      ∙ ap (λ l. named_module_text m ++ l)
      (texts_same (e ++ m ∷ []) (n ∷ modules) rules.1 h.1 ends distinct.1 (subst (λ l. AreMirrored before (module_named l)) (sym (append_assoc e (m ∷ []) (front_of (n ∷ modules)))) mirrored))

pub faultless_build : FaultlessBuild
faultless_build modules rules top faultless =
    let each = each_faultless modules faultless in
    let distinct : AreDistinct (map module_name modules) = (modules_new [] modules faultless.named.1).distinct in
    let before : List ModuleText = earlier (built modules) in
    let mirrored : AreMirrored before (module_named ([] ++ front_of modules)) = λ name w is. subst (λ l. IsMirror l name w) (sym (earlier_built [] modules)) (mirror [] (front_of modules) name w is) in (
      record {
        each = each_keeps [] modules rules each;
        distinct = subst AreDistinct (sym (names_built [] modules)) distinct;
        last = last_is_top before [] modules each top mirrored;
      },
      texts_same before [] modules rules each top distinct mirrored,
    )
