-- Finding modules by their names, and what the modules of a netlist keep.
use Rattle.std.proofs.Common.{◌≡◌, ◌≢◌, ℕ, suc, zero, ◌+◌, ◌-◌, ◌<◌, List, [], ◌∷◌, ◌++◌, length, get_or, map, take, drop, Option, Some, None, true, false, refl, sym, ap, subst, ◌∙◌, arith, add-one, append_assoc, drop-cons}
use Rattle.std.specs.Prelude.{slice_get, codes, if◌then◌else◌}
use Rattle.std.specs.List.{AllByRecursion as Each}
use Rattle.std.specs.Str.{bytes_eq}
use Rattle.std.proofs.lemmas.Slice.Eq.{bytes_eq-Decides}
use Rattle.ap_net.specs.declared.cell.Wire.{Wire}
use Rattle.ap_net.specs.declared.net.ModuleNet.{ModuleNet}
use Rattle.ap_net.specs.declared.net.Port.{Port}
use Rattle.ap_net.specs.declared.net.Instance.{Instance}
use Rattle.ap_net.specs.Names.{AreDistinct}
use Rattle.ap_net.specs.Modules.{ModuleText, IsModule, IsInstanceIn, EndsInTop, module_named, last_module, earlier}
use Rattle.std.proofs.lemmas.List.{length-map}
use Rattle.ap_net.specs.Text.{connection_text, connections_text, wire_name, ports_in}
use Rattle.std.proofs.lemmas.Option.{slice_get-get_or}
use Rattle.ap_net.proofs.Lists.{All-at, All-unmap, some_same}

-- the first module has the name, or it is looked for among the others
named_here : (x : ModuleText) (modules : List ModuleText) (name : List ℕ) → x.name ≡ name → module_named (x ∷ modules) name ≡ Some x
named_here x modules name e = let yes : bytes_eq x.name name ≡ true = (bytes_eq-Decides x.name name).1 e in rw yes refl

named_later : (x : ModuleText) (modules : List ModuleText) (name : List ℕ) → x.name ≢ name → module_named (x ∷ modules) name ≡ module_named modules name
named_later x modules name ne =
    elim (bytes_eq x.name name) as (λ t. bytes_eq x.name name ≡ t → (if t then Some x else module_named modules name) ≡ module_named modules name) [
      | true ↦ λ t. absurd (ne ((bytes_eq-Decides x.name name).0 t))
      | false ↦ λ t. refl
    ] refl

split : (modules : List ModuleText) (i : ℕ) (x : ModuleText) → i < length modules → x ≡ get_or modules i x → drop i modules ≡ x ∷ drop (i + 1) modules
split modules i x lt e = rw add-one (drop-cons modules i x lt ∙ ap (λ m. m ∷ drop (suc i) modules) (sym e))

-- the module at a place is found where those before it have other names
pub found_at : (modules : List ModuleText) (name : List ℕ) (i : ℕ) (x : ModuleText) → i < length modules → x ≡ get_or modules i x → module_named (drop i modules) name ≡ module_named modules name → x.name ≡ name
    → module_named modules name ≡ Some x
found_at modules name i x lt e rest same = sym rest ∙ ap (λ l. module_named l name) (split modules i x lt e) ∙ named_here x (drop (i + 1) modules) name same

pub passed_at : (modules : List ModuleText) (name : List ℕ) (i : ℕ) (x : ModuleText) → i < length modules → x ≡ get_or modules i x → module_named (drop i modules) name ≡ module_named modules name → x.name ≢ name
    → module_named (drop (i + 1) modules) name ≡ module_named modules name
passed_at modules name i x lt e rest other = sym (named_later x (drop (i + 1) modules) name other) ∙ ap (λ l. module_named l name) (sym (split modules i x lt e)) ∙ rest

-- the module of a name that stands once is found
pub named_once : (modules : List ModuleText) (i : ℕ) (m : ModuleText) → AreDistinct (map (λ (x : ModuleText). x.name) modules) → slice_get modules i ≡ Some m → module_named modules m.name ≡ Some m
named_once [] i m d at = cc
named_once (x ∷ modules) zero m d at = let same : x ≡ m = some_same at in named_here x modules m.name (ap (λ (y : ModuleText). y.name) same) ∙ ap Some same
named_once (x ∷ modules) (suc i) m d at = named_later x modules m.name (λ e. other modules i (All-unmap (λ name. name ≢ x.name) (λ (y : ModuleText). y.name) modules d.0) at (sym e)) ∙ named_once modules i m d.1 at
  where
    other : (ms : List ModuleText) (i : ℕ) → Each (λ (y : ModuleText). y.name ≢ x.name) ms → slice_get ms i ≡ Some m → m.name ≢ x.name
    other [] i h at = cc
    other (y ∷ ms) zero h at = subst (λ (z : ModuleText). z.name ≢ x.name) (some_same at) h.0
    other (y ∷ ms) (suc i) h at = other ms i h.1 at

-- all but the last module
pub take-earlier : (modules : List ModuleText) → take (length modules - 1) modules ≡ earlier modules
take-earlier [] = refl
take-earlier (m ∷ []) = refl
take-earlier (m ∷ n ∷ modules) =
    let e : length (m ∷ n ∷ modules) - 1 ≡ suc (length modules) = omega arith in
    let f : length (n ∷ modules) - 1 ≡ length modules = omega arith in
    rw e (ap (λ l. m ∷ l) (ap (λ k. take k (n ∷ modules)) (sym f) ∙ take-earlier (n ∷ modules)))

-- before the last one
pub earlier-push : (modules : List ModuleText) (top : ModuleText) → earlier (modules ++ top ∷ []) ≡ modules
earlier-push [] top = refl
earlier-push (m ∷ []) top = refl
earlier-push (m ∷ n ∷ modules) top = ap (λ l. m ∷ l) (earlier-push (n ∷ modules) top)

pub last-push : (modules : List ModuleText) (top : ModuleText) → last_module (modules ++ top ∷ []) ≡ Some top
last-push [] top = refl
last-push (m ∷ []) top = refl
last-push (m ∷ n ∷ modules) top = last-push (n ∷ modules) top

-- what holds of each module holds of the last one
pub All-last : (P : ModuleText → Type 0) (modules : List ModuleText) (top : ModuleText) → Each P modules → last_module modules ≡ Some top → P top
All-last P [] top h e = cc
All-last P (m ∷ []) top h e = subst P (some_same e) h.0
All-last P (m ∷ n ∷ modules) top h e = All-last P (n ∷ modules) top h.1 e

-- the last module of a netlist
pub record HasTop (modules within : List ModuleText) : Type 0 where
  pub top : ModuleText
  pub last : last_module modules ≡ Some top
  pub name : top.name ≡ codes "top"
  pub instances : Each (IsInstanceIn within) top.instances

pub top_of : (modules within : List ModuleText) → EndsInTop (last_module modules) within → HasTop modules within
top_of modules within h = go (last_module modules) refl h
  where
    go : (o : Option ModuleText) → last_module modules ≡ o → EndsInTop o within → HasTop modules within
    go None e h = absurd h
    go (Some top) e h = record { top = top; last = e; name = h.0; instances = h.1 }

-- instances stand in the last module alone
pub instances_within : (within modules : List ModuleText) → Each IsModule modules → AreDistinct (map (λ (m : ModuleText). m.name) modules) → EndsInTop (last_module modules) within
    → Each (λ (m : ModuleText). Each (IsInstanceIn within) m.instances) modules
instances_within within [] kept d ends = tt
instances_within within (m ∷ []) kept d ends = (ends.1, tt)
instances_within within (m ∷ n ∷ modules) kept d ends =
    let last = top_of (n ∷ modules) within ends in
    let other : last.top.name ≢ m.name = All-last (λ (x : ModuleText). x.name ≢ m.name) (n ∷ modules) last.top (All-unmap (λ name. name ≢ m.name) (λ (x : ModuleText). x.name) (n ∷ modules) d.0) last.last in
    let none : m.instances ≡ [] = kept.0.alone (λ e. other (last.name ∙ sym e)) in
    (subst (Each (IsInstanceIn within)) (sym none) tt, instances_within within (n ∷ modules) kept.1 d.1 ends)

-- the text of one connection more
pub connection_more : (nets : List ModuleNet) (ports : List Port) (wires : List Wire) (i : ℕ) (p : Port) (w : Wire) (old mid new : List ℕ) → i < length ports → i < length wires → p ≡ get_or ports i p → w ≡ get_or wires i w
    → mid ++ connections_text nets (drop i ports) (drop i wires) ≡ old → new ≡ mid ++ connection_text p (wire_name nets w)
    → new ++ connections_text nets (drop (i + 1) ports) (drop (i + 1) wires) ≡ old
connection_more nets ports wires i p w old mid new lp lw ep ew h e =
    let ports_split : drop i ports ≡ p ∷ drop (i + 1) ports = rw add-one (drop-cons ports i p lp ∙ ap (λ x. x ∷ drop (suc i) ports) (sym ep)) in
    let wires_split : drop i wires ≡ w ∷ drop (i + 1) wires = rw add-one (drop-cons wires i w lw ∙ ap (λ x. x ∷ drop (suc i) wires) (sym ew)) in
    ap (λ t. t ++ connections_text nets (drop (i + 1) ports) (drop (i + 1) wires)) e
    ∙ append_assoc mid (connection_text p (wire_name nets w)) (connections_text nets (drop (i + 1) ports) (drop (i + 1) wires))
    ∙ ap (λ t. mid ++ t) (λ j. connections_text nets (sym ports_split j) (sym wires_split j)) ∙ h

-- what holds of each module holds of the one at an index
pub Each-get : {X : Type 0} (P : X → Type 0) (xs : List X) (i : ℕ) (x : X) → Each P xs → i < length xs → x ≡ get_or xs i x → P x
Each-get P xs i x h lt e = All-at P xs i x h (slice_get-get_or xs i x lt ∙ ap Some (sym e))

-- an instance connects as many nets as its module has ports
pub same_long : (modules : List ModuleText) (i : Instance) → IsInstanceIn modules i → length i.nets ≡ length (ports_in (module_named modules i.module))
same_long modules i h =
    (let a : length (map (λ (w : Wire). w.width) i.nets) ≡ length i.nets = simp length-map in sym a)
    ∙ ap length (h.connects).widths
    ∙ (let b : length (map (λ (p : Port). p.width) (h.whole).ports) ≡ length (h.whole).ports = simp length-map in b)
    ∙ ap (λ (o : Option ModuleText). length (ports_in o)) (sym h.found)
