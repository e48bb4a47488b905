-- What the lines of a module keep in which no rule finds one.
use Rattle.std.proofs.Common.{◌≡◌, ℕ, ◌+◌, not, Bool, true, false, cond, List, [], ◌∷◌, ◌++◌, map, Option, Some, None, refl, sym, ap, ◌∙◌}
use Rattle.std.specs.List.{AllByRecursion as Each, position_from}
use Rattle.std.specs.Option.{option_or}
use Rattle.ap_vr.specs.declared.judging.Rule.TheVariants as rule
use Rattle.ap_vr.specs.declared.line.NamedAssign.{NamedAssign}
use Rattle.ap_vr.specs.declared.line.NamedInstance.{NamedInstance}
use Rattle.ap_vr.specs.declared.line.NamedNext.{NamedNext}
use Rattle.ap_vr.specs.declared.module.NamedModule.{NamedModule}
use Rattle.ap_vr.specs.Driving.{driven_twice_in, undriven_in}
use Rattle.ap_vr.specs.Judged.{IsFaultless, line_by}
use Rattle.ap_vr.specs.Nets.{net_forms, width_of}
use Rattle.ap_vr.specs.Scope.{assigns_from, first_by, first_repeat, instance_name, instances_from, is_among, knows_assign, knows_instance, knows_next, module_named, net_name, nexts_from, own_names, port_name, ports_from, regs_from, repeated_after, repeated_in, unknown_in, usable, wires_from}
use Rattle.ap_vr.specs.Widths.{assign_fits, instance_fits, misfit_in, next_fits}

pub neither : (a b : Option ℕ) → option_or a b ≡ None → (a ≡ None) × (b ≡ None)
neither None b e = (refl, e)
neither (Some n) b e = cc

-- a test that fails nowhere holds everywhere
pub holds_everywhere : {X : Type 0} (test : X → Bool) (from : ℕ) (xs : List X) → position_from (λ x. not (test x)) from xs ≡ None → Each (λ x. test x ≡ true) xs
holds_everywhere test from [] e = tt
holds_everywhere {X} test from (x ∷ xs) e = go (test x) refl (holds_everywhere test (from + 1) xs) where
  go : (b : Bool) → test x ≡ b → (position_from (λ y. not (test y)) (from + 1) xs ≡ None → Each (λ y. test y ≡ true) xs) → Each (λ y. test y ≡ true) (x ∷ xs)
  go true h later = (h, later (sym (ap (λ b. cond (not b) (Some from) (position_from (λ y. not (test y)) (from + 1) xs)) h) ∙ e))
  go false h later = let no : Some from ≡ None = sym (ap (λ b. cond (not b) (Some from) (position_from (λ y. not (test y)) (from + 1) xs)) h) ∙ e in cc

-- no rule finds a line of the module, where instances are of modules that are found
pub record IsFaultlessModule (found : List ℕ → Option NamedModule) (m : NamedModule) : Type 0 where
  pub known : unknown_in found m ≡ None
  pub fresh : repeated_in m ≡ None
  pub once : driven_twice_in found m ≡ None
  pub driven : undriven_in found m ≡ None
  pub fit : misfit_in found m ≡ None

-- and so of some modules, each of which may have instances of those before it
abbrev pub AreFaultless : List NamedModule → List NamedModule → Type 0
AreFaultless earlier [] = Unit {0}
AreFaultless earlier (m ∷ modules) = IsFaultlessModule (module_named earlier) m × AreFaultless (earlier ++ m ∷ []) modules

pub later_fresh : (names : List (List ℕ)) (m : NamedModule) (modules : List NamedModule) → repeated_after names (m ∷ modules) ≡ None
    → (is_among names m.name ≡ false) × (repeated_in m ≡ None) × (repeated_after (names ++ m.name ∷ []) modules ≡ None)
later_fresh names m modules e = go (is_among names m.name) refl where
  go : (b : Bool) → is_among names m.name ≡ b → (is_among names m.name ≡ false) × (repeated_in m ≡ None) × (repeated_after (names ++ m.name ∷ []) modules ≡ None)
  go true h = let no : Some m.line ≡ None = sym (ap (λ b. cond b (Some m.line) (option_or (repeated_in m) (repeated_after (names ++ m.name ∷ []) modules))) h) ∙ e in cc
  go false h =
      let both = neither (repeated_in m) (repeated_after (names ++ m.name ∷ []) modules) (sym (ap (λ b. cond b (Some m.line) (option_or (repeated_in m) (repeated_after (names ++ m.name ∷ []) modules))) h) ∙ e) in
      (h, both.0, both.1)

are_faultless : (earlier modules : List NamedModule) (names : List (List ℕ)) → first_by unknown_in earlier modules ≡ None → repeated_after names modules ≡ None
    → first_by (line_by rule.DrivenTwice) earlier modules ≡ None → first_by (line_by rule.Undriven) earlier modules ≡ None → first_by (line_by rule.Misfit) earlier modules ≡ None → AreFaultless earlier modules
are_faultless earlier [] names known fresh once driven fit = tt
are_faultless earlier (m ∷ modules) names known fresh once driven fit =
    let k = neither (unknown_in (module_named earlier) m) (first_by unknown_in (earlier ++ m ∷ []) modules) known in
    let n = later_fresh names m modules fresh in
    let o = neither (driven_twice_in (module_named earlier) m) (first_by (line_by rule.DrivenTwice) (earlier ++ m ∷ []) modules) once in
    let d = neither (undriven_in (module_named earlier) m) (first_by (line_by rule.Undriven) (earlier ++ m ∷ []) modules) driven in
    let f = neither (misfit_in (module_named earlier) m) (first_by (line_by rule.Misfit) (earlier ++ m ∷ []) modules) fit in
    (record { known = k.0; fresh = n.1; once = o.0; driven = d.0; fit = f.0 }, are_faultless (earlier ++ m ∷ []) modules (names ++ m.name ∷ []) k.1 n.2 o.1 d.1 f.1)

pub each_faultless : (modules : List NamedModule) → IsFaultless modules → AreFaultless [] modules
each_faultless modules h = are_faultless [] modules [] h.named.0 h.named.1 h.driven.0 h.driven.1 h.fit

-- the names that lines use are known
pub record Knows (found : List ℕ → Option NamedModule) (m : NamedModule) : Type 0 where
  pub assigns : Each (λ (a : NamedAssign). knows_assign (is_among (usable m)) a ≡ true) m.assigns
  pub nexts : Each (λ (x : NamedNext). knows_next (is_among (usable m)) x ≡ true) m.nexts
  pub instances : Each (λ (i : NamedInstance). knows_instance found (is_among (usable m)) i ≡ true) m.instances

pub known_names : (found : List ℕ → Option NamedModule) (m : NamedModule) → unknown_in found m ≡ None → Knows found m
unfolding unknown_in
known_names found m e =
    let known = is_among (usable m) in
    let two = neither (option_or (position_from (λ (a : NamedAssign). not (knows_assign known a)) (assigns_from m) m.assigns) (position_from (λ (x : NamedNext). not (knows_next known x)) (nexts_from m) m.nexts))
    (position_from (λ (i : NamedInstance). not (knows_instance found known i)) (instances_from m) m.instances) e in
    let one = neither (position_from (λ (a : NamedAssign). not (knows_assign known a)) (assigns_from m) m.assigns) (position_from (λ (x : NamedNext). not (knows_next known x)) (nexts_from m) m.nexts) two.0 in
    record {
      assigns = holds_everywhere (knows_assign known) (assigns_from m) m.assigns one.0;
      nexts = holds_everywhere (knows_next known) (nexts_from m) m.nexts one.1;
      instances = holds_everywhere (knows_instance found known) (instances_from m) m.instances two.1;
    }

-- the widths of lines are those that they need
pub record Fits (found : List ℕ → Option NamedModule) (m : NamedModule) : Type 0 where
  pub assigns : Each (λ (a : NamedAssign). assign_fits (width_of (usable m) (net_forms m)) a ≡ true) m.assigns
  pub nexts : Each (λ (x : NamedNext). next_fits (width_of (usable m) (net_forms m)) x ≡ true) m.nexts
  pub instances : Each (λ (i : NamedInstance). instance_fits found (width_of (usable m) (net_forms m)) i ≡ true) m.instances

pub fitting_widths : (found : List ℕ → Option NamedModule) (m : NamedModule) → misfit_in found m ≡ None → Fits found m
unfolding misfit_in
fitting_widths found m e =
    let width = width_of (usable m) (net_forms m) in
    let two = neither (option_or (position_from (λ (a : NamedAssign). not (assign_fits width a)) (assigns_from m) m.assigns) (position_from (λ (x : NamedNext). not (next_fits width x)) (nexts_from m) m.nexts))
    (position_from (λ (i : NamedInstance). not (instance_fits found width i)) (instances_from m) m.instances) e in
    let one = neither (position_from (λ (a : NamedAssign). not (assign_fits width a)) (assigns_from m) m.assigns) (position_from (λ (x : NamedNext). not (next_fits width x)) (nexts_from m) m.nexts) two.0 in
    record {
      assigns = holds_everywhere (assign_fits width) (assigns_from m) m.assigns one.0;
      nexts = holds_everywhere (next_fits width) (nexts_from m) m.nexts one.1;
      instances = holds_everywhere (instance_fits found width) (instances_from m) m.instances two.1;
    }

-- no name is declared twice
pub record IsFresh (m : NamedModule) : Type 0 where
  pub ports : first_repeat own_names (ports_from m) (map port_name m.ports) ≡ None
  pub wires : first_repeat (own_names ++ map port_name m.ports) (wires_from m) (map net_name m.wires) ≡ None
  pub regs : first_repeat ((own_names ++ map port_name m.ports) ++ map net_name m.wires) (regs_from m) (map net_name m.regs) ≡ None
  pub instances : first_repeat (((own_names ++ map port_name m.ports) ++ map net_name m.wires) ++ map net_name m.regs) (instances_from m) (map instance_name m.instances) ≡ None

pub fresh_names : (m : NamedModule) → repeated_in m ≡ None → IsFresh m
unfolding repeated_in
fresh_names m e =
    let p = first_repeat own_names (ports_from m) (map port_name m.ports) in
    let w = first_repeat (own_names ++ map port_name m.ports) (wires_from m) (map net_name m.wires) in
    let r = first_repeat ((own_names ++ map port_name m.ports) ++ map net_name m.wires) (regs_from m) (map net_name m.regs) in
    let i = first_repeat (((own_names ++ map port_name m.ports) ++ map net_name m.wires) ++ map net_name m.regs) (instances_from m) (map instance_name m.instances) in
    let three = neither (option_or (option_or p w) r) i e in
    let two = neither (option_or p w) r three.0 in
    let one = neither p w two.0 in
    record { ports = one.0; wires = one.1; regs = two.1; instances = three.1 }
