-- The modules by names that a netlist is have no fault, and its text is that of no other netlist.
use Rattle.std.proofs.Common.{◌≡◌, ◌≢◌, ℕ, ◌+◌, ◌≤◌, false, cond, List, [], ◌∷◌, ◌++◌, length, map, Option, Some, None, inl, inr, refl, sym, ap, subst, ◌∙◌, append_assoc, append-nil}
use Rattle.std.specs.List.{AllByRecursion as Each}
use Rattle.std.specs.Option.{option_or}
use Rattle.std.specs.Str.{bytes_eq}
use Rattle.std.proofs.lemmas.Bool.{or_from}
use Rattle.std.proofs.lemmas.List.Folds.{list_any-append}
use Rattle.ap_net.specs.Modules as whole
use Rattle.ap_net.specs.Modules.{IsModule, IsNetlist, ModuleText, earlier, last_module}
use Rattle.ap_net.specs.Names.{AreDistinct}
use Rattle.ap_net.specs.Text.{Spells, netlist_text}
use Rattle.ap_net.proofs.Lists.{All-both}
use Rattle.ap_vr.specs.declared.fault.NetFault.{NetFault}
use Rattle.ap_vr.specs.declared.fault.NetFault.TheVariants.{NoMemory, At}
use Rattle.ap_vr.specs.declared.fault.NetKind.{NetKind}
use Rattle.ap_vr.specs.declared.fault.NetKind.TheVariants as kind
use Rattle.ap_vr.specs.declared.judging.Rule.TheVariants as rule
use Rattle.ap_vr.specs.declared.module.NamedModule.{NamedModule}
use Rattle.ap_vr.specs.Built.{IsOnly, IsWantOfMemory, IsWithoutFault, built}
use Rattle.ap_vr.specs.Driving.{driven_twice_in, undriven_in}
use Rattle.ap_vr.specs.Judged.{HasFault, IsFaultless, IsTextFault, line_by}
use Rattle.ap_vr.specs.Named.{IsNamedModule, named_text}
use Rattle.ap_vr.specs.Reading.{AreModulesOf, IsWellFormed, line_count, text_limit}
use Rattle.ap_vr.specs.Scope.{first_by, is_among, module_name, module_named, repeated_after, repeated_in, unknown_in}
use Rattle.ap_vr.specs.Widths.{misfit_in}
use Rattle.ap_vr.proofs.BuildSteps.{no_among}
use Rattle.ap_vr.proofs.BuiltNetlist.{faultless_build}
use Rattle.ap_vr.proofs.Differing.{AreNew}
use Rattle.ap_vr.proofs.NamedDriven.{all_have_drivers, none_twice_driven}
use Rattle.ap_vr.proofs.NamedKnown.{all_known, all_wide, new_behind, none_both, none_repeated}
use Rattle.ap_vr.proofs.NamedNetlist.{AreShown, IsJoined, all_joined, netlist_back, others_alone, shown}
use Rattle.ap_vr.proofs.NamedOf.{all_named, all_numbered, named_of, text_named}
use Rattle.ap_vr.proofs.NamedRules.{all_rules, earlier_keep, named_top}
use Rattle.ap_vr.proofs.OneReading.{one_reading, well_formed}
use Rattle.ap_vr.proofs.Rules.{AreFaultless, IsFaultlessModule}

-- each module has no fault
module_faultless : (before : List ModuleText) (line : ℕ) (m : ModuleText) → IsModule m → (found : List ℕ → Option NamedModule) → Each (IsJoined before found) m.instances → IsFaultlessModule found (named_of before line m)
module_faultless before line m rules found is = record {
  known = all_known before line m rules found is;
  fresh = none_repeated before line m rules found;
  once = none_twice_driven before line m rules found is;
  driven = all_have_drivers before line m rules found is;
  fit = all_wide before line m rules found is;
}

each_faultless : (before : List ModuleText) (line : ℕ) (modules : List ModuleText) (named : List NamedModule) → Each IsModule modules → AreDistinct (map (λ (m : ModuleText). m.name) modules) → whole.EndsInTop (last_module modules) before
    → AreShown before (module_named (named ++ all_named before line (earlier modules))) → AreFaultless named (all_named before line modules)
each_faultless before line [] named rules distinct ends are_shown = tt
each_faultless before line (m ∷ []) named rules distinct ends are_shown =
    (module_faultless before line m rules.0 (module_named named) (all_joined before (module_named named) (subst (λ l. AreShown before (module_named l)) (append-nil named) are_shown) m.instances ends.1), tt)
each_faultless before line (m ∷ n ∷ modules) named rules distinct ends are_shown =
    let alone : m.instances ≡ [] = rules.0.alone (others_alone m.name (n ∷ modules) before ends distinct.0) in (
      module_faultless before line m rules.0 (module_named named) (subst (Each (IsJoined before (module_named named))) (sym alone) tt),
      each_faultless before (line + line_count (named_of before line m)) (n ∷ modules) (named ++ named_of before line m ∷ []) rules.1 distinct.1 ends
          (subst (λ l. AreShown before (module_named l)) (sym (append_assoc named (named_of before line m ∷ []) (all_named before (line + line_count (named_of before line m)) (earlier (n ∷ modules))))) are_shown),
    )

-- so no rule finds a line
known_by : (named modules : List NamedModule) → AreFaultless named modules → first_by unknown_in named modules ≡ None
known_by named [] h = refl
known_by named (m ∷ modules) h = none_both (unknown_in (module_named named) m) (first_by unknown_in (named ++ m ∷ []) modules) h.0.known (known_by (named ++ m ∷ []) modules h.1)

once_by : (named modules : List NamedModule) → AreFaultless named modules → first_by (line_by rule.DrivenTwice) named modules ≡ None
once_by named [] h = refl
once_by named (m ∷ modules) h = none_both (driven_twice_in (module_named named) m) (first_by (line_by rule.DrivenTwice) (named ++ m ∷ []) modules) h.0.once (once_by (named ++ m ∷ []) modules h.1)

driven_by : (named modules : List NamedModule) → AreFaultless named modules → first_by (line_by rule.Undriven) named modules ≡ None
driven_by named [] h = refl
driven_by named (m ∷ modules) h = none_both (undriven_in (module_named named) m) (first_by (line_by rule.Undriven) (named ++ m ∷ []) modules) h.0.driven (driven_by (named ++ m ∷ []) modules h.1)

fit_by : (named modules : List NamedModule) → AreFaultless named modules → first_by (line_by rule.Misfit) named modules ≡ None
fit_by named [] h = refl
fit_by named (m ∷ modules) h = none_both (misfit_in (module_named named) m) (first_by (line_by rule.Misfit) (named ++ m ∷ []) modules) h.0.fit (fit_by (named ++ m ∷ []) modules h.1)

among_neither : (names : List (List ℕ)) (name n : List ℕ) → is_among names n ≡ false → n ≢ name → is_among (names ++ name ∷ []) n ≡ false
among_neither names name n e other = list_any-append (bytes_eq n) names (name ∷ []) ∙ or_from (is_among names n) (is_among (name ∷ []) n) e (no_among (name ∷ []) n ((λ same. other (sym same)), tt))

fresh_by : (names : List (List ℕ)) (earlier_named modules : List NamedModule) → AreNew names (map module_name modules) → AreFaultless earlier_named modules → repeated_after names modules ≡ None
fresh_by names earlier_named [] new h = refl
fresh_by names earlier_named (m ∷ modules) new h =
    ap (λ b. cond b (Some m.line) (option_or (repeated_in m) (repeated_after (names ++ m.name ∷ []) modules))) new.apart.0
    ∙ none_both (repeated_in m) (repeated_after (names ++ m.name ∷ []) modules) h.0.fresh (fresh_by (names ++ m.name ∷ []) (earlier_named ++ m ∷ []) modules (one_more new) h.1)
  where
    one_more : AreNew names (m.name ∷ map module_name modules) → AreNew (names ++ m.name ∷ []) (map module_name modules)
    one_more both = record {
      apart = All-both (λ n. is_among names n ≡ false) (λ n. n ≢ m.name) (λ n. is_among (names ++ m.name ∷ []) n ≡ false) (λ n e other. among_neither names m.name n e other) (map module_name modules) both.apart.1 both.distinct.0;
      distinct = both.distinct.1;
    }

names_named : (before : List ModuleText) (line : ℕ) (modules : List ModuleText) → map module_name (all_named before line modules) ≡ map (λ (m : ModuleText). m.name) modules
names_named before line [] = refl
names_named before line (m ∷ modules) = ap (λ l. m.name ∷ l) (names_named before (line + line_count (named_of before line m)) modules)

-- the modules of a netlist by names, whose first begins in the first line
abbrev pub lines_of : List ModuleText → List NamedModule
lines_of net = all_named (earlier net) 1 net

pub netlist_faultless : (net : List ModuleText) → IsNetlist net → IsFaultless (lines_of net)
netlist_faultless net h =
    let each = each_faultless (earlier net) 1 net [] h.each h.distinct h.last (shown (earlier net) 1 (earlier net)) in
    let distinct : AreDistinct (map module_name (lines_of net)) = subst AreDistinct (sym (names_named (earlier net) 1 net)) h.distinct in
    record {
      named = (known_by [] (lines_of net) each, fresh_by [] [] (lines_of net) (new_behind [] (map module_name (lines_of net)) distinct) each);
      driven = (once_by [] (lines_of net) each, driven_by [] (lines_of net) each);
      fit = fit_by [] (lines_of net) each;
    }

-- their text is that of the netlist, and they are built as it was
lines_text : (net : List ModuleText) → named_text (lines_of net) ≡ netlist_text net
lines_text net = text_named (earlier net) 1 net

lines_rules : (net : List ModuleText) → IsNetlist net → Each IsNamedModule (lines_of net)
lines_rules net h = all_rules (earlier net) 1 net (earlier_keep net h.each) h.each h.distinct h.last

lines_back : (net : List ModuleText) → IsNetlist net → built (lines_of net) ≡ net
lines_back net h = netlist_back (earlier net) 1 net [] h.each h.distinct h.last (shown (earlier net) 1 (earlier net))

-- a text spells one netlist
pub one_netlist : (a b : List ModuleText) → IsNetlist a → IsNetlist b → netlist_text a ≡ netlist_text b → a ≡ b
one_netlist a b p q e =
    let same : lines_of a ≡ lines_of b =
    one_reading (lines_of a) (lines_of b) (lines_rules a p) (lines_rules b q) (all_numbered (earlier a) 1 a) (all_numbered (earlier b) 1 b) (lines_text a ∙ e ∙ sym (lines_text b)) in
    sym (lines_back a p) ∙ ap built same ∙ lines_back b q

-- modules without fault have none
none_some : (o : Option ℕ) (n : ℕ) → o ≡ None → o ≡ Some n → ⊥
none_some o n e f = let clash : None ≡ Some n = sym e ∙ f in cc

no_fault : (modules : List NamedModule) → IsFaultless modules → (line : ℕ) (k : NetKind) → HasFault modules line k → ⊥
no_fault modules h line kind.BadForm f = f
no_fault modules h line kind.UnknownName f = none_some _ line h.named.0 f
no_fault modules h line kind.TwiceNamed f = none_some _ line h.named.1 f.1
no_fault modules h line kind.TwiceDriven f = none_some _ line h.driven.0 f.1
no_fault modules h line kind.NotDriven f = none_some _ line h.driven.1 f.2
no_fault modules h line kind.WidthDiffers f = none_some _ line h.fit f.2

-- and so has the text of a netlist, within the limit
pub text_faultless : (net : List ModuleText) (text : List ℕ) → IsNetlist net → Spells net text → length text ≤ text_limit → (line : ℕ) (k : NetKind) → IsTextFault text (At line k) → ⊥
text_faultless net text h spells short line k fault = go fault where
  is_text : text ≡ named_text (lines_of net)
  is_text = spells ∙ sym (lines_text net)

  form : IsWellFormed text
  form = subst IsWellFormed (sym is_text) (well_formed (lines_of net) (lines_rules net h) (named_top (earlier net) 1 net h.last) (subst (λ t. length t ≤ text_limit) is_text short))

  go : IsTextFault text (At line k) → ⊥
  go (inl bad) = form line bad.1
  go (inr both) =
      let are = both.1.1 in
      let same : both.1.0 ≡ lines_of net = one_reading both.1.0 (lines_of net) are.rules (lines_rules net h) are.numbers (all_numbered (earlier net) 1 net) (sym are.spelled ∙ is_text) in
      no_fault (lines_of net) (netlist_faultless net h) line k (subst (λ ms. HasFault ms line k) same both.1.2)

-- a text whose modules have no fault has none
pub read_faultless : (text : List ℕ) (modules : List NamedModule) → IsWellFormed text → AreModulesOf text modules → IsFaultless modules → IsWithoutFault text
read_faultless text modules form are faultless line k (inl bad) = form line bad.1
read_faultless text modules form are faultless line k (inr both) =
    let other = both.1.1 in
    let same : both.1.0 ≡ modules = one_reading both.1.0 modules other.rules are.rules other.numbers are.numbers (sym other.spelled ∙ are.spelled) in
    no_fault modules faultless line k (subst (λ ms. HasFault ms line k) same both.1.2)

-- what is built of the modules of a text is the netlist that the text spells, and the only one
pub read_spelled : (text : List ℕ) (modules : List NamedModule) (made : List ModuleText) → AreModulesOf text modules → IsFaultless modules → made ≡ built modules → Spells made text
read_spelled text modules made are faultless is = are.spelled ∙ sym (ap netlist_text is ∙ (faultless_build modules are.rules are.top faultless).1)

pub read_only : (text : List ℕ) (modules : List NamedModule) (made : List ModuleText) → AreModulesOf text modules → IsFaultless modules → made ≡ built modules → IsOnly text made
read_only text modules made are faultless is other rules spells =
    one_netlist made other (subst IsNetlist (sym is) (faultless_build modules are.rules are.top faultless).0) rules (sym (read_spelled text modules made are faultless is) ∙ spells)

-- what is refused of the text of a netlist is refused for want of memory
pub only_memory : (text : List ℕ) (why : NetFault) → IsTextFault text why → IsWantOfMemory text why
only_memory text NoMemory fault net rules spells short = refl
only_memory text (At line k) fault net rules spells short = absurd (text_faultless net text rules spells short line k fault)
