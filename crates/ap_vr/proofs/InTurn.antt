-- What drives the nets of a module and which widths its lines need, sort by sort.
use Rattle.std.proofs.Common.{◌≡◌, ℕ, suc, ◌+◌, ◌<◌, ◌&&◌, not, Bool, true, false, cond, List, [], ◌∷◌, ◌++◌, length, map, Option, Some, None, option_map, refl, sym, ap, ◌∙◌, arith}
use Rattle.std.specs.Option.{option_or}
use Rattle.std.proofs.lemmas.List.{length-append, length-map}
use Rattle.ap_vr.specs.declared.module.NamedModule.{NamedModule}
use Rattle.ap_vr.specs.declared.nets.NetForm.{NetForm}
use Rattle.ap_vr.specs.declared.nets.Nets.{Nets}
use Rattle.ap_vr.specs.Driving.{all_driven, assigns_drive, driven_after, driven_twice_in, first_undriven, first_wrong, instances_drive, needs_driver, net_line, nexts_drive, none_driven, undriven_in, wrong_by}
use Rattle.ap_vr.specs.Marks.{AreNumbered, IsNetsOf}
use Rattle.ap_vr.specs.Nets.{net_forms, number_of, own_form, port_form, reg_form, width_of, wire_form}
use Rattle.ap_vr.specs.Scope.{assigns_from, instances_from, net_name, net_names, nexts_from, own_names, port_name, usable}
use Rattle.ap_vr.specs.Widths.{misfit_assign, misfit_by, misfit_in, misfit_instance, misfit_next}

pub misfit_in_turn : (found : List ℕ → Option NamedModule) (m : NamedModule) (nets : Nets) (a n i : Option ℕ) → IsNetsOf m nets → a ≡ misfit_assign (width_of nets.names nets.forms) (assigns_from m) m.assigns
    → n ≡ misfit_next (width_of nets.names nets.forms) (nexts_from m) m.nexts → i ≡ misfit_instance found (width_of nets.names nets.forms) (instances_from m) m.instances → option_or (option_or a n) i ≡ misfit_in found m
unfolding misfit_in
misfit_in_turn found m nets a n i h ea en ei =
    ap (λ o. option_or (option_or o n) i) ea ∙ ap (λ o. option_or (option_or (misfit_assign (width_of nets.names nets.forms) (assigns_from m) m.assigns) o) i) en
    ∙ ap (λ o. option_or (option_or (misfit_assign (width_of nets.names nets.forms) (assigns_from m) m.assigns) (misfit_next (width_of nets.names nets.forms) (nexts_from m) m.nexts)) o) ei
    ∙ ap (λ ns. misfit_by found (width_of ns nets.forms) m) h.names ∙ ap (λ fs. misfit_by found (width_of (usable m) fs) m) h.forms

module _ (found : List ℕ → Option NamedModule) (number : List ℕ → ℕ) (m : NamedModule) (d0 d1 d2 : ℕ → Bool) (e0 : d0 ≡ none_driven) (e1 : d1 ≡ driven_after d0 (assigns_drive number m)) (e2 : d2 ≡ driven_after d1 (nexts_drive number m)) where
  at_nexts : d1 ≡ driven_after none_driven (assigns_drive number m)
  at_nexts = e1 ∙ ap (λ (d : ℕ → Bool). driven_after d (assigns_drive number m)) e0

  at_instances : d2 ≡ driven_after (driven_after none_driven (assigns_drive number m)) (nexts_drive number m)
  at_instances = e2 ∙ ap (λ (d : ℕ → Bool). driven_after d (nexts_drive number m)) at_nexts

  wrong_of : (forms : List NetForm) (a n i : Option ℕ) → a ≡ first_wrong forms false d0 (assigns_from m) (assigns_drive number m) → n ≡ first_wrong forms true d1 (nexts_from m) (nexts_drive number m)
      → i ≡ first_wrong forms false d2 (instances_from m) (instances_drive found number m) → option_or (option_or a n) i ≡ wrong_by found number forms m
  wrong_of forms a n i ea en ei =
      ap (λ o. option_or (option_or o n) i) (ea ∙ ap (λ (d : ℕ → Bool). first_wrong forms false d (assigns_from m) (assigns_drive number m)) e0)
      ∙ ap (λ o. option_or (option_or (first_wrong forms false none_driven (assigns_from m) (assigns_drive number m)) o) i) (en ∙ ap (λ (d : ℕ → Bool). first_wrong forms true d (nexts_from m) (nexts_drive number m)) at_nexts)
      ∙ ap (option_or (option_or (first_wrong forms false none_driven (assigns_from m) (assigns_drive number m)) (first_wrong forms true (driven_after none_driven (assigns_drive number m)) (nexts_from m) (nexts_drive number m))))
      (ei ∙ ap (λ (d : ℕ → Bool). first_wrong forms false d (instances_from m) (instances_drive found number m)) at_instances)

  all_of : (d3 : ℕ → Bool) → d3 ≡ driven_after d2 (instances_drive found number m) → d3 ≡ all_driven found number m
  all_of d3 e3 = e3 ∙ ap (λ (d : ℕ → Bool). driven_after d (instances_drive found number m)) at_instances

pub wrong_in_turn : (found : List ℕ → Option NamedModule) (number : List ℕ → ℕ) (forms : List NetForm) (m : NamedModule) (d0 d1 d2 : ℕ → Bool) (a n i : Option ℕ) → d0 ≡ none_driven
    → a ≡ first_wrong forms false d0 (assigns_from m) (assigns_drive number m) → d1 ≡ driven_after d0 (assigns_drive number m) → n ≡ first_wrong forms true d1 (nexts_from m) (nexts_drive number m)
    → d2 ≡ driven_after d1 (nexts_drive number m) → i ≡ first_wrong forms false d2 (instances_from m) (instances_drive found number m) → option_or (option_or a n) i ≡ wrong_by found number forms m
wrong_in_turn found number forms m d0 d1 d2 a n i e0 ea e1 en e2 ei = wrong_of found number m d0 d1 d2 e0 e1 e2 forms a n i ea en ei

pub all_in_turn : (found : List ℕ → Option NamedModule) (number : List ℕ → ℕ) (m : NamedModule) (d0 d1 d2 d3 : ℕ → Bool) → d0 ≡ none_driven → d1 ≡ driven_after d0 (assigns_drive number m) → d2 ≡ driven_after d1 (nexts_drive number m)
    → d3 ≡ driven_after d2 (instances_drive found number m) → d3 ≡ all_driven found number m
all_in_turn found number m d0 d1 d2 d3 e0 e1 e2 e3 = all_of found number m d0 d1 d2 e0 e1 e2 d3 e3

-- the nets of a module are numbered alike
names_long : (m : NamedModule) → length (usable m) ≡ ((length m.ports + length m.wires) + length m.regs) + 2
names_long m =
    length-append (net_names m) own_names ∙ ap (λ n. n + 2) (length-append (map port_name m.ports ++ map net_name m.wires) (map net_name m.regs)
    ∙ ap (λ n. n + length (map net_name m.regs)) (length-append (map port_name m.ports) (map net_name m.wires) ∙ ap (λ n. n + length (map net_name m.wires)) (length-map m.ports port_name) ∙ ap (λ n. length m.ports + n) (length-map m.wires net_name))
    ∙ ap (λ n. (length m.ports + length m.wires) + n) (length-map m.regs net_name))

forms_long : (m : NamedModule) → length (net_forms m) ≡ ((length m.ports + length m.wires) + length m.regs) + 2
forms_long m =
    length-append (map port_form m.ports ++ map wire_form m.wires ++ map reg_form m.regs) (own_form ∷ own_form ∷ []) ∙ ap (λ n. n + 2) (length-append (map port_form m.ports ++ map wire_form m.wires) (map reg_form m.regs)
    ∙ ap (λ n. n + length (map reg_form m.regs)) (length-append (map port_form m.ports) (map wire_form m.wires) ∙ ap (λ n. n + length (map wire_form m.wires)) (length-map m.ports port_form) ∙ ap (λ n. length m.ports + n) (length-map m.wires wire_form))
    ∙ ap (λ n. (length m.ports + length m.wires) + n) (length-map m.regs reg_form))

pub are_numbered : (m : NamedModule) (nets : Nets) (marked : List Bool) → IsNetsOf m nets → length marked ≡ length nets.forms → AreNumbered nets marked
are_numbered m nets marked h e = record {
  names = ap length h.names ∙ names_long m ∙ sym (forms_long m) ∙ sym (ap length h.forms) ∙ sym e;
  forms = sym e;
  some = (let long : length marked ≡ ((length m.ports + length m.wires) + length m.regs) + 2 = e ∙ ap length h.forms ∙ forms_long m in omega (arith, long));
}

pub wrong_found : (found : List ℕ → Option NamedModule) (m : NamedModule) (nets : Nets) (line : Option ℕ) → IsNetsOf m nets → line ≡ wrong_by found (number_of nets.names) nets.forms m → line ≡ driven_twice_in found m
unfolding driven_twice_in
wrong_found found m nets line h e = e ∙ ap (λ ns. wrong_by found (number_of ns) nets.forms m) h.names ∙ ap (λ fs. wrong_by found (number_of (usable m)) fs m) h.forms

-- a net without a driver is none of the last two
undriven_low : (driven : ℕ → Bool) (n : ℕ) (forms : List NetForm) (k : ℕ) → first_undriven driven n (forms ++ own_form ∷ own_form ∷ []) ≡ Some k → k < n + length forms
undriven_low driven n [] k e = absurd (let no : None ≡ Some k = e in cc)
undriven_low driven n (f ∷ forms) k e = go (needs_driver f.role && not (driven n)) refl (undriven_low driven (n + 1) forms k) where
  go : (b : Bool) → (needs_driver f.role && not (driven n)) ≡ b → (first_undriven driven (n + 1) (forms ++ own_form ∷ own_form ∷ []) ≡ Some k → k < (n + 1) + length forms) → k < n + suc (length forms)
  go true h later =
      let at : Some n ≡ Some k = sym (ap (λ b. cond b (Some n) (first_undriven driven (n + 1) (forms ++ own_form ∷ own_form ∷ []))) h) ∙ e in
      let same : n ≡ k = cc in
      omega (arith, same)
  go false h later = let low = later (sym (ap (λ b. cond b (Some n) (first_undriven driven (n + 1) (forms ++ own_form ∷ own_form ∷ []))) h) ∙ e) in omega (arith, low)

-- it is one of the ports, wires and registers
pub undriven_within : (m : NamedModule) (nets : Nets) (driven : ℕ → Bool) (k : ℕ) (o : Option ℕ) → IsNetsOf m nets → o ≡ first_undriven driven 0 nets.forms → o ≡ Some k → k < (length m.ports + length m.wires) + length m.regs
undriven_within m nets driven k o h is at =
    let low = undriven_low driven 0 (map port_form m.ports ++ map wire_form m.wires ++ map reg_form m.regs) k (sym (is ∙ ap (first_undriven driven 0) h.forms) ∙ at) in
    let long : length (map port_form m.ports ++ map wire_form m.wires ++ map reg_form m.regs) + 2 ≡ ((length m.ports + length m.wires) + length m.regs) + 2 =
    sym (length-append (map port_form m.ports ++ map wire_form m.wires ++ map reg_form m.regs) (own_form ∷ own_form ∷ [])) ∙ forms_long m in
    omega (arith, low, long)

pub undriven_found : (found : List ℕ → Option NamedModule) (m : NamedModule) (nets : Nets) (driven : ℕ → Bool) (o : Option ℕ) → IsNetsOf m nets → driven ≡ all_driven found (number_of nets.names) m → o ≡ first_undriven driven 0 nets.forms
    → option_map (net_line m) o ≡ undriven_in found m
unfolding undriven_in
undriven_found found m nets driven o h d e =
    ap (option_map (net_line m)) (e ∙ ap (λ (f : ℕ → Bool). first_undriven f 0 nets.forms) d ∙ ap (λ ns. first_undriven (all_driven found (number_of ns) m) 0 nets.forms) h.names
    ∙ ap (first_undriven (all_driven found (number_of (usable m)) m) 0) h.forms)
