-- The nets of a netlist are driven by its lines as they may be, and each once.
use Rattle.std.proofs.Common.{◌≡◌, ◌≢◌, ◌⊎◌, ℕ, zero, suc, ◌+◌, ◌==◌, ◌&&◌, ◌||◌, not, Bool, true, false, cond, List, [], ◌∷◌, ◌++◌, length, map, Option, Some, None, option_map, inl, inr, refl, sym, ap, subst, ◌∙◌, arith}
use Rattle.std.specs.List.{AllByRecursion as Each}
use Rattle.std.specs.Option.{option_or}
use Rattle.std.specs.Prelude.{slice_get}
use Rattle.std.proofs.lemmas.Bool.{and_right, ne_eqb, not_from_true, or_from}
use Rattle.ap_net.specs.declared.cell.Wire.{Wire}
use Rattle.ap_net.specs.declared.net.Assign.{Assign}
use Rattle.ap_net.specs.declared.net.Instance.{Instance}
use Rattle.ap_net.specs.declared.net.ModuleNet.{ModuleNet}
use Rattle.ap_net.specs.declared.net.Next.{Next}
use Rattle.ap_net.specs.declared.net.Role.{Role}
use Rattle.ap_net.specs.declared.net.Role.TheVariants as role
use Rattle.ap_net.specs.Cells.{IsNet}
use Rattle.ap_net.specs.Modules.{IsModule, ModuleText, nets_of}
use Rattle.ap_net.specs.Text.{wire_name}
use Rattle.ap_net.specs.Wiring.{ClockedOnce, DrivenOnce, IsFree, IsSource, NextFits, NoneTwice, Undriven, driven_among, driven_by, reset_of}
use Rattle.ap_net.proofs.Lists.{All-back, All-both, All-from, All-front, All-join, All-map, All-unmap, get_either, some_same}
use Rattle.ap_vr.specs.declared.module.NamedModule.{NamedModule}
use Rattle.ap_vr.specs.declared.nets.NetForm.{NetForm}
use Rattle.ap_vr.specs.Built.{wire_of}
use Rattle.ap_vr.specs.Driving.{all_driven, also, also_all, assign_drives, assigns_drive, driven_after, driven_twice_in, drives_wrongly, first_undriven, first_wrong, instances_drive, may_drive, needs_driver, net_line, next_drives, nexts_drive, none_driven, undriven_in}
use Rattle.ap_vr.specs.Nets.{form_at, net_forms, number_of, own_form}
use Rattle.ap_vr.specs.Scope.{assigns_from, instances_from, nexts_from, usable}
use Rattle.std.proofs.lemmas.Option.{slice_get-map}
use Rattle.ap_vr.proofs.BuiltInstances.{drives_by}
use Rattle.ap_vr.proofs.DrivenOnce.{AreFree, May, driven_joined, joined, none_of, not_driven}
use Rattle.ap_vr.proofs.NamedBack.{form_here, got, is_here, same_forms, the_forms, wire_back}
use Rattle.ap_vr.proofs.NamedKnown.{none_both}
use Rattle.ap_vr.proofs.NamedNetlist.{IsJoined, instances_back}
use Rattle.ap_vr.proofs.NamedOf.{assign_named, instance_named, named_of, next_named}
use Rattle.ap_vr.proofs.Numbers.{bare, form_of}

-- numbers of which none stands twice, and none of which is driven before
free_of_driven : (driven : ℕ → Bool) (numbers : List ℕ) → Each (λ n. driven n ≡ false) numbers → NoneTwice numbers → AreFree driven numbers
free_of_driven driven [] h once = tt
free_of_driven driven (n ∷ numbers) h once = (
  h.0,
  free_of_driven (also driven n) numbers
      (All-both (λ k. driven k ≡ false) (λ k. k ≢ n) (λ k. also driven n k ≡ false) (λ k e other. or_from (driven k) (k == n) e (ne_eqb k n other)) numbers h.1 once.0) once.1,
)

free_front : (driven : ℕ → Bool) (xs ys : List ℕ) → AreFree driven (xs ++ ys) → AreFree driven xs
free_front driven [] ys h = tt
free_front driven (x ∷ xs) ys h = (h.0, free_front (also driven x) xs ys h.1)

free_back : (driven : ℕ → Bool) (xs ys : List ℕ) → AreFree driven (xs ++ ys) → AreFree (also_all driven xs) ys
free_back driven [] ys h = h
free_back driven (x ∷ xs) ys h = free_back (also driven x) xs ys h.1

right_line : (forms : List NetForm) (clocked : Bool) (driven : ℕ → Bool) (numbers : List ℕ) → AreFree driven numbers → Each (May forms clocked) numbers → drives_wrongly forms clocked driven numbers ≡ false
right_line forms clocked driven [] free may = refl
right_line forms clocked driven (n ∷ numbers) free may =
    or_from (driven n || not (may_drive clocked (form_at forms n).role)) (drives_wrongly forms clocked (also driven n) numbers)
    (or_from (driven n) (not (may_drive clocked (form_at forms n).role)) free.0 (not_from_true (may_drive clocked (form_at forms n).role) may.0))
    (right_line forms clocked (also driven n) numbers free.1 may.1)

right_lines : (forms : List NetForm) (clocked : Bool) (driven : ℕ → Bool) (line : ℕ) (lines : List (List ℕ)) → AreFree driven (joined lines) → Each (May forms clocked) (joined lines) → first_wrong forms clocked driven line lines ≡ None
right_lines forms clocked driven line [] free may = refl
right_lines forms clocked driven line (numbers ∷ lines) free may =
    ap (λ b. cond b (Some line) (first_wrong forms clocked (also_all driven numbers) (line + 1) lines))
    (right_line forms clocked driven numbers (free_front driven numbers (joined lines) free) (All-front (May forms clocked) numbers (joined lines) may))
    ∙ right_lines forms clocked (also_all driven numbers) (line + 1) lines (free_back driven numbers (joined lines) free) (All-back (May forms clocked) numbers (joined lines) may)

-- what may be driven
free_may : (r : Role) → (IsSource r → ⊥) → may_drive false (bare r) ≡ true
free_may role.Input free = absurd (free tt)
free_may role.Output free = refl
free_may role.Plain free = refl
free_may (role.Register reset) free = absurd (free tt)

register_may : (r : Role) → r ≡ role.Register (reset_of r) → may_drive true (bare r) ≡ true
register_may role.Input e = cc
register_may role.Output e = cc
register_may role.Plain e = cc
register_may (role.Register reset) e = refl

-- the numbers of what assigns and registers drive
assign_numbers : (nets : List ModuleNet) (number : List ℕ → ℕ) → (assigns : List Assign) → Each (λ (a : Assign). number (assign_named nets a).to ≡ a.to.number) assigns
    → joined (map (assign_drives number) (map (assign_named nets) assigns)) ≡ map (λ (a : Assign). a.to.number) assigns
assign_numbers nets number [] h = refl
assign_numbers nets number (a ∷ assigns) h = ap (λ n. n ∷ joined (map (assign_drives number) (map (assign_named nets) assigns))) h.0 ∙ ap (λ l. a.to.number ∷ l) (assign_numbers nets number assigns h.1)

next_numbers : (nets : List ModuleNet) (number : List ℕ → ℕ) → (nexts : List Next) → Each (λ (x : Next). number (next_named nets x).register ≡ x.register.number) nexts
    → joined (map (next_drives number) (map (next_named nets) nexts)) ≡ map (λ (x : Next). x.register.number) nexts
next_numbers nets number [] h = refl
next_numbers nets number (x ∷ nexts) h = ap (λ n. n ∷ joined (map (next_drives number) (map (next_named nets) nexts))) h.0 ∙ ap (λ l. x.register.number ∷ l) (next_numbers nets number nexts h.1)

assigned_twice : (assigns : List Assign) → DrivenOnce assigns → NoneTwice (map (λ (a : Assign). a.to.number) assigns)
assigned_twice [] h = tt
assigned_twice (a ∷ assigns) h = (All-map (λ n. n ≢ a.to.number) (λ (b : Assign). b.to.number) assigns h.0, assigned_twice assigns h.1)

clocked_twice : (nexts : List Next) → ClockedOnce nexts → NoneTwice (map (λ (x : Next). x.register.number) nexts)
clocked_twice [] h = tt
clocked_twice (x ∷ nexts) h = (All-map (λ n. n ≢ x.register.number) (λ (y : Next). y.register.number) nexts h.0, clocked_twice nexts h.1)

-- the nets that instances drive are among those that they connect
among_driven : (P : ℕ → Type 0) (drives : List Bool) (wires : List Wire) → Each (λ (w : Wire). P w.number) wires → Each P (driven_among drives wires)
among_driven P [] wires h = tt
among_driven P (d ∷ drives) [] h = tt
among_driven P (true ∷ drives) (w ∷ wires) h = (h.0, among_driven P drives wires h.1)
among_driven P (false ∷ drives) (w ∷ wires) h = among_driven P drives wires h.1

by_driven : (P : ℕ → Type 0) (instances : List Instance) → Each (λ (i : Instance). Each (λ (w : Wire). P w.number) i.nets) instances → Each P (driven_by instances)
by_driven P [] h = tt
by_driven P (i ∷ instances) h = All-join P (driven_among i.drives i.nets) (driven_by instances) (among_driven P i.drives i.nets h.0) (by_driven P instances h.1)

-- no net is left that needs a driver
driven_everywhere : (driven : ℕ → Bool) (from : ℕ) (forms : List NetForm) → ((n : ℕ) (f : NetForm) → slice_get forms n ≡ Some f → needs_driver f.role ≡ true → driven (from + n) ≡ true) → first_undriven driven from forms ≡ None
driven_everywhere driven from [] h = refl
driven_everywhere driven from (f ∷ forms) h =
    go (needs_driver f.role) refl (driven_everywhere driven (from + 1) forms (λ n g at needs. ap driven (let z : (from + 1) + n ≡ from + suc n = omega arith in z) ∙ h (suc n) g at needs))
  where
    past : (needs_driver f.role && not (driven from)) ≡ false → first_undriven driven (from + 1) forms ≡ None → first_undriven driven from (f ∷ forms) ≡ None
    past e rest = ap (λ b. cond b (Some from) (first_undriven driven (from + 1) forms)) e ∙ rest

    go : (b : Bool) → needs_driver f.role ≡ b → first_undriven driven (from + 1) forms ≡ None → first_undriven driven from (f ∷ forms) ≡ None
    go true e rest =
        let driven_here : driven from ≡ true = ap driven (let z : from ≡ from + 0 = omega arith in z) ∙ h zero f refl e in
        past (and_right (needs_driver f.role) (not (driven from)) (not_from_true (driven from) driven_here)) rest
    go false e rest = past (ap (λ b. b && not (driven from)) e) rest

-- a net that needs a driver is a register, or no source
register_or_free : (r : Role) → needs_driver (bare r) ≡ true → (r ≡ role.Register (reset_of r)) ⊎ (IsSource r → ⊥)
register_or_free role.Input e = cc
register_or_free role.Output e = inr (λ s. s)
register_or_free role.Plain e = inr (λ s. s)
register_or_free (role.Register reset) e = inl refl

module _ (before : List ModuleText) (line : ℕ) (m : ModuleText) (rules : IsModule m) (found : List ℕ → Option NamedModule) (is : Each (IsJoined before found) m.instances) where
  number_here : (w : Wire) → IsNet (nets_of m) w → number_of (usable (named_of before line m)) (wire_name (nets_of m) w) ≡ w.number
  number_here w h = ap (λ (v : Wire). v.number) (wire_back before line m rules w h)

  by_assigns : joined (assigns_drive (number_of (usable (named_of before line m))) (named_of before line m)) ≡ map (λ (a : Assign). a.to.number) m.assigns
  by_assigns = assign_numbers (nets_of m) (number_of (usable (named_of before line m))) m.assigns
      (All-from (λ (a : Assign). IsNet (nets_of m) a.to) (λ (a : Assign). number_of (usable (named_of before line m)) (wire_name (nets_of m) a.to) ≡ a.to.number) (λ a h. number_here a.to h) m.assigns rules.wired.results)

  by_nexts : joined (nexts_drive (number_of (usable (named_of before line m))) (named_of before line m)) ≡ map (λ (x : Next). x.register.number) m.nexts
  by_nexts = next_numbers (nets_of m) (number_of (usable (named_of before line m))) m.nexts
      (All-from (NextFits (nets_of m)) (λ (x : Next). number_of (usable (named_of before line m)) (wire_name (nets_of m) x.register) ≡ x.register.number) (λ x h. number_here x.register h.register) m.nexts rules.wired.registers)

  by_instances : joined (instances_drive found (number_of (usable (named_of before line m))) (named_of before line m)) ≡ driven_by m.instances
  by_instances =
      sym (drives_by found (wire_of (usable (named_of before line m)) (net_forms (named_of before line m))) (map (instance_named before (nets_of m)) m.instances))
      ∙ ap driven_by (instances_back before line m rules found m.instances is rules.connected.declared)

  -- what lines may drive
  assign_may : (w : Wire) → IsNet (nets_of m) w → IsFree (nets_of m) w.number → May (net_forms (named_of before line m)) false w.number
  assign_may w h free =
      let here = is_here m w h in
      ap (λ (f : NetForm). may_drive false f.role) (form_here before line m w.number here.net here.at) ∙ free_may here.net.role (free here.net here.at)

  next_may : (x : Next) → NextFits (nets_of m) x → May (net_forms (named_of before line m)) true x.register.number
  next_may x h =
      let here = is_here m x.register h.register in
      ap (λ (f : NetForm). may_drive true f.role) (form_here before line m x.register.number here.net here.at) ∙ register_may here.net.role (h.clocked here.net here.at)

  assigns_may : Each (May (net_forms (named_of before line m)) false) (map (λ (a : Assign). a.to.number) m.assigns)
  assigns_may = All-map (May (net_forms (named_of before line m)) false) (λ (a : Assign). a.to.number) m.assigns
      (All-both (λ (a : Assign). IsNet (nets_of m) a.to) (λ (a : Assign). IsFree (nets_of m) a.to.number) (λ (a : Assign). May (net_forms (named_of before line m)) false a.to.number) (λ a h free. assign_may a.to h free) m.assigns rules.wired.results rules.wired.free)

  nexts_may : Each (May (net_forms (named_of before line m)) true) (map (λ (x : Next). x.register.number) m.nexts)
  nexts_may = All-map (May (net_forms (named_of before line m)) true) (λ (x : Next). x.register.number) m.nexts
      (All-from (NextFits (nets_of m)) (λ (x : Next). May (net_forms (named_of before line m)) true x.register.number) next_may m.nexts rules.wired.registers)

  instances_may : Each (May (net_forms (named_of before line m)) false) (driven_by m.instances)
  instances_may =
      All-both (λ n. IsFree (nets_of m) n → May (net_forms (named_of before line m)) false n) (IsFree (nets_of m)) (May (net_forms (named_of before line m)) false) (λ n f free. f free) (driven_by m.instances)
      (by_driven (λ n. IsFree (nets_of m) n → May (net_forms (named_of before line m)) false n) m.instances
      (All-from (λ (i : Instance). Each (IsNet (nets_of m)) i.nets) (λ (i : Instance). Each (λ (w : Wire). IsFree (nets_of m) w.number → May (net_forms (named_of before line m)) false w.number) i.nets)
      (λ i h. All-from (IsNet (nets_of m)) (λ (w : Wire). IsFree (nets_of m) w.number → May (net_forms (named_of before line m)) false w.number) assign_may i.nets h) m.instances rules.connected.declared))
      rules.connected.free

  -- a register is none of the nets that assigns and instances drive
  apart : (x : Next) → NextFits (nets_of m) x → (numbers : List ℕ) → Each (May (net_forms (named_of before line m)) false) numbers → Each (λ n. n ≢ x.register.number) numbers
  apart x h numbers may = All-from (May (net_forms (named_of before line m)) false) (λ n. n ≢ x.register.number) (λ n free same. both_ways (form_at (net_forms (named_of before line m)) n).role free (subst (May (net_forms (named_of before line m)) true) (sym same) (next_may x h))) numbers may
    where
      both_ways : (r : Role) → may_drive false r ≡ true → may_drive true r ≡ true → ⊥
      both_ways role.Input f t = cc
      both_ways role.Output f t = cc
      both_ways role.Plain f t = cc
      both_ways (role.Register reset) f t = cc

  -- and the other way round
  apart_from : (n : ℕ) → May (net_forms (named_of before line m)) false n → Each (λ k. k ≢ n) (map (λ (x : Next). x.register.number) m.nexts)
  apart_from n may = All-map (λ k. k ≢ n) (λ (x : Next). x.register.number) m.nexts
      (All-from (NextFits (nets_of m)) (λ (x : Next). x.register.number ≢ n) (λ x h same. (apart x h (n ∷ []) (may, tt)).0 (sym same)) m.nexts rules.wired.registers)

  nexts_free : Each (λ n. also_all none_driven (map (λ (a : Assign). a.to.number) m.assigns) n ≡ false) (map (λ (x : Next). x.register.number) m.nexts)
  nexts_free = All-map (λ n. also_all none_driven (map (λ (a : Assign). a.to.number) m.assigns) n ≡ false) (λ (x : Next). x.register.number) m.nexts
      (All-from (NextFits (nets_of m)) (λ (x : Next). also_all none_driven (map (λ (a : Assign). a.to.number) m.assigns) x.register.number ≡ false)
      (λ x h. not_driven none_driven (map (λ (a : Assign). a.to.number) m.assigns) x.register.number refl (apart x h (map (λ (a : Assign). a.to.number) m.assigns) assigns_may)) m.nexts rules.wired.registers)

  instance_free : (n : ℕ) → Undriven m.assigns n → May (net_forms (named_of before line m)) false n → also_all (also_all none_driven (map (λ (a : Assign). a.to.number) m.assigns)) (map (λ (x : Next). x.register.number) m.nexts) n ≡ false
  instance_free n undriven may =
      not_driven (also_all none_driven (map (λ (a : Assign). a.to.number) m.assigns)) (map (λ (x : Next). x.register.number) m.nexts) n
      (not_driven none_driven (map (λ (a : Assign). a.to.number) m.assigns) n refl (All-map (λ k. k ≢ n) (λ (a : Assign). a.to.number) m.assigns undriven)) (apart_from n may)

  pub none_twice_driven : driven_twice_in found (named_of before line m) ≡ None
  unfolding driven_twice_in
  none_twice_driven =
      let named = named_of before line m in
      let forms = net_forms named in
      let number = number_of (usable named) in
      let A = map (λ (a : Assign). a.to.number) m.assigns in
      let X = map (λ (x : Next). x.register.number) m.nexts in
      let a = assigns_drive number named in
      let x = nexts_drive number named in
      let i = instances_drive found number named in
      let da : driven_after none_driven a ≡ also_all none_driven A = driven_joined none_driven a ∙ ap (also_all none_driven) by_assigns in
      let dx : driven_after (driven_after none_driven a) x ≡ also_all (also_all none_driven A) X =
      driven_joined (driven_after none_driven a) x ∙ ap (also_all (driven_after none_driven a)) by_nexts ∙ ap (λ d. also_all d X) da in
      let first : first_wrong forms false none_driven (assigns_from named) a ≡ None =
      right_lines forms false none_driven (assigns_from named) a (subst (AreFree none_driven) (sym by_assigns) (free_of_driven none_driven A (all_free A) (assigned_twice m.assigns rules.wired.once))) (subst (Each (May forms false)) (sym by_assigns) assigns_may) in
      let second : first_wrong forms true (driven_after none_driven a) (nexts_from named) x ≡ None =
      right_lines forms true (driven_after none_driven a) (nexts_from named) x
      (subst (λ d. AreFree d (joined x)) (sym da) (subst (AreFree (also_all none_driven A)) (sym by_nexts) (free_of_driven (also_all none_driven A) X nexts_free (clocked_twice m.nexts rules.wired.clocked_once)))) (subst (Each (May forms true)) (sym by_nexts) nexts_may) in
      let third : first_wrong forms false (driven_after (driven_after none_driven a) x) (instances_from named) i ≡ None =
      right_lines forms false (driven_after (driven_after none_driven a) x) (instances_from named) i
      (subst (λ d. AreFree d (joined i)) (sym dx) (subst (AreFree (also_all (also_all none_driven A) X)) (sym by_instances) (free_of_driven (also_all (also_all none_driven A) X) (driven_by m.instances)
      (All-both (Undriven m.assigns) (May forms false) (λ n. also_all (also_all none_driven A) X n ≡ false) instance_free (driven_by m.instances) rules.connected.undriven instances_may) rules.connected.once)))
      (subst (Each (May forms false)) (sym by_instances) instances_may) in
      none_both (option_or (first_wrong forms false none_driven (assigns_from named) a) (first_wrong forms true (driven_after none_driven a) (nexts_from named) x)) (first_wrong forms false (driven_after (driven_after none_driven a) x) (instances_from named) i)
      (none_both (first_wrong forms false none_driven (assigns_from named) a) (first_wrong forms true (driven_after none_driven a) (nexts_from named) x) first second) third
    where
      all_free : (numbers : List ℕ) → Each (λ n. none_driven n ≡ false) numbers
      all_free [] = tt
      all_free (n ∷ numbers) = (refl, all_free numbers)

  -- every net that needs one has a driver
  has_driver : (n : ℕ) (net : ModuleNet) → slice_get (nets_of m) n ≡ Some net → needs_driver (bare net.role) ≡ true
      → also_all (also_all (also_all none_driven (map (λ (a : Assign). a.to.number) m.assigns)) (map (λ (x : Next). x.register.number) m.nexts)) (driven_by m.instances) n ≡ true
  has_driver n net at needs = go (also_all (also_all (also_all none_driven (map (λ (a : Assign). a.to.number) m.assigns)) (map (λ (x : Next). x.register.number) m.nexts)) (driven_by m.instances) n) refl where
    go : (b : Bool) → also_all (also_all (also_all none_driven (map (λ (a : Assign). a.to.number) m.assigns)) (map (λ (x : Next). x.register.number) m.nexts)) (driven_by m.instances) n ≡ b
        → also_all (also_all (also_all none_driven (map (λ (a : Assign). a.to.number) m.assigns)) (map (λ (x : Next). x.register.number) m.nexts)) (driven_by m.instances) n ≡ true
    go true e = e
    go false e = absurd (by_role (register_or_free net.role needs)) where
      i : (also_all (also_all none_driven (map (λ (a : Assign). a.to.number) m.assigns)) (map (λ (x : Next). x.register.number) m.nexts) n ≡ false) × Each (λ k. k ≢ n) (driven_by m.instances)
      i = none_of (also_all (also_all none_driven (map (λ (a : Assign). a.to.number) m.assigns)) (map (λ (x : Next). x.register.number) m.nexts)) (driven_by m.instances) n e

      x : (also_all none_driven (map (λ (a : Assign). a.to.number) m.assigns) n ≡ false) × Each (λ k. k ≢ n) (map (λ (x : Next). x.register.number) m.nexts)
      x = none_of (also_all none_driven (map (λ (a : Assign). a.to.number) m.assigns)) (map (λ (x : Next). x.register.number) m.nexts) n i.0

      a : (none_driven n ≡ false) × Each (λ k. k ≢ n) (map (λ (a : Assign). a.to.number) m.assigns)
      a = none_of none_driven (map (λ (a : Assign). a.to.number) m.assigns) n x.0

      by_role : (net.role ≡ role.Register (reset_of net.role)) ⊎ (IsSource net.role → ⊥) → ⊥
      by_role (inl register) = rules.driven.clocked n net at register (All-unmap (λ k. k ≢ n) (λ (y : Next). y.register.number) m.nexts x.1)
      by_role (inr free) = rules.driven.driven n net at free (All-unmap (λ k. k ≢ n) (λ (b : Assign). b.to.number) m.assigns a.1) i.1

  pub all_have_drivers : undriven_in found (named_of before line m) ≡ None
  unfolding undriven_in
  all_have_drivers =
      let named = named_of before line m in
      let number = number_of (usable named) in
      let same : all_driven found number named ≡ also_all (also_all (also_all none_driven (map (λ (a : Assign). a.to.number) m.assigns)) (map (λ (x : Next). x.register.number) m.nexts)) (driven_by m.instances) =
      driven_joined (driven_after (driven_after none_driven (assigns_drive number named)) (nexts_drive number named)) (instances_drive found number named)
      ∙ ap (also_all (driven_after (driven_after none_driven (assigns_drive number named)) (nexts_drive number named))) by_instances
      ∙ ap (λ d. also_all d (driven_by m.instances)) (driven_joined (driven_after none_driven (assigns_drive number named)) (nexts_drive number named)
      ∙ ap (also_all (driven_after none_driven (assigns_drive number named))) by_nexts
      ∙ ap (λ d. also_all d (map (λ (x : Next). x.register.number) m.nexts)) (driven_joined none_driven (assigns_drive number named) ∙ ap (also_all none_driven) by_assigns)) in
      ap (option_map (net_line named)) (driven_everywhere (all_driven found number named) 0 (net_forms named) (λ n f at needs.
      ap (all_driven found number named) (let z : 0 + n ≡ n = omega arith in z) ∙ ap (λ (d : ℕ → Bool). d n) same ∙ at_form n f at needs))
    where
      own_none : (i : ℕ) (f : NetForm) → slice_get (own_form ∷ own_form ∷ []) i ≡ Some f → needs_driver f.role ≡ true → ⊥
      own_none zero f e needs = let same : own_form ≡ f = some_same e in let no : false ≡ true = ap (λ (g : NetForm). needs_driver g.role) same ∙ needs in cc
      own_none (suc zero) f e needs = let same : own_form ≡ f = some_same e in let no : false ≡ true = ap (λ (g : NetForm). needs_driver g.role) same ∙ needs in cc
      own_none (suc (suc i)) f e needs = cc

      at_form : (n : ℕ) (f : NetForm) → slice_get (net_forms (named_of before line m)) n ≡ Some f → needs_driver f.role ≡ true
          → also_all (also_all (also_all none_driven (map (λ (a : Assign). a.to.number) m.assigns)) (map (λ (x : Next). x.register.number) m.nexts)) (driven_by m.instances) n ≡ true
      at_form n f at needs = go (get_either (the_forms m) (own_form ∷ own_form ∷ []) n f at) where
        go : (slice_get (the_forms m) n ≡ Some f) ⊎ ((i : ℕ) × (n ≡ length (the_forms m) + i) × (slice_get (own_form ∷ own_form ∷ []) i ≡ Some f))
            → also_all (also_all (also_all none_driven (map (λ (a : Assign). a.to.number) m.assigns)) (map (λ (x : Next). x.register.number) m.nexts)) (driven_by m.instances) n ≡ true
        go (inr q) = absurd (own_none q.0 f q.2 needs)
        go (inl h) =
            let net = got form_of (slice_get (nets_of m) n) f (sym (slice_get-map form_of (nets_of m) n) ∙ ap (λ l. slice_get l n) (same_forms before line m) ∙ h) in
            has_driver n net.0 net.1 (ap (λ (g : NetForm). needs_driver g.role) net.2 ∙ needs)
