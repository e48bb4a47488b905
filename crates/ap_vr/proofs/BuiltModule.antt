-- A module without fault keeps all that a finished module keeps.
use Rattle.std.proofs.Common.{◌≡◌, ◌≢◌, ℕ, Bool, true, false, List, ◌∷◌, ◌++◌, map, Option, Some, refl, sym, ap, subst, ◌∙◌}
use Rattle.std.specs.List.{AllByRecursion as Each}
use Rattle.std.specs.Prelude.{codes, slice_get}
use Rattle.ap_net.specs.declared.net.Assign.{Assign}
use Rattle.ap_net.specs.declared.net.Instance.{Instance}
use Rattle.ap_net.specs.declared.net.ModuleNet.{ModuleNet}
use Rattle.ap_net.specs.declared.net.Next.{Next}
use Rattle.ap_net.specs.declared.net.Role.{Role}
use Rattle.ap_net.specs.declared.net.Role.TheVariants as role
use Rattle.ap_net.specs.Modules.{IsModule, nets_of}
use Rattle.ap_net.specs.Names.{AreDistinct, IsNetName}
use Rattle.ap_net.specs.Wiring.{IsConnected, IsDriven, IsFree, IsSource, IsWired, NoneTwice, Unclocked, Undriven, driven_by, names_taken, reset_of, taken_names}
use Rattle.ap_net.proofs.Lists.{All-from, All-map, All-unmap, map-map}
use Rattle.ap_vr.specs.declared.line.NamedAssign.{NamedAssign}
use Rattle.ap_vr.specs.declared.line.NamedInstance.{NamedInstance}
use Rattle.ap_vr.specs.declared.module.NamedModule.{NamedModule}
use Rattle.ap_vr.specs.Built.{assign_of, built_in, instance_of, next_of, wire_of}
use Rattle.ap_vr.specs.Driving.{also_all, assigns_drive, instances_drive, needs_driver, nexts_drive, none_driven}
use Rattle.ap_vr.specs.LineTexts.{IsInstance}
use Rattle.ap_vr.specs.Named.{IsNamedModule}
use Rattle.ap_vr.specs.Nets.{net_forms, number_of}
use Rattle.ap_vr.specs.Scope.{is_among, net_names, own_names, usable}
use Rattle.ap_vr.proofs.BuiltInstances.{all_connected, all_paired, drives_by}
use Rattle.ap_vr.proofs.BuiltLines.{IsDriver, assign_each, assigned_once, cells_fit, clocked_once, drivers, drivers_fit, each_assign, each_next, free_of, next_each, register_of, resets_fit, results_declared, results_free}
use Rattle.ap_vr.proofs.Declaring.{nets_named, nets_wide}
use Rattle.ap_vr.proofs.Differing.{instances_distinct, nets_distinct}
use Rattle.ap_vr.proofs.DrivenOnce.{DrivesRightly, May, all_are_driven, drives_rightly, joined, none_before, none_of, none_twice, not_driven}
use Rattle.ap_vr.proofs.Numbers.{bare, built_names, form_of, form_there}
use Rattle.ap_vr.proofs.Rules.{Fits, IsFaultlessModule, IsFresh, Knows, fitting_widths, fresh_names, known_names}

-- a net that is no source needs a driver, and so does a register
needed : (r : Role) → (IsSource r → ⊥) → needs_driver (bare r) ≡ true
needed role.Input free = absurd (free tt)
needed role.Output free = refl
needed role.Plain free = refl
needed (role.Register reset) free = refl

needed_register : (r : Role) → r ≡ role.Register (reset_of r) → needs_driver (bare r) ≡ true
needed_register role.Input e = cc
needed_register role.Output e = refl
needed_register role.Plain e = refl
needed_register (role.Register reset) e = refl

source_register : (r : Role) → r ≡ role.Register (reset_of r) → IsSource r
source_register role.Input e = tt
source_register role.Output e = cc
source_register role.Plain e = cc
source_register (role.Register reset) e = tt

abbrev the_nets : (List ℕ → Option NamedModule) → NamedModule → List ModuleNet
the_nets found m = nets_of (built_in found m)

-- the numbers that assigns, drivers of registers and instances drive
abbrev by_assigns : NamedModule → List ℕ
by_assigns m = joined (assigns_drive (number_of (usable m)) m)

abbrev by_nexts : NamedModule → List ℕ
by_nexts m = joined (nexts_drive (number_of (usable m)) m)

abbrev by_instances : (List ℕ → Option NamedModule) → NamedModule → List ℕ
by_instances found m = joined (instances_drive found (number_of (usable m)) m)

module _ (found : List ℕ → Option NamedModule) (m : NamedModule) (rules : IsNamedModule m) (whole : IsFaultlessModule found m) where
  drives : DrivesRightly found m
  drives = drives_rightly found m whole.once

  knows : Knows found m
  knows = known_names found m whole.known

  fits : Fits found m
  fits = fitting_widths found m whole.fit

  fresh : IsFresh m
  fresh = fresh_names m whole.fresh

  assigns_may : Each (λ (a : NamedAssign). May (net_forms m) false (number_of (usable m) a.to)) m.assigns
  assigns_may = each_assign (number_of (usable m)) (May (net_forms m) false) m.assigns drives.assigns.may

  pub all_drivers : Each (IsDriver m) m.nexts
  all_drivers = drivers found m rules knows.nexts fits.nexts (each_next (number_of (usable m)) (May (net_forms m) true) m.nexts drives.nexts.may)

  taken : taken_names (the_nets found m) ≡ own_names ++ net_names m
  taken = ap (λ l. codes "clk" ∷ codes "rst" ∷ l) (built_names found m)

  wired : IsWired (the_nets found m) (built_in found m).assigns (built_in found m).nexts
  wired = record {
    names = nets_named found m rules;
    distinct = subst AreDistinct (sym taken) (nets_distinct m fresh);
    widths = nets_wide found m rules;
    resets = resets_fit found m rules fresh all_drivers;
    results = results_declared found m rules knows.assigns assigns_may;
    cells = cells_fit found m rules knows.assigns fits.assigns;
    free = results_free found m rules assigns_may;
    once = assigned_once (wire_of (usable m) (net_forms m)) m.assigns (none_twice none_driven (by_assigns m) drives.assigns.free);
    registers = drivers_fit found m rules all_drivers;
    clocked_once = clocked_once (wire_of (usable m) (net_forms m)) m.nexts (none_twice (also_all none_driven (by_assigns m)) (by_nexts m) drives.nexts.free);
  }

  -- what instances drive
  joins : driven_by (built_in found m).instances ≡ by_instances found m
  joins = drives_by found (wire_of (usable m) (net_forms m)) m.instances

  by_no_assign : (n : ℕ) → also_all (also_all none_driven (by_assigns m)) (by_nexts m) n ≡ false → Undriven (built_in found m).assigns n
  by_no_assign n e =
      let earlier = none_of (also_all none_driven (by_assigns m)) (by_nexts m) n e in
      All-map (λ (a : Assign). a.to.number ≢ n) (assign_of (wire_of (usable m) (net_forms m))) m.assigns
      (each_assign (number_of (usable m)) (λ k. k ≢ n) m.assigns (none_of none_driven (by_assigns m) n earlier.0).1)

  names_apart : AreDistinct (names_taken (built_in found m).instances (the_nets found m))
  names_apart =
      subst AreDistinct (ap (λ l. l ++ (own_names ++ net_names m)) (sym (map-map (instance_of found (wire_of (usable m) (net_forms m))) (λ (i : Instance). i.name) m.instances))
      ∙ ap (λ l. map (λ (i : Instance). i.name) (built_in found m).instances ++ l) (sym taken)) (instances_distinct m fresh)

  connected : IsConnected (the_nets found m) (built_in found m).assigns (built_in found m).instances
  connected = record {
    names = All-map (λ (i : Instance). IsNetName i.name) (instance_of found (wire_of (usable m) (net_forms m))) m.instances
        (All-from IsInstance (λ (i : NamedInstance). IsNetName i.name) (λ i is. is.0) m.instances rules.instances);
    distinct = names_apart;
    declared = all_connected found m rules knows.instances;
    paired = all_paired found (wire_of (usable m) (net_forms m)) (is_among (usable m)) m.instances knows.instances;
    free = subst (Each (IsFree (the_nets found m))) (sym joins) (All-from (May (net_forms m) false) (IsFree (the_nets found m)) (free_of found m) (by_instances found m) drives.instances.may);
    undriven = subst (Each (Undriven (built_in found m).assigns)) (sym joins)
        (All-from (λ n. also_all (also_all none_driven (by_assigns m)) (by_nexts m) n ≡ false) (Undriven (built_in found m).assigns) by_no_assign (by_instances found m)
        (none_before (also_all (also_all none_driven (by_assigns m)) (by_nexts m)) (by_instances found m) drives.instances.free));
    once = subst NoneTwice (sym joins) (none_twice (also_all (also_all none_driven (by_assigns m)) (by_nexts m)) (by_instances found m) drives.instances.free);
  }

  -- what no line of a sort drives
  other_than : (clocked : Bool) (n : ℕ) (numbers : List ℕ) → Each (May (net_forms m) clocked) numbers → (May (net_forms m) clocked n → ⊥) → Each (λ k. k ≢ n) numbers
  other_than clocked n numbers may none = All-from (May (net_forms m) clocked) (λ k. k ≢ n) (λ k h same. none (subst (May (net_forms m) clocked) same h)) numbers may

  undriven_assigns : (n : ℕ) → Undriven (built_in found m).assigns n → Each (λ k. k ≢ n) (by_assigns m)
  undriven_assigns n none = assign_each (number_of (usable m)) (λ k. k ≢ n) m.assigns (All-unmap (λ (a : Assign). a.to.number ≢ n) (assign_of (wire_of (usable m) (net_forms m))) m.assigns none)

  unclocked_nexts : (n : ℕ) → Unclocked (built_in found m).nexts n → Each (λ k. k ≢ n) (by_nexts m)
  unclocked_nexts n none = next_each (number_of (usable m)) (λ k. k ≢ n) m.nexts (All-unmap (λ (x : Next). x.register.number ≢ n) (next_of (wire_of (usable m) (net_forms m))) m.nexts none)

  -- a net that no line drives needs no driver
  some_driver : (n : ℕ) (net : ModuleNet) → slice_get (the_nets found m) n ≡ Some net → needs_driver (bare net.role) ≡ true → Each (λ k. k ≢ n) (by_assigns m) → Each (λ k. k ≢ n) (by_nexts m) → Each (λ k. k ≢ n) (by_instances found m) → ⊥
  some_driver n net at needs a x i =
      let yes = all_are_driven found m n (form_of net) whole.driven (form_there found m n net at) needs in
      let no = not_driven (also_all (also_all none_driven (by_assigns m)) (by_nexts m)) (by_instances found m) n
      (not_driven (also_all none_driven (by_assigns m)) (by_nexts m) n (not_driven none_driven (by_assigns m) n refl a) x) i in
      cc

  driven : IsDriven (the_nets found m) (built_in found m).assigns (built_in found m).nexts (built_in found m).instances
  driven = record {
    driven = λ n net at free undriven unjoined. some_driver n net at (needed net.role free) (undriven_assigns n undriven)
        (other_than true n (by_nexts m) drives.nexts.may (λ may. free (source_register net.role (register_of found m n may net at))))
        (subst (Each (λ k. k ≢ n)) joins unjoined);
    clocked = λ n net at register unclocked. some_driver n net at (needed_register net.role register)
        (other_than false n (by_assigns m) drives.assigns.may (λ may. free_of found m n may net at (source_register net.role register)))
        (unclocked_nexts n unclocked)
        (other_than false n (by_instances found m) drives.instances.may (λ may. free_of found m n may net at (source_register net.role register)));
  }

  pub built_keeps : IsModule (built_in found m)
  built_keeps = record {
    name = rules.name;
    ports = rules.some;
    wired = wired;
    connected = connected;
    driven = driven;
    alone = λ other. ap (map (instance_of found (wire_of (usable m) (net_forms m)))) (rules.alone other);
  }
