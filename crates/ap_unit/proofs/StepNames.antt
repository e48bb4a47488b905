-- The wires of a unit that makes a step a cycle are named n and digits, and its registers q and digits.
use Rattle.std.proofs.Common.{◌≡◌, ◌≢◌, ℕ, suc, ◌+◌, ◌<◌, Bool, true, false, List, [], ◌∷◌, ◌++◌, length, map, Some, refl, sym, ap, ◌∙◌, arith}
use Rattle.std.specs.Prelude.{slice_get, option_map, codes, IsTrue}
use Rattle.std.specs.List.{AllByRecursion as Each}
use Rattle.std.proofs.lemmas.Option.{slice_get_within, slice_get-map}
use Rattle.ap_net.specs.declared.net.Role.{Role}
use Rattle.ap_net.specs.declared.net.Role.TheVariants as role
use Rattle.ap_net.specs.declared.net.ModuleNet.{ModuleNet}
use Rattle.ap_net.specs.declared.net.Net.{Net}
use Rattle.ap_net.specs.declared.net.RegNet.{RegNet}
use Rattle.ap_net.specs.declared.cell.Wire.{Wire}
use Rattle.ap_net.specs.Names.{IsNew, IsNotNumbered}
use Rattle.ap_net.specs.Wiring.{reset_of}
use Rattle.ap_net.specs.Draft.{Draft, names_of}
use Rattle.ap_net.specs.Making.{Makes}
use Rattle.ap_net.specs.Modules.{ModuleText, IsModule, nets_of, port_net, wire_net, reg_net, regs_among}
use Rattle.ap_net.specs.Finished.{IsFinished}
use Rattle.ap_net.proofs.Laws.{net-Adds}
use Rattle.ap_unit.specs.declared.stepper.Pair.{Pair}
use Rattle.ap_unit.specs.Named.{is_lettered, NamesPlainly}
use Rattle.ap_unit.specs.Stepping.{step_nets, with_stepper}
use Rattle.ap_unit.proofs.Placed.{not_there, same_place}
use Rattle.ap_unit.proofs.Names.{Each-by_get}
use Rattle.ap_unit.proofs.PlainNames.{IsNotNumbered-other, get_left, get_right, not_new}
use Rattle.ap_unit.proofs.StepNets.{IsStepRegister, counter, high, low}
use Rattle.ap_unit.proofs.Stepped.{ended, its_register}

-- what holds of every register among nets
each_register : (P : List ℕ → Type 0) (nets : List ModuleNet) → ((n : ℕ) (net : ModuleNet) → slice_get nets n ≡ Some net → net.role ≡ role.Register (reset_of net.role) → P net.name)
    → Each (λ (x : RegNet). P x.name) (regs_among nets)
each_register P [] h = tt
each_register P (net ∷ nets) h = by_role net.role refl (each_register P nets (λ n x at. h (suc n) x at))
  where
    by_role : (r : Role) → net.role ≡ r → Each (λ (x : RegNet). P x.name) (regs_among nets) → Each (λ (x : RegNet). P x.name) (regs_among (net ∷ nets))
    by_role role.Input e rest = rw e rest
    by_role role.Output e rest = rw e rest
    by_role role.Plain e rest = rw e rest
    by_role (role.Register reset) e rest = rw e (h 0 net refl (e ∙ ap (λ (q : Role). role.Register (reset_of q)) (sym e)), rest)

-- the place of a wire in a module
wire_at : (m : ModuleText) (i : ℕ) (x : Net) → slice_get m.wires i ≡ Some x → slice_get (nets_of m) (length (map port_net m.ports) + i) ≡ Some (wire_net x)
wire_at m i x at =
    let here : slice_get (map wire_net m.wires) i ≡ Some (wire_net x) = slice_get-map wire_net m.wires i ∙ ap (option_map wire_net) at in
    get_left (map port_net m.ports ++ map wire_net m.wires) (map reg_net m.regs) (length (map port_net m.ports) + i) (wire_net x)
    (get_right (map port_net m.ports) (map wire_net m.wires) i ∙ here)

register_named : (w k n : ℕ) (net : ModuleNet) → IsStepRegister w k n net → IsTrue (is_lettered 113 net.name)
register_named w k n net counter = refl
register_named w k n net high = refl
register_named w k n net low = refl

module _ (old last : Draft) (w k : ℕ) (state : Pair) (count : Wire) (all : Makes (with_stepper old.name w k) last) where
  module _ (m : ModuleText) (rules : IsModule m) (f : IsFinished (ended last w k count state) m) where
    -- a wire has the name of no port or register
    other_name : (i : ℕ) (x : Net) → slice_get m.wires i ≡ Some x → (n : ℕ) (net : ModuleNet) → slice_get (step_nets w k) n ≡ Some net → (role.Plain ≡ net.role → ⊥) → net.name ≢ x.name
    other_name i x at n net there other e =
        let p : ℕ = length (map port_net m.ports) + i in
        let within : slice_get last.nets n ≡ Some net = net-Adds (with_stepper old.name w k) last n net all.adds there in
        let placed : slice_get (nets_of m) (f.place n) ≡ Some net = f.nets n (slice_get_within last.nets n net within) ∙ within in
        let one : f.place n ≡ p = same_place (nets_of m) rules.wired.distinct.1.1 (f.place n) p net (wire_net x) placed (wire_at m i x at) e in
        let here : slice_get (nets_of m) (f.place n) ≡ Some (wire_net x) = ap (slice_get (nets_of m)) one ∙ wire_at m i x at in
        let same : wire_net x ≡ net = cc in
        other (ap (λ (y : ModuleNet). y.role) same)

    new_name : (i : ℕ) (x : Net) → slice_get m.wires i ≡ Some x → IsNotNumbered x.name → IsNew x.name (names_of (with_stepper old.name w k))
    new_name i x at plain =
        let p : ℕ = length (map port_net m.ports) + i in
        let clk = not_there (codes "clk") (nets_of m) p (wire_net x) rules.wired.distinct.0.1 (wire_at m i x at) in
        let rst = not_there (codes "rst") (nets_of m) p (wire_net x) rules.wired.distinct.1.0 (wire_at m i x at) in
        (λ e. clk (sym e), (λ e. rst (sym e), (other_name i x at 0 _ refl (λ e. cc), (other_name i x at 1 _ refl (λ e. cc), (other_name i x at 2 _ refl (λ e. cc), (other_name i x at 3 _ refl (λ e. cc), (other_name i x at 4 _ refl (λ e. cc), (other_name i x at 5 _ refl (λ e. cc), (other_name i x at 6 _ refl (λ e. cc), (other_name i x at 7 _ refl (λ e. cc), (other_name i x at 8 _ refl (λ e. cc), (other_name i x at 9 _ refl (λ e. cc), (λ e. plain 0 (omega arith) (sym e), (λ e. plain 1 (omega arith) (sym e), tt))))))))))))))

    wire_named : (i : ℕ) (x : Net) → slice_get m.wires i ≡ Some x → IsTrue (is_lettered 110 x.name)
    wire_named i x at = by_test (is_lettered 110 x.name) refl
      where
        by_test : (t : Bool) → is_lettered 110 x.name ≡ t → IsTrue (is_lettered 110 x.name)
        by_test true e = e
        by_test false e =
            let plain = IsNotNumbered-other x.name e in
            let fresh : IsNew x.name (names_of last) = all.names x.name plain (new_name i x at plain) in
            let p : ℕ = length (map port_net m.ports) + i in
            let inside : p < length (nets_of m) = slice_get_within (nets_of m) p (wire_net x) (wire_at m i x at) in
            let there : slice_get last.nets (f.back p) ≡ Some (wire_net x) = sym (f.nets (f.back p) (f.within p inside)) ∙ ap (slice_get (nets_of m)) (f.covers p inside) ∙ wire_at m i x at in
            absurd (not_new last.instances last.nets x.name (f.back p) (wire_net x) fresh there refl)

  pub step_names : NamesPlainly (ended last w k count state)
  step_names m rules f = record {
    wires = Each-by_get (λ (x : Net). IsTrue (is_lettered 110 x.name)) m.wires (wire_named m rules f);
    regs = rw f.regs (each_register (λ name. IsTrue (is_lettered 113 name)) last.nets (λ n net at is. register_named w k n net (its_register old last w k all n net at is)));
  }
