-- A draft of inputs, fresh wires and the output y is a unit that takes one cycle.
use Rattle.std.proofs.Common.{◌≡◌, ℕ, suc, zero, ◌<◌, List, [], ◌∷◌, ◌++◌, map, Some, true, refl, sym, ap, subst, ◌∙◌, arith}
use Rattle.std.specs.Prelude.{slice_get, codes}
use Rattle.ap_bits.specs.declared.card.Card.{Card}
use Rattle.ap_bits.specs.declared.card.Latency.TheVariants.{One}
use Rattle.ap_bits.specs.Cards.{select_width, operation_value}
use Rattle.ap_net.specs.declared.cell.Wire.{Wire}
use Rattle.ap_net.specs.declared.net.Role.TheVariants as role
use Rattle.ap_net.specs.declared.net.ModuleNet.{ModuleNet}
use Rattle.ap_net.specs.declared.net.Port.{Port}
use Rattle.ap_net.specs.Wiring.{IsDriven, reset_of}
use Rattle.ap_net.specs.Draft.{Draft, IsKept, Adds, SettlesDraft, RegistersBelow}
use Rattle.ap_net.specs.Ready.{Ready, AllReady}
use Rattle.ap_net.specs.Making.{Closes, Makes}
use Rattle.ap_net.specs.Modules.{ModuleText, IsModule, nets_of, nets_among, ports_among, instance_placed}
use Rattle.ap_net.specs.Finished.{IsFinished}
use Rattle.ap_net.proofs.Laws.{Extends-refl, Adds-trans, net-Adds, ports_among-shown, Ready-source, Ready-Extends, ready_are_driven, ready_are_ordered}
use Rattle.ap_unit.specs.Units.{Computes, Behaves, ports_by}
use Rattle.ap_unit.specs.Built.{IsUnitDraft}
use Rattle.ap_unit.specs.Pieces.{with_inputs, input_wires, input_net, output_net, HasValue}
use Rattle.ap_unit.specs.Named.{NamesPlainly}
use Rattle.ap_unit.proofs.PlainNames.{named_plainly}
use Rattle.ap_unit.proofs.Placed.{place_is, isolated}

-- the inputs are ready
input_ready : (name : List ℕ) (s w n : ℕ) → n < 3 → Ready isolated (with_inputs name s w) n
input_ready name s w zero lt = Ready-source isolated (with_inputs name s w) 0 (input_net (codes "sel") s) refl tt tt
input_ready name s w (suc zero) lt = Ready-source isolated (with_inputs name s w) 1 (input_net (codes "a") w) refl tt tt
input_ready name s w (suc (suc zero)) lt = Ready-source isolated (with_inputs name s w) 2 (input_net (codes "b") w) refl tt tt
input_ready name s w (suc (suc (suc n))) lt = absurd (omega arith)

-- and none is a register
inputs_below : (name : List ℕ) (s w : ℕ) → RegistersBelow (with_inputs name s w).nets 0
inputs_below name s w zero net at is = let same : input_net (codes "sel") s ≡ net = cc in let r : role.Input ≡ role.Register (reset_of role.Input) = subst (λ (x : ModuleNet). x.role ≡ role.Register (reset_of x.role)) (sym same) is in cc
inputs_below name s w (suc zero) net at is = let same : input_net (codes "a") w ≡ net = cc in let r : role.Input ≡ role.Register (reset_of role.Input) = subst (λ (x : ModuleNet). x.role ≡ role.Register (reset_of x.role)) (sym same) is in cc
inputs_below name s w (suc (suc zero)) net at is = let same : input_net (codes "b") w ≡ net = cc in let r : role.Input ≡ role.Register (reset_of role.Input) = subst (λ (x : ModuleNet). x.role ≡ role.Register (reset_of x.role)) (sym same) is in cc
inputs_below name s w (suc (suc (suc n))) net at is = cc

module _ (old new : Draft) (s w : ℕ) (y shown : Wire)
    (made : Makes (with_inputs old.name s w) old) (nets : new.nets ≡ old.nets ++ output_net (codes "y") w ∷ []) (adds : Adds old new) (closes : Closes old new) (same : new.instances ≡ old.instances)
    (there : slice_get new.nets shown.number ≡ Some (output_net (codes "y") w))
    (equation : (read : ℕ → ℕ) → SettlesDraft new read → SettlesDraft old read × (read shown.number ≡ read y.number)) (kept : IsKept new) where
  begins : Adds (with_inputs old.name s w) new
  begins = Adds-trans _ _ _ made.adds adds

  all_ready : AllReady isolated new
  all_ready n lt =
      closes.ready isolated new (Extends-refl new)
      (λ k there. made.closes.ready isolated new adds.extends (λ i input. Ready-Extends isolated (with_inputs old.name s w) new i begins.extends (input_ready old.name s w i input)) k there) n lt

  all_driven : IsDriven new.nets new.assigns new.nexts new.instances
  all_driven = record {
    driven = ready_are_driven isolated new all_ready;
    clocked = λ n net at is none. let lt = closes.registers 0 (made.closes.registers 0 (inputs_below old.name s w)) n net at is in absurd (omega arith);
  }

  its_ports : ports_among new.nets ≡ ports_by One s w
  its_ports = ap ports_among nets ∙ ports_among-shown old.nets (codes "y") w ∙ ap (λ (ports : List Port). ports ++ record { name = codes "y"; width = w; output = true } ∷ []) made.ports

  computes : (card : Card) → HasValue old (input_wires s w) y card → (m : ModuleText) → IsModule m → IsFinished new m → Computes m card w
  computes card value m rules f read settled lt =
      let ports : m.ports ≡ ports_by One s w = f.ports ∙ its_ports in
      let back = equation (λ n. read (f.place n)) (f.settles read settled) in
      let at : (p : ℕ) → slice_get (nets_of m) p ≡ slice_get (nets_among (ports_by One s w) m.wires m.regs) p = λ p. ap (λ (xs : List Port). slice_get (nets_among xs m.wires m.regs) p) ports in
      let sel : f.place 0 ≡ 0 = place_is new m f rules 0 0 (input_net (codes "sel") s) _ (net-Adds _ _ 0 _ begins refl) (at 0) refl in
      let a : f.place 1 ≡ 1 = place_is new m f rules 1 1 (input_net (codes "a") w) _ (net-Adds _ _ 1 _ begins refl) (at 1) refl in
      let b : f.place 2 ≡ 2 = place_is new m f rules 2 2 (input_net (codes "b") w) _ (net-Adds _ _ 2 _ begins refl) (at 2) refl in
      let result : f.place shown.number ≡ 3 = place_is new m f rules shown.number 3 (output_net (codes "y") w) _ there (at 3) refl in
      ap read (sym result) ∙ back.1 ∙ value (λ n. read (f.place n)) back.0 (rw sel lt) ∙ (λ i. operation_value card w (read (sel i)) (read (a i)) (read (b i)))

  -- what was made is a unit of each card with this value
  pub unit_of : (card : Card) → card.latency ≡ One → s ≡ select_width card → HasValue old (input_wires s w) y card → IsUnitDraft new card w
  unit_of card one select value = record {
    driven = all_driven;
    port = rw its_ports (omega arith);
    unit = λ m rules f. record {
      ports = f.ports ∙ its_ports ∙ (λ i. ports_by (sym one i) (select i) w);
      instances = f.instances ∙ ap (map (instance_placed f.place)) (same ∙ made.instances);
      ordered = ready_are_ordered isolated new m kept (same ∙ made.instances) all_ready f;
      behaves = subst (λ l. Behaves l m card w) (sym one) (computes card value m rules f);
    };
  }

  -- and its wires are named n and digits
  pub unit_names : NamesPlainly new
  unit_names = named_plainly old new s w made nets its_ports (closes.registers 0 (made.closes.registers 0 (inputs_below old.name s w)))
