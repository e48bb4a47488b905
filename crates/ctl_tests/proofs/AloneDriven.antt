-- In control alone every net is driven: the nets follow from the inputs, and each valid bit takes a net.
use Rattle.std.proofs.Common.{◌≡◌, ◌≢◌, ℕ, ◌+◌, ◌<◌, ◌≤◌, zero, suc, List, [], ◌∷◌, ◌++◌, length, map, Some, true, false, refl, sym, ap, subst, ◌∙◌, arith}
use Rattle.std.specs.Prelude.{slice_get, ◌==◌}
use Rattle.std.proofs.lemmas.Bool.{eqb-false}
use Rattle.std.specs.List.{AllByRecursion as Each}
use Rattle.ap_model.specs.Examples.{processor}
use Rattle.ap_net.specs.declared.cell.Wire.{Wire}
use Rattle.ap_net.specs.declared.net.ModuleNet.{ModuleNet}
use Rattle.ap_net.specs.declared.net.Next.{Next}
use Rattle.ap_net.specs.declared.net.Role.TheVariants as role
use Rattle.ap_net.specs.Cells.{widths_of}
use Rattle.ap_net.specs.Draft.{Draft, CanFresh}
use Rattle.ap_net.specs.Ready.{AllReady, AreReady, Dependence, Ready, ready, source}
use Rattle.ap_net.specs.Responding.{ReadyAreDriven}
use Rattle.ap_net.specs.Wiring.{IsDriven, IsSource, Unclocked, reset_of}
use Rattle.ap_net.proofs.Laws.{Extends-refl, stays}
use Rattle.ap_ctl.specs.declared.nets.ControlNets.{ControlNets}
use Rattle.ap_ctl.specs.Building.{IsBit, IsFreshWire}
use Rattle.ap_ctl.specs.Given.{IsGiven, IsWordNet, killing}
use Rattle.ap_ctl.specs.Nets.{AddsControl, FollowsGiven, HasNoValid, valid_nets}
use Rattle.ctl_tests.specs.Alone.{given_draft, given_nets, input_wire}

-- what control requires of the module with its inputs

word_net : (n : ℕ) → slice_get (widths_of given_draft.nets) n ≡ Some 16 → IsWordNet processor given_draft.nets (input_wire n 16)
word_net n at = record { net = record { declared = at; low = omega arith; high = omega arith }; wide = refl }

bit_net : (n : ℕ) → slice_get (widths_of given_draft.nets) n ≡ Some 1 → IsBit given_draft.nets (input_wire n 1)
bit_net n at = record { net = record { declared = at; low = omega arith; high = omega arith }; bit = refl }

pub given_fits : IsGiven processor given_draft.nets given_nets
given_fits = record {
  stages = refl;
  words = (word_net 0 refl, (word_net 1 refl, (word_net 2 refl, tt)));
  mwait = bit_net 3 refl;
  taken = bit_net 4 refl;
  units = refl;
  busy = (bit_net 5 refl, tt);
}

-- names with other first letters differ
head_differs : (a b : ℕ) (xs ys : List ℕ) → (a == b) ≡ false → a ∷ xs ≡ b ∷ ys → ⊥
head_differs a b xs ys d e = let same : a ≡ b = cc in eqb-false a b d same

pub no_valid : HasNoValid processor given_draft
no_valid stage low high = (head_differs 99 118 _ _ refl, (head_differs 114 118 _ _ refl, (head_differs 120 118 _ _ refl, (head_differs 120 118 _ _ refl, (head_differs 120 118 _ _ refl, (head_differs 109 118 _ _ refl, (head_differs 116 118 _ _ refl, (head_differs 98 118 _ _ refl, tt))))))))

pub can_fresh : CanFresh given_draft
can_fresh = record { free = λ k low high. (head_differs 99 110 _ _ refl, (head_differs 114 110 _ _ refl, (head_differs 120 110 _ _ refl, (head_differs 120 110 _ _ refl, (head_differs 120 110 _ _ refl, (head_differs 109 110 _ _ refl, (head_differs 116 110 _ _ refl, (head_differs 98 110 _ _ refl, tt)))))))) }

-- nothing is looked at from outside
abbrev isolated : Dependence
isolated = record { looks = λ n. []; needs = λ name p q. true }

module _ (d : Draft) (nets : ControlNets) (adds : AddsControl processor given_nets given_draft d nets) (follows : FollowsGiven given_nets given_draft d nets) where
  input_ready : (n : ℕ) (net : ModuleNet) → slice_get given_draft.nets n ≡ Some net → IsSource net.role → Ready isolated d n
  input_ready n net at is = ready [] (source net (stays given_draft.nets d.nets adds.extends.nets n net at) is refl) (λ j m none. cc)

  inputs_ready : AreReady isolated d (killing given_nets)
  inputs_ready = (input_ready 4 _ refl tt, (input_ready 3 _ refl tt, (input_ready 0 _ refl tt, (input_ready 1 _ refl tt, (input_ready 2 _ refl tt, (input_ready 5 _ refl tt, tt))))))

  looks_at_none : (registers : List Wire) → Each (λ (w : Wire). isolated.looks w.number ≡ []) registers
  looks_at_none [] = tt
  looks_at_none (w ∷ registers) = (refl, looks_at_none registers)

  came_ready : (n : ℕ) → 6 ≤ n → n < length d.nets → Ready isolated d n
  came_ready n low high = follows.all isolated (looks_at_none nets.valid) n low high d (Extends-refl d) inputs_ready

  all_ready : AllReady isolated d
  all_ready zero lt = input_ready 0 _ refl tt
  all_ready (suc zero) lt = input_ready 1 _ refl tt
  all_ready (suc (suc zero)) lt = input_ready 2 _ refl tt
  all_ready (suc (suc (suc zero))) lt = input_ready 3 _ refl tt
  all_ready (suc (suc (suc (suc zero)))) lt = input_ready 4 _ refl tt
  all_ready (suc (suc (suc (suc (suc zero))))) lt = input_ready 5 _ refl tt
  all_ready (suc (suc (suc (suc (suc (suc n)))))) lt = came_ready (suc (suc (suc (suc (suc (suc n)))))) (omega arith) lt

  -- the registers are the valid bits
  three : nets.valid ≡ record { number = 6; width = 1 } ∷ record { number = 7; width = 1 } ∷ record { number = 8; width = 1 } ∷ []
  three = adds.valid

  taken_by : (n : ℕ) (nexts : List Next) → Unclocked nexts n → Each (λ (w : Wire). w.number ≢ n) (map (λ (x : Next). x.register) nexts)
  taken_by n [] free = tt
  taken_by n (x ∷ nexts) free = (free.0, taken_by n nexts free.1)

  free_registers : (n : ℕ) → Unclocked d.nexts n → Each (λ (w : Wire). w.number ≢ n) nets.valid
  free_registers n free =
      let more = adds.nexts in
      subst (λ l. Each (λ (w : Wire). w.number ≢ n) l) more.2 (taken_by n more.0 (subst (λ l. Unclocked l n) more.1 free))

  fresh_wire : (n : ℕ) (nets : List ModuleNet) (net : ModuleNet) → Each IsFreshWire nets → slice_get nets n ≡ Some net → net.role ≡ role.Plain
  fresh_wire n [] net each at = cc
  fresh_wire zero (x ∷ nets) net each at = ap (λ (m : ModuleNet). m.role) (sym (some_is at)) ∙ each.0.plain
    where
      some_is : Some x ≡ Some net → x ≡ net
      some_is e = cc
  fresh_wire (suc n) (x ∷ nets) net each at = fresh_wire n nets net each.1 at

  all_nets : (n : ℕ) (net : ModuleNet) → slice_get d.nets n ≡ Some net → slice_get (given_draft.nets ++ valid_nets 3 ++ adds.wires.0) n ≡ Some net
  all_nets n net at = subst (λ l. slice_get l n ≡ Some net) adds.wires.1 at

  clocked : (n : ℕ) (net : ModuleNet) → slice_get (given_draft.nets ++ valid_nets 3 ++ adds.wires.0) n ≡ Some net → net.role ≡ role.Register (reset_of net.role) → Each (λ (w : Wire). w.number ≢ n) nets.valid → ⊥
  clocked zero net at is free = cc
  clocked (suc zero) net at is free = cc
  clocked (suc (suc zero)) net at is free = cc
  clocked (suc (suc (suc zero))) net at is free = cc
  clocked (suc (suc (suc (suc zero)))) net at is free = cc
  clocked (suc (suc (suc (suc (suc zero))))) net at is free = cc
  clocked (suc (suc (suc (suc (suc (suc zero)))))) net at is free = (subst (λ l. Each (λ (w : Wire). w.number ≢ 6) l) three free).0 refl
  clocked (suc (suc (suc (suc (suc (suc (suc zero))))))) net at is free = (subst (λ l. Each (λ (w : Wire). w.number ≢ 7) l) three free).1.0 refl
  clocked (suc (suc (suc (suc (suc (suc (suc (suc zero)))))))) net at is free = (subst (λ l. Each (λ (w : Wire). w.number ≢ 8) l) three free).1.1.0 refl
  clocked (suc (suc (suc (suc (suc (suc (suc (suc (suc n))))))))) net at is free =
      let plain : net.role ≡ role.Plain = fresh_wire n adds.wires.0 net adds.wires.2 at in
      cc

  pub is_driven : ReadyAreDriven → IsDriven d.nets d.assigns d.nexts d.instances
  is_driven law = record {
    driven = law isolated d all_ready;
    clocked = λ n net at is free. clocked n net (all_nets n net at) is (free_registers n free);
  }
