-- What drives the registers of a stage alone asks of the module, and that every net of the module is driven afterwards: inputs and
-- registers are sources, what came follows from them, and each register takes a net.
use Rattle.std.proofs.Common.{◌≡◌, ◌≢◌, ℕ, ◌<◌, ◌≤◌, zero, suc, List, [], ◌∷◌, ◌++◌, length, map, Some, true, false, refl, sym, ap, subst, ◌∙◌, ◌+◌, arith}
use Rattle.std.specs.Prelude.{slice_get, ◌==◌}
use Rattle.std.proofs.lemmas.Bool.{eqb-false}
use Rattle.std.proofs.lemmas.Option.{slice_get_within}
use Rattle.std.specs.List.{AllByRecursion as Each}
use Rattle.ap_net.specs.declared.cell.Wire.{Wire}
use Rattle.ap_net.specs.declared.net.ModuleNet.{ModuleNet}
use Rattle.ap_net.specs.declared.net.Next.{Next}
use Rattle.ap_net.specs.declared.net.Role.{Role}
use Rattle.ap_net.specs.declared.net.Role.TheVariants as role
use Rattle.ap_net.specs.Cells.{IsNet, widths_of}
use Rattle.ap_net.specs.Draft.{Draft, CanFresh}
use Rattle.ap_net.specs.Modules.{ports_among}
use Rattle.ap_net.specs.Ready.{AllReady, Dependence, Ready, numbers, ready, source}
use Rattle.ap_net.specs.Responding.{ReadyAreDriven}
use Rattle.ap_net.specs.Wiring.{IsDriven, IsRegister, IsSource, NoneTwice, Unclocked, reset_of}
use Rattle.ap_net.proofs.Laws.{Extends-refl, stays}
use Rattle.ap_ctl.specs.Building.{IsBit}
use Rattle.ap_flight.specs.Stages.{DrivesStage, FitsHome, IsComing, IsOpen, stage_wires}
use Rattle.flight_tests.specs.Alone.{given, home, homes, leaving, open_draft, opened, wire}

some_is : {X : Type 0} {x y : X} → Some x ≡ Some y → x ≡ y
some_is e = cc

-- What is asked.

declared : (n width : ℕ) → slice_get (widths_of open_draft.nets) n ≡ Some width → 1 ≤ width → width ≤ 64 → IsNet open_draft.nets (wire n width)
declared n width at low high = record { declared = at; low = low; high = high }

bit : (n : ℕ) → slice_get (widths_of open_draft.nets) n ≡ Some 1 → IsBit open_draft.nets (wire n 1)
bit n at = record { net = declared n 1 at (omega arith) (omega arith); bit = refl }

-- what is left to a slot of so many bits
fits : (instr local slot cond net width bits : ℕ) → IsBit open_draft.nets (wire cond 1) → IsNet open_draft.nets (wire net width) → slice_get opened.slots slot ≡ Some (wire (12 + slot) bits) → width ≤ bits
    → FitsHome open_draft.nets opened.slots (home instr local slot) (leaving (wire cond 1) (wire net width))
fits instr local slot cond net width bits b n at le = record { cond = b; net = n; fits = λ s is. subst (λ (w : Wire). width ≤ w.width) (some_is (sym at ∙ is)) le }

pub comes : IsComing opened homes open_draft.nets given
comes = record {
  hold = bit 0 refl;
  word = record { net = declared 1 16 refl (omega arith) (omega arith); same = refl };
  place = record { net = declared 2 6 refl (omega arith) (omega arith); same = refl };
  locals = (
    fits 0 0 0 3 6 16 16 (bit 3 refl) (declared 6 16 refl (omega arith) (omega arith)) refl (omega arith),
    (
      fits 0 1 1 3 7 8 8 (bit 3 refl) (declared 7 8 refl (omega arith) (omega arith)) refl (omega arith),
      (
        fits 1 2 0 4 8 12 16 (bit 4 refl) (declared 8 12 refl (omega arith) (omega arith)) refl (omega arith),
        (
          fits 2 0 1 5 9 4 8 (bit 5 refl) (declared 9 4 refl (omega arith) (omega arith)) refl (omega arith),
          tt,
        ),
      ),
    ),
  );
}

register_at : (n : ℕ) (x : ModuleNet) → slice_get open_draft.nets n ≡ Some x → x.role ≡ role.Register 0 → IsRegister open_draft.nets n
register_at n x at is net there =
    let same : x ≡ net = some_is (sym at ∙ there) in
    subst (λ (m : ModuleNet). m.role ≡ role.Register (reset_of m.role)) same (is ∙ ap (λ (r : Role). role.Register (reset_of r)) (sym is))

open_at : (n width : ℕ) (x : ModuleNet) → slice_get open_draft.nets n ≡ Some x → x.role ≡ role.Register 0 → slice_get (widths_of open_draft.nets) n ≡ Some width → 1 ≤ width → width ≤ 64
    → IsOpen open_draft (wire n width)
open_at n width x at is there low high = record { net = declared n width there low high; register = register_at n x at is; free = tt }

pub are_open : Each (IsOpen open_draft) (stage_wires opened)
are_open = (
  open_at 10 16 _ refl refl refl (omega arith) (omega arith),
  (
    open_at 11 6 _ refl refl refl (omega arith) (omega arith),
    (
      open_at 12 16 _ refl refl refl (omega arith) (omega arith),
      (
        open_at 13 8 _ refl refl refl (omega arith) (omega arith),
        tt,
      ),
    ),
  ),
)

pub are_apart : NoneTwice (numbers (stage_wires opened))
are_apart = (
  (eqb-false 11 10 refl, (eqb-false 12 10 refl, (eqb-false 13 10 refl, tt))),
  (
    (eqb-false 12 11 refl, (eqb-false 13 11 refl, tt)),
    (
      (eqb-false 13 12 refl, tt),
      (tt, tt),
    ),
  ),
)

-- names with other first letters differ
head_differs : (a b : ℕ) (xs ys : List ℕ) → (a == b) ≡ false → a ∷ xs ≡ b ∷ ys → ⊥
head_differs a b xs ys d e = let same : a ≡ b = cc in eqb-false a b d same

pub can_fresh : CanFresh open_draft
can_fresh = record {
  free = λ k low high. (
    head_differs 99 110 _ _ refl,
    (
      head_differs 114 110 _ _ refl,
      (
        head_differs 104 110 _ _ refl,
        (
          head_differs 119 110 _ _ refl,
          (
            head_differs 112 110 _ _ refl,
            (
              head_differs 105 110 _ _ refl,
              (
                head_differs 105 110 _ _ refl,
                (
                  head_differs 105 110 _ _ refl,
                  (
                    head_differs 108 110 _ _ refl,
                    (
                      head_differs 108 110 _ _ refl,
                      (
                        head_differs 108 110 _ _ refl,
                        (
                          head_differs 108 110 _ _ refl,
                          (
                            head_differs 120 110 _ _ refl,
                            (
                              head_differs 97 110 _ _ refl,
                              (
                                head_differs 108 110 _ _ refl,
                                (
                                  head_differs 108 110 _ _ refl,
                                  tt,
                                ),
                              ),
                            ),
                          ),
                        ),
                      ),
                    ),
                  ),
                ),
              ),
            ),
          ),
        ),
      ),
    ),
  );
}

-- What is driven.

-- nothing is looked at from outside
abbrev isolated : Dependence
isolated = record { looks = λ n. []; needs = λ name p q. true }

module _ (d : Draft) (drives : DrivesStage opened homes given open_draft d) where
  source_ready : (n : ℕ) (net : ModuleNet) → slice_get open_draft.nets n ≡ Some net → IsSource net.role → Ready isolated d n
  source_ready n net at is = ready [] (source net (stays open_draft.nets d.nets drives.extends.nets n net at) is refl) (λ j m none. cc)

  old_ready : (n : ℕ) → n < 14 → Ready isolated d n
  old_ready zero lt = source_ready 0 _ refl tt
  old_ready (suc zero) lt = source_ready 1 _ refl tt
  old_ready (suc (suc zero)) lt = source_ready 2 _ refl tt
  old_ready (suc (suc (suc zero))) lt = source_ready 3 _ refl tt
  old_ready (suc (suc (suc (suc zero)))) lt = source_ready 4 _ refl tt
  old_ready (suc (suc (suc (suc (suc zero))))) lt = source_ready 5 _ refl tt
  old_ready (suc (suc (suc (suc (suc (suc zero)))))) lt = source_ready 6 _ refl tt
  old_ready (suc (suc (suc (suc (suc (suc (suc zero))))))) lt = source_ready 7 _ refl tt
  old_ready (suc (suc (suc (suc (suc (suc (suc (suc zero)))))))) lt = source_ready 8 _ refl tt
  old_ready (suc (suc (suc (suc (suc (suc (suc (suc (suc zero))))))))) lt = source_ready 9 _ refl tt
  old_ready (suc (suc (suc (suc (suc (suc (suc (suc (suc (suc zero)))))))))) lt = source_ready 10 _ refl tt
  old_ready (suc (suc (suc (suc (suc (suc (suc (suc (suc (suc (suc zero))))))))))) lt = source_ready 11 _ refl tt
  old_ready (suc (suc (suc (suc (suc (suc (suc (suc (suc (suc (suc (suc zero)))))))))))) lt = source_ready 12 _ refl tt
  old_ready (suc (suc (suc (suc (suc (suc (suc (suc (suc (suc (suc (suc (suc zero))))))))))))) lt = source_ready 13 _ refl tt
  old_ready (suc (suc (suc (suc (suc (suc (suc (suc (suc (suc (suc (suc (suc (suc n)))))))))))))) lt = absurd (omega arith)

  all_ready : AllReady isolated d
  all_ready = drives.closes.ready isolated d (Extends-refl d) old_ready

  taken_by : (n : ℕ) (nexts : List Next) → Unclocked nexts n → Each (λ (w : Wire). w.number ≢ n) (map (λ (x : Next). x.register) nexts)
  taken_by n [] free = tt
  taken_by n (x ∷ nexts) free = (free.0, taken_by n nexts free.1)

  not_one : (n : ℕ) → Unclocked d.nexts n → Each (λ (w : Wire). w.number ≢ n) (stage_wires opened)
  not_one n free =
      let more = drives.nexts in
      subst (λ l. Each (λ (w : Wire). w.number ≢ n) l) more.2 (taken_by n more.0 (subst (λ l. Unclocked l n) more.1 free))

  clocked : (n : ℕ) (net : ModuleNet) (more : List ModuleNet) → n < 14 → slice_get (open_draft.nets ++ more) n ≡ Some net → net.role ≡ role.Register (reset_of net.role) → Each (λ (w : Wire). w.number ≢ n) (stage_wires opened) → ⊥
  clocked zero net more lt at is free = cc
  clocked (suc zero) net more lt at is free = cc
  clocked (suc (suc zero)) net more lt at is free = cc
  clocked (suc (suc (suc zero))) net more lt at is free = cc
  clocked (suc (suc (suc (suc zero)))) net more lt at is free = cc
  clocked (suc (suc (suc (suc (suc zero))))) net more lt at is free = cc
  clocked (suc (suc (suc (suc (suc (suc zero)))))) net more lt at is free = cc
  clocked (suc (suc (suc (suc (suc (suc (suc zero))))))) net more lt at is free = cc
  clocked (suc (suc (suc (suc (suc (suc (suc (suc zero)))))))) net more lt at is free = cc
  clocked (suc (suc (suc (suc (suc (suc (suc (suc (suc zero))))))))) net more lt at is free = cc
  clocked (suc (suc (suc (suc (suc (suc (suc (suc (suc (suc zero)))))))))) net more lt at is free = free.0 refl
  clocked (suc (suc (suc (suc (suc (suc (suc (suc (suc (suc (suc zero))))))))))) net more lt at is free = free.1.0 refl
  clocked (suc (suc (suc (suc (suc (suc (suc (suc (suc (suc (suc (suc zero)))))))))))) net more lt at is free = free.1.1.0 refl
  clocked (suc (suc (suc (suc (suc (suc (suc (suc (suc (suc (suc (suc (suc zero))))))))))))) net more lt at is free = free.1.1.1.0 refl
  clocked (suc (suc (suc (suc (suc (suc (suc (suc (suc (suc (suc (suc (suc (suc n)))))))))))))) net more lt at is free = absurd (omega arith)

  low : (n : ℕ) (net : ModuleNet) → slice_get d.nets n ≡ Some net → net.role ≡ role.Register (reset_of net.role) → n < 14
  low = drives.closes.registers 14 (λ n net at is. slice_get_within open_draft.nets n net at)

  pub is_driven : ReadyAreDriven → IsDriven d.nets d.assigns d.nexts d.instances
  is_driven law = record {
    driven = law isolated d all_ready;
    clocked = λ n net at is free. clocked n net drives.extends.nets.0 (low n net at is) (subst (λ l. slice_get l n ≡ Some net) drives.extends.nets.1 at) is (not_one n free);
  }

  pub has_port : 0 < length (ports_among d.nets)
  has_port = let ten : length (ports_among d.nets) ≡ 10 = ap length drives.ports in omega arith
