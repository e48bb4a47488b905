-- The nets of a unit that makes a step a cycle, as it begins: which are ready, which are registers, and on which nets the outputs
-- depend.
use Rattle.std.proofs.Common.{◌≡◌, ℕ, suc, zero, ◌<◌, ◌≤◌, ◌||◌, inl, inr, ⊎_elim, List, [], ◌∷◌, ◌++◌, Some, Bool, true, false, refl, sym, ap, subst, ◌∙◌, arith}
use Rattle.std.specs.Prelude.{◌⊎◌, ◌==◌, slice_get, codes, IsTrue}
use Rattle.std.specs.List.{AllByRecursion as Each}
use Rattle.std.proofs.lemmas.Bool.Decides.{Decides-eqb}
use Rattle.ap_net.specs.declared.cell.Wire.{Wire}
use Rattle.ap_net.specs.declared.net.Role.{Role}
use Rattle.ap_net.specs.declared.net.Role.TheVariants as role
use Rattle.ap_net.specs.declared.net.ModuleNet.{ModuleNet}
use Rattle.ap_net.specs.declared.net.Assign.{Assign}
use Rattle.ap_net.specs.Cells.{operands}
use Rattle.ap_net.specs.Wiring.{IsSource, reset_of}
use Rattle.ap_net.specs.Draft.{Draft, RegistersBelow}
use Rattle.ap_net.specs.Depends.{IsClosed}
use Rattle.ap_net.specs.Ready.{Feeds, assign, Ready, AreReady}
use Rattle.ap_net.specs.Making.{DrivesItsOwn}
use Rattle.ap_net.proofs.Laws.{Extends-refl, Ready-source, ReadyAfter-Feeds}
use Rattle.ap_net.proofs.Lists.{All-from, All-join}
use Rattle.ap_unit.specs.Pieces.{input_net, output_net}
use Rattle.ap_unit.specs.Stepping.{register_net, fresh_net, step_nets, due_assign, left_assign, busy_assign, shown_assign, with_stepper}
use Rattle.ap_unit.proofs.Placed.{isolated}

-- every net of the beginning is ready: what the outside and the registers give, and the four nets that are driven
source_ready : (name : List ℕ) (w k n : ℕ) (net : ModuleNet) → slice_get (step_nets w k) n ≡ Some net → IsSource net.role → Ready isolated (with_stepper name w k) n
source_ready name w k n net at is = Ready-source isolated (with_stepper name w k) n net at is tt

driven_ready : (name : List ℕ) (w k n : ℕ) (from : List ℕ) → Feeds isolated (with_stepper name w k) n from → AreReady isolated (with_stepper name w k) from → Ready isolated (with_stepper name w k) n
driven_ready name w k n from feeds each = ReadyAfter-Feeds isolated (with_stepper name w k) n from feeds (with_stepper name w k) (Extends-refl (with_stepper name w k)) each

due_ready : (name : List ℕ) (w k : ℕ) → Ready isolated (with_stepper name w k) 10
due_ready name w k = driven_ready name w k 10 [] (assign 0 (due_assign w k) refl refl refl) tt

left_ready : (name : List ℕ) (w k : ℕ) → Ready isolated (with_stepper name w k) 11
left_ready name w k = driven_ready name w k 11 (7 ∷ 10 ∷ []) (assign 1 (left_assign k) refl refl refl) (source_ready name w k 7 _ refl tt, (due_ready name w k, tt))

pub stepper_ready : (name : List ℕ) (w k n : ℕ) → n < 12 → Ready isolated (with_stepper name w k) n
stepper_ready name w k zero lt = source_ready name w k 0 _ refl tt
stepper_ready name w k (suc zero) lt = source_ready name w k 1 _ refl tt
stepper_ready name w k (suc (suc zero)) lt = source_ready name w k 2 _ refl tt
stepper_ready name w k (suc (suc (suc zero))) lt = source_ready name w k 3 _ refl tt
stepper_ready name w k (suc (suc (suc (suc zero)))) lt = source_ready name w k 4 _ refl tt
stepper_ready name w k (suc (suc (suc (suc (suc zero))))) lt = driven_ready name w k 5 (3 ∷ 11 ∷ []) (assign 2 busy_assign refl refl refl) (source_ready name w k 3 _ refl tt, (left_ready name w k, tt))
stepper_ready name w k (suc (suc (suc (suc (suc (suc zero)))))) lt =
    driven_ready name w k 6 (0 ∷ 8 ∷ 9 ∷ []) (assign 3 (shown_assign w) refl refl refl) (source_ready name w k 0 _ refl tt, (source_ready name w k 8 _ refl tt, (source_ready name w k 9 _ refl tt, tt)))
stepper_ready name w k (suc (suc (suc (suc (suc (suc (suc zero))))))) lt = source_ready name w k 7 _ refl tt
stepper_ready name w k (suc (suc (suc (suc (suc (suc (suc (suc zero)))))))) lt = source_ready name w k 8 _ refl tt
stepper_ready name w k (suc (suc (suc (suc (suc (suc (suc (suc (suc zero))))))))) lt = source_ready name w k 9 _ refl tt
stepper_ready name w k (suc (suc (suc (suc (suc (suc (suc (suc (suc (suc zero)))))))))) lt = due_ready name w k
stepper_ready name w k (suc (suc (suc (suc (suc (suc (suc (suc (suc (suc (suc zero))))))))))) lt = left_ready name w k
stepper_ready name w k (suc (suc (suc (suc (suc (suc (suc (suc (suc (suc (suc (suc n)))))))))))) lt = absurd (omega arith)

-- what isn't a register has another role
no_register : (net other : ModuleNet) (r : Role) → other.role ≡ r → (r ≡ role.Register (reset_of r) → ⊥) → other ≡ net → net.role ≡ role.Register (reset_of net.role) → ⊥
no_register net other r e not same is = not (subst (λ (q : Role). q ≡ role.Register (reset_of q)) (ap (λ (x : ModuleNet). x.role) (sym same) ∙ e) is)

-- the registers are the nets 7, 8 and 9
pub data IsStepRegister (w k : ℕ) : ℕ → ModuleNet → Type 0 where
  counter : IsStepRegister w k 7 (register_net (codes "q0") k)
  high : IsStepRegister w k 8 (register_net (codes "q1") w)
  low : IsStepRegister w k 9 (register_net (codes "q2") w)

pub step_register : (w k n : ℕ) (net : ModuleNet) → slice_get (step_nets w k) n ≡ Some net → net.role ≡ role.Register (reset_of net.role) → IsStepRegister w k n net
step_register w k zero net at is = let same : input_net (codes "sel") 1 ≡ net = cc in absurd (no_register net (input_net (codes "sel") 1) role.Input refl (λ e. cc) same is)
step_register w k (suc zero) net at is = let same : input_net (codes "a") w ≡ net = cc in absurd (no_register net (input_net (codes "a") w) role.Input refl (λ e. cc) same is)
step_register w k (suc (suc zero)) net at is = let same : input_net (codes "b") w ≡ net = cc in absurd (no_register net (input_net (codes "b") w) role.Input refl (λ e. cc) same is)
step_register w k (suc (suc (suc zero))) net at is = let same : input_net (codes "go") 1 ≡ net = cc in absurd (no_register net (input_net (codes "go") 1) role.Input refl (λ e. cc) same is)
step_register w k (suc (suc (suc (suc zero)))) net at is = let same : input_net (codes "adv") 1 ≡ net = cc in absurd (no_register net (input_net (codes "adv") 1) role.Input refl (λ e. cc) same is)
step_register w k (suc (suc (suc (suc (suc zero))))) net at is = let same : output_net (codes "busy") 1 ≡ net = cc in absurd (no_register net (output_net (codes "busy") 1) role.Output refl (λ e. cc) same is)
step_register w k (suc (suc (suc (suc (suc (suc zero)))))) net at is = let same : output_net (codes "y") w ≡ net = cc in absurd (no_register net (output_net (codes "y") w) role.Output refl (λ e. cc) same is)
step_register w k (suc (suc (suc (suc (suc (suc (suc zero))))))) net at is = let same : register_net (codes "q0") k ≡ net = cc in subst (IsStepRegister w k 7) same counter
step_register w k (suc (suc (suc (suc (suc (suc (suc (suc zero)))))))) net at is = let same : register_net (codes "q1") w ≡ net = cc in subst (IsStepRegister w k 8) same high
step_register w k (suc (suc (suc (suc (suc (suc (suc (suc (suc zero))))))))) net at is = let same : register_net (codes "q2") w ≡ net = cc in subst (IsStepRegister w k 9) same low
step_register w k (suc (suc (suc (suc (suc (suc (suc (suc (suc (suc zero)))))))))) net at is = let same : fresh_net 0 k ≡ net = cc in absurd (no_register net (fresh_net 0 k) role.Plain refl (λ e. cc) same is)
step_register w k (suc (suc (suc (suc (suc (suc (suc (suc (suc (suc (suc zero))))))))))) net at is = let same : fresh_net 1 1 ≡ net = cc in absurd (no_register net (fresh_net 1 1) role.Plain refl (λ e. cc) same is)
step_register w k (suc (suc (suc (suc (suc (suc (suc (suc (suc (suc (suc (suc n)))))))))))) net at is = cc

below_10 : (w k n : ℕ) (net : ModuleNet) → IsStepRegister w k n net → n < 10
below_10 w k n net counter = omega arith
below_10 w k n net high = omega arith
below_10 w k n net low = omega arith

pub stepper_below : (w k : ℕ) → RegistersBelow (step_nets w k) 10
stepper_below w k n net at is = below_10 w k n net (step_register w k n net at is)

-- whether a number is among these
abbrev pub is_among : List ℕ → ℕ → Bool
is_among [] n = false
is_among (k ∷ ks) n = (k == n) || is_among ks n

either : (a b : Bool) → (a || b) ≡ true → (a ≡ true) ⊎ (b ≡ true)
either true b h = inl refl
either false b h = inr h

-- numbers of the beginning are none of those that came
not_among : (ks : List ℕ) → Each (λ k. k < 12) ks → (n : ℕ) → 12 ≤ n → is_among ks n ≡ true → ⊥
not_among [] small n late h = cc
not_among (k ∷ ks) small n late h =
    ⊎_elim
    (λ e. let same : k ≡ n = (Decides-eqb k n).0 e in let low : k < 12 = small.0 in absurd (omega arith))
    (λ later. not_among ks small.1 n late later)
    (either (k == n) (is_among ks n) h)

-- what is closed at the beginning is closed at the end, since what came drives nothing of the beginning
pub grown_closed : (ks : List ℕ) → Each (λ k. k < 12) ks → (name : List ℕ) (w k : ℕ) (d : Draft) → IsClosed (with_stepper name w k).assigns (is_among ks) → DrivesItsOwn (with_stepper name w k) d → IsClosed d.assigns (is_among ks)
grown_closed ks small name w k d first own =
    let P : Assign → Type 0 = λ a. IsTrue (is_among ks a.to.number) → Each (λ (o : Wire). IsTrue (is_among ks o.number)) (operands a.cell) in
    subst (Each P) (sym own.assigns)
    (All-join P (with_stepper name w k).assigns own.more first (All-from (λ (a : Assign). 12 ≤ a.to.number) P (λ a late inside. absurd (not_among ks small a.to.number late inside)) own.more own.above))
