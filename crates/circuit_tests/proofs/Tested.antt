-- Rules on nets that are written out, told by tests that compute.
use Rattle.std.proofs.Common.{◌≡◌, ℕ, ◌+◌, ◌&&◌, ◌||◌, suc, zero, List, [], ◌∷◌, Some, Bool, true, false, refl, subst, arith}
use Rattle.std.specs.Prelude.{slice_get, ◌==◌, IsTrue}
use Rattle.ap_net.specs.declared.net.Role.{Role}
use Rattle.ap_net.specs.declared.net.Role.TheVariants as role
use Rattle.ap_net.specs.declared.net.ModuleNet.{ModuleNet}
use Rattle.ap_net.specs.declared.net.Assign.{Assign}
use Rattle.ap_net.specs.declared.net.Next.{Next}
use Rattle.ap_net.specs.Wiring.{IsSource, IsDriven, Undriven, Unclocked, reset_of}
use Rattle.ap_net.proofs.Lists.{some_same}
use Rattle.ap_net.proofs.NameLemmas.{IsNew-is_new}

abbrev pub is_assigned : List Assign → ℕ → Bool
is_assigned [] n = false
is_assigned (a ∷ assigns) n = a.to.number == n || is_assigned assigns n

abbrev pub is_clocked : List Next → ℕ → Bool
is_clocked [] n = false
is_clocked (x ∷ nexts) n = x.register.number == n || is_clocked nexts n

abbrev pub is_driven_by : Role → Bool → Bool → Bool
is_driven_by role.Input assigned clocked = true
is_driven_by role.Output assigned clocked = assigned
is_driven_by role.Plain assigned clocked = assigned
is_driven_by (role.Register reset) assigned clocked = clocked

-- whether every net has its driver, where the first has the number k
abbrev pub are_driven : ℕ → List ModuleNet → List Assign → List Next → Bool
are_driven k [] assigns nexts = true
are_driven k (net ∷ nets) assigns nexts = is_driven_by net.role (is_assigned assigns k) (is_clocked nexts k) && are_driven (k + 1) nets assigns nexts

either_true : (a b : Bool) → (a || b) ≡ true → (a ≡ false) → b ≡ true
either_true true b h e = cc
either_true false b h e = h

both_true : (a b : Bool) → (a && b) ≡ true → (a ≡ true) × (b ≡ true)
both_true true b h = (refl, h)
both_true false b h = cc

assigned : (assigns : List Assign) (n : ℕ) → is_assigned assigns n ≡ true → Undriven assigns n → ⊥
assigned [] n h none = cc
assigned (a ∷ assigns) n h none =
    elim (a.to.number == n) as (λ t. (a.to.number == n) ≡ t → ⊥) [
      | true ↦ λ t. none.0 (grind (arith, t))
      | false ↦ λ t. assigned assigns n (either_true (a.to.number == n) (is_assigned assigns n) h t) none.1
    ] refl

clocked : (nexts : List Next) (n : ℕ) → is_clocked nexts n ≡ true → Unclocked nexts n → ⊥
clocked [] n h none = cc
clocked (x ∷ nexts) n h none =
    elim (x.register.number == n) as (λ t. (x.register.number == n) ≡ t → ⊥) [
      | true ↦ λ t. none.0 (grind (arith, t))
      | false ↦ λ t. clocked nexts n (either_true (x.register.number == n) (is_clocked nexts n) h t) none.1
    ] refl

driven_at : (k : ℕ) (nets : List ModuleNet) (assigns : List Assign) (nexts : List Next) → are_driven k nets assigns nexts ≡ true → (n : ℕ) (net : ModuleNet) → slice_get nets n ≡ Some net
    → is_driven_by net.role (is_assigned assigns (k + n)) (is_clocked nexts (k + n)) ≡ true
driven_at k [] assigns nexts h n net at = cc
driven_at k (x ∷ nets) assigns nexts h zero net at =
    let same : x ≡ net = some_same at in
    let here : k + 0 ≡ k = omega arith in
    rw (here, ← same) (both_true (is_driven_by x.role (is_assigned assigns k) (is_clocked nexts k)) (are_driven (k + 1) nets assigns nexts) h).0
driven_at k (x ∷ nets) assigns nexts h (suc n) net at =
    let here : k + suc n ≡ k + 1 + n = omega arith in
    rw here (driven_at (k + 1) nets assigns nexts (both_true (is_driven_by x.role (is_assigned assigns k) (is_clocked nexts k)) (are_driven (k + 1) nets assigns nexts) h).1 n net at)

-- the test tells that every net has its driver
pub IsDriven-are_driven : (nets : List ModuleNet) (assigns : List Assign) (nexts : List Next) → IsTrue (are_driven 0 nets assigns nexts) → IsDriven nets assigns nexts []
IsDriven-are_driven nets assigns nexts h = record {
  driven = λ n net at other none unjoined. let here : 0 + n ≡ n = omega arith in plain net.role other (is_assigned assigns n) (is_clocked nexts n)
      (subst (λ m. is_driven_by net.role (is_assigned assigns m) (is_clocked nexts m) ≡ true) here (driven_at 0 nets assigns nexts h n net at)) (λ t. assigned assigns n t none);
  clocked = λ n net at is none. let here : 0 + n ≡ n = omega arith in
      clocked nexts n (register net.role is (is_assigned assigns n) (is_clocked nexts n) (subst (λ m. is_driven_by net.role (is_assigned assigns m) (is_clocked nexts m) ≡ true) here (driven_at 0 nets assigns nexts h n net at))) none;
}
  where
    plain : (r : Role) → (IsSource r → ⊥) → (a c : Bool) → is_driven_by r a c ≡ true → (a ≡ true → ⊥) → ⊥
    plain role.Input other a c h f = other tt
    plain role.Output other a c h f = f h
    plain role.Plain other a c h f = f h
    plain (role.Register reset) other a c h f = other tt

    register : (r : Role) → r ≡ role.Register (reset_of r) → (a c : Bool) → is_driven_by r a c ≡ true → c ≡ true
    register role.Input is a c h = cc
    register role.Output is a c h = cc
    register role.Plain is a c h = cc
    register (role.Register reset) is a c h = h

pub ruleset tested = (IsNew-is_new, IsDriven-are_driven)
