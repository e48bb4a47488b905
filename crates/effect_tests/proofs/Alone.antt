-- Modules that are made of nothing but what they hold.
use Rattle.std.proofs.Common.{◌≡◌, ℕ, ◌<◌, List, [], ◌∷◌, true, false, refl, sym, subst, arith}
use Rattle.std.specs.Prelude.{◌==◌, codes}
use Rattle.std.proofs.lemmas.Bool.{eqb-false}
use Rattle.ap_net.specs.Draft.{Adds, CanFresh, Draft, blank, names_of}
use Rattle.ap_net.specs.Making.{Closes, Makes}
use Rattle.ap_net.specs.Names.{IsNew, IsNotNumbered}
use Rattle.ap_net.specs.Ready.{Dependence}
use Rattle.ap_net.specs.Wiring.{IsDriven}
use Rattle.ap_net.proofs.Laws.{Extends-refl, ready_are_driven}

isolated : Dependence
isolated = record { looks = λ n. []; needs = λ name p q. true }

-- all that came is driven by what came
pub all_driven : (name : List ℕ) (d : Draft) → Closes (blank name) d → IsDriven d.nets d.assigns d.nexts d.instances
all_driven name d h = record {
  driven = ready_are_driven isolated d (h.ready isolated d (Extends-refl d) (λ n low. absurd (omega arith)));
  clocked = λ n net at role none. let low : n < 0 = h.registers 0 (λ m x there r. absurd cc) n net at role in absurd (omega arith);
}

-- names with other first letters differ
pub head_differs : (a b : ℕ) (xs ys : List ℕ) → (a == b) ≡ false → a ∷ xs ≡ b ∷ ys → ⊥
head_differs a b xs ys d e = let same : a ≡ b = cc in eqb-false a b d same

pub fresh_blank : (name : List ℕ) → CanFresh (blank name)
fresh_blank name = record { free = λ k low high. (head_differs 99 110 _ _ refl, (head_differs 114 110 _ _ refl, tt)) }

pub y_is_other : IsNotNumbered (codes "y")
y_is_other k low = head_differs 121 110 _ _ refl

new_y : (name : List ℕ) → IsNew (codes "y") (names_of (blank name))
new_y name = (head_differs 99 121 _ _ refl, (head_differs 114 121 _ _ refl, tt))

-- a module whose net can be shown
pub record CanShow (d : Draft) : Type 0 where
  pub adds : Adds (blank d.name) d
  pub closes : Closes (blank d.name) d
  pub new : IsNew (codes "y") (names_of d)

-- what was made of nothing but a name
pub made_shown : (name : List ℕ) (a d : Draft) → a ≡ blank name → Makes a d → CanShow d
made_shown name a d is m =
    let made : Makes (blank name) d = subst (λ x. Makes x d) is m in
    let same : d.name ≡ name = made.adds.extends.name in
    record { adds = subst (λ n. Adds (blank n) d) (sym same) made.adds; closes = subst (λ n. Closes (blank n) d) (sym same) made.closes; new = made.names (codes "y") y_is_other (new_y name) }
