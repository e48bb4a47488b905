-- From a draft to the module that is made of it.
use Rattle.std.proofs.Common.{◌≡◌, ◌≢◌, ℕ, suc, zero, List, [], ◌∷◌, map, Some, true, refl, sym, ap, ◌∙◌}
use Rattle.std.specs.Prelude.{slice_get}
use Rattle.std.specs.List.{AllByRecursion as Each}
use Rattle.std.proofs.lemmas.Option.{slice_get_within}
use Rattle.ap_net.specs.declared.net.ModuleNet.{ModuleNet}
use Rattle.ap_net.specs.Names.{AreDistinct}
use Rattle.ap_net.specs.Draft.{Draft}
use Rattle.ap_net.specs.Modules.{ModuleText, IsModule, nets_of}
use Rattle.ap_net.specs.Finished.{IsFinished}
use Rattle.ap_net.specs.Ready.{Dependence}

-- a unit is by itself: no outside looks at its nets, and no module is placed in it
abbrev pub isolated : Dependence
isolated = record { looks = λ n. []; needs = λ name p q. true }

-- no name of the rest stands at a place
pub not_there : (name : List ℕ) (nets : List ModuleNet) (i : ℕ) (x : ModuleNet) → Each (λ other. other ≢ name) (map (λ (n : ModuleNet). n.name) nets) → slice_get nets i ≡ Some x → x.name ≢ name
not_there name [] i x h at = cc
not_there name (n ∷ nets) zero x h at = let same : n ≡ x = cc in rw (← same) h.0
not_there name (n ∷ nets) (suc i) x h at = not_there name nets i x h.1 at

-- nets of one name stand at one place, where names differ
pub same_place : (nets : List ModuleNet) → AreDistinct (map (λ (n : ModuleNet). n.name) nets) → (i j : ℕ) (x y : ModuleNet) → slice_get nets i ≡ Some x → slice_get nets j ≡ Some y → x.name ≡ y.name → i ≡ j
same_place [] d i j x y at at' e = cc
same_place (n ∷ nets) d zero zero x y at at' e = refl
same_place (n ∷ nets) d zero (suc j) x y at at' e = let same : n ≡ x = cc in absurd (not_there n.name nets j y d.0 at' (sym e ∙ ap (λ (z : ModuleNet). z.name) (sym same)))
same_place (n ∷ nets) d (suc i) zero x y at at' e = let same : n ≡ y = cc in absurd (not_there n.name nets i x d.0 at (e ∙ ap (λ (z : ModuleNet). z.name) (sym same)))
same_place (n ∷ nets) d (suc i) (suc j) x y at at' e = ap suc (same_place nets d.1 i j x y at at' e)

-- the place of a net whose name stands at this place of the module
pub place_is : (d : Draft) (m : ModuleText) (f : IsFinished d m) → IsModule m → (n p : ℕ) (x y : ModuleNet) → slice_get d.nets n ≡ Some x → slice_get (nets_of m) p ≡ Some y → x.name ≡ y.name → f.place n ≡ p
place_is d m f rules n p x y at at' e =
    same_place (nets_of m) rules.wired.distinct.1.1 (f.place n) p x y (f.nets n (slice_get_within d.nets n x at) ∙ at) at' e
