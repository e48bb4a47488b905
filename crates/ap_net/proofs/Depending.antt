-- On which inputs the outputs of a module depend.
use Rattle.std.proofs.Common.{◌≡◌, ℕ, List, [], ◌∷◌, Option, Some, None, Bool, true, false, refl, sym, subst, ◌∙◌, inl, inr}
use Rattle.std.specs.Prelude.{slice_get, IsTrue}
use Rattle.std.specs.List.{AllByRecursion as Each}
use Rattle.ap_net.specs.declared.cell.Wire.{Wire}
use Rattle.ap_net.specs.declared.net.Assign.{Assign}
use Rattle.ap_net.specs.Cells.{operands}
use Rattle.ap_net.specs.Modules.{ModuleText, outputs}
use Rattle.ap_net.proofs.Lists.{Each-at}
use Rattle.ap_net.specs.Depends.{DependsWithin, DependsOnNone}
use Rattle.ap_net.specs.Pending.{Among}
use Rattle.ap_net.specs.Responding.{DependsAs, DependOnAll, DependOnNeeded}

-- each net depends on no more than all
pub everywhere : (assigns : List Assign) (n : ℕ) → DependsWithin assigns n (λ x. true)
everywhere assigns n = record {
  itself = refl;
  closed = Each-at (λ (a : Assign). IsTrue true → Each (λ (o : Wire). IsTrue true) (operands a.cell)) assigns (λ k a at is. Each-at (λ (o : Wire). IsTrue true) (operands a.cell) (λ j o there. refl));
}

-- what is false of each of some numbers is false of one of them
none_of : (among : ℕ → Bool) (others : List ℕ) (q : ℕ) → Each (λ other. among other ≡ false) others → Among others q → among q ≡ false
none_of among [] q each h = absurd h
none_of among (n ∷ others) q each (inl e) = subst (λ x. among x ≡ false) e each.0
none_of among (n ∷ others) q each (inr h) = none_of among others q each.1 h

abbrev is_false : Bool → Type 0
is_false false = Unit {0}
is_false true = ⊥

false_true : false ≡ true → ⊥
false_true e = subst is_false e tt

has_it : (b : Bool) → ((b ≡ false) → ⊥) → b ≡ true
has_it true f = refl
has_it false f = absurd (f refl)

module _ (m : ModuleText) (needs : ℕ → ℕ → Bool) (others : ℕ → List ℕ) (none : (p : ℕ) → slice_get (outputs m) p ≡ Some true → DependsOnNone m.assigns p (others p))
    (not : (p q : ℕ) → slice_get (outputs m) p ≡ Some true → slice_get (outputs m) q ≡ Some false → needs p q ≡ false → Among (others p) q) where
  -- the set of an output
  abbrev set : (p : ℕ) (o : Option Bool) → slice_get (outputs m) p ≡ o → ℕ → Bool
  set p None e x = true
  set p (Some false) e x = true
  set p (Some true) e x = (none p e).0 x

  within : (p : ℕ) (o : Option Bool) (e : slice_get (outputs m) p ≡ o) → o ≡ Some true → DependsWithin m.assigns p (set p o e)
  within p None e is = everywhere m.assigns p
  within p (Some false) e is = everywhere m.assigns p
  within p (Some true) e is = (none p e).1

  inputs : (p q : ℕ) (o : Option Bool) (e : slice_get (outputs m) p ≡ o) → o ≡ Some true → slice_get (outputs m) q ≡ Some false → IsTrue (set p o e q) → needs p q ≡ true
  inputs p q None e is there in_set = cc
  inputs p q (Some false) e is there in_set = cc
  inputs p q (Some true) e is there in_set = has_it (needs p q) (λ no_need. false_true (sym (none_of (none p e).0 (others p) q (none p e).2 (not p q e there no_need)) ∙ in_set))

  depends : DependsAs m needs
  depends = record {
    among = λ p. set p (slice_get (outputs m) p) refl;
    within = λ p at. within p (slice_get (outputs m) p) refl at;
    inputs = λ p q at there is. inputs p q (slice_get (outputs m) p) refl at there is;
  }

pub depend_on_all : DependOnAll
depend_on_all m = record { among = λ p x. true; within = λ p at. everywhere m.assigns p; inputs = λ p q at there is. refl }

pub depend_on_needed : DependOnNeeded
depend_on_needed m needs others none not = depends m needs others none not
