-- From readiness to dependence: where some sources are made to look at themselves, a net that is ready depends on none of them.
use Rattle.std.proofs.Common.{◌≡◌, ℕ, zero, suc, ◌==◌, ◌||◌, Bool, true, false, List, [], ◌∷◌, Some, inl, inr, refl, sym, subst, ◌∙◌}
use Rattle.std.specs.Prelude.{IsTrue, slice_get}
use Rattle.std.specs.List.{AllByRecursion as Each}
use Rattle.std.proofs.lemmas.Bool.{eqb-true, eq-eqb, false≢true, ne_eqb, or_cases, or_from, or_left, or_right}
use Rattle.ap_net.specs.declared.cell.Wire.{Wire}
use Rattle.ap_net.specs.declared.net.Assign.{Assign}
use Rattle.ap_net.specs.declared.net.ModuleNet.{ModuleNet}
use Rattle.ap_net.specs.Cells.{operands}
use Rattle.ap_net.specs.Wiring.{IsConnected, IsSource, IsWired}
use Rattle.ap_net.specs.Depends.{IsClosed}
use Rattle.ap_net.specs.Draft.{Draft}
use Rattle.ap_net.specs.Ready.{Dependence, Feeds, Ready, assign, numbers, ready, source}
use Rattle.ap_net.proofs.Feeding.{unique}
use Rattle.ap_net.proofs.Lists.{All-at, All-from, All-unmap, Each-at}

module _ (by : Dependence) (d : Draft) (wired : IsWired d.nets d.assigns d.nexts) (connected : IsConnected d.nets d.assigns d.instances) where
  -- a source that looks at itself isn't in the set
  abbrev LeavesOut : (ℕ → Bool) → Type 0
  LeavesOut among = (q : ℕ) (net : ModuleNet) → slice_get d.nets q ≡ Some net → IsSource net.role → by.looks q ≡ q ∷ [] → among q ≡ false

  -- a set of nets with all that they depend on, in which this one is, and these are
  pub record Behind (n : ℕ) : Type 0 where
    pub among : ℕ → Bool
    pub itself : among n ≡ true
    pub closed : IsClosed d.assigns among
    pub leaves : LeavesOut among

  record AllBehind (from : List ℕ) : Type 0 where
    among : ℕ → Bool
    each : Each (λ m. among m ≡ true) from
    closed : IsClosed d.assigns among
    leaves : LeavesOut among

  none : AllBehind []
  none = record {
    among = λ x. false;
    each = tt;
    closed = Each-at (λ (a : Assign). IsTrue false → Each (λ (o : Wire). IsTrue false) (operands a.cell)) d.assigns (λ k a at is. absurd (false≢true is));
    leaves = λ q net at is self. refl;
  }

  -- a set that is closed stays so in a larger one, for the nets that it drives
  larger : (one both : ℕ → Bool) → ((x : ℕ) → one x ≡ true → both x ≡ true) → (a : Assign) → Each (λ (o : Wire). IsTrue (one o.number)) (operands a.cell) → Each (λ (o : Wire). IsTrue (both o.number)) (operands a.cell)
  larger one both f a h = All-from (λ (o : Wire). IsTrue (one o.number)) (λ (o : Wire). IsTrue (both o.number)) (λ o is. f o.number is) (operands a.cell) h

  joined : (m : ℕ) (from : List ℕ) → Behind m → AllBehind from → AllBehind (m ∷ from)
  joined m from one rest =
      let both : ℕ → Bool = λ x. one.among x || rest.among x in
      record {
        among = λ x. one.among x || rest.among x;
        each = (or_left (one.among m) (rest.among m) one.itself, All-from (λ x. rest.among x ≡ true) (λ x. both x ≡ true) (λ x is. or_right (one.among x) (rest.among x) is) from rest.each);
        closed = Each-at (λ (a : Assign). IsTrue (both a.to.number) → Each (λ (o : Wire). IsTrue (both o.number)) (operands a.cell)) d.assigns (λ k a at is. elim (or_cases (one.among a.to.number) (rest.among a.to.number) is) [
          | inl here ↦ larger one.among both (λ x yes. or_left (one.among x) (rest.among x) yes) a (All-at (λ (x : Assign). IsTrue (one.among x.to.number) → Each (λ (o : Wire). IsTrue (one.among o.number)) (operands x.cell)) d.assigns k a one.closed at here)
          | inr there ↦ larger rest.among both (λ x yes. or_right (one.among x) (rest.among x) yes) a (All-at (λ (x : Assign). IsTrue (rest.among x.to.number) → Each (λ (o : Wire). IsTrue (rest.among o.number)) (operands x.cell)) d.assigns k a rest.closed at there)
        ]);
        leaves = λ q net at is self. or_from (one.among q) (rest.among q) (one.leaves q net at is self) (rest.leaves q net at is self);
      }

  unite : (from : List ℕ) → ((j m : ℕ) → slice_get from j ≡ Some m → Behind m) → AllBehind from
  unite [] f = none
  unite (m ∷ from) f = joined m from (f zero m refl) (unite from (λ j x at. f (suc j) x at))

  -- a net with those that it follows from
  beyond : (n : ℕ) (from : List ℕ) → Feeds by d n from → AllBehind from → Behind n
  beyond n from feeds all =
      let both : ℕ → Bool = λ x. (x == n) || all.among x in
      record {
        among = λ x. (x == n) || all.among x;
        itself = or_left (n == n) (all.among n) (eq-eqb n n refl);
        closed = Each-at (λ (a : Assign). IsTrue (both a.to.number) → Each (λ (o : Wire). IsTrue (both o.number)) (operands a.cell)) d.assigns (λ k a at is. elim (or_cases (a.to.number == n) (all.among a.to.number) is) [
          | inl here ↦
              let same : from ≡ numbers (operands a.cell) = unique by d wired connected n from (numbers (operands a.cell)) feeds (assign k a at (eqb-true a.to.number n here) refl) in
              larger all.among both (λ x yes. or_right (x == n) (all.among x) yes) a (All-unmap (λ x. all.among x ≡ true) (λ (o : Wire). o.number) (operands a.cell) (subst (Each (λ x. all.among x ≡ true)) same all.each))
          | inr there ↦ larger all.among both (λ x yes. or_right (x == n) (all.among x) yes) a (All-at (λ (x : Assign). IsTrue (all.among x.to.number) → Each (λ (o : Wire). IsTrue (all.among o.number)) (operands x.cell)) d.assigns k a all.closed at there)
        ]);
        leaves = λ q net at is self. or_from (q == n) (all.among q) (ne_eqb q n (λ e. its_own n from feeds all q net at is self e)) (all.leaves q net at is self);
      }
    where
      its_own : (n : ℕ) (from : List ℕ) → Feeds by d n from → AllBehind from → (q : ℕ) (net : ModuleNet) → slice_get d.nets q ≡ Some net → IsSource net.role → by.looks q ≡ q ∷ [] → q ≡ n → ⊥
      its_own n from feeds all q net at is self e =
          let same : from ≡ by.looks q = unique by d wired connected q from (by.looks q) (subst (λ x. Feeds by d x from) (sym e) feeds) (source net at is refl) in
          let inside = subst (Each (λ x. all.among x ≡ true)) (same ∙ self) all.each in
          false≢true (sym (all.leaves q net at is self) ∙ inside.0)

  pub behind : (n : ℕ) → Ready by d n → Behind n
  behind n (ready from feeds each) = beyond n from feeds (unite from (λ j m at. behind m (each j m at)))
