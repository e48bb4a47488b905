-- A net follows from one list of nets at most.
use Rattle.std.proofs.Common.{◌≡◌, ◌≢◌, ℕ, zero, suc, ◌<◌, List, [], ◌∷◌, ◌++◌, length, Some, Bool, true, false, refl, sym, ap, subst, ◌∙◌}
use Rattle.std.specs.Prelude.{slice_get}
use Rattle.std.specs.List.{AllByRecursion as Each}
use Rattle.std.proofs.lemmas.Option.{slice_get_within}
use Rattle.ap_net.specs.declared.cell.Wire.{Wire}
use Rattle.ap_net.specs.declared.net.ModuleNet.{ModuleNet}
use Rattle.ap_net.specs.declared.net.Assign.{Assign}
use Rattle.ap_net.specs.declared.net.Instance.{Instance}
use Rattle.ap_net.specs.Cells.{operands, IsNet}
use Rattle.ap_net.specs.Wiring.{IsSource, Unjoined, IsFree, Undriven, DrivenOnce, NoneTwice, driven_among, driven_by, IsWired, IsConnected}
use Rattle.ap_net.specs.Draft.{Draft}
use Rattle.ap_net.proofs.Lists.{All-front, All-back, All-at, some_same}
use Rattle.ap_net.proofs.Wired.{number-IsNet}
use Rattle.ap_net.specs.Ready.{Dependence, needed, numbers, Feeds, source, assign, output}

driven_among-at : (P : ℕ → Type 0) (drives : List Bool) (nets : List Wire) → Each P (driven_among drives nets) → (p : ℕ) (w : Wire) → slice_get nets p ≡ Some w → slice_get drives p ≡ Some true → P w.number
driven_among-at P [] nets h p w at flag = cc
driven_among-at P (d ∷ drives) [] h p w at flag = cc
driven_among-at P (true ∷ drives) (x ∷ nets) h zero w at flag = let same : x ≡ w = some_same at in subst (λ (y : Wire). P y.number) same h.0
driven_among-at P (false ∷ drives) (x ∷ nets) h zero w at flag = cc
driven_among-at P (true ∷ drives) (x ∷ nets) h (suc p) w at flag = driven_among-at P drives nets h.1 p w at flag
driven_among-at P (false ∷ drives) (x ∷ nets) h (suc p) w at flag = driven_among-at P drives nets h p w at flag

driven_by-at : (P : ℕ → Type 0) (instances : List Instance) → Each P (driven_by instances) → (k : ℕ) (i : Instance) → slice_get instances k ≡ Some i → Each P (driven_among i.drives i.nets)
driven_by-at P [] h k i at = cc
driven_by-at P (x ∷ instances) h zero i at = let same : x ≡ i = some_same at in subst (λ (y : Instance). Each P (driven_among y.drives y.nets)) same (All-front P (driven_among x.drives x.nets) (driven_by instances) h)
driven_by-at P (x ∷ instances) h (suc k) i at = driven_by-at P instances (All-back P (driven_among x.drives x.nets) (driven_by instances) h) k i at

apart_cross : (xs ys : List ℕ) → NoneTwice (xs ++ ys) → NoneTwice xs × NoneTwice ys × Each (λ x. Each (λ y. y ≢ x) ys) xs
apart_cross [] ys h = (tt, h, tt)
apart_cross (x ∷ xs) ys h = let rest = apart_cross xs ys h.1 in ((All-front (λ other. other ≢ x) xs ys h.0, rest.0), rest.1, (All-back (λ other. other ≢ x) xs ys h.0, rest.2))

same_assign : (assigns : List Assign) → DrivenOnce assigns → (k l : ℕ) (a b : Assign) → slice_get assigns k ≡ Some a → slice_get assigns l ≡ Some b → a.to.number ≡ b.to.number → a ≡ b
same_assign [] h k l a b p q e = cc
same_assign (x ∷ assigns) h zero zero a b p q e = some_same (sym p ∙ q)
same_assign (x ∷ assigns) h zero (suc l) a b p q e = let same : x ≡ a = some_same p in absurd (All-at (λ (y : Assign). y.to.number ≢ x.to.number) assigns l b h.0 q (sym e ∙ ap (λ (y : Assign). y.to.number) (sym same)))
same_assign (x ∷ assigns) h (suc k) zero a b p q e = let same : x ≡ b = some_same q in absurd (All-at (λ (y : Assign). y.to.number ≢ x.to.number) assigns k a h.0 p (e ∙ ap (λ (y : Assign). y.to.number) (sym same)))
same_assign (x ∷ assigns) h (suc k) (suc l) a b p q e = same_assign assigns h.1 k l a b p q e

same_port : (drives : List Bool) (nets : List Wire) → NoneTwice (driven_among drives nets) → (p q : ℕ) (v w : Wire) → slice_get nets p ≡ Some v → slice_get nets q ≡ Some w
    → slice_get drives p ≡ Some true → slice_get drives q ≡ Some true → v.number ≡ w.number → p ≡ q
same_port [] nets h p q v w a b f g e = cc
same_port (d ∷ drives) [] h p q v w a b f g e = cc
same_port (d ∷ drives) (x ∷ nets) h zero zero v w a b f g e = refl
same_port (false ∷ drives) (x ∷ nets) h zero (suc q) v w a b f g e = cc
same_port (false ∷ drives) (x ∷ nets) h (suc p) zero v w a b f g e = cc
same_port (false ∷ drives) (x ∷ nets) h (suc p) (suc q) v w a b f g e = ap suc (same_port drives nets h p q v w a b f g e)
same_port (true ∷ drives) (x ∷ nets) h zero (suc q) v w a b f g e = let same : x ≡ v = some_same a in absurd (driven_among-at (λ n. n ≢ x.number) drives nets h.0 q w b g (sym e ∙ ap (λ (y : Wire). y.number) (sym same)))
same_port (true ∷ drives) (x ∷ nets) h (suc p) zero v w a b f g e = let same : x ≡ w = some_same b in absurd (driven_among-at (λ n. n ≢ x.number) drives nets h.0 p v a f (e ∙ ap (λ (y : Wire). y.number) (sym same)))
same_port (true ∷ drives) (x ∷ nets) h (suc p) (suc q) v w a b f g e = ap suc (same_port drives nets h.1 p q v w a b f g e)

same_output : (instances : List Instance) → NoneTwice (driven_by instances) → (k l p q : ℕ) (i j : Instance) (v w : Wire) → slice_get instances k ≡ Some i → slice_get instances l ≡ Some j
    → slice_get i.nets p ≡ Some v → slice_get j.nets q ≡ Some w → slice_get i.drives p ≡ Some true → slice_get j.drives q ≡ Some true → v.number ≡ w.number → (i ≡ j) × (p ≡ q)
same_output [] h k l p q i j v w at at' a b f g e = cc
same_output (x ∷ instances) h zero zero p q i j v w at at' a b f g e =
    let same : i ≡ j = some_same (sym at ∙ at') in
    let here : x ≡ j = some_same at' in
    let own : NoneTwice (driven_among j.drives j.nets) = subst (λ (y : Instance). NoneTwice (driven_among y.drives y.nets)) here (apart_cross (driven_among x.drives x.nets) (driven_by instances) h).0 in
    (same, same_port j.drives j.nets own p q v w (subst (λ (y : Instance). slice_get y.nets p ≡ Some v) same a) b (subst (λ (y : Instance). slice_get y.drives p ≡ Some true) same f) g e)
same_output (x ∷ instances) h zero (suc l) p q i j v w at at' a b f g e =
    let same : i ≡ x = some_same (sym at) in
    let cross = (apart_cross (driven_among x.drives x.nets) (driven_by instances) h).2 in
    let far : Each (λ y. y ≢ v.number) (driven_by instances) = driven_among-at (λ n. Each (λ y. y ≢ n) (driven_by instances)) x.drives x.nets cross p v (subst (λ (y : Instance). slice_get y.nets p ≡ Some v) same a) (subst (λ (y : Instance). slice_get y.drives p ≡ Some true) same f) in
    absurd (driven_among-at (λ n. n ≢ v.number) j.drives j.nets (driven_by-at (λ n. n ≢ v.number) instances far l j at') q w b g (sym e))
same_output (x ∷ instances) h (suc k) zero p q i j v w at at' a b f g e =
    let same : j ≡ x = some_same (sym at') in
    let cross = (apart_cross (driven_among x.drives x.nets) (driven_by instances) h).2 in
    let far : Each (λ y. y ≢ w.number) (driven_by instances) = driven_among-at (λ n. Each (λ y. y ≢ n) (driven_by instances)) x.drives x.nets cross q w (subst (λ (y : Instance). slice_get y.nets q ≡ Some w) same b) (subst (λ (y : Instance). slice_get y.drives q ≡ Some true) same g) in
    absurd (driven_among-at (λ n. n ≢ w.number) i.drives i.nets (driven_by-at (λ n. n ≢ w.number) instances far k i at) p v a f e)
same_output (x ∷ instances) h (suc k) (suc l) p q i j v w at at' a b f g e = same_output instances (apart_cross (driven_among x.drives x.nets) (driven_by instances) h).1 k l p q i j v w at at' a b f g e

module _ (by : Dependence) (d : Draft) (wired : IsWired d.nets d.assigns d.nexts) (connected : IsConnected d.nets d.assigns d.instances) where
  no_source : (n k : ℕ) (net : ModuleNet) (a : Assign) → slice_get d.nets n ≡ Some net → slice_get d.assigns k ≡ Some a → a.to.number ≡ n → IsFree d.nets n
  no_source n k net a there at to = subst (IsFree d.nets) to (All-at (λ (x : Assign). IsFree d.nets x.to.number) d.assigns k a wired.free at)

  of_output : (P : ℕ → Type 0) → Each P (driven_by d.instances) → (n k p : ℕ) (i : Instance) (w : Wire) → slice_get d.instances k ≡ Some i → slice_get i.nets p ≡ Some w → slice_get i.drives p ≡ Some true → w.number ≡ n → P n
  of_output P each n k p i w at net flag to = subst P to (driven_among-at P i.drives i.nets (driven_by-at P d.instances each k i at) p w net flag)

  pub unique : (n : ℕ) (from other : List ℕ) → Feeds by d n from → Feeds by d n other → from ≡ other
  unique n from other (source net at is same) (source net' at' is' same') = same ∙ sym same'
  unique n from other (source net at is same) (assign k a at' to same') = absurd (no_source n k net a at at' to net at is)
  unique n from other (source net at is same) (output k p i w at' there flag to same') = absurd (of_output (IsFree d.nets) connected.free n k p i w at' there flag to net at is)
  unique n from other (assign k a at' to same') (source net at is same) = absurd (no_source n k net a at at' to net at is)
  unique n from other (assign k a at to same) (assign l b at' to' same') =
      let one : a ≡ b = same_assign d.assigns wired.once k l a b at at' (to ∙ sym to') in
      same ∙ ap (λ (x : Assign). numbers (operands x.cell)) one ∙ sym same'
  unique n from other (assign l a at to same) (output k p i w at' there flag to' same') = absurd (All-at (λ (x : Assign). x.to.number ≢ n) d.assigns l a (of_output (Undriven d.assigns) connected.undriven n k p i w at' there flag to') at to)
  unique n from other (output k p i w at' there flag to same') (source net at is same) = absurd (of_output (IsFree d.nets) connected.free n k p i w at' there flag to net at is)
  unique n from other (output k p i w at' there flag to' same') (assign l a at to same) = absurd (All-at (λ (x : Assign). x.to.number ≢ n) d.assigns l a (of_output (Undriven d.assigns) connected.undriven n k p i w at' there flag to') at to)
  unique n from other (output k p i v at a f to same) (output l q j w at' b g to' same') =
      let both = same_output d.instances connected.once k l p q i j v w at at' a b f g (to ∙ sym to') in
      same ∙ ap (λ (x : Instance). needed (by.needs x.module p) x.drives x.nets) both.0 ∙ ap (λ r. needed (by.needs j.module r) j.drives j.nets) both.1 ∙ sym same'

  -- only a declared net follows from others
  pub Feeds-declared : (n : ℕ) (from : List ℕ) → Feeds by d n from → n < length d.nets
  Feeds-declared n from (source net at is same) = slice_get_within d.nets n net at
  Feeds-declared n from (assign k a at to same) = subst (λ m. m < length d.nets) to (number-IsNet d.nets a.to (All-at (λ (x : Assign). IsNet d.nets x.to) d.assigns k a wired.results at))
  Feeds-declared n from (output k p i w at there flag to same) =
      subst (λ m. m < length d.nets) to (number-IsNet d.nets w (All-at (IsNet d.nets) i.nets p w (All-at (λ (x : Instance). Each (IsNet d.nets) x.nets) d.instances k i connected.declared at) there))

-- a net that follows from others, and is no source, has a driver
pub of_driver : (by : Dependence) (d : Draft) (n : ℕ) (net : ModuleNet) (from : List ℕ) → Feeds by d n from → slice_get d.nets n ≡ Some net → (IsSource net.role → ⊥) → Undriven d.assigns n → Unjoined d.instances n → ⊥
of_driver by d n net from (source other there is same) at free undriven unjoined = let e : other ≡ net = some_same (sym there ∙ at) in free (subst (λ (x : ModuleNet). IsSource x.role) e is)
of_driver by d n net from (assign k a there to same) at free undriven unjoined = All-at (λ (x : Assign). x.to.number ≢ n) d.assigns k a undriven there to
of_driver by d n net from (output k p i w there wire flag to same) at free undriven unjoined = driven_among-at (λ x. x ≢ n) i.drives i.nets (driven_by-at (λ x. x ≢ n) d.instances unjoined k i there) p w wire flag to
