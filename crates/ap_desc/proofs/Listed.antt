-- Properties that hold of the elements of a list alone, and graphs of so many edges: whether a walk leads from one to another is decided.
use Rattle.std.proofs.Common.{◌≡◌, ℕ, zero, suc, List, [], ◌∷◌, ◌++◌, Option, Some, None, inl, inr, refl, sym, subst, ap, ◌∙◌, append_assoc}
use Rattle.std.specs.Prelude.{◌⊎◌, slice_get}
use Rattle.std.proofs.lemmas.Option.{same_Some}
use Rattle.ap_desc.proofs.Members.{In, in_left, in_right, in_append}
use Rattle.ap_desc.specs.Chains.{IsWalk, HasLoop, Leads}

abbrev pub Decided : Type 0 → Type 0
Decided A = A ⊎ (A → ⊥)

pub both_decided : {A B : Type 0} → Decided A → Decided B → Decided (A × B)
both_decided (inl a) (inl b) = inl (a, b)
both_decided (inl a) (inr none) = inr (λ p. none p.1)
both_decided (inr none) _ = inr (λ p. none p.0)

pub either_decided : {A B : Type 0} → Decided A → Decided B → Decided (A ⊎ B)
either_decided (inl a) _ = inl (inl a)
either_decided (inr none) (inl b) = inl (inr b)
either_decided (inr none) (inr never) = inr (λ s. elim s [ inl a ↦ none a | inr b ↦ never b ])

-- the property holds of these alone
pub record Listed {X : Type 0} (P : X → Type 0) : Type 0 where
  pub items : List X
  pub all : (x : X) → P x → In x items
  pub only : (x : X) → In x items → P x

pub listed_none : {X : Type 0} (P : X → Type 0) → ((x : X) → P x → ⊥) → Listed P
listed_none P none = record { items = []; all = none; only = λ x h. absurd h }

pub listed_like : {X : Type 0} (P Q : X → Type 0) → ((x : X) → P x → Q x) → ((x : X) → Q x → P x) → Listed P → Listed Q
listed_like P Q there back l = record { items = l.items; all = λ x q. l.all x (back x q); only = λ x h. there x (l.only x h) }

pub listed_option : {X : Type 0} (o : Option X) → Listed (λ x. o ≡ Some x)
listed_option None = listed_none _ (λ x e. absurd cc)
listed_option (Some y) = record { items = y ∷ []; all = λ x e. inl (sym (same_Some y x e)); only = λ x h. elim h [ inl e ↦ subst (λ z. Some y ≡ Some z) (sym e) refl | inr n ↦ absurd n ] }

pub listed_if : {X : Type 0} (A : Type 0) (P : X → Type 0) → Decided A → Listed P → Listed (λ x. A × P x)
listed_if A P (inl a) l = record { items = l.items; all = λ x p. l.all x p.1; only = λ x h. (a, l.only x h) }
listed_if A P (inr none) l = listed_none _ (λ x p. none p.0)

pub listed_either : {X : Type 0} (P Q : X → Type 0) → Listed P → Listed Q → Listed (λ x. P x ⊎ Q x)
listed_either {X} P Q l m = record { items = l.items ++ m.items; all = all; only = only } where
  all : (x : X) → (P x ⊎ Q x) → In x (l.items ++ m.items)
  all x (inl p) = in_left x l.items m.items (l.all x p)
  all x (inr q) = in_right x l.items m.items (m.all x q)

  only : (x : X) → In x (l.items ++ m.items) → P x ⊎ Q x
  only x h = elim (in_append x l.items m.items h) [ inl a ↦ inl (l.only x a) | inr b ↦ inr (m.only x b) ]

-- the property holds for one of the elements of another list
some_first : {Z X : Type 0} (P : Z → X → Type 0) (z : Z) (zs : List Z) (x : X) → (P z x ⊎ ((y : Z) × In y zs × P y x)) → (y : Z) × In y (z ∷ zs) × P y x
some_first P z zs x (inl p) = (z, inl refl, p)
some_first P z zs x (inr (y, there, p)) = (y, inr there, p)

first_or_later : {Z X : Type 0} (P : Z → X → Type 0) (z : Z) (zs : List Z) (x : X) → ((y : Z) × In y (z ∷ zs) × P y x) → P z x ⊎ ((y : Z) × In y zs × P y x)
first_or_later P z zs x (y, inl e, p) = inl (subst (λ w. P w x) e p)
first_or_later P z zs x (y, inr h, p) = inr (y, h, p)

pub listed_any : {Z X : Type 0} (P : Z → X → Type 0) → ((z : Z) → Listed (P z)) → (zs : List Z) → Listed (λ x. (z : Z) × In z zs × P z x)
listed_any P each [] = listed_none _ (λ x h. h.1)
listed_any P each (z ∷ zs) = listed_like _ _ (some_first P z zs) (first_or_later P z zs) (listed_either _ _ (each z) (listed_any P each zs))

-- or for one of which another property holds
pub listed_by : {Z X : Type 0} (Q : Z → Type 0) (P : Z → X → Type 0) → Listed Q → ((z : Z) → Listed (P z)) → Listed (λ x. (z : Z) × Q z × P z x)
listed_by {Z} {X} Q P l each = listed_like _ _ there back (listed_any P each l.items) where
  there : (x : X) → ((z : Z) × In z l.items × P z x) → (z : Z) × Q z × P z x
  there x (z, h, p) = (z, l.only z h, p)

  back : (x : X) → ((z : Z) × Q z × P z x) → (z : Z) × In z l.items × P z x
  back x (z, q, p) = (z, l.all z q, p)

-- a list's elements with their places
place_first : {X : Type 0} (y : X) (xs : List X) (p : ℕ × X) → ((p ≡ (zero, y)) ⊎ ((q : ℕ × X) × (slice_get xs q.0 ≡ Some q.1) × ((suc q.0, q.1) ≡ p))) → slice_get (y ∷ xs) p.0 ≡ Some p.1
place_first y xs p (inl e) = rw e refl
place_first y xs p (inr (q, at, e)) = rw (← e) at

place_or_later : {X : Type 0} (y : X) (xs : List X) (p : ℕ × X) → slice_get (y ∷ xs) p.0 ≡ Some p.1 → (p ≡ (zero, y)) ⊎ ((q : ℕ × X) × (slice_get xs q.0 ≡ Some q.1) × ((suc q.0, q.1) ≡ p))
place_or_later y xs (zero, x) at = inl (ap (λ z. (zero, z)) (sym (same_Some y x at)))
place_or_later y xs (suc i, x) at = inr ((i, x), at, refl)

listed_one : {X : Type 0} (y : X) → Listed (λ x. x ≡ y)
listed_one y = record { items = y ∷ []; all = λ x e. inl e; only = λ x h. elim h [ inl e ↦ e | inr n ↦ absurd n ] }

pub listed_places : {X : Type 0} (xs : List X) → Listed (λ (p : ℕ × X). slice_get xs p.0 ≡ Some p.1)
listed_places [] = listed_none _ (λ p e. absurd cc)
listed_places {X} (y ∷ xs) = listed_like _ _ (place_first y xs) (place_or_later y xs)
    (listed_either _ _ (listed_one (zero, y)) (listed_by _ (λ (q p : ℕ × X). (suc q.0, q.1) ≡ p) (listed_places xs) (λ q. listed_like _ _ (λ p e. sym e) (λ p e. sym e) (listed_one (suc q.0, q.1)))))

-- steps along these edges lead from the first to the second
abbrev pub Reach : {X : Type 0} → List (X × X) → X → X → Type 0
Reach [] x y = x ≡ y
Reach (e ∷ es) x y = Reach es x y ⊎ (Reach es x e.0 × Reach es e.1 y)

pub reach_here : {X : Type 0} (es : List (X × X)) (x : X) → Reach es x x
reach_here [] x = refl
reach_here (e ∷ es) x = inl (reach_here es x)

pub reach_step : {X : Type 0} (es : List (X × X)) (x y : X) → In (x, y) es → Reach es x y
reach_step [] x y h = absurd h
reach_step {X} (e ∷ es) x y (inl same) = inr (subst (λ (p : X × X). Reach es x p.0 × Reach es p.1 y) same (reach_here es x, reach_here es y))
reach_step (e ∷ es) x y (inr h) = inl (reach_step es x y h)

pub reach_on : {X : Type 0} (es : List (X × X)) (x y z : X) → Reach es x y → Reach es y z → Reach es x z
reach_on [] x y z p q = p ∙ q
reach_on (e ∷ es) x y z (inl p) (inl q) = inl (reach_on es x y z p q)
reach_on (e ∷ es) x y z (inl p) (inr (q, r)) = inr (reach_on es x y e.0 p q, r)
reach_on (e ∷ es) x y z (inr (p, r)) (inl q) = inr (p, reach_on es e.1 y z r q)
reach_on (e ∷ es) x y z (inr (p, _)) (inr (_, r)) = inr (p, r)

pub reach_decided : {X : Type 0} → ((x y : X) → Decided (x ≡ y)) → (es : List (X × X)) (x y : X) → Decided (Reach es x y)
reach_decided same [] x y = same x y
reach_decided same (e ∷ es) x y = either_decided (reach_decided same es x y) (both_decided (reach_decided same es x e.0) (reach_decided same es e.1 y))

-- all to which they lead
pub reach_listed : {X : Type 0} → ((x y : X) → Decided (x ≡ y)) → (es : List (X × X)) (x : X) → Listed (Reach es x)
reach_listed same [] x = listed_like _ _ (λ y e. sym e) (λ y e. sym e) (listed_one x)
reach_listed same (e ∷ es) x = listed_either _ _ (reach_listed same es x) (listed_if _ _ (reach_decided same es x e.0) (reach_listed same es e.1))

module _ {X : Type 0} (Step : X → X → Type 0) (es : List (X × X)) (among : (x y : X) → Step x y → In (x, y) es) (only : (x y : X) → In (x, y) es → Step x y) where
  -- a walk along these edges reaches its end, and what is reached ends a walk
  pub walk_reaches : (x : X) (between : List X) (y : X) → IsWalk Step x (between ++ y ∷ []) → Reach es x y
  walk_reaches x [] y walk = reach_step es x y (among x y walk.0)
  walk_reaches x (z ∷ between) y walk = reach_on es x z y (reach_step es x z (among x z walk.0)) (walk_reaches z between y walk.1)

walks_on : {X : Type 0} (Step : X → X → Type 0) (x : X) (before : List X) (z : X) (after : List X) → IsWalk Step x (before ++ z ∷ []) → IsWalk Step z after → IsWalk Step x (before ++ z ∷ after)
walks_on Step x [] z after one two = (one.0, two)
walks_on Step x (w ∷ before) z after one two = (one.0, walks_on Step w before z after one.1 two)

pub leads_on : {X : Type 0} (Step : X → X → Type 0) (x y z : X) → Leads Step x y → Leads Step y z → Leads Step x z
leads_on Step x y z (inl e) q = subst (λ w. Leads Step w z) (sym e) q
leads_on Step x y z (inr walk) (inl e) = subst (λ w. Leads Step x w) e (inr walk)
leads_on Step x y z (inr (before, one)) (inr (after, two)) =
    inr (before ++ y ∷ after, subst (IsWalk Step x) (sym (append_assoc before (y ∷ after) (z ∷ []))) (walks_on Step x before y (after ++ z ∷ []) one two))

reach_leads : {X : Type 0} (Step : X → X → Type 0) (es : List (X × X)) → ((e : X × X) → In e es → Step e.0 e.1) → (x y : X) → Reach es x y → Leads Step x y
reach_leads Step [] only x y r = inl r
reach_leads Step (e ∷ es) only x y (inl r) = reach_leads Step es (λ d h. only d (inr h)) x y r
reach_leads Step (e ∷ es) only x y (inr (r, t)) =
    leads_on Step x e.0 y (reach_leads Step es (λ d h. only d (inr h)) x e.0 r)
    (leads_on Step e.0 e.1 y (inr ([], (only e (inl refl), tt))) (reach_leads Step es (λ d h. only d (inr h)) e.1 y t))

pub some_decided : {X : Type 0} (P : X → Type 0) → ((x : X) → Decided (P x)) → (xs : List X) → Decided ((x : X) × In x xs × P x)
some_decided P each [] = inr (λ s. s.1)
some_decided {X} P each (x ∷ xs) = step (each x) (some_decided P each xs) where
  step : Decided (P x) → Decided ((y : X) × In y xs × P y) → Decided ((y : X) × In y (x ∷ xs) × P y)
  step (inl p) later = inl (x, inl refl, p)
  step (inr never) (inl (y, h, p)) = inl (y, inr h, p)
  step (inr never) (inr none) = inr neither where
    neither : ((y : X) × In y (x ∷ xs) × P y) → ⊥
    neither (y, inl e, p) = never (subst P e p)
    neither (y, inr h, p) = none (y, h, p)

-- whether the steps make a loop, where they are those of a list
pub loop_decided : {X : Type 0} (Step : X → X → Type 0) → ((x y : X) → Decided (x ≡ y)) → Listed (λ (e : X × X). Step e.0 e.1) → Decided (HasLoop Step)
loop_decided {X} Step same l = found (some_decided (λ (e : X × X). Reach l.items e.1 e.0) (λ e. reach_decided same l.items e.1 e.0) l.items) where
  close : (e : X × X) → Step e.0 e.1 → Leads Step e.1 e.0 → HasLoop Step
  close e step (inl back) = (e.0, [], (subst (λ y. Step e.0 y) back step, tt))
  close e step (inr (between, walk)) = (e.0, e.1 ∷ between, (step, walk))

  found : Decided ((e : X × X) × In e l.items × Reach l.items e.1 e.0) → Decided (HasLoop Step)
  found (inl (e, h, r)) = inl (close e (l.only e h) (reach_leads Step l.items l.only e.1 e.0 r))
  found (inr none) = inr open_walk where
    open_walk : HasLoop Step → ⊥
    open_walk (x, [], walk) = none ((x, x), l.all (x, x) walk.0, reach_here l.items x)
    open_walk (x, z ∷ between, walk) = none ((x, z), l.all (x, z) walk.0, walk_reaches Step l.items (λ a b s. l.all (a, b) s) (λ a b h. l.only (a, b) h) z between x walk.1)
