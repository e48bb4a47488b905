-- Where every net is ready, the nets have levels that rise from what a net follows from to the net.
use Rattle.std.proofs.Common.{◌≡◌, ℕ, zero, suc, ◌+◌, ◌<◌, ◌≤◌, max, List, [], ◌∷◌, length, Some, refl, sym, subst, ◌∙◌, arith, inl, inr, ⊎_elim}
use Rattle.std.specs.Prelude.{◌⊎◌, slice_get}
use Rattle.std.specs.List.{AllByRecursion as Each}
use Rattle.std.proofs.lemmas.Bool.{cases_lt}
use Rattle.ap_net.specs.Wiring.{IsWired, IsConnected}
use Rattle.ap_net.specs.Draft.{Draft}
use Rattle.ap_net.proofs.Lists.{All-from, some_same}
use Rattle.ap_net.specs.Ready.{Dependence, Feeds, Ready, ready, AllReady}
use Rattle.ap_net.proofs.Feeding.{unique, Feeds-declared}

-- Levels that rise from what a net follows from to the net.
pub record Levels (by : Dependence) (d : Draft) : Type 0 where
  pub level : ℕ → ℕ
  pub rises : (n m j : ℕ) (from : List ℕ) → Feeds by d n from → slice_get from j ≡ Some m → level m < level n
  pub within : (n m j : ℕ) (from : List ℕ) → Feeds by d n from → slice_get from j ≡ Some m → m < length d.nets

-- one more than the highest of some nets, 0 for none
abbrev highest : (ℕ → ℕ) → List ℕ → ℕ
highest f [] = 0
highest f (m ∷ ms) = max (f m + 1) (highest f ms)

highest-at : (f : ℕ → ℕ) (ms : List ℕ) (j m : ℕ) → slice_get ms j ≡ Some m → f m < highest f ms
highest-at f [] j m at = cc
highest-at f (x ∷ ms) zero m at = let same : x ≡ m = some_same at in rw (← same) (omega arith)
highest-at f (x ∷ ms) (suc j) m at = let h = highest-at f ms j m at in omega arith

highest-same : (f g : ℕ → ℕ) (ms : List ℕ) → Each (λ m. f m ≡ g m) ms → highest f ms ≡ highest g ms
highest-same f g [] h = refl
highest-same f g (m ∷ ms) h = let one : f m ≡ g m = h.0 in let rest : highest f ms ≡ highest g ms = highest-same f g ms h.1 in rw (one, rest) refl

module _ (preds : ℕ → List ℕ) where
  -- the longest way of at most k steps back from a net
  abbrev level : ℕ → ℕ → ℕ
  level zero n = 0
  level (suc k) n = highest (level k) (preds n)

  -- from so many steps on it stays the same
  abbrev Stable : ℕ → ℕ → Type 0
  Stable most n = (k : ℕ) → most ≤ k → level k n ≡ level most n

  later : (a b n : ℕ) → a ≤ b → Stable a n → Stable b n
  later a b n le h = λ k up. h k (omega arith) ∙ sym (h b le)

  common : (ms : List ℕ) → ((j m : ℕ) → slice_get ms j ≡ Some m → (most : ℕ) × Stable most m) → (most : ℕ) × Each (Stable most) ms
  common [] f = (0, tt)
  common (m ∷ ms) f =
      let one = f zero m refl in
      let rest = common ms (λ j x at. f (suc j) x at) in
      let most : ℕ = max one.0 rest.0 in
      (most, (later one.0 most m (omega arith) one.1, All-from (Stable rest.0) (Stable most) (λ x h. later rest.0 most x (omega arith) h) ms rest.1))

  next : (most n k : ℕ) → Each (Stable most) (preds n) → suc most ≤ k → level k n ≡ level (suc most) n
  next most n zero each le = absurd (omega arith)
  next most n (suc k) each le = highest-same (level k) (level most) (preds n) (All-from (Stable most) (λ m. level k m ≡ level most m) (λ m h. h k (omega arith)) (preds n) each)

  stable_next : (n : ℕ) → ((j m : ℕ) → slice_get (preds n) j ≡ Some m → (most : ℕ) × Stable most m) → (most : ℕ) × Stable most n
  stable_next n f = let all = common (preds n) f in (suc all.0, λ k le. next all.0 n k all.1 le)

  bounded : (N : ℕ) → ((n : ℕ) → n < N → (most : ℕ) × Stable most n) → (most : ℕ) × ((n : ℕ) → n < N → Stable most n)
  bounded zero f = (0, λ n lt. absurd (omega arith))
  bounded (suc N) f =
      let rest = bounded N (λ n lt. f n (omega arith)) in
      let last = f N (omega arith) in
      let most : ℕ = max rest.0 last.0 in
      (most, λ n lt. ⊎_elim (λ low. later rest.0 most n (omega arith) (rest.1 n low)) (λ high. let e : N ≡ n = omega arith in subst (Stable most) e (later last.0 most N (omega arith) last.1)) (cases_lt n N))

  -- the levels rise
  rise : (N : ℕ) → (all : (n : ℕ) → n < N → (most : ℕ) × Stable most n) → (n j m : ℕ) → n < N → slice_get (preds n) j ≡ Some m → level (bounded N all).0 m < level (bounded N all).0 n
  rise N all n j m lt at =
      let most : ℕ = (bounded N all).0 in
      let same : level (suc most) n ≡ level most n = (bounded N all).1 n lt (suc most) (omega arith) in
      rw (← same) (highest-at (level most) (preds n) j m at)

module _ (by : Dependence) (d : Draft) (wired : IsWired d.nets d.assigns d.nexts) (connected : IsConnected d.nets d.assigns d.instances) (all : AllReady by d) where
  abbrev from_of : (n : ℕ) → Ready by d n → List ℕ
  from_of n (ready from feeds each) = from

  of_from : (n : ℕ) (r : Ready by d n) → Feeds by d n (from_of n r)
  of_from n (ready from feeds each) = feeds

  abbrev chosen : (n : ℕ) → (n < length d.nets) ⊎ (length d.nets ≤ n) → List ℕ
  chosen n (inl lt) = from_of n (all n lt)
  chosen n (inr le) = []

  abbrev preds : ℕ → List ℕ
  preds n = chosen n (cases_lt n (length d.nets))

  is_chosen : (n : ℕ) (from : List ℕ) → Feeds by d n from → (s : (n < length d.nets) ⊎ (length d.nets ≤ n)) → from ≡ chosen n s
  is_chosen n from feeds (inl lt) = unique by d wired connected n from (from_of n (all n lt)) feeds (of_from n (all n lt))
  is_chosen n from feeds (inr le) = let lt = Feeds-declared by d wired connected n from feeds in absurd (omega arith)

  is_pred : (n : ℕ) (from : List ℕ) → Feeds by d n from → from ≡ preds n
  is_pred n from feeds = is_chosen n from feeds (cases_lt n (length d.nets))

  stable : (n : ℕ) → Ready by d n → (most : ℕ) × Stable preds most n
  stable n (ready from feeds each) = stable_next preds n (λ j m at. stable m (each j m (subst (λ l. slice_get l j ≡ Some m) (sym (is_pred n from feeds)) at)))

  is_declared : (n : ℕ) → Ready by d n → n < length d.nets
  is_declared n (ready from feeds each) = Feeds-declared by d wired connected n from feeds

  ready_within : (n : ℕ) (from : List ℕ) → Feeds by d n from → Ready by d n → (j m : ℕ) → slice_get from j ≡ Some m → m < length d.nets
  ready_within n from feeds (ready other feeds' each) j m at = is_declared m (each j m (subst (λ l. slice_get l j ≡ Some m) (unique by d wired connected n from other feeds feeds') at))

  pub levels : Levels by d
  levels = record {
    level = level preds (bounded preds (length d.nets) (λ n lt. stable n (all n lt))).0;
    rises = λ n m j from feeds at. rise preds (length d.nets) (λ n lt. stable n (all n lt)) n j m (Feeds-declared by d wired connected n from feeds) (subst (λ l. slice_get l j ≡ Some m) (is_pred n from feeds) at);
    within = λ n m j from feeds at. ready_within n from feeds (all n (Feeds-declared by d wired connected n from feeds)) j m at;
  }
