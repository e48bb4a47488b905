-- How a search for an order goes on: a net is put on the path, or in the order; and where it comes to a net of the path, there is
-- a loop.
use Rattle.std.proofs.Common.{◌≡◌, ℕ, zero, suc, ◌+◌, ◌-◌, ◌<◌, List, [], ◌∷◌, ◌++◌, length, get_or, set, Some, inl, inr, refl, sym, ap, subst, ◌∙◌, arith}
use Rattle.std.specs.Prelude.{◌⊎◌, slice_get}
use Rattle.std.proofs.lemmas.Bool.{cases_eq}
use Rattle.std.proofs.lemmas.Option.{slice_get_within, slice_get-get_or}
use Rattle.ap_net.proofs.Lists.{get_end, get_left, some_same}
use Rattle.ap_flat.specs.Dependence.{Leads, by_one, by_more, IsLooped, IsOrder}
use Rattle.ap_flat.specs.declared.order.Mark.{Mark}
use Rattle.ap_flat.specs.declared.order.Mark.TheVariants as mark
use Rattle.ap_flat.specs.Searching.{IsSearch, StaysDone}

-- an element of a list with one more at the end
pub get_push : {X : Type 0} (xs : List X) (x : X) (i : ℕ) (y : X) → slice_get (xs ++ x ∷ []) i ≡ Some y → (slice_get xs i ≡ Some y) ⊎ ((i ≡ length xs) × (x ≡ y))
get_push [] x zero y at = inr (refl, some_same at)
get_push [] x (suc i) y at = absurd cc
get_push (z ∷ xs) x zero y at = inl at
get_push (z ∷ xs) x (suc i) y at = elim (get_push xs x i y at) [ inl old ↦ inl old | inr end ↦ inr (ap suc end.0, end.1) ]

-- an element of a list with one changed
pub set_same : {X : Type 0} (xs : List X) (n : ℕ) (x : X) → n < length xs → slice_get (set xs n x) n ≡ Some x
set_same [] n x lt = absurd (omega arith)
set_same (y ∷ xs) zero x lt = refl
set_same (y ∷ xs) (suc n) x lt = set_same xs n x (omega arith)

pub set_other : {X : Type 0} (xs : List X) (n m : ℕ) (x : X) → (m ≡ n → ⊥) → slice_get (set xs n x) m ≡ slice_get xs m
set_other [] n m x ne = refl
set_other (y ∷ xs) zero zero x ne = absurd (ne refl)
set_other (y ∷ xs) zero (suc m) x ne = refl
set_other (y ∷ xs) (suc n) zero x ne = refl
set_other (y ∷ xs) (suc n) (suc m) x ne = set_other xs n m x (λ e. ne (ap suc e))

new_not_open : mark.New ≡ mark.Open → ⊥
new_not_open e = cc

new_not_done : mark.New ≡ mark.Done → ⊥
new_not_done e = cc

open_not_done : mark.Open ≡ mark.Done → ⊥
open_not_done e = cc

module _ (D : ℕ → ℕ → Type 0) where
  -- a net is put on the path
  module _ (marks : List Mark) (path order : List ℕ) (n : ℕ) (s : IsSearch D marks path order) (new : slice_get marks n ≡ Some mark.New) where
    low : n < length marks
    low = slice_get_within marks n mark.New new

    other_than : (m : ℕ) (x : Mark) → slice_get marks m ≡ Some x → (mark.New ≡ x → ⊥) → m ≡ n → ⊥
    other_than m x at ne e = ne (some_same (sym new ∙ ap (slice_get marks) (sym e) ∙ at))

    now : slice_get (set marks n mark.Open) n ≡ Some mark.Open
    now = set_same marks n mark.Open low

    kept : (m : ℕ) (x : Mark) → slice_get marks m ≡ Some x → (mark.New ≡ x → ⊥) → slice_get (set marks n mark.Open) m ≡ Some x
    kept m x at ne = set_other marks n m mark.Open (other_than m x at ne) ∙ at

    fresh : (i : ℕ) → slice_get path i ≡ Some n → ⊥
    fresh i at = new_not_open (some_same (sym new ∙ s.opened i n at))

    -- the last net of the path depends on it
    pub opens : ((m : ℕ) (i : ℕ) → slice_get path i ≡ Some m → suc i ≡ length path → D m n) → IsSearch D (set marks n mark.Open) (path ++ n ∷ []) order
    opens depends = record {
      opened = λ i m at. elim (get_push path n i m at) [
        | inl old ↦ kept m mark.Open (s.opened i m old) new_not_open
        | inr end ↦ subst (λ k. slice_get (set marks n mark.Open) k ≡ Some mark.Open) end.1 now
      ];
      on_path = λ m at. elim (cases_eq m n) [
        | inl same ↦ (length path, subst (λ k. slice_get (path ++ n ∷ []) (length path) ≡ Some k) (sym same) (get_end path n))
        | inr ne ↦ (let (i, there) = s.on_path m (sym (set_other marks n m mark.Open ne) ∙ at) in (i, get_left path (n ∷ []) i m there))
      ];
      path_once = λ i j m one two. elim (get_push path n i m one) [
        | inl a ↦ elim (get_push path n j m two) [
          | inl b ↦ s.path_once i j m a b
          | inr b ↦ absurd (fresh i (a ∙ ap Some (sym b.1)))
        ]
        | inr a ↦ elim (get_push path n j m two) [
          | inl b ↦ absurd (fresh j (b ∙ ap Some (sym a.1)))
          | inr b ↦ a.0 ∙ sym b.0
        ]
      ];
      chain = λ i m k one two. elim (get_push path n (suc i) k two) [
        | inl b ↦ elim (get_push path n i m one) [
          | inl a ↦ s.chain i m k a b
          | inr a ↦ (let within = slice_get_within path (suc i) k b in let end = a.0 in absurd (omega arith))
        ]
        | inr b ↦ elim (get_push path n i m one) [
          | inl a ↦ subst (D m) b.1 (depends m i a b.0)
          | inr a ↦ (let end = a.0 in let past = b.0 in absurd (omega arith))
        ]
      ];
      done = λ i m at. kept m mark.Done (s.done i m at) new_not_done;
      in_order = λ m at. elim (cases_eq m n) [
        | inl same ↦ absurd (open_not_done (some_same (sym now ∙ ap (slice_get (set marks n mark.Open)) (sym same) ∙ at)))
        | inr ne ↦ s.in_order m (sym (set_other marks n m mark.Open ne) ∙ at)
      ];
      order_once = s.order_once;
      after = s.after;
    }

  -- the last net of the path is put in the order
  module _ (marks : List Mark) (path order : List ℕ) (n : ℕ) (s : IsSearch D marks (path ++ n ∷ []) order) where
    is_open : slice_get marks n ≡ Some mark.Open
    is_open = s.opened (length path) n (get_end path n)

    is_low : n < length marks
    is_low = slice_get_within marks n mark.Open is_open

    then_done : slice_get (set marks n mark.Done) n ≡ Some mark.Done
    then_done = set_same marks n mark.Done is_low

    apart : (i m : ℕ) → slice_get path i ≡ Some m → m ≡ n → ⊥
    apart i m at e =
        let same : i ≡ length path = s.path_once i (length path) m (get_left path (n ∷ []) i m at) (subst (λ k. slice_get (path ++ n ∷ []) (length path) ≡ Some k) (sym e) (get_end path n)) in
        let within = slice_get_within path i m at in
        absurd (omega arith)

    not_there : (i : ℕ) → slice_get order i ≡ Some n → ⊥
    not_there i at = open_not_done (some_same (sym is_open ∙ s.done i n at))

    -- all on which it depends is in the order
    pub closes : ((m : ℕ) → D n m → slice_get marks m ≡ Some mark.Done) → IsSearch D (set marks n mark.Done) path (order ++ n ∷ [])
    closes depends = record {
      opened = λ i m at. set_other marks n m mark.Done (apart i m at) ∙ s.opened i m (get_left path (n ∷ []) i m at);
      on_path = λ m at. elim (cases_eq m n) [
        | inl same ↦ absurd (open_not_done (some_same (sym at ∙ ap (slice_get (set marks n mark.Done)) same ∙ then_done)))
        | inr ne ↦ (let (i, there) = s.on_path m (sym (set_other marks n m mark.Done ne) ∙ at) in elim (get_push path n i m there) [ inl old ↦ (i, old) | inr end ↦ absurd (ne (sym end.1)) ])
      ];
      path_once = λ i j m one two. s.path_once i j m (get_left path (n ∷ []) i m one) (get_left path (n ∷ []) j m two);
      chain = λ i m k one two. s.chain i m k (get_left path (n ∷ []) i m one) (get_left path (n ∷ []) (suc i) k two);
      done = λ i m at. elim (get_push order n i m at) [
        | inl old ↦ elim (cases_eq m n) [
          | inl same ↦ subst (λ k. slice_get (set marks n mark.Done) k ≡ Some mark.Done) (sym same) then_done
          | inr ne ↦ set_other marks n m mark.Done ne ∙ s.done i m old
        ]
        | inr end ↦ subst (λ k. slice_get (set marks n mark.Done) k ≡ Some mark.Done) end.1 then_done
      ];
      in_order = λ m at. elim (cases_eq m n) [
        | inl same ↦ (length order, subst (λ k. slice_get (order ++ n ∷ []) (length order) ≡ Some k) (sym same) (get_end order n))
        | inr ne ↦ (let (i, there) = s.in_order m (sym (set_other marks n m mark.Done ne) ∙ at) in (i, get_left order (n ∷ []) i m there))
      ];
      order_once = λ i j m one two. elim (get_push order n i m one) [
        | inl a ↦ elim (get_push order n j m two) [
          | inl b ↦ s.order_once i j m a b
          | inr b ↦ absurd (not_there i (a ∙ ap Some (sym b.1)))
        ]
        | inr a ↦ elim (get_push order n j m two) [
          | inl b ↦ absurd (not_there j (b ∙ ap Some (sym a.1)))
          | inr b ↦ a.0 ∙ sym b.0
        ]
      ];
      after = λ i m k at d. elim (get_push order n i m at) [
        | inl old ↦ (let (j, lower, there) = s.after i m k old d in (j, lower, get_left order (n ∷ []) j k there))
        | inr end ↦ (
            let (j, there) = s.in_order k (depends k (subst (λ x. D x k) (sym end.1) d)) in
            let within = slice_get_within order j k there in
            let here = end.0 in
            (j, omega arith, get_left order (n ∷ []) j k there)
            )
      ];
    }

    pub closes_stay : StaysDone marks (set marks n mark.Done)
    closes_stay m at = set_other marks n m mark.Done (λ e. open_not_done (some_same (sym is_open ∙ ap (slice_get marks) (sym e) ∙ at))) ∙ at

  -- from a net of the path one comes to each later one
  comes_to : (path : List ℕ) → ((i n m : ℕ) → slice_get path i ≡ Some n → slice_get path (suc i) ≡ Some m → D n m) → (i k n m : ℕ) → slice_get path i ≡ Some n → slice_get path (suc (k + i)) ≡ Some m → Leads D n m
  comes_to path chain i zero n m one other = let first : suc (0 + i) ≡ suc i = omega arith in by_one (chain i n m one (ap (slice_get path) (sym first) ∙ other))
  comes_to path chain i (suc k) n m one other =
      let lt : suc i < length path = (let within = slice_get_within path (suc (suc k + i)) m other in omega arith) in
      let at : slice_get path (suc i) ≡ Some (get_or path (suc i) 0) = slice_get-get_or path (suc i) 0 lt in
      let up : suc (k + suc i) ≡ suc (suc k + i) = omega arith in
      by_more (chain i n (get_or path (suc i) 0) one at) (comes_to path chain (suc i) k (get_or path (suc i) 0) m at (ap (slice_get path) up ∙ other))

  one_later : {n m k : ℕ} → Leads D n m → D m k → Leads D n k
  one_later (by_one d) e = by_more d (by_one e)
  one_later (by_more d w) e = by_more d (one_later w e)

  -- the last net of the path depends on one of the path
  pub closes_loop : (marks : List Mark) (path order : List ℕ) (n m : ℕ) → IsSearch D marks (path ++ n ∷ []) order → D n m → slice_get marks m ≡ Some mark.Open → IsLooped D
  closes_loop marks path order n m s d seen =
      let (i, at) = s.on_path m seen in
      elim (get_push path n i m at) [
        | inl old ↦ (
            let within = slice_get_within path i m old in
            let end : suc ((length path - suc i) + i) ≡ length path = omega arith in
            (m, one_later (comes_to (path ++ n ∷ []) s.chain i (length path - suc i) m n at (ap (slice_get (path ++ n ∷ [])) end ∙ get_end path n)) d)
            )
        | inr last ↦ (n, by_one (subst (D n) (sym last.1) d))
      ]

  -- all nets are in the order
  pub all_done : (marks : List Mark) (order : List ℕ) (count : ℕ) → length marks ≡ count → IsSearch D marks [] order → ((n : ℕ) → n < count → slice_get marks n ≡ Some mark.Done) → IsOrder D count order
  all_done marks order count long s done = record {
    within = λ i n at. subst (λ k. n < k) long (slice_get_within marks n mark.Done (s.done i n at));
    all = λ n lt. s.in_order n (done n lt);
    once = s.order_once;
    after = s.after;
  }
