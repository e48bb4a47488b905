-- A bench's order: the nets of a netlist's order that are kept, in the same order.
use Rattle.std.proofs.Common.{◌≡◌, ℕ, zero, suc, ◌+◌, ◌<◌, ◌≤◌, ◌⊎◌, inl, inr, List, [], ◌∷◌, ◌++◌, length, Some, refl, sym, ap, subst, ◌∙◌, arith, ⊎_elim}
use Rattle.std.specs.Prelude.{slice_get}
use Rattle.std.proofs.lemmas.Bool.{cases_lt, cases_order}
use Rattle.std.proofs.lemmas.Option.{slice_get_within}
use Rattle.ap_net.specs.declared.net.FlatNet.{FlatNet}
use Rattle.ap_net.proofs.Lists.{get_either, get_end, get_left, some_same}
use Rattle.ap_flat.specs.Flats.{FlatParts, IsFlattened}
use Rattle.ap_eval.specs.Benches.{IsBenchOrder, IsGiven, IsGivenBy}
use Rattle.ap_eval.proofs.Ordering.{net_at_rank, rank, rank_below}

-- the outside or a clock edge gives the net
abbrev pub IsGivenIn : FlatParts → ℕ → Type 0
IsGivenIn f n = IsGiven f.outside n (slice_get f.net.nets n)

-- the number stands in a list before this place
pub record StandsBelow (order : List ℕ) (i n : ℕ) : Type 0 where
  pub place : ℕ
  pub at : slice_get order place ≡ Some n
  pub below : place < i

-- the one stands before the other
pub record IsBefore (order : List ℕ) (n m : ℕ) : Type 0 where
  pub first : ℕ
  pub second : ℕ
  pub at_first : slice_get order first ≡ Some n
  pub at_second : slice_get order second ≡ Some m
  pub less : first < second

-- what is kept of the first nets of the order
pub record IsKeptTo (f : FlatParts) (i : ℕ) (kept : List ℕ) : Type 0 where
  pub from : (a n : ℕ) → slice_get kept a ≡ Some n → StandsBelow f.order i n
  pub free : (a n : ℕ) → slice_get kept a ≡ Some n → IsGivenIn f n → ⊥
  pub all : (j n : ℕ) → j < i → slice_get f.order j ≡ Some n → (IsGivenIn f n → ⊥) → (a : ℕ) × (slice_get kept a ≡ Some n)
  pub rising : (a b n m : ℕ) → a < b → slice_get kept a ≡ Some n → slice_get kept b ≡ Some m → IsBefore f.order n m

pub given_in : (f : FlatParts) (n : ℕ) (net : FlatNet) → slice_get f.net.nets n ≡ Some net → IsGivenBy (length f.outside.inputs) n net.role → IsGivenIn f n
given_in f n net at h = subst (IsGiven f.outside n) (sym at) h

pub given_out : (f : FlatParts) (n : ℕ) (net : FlatNet) → slice_get f.net.nets n ≡ Some net → IsGivenIn f n → IsGivenBy (length f.outside.inputs) n net.role
given_out f n net at h = subst (IsGiven f.outside n) at h

pub kept_none : (f : FlatParts) → IsKeptTo f 0 []
kept_none f = record {
  from = λ a n at. cc;
  free = λ a n at. cc;
  all = λ j n lt. absurd (omega arith);
  rising = λ a b n m lt at. cc;
}

below_more : (order : List ℕ) (i n : ℕ) → StandsBelow order i n → StandsBelow order (i + 1) n
below_more order i n s = record { place = s.place; at = s.at; below = let lt : s.place < i = s.below in omega arith }

-- a place below the next one is below this one, or is it
last_or : (i j : ℕ) → j < i + 1 → (j < i) ⊎ (j ≡ i)
last_or i j lt = ⊎_elim (λ less. inl less) (λ le. inr (omega arith)) (cases_lt j i)

module _ (f : FlatParts) (i : ℕ) (kept : List ℕ) (x : ℕ) (at : slice_get f.order i ≡ Some x) (so : IsKeptTo f i kept) where
  -- a net that is given isn't kept
  pub kept_skip : IsGivenIn f x → IsKeptTo f (i + 1) kept
  kept_skip given = record {
    from = λ a n there. below_more f.order i n (so.from a n there);
    free = so.free;
    all = λ j n lt there not. ⊎_elim (λ less. so.all j n less there not) (λ e. absurd (not (subst (IsGivenIn f) (some_same (sym at ∙ ap (slice_get f.order) (sym e) ∙ there)) given))) (last_or i j lt);
    rising = so.rising;
  }

  -- each other one is kept, behind those before it
  abbrev more : List ℕ
  more = kept ++ x ∷ []

  abbrev IsLast : ℕ → ℕ → Type 0
  IsLast a n = (a ≡ length kept) × (n ≡ x)

  one_of : (n k : ℕ) → slice_get (x ∷ []) k ≡ Some n → (k ≡ 0) × (n ≡ x)
  one_of n zero there = (refl, sym (some_same there))
  one_of n (suc k) there = cc

  either : (a n : ℕ) → slice_get more a ≡ Some n → (slice_get kept a ≡ Some n) ⊎ IsLast a n
  either a n there = ⊎_elim (λ old. inl old) (λ new. let o = one_of n new.0 new.2 in let e : a ≡ length kept + new.0 = new.1 in let z : new.0 ≡ 0 = o.0 in inr (omega arith, o.1)) (get_either kept (x ∷ []) a n there)

  here : (n : ℕ) → n ≡ x → StandsBelow f.order (i + 1) n
  here n e = record { place = i; at = at ∙ ap Some (sym e); below = omega arith }

  found : (j n : ℕ) → slice_get f.order j ≡ Some n → (IsGivenIn f n → ⊥) → (j < i) ⊎ (j ≡ i) → (a : ℕ) × (slice_get more a ≡ Some n)
  found j n there not (inl less) = let old = so.all j n less there not in (old.0, get_left kept (x ∷ []) old.0 n old.1)
  found j n there not (inr e) =
      let same : x ≡ n = some_same (sym at ∙ ap (slice_get f.order) (sym e) ∙ there) in
      (length kept, get_end kept x ∙ ap Some same)

  before : (a b n m : ℕ) → a < b → (slice_get kept a ≡ Some n) ⊎ IsLast a n → (slice_get kept b ≡ Some m) ⊎ IsLast b m → IsBefore f.order n m
  before a b n m lt (inl p) (inl q) = so.rising a b n m lt p q
  before a b n m lt (inl p) (inr q) = let s = so.from a n p in record { first = s.place; second = i; at_first = s.at; at_second = at ∙ ap Some (sym q.1); less = s.below }
  before a b n m lt (inr p) (inl q) = let w : b < length kept = slice_get_within kept b m q in let e : a ≡ length kept = p.0 in absurd (omega arith)
  before a b n m lt (inr p) (inr q) = let e : a ≡ length kept = p.0 in let g : b ≡ length kept = q.0 in absurd (omega arith)

  pub kept_push : (IsGivenIn f x → ⊥) → IsKeptTo f (i + 1) more
  kept_push free = record {
    from = λ a n there. ⊎_elim (λ old. below_more f.order i n (so.from a n old)) (λ new. here n new.1) (either a n there);
    free = λ a n there. ⊎_elim (λ old. so.free a n old) (λ new given. free (subst (IsGivenIn f) new.1 given)) (either a n there);
    all = λ j n lt there not. found j n there not (last_or i j lt);
    rising = λ a b n m lt p q. before a b n m lt (either a n p) (either b m q);
  }

-- what is kept of the whole order is a bench's order
module _ (f : FlatParts) (is : IsFlattened f) (i : ℕ) (past : length f.order ≤ i) (kept : List ℕ) (so : IsKeptTo f i kept) where
  risen : (a b n m : ℕ) → a < b → slice_get kept a ≡ Some n → slice_get kept b ≡ Some m → rank f is n < rank f is m
  risen a b n m lt p q =
      let w = so.rising a b n m lt p q in
      let x : rank f is n ≡ w.first = net_at_rank f is n w.first w.at_first in
      let y : rank f is m ≡ w.second = net_at_rank f is m w.second w.at_second in
      let less : w.first < w.second = w.less in
      omega arith

  low : (a n : ℕ) → slice_get kept a ≡ Some n → n < length f.net.nets
  low a n at = let s = so.from a n at in is.order.within s.place n s.at

  one_place : (a b n : ℕ) → slice_get kept a ≡ Some n → slice_get kept b ≡ Some n → (a ≡ b) ⊎ ((a < b) ⊎ (b < a)) → a ≡ b
  one_place a b n p q (inl e) = e
  one_place a b n p q (inr (inl lt)) = let h : rank f is n < rank f is n = risen a b n n lt p q in absurd (omega arith)
  one_place a b n p q (inr (inr lt)) = let h : rank f is n < rank f is n = risen b a n n lt q p in absurd (omega arith)

  lower : (a b n m : ℕ) → slice_get kept a ≡ Some n → slice_get kept b ≡ Some m → rank f is m < rank f is n → (a ≡ b) ⊎ ((a < b) ⊎ (b < a)) → b < a
  lower a b n m p q less (inl e) = let same : n ≡ m = some_same (sym p ∙ ap (slice_get kept) e ∙ q) in let r : rank f is n ≡ rank f is m = ap (rank f is) same in absurd (omega arith)
  lower a b n m p q less (inr (inl lt)) = let h : rank f is n < rank f is m = risen a b n m lt p q in absurd (omega arith)
  lower a b n m p q less (inr (inr lt)) = lt

  pub kept_all : IsBenchOrder f kept
  kept_all = record {
    within = λ a n at. (low a n at, so.free a n at);
    all = λ n lt not. let s = is.order.all n lt in so.all s.0 n (let w : s.0 < length f.order = slice_get_within f.order s.0 n s.1 in omega arith) s.1 not;
    once = λ a b n p q. one_place a b n p q (cases_order a b);
    after = λ a b n m p q d. lower a b n m p q (rank_below f is n m (low a n p) d) (cases_order a b);
  }
