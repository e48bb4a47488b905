-- Lists beside each other: one pair more, and what stands beside an item.
use Rattle.std.proofs.Common.{◌≡◌, ℕ, zero, suc, ◌+◌, ◌<◌, List, [], ◌∷◌, ◌++◌, length, map, get_or, take, drop, drop-cons, Some, refl, sym, ap, subst, ◌∙◌, arith}
use Rattle.std.specs.Prelude.{slice_get}
use Rattle.std.proofs.Math.Seq.{take-suc}
use Rattle.std.proofs.lemmas.List.{map-append}
use Rattle.std.proofs.lemmas.Option.{same_Some}
use Rattle.ap_bits.specs.Beside.{EachBeside}

pub beside_push : {X Y : Type 0} (R : X → Y → Type 0) (xs : List X) (ys : List Y) (x : X) (y : Y) → EachBeside R xs ys → R x y → EachBeside R (xs ++ x ∷ []) (ys ++ y ∷ [])
beside_push R [] [] x y h r = (r, tt)
beside_push R [] (b ∷ bs) x y h r = absurd h
beside_push R (a ∷ xs) [] x y h r = absurd h
beside_push R (a ∷ xs) (b ∷ bs) x y h r = (h.0, beside_push R xs bs x y h.1 r)

pub beside_length : {X Y : Type 0} (R : X → Y → Type 0) (xs : List X) (ys : List Y) → EachBeside R xs ys → length ys ≡ length xs
beside_length R [] [] h = refl
beside_length R [] (b ∷ bs) h = absurd h
beside_length R (a ∷ xs) [] h = absurd h
beside_length R (a ∷ xs) (b ∷ bs) h = ap suc (beside_length R xs bs h.1)

-- a list from a place on, and up to one place more
pub drop_at : {X : Type 0} (xs : List X) (i : ℕ) (d : X) → i < length xs → drop i xs ≡ get_or xs i d ∷ drop (i + 1) xs
drop_at xs i d lt = drop-cons xs i d lt ∙ ap (λ n. get_or xs i d ∷ drop n xs) (let e : suc i ≡ i + 1 = omega arith in e)

pub take_at : {X : Type 0} (xs : List X) (i : ℕ) (d : X) → i < length xs → take (i + 1) xs ≡ take i xs ++ get_or xs i d ∷ []
take_at xs i d lt = ap (λ n. take n xs) (let e : i + 1 ≡ suc i = omega arith in e) ∙ take-suc xs i d lt

-- there is an item at a place within a list
pub item_there : {X : Type 0} (xs : List X) (i : ℕ) → i < length xs → (x : X) × (slice_get xs i ≡ Some x)
item_there [] i lt = absurd (omega arith)
item_there (x ∷ xs) zero lt = (x, refl)
item_there (x ∷ xs) (suc i) lt = item_there xs i (omega arith)

-- beside this item stands another, of which the relation holds
pub record IsBeside {Y : Type 0} (P : Y → Type 0) (ys : List Y) (k : ℕ) : Type 0 where
  pub other : Y
  pub is_there : slice_get ys k ≡ Some other
  pub holds : P other

pub beside_left : {X Y : Type 0} (R : X → Y → Type 0) (xs : List X) (ys : List Y) → EachBeside R xs ys → (k : ℕ) (x : X) → slice_get xs k ≡ Some x → IsBeside (λ y. R x y) ys k
beside_left R [] ys h k x at = absurd cc
beside_left R (a ∷ xs) [] h k x at = absurd h
beside_left R (a ∷ xs) (b ∷ bs) h zero x at = record { other = b; is_there = refl; holds = subst (λ z. R z b) (same_Some a x at) h.0 }
beside_left R (a ∷ xs) (b ∷ bs) h (suc k) x at = (let r = beside_left R xs bs h.1 k x at in record { other = r.other; is_there = r.is_there; holds = r.holds })

pub beside_right : {X Y : Type 0} (R : X → Y → Type 0) (xs : List X) (ys : List Y) → EachBeside R xs ys → (k : ℕ) (y : Y) → slice_get ys k ≡ Some y → IsBeside (λ x. R x y) xs k
beside_right R xs [] h k y at = absurd cc
beside_right R [] (b ∷ bs) h k y at = absurd h
beside_right R (a ∷ xs) (b ∷ bs) h zero y at = record { other = a; is_there = refl; holds = subst (λ z. R a z) (same_Some b y at) h.0 }
beside_right R (a ∷ xs) (b ∷ bs) h (suc k) y at = (let r = beside_right R xs bs h.1 k y at in record { other = r.other; is_there = r.is_there; holds = r.holds })

-- the lists so far, one pair more
pub beside_more : {X Y : Type 0} (R : X → Y → Type 0) (xs : List X) (ys new : List Y) (i : ℕ) (x : X) (y : Y) → i < length xs → x ≡ get_or xs i x → EachBeside R (take i xs) ys → R x y → new ≡ ys ++ y ∷ [] → EachBeside R (take (i + 1) xs) new
beside_more R xs ys new i x y lt at so_far r e =
    subst (EachBeside R (take (i + 1) xs)) (sym e)
    (subst (λ zs. EachBeside R zs (ys ++ y ∷ [])) (sym (take_at xs i x lt ∙ ap (λ z. take i xs ++ z ∷ []) (sym at))) (beside_push R (take i xs) ys x y so_far r))

-- the same behind a first item
pub beside_next : {X Y : Type 0} (R : X → Y → Type 0) (first : X) (xs : List X) (ys new : List Y) (i : ℕ) (x : X) (y : Y) → i < length xs → x ≡ get_or xs i x → EachBeside R (first ∷ take i xs) ys → R x y → new ≡ ys ++ y ∷ []
    → EachBeside R (first ∷ take (i + 1) xs) new
beside_next R first xs ys new i x y lt at so_far r e =
    subst (EachBeside R (first ∷ take (i + 1) xs)) (sym e)
    (subst (λ zs. EachBeside R (first ∷ zs) (ys ++ y ∷ [])) (sym (take_at xs i x lt ∙ ap (λ z. take i xs ++ z ∷ []) (sym at))) (beside_push R (first ∷ take i xs) ys x y so_far r))

-- the values of one item more
pub values_more : {X : Type 0} (f : X → ℕ) (xs : List X) (i v : ℕ) (d : X) (old new : List ℕ) → i < length xs → v ≡ f (get_or xs i d) → old ≡ map f (take i xs) → new ≡ old ++ v ∷ [] → new ≡ map f (take (i + 1) xs)
values_more f xs i v d old new lt is before e =
    e ∙ ap (λ ns. ns ++ v ∷ []) before ∙ ap (λ n. map f (take i xs) ++ n ∷ []) is ∙ sym (ap (map f) (take_at xs i d lt) ∙ map-append f (take i xs) (get_or xs i d ∷ []))
