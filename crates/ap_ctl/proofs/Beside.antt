-- Lists beside each other, and by number.
use Rattle.std.proofs.Common.{◌≡◌, ℕ, zero, suc, ◌+◌, ◌<◌, ◌≤◌, List, [], ◌∷◌, ◌++◌, length, get_or, take, replicate, Some, refl, sym, ap, subst, ◌∙◌, arith}
use Rattle.std.specs.Prelude.{slice_get}
use Rattle.std.proofs.lemmas.Option.{slice_get-get_or}
use Rattle.std.specs.List.{AllByRecursion as Each, range_with_len}
use Rattle.ap_net.specs.declared.cell.Wire.{Wire}
use Rattle.ap_ctl.specs.declared.field.FieldTest.{FieldTest}
use Rattle.ap_ctl.specs.Lists.{EachFrom, EachPair}

pub EachPair-weaker : {X Y : Type 0} (P Q : X → Y → Type 0) → ((x : X) (y : Y) → P x y → Q x y) → (xs : List X) (ys : List Y) → EachPair P xs ys → EachPair Q xs ys
EachPair-weaker P Q f [] [] h = tt
EachPair-weaker P Q f [] (y ∷ ys) h = absurd h
EachPair-weaker P Q f (x ∷ xs) [] h = absurd h
EachPair-weaker P Q f (x ∷ xs) (y ∷ ys) h = (f x y h.0, EachPair-weaker P Q f xs ys h.1)

pub EachPair-push : {X Y : Type 0} (P : X → Y → Type 0) (xs : List X) (ys : List Y) (x : X) (y : Y) → EachPair P xs ys → P x y → EachPair P (xs ++ x ∷ []) (ys ++ y ∷ [])
EachPair-push P [] [] x y h p = (p, tt)
EachPair-push P [] (z ∷ ys) x y h p = absurd h
EachPair-push P (z ∷ xs) [] x y h p = absurd h
EachPair-push P (w ∷ xs) (z ∷ ys) x y h p = (h.0, EachPair-push P xs ys x y h.1 p)

pub EachPair-at : {X Y : Type 0} (P : X → Y → Type 0) (xs : List X) (ys : List Y) → EachPair P xs ys → (i : ℕ) (x : X) (y : Y) → slice_get xs i ≡ Some x → slice_get ys i ≡ Some y → P x y
EachPair-at P [] ys h i x y at there = cc
EachPair-at P (w ∷ xs) [] h i x y at there = absurd h
EachPair-at P (w ∷ xs) (z ∷ ys) h zero x y at there =
    let one : w ≡ x = cc in
    let other : z ≡ y = cc in
    subst (P x) other (subst (λ v. P v z) one h.0)
EachPair-at P (w ∷ xs) (z ∷ ys) h (suc i) x y at there = EachPair-at P xs ys h.1 i x y at there

pub EachPair-length : {X Y : Type 0} (P : X → Y → Type 0) (xs : List X) (ys : List Y) → EachPair P xs ys → length ys ≡ length xs
EachPair-length P [] [] h = refl
EachPair-length P [] (y ∷ ys) h = absurd h
EachPair-length P (x ∷ xs) [] h = absurd h
EachPair-length P (x ∷ xs) (y ∷ ys) h = ap suc (EachPair-length P xs ys h.1)

-- what holds of each pair gives what holds of each second
pub EachPair-second : {X Y : Type 0} (P : X → Y → Type 0) (Q : Y → Type 0) → ((x : X) (y : Y) → P x y → Q y) → (xs : List X) (ys : List Y) → EachPair P xs ys → Each Q ys
EachPair-second P Q f [] [] h = tt
EachPair-second P Q f [] (y ∷ ys) h = absurd h
EachPair-second P Q f (x ∷ xs) [] h = absurd h
EachPair-second P Q f (x ∷ xs) (y ∷ ys) h = (f x y h.0, EachPair-second P Q f xs ys h.1)

pub EachFrom-weaker : {X : Type 0} (P Q : ℕ → X → Type 0) → ((n : ℕ) (x : X) → P n x → Q n x) → (n : ℕ) (xs : List X) → EachFrom P n xs → EachFrom Q n xs
EachFrom-weaker P Q f n [] h = tt
EachFrom-weaker P Q f n (x ∷ xs) h = (f n x h.0, EachFrom-weaker P Q f (n + 1) xs h.1)

pub EachFrom-push : {X : Type 0} (P : ℕ → X → Type 0) (n : ℕ) (xs : List X) (x : X) → EachFrom P n xs → P (n + length xs) x → EachFrom P n (xs ++ x ∷ [])
EachFrom-push P n [] x h p = let here : n + 0 ≡ n = omega arith in (subst (λ m. P m x) here p, tt)
EachFrom-push P n (y ∷ xs) x h p = let next : n + suc (length xs) ≡ n + 1 + length xs = omega arith in (h.0, EachFrom-push P (n + 1) xs x h.1 (subst (λ m. P m x) next p))

pub EachFrom-at : {X : Type 0} (P : ℕ → X → Type 0) (n : ℕ) (xs : List X) → EachFrom P n xs → (i : ℕ) (x : X) → slice_get xs i ≡ Some x → P (n + i) x
EachFrom-at P n [] h i x at = cc
EachFrom-at P n (y ∷ xs) h zero x at = let here : y ≡ x = cc in let same : n ≡ n + 0 = omega arith in subst (λ m. P m x) same (subst (P n) here h.0)
EachFrom-at P n (y ∷ xs) h (suc i) x at = let next : n + 1 + i ≡ n + suc i = omega arith in subst (λ m. P m x) next (EachFrom-at P (n + 1) xs h.1 i x at)

pub EachFrom-second : {X : Type 0} (P : ℕ → X → Type 0) (Q : X → Type 0) → ((n : ℕ) (x : X) → P n x → Q x) → (n : ℕ) (xs : List X) → EachFrom P n xs → Each Q xs
EachFrom-second P Q f n [] h = tt
EachFrom-second P Q f n (x ∷ xs) h = (f n x h.0, EachFrom-second P Q f (n + 1) xs h.1)

-- one more number at the end
range-suc : (a n : ℕ) → range_with_len a (suc n) ≡ range_with_len a n ++ (a + n) ∷ []
range-suc a zero = let same : a + 0 ≡ a = omega arith in ap (λ m. m ∷ []) (sym same)
range-suc a (suc n) =
    let next : a + 1 + n ≡ a + suc n = omega arith in
    ap (λ l. a ∷ l) (range-suc (a + 1) n ∙ ap (λ m. range_with_len (a + 1) n ++ m ∷ []) next)

pub range-push : (a n : ℕ) → range_with_len a (n + 1) ≡ range_with_len a n ++ (a + n) ∷ []
range-push a n = let e : n + 1 ≡ suc n = omega arith in ap (range_with_len a) e ∙ range-suc a n

pub each_index : {X : Type 0} (P : X → Type 0) (xs : List X) (i : ℕ) (d : X) → Each P xs → i < length xs → P (get_or xs i d)
each_index P [] i d h lt = absurd (omega arith)
each_index P (x ∷ xs) zero d h lt = h.0
each_index P (x ∷ xs) (suc i) d h lt = each_index P xs i d h.1 (omega arith)

pub each_get : {X : Type 0} (P : X → Type 0) (xs : List X) (i : ℕ) (x : X) → Each P xs → slice_get xs i ≡ Some x → P x
each_get P [] i x h at = absurd cc
each_get P (y ∷ xs) zero x h at = let same : y ≡ x = cc in subst P same h.0
each_get P (y ∷ xs) (suc i) x h at = each_get P xs i x h.1 at

-- the element that a loop is at
pub item_at : {X : Type 0} (ys xs : List X) (i : ℕ) (x : X) → ys ≡ xs → i < length ys → x ≡ get_or ys i x → slice_get xs i ≡ Some x
item_at ys xs i x same low is = ap (λ zs. slice_get zs i) (sym same) ∙ slice_get-get_or ys i x low ∙ ap Some (sym is)

take_suc : {X : Type 0} (xs : List X) (i : ℕ) (x : X) → slice_get xs i ≡ Some x → take (suc i) xs ≡ take i xs ++ x ∷ []
take_suc [] i x at = absurd cc
take_suc (y ∷ xs) zero x at = let same : y ≡ x = cc in ap (λ z. z ∷ []) same
take_suc (y ∷ xs) (suc i) x at = ap (λ l. y ∷ l) (take_suc xs i x at)

pub take_item : {X : Type 0} (xs : List X) (i : ℕ) (x : X) → slice_get xs i ≡ Some x → take (i + 1) xs ≡ take i xs ++ x ∷ []
take_item xs i x at = let e : i + 1 ≡ suc i = omega arith in ap (λ n. take n xs) e ∙ take_suc xs i x at

-- with the numbers that occur
pub EachFrom-within : {X : Type 0} (P Q : ℕ → X → Type 0) (n : ℕ) (xs : List X) → ((m : ℕ) (x : X) → n ≤ m → m < n + length xs → P m x → Q m x) → EachFrom P n xs → EachFrom Q n xs
EachFrom-within P Q n [] f h = tt
EachFrom-within P Q n (x ∷ xs) f h = (f n x (omega arith) (omega arith) h.0, EachFrom-within P Q (n + 1) xs (λ m y a b. f m y (omega arith) (omega arith)) h.1)

replicate-suc : {X : Type 0} (n : ℕ) (x : X) → replicate n x ++ x ∷ [] ≡ replicate (suc n) x
replicate-suc zero x = refl
replicate-suc (suc n) x = ap (λ l. x ∷ l) (replicate-suc n x)

pub replicate-push : {X : Type 0} (n : ℕ) (x : X) → replicate n x ++ x ∷ [] ≡ replicate (n + 1) x
replicate-push n x = let e : suc n ≡ n + 1 = omega arith in replicate-suc n x ∙ ap (λ m. replicate m x) e

-- what holds at each number holds of a repeated element
pub EachFrom-replicate : {X : Type 0} (P : ℕ → X → Type 0) (n count : ℕ) (x : X) → ((m : ℕ) → P m x) → EachFrom P n (replicate count x)
EachFrom-replicate P n zero x h = tt
EachFrom-replicate P n (suc count) x h = (h n, EachFrom-replicate P (n + 1) count x h)

pub Each-replicate : {X : Type 0} (P : X → Type 0) (count : ℕ) (x : X) → P x → Each P (replicate count x)
Each-replicate P zero x h = tt
Each-replicate P (suc count) x h = (h, Each-replicate P count x h)

-- two lists by number
pub EachFrom-both : {X Y : Type 0} (P : ℕ → Y → Type 0) (Q : ℕ → X → Type 0) (n : ℕ) (xs : List X) (ys : List Y) → length xs ≡ length ys → ((m : ℕ) (i : ℕ) (x : X) (y : Y) → slice_get xs i ≡ Some x → slice_get ys i ≡ Some y → P m y → Q m x) → EachFrom P n ys → EachFrom Q n xs
EachFrom-both P Q n [] ys e f h = tt
EachFrom-both P Q n (x ∷ xs) [] e f h = absurd (omega arith)
EachFrom-both P Q n (x ∷ xs) (y ∷ ys) e f h = (f n 0 x y refl refl h.0, EachFrom-both P Q (n + 1) xs ys (omega arith) (λ m i v w at there. f m (suc i) v w at there) h.1)

-- what stands beyond the end of a list of nets, or of tests
abbrev pub no_wire : Wire
no_wire = record { number = 0; width = 0 }

abbrev pub no_test : FieldTest
no_test = record { low = 0; width = 0; value = 0 }
