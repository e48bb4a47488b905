-- Lists: filters, and lists made of lists.
use Rattle.std.proofs.Common.{◌≡◌, ◌≢◌, ℕ, zero, suc, ◌+◌, ◌≤◌, ◌<◌, ◌==◌, ◌&&◌, ◌||◌, Bool, true, false, if◌then◌else◌, List, [], ◌∷◌, ◌++◌, length, map, reverse, fold, filter, filter_map, cond, flat_map, find, slice_index_or, Option, Some, refl, ap, sym, subst, ◌∙◌, arith, append_assoc, append-nil, eqb-true}
use Rattle.std.proofs.lemmas.List.Elements.{filter-append}
use Rattle.std.proofs.lemmas.Bool.{eqb-false}
use Rattle.std.proofs.lemmas.List.{reverse-append}
use Rattle.std.specs.Prelude.{Contains}
use Rattle.std.specs.List.{AllByRecursion as Each, cons_option, range_with_len, list_any}
use Rattle.ap_desc.specs.declared.design.Micro.{Micro}
use Rattle.ap_desc.proofs.OnePort.{each_as}

pub flat_map_same : {X Y : Type 0} (f g : X → List Y) → ((x : X) → f x ≡ g x) → (xs : List X) → flat_map f xs ≡ flat_map g xs
flat_map_same f g same xs = λ i. flat_map (λ x. same x i) xs

pub flat_map_none : {X Y : Type 0} (f : X → List Y) → ((x : X) → f x ≡ []) → (xs : List X) → flat_map f xs ≡ []
flat_map_none f none [] = refl
flat_map_none f none (x ∷ xs) = (λ i. none x i ++ flat_map f xs) ∙ flat_map_none f none xs

pub flat_map_of_map : {X Y Z : Type 0} (g : Y → List Z) (f : X → Y) (xs : List X) → flat_map g (map f xs) ≡ flat_map (λ x. g (f x)) xs
flat_map_of_map g f [] = refl
flat_map_of_map g f (x ∷ xs) = ap (λ rest. g (f x) ++ rest) (flat_map_of_map g f xs)

pub flat_map_both : {X Y : Type 0} (f : X → List Y) (xs ys : List X) → flat_map f (xs ++ ys) ≡ flat_map f xs ++ flat_map f ys
flat_map_both f [] ys = refl
flat_map_both f (x ∷ xs) ys = ap (λ rest. f x ++ rest) (flat_map_both f xs ys) ∙ sym (append_assoc (f x) (flat_map f xs) (flat_map f ys))

pub flat_map_twice : {X Y Z : Type 0} (g : Y → List Z) (f : X → List Y) (xs : List X) → flat_map g (flat_map f xs) ≡ flat_map (λ x. flat_map g (f x)) xs
flat_map_twice g f [] = refl
flat_map_twice g f (x ∷ xs) = flat_map_both g (f x) (flat_map f xs) ∙ ap (λ rest. flat_map g (f x) ++ rest) (flat_map_twice g f xs)

pub filter_flat_map : {X Y : Type 0} (t : Y → Bool) (f : X → List Y) (xs : List X) → filter t (flat_map f xs) ≡ flat_map (λ x. filter t (f x)) xs
filter_flat_map t f [] = refl
filter_flat_map t f (x ∷ xs) = filter-append t (f x) (flat_map f xs) ∙ ap (λ rest. filter t (f x) ++ rest) (filter_flat_map t f xs)

pub filter_map_is : {X Y : Type 0} (t : Y → Bool) (f : X → Y) (xs : List X) → filter t (map f xs) ≡ flat_map (λ x. if t (f x) then f x ∷ [] else []) xs
filter_map_is t f [] = refl
filter_map_is t f (x ∷ xs) = go (t (f x)) (filter_map_is t f xs)
  where
    go : (b : Bool) → filter t (map f xs) ≡ flat_map (λ y. if t (f y) then f y ∷ [] else []) xs → (if b then f x ∷ filter t (map f xs) else filter t (map f xs)) ≡ (if b then f x ∷ [] else []) ++ flat_map (λ y. if t (f y) then f y ∷ [] else []) xs
    go true e = ap (λ rest. f x ∷ rest) e
    go false e = e

pub flat_map_filter : {X Y : Type 0} (f : X → List Y) (t : X → Bool) (xs : List X) → flat_map f (filter t xs) ≡ flat_map (λ x. if t x then f x else []) xs
flat_map_filter f t [] = refl
flat_map_filter f t (x ∷ xs) = go (t x) (flat_map_filter f t xs)
  where
    go : (b : Bool) → flat_map f (filter t xs) ≡ flat_map (λ y. if t y then f y else []) xs → flat_map f (if b then x ∷ filter t xs else filter t xs) ≡ (if b then f x else []) ++ flat_map (λ y. if t y then f y else []) xs
    go true e = ap (λ rest. f x ++ rest) e
    go false e = e

-- two tests in either order
pub filter_swap : {X : Type 0} (s t : X → Bool) (xs : List X) → filter s (filter t xs) ≡ filter t (filter s xs)
filter_swap s t [] = refl
filter_swap s t (x ∷ xs) = go (s x) refl (t x) refl (filter_swap s t xs)
  where
    go : (a : Bool) → s x ≡ a → (b : Bool) → t x ≡ b → filter s (filter t xs) ≡ filter t (filter s xs) → filter s (if b then x ∷ filter t xs else filter t xs) ≡ filter t (if a then x ∷ filter s xs else filter s xs)
    go true p true q e = ap (λ c. if c then x ∷ filter s (filter t xs) else filter s (filter t xs)) p ∙ ap (λ rest. x ∷ rest) e ∙ sym (ap (λ c. if c then x ∷ filter t (filter s xs) else filter t (filter s xs)) q)
    go true p false q e = e ∙ sym (ap (λ c. if c then x ∷ filter t (filter s xs) else filter t (filter s xs)) q)
    go false p true q e = ap (λ c. if c then x ∷ filter s (filter t xs) else filter s (filter t xs)) p ∙ e
    go false p false q e = e

-- what a fold takes is what passes a test
pub fold_filter : {X Y : Type 0} (g : Y → X → Y) (t : X → Bool) (y : Y) (xs : List X) → fold (λ y x. if t x then g y x else y) y xs ≡ fold g y (filter t xs)
fold_filter g t y [] = refl
fold_filter {Y = Y} g t y (x ∷ xs) = go (t x) (λ z. fold_filter g t z xs)
  where
    go : (b : Bool) → ((z : Y) → fold (λ y x. if t x then g y x else y) z xs ≡ fold g z (filter t xs)) → fold (λ y x. if t x then g y x else y) (if b then g y x else y) xs ≡ fold g y (if b then x ∷ filter t xs else filter t xs)
    go true rest = rest (g y x)
    go false rest = rest y

-- One number of a range.

pub range_none : {Y : Type 0} (f : ℕ → List Y) (k a n : ℕ) → k < a → flat_map (λ j. if k == j then f j else []) (range_with_len a n) ≡ []
range_none f k a zero h = refl
range_none f k a (suc n) h = go (k == a) refl (range_none f k (a + 1) n (omega (arith, h)))
  where
    go : (b : Bool) → (k == a) ≡ b → flat_map (λ j. if k == j then f j else []) (range_with_len (a + 1) n) ≡ [] → (if b then f a else []) ++ flat_map (λ j. if k == j then f j else []) (range_with_len (a + 1) n) ≡ []
    go true e rest = let same : k ≡ a = eqb-true k a e in let none : ⊥ = omega (arith, h, same) in absurd none
    go false e rest = rest

pub range_one : {Y : Type 0} (f : ℕ → List Y) (k a n : ℕ) → a ≤ k → k < a + n → flat_map (λ j. if k == j then f j else []) (range_with_len a n) ≡ f k
range_one f k a zero low high = let none : ⊥ = omega (arith, low, high) in absurd none
range_one f k a (suc n) low high = go (k == a) refl (λ lower. range_one f k (a + 1) n lower (omega (arith, high)))
  where
    go : (b : Bool) → (k == a) ≡ b → (a + 1 ≤ k → flat_map (λ j. if k == j then f j else []) (range_with_len (a + 1) n) ≡ f k) → (if b then f a else []) ++ flat_map (λ j. if k == j then f j else []) (range_with_len (a + 1) n) ≡ f k
    go true e rest =
        let same : k ≡ a = eqb-true k a e in
        ap (λ tail. f a ++ tail) (range_none f k (a + 1) n (omega (arith, same))) ∙ append-nil (f a) ∙ ap f (sym same)
    go false e rest =
        let apart : k ≢ a = eqb-false k a e in
        rest (grind (arith, apart, low))

-- A number of a range that alone passes a test, the last first.

back_step : {Y : Type 0} (g : ℕ → List Y) (a : ℕ) (r : List ℕ) → flat_map g (reverse (a ∷ r)) ≡ flat_map g (reverse r) ++ g a
back_step g a r = ap (flat_map g) (reverse-append (a ∷ []) r) ∙ flat_map_both g (reverse r) (a ∷ []) ∙ ap (λ l. flat_map g (reverse r) ++ l) (append-nil (g a))

falls : {Y : Type 0} (t : ℕ → Bool) (xs : List Y) (k a : ℕ) → ((j : ℕ) → t j ≡ true → k ≡ j) → k ≢ a → (if t a then xs else []) ≡ []
falls t xs k a only h = go (t a) refl
  where
    go : (b : Bool) → t a ≡ b → (if b then xs else []) ≡ []
    go true e = absurd (h (only a e))
    go false e = refl

back_none : {Y : Type 0} (t : ℕ → Bool) (xs : List Y) (k a n : ℕ) → ((j : ℕ) → t j ≡ true → k ≡ j) → k < a → flat_map (λ j. if t j then xs else []) (reverse (range_with_len a n)) ≡ []
back_none t xs k a zero only h = refl
back_none t xs k a (suc n) only h =
    let rest = back_none t xs k (a + 1) n only (omega (arith, h)) in
    let apart : k ≢ a = λ e. omega (arith, h, e) in
    let here = falls t xs k a only apart in
    back_step (λ j. if t j then xs else []) a (range_with_len (a + 1) n) ∙ (λ i. rest i ++ here i)

pub back_only : {Y : Type 0} (t : ℕ → Bool) (xs : List Y) (k a n : ℕ) → ((j : ℕ) → t j ≡ true → k ≡ j) → t k ≡ true → a ≤ k → k < a + n → flat_map (λ j. if t j then xs else []) (reverse (range_with_len a n)) ≡ xs
back_only t xs k a zero only at low high = let none : ⊥ = omega (arith, low, high) in absurd none
back_only {Y = Y} t xs k a (suc n) only at low high = back_step (λ j. if t j then xs else []) a (range_with_len (a + 1) n) ∙ go (k == a) refl (λ lower. back_only t xs k (a + 1) n only at lower (omega (arith, high)))
  where
    go : (b : Bool) → (k == a) ≡ b → (a + 1 ≤ k → flat_map (λ j. if t j then xs else []) (reverse (range_with_len (a + 1) n)) ≡ xs) → flat_map (λ j. if t j then xs else []) (reverse (range_with_len (a + 1) n)) ++ (if t a then xs else []) ≡ xs
    go true e rest =
        let same : k ≡ a = eqb-true k a e in
        (λ i. back_none t xs k (a + 1) n only (omega (arith, same)) i ++ (if (ap t (sym same) ∙ at) i then xs else []))
    go false e rest =
        let apart : k ≢ a = eqb-false k a e in
        (λ i. rest (grind (arith, apart, low)) i ++ falls t xs k a only apart i) ∙ append-nil xs

-- a test that another one implies
pub filter_finer : {X : Type 0} (s t : X → Bool) → ((x : X) → s x ≡ true → t x ≡ true) → (xs : List X) → filter s xs ≡ filter s (filter t xs)
filter_finer s t finer [] = refl
filter_finer s t finer (x ∷ xs) = go (s x) refl (t x) refl (filter_finer s t finer xs)
  where
    go : (a : Bool) → s x ≡ a → (b : Bool) → t x ≡ b → filter s xs ≡ filter s (filter t xs) → (if a then x ∷ filter s xs else filter s xs) ≡ filter s (if b then x ∷ filter t xs else filter t xs)
    go true p true q e = ap (λ rest. x ∷ rest) e ∙ sym (ap (λ c. if c then x ∷ filter s (filter t xs) else filter s (filter t xs)) p)
    go true p false q e = let never : true ≡ false = sym (finer x p) ∙ q in cc
    go false p true q e = e ∙ sym (ap (λ c. if c then x ∷ filter s (filter t xs) else filter s (filter t xs)) p)
    go false p false q e = e

-- where none passes a test, none passes it with another
pub fewer : {X : Type 0} (s t : X → Bool) (xs : List X) → list_any t xs ≡ false → list_any (λ x. s x && t x) xs ≡ false
fewer s t [] e = refl
fewer s t (x ∷ xs) e = go (s x) (t x) e (λ rest. fewer s t xs rest)
  where
    go : (a b : Bool) → (b || list_any t xs) ≡ false → (list_any t xs ≡ false → list_any (λ y. s y && t y) xs ≡ false) → ((a && b) || list_any (λ y. s y && t y) xs) ≡ false
    go a true e rest = cc
    go true false e rest = rest e
    go false false e rest = rest e

-- Facts on all elements.

pub each_both : {X : Type 0} (P : X → Type 0) (xs ys : List X) → Each P xs → Each P ys → Each P (xs ++ ys)
each_both P [] ys a b = b
each_both P (x ∷ xs) ys a b = (a.0, each_both P xs ys a.1 b)

pub each_of_map : {X Y : Type 0} (P : Y → Type 0) (f : X → Y) (xs : List X) → Each (λ x. P (f x)) xs → Each P (map f xs)
each_of_map P f [] e = tt
each_of_map P f (x ∷ xs) e = (e.0, each_of_map P f xs e.1)

pub each_in_range : (P : ℕ → Type 0) (a n : ℕ) → ((k : ℕ) → a ≤ k → k < a + n → P k) → Each P (range_with_len a n)
each_in_range P a zero h = tt
each_in_range P a (suc n) h = (h a (omega arith) (omega arith), each_in_range P (a + 1) n (λ k low high. h k (omega (arith, low)) (omega (arith, high))))

pub each_kept : {X : Type 0} (P : X → Type 0) (t : X → Bool) (xs : List X) → Each P xs → Each P (filter t xs)
each_kept P t [] e = tt
each_kept P t (x ∷ xs) e = go (t x) (each_kept P t xs e.1)
  where
    go : (b : Bool) → Each P (filter t xs) → Each P (if b then x ∷ filter t xs else filter t xs)
    go true rest = (e.0, rest)
    go false rest = rest

pub each_flat_map : {X Y : Type 0} (P : Y → Type 0) (f : X → List Y) (xs : List X) → Each (λ x. Each P (f x)) xs → Each P (flat_map f xs)
each_flat_map P f [] e = tt
each_flat_map P f (x ∷ xs) e = each_both P (f x) (flat_map f xs) e.0 (each_flat_map P f xs e.1)

pub each_all : {X : Type 0} (P : X → Type 0) → ((x : X) → P x) → (xs : List X) → Each P xs
each_all P h [] = tt
each_all P h (x ∷ xs) = (h x, each_all P h xs)

pub flat_map_same_on : {X Y : Type 0} (f g : X → List Y) (xs : List X) → Each (λ x. f x ≡ g x) xs → flat_map f xs ≡ flat_map g xs
flat_map_same_on f g [] e = refl
flat_map_same_on f g (x ∷ xs) e = let rest = flat_map_same_on f g xs e.1 in let here = e.0 in λ i. here i ++ rest i

-- no element passes both tests
pub none_pass_both : {X : Type 0} (s t : X → Bool) → ((x : X) → s x ≡ true → t x ≡ true → ⊥) → (xs : List X) → filter s (filter t xs) ≡ []
none_pass_both s t apart [] = refl
none_pass_both s t apart (x ∷ xs) = go (t x) refl (s x) refl (none_pass_both s t apart xs)
  where
    go : (b : Bool) → t x ≡ b → (a : Bool) → s x ≡ a → filter s (filter t xs) ≡ [] → filter s (if b then x ∷ filter t xs else filter t xs) ≡ []
    go true q true p e = absurd (apart x p q)
    go true q false p e = ap (λ c. if c then x ∷ filter s (filter t xs) else filter s (filter t xs)) p ∙ e
    go false q a p e = e

pub no_longer : {X : Type 0} (t : X → Bool) (xs : List X) → length (filter t xs) ≤ length xs
no_longer t [] = omega arith
no_longer t (x ∷ xs) = go (t x) (no_longer t xs)
  where
    go : (b : Bool) → length (filter t xs) ≤ length xs → length (if b then x ∷ filter t xs else filter t xs) ≤ suc (length xs)
    go true h = omega (arith, h)
    go false h = omega (arith, h)

pub nothing_left : {X : Type 0} (xs : List X) → length xs ≤ 0 → xs ≡ []
nothing_left [] h = refl
nothing_left (x ∷ xs) h = let never : ⊥ = omega (arith, h) in absurd never

pub none_any : {X : Type 0} (t : X → Bool) (xs : List X) → list_any t xs ≡ false → filter t xs ≡ []
none_any t [] e = refl
none_any t (x ∷ xs) e = go (t x) e (none_any t xs)
  where
    go : (b : Bool) → (b || list_any t xs) ≡ false → (list_any t xs ≡ false → filter t xs ≡ []) → (if b then x ∷ filter t xs else filter t xs) ≡ []
    go true e rest = cc
    go false e rest = rest e

none_in_both : {Y : Type 0} (t : Y → Bool) (ys zs : List Y) → list_any t (ys ++ zs) ≡ false → (list_any t ys ≡ false) × (list_any t zs ≡ false)
none_in_both t [] zs e = (refl, e)
none_in_both t (y ∷ ys) zs e = go (t y) e (none_in_both t ys zs)
  where
    go : (b : Bool) → (b || list_any t (ys ++ zs)) ≡ false → (list_any t (ys ++ zs) ≡ false → (list_any t ys ≡ false) × (list_any t zs ≡ false)) → ((b || list_any t ys) ≡ false) × (list_any t zs ≡ false)
    go true e rest = cc
    go false e rest = rest e

pub none_in_each : {X Y : Type 0} (t : Y → Bool) (f : X → List Y) (xs : List X) → list_any t (flat_map f xs) ≡ false → Each (λ x. list_any t (f x) ≡ false) xs
none_in_each t f [] e = tt
none_in_each t f (x ∷ xs) e = let both = none_in_both t (f x) (flat_map f xs) e in (both.0, none_in_each t f xs both.1)

pub found_keeps : {X : Type 0} (P : X → Type 0) (t : X → Bool) (xs : List X) (x : X) → find t xs ≡ Some x → Each P xs → P x
found_keeps P t [] x e each = cc
found_keeps P t (y ∷ ys) x e each = go (t y) e (λ f. found_keeps P t ys x f each.1)
  where
    go : (b : Bool) → (if b then Some y else find t ys) ≡ Some x → (find t ys ≡ Some x → P x) → P x
    go true e rest = let same : y ≡ x = cc in subst P same each.0
    go false e rest = rest e

or_right : (a b : Bool) → b ≡ true → (a || b) ≡ true
or_right true b e = refl
or_right false b e = e

-- what passes a test of its own is among those that pass it
pub finds_itself : {X : Type 0} (t : X → X → Bool) (P : X → Type 0) → ((x : X) → P x → t x x ≡ true) → (xs : List X) → Each (λ x. P x → list_any (t x) xs ≡ true) xs
finds_itself t P own [] = tt
finds_itself t P own (x ∷ xs) =
    (λ h. ap (λ b. b || list_any (t x) xs) (own x h), each_as (λ y. P y → list_any (t y) xs ≡ true) (λ y. P y → list_any (t y) (x ∷ xs) ≡ true) (λ y f h. or_right (t y x) (list_any (t y) xs) (f h)) xs (finds_itself t P own xs))

-- each operand of a line, by its place among them
pub each_place : {X : Type 0} (P : X → Type 0) (xs : List X) → ((k : ℕ) (x : X) → k < length xs → slice_index_or xs k x ≡ x → P x) → Each P xs
each_place P [] h = tt
each_place P (x ∷ xs) h = (h 0 x (omega arith) refl, each_place P xs (λ k y low at. h (suc k) y (omega (arith, low)) at))

pub contains_each : {X : Type 0} (xs : List X) → Each (Contains xs) xs
contains_each [] = tt
contains_each {X = X} (x ∷ xs) = ((0, omega arith, refl), later (Contains xs) (Contains (x ∷ xs)) (λ y c. (suc c.0, omega (arith, c.1), c.2)) xs (contains_each xs))
  where
    later : (P Q : X → Type 0) → ((y : X) → P y → Q y) → (ys : List X) → Each P ys → Each Q ys
    later P Q f [] e = tt
    later P Q f (y ∷ ys) e = (f y e.0, later P Q f ys e.1)

pub filter_map_each : {X Y : Type 0} (f g : X → Option Y) (xs : List X) → Each (λ x. f x ≡ g x) xs → filter_map f xs ≡ filter_map g xs
filter_map_each f g [] e = refl
filter_map_each f g (x ∷ xs) e = let here = e.0 in let rest = filter_map_each f g xs e.1 in λ i. cons_option (here i) (rest i)

-- the lines of a stage, with what holds of them
pub each_in_stage : (P : Micro → Type 0) (stage : ℕ) (micros : List Micro) → Each (λ (m : Micro). m.stage ≡ stage → P m) micros → Each P (filter (λ (m : Micro). m.stage == stage) micros)
each_in_stage P stage [] e = tt
each_in_stage P stage (m ∷ micros) e = go (m.stage == stage) refl (each_in_stage P stage micros e.1)
  where
    go : (b : Bool) → (m.stage == stage) ≡ b → Each P (filter (λ (m : Micro). m.stage == stage) micros) → Each P (cond b (m ∷ filter (λ (m : Micro). m.stage == stage) micros) (filter (λ (m : Micro). m.stage == stage) micros))
    go true t rest = (e.0 (eqb-true m.stage stage t), rest)
    go false t rest = rest
