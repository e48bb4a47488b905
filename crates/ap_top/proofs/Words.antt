-- A loop over a list that looks at each element: what holds of the rest holds of all where it held of each so far.
use Rattle.std.proofs.Common.{◌≡◌, ◌↔◌, ℕ, suc, zero, ◌+◌, ◌<◌, ◌≤◌, List, [], ◌∷◌, length, get_or, take, drop, map, refl, sym, ap, subst, ◌∙◌, arith, add-one, length-drop, ◌-◌, IsTrue, true, false}
use Rattle.std.proofs.Math.Seq.{drop-cons}
use Rattle.std.proofs.Math.ListN.{length-map}
use Rattle.std.proofs.lemmas.List.{drop_all, take_all, get_or-map, get_or_default}
use Rattle.std.proofs.lemmas.Slice.Zip.{get_or-zip, length-zip}
use Rattle.std.specs.List.{AllByRecursion as Each, zip}
use Rattle.ap_top.specs.Commands.{Operand, AreWordsApart, MayStandWith}

never : {A : Type 0} → IsTrue false → A
never wrong = cc

-- the rest begins with this element
pub rest_from : {X : Type 0} (xs : List X) (i : ℕ) (x : X) → i < length xs → x ≡ get_or xs i x → drop i xs ≡ x ∷ drop (i + 1) xs
rest_from xs i x lt e = rw add-one (drop-cons xs i x lt ∙ ap (λ y. y ∷ drop (suc i) xs) (sym e))

pub each_step : {X : Type 0} (P : X → Type 0) (xs : List X) (i : ℕ) (x : X) → i < length xs → x ≡ get_or xs i x → P x → (Each P (drop i xs) ↔ Each P xs) → (Each P (drop (i + 1) xs) ↔ Each P xs)
each_step P xs i x lt e holds same =
    let split = rest_from xs i x lt e in
    ((λ rest. same.0 (subst (Each P) (sym split) (holds, rest))), (λ all. (subst (Each P) split (same.1 all)).1))

pub each_stop : {X : Type 0} (P : X → Type 0) (xs : List X) (i : ℕ) (x : X) → i < length xs → x ≡ get_or xs i x → (P x → ⊥) → (Each P (drop i xs) ↔ Each P xs) → (IsTrue false ↔ Each P xs)
each_stop P xs i x lt e fails same =
    let split = rest_from xs i x lt e in
    ((λ wrong. never wrong), (λ all. absurd (fails (subst (Each P) split (same.1 all)).0)))

pub each_end : {X : Type 0} (P : X → Type 0) (xs : List X) (i : ℕ) → length xs ≤ i → (Each P (drop i xs) ↔ Each P xs) → (IsTrue true ↔ Each P xs)
each_end P xs i le same = ((λ _. same.0 (subst (Each P) (sym (drop_all i xs le)) tt)), (λ _. refl))

-- an element of a list, as one of the list of its views
pub view_at : {X Y : Type 0} (f : X → Y) (xs : List X) (i : ℕ) (x : X) → i < length xs → x ≡ get_or xs i x → f x ≡ get_or (map f xs) i (f x)
view_at f xs i x lt e = ap f e ∙ sym (get_or-map f xs i x (f x) lt)

pub word_step : {X Y : Type 0} (P : Y → Type 0) (f : X → Y) (xs : List X) (i : ℕ) (x : X) (y : Y) → i < length xs → x ≡ get_or xs i x → y ≡ f x → P y → (Each P (drop i (map f xs)) ↔ Each P (map f xs)) → (Each P (drop (i + 1) (map f xs)) ↔ Each P (map f xs))
word_step P f xs i x y lt e g holds same = each_step P (map f xs) i (f x) (simp length-map lt) (view_at f xs i x lt e) (subst P g holds) same

pub word_stop : {X Y : Type 0} (P : Y → Type 0) (f : X → Y) (xs : List X) (i : ℕ) (x : X) (y : Y) → i < length xs → x ≡ get_or xs i x → y ≡ f x → (P y → ⊥) → (Each P (drop i (map f xs)) ↔ Each P (map f xs)) → (IsTrue false ↔ Each P (map f xs))
word_stop P f xs i x y lt e g fails same = each_stop P (map f xs) i (f x) (simp length-map lt) (view_at f xs i x lt e) (λ h. fails (subst P (sym g) h)) same

-- an element beside the view of its partner
pub pair_at : {X Y Z : Type 0} (f : Y → Z) (xs : List X) (ys : List Y) (i : ℕ) (d : X) (y : Y) (z : Z) → length xs ≡ length ys → i < length xs → y ≡ get_or ys i y → z ≡ f y → (get_or xs i d, z) ≡ get_or (zip xs (map f ys)) i (get_or xs i d, z)
pair_at f xs ys i d y z same lt e g =
    let there : i < length ys = omega arith in
    let there_too : i < length (map f ys) = simp length-map there in
    (λ j. (get_or_default xs i d (get_or xs i d) lt j, (g ∙ ap f e ∙ sym (get_or-map f ys i y z there)) j)) ∙ sym (get_or-zip xs (map f ys) i (get_or xs i d, z) lt there_too)

pairs_length : {X Y Z : Type 0} (f : Y → Z) (xs : List X) (ys : List Y) → length xs ≡ length ys → length (zip xs (map f ys)) ≡ length xs
pairs_length f xs ys same = length-zip xs (map f ys) ∙ simp length-map (omega arith)

pub in_pairs : {X Y Z : Type 0} (f : Y → Z) (xs : List X) (ys : List Y) (i : ℕ) → length xs ≡ length ys → i < length xs → i < length (zip xs (map f ys))
in_pairs f xs ys i same lt = rw (pairs_length f xs ys same) lt

zip-none : {X Z : Type 0} (xs : List X) → ◌≡◌ {A = List (X × Z)} (zip xs []) []
zip-none [] = refl
zip-none (x ∷ xs) = refl

-- what is left of the pairs is the pairs of what is left
zip-drop : {X Y Z : Type 0} (f : Y → Z) (n : ℕ) (xs : List X) (ys : List Y) → zip (drop n xs) (map f (drop n ys)) ≡ drop n (zip xs (map f ys))
zip-drop f zero xs ys = refl
zip-drop f (suc n) [] ys = refl
zip-drop f (suc n) (x ∷ xs) [] = zip-none (drop n xs)
zip-drop f (suc n) (x ∷ xs) (y ∷ ys) = zip-drop f n xs ys

-- the same step for words that are apart
pub apart_step : (operands : List Operand) (i : ℕ) (operand : Operand) → i < length operands → operand ≡ get_or operands i operand → Each (MayStandWith operand) (drop (i + 1) operands) → (AreWordsApart (drop i operands) ↔ AreWordsApart operands) → (AreWordsApart (drop (i + 1) operands) ↔ AreWordsApart operands)
apart_step operands i operand lt e holds same =
    let split = rest_from operands i operand lt e in
    ((λ rest. same.0 (subst AreWordsApart (sym split) (holds, rest))), (λ all. (subst AreWordsApart split (same.1 all)).1))

pub apart_stop : (operands : List Operand) (i : ℕ) (operand : Operand) → i < length operands → operand ≡ get_or operands i operand → (Each (MayStandWith operand) (drop (i + 1) operands) → ⊥) → (AreWordsApart (drop i operands) ↔ AreWordsApart operands) → (IsTrue false ↔ AreWordsApart operands)
apart_stop operands i operand lt e fails same =
    let split = rest_from operands i operand lt e in
    ((λ wrong. never wrong), (λ all. absurd (fails (subst AreWordsApart split (same.1 all)).0)))

pub apart_end : (operands : List Operand) (i : ℕ) → length operands ≤ i → (AreWordsApart (drop i operands) ↔ AreWordsApart operands) → (IsTrue true ↔ AreWordsApart operands)
apart_end operands i le same = ((λ _. same.0 (subst AreWordsApart (sym (drop_all i operands le)) tt)), (λ _. refl))

all_of_rest : {X : Type 0} (n : ℕ) (xs : List X) → take (length xs - n) (drop n xs) ≡ drop n xs
all_of_rest n xs = let short : length (drop n xs) ≤ length xs - n = rw length-drop (omega arith) in take_all (length xs - n) (drop n xs) short

-- the pairs of the two rests, as slices give them
pub rest_pairs : {X Y Z : Type 0} (f : Y → Z) (n : ℕ) (xs : List X) (ys : List Y) → zip (take (length xs - n) (drop n xs)) (map f (take (length ys - n) (drop n ys))) ≡ drop n (zip xs (map f ys))
rest_pairs f n xs ys = ap (λ l. zip l (map f (take (length ys - n) (drop n ys)))) (all_of_rest n xs) ∙ ap (λ l. zip (drop n xs) (map f l)) (all_of_rest n ys) ∙ zip-drop f n xs ys

pub past_pairs : {X Y Z : Type 0} (f : Y → Z) (xs : List X) (ys : List Y) (i : ℕ) → length xs ≡ length ys → length xs ≤ i → length (zip xs (map f ys)) ≤ i
past_pairs f xs ys i same le = rw (pairs_length f xs ys same) le
