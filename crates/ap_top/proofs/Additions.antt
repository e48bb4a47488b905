-- Looking for the operation by which a unit adds.
use Rattle.std.proofs.Common.{◌≡◌, ℕ, suc, zero, ◌+◌, ◌<◌, Bool, true, false, List, [], ◌∷◌, length, Some, None, Option, refl, sym, ap, subst, ◌∙◌, arith, ⊎_elim, ◌≤◌}
use Rattle.std.proofs.lemmas.Bool.{cases_lt}
use Rattle.std.proofs.lemmas.List.{length-map}
use Rattle.std.proofs.lemmas.Slice.Eq.{bytes_eq-Decides}
use Rattle.std.specs.Prelude.{codes, slice_get, if◌then◌else◌, IsTrue, IsSomeAnd, IfSome, IfNone}
use Rattle.std.specs.Option.{is_some, IsSome}
use Rattle.std.specs.List.{position_from}
use Rattle.std.specs.Str.{bytes_eq}
use Rattle.ap_bits.specs.declared.card.Card.{Card}
use Rattle.ap_bits.specs.declared.card.Latency.{Latency}
use Rattle.ap_bits.specs.declared.card.Latency.TheVariants.{One, WidthPlusOne}
use Rattle.ap_bits.specs.declared.card.Widths.{Widths}
use Rattle.ap_bits.specs.declared.card.Widths.TheVariants.{Any, PowersOfTwo}
use Rattle.ap_bits.specs.Cards.{FitsWidth, allows, latency_at, cycles_at, operation_names}
use Rattle.ap_unit.specs.Kinds.{place_of}
use Rattle.ap_top.specs.declared.addition.Addition.{Addition}
use Rattle.ap_top.specs.declared.form.Form.{Form}
use Rattle.ap_top.specs.Additions.{Operation, IsAddition}
use Rattle.ap_top.specs.Form.{HasAddition, unit_line}
use Rattle.ap_top.specs.Found.{Agrees, IsServed}

-- an element of a list stands within it
pub got_within : {X : Type 0} (xs : List X) (j : ℕ) (x : X) → slice_get xs j ≡ Some x → j < length xs
got_within [] j x e = cc
got_within (y ∷ xs) zero x e = omega arith
got_within (y ∷ xs) (suc j) x e = omega (arith, got_within xs j x e)

found_within : {X : Type 0} (p : X → Bool) (n : ℕ) (xs : List X) (i : ℕ) → position_from p n xs ≡ Some i → i < n + length xs
found_within p n [] i e = cc
found_within p n (x ∷ xs) i e =
    elim (p x) as (λ t. p x ≡ t → (if t then Some n else position_from p (n + 1) xs) ≡ Some i → i < n + length (x ∷ xs)) [
      | true ↦ λ t f. let same : n ≡ i = cc in omega arith
      | false ↦ λ t f. omega (arith, found_within p (n + 1) xs i f)
    ] refl e

-- a kind that was found stands on the shelf
pub place_within : (name : List ℕ) (cards : List Card) (i : ℕ) → Some i ≡ place_of name cards → i < length cards
place_within name cards i e = let found = found_within (λ (card : Card). bytes_eq card.name name) 0 cards i (sym e) in omega arith

one_of : (latency : Latency) (widths : Widths) (w : ℕ) → IsTrue (allows widths w) → cycles_at latency w ≡ 1 → latency ≡ One
one_of One widths w fits e = refl
one_of WidthPlusOne Any w fits e = let none : w ≡ 0 = omega arith in let wrong = subst (λ n. IsTrue (allows Any n)) none fits in cc
one_of WidthPlusOne PowersOfTwo w fits e = let none : w ≡ 0 = omega arith in let wrong = subst (λ n. IsTrue (allows PowersOfTwo n)) none fits in cc

-- a unit that takes one cycle at a width is of a kind that always does
pub one_cycle : (card : Card) (w : ℕ) → FitsWidth card w → latency_at card w ≡ 1 → card.latency ≡ One
one_cycle card w fits e = one_of card.latency card.widths w fits e

-- two names differ where they aren't told equal
pub other_name : (a b : List ℕ) (r : Bool) → r ≡ bytes_eq a b → r ≡ false → a ≡ b → ⊥
other_name a b r e isnt same = let yes : bytes_eq a b ≡ true = (bytes_eq-Decides a b).1 same in cc

-- the next name is another one, too
pub none_more : (names : List (List ℕ)) (name other : List ℕ) (i : ℕ) → ((j : ℕ) → j < i → slice_get names j ≡ Some name → ⊥) → slice_get names i ≡ Some other → (other ≡ name → ⊥) → (j : ℕ) → j < i + 1 → slice_get names j ≡ Some name → ⊥
none_more names name other i none at differs j lt e = ⊎_elim
    (λ before. none j before e)
    (λ last. let here : j ≡ i = omega arith in let same : Some other ≡ Some name = sym at ∙ ap (slice_get names) (sym here) ∙ e in differs (let it : other ≡ name = cc in it))
    (cases_lt j i)

-- so none of all is it
pub none_of_all : (names : List (List ℕ)) (name : List ℕ) (i : ℕ) → length names ≤ i → ((j : ℕ) → j < i → slice_get names j ≡ Some name → ⊥) → (j : ℕ) → slice_get names j ≡ Some name → ⊥
none_of_all names name i le none j e = none j (let lt = got_within names j name e in omega arith) e

-- the operation that was found is the addition
pub found_addition : (cards : List Card) (w place number : ℕ) (card : Card) → Some place ≡ place_of (codes "alu") cards → slice_get cards place ≡ Some card → FitsWidth card w → latency_at card w ≡ 1
    → slice_get (operation_names card) number ≡ Some (codes "add") → IsSomeAnd (slice_get cards place) (λ c. IsAddition cards w (record { card = c; number = number }))
found_addition cards w place number card found at fits one adds =
    let has : number < length card.ops = simp length-map at (got_within (operation_names card) number (codes "add") adds) in
    subst (λ o. IsSomeAnd o (λ c. IsAddition cards w (record { card = c; number = number }))) (sym at) (record { place = place; named = sym found; card = at; quick = record { fits = fits; one = one_cycle card w fits one; has = has }; adds = adds })

-- what the shelf was asked for at the line `unit`
pub served : (cards : List Card) (found : List (Option ℕ)) (place : ℕ) (form : Form) (addition : Option Addition) (is : Bool) → place ≡ unit_line → Agrees found form → is ≡ is_some addition
    → IfSome addition (λ a. IsSomeAnd (slice_get cards a.place) (λ c. IsAddition cards form.width (record { card = c; number = a.number }))) → IfNone addition ((operation : Operation) → IsAddition cards form.width operation → ⊥) → IsServed cards found place is
served cards found place form None is at agrees e some none = record {
  yes = λ yes. let wrong = sym e ∙ yes in cc;
  asks = λ _. at;
  no = λ _ given _ _. (form, agrees, λ has. none has.0 has.1);
}
served cards found place form (Some a) is at agrees e some none = record {
  yes = λ _ _. (form, agrees, got (slice_get cards a.place) some);
  asks = λ _. at;
  no = λ isnt. let wrong = sym e ∙ isnt in cc;
}
  where
    got : (o : Option Card) → IsSomeAnd o (λ c. IsAddition cards form.width (record { card = c; number = a.number })) → HasAddition cards form.width
    got None h = absurd h
    got (Some card) h = (record { card = card; number = a.number }, h)

-- the kind that stands at the place of the addition has it
pub addition_of : (cards : List Card) (w number place : ℕ) (card : Card) → IsSomeAnd (slice_get cards place) (λ c. IsAddition cards w (record { card = c; number = number })) → slice_get cards place ≡ Some card → IsAddition cards w (record { card = card; number = number })
addition_of cards w number place card h at = subst (λ o. IsSomeAnd o (λ c. IsAddition cards w (record { card = c; number = number }))) at h

-- it stands on the shelf
pub addition_within : (P : Card → Type 0) (cards : List Card) (place : ℕ) → IsSomeAnd (slice_get cards place) P → place < length cards
addition_within P [] place h = absurd h
addition_within P (card ∷ cards) zero h = omega arith
addition_within P (card ∷ cards) (suc place) h = omega (arith, addition_within P cards place h)

-- where the shelf has one it is found
pub is_found : (cards : List Card) (w : ℕ) (addition : Option Addition) → HasAddition cards w → IfNone addition ((operation : Operation) → IsAddition cards w operation → ⊥) → IsSome addition
is_found cards w None has none = absurd (none has.0 has.1)
is_found cards w (Some a) has none = refl

-- what holds of what is there
pub at_some : {X : Type 0} (P : X → Type 0) (o : Option X) (x : X) → o ≡ Some x → IfSome o P → P x
at_some P o x e h = subst (λ o. IfSome o P) e h
