-- The kinds and widths of units, each once.
use Rattle.std.proofs.Common.{◌≡◌, ℕ, zero, suc, true, List, [], ◌∷◌, ◌++◌, length, get_or, refl, ap, ◌∙◌}
use Rattle.std.specs.Prelude.{◌==◌, Option, Some, None, position, slice_get}
use Rattle.std.proofs.lemmas.Bool.{and_parts, eqb-true}
use Rattle.std.proofs.lemmas.List.Quantifiers.{position-Some}
use Rattle.std.proofs.lemmas.Option.{slice_get-get_or}
use Rattle.ap_desc.specs.declared.design.Unit.{Unit as Resource}
use Rattle.ap_ctl.specs.Lists.{EachPair}
use Rattle.ap_parts.specs.declared.modules.KindWidth.{KindWidth}
use Rattle.ap_parts.specs.Parts.{StandsAt, is_alike, kind_of, kinds_of, with_kind, with_kind_at}

-- one more unit
pub kinds_of-push : (kinds : List KindWidth) (units : List Resource) (u : Resource)
    → kinds_of kinds (units ++ u ∷ []) ≡ with_kind (kinds_of kinds units) (kind_of u)
kinds_of-push kinds [] u = refl
kinds_of-push kinds (v ∷ units) u = kinds_of-push (with_kind kinds (kind_of v)) units u

-- what is alike is the same
alike_same : (p q : KindWidth) → is_alike p q ≡ true → q ≡ p
alike_same p q h =
    let both = and_parts (q.kind == p.kind) (q.width == p.width) h in
    let kind : q.kind ≡ p.kind = eqb-true q.kind p.kind both.0 in
    let width : q.width ≡ p.width = eqb-true q.width p.width both.1 in
    (λ i. record { kind = kind i; width = width i })

pub found_there : (kinds : List KindWidth) (p : KindWidth) (place : ℕ) → position (is_alike p) kinds ≡ Some place → slice_get kinds place ≡ Some p
found_there kinds p place e =
    let h = position-Some (is_alike p) kinds place p e in
    slice_get-get_or kinds place p h.0 ∙ ap Some (alike_same p (get_or kinds place p) h.1)

-- what stands there stays
got_first : {X : Type 0} (xs : List X) (x y : X) (i : ℕ) → slice_get xs i ≡ Some y → slice_get (xs ++ x ∷ []) i ≡ Some y
got_first [] x y i e = absurd cc
got_first (z ∷ xs) x y zero e = e
got_first (z ∷ xs) x y (suc i) e = got_first xs x y i e

stays : (o : Option ℕ) (kinds : List KindWidth) (p k : KindWidth) (i : ℕ) → slice_get kinds i ≡ Some k → slice_get (with_kind_at o kinds p) i ≡ Some k
stays None kinds p k i e = got_first kinds p k i e
stays (Some place) kinds p k i e = e

pub all_stay : (kinds : List KindWidth) (p : KindWidth) (units : List Resource) (places : List ℕ) → EachPair (StandsAt kinds) units places
    → EachPair (StandsAt (with_kind kinds p)) units places
all_stay kinds p [] [] h = tt
all_stay kinds p [] (i ∷ places) h = absurd h
all_stay kinds p (u ∷ units) [] h = absurd h
all_stay kinds p (u ∷ units) (i ∷ places) h = (stays (position (is_alike p) kinds) kinds p (kind_of u) i h.0, all_stay kinds p units places h.1)

pub push_here : {X : Type 0} (xs : List X) (x : X) → slice_get (xs ++ x ∷ []) (length xs) ≡ Some x
push_here [] x = refl
push_here (y ∷ xs) x = push_here xs x
