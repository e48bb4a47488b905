-- A choice by the lowest bit of a number, and what is left to be chosen.
use Rattle.std.proofs.Common.{◌≡◌, ℕ, ◌+◌, ◌*◌, ◌/◌, ◌%◌, ◌<◌, List, [], ◌∷◌, ◌++◌, length, get_or, Some, None, Option, refl, sym, ap, subst, ◌∙◌, arith, ⊎_elim, zero, suc, inl, inr}
use Rattle.std.specs.Prelude.{slice_get, slice_index, option_map, All, IfSome}
use Rattle.std.specs.List.{AllByRecursion as Each}
use Rattle.std.proofs.lemmas.Bool.{cases_lt}
use Rattle.std.proofs.lemmas.List.{map-append, length-map}
use Rattle.std.proofs.Math.ListN.{get_or-append}
use Rattle.std.proofs.Math.Seq.{get_or-append_seam}
use Rattle.std.proofs.lemmas.Option.{slice_get-map, slice_get-get_or, slice_get_within, get_or_from_slice_get}
use Rattle.ap_net.specs.declared.cell.Wire.{Wire}
use Rattle.ap_net.specs.declared.net.ModuleNet.{ModuleNet}
use Rattle.ap_net.specs.Draft.{Draft}
use Rattle.ap_net.specs.Making.{Makes}
use Rattle.ap_net.proofs.Laws.{IsNet-Makes}
use Rattle.ap_net.specs.Ready.{numbers}
use Rattle.ap_net.specs.Pending.{Among}
use Rattle.ap_comb.specs.Choices.{IsOfWidth, values_of, pair_value, number_of}

pub IsOfWidth-Makes : (a b : Draft) (w : ℕ) (x : Wire) → Makes a b → IsOfWidth a.nets w x → IsOfWidth b.nets w x
IsOfWidth-Makes a b w x m h = record { net = IsNet-Makes a b x m h.net; wide = h.wide }

-- the value of a net of the list
pub value_at : (read : ℕ → ℕ) (nets : List Wire) (i : ℕ) (x : Wire) → slice_get nets i ≡ Some x → slice_index (values_of read nets) i ≡ read x.number
value_at read nets i x at = get_or_from_slice_get (values_of read nets) i (read x.number) 0 (slice_get-map (λ (w : Wire). read w.number) nets i ∙ ap (option_map (λ (w : Wire). read w.number)) at)

first_of : (read : ℕ → ℕ) (bit : ℕ) (first : Wire) (second : Option Wire) → bit ≡ 0 → pair_value read bit first second ≡ read first.number
first_of read bit first None e = refl
first_of read bit first (Some x) e = rw e refl

second_of : (read : ℕ → ℕ) (bit : ℕ) (first x : Wire) (second : Option Wire) → bit ≡ 1 → second ≡ Some x → pair_value read bit first second ≡ read x.number
second_of read bit first x second e is = rw (is, e) refl

-- one more choice of two neighbours
pub halves_more : (read : ℕ → ℕ) (level made : List Wire) (i bit : ℕ) (first y : Wire) (second : Option Wire) → length made ≡ i
    → slice_get level (2 * i) ≡ Some first → second ≡ slice_get level (2 * i + 1) → read y.number ≡ pair_value read bit first second
    → ((j : ℕ) → j < length level → j / 2 < i → bit ≡ j % 2 → slice_index (values_of read made) (j / 2) ≡ slice_index (values_of read level) j)
    → (j : ℕ) → j < length level → j / 2 < i + 1 → bit ≡ j % 2 → slice_index (values_of read (made ++ y ∷ [])) (j / 2) ≡ slice_index (values_of read level) j
halves_more read level made i bit first y second long one two value before j lt le is =
    let joined = map-append (λ (w : Wire). read w.number) made (y ∷ []) in
    let many : length (values_of read made) ≡ length made = simp length-map in
    ap (λ (l : List ℕ). slice_index l (j / 2)) joined ∙
    ⊎_elim
    (λ below. let short : j / 2 < length (values_of read made) = omega arith in get_or-append (values_of read made) (read y.number ∷ []) 0 (j / 2) short ∙ before j lt below is)
    (λ above.
    let last : j / 2 ≡ length (values_of read made) = omega arith in
    ap (slice_index (values_of read made ++ read y.number ∷ [])) last ∙ get_or-append_seam (values_of read made) (read y.number) [] 0 ∙ value ∙ chosen (omega arith))
    (cases_lt (j / 2) i)
  where
    chosen : j / 2 ≡ i → pair_value read bit first second ≡ slice_index (values_of read level) j
    chosen here =
        ⊎_elim
        (λ even.
        let low : bit ≡ 0 = omega arith in
        let at : 2 * i ≡ j = omega arith in
        first_of read bit first second low ∙ sym (value_at read level (2 * i) first one) ∙ ap (slice_index (values_of read level)) at)
        (λ odd.
        let high : bit ≡ 1 = omega arith in
        let at : 2 * i + 1 ≡ j = omega arith in
        let here' : 2 * i + 1 < length level = omega arith in
        let x : Wire = get_or level (2 * i + 1) first in
        let there : slice_get level (2 * i + 1) ≡ Some x = slice_get-get_or level (2 * i + 1) first here' in
        second_of read bit first x second high (two ∙ there) ∙ sym (value_at read level (2 * i + 1) x there) ∙ ap (slice_index (values_of read level)) at)
        (cases_lt (j % 2) 1)

-- what stands at a place has the width of all
pub width_at : (nets : List ModuleNet) (w j : ℕ) (level : List Wire) (r : Option Wire) → All (IsOfWidth nets w) level → r ≡ slice_get level j → IfSome r (IsOfWidth nets w)
width_at nets w j level None all at = tt
width_at nets w j level (Some x) all at =
    subst (IsOfWidth nets w) (get_or_from_slice_get level j x x (sym at)) (all j x (slice_get_within level j x (sym at)))

-- a net of a list is among their numbers
among_at : (nets : List Wire) (i : ℕ) (x : Wire) → slice_get nets i ≡ Some x → Among (numbers nets) x.number
among_at [] i x at = cc
among_at (y ∷ nets) zero x at = let same : y ≡ x = cc in inl (ap (λ (w : Wire). w.number) same)
among_at (y ∷ nets) (suc i) x at = inr (among_at nets i x at)

-- what holds of them holds of the one at a place, if there is one
pub each_number_of : (P : ℕ → Type 0) (nets : List Wire) (i : ℕ) (o : Option Wire) → o ≡ slice_get nets i → ((n : ℕ) → Among (numbers nets) n → P n) → Each P (number_of o)
each_number_of P nets i None is h = tt
each_number_of P nets i (Some x) is h = (h x.number (among_at nets i x (sym is)), tt)

-- and of each where it holds by their places
pub each_number : (P : ℕ → Type 0) (nets : List Wire) → All (λ (x : Wire). P x.number) nets → Each P (numbers nets)
each_number P [] h = tt
each_number P (x ∷ nets) h = (h 0 x (omega arith), each_number P nets (λ i d lt. h (suc i) d (omega arith)))
