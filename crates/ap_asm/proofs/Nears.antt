-- Words that are too near, as they are found.
use Rattle.std.proofs.Common.{◌≡◌, ℕ, ◌+◌, ◌-◌, ◌<◌, ◌≤◌, List, [], length, get_or, Some, refl, sym, ap, subst, ◌∙◌, arith, ⊎_elim}
use Rattle.std.specs.Prelude.{option_and_then, slice_get, slice_index}
use Rattle.std.specs.List.{slice_index_or}
use Rattle.std.proofs.lemmas.Bool.{cases_lt}
use Rattle.std.proofs.lemmas.Option.{get_or_from_slice_get, same_Some, slice_get-get_or, slice_get_read, slice_get_within}
use Rattle.ap_bits.specs.Beside.{EachBeside}
use Rattle.ap_desc.specs.declared.design.Design.{Design}
use Rattle.ap_dist.specs.Distances.{dist_of}
use Rattle.ap_program.specs.declared.fault.AsmFault.TheVariants.{At}
use Rattle.ap_program.specs.declared.fault.AsmKind.TheVariants as kind
use Rattle.ap_asm.specs.Conflicts.{AreFar, AreWordsApart, HasAsMany, IsNear, IsSlotFault}
use Rattle.ap_asm.specs.LinePlaces.{number_at}
use Rattle.ap_asm.proofs.Besides.{beside_left, beside_length}
use Rattle.ap_asm.proofs.Conflicted.{near_within}

pub near_here : (design : Design) (words : List ℕ) (place older : ℕ) → older < place → place < length words → place - older < dist_of design (slice_index words older) (slice_index words place) → IsNear design words place
near_here design words place older lt within near = record {
  older = older;
  order = lt;
  word = slice_index words older;
  is_word = slice_get-get_or words older 0 (omega arith);
  younger = slice_index words place;
  is_younger = slice_get-get_or words place 0 within;
  near = omega arith;
}

pub far_none : (design : Design) (words : List ℕ) (place : ℕ) → AreFar design words place 0
far_none design words place older word younger lt a b = absurd (omega arith)

pub far_more : (design : Design) (words : List ℕ) (place i : ℕ) → i < place → dist_of design (slice_index words i) (slice_index words place) ≤ place - i → AreFar design words place i → AreFar design words place (i + 1)
far_more design words place i lt le far older word younger less a b = ⊎_elim
    (λ early. far older word younger early a b)
    (λ late.
    let e : older ≡ i = omega arith in
    let x : slice_index words i ≡ word = ap (slice_index words) (sym e) ∙ get_or_from_slice_get words older word 0 a in
    let y : slice_index words place ≡ younger = get_or_from_slice_get words place younger 0 b in
    let d : dist_of design (slice_index words i) (slice_index words place) ≡ dist_of design word younger = ap (λ w. dist_of design w (slice_index words place)) x ∙ ap (dist_of design word) y in
    omega arith)
    (cases_lt older i)

pub far_not_near : (design : Design) (words : List ℕ) (place : ℕ) → AreFar design words place place → IsNear design words place → ⊥
far_not_near design words place far near = (let le = far near.older near.word near.younger near.order near.is_word near.is_younger in let n = near.near in omega arith)

-- no word up to a place
pub none_more : (design : Design) (words : List ℕ) (place : ℕ) → AreFar design words place place → ((j : ℕ) → j < place → IsNear design words j → ⊥) → (j : ℕ) → j < place + 1 → IsNear design words j → ⊥
none_more design words place far none j lt near = ⊎_elim
    (λ early. none j early near)
    (λ late. let e : j ≡ place = omega arith in far_not_near design words place far (subst (IsNear design words) e near))
    (cases_lt j place)

pub none_at_all : (design : Design) (words : List ℕ) (n : ℕ) → length words ≤ n → ((j : ℕ) → j < n → IsNear design words j → ⊥) → (j : ℕ) → IsNear design words j → ⊥
none_at_all design words n le none j near = none j (let lt = slice_get_within words j near.younger near.is_younger in omega arith) near

-- no word of the groups up to one
pub groups_none_more : (design : Design) (words : List (List ℕ)) (group : ℕ) (here : List ℕ) → slice_get words group ≡ Some here → ((j : ℕ) → IsNear design here j → ⊥) → ((g j : ℕ) → g < group → IsNear design (slice_index_or words g []) j → ⊥)
    → (g j : ℕ) → g < group + 1 → IsNear design (slice_index_or words g []) j → ⊥
groups_none_more design words group here at far none g j lt near = ⊎_elim
    (λ early. none g j early near)
    (λ late.
    let e : g ≡ group = omega arith in
    let same : slice_index_or words g [] ≡ here = ap (λ k. slice_index_or words k []) e ∙ get_or_from_slice_get words group here [] at in
    far j (subst (λ ws. IsNear design ws j) same near))
    (cases_lt g group)

pub all_none : (design : Design) (words : List (List ℕ)) (n : ℕ) → length words ≤ n → ((g j : ℕ) → g < n → IsNear design (slice_index_or words g []) j → ⊥) → AreWordsApart design words
all_none design words n le none g j near = none g j (let lt = near_within design words g j near in omega arith) near

-- the fault at the first of them
pub number_there : (numbers : List (List ℕ)) (g i : ℕ) (ns : List ℕ) (n : ℕ) → slice_get numbers g ≡ Some ns → slice_get ns i ≡ Some n → number_at numbers g i ≡ Some n
number_there numbers g i ns n a b = ap (λ o. option_and_then (λ (xs : List ℕ). slice_get xs i) o) a ∙ b

pub slot_fault : (design : Design) (words numbers : List (List ℕ)) (group place line : ℕ) (here : List ℕ) → slice_get words group ≡ Some here → IsNear design here place → ((j : ℕ) → j < place → IsNear design here j → ⊥)
    → ((g j : ℕ) → g < group → IsNear design (slice_index_or words g []) j → ⊥) → number_at numbers group place ≡ Some line → IsSlotFault design words numbers (At line kind.SlotConflict)
slot_fault design words numbers group place line here at near first none number = (
  refl,
  record {
    group = group;
    place = place;
    first = record {
      here = subst (λ ws. IsNear design ws place) (sym same) near;
      groups = none;
      places = λ j lt n. first j lt (subst (λ ws. IsNear design ws j) same n);
    };
    at = number;
  },
)
  where
    same : slice_index_or words group [] ≡ here
    same = get_or_from_slice_get words group here [] at

-- as many numbers as words
pub number_within : (words numbers : List (List ℕ)) (group place : ℕ) (here ns : List ℕ) → EachBeside HasAsMany words numbers → slice_get words group ≡ Some here → slice_get numbers group ≡ Some ns → place < length here → place < length ns
number_within words numbers group place here ns beside a b lt =
    let r = beside_left HasAsMany words numbers beside group here a in
    let e : r.other ≡ ns = same_Some r.other ns (sym r.is_there ∙ b) in
    let count = ap length (sym e) ∙ r.holds in
    omega arith

pub numbers_within : (words numbers : List (List ℕ)) → EachBeside HasAsMany words numbers → length numbers ≡ length words
numbers_within words numbers beside = beside_length HasAsMany words numbers beside

-- the number of the first line of a group
pub first_there : (numbers : List (List ℕ)) (group : ℕ) (ns items : List ℕ) → group < length numbers → ns ≡ get_or numbers group ns → items ≡ ns → 0 < length (slice_index_or numbers group []) → number_at numbers group 0 ≡ Some (get_or items 0 0)
first_there numbers group ns items lt is same some =
    let at : slice_get numbers group ≡ Some ns = slice_get_read numbers (length numbers) group ns refl lt is in
    let e : slice_index_or numbers group [] ≡ items = get_or_from_slice_get numbers group ns [] at ∙ sym same in
    number_there numbers group 0 ns (get_or items 0 0) at (ap (λ xs. slice_get xs 0) (sym same) ∙ slice_get-get_or items 0 0 (let z = ap length e in omega arith))

pub first_within : (numbers : List (List ℕ)) (group : ℕ) (ns items : List ℕ) → group < length numbers → ns ≡ get_or numbers group ns → items ≡ ns → 0 < length (slice_index_or numbers group []) → 0 < length items
first_within numbers group ns items lt is same some =
    let at : slice_get numbers group ≡ Some ns = slice_get_read numbers (length numbers) group ns refl lt is in
    let e : slice_index_or numbers group [] ≡ items = get_or_from_slice_get numbers group ns [] at ∙ sym same in
    let z = ap length e in
    omega arith
