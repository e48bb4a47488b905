-- What is read of slices: lines, instructions, and the greatest so far.
use Rattle.std.proofs.Common.{◌≡◌, ℕ, ◌+◌, ◌<◌, max, true, false, cond, Bool, List, [], ◌∷◌, length, get_or, take, Option, Some, None, inl, inr, refl, sym, ap, ◌∙◌, arith, nat_cmp}
use Rattle.std.specs.Prelude.{◌==◌, filter_map, nat_lt, slice_get, option_and_then, IsSomeAnd}
use Rattle.std.specs.Option.{option_map_or}
use Rattle.std.specs.Ordering.{is_lt, ord_max}
use Rattle.std.specs.declared.cmp.Ordering.TheVariants.{Less, Equal, Greater}
use Rattle.std.proofs.lemmas.Bool.{cases_lt, cond-false, cond-true, le-ltb, lt-ltb}
use Rattle.std.proofs.lemmas.Option.{slice_get-get_or, slice_get_read, slice_get_within}
use Rattle.ap_desc.specs.Designs.{Matches}
use Rattle.ap_desc.specs.declared.design.Design.{Design}
use Rattle.ap_desc.specs.declared.design.Instr.{Instr}
use Rattle.ap_desc.specs.declared.design.Micro.{Micro}
use Rattle.ap_enc.specs.Words.{IsOnlyMatch, MatchesAt}
use Rattle.ap_dist.specs.Accesses.{access_of, accesses}
use Rattle.ap_dist.specs.Distances.{gap, gap_between, greatest, instr_out}
use Rattle.ap_dist.specs.Trails.{slot_at, slot_of_line}
use Rattle.ap_dist.specs.declared.access.Access.{Access}
use Rattle.ap_dist.proofs.Built.{gap_at}
use Rattle.ap_dist.proofs.Greatest.{greatest_none_more, greatest_some_more}

-- the greater of two as the code takes it
ordered : (t u : Bool) (a b : ℕ) → cond (is_lt (cond t Less (cond u Equal Greater))) a b ≡ cond t a b
ordered true u a b = refl
ordered false true a b = refl
ordered false false a b = refl

pub greater_is_max : (a b : ℕ) → ord_max nat_cmp a b ≡ max a b
greater_is_max a b = elim (cases_lt b a) [
  | inl less ↦ (let left : a ≡ max a b = omega arith in ordered (nat_lt b a) (b == a) a b ∙ cond-true (nat_lt b a) a b (lt-ltb b a less) ∙ left)
  | inr more ↦ (let right : b ≡ max a b = omega arith in ordered (nat_lt b a) (b == a) a b ∙ cond-false (nat_lt b a) a b (le-ltb b a more) ∙ right)
]

-- an element that is read
pub there_read : {X : Type 0} (items xs : List X) → items ≡ xs → (i : ℕ) → i < length items → (d : X) → slice_get xs i ≡ Some (get_or items i d)
there_read items xs e i lt d = ap (λ ys. slice_get ys i) (sym e) ∙ slice_get-get_or items i d lt

-- the greater gap of a line that is read
pub gap_read : (design : Design) (instr : Instr) (word : Option ℕ) (older : Access) (items : List Micro) → items ≡ instr.micros → (place : ℕ) → place < length items → (d : Micro) (most r : ℕ)
    → r ≡ max most (option_map_or (gap older) (access_of design instr word (get_or items place d)) 0) → r ≡ max most (gap_at design instr word older place)
gap_read design instr word older items e place lt d most r is = is ∙ ap (λ o. max most (option_map_or (gap older) (option_and_then (access_of design instr word) o) 0)) (sym (there_read items instr.micros e place lt d))

-- the greatest so far, with one line more
pub more_kept : (h : Micro → Option Access) (of : Access → ℕ) (items ms : List Micro) → items ≡ ms → (i : ℕ) → i < length items → (d : Micro) (a : Access) → h (get_or items i d) ≡ Some a → (most : ℕ) → most ≡ greatest of (filter_map h (take i ms))
    → max most (of a) ≡ greatest of (filter_map h (take (i + 1) ms))
more_kept h of items ms e i lt d a kept most is = ap (λ n. max n (of a)) is ∙ sym (greatest_some_more h of ms i (get_or items i d) a (there_read items ms e i lt d) kept)

pub more_unkept : (h : Micro → Option Access) (of : Access → ℕ) (items ms : List Micro) → items ≡ ms → (i : ℕ) → i < length items → (d : Micro) → h (get_or items i d) ≡ None → (most : ℕ) → most ≡ greatest of (filter_map h (take i ms))
    → most ≡ greatest of (filter_map h (take (i + 1) ms))
more_unkept h of items ms e i lt d none most is = is ∙ sym (greatest_none_more h of ms i (get_or items i d) (there_read items ms e i lt d) none)

-- the slot of a line that is read
pub slot_read : (instr : Instr) (w : Bool) (items : List Micro) → items ≡ instr.micros → (place : ℕ) → place < length items → (d : Micro) (r : Option ℕ) → r ≡ slot_of_line w (get_or items place d) → slot_at instr w place ≡ r
slot_read instr w items e place lt d r is = ap (option_and_then (slot_of_line w)) (there_read items instr.micros e place lt d) ∙ sym is

-- an instruction that is read
pub instr_read : (design : Design) (instrs : List Instr) → instrs ≡ design.instrs → (place : ℕ) → place < length design.instrs → (instr : Instr) → instr ≡ get_or instrs place instr → slice_get design.instrs place ≡ Some instr
instr_read design instrs e place lt instr is = slice_get_read design.instrs (length design.instrs) place instr refl lt (is ∙ ap (λ xs. get_or xs place instr) e)

match_within : (design : Design) (word place : ℕ) → MatchesAt design place word → place < length design.instrs
match_within design word place m = within (slice_get design.instrs place) refl m
  where
    within : (o : Option Instr) → slice_get design.instrs place ≡ o → IsSomeAnd o (λ i. Matches i word) → place < length design.instrs
    within None at h = absurd h
    within (Some i) at h = slice_get_within design.instrs place i at

pub match_read : (design : Design) (instrs : List Instr) → instrs ≡ design.instrs → (word place : ℕ) → IsOnlyMatch design word place → (instr : Instr) → instr ≡ get_or instrs place instr → slice_get design.instrs place ≡ Some instr
match_read design instrs e word place m instr is = instr_read design instrs e place (match_within design word place m.matches) instr is

take_whole : {X : Type 0} (xs : List X) → take (length xs) xs ≡ xs
take_whole [] = refl
take_whole (x ∷ xs) = ap (λ ys. x ∷ ys) (take_whole xs)

-- the greatest over all instructions
pub out_all : (design : Design) (instrs : List Instr) → instrs ≡ design.instrs → (older : Instr) (n most : ℕ) → n ≡ length instrs
    → most ≡ greatest (λ (other : Instr). gap_between (accesses design older None) (accesses design other None)) (take n instrs) → most ≡ instr_out design older
unfolding instr_out
out_all design instrs e older n most whole is =
    is ∙ ap (λ k. greatest (λ (other : Instr). gap_between (accesses design older None) (accesses design other None)) (take k instrs)) whole
    ∙ ap (greatest (λ (other : Instr). gap_between (accesses design older None) (accesses design other None))) (take_whole instrs ∙ e)

pub some_here : {X : Type 0} (P : X → Type 0) (o : Option X) (x : X) → o ≡ Some x → P x → IsSomeAnd o P
some_here P o x e h = rw e h
