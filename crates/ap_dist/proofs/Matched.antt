-- The instruction that is found is the one of the machines, and instructions of a clean design are within the limits.
use Rattle.std.proofs.Common.{◌≡◌, ℕ, zero, suc, ◌<◌, true, false, Bool, List, [], ◌∷◌, length, Option, Some, None, inl, inr, refl, sym, ap, ◌∙◌}
use Rattle.std.specs.Prelude.{bit_and, find, slice_get, IsSomeAnd, nat_le, nat_lt}
use Rattle.std.specs.Option.{option_map_or}
use Rattle.std.specs.List.{AllByRecursion as Each, list_all}
use Rattle.std.proofs.lemmas.Bool.{and_parts, both_ways, cases_Bool, cond-false, cond-true, eq-eqb, eqb-true, ltb-true}
use Rattle.std.proofs.lemmas.Option.{same_Some}
use Rattle.ap_desc.specs.Designs.{Matches, is_instr_within}
use Rattle.ap_desc.specs.Sound.{IsSound}
use Rattle.ap_desc.specs.declared.design.Design.{Design}
use Rattle.ap_desc.specs.declared.design.Instr.{Instr}
use Rattle.ap_desc.specs.declared.design.Micro.{Micro}
use Rattle.ap_enc.specs.Words.{IsOnlyMatch, MatchesAt}
use Rattle.ap_model.specs.Fire.{instr_of, is_match}
use Rattle.ap_dist.specs.Accesses.{accesses, accesses_of}

-- what each of these has, the one at a place has
pub passes_here : {X : Type 0} (test : X → Bool) (xs : List X) → list_all test xs ≡ true → (i : ℕ) (x : X) → slice_get xs i ≡ Some x → test x ≡ true
passes_here test [] e i x at = absurd cc
passes_here test (y ∷ ys) e zero x at = let here : y ≡ x = cc in ap test (sym here) ∙ (and_parts (test y) (list_all test ys) e).0
passes_here test (y ∷ ys) e (suc i) x at = passes_here test ys (and_parts (test y) (list_all test ys) e).1 i x at

pub each_from : {X : Type 0} (P : X → Type 0) (xs : List X) → ((i : ℕ) (x : X) → slice_get xs i ≡ Some x → P x) → Each P xs
each_from P [] all = tt
each_from P (x ∷ xs) all = (all 0 x refl, each_from P xs (λ i y at. all (suc i) y at))

pub each_here : {X : Type 0} (P : X → Type 0) (xs : List X) → Each P xs → (i : ℕ) (x : X) → slice_get xs i ≡ Some x → P x
each_here P [] h i x at = absurd cc
each_here P (y ∷ ys) h zero x at = let here : y ≡ x = cc in rw here at h.0
each_here P (y ∷ ys) h (suc i) x at = each_here P ys h.1 i x at

-- the first that passes, where one does
pub record IsFoundAt {X : Type 0} (test : X → Bool) (xs : List X) (x : X) : Type 0 where
  pub place : ℕ
  pub is_there : slice_get xs place ≡ Some x
  pub passes : test x ≡ true

found_later : {X : Type 0} (test : X → Bool) (y : X) (ys : List X) (x : X) → IsFoundAt test ys x → IsFoundAt test (y ∷ ys) x
found_later test y ys x f = record { place = suc f.place; is_there = f.is_there; passes = f.passes }

pub found_at : {X : Type 0} (test : X → Bool) (xs : List X) (x : X) → find test xs ≡ Some x → IsFoundAt test xs x
found_at test [] x e = absurd cc
found_at test (y ∷ ys) x e = elim (cases_Bool (test y)) [
  | inl passes ↦ (let is : y ≡ x = same_Some y x (sym (cond-true (test y) (Some y) (find test ys) passes) ∙ e) in record { place = 0; is_there = ap Some is; passes = ap test (sym is) ∙ passes })
  | inr fails ↦ found_later test y ys x (found_at test ys x (sym (cond-false (test y) (Some y) (find test ys) fails) ∙ e))
]

is_later : {X : Type 0} (test : X → Bool) (y : X) (ys : List X) (x : X) (i : ℕ) → slice_get (y ∷ ys) i ≡ Some x → test x ≡ true → find test ys ≡ None → test y ≡ false
    → ((j : ℕ) → slice_get ys j ≡ Some x → test x ≡ true → find test ys ≡ None → ⊥) → ⊥
is_later test y ys x zero at passes none late rest = (let here : y ≡ x = same_Some y x at in both_ways (test y) late (ap test here ∙ passes))
is_later test y ys x (suc j) at passes none late rest = rest j at passes none

-- where one passes, one is found
pub is_found : {X : Type 0} (test : X → Bool) (xs : List X) (i : ℕ) (x : X) → slice_get xs i ≡ Some x → test x ≡ true → find test xs ≡ None → ⊥
is_found test [] i x at passes e = absurd cc
is_found test (y ∷ ys) i x at passes e = elim (cases_Bool (test y)) [
  | inl early ↦ (let some : find test (y ∷ ys) ≡ Some y = cond-true (test y) (Some y) (find test ys) early in absurd cc)
  | inr late ↦ is_later test y ys x i at passes (sym (cond-false (test y) (Some y) (find test ys) late) ∙ e) late (λ j. is_found test ys j x)
]

matches_at : (design : Design) (word place : ℕ) (instr : Instr) → slice_get design.instrs place ≡ Some instr → is_match word instr ≡ true → MatchesAt design place word
matches_at design word place instr at e =
    let matches : Matches instr word = eqb-true (bit_and word instr.fixed_mask) instr.fixed_value e in
    some_and (slice_get design.instrs place) at matches
  where
    some_and : (o : Option Instr) → o ≡ Some instr → Matches instr word → IsSomeAnd o (λ i. Matches i word)
    some_and o e h = rw e h

-- the one match is what the machines fire
pub matched_instr : (design : Design) (word place : ℕ) (instr : Instr) → slice_get design.instrs place ≡ Some instr → IsOnlyMatch design word place → instr_of design word ≡ Some instr
unfolding instr_of
matched_instr design word place instr at m = pick (find (is_match word) design.instrs) refl (here (slice_get design.instrs place) at m.matches)
  where
    here : (o : Option Instr) → o ≡ Some instr → IsSomeAnd o (λ i. Matches i word) → Matches instr word
    here None e h = absurd h
    here (Some i) e h = (let same : i ≡ instr = same_Some i instr e in rw same at h)

    pick : (o : Option Instr) → find (is_match word) design.instrs ≡ o → Matches instr word → o ≡ Some instr
    pick None e h = absurd (is_found (is_match word) design.instrs place instr at (eq-eqb (bit_and word instr.fixed_mask) instr.fixed_value h) e)
    pick (Some i) e h =
        let first = found_at (is_match word) design.instrs i e in
        let places : first.place ≡ place = m.only first.place (matches_at design word first.place i first.is_there first.passes) in
        sym first.is_there ∙ ap (slice_get design.instrs) places ∙ at

pub unmatched_word : (design : Design) (word : ℕ) → ((place : ℕ) → MatchesAt design place word → ⊥) → instr_of design word ≡ None
unfolding instr_of
unmatched_word design word none = pick (find (is_match word) design.instrs) refl
  where
    pick : (o : Option Instr) → find (is_match word) design.instrs ≡ o → o ≡ None
    pick None e = refl
    pick (Some i) e = (let first = found_at (is_match word) design.instrs i e in absurd (none first.place (matches_at design word first.place i first.is_there first.passes)))

pub word_accesses : (design : Design) (word : ℕ) (instr : Instr) → instr_of design word ≡ Some instr → accesses_of design word ≡ accesses design instr (Some word)
word_accesses design word instr e = ap (λ o. option_map_or (λ (i : Instr). accesses design i (Some word)) o []) e

pub no_accesses : (design : Design) (word : ℕ) → instr_of design word ≡ None → accesses_of design word ≡ []
no_accesses design word e = ap (λ o. option_map_or (λ (i : Instr). accesses design i (Some word)) o []) e

-- the instruction of a word stands at a place
pub instr_place : (design : Design) (word : ℕ) (instr : Instr) → instr_of design word ≡ Some instr → IsFoundAt (is_match word) design.instrs instr
unfolding instr_of
instr_place design word instr e = found_at (is_match word) design.instrs instr e

-- the stage of a line of a sound design is below the number of stages
pub stage_below : (design : Design) → IsSound design → (place : ℕ) (instr : Instr) → slice_get design.instrs place ≡ Some instr → (line : ℕ) (m : Micro) → slice_get instr.micros line ≡ Some m → m.stage < design.stages
stage_below design sound place instr at line m there =
    let within = passes_here (is_instr_within design.stages) design.instrs (and_parts (nat_le (length design.instrs) 256) (list_all (is_instr_within design.stages) design.instrs) sound.within.instrs).1 place instr at in
    ltb-true m.stage design.stages (passes_here (λ (x : Micro). nat_lt x.stage design.stages) instr.micros (and_parts (nat_le (length instr.micros) 64) (list_all (λ (x : Micro). nat_lt x.stage design.stages) instr.micros) within).1 line m there)
