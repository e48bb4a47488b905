-- What a slot takes in a clean design.
use Rattle.std.proofs.Common.{◌≡◌, ◌≢◌, ℕ, zero, suc, ◌^◌, ◌<◌, Bool, true, false, List, [], ◌∷◌, Some, refl, sym, ap, subst, ◌∙◌, arith, eqb-true, map}
use Rattle.std.specs.Prelude.{slice_get, filter, zip, if◌then◌else◌, ◌==◌, ◌||◌, Contains}
use Rattle.std.specs.List.{AllByRecursion as Each}
use Rattle.std.specs.Prelude.{IsSomeAnd, Option, None}
use Rattle.std.proofs.lemmas.Bool.{eqb-false}
use Rattle.std.proofs.lemmas.List.Elements.{Contains-append_right}
use Rattle.ap_desc.specs.Designs.{Matches}
use Rattle.ap_desc.specs.Sound.{AreApart, ShareNoWord}
use Rattle.ap_desc.specs.declared.design.Design.{Design}
use Rattle.ap_desc.specs.declared.design.Instr.{Instr}
use Rattle.ap_model.specs.Fire.{is_match}
use Rattle.ap_net.specs.Readings.{Reading}
use Rattle.ap_ctl.specs.Building.{is_on}
use Rattle.ap_pipe.specs.Slots.{AreHomes}
use Rattle.ap_pipe.specs.declared.table.Home.{Home}
use Rattle.ap_flight.specs.declared.entry.Leaving.{Leaving}
use Rattle.ap_flight.specs.Entries.{Leaves, is_in_slot, is_left, leaving_of, left_to}
use Rattle.ap_flight.specs.Locals.{AreConditions, AreValues}

share_none : (bits word : ℕ) (one other : Instr) (instrs : List Instr) (i : ℕ) → word < 2 ^ bits → Each (ShareNoWord bits one) instrs → slice_get instrs i ≡ Some other → is_match word one ≡ true → is_match word other ≡ true → ⊥
share_none bits word one other [] i lt each at m n = cc
share_none bits word one other (x ∷ instrs) zero lt each at m n =
    let same : x ≡ other = cc in
    each.0 word lt (eqb-true _ _ m) (subst (λ (y : Instr). Matches y word) (sym same) (eqb-true _ _ n))
share_none bits word one other (x ∷ instrs) (suc i) lt each at m n = share_none bits word one other instrs i lt each.1 at m n

-- a word matches one instruction at most
pub matches_once : (bits word : ℕ) (instrs : List Instr) (i j : ℕ) (one other : Instr) → word < 2 ^ bits → AreApart bits instrs → slice_get instrs i ≡ Some one → slice_get instrs j ≡ Some other → is_match word one ≡ true → is_match word other ≡ true → i ≡ j
matches_once bits word [] i j one other lt apart at there m n = cc
matches_once bits word (x ∷ instrs) zero zero one other lt apart at there m n = refl
matches_once bits word (x ∷ instrs) zero (suc j) one other lt apart at there m n =
    let same : x ≡ one = cc in
    absurd (share_none bits word x other instrs j lt apart.0 there (subst (λ (y : Instr). is_match word y ≡ true) (sym same) m) n)
matches_once bits word (x ∷ instrs) (suc i) zero one other lt apart at there m n =
    let same : x ≡ other = cc in
    absurd (share_none bits word x one instrs i lt apart.0 at (subst (λ (y : Instr). is_match word y ≡ true) (sym same) n) m)
matches_once bits word (x ∷ instrs) (suc i) (suc j) one other lt apart at there m n = ap suc (matches_once bits word instrs i j one other lt apart.1 at there m n)

-- whether the slot of a home is this one
pub slot_split : (P : List Leaving → Type 0) (slot : ℕ) (home : Home) (l : Leaving) (homes : List Home) (list : List Leaving) → (home.slot ≡ slot → P (l ∷ left_to slot homes list)) → (home.slot ≢ slot → P (left_to slot homes list)) → P (left_to slot (home ∷ homes) (l ∷ list))
slot_split P slot home l homes list here there = by (home.slot == slot) refl where
  by : (b : Bool) → (home.slot == slot) ≡ b → P (map leaving_of (if b then (home, l) ∷ filter (is_in_slot slot) (zip homes list) else filter (is_in_slot slot) (zip homes list)))
  by true e = here (eqb-true home.slot slot e)
  by false e = there (eqb-false home.slot slot e)

module _ (design : Design) (word : ℕ) (lt : word < 2 ^ design.word) (apart : AreApart design.word design.instrs) (r : Reading) (value : ℕ → ℕ) (home : Home) (instr : Instr)
    (at : slice_get design.instrs home.instr ≡ Some instr) (m : is_match word instr ≡ true) where
  -- all homes of these have their instruction, and of one instruction each slot has one local
  abbrev pub IsFit : Home → Type 0
  IsFit other = ((i : Instr) × (slice_get design.instrs other.instr ≡ Some i)) × (other.instr ≡ home.instr → other.slot ≡ home.slot → other.local ≡ home.local)

  leaves_one : (other : Home) (l : Leaving) → IsFit other → other.slot ≡ home.slot → ((i : Instr) → slice_get design.instrs other.instr ≡ Some i → is_on r l.cond ≡ is_match word i) → (is_on r l.cond ≡ true → r.read l.net.number ≡ value other.local) → Leaves r (value home.local) l
  leaves_one other l fit slot cond values on =
      let i : Instr = fit.0.0 in
      let n : is_match word i ≡ true = sym (cond i fit.0.1) ∙ on in
      let same : other.instr ≡ home.instr = matches_once design.word word design.instrs other.instr home.instr i instr lt apart fit.0.1 at n m in
      values on ∙ ap value (fit.1 same slot)

  -- each that leaves something to the slot leaves the local's value
  pub leaves_all : (homes : List Home) (list : List Leaving) → Each IsFit homes → AreConditions design word r homes list → AreValues r value homes list → Each (Leaves r (value home.local)) (left_to home.slot homes list)
  leaves_all [] [] fit conds values = tt
  leaves_all [] (l ∷ list) fit conds values = absurd conds
  leaves_all (other ∷ homes) [] fit conds values = absurd conds
  leaves_all (other ∷ homes) (l ∷ list) fit conds values =
      let rest = leaves_all homes list fit.1 conds.1 values.1 in
      slot_split (Each (Leaves r (value home.local))) home.slot other l homes list (λ slot. (leaves_one other l fit.0 slot conds.0 values.0, rest)) (λ ne. rest)

  -- and one leaves something
  pub one_leaves : (homes : List Home) (list : List Leaving) (place : ℕ) → slice_get homes place ≡ Some home → AreConditions design word r homes list → is_left r (left_to home.slot homes list) ≡ true
  one_leaves [] list place there conds = cc
  one_leaves (other ∷ homes) [] place there conds = absurd conds
  one_leaves (other ∷ homes) (l ∷ list) zero there conds =
      let same : other ≡ home = cc in
      let on : is_on r l.cond ≡ true = conds.0 instr (ap (λ (h : Home). slice_get design.instrs h.instr) same ∙ at) ∙ m in
      slot_split (λ ls. is_left r ls ≡ true) home.slot other l homes list (λ slot. ap (λ b. b || is_left r (left_to home.slot homes list)) on) (λ ne. absurd (ne (ap (λ (h : Home). h.slot) same)))
  one_leaves (other ∷ homes) (l ∷ list) (suc place) there conds =
      let rest = one_leaves homes list place there conds.1 in
      slot_split (λ ls. is_left r ls ≡ true) home.slot other l homes list (λ slot. either_true (is_on r l.cond) (is_left r (left_to home.slot homes list)) rest) (λ ne. rest)
    where
      either_true : (a b : Bool) → b ≡ true → (a || b) ≡ true
      either_true true b e = refl
      either_true false b e = e

-- Homes of a table.

pub each_of : {X : Type 0} (P : X → Type 0) (xs : List X) → ((x : X) → Contains xs x → P x) → Each P xs
each_of P [] f = tt
each_of P (x ∷ xs) f = (f x (0, omega arith, refl), each_of P xs (λ y h. f y (Contains-append_right (x ∷ []) xs y h)))

pub contained : {X : Type 0} (xs : List X) (i : ℕ) (x : X) → slice_get xs i ≡ Some x → Contains xs x
contained [] i x at = cc
contained (y ∷ xs) zero x at = let same : y ≡ x = cc in subst (λ z. Contains (y ∷ xs) z) same (0, omega arith, refl)
contained (y ∷ xs) (suc i) x at = Contains-append_right (y ∷ []) xs x (contained xs i x at)

there_is : {X : Type 0} (o : Option X) (P : X → Type 0) → IsSomeAnd o P → (x : X) × (o ≡ Some x)
there_is None P h = absurd h
there_is (Some x) P h = (x, refl)

pub all_fit : (design : Design) (word : ℕ) (lt : word < 2 ^ design.word) (apart : AreApart design.word design.instrs) (r : Reading) (value : ℕ → ℕ) (home : Home) (instr : Instr)
    (at : slice_get design.instrs home.instr ≡ Some instr) (m : is_match word instr ≡ true) (stage : ℕ) (widths : List ℕ) (homes : List Home) → AreHomes design stage widths homes → Contains homes home
    → Each (IsFit design word lt apart r value home instr at m) homes
all_fit design word lt apart r value home instr at m stage widths homes are here =
    each_of (IsFit design word lt apart r value home instr at m) homes (λ other there. (there_is (slice_get design.instrs other.instr) _ (are.live other there), are.apart other home there here))
