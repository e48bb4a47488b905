-- One step of a search, by what the drivers of nets read.
use Rattle.std.proofs.Common.{◌≡◌, ℕ, ◌+◌, ◌<◌, List, [], ◌∷◌, ◌++◌, length, length-append, get_or, set, Some, inl, inr, sym, ap, subst, ◌∙◌, arith, suc}
use Rattle.std.specs.Prelude.{◌⊎◌, slice_get}
use Rattle.std.specs.List.{AllByRecursion as Each}
use Rattle.std.proofs.lemmas.Bool.{cases_eq}
use Rattle.std.proofs.lemmas.List.Sums.{sum_by-set}
use Rattle.std.proofs.lemmas.Option.{slice_get_within, slice_get-get_or}
use Rattle.ap_net.specs.Pending.{Among}
use Rattle.ap_net.proofs.Lists.{get_end, some_same}
use Rattle.ap_flat.specs.Dependence.{IsLooped}
use Rattle.ap_flat.specs.Drivers.{AreWithin, Reads, reads_of}
use Rattle.ap_flat.specs.declared.driver.Driver.{Driver}
use Rattle.ap_flat.specs.declared.order.Mark.{Mark}
use Rattle.ap_flat.specs.declared.order.Mark.TheVariants as mark
use Rattle.ap_flat.specs.Searching.{EndsWith, IsSearch, StaysBegun, StaysDone, most_steps, steps_left}
use Rattle.ap_flat.proofs.Searches.{opens, closes, closes_stay, closes_loop, set_same, set_other}

pub each_among : (P : ℕ → Type 0) (ns : List ℕ) (m : ℕ) → Each P ns → Among ns m → P m
each_among P [] m each among = absurd among
each_among P (n ∷ ns) m each (inl same) = subst P same each.0
each_among P (n ∷ ns) m each (inr later) = each_among P ns m each.1 later

module _ (drivers : List Driver) (marks : List Mark) (path order : List ℕ) (n : ℕ) (s : IsSearch (Reads drivers) marks path order) (ends : EndsWith path n) where
  split : IsSearch (Reads drivers) marks (ends.front ++ n ∷ []) order
  split = subst (λ p. IsSearch (Reads drivers) marks p order) ends.is s

  pub end_open : slice_get marks n ≡ Some mark.Open
  end_open = split.opened (length ends.front) n (get_end ends.front n)

  pub end_low : n < length marks
  end_low = slice_get_within marks n mark.Open end_open

  module _ (by : Driver) (at : slice_get drivers n ≡ Some by) where
    -- it reads what is done alone
    pub step_close : (rest : List ℕ) → ((front : List ℕ) → path ≡ front ++ n ∷ [] → rest ≡ front) → Each (λ m. slice_get marks m ≡ Some mark.Done) (reads_of by) → IsSearch (Reads drivers) (set marks n mark.Done) rest (order ++ n ∷ [])
    step_close rest is each =
        subst (λ p. IsSearch (Reads drivers) (set marks n mark.Done) p (order ++ n ∷ [])) (sym (is ends.front ends.is))
        (closes (Reads drivers) marks ends.front order n split (λ m r. each_among (λ k. slice_get marks k ≡ Some mark.Done) (reads_of by) m each (subst (λ d. Among (reads_of d) m) (some_same (sym r.at ∙ at)) r.read)))

    -- it reads a net to which the search hasn't come
    pub step_open : (m : ℕ) → Among (reads_of by) m → slice_get marks m ≡ Some mark.New → IsSearch (Reads drivers) (set marks m mark.Open) (path ++ m ∷ []) order
    step_open m among new = opens (Reads drivers) marks path order m s new (λ k i there last. subst (λ j. Reads drivers j m) (sym (same k i there last)) (record { by = by; at = at; read = among }))
      where
        same : (k i : ℕ) → slice_get path i ≡ Some k → suc i ≡ length path → k ≡ n
        same k i there last =
            let long : length path ≡ length ends.front + 1 = ap length ends.is ∙ length-append ends.front (n ∷ []) in
            let place : i ≡ length ends.front = omega arith in
            some_same (sym there ∙ ap (λ l. slice_get l i) ends.is ∙ ap (slice_get (ends.front ++ n ∷ [])) place ∙ get_end ends.front n)

    -- it reads a net of the path
    pub step_loop : (m : ℕ) → Among (reads_of by) m → slice_get marks m ≡ Some mark.Open → IsLooped (Reads drivers)
    step_loop m among seen = closes_loop (Reads drivers) marks ends.front order n m split (record { by = by; at = at; read = among }) seen

  pub close_stays : StaysDone marks (set marks n mark.Done)
  close_stays = closes_stay (Reads drivers) marks ends.front order n split

  pub close_begun : StaysBegun marks (set marks n mark.Done)
  close_begun m at = elim (cases_eq m n) [
    | inl same ↦ inr (subst (λ k. slice_get (set marks n mark.Done) k ≡ Some mark.Done) (sym same) (set_same marks n mark.Done end_low))
    | inr ne ↦ inl (set_other marks n m mark.Done ne ∙ at)
  ]

  pub close_smaller : (rest : List ℕ) → ((front : List ℕ) → path ≡ front ++ n ∷ [] → rest ≡ front) → most_steps (set marks n mark.Done) rest < most_steps marks path
  close_smaller rest is =
      let sum = sum_by-set steps_left marks n mark.Done mark.New end_low in
      let here : get_or marks n mark.New ≡ mark.Open = some_same (sym (slice_get-get_or marks n mark.New end_low) ∙ end_open) in
      let weight : steps_left (get_or marks n mark.New) ≡ 0 = ap steps_left here in
      let long : length path ≡ length ends.front + 1 = ap length ends.is ∙ length-append ends.front (n ∷ []) in
      let short : length rest ≡ length ends.front = ap length (is ends.front ends.is) in
      omega arith

pub open_begun : (marks : List Mark) (n : ℕ) → slice_get marks n ≡ Some mark.New → StaysBegun marks (set marks n mark.Open)
open_begun marks n new m at = elim (cases_eq m n) [
  | inl same ↦ inl (subst (λ k. slice_get (set marks n mark.Open) k ≡ Some mark.Open) (sym same) (set_same marks n mark.Open (slice_get_within marks n mark.New new)))
  | inr ne ↦ inl (set_other marks n m mark.Open ne ∙ at)
]

pub open_smaller : (marks : List Mark) (path : List ℕ) (n : ℕ) → slice_get marks n ≡ Some mark.New → most_steps (set marks n mark.Open) (path ++ n ∷ []) < most_steps marks path
open_smaller marks path n new =
    let low : n < length marks = slice_get_within marks n mark.New new in
    let sum = sum_by-set steps_left marks n mark.Open mark.Done low in
    let here : get_or marks n mark.Done ≡ mark.New = some_same (sym (slice_get-get_or marks n mark.Done low) ∙ new) in
    let weight : steps_left (get_or marks n mark.Done) ≡ 2 = ap steps_left here in
    let long : length (path ++ n ∷ []) ≡ length path + 1 = length-append path (n ∷ []) in
    omega arith

-- what a driver reads is declared
pub reads_low : (drivers : List Driver) (count n : ℕ) (by : Driver) → AreWithin drivers count → slice_get drivers n ≡ Some by → Each (λ m. m < count) (reads_of by)
reads_low drivers count n by within at = within n by at

pub open_stays : (marks : List Mark) (n : ℕ) → slice_get marks n ≡ Some mark.New → StaysDone marks (set marks n mark.Open)
open_stays marks n new m at = elim (cases_eq m n) [
  | inl same ↦ (let wrong : mark.New ≡ mark.Done = some_same (sym new ∙ ap (slice_get marks) (sym same) ∙ at) in absurd cc)
  | inr ne ↦ set_other marks n m mark.Open ne ∙ at
]

-- the mark that was read at a place
pub mark_at : (marks : List Mark) (i : ℕ) (x y : Mark) → i < length marks → x ≡ get_or marks i x → x ≡ y → slice_get marks i ≡ Some y
mark_at marks i x y lt at is = slice_get-get_or marks i x lt ∙ ap Some (sym at ∙ is)

-- the first net of a path
pub first_open : (drivers : List Driver) (marks : List Mark) (path order : List ℕ) (n : ℕ) → IsSearch (Reads drivers) marks path order → path ≡ [] → slice_get marks n ≡ Some mark.New
    → IsSearch (Reads drivers) (set marks n mark.Open) (path ++ n ∷ []) order
first_open drivers marks path order n s empty new = opens (Reads drivers) marks path order n s new (λ m i at last. (let none : slice_get [] i ≡ Some m = ap (λ l. slice_get l i) (sym empty) ∙ at in absurd cc))

pub begun_first : (marks : List Mark) (n : ℕ) → slice_get marks n ≡ Some mark.New → (slice_get (set marks n mark.Open) n ≡ Some mark.Open) ⊎ (slice_get (set marks n mark.Open) n ≡ Some mark.Done)
begun_first marks n new = inl (set_same marks n mark.Open (slice_get_within marks n mark.New new))

-- a path with nets ends with the last one
pub ends_with_last : (path : List ℕ) (i n : ℕ) → i + 1 ≡ length path → n ≡ get_or path i n → EndsWith path n
ends_with_last [] i n long at = absurd (omega arith)
ends_with_last (x ∷ []) i n long at = record { front = []; is = (let first : i ≡ 0 = omega arith in let same : n ≡ x = at ∙ ap (λ k. get_or (x ∷ []) k n) first in ap (λ k. k ∷ []) (sym same)) }
ends_with_last (x ∷ y ∷ path) i n long at =
    let up : i ≡ suc (length path) = omega arith in
    let rest = ends_with_last (y ∷ path) (length path) n (omega arith) (at ∙ ap (λ k. get_or (x ∷ y ∷ path) k n) up) in
    record { front = x ∷ rest.front; is = ap (λ l. x ∷ l) rest.is }
