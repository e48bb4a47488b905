-- The constants of an instruction's locals, gathered line by line.
use Rattle.std.proofs.Common.{◌≡◌, ℕ, zero, suc, ◌+◌, ◌<◌, ◌≤◌, ◌⊎◌, true, false, cond, Bool, List, [], ◌∷◌, ◌++◌, length, get_or, set, take, Option, Some, None, inl, inr, refl, sym, ap, ◌∙◌, arith}
use Rattle.std.specs.Prelude.{◌==◌, filter, slice_get, option_and_then}
use Rattle.std.proofs.lemmas.Bool.{cases_eq, cases_lt}
use Rattle.std.proofs.lemmas.List.{append-nil, get_or-set_other, get_or-set_same, length-append, length-set}
use Rattle.std.proofs.lemmas.List.Elements.{filter_more}
use Rattle.std.proofs.lemmas.Option.{same_Some, slice_get-get_or, slice_get_past, slice_get_within}
use Rattle.ap_desc.specs.Chains.{makers}
use Rattle.ap_desc.specs.Designs.{assigned_count}
use Rattle.ap_desc.specs.declared.design.Instr.{Instr}
use Rattle.ap_desc.specs.declared.design.Micro.{Micro}
use Rattle.ap_dist.specs.Accesses.{constant_of}
use Rattle.ap_dist.specs.Constants.{HasConstants}

push_here : {X : Type 0} (xs : List X) (x : X) → slice_get (xs ++ x ∷ []) (length xs) ≡ Some x
push_here [] x = refl
push_here (y ∷ ys) x = push_here ys x

push_other : {X : Type 0} (xs : List X) (x : X) (i : ℕ) → (i ≡ length xs → ⊥) → slice_get (xs ++ x ∷ []) i ≡ slice_get xs i
push_other [] x zero differ = absurd (differ refl)
push_other [] x (suc i) differ = refl
push_other (y ∷ ys) x zero differ = refl
push_other (y ∷ ys) x (suc i) differ = push_other ys x i (λ e. differ (ap suc e))

-- whether a line makes a local
abbrev pub is_maker : Micro → Bool
is_maker m = assigned_count m.act == 1

-- the constants of the lines before a place, which make so many locals
pub record IsGathered (lines : List Micro) (place count : ℕ) (values : List (Option ℕ)) : Type 0 where
  pub size : length values ≡ 64
  pub few : count ≤ place
  pub count_is : count ≡ length (filter is_maker (take place lines))
  pub each : (local : ℕ) → local < 64 → slice_get values local ≡ Some (option_and_then constant_of (slice_get (filter is_maker (take place lines)) local))

pub gathered_none : (lines : List Micro) (values : List (Option ℕ)) → length values ≡ 64 → ((local : ℕ) → local < 64 → get_or values local None ≡ None) → IsGathered lines 0 0 values
gathered_none lines values size nones = record {
  size = size;
  few = omega arith;
  count_is = refl;
  each = λ local lt. (let room : local < length values = omega arith in slice_get-get_or values local None room ∙ ap Some (nones local lt));
}

-- a line that makes no local
pub gathered_skip : (lines : List Micro) (place count : ℕ) (values : List (Option ℕ)) (d : Micro) → IsGathered lines place count values → place < length lines → is_maker (get_or lines place d) ≡ false → IsGathered lines (place + 1) count values
gathered_skip lines place count values d g lt fails =
    let same : filter is_maker (take (place + 1) lines) ≡ filter is_maker (take place lines) =
    filter_more is_maker lines place d lt ∙ ap (λ b. filter is_maker (take place lines) ++ cond b (get_or lines place d ∷ []) []) fails ∙ append-nil (filter is_maker (take place lines)) in
    record {
      size = g.size;
      few = (let few = g.few in omega arith);
      count_is = g.count_is ∙ ap length (sym same);
      each = λ local lt. g.each local lt ∙ ap (λ ms. Some (option_and_then constant_of (slice_get ms local))) (sym same);
    }

-- a line that makes one
pub gathered_more : (lines : List Micro) (place count : ℕ) (values : List (Option ℕ)) (d : Micro) (value : Option ℕ) → IsGathered lines place count values → place < length lines → place < 64 → is_maker (get_or lines place d) ≡ true
    → value ≡ constant_of (get_or lines place d) → IsGathered lines (place + 1) (count + 1) (set values count value)
gathered_more lines place count values d value g lt small passes is =
    let one : filter is_maker (take (place + 1) lines) ≡ filter is_maker (take place lines) ++ get_or lines place d ∷ [] =
    filter_more is_maker lines place d lt ∙ ap (λ b. filter is_maker (take place lines) ++ cond b (get_or lines place d ∷ []) []) passes in
    let few = g.few in
    let size = g.size in
    let room : count < length values = omega arith in
    record {
      size = length-set values count value ∙ size;
      few = omega arith;
      count_is = ap (λ n. n + 1) g.count_is ∙ sym (length-append (filter is_maker (take place lines)) (get_or lines place d ∷ [])) ∙ ap length (sym one);
      each = λ local less. at room local less (cases_eq local count) ∙ ap (λ ms. Some (option_and_then constant_of (slice_get ms local))) (sym one);
    }
  where
    made : List Micro
    made = filter is_maker (take place lines)

    at : count < length values → (local : ℕ) → local < 64 → (local ≡ count) ⊎ (local ≡ count → ⊥) → slice_get (set values count value) local ≡ Some (option_and_then constant_of (slice_get (filter is_maker (take place lines) ++ get_or lines place d ∷ []) local))
    at room local less (inl same) =
        let here : slice_get (set values count value) count ≡ Some value =
        slice_get-get_or (set values count value) count None (let long = length-set values count value in omega arith) ∙ ap Some (get_or-set_same values count value None room) in
        let last : slice_get (filter is_maker (take place lines) ++ get_or lines place d ∷ []) local ≡ Some (get_or lines place d) =
        ap (slice_get (filter is_maker (take place lines) ++ get_or lines place d ∷ [])) (same ∙ g.count_is) ∙ push_here (filter is_maker (take place lines)) (get_or lines place d) in
        ap (slice_get (set values count value)) same ∙ here ∙ ap Some is ∙ ap (λ o. Some (option_and_then constant_of o)) (sym last)
    at room local less (inr differ) =
        let long = length-set values count value in
        let size = g.size in
        let within : local < length (set values count value) = omega arith in
        let before : local < length values = omega arith in
        let same : slice_get (set values count value) local ≡ slice_get values local =
        slice_get-get_or (set values count value) local None within ∙ ap Some (get_or-set_other values count local value None differ) ∙ sym (slice_get-get_or values local None before) in
        same ∙ g.each local less ∙ ap (λ o. Some (option_and_then constant_of o)) (sym (push_other (filter is_maker (take place lines)) (get_or lines place d) local (λ e. differ (e ∙ sym g.count_is))))

take_whole : {X : Type 0} (xs : List X) → take (length xs) xs ≡ xs
take_whole [] = refl
take_whole (x ∷ xs) = ap (λ ys. x ∷ ys) (take_whole xs)

-- those of all lines
pub gathered_all : (instr : Instr) (lines : List Micro) (place count : ℕ) (values : List (Option ℕ)) → lines ≡ instr.micros → IsGathered lines place count values → place ≡ length lines → length instr.micros ≤ 64 → HasConstants instr values
gathered_all instr lines place count values e g end small =
    let whole : filter is_maker (take place lines) ≡ makers instr = ap (λ n. filter is_maker (take n lines)) end ∙ ap (filter is_maker) (take_whole lines ∙ e) in
    let all : length lines ≡ length instr.micros = ap length e in
    let few = g.few in
    let count_is : count ≡ length (makers instr) = g.count_is ∙ ap length whole in
    record {
      size = g.size;
      each = λ local lt. g.each local lt ∙ ap (λ ms. Some (option_and_then constant_of (slice_get ms local))) whole;
      beyond = λ local le. slice_get_past (makers instr) local (omega arith);
    }

-- the constant of a local, as it is looked up
pub looked_up : (instr : Instr) (values : List (Option ℕ)) (local : ℕ) (value : Option ℕ) → HasConstants instr values → slice_get values local ≡ Some value → value ≡ option_and_then constant_of (slice_get (makers instr) local)
looked_up instr values local value h at =
    let within = slice_get_within values local value at in
    let size = h.size in
    let less : local < 64 = omega arith in
    same_Some value (option_and_then constant_of (slice_get (makers instr) local)) (sym at ∙ h.each local less)

pub not_looked_up : (instr : Instr) (values : List (Option ℕ)) (local : ℕ) → HasConstants instr values → slice_get values local ≡ None → None ≡ option_and_then constant_of (slice_get (makers instr) local)
not_looked_up instr values local h none = elim (cases_lt local 64) [
  | inl less ↦ (let some = h.each local less in absurd cc)
  | inr past ↦ ap (option_and_then constant_of) (sym (h.beyond local past))
]
