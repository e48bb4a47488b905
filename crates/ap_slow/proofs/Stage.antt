-- The stage that uses a unit.
use Rattle.std.proofs.Common.{◌≡◌, ℕ, zero, suc, ◌+◌, ◌-◌, ◌<◌, ◌≤◌, Bool, true, false, if◌then◌else◌, refl, sym, ap, subst, ◌∙◌, arith, inl, inr}
use Rattle.std.specs.Prelude.{◌⊎◌, ◌==◌, find, unwrap_or, Option, Some, None}
use Rattle.std.proofs.lemmas.Bool.{cases_lt, eqb-false, eqb-true}
use Rattle.std.specs.List.{range_with_len}
use Rattle.ap_desc.specs.declared.design.Design.{Design}
use Rattle.ap_ctl.specs.Given.{is_used_in}
use Rattle.ap_slow.specs.Driven.{unit_stage}

-- the stages that are left to look at
abbrev pub left_of : Design → ℕ → ℕ → Option ℕ
left_of design unit stage = find (λ s. is_used_in design s unit) (range_with_len stage (design.stages - stage))

step : (p : ℕ → Bool) (n count : ℕ) → find p (range_with_len n (suc count)) ≡ (if p n then Some n else find p (range_with_len (n + 1) count))
step p n count = refl

pub left_more : (design : Design) (unit stage : ℕ) → stage < design.stages → is_used_in design stage unit ≡ false → left_of design unit stage ≡ left_of design unit (stage + 1)
left_more design unit stage lt e =
    let count : design.stages - stage ≡ suc (design.stages - (stage + 1)) = omega arith in
    let p : ℕ → Bool = λ s. is_used_in design s unit in
    ap (λ n. find p (range_with_len stage n)) count ∙ ap (λ b. if b then Some stage else find p (range_with_len (stage + 1) (design.stages - (stage + 1)))) e

pub left_here : (design : Design) (unit stage : ℕ) → stage < design.stages → is_used_in design stage unit ≡ true → left_of design unit stage ≡ Some stage
left_here design unit stage lt e =
    let count : design.stages - stage ≡ suc (design.stages - (stage + 1)) = omega arith in
    let p : ℕ → Bool = λ s. is_used_in design s unit in
    ap (λ n. find p (range_with_len stage n)) count ∙ ap (λ b. if b then Some stage else find p (range_with_len (stage + 1) (design.stages - (stage + 1)))) e

pub left_none : (design : Design) (unit stage : ℕ) → design.stages ≤ stage → left_of design unit stage ≡ None
left_none design unit stage le =
    let none : design.stages - stage ≡ 0 = omega arith in
    ap (λ n. find (λ s. is_used_in design s unit) (range_with_len stage n)) none

pub stage_is : (design : Design) (unit stage : ℕ) (o : Option ℕ) → left_of design unit 1 ≡ left_of design unit stage → left_of design unit stage ≡ o → unit_stage design unit ≡ unwrap_or o 0
stage_is design unit stage o h e = ap (λ x. unwrap_or x 0) (h ∙ e)

-- What is found is a stage whose lines use the unit.

pub record FindsFirst (p : ℕ → Bool) (low count found : ℕ) : Type 0 where
  pub above : low ≤ found
  pub below : found < low + count
  pub used : p found ≡ true

finds : (p : ℕ → Bool) (low count found : ℕ) → find p (range_with_len low count) ≡ Some found → FindsFirst p low count found
finds p low zero found e = cc
finds p low (suc count) found e = go (p low) refl (finds p (low + 1) count found)
  where
    go : (b : Bool) → p low ≡ b → (find p (range_with_len (low + 1) count) ≡ Some found → FindsFirst p (low + 1) count found) → FindsFirst p low (suc count) found
    go true h rest =
        let here : Some low ≡ Some found = sym (ap (λ b. if b then Some low else find p (range_with_len (low + 1) count)) h) ∙ e in
        let same : low ≡ found = cc in
        record { above = omega arith; below = omega arith; used = subst (λ n. p n ≡ true) same h }
    go false h rest =
        let f = rest (sym (ap (λ b. if b then Some low else find p (range_with_len (low + 1) count)) h) ∙ e) in
        let l = f.above in
        let k = f.below in
        record { above = omega arith; below = omega arith; used = f.used }

finds_some : (p : ℕ → Bool) (low count n : ℕ) → low ≤ n → n < low + count → p n ≡ true → find p (range_with_len low count) ≡ None → ⊥
finds_some p low zero n le lt h e = absurd (omega arith)
finds_some p low (suc count) n le lt h e = go (p low) refl (finds_some p (low + 1) count n)
  where
    go : (b : Bool) → p low ≡ b → (low + 1 ≤ n → n < low + 1 + count → p n ≡ true → find p (range_with_len (low + 1) count) ≡ None → ⊥) → ⊥
    go true q rest = let clash : Some low ≡ None = sym (ap (λ b. if b then Some low else find p (range_with_len (low + 1) count)) q) ∙ e in cc
    go false q rest = later (low == n) refl rest
      where
        later : (b : Bool) → (low == n) ≡ b → (low + 1 ≤ n → n < low + 1 + count → p n ≡ true → find p (range_with_len (low + 1) count) ≡ None → ⊥) → ⊥
        later true s rest = let same : low ≡ n = eqb-true low n s in let clash : p n ≡ false = ap p (sym same) ∙ q in let c : true ≡ false = sym h ∙ clash in cc
        later false s rest =
            let ne : low ≡ n → ⊥ = eqb-false low n s in
            rest (less ne) (omega arith) h (sym (ap (λ b. if b then Some low else find p (range_with_len (low + 1) count)) q) ∙ e)
          where
            less : (low ≡ n → ⊥) → low + 1 ≤ n
            less ne = pick (cases_lt low n)
              where
                pick : (low < n) ⊎ (n ≤ low) → low + 1 ≤ n
                pick (inl lt) = omega arith
                pick (inr back) = absurd (ne (omega arith))

-- a stage of the design
pub record StageUses (design : Design) (unit stage : ℕ) : Type 0 where
  pub low : 1 ≤ stage
  pub high : stage ≤ design.stages - 1
  pub used : is_used_in design stage unit ≡ true

pub stage_uses : (design : Design) (unit s : ℕ) → unit_stage design unit ≡ suc s → StageUses design unit (suc s)
stage_uses design unit s e = go (find (λ stage. is_used_in design stage unit) (range_with_len 1 (design.stages - 1))) refl
  where
    go : (o : Option ℕ) → find (λ stage. is_used_in design stage unit) (range_with_len 1 (design.stages - 1)) ≡ o → StageUses design unit (suc s)
    go None q = let clash : 0 ≡ suc s = sym (ap (λ o. unwrap_or o 0) q) ∙ e in absurd (omega arith)
    go (Some n) q =
        let same : n ≡ suc s = sym (ap (λ o. unwrap_or o 0) q) ∙ e in
        let f = finds (λ stage. is_used_in design stage unit) 1 (design.stages - 1) n q in
        let l = f.above in
        let h = f.below in
        record { low = omega arith; high = omega arith; used = subst (λ k. is_used_in design k unit ≡ true) same f.used }

pub used_somewhere : (design : Design) (unit stage : ℕ) → 1 ≤ stage → stage ≤ design.stages - 1 → is_used_in design stage unit ≡ true → unit_stage design unit ≡ 0 → ⊥
used_somewhere design unit stage low high used e = go (find (λ s. is_used_in design s unit) (range_with_len 1 (design.stages - 1))) refl
  where
    go : (o : Option ℕ) → find (λ s. is_used_in design s unit) (range_with_len 1 (design.stages - 1)) ≡ o → ⊥
    go None q = finds_some (λ s. is_used_in design s unit) 1 (design.stages - 1) stage low (omega arith) used q
    go (Some n) q =
        let same : n ≡ 0 = sym (ap (λ o. unwrap_or o 0) q) ∙ e in
        let f = finds (λ s. is_used_in design s unit) 1 (design.stages - 1) n q in
        let l = f.above in
        absurd (omega arith)
