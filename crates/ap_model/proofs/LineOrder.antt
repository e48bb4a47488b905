-- The order of an instruction's lines, and how many locals they assign.
use Rattle.std.proofs.Common.{◌≡◌, ℕ, suc, ◌+◌, ◌≤◌, ◌==◌, nat_lt, not, Bool, true, false, if◌then◌else◌, List, [], ◌∷◌, ◌++◌, length, filter, filter_map, cond, slice_get, Some, refl, ap, ◌∙◌, arith}
use Rattle.std.specs.List.{cons_option}
use Rattle.ap_desc.specs.Designs.{assigned_count, local_width, fields_of}
use Rattle.ap_desc.specs.declared.design.Act.{Act}
use Rattle.ap_desc.specs.declared.design.Act.TheVariants as act
use Rattle.ap_desc.specs.declared.design.Design.{Design}
use Rattle.ap_desc.specs.declared.design.Instr.{Instr}
use Rattle.ap_desc.specs.declared.design.Micro.{Micro}
use Rattle.ap_model.specs.Fitting.{assigned_by, assigned_width}
use Rattle.ap_model.specs.Runnable.{NeverFall}
use Rattle.ap_model.proofs.StageLemmas.{before, below_or_same, none_before, tail_order, within}

-- How many locals lines assign.

abbrev pub count : List Micro → ℕ
count [] = 0
count (m ∷ micros) = assigned_count m.act + count micros

split_two : (m : Micro) (xs ys zs : List Micro) (first second : Bool) → first ≡ not second → count xs + count ys ≡ count zs → count (cond first (m ∷ xs) xs) + count (cond second (m ∷ ys) ys) ≡ count (m ∷ zs)
split_two m xs ys zs true true e h = cc
split_two m xs ys zs true false e h = omega (arith, h)
split_two m xs ys zs false true e h = omega (arith, h)
split_two m xs ys zs false false e h = cc

pub first_below : (x : Micro) (earlier : List Micro) (m : Micro) (rest : List Micro) → NeverFall (x ∷ earlier ++ m ∷ rest) → x.stage ≤ m.stage
first_below x [] m rest order = order.0
first_below x (y ∷ earlier) m rest order = let later = first_below y earlier m rest order.1 in omega (arith, order.0, later)

-- the lines before one of the stage are those of earlier stages and those of the stage before it
pub split_earlier : (stage : ℕ) (earlier : List Micro) (m : Micro) (rest : List Micro) → NeverFall (earlier ++ m ∷ rest) → m.stage ≡ stage → count (before stage (earlier ++ m ∷ rest)) + count (within stage earlier) ≡ count earlier
split_earlier stage [] m rest order e = let none = ap count (none_before stage m rest order (omega (arith, e))) in omega (arith, none)
split_earlier stage (x ∷ earlier) m rest order e =
    let low : x.stage ≤ stage = let below = first_below x earlier m rest order in omega (arith, below, e) in
    split_two x (before stage (earlier ++ m ∷ rest)) (within stage earlier) earlier (nat_lt x.stage stage) (x.stage == stage) (below_or_same x.stage stage low) (split_earlier stage earlier m rest (tail_order x (earlier ++ m ∷ rest) order) e)

pub within_more : (stage : ℕ) (earlier : List Micro) (m : Micro) → count (within stage (earlier ++ m ∷ [])) ≡ count (within stage earlier) + (if m.stage == stage then assigned_count m.act else 0)
within_more stage [] m = go (m.stage == stage)
  where
    go : (b : Bool) → count (cond b (m ∷ []) []) ≡ 0 + (if b then assigned_count m.act else 0)
    go true = omega arith
    go false = refl
within_more stage (x ∷ earlier) m = go (x.stage == stage) (within_more stage earlier m)
  where
    go : (b : Bool) → count (within stage (earlier ++ m ∷ [])) ≡ count (within stage earlier) + (if m.stage == stage then assigned_count m.act else 0)
        → count (cond b (x ∷ within stage (earlier ++ m ∷ [])) (within stage (earlier ++ m ∷ []))) ≡ count (cond b (x ∷ within stage earlier) (within stage earlier)) + (if m.stage == stage then assigned_count m.act else 0)
    go true h = omega (arith, h)
    go false h = h

-- a line that assigns a local stands among the makers at the count of the lines before it
pub at_maker : (earlier : List Micro) (m : Micro) (rest : List Micro) → assigned_count m.act ≡ 1 → slice_get (filter (λ (m : Micro). assigned_count m.act == 1) (earlier ++ m ∷ rest)) (count earlier) ≡ Some m
at_maker [] m rest e = ap (λ n. slice_get (cond (n == 1) (m ∷ filter (λ (m : Micro). assigned_count m.act == 1) rest) (filter (λ (m : Micro). assigned_count m.act == 1) rest)) 0) e
at_maker (x ∷ earlier) m rest e = go x.act (at_maker earlier m rest e)
  where
    both : (n : ℕ) → n ≡ 1 → slice_get (filter (λ (m : Micro). assigned_count m.act == 1) (earlier ++ m ∷ rest)) (count earlier) ≡ Some m
        → slice_get (x ∷ filter (λ (m : Micro). assigned_count m.act == 1) (earlier ++ m ∷ rest)) (n + count earlier) ≡ Some m
    both n one h = let more : n + count earlier ≡ suc (count earlier) = omega (arith, one) in ap (slice_get (x ∷ filter (λ (m : Micro). assigned_count m.act == 1) (earlier ++ m ∷ rest))) more ∙ h

    none : slice_get (filter (λ (m : Micro). assigned_count m.act == 1) (earlier ++ m ∷ rest)) (count earlier) ≡ Some m → slice_get (filter (λ (m : Micro). assigned_count m.act == 1) (earlier ++ m ∷ rest)) (0 + count earlier) ≡ Some m
    none h = let same : 0 + count earlier ≡ count earlier = omega arith in ap (slice_get (filter (λ (m : Micro). assigned_count m.act == 1) (earlier ++ m ∷ rest))) same ∙ h

    go : (a : Act) → slice_get (filter (λ (m : Micro). assigned_count m.act == 1) (earlier ++ m ∷ rest)) (count earlier) ≡ Some m
        → slice_get (cond (assigned_count a == 1) (x ∷ filter (λ (m : Micro). assigned_count m.act == 1) (earlier ++ m ∷ rest)) (filter (λ (m : Micro). assigned_count m.act == 1) (earlier ++ m ∷ rest))) (assigned_count a + count earlier) ≡ Some m
    go (act.WriteFile file number index v guard) h = none h
    go (act.WriteReg reg v guard) h = none h
    go (act.WriteMem mem at v guard) h = none h
    go (act.Branch c t) h = none h
    go (act.Jump t) h = none h
    go _ h = both 1 refl h

one_width : (design : Design) (instr : Instr) (a : Act) (xs : List ℕ) → length (cons_option (local_width design instr.locals (fields_of design instr) a) xs) ≡ assigned_count a + length xs
one_width design instr (act.WriteFile file number index v guard) xs = omega arith
one_width design instr (act.WriteReg reg v guard) xs = omega arith
one_width design instr (act.WriteMem mem at v guard) xs = omega arith
one_width design instr (act.Branch c t) xs = omega arith
one_width design instr (act.Jump t) xs = omega arith
one_width design instr _ xs = omega arith

pub widths_count : (design : Design) (instr : Instr) (micros : List Micro) → assigned_by design instr micros ≡ count micros
widths_count design instr [] = refl
widths_count design instr (m ∷ micros) = let rest = widths_count design instr micros in let one = one_width design instr m.act (filter_map (assigned_width design instr) micros) in omega (arith, rest, one)
