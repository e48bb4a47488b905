-- How many there are.
use Rattle.std.proofs.Common.{◌≡◌, ℕ, zero, suc, ◌+◌, ◌≤◌, Bool, true, false, cond, List, [], ◌∷◌, ◌++◌, length, filter, filter_map, Option, Some, None, refl, ap, ◌∙◌, arith}
use Rattle.std.specs.Prelude.{◌==◌, option_to_list}
use Rattle.std.specs.List.{AllByRecursion as Each, cons_option, range_with_len}
use Rattle.ap_desc.specs.Chains.{makers}
use Rattle.ap_desc.proofs.DesignLaws.{locals_by_lines}
use Rattle.ap_desc.specs.Designs.{assigned_count, fields_of}
use Rattle.ap_desc.specs.declared.design.Act.{Act}
use Rattle.ap_desc.specs.declared.design.Act.TheVariants as act
use Rattle.ap_desc.specs.declared.design.Design.{Design}
use Rattle.ap_model.specs.Fitting.{IsGood}
use Rattle.ap_model.proofs.LineOrder.{count, widths_count}
use Rattle.ap_desc.specs.declared.design.Instr.{Instr}
use Rattle.ap_desc.specs.declared.design.Micro.{Micro}
use Rattle.ap_ports.specs.Numbered.{AreNumbered}
use Rattle.ap_ports.specs.Numbers.{IsNumbered}

few_pass : {X : Type 0} (test : X → Bool) (xs : List X) → length (filter test xs) ≤ length xs
few_pass test [] = omega arith
few_pass test (x ∷ xs) = go (test x) (few_pass test xs)
  where
    go : (b : Bool) → length (filter test xs) ≤ length xs → length (cond b (x ∷ filter test xs) (filter test xs)) ≤ suc (length xs)
    go true h = omega (arith, h)
    go false h = omega (arith, h)

-- no more lines make locals than there are
pub few_makers : (instr : Instr) → length (makers instr) ≤ length instr.micros
few_makers instr = few_pass (λ (m : Micro). assigned_count m.act == 1) instr.micros

cons_is : {Y : Type 0} (o : Option Y) (ys zs : List Y) → cons_option o (ys ++ zs) ≡ cons_option o ys ++ zs
cons_is None ys zs = refl
cons_is (Some y) ys zs = refl

none_after : {Y : Type 0} (o : Option Y) → cons_option o [] ≡ option_to_list o
none_after None = refl
none_after (Some y) = refl

-- what one more number of a range gives
range_more : {Y : Type 0} (f : ℕ → Option Y) (a n m : ℕ) → m ≡ a + n → filter_map f (range_with_len a (suc n)) ≡ filter_map f (range_with_len a n) ++ option_to_list (f m)
range_more f a zero m e = let same : a ≡ m = omega (arith, e) in none_after (f a) ∙ ap (λ k. option_to_list (f k)) same
range_more f a (suc n) m e =
    ap (cons_option (f a)) (range_more f (a + 1) n m (omega (arith, e)))
    ∙ cons_is (f a) (filter_map f (range_with_len (a + 1) n)) (option_to_list (f m))

pub given_more : {Y : Type 0} (f : ℕ → Option Y) (n : ℕ) → filter_map f (range_with_len 0 (n + 1)) ≡ filter_map f (range_with_len 0 n) ++ option_to_list (f n)
given_more f n = let more : n + 1 ≡ suc n = omega arith in ap (λ k. filter_map f (range_with_len 0 k)) more ∙ range_more f 0 n n (omega arith)

each_pass : {X : Type 0} (P : X → Type 0) (test : X → Bool) (xs : List X) → Each P xs → Each P (filter test xs)
each_pass P test [] each = tt
each_pass {X} P test (x ∷ xs) each = go (test x) (each_pass P test xs each.1)
  where
    go : (b : Bool) → Each P (filter test xs) → Each P (cond b (x ∷ filter test xs) (filter test xs))
    go true h = (each.0, h)
    go false h = h

-- lines that make locals have numbers where all lines have
pub makers_numbered : (instr : Instr) → AreNumbered instr.micros → AreNumbered (makers instr)
makers_numbered instr numbered = each_pass (λ (m : Micro). IsNumbered m.act) (λ (m : Micro). assigned_count m.act == 1) instr.micros numbered

count_few : (micros : List Micro) → count micros ≤ length micros
count_few [] = omega arith
count_few (m ∷ micros) = let rest = count_few micros in let one = at_most_one m.act in omega (arith, rest, one)
  where
    at_most_one : (a : Act) → assigned_count a ≤ 1
    at_most_one (act.WriteFile file number index v guard) = omega arith
    at_most_one (act.WriteReg reg v guard) = omega arith
    at_most_one (act.WriteMem mem at v guard) = omega arith
    at_most_one (act.Branch c t) = omega arith
    at_most_one (act.Jump t) = omega arith
    at_most_one _ = omega arith

-- no more locals than lines
pub few_locals : (design : Design) (instr : Instr) → IsGood design instr → length instr.locals ≤ length instr.micros
few_locals design instr good =
    let long : length instr.locals ≡ count instr.micros = ap length (locals_by_lines design (fields_of design instr) instr good.right) ∙ widths_count design instr instr.micros in
    let few = count_few instr.micros in
    omega (arith, long, few)
