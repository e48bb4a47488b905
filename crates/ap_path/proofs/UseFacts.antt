-- What the uses of a design are: each comes from a line, and hands in three operands at most.
use Rattle.std.proofs.Common.{◌≡◌, ℕ, suc, ◌+◌, ◌*◌, ◌<◌, ◌≤◌, ◌⊎◌, List, [], ◌∷◌, ◌++◌, length, filter_map, flat_map, option_map, option_to_list, slice_get, Option, Some, None, inl, inr, refl, sym, ap, ◌∙◌, subst, arith, length-append}
use Rattle.std.specs.List.{cons_option, enumerate_from}
use Rattle.std.proofs.lemmas.Option.{same_Some, slice_get_within}
use Rattle.ap_desc.proofs.Members.{In, contains_in, in_append}
use Rattle.ap_desc.specs.Sound.{IsSound}
use Rattle.ap_desc.specs.declared.design.Act.{Act}
use Rattle.ap_desc.specs.declared.design.Act.TheVariants as act
use Rattle.ap_desc.specs.declared.design.Arg.{Arg}
use Rattle.ap_desc.specs.declared.design.Design.{Design}
use Rattle.ap_desc.specs.declared.design.Instr.{Instr}
use Rattle.ap_desc.specs.declared.design.Micro.{Micro}
use Rattle.ap_path.specs.Uses.{guard_of, handed, operand_at, port_of_line, use_of, uses_in, uses_of}
use Rattle.ap_path.specs.declared.table.PathPort.{PathPort}
use Rattle.ap_path.specs.declared.table.PathUse.{PathUse}
use Rattle.ap_ports.proofs.Limits.{few_instrs, few_lines}

-- where an element of a list of lists comes from
pub flat_from : {X Y : Type 0} (f : X → List Y) (xs : List X) (y : Y) → In y (flat_map f xs) → (x : X) × In x xs × In y (f x)
flat_from f [] y there = absurd there
flat_from f (x ∷ xs) y there = elim (in_append y (f x) (flat_map f xs) there) [
  | inl here ↦ (x, inl refl, here)
  | inr later ↦ let (z, is_in, has) = flat_from f xs y later in (z, inr is_in, has)
]

pub filter_from : {X Y : Type 0} (f : X → Option Y) (xs : List X) (y : Y) → In y (filter_map f xs) → (x : X) × In x xs × (f x ≡ Some y)
filter_from f [] y there = absurd there
filter_from {X} {Y} f (x ∷ xs) y there = go (f x) refl (λ h. filter_from f xs y h) there
  where
    go : (o : Option Y) → f x ≡ o → (In y (filter_map f xs) → (z : X) × In z xs × (f z ≡ Some y)) → In y (cons_option o (filter_map f xs)) → (z : X) × In z (x ∷ xs) × (f z ≡ Some y)
    go None gives later h = let (z, is_in, has) = later h in (z, inr is_in, has)
    go (Some w) gives later (inl same) = (x, inl refl, gives ∙ ap Some (sym same))
    go (Some w) gives later (inr h) = let (z, is_in, has) = later h in (z, inr is_in, has)

-- what a test gives of an element is there
in_option : {Y : Type 0} (o : Option Y) (ys : List Y) (y : Y) → In y ys → In y (cons_option o ys)
in_option None ys y there = there
in_option (Some x) ys y there = inr there

pub in_filtered : {X Y : Type 0} (f : X → Option Y) (xs : List X) (x : X) (y : Y) → In x xs → f x ≡ Some y → In y (filter_map f xs)
in_filtered f [] x y there gives = absurd there
in_filtered f (z ∷ xs) x y (inl here) gives = subst (λ o. In y (cons_option o (filter_map f xs))) (sym (ap f (sym here) ∙ gives)) (inl refl)
in_filtered f (z ∷ xs) x y (inr later) gives = in_option (f z) (filter_map f xs) y (in_filtered f xs x y later gives)

-- the line of a use
pub record IsUseOf (number place : ℕ) (m : Micro) (used : PathUse) : Type 0 where
  pub instr : used.instr ≡ number
  pub micro : used.micro ≡ place
  pub stage : used.stage ≡ m.stage
  pub port : port_of_line m.act ≡ Some used.port
  pub operands : used.operands ≡ handed m.act
  pub guard : used.guard ≡ guard_of m.act

pub use_is_of : (number place : ℕ) (m : Micro) (used : PathUse) → use_of number place m ≡ Some used → IsUseOf number place m used
use_is_of number place m used e = go (port_of_line m.act) refl e
  where
    made : PathPort → PathUse
    made port = record { instr = number; micro = place; stage = m.stage; port = port; operands = handed m.act; guard = guard_of m.act }

    go : (o : Option PathPort) → port_of_line m.act ≡ o → option_map made o ≡ Some used → IsUseOf number place m used
    go None is h = absurd cc
    go (Some port) is h =
        let same : made port ≡ used = same_Some (made port) used h in
        subst (IsUseOf number place m) same (record { instr = refl; micro = refl; stage = refl; port = is; operands = refl; guard = refl })

guard_is_one : (guard : Option Arg) → length (option_to_list guard) ≤ 1
guard_is_one None = omega arith
guard_is_one (Some a) = omega arith

few_handed : (a : Act) → length (handed a ++ option_to_list (guard_of a)) ≤ 3
few_handed (act.Compute u op a b) = omega arith
few_handed (act.ReadFile file port index) = omega arith
few_handed (act.ReadMem mem at) = omega arith
few_handed (act.WriteFile file port index value guard) = let one = guard_is_one guard in omega arith
few_handed (act.WriteReg reg value guard) = let one = guard_is_one guard in omega arith
few_handed (act.WriteMem mem at value guard) = let one = guard_is_one guard in omega arith
few_handed (act.Branch cond target) = omega arith
few_handed (act.Jump target) = omega arith
few_handed _ = omega arith

pub few_operands : (number place : ℕ) (m : Micro) (used : PathUse) (operand : ℕ) (a : Arg) → IsUseOf number place m used → operand_at used operand ≡ Some a → operand < 3
few_operands number place m used operand a is at =
    let few : length (used.operands ++ option_to_list used.guard) ≤ 3 = subst (λ g. length (used.operands ++ option_to_list g) ≤ 3) (sym is.guard) (subst (λ os. length (os ++ option_to_list (guard_of m.act)) ≤ 3) (sym is.operands) (few_handed m.act)) in
    let low = slice_get_within (used.operands ++ option_to_list used.guard) operand a at in
    omega arith

-- the use of a design comes from a line of an instruction
pub use_from : (design : Design) (used : PathUse) → In used (uses_of design)
    → (instr : ℕ × Instr) × (line : ℕ × Micro) × In instr (enumerate_from 0 design.instrs) × In line (enumerate_from 0 instr.1.micros) × IsUseOf instr.0 line.0 line.1 used
use_from design used there =
    let (instr, instr_there, in_it) = flat_from (λ (i : ℕ × Instr). uses_in i.0 i.1.micros) (enumerate_from 0 design.instrs) used there in
    let (line, line_there, gives) = filter_from (λ (l : ℕ × Micro). use_of instr.0 l.0 l.1) (enumerate_from 0 instr.1.micros) used in_it in
    (instr, line, instr_there, line_there, use_is_of instr.0 line.0 line.1 used gives)

-- how many uses there are
cons_longer : {Y : Type 0} (o : Option Y) (ys : List Y) → length (cons_option o ys) ≤ length ys + 1
cons_longer None ys = omega arith
cons_longer (Some y) ys = omega arith

few_given : {X Y : Type 0} (f : ℕ × X → Option Y) (n : ℕ) (xs : List X) → length (filter_map f (enumerate_from n xs)) ≤ length xs
few_given f n [] = omega arith
few_given f n (x ∷ xs) =
    let rest = few_given f (n + 1) xs in
    let one = cons_longer (f (n, x)) (filter_map f (enumerate_from (n + 1) xs)) in
    omega arith

few_in_all : (n : ℕ) (instrs : List Instr) → ((k : ℕ) (i : Instr) → slice_get instrs k ≡ Some i → length i.micros ≤ 64) → length (flat_map (λ (i : ℕ × Instr). uses_in i.0 i.1.micros) (enumerate_from n instrs)) ≤ 64 * length instrs
few_in_all n [] few = omega arith
few_in_all n (i ∷ instrs) few =
    let long = length-append (uses_in n i.micros) (flat_map (λ (j : ℕ × Instr). uses_in j.0 j.1.micros) (enumerate_from (n + 1) instrs)) in
    let here = few_given (λ (line : ℕ × Micro). use_of n line.0 line.1) 0 i.micros in
    let most = few 0 i refl in
    let rest = few_in_all (n + 1) instrs (λ k j at. few (suc k) j at) in
    omega arith

pub few_uses : (design : Design) → IsSound design → length (uses_of design) ≤ 16384
few_uses design sound =
    let all = few_in_all 0 design.instrs (few_lines design sound) in
    let instrs = few_instrs design sound in
    omega arith
