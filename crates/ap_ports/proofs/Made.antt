-- The locals that an instruction's lines make, and which of them a line's operands name.
use Rattle.std.proofs.Common.{◌≡◌, ℕ, zero, suc, ◌+◌, ◌<◌, ◌≤◌, Bool, true, false, cond, List, [], ◌∷◌, length, take, filter, Option, Some, None, inl, inr, refl, subst, ap, ◌∙◌, arith, eq-eqb}
use Rattle.std.specs.Prelude.{◌⊎◌, ◌==◌, Contains, IfSome, nat_le, option_to_list, slice_get}
use Rattle.std.specs.List.{AllByRecursion as Each, list_all}
use Rattle.std.proofs.lemmas.Bool.{and_parts, leb-true}
use Rattle.std.proofs.lemmas.List.Filters.{length-filter_more}
use Rattle.std.proofs.lemmas.Option.{get_or_from_slice_get, same_Some, slice_get_within}
use Rattle.ap_desc.specs.Chains.{makers, operands_of}
use Rattle.ap_desc.specs.Designs.{AreInRange, IsArg, IsInRange, IsInstr, IsRight, assigned_count}
use Rattle.ap_desc.specs.Sound.{IsSound}
use Rattle.ap_desc.specs.declared.design.Act.{Act}
use Rattle.ap_desc.specs.declared.design.Act.TheVariants as act
use Rattle.ap_desc.specs.declared.design.Arg.{Arg}
use Rattle.ap_desc.specs.declared.design.Arg.TheVariants as arg
use Rattle.ap_desc.specs.declared.design.Design.{Design}
use Rattle.ap_desc.specs.declared.design.Field.{Field}
use Rattle.ap_desc.specs.declared.design.Format.{Format}
use Rattle.ap_desc.specs.declared.design.Instr.{Instr}
use Rattle.ap_desc.specs.declared.design.Micro.{Micro}
use Rattle.ap_ports.specs.Flow.{IsLocalOf, made_by}
use Rattle.ap_ports.specs.Numbers.{IsNumbered}
use Rattle.ap_ports.proofs.Limits.{few_lines}
use Rattle.ap_ports.proofs.Members.{each_get, place_of, some_and}
use Rattle.ap_ports.proofs.Numbered.{contained_numbered}

abbrev makes : Micro → Bool
makes m = assigned_count m.act == 1

pub one_or_none : (a : Act) → (assigned_count a ≡ 0) ⊎ (assigned_count a ≡ 1)
one_or_none (act.WriteFile file port index value guard) = inl refl
one_or_none (act.WriteReg reg value guard) = inl refl
one_or_none (act.WriteMem mem at value guard) = inl refl
one_or_none (act.Branch cond target) = inl refl
one_or_none (act.Jump target) = inl refl
one_or_none _ = inr refl

-- Places among what passes a test.

pub filter_at : {X : Type 0} (p : X → Bool) (xs : List X) (i : ℕ) (x : X) → slice_get xs i ≡ Some x → p x ≡ true → slice_get (filter p xs) (length (filter p (take i xs))) ≡ Some x
filter_at p [] i x at passes = absurd cc
filter_at p (y ∷ ys) zero x at passes =
    let same : y ≡ x = same_Some y x at in
    let here : p y ≡ true = ap p same ∙ passes in
    ap (λ b. slice_get (cond b (y ∷ filter p ys) (filter p ys)) 0) here ∙ at
filter_at p (y ∷ ys) (suc i) x at passes = go (filter_at p ys i x at passes) (p y) where
  go : slice_get (filter p ys) (length (filter p (take i ys))) ≡ Some x → (b : Bool) → slice_get (cond b (y ∷ filter p ys) (filter p ys)) (length (cond b (y ∷ filter p (take i ys)) (filter p (take i ys)))) ≡ Some x
  go rest true = rest
  go rest false = rest

filter_take : {X : Type 0} (p : X → Bool) (xs : List X) (i : ℕ) → length (filter p (take i xs)) ≤ length (filter p xs)
filter_take p xs zero = omega arith
filter_take p [] (suc i) = omega arith
filter_take p (y ∷ ys) (suc i) = go (filter_take p ys i) (p y) where
  go : length (filter p (take i ys)) ≤ length (filter p ys) → (b : Bool) → length (cond b (y ∷ filter p (take i ys)) (filter p (take i ys))) ≤ length (cond b (y ∷ filter p ys) (filter p ys))
  go rest true = omega arith
  go rest false = rest

filter_least : {X : Type 0} (p : X → Bool) (xs : List X) (i : ℕ) → length (filter p (take i xs)) ≤ i
filter_least p xs zero = omega arith
filter_least p [] (suc i) = omega arith
filter_least p (y ∷ ys) (suc i) = go (filter_least p ys i) (p y) where
  go : length (filter p (take i ys)) ≤ i → (b : Bool) → length (cond b (y ∷ filter p (take i ys)) (filter p (take i ys))) ≤ suc i
  go rest true = omega arith
  go rest false = omega arith

-- the local of a line is the next one
pub maker_at : (instr : Instr) (place : ℕ) (m : Micro) → slice_get instr.micros place ≡ Some m → assigned_count m.act ≡ 1 → slice_get (makers instr) (made_by (take place instr.micros)) ≡ Some m
maker_at instr place m at one = filter_at makes instr.micros place m at (eq-eqb (assigned_count m.act) 1 one)

pub made_enough : (instr : Instr) (place : ℕ) → made_by (take place instr.micros) ≤ length (makers instr)
made_enough instr place = filter_take makes instr.micros place

made_count : (micros : List Micro) (place : ℕ) (m : Micro) → slice_get micros place ≡ Some m → made_by (take (place + 1) micros) ≡ made_by (take place micros) + cond (makes m) 1 0
made_count micros place m at =
    length-filter_more makes micros place m (slice_get_within micros place m at) ∙ ap (λ x. made_by (take place micros) + cond (makes x) 1 0) (get_or_from_slice_get micros place m m at)

pub made_more : (micros : List Micro) (place : ℕ) (m : Micro) → slice_get micros place ≡ Some m → assigned_count m.act ≡ 1 → made_by (take (place + 1) micros) ≡ made_by (take place micros) + 1
made_more micros place m at one = made_count micros place m at ∙ ap (λ b. made_by (take place micros) + cond b 1 0) (eq-eqb (assigned_count m.act) 1 one)

pub made_same : (micros : List Micro) (place : ℕ) (m : Micro) → slice_get micros place ≡ Some m → assigned_count m.act ≡ 0 → made_by (take (place + 1) micros) ≡ made_by (take place micros)
made_same micros place m at none =
    let count = made_count micros place m at ∙ ap (λ n. made_by (take place micros) + cond (n == 1) 1 0) none in
    omega arith

-- Operands.

local_arg : (count : ℕ) (fields : List Field) (a : Arg) → IsArg count fields a → IsLocalOf count a
local_arg count fields (arg.Local i) h = h
local_arg count fields _ h = tt

guard_args : (count : ℕ) (fields : List Field) (guard : Option Arg) → IfSome guard (IsArg count fields) → Each (IsLocalOf count) (option_to_list guard)
guard_args count fields None h = tt
guard_args count fields (Some a) h = (local_arg count fields a h, tt)

module _ (design : Design) (count : ℕ) (fields : List Field) where
  args_of : (a : Act) → IsInRange design count fields a → Each (IsLocalOf count) (operands_of a)
  args_of (act.Compute unit op a b) h = (local_arg count fields a h.1, (local_arg count fields b h.2, tt))
  args_of (act.ReadFile file port index) h = (local_arg count fields index h.1, tt)
  args_of (act.ReadReg reg) h = tt
  args_of (act.ReadMem mem at) h = (local_arg count fields at h.1, tt)
  args_of (act.ReadIn input) h = tt
  args_of (act.Const width value) h = tt
  args_of (act.Zext width a) h = (local_arg count fields a h, tt)
  args_of (act.Sext width a) h = (local_arg count fields a h, tt)
  args_of (act.Slice high low a) h = (local_arg count fields a h, tt)
  args_of (act.Cat a b) h = (local_arg count fields a h.0, (local_arg count fields b h.1, tt))
  args_of (act.WriteFile file port index value guard) h = (local_arg count fields index h.1, (local_arg count fields value h.2, guard_args count fields guard h.3))
  args_of (act.WriteReg reg value guard) h = (local_arg count fields value h.1, guard_args count fields guard h.2)
  args_of (act.WriteMem mem at value guard) h = (local_arg count fields at h.1, (local_arg count fields value h.2, guard_args count fields guard h.3))
  args_of (act.Branch cond target) h = (local_arg count fields cond h.0, (local_arg count fields target h.1, tt))
  args_of (act.Jump target) h = (local_arg count fields target h, tt)

made_first : (m : Micro) (micros : List Micro) → made_by (m ∷ micros) ≡ assigned_count m.act + made_by micros
made_first m micros = elim (one_or_none m.act) [
  | inl none ↦ (let e : made_by (m ∷ micros) ≡ made_by micros = ap (λ n. length (cond (n == 1) (m ∷ filter makes micros) (filter makes micros))) none in omega arith)
  | inr one ↦ (let e : made_by (m ∷ micros) ≡ suc (made_by micros) = ap (λ n. length (cond (n == 1) (m ∷ filter makes micros) (filter makes micros))) one in omega arith)
]

range_at : (design : Design) (fields : List Field) (micros : List Micro) (before place count : ℕ) (m : Micro) → AreInRange design before fields micros → slice_get micros place ≡ Some m → count ≡ before + made_by (take place micros) → IsInRange design count fields m.act
range_at design fields [] before place count m h at e = absurd cc
range_at design fields (x ∷ xs) before zero count m h at e =
    let same : x ≡ m = same_Some x m at in
    let is : before ≡ count = omega arith in
    subst (λ (y : Micro). IsInRange design count fields y.act) same (subst (λ n. IsInRange design n fields x.act) is h.0)
range_at design fields (x ∷ xs) before (suc place) count m h at e =
    let more = made_first x (take place xs) in
    let is : count ≡ (before + assigned_count x.act) + made_by (take place xs) = omega arith in
    range_at design fields xs (before + assigned_count x.act) place count m h.1 at is

-- a line of a sound design's instruction
pub record IsLine (design : Design) (instr : Instr) (place : ℕ) (m : Micro) : Type 0 where
  pub room : made_by (take place instr.micros) < 64
  pub operands : Each (IsLocalOf (made_by (take place instr.micros))) (operands_of m.act)
  pub numbered : IsNumbered m.act

each_wider : (count : ℕ) (xs : List Arg) → count ≤ 64 → Each (IsLocalOf count) xs → Each (IsLocalOf 64) xs
each_wider count [] le h = tt
each_wider count (arg.Local i ∷ xs) le h = (let low : i < count = h.0 in omega arith, each_wider count xs le h.1)
each_wider count (_ ∷ xs) le h = (tt, each_wider count xs le h.1)

pub local_operands : (design : Design) (instr : Instr) (place : ℕ) (m : Micro) → IsLine design instr place m → Each (IsLocalOf 64) (operands_of m.act)
local_operands design instr place m line = let room = line.room in each_wider (made_by (take place instr.micros)) (operands_of m.act) (omega arith) line.operands

pub line_of : (design : Design) → IsSound design → (instr : Instr) → Contains design.instrs instr → (place : ℕ) (m : Micro) → slice_get instr.micros place ≡ Some m → IsLine design instr place m
line_of design sound instr there place m at =
    let (number, is_there) = place_of design.instrs instr there in
    let few = few_lines design sound number instr is_there in
    let low = slice_get_within instr.micros place m at in
    let least = filter_least makes instr.micros place in
    let (format, has, right) = some_and (λ (f : Format). IsInstr design f.fields instr) (slice_get design.formats instr.format) (each_get (IsRight design) design.instrs number instr sound.instrs is_there) in
    record {
      room = omega arith;
      operands = args_of design (made_by (take place instr.micros)) format.fields m.act
          (range_at design format.fields instr.micros 0 place (made_by (take place instr.micros)) m right.range at (omega arith));
      numbered = each_get (λ (x : Micro). IsNumbered x.act) instr.micros place m (contained_numbered design sound instr there) at;
    }
