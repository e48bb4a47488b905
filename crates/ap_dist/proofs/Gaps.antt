-- The stages of accesses, and the gaps of two.
use Rattle.std.proofs.Common.{◌≡◌, ℕ, zero, suc, ◌+◌, ◌-◌, ◌<◌, ◌≤◌, true, false, cond, Bool, List, [], ◌∷◌, length, Option, Some, None, inl, inr, refl, sym, ap, ◌∙◌, arith}
use Rattle.std.specs.Prelude.{◌==◌, ◌&&◌, ◌||◌, not, slice_get, option_and_then, nat_le, nat_lt}
use Rattle.std.specs.List.{flat_map, list_all, list_any}
use Rattle.std.proofs.lemmas.Bool.{and_from, and_parts, leb-true, cases_lt, eq-eqb, or_left, or_right}
use Rattle.std.proofs.lemmas.List.Folds.{list_any-append}
use Rattle.std.proofs.lemmas.Option.{same_Some}
use Rattle.ap_desc.specs.Clean.{IsClean}
use Rattle.ap_desc.specs.Designs.{is_instr_within}
use Rattle.ap_desc.specs.declared.design.Design.{Design}
use Rattle.ap_desc.specs.declared.design.Instr.{Instr}
use Rattle.ap_desc.specs.declared.design.Micro.{Micro}
use Rattle.ap_desc.specs.declared.design.Arg.{Arg}
use Rattle.ap_desc.specs.declared.design.Act.{Act}
use Rattle.ap_desc.specs.declared.design.Act.TheVariants as act
use Rattle.ap_desc.specs.declared.fault.Fault.TheVariants as f
use Rattle.ap_dist.specs.Accesses.{access_by, access_of, accesses}
use Rattle.ap_dist.specs.Distances.{do_conflict, gap, gap_between, greatest, places_between}
use Rattle.ap_dist.specs.Limits.{IsWithinLimits}
use Rattle.ap_dist.specs.declared.access.Access.{Access}
use Rattle.ap_dist.proofs.Greatest.{kept_at, most_within}
use Rattle.ap_dist.proofs.Matched.{each_from, passes_here, stage_below}

any_here : {X : Type 0} (test : X → Bool) (xs : List X) (i : ℕ) (x : X) → slice_get xs i ≡ Some x → test x ≡ true → list_any test xs ≡ true
any_here test [] i x at passes = absurd cc
any_here test (y ∷ ys) zero x at passes = let here : y ≡ x = cc in or_left (test y) (list_any test ys) (ap test here ∙ passes)
any_here test (y ∷ ys) (suc i) x at passes = or_right (test y) (list_any test ys) (any_here test ys i x at passes)

any_line : (test : Micro → Bool) (instrs : List Instr) (place : ℕ) (instr : Instr) → slice_get instrs place ≡ Some instr → list_any test instr.micros ≡ true → list_any test (flat_map (λ (i : Instr). i.micros) instrs) ≡ true
any_line test [] place instr at any = absurd cc
any_line test (i ∷ is) zero instr at any =
    let here : i ≡ instr = cc in
    list_any-append test i.micros (flat_map (λ (x : Instr). x.micros) is) ∙ or_left (list_any test i.micros) (list_any test (flat_map (λ (x : Instr). x.micros) is)) (ap (λ (x : Instr). list_any test x.micros) here ∙ any)
any_line test (i ∷ is) (suc place) instr at any =
    list_any-append test i.micros (flat_map (λ (x : Instr). x.micros) is) ∙ or_right (list_any test i.micros) (list_any test (flat_map (λ (x : Instr). x.micros) is)) (any_line test is place instr at any)

-- no line of a clean design is in stage 0
pub stage_from_1 : (design : Design) → IsClean design → (place : ℕ) (instr : Instr) → slice_get design.instrs place ≡ Some instr → (line : ℕ) (m : Micro) → slice_get instr.micros line ≡ Some m → 1 ≤ m.stage
stage_from_1 design clean place instr at line m there = elim (cases_lt 0 m.stage) [
  | inl some ↦ omega arith
  | inr none ↦ (let zero_stage : m.stage ≡ 0 = omega arith in
      absurd (clean.faultless f.StageZero m.line (any_line (λ (x : Micro). (x.stage == 0) && (x.line == m.line)) design.instrs place instr at
      (any_here (λ (x : Micro). (x.stage == 0) && (x.line == m.line)) instr.micros line m there (and_from (m.stage == 0) (m.line == m.line) (eq-eqb m.stage 0 zero_stage) (eq-eqb m.line m.line refl))))))
]

pub within_limits : (design : Design) → IsClean design → (place : ℕ) (instr : Instr) → slice_get design.instrs place ≡ Some instr → IsWithinLimits instr
within_limits design clean place instr at =
    let within = passes_here (is_instr_within design.stages) design.instrs (and_parts (nat_le (length design.instrs) 256) (list_all (is_instr_within design.stages) design.instrs) clean.sound.within.instrs).1 place instr at in
    let most : design.stages ≤ 8 = leb-true design.stages 8 (and_parts (nat_le 2 design.stages) (nat_le design.stages 8) clean.sound.within.stages).1 in
    record {
      lines = leb-true (length instr.micros) 64 (and_parts (nat_le (length instr.micros) 64) (list_all (λ (x : Micro). nat_lt x.stage design.stages) instr.micros) within).0;
      stages = each_from (λ (m : Micro). (1 ≤ m.stage) × (m.stage ≤ 8)) instr.micros (λ line m there.
          (stage_from_1 design clean place instr at line m there, (let less = stage_below design clean.sound place instr at line m there in omega arith)));
    }

-- an access is in the stage of its line
pub access_stage : (index : Arg → Option ℕ) (stage : ℕ) (a : Act) (access : Access) → access_by index stage a ≡ Some access → access.stage ≡ stage
access_stage index stage (act.ReadReg reg) access e = ap (λ (x : Access). x.stage) (sym (same_Some _ access e))
access_stage index stage (act.ReadFile file port i) access e = ap (λ (x : Access). x.stage) (sym (same_Some _ access e))
access_stage index stage (act.ReadMem mem at) access e = ap (λ (x : Access). x.stage) (sym (same_Some _ access e))
access_stage index stage (act.WriteReg reg value guard) access e = ap (λ (x : Access). x.stage) (sym (same_Some _ access e))
access_stage index stage (act.WriteFile file port i value guard) access e = ap (λ (x : Access). x.stage) (sym (same_Some _ access e))
access_stage index stage (act.WriteMem mem at value guard) access e = ap (λ (x : Access). x.stage) (sym (same_Some _ access e))
access_stage index stage _ access e = absurd cc

-- the line of an access
pub record IsOfLine (design : Design) (instr : Instr) (word : Option ℕ) (access : Access) : Type 0 where
  pub line : ℕ
  pub micro : Micro
  pub is_there : slice_get instr.micros line ≡ Some micro
  pub is_access : access_of design instr word micro ≡ Some access
  pub stage : access.stage ≡ micro.stage

line_at : (design : Design) (instr : Instr) (word : Option ℕ) (access : Access) (line : ℕ) (o : Option Micro) → slice_get instr.micros line ≡ o → option_and_then (access_of design instr word) o ≡ Some access → IsOfLine design instr word access
line_at design instr word access line None at e = absurd cc
line_at design instr word access line (Some m) at e = record { line = line; micro = m; is_there = at; is_access = e; stage = access_stage _ m.stage m.act access e }

pub line_of : (design : Design) (instr : Instr) (word : Option ℕ) (i : ℕ) (access : Access) → slice_get (accesses design instr word) i ≡ Some access → IsOfLine design instr word access
line_of design instr word i access at =
    let k = kept_at (access_of design instr word) instr.micros i access at in
    line_at design instr word access k.place (slice_get instr.micros k.place) refl k.is

pub access_from_1 : (design : Design) → IsClean design → (place : ℕ) (instr : Instr) → slice_get design.instrs place ≡ Some instr → (word : Option ℕ) (i : ℕ) (access : Access) → slice_get (accesses design instr word) i ≡ Some access → 1 ≤ access.stage
access_from_1 design clean place instr at word i access there =
    let l = line_of design instr word i access there in
    let from_1 = stage_from_1 design clean place instr at l.line l.micro l.is_there in
    let same = l.stage in
    omega arith

pub access_below : (design : Design) → IsClean design → (place : ℕ) (instr : Instr) → slice_get design.instrs place ≡ Some instr → (word : Option ℕ) (i : ℕ) (access : Access) → slice_get (accesses design instr word) i ≡ Some access → access.stage < design.stages
access_below design clean place instr at word i access there =
    let l = line_of design instr word i access there in
    let below = stage_below design clean.sound place instr at l.line l.micro l.is_there in
    let same = l.stage in
    omega arith

between_within : (one two : Bool) (p q n : ℕ) → p < n → 1 ≤ q → cond (one && not two) (p + 1 - q) (cond (one || two) (p - q) 0) ≤ n - 1
between_within true true p q n below from_1 = omega arith
between_within true false p q n below from_1 = omega arith
between_within false true p q n below from_1 = omega arith
between_within false false p q n below from_1 = omega arith

gap_if : (b : Bool) (places n : ℕ) → places ≤ n → cond b places 0 ≤ n
gap_if true places n le = le
gap_if false places n le = omega arith

-- a gap is less than the number of stages
pub gap_within : (older younger : Access) (n : ℕ) → older.stage < n → 1 ≤ younger.stage → gap older younger ≤ n - 1
gap_within older younger n below from_1 = gap_if (do_conflict older younger) (places_between older younger) (n - 1) (between_within older.writes younger.writes older.stage younger.stage n below from_1)

-- and so is a distance, in a clean design
pub between_below : (design : Design) → IsClean design → (place other : ℕ) (one two : Instr) → slice_get design.instrs place ≡ Some one → slice_get design.instrs other ≡ Some two → (word next : Option ℕ) → 2 ≤ design.stages
    → gap_between (accesses design one word) (accesses design two next) ≤ design.stages - 1
between_below design clean place other one two at again word next enough =
    let low : 1 ≤ design.stages - 1 = omega arith in
    most_within (λ a. greatest (gap a) (accesses design two next)) 1 (design.stages - 1) (accesses design one word) low (λ i a there.
    most_within (gap a) 1 (design.stages - 1) (accesses design two next) low (λ j b again_there.
    gap_within a b design.stages (access_below design clean place one at word i a there) (access_from_1 design clean other two again next j b again_there)))
