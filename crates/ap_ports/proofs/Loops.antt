-- The first line that closes a loop of some stage, from those of each stage.
use Rattle.std.proofs.Common.{◌≡◌, ℕ, ◌+◌, ◌<◌, ◌≤◌, min, true, length, Option, Some, None, inl, inr, subst, arith, ltb-true}
use Rattle.std.specs.Prelude.{◌⊎◌, nat_le}
use Rattle.std.specs.List.{list_all}
use Rattle.std.specs.Option.{option_map_or}
use Rattle.std.proofs.lemmas.Bool.{and_parts, cases_eq, cases_lt}
use Rattle.ap_desc.specs.Chains.{ClosesLoop, IsLooped}
use Rattle.ap_desc.specs.Designs.{is_instr_within, is_stage}
use Rattle.ap_desc.specs.Ports.{micros_in}
use Rattle.ap_desc.specs.Sound.{IsSound}
use Rattle.ap_desc.specs.declared.design.Design.{Design}
use Rattle.ap_desc.specs.declared.design.Instr.{Instr}
use Rattle.ap_desc.specs.declared.design.Micro.{Micro}
use Rattle.ap_ports.specs.Firsts.{ClosesSome, IsFirst}
use Rattle.ap_ports.proofs.Flat.{flat_from}
use Rattle.ap_ports.proofs.Members.{passes_at, place_of}

-- the line closes a loop of one of so many stages
abbrev pub ClosesBelow : Design → ℕ → ℕ → Type 0
ClosesBelow design stages line = (stage : ℕ) × (stage < stages) × ClosesLoop design stage line

-- the law that a line which closes a loop leaves the stage with one, and that it is the only one
abbrev pub LeavesLoop : Design → Type 0
LeavesLoop design = (stage line : ℕ) → ClosesLoop design stage line → IsLooped design stage (λ n. true)

abbrev pub ClosesOnce : Design → Type 0
ClosesOnce design = (stage line other : ℕ) → ClosesLoop design stage line → ClosesLoop design stage other → line ≡ other

pub no_stage : (design : Design) → IsFirst (ClosesBelow design 0) None
no_stage design = λ line (stage, low, closes). (omega arith)

-- of one stage more: an earlier one, or the last
split_stage : (design : Design) (stages line : ℕ) → ClosesBelow design (stages + 1) line → ClosesBelow design stages line ⊎ ClosesLoop design stages line
split_stage design stages line (stage, low, closes) = elim (cases_eq stage stages) [
  | inl same ↦ inr (subst (λ s. ClosesLoop design s line) same closes)
  | inr other ↦ elim (cases_lt stage stages) [ inl less ↦ inl (stage, less, closes) | inr more ↦ absurd (other (omega arith)) ]
]

keep_stage : (design : Design) (stages line : ℕ) → ClosesBelow design stages line → ClosesBelow design (stages + 1) line
keep_stage design stages line (stage, low, closes) = (stage, omega arith, closes)

-- a stage without a loop
pub open_stage : (design : Design) → LeavesLoop design → (stages : ℕ) (found : Option ℕ) → (IsLooped design stages (λ n. true) → ⊥) → IsFirst (ClosesBelow design stages) found → IsFirst (ClosesBelow design (stages + 1)) found
open_stage design leaves stages None so_far first = λ line closes. elim (split_stage design stages line closes) [ inl before ↦ first line before | inr here ↦ so_far (leaves stages line here) ]
open_stage design leaves stages (Some least) so_far first =
    (keep_stage design stages least first.0, λ line closes. elim (split_stage design stages line closes) [ inl before ↦ first.1 line before | inr here ↦ absurd (so_far (leaves stages line here)) ])

abbrev pub lower_of : Option ℕ → ℕ → ℕ
lower_of least line = option_map_or (λ other. min other line) least line

-- a stage with one
pub closed_stage : (design : Design) → ClosesOnce design → (stages line : ℕ) (found : Option ℕ) → ClosesLoop design stages line → IsFirst (ClosesBelow design stages) found
    → IsFirst (ClosesBelow design (stages + 1)) (Some (lower_of found line))
closed_stage design once stages line None closes first = (
  (stages, omega arith, closes),
  λ other also. elim (split_stage design stages other also) [
    | inl before ↦ absurd (first other before)
    | inr here ↦ (let same = once stages line other closes here in omega arith)
  ],
)
closed_stage design once stages line (Some least) closes first = (
  holds (cases_lt least line),
  λ other also. elim (split_stage design stages other also) [
    | inl before ↦ (let le : least ≤ other = first.1 other before in omega arith)
    | inr here ↦ (let same = once stages line other closes here in omega arith)
  ],
)
  where
    holds : ((least < line) ⊎ (line ≤ least)) → ClosesBelow design (stages + 1) (min least line)
    holds (inl less) = subst (ClosesBelow design (stages + 1)) (let e : least ≡ min least line = omega arith in e) (keep_stage design stages least first.0)
    holds (inr le) = subst (ClosesBelow design (stages + 1)) (let e : line ≡ min least line = omega arith in e) (stages, omega arith, closes)

stage_low : (design : Design) → IsSound design → (stage line : ℕ) → ClosesLoop design stage line → stage < design.stages
stage_low design sound stage line closes =
    let (j, at) = place_of (micros_in design) closes.micro closes.is_line in
    let s = flat_from (λ (i : Instr). i.micros) design.instrs j closes.micro at in
    let within = passes_at (is_instr_within design.stages) design.instrs (and_parts (nat_le (length design.instrs) 256) (list_all (is_instr_within design.stages) design.instrs) sound.within.instrs).1 s.number s.item s.is_item in
    let each = (and_parts (nat_le (length s.item.micros) 64) (list_all (λ (m : Micro). is_stage design.stages m.stage) s.item.micros) within).1 in
    let low : closes.micro.stage < design.stages = ltb-true closes.micro.stage design.stages (passes_at (λ (m : Micro). is_stage design.stages m.stage) s.item.micros each s.place closes.micro s.is_there) in
    let is : closes.micro.stage ≡ stage = closes.in_stage in
    omega arith

pub all_stages : (design : Design) → IsSound design → (stages : ℕ) (found : Option ℕ) → design.stages ≤ stages → IsFirst (ClosesBelow design stages) found → IsFirst (ClosesSome design) found
all_stages design sound stages None past first = λ line closes. (let low = stage_low design sound closes.0 line closes.1 in first line (closes.0, omega arith, closes.1))
all_stages design sound stages (Some least) past first =
    ((first.0.0, first.0.2), λ line closes. (let low = stage_low design sound closes.0 line closes.1 in first.1 line (closes.0, omega arith, closes.1)))
