-- The first line with a fault that its instruction shows, from the first instruction and its first place with one.
use Rattle.std.proofs.Common.{◌≡◌, ℕ, ◌+◌, ◌<◌, ◌≤◌, length, Some, inl, inr, refl, sym, subst, ap, ◌∙◌, arith}
use Rattle.std.specs.Prelude.{slice_get}
use Rattle.std.proofs.lemmas.Bool.{cases_order}
use Rattle.std.proofs.lemmas.Option.{same_Some, slice_get_within}
use Rattle.ap_desc.specs.Sound.{IsSound}
use Rattle.ap_desc.specs.declared.design.Design.{Design}
use Rattle.ap_desc.specs.declared.design.Instr.{Instr}
use Rattle.ap_desc.specs.declared.design.Micro.{Micro}
use Rattle.ap_desc.specs.declared.fault.Fault.{Fault}
use Rattle.ap_desc.specs.declared.fault.Fault.TheVariants as f
use Rattle.ap_ports.specs.Firsts.{BreaksAt, BreaksIn, IsFirst}
use Rattle.ap_ports.proofs.Lines.{earlier_instr, later_place}

-- a place with a fault has a line
pub line_there : (design : Design) (instr : Instr) (kind : Fault) (place : ℕ) → BreaksAt design instr kind place → (m : Micro) × (slice_get instr.micros place ≡ Some m)
line_there design instr f.TwiceInInstruction place h = (h.0, h.1)
line_there design instr f.TwoStages place h = (h.0, h.1)
line_there design instr f.StageZero place h = (h.0, h.1)
line_there design instr f.StageOrder place h = (h.0, h.1)
line_there design instr f.EarlyCommit place h = (h.0, h.1)
line_there design instr f.UnstableOperand place h = (h.0, h.1)
line_there design instr _ place h = absurd h

pub breaks_within : (design : Design) (instr : Instr) (kind : Fault) (place : ℕ) → BreaksAt design instr kind place → place < length instr.micros
breaks_within design instr kind place h = let (m, at) = line_there design instr kind place h in slice_get_within instr.micros place m at

-- no instruction before this one has a fault of the kind
abbrev pub NoneBefore : Design → Fault → ℕ → Type 0
NoneBefore design kind number = (k : ℕ) (instr : Instr) → k < number → slice_get design.instrs k ≡ Some instr → (place : ℕ) → BreaksAt design instr kind place → ⊥

pub none_at_all : (design : Design) (kind : Fault) (number : ℕ) → length design.instrs ≤ number → NoneBefore design kind number → (line : ℕ) → BreaksIn design kind line → ⊥
none_at_all design kind number past none line b = let low = slice_get_within design.instrs b.number b.instr b.is_instr in none b.number b.instr (omega arith) b.is_instr b.place b.breaks

pub first_line_is : (design : Design) (kind : Fault) → IsSound design → (number : ℕ) (instr : Instr) → slice_get design.instrs number ≡ Some instr → NoneBefore design kind number
    → (place : ℕ) (m : Micro) → slice_get instr.micros place ≡ Some m → IsFirst (BreaksAt design instr kind) (Some place) → IsFirst (BreaksIn design kind) (Some m.line)
first_line_is design kind sound number instr at none place m there first =
    (record { instr = instr; number = number; is_instr = at; place = place; micro = m; is_line = there; at = refl; breaks = first.0 }, least)
  where
    here : (line : ℕ) (b : BreaksIn design kind line) → b.number ≡ number → m.line ≤ line
    here line b same =
        let instrs : b.instr ≡ instr = same_Some b.instr instr (sym b.is_instr ∙ ap (slice_get design.instrs) same ∙ at) in
        let breaks : BreaksAt design instr kind b.place = subst (λ i. BreaksAt design i kind b.place) instrs b.breaks in
        let is_line : slice_get instr.micros b.place ≡ Some b.micro = ap (λ (i : Instr). slice_get i.micros b.place) (sym instrs) ∙ b.is_line in
        let le : m.line ≤ b.micro.line = later_place design sound number instr at place b.place m b.micro there is_line (first.1 b.place breaks) in
        let line_is : b.micro.line ≡ line = b.at in
        omega arith

    least : (line : ℕ) → BreaksIn design kind line → m.line ≤ line
    least line b = elim (cases_order b.number number) [
      | inl same ↦ here line b same
      | inr (inl less) ↦ absurd (none b.number b.instr less b.is_instr b.place b.breaks)
      | inr (inr more) ↦
          let lt : m.line < b.micro.line = earlier_instr design sound number b.number more instr b.instr at b.is_instr place b.place m b.micro there b.is_line in
          let line_is : b.micro.line ≡ line = b.at in
          omega arith
    ]

-- one instruction more
pub none_more : (design : Design) (kind : Fault) (number : ℕ) (instr : Instr) → slice_get design.instrs number ≡ Some instr → NoneBefore design kind number → ((place : ℕ) → BreaksAt design instr kind place → ⊥)
    → (later : ℕ) → later ≤ number + 1 → NoneBefore design kind later
none_more design kind number instr at none here later le k other lt there place breaks = elim (cases_order k number) [
  | inl same ↦
      let is : other ≡ instr = same_Some other instr (sym there ∙ ap (slice_get design.instrs) same ∙ at) in
      here place (subst (λ i. BreaksAt design i kind place) is breaks)
  | inr (inl less) ↦ none k other less there place breaks
  | inr (inr more) ↦ absurd (omega arith)
]
