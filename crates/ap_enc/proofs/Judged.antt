-- The least fault of a design's words, from the first format and the first instruction with one.
use Rattle.std.proofs.Common.{◌≡◌, ℕ, ◌<◌, ◌≤◌, ◌⊎◌, Bool, true, false, cond, List, length, get_or, Option, Some, None, inl, inr, refl, sym, ap, subst, ◌∙◌, arith}
use Rattle.std.specs.Prelude.{slice_get, option_and_then, position, IfNone}
use Rattle.std.proofs.lemmas.Bool.{cases_lt, cases_order}
use Rattle.std.proofs.lemmas.Option.{same_Some, slice_get-get_or, slice_get_past}
use Rattle.ap_desc.specs.Clean.{HasDesignFault}
use Rattle.ap_desc.specs.Faults.{IsBefore}
use Rattle.ap_desc.specs.FaultTable.{number_of, phase_of}
use Rattle.ap_desc.specs.Least.{HoldsNowhere, IsLeast}
use Rattle.ap_desc.specs.Meaning.{MeetsWordFault}
use Rattle.ap_desc.specs.Sound.{IsSound}
use Rattle.ap_desc.specs.WordFaults.{is_wrong_sum}
use Rattle.ap_desc.specs.declared.design.Design.{Design}
use Rattle.ap_desc.specs.declared.design.Format.{Format}
use Rattle.ap_desc.specs.declared.design.Instr.{Instr}
use Rattle.ap_desc.specs.declared.fault.Fault.{Fault}
use Rattle.ap_desc.specs.declared.fault.Fault.TheVariants as f
use Rattle.ap_enc.specs.Faults.{fault_at, has_unfit, instr_fault, is_full_nop, overlaps}
use Rattle.ap_enc.proofs.Lines.{StandsAt, format_lines, formats_first, formats_rise, instr_lines, instrs_rise, rise_after, stands_from, stands_to}
use Rattle.ap_enc.proofs.Patterns.{shares_from, shares_to}
use Rattle.ap_enc.proofs.Places.{first_at, none_at}

-- which of the three faults of an instruction's word hold, and the first of them
abbrev shown : Bool → Bool → Bool → Fault → Bool
shown a b c f.FieldValue = a
shown a b c f.Overlap = b
shown a b c f.NopNotEmpty = c
shown a b c _ = false

abbrev pick : Bool → Bool → Bool → Option Fault
pick a b c = cond a (Some f.FieldValue) (cond b (Some f.Overlap) (cond c (Some f.NopNotEmpty) None))

picks_none : (a b c : Bool) → pick a b c ≡ None → (kind : Fault) → shown a b c kind ≡ true → ⊥
picks_none true b c e kind h = cc
picks_none false true c e kind h = cc
picks_none false false true e kind h = cc
picks_none false false false e f.FieldValue h = cc
picks_none false false false e f.Overlap h = cc
picks_none false false false e f.NopNotEmpty h = cc
picks_none false false false e _ h = cc

none_below_2 : (a b c : Bool) (kind : Fault) → shown a b c kind ≡ true → number_of kind < 2 → ⊥
none_below_2 a b c f.FieldValue h lt = omega arith
none_below_2 a b c f.Overlap h lt = omega arith
none_below_2 a b c f.NopNotEmpty h lt = omega arith
none_below_2 a b c _ h lt = cc

none_below_3 : (b c : Bool) (kind : Fault) → shown false b c kind ≡ true → number_of kind < 3 → ⊥
none_below_3 b c f.FieldValue h lt = cc
none_below_3 b c f.Overlap h lt = omega arith
none_below_3 b c f.NopNotEmpty h lt = omega arith
none_below_3 b c _ h lt = cc

none_below_4 : (c : Bool) (kind : Fault) → shown false false c kind ≡ true → number_of kind < 4 → ⊥
none_below_4 c f.FieldValue h lt = cc
none_below_4 c f.Overlap h lt = cc
none_below_4 c f.NopNotEmpty h lt = omega arith
none_below_4 c _ h lt = cc

-- the first of them that holds
record IsPick (a b c : Bool) (k : Fault) : Type 0 where
  holds : shown a b c k ≡ true
  phase : phase_of k ≡ 4
  least : (kind : Fault) → shown a b c kind ≡ true → number_of kind < number_of k → ⊥

picks_some : (a b c : Bool) (k : Fault) → pick a b c ≡ Some k → IsPick a b c k
picks_some true b c k e = subst (IsPick true b c) (same_Some f.FieldValue k e) (record { holds = refl; phase = refl; least = none_below_2 true b c })
picks_some false true c k e = subst (IsPick false true c) (same_Some f.Overlap k e) (record { holds = refl; phase = refl; least = none_below_3 true c })
picks_some false false true k e = subst (IsPick false false true) (same_Some f.NopNotEmpty k e) (record { holds = refl; phase = refl; least = none_below_4 true })
picks_some false false false k e = absurd cc

-- the fault holds of the instruction at a place
abbrev shows : Design → ℕ → Instr → Fault → Bool
shows design place instr kind = shown (has_unfit design instr) (overlaps design place instr) (is_full_nop instr) kind

record IsInstrFault (design : Design) (kind : Fault) (line : ℕ) : Type 0 where
  place : ℕ
  instr : Instr
  is_there : slice_get design.instrs place ≡ Some instr
  holds : shows design place instr kind ≡ true
  at : instr.line ≡ line

-- where a fault of words holds, it is one of a format or of an instruction
abbrev IsLocated : Design → Fault → ℕ → Type 0
IsLocated design kind line = ((kind ≡ f.FormatSum) × StandsAt (is_wrong_sum design.word) (λ (x : Format). x.line) design.formats line) ⊎ IsInstrFault design kind line

from_stands : (design : Design) (kind : Fault) (line : ℕ) (test : Instr → Bool) → ((place : ℕ) (instr : Instr) → test instr ≡ true → shows design place instr kind ≡ true) → StandsAt test (λ (i : Instr). i.line) design.instrs line → IsInstrFault design kind line
from_stands design kind line test shown s = record { place = s.place; instr = s.item; is_there = s.is_there; holds = shown s.place s.item s.passes; at = s.at }

located : (design : Design) (kind : Fault) (line : ℕ) → phase_of kind ≡ 4 → HasDesignFault design kind line → IsLocated design kind line
located design f.FormatSum line phase h = inl (refl, stands_from (is_wrong_sum design.word) (λ (x : Format). x.line) design.formats line h)
located design f.FieldValue line phase h = inr (from_stands design f.FieldValue line (has_unfit design) (λ p i e. e) (stands_from (has_unfit design) (λ (i : Instr). i.line) design.instrs line h))
located design f.Overlap line phase h = inr (record { place = h.place; instr = h.instr; is_there = h.is_there; holds = shares_to design line h; at = h.at })
located design f.NopNotEmpty line phase h = inr (from_stands design f.NopNotEmpty line is_full_nop (λ p i e. e) (stands_from is_full_nop (λ (i : Instr). i.line) design.instrs line h))
located design _ line phase h = absurd (omega arith)

shown_holds : (design : Design) → IsSound design → (place : ℕ) (instr : Instr) → slice_get design.instrs place ≡ Some instr → (kind : Fault) → shows design place instr kind ≡ true → HasDesignFault design kind instr.line
shown_holds design sound place instr at f.FieldValue e = stands_to (has_unfit design) (λ (i : Instr). i.line) design.instrs place instr at e
shown_holds design sound place instr at f.Overlap e = shares_from design sound place instr at e
shown_holds design sound place instr at f.NopNotEmpty e = stands_to is_full_nop (λ (i : Instr). i.line) design.instrs place instr at e
shown_holds design sound place instr at _ e = absurd cc

fault_there : (design : Design) (place : ℕ) (instr : Instr) → slice_get design.instrs place ≡ Some instr → fault_at design place ≡ instr_fault design place instr
fault_there design place instr at = ap (option_and_then (instr_fault design place)) at

-- the lines of instructions rise
instr_order : (design : Design) → IsSound design → (j k : ℕ) (one other : Instr) → j < k → slice_get design.instrs j ≡ Some one → slice_get design.instrs k ≡ Some other → one.line < other.line
instr_order design sound = instrs_rise design.transfer_line design.instrs (rise_after design.transfer_line (format_lines design.formats) (instr_lines design.instrs) sound.lines.1)

format_order : (design : Design) → IsSound design → (j k : ℕ) (one other : Format) → j < k → slice_get design.formats j ≡ Some one → slice_get design.formats k ≡ Some other → one.line < other.line
format_order design sound = formats_rise design.transfer_line design.formats (instr_lines design.instrs) sound.lines.1

format_first : (design : Design) → IsSound design → (j k : ℕ) (x : Format) (i : Instr) → slice_get design.formats j ≡ Some x → slice_get design.instrs k ≡ Some i → x.line < i.line
format_first design sound = formats_first design.transfer_line design.formats design.instrs sound.lines.1

-- the place of an instruction by its line
instr_by_line : (design : Design) → IsSound design → (j k : ℕ) (one other : Instr) → slice_get design.instrs j ≡ Some one → slice_get design.instrs k ≡ Some other → one.line < other.line → j < k
instr_by_line design sound j k one other at again lt = elim (cases_order j k) [
  | inl same ↦ (let one_is : one ≡ other = same_Some one other (sym at ∙ ap (slice_get design.instrs) same ∙ again) in let e : one.line ≡ other.line = ap (λ (i : Instr). i.line) one_is in absurd (omega arith))
  | inr (inl less) ↦ less
  | inr (inr more) ↦ (let turned : other.line < one.line = instr_order design sound k j other one more again at in absurd (omega arith))
]

same_place : (design : Design) → IsSound design → (j k : ℕ) (one other : Instr) → slice_get design.instrs j ≡ Some one → slice_get design.instrs k ≡ Some other → one.line ≡ other.line → j ≡ k
same_place design sound j k one other at again e = elim (cases_order j k) [
  | inl same ↦ same
  | inr (inl less) ↦ (let lt : one.line < other.line = instr_order design sound j k one other less at again in absurd (omega arith))
  | inr (inr more) ↦ (let turned : other.line < one.line = instr_order design sound k j other one more again at in absurd (omega arith))
]

format_by_line : (design : Design) → IsSound design → (j k : ℕ) (one other : Format) → slice_get design.formats j ≡ Some one → slice_get design.formats k ≡ Some other → one.line < other.line → j < k
format_by_line design sound j k one other at again lt = elim (cases_order j k) [
  | inl same ↦ (let one_is : one ≡ other = same_Some one other (sym at ∙ ap (slice_get design.formats) same ∙ again) in let e : one.line ≡ other.line = ap (λ (x : Format). x.line) one_is in absurd (omega arith))
  | inr (inl less) ↦ less
  | inr (inr more) ↦ (let turned : other.line < one.line = format_order design sound k j other one more again at in absurd (omega arith))
]

-- nothing is less than the first format that doesn't fill the word
pub least_format : (design : Design) → IsSound design → (place : ℕ) (x : Format) → slice_get design.formats place ≡ Some x → position (is_wrong_sum design.word) design.formats ≡ Some place
    → IsLeast (MeetsWordFault design) (record { phase = 4; line = x.line; kind = f.FormatSum })
least_format design sound place x at e =
    let first = first_at (is_wrong_sum design.word) design.formats place e in
    let same : first.item ≡ x = same_Some first.item x (sym first.is_there ∙ at) in
    record {
      phase = refl;
      holds = (refl, stands_to (is_wrong_sum design.word) (λ (y : Format). y.line) design.formats place x at (ap (is_wrong_sum design.word) (sym same) ∙ first.passes));
      least = λ kind line meets before. none_less kind line meets.0 (located design kind line meets.0 meets.1) before first.before;
    }
  where
    none_less : (kind : Fault) (line : ℕ) → phase_of kind ≡ 4 → IsLocated design kind line → IsBefore kind line f.FormatSum x.line
        → ((i : ℕ) (y : Format) → i < place → slice_get design.formats i ≡ Some y → is_wrong_sum design.word y ≡ true → ⊥) → ⊥
    none_less kind line phase l (inl earlier) before = absurd (omega arith)
    none_less kind line phase (inl (is, s)) (inr (same, inl less)) before =
        let lower : s.item.line < x.line = (let at_line : s.item.line ≡ line = s.at in omega arith) in
        before s.place s.item (format_by_line design sound s.place place s.item x s.is_there at lower) s.is_there s.passes
    none_less kind line phase (inr i) (inr (same, inl less)) before =
        let after : x.line < i.instr.line = format_first design sound place i.place x i.instr at i.is_there in
        let at_line : i.instr.line ≡ line = i.at in
        absurd (omega arith)
    none_less kind line phase (inl (is, s)) (inr (same, inr (one_line, less))) before = (let number : number_of kind ≡ 1 = ap number_of is in absurd (omega arith))
    none_less kind line phase (inr i) (inr (same, inr (one_line, less))) before =
        let after : x.line < i.instr.line = format_first design sound place i.place x i.instr at i.is_there in
        let at_line : i.instr.line ≡ line = i.at in
        absurd (omega arith)

-- no format is wrong
abbrev NoneWrong : Design → Type 0
NoneWrong design = (i : ℕ) (y : Format) → slice_get design.formats i ≡ Some y → is_wrong_sum design.word y ≡ true → ⊥

-- where formats are right, nothing is less than the first fault of the first instruction with one
pub least_instr : (design : Design) → IsSound design → position (is_wrong_sum design.word) design.formats ≡ None → (place : ℕ) (instr : Instr) (k : Fault) → slice_get design.instrs place ≡ Some instr
    → fault_at design place ≡ Some k → ((p : ℕ) → p < place → fault_at design p ≡ None) → IsLeast (MeetsWordFault design) (record { phase = 4; line = instr.line; kind = k })
least_instr design sound none place instr k at is_fault earlier =
    let p = picks_some (has_unfit design instr) (overlaps design place instr) (is_full_nop instr) k (sym (fault_there design place instr at) ∙ is_fault) in
    record {
      phase = sym p.phase;
      holds = (p.phase, shown_holds design sound place instr at k p.holds);
      least = λ kind line meets before. none_less p kind line meets.0 (located design kind line meets.0 meets.1) before (none_at (is_wrong_sum design.word) design.formats none);
    }
  where
    none_less : IsPick (has_unfit design instr) (overlaps design place instr) (is_full_nop instr) k → (kind : Fault) (line : ℕ) → phase_of kind ≡ 4 → IsLocated design kind line → IsBefore kind line k instr.line → NoneWrong design → ⊥
    none_less p kind line phase l (inl less) right = (let late : phase_of k ≡ 4 = p.phase in absurd (omega arith))
    none_less p kind line phase (inl (is, s)) (inr later) right = right s.place s.item s.is_there s.passes
    none_less p kind line phase (inr i) (inr (same, inl less)) right =
        let lower : i.instr.line < instr.line = (let at_line : i.instr.line ≡ line = i.at in omega arith) in
        let before = instr_by_line design sound i.place place i.instr instr i.is_there at lower in
        picks_none (has_unfit design i.instr) (overlaps design i.place i.instr) (is_full_nop i.instr) (sym (fault_there design i.place i.instr i.is_there) ∙ earlier i.place before) kind i.holds
    none_less p kind line phase (inr i) (inr (same, inr (one_line, less))) right =
        let lines : i.instr.line ≡ instr.line = i.at ∙ one_line in
        let places : i.place ≡ place = same_place design sound i.place place i.instr instr i.is_there at lines in
        let instrs : i.instr ≡ instr = same_Some i.instr instr (sym i.is_there ∙ ap (slice_get design.instrs) places ∙ at) in
        p.least kind (ap (λ n. shows design n instr kind) (sym places) ∙ ap (λ x. shows design i.place x kind) (sym instrs) ∙ i.holds) less

-- where neither has a fault, none holds
pub holds_nowhere : (design : Design) → position (is_wrong_sum design.word) design.formats ≡ None → ((p : ℕ) → fault_at design p ≡ None) → HoldsNowhere (MeetsWordFault design)
holds_nowhere design none clear kind line meets = nowhere (located design kind line meets.0 meets.1)
  where
    nowhere : IsLocated design kind line → ⊥
    nowhere (inl (is, s)) = none_at (is_wrong_sum design.word) design.formats none s.place s.item s.is_there s.passes
    nowhere (inr i) = picks_none (has_unfit design i.instr) (overlaps design i.place i.instr) (is_full_nop i.instr) (sym (fault_there design i.place i.instr i.is_there) ∙ clear i.place) kind i.holds

-- a place with a fault is that of an instruction
pub fault_within : (design : Design) (place : ℕ) (k : Fault) → fault_at design place ≡ Some k → place < length design.instrs
fault_within design place k e = elim (cases_lt place (length design.instrs)) [
  | inl less ↦ less
  | inr past ↦ (let none : fault_at design place ≡ None = ap (option_and_then (instr_fault design place)) (slice_get_past design.instrs place past) in absurd cc)
]

-- where the places of instructions have none, no place has
pub none_past : (design : Design) (n : ℕ) → length design.instrs ≤ n → ((k : ℕ) → k < n → fault_at design k ≡ None) → (place : ℕ) → fault_at design place ≡ None
none_past design n all below place = elim (cases_lt place n) [
  | inl less ↦ below place less
  | inr past ↦ (let beyond : length design.instrs ≤ place = omega arith in ap (option_and_then (instr_fault design place)) (slice_get_past design.instrs place beyond))
]

pub if_none : {X : Type 0} (P : Type 0) (r : Option X) → P → IfNone r P
if_none P None h = h
if_none P (Some x) h = tt

-- what is read at a place of a slice
pub read_at : {X : Type 0} (ys xs : List X) → ys ≡ xs → (i : ℕ) (d : X) → i < length xs → slice_get xs i ≡ Some (get_or ys i d)
read_at ys xs e i d lt = slice_get-get_or xs i d lt ∙ ap (λ zs. Some (get_or zs i d)) (sym e)
