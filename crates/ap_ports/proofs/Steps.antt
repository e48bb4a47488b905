-- The steps of a loop over an instruction's lines, of which each local is kept.
use Rattle.std.proofs.Common.{◌≡◌, ℕ, ◌+◌, ◌<◌, ◌≤◌, true, List, ◌++◌, length, get_or, take, Some, inl, inr, sym, subst, ap, arith}
use Rattle.std.specs.Prelude.{Contains, slice_get}
use Rattle.std.specs.List.{AllByRecursion as Each}
use Rattle.ap_desc.specs.Chains.{ClosesLoop, operands_of}
use Rattle.ap_desc.specs.Designs.{assigned_count}
use Rattle.ap_desc.specs.Sound.{IsSound}
use Rattle.ap_desc.specs.StageFaults.{is_slow}
use Rattle.ap_desc.specs.declared.design.Act.TheVariants as act
use Rattle.ap_desc.specs.declared.design.Arg.TheVariants as arg
use Rattle.ap_desc.specs.declared.design.Design.{Design}
use Rattle.ap_desc.specs.declared.design.Instr.{Instr}
use Rattle.ap_desc.specs.declared.design.Micro.{Micro}
use Rattle.ap_ports.specs.Firsts.{IsFirst, IsUnsteady, LineAt}
use Rattle.ap_ports.specs.Flow.{AreKept, IsLocalOf, IsTaken, TakesShaky, made_by}
use Rattle.ap_ports.specs.Graphs.{IsAdded, IsClosing, IsOpenAfter, lines_before}
use Rattle.ap_ports.specs.Numbers.{IsNumbered}
use Rattle.ap_ports.specs.declared.flow.Locals.{Locals}
use Rattle.ap_ports.specs.declared.ways.Ways.{Ways}
use Rattle.ap_ports.proofs.Kept.{kept_more, kept_none, reaches_shaky, shaky_reaches}
use Rattle.ap_ports.proofs.LinePlaces.{first_here, none_more, not_line, read_at}
use Rattle.ap_ports.proofs.Made.{IsLine, line_of, local_operands, made_enough, made_more, made_same, maker_at, one_or_none}
use Rattle.ap_ports.proofs.Members.{contains_at}
use Rattle.ap_ports.proofs.Opened.{open_begun, open_closes, open_ended, open_next}

module _ (design : Design) (sound : IsSound design) (instr : Instr) (there : Contains design.instrs instr) (ys : List Micro) (same : ys ≡ instr.micros) (place : ℕ) (d : Micro) (low : place < length ys) where
  abbrev Line : Micro
  Line = get_or ys place d

  pub line_there : slice_get instr.micros place ≡ Some Line
  line_there = read_at ys instr.micros same place d (omega (arith, ap length same))

  line_is : IsLine design instr place Line
  line_is = line_of design sound instr there place Line line_there

  pub operands_there : Each (IsLocalOf 64) (operands_of Line.act)
  operands_there = local_operands design instr place Line line_is

  pub numbered_there : IsNumbered Line.act
  numbered_there = line_is.numbered

  module _ (locals : Locals) (kept : AreKept design instr (made_by (take place instr.micros)) locals) where
    pub room_there : locals.count < 64
    room_there = let few = line_is.room in let same_count = kept.0 in omega arith

    pub kept_next : (new : Locals) → (assigned_count Line.act ≡ 1 → IsTaken design Line locals new) → (assigned_count Line.act ≡ 0 → new ≡ locals) → AreKept design instr (made_by (take (place + 1) instr.micros)) new
    kept_next new assigns other = elim (one_or_none Line.act) [
      | inl none ↦
          subst (λ n. AreKept design instr n new) (sym (made_same instr.micros place Line line_there none)) (subst (AreKept design instr (made_by (take place instr.micros))) (sym (other none)) kept)
      | inr one ↦
          subst (λ n. AreKept design instr n new) (sym (made_more instr.micros place Line line_there one))
          (kept_more design instr (made_by (take place instr.micros)) locals kept (made_enough instr place) Line Line line_is.operands
          (maker_at instr place Line line_there one) new (assigns one))
    ]

    pub unsteady_first : ((k : ℕ) → k < place → LineAt instr.micros k (IsUnsteady design instr) → ⊥) → is_slow design Line.act ≡ true → TakesShaky locals Line → IsFirst (λ k. LineAt instr.micros k (IsUnsteady design instr)) (Some place)
    unsteady_first none slow shaky =
        first_here (λ k. LineAt instr.micros k (IsUnsteady design instr)) place none
        (Line, line_there, (slow, shaky_reaches design instr (made_by (take place instr.micros)) locals kept (made_enough instr place) Line Line line_is.operands shaky))

    pub steady_more : ((k : ℕ) → k < place → LineAt instr.micros k (IsUnsteady design instr) → ⊥) → (is_slow design Line.act ≡ true → TakesShaky locals Line → ⊥) → (k : ℕ) → k < place + 1 → LineAt instr.micros k (IsUnsteady design instr) → ⊥
    steady_more none steady =
        none_more (λ k. LineAt instr.micros k (IsUnsteady design instr)) place none
        (not_line instr.micros place Line (IsUnsteady design instr) line_there
        (λ h. steady h.0 (reaches_shaky design instr (made_by (take place instr.micros)) locals kept (made_enough instr place) Line Line line_is.operands h.1)))

-- any line
pub some_micro : Micro
some_micro = record { line = 0; stage = 0; act = act.Jump arg.Pc }

-- The lines of the instruction at this place before one are added to the ways of a stage.

pub record IsUnderWay (design : Design) (stage number : ℕ) (items : List Micro) (place : ℕ) (locals : Locals) (ways : Ways) : Type 0 where
  pub instr : Instr
  pub is_instr : slice_get design.instrs number ≡ Some instr
  pub lines : items ≡ instr.micros
  pub kept : AreKept design instr (made_by (take place instr.micros)) locals
  pub so_far : IsOpenAfter design stage (lines_before design number ++ take place instr.micros) ways

pub under_begun : (design : Design) (stage number : ℕ) (items : List Micro) (locals : Locals) (ways : Ways) (instr : Instr) → slice_get design.instrs number ≡ Some instr → items ≡ instr.micros → locals.count ≡ 0
    → IsOpenAfter design stage (lines_before design number) ways → IsUnderWay design stage number items 0 locals ways
under_begun design stage number items locals ways instr at lines none opened =
    record { instr = instr; is_instr = at; lines = lines; kept = kept_none design instr locals none; so_far = open_begun design stage number ways opened }

pub under_ended : (design : Design) (stage number : ℕ) (items : List Micro) (place : ℕ) (locals : Locals) (ways : Ways) → length items ≤ place → IsUnderWay design stage number items place locals ways → IsOpenAfter design stage (lines_before design (number + 1)) ways
under_ended design stage number items place locals ways past s = open_ended design stage number s.instr s.is_instr place ways (omega (arith, ap length s.lines)) s.so_far

module _ (design : Design) (sound : IsSound design) (stage number : ℕ) (items : List Micro) (place : ℕ) (locals : Locals) (ways : Ways) (s : IsUnderWay design stage number items place locals ways) (d : Micro) (low : place < length items) where
  under_instr : Contains design.instrs s.instr
  under_instr = contains_at design.instrs number s.instr s.is_instr

  pub under_operands : Each (IsLocalOf 64) (operands_of (get_or items place d).act)
  under_operands = operands_there design sound s.instr under_instr items s.lines place d low

  pub under_numbered : IsNumbered (get_or items place d).act
  under_numbered = numbered_there design sound s.instr under_instr items s.lines place d low

  pub under_room : locals.count < 64
  under_room = room_there design sound s.instr under_instr items s.lines place d low locals s.kept

  pub under_closes : (n : ℕ) → IsClosing locals (get_or items place d) stage ways n → ClosesLoop design stage n
  under_closes n c =
      open_closes design sound number s.instr s.is_instr place (get_or items place d) (line_there design sound s.instr under_instr items s.lines place d low) locals s.kept ways stage s.so_far n c

  pub under_next : (after : Locals) (new : Ways) → IsAdded locals (get_or items place d) stage ways new → (assigned_count (get_or items place d).act ≡ 1 → IsTaken design (get_or items place d) locals after)
      → (assigned_count (get_or items place d).act ≡ 0 → after ≡ locals) → IsUnderWay design stage number items (place + 1) after new
  under_next after new added assigns other = record {
    instr = s.instr;
    is_instr = s.is_instr;
    lines = s.lines;
    kept = kept_next design sound s.instr under_instr items s.lines place d low locals s.kept after assigns other;
    so_far = open_next design sound number s.instr s.is_instr place (get_or items place d) (line_there design sound s.instr under_instr items s.lines place d low) locals s.kept ways stage new s.so_far added;
  }
