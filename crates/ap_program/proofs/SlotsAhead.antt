-- Whether a slot line comes next, line by line from the last one back.
use Rattle.std.proofs.Common.{◌≡◌, ℕ, zero, suc, ◌+◌, ◌<◌, ◌≤◌, ◌||◌, Bool, false, List, [], ◌∷◌, length, get_or, set, drop, Some, refl, sym, ap, ◌∙◌, arith, ⊎_elim}
use Rattle.std.specs.Prelude.{slice_get, if◌then◌else◌}
use Rattle.std.proofs.lemmas.Bool.{cases_lt}
use Rattle.std.proofs.lemmas.Option.{same_Some, slice_get-get_or}
use Rattle.ap_program.specs.Programs.{is_instr, is_slot, is_slot_next}
use Rattle.ap_program.specs.declared.statement.ProgramLine.{ProgramLine}
use Rattle.ap_program.proofs.SourceLines.{rest_from}

set_same : {X : Type 0} (xs : List X) (i : ℕ) (y : X) → i < length xs → slice_get (set xs i y) i ≡ Some y
set_same [] i y lt = absurd (omega arith)
set_same (x ∷ xs) zero y lt = refl
set_same (x ∷ xs) (suc i) y lt = set_same xs i y (omega arith)

set_other : {X : Type 0} (xs : List X) (i k : ℕ) (y : X) → i < k → slice_get (set xs i y) k ≡ slice_get xs k
set_other [] i k y lt = refl
set_other (x ∷ xs) zero zero y lt = absurd (omega arith)
set_other (x ∷ xs) zero (suc k) y lt = refl
set_other (x ∷ xs) (suc i) zero y lt = absurd (omega arith)
set_other (x ∷ xs) (suc i) (suc k) y lt = set_other xs i k y (omega arith)

-- one line before those that are known
pub ahead_each : (lines : List ProgramLine) (ahead : List Bool) (i : ℕ) (next : Bool) → i < length lines → length ahead ≡ length lines → next ≡ is_slot_next (drop (i + 1) lines)
    → ((k : ℕ) → i + 1 ≤ k → k < length lines → slice_get ahead k ≡ Some (is_slot_next (drop (k + 1) lines))) → (k : ℕ) → i ≤ k → k < length lines → slice_get (set ahead i next) k ≡ Some (is_slot_next (drop (k + 1) lines))
ahead_each lines ahead i next lt len here before k le low = ⊎_elim
    (λ later. set_other ahead i k next later ∙ before k (omega arith) low)
    (λ not_later.
    let same : k ≡ i = omega arith in
    let there : i < length ahead = omega arith in
    ap (slice_get (set ahead i next)) same ∙ set_same ahead i next there ∙ ap Some here ∙ ap (λ j. Some (is_slot_next (drop (j + 1) lines))) (sym same))
    (cases_lt i k)

pub ahead_here : (lines : List ProgramLine) (i : ℕ) (line : ProgramLine) (next new : Bool) → i < length lines → line ≡ get_or lines i line → next ≡ is_slot_next (drop (i + 1) lines) → new ≡ (is_slot line || (if is_instr line then false else next)) → new ≡ is_slot_next (drop i lines)
ahead_here lines i line next new lt at here made = made ∙ ap (λ b. is_slot line || (if is_instr line then false else b)) here ∙ ap is_slot_next (sym (rest_from lines i line lt at))

-- behind the last line no slot line comes
pub none_ahead : (lines : List ProgramLine) (i : ℕ) → i ≡ length lines → false ≡ is_slot_next (drop i lines)
none_ahead [] zero e = refl
none_ahead [] (suc i) e = refl
none_ahead (x ∷ lines) zero e = absurd (omega arith)
none_ahead (x ∷ lines) (suc i) e = none_ahead lines i (omega arith)

-- the value that was read, where what stands there is known
pub read_is : (flags : List Bool) (i : ℕ) (d flag known : Bool) → i < length flags → flag ≡ get_or flags i d → slice_get flags i ≡ Some known → flag ≡ known
read_is flags i d flag known lt is at = is ∙ same_Some (get_or flags i d) known (sym (slice_get-get_or flags i d lt) ∙ at)
