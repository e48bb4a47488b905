-- A test of each line with those before it, and by it that no fault of names or widths holds of a description.
use Rattle.std.proofs.Common.{◌≡◌, ℕ, Bool, true, false, List, [], ◌∷◌, ◌++◌, ap, subst, refl, ◌∙◌, lit<, append_assoc}
use Rattle.std.specs.Prelude.{◌&&◌, ◌||◌, not, Contains}
use Rattle.std.specs.List.{list_all}
use Rattle.std.proofs.lemmas.Bool.{and_parts, both_ways, not-true}
use Rattle.std.proofs.lemmas.List.{append-nil}
use Rattle.ap_bits.specs.declared.card.Card.{Card}
use Rattle.ap_desc.proofs.Behind.{contained_passes}
use Rattle.ap_desc.specs.StatementFaults.{HasStatementFault, is_faulty}
use Rattle.ap_desc.specs.Scope.{scope_after}
use Rattle.ap_desc.specs.declared.description.Numbered.{Numbered}
use Rattle.ap_desc.specs.declared.fault.Fault.{Fault}
use Rattle.ap_desc.specs.declared.fault.Fault.TheVariants as f

-- each of the list passes the test, with those before it
abbrev pub all_after : {X : Type 0} → (List X → X → Bool) → List X → List X → Bool
all_after test before [] = true
all_after test before (x ∷ xs) = test before x && all_after test (before ++ x ∷ []) xs

pub passes_after : {X : Type 0} (test : List X → X → Bool) (before xs : List X) → all_after test before xs ≡ true
    → (more : List X) (x : X) (after : List X) → xs ≡ more ++ x ∷ after → test (before ++ more) x ≡ true
passes_after test before [] e [] x after parts = absurd cc
passes_after test before [] e (m ∷ more) x after parts = absurd cc
passes_after test before (y ∷ ys) e [] x after parts =
    let here : y ≡ x = cc in
    rw (append-nil, ← here) (and_parts (test before y) (all_after test (before ++ y ∷ []) ys) e).0
passes_after test before (y ∷ ys) e (m ∷ more) x after parts =
    let here : y ≡ m = cc in
    let rest : ys ≡ more ++ x ∷ after = cc in
    let later : test ((before ++ y ∷ []) ++ more) x ≡ true = passes_after test (before ++ y ∷ []) ys (and_parts (test before y) (all_after test (before ++ y ∷ []) ys) e).1 more x after rest in
    subst (λ z. test (before ++ z ∷ more) x ≡ true) here (rw append_assoc at later)

-- none of these kinds holds of the line, where lines of its number are asked for
abbrev pub is_clear : List Card → List Fault → (ℕ → Bool) → List Numbered → Numbered → Bool
is_clear cards kinds asked before n = not (asked n.line) || list_all (λ kind. not (is_faulty cards (scope_after before cards) n.statement kind)) kinds

pub clear_of : (statements : List Numbered) (cards : List Card) (kinds : List Fault) (asked : ℕ → Bool) → all_after (is_clear cards kinds asked) [] statements ≡ true
    → (kind : Fault) (line : ℕ) → Contains kinds kind → asked line ≡ true → HasStatementFault statements cards kind line → ⊥
clear_of statements cards kinds asked e kind line known is_asked h =
    let passes : is_clear cards kinds asked h.before h.n ≡ true = passes_after (is_clear cards kinds asked) [] statements e h.before h.n h.place.after h.place.parts in
    let here : asked h.n.line ≡ true = ap asked h.place.numbered ∙ is_asked in
    let clear : not (is_faulty cards (scope_after h.before cards) h.n.statement kind) ≡ true
    = contained_passes (λ kind. not (is_faulty cards (scope_after h.before cards) h.n.statement kind)) kinds kind (rw here at passes) known in
    both_ways (is_faulty cards (scope_after h.before cards) h.n.statement kind) (not-true (is_faulty cards (scope_after h.before cards) h.n.statement kind) clear) h.holds

abbrev pub name_kinds : List Fault
name_kinds = f.Unknown ∷ f.Twice ∷ f.NoKind ∷ f.NoOperation ∷ []

abbrev pub width_kinds : List Fault
width_kinds = f.Range ∷ f.Differs ∷ f.Slice ∷ f.TooWideConstant ∷ f.NotOneBit ∷ f.Target ∷ f.KindRefuses ∷ []

-- no fault of names or widths holds
pub no_line_fault : (statements : List Numbered) (cards : List Card) → all_after (is_clear cards (name_kinds ++ width_kinds) (λ n. true)) [] statements ≡ true
    → (kind : Fault) (line : ℕ) → HasStatementFault statements cards kind line → ⊥
no_line_fault statements cards e f.Unknown line h = clear_of statements cards (name_kinds ++ width_kinds) (λ n. true) e f.Unknown line (0, lit< tt, refl) refl h
no_line_fault statements cards e f.Twice line h = clear_of statements cards (name_kinds ++ width_kinds) (λ n. true) e f.Twice line (1, lit< tt, refl) refl h
no_line_fault statements cards e f.NoKind line h = clear_of statements cards (name_kinds ++ width_kinds) (λ n. true) e f.NoKind line (2, lit< tt, refl) refl h
no_line_fault statements cards e f.NoOperation line h = clear_of statements cards (name_kinds ++ width_kinds) (λ n. true) e f.NoOperation line (3, lit< tt, refl) refl h
no_line_fault statements cards e f.Range line h = clear_of statements cards (name_kinds ++ width_kinds) (λ n. true) e f.Range line (4, lit< tt, refl) refl h
no_line_fault statements cards e f.Differs line h = clear_of statements cards (name_kinds ++ width_kinds) (λ n. true) e f.Differs line (5, lit< tt, refl) refl h
no_line_fault statements cards e f.Slice line h = clear_of statements cards (name_kinds ++ width_kinds) (λ n. true) e f.Slice line (6, lit< tt, refl) refl h
no_line_fault statements cards e f.TooWideConstant line h = clear_of statements cards (name_kinds ++ width_kinds) (λ n. true) e f.TooWideConstant line (7, lit< tt, refl) refl h
no_line_fault statements cards e f.NotOneBit line h = clear_of statements cards (name_kinds ++ width_kinds) (λ n. true) e f.NotOneBit line (8, lit< tt, refl) refl h
no_line_fault statements cards e f.Target line h = clear_of statements cards (name_kinds ++ width_kinds) (λ n. true) e f.Target line (9, lit< tt, refl) refl h
no_line_fault statements cards e f.KindRefuses line h = clear_of statements cards (name_kinds ++ width_kinds) (λ n. true) e f.KindRefuses line (10, lit< tt, refl) refl h
no_line_fault statements cards e _ line h = both_ways false refl h.holds
