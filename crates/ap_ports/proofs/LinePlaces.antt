-- The first place of a list of lines at which something holds.
use Rattle.std.proofs.Common.{◌≡◌, ℕ, ◌+◌, ◌-◌, ◌<◌, ◌≤◌, Bool, true, List, length, get_or, Option, Some, None, inl, inr, refl, sym, subst, ap, ◌∙◌, arith}
use Rattle.std.specs.Prelude.{position, slice_get}
use Rattle.std.proofs.lemmas.Bool.{cases_lt, cases_order}
use Rattle.std.proofs.lemmas.Option.{same_Some, slice_get-get_or, slice_get_within}
use Rattle.ap_desc.specs.declared.design.Micro.{Micro}
use Rattle.ap_desc.specs.declared.design.Design.{Design}
use Rattle.ap_desc.specs.declared.design.Instr.{Instr}
use Rattle.ap_desc.specs.declared.fault.Fault.{Fault}
use Rattle.ap_desc.specs.declared.fault.Fault.TheVariants as f
use Rattle.ap_ports.specs.Firsts.{BreaksAt, IsBack, IsFirst, LineAt}
use Rattle.ap_ports.proofs.Members.{first_at, none_at}

-- what is read at a place
pub read_at : {X : Type 0} (ys xs : List X) → ys ≡ xs → (i : ℕ) (d : X) → i < length xs → slice_get xs i ≡ Some (get_or ys i d)
read_at ys xs e i d lt = slice_get-get_or xs i d lt ∙ ap (λ zs. Some (get_or zs i d)) (sym e)

pub not_line : (micros : List Micro) (place : ℕ) (m : Micro) (P : Micro → Type 0) → slice_get micros place ≡ Some m → (P m → ⊥) → LineAt micros place P → ⊥
not_line micros place m P at fails h = fails (subst P (same_Some h.0 m (sym h.1 ∙ at)) h.2)

-- none up to one more place
pub none_more : (P : ℕ → Type 0) (place : ℕ) → ((k : ℕ) → k < place → P k → ⊥) → (P place → ⊥) → (k : ℕ) → k < place + 1 → P k → ⊥
none_more P place none here k low h = elim (cases_order k place) [
  | inl same ↦ here (subst P same h)
  | inr (inl less) ↦ none k less h
  | inr (inr more) ↦ absurd (omega arith)
]

pub first_here : (P : ℕ → Type 0) (place : ℕ) → ((k : ℕ) → k < place → P k → ⊥) → P place → IsFirst P (Some place)
first_here P place none here = (here, λ other h. elim (cases_lt other place) [ inl less ↦ absurd (none other less h) | inr le ↦ le ])

-- where all places have none
pub none_there : (micros : List Micro) (P : Micro → Type 0) (place : ℕ) → length micros ≤ place → ((k : ℕ) → k < place → LineAt micros k P → ⊥) → IsFirst (λ k. LineAt micros k P) None
none_there micros P place past none = λ k h. (let low = slice_get_within micros k h.0 h.1 in none k (omega arith) h)

pub none_back : (micros : List Micro) (place : ℕ) → length micros ≤ place → ((k : ℕ) → k < place → IsBack micros k → ⊥) → IsFirst (IsBack micros) None
none_back micros place past none = λ k h. (let low = slice_get_within micros k h.0 h.1 in none k (omega arith) h)

pub back_here : (micros : List Micro) (place before : ℕ) (n m : Micro) → slice_get micros place ≡ Some n → slice_get micros before ≡ Some m → before + 1 ≡ place → n.stage < m.stage → IsBack micros place
back_here micros place before n m at there next less = (n, at, (before, next, (m, there, less)))

pub not_back : (micros : List Micro) (place before : ℕ) (n m : Micro) → slice_get micros place ≡ Some n → slice_get micros before ≡ Some m → before + 1 ≡ place → m.stage ≤ n.stage → IsBack micros place → ⊥
not_back micros place before n m at there next le (x, at_x, (i, next_i, (e, at_e, less))) =
    let same : i ≡ before = omega arith in
    let one : x.stage ≡ n.stage = ap (λ (y : Micro). y.stage) (same_Some x n (sym at_x ∙ at)) in
    let other : e.stage ≡ m.stage = ap (λ (y : Micro). y.stage) (same_Some e m (sym at_e ∙ ap (slice_get micros) same ∙ there)) in
    omega arith

pub no_first_back : (micros : List Micro) (k : ℕ) → k < 1 → IsBack micros k → ⊥
no_first_back micros k low (x, at, (i, next, rest)) = omega arith

-- the first line that passes a test
pub first_passing : (test : Micro → Bool) (micros : List Micro) (found : Option ℕ) → position test micros ≡ found → IsFirst (λ k. LineAt micros k (λ (m : Micro). test m ≡ true)) found
first_passing test micros None e = λ k (m, at, passes). none_at test micros e k m at passes
first_passing test micros (Some n) e =
    let first = first_at test micros n e in
    ((first.item, first.is_there, first.passes), λ other (m, at, passes). elim (cases_lt other n) [ inl less ↦ absurd (first.before other m less at passes) | inr le ↦ le ])

-- a kind that no line shows without the graph
pub none_other : (design : Design) (instr : Instr) (kind : Fault) → (kind ≡ f.TwiceInInstruction → ⊥) → (kind ≡ f.TwoStages → ⊥) → (kind ≡ f.StageZero → ⊥) → (kind ≡ f.StageOrder → ⊥) → (kind ≡ f.EarlyCommit → ⊥) → (kind ≡ f.UnstableOperand → ⊥)
    → IsFirst (BreaksAt design instr kind) None
none_other design instr f.TwiceInInstruction a b c d e g = absurd (a refl)
none_other design instr f.TwoStages a b c d e g = absurd (b refl)
none_other design instr f.StageZero a b c d e g = absurd (c refl)
none_other design instr f.StageOrder a b c d e g = absurd (d refl)
none_other design instr f.EarlyCommit a b c d e g = absurd (e refl)
none_other design instr f.UnstableOperand a b c d e g = absurd (g refl)
none_other design instr _ a b c d e g = λ n h. h

-- The steps of a loop over the lines, the line at a place read by any default.

pub line_first : (P : Micro → Type 0) (micros : List Micro) (place : ℕ) (d : Micro) → place < length micros → ((k : ℕ) → k < place → LineAt micros k P → ⊥) → P (get_or micros place d) → IsFirst (λ k. LineAt micros k P) (Some place)
line_first P micros place d low none here = first_here (λ k. LineAt micros k P) place none (get_or micros place d, slice_get-get_or micros place d low, here)

pub line_none_more : (P : Micro → Type 0) (micros : List Micro) (place : ℕ) (d : Micro) → place < length micros → ((k : ℕ) → k < place → LineAt micros k P → ⊥) → (P (get_or micros place d) → ⊥) → (k : ℕ) → k < place + 1 → LineAt micros k P → ⊥
line_none_more P micros place d low none fails = none_more (λ k. LineAt micros k P) place none (not_line micros place (get_or micros place d) P (slice_get-get_or micros place d low) fails)

pub back_first : (micros : List Micro) (place : ℕ) (d e : Micro) → 1 ≤ place → place < length micros → ((k : ℕ) → k < place → IsBack micros k → ⊥) → (get_or micros place d).stage < (get_or micros (place - 1) e).stage → IsFirst (IsBack micros) (Some place)
back_first micros place d e up low none less =
    first_here (IsBack micros) place none
    (back_here micros place (place - 1) (get_or micros place d) (get_or micros (place - 1) e) (slice_get-get_or micros place d low) (slice_get-get_or micros (place - 1) e (omega arith)) (omega arith) less)

pub back_none_more : (micros : List Micro) (place : ℕ) (d e : Micro) → 1 ≤ place → place < length micros → ((k : ℕ) → k < place → IsBack micros k → ⊥) → (get_or micros (place - 1) e).stage ≤ (get_or micros place d).stage
    → (k : ℕ) → k < place + 1 → IsBack micros k → ⊥
back_none_more micros place d e up low none le =
    none_more (IsBack micros) place none
    (not_back micros place (place - 1) (get_or micros place d) (get_or micros (place - 1) e) (slice_get-get_or micros place d low) (slice_get-get_or micros (place - 1) e (omega arith)) (omega arith) le)

-- the first place of a kind that is this one
pub of_kind : (design : Design) (instr : Instr) (kind other : Fault) (found : Option ℕ) → kind ≡ other → IsFirst (BreaksAt design instr other) found → IsFirst (BreaksAt design instr kind) found
of_kind design instr kind other found same first = subst (λ k. IsFirst (BreaksAt design instr k) found) (sym same) first
