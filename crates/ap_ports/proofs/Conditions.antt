-- Where a kind of fault holds at a line, some place of an instruction shows it, and the other way round.
use Rattle.std.proofs.Common.{◌≡◌, ℕ, zero, suc, ◌<◌, ◌≤◌, Bool, true, false, List, [], ◌∷◌, Option, Some, None, inl, inr, refl, sym, subst, ap, ◌∙◌, arith, eqb-true, ltb-true}
use Rattle.std.specs.Prelude.{◌==◌, ◌&&◌, ◌||◌, nat_lt, not, slice_get}
use Rattle.std.specs.List.{list_any}
use Rattle.std.proofs.lemmas.Bool.{and_from, and_parts, cases_eq, cases_lt, eq-eqb, lt-ltb, ne_eqb, not-true, not_from_false, or_cases, or_left, or_right}
use Rattle.std.proofs.lemmas.Option.{same_Some}
use Rattle.ap_desc.proofs.DesignLaws.{micros_in_order, own_in_order}
use Rattle.ap_desc.specs.Clean.{HasDesignFault}
use Rattle.ap_desc.specs.FaultTable.{phase_of}
use Rattle.ap_desc.specs.Meaning.{MeetsPortFault}
use Rattle.ap_desc.specs.Ports.{is_stray_transfer, is_used_before, is_used_elsewhere, micros_in, share_port}
use Rattle.ap_desc.specs.Sound.{IsSound}
use Rattle.ap_desc.specs.StageFaults.{steps_back}
use Rattle.ap_desc.specs.declared.design.Design.{Design}
use Rattle.ap_desc.specs.declared.design.Instr.{Instr}
use Rattle.ap_desc.specs.declared.design.Micro.{Micro}
use Rattle.ap_desc.specs.declared.fault.Fault.{Fault}
use Rattle.ap_desc.specs.declared.fault.Fault.TheVariants as f
use Rattle.ap_ports.specs.Elsewhere.{IsAstray, first_stage}
use Rattle.ap_ports.specs.Firsts.{BreaksIn, ClosesSome, IsBack, IsFirst, is_early, is_zero}
use Rattle.ap_ports.specs.Numbers.{IsNumbered, port_number}
use Rattle.ap_ports.proofs.Elsewhere.{first_use, some_use}
use Rattle.ap_ports.proofs.Flat.{flat_at, flat_from}
use Rattle.ap_ports.proofs.Members.{any_at, at_any, contains_at, each_get, place_of}
use Rattle.ap_ports.proofs.Numbered.{share_from, share_to, sound_numbered}

abbrev micros_of : Instr → List Micro
micros_of i = i.micros

-- Lines of which a test alone says.

-- a line that passes, of some instruction
record Passes (design : Design) (test : Micro → Bool) (line : ℕ) : Type 0 where
  pub number : ℕ
  pub instr : Instr
  pub is_instr : slice_get design.instrs number ≡ Some instr
  pub place : ℕ
  pub micro : Micro
  pub is_line : slice_get instr.micros place ≡ Some micro
  pub at : micro.line ≡ line
  pub passes : test micro ≡ true

passes_from : (design : Design) (test : Micro → Bool) (line : ℕ) → list_any (λ (m : Micro). test m && (m.line == line)) (micros_in design) ≡ true → Passes design test line
passes_from design test line e =
    let (j, m, at, both) = any_at (λ (m : Micro). test m && (m.line == line)) (micros_in design) e in
    let s = flat_from micros_of design.instrs j m at in
    let parts = and_parts (test m) (m.line == line) both in
    record { number = s.number; instr = s.item; is_instr = s.is_item; place = s.place; micro = m; is_line = s.is_there; at = eqb-true m.line line parts.1; passes = parts.0 }

passes_to : (design : Design) (test : Micro → Bool) (line number : ℕ) (instr : Instr) (place : ℕ) (m : Micro) → slice_get design.instrs number ≡ Some instr → slice_get instr.micros place ≡ Some m → m.line ≡ line → test m ≡ true
    → list_any (λ (m : Micro). test m && (m.line == line)) (micros_in design) ≡ true
passes_to design test line number instr place m at there line_is passes =
    let (j, found) = flat_at micros_of design.instrs number instr place m at there in
    at_any (λ (x : Micro). test x && (x.line == line)) (micros_in design) j m found (and_from (test m) (m.line == line) passes (eq-eqb m.line line line_is))

-- the line at the place
line_is : (design : Design) (kind : Fault) (line : ℕ) (b : BreaksIn design kind line) (m : Micro) → slice_get b.instr.micros b.place ≡ Some m → m.line ≡ line
line_is design kind line b m at = ap (λ (x : Micro). x.line) (same_Some m b.micro (sym at ∙ b.is_line)) ∙ b.at

-- Stage 0.

zero_to : (design : Design) (line : ℕ) → HasDesignFault design f.StageZero line → BreaksIn design f.StageZero line
zero_to design line h =
    let p = passes_from design is_zero line h in
    record { instr = p.instr; number = p.number; is_instr = p.is_instr; place = p.place; micro = p.micro; is_line = p.is_line; at = p.at; breaks = (p.micro, p.is_line, p.passes) }

zero_from : (design : Design) (line : ℕ) → BreaksIn design f.StageZero line → HasDesignFault design f.StageZero line
zero_from design line b =
    let (m, at, passes) = b.breaks in
    passes_to design is_zero line b.number b.instr b.place m b.is_instr at (line_is design f.StageZero line b m at) passes

-- Early writes.

early_to : (design : Design) (line : ℕ) → HasDesignFault design f.EarlyCommit line → BreaksIn design f.EarlyCommit line
early_to design line h =
    let p = passes_from design (is_early design) line h in
    record { instr = p.instr; number = p.number; is_instr = p.is_instr; place = p.place; micro = p.micro; is_line = p.is_line; at = p.at; breaks = (p.micro, p.is_line, p.passes) }

early_from : (design : Design) (line : ℕ) → BreaksIn design f.EarlyCommit line → HasDesignFault design f.EarlyCommit line
early_from design line b =
    let (m, at, passes) = b.breaks in
    passes_to design (is_early design) line b.number b.instr b.place m b.is_instr at (line_is design f.EarlyCommit line b m at) passes

-- A port twice in an instruction.

abbrev before_test : Micro → Micro → Bool
before_test m e = share_port e.act m.act && nat_lt e.line m.line

twice_to : (design : Design) → IsSound design → (line : ℕ) → HasDesignFault design f.TwiceInInstruction line → BreaksIn design f.TwiceInInstruction line
twice_to design sound line h =
    let (number, instr, at, some) = any_at (λ (i : Instr). list_any (λ (m : Micro). is_used_before i.micros m && (m.line == line)) i.micros) design.instrs h in
    let (place, m, there, both) = any_at (λ (m : Micro). is_used_before instr.micros m && (m.line == line)) instr.micros some in
    let parts = and_parts (is_used_before instr.micros m) (m.line == line) both in
    let (i, e, earlier, shares) = any_at (before_test m) instr.micros parts.0 in
    let ends = and_parts (share_port e.act m.act) (nat_lt e.line m.line) shares in
    let low : i < place = (own_in_order design instr i place e m sound (contains_at design.instrs number instr at) earlier there).0 (ltb-true e.line m.line ends.1) in
    record { instr = instr; number = number; is_instr = at; place = place; micro = m; is_line = there; at = eqb-true m.line line parts.1; breaks = (m, there, (i, low, (e, earlier, ends.0))) }

twice_from : (design : Design) → IsSound design → (line : ℕ) → BreaksIn design f.TwiceInInstruction line → HasDesignFault design f.TwiceInInstruction line
twice_from design sound line b =
    let (m, at, (i, low, (e, earlier, shares))) = b.breaks in
    let lower : e.line < m.line = (own_in_order design b.instr i b.place e m sound (contains_at design.instrs b.number b.instr b.is_instr) earlier at).1 low in
    let used : is_used_before b.instr.micros m ≡ true = at_any (before_test m) b.instr.micros i e earlier (and_from (share_port e.act m.act) (nat_lt e.line m.line) shares (lt-ltb e.line m.line lower)) in
    at_any (λ (x : Instr). list_any (λ (y : Micro). is_used_before x.micros y && (y.line == line)) x.micros) design.instrs b.number b.instr b.is_instr
    (at_any (λ (y : Micro). is_used_before b.instr.micros y && (y.line == line)) b.instr.micros b.place m at
    (and_from (is_used_before b.instr.micros m) (m.line == line) used (eq-eqb m.line line (line_is design f.TwiceInInstruction line b m at))))

-- A lower stage than that of the line before.

abbrev BackAt : List Micro → ℕ → Type 0
BackAt micros line = (place : ℕ) × (n : Micro) × (slice_get micros place ≡ Some n) × (n.line ≡ line) × IsBack micros place

back_later : (x : Micro) (micros : List Micro) (line : ℕ) → BackAt micros line → BackAt (x ∷ micros) line
back_later x micros line (place, n, at, is, (m, again, (i, next, (e, there, less)))) = (suc place, n, at, is, (m, again, (suc i, omega arith, (e, there, less))))

back_to : (micros : List Micro) (line : ℕ) → steps_back micros line ≡ true → BackAt micros line
back_to [] line e = absurd cc
back_to (m ∷ []) line e = absurd cc
back_to (m ∷ n ∷ micros) line e = elim (or_cases (nat_lt n.stage m.stage && (n.line == line)) (steps_back (n ∷ micros) line) e) [
  | inl here ↦
      let parts = and_parts (nat_lt n.stage m.stage) (n.line == line) here in
      (1, n, refl, eqb-true n.line line parts.1, (n, refl, (0, refl, (m, refl, ltb-true n.stage m.stage parts.0))))
  | inr later ↦ back_later m (n ∷ micros) line (back_to (n ∷ micros) line later)
]

back_from : (micros : List Micro) (i : ℕ) (m n : Micro) (line : ℕ) → slice_get micros i ≡ Some m → slice_get micros (suc i) ≡ Some n → n.line ≡ line → n.stage < m.stage → steps_back micros line ≡ true
back_from [] i m n line at next is less = absurd cc
back_from (x ∷ []) zero m n line at next is less = absurd cc
back_from (x ∷ []) (suc i) m n line at next is less = absurd cc
back_from (x ∷ y ∷ micros) zero m n line at next is less =
    let one : x ≡ m = same_Some x m at in
    let other : y ≡ n = same_Some y n next in
    let stages : y.stage < x.stage = (let a : y.stage ≡ n.stage = ap (λ (z : Micro). z.stage) other in let b : x.stage ≡ m.stage = ap (λ (z : Micro). z.stage) one in omega arith) in
    or_left (nat_lt y.stage x.stage && (y.line == line)) (steps_back (y ∷ micros) line)
    (and_from (nat_lt y.stage x.stage) (y.line == line) (lt-ltb y.stage x.stage stages) (eq-eqb y.line line (ap (λ (z : Micro). z.line) other ∙ is)))
back_from (x ∷ y ∷ micros) (suc i) m n line at next is less =
    or_right (nat_lt y.stage x.stage && (y.line == line)) (steps_back (y ∷ micros) line) (back_from (y ∷ micros) i m n line at next is less)

order_to : (design : Design) (line : ℕ) → HasDesignFault design f.StageOrder line → BreaksIn design f.StageOrder line
order_to design line h =
    let (number, instr, at, steps) = any_at (λ (i : Instr). steps_back i.micros line) design.instrs h in
    let (place, n, there, is, back) = back_to instr.micros line steps in
    record { instr = instr; number = number; is_instr = at; place = place; micro = n; is_line = there; at = is; breaks = back }

order_from : (design : Design) (line : ℕ) → BreaksIn design f.StageOrder line → HasDesignFault design f.StageOrder line
order_from design line b =
    let (n, at, (i, next, (m, there, less))) = b.breaks in
    let place_is : suc i ≡ b.place = omega arith in
    at_any (λ (x : Instr). steps_back x.micros line) design.instrs b.number b.instr b.is_instr
    (back_from b.instr.micros i m n line there (ap (slice_get b.instr.micros) place_is ∙ at) (line_is design f.StageOrder line b n at) less)

-- A slow unit with an unsteady operand.

unsteady_to : (design : Design) (line : ℕ) → HasDesignFault design f.UnstableOperand line → BreaksIn design f.UnstableOperand line
unsteady_to design line h =
    let (number, at) = place_of design.instrs h.instr h.is_instr in
    let (place, there) = place_of h.instr.micros h.micro h.is_line in
    record { instr = h.instr; number = number; is_instr = at; place = place; micro = h.micro; is_line = there; at = h.at; breaks = (h.micro, there, (h.slow, h.unstable)) }

unsteady_from : (design : Design) (line : ℕ) → BreaksIn design f.UnstableOperand line → HasDesignFault design f.UnstableOperand line
unsteady_from design line b =
    let (m, at, (slow, unstable)) = b.breaks in
    record { instr = b.instr; is_instr = contains_at design.instrs b.number b.instr b.is_instr; micro = m; is_line = contains_at b.instr.micros b.place m at; at = line_is design f.UnstableOperand line b m at; slow = slow; unstable = unstable }

-- A port in two stages.

abbrev elsewhere_test : Micro → Micro → Bool
elsewhere_test m e = share_port e.act m.act && not (e.stage == m.stage) && nat_lt e.line m.line

pub numbered_at : (design : Design) → IsSound design → (j : ℕ) (m : Micro) → slice_get (micros_in design) j ≡ Some m → IsNumbered m.act
numbered_at design sound j m at =
    let s = flat_from micros_of design.instrs j m at in
    each_get (λ (x : Micro). IsNumbered x.act) s.item.micros s.place m (sound_numbered design sound s.number s.item s.is_item) s.is_there

-- a line in another stage than the first one of its port: that one is earlier
astray_used : (design : Design) → IsSound design → (j : ℕ) (m : Micro) → slice_get (micros_in design) j ≡ Some m → (port stage : ℕ) → port_number m.act ≡ Some port → first_stage port (micros_in design) ≡ Some stage → (stage ≡ m.stage → ⊥)
    → is_used_elsewhere (micros_in design) m ≡ true
astray_used design sound j m at port stage number first other =
    let u = first_use port (micros_in design) stage first in
    let differs : u.micro.stage ≡ m.stage → ⊥ = λ same. other (sym u.at ∙ same) in
    let apart : u.place ≡ j → ⊥ = λ same. differs (ap (λ (x : Micro). x.stage) (same_Some u.micro m (sym u.is_line ∙ ap (slice_get (micros_in design)) same ∙ at))) in
    let le : u.place ≤ j = u.before j m at number in
    let low : u.place < j = elim (cases_eq u.place j) [ inl same ↦ absurd (apart same) | inr other_place ↦ below u.place j le other_place ] in
    let lower : u.micro.line < m.line = (micros_in_order design u.place j u.micro m sound u.is_line at).1 low in
    at_any (elsewhere_test m) (micros_in design) u.place u.micro u.is_line
    (and_from (share_port u.micro.act m.act && not (u.micro.stage == m.stage)) (nat_lt u.micro.line m.line)
    (and_from (share_port u.micro.act m.act) (not (u.micro.stage == m.stage))
    (share_from u.micro.act m.act port (numbered_at design sound u.place u.micro u.is_line) (numbered_at design sound j m at) u.number number)
    (not_from_false (u.micro.stage == m.stage) (ne_eqb u.micro.stage m.stage differs)))
    (lt-ltb u.micro.line m.line lower))
  where
    below : (a b : ℕ) → a ≤ b → (a ≡ b → ⊥) → a < b
    below a b le other_place = elim (cases_lt a b) [ inl less ↦ less | inr ge ↦ absurd (other_place (omega arith)) ]

stages_from : (design : Design) → IsSound design → (line : ℕ) → BreaksIn design f.TwoStages line → HasDesignFault design f.TwoStages line
stages_from design sound line b =
    let (m, at, astray) = b.breaks in
    passes_to design (λ (x : Micro). is_used_elsewhere (micros_in design) x || is_stray_transfer design x) line b.number b.instr b.place m b.is_instr at (line_is design f.TwoStages line b m at) (either m at astray)
  where
    either : (m : Micro) → slice_get b.instr.micros b.place ≡ Some m → IsAstray design m → (is_used_elsewhere (micros_in design) m || is_stray_transfer design m) ≡ true
    either m at (inl stray) = or_right (is_used_elsewhere (micros_in design) m) (is_stray_transfer design m) stray
    either m at (inr (port, stage, number, first, other)) =
        let (j, found) = flat_at micros_of design.instrs b.number b.instr b.place m b.is_instr at in
        or_left (is_used_elsewhere (micros_in design) m) (is_stray_transfer design m) (astray_used design sound j m found port stage number first other)

-- an astray line at or before this one
abbrev AstrayBy : Design → ℕ → Type 0
AstrayBy design line = (lower : ℕ) × (lower ≤ line) × BreaksIn design f.TwoStages lower

astray_here : (design : Design) (j : ℕ) (m : Micro) → slice_get (micros_in design) j ≡ Some m → IsAstray design m → BreaksIn design f.TwoStages m.line
astray_here design j m at astray =
    let s = flat_from micros_of design.instrs j m at in
    record { instr = s.item; number = s.number; is_instr = s.is_item; place = s.place; micro = m; is_line = s.is_there; at = refl; breaks = (m, s.is_there, astray) }

used_astray : (design : Design) → IsSound design → (j : ℕ) (m : Micro) → slice_get (micros_in design) j ≡ Some m → is_used_elsewhere (micros_in design) m ≡ true → AstrayBy design m.line
used_astray design sound j m at used =
    let (i, e, there, test) = any_at (elsewhere_test m) (micros_in design) used in
    let outer = and_parts (share_port e.act m.act && not (e.stage == m.stage)) (nat_lt e.line m.line) test in
    let inner = and_parts (share_port e.act m.act) (not (e.stage == m.stage)) outer.0 in
    let differs : e.stage ≡ m.stage → ⊥ = λ same. absurd (let yes : (e.stage == m.stage) ≡ true = eq-eqb e.stage m.stage same in let no : (e.stage == m.stage) ≡ false = not-true (e.stage == m.stage) inner.1 in cc) in
    let lower : e.line < m.line = ltb-true e.line m.line outer.1 in
    let (port, one, other) = share_to e.act m.act (numbered_at design sound i e there) (numbered_at design sound j m at) inner.0 in
    let (stage, first) = some_use port (micros_in design) j m at other in
    elim (cases_eq stage m.stage) [
      | inl same ↦ (e.line, omega arith, astray_here design i e there (inr (port, stage, one, first, λ here. differs (sym here ∙ same))))
      | inr elsewhere ↦ (m.line, omega arith, astray_here design j m at (inr (port, stage, other, first, elsewhere)))
    ]

stages_to : (design : Design) → IsSound design → (line : ℕ) → HasDesignFault design f.TwoStages line → AstrayBy design line
stages_to design sound line h =
    let (j, m, at, both) = any_at (λ (x : Micro). (is_used_elsewhere (micros_in design) x || is_stray_transfer design x) && (x.line == line)) (micros_in design) h in
    let parts = and_parts (is_used_elsewhere (micros_in design) m || is_stray_transfer design m) (m.line == line) both in
    let is : m.line ≡ line = eqb-true m.line line parts.1 in
    subst (AstrayBy design) is (elim (or_cases (is_used_elsewhere (micros_in design) m) (is_stray_transfer design m) parts.0) [
      | inl used ↦ used_astray design sound j m at used
      | inr stray ↦ (m.line, omega arith, astray_here design j m at (inl stray))
    ])

-- The first line of a kind.

first_by : (P Q : ℕ → Type 0) (found : Option ℕ) → ((n : ℕ) → P n → Q n) → ((n : ℕ) → Q n → (lower : ℕ) × (lower ≤ n) × P lower) → IsFirst P found → IsFirst Q found
first_by P Q None up down first = λ n q. (let (lower, le, p) = down n q in first lower p)
first_by P Q (Some least) up down first = (up least first.0, λ n q. (let (lower, le, p) = down n q in let low : least ≤ lower = first.1 lower p in omega arith))

-- a kind that the lines show without the graph
abbrev pub IsShown : Fault → Type 0
IsShown f.ChainLoop = ⊥
IsShown f.TooManySlots = ⊥
IsShown kind = Unit {0}

pub is_shown : (kind : Fault) → (kind ≡ f.ChainLoop → ⊥) → (kind ≡ f.TooManySlots → ⊥) → IsShown kind
is_shown f.ChainLoop not_loop not_slots = absurd (not_loop refl)
is_shown f.TooManySlots not_loop not_slots = absurd (not_slots refl)
is_shown _ not_loop not_slots = tt

abbrev ByLine : Design → Fault → ℕ → Type 0
ByLine design kind line = (lower : ℕ) × (lower ≤ line) × BreaksIn design kind lower

at_line : (design : Design) (kind : Fault) (line : ℕ) → BreaksIn design kind line → ByLine design kind line
at_line design kind line b = (line, omega arith, b)

shown_down : (design : Design) → IsSound design → (kind : Fault) → IsShown kind → (line : ℕ) → MeetsPortFault design kind line → ByLine design kind line
shown_down design sound f.TwiceInInstruction shown line (late, h) = at_line design f.TwiceInInstruction line (twice_to design sound line h)
shown_down design sound f.TwoStages shown line (late, h) = stages_to design sound line h
shown_down design sound f.StageZero shown line (late, h) = at_line design f.StageZero line (zero_to design line h)
shown_down design sound f.StageOrder shown line (late, h) = at_line design f.StageOrder line (order_to design line h)
shown_down design sound f.EarlyCommit shown line (late, h) = at_line design f.EarlyCommit line (early_to design line h)
shown_down design sound f.UnstableOperand shown line (late, h) = at_line design f.UnstableOperand line (unsteady_to design line h)
shown_down design sound f.ChainLoop shown line (late, h) = absurd shown
shown_down design sound f.TooManySlots shown line (late, h) = absurd shown
shown_down design sound _ shown line (late, h) = absurd (omega arith)

shown_up : (design : Design) → IsSound design → (kind : Fault) → (line : ℕ) → BreaksIn design kind line → MeetsPortFault design kind line
shown_up design sound f.TwiceInInstruction line b = (omega arith, twice_from design sound line b)
shown_up design sound f.TwoStages line b = (omega arith, stages_from design sound line b)
shown_up design sound f.StageZero line b = (omega arith, zero_from design line b)
shown_up design sound f.StageOrder line b = (omega arith, order_from design line b)
shown_up design sound f.EarlyCommit line b = (omega arith, early_from design line b)
shown_up design sound f.UnstableOperand line b = (omega arith, unsteady_from design line b)
shown_up design sound _ line b = absurd b.breaks

pub first_shown : (design : Design) → IsSound design → (kind : Fault) → IsShown kind → (found : Option ℕ) → IsFirst (BreaksIn design kind) found → IsFirst (MeetsPortFault design kind) found
first_shown design sound kind shown found = first_by (BreaksIn design kind) (MeetsPortFault design kind) found (shown_up design sound kind) (shown_down design sound kind shown)

-- a kind of a later phase whose condition this is
pub first_late : (design : Design) (kind : Fault) → 5 ≤ phase_of kind → (found : Option ℕ) → IsFirst (HasDesignFault design kind) found → IsFirst (MeetsPortFault design kind) found
first_late design kind late found = first_by (HasDesignFault design kind) (MeetsPortFault design kind) found (λ n h. (late, h)) (λ n h. (n, omega arith, h.1))

pub first_chain : (design : Design) (kind : Fault) (found : Option ℕ) → kind ≡ f.ChainLoop → IsFirst (ClosesSome design) found → IsFirst (MeetsPortFault design kind) found
first_chain design kind found same first = subst (λ k. IsFirst (MeetsPortFault design k) found) (sym same) (first_late design f.ChainLoop (omega arith) found first)
