-- Going past lines that have no fault: the faults of all lines are those of the lines that are left.
use Rattle.std.proofs.Common.{◌≡◌, ℕ, ◌<◌, ◌≤◌, ◌&&◌, not, List, [], ◌∷◌, ◌++◌, Bool, true, false, refl, sym, ap, subst, ◌∙◌, arith, append-nil, append_assoc, ⊎_elim}
use Rattle.std.specs.Prelude.{IsTrue}
use Rattle.std.proofs.lemmas.Bool.{and_parts, cases_lt, not-true, false≢true}
use Rattle.ap_text.specs.Lines.{TextLine}
use Rattle.ap_desc.specs.declared.fault.Fault.{Fault}
use Rattle.ap_desc.specs.declared.fault.Fault.TheVariants as f
use Rattle.ap_desc.specs.declared.fault.Refusal.{Refusal}
use Rattle.ap_desc.specs.declared.statement.Statement.{Statement}
use Rattle.ap_bits.specs.Beside.{EachBeside}
use Rattle.ap_desc.specs.Faults.{IsBefore, SaysNothing, StandsAt}
use Rattle.ap_desc.specs.FaultTable.{phase_of, number_of}
use Rattle.ap_desc.specs.Order.{are_in_order, is_one_too_many, is_out_of_order}
use Rattle.ap_desc.specs.Reading.{SpellsLine}
use Rattle.ap_desc.specs.Spelling.{Spells}
use Rattle.ap_read.specs.LineFaults.{HasLineFault, HoldsAt, IsLeastLineFault, IsNothingAt, LinesRise}

-- no two statements have the same tokens
abbrev pub AreUnique : Type 0
AreUnique = (one other : Statement) (tokens : List (List ℕ)) → Spells one tokens → Spells other tokens → one ≡ other

head_same : {X : Type 0} (x y : X) (xs ys : List X) → x ∷ xs ≡ y ∷ ys → x ≡ y
head_same x y xs ys e = cc

tail_same : {X : Type 0} (x y : X) (xs ys : List X) → x ∷ xs ≡ y ∷ ys → xs ≡ ys
tail_same x y xs ys e = cc

says_once : AreUnique → (one other : Statement) (line there : TextLine) → line ≡ there → SpellsLine one there → SpellsLine other line → one ≡ other
says_once unique one other line there e h g = unique one other line.tokens (subst (λ (l : TextLine). SpellsLine one l) (sym e) h).spells g.spells

-- the statements before and after one more
more_said : (said earlier : List Statement) (s x : Statement) → x ≡ s → said ++ (x ∷ earlier) ≡ (said ++ s ∷ []) ++ earlier
more_said said earlier s x e = ap (λ y. said ++ (y ∷ earlier)) e ∙ sym (append_assoc said (s ∷ []) earlier)

nothing_on : (s : Statement) (line : TextLine) (rest : List TextLine) → SpellsLine s line → (before : List TextLine) (at : TextLine) (after : List TextLine) (number : ℕ) → line ∷ rest ≡ before ++ at ∷ after → at.number ≡ number → SaysNothing at → IsNothingAt rest number
nothing_on s line rest says [] at after number e n nothing = absurd (nothing s (subst (λ (l : TextLine). SpellsLine s l) (head_same line at rest after e) says))
nothing_on s line rest says (b ∷ before) at after number e n nothing = (before, at, record { after = after; parts = tail_same line b rest (before ++ at ∷ after) e; numbered = n }, nothing)

holds_on : (test : List Statement → Statement → Bool) → AreUnique → (said : List Statement) (s : Statement) (line : TextLine) (rest : List TextLine) → SpellsLine s line → test said s ≡ false
    → (earlier : List Statement) (t : Statement) (before : List TextLine) (at : TextLine) (after : List TextLine) (number : ℕ) → line ∷ rest ≡ before ++ at ∷ after → at.number ≡ number → EachBeside SpellsLine earlier before → SpellsLine t at → IsTrue (test (said ++ earlier) t)
    → HoldsAt test (said ++ s ∷ []) rest number
holds_on test unique said s line rest says fails [] t [] at after number e n beside says' holds =
    let same : t ≡ s = says_once unique t s line at (head_same line at rest after e) says' says in
    absurd (false≢true (sym fails ∙ sym (ap (test said) same) ∙ sym (ap (λ l. test l t) (append-nil said)) ∙ holds))
holds_on test unique said s line rest says fails (x ∷ earlier) t [] at after number e n beside says' holds = absurd beside
holds_on test unique said s line rest says fails [] t (b ∷ before) at after number e n beside says' holds = absurd beside
holds_on test unique said s line rest says fails (x ∷ earlier) t (b ∷ before) at after number e n beside says' holds =
    let same : x ≡ s = says_once unique x s line b (head_same line b rest (before ++ at ∷ after) e) beside.0 says in
    (earlier, t, record { before = before; line = at; place = record { after = after; parts = tail_same line b rest (before ++ at ∷ after) e; numbered = n }; said = beside.1; says = says' }, sym (ap (λ l. test l t) (more_said said earlier s x same)) ∙ holds)

held_on : (test : List Statement → Statement → Bool) → AreUnique → (said : List Statement) (s : Statement) (line : TextLine) (rest : List TextLine) → SpellsLine s line → test said s ≡ false → (number : ℕ) → HoldsAt test said (line ∷ rest) number → HoldsAt test (said ++ s ∷ []) rest number
held_on test unique said s line rest says fails number h = holds_on test unique said s line rest says fails h.0 h.1 h.2.before h.2.line h.2.place.after number h.2.place.parts h.2.place.numbered h.2.said h.2.says h.3

nothing_after : (s : Statement) (line : TextLine) (rest : List TextLine) → SpellsLine s line → (number : ℕ) → IsNothingAt (line ∷ rest) number → IsNothingAt rest number
nothing_after s line rest says number h = nothing_on s line rest says h.0 h.1 h.2.after number h.2.parts h.2.numbered h.3

-- past a line without fault
pub step_on : AreUnique → (said : List Statement) (s : Statement) (line : TextLine) (rest : List TextLine) → SpellsLine s line → is_out_of_order said s ≡ false → is_one_too_many said s ≡ false → (kind : Fault) (number : ℕ) → HasLineFault said (line ∷ rest) kind number → HasLineFault (said ++ s ∷ []) rest kind number
step_on unique said s line rest says order few f.BadLine number h = nothing_after s line rest says number h
step_on unique said s line rest says order few f.BadOrder number h = held_on is_out_of_order unique said s line rest says order number h
step_on unique said s line rest says order few f.TooMany number h = held_on is_one_too_many unique said s line rest says few number h
step_on unique said s line rest says order few _ number h = absurd h

held_back : (test : List Statement → Statement → Bool) (said : List Statement) (s : Statement) (line : TextLine) (rest : List TextLine) → SpellsLine s line → (number : ℕ) → HoldsAt test (said ++ s ∷ []) rest number → HoldsAt test said (line ∷ rest) number
held_back test said s line rest says number h =
    (s ∷ h.0, h.1, record { before = line ∷ h.2.before; line = h.2.line; place = record { after = h.2.place.after; parts = ap (λ l. line ∷ l) h.2.place.parts; numbered = h.2.place.numbered }; said = (says, h.2.said); says = h.2.says }, ap (λ l. test l h.1) (more_said said h.0 s s refl) ∙ h.3)

nothing_before : (line : TextLine) (rest : List TextLine) (number : ℕ) → IsNothingAt rest number → IsNothingAt (line ∷ rest) number
nothing_before line rest number h = (line ∷ h.0, h.1, record { after = h.2.after; parts = ap (λ l. line ∷ l) h.2.parts; numbered = h.2.numbered }, h.3)

-- and back
pub step_back : (said : List Statement) (s : Statement) (line : TextLine) (rest : List TextLine) → SpellsLine s line → (kind : Fault) (number : ℕ) → HasLineFault (said ++ s ∷ []) rest kind number → HasLineFault said (line ∷ rest) kind number
step_back said s line rest says f.BadLine number h = nothing_before line rest number h
step_back said s line rest says f.BadOrder number h = held_back is_out_of_order said s line rest says number h
step_back said s line rest says f.TooMany number h = held_back is_one_too_many said s line rest says number h
step_back said s line rest says _ number h = absurd h

-- the three parts of what it is for statements to be in order
abbrev pub Due : List Statement → Statement → List Statement → Type 0
Due said s later = (is_out_of_order said s ≡ false) × (is_one_too_many said s ≡ false) × (are_in_order (said ++ s ∷ []) later ≡ true)

pub due_parts : (said : List Statement) (s : Statement) (later : List Statement) → are_in_order said (s ∷ later) ≡ true → Due said s later
due_parts said s later h =
    let both = and_parts (not (is_out_of_order said s) && not (is_one_too_many said s)) (are_in_order (said ++ s ∷ []) later) h in
    let first = and_parts (not (is_out_of_order said s)) (not (is_one_too_many said s)) both.0 in
    (not-true (is_out_of_order said s) first.0, not-true (is_one_too_many said s) first.1, both.1)

pub due_from : (said : List Statement) (s : Statement) (later : List Statement) → is_out_of_order said s ≡ false → is_one_too_many said s ≡ false → are_in_order (said ++ s ∷ []) later ≡ true → are_in_order said (s ∷ later) ≡ true
due_from said s later order few rest = rw (order, few, rest) refl

-- past some lines without fault
pub walk_on : AreUnique → (said later : List Statement) (front rest : List TextLine) → EachBeside SpellsLine later front → are_in_order said later ≡ true → (kind : Fault) (number : ℕ) → HasLineFault said (front ++ rest) kind number → HasLineFault (said ++ later) rest kind number
walk_on unique said [] [] rest beside order kind number h = subst (λ (l : List Statement). HasLineFault l rest kind number) (sym (append-nil said)) h
walk_on unique said [] (line ∷ front) rest beside order kind number h = absurd beside
walk_on unique said (s ∷ later) [] rest beside order kind number h = absurd beside
walk_on unique said (s ∷ later) (line ∷ front) rest beside order kind number h =
    let due = due_parts said s later order in
    subst (λ (l : List Statement). HasLineFault l rest kind number) (append_assoc said (s ∷ []) later)
    (walk_on unique (said ++ s ∷ []) later front rest beside.1 due.2 kind number (step_on unique said s line (front ++ rest) beside.0 due.0 due.1 kind number h))

pub walk_back : (said later : List Statement) (front rest : List TextLine) → EachBeside SpellsLine later front → (kind : Fault) (number : ℕ) → HasLineFault (said ++ later) rest kind number → HasLineFault said (front ++ rest) kind number
walk_back said [] [] rest beside kind number h = subst (λ (l : List Statement). HasLineFault l rest kind number) (append-nil said) h
walk_back said [] (line ∷ front) rest beside kind number h = absurd beside
walk_back said (s ∷ later) [] rest beside kind number h = absurd beside
walk_back said (s ∷ later) (line ∷ front) rest beside kind number h =
    step_back said s line (front ++ rest) beside.0 kind number
    (walk_back (said ++ s ∷ []) later front rest beside.1 kind number (subst (λ (l : List Statement). HasLineFault l rest kind number) (sym (append_assoc said (s ∷ []) later)) h))

nowhere : {A : Type 0} (before : List TextLine) (at : TextLine) (after : List TextLine) → [] ≡ before ++ at ∷ after → A
nowhere [] at after e = cc
nowhere (b ∷ before) at after e = cc

-- no lines have no fault
pub none_left : (said : List Statement) (kind : Fault) (number : ℕ) → HasLineFault said [] kind number → ⊥
none_left said f.BadLine number h = nowhere h.0 h.1 h.2.after h.2.parts
none_left said f.BadOrder number h = nowhere h.2.before h.2.line h.2.place.after h.2.place.parts
none_left said f.TooMany number h = nowhere h.2.before h.2.line h.2.place.after h.2.place.parts
none_left said _ number h = h

-- lines that say statements in order have no fault
pub clean_lines : AreUnique → (said : List Statement) (lines : List TextLine) → EachBeside SpellsLine said lines → are_in_order [] said ≡ true → (kind : Fault) (number : ℕ) → HasLineFault [] lines kind number → ⊥
clean_lines unique said lines beside order kind number h = none_left said kind number (walk_on unique [] said lines [] beside order kind number (subst (λ (l : List TextLine). HasLineFault [] l kind number) (sym (append-nil lines)) h))

-- a line among lines whose numbers rise
above : (n : ℕ) (before : List TextLine) (at : TextLine) (after : List TextLine) → LinesRise n (before ++ at ∷ after) → n < at.number
above n [] at after h = h.0
above n (b ∷ before) at after h = let rest : b.number < at.number = above b.number before at after h.1 in omega (arith, h.0)

pub place_above : (n : ℕ) (lines before : List TextLine) (at : TextLine) (after : List TextLine) (number : ℕ) → lines ≡ before ++ at ∷ after → at.number ≡ number → LinesRise n lines → n < number
place_above n lines before at after number e same rise = let lt = above n before at after (subst (λ (l : List TextLine). LinesRise n l) e rise) in omega arith

pub fault_above : (n : ℕ) (said : List Statement) (lines : List TextLine) → LinesRise n lines → (kind : Fault) (number : ℕ) → HasLineFault said lines kind number → n < number
fault_above n said lines rise f.BadLine number h = place_above n lines h.0 h.1 h.2.after number h.2.parts h.2.numbered rise
fault_above n said lines rise f.BadOrder number h = place_above n lines h.2.before h.2.line h.2.place.after number h.2.place.parts h.2.place.numbered rise
fault_above n said lines rise f.TooMany number h = place_above n lines h.2.before h.2.line h.2.place.after number h.2.place.parts h.2.place.numbered rise
fault_above n said lines rise _ number h = absurd h

-- a fault of the same phase that isn't at an earlier line, and at the same line hasn't a lower number
not_before : (kind other : Fault) (line number : ℕ) → phase_of kind ≡ phase_of other → line ≤ number → (number ≡ line → number_of other ≤ number_of kind) → IsBefore kind number other line → ⊥
not_before kind other line number phase le here h = ⊎_elim
    (λ earlier. let wrong : ⊥ = omega arith in wrong)
    (λ same. ⊎_elim (λ lt. let wrong : ⊥ = omega arith in wrong) (λ both. let low = here both.0 in let lt = both.1 in let wrong : ⊥ = omega arith in wrong) same.1)
    h

-- all faults of these lines are at the first line or after it
from_first : (said : List Statement) (line : TextLine) (rest : List TextLine) → LinesRise line.number rest → (kind : Fault) (number : ℕ) → HasLineFault said (line ∷ rest) kind number → line.number ≤ number
from_first said line rest rise kind number h = ⊎_elim (λ lt. let wrong = fault_above number said (line ∷ rest) (lt, rise) kind number h in absurd (omega arith)) (λ le. le) (cases_lt number line.number)

first_place : (line : TextLine) (rest : List TextLine) → StandsAt (line ∷ rest) line.number [] line
first_place line rest = record { after = rest; parts = refl; numbered = refl }

-- the first line says nothing
pub least_nothing : (said : List Statement) (line : TextLine) (rest : List TextLine) → LinesRise line.number rest → SaysNothing line → IsLeastLineFault said (line ∷ rest) (record { phase = 1; line = line.number; kind = f.BadLine })
least_nothing said line rest rise nothing = record {
  phase = refl;
  holds = ([], line, first_place line rest, nothing);
  least = λ kind number h. never kind number h (from_first said line rest rise kind number h);
}
  where
    never : (kind : Fault) (number : ℕ) → HasLineFault said (line ∷ rest) kind number → line.number ≤ number → IsBefore kind number f.BadLine line.number → ⊥
    never f.BadLine number h le = not_before f.BadLine f.BadLine line.number number refl le (λ e. omega arith)
    never f.BadOrder number h le = not_before f.BadOrder f.BadLine line.number number refl le (λ e. omega arith)
    never f.TooMany number h le = not_before f.TooMany f.BadLine line.number number refl le (λ e. omega arith)
    never _ number h le = absurd h

held_first : (test : List Statement → Statement → Bool) (said : List Statement) (s : Statement) (line : TextLine) (rest : List TextLine) → SpellsLine s line → test said s ≡ true → HoldsAt test said (line ∷ rest) line.number
held_first test said s line rest says holds = ([], s, record { before = []; line = line; place = first_place line rest; said = tt; says = says }, ap (λ l. test l s) (append-nil said) ∙ holds)

-- the first line says a statement out of order
pub least_order : AreUnique → (said : List Statement) (s : Statement) (line : TextLine) (rest : List TextLine) → LinesRise line.number rest → SpellsLine s line → is_out_of_order said s ≡ true → IsLeastLineFault said (line ∷ rest) (record { phase = 1; line = line.number; kind = f.BadOrder })
least_order unique said s line rest rise says order = record {
  phase = refl;
  holds = held_first is_out_of_order said s line rest says order;
  least = λ kind number h. never kind number h (from_first said line rest rise kind number h);
}
  where
    never : (kind : Fault) (number : ℕ) → HasLineFault said (line ∷ rest) kind number → line.number ≤ number → IsBefore kind number f.BadOrder line.number → ⊥
    never f.BadLine number h le = not_before f.BadLine f.BadOrder line.number number refl le (λ e. let lt = fault_above line.number said rest rise f.BadLine number (nothing_after s line rest says number h) in absurd (omega arith))
    never f.BadOrder number h le = not_before f.BadOrder f.BadOrder line.number number refl le (λ e. omega arith)
    never f.TooMany number h le = not_before f.TooMany f.BadOrder line.number number refl le (λ e. omega arith)
    never _ number h le = absurd h

-- the first line says a statement that is one too many
pub least_many : AreUnique → (said : List Statement) (s : Statement) (line : TextLine) (rest : List TextLine) → LinesRise line.number rest → SpellsLine s line → is_out_of_order said s ≡ false → is_one_too_many said s ≡ true → IsLeastLineFault said (line ∷ rest) (record { phase = 1; line = line.number; kind = f.TooMany })
least_many unique said s line rest rise says order many = record {
  phase = refl;
  holds = held_first is_one_too_many said s line rest says many;
  least = λ kind number h. never kind number h (from_first said line rest rise kind number h);
}
  where
    never : (kind : Fault) (number : ℕ) → HasLineFault said (line ∷ rest) kind number → line.number ≤ number → IsBefore kind number f.TooMany line.number → ⊥
    never f.BadLine number h le = not_before f.BadLine f.TooMany line.number number refl le (λ e. let lt = fault_above line.number said rest rise f.BadLine number (nothing_after s line rest says number h) in absurd (omega arith))
    never f.BadOrder number h le = not_before f.BadOrder f.TooMany line.number number refl le (λ e. let lt = fault_above line.number (said ++ s ∷ []) rest rise f.BadOrder number (held_on is_out_of_order unique said s line rest says order number h) in absurd (omega arith))
    never f.TooMany number h le = not_before f.TooMany f.TooMany line.number number refl le (λ e. omega arith)
    never _ number h le = absurd h

-- the least fault of the lines that are left is that of all
pub least_of_all : AreUnique → (said : List Statement) (lines front rest : List TextLine) (refusal : Refusal) → lines ≡ front ++ rest → EachBeside SpellsLine said front → are_in_order [] said ≡ true → IsLeastLineFault said rest refusal → IsLeastLineFault [] lines refusal
least_of_all unique said lines front rest refusal e beside order h = subst (λ (l : List TextLine). IsLeastLineFault [] l refusal) (sym e) (record {
  phase = h.phase;
  holds = walk_back [] said front rest beside refusal.kind refusal.line h.holds;
  least = λ kind number fault. h.least kind number (walk_on unique [] said front rest beside order kind number fault);
})
