-- The first line that has a fault, after lines that are fine.
use Rattle.std.proofs.Common.{◌≡◌, ℕ, ◌<◌, ◌≤◌, List, [], ◌∷◌, ◌++◌, length, true, nat_lt, inl, inr, refl, sym, subst, ◌∙◌, arith, append-nil, append_assoc, ⊎_elim}
use Rattle.std.specs.Prelude.{IfErr, IfOk, IsTrue, MatchBool, MatchResult, Result, Ok, Err}
use Rattle.std.proofs.lemmas.Bool.{false≢true, lt-ltb, le-ltb}
use Rattle.ap_text.specs.Lines.{TextLine, lines_of}
use Rattle.ap_image.specs.declared.fault.TextFault.{TextFault}
use Rattle.ap_image.specs.declared.fault.TextFault.TheVariants.{NoMemory, At}
use Rattle.ap_image.specs.declared.fault.TextKind.{TextKind}
use Rattle.ap_image.specs.declared.fault.TextKind.TheVariants.{BadForm, NoSuchPart, ValueTooWide, TooManyWords}
use Rattle.ap_image.specs.TextFaults.{AreFine, HasTextFaultAmong, HasTextFault, IsFaultlessText, IsFine, IsLeastAt, IsLeastOf, IsFaultOfLine, IsFaultOfLines, IsTextFault, Judge, number_of, text_limit}

-- one more line that is fine
pub fine_push : (judge : Judge) (before lines : List TextLine) (line : TextLine) → AreFine judge before lines → IsFine judge (before ++ lines) line → AreFine judge before (lines ++ line ∷ [])
fine_push judge before [] line h g = (subst (λ (l : List TextLine). IsFine judge l line) (append-nil before) g, tt)
fine_push judge before (x ∷ xs) line h g = (h.0, fine_push judge (before ++ x ∷ []) xs line h.1 (subst (λ (l : List TextLine). IsFine judge l line) (sym (append_assoc before (x ∷ []) xs)) g))

-- fine lines after fine lines
pub fine_append : (judge : Judge) (before lines more : List TextLine) → AreFine judge before lines → AreFine judge (before ++ lines) more → AreFine judge before (lines ++ more)
fine_append judge before [] more h g = subst (λ (l : List TextLine). AreFine judge l more) (append-nil before) g
fine_append judge before (x ∷ xs) more h g = (h.0, fine_append judge (before ++ x ∷ []) xs more h.1 (subst (λ (l : List TextLine). AreFine judge l more) (sym (append_assoc before (x ∷ []) xs)) g))

never : (judge : Judge) (before : List TextLine) (line : TextLine) (kind : TextKind) → IsFine judge before line → IsTrue (judge kind before line) → ⊥
never judge before line kind fine holds = false≢true (sym (fine kind) ∙ holds)

-- fine lines have no fault
pub none_of_fine : (judge : Judge) (before lines : List TextLine) → AreFine judge before lines → (kind : TextKind) (number : ℕ) → HasTextFaultAmong judge before lines kind number → ⊥
none_of_fine judge before [] h kind number g = g
none_of_fine judge before (x ∷ xs) h kind number g = ⊎_elim
    (λ here. never judge before x kind h.0 here.1)
    (λ there. none_of_fine judge (before ++ x ∷ []) xs h.1 kind number there.1) g

-- past lines that are fine
pub walk_on : (judge : Judge) (before front rest : List TextLine) → AreFine judge before front → (kind : TextKind) (number : ℕ) → HasTextFaultAmong judge before (front ++ rest) kind number → HasTextFaultAmong judge (before ++ front) rest kind number
walk_on judge before [] rest h kind number g = subst (λ (l : List TextLine). HasTextFaultAmong judge l rest kind number) (sym (append-nil before)) g
walk_on judge before (x ∷ xs) rest h kind number g = ⊎_elim
    (λ here. absurd (never judge before x kind h.0 here.1))
    (λ there. subst (λ (l : List TextLine). HasTextFaultAmong judge l rest kind number) (append_assoc before (x ∷ []) xs) (walk_on judge (before ++ x ∷ []) xs rest h.1 kind number there.1)) g

-- and back
pub walk_back : (judge : Judge) (before front rest : List TextLine) → AreFine judge before front → (kind : TextKind) (number : ℕ) → HasTextFaultAmong judge (before ++ front) rest kind number → HasTextFaultAmong judge before (front ++ rest) kind number
walk_back judge before [] rest h kind number g = subst (λ (l : List TextLine). HasTextFaultAmong judge l rest kind number) (append-nil before) g
walk_back judge before (x ∷ xs) rest h kind number g = inr (h.0, walk_back judge (before ++ x ∷ []) xs rest h.1 kind number (subst (λ (l : List TextLine). HasTextFaultAmong judge l rest kind number) (sym (append_assoc before (x ∷ []) xs)) g))

same_line : (line : TextLine) (number : ℕ) → line.number ≡ number → line.number ≤ number
same_line line number e = omega arith

-- the first line has this least fault, and no other line is looked at
pub least_first : (judge : Judge) (before : List TextLine) (line : TextLine) (rest : List TextLine) (kind : TextKind) → IsLeastAt judge before line kind → IsLeastOf (HasTextFaultAmong judge before (line ∷ rest)) kind line.number
least_first judge before line rest kind h = record {
  holds = inl (refl, h.holds);
  first = λ other number g. ⊎_elim (λ here. same_line line number here.0) (λ there. absurd (never judge before line kind there.0 h.holds)) g;
  least = λ other g. ⊎_elim (λ here. h.least other here.1) (λ there. absurd (never judge before line kind there.0 h.holds)) g;
}

-- and so it is the least of all lines where those before it are fine
pub least_of_lines : (judge : Judge) (lines front : List TextLine) (line : TextLine) (rest : List TextLine) (kind : TextKind) → lines ≡ front ++ line ∷ rest → AreFine judge [] front → IsLeastAt judge front line kind → IsLeastOf (HasTextFaultAmong judge [] lines) kind line.number
least_of_lines judge lines front line rest kind e fine h =
    let first = least_first judge front line rest kind h in
    subst (λ (l : List TextLine). IsLeastOf (HasTextFaultAmong judge [] l) kind line.number) (sym e) (record {
      holds = walk_back judge [] front (line ∷ rest) fine kind line.number first.holds;
      first = λ other number g. first.first other number (walk_on judge [] front (line ∷ rest) fine other number g);
      least = λ other g. first.least other (walk_on judge [] front (line ∷ rest) fine other line.number g);
    })

-- why the first line after fine ones was refused is why all of them were
pub fault_of_lines : (judge : Judge) (lines front : List TextLine) (line : TextLine) (rest : List TextLine) (fault : TextFault) → lines ≡ front ++ line ∷ rest → AreFine judge [] front → IsFaultOfLine judge front line fault → IsFaultOfLines judge lines fault
fault_of_lines judge lines front line rest (At number kind) e fine h = subst (λ n. IsLeastOf (HasTextFaultAmong judge [] lines) kind n) (sym h.0) (least_of_lines judge lines front line rest kind e fine h.1)
fault_of_lines judge lines front line rest NoMemory e fine h = tt

-- a text within the limit has the faults of its lines
of_text : (judge : Judge) (text : List ℕ) (kind : TextKind) (number : ℕ) → length text ≤ text_limit → HasTextFault judge text kind number → HasTextFaultAmong judge [] (lines_of text) kind number
of_text judge text kind number short h = subst (λ b. MatchBool b ((kind ≡ BadForm) × (number ≡ 0)) (HasTextFaultAmong judge [] (lines_of text) kind number)) (le-ltb text_limit (length text) short) h

to_text : (judge : Judge) (text : List ℕ) (kind : TextKind) (number : ℕ) → length text ≤ text_limit → HasTextFaultAmong judge [] (lines_of text) kind number → HasTextFault judge text kind number
to_text judge text kind number short h = subst (λ b. MatchBool b ((kind ≡ BadForm) × (number ≡ 0)) (HasTextFaultAmong judge [] (lines_of text) kind number)) (sym (le-ltb text_limit (length text) short)) h

pub faultless_text : (judge : Judge) (text : List ℕ) → length text ≤ text_limit → AreFine judge [] (lines_of text) → IsFaultlessText judge text
faultless_text judge text short fine = λ kind number h. none_of_fine judge [] (lines_of text) fine kind number (of_text judge text kind number short h)

pub fault_of_text : (judge : Judge) (text : List ℕ) (lines : List TextLine) (fault : TextFault) → length text ≤ text_limit → lines ≡ lines_of text → IsFaultOfLines judge lines fault → IsTextFault judge text fault
fault_of_text judge text lines (At line kind) short e h = let g = subst (λ (l : List TextLine). IsLeastOf (HasTextFaultAmong judge [] l) kind line) e h in record {
  holds = to_text judge text kind line short g.holds;
  first = λ other number f. g.first other number (of_text judge text other number short f);
  least = λ other f. g.least other (of_text judge text other line short f);
}
fault_of_text judge text lines NoMemory short e h = tt

-- a text that is too long is of no form as a whole
pub too_long : (judge : Judge) (text : List ℕ) → text_limit < length text → IsTextFault judge text (At 0 BadForm)
too_long judge text long = record {
  holds = subst (λ b. MatchBool b ((BadForm ≡ BadForm) × (◌≡◌ {A = ℕ} 0 0)) (HasTextFaultAmong judge [] (lines_of text) BadForm 0)) (sym is_long) (refl, refl);
  first = λ other number h. omega arith;
  least = λ other h. at_least other (subst (λ b. MatchBool b ((other ≡ BadForm) × (◌≡◌ {A = ℕ} 0 0)) (HasTextFaultAmong judge [] (lines_of text) other 0)) is_long h).0;
} where
  is_long : nat_lt text_limit (length text) ≡ true
  is_long = lt-ltb text_limit (length text) long

  at_least : (other : TextKind) → other ≡ BadForm → 1 ≤ number_of other
  at_least other e = subst (λ k. 1 ≤ number_of k) (sym e) (omega arith)

-- each kind has a number
pub at_least_one : (kind : TextKind) → 1 ≤ number_of kind
at_least_one BadForm = omega arith
at_least_one NoSuchPart = omega arith
at_least_one ValueTooWide = omega arith
at_least_one TooManyWords = omega arith

-- what is read of a text without fault
pub read_back : {A : Type 0} (judge : Judge) (text : List ℕ) (value : A) (result : Result A TextFault) → length text ≤ text_limit → AreFine judge [] (lines_of text) → IfOk result (λ read. read ≡ value) → IfErr result (IsTextFault judge text) → MatchResult result (λ read. read ≡ value) (λ fault. fault ≡ NoMemory)
read_back judge text value (Ok read) short fine ok err = ok
read_back judge text value (Err (At line kind)) short fine ok err = absurd (faultless_text judge text short fine kind line err.holds)
read_back judge text value (Err NoMemory) short fine ok err = refl
