-- Why a text is refused: by a fault of a line, by slot lines that are too near, or by a full image.
use Rattle.std.proofs.Common.{◌≡◌, ℕ, suc, ◌≤◌, Bool, true, false, List, length, nat_lt, sym, subst, arith}
use Rattle.std.specs.Prelude.{MatchBool}
use Rattle.std.proofs.lemmas.Bool.{le-ltb}
use Rattle.ap_bits.specs.Beside.{EachBeside}
use Rattle.ap_desc.specs.Clean.{IsClean}
use Rattle.ap_desc.specs.declared.design.Design.{Design}
use Rattle.ap_dist.specs.LeastStarts.{drain_of}
use Rattle.ap_dist.specs.declared.source.Source.{Source}
use Rattle.ap_image.specs.TextFaults.{text_limit}
use Rattle.ap_program.specs.AsmKinds.{IsFaultOf, IsLeastOf, number_of}
use Rattle.ap_program.proofs.RisingLines.{program_rises}
use Rattle.ap_program.specs.Fits.{SourceFits}
use Rattle.ap_program.specs.LineFaults.{AreFaultless, HasLineFault, HasTextFault}
use Rattle.ap_program.specs.Sources.{numbers_of, source_of}
use Rattle.ap_program.specs.Statements.{program_of}
use Rattle.ap_program.specs.declared.fault.AsmFault.{AsmFault}
use Rattle.ap_program.specs.declared.fault.AsmFault.TheVariants.{NoMemory, At}
use Rattle.ap_program.specs.declared.fault.AsmKind.{AsmKind}
use Rattle.ap_program.specs.declared.fault.AsmKind.TheVariants as kind
use Rattle.ap_program.specs.declared.statement.ProgramLine.{ProgramLine}
use Rattle.ap_asm.specs.AsmFaults.{AreApart, HasProgramFault, IsAsmFault, IsFaultlessProgram}
use Rattle.ap_asm.specs.Conflicts.{AreSlotsApart, IsNearAt, IsSlotFault}
use Rattle.ap_asm.specs.Layouts.{AreStarts, HasNumbers, IsLayout}
use Rattle.ap_asm.specs.LinePlaces.{HasFullImage, HasSlotConflict}
use Rattle.ap_asm.specs.Standing.{IsFullFault}
use Rattle.ap_asm.specs.Words.{ArePlainWords}
use Rattle.ap_asm.specs.declared.placing.Layout.{Layout}
use Rattle.ap_asm.proofs.Conflicted.{IsLeastConflict, have_numbers, least_conflict}
use Rattle.ap_asm.proofs.GroupLines.{end_same, full_once, one_list}

-- a fault of a line is one of the program
line_up : (design : Design) (lines : List ProgramLine) (k : AsmKind) (n : ℕ) → HasLineFault design lines k n → HasProgramFault design lines k n
line_up design lines kind.SlotConflict n h = absurd (let wrong : false ≡ true = h.holds in cc)
line_up design lines kind.ImageFull n h = absurd (let wrong : false ≡ true = h.holds in cc)
line_up design lines _ n h = h

-- and where there is one, all are
line_down : (design : Design) (lines : List ProgramLine) (some : AsmKind) (at : ℕ) → HasLineFault design lines some at → (k : AsmKind) (n : ℕ) → HasProgramFault design lines k n → HasLineFault design lines k n
line_down design lines some at f kind.SlotConflict n h = absurd (h.0 some at f)
line_down design lines some at f kind.ImageFull n h = absurd (h.0.faultless some at f)
line_down design lines some at f _ n h = h

-- the least fault of the text's lines, or of the text as a whole, is the least of all
least_up : (design : Design) (text : List ℕ) (b : Bool) (k : AsmKind) (line : ℕ) → IsLeastOf (λ fault number. MatchBool b ((fault ≡ kind.BadForm) × (number ≡ 0)) (HasLineFault design (program_of text) fault number)) k line
    → IsLeastOf (λ fault number. MatchBool b ((fault ≡ kind.BadForm) × (number ≡ 0)) (HasProgramFault design (program_of text) fault number)) k line
least_up design text true k line h = record { holds = h.holds; first = h.first; least = h.least }
least_up design text false k line h = record {
  holds = line_up design (program_of text) k line h.holds;
  first = λ other n g. h.first other n (line_down design (program_of text) k line h.holds other n g);
  least = λ other g. h.least other (line_down design (program_of text) k line h.holds other line g);
}

pub of_text : (design : Design) (text : List ℕ) (fault : AsmFault) → IsFaultOf (HasTextFault design text) fault → IsAsmFault design text fault
of_text design text NoMemory h = tt
of_text design text (At line k) h = least_up design text (nat_lt text_limit (length text)) k line h

-- The same where the text isn't too long.

of_program : (design : Design) (text : List ℕ) (k : AsmKind) (line : ℕ) → length text ≤ text_limit → IsLeastOf (HasProgramFault design (program_of text)) k line → IsAsmFault design text (At line k)
of_program design text k line short h =
    subst (λ b. IsLeastOf (λ fault number. MatchBool b ((fault ≡ kind.BadForm) × (number ≡ 0)) (HasProgramFault design (program_of text) fault number)) k line) (sym (le-ltb text_limit (length text) short))
    (record { holds = h.holds; first = h.first; least = h.least })

-- Slot lines that are too near.

conflict_first : (design : Design) (lines : List ProgramLine) (line : ℕ) → AreFaultless design lines → IsLeastConflict design (source_of design lines) (numbers_of lines) line → (other : AsmKind) (number : ℕ) → HasProgramFault design lines other number → line ≤ number
conflict_first design lines line clean c kind.SlotConflict number h = c.first number h.1
conflict_first design lines line clean c kind.ImageFull number h = absurd (h.0.slots line c.here)
conflict_first design lines line clean c other number h = absurd (clean other number h)

conflict_least : (design : Design) (lines : List ProgramLine) (line : ℕ) → AreFaultless design lines → IsLeastConflict design (source_of design lines) (numbers_of lines) line → (other : AsmKind) → HasProgramFault design lines other line → 8 ≤ number_of other
conflict_least design lines line clean c kind.SlotConflict h = omega arith
conflict_least design lines line clean c kind.ImageFull h = omega arith
conflict_least design lines line clean c other h = absurd (clean other line h)

pub of_conflict : (design : Design) (text : List ℕ) (line : ℕ) → length text ≤ text_limit → AreFaultless design (program_of text) → IsLeastConflict design (source_of design (program_of text)) (numbers_of (program_of text)) line → IsAsmFault design text (At line kind.SlotConflict)
of_conflict design text line short clean c = of_program design text kind.SlotConflict line short (record {
  holds = (clean, c.here);
  first = conflict_first design (program_of text) line clean c;
  least = conflict_least design (program_of text) line clean c;
})

-- what is known of a program before it is placed
pub record IsRead (design : Design) (text : List ℕ) (layout : Layout) : Type 0 where
  pub short : length text ≤ text_limit
  pub faultless : AreFaultless design (program_of text)
  pub layout_of : IsLayout design layout
  pub source : layout.source ≡ source_of design (program_of text)
  pub numbers : layout.numbers ≡ numbers_of (program_of text)

read_fits : (design : Design) (text : List ℕ) (layout : Layout) → IsRead design text layout → SourceFits design (source_of design (program_of text))
read_fits design text layout r = subst (SourceFits design) r.source r.layout_of.fits

read_words : (design : Design) (text : List ℕ) (layout : Layout) → IsRead design text layout → EachBeside (ArePlainWords design) (source_of design (program_of text)).groups layout.words
read_words design text layout r = subst (λ (s : Source). EachBeside (ArePlainWords design) s.groups layout.words) r.source r.layout_of.words

pub of_slot_fault : (design : Design) → IsClean design → (text : List ℕ) (layout : Layout) → IsRead design text layout → (fault : AsmFault) → IsSlotFault design layout.words layout.numbers fault → IsAsmFault design text fault
of_slot_fault design clean text layout r NoMemory h = absurd h
of_slot_fault design clean text layout r (At line k) h = subst (λ (x : AsmKind). IsAsmFault design text (At line x)) (sym h.0)
    (of_conflict design text line r.short r.faultless
    (least_conflict design clean (source_of design (program_of text)) (read_fits design text layout r) layout.words (program_of text) line (program_rises text) (read_words design text layout r)
    (subst (λ ns. IsNearAt design layout.words ns line) r.numbers h.1)))

-- A full image.

no_conflict : (design : Design) → IsClean design → (source : Source) (numbers : List (List ℕ)) → AreSlotsApart design source → (number : ℕ) → HasSlotConflict design source numbers number → ⊥
no_conflict design clean source numbers apart number c = (let le = apart c.group c.older c.younger c.older_line c.younger_line c.order c.is_older c.is_younger in let near = c.near in omega arith)

full_first : (design : Design) (lines : List ProgramLine) (line : ℕ) → AreApart design lines → HasFullImage design (source_of design lines) (numbers_of lines) line → (other : AsmKind) (number : ℕ) → HasProgramFault design lines other number → line ≤ number
full_first design lines line apart f kind.SlotConflict number h = absurd (apart.slots number h.1)
full_first design lines line apart f kind.ImageFull number h = (let e = full_once design (source_of design lines) (numbers_of lines) line number f h.1 in omega arith)
full_first design lines line apart f other number h = absurd (apart.faultless other number h)

full_least : (design : Design) (lines : List ProgramLine) (line : ℕ) → AreApart design lines → (other : AsmKind) → HasProgramFault design lines other line → 10 ≤ number_of other
full_least design lines line apart kind.SlotConflict h = absurd (apart.slots line h.1)
full_least design lines line apart kind.ImageFull h = omega arith
full_least design lines line apart other h = absurd (apart.faultless other line h)

pub of_full_fault : (design : Design) → IsClean design → (text : List ℕ) (layout : Layout) → IsRead design text layout → AreSlotsApart design layout.source → (fault : AsmFault) → IsFullFault design layout.source layout.numbers fault → IsAsmFault design text fault
of_full_fault design clean text layout r apart NoMemory h = tt
of_full_fault design clean text layout r apart (At line k) h = subst (λ (x : AsmKind). IsAsmFault design text (At line x)) (sym h.0)
    (of_program design text kind.ImageFull line r.short (record {
      holds = (none, full);
      first = full_first design (program_of text) line none full;
      least = full_least design (program_of text) line none;
    }))
  where
    none : AreApart design (program_of text)
    none = record { faultless = r.faultless; slots = no_conflict design clean (source_of design (program_of text)) (numbers_of (program_of text)) (subst (AreSlotsApart design) r.source apart) }

    full : HasFullImage design (source_of design (program_of text)) (numbers_of (program_of text)) line
    full = subst (λ ns. HasFullImage design (source_of design (program_of text)) ns line) r.numbers (subst (λ s. HasFullImage design s layout.numbers line) r.source h.1)

-- A text without fault.

not_full : (design : Design) (source : Source) (numbers : List (List ℕ)) (starts : List ℕ) → AreStarts design source (length source.groups) starts → (number : ℕ) → HasFullImage design source numbers number → ⊥
not_full design source numbers starts known number f =
    let in_groups = f.is_group in
    let same = one_list design source f.starts starts (drain_of design source) (suc f.group) (λ g lt. f.least g (omega arith)) (λ g lt. known.least g (omega arith)) in
    let e = end_same design source f.starts starts (suc f.group) same in
    let beyond = f.beyond in
    let within = known.within (suc f.group) (omega arith) in
    omega arith

no_fault : (design : Design) (lines : List ProgramLine) → AreFaultless design lines → AreSlotsApart design (source_of design lines) → IsClean design → (starts : List ℕ) → AreStarts design (source_of design lines) (length (source_of design lines).groups) starts
    → (fault : AsmKind) (number : ℕ) → HasProgramFault design lines fault number → ⊥
no_fault design lines faultless apart clean starts known kind.SlotConflict number h = no_conflict design clean (source_of design lines) (numbers_of lines) apart number h.1
no_fault design lines faultless apart clean starts known kind.ImageFull number h = not_full design (source_of design lines) (numbers_of lines) starts known number h.1
no_fault design lines faultless apart clean starts known fault number h = faultless fault number h

pub faultless_text : (design : Design) → IsClean design → (text : List ℕ) (layout : Layout) (starts : List ℕ) → IsRead design text layout → AreSlotsApart design layout.source → AreStarts design layout.source (length layout.source.groups) starts → IsFaultlessProgram design text
faultless_text design clean text layout starts r apart known fault number h =
    no_fault design (program_of text) r.faultless (subst (AreSlotsApart design) r.source apart) clean starts (subst (λ (s : Source). AreStarts design s (length s.groups) starts) r.source known) fault number
    (subst (λ b. MatchBool b ((fault ≡ kind.BadForm) × (number ≡ 0)) (HasProgramFault design (program_of text) fault number)) (le-ltb text_limit (length text) r.short) h)

-- the numbers of the lines of a program that was read
pub read_numbers : (design : Design) (text : List ℕ) (source : Source) (numbers : List (List ℕ)) → source ≡ source_of design (program_of text) → numbers ≡ numbers_of (program_of text) → EachBeside HasNumbers source.groups numbers
read_numbers design text source numbers a b =
    subst (λ (s : Source). EachBeside HasNumbers s.groups numbers) (sym a) (subst (EachBeside HasNumbers (source_of design (program_of text)).groups) (sym b) (have_numbers design (program_of text) false (program_of text)))
