-- A text that is too long, and the faults of one that isn't.
use Rattle.std.proofs.Common.{◌≡◌, ℕ, ◌<◌, ◌≤◌, Bool, true, false, List, length, nat_lt, refl, sym, subst, arith}
use Rattle.std.specs.Prelude.{MatchBool}
use Rattle.std.proofs.lemmas.Bool.{le-ltb, lt-ltb}
use Rattle.ap_desc.specs.declared.design.Design.{Design}
use Rattle.ap_image.specs.TextFaults.{text_limit}
use Rattle.ap_program.specs.AsmKinds.{IsFaultOf, IsLeastOf, number_of}
use Rattle.ap_program.specs.LineFaults.{HasLineFault, HasTextFault}
use Rattle.ap_program.specs.Statements.{program_of}
use Rattle.ap_program.specs.declared.fault.AsmFault.{AsmFault}
use Rattle.ap_program.specs.declared.fault.AsmFault.TheVariants.{NoMemory, At}
use Rattle.ap_program.specs.declared.fault.AsmKind.{AsmKind}
use Rattle.ap_program.specs.declared.fault.AsmKind.TheVariants as kind

-- the faults of a text, where it is told whether it is too long
abbrev FaultBy : Bool → Design → List ℕ → AsmKind → ℕ → Type 0
FaultBy b design text fault number = MatchBool b ((fault ≡ kind.BadForm) × (number ≡ 0)) (HasLineFault design (program_of text) fault number)

by_length : (b : Bool) (design : Design) (text : List ℕ) → b ≡ true → IsLeastOf (FaultBy b design text) kind.BadForm 0
by_length true design text e = record { holds = (refl, refl); first = λ other n h. omega arith; least = λ other h. at_least other h.0 }
  where
    at_least : (other : AsmKind) → other ≡ kind.BadForm → 1 ≤ number_of other
    at_least other same = subst (λ k. 1 ≤ number_of k) (sym same) (omega arith)
by_length false design text e = absurd (let wrong : false ≡ true = e in cc)

-- a text that is too long is of no form as a whole
pub too_long : (design : Design) (text : List ℕ) → text_limit < length text → IsFaultOf (HasTextFault design text) (At 0 kind.BadForm)
too_long design text long = by_length (nat_lt text_limit (length text)) design text (lt-ltb text_limit (length text) long)

by_lines : (b : Bool) (design : Design) (text : List ℕ) (fault : AsmFault) → b ≡ false → IsFaultOf (HasLineFault design (program_of text)) fault → IsFaultOf (FaultBy b design text) fault
by_lines true design text fault e h = absurd (let wrong : true ≡ false = e in cc)
by_lines false design text (At line k) e h = record { holds = h.holds; first = h.first; least = h.least }
by_lines false design text NoMemory e h = tt

-- one that isn't has the faults of its lines
pub short_fault : (design : Design) (text : List ℕ) (fault : AsmFault) → length text ≤ text_limit → IsFaultOf (HasLineFault design (program_of text)) fault → IsFaultOf (HasTextFault design text) fault
short_fault design text fault short h = by_lines (nat_lt text_limit (length text)) design text fault (le-ltb text_limit (length text) short) h
