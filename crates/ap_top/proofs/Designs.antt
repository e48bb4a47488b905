-- A description means one design, and a program without fault has none.
use Rattle.std.proofs.Common.{◌≡◌, ℕ, List, [], ◌∷◌, sym, ap, subst, ◌∙◌}
use Rattle.ap_asm.specs.AsmFaults.{HasAsmFault}
use Rattle.ap_bits.specs.declared.card.Card.{Card}
use Rattle.ap_desc.proofs.ReadOnce.{read_once}
use Rattle.ap_desc.specs.DesignOf.{design_of}
use Rattle.ap_desc.specs.declared.description.Numbered.{Numbered}
use Rattle.ap_desc.specs.declared.design.Design.{Design}
use Rattle.ap_program.specs.declared.fault.AsmKind.{AsmKind}
use Rattle.ap_top.specs.Programs.{HasLeastFaultAfter, IsDesignOf, IsFaultlessAfter}

module _ (cards : List Card) where
  pub design_once : (text : List ℕ) (a b : Design) → IsDesignOf cards text a → IsDesignOf cards text b → a ≡ b
  design_once text a b p q = p.means ∙ ap (λ (statements : List Numbered). design_of statements cards) (read_once text p.statements q.statements p.reads q.reads) ∙ sym q.means

  pub program_not_refused : (before : List (List ℕ)) (text : List ℕ) (line : ℕ) (kind : AsmKind) → IsFaultlessAfter cards before text → HasLeastFaultAfter cards before text line kind → ⊥
  program_not_refused [] text line kind good refused = good
  program_not_refused (description ∷ others) text line kind good refused =
      good.2 kind line (subst (λ (design : Design). HasAsmFault design text kind line) (design_once description refused.0 good.0 refused.1 good.1) refused.2.holds)
