-- The first kind of fault that holds of a line is the least.
use Rattle.std.proofs.Common.{◌≡◌, ℕ, suc, ◌≤◌, Bool, true, false, List, [], ◌∷◌, Some, None, inl, inr, refl, sym, ap, ◌∙◌, arith, ⊎_elim, ◌⊎◌}
use Rattle.std.specs.Prelude.{find}
use Rattle.std.proofs.lemmas.Bool.{both_ways, cases_Bool, cond-false, cond-true}
use Rattle.std.proofs.lemmas.Option.{same_Some}
use Rattle.ap_program.specs.AsmKinds.{number_of}
use Rattle.ap_program.specs.LineFaults.{all_kinds, first_fault, line_fault}
use Rattle.ap_program.specs.declared.fault.AsmKind.{AsmKind}
use Rattle.ap_program.specs.declared.fault.AsmKind.TheVariants as kind
use Rattle.ap_program.specs.declared.statement.ProgramLine.{ProgramLine}
use Rattle.ap_desc.specs.declared.design.Design.{Design}

-- the kinds have these numbers, from n on
abbrev Numbered : ℕ → List AsmKind → Type 0
Numbered n [] = Unit {0}
Numbered n (k ∷ ks) = (number_of k ≡ n) × Numbered (suc n) ks

abbrev IsIn : AsmKind → List AsmKind → Type 0
IsIn other [] = ⊥
IsIn other (k ∷ ks) = (k ≡ other) ⊎ IsIn other ks

numbered_least : (n : ℕ) (ks : List AsmKind) (other : AsmKind) → Numbered n ks → IsIn other ks → n ≤ number_of other
numbered_least n [] other h i = absurd i
numbered_least n (k ∷ ks) other h i = ⊎_elim
    (λ same. let e : number_of other ≡ n = ap number_of (sym same) ∙ h.0 in omega arith)
    (λ later. let lt = numbered_least (suc n) ks other h.1 later in omega arith) i

-- a kind holds, and no kind of a lower number does
pub record IsLeastKind (judge : AsmKind → Bool) (kind : AsmKind) : Type 0 where
  pub holds : judge kind ≡ true
  pub least : (other : AsmKind) → judge other ≡ true → number_of kind ≤ number_of other

abbrev IsLeastIn : (AsmKind → Bool) → List AsmKind → AsmKind → Type 0
IsLeastIn judge ks kind = (judge kind ≡ true) × ((other : AsmKind) → IsIn other ks → judge other ≡ true → number_of kind ≤ number_of other)

least_in : (judge : AsmKind → Bool) (n : ℕ) (ks : List AsmKind) (kind : AsmKind) → Numbered n ks → find judge ks ≡ Some kind → IsLeastIn judge ks kind
least_in judge n [] kind h e = absurd cc
least_in judge n (k ∷ ks) kind h e = elim (cases_Bool (judge k)) [
  | inl hit ↦ (let is : k ≡ kind = same_Some k kind (sym (cond-true (judge k) (Some k) (find judge ks) hit) ∙ e) in
      (ap judge (sym is) ∙ hit, λ other i holds. let lt : n ≤ number_of other = numbered_least n (k ∷ ks) other h i in let same : number_of kind ≡ n = ap number_of (sym is) ∙ h.0 in omega arith))
  | inr miss ↦ (let rest = least_in judge (suc n) ks kind h.1 (sym (cond-false (judge k) (Some k) (find judge ks) miss) ∙ e) in
      (rest.0, λ other i holds. ⊎_elim (λ same. absurd (both_ways (judge k) miss (ap judge same ∙ holds))) (λ later. rest.1 other later holds) i))
]

none_in : (judge : AsmKind → Bool) (ks : List AsmKind) → find judge ks ≡ None → (other : AsmKind) → IsIn other ks → judge other ≡ false
none_in judge [] e other i = absurd i
none_in judge (k ∷ ks) e other i = elim (cases_Bool (judge k)) [
  | inl hit ↦ (let some : find judge (k ∷ ks) ≡ Some k = cond-true (judge k) (Some k) (find judge ks) hit in absurd cc)
  | inr miss ↦ ⊎_elim (λ same. ap judge (sym same) ∙ miss) (λ later. none_in judge ks (sym (cond-false (judge k) (Some k) (find judge ks) miss) ∙ e) other later) i
]

numbered_all : Numbered 1 all_kinds
numbered_all = (refl, (refl, (refl, (refl, (refl, (refl, (refl, (refl, (refl, (refl, (refl, (refl, tt))))))))))))

all_in : (k : AsmKind) → IsIn k all_kinds
all_in kind.BadForm = inl refl
all_in kind.UnknownInstruction = inr (inl refl)
all_in kind.UnknownLabel = inr (inr (inl refl))
all_in kind.LabelTwice = inr (inr (inr (inl refl)))
all_in kind.OperandCount = inr (inr (inr (inr (inl refl))))
all_in kind.FieldRange = inr (inr (inr (inr (inr (inl refl)))))
all_in kind.TransferInSlot = inr (inr (inr (inr (inr (inr (inl refl))))))
all_in kind.SlotConflict = inr (inr (inr (inr (inr (inr (inr (inl refl)))))))
all_in kind.TooManySlots = inr (inr (inr (inr (inr (inr (inr (inr (inl refl))))))))
all_in kind.ImageFull = inr (inr (inr (inr (inr (inr (inr (inr (inr (inl refl)))))))))
all_in kind.LabelInSlot = inr (inr (inr (inr (inr (inr (inr (inr (inr (inr (inl refl))))))))))
all_in kind.BadData = inr (inr (inr (inr (inr (inr (inr (inr (inr (inr (inr (inl refl)))))))))))

-- the first kind that holds is the least
pub first_is_least : (design : Design) (before : List ProgramLine) (line : ProgramLine) (after : List ProgramLine) (kind : AsmKind) → first_fault design before line after ≡ Some kind → IsLeastKind (line_fault design before line after) kind
first_is_least design before line after kind e =
    let h = least_in (line_fault design before line after) 1 all_kinds kind numbered_all e in
    record { holds = h.0; least = λ other holds. h.1 other (all_in other) holds }

-- and where there is none, none holds
pub none_is_first : (design : Design) (before : List ProgramLine) (line : ProgramLine) (after : List ProgramLine) → first_fault design before line after ≡ None → (other : AsmKind) → line_fault design before line after other ≡ false
none_is_first design before line after e other = none_in (line_fault design before line after) all_kinds e other (all_in other)
