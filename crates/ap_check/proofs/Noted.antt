-- Faults of statements with one more at the end, and what is noted of them.
use Rattle.std.proofs.Common.{◌≡◌, ℕ, ◌<◌, true, false, List, [], ◌∷◌, ◌++◌, ◌⊎◌, inl, inr, refl, sym, ap, subst, ◌∙◌, arith, append_assoc, true≢false}
use Rattle.std.specs.Prelude.{IsTrue}
use Rattle.ap_bits.specs.declared.card.Card.{Card}
use Rattle.ap_desc.specs.declared.description.Numbered.{Numbered}
use Rattle.ap_desc.specs.declared.fault.Fault.{Fault}
use Rattle.ap_desc.specs.declared.fault.Refusal.{Refusal}
use Rattle.ap_desc.specs.Descriptions.{RiseAbove}
use Rattle.ap_desc.specs.Faults.{IsBefore}
use Rattle.ap_desc.specs.FaultTable.{phase_of}
use Rattle.ap_desc.specs.Least.{HoldsNowhere, IsLeast}
use Rattle.ap_desc.specs.Scope.{scope_after}
use Rattle.ap_desc.specs.StatementFaults.{HasStatementFault, is_faulty}
use Rattle.ap_check.specs.Known.{HasFaultOf}
use Rattle.ap_check.specs.Phases.{HoldsNoneOf, IsFirstOf}
use Rattle.ap_check.proofs.Places.{IsBeside, beside, later_line}

-- a fault of a statement among these
abbrev FaultAt : List Card → List Numbered → Numbered → Fault → ℕ → Type 0
FaultAt cards before n kind line = (n.line ≡ line) × IsTrue (is_faulty cards (scope_after before cards) n.statement kind)

pub no_parts : {X : Type 0} (mid : List X) (x : X) (after : List X) → [] ≡ mid ++ x ∷ after → ⊥
no_parts [] x after e = cc
no_parts (y ∷ mid) x after e = cc

-- a fault with one more statement is one without it, or one of it
pub fault_last : (cards : List Card) (before : List Numbered) (n : Numbered) (kind : Fault) (line : ℕ) → HasStatementFault (before ++ n ∷ []) cards kind line → HasStatementFault before cards kind line ⊎ FaultAt cards before n kind line
fault_last cards before n kind line fault = by (beside before n [] fault.before fault.n fault.place.after fault.place.parts) where
  by : IsBeside before n [] fault.before fault.n fault.place.after → HasStatementFault before cards kind line ⊎ FaultAt cards before n kind line
  by (inl (mid, split)) = inl (record { before = fault.before; n = fault.n; place = record { after = mid; parts = split; numbered = fault.place.numbered }; holds = fault.holds })
  by (inr (inl (same, one))) = inr (
    ap (λ (m : Numbered). m.line) (sym one) ∙ fault.place.numbered,
    subst (λ (m : Numbered). IsTrue (is_faulty cards (scope_after before cards) m.statement kind)) one (subst (λ (l : List Numbered). IsTrue (is_faulty cards (scope_after l cards) fault.n.statement kind)) same fault.holds),
  )
  by (inr (inr (mid, none))) = absurd (no_parts mid fault.n fault.place.after none)

-- a fault stays with more statements
pub fault_stays : (cards : List Card) (before : List Numbered) (n : Numbered) (kind : Fault) (line : ℕ) → HasStatementFault before cards kind line → HasStatementFault (before ++ n ∷ []) cards kind line
fault_stays cards before n kind line fault = record {
  before = fault.before;
  n = fault.n;
  place = record {
    after = fault.place.after ++ n ∷ [];
    parts = ap (λ l. l ++ n ∷ []) fault.place.parts ∙ append_assoc fault.before (fault.n ∷ fault.place.after) (n ∷ []);
    numbered = fault.place.numbered;
  };
  holds = fault.holds;
}

-- the phase has no fault yet
pub none_yet : (cards : List Card) (before : List Numbered) (n : Numbered) (phase : ℕ) → HoldsNowhere (HasFaultOf before cards phase) → HoldsNoneOf (is_faulty cards (scope_after before cards) n.statement) phase
    → HoldsNowhere (HasFaultOf (before ++ n ∷ []) cards phase)
none_yet cards before n phase none right kind line fault = by (fault_last cards before n kind line fault.1) where
  by : HasStatementFault before cards kind line ⊎ FaultAt cards before n kind line → ⊥
  by (inl earlier) = none kind line (fault.0, earlier)
  by (inr own) = true≢false (sym own.1 ∙ right kind fault.0)

-- the first fault of widths
pub first_noted : (cards : List Card) (before : List Numbered) (n : Numbered) (kind : Fault) → HoldsNowhere (HasFaultOf before cards 3) → IsFirstOf (is_faulty cards (scope_after before cards) n.statement) 3 kind
    → IsLeast (HasFaultOf (before ++ n ∷ []) cards 3) (record { phase = phase_of kind; line = n.line; kind = kind })
first_noted cards before n kind none first = record {
  phase = refl;
  holds = (first.phase, record { before = before; n = n; place = record { after = []; parts = refl; numbered = refl }; holds = first.holds });
  least = least;
}
  where
    least : (other : Fault) (line : ℕ) → HasFaultOf (before ++ n ∷ []) cards 3 other line → IsBefore other line kind n.line → ⊥
    least other line fault earlier = by (fault_last cards before n other line fault.1) earlier where
      by : HasStatementFault before cards other line ⊎ FaultAt cards before n other line → IsBefore other line kind n.line → ⊥
      by (inl old) order = none other line (fault.0, old)
      by (inr own) (inl lower) = let mine : phase_of kind ≡ 3 = first.phase in let its : phase_of other ≡ 3 = fault.0 in omega arith
      by (inr own) (inr (same, inl lower)) = let at : n.line ≡ line = own.0 in omega arith
      by (inr own) (inr (same, inr (equal, lower))) = true≢false (sym own.1 ∙ first.first other fault.0 lower)

-- a line further on has no fault before the one that is noted
pub noted_stays : (cards : List Card) (statements before : List Numbered) (n : Numbered) (after : List Numbered) (refusal : Refusal) → RiseAbove 0 statements → statements ≡ before ++ n ∷ after
    → IsLeast (HasFaultOf before cards 3) refusal → IsLeast (HasFaultOf (before ++ n ∷ []) cards 3) refusal
noted_stays cards statements before n after refusal rise e old = record {
  phase = old.phase;
  holds = (old.holds.0, fault_stays cards before n refusal.kind refusal.line old.holds.1);
  least = least;
}
  where
    up : refusal.line < n.line
    up = let at : old.holds.1.n.line ≡ refusal.line = old.holds.1.place.numbered in
        let low : old.holds.1.n.line < n.line = later_line statements old.holds.1.before old.holds.1.n old.holds.1.place.after n after rise
        (e ∙ ap (λ l. l ++ n ∷ after) old.holds.1.place.parts ∙ append_assoc old.holds.1.before (old.holds.1.n ∷ old.holds.1.place.after) (n ∷ after)) in
        omega arith

    least : (other : Fault) (line : ℕ) → HasFaultOf (before ++ n ∷ []) cards 3 other line → IsBefore other line refusal.kind refusal.line → ⊥
    least other line fault earlier = by (fault_last cards before n other line fault.1) earlier where
      by : HasStatementFault before cards other line ⊎ FaultAt cards before n other line → IsBefore other line refusal.kind refusal.line → ⊥
      by (inl mine) order = old.least other line (fault.0, mine) order
      by (inr own) (inl lower) = let mine : phase_of refusal.kind ≡ 3 = old.holds.0 in let its : phase_of other ≡ 3 = fault.0 in omega arith
      by (inr own) (inr (same, inl lower)) = let at : n.line ≡ line = own.0 in let above = up in omega arith
      by (inr own) (inr (same, inr (equal, lower))) = let at : n.line ≡ line = own.0 in let above = up in omega arith
