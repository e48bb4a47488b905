-- The least fault of a description from the first statement with a fault of names, and from what is noted at the end.
use Rattle.std.proofs.Common.{◌≡◌, ℕ, ◌<◌, true, false, List, ◌∷◌, ◌++◌, ◌⊎◌, inl, inr, refl, sym, ap, subst, ◌∙◌, arith, true≢false}
use Rattle.std.specs.Prelude.{IsTrue}
use Rattle.ap_bits.specs.declared.card.Card.{Card}
use Rattle.ap_desc.specs.declared.description.Numbered.{Numbered}
use Rattle.ap_desc.specs.declared.fault.DescFault.TheVariants.{Refused as refused}
use Rattle.ap_desc.specs.declared.fault.Fault.{Fault}
use Rattle.ap_desc.specs.declared.fault.Fault.TheVariants as f
use Rattle.ap_desc.specs.declared.fault.Refusal.{Refusal}
use Rattle.ap_desc.specs.Descriptions.{IsDescription}
use Rattle.ap_desc.specs.Faults.{IsBefore}
use Rattle.ap_desc.specs.FaultTable.{phase_of}
use Rattle.ap_desc.specs.Least.{HoldsNowhere, IsLeast}
use Rattle.ap_desc.specs.Scope.{scope_after}
use Rattle.ap_desc.specs.StatementFaults.{HasStatementFault, is_faulty}
use Rattle.ap_desc.specs.declared.statement.Statement.{Statement}
use Rattle.ap_desc.specs.Scope.{Scope}
use Rattle.ap_check.specs.Known.{HasFaultOf, IsNameFault}
use Rattle.ap_check.proofs.Places.{not_later}

-- faults of statements are of the phases 2 and 3
pub statement_phase : (cards : List Card) (scope : Scope) (statement : Statement) (kind : Fault) → IsTrue (is_faulty cards scope statement kind) → (phase_of kind ≡ 2) ⊎ (phase_of kind ≡ 3)
statement_phase cards scope statement f.Unknown h = inl refl
statement_phase cards scope statement f.Twice h = inl refl
statement_phase cards scope statement f.NoKind h = inl refl
statement_phase cards scope statement f.NoOperation h = inl refl
statement_phase cards scope statement f.Range h = inr refl
statement_phase cards scope statement f.Differs h = inr refl
statement_phase cards scope statement f.Slice h = inr refl
statement_phase cards scope statement f.TooWideConstant h = inr refl
statement_phase cards scope statement f.NotOneBit h = inr refl
statement_phase cards scope statement f.Target h = inr refl
statement_phase cards scope statement f.KindRefuses h = inr refl
statement_phase cards scope statement _ h = absurd cc

-- the first statement with a fault of names has the least fault
pub names_refused : (statements : List Numbered) (cards : List Card) (before : List Numbered) (n : Numbered) (after : List Numbered) (refusal : Refusal) → IsDescription statements → statements ≡ before ++ n ∷ after
    → HoldsNowhere (HasFaultOf before cards 2) → IsNameFault cards before n (refused refusal) → IsLeast (HasStatementFault statements cards) refusal
names_refused statements cards before n after refusal described e clean h = record {
  phase = h.0 ∙ sym h.2.phase;
  holds = record { before = before; n = n; place = record { after = after; parts = e; numbered = sym h.1 }; holds = h.2.holds };
  least = least;
}
  where
    second : phase_of refusal.kind ≡ 2
    second = h.2.phase

    here : refusal.line ≡ n.line
    here = h.1

    least : (kind : Fault) (line : ℕ) → HasStatementFault statements cards kind line → IsBefore kind line refusal.kind refusal.line → ⊥
    least kind line fault (inl lower) = by (statement_phase cards (scope_after fault.before cards) fault.n.statement kind fault.holds)
      where
        by : (phase_of kind ≡ 2) ⊎ (phase_of kind ≡ 3) → ⊥
        by (inl two) = absurd (omega arith)
        by (inr three) = absurd (omega arith)
    least kind line fault (inr (same, inl lower)) = by (not_later statements before n after fault.before fault.n fault.place.after described.lines e fault.place.parts (λ up. let at = fault.place.numbered in omega arith))
      where
        by : ((mid : List Numbered) × (before ≡ fault.before ++ fault.n ∷ mid) × (fault.n.line < n.line)) ⊎ ((fault.before ≡ before) × (fault.n ≡ n)) → ⊥
        by (inl (mid, split, up)) = clean kind line (same ∙ second, record { before = fault.before; n = fault.n; place = record { after = mid; parts = split; numbered = fault.place.numbered }; holds = fault.holds })
        by (inr (split, one)) = let at = fault.place.numbered in let equal = ap (λ (m : Numbered). m.line) one in absurd (omega arith)
    least kind line fault (inr (same, inr (equal, lower))) = by (not_later statements before n after fault.before fault.n fault.place.after described.lines e fault.place.parts (λ up. let at = fault.place.numbered in omega arith))
      where
        by : ((mid : List Numbered) × (before ≡ fault.before ++ fault.n ∷ mid) × (fault.n.line < n.line)) ⊎ ((fault.before ≡ before) × (fault.n ≡ n)) → ⊥
        by (inl (mid, split, up)) = let at = fault.place.numbered in absurd (omega arith)
        by (inr (split, one)) =
            let moved : IsTrue (is_faulty cards (scope_after before cards) n.statement kind) =
            subst (λ (m : Numbered). IsTrue (is_faulty cards (scope_after before cards) m.statement kind)) one (subst (λ (l : List Numbered). IsTrue (is_faulty cards (scope_after l cards) fault.n.statement kind)) split fault.holds) in
            let not = h.2.first kind (same ∙ second) lower in
            absurd (true≢false (sym moved ∙ not))

-- where no statement has a fault of names, the least fault of widths is the least of all
pub widths_refused : (statements : List Numbered) (cards : List Card) (refusal : Refusal) → HoldsNowhere (HasFaultOf statements cards 2) → IsLeast (HasFaultOf statements cards 3) refusal → IsLeast (HasStatementFault statements cards) refusal
widths_refused statements cards refusal clean h = record {
  phase = h.phase;
  holds = h.holds.1;
  least = λ kind line fault before. by kind line fault before (statement_phase cards (scope_after fault.before cards) fault.n.statement kind fault.holds);
}
  where
    by : (kind : Fault) (line : ℕ) → HasStatementFault statements cards kind line → IsBefore kind line refusal.kind refusal.line → (phase_of kind ≡ 2) ⊎ (phase_of kind ≡ 3) → ⊥
    by kind line fault before (inl two) = clean kind line (two, fault)
    by kind line fault before (inr three) = h.least kind line (three, fault) before

-- and where none has one of widths either, there is none
pub none_refused : (statements : List Numbered) (cards : List Card) → HoldsNowhere (HasFaultOf statements cards 2) → HoldsNowhere (HasFaultOf statements cards 3) → HoldsNowhere (HasStatementFault statements cards)
none_refused statements cards clean right kind line fault = by (statement_phase cards (scope_after fault.before cards) fault.n.statement kind fault.holds)
  where
    by : (phase_of kind ≡ 2) ⊎ (phase_of kind ≡ 3) → ⊥
    by (inl two) = clean kind line (two, fault)
    by (inr three) = right kind line (three, fault)
