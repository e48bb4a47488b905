-- The least fault of a description from those of its phases.
use Rattle.std.proofs.Common.{◌≡◌, ℕ, ◌<◌, ◌≤◌, false, List, inl, inr, refl, lit<, arith}
use Rattle.std.proofs.lemmas.Bool.{both_ways, cases_lt}
use Rattle.ap_bits.specs.declared.card.Card.{Card}
use Rattle.ap_desc.proofs.LeastFaults.{design_phase, found_from_least, least_from_found, not_before_earlier}
use Rattle.ap_desc.specs.DesignOf.{design_of}
use Rattle.ap_desc.specs.FaultTable.{phase_of}
use Rattle.ap_desc.specs.Faults.{IsBefore}
use Rattle.ap_desc.specs.Least.{HoldsNowhere, IsLeast}
use Rattle.ap_desc.specs.StatementFaults.{HasStatementFault}
use Rattle.ap_desc.specs.Meaning.{IsLeastMeaningFault, IsLeastPortFault, IsLeastWordFault, IsMeaningful, MeetsMeaningFault, MeetsPortFault, MeetsWordFault}
use Rattle.ap_desc.specs.declared.description.Numbered.{Numbered}
use Rattle.ap_desc.specs.declared.fault.Fault.{Fault}
use Rattle.ap_desc.specs.declared.fault.Fault.TheVariants as f
use Rattle.ap_desc.specs.declared.fault.Refusal.{Refusal}

module _ (statements : List Numbered) (cards : List Card) where
  -- the faults of lines are of the second and third phase
  line_phase : (kind : Fault) (line : ℕ) → HasStatementFault statements cards kind line → phase_of kind < 4
  line_phase f.Unknown line h = lit< tt
  line_phase f.Twice line h = lit< tt
  line_phase f.NoKind line h = lit< tt
  line_phase f.NoOperation line h = lit< tt
  line_phase f.Range line h = lit< tt
  line_phase f.Differs line h = lit< tt
  line_phase f.Slice line h = lit< tt
  line_phase f.TooWideConstant line h = lit< tt
  line_phase f.NotOneBit line h = lit< tt
  line_phase f.Target line h = lit< tt
  line_phase f.KindRefuses line h = lit< tt
  line_phase _ line h = absurd (both_ways false refl h.holds)

  pub least_of_lines : (refusal : Refusal) → IsLeast (HasStatementFault statements cards) refusal → IsLeastMeaningFault statements cards refusal
  least_of_lines refusal l = found_from_least (MeetsMeaningFault statements cards) refusal (record { phase = l.phase; holds = inl l.holds; least = least }) where
    least : (kind : Fault) (line : ℕ) → MeetsMeaningFault statements cards kind line → IsBefore kind line refusal.kind refusal.line → ⊥
    least kind line (inl h) before = l.least kind line h before
    least kind line (inr h) before =
        let early = line_phase refusal.kind refusal.line l.holds in
        let late = design_phase (design_of statements cards) kind line h in
        not_before_earlier kind line refusal.kind refusal.line (omega arith) before

  -- a fault that comes before is of no later phase
  no_later : (kind : Fault) (line : ℕ) (other : Fault) (at : ℕ) → IsBefore kind line other at → phase_of kind ≤ phase_of other
  no_later kind line other at (inl below) = omega arith
  no_later kind line other at (inr (same, rest)) = omega arith

  pub least_of_words : (refusal : Refusal) → HoldsNowhere (HasStatementFault statements cards) → IsLeastWordFault (design_of statements cards) refusal → IsLeastMeaningFault statements cards refusal
  least_of_words refusal none found = found_from_least (MeetsMeaningFault statements cards) refusal (record { phase = found.phase; holds = inr found.holds.holds.1; least = least }) where
    least : (kind : Fault) (line : ℕ) → MeetsMeaningFault statements cards kind line → IsBefore kind line refusal.kind refusal.line → ⊥
    least kind line (inl h) before = none kind line h
    least kind line (inr h) before =
        let late = design_phase (design_of statements cards) kind line h in
        let up = no_later kind line refusal.kind refusal.line before in
        let of_words : phase_of refusal.kind ≡ 4 = found.holds.holds.0 in
        (least_from_found (MeetsWordFault (design_of statements cards)) refusal found).least kind line (omega arith, h) before

  pub least_of_ports : (refusal : Refusal) → HoldsNowhere (HasStatementFault statements cards) → HoldsNowhere (MeetsWordFault (design_of statements cards)) → IsLeastPortFault (design_of statements cards) refusal
      → IsLeastMeaningFault statements cards refusal
  least_of_ports refusal none no_word found = found_from_least (MeetsMeaningFault statements cards) refusal (record { phase = found.phase; holds = inr found.holds.holds.1; least = least }) where
    least : (kind : Fault) (line : ℕ) → MeetsMeaningFault statements cards kind line → IsBefore kind line refusal.kind refusal.line → ⊥
    least kind line (inl h) before = none kind line h
    least kind line (inr h) before =
        let late = design_phase (design_of statements cards) kind line h in
        elim (cases_lt 4 (phase_of kind)) [
          | inl later ↦ (least_from_found (MeetsPortFault (design_of statements cards)) refusal found).least kind line (omega arith, h) before
          | inr words ↦ no_word kind line (omega arith, h)
        ]

  pub none_of_all : HoldsNowhere (HasStatementFault statements cards) → HoldsNowhere (MeetsWordFault (design_of statements cards)) → HoldsNowhere (MeetsPortFault (design_of statements cards)) → IsMeaningful statements cards
  none_of_all none no_word no_port kind line (inl h) = none kind line h
  none_of_all none no_word no_port kind line (inr h) =
      let late = design_phase (design_of statements cards) kind line h in
      elim (cases_lt 4 (phase_of kind)) [
        | inl later ↦ no_port kind line (omega arith, h)
        | inr words ↦ no_word kind line (omega arith, h)
      ]
