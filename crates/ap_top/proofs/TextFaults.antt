-- The least fault of a text: of form, or, where it has none, of what it reads as.
use Rattle.std.proofs.Common.{◌≡◌, ℕ, ◌<◌, false, List, inl, inr, refl, subst, lit<, arith}
use Rattle.std.proofs.lemmas.Bool.{both_ways}
use Rattle.ap_bits.specs.declared.card.Card.{Card}
use Rattle.ap_desc.proofs.LeastFaults.{design_phase, found_from_least, least_from_found, not_before_earlier}
use Rattle.ap_desc.proofs.ReadOnce.{read_once}
use Rattle.ap_desc.specs.DesignOf.{design_of}
use Rattle.ap_desc.specs.FaultTable.{phase_of}
use Rattle.ap_desc.specs.Faults.{HasFormFault, IsBefore, IsLeastFormFault, IsWellFormed}
use Rattle.ap_desc.specs.Least.{IsLeast}
use Rattle.ap_desc.specs.Meaning.{IsAccepted, IsLeastFault, IsLeastMeaningFault, IsMeaningful, MeetsFault, MeetsMeaningFault}
use Rattle.ap_desc.specs.Reading.{ReadsAs}
use Rattle.ap_desc.specs.StatementFaults.{HasStatementFault}
use Rattle.ap_desc.specs.declared.description.Numbered.{Numbered}
use Rattle.ap_desc.specs.declared.fault.DescFault.{DescFault}
use Rattle.ap_desc.specs.declared.fault.DescFault.TheVariants.{Refused, NoMemory}
use Rattle.ap_desc.specs.declared.fault.Fault.{Fault}
use Rattle.ap_desc.specs.declared.fault.Fault.TheVariants as f
use Rattle.ap_desc.specs.declared.fault.Refusal.{Refusal}
use Rattle.ap_check.specs.Resolved.{IsMeaningFault}
use Rattle.ap_read.specs.ReadFaults.{IsReadFault}
use Rattle.ap_top.specs.Form.{IsTextFault}

-- faults of form are of the first phase, and those of lines of a later one
form_phase : (text : List ℕ) (kind : Fault) (line : ℕ) → HasFormFault text kind line → phase_of kind ≡ 1
form_phase text f.TooLong line h = refl
form_phase text f.BadLine line h = refl
form_phase text f.BadOrder line h = refl
form_phase text f.TooMany line h = refl
form_phase text f.Missing line h = refl
form_phase text _ line h = absurd h.1

line_phase : (statements : List Numbered) (cards : List Card) (kind : Fault) (line : ℕ) → HasStatementFault statements cards kind line → 1 < phase_of kind
line_phase statements cards f.Unknown line h = lit< tt
line_phase statements cards f.Twice line h = lit< tt
line_phase statements cards f.NoKind line h = lit< tt
line_phase statements cards f.NoOperation line h = lit< tt
line_phase statements cards f.Range line h = lit< tt
line_phase statements cards f.Differs line h = lit< tt
line_phase statements cards f.Slice line h = lit< tt
line_phase statements cards f.TooWideConstant line h = lit< tt
line_phase statements cards f.NotOneBit line h = lit< tt
line_phase statements cards f.Target line h = lit< tt
line_phase statements cards f.KindRefuses line h = lit< tt
line_phase statements cards _ line h = absurd (both_ways false refl h.holds)

meaning_phase : (statements : List Numbered) (cards : List Card) (kind : Fault) (line : ℕ) → MeetsMeaningFault statements cards kind line → 1 < phase_of kind
meaning_phase statements cards kind line (inl h) = line_phase statements cards kind line h
meaning_phase statements cards kind line (inr h) = let late = design_phase (design_of statements cards) kind line h in omega arith

module _ (text : List ℕ) (cards : List Card) where
  -- the least fault of form is the least of all
  pub form_first : (refusal : Refusal) → IsLeastFormFault text refusal → IsLeastFault text cards refusal
  form_first refusal l = found_from_least (MeetsFault text cards) refusal (record { phase = l.phase; holds = inl l.holds; least = least }) where
    least : (kind : Fault) (line : ℕ) → MeetsFault text cards kind line → IsBefore kind line refusal.kind refusal.line → ⊥
    least kind line (inl h) before = l.least kind line h before
    least kind line (inr (statements, reads, h)) before =
        let late = meaning_phase statements cards kind line h in
        let early = form_phase text refusal.kind refusal.line l.holds in
        not_before_earlier kind line refusal.kind refusal.line (omega arith) before

  -- and where the text has a fault of form, the least of all is one of form
  pub form_alone : (kind : Fault) (line : ℕ) → HasFormFault text kind line → (refusal : Refusal) → IsLeastFault text cards refusal → IsLeastFormFault text refusal
  form_alone kind line fault refusal found = by refusal (least_from_found (MeetsFault text cards) refusal found) where
    by : (r : Refusal) → IsLeast (MeetsFault text cards) r → IsLeastFormFault text r
    by r l = record { phase = l.phase; holds = of_form l.holds; least = λ other at h. l.least other at (inl h) } where
      of_form : MeetsFault text cards r.kind r.line → HasFormFault text r.kind r.line
      of_form (inl h) = h
      of_form (inr (statements, reads, h)) =
          let late = meaning_phase statements cards r.kind r.line h in
          let early = form_phase text kind line fault in
          absurd (l.least kind line (inl fault) (inl (omega arith)))

  module _ (statements : List Numbered) (whole : IsWellFormed text) (reads : ReadsAs text statements) where
    -- of a text without fault of form, the least fault of what it reads as
    pub meaning_next : (refusal : Refusal) → IsLeastMeaningFault statements cards refusal → IsLeastFault text cards refusal
    meaning_next refusal found = by (least_from_found (MeetsMeaningFault statements cards) refusal found) where
      by : IsLeast (MeetsMeaningFault statements cards) refusal → IsLeastFault text cards refusal
      by l = found_from_least (MeetsFault text cards) refusal (record { phase = l.phase; holds = inr (statements, reads, l.holds); least = least }) where
        least : (kind : Fault) (line : ℕ) → MeetsFault text cards kind line → IsBefore kind line refusal.kind refusal.line → ⊥
        least kind line (inl h) before = whole kind line h
        least kind line (inr (others, again, h)) before = l.least kind line (subst (λ (st : List Numbered). MeetsMeaningFault st cards kind line) (read_once text others statements again reads) h) before

    -- and none where that has none
    pub accepted : IsMeaningful statements cards → IsAccepted text cards
    accepted none kind line (inl h) = whole kind line h
    accepted none kind line (inr (others, again, h)) = none kind line (subst (λ (st : List Numbered). MeetsMeaningFault st cards kind line) (read_once text others statements again reads) h)

    -- a fault of meaning
    pub meaning_refused : (why : DescFault) → IsMeaningFault statements cards why → IsTextFault text cards why
    meaning_refused (Refused refusal) fault = meaning_next refusal fault
    meaning_refused NoMemory fault = tt

  -- and one of form
  pub form_refused : (why : DescFault) → IsReadFault text why → IsTextFault text cards why
  form_refused (Refused refusal) fault = form_first refusal fault
  form_refused NoMemory fault = tt
