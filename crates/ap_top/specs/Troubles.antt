-- Why a part of a call gave up, by the desk's counts, and what it left.
use Rattle.std.specs.Prelude.{◌≡◌, ◌≢◌, ℕ, ◌≤◌, List, Option, Result, Err}
use Rattle.ap_bits.specs.declared.card.Card.{Card}
use Rattle.ap_desk.specs.declared.counts.Counts.{Counts}
use Rattle.ap_desk.specs.Causes.{Rose}
use Rattle.ap_desk.specs.Files.{Files, Goes}
use Rattle.ap_top.specs.declared.refusal.Trouble.TheVariants.{Desk}
use Rattle.ap_top.specs.declared.refusal.Stop.{Stop}
use Rattle.ap_top.specs.declared.refusal.Stop.TheVariants.{Refused, Broken}
use Rattle.ap_top.specs.Inputs.{Source, IsDueOf, IsRefusalDue}
use Rattle.ap_top.specs.Outputs.{Target, IsBegunOn}
use Rattle.ap_top.specs.Endings.{IsBegun}

-- the work ended for the desk
abbrev pub desk_stop : Stop
desk_stop = Broken Desk

-- a call failed, by the counts before and after
abbrev pub HasFaulted : Counts → Counts → Type 0
HasFaulted before after = Rose before.faults after.faults

-- No count fell in a part of a call. Where it gave up for the desk, this holds of the counts; otherwise they are as they were.
pub record IsCaused {T E : Type 0} (fault : E) (cause : Counts → Counts → Type 0) (before after : Counts) (result : Result T E) : Type 0 where
  pub faults_stay : before.faults ≤ after.faults
  pub absent_stays : before.absent ≤ after.absent
  pub desk : result ≡ Err fault → cause before after
  pub quiet : result ≢ Err fault → after ≡ before

-- what the work on these inputs and outputs left when it stopped: nothing where it was refused, and otherwise a part of the outputs
abbrev pub StopsOn : List Card → List Source → List Target → Option Files → Option Files → Stop → Type 0
StopsOn cards sources targets told told' (Refused refusal) = (told' ≡ told) × IsDueOf cards sources told refusal
StopsOn cards sources targets told told' (Broken trouble) = Goes (IsBegunOn cards sources targets) told told'

-- the same for the work that the words ask for
abbrev pub StopsAs : List Card → List (List ℕ) → Option Files → Option Files → Stop → Type 0
StopsAs cards words told told' (Refused refusal) = (told' ≡ told) × IsRefusalDue cards words told refusal
StopsAs cards words told told' (Broken trouble) = Goes (IsBegun cards words) told told'
