-- What the desk's counts say of a part of a call, by the answers of the desk's calls in it.
use Rattle.std.proofs.Common.{◌≡◌, ℕ, ◌≤◌, List, [], Option, Some, None, Result, Ok, Err, refl, sym, ap, subst, ◌∙◌, arith, inl, inr, ⊎_elim}
use Rattle.std.specs.Prelude.{IfSome}
use Rattle.std.specs.FinMap.{get}
use Rattle.ap_bits.specs.declared.card.Card.{Card}
use Rattle.ap_desk.specs.declared.counts.Counts.{Counts}
use Rattle.ap_desk.specs.declared.desk.DeskFault.{DeskFault}
use Rattle.ap_desk.specs.declared.desk.DeskFault.TheVariants.{Failed, Missing, NoMemory}
use Rattle.ap_desk.specs.Causes.{HasCause, Rose}
use Rattle.ap_desk.specs.Files.{Files}
use Rattle.ap_program.specs.declared.fault.AsmFault.{AsmFault}
use Rattle.ap_program.specs.declared.fault.AsmFault.TheVariants as asm
use Rattle.ap_top.specs.declared.command.Command.{Command}
use Rattle.ap_top.specs.declared.form.ReadFault.{ReadFault}
use Rattle.ap_top.specs.declared.form.ReadFault.TheVariants as reading
use Rattle.ap_top.specs.declared.refusal.Stop.{Stop}
use Rattle.ap_top.specs.declared.refusal.Stop.TheVariants.{Broken}
use Rattle.ap_top.specs.declared.refusal.Trouble.{Trouble}
use Rattle.ap_top.specs.declared.refusal.Trouble.TheVariants.{Desk, Memory}
use Rattle.ap_top.specs.Assembly.{FailsAt}
use Rattle.ap_top.specs.Calls.{Call}
use Rattle.ap_top.specs.Commands.{IsCall}
use Rattle.ap_top.specs.Generate.{gen_sources}
use Rattle.ap_top.specs.Inputs.{FailsOn, HasFailed, LacksOne, Source, inputs_of}
use Rattle.ap_top.specs.Refusals.{IsOrMemory, stop_of, stop_of_program, trouble_of, trouble_status}
use Rattle.ap_top.specs.Troubles.{HasFaulted, IsCaused, desk_stop}

-- no count changed
pub kept : {T E : Type 0} (fault : E) (cause : Counts → Counts → Type 0) (before after : Counts) (result : Result T E) → after ≡ before → (result ≡ Err fault → ⊥) → IsCaused fault cause before after result
kept fault cause before after result e other =
    let faults : after.faults ≡ before.faults = ap (λ (c : Counts). c.faults) e in
    let absent : after.absent ≡ before.absent = ap (λ (c : Counts). c.absent) e in
    record { faults_stay = omega arith; absent_stays = omega arith; desk = λ is. absurd (other is); quiet = λ _. e }

-- nor did one in a part that was done, nor where memory ran out
pub quiet_done : {T : Type 0} (cause : Counts → Counts → Type 0) (before after : Counts) (value : T) → IsCaused {T = T} desk_stop cause before after (Ok value) → after ≡ before
quiet_done cause before after value h = h.quiet (λ e. cc)

pub kept_done : {T : Type 0} (cause : Counts → Counts → Type 0) (before after : Counts) (value : T) → after ≡ before → IsCaused {T = T} desk_stop cause before after (Ok value)
kept_done cause before after value e = kept desk_stop cause before after (Ok value) e (λ e. cc)

pub kept_memory : {T : Type 0} (cause : Counts → Counts → Type 0) (before after : Counts) → after ≡ before → IsCaused {T = T} desk_stop cause before after (Err (Broken Memory))
kept_memory cause before after e = kept desk_stop cause before after (Err (Broken Memory)) e (λ e. cc)

lacks : (cards : List Card) (told : Option Files) (name : List ℕ) → IfSome told (λ files. get files name ≡ None) → IfSome told (λ files. LacksOne cards files [] (gen_sources name))
lacks cards None name none = tt
lacks cards (Some files) name none = inl none

-- reading the description gave up
pub reading_gave_up : {T U : Type 0} (cards : List Card) (told : Option Files) (name : List ℕ) (before after : Counts) (fault : DeskFault) → HasCause {T = U} before after (Err fault)
    → (◌≡◌ {A = Result U DeskFault} (Err fault) (Err Missing) → IfSome told (λ files. get files name ≡ None)) → IsCaused {T = T} desk_stop (FailsOn cards (gen_sources name) told) before after (Err (Broken (trouble_of fault)))
reading_gave_up cards told name before after Failed h none =
    let absent = h.1 in
    record { faults_stay = h.0.stays; absent_stays = omega arith; desk = λ _. inl h.0.rose; quiet = λ other. absurd (other refl) }
reading_gave_up cards told name before after Missing h none =
    let faults = h.1 in
    record { faults_stay = omega arith; absent_stays = h.0.stays; desk = λ _. inr (h.0.rose, lacks cards told name (none refl)); quiet = λ other. absurd (other refl) }
reading_gave_up cards told name before after NoMemory h none = kept desk_stop (FailsOn cards (gen_sources name) told) before after (Err (Broken Memory)) h (λ e. cc)

-- reading an input gave up
pub reading_failed : {T U : Type 0} (told : Option Files) (name : List ℕ) (before after : Counts) (fault : DeskFault) → HasCause {T = U} before after (Err fault)
    → (◌≡◌ {A = Result U DeskFault} (Err fault) (Err Missing) → IfSome told (λ files. get files name ≡ None)) → IsCaused {T = T} desk_stop (FailsAt name told) before after (Err (Broken (trouble_of fault)))
reading_failed told name before after Failed h none =
    let absent = h.1 in
    record { faults_stay = h.0.stays; absent_stays = omega arith; desk = λ _. inl h.0.rose; quiet = λ other. absurd (other refl) }
reading_failed told name before after Missing h none =
    let faults = h.1 in
    record { faults_stay = omega arith; absent_stays = h.0.stays; desk = λ _. inr (h.0.rose, none refl); quiet = λ other. absurd (other refl) }
reading_failed told name before after NoMemory h none = kept desk_stop (FailsAt name told) before after (Err (Broken Memory)) h (λ e. cc)

-- what stopped a part of the work stops the whole
pub stop_cause : {T U : Type 0} (cause other : Counts → Counts → Type 0) (before mid after : Counts) (stop : Stop) → mid ≡ before → (cause before after → other before after) → IsCaused {T = U} desk_stop cause mid after (Err stop) → IsCaused {T = T} desk_stop other before after (Err stop)
stop_cause {T = T} {U = U} cause other before mid after stop same more h = by (subst (λ (k : Counts). IsCaused {T = U} desk_stop cause k after (Err stop)) same h)
  where
    by : IsCaused {T = U} desk_stop cause before after (Err stop) → IsCaused {T = T} desk_stop other before after (Err stop)
    by k = record {
      faults_stay = k.faults_stay;
      absent_stays = k.absent_stays;
      desk = λ e. more (k.desk (let is : stop ≡ desk_stop = cc in ap (λ (s : Stop). Err s) is));
      quiet = λ differs. k.quiet (λ e. differs (let is : stop ≡ desk_stop = cc in ap (λ (s : Stop). Err s) is));
    }

-- writing gave up
writing_by : {T U : Type 0} (cards : List Card) (sources : List Source) (told : Option Files) (before after : Counts) (fault : DeskFault) → HasCause {T = U} before after (Err fault)
    → (◌≡◌ {A = Result U DeskFault} (Err fault) (Err Missing) → ⊥) → IsCaused {T = T} desk_stop (FailsOn cards sources told) before after (Err (Broken (trouble_of fault)))
writing_by cards sources told before after Failed h other =
    let absent = h.1 in
    record { faults_stay = h.0.stays; absent_stays = omega arith; desk = λ _. inl h.0.rose; quiet = λ other. absurd (other refl) }
writing_by cards sources told before after Missing h other = absurd (other refl)
writing_by cards sources told before after NoMemory h other = kept desk_stop (FailsOn cards sources told) before after (Err (Broken Memory)) h (λ e. cc)

pub writing_gave_up : {T U : Type 0} (cards : List Card) (sources : List Source) (told : Option Files) (before mid after : Counts) (fault : DeskFault) → mid ≡ before → HasCause {T = U} mid after (Err fault)
    → (◌≡◌ {A = Result U DeskFault} (Err fault) (Err Missing) → ⊥) → IsCaused {T = T} desk_stop (FailsOn cards sources told) before after (Err (Broken (trouble_of fault)))
writing_gave_up {T = T} {U = U} cards sources told before mid after fault e h other = writing_by {T = T} {U = U} cards sources told before after fault (subst (λ (k : Counts). HasCause {T = U} k after (Err fault)) e h) other

-- a fault of a text isn't one of the desk
pub judging_never : {T : Type 0} (fault : ReadFault) → ◌≡◌ {A = Result T Stop} (Err (stop_of fault)) (Err desk_stop) → ⊥
judging_never (reading.Refused judged) e = cc
judging_never reading.NoMemory e = cc

pub assembling_never : {T : Type 0} (fault : AsmFault) → ◌≡◌ {A = Result T Stop} (Err (stop_of_program fault)) (Err desk_stop) → ⊥
assembling_never (asm.At line kind) e = cc
assembling_never asm.NoMemory e = cc

-- the work that the words ask for gave up as the work on their inputs did
pub asked_cause : {T : Type 0} (call : Call) (command : Command) (sources : List Source) (before after : Counts) (result : Result T Stop) → IsCall command call.words → inputs_of command call.words ≡ sources
    → IsCaused desk_stop (FailsOn call.cards sources call.told) before after result → IsCaused desk_stop (HasFailed call) before after result
asked_cause call command sources before after result is from h = record {
  faults_stay = h.faults_stay;
  absent_stays = h.absent_stays;
  desk = λ e. inr (command, is, subst (λ (s : List Source). FailsOn call.cards s call.told before after) (sym from) (h.desk e));
  quiet = h.quiet;
}

-- a trouble of the work is one of the call
pub broken_cause : {T U : Type 0} (cause : Counts → Counts → Type 0) (before after : Counts) (trouble : Trouble) → IsCaused {T = U} desk_stop cause before after (Err (Broken trouble)) → IsCaused {T = T} Desk cause before after (Err trouble)
broken_cause {T = T} {U = U} cause before after trouble h = record {
  faults_stay = h.faults_stay;
  absent_stays = h.absent_stays;
  desk = λ e. h.desk (let same : trouble ≡ Desk = cc in ap (λ (t : Trouble). Err (Broken t)) same);
  quiet = λ other. h.quiet (λ e. other (let same : trouble ≡ Desk = cc in ap (λ (t : Trouble). Err t) same));
}

-- the line of a refusal couldn't be printed
pub unprinted_cause : {T U : Type 0} (call : Call) (before mid after : Counts) (trouble : Trouble) → mid ≡ before → IsCaused {T = U} Desk HasFaulted mid after (Err trouble) → IsCaused {T = T} Desk (HasFailed call) before after (Err trouble)
unprinted_cause {T = T} {U = U} call before mid after trouble same h = subst (λ (k : Counts). IsCaused {T = T} Desk (HasFailed call) k after (Err trouble)) same (record {
  faults_stay = h.faults_stay;
  absent_stays = h.absent_stays;
  desk = λ e. inl (h.desk (let same : trouble ≡ Desk = cc in ap (λ (t : Trouble). Err t) same));
  quiet = λ other. h.quiet (λ e. other (let same : trouble ≡ Desk = cc in ap (λ (t : Trouble). Err t) same));
})

-- the desk still failed after a call that can't miss a file
pub failed_later : (call : Call) (before mid after : Counts) → mid.faults ≤ after.faults → after.absent ≡ mid.absent → HasFailed call before mid → HasFailed call before after
failed_later call before mid after faults absent failed = ⊎_elim
    (λ rose. inl (let h : Rose before.faults mid.faults = rose in omega arith))
    (λ asked. inr (
      asked.0,
      asked.1,
      ⊎_elim
          (λ rose. inl (let h : Rose before.faults mid.faults = rose in omega arith))
          (λ missed. inr ((let h : Rose before.absent mid.absent = missed.0 in omega arith), missed.1))
          asked.2,
    ))
    failed

-- The work gave up for this trouble, whose status is answered after its line was tried: where the status is that of the desk, the desk failed,
pub failed_by : (call : Call) (before mid after : Counts) (trouble : Trouble) (status : ℕ) → status ≡ trouble_status trouble → IsCaused {T = ℕ} Desk (HasFailed call) before mid (Err trouble) → mid.faults ≤ after.faults → after.absent ≡ mid.absent
    → status ≡ trouble_status Desk → HasFailed call before after
failed_by call before mid after Desk status is h faults absent e = failed_later call before mid after faults absent (h.desk refl)
failed_by call before mid after Memory status is h faults absent e = let no : ⊥ = omega arith in absurd no

-- where the desk didn't fail, memory ran out,
pub else_memory : (call : Call) (before mid after : Counts) (trouble : Trouble) (status due : ℕ) → status ≡ trouble_status trouble → IsCaused {T = ℕ} Desk (HasFailed call) before mid (Err trouble) → mid.faults ≤ after.faults → after.absent ≡ mid.absent
    → (HasFailed call before after → ⊥) → IsOrMemory due status
else_memory call before mid after Desk status due is h faults absent never = absurd (never (failed_later call before mid after faults absent (h.desk refl)))
else_memory call before mid after Memory status due is h faults absent never = inr is

-- and where memory ran out no file was missed.
pub none_missed : (call : Call) (before mid after : Counts) (trouble : Trouble) (status : ℕ) → status ≡ trouble_status trouble → IsCaused {T = ℕ} Desk (HasFailed call) before mid (Err trouble) → after.absent ≡ mid.absent
    → status ≡ trouble_status Memory → after.absent ≡ before.absent
none_missed call before mid after Desk status is h absent e = let no : ⊥ = omega arith in absurd no
none_missed call before mid after Memory status is h absent e = absent ∙ ap (λ (c : Counts). c.absent) (h.quiet (λ other. cc))
