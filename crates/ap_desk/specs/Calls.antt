-- Calls of one kind, counted from 0, some of which are to fail; and what the desks in memory hold.
use Rattle.std.specs.Prelude.{ℕ, ◌+◌, ◌-◌, ◌^◌, min, List, [], ◌∷◌, ◌++◌, Contains, Result, Ok, Err, refl}
use Rattle.std.specs.Coded.{Coded, code_by, coded×, coded_ℕ, coded_list}
use Rattle.std.specs.FinMap.{code, empty}
use Rattle.ap_desk.specs.declared.counts.Counts.{Counts}
use Rattle.ap_desk.specs.declared.desk.DeskFault.{DeskFault}
use Rattle.ap_desk.specs.declared.desk.DeskFault.TheVariants.{Failed, Missing, NoMemory}
use Rattle.ap_desk.specs.Causes.{raised}
use Rattle.ap_desk.specs.Files.{Files}

-- the numbers of the calls that are to fail, and the number of the next call
pub record CallPlan : Type 0 where
  pub failing : List ℕ
  pub next : ℕ

-- the next call is to fail
abbrev pub IsDue : CallPlan → Type 0
IsDue plan = Contains plan.failing plan.next

-- a call was made
abbrev pub counted : CallPlan → CallPlan
counted plan = record { failing = plan.failing; next = raised plan.next }

-- a further call is to fail
abbrev pub with_failing : CallPlan → ℕ → CallPlan
with_failing plan number = record { failing = plan.failing ++ number ∷ []; next = plan.next }

-- what a desk in memory with calls that fail holds
pub record MemState : Type 0 where
  pub files : Files
  pub reads : CallPlan
  pub creates : CallPlan
  pub appends : CallPlan
  pub counts : Counts

-- what a desk in memory that never fails holds
pub record SureState : Type 0 where
  pub files : Files
  pub absent : ℕ

-- its counts: no call of it fails
abbrev pub counts_of : SureState → Counts
counts_of state = record { faults = 0; absent = state.absent }

-- no call is to fail, and none was made
abbrev pub new_plan : CallPlan
new_plan = record { failing = []; next = 0 }

-- no call failed, and no file was missed
abbrev pub no_counts : Counts
no_counts = record { faults = 0; absent = 0 }

-- a desk that holds no file and fails no call
abbrev pub new_state : MemState
new_state = record { files = empty; reads = new_plan; creates = new_plan; appends = new_plan; counts = no_counts }

-- the counts after a call with this answer, where each rises by one
abbrev pub counts_after : {T : Type 0} → Result T DeskFault → Counts → Counts
counts_after (Ok value) counts = counts
counts_after (Err Failed) counts = record counts { faults = raised counts.faults }
counts_after (Err Missing) counts = record counts { absent = raised counts.absent }
counts_after (Err NoMemory) counts = counts

abbrev pub files_code : Coded Files
files_code = code (coded_list coded_ℕ) (coded_list coded_ℕ)

abbrev pub counts_code : Coded Counts
counts_code = code_by (ℕ × ℕ) (coded× coded_ℕ coded_ℕ) (λ c. (c.faults, c.absent)) (λ p. record { faults = p.0; absent = p.1 }) (λ _. refl)

abbrev pub plan_code : Coded CallPlan
plan_code = code_by (List ℕ × ℕ) (coded× (coded_list coded_ℕ) coded_ℕ) (λ p. (p.failing, p.next)) (λ p. record { failing = p.0; next = p.1 }) (λ _. refl)

-- the state is stored as the tuple of its parts
abbrev pub mem_state_code : Coded MemState
mem_state_code = code_by
    ((Files × CallPlan) × ((CallPlan × CallPlan) × Counts))
    (coded× (coded× files_code plan_code) (coded× (coded× plan_code plan_code) counts_code))
    (λ s. ((s.files, s.reads), ((s.creates, s.appends), s.counts)))
    (λ p. record { files = p.0.0; reads = p.0.1; creates = p.1.0.0; appends = p.1.0.1; counts = p.1.1 })
    (λ _. refl)

abbrev pub sure_state_code : Coded SureState
sure_state_code = code_by (Files × ℕ) (coded× files_code coded_ℕ) (λ s. (s.files, s.absent)) (λ p. record { files = p.0; absent = p.1 }) (λ _. refl)
