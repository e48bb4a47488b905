-- Which nets of a draft are ready, by the steps in which they came. A wire may be driven long after it came, so what came in a step is said
-- to be ready in the last draft; in which order that is seen is free.
use Rattle.std.specs.Prelude.{◌≡◌, ◌⊎◌, ℕ, ◌<◌, ◌≤◌, List, length, slice_get, Some}
use Rattle.ap_net.specs.declared.net.ModuleNet.{ModuleNet}
use Rattle.ap_net.specs.Draft.{Draft, Extends}
use Rattle.ap_net.specs.Late.{Reads}
use Rattle.ap_net.specs.Making.{ReadyOver}
use Rattle.ap_net.specs.Pending.{Among, CameAmong}
use Rattle.ap_net.specs.Ready.{AllReady, AreReady, Dependence, Ready, ReadyAfter}
use Rattle.ap_net.specs.Wiring.{IsSource}
use Rattle.ap_steps.specs.Steps.{AtEachStep, Step, last_draft}

-- all that came between two drafts is ready in a third
abbrev pub IntervalIsReady : Dependence → Draft → Draft → Draft → Type 0
IntervalIsReady by d a b = (n : ℕ) → length a.nets ≤ n → n < length b.nets → Ready by d n

-- all nets of a draft are ready in another
abbrev pub BeginningIsReady : Dependence → Draft → Draft → Type 0
BeginningIsReady by d a = (n : ℕ) → n < length a.nets → Ready by d n

-- what came is ready once these are, now or later
abbrev pub CameAfter : Dependence → List ℕ → Draft → Draft → Type 0
CameAfter by from a b = (n : ℕ) → length a.nets ≤ n → n < length b.nets → ReadyAfter by b from n

-- How an interval between the drafts a and b is found to be ready in d: nothing came; what came reads ready nets, or follows from them; it is
-- among some that are ready; it is among those, or follows from them; it follows from all that was there before; one interval and the next.
pub record IntervalsAreFound : Type 0 where
  pub none : (by : Dependence) (d a b : Draft) → b.nets ≡ a.nets → IntervalIsReady by d a b
  pub reads : (by : Dependence) (from : List ℕ) (d a b : Draft) → Extends b d → AreReady by d from → Reads from a b → IntervalIsReady by d a b
  pub follows : (by : Dependence) (from : List ℕ) (d a b : Draft) → Extends b d → AreReady by d from → CameAfter by from a b → IntervalIsReady by d a b
  pub listed : (by : Dependence) (nets : List ℕ) (d a b : Draft) → AreReady by d nets → CameAmong nets a b → IntervalIsReady by d a b
  pub parted : (by : Dependence) (nets : List ℕ) (d a b : Draft) → Extends b d → AreReady by d nets
      → ((n : ℕ) → length a.nets ≤ n → n < length b.nets → Among nets n ⊎ ReadyAfter by b nets n) → IntervalIsReady by d a b
  pub over : (by : Dependence) (d a b : Draft) → Extends b d → BeginningIsReady by d a → ReadyOver by a b → IntervalIsReady by d a b
  pub joined : (by : Dependence) (d a b c : Draft) → IntervalIsReady by d a b → IntervalIsReady by d b c → IntervalIsReady by d a c
  pub begun : (by : Dependence) (d a b : Draft) → BeginningIsReady by d a → IntervalIsReady by d a b → BeginningIsReady by d b

-- an input or a register is ready where all is at which the outside looks for it
abbrev pub SourcesAreReady : Type 0
SourcesAreReady = (by : Dependence) (d : Draft) (n : ℕ) (net : ModuleNet) → slice_get d.nets n ≡ Some net → IsSource net.role → AreReady by d (by.looks n) → Ready by d n

-- where the nets of the first draft are ready in the last, and what came in each step is, every net is
abbrev pub StepIsReady : Dependence → Draft → Draft → Step → Type 0
StepIsReady by d old s = IntervalIsReady by d old s.made

abbrev pub IntervalsAreReady : Type 0
IntervalsAreReady = (by : Dependence) (first : Draft) (steps : List Step) → BeginningIsReady by (last_draft first steps) first
    → AtEachStep (StepIsReady by (last_draft first steps)) first steps → AllReady by (last_draft first steps)
