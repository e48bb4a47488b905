-- How the nets of a draft are found to be ready, by the steps in which they came.
use Rattle.std.proofs.Common.{◌≡◌, ℕ, List, [], ◌∷◌, length, inl, inr, ⊎_elim, ap, subst, arith}
use Rattle.std.proofs.lemmas.Bool.{cases_lt}
use Rattle.ap_net.specs.Draft.{Draft}
use Rattle.ap_net.specs.Pending.{Among}
use Rattle.ap_net.specs.Ready.{AreReady, Dependence, Ready}
use Rattle.ap_net.proofs.LateSteps.{Ready-source}
use Rattle.ap_steps.specs.Intervals.{BeginningIsReady, IntervalIsReady, IntervalsAreFound, IntervalsAreReady, SourcesAreReady, StepIsReady}
use Rattle.ap_steps.specs.Steps.{AtEachStep, Step, last_draft}

pub ready_among : (by : Dependence) (d : Draft) (nets : List ℕ) → AreReady by d nets → (n : ℕ) → Among nets n → Ready by d n
ready_among by d [] each n h = absurd h
ready_among by d (m ∷ nets) each n (inl e) = subst (Ready by d) e each.0
ready_among by d (m ∷ nets) each n (inr h) = ready_among by d nets each.1 n h

pub begun : (by : Dependence) (d a b : Draft) → BeginningIsReady by d a → IntervalIsReady by d a b → BeginningIsReady by d b
begun by d a b old new n low = ⊎_elim (λ below. old n below) (λ above. new n above low) (cases_lt n (length a.nets))

pub nothing_came : (by : Dependence) (d a b : Draft) → b.nets ≡ a.nets → IntervalIsReady by d a b
nothing_came by d a b same n above low = let long : length b.nets ≡ length a.nets = ap length same in absurd (omega (arith, long, above, low))

pub intervals_are_found : IntervalsAreFound
intervals_are_found = record {
  none = nothing_came;
  reads = λ by from d a b e ready reads n above low. reads.came by n above low d e ready;
  follows = λ by from d a b e ready came n above low. came n above low d e ready;
  listed = λ by nets d a b ready came n above low. ready_among by d nets ready n (came n above low);
  parted = λ by nets d a b e ready came n above low. ⊎_elim (λ among. ready_among by d nets ready n among) (λ after. after d e ready) (came n above low);
  over = λ by d a b e old over n above low. over d e old n low;
  joined = λ by d a b c first second n above low. ⊎_elim (λ below. first n above below) (λ later. second n later low) (cases_lt n (length b.nets));
  begun = begun;
}

pub sources_are_ready : SourcesAreReady
sources_are_ready by d n net at is looks = Ready-source by d n net at is looks

pub each_is_ready : (by : Dependence) (d first : Draft) (steps : List Step) → BeginningIsReady by d first → AtEachStep (StepIsReady by d) first steps → BeginningIsReady by d (last_draft first steps)
each_is_ready by d first [] old h = old
each_is_ready by d first (s ∷ steps) old h = each_is_ready by d s.made steps (begun by d first s.made old h.0) h.1

pub intervals_are_ready : IntervalsAreReady
intervals_are_ready by first steps old h = each_is_ready by (last_draft first steps) first steps old h
