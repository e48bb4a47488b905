-- After a cycle the locals of flights are again those of the partner's instructions.
use Rattle.std.proofs.Common.{◌≡◌, ℕ, zero, suc, ◌<◌, true, false, Option, Some, None, ◌⊎◌, inl, inr, refl, sym, ap, ◌∙◌, subst, arith}
use Rattle.std.proofs.lemmas.Bool.{cases_Bool}
use Rattle.ap_model.specs.declared.state.Flight.{Flight}
use Rattle.ap_model.specs.declared.state.StageEffect.{StageEffect}
use Rattle.ap_model.specs.declared.state.State.{State}
use Rattle.ap_model.specs.Cycles.{fetched, flight_at, flight_effect, gone_on, is_killed, leaving, staying}
use Rattle.ap_model.specs.Sequence.{Partway}
use Rattle.ap_space.proofs.Flights.{comes_at, enters_at, stays_at}
use Rattle.ap_space.proofs.Meets.{Agrees, IsSetting, Meets, OnPath, Setting, agrees_before, control, fires_as_partner, inputs, is_frame, part, run, samples, state, track}
use Rattle.ap_space.proofs.Parts.{part_more, part_none}
use Rattle.ap_space.proofs.PathSteps.{path_before}
use Rattle.ap_space.proofs.Runs.{decides, state_next}
use Rattle.ap_space.proofs.SampleRuns.{IsFiring}
use Rattle.ap_space.proofs.Tracked.{entered_from, left_from, stayed_from}

module _ (x : Setting) (is : IsSetting x) (j : ℕ) (less : j < x.c) (meets : Meets x is j) where
  abbrev then_next : ℕ
  then_next = (track x is (suc j)).next

  module _ (g : Flight) (on : OnPath x is (suc j) g.number) (agrees : Agrees x is (suc j) g.number) (left : g.number < then_next) where
    path : OnPath x is j g.number
    path = path_before x is j less meets g.number (omega arith) (inl left) on

    -- a flight that stayed
    stays : (s : ℕ) → suc s < x.design.stages → (f : Flight) × (flight_at (state x is j) (suc s) ≡ Some f) × (g ≡ staying f) → g.locals ≡ (part x is g.number s).locals
    stays s high from =
        let number : from.0.number ≡ g.number = ap (λ (h : Flight). h.number) (sym from.2) in
        ap (λ (h : Flight). h.locals) from.2
        ∙ meets.locals s from.0 high from.1 (subst (OnPath x is j) (sym number) path) (subst (Agrees x is j) (sym number) (agrees_before x is j g.number left agrees))
        ∙ ap (λ n. (part x is n s).locals) number

    -- a flight that went on
    comes : (p : ℕ) (f : Flight) → IsFiring x.design (state x is j) (control x is j) (suc p) f → g ≡ gone_on f (flight_effect x.design x.cards (inputs x is j) (state x is j) (suc p) f) → g.locals ≡ (part x is g.number (suc p)).locals
    comes p f firing from =
        let number : f.number ≡ g.number = ap (λ (h : Flight). h.number) (sym from) in
        let same = fires_as_partner x is j less meets p f firing (subst (OnPath x is j) (sym number) path) (subst (Agrees x is (suc j)) (sym number) agrees) in
        ap (λ (h : Flight). h.locals) from
        ∙ ap (λ (d : StageEffect). d.locals) same
        ∙ ap (λ (q : Partway). q.locals) (sym (part_more x.design x.cards x.image (samples x is) f.number p))
        ∙ ap (λ n. (part x is n (suc p)).locals) number

    enters : g ≡ fetched x.image (state x is j) → g.locals ≡ (part x is g.number 0).locals
    enters from = ap (λ (h : Flight). h.locals) from ∙ sym (ap (λ (q : Partway). q.locals) (part_none x.design x.cards x.image (samples x is) g.number))

    free_case : (s : ℕ) → suc s < x.design.stages → (control x is j).held (suc s) ≡ false → flight_at (state x is (suc j)) (suc s) ≡ Some g → g.locals ≡ (part x is g.number s).locals
    free_case zero high free at =
        enters
        (entered_from x.design x.cards x.image (inputs x is j) (state x is j) (control x is j) (track x is j) is.clean (run x is j).tracked (run x is j).track (decides x.design x.cards x.image x.trace is.clean (is_frame x is) is.fits j)
        ((control x is j).held 0) (is_killed x.design (control x is j) 0) (fetched x.image (state x is j)) g
        (sym (enters_at x.design x.cards (inputs x is j) (state x is j) (control x is j) x.image (run x is j).tracked.count high free) ∙ ap (λ (s : State). flight_at s 1) (sym (state_next x.design x.cards x.image x.trace j)) ∙ at)).2
    free_case (suc p) high free at =
        by_flight (flight_at (state x is j) (suc p)) refl
        (sym (comes_at x.design x.cards (inputs x is j) (state x is j) (control x is j) x.image (run x is j).tracked.count (suc p) (omega arith) high free) ∙ ap (λ (s : State). flight_at s (suc (suc p))) (sym (state_next x.design x.cards x.image x.trace j)) ∙ at)
      where
        by_flight : (o : Option Flight) → flight_at (state x is j) (suc p) ≡ o → leaving x.design x.cards (inputs x is j) (state x is j) (control x is j) (suc p) o ≡ Some g → g.locals ≡ (part x is g.number (suc p)).locals
        by_flight None there e = absurd cc
        by_flight (Some f) there e =
            let from = left_from x.design x.cards x.image (inputs x is j) (state x is j) (control x is j) (track x is j) is.clean (run x is j).tracked (run x is j).track (decides x.design x.cards x.image x.trace is.clean (is_frame x is) is.fits j)
            ((control x is j).held (suc p)) (is_killed x.design (control x is j) (suc p)) f g (flight_effect x.design x.cards (inputs x is j) (state x is j) (suc p) f) e in
            comes p f (record { low = omega arith; high = omega arith; is = there; free = from.0; left = from.1 }) from.2

  pub locals_then : (s : ℕ) (g : Flight) → suc s < x.design.stages → flight_at (state x is (suc j)) (suc s) ≡ Some g → OnPath x is (suc j) g.number → Agrees x is (suc j) g.number → g.locals ≡ (part x is g.number s).locals
  locals_then s g high at on agrees = by_held (cases_Bool ((control x is j).held (suc s)))
    where
      left : g.number < then_next
      left = ((run x is (suc j)).tracked.flights (suc s) g (omega arith) high at).number

      by_held : ((control x is j).held (suc s) ≡ true) ⊎ ((control x is j).held (suc s) ≡ false) → g.locals ≡ (part x is g.number s).locals
      by_held (inl held) =
          stays g on agrees left s high
          (stayed_from x.design x.cards x.image (inputs x is j) (state x is j) (control x is j) (track x is j) is.clean (run x is j).tracked (run x is j).track (decides x.design x.cards x.image x.trace is.clean (is_frame x is) is.fits j)
          (flight_at (state x is j) (suc s)) g
          (sym (stays_at x.design x.cards (inputs x is j) (state x is j) (control x is j) x.image (run x is j).tracked.count (suc s) (omega arith) high held) ∙ ap (λ (t : State). flight_at t (suc s)) (sym (state_next x.design x.cards x.image x.trace j)) ∙ at))
      by_held (inr free) = free_case g on agrees left s high free at
