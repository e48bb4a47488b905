-- The pipeline and its partner meet at every cycle of the run.
use Rattle.std.proofs.Common.{◌≡◌, ℕ, zero, suc, ◌≤◌, false, [], Some, None, refl, sym, ap, ◌∙◌, arith}
use Rattle.std.proofs.lemmas.Bool.{le-ltb}
use Rattle.ap_model.specs.declared.sequence.Progress.{Progress}
use Rattle.ap_model.specs.declared.state.Entry.{Entry}
use Rattle.ap_model.specs.Cycles.{flight_at, over}
use Rattle.ap_model.specs.States.{start}
use Rattle.ap_space.specs.Prefix.{entries_to}
use Rattle.ap_space.proofs.Flights.{empty_at_start}
use Rattle.ap_space.proofs.Lists.{each_always, filter_none}
use Rattle.ap_space.proofs.LogRuns.{logs_then}
use Rattle.ap_space.proofs.Meets.{IsSetting, Meets, Setting, all, is_passed, pc, samples, state, track}
use Rattle.ap_space.proofs.NextLocals.{locals_then}
use Rattle.ap_space.proofs.NextPlaces.{gaps_then, places_then, settled_then}
use Rattle.ap_space.proofs.Parts.{first_number}
use Rattle.ap_space.proofs.Runs.{first_place, first_stage, next_start}

module _ (x : Setting) (is : IsSetting x) where
  none_fetched : (track x is 0).next ≡ 0
  none_fetched = next_start x.design x.cards x.image x.trace

  first_log : (state x is 0).log ≡ []
  unfolding over start
  first_log = refl

  first_flight : (q : ℕ) → flight_at (state x is 0) q ≡ None
  unfolding over
  first_flight q = empty_at_start x.design x.image q

  none_passed : (e : Entry) → is_passed x is 0 e ≡ false
  none_passed e = le-ltb e.stage ((track x is 0).stage e.number) (let none = first_stage x.design x.cards x.image x.trace e.number in omega arith)

  first_meets : Meets x is 0
  first_meets = record {
    gaps = λ i k before le in_flight. let none = none_fetched in absurd (omega arith);
    places = λ i le on.
        let none = none_fetched in
        let zero_there : 0 ≡ i = omega arith in
        first_place x.design x.cards x.image x.trace i ∙ sym (ap (λ (p : Progress). p.pc) (first_number x.design x.cards x.image (samples x is))) ∙ ap (pc x is) zero_there;
    settled = λ t inside past. let none = none_fetched in absurd (omega arith);
    locals = λ s f high at on agrees. let never : None ≡ Some f = sym (first_flight (suc s)) ∙ at in absurd cc;
    logs = λ place.
        ap (entries_to place) first_log
        ∙ ap (entries_to place) (sym (filter_none (is_passed x is 0) (all x is) (each_always (λ e. is_passed x is 0 e ≡ false) none_passed (all x is))));
  }

  pub meets_at : (j : ℕ) → j ≤ x.c → Meets x is j
  meets_at zero le = first_meets
  meets_at (suc j) le = next_meets (meets_at j (omega arith))
    where
      next_meets : Meets x is j → Meets x is (suc j)
      next_meets meets = record {
        gaps = gaps_then x is j (omega arith) meets;
        places = places_then x is j (omega arith) meets;
        settled = settled_then x is j (omega arith) meets;
        locals = locals_then x is j (omega arith) meets;
        logs = logs_then x is j (omega arith) meets;
      }
