-- A cycle's writes make the pipeline's log, storage by storage, that of the pairs which are passed after it.
use Rattle.std.proofs.Common.{◌≡◌, ℕ, suc, ◌+◌, ◌-◌, ◌≤◌, ◌<◌, ◌==◌, ◌&&◌, ◌||◌, not, Bool, true, false, if◌then◌else◌, nat_le, List, [], ◌∷◌, ◌++◌, filter, length, slice_index_or, Option, Some, None, ◌⊎◌, inl, inr, refl, sym, ap, ◌∙◌, arith, append_assoc, append-nil}
use Rattle.std.proofs.lemmas.Bool.{and_from, and_left, and_parts, both_ways, cases_Bool, cases_lt, eq-eqb, eqb-true, le-leb, lt-leb, lt-ltb, ltb-true, not-true, not_from_false, or_cases, or_from, or_left, or_parts, or_right}
use Rattle.std.proofs.lemmas.List.Elements.{filter-append}
use Rattle.std.specs.Option.{option_map_or}
use Rattle.ap_model.specs.declared.state.Entry.{Entry}
use Rattle.ap_model.specs.declared.state.Flight.{Flight}
use Rattle.ap_model.specs.declared.storage.Storage.{Storage}
use Rattle.ap_model.specs.Cycles.{cycle_entries, entries_of, flight_at, flight_effect, flight_entries, from_last, is_killed}
use Rattle.ap_model.specs.WritesOf.{goes_to}
use Rattle.ap_space.specs.Prefix.{entries_to}
use Rattle.ap_space.proofs.Lists.{each_as, filter_same, filter_twice}
use Rattle.ap_space.proofs.LogSteps.{IsIn, all_in, fires_now, kept_from, none_fires, one_fires, passes_from}
use Rattle.ap_space.proofs.Meets.{Deep, IsSetting, Meets, Setting, all, control, frame, inputs, is_frame, is_passed, passed_deep, run, state, track, turn}
use Rattle.ap_space.proofs.Futures.{deep_next}
use Rattle.ap_space.proofs.Runs.{fires_at, left_at, log_at}
use Rattle.ap_space.proofs.SampleRuns.{IsFiring}
use Rattle.ap_space.proofs.Deep.{stage_grows}

pub same_bools : (a b : Bool) → (a ≡ true → b ≡ true) → (b ≡ true → a ≡ true) → a ≡ b
same_bools true b up down = sym (up refl)
same_bools false true up down = down refl
same_bools false false up down = refl

module _ (x : Setting) (is : IsSetting x) (j : ℕ) (less : j < x.c) (meets : Meets x is j) (place : Storage) where
  abbrev stage : ℕ → ℕ
  stage i = (track x is j).stage i

  abbrev then_stage : ℕ → ℕ
  then_stage i = (track x is (suc j)).stage i

  abbrev halts : ℕ → Bool
  halts q = (control x is j).held q || is_killed x.design (control x is j) q

  abbrev kept : ℕ → List Entry
  kept q = kept_from x is j less meets place q (all x is)

  abbrev goes_here : Entry → Bool
  goes_here e = goes_to place e.write.port e.write.at

  abbrev told : ℕ → Flight → List Entry
  told q f = flight_entries x.design x.cards (inputs x is j) (state x is j) (control x is j) q f

  -- Stage by stage, the last first.

  there_inside : (i : ℕ) → 1 ≤ stage i → i < (track x is j).next
  there_inside i some = by_next (cases_lt i (track x is j).next)
    where
      by_next : (i < (track x is j).next) ⊎ ((track x is j).next ≤ i) → i < (track x is j).next
      by_next (inl h) = h
      by_next (inr h) = let zero_there = (run x is j).track.ahead i h in absurd (omega arith)

  -- one stage
  stage_told : (s : ℕ) (flight : Option Flight) → suc s < x.design.stages → flight_at (state x is j) (suc s) ≡ flight → kept (suc s) ≡ kept (suc (suc s)) ++ entries_to place (option_map_or (told (suc s)) flight [])
  stage_told s None high at =
      none_fires x is j less meets place s
      (λ i here_now free.
      let f = (run x is j).tracked.numbers i (there_inside i (omega arith)) (omega arith) in
      let never : None ≡ Some f.flight = sym at ∙ ap (flight_at (state x is j)) (sym here_now) ∙ f.is in
      absurd cc)
      ∙ sym (append-nil (kept (suc (suc s))))
  stage_told s (Some f) high at = by_halt (halts (suc s)) refl
    where
      by_halt : (b : Bool) → halts (suc s) ≡ b
          → kept (suc s) ≡ kept (suc (suc s)) ++ entries_to place (option_map_or (entries_of (suc s) f.number) (if b then None else Some (flight_effect x.design x.cards (inputs x is j) (state x is j) (suc s) f)) [])
      by_halt true e = none_fires x is j less meets place s (λ i here_now free. both_ways (halts (suc s)) free e) ∙ sym (append-nil (kept (suc (suc s))))
      by_halt false e =
          let parts = or_parts ((control x is j).held (suc s)) (is_killed x.design (control x is j) (suc s)) e in
          one_fires x is j less meets place s f (record { low = omega arith; high = high; is = at; free = parts.0; left = parts.1 })

  all_told : (s : ℕ) (flights : List (Option Flight)) → length flights + suc s ≡ x.design.stages → ((i : ℕ) → slice_index_or flights i None ≡ flight_at (state x is j) (suc s + i)) → kept (suc s) ≡ kept x.design.stages ++ entries_to place (from_last told (suc s) flights)
  all_told s [] count same =
      let end : suc s ≡ x.design.stages = omega arith in
      ap kept end ∙ sym (append-nil (kept x.design.stages))
  all_told s (flight ∷ flights) count same =
      let more : suc s + 1 ≡ suc (suc s) = omega arith in
      let none : suc s + 0 ≡ suc s = omega arith in
      let later : kept (suc (suc s)) ≡ kept x.design.stages ++ entries_to place (from_last told (suc (suc s)) flights) =
      all_told (suc s) flights (omega arith) (λ i. let sum : suc s + suc i ≡ suc (suc s) + i = omega arith in same (suc i) ∙ ap (flight_at (state x is j)) sum) in
      stage_told s flight (omega arith) (ap (flight_at (state x is j)) (sym none) ∙ sym (same 0))
      ∙ ap (λ es. es ++ entries_to place (option_map_or (told (suc s)) flight [])) later
      ∙ append_assoc (kept x.design.stages) (entries_to place (from_last told (suc (suc s)) flights)) (entries_to place (option_map_or (told (suc s)) flight []))
      ∙ ap (λ es. kept x.design.stages ++ es) (sym (filter-append goes_here (from_last told (suc (suc s)) flights) (option_map_or (told (suc s)) flight [])))
      ∙ ap (λ q. kept x.design.stages ++ entries_to place (from_last told q flights ++ option_map_or (told (suc s)) flight [])) (sym more)

  -- Before the last stage and behind the first.

  none_beyond : kept x.design.stages ≡ filter (λ e. goes_here e && is_passed x is j e) (all x is)
  none_beyond =
      filter_same (λ e. goes_here e && passes_from x is j less meets place x.design.stages e) (λ e. goes_here e && is_passed x is j e) (all x is)
      (each_as (IsIn x is j less meets place) (λ e. (goes_here e && passes_from x is j less meets place x.design.stages e) ≡ (goes_here e && is_passed x is j e))
      (λ e h. ap (λ b. goes_here e && b) (ap (λ b. is_passed x is j e || b) (and_left (nat_le x.design.stages e.stage) ((e.stage == stage e.number) && not (halts e.stage)) (lt-leb x.design.stages e.stage h.2)) ∙ none_more (is_passed x is j e))) (all x is) (all_in x is j less meets place))
    where
      none_more : (b : Bool) → (b || false) ≡ b
      none_more true = refl
      none_more false = refl

  -- what was passed before or fires is passed then
  fires_passed : (e : Entry) → IsIn x is j less meets place e → (is_passed x is j e ≡ true) ⊎ (fires_now x is j less meets place 1 e ≡ true) → is_passed x is (suc j) e ≡ true
  fires_passed e h (inl passed) =
      let deep = passed_deep x is j meets e h.0 (ltb-true e.stage (stage e.number) passed) in
      let deep_then : Deep x is (suc j) e.number = deep_next x.design x.cards x.image x.trace is.clean (is_frame x is) is.fits j e.number deep in
      let up = stage_grows (frame x is) (control x is j).held (track x is j) (track x is (suc j)) (turn x is j) e.number deep_then.0 in
      let low = ltb-true e.stage (stage e.number) passed in
      lt-ltb e.stage (then_stage e.number) (omega arith)
  fires_passed e h (inr fires) =
      let parts = and_parts (nat_le 1 e.stage) ((e.stage == stage e.number) && not (halts e.stage)) fires in
      let both = and_parts (e.stage == stage e.number) (not (halts e.stage)) parts.1 in
      let at : e.stage ≡ stage e.number = eqb-true e.stage (stage e.number) both.0 in
      let free = or_parts ((control x is j).held e.stage) (is_killed x.design (control x is j) e.stage) (not-true (halts e.stage) both.1) in
      let low = h.1 in
      let high = h.2 in
      let f = (run x is j).tracked.numbers e.number (there_inside e.number (omega arith)) (omega arith) in
      let firing : IsFiring x.design (state x is j) (control x is j) e.stage f.flight = record { low = h.1; high = h.2; is = ap (flight_at (state x is j)) at ∙ f.is; free = free.0; left = free.1 } in
      let there = (fires_at x.design x.cards x.image x.trace is.clean (is_frame x is) is.fits j e.stage f.flight firing).1 in
      let stage_then : then_stage e.number ≡ suc e.stage = ap then_stage (sym f.number) ∙ there in
      lt-ltb e.stage (then_stage e.number) (omega arith)

  -- and nothing else is
  passed_fires : (e : Entry) → IsIn x is j less meets place e → is_passed x is (suc j) e ≡ true → passes_from x is j less meets place 1 e ≡ true
  passed_fires e h passed = by_next (cases_lt e.number (track x is (suc j)).next)
    where
      below : e.stage < then_stage e.number
      below = ltb-true e.stage (then_stage e.number) passed

      early : e.stage < stage e.number → passes_from x is j less meets place 1 e ≡ true
      early low = or_left (is_passed x is j e) (fires_now x is j less meets place 1 e) (lt-ltb e.stage (stage e.number) low)

      by_stage : e.number < (track x is (suc j)).next → (stage e.number < x.design.stages) ⊎ (x.design.stages ≤ stage e.number) → ((control x is j).held (stage e.number) ≡ true) ⊎ ((control x is j).held (stage e.number) ≡ false) → passes_from x is j less meets place 1 e ≡ true
      by_stage left (inr gone) other = early (let high = h.2 in omega arith)
      by_stage left (inl flies) (inl held) = let same = (turn x is j).stays e.number left flies held in let low = below in early (omega arith)
      by_stage left (inl flies) (inr free) = by_here (cases_lt e.stage (stage e.number))
        where
          by_here : (e.stage < stage e.number) ⊎ (stage e.number ≤ e.stage) → passes_from x is j less meets place 1 e ≡ true
          by_here (inl low) = early low
          by_here (inr least) =
              let moved = (turn x is j).moves e.number left flies free in
              let low = below in
              let some = h.1 in
              let same : stage e.number ≡ e.stage = omega arith in
              let inside = there_inside e.number (omega arith) in
              let unkilled = left_at x.design x.cards x.image x.trace is.clean (is_frame x is) is.fits j e.number left (omega arith) flies in
              let clear : halts e.stage ≡ false = or_from ((control x is j).held e.stage) (is_killed x.design (control x is j) e.stage) (ap (control x is j).held (sym same) ∙ free) (ap (is_killed x.design (control x is j)) (sym same) ∙ unkilled) in
              or_right (is_passed x is j e) (fires_now x is j less meets place 1 e)
              (and_from (nat_le 1 e.stage) ((e.stage == stage e.number) && not (halts e.stage)) (le-leb 1 e.stage some)
              (and_from (e.stage == stage e.number) (not (halts e.stage)) (eq-eqb e.stage (stage e.number) (sym same)) (not_from_false (halts e.stage) clear)))

      by_next : (e.number < (track x is (suc j)).next) ⊎ ((track x is (suc j)).next ≤ e.number) → passes_from x is j less meets place 1 e ≡ true
      by_next (inl left) = by_stage left (cases_lt (stage e.number) x.design.stages) (cases_Bool ((control x is j).held (stage e.number)))
      by_next (inr killed) = let zero_there = (turn x is j).killed e.number killed in let low = below in absurd (omega arith)

  all_passed : kept 1 ≡ filter (λ e. goes_here e && is_passed x is (suc j) e) (all x is)
  all_passed =
      filter_same (λ e. goes_here e && passes_from x is j less meets place 1 e) (λ e. goes_here e && is_passed x is (suc j) e) (all x is)
      (each_as (IsIn x is j less meets place) (λ e. (goes_here e && passes_from x is j less meets place 1 e) ≡ (goes_here e && is_passed x is (suc j) e))
      (λ e h. ap (λ b. goes_here e && b) (same_bools (passes_from x is j less meets place 1 e) (is_passed x is (suc j) e) (λ either. fires_passed e h (or_cases (is_passed x is j e) (fires_now x is j less meets place 1 e) either)) (passed_fires e h))) (all x is) (all_in x is j less meets place))

  entries_told : cycle_entries x.design x.cards (inputs x is j) (state x is j) (control x is j) ≡ from_last told 1 (state x is j).flights
  unfolding cycle_entries
  entries_told = refl

  pub logs_then : entries_to place (state x is (suc j)).log ≡ entries_to place (filter (is_passed x is (suc j)) (all x is))
  logs_then =
      let count = (run x is j).tracked.count in
      let high = (is_frame x is).high in
      let index : (i : ℕ) → 1 + i - 1 ≡ i = λ i. omega arith in
      ap (entries_to place) (log_at x.design x.cards x.image x.trace is.clean (is_frame x is) is.fits j)
      ∙ filter-append goes_here (state x is j).log (cycle_entries x.design x.cards (inputs x is j) (state x is j) (control x is j))
      ∙ (λ k. (meets.logs place ∙ filter_twice goes_here (is_passed x is j) (all x is) ∙ sym none_beyond) k ++ entries_to place (entries_told k))
      ∙ sym (all_told 0 (state x is j).flights (omega arith) (λ i. ap (λ n. slice_index_or (state x is j).flights n None) (sym (index i))))
      ∙ all_passed
      ∙ sym (filter_twice goes_here (is_passed x is (suc j)) (all x is))
