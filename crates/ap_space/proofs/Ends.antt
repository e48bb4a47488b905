-- The law at the end of a run: the entries of each storage, and that they begin those of one at a time.
use Rattle.std.proofs.Common.{◌≡◌, ℕ, ◌+◌, ◌-◌, ◌≤◌, ◌<◌, ◌&&◌, Bool, true, false, cond, if◌then◌else◌, List, [], ◌∷◌, ◌++◌, filter, filter_map, map, Option, Some, None, ◌⊎◌, inl, inr, refl, sym, ap, ◌∙◌, arith, append-nil}
use Rattle.std.proofs.lemmas.Bool.{false_from_ne_true, le-ltb, lt-ltb, ltb-true, ltb-false}
use Rattle.std.proofs.lemmas.List.{map-append}
use Rattle.std.proofs.lemmas.List.Elements.{filter-append}
use Rattle.std.specs.List.{AllByRecursion as Each, cons_option}
use Rattle.ap_model.specs.declared.state.Entry.{Entry}
use Rattle.ap_model.specs.declared.storage.PortWrite.{PortWrite}
use Rattle.ap_model.specs.declared.storage.Storage.{Storage}
use Rattle.ap_model.specs.WritesOf.{goes_to, log_writes, seen_of, writes_of}
use Rattle.ap_space.specs.Prefix.{IsPrefix, entries_to, has_passed}
use Rattle.ap_space.proofs.Holds.{meets_at}
use Rattle.ap_space.proofs.Lists.{EachPair, each_as, each_both, each_filter, filter_none, filter_same, filter_twice, keeps_beginning, pair_as}
use Rattle.ap_space.proofs.LogRuns.{same_bools}
use Rattle.ap_space.proofs.Meets.{IsSetting, Meets, Setting, Written, all, deep_on_path, far, few_fetched, is_frame, is_passed, passed_deep, path_down, run, samples, state, track, word}
use Rattle.ap_space.proofs.Parts.{IsBelow, IsLater, log_below, log_from, log_of, log_sorted}
use Rattle.ap_space.proofs.Partner.{log_written}
use Rattle.ap_space.proofs.Runs.{next_at}
use Rattle.ap_space.proofs.Spacings.{access_before_write}

pair_filter : {X : Type 0} (R : X → X → Type 0) (t : X → Bool) (xs : List X) → EachPair R xs → EachPair R (filter t xs)
pair_filter R t [] pairs = tt
pair_filter {X} R t (x ∷ xs) pairs = by_test (t x) (pair_filter R t xs pairs.1)
  where
    by_test : (b : Bool) → EachPair R (filter t xs) → EachPair R (cond b (x ∷ filter t xs) (filter t xs))
    by_test true rest = (each_filter (R x) t xs pairs.0, rest)
    by_test false rest = rest

and_turned : (a b : Bool) → (a && b) ≡ (b && a)
and_turned true true = refl
and_turned true false = refl
and_turned false true = refl
and_turned false false = refl

-- what a storage sees of a log is what it sees of the entries that go to it
seen_entries : (place : Storage) (log : List Entry) → writes_of place (log_writes log) ≡ map (λ (e : Entry). seen_of place e.write) (entries_to place log)
unfolding writes_of
seen_entries place [] = refl
seen_entries place (e ∷ log) = by_test (goes_to place e.write.port e.write.at) (seen_entries place log)
  where
    by_test : (b : Bool) → filter_map (λ (w : PortWrite). if goes_to place w.port w.at then Some (seen_of place w) else None) (log_writes log) ≡ map (λ (e : Entry). seen_of place e.write) (entries_to place log)
        → cons_option (if b then Some (seen_of place e.write) else None) (filter_map (λ (w : PortWrite). if goes_to place w.port w.at then Some (seen_of place w) else None) (log_writes log)) ≡ map (λ (e : Entry). seen_of place e.write) (cond b (e ∷ entries_to place log) (entries_to place log))
    by_test true rest = ap (λ ws. seen_of place e.write ∷ ws) rest
    by_test false rest = rest

module _ (x : Setting) (is : IsSetting x) (place : Storage) where
  meets : Meets x is x.c
  meets = meets_at x is x.c (omega arith)

  abbrev stage : ℕ → ℕ
  stage i = (track x is x.c).stage i

  abbrev next : ℕ
  next = (track x is x.c).next

  abbrev goes : Entry → Bool
  goes e = goes_to place e.write.port e.write.at

  abbrev passes : Entry → Bool
  passes e = is_passed x is x.c e

  abbrev few : List Entry
  few = log_of x.design x.cards x.image (samples x is) next

  -- the stages that the machine keeps as passed are those of the track
  kept_passed : (e : Entry) → 1 ≤ e.stage → has_passed (state x is x.c).passes e ≡ passes e
  kept_passed e low =
      same_bools (has_passed (state x is x.c).passes e) (passes e)
      (λ has. lt-ltb e.stage (stage e.number) ((run x is x.c).passed.only e.number e.stage has).1)
      (λ passed. (run x is x.c).passed.all e.number e.stage low (ltb-true e.stage (stage e.number) passed))

  -- later numbers have passed nothing
  few_passed : filter passes (all x is) ≡ filter passes few
  few_passed =
      let low = few_fetched x is x.c in
      let sum : next + (x.c - next) ≡ x.c = omega arith in
      let more = log_from x.design x.cards x.image (samples x is) next (x.c - next) in
      ap (λ n. filter passes (log_of x.design x.cards x.image (samples x is) n)) (sym sum)
      ∙ ap (filter passes) more.1
      ∙ filter-append passes few more.0
      ∙ ap (λ es. filter passes few ++ es)
      (filter_none passes more.0 (each_as (λ (e : Entry). next ≤ e.number) (λ e. passes e ≡ false) (λ e ge. le-ltb e.stage (stage e.number) (let none = (run x is x.c).track.ahead e.number ge in omega arith)) more.0 more.2))
      ∙ append-nil (filter passes few)

  log_passed : entries_to place (state x is x.c).log ≡ entries_to place (filter passes few)
  log_passed = meets.logs place ∙ ap (entries_to place) few_passed

  abbrev one_log : List Entry
  one_log = log_of x.design x.cards x.image (samples x is) (state x is x.c).next

  few_is : few ≡ one_log
  few_is = ap (log_of x.design x.cards x.image (samples x is)) (next_at x.design x.cards x.image x.trace is.clean (is_frame x is) is.fits x.c)

  same_passed : filter passes few ≡ filter (has_passed (state x is x.c).passes) few
  same_passed =
      filter_same passes (has_passed (state x is x.c).passes) few
      (each_as (IsBelow x.design x.cards x.image (samples x is) next) (λ e. passes e ≡ has_passed (state x is x.c).passes e) (λ e h. sym (kept_passed e h.1)) few (log_below x.design x.cards x.image (samples x is) next))

  pub entries_passed : entries_to place (state x is x.c).log ≡ entries_to place (filter (has_passed (state x is x.c).passes) one_log)
  entries_passed = log_passed ∙ ap (entries_to place) same_passed ∙ ap (λ es. entries_to place (filter (has_passed (state x is x.c).passes) es)) few_is

  -- No entry that was passed stands behind one of the storage that wasn't.

  abbrev IsHere : Entry → Type 0
  IsHere e = (Written x is e × IsBelow x.design x.cards x.image (samples x is) next e) × (goes e ≡ true)

  in_order : (e f : Entry) → IsHere e → IsHere f → IsLater e f → passes e ≡ false → passes f ≡ false
  in_order e f one two later unpassed = false_from_ne_true (passes f) (λ passed. by_later (ltb-true f.stage (stage f.number) passed) (ltb-false e.stage (stage e.number) unpassed) later)
    where
      by_later : f.stage < stage f.number → stage e.number ≤ e.stage → (e.number < f.number) ⊎ ((e.number ≡ f.number) × (e.stage ≤ f.stage)) → ⊥
      by_later passed late (inl older) =
          let deep = passed_deep x is x.c meets f two.0.0 passed in
          let inside = deep.0 in
          let on = deep_on_path x is x.c f.number deep in
          let high = one.0.1.2 in
          let low = one.0.1.1 in
          let apart = far x is x.c meets e.number f.number older (omega arith) (omega arith) (path_down x is x.c f.number e.number (omega arith) on) on in
          let close = access_before_write x.design (word x is e.number) (word x is f.number) e.stage f.stage true place (one.0.0.goes place one.1) (two.0.0.goes place two.1) in
          omega arith
      by_later passed late (inr same) =
          let here : stage e.number ≡ stage f.number = ap stage same.0 in
          let before = same.1 in
          omega arith

  each_goes : (xs : List Entry) → Each (λ e. goes e ≡ true) (filter goes xs)
  each_goes [] = tt
  each_goes (e ∷ xs) = by_test (goes e) refl (each_goes xs)
    where
      by_test : (b : Bool) → goes e ≡ b → Each (λ e. goes e ≡ true) (filter goes xs) → Each (λ e. goes e ≡ true) (cond b (e ∷ filter goes xs) (filter goes xs))
      by_test true h rest = (h, rest)
      by_test false h rest = rest

  all_here : Each IsHere (entries_to place few)
  all_here =
      each_both (λ e. Written x is e × IsBelow x.design x.cards x.image (samples x is) next e) (λ e. goes e ≡ true) (entries_to place few)
      (each_filter (λ e. Written x is e × IsBelow x.design x.cards x.image (samples x is) next e) goes few
      (each_both (Written x is) (IsBelow x.design x.cards x.image (samples x is) next) few (log_written x.design x.cards x.image (samples x is) is.clean is.runs next) (log_below x.design x.cards x.image (samples x is) next)))
      (each_goes few)

  beginning : (rest : List Entry) × (entries_to place few ≡ filter passes (entries_to place few) ++ rest)
  beginning =
      keeps_beginning passes (entries_to place few)
      (pair_as IsHere IsLater (λ e f. passes e ≡ false → passes f ≡ false) in_order (entries_to place few) all_here (pair_filter IsLater goes few (log_sorted x.design x.cards x.image (samples x is) next)))

  pub writes_begin : IsPrefix (writes_of place (log_writes (state x is x.c).log)) (writes_of place (log_writes one_log))
  writes_begin =
      let begin = beginning in
      let see : List Entry → List (Option ℕ × ℕ) = map (λ (e : Entry). seen_of place e.write) in
      let kept : filter passes (entries_to place few) ≡ entries_to place (state x is x.c).log =
      filter_twice passes goes few ∙ (λ k. filter (λ e. and_turned (passes e) (goes e) k) few) ∙ sym (filter_twice goes passes few) ∙ sym log_passed in (
        see begin.0,
        ap (λ l. writes_of place (log_writes l)) (sym few_is) ∙ seen_entries place few
            ∙ ap see (begin.1 ∙ ap (λ es. es ++ begin.0) kept)
            ∙ map-append (λ (e : Entry). seen_of place e.write) (entries_to place (state x is x.c).log) begin.0
            ∙ ap (λ ws. ws ++ see begin.0) (sym (seen_entries place (state x is x.c).log)),
      )
