-- A cycle's writes, storage by storage, are those that the partner's log has at the pairs which fire in it, and they come behind all that
-- were passed before.
use Rattle.std.proofs.Common.{◌≡◌, ℕ, suc, ◌+◌, ◌≤◌, ◌<◌, ◌==◌, ◌&&◌, ◌||◌, not, Bool, true, false, cond, nat_le, List, [], ◌∷◌, ◌++◌, filter, map, ◌⊎◌, inl, inr, refl, sym, ap, ◌∙◌, subst, arith, append-nil}
use Rattle.std.proofs.lemmas.Bool.{and_from, and_left, and_parts, and_right, cases_lt, cases_order, eq-eqb, eqb-true, false_from_ne_true, le-leb, le-ltb, leb-true, lt-leb, ltb-true, not-true, not_from_false, or_cases, or_from, or_right}
use Rattle.std.specs.List.{AllByRecursion as Each}
use Rattle.ap_model.specs.declared.state.Entry.{Entry}
use Rattle.ap_model.specs.declared.state.Flight.{Flight}
use Rattle.ap_model.specs.declared.storage.Storage.{Storage}
use Rattle.ap_model.specs.Cycles.{entries_of, entry_of, flight_effect, is_killed, port_input}
use Rattle.ap_model.specs.WritesOf.{goes_to}
use Rattle.ap_space.specs.Prefix.{entries_to}
use Rattle.ap_space.proofs.Fired.{early_writes_nothing}
use Rattle.ap_space.proofs.Lists.{each_append, each_as, each_both, each_left, each_right, filter_none, filter_parts, filter_same}
use Rattle.ap_space.proofs.Locals.{IsAccessed}
use Rattle.ap_space.proofs.Meets.{Deep, IsSetting, Meets, OnPath, Setting, Written, all, control, deep_agrees, deep_on_path, effect, few_fetched, fires_as_partner, inputs, is_frame, is_passed, part, passed_younger, run, samples, state, track, word}
use Rattle.ap_space.proofs.Parts.{IsAtPair, IsBefore, IsBehind, IsBelow, IsOf, at_pair, before_pair, entries_are, log_below, log_of}
use Rattle.ap_space.proofs.Partner.{block_none, block_written, log_written}
use Rattle.ap_space.proofs.PathSteps.{path_before}
use Rattle.ap_space.proofs.Runs.{fires_at}
use Rattle.ap_space.proofs.SampleRuns.{IsFiring}
use Rattle.ap_space.proofs.Turns.{IsFlightOf}

-- nothing kept: nothing passes
none_kept : {X : Type 0} (p : X → Bool) (xs : List X) → filter p xs ≡ [] → Each (λ x. p x ≡ false) xs
none_kept p [] e = tt
none_kept {X} p (x ∷ xs) e = by_test (p x) refl e (λ f. none_kept p xs f)
  where
    by_test : (b : Bool) → p x ≡ b → cond b (x ∷ filter p xs) (filter p xs) ≡ [] → (filter p xs ≡ [] → Each (λ x. p x ≡ false) xs) → (p x ≡ false) × Each (λ x. p x ≡ false) xs
    by_test true is f later = absurd cc
    by_test false is f later = (is, later f)

-- something kept: it passes, and has what each has
kept_one : {X : Type 0} (p : X → Bool) (P : X → Type 0) (xs : List X) (y : X) (ys : List X) → Each P xs → filter p xs ≡ y ∷ ys → (x : X) × (p x ≡ true) × P x
kept_one p P [] y ys each e = absurd cc
kept_one {X} p P (x ∷ xs) y ys each e = by_test (p x) refl e (λ f. kept_one p P xs y ys each.1 f)
  where
    by_test : (b : Bool) → p x ≡ b → cond b (x ∷ filter p xs) (filter p xs) ≡ y ∷ ys → (filter p xs ≡ y ∷ ys → (x : X) × (p x ≡ true) × P x) → (x : X) × (p x ≡ true) × P x
    by_test true is f later = (x, is, each.0)
    by_test false is f later = later f

module _ (x : Setting) (is : IsSetting x) (j : ℕ) (less : j < x.c) (meets : Meets x is j) (place : Storage) where
  abbrev pub here : ℕ → ℕ
  here i = (track x is j).stage i

  abbrev pub goes : Entry → Bool
  goes e = goes_to place e.write.port e.write.at

  abbrev pub stops : ℕ → Bool
  stops q = (control x is j).held q || is_killed x.design (control x is j) q

  -- the entry's pair fires in this cycle, in a stage from this one on
  abbrev pub fires_now : ℕ → Entry → Bool
  fires_now q e = nat_le q e.stage && ((e.stage == here e.number) && not (stops e.stage))

  -- it was passed before, or fires
  abbrev pub passes_from : ℕ → Entry → Bool
  passes_from q e = is_passed x is j e || fires_now q e

  abbrev pub IsIn : Entry → Type 0
  IsIn e = Written x is e × (1 ≤ e.stage) × (e.stage < x.design.stages)

  pub all_in : Each IsIn (all x is)
  all_in =
      each_as (λ e. Written x is e × IsBelow x.design x.cards x.image (samples x is) x.c e) IsIn (λ e h. (h.0, h.1.1, (let high = h.1.2 in let low = h.1.1 in omega arith))) (all x is)
      (each_both (Written x is) (IsBelow x.design x.cards x.image (samples x is) x.c) (all x is) (log_written x.design x.cards x.image (samples x is) is.clean is.runs x.c) (log_below x.design x.cards x.image (samples x is) x.c))

  -- one stage less makes a difference to the entries of that stage alone
  now_same : (s : ℕ) (e : Entry) → (e.stage ≡ suc s → (e.stage == here e.number) ≡ true → stops e.stage ≡ false → ⊥) → fires_now (suc s) e ≡ fires_now (suc (suc s)) e
  now_same s e apart = by_order (cases_order e.stage (suc s))
    where
      by_order : (e.stage ≡ suc s) ⊎ ((e.stage < suc s) ⊎ (suc s < e.stage)) → fires_now (suc s) e ≡ fires_now (suc (suc s)) e
      by_order (inl same) =
          and_right (nat_le (suc s) e.stage) ((e.stage == here e.number) && not (stops e.stage))
          (false_from_ne_true ((e.stage == here e.number) && not (stops e.stage)) (λ both. let parts = and_parts (e.stage == here e.number) (not (stops e.stage)) both in apart same parts.0 (not-true (stops e.stage) parts.1)))
          ∙ sym (and_left (nat_le (suc (suc s)) e.stage) ((e.stage == here e.number) && not (stops e.stage)) (lt-leb (suc (suc s)) e.stage (omega arith)))
      by_order (inr (inl low)) =
          and_left (nat_le (suc s) e.stage) ((e.stage == here e.number) && not (stops e.stage)) (lt-leb (suc s) e.stage low)
          ∙ sym (and_left (nat_le (suc (suc s)) e.stage) ((e.stage == here e.number) && not (stops e.stage)) (lt-leb (suc (suc s)) e.stage (omega arith)))
      by_order (inr (inr high)) =
          ap (λ b. b && ((e.stage == here e.number) && not (stops e.stage))) (le-leb (suc s) e.stage (omega arith) ∙ sym (le-leb (suc (suc s)) e.stage (omega arith)))

  from_same : (s : ℕ) (e : Entry) → (e.stage ≡ suc s → (e.stage == here e.number) ≡ true → stops e.stage ≡ false → ⊥) → (goes e && passes_from (suc s) e) ≡ (goes e && passes_from (suc (suc s)) e)
  from_same s e apart = ap (λ b. goes e && (is_passed x is j e || b)) (now_same s e apart)

  abbrev pub kept_from : ℕ → List Entry → List Entry
  kept_from q es = filter (λ e. goes e && passes_from q e) es

  -- a stage in which nothing fires
  pub none_fires : (s : ℕ) → ((i : ℕ) → here i ≡ suc s → stops (suc s) ≡ false → ⊥) → kept_from (suc s) (all x is) ≡ kept_from (suc (suc s)) (all x is)
  none_fires s none =
      filter_same (λ e. goes e && passes_from (suc s) e) (λ e. goes e && passes_from (suc (suc s)) e) (all x is)
      (each_as IsIn (λ e. (goes e && passes_from (suc s) e) ≡ (goes e && passes_from (suc (suc s)) e))
      (λ e h. from_same s e (λ same at free. none e.number (sym (eqb-true e.stage (here e.number) at) ∙ same) (ap stops (sym same) ∙ free))) (all x is) all_in)

  -- A flight that fires.
  module _ (s : ℕ) (f : Flight) (firing : IsFiring x.design (state x is j) (control x is j) (suc s) f) where
    abbrev i : ℕ
    i = f.number

    flight_is : IsFlightOf x.image (track x is j) (suc s) f
    flight_is = (run x is j).tracked.flights (suc s) f firing.low firing.high firing.is

    pair : IsAtPair x.design x.cards x.image (samples x is) x.c i s
    pair =
        let inside = flight_is.number in
        let few = few_fetched x is j in
        let high = firing.high in
        at_pair x.design x.cards x.image (samples x is) x.c i s (omega arith) (omega arith)

    abbrev front : List Entry
    front = log_of x.design x.cards x.image (samples x is) i ++ (part x is i s).log

    abbrev block : List Entry
    block = entries_of (suc s) i (effect x is i s)

    split_in : Each IsIn (front ++ (block ++ pair.rest))
    split_in = subst (Each IsIn) pair.whole all_in

    front_in : Each (λ e. IsIn e × IsBefore x.design x.cards x.image (samples x is) i (suc s) e) front
    front_in = each_both IsIn (IsBefore x.design x.cards x.image (samples x is) i (suc s)) front (each_left IsIn front (block ++ pair.rest) split_in) (before_pair x.design x.cards x.image (samples x is) i s)

    rest_in : Each (λ e. IsIn e × IsBehind x.design x.cards x.image (samples x is) i (suc s) e) pair.rest
    rest_in = each_both IsIn (IsBehind x.design x.cards x.image (samples x is) i (suc s)) pair.rest (each_right IsIn block pair.rest (each_right IsIn front (block ++ pair.rest) split_in)) pair.behind

    block_is : Each (IsOf x.design x.cards x.image (samples x is) i (suc s)) block
    block_is = entries_are x.design x.cards x.image (samples x is) i (suc s) (effect x is i s)

    -- no other number is in the stage
    alone : (k : ℕ) → here k ≡ suc s → k ≡ i
    alone k at = by_order (cases_order k i) (cases_lt k (track x is j).next)
      where
        by_order : (k ≡ i) ⊎ ((k < i) ⊎ (i < k)) → (k < (track x is j).next) ⊎ ((track x is j).next ≤ k) → k ≡ i
        by_order (inl same) next = same
        by_order other (inr h) = let zero_there = (run x is j).track.ahead k h in absurd (omega arith)
        by_order (inr (inl older)) (inl h) =
            let there = flight_is.stage in
            let inside = flight_is.number in
            let high = firing.high in
            let order = (run x is j).track.rise k i older (omega arith) (omega arith) in
            absurd (omega arith)
        by_order (inr (inr younger)) (inl h) =
            let there = flight_is.stage in
            let high = firing.high in
            let order = (run x is j).track.rise i k younger (omega arith) (omega arith) in
            absurd (omega arith)

    front_same : (e : Entry) → IsIn e × IsBefore x.design x.cards x.image (samples x is) i (suc s) e → (goes e && passes_from (suc s) e) ≡ (goes e && passes_from (suc (suc s)) e)
    front_same e h = from_same s e (λ same at free. by_before same (alone e.number (sym (eqb-true e.stage (here e.number) at) ∙ same)) h.1.1)
      where
        by_before : e.stage ≡ suc s → e.number ≡ i → (e.number < i) ⊎ ((e.number ≡ i) × (e.stage < suc s)) → ⊥
        by_before same mine (inl older) = omega arith
        by_before same mine (inr earlier) = let low = earlier.1 in omega arith

    rest_same : (e : Entry) → IsIn e × IsBehind x.design x.cards x.image (samples x is) i (suc s) e → (goes e && passes_from (suc s) e) ≡ (goes e && passes_from (suc (suc s)) e)
    rest_same e h = from_same s e (λ same at free. by_behind same (alone e.number (sym (eqb-true e.stage (here e.number) at) ∙ same)) h.1)
      where
        by_behind : e.stage ≡ suc s → e.number ≡ i → (i < e.number) ⊎ ((e.number ≡ i) × (suc s < e.stage)) → ⊥
        by_behind same mine (inl younger) = omega arith
        by_behind same mine (inr later) = let high = later.1 in omega arith

    -- where it writes nothing there, nothing changes
    nothing_more : filter goes block ≡ [] → kept_from (suc s) (all x is) ≡ kept_from (suc (suc s)) (all x is)
    nothing_more none =
        let test : Entry → Bool = λ e. goes e && passes_from (suc s) e in
        let other : Entry → Bool = λ e. goes e && passes_from (suc (suc s)) e in
        let Same : Entry → Type 0 = λ e. test e ≡ other e in
        ap (filter test) pair.whole
        ∙ filter_same test other (front ++ (block ++ pair.rest))
        (each_append Same front (block ++ pair.rest) (each_as (λ e. IsIn e × IsBefore x.design x.cards x.image (samples x is) i (suc s) e) Same front_same front front_in)
        (each_append Same block pair.rest
        (each_as (λ e. goes e ≡ false) Same (λ e no. and_left (goes e) (passes_from (suc s) e) no ∙ sym (and_left (goes e) (passes_from (suc (suc s)) e) no)) block (none_kept goes block none))
        (each_as (λ e. IsIn e × IsBehind x.design x.cards x.image (samples x is) i (suc s) e) Same rest_same pair.rest rest_in)))
        ∙ ap (filter other) (sym pair.whole)

    -- where it writes there, its writes come behind all others so far
    module _ (on : OnPath x is j i) (writes : IsAccessed x.design (word x is i) (suc s) true place) where
      block_fires : (e : Entry) → IsOf x.design x.cards x.image (samples x is) i (suc s) e → (goes e && passes_from (suc s) e) ≡ goes e
      block_fires e same =
          let at : e.stage ≡ here e.number = same.1 ∙ sym flight_is.stage ∙ ap (λ k. here k) (sym same.0) in
          let free : stops e.stage ≡ false = ap stops same.1 ∙ or_from ((control x is j).held (suc s)) (is_killed x.design (control x is j) (suc s)) firing.free firing.left in
          let fires : fires_now (suc s) e ≡ true =
          and_from (nat_le (suc s) e.stage) ((e.stage == here e.number) && not (stops e.stage)) (le-leb (suc s) e.stage (let here_now = same.1 in omega arith))
          (and_from (e.stage == here e.number) (not (stops e.stage)) (eq-eqb e.stage (here e.number) at) (not_from_false (stops e.stage) free)) in
          (λ k. goes e && or_right (is_passed x is j e) (fires_now (suc s) e) fires k) ∙ both_true (goes e)
        where
          both_true : (b : Bool) → (b && true) ≡ b
          both_true true = refl
          both_true false = refl

      block_not_yet : (e : Entry) → IsOf x.design x.cards x.image (samples x is) i (suc s) e → (goes e && passes_from (suc (suc s)) e) ≡ false
      block_not_yet e same =
          let at : here e.number ≡ suc s = ap (λ k. here k) same.0 ∙ flight_is.stage in
          and_right (goes e) (passes_from (suc (suc s)) e)
          (or_from (is_passed x is j e) (fires_now (suc (suc s)) e) (le-ltb e.stage (here e.number) (let now = same.1 in omega arith))
          (and_left (nat_le (suc (suc s)) e.stage) ((e.stage == here e.number) && not (stops e.stage)) (lt-leb (suc (suc s)) e.stage (let now = same.1 in omega arith))))

      rest_out : (e : Entry) → IsIn e × IsBehind x.design x.cards x.image (samples x is) i (suc s) e → (goes e && passes_from (suc s) e) ≡ false
      rest_out e h = false_from_ne_true (goes e && passes_from (suc s) e) (λ both. let parts = and_parts (goes e) (passes_from (suc s) e) both in by_either parts.0 (or_cases (is_passed x is j e) (fires_now (suc s) e) parts.1) h.1)
        where
          by_either : goes e ≡ true → (is_passed x is j e ≡ true) ⊎ (fires_now (suc s) e ≡ true) → (i < e.number) ⊎ ((e.number ≡ i) × (suc s < e.stage)) → ⊥
          by_either there (inl passed) (inl younger) = passed_younger x is j meets i s place true e flight_is.number flight_is.stage firing.high on writes h.0.0 younger (ltb-true e.stage (here e.number) passed) there
          by_either there (inl passed) (inr later) =
              let at : here e.number ≡ suc s = ap (λ k. here k) later.0 ∙ flight_is.stage in
              let low = ltb-true e.stage (here e.number) passed in
              let high = later.1 in
              omega arith
          by_either there (inr fires) (inl younger) =
              let parts = and_parts (nat_le (suc s) e.stage) ((e.stage == here e.number) && not (stops e.stage)) fires in
              let low = leb-true (suc s) e.stage parts.0 in
              let at = eqb-true e.stage (here e.number) (and_parts (e.stage == here e.number) (not (stops e.stage)) parts.1).0 in
              let stage = flight_is.stage in
              let high = firing.high in
              let order = (run x is j).track.rise i e.number younger (fetched_is (cases_lt e.number (track x is j).next) (omega arith)) (omega arith) in
              omega arith
            where
              fetched_is : (e.number < (track x is j).next) ⊎ ((track x is j).next ≤ e.number) → 1 ≤ here e.number → e.number ≤ (track x is j).next
              fetched_is (inl h) some = omega arith
              fetched_is (inr h) some = let zero_there = (run x is j).track.ahead e.number h in absurd (omega arith)
          by_either there (inr fires) (inr later) =
              let parts = and_parts (nat_le (suc s) e.stage) ((e.stage == here e.number) && not (stops e.stage)) fires in
              let at = eqb-true e.stage (here e.number) (and_parts (e.stage == here e.number) (not (stops e.stage)) parts.1).0 in
              let mine : here e.number ≡ suc s = ap (λ k. here k) later.0 ∙ flight_is.stage in
              let high = later.1 in
              omega arith

      block_more : kept_from (suc s) (all x is) ≡ kept_from (suc (suc s)) (all x is) ++ filter goes block
      block_more =
          let test : Entry → Bool = λ e. goes e && passes_from (suc s) e in
          let other : Entry → Bool = λ e. goes e && passes_from (suc (suc s)) e in
          let fronts = each_as (λ e. IsIn e × IsBefore x.design x.cards x.image (samples x is) i (suc s) e) (λ e. test e ≡ other e) front_same front front_in in
          let outs = each_as (λ e. IsIn e × IsBehind x.design x.cards x.image (samples x is) i (suc s) e) (λ e. test e ≡ false) rest_out pair.rest rest_in in
          let before : kept_from (suc (suc s)) (all x is) ≡ filter other front =
          ap (filter other) pair.whole
          ∙ filter_parts other other (λ e. false) front block pair.rest (each_as (λ e. IsIn e × IsBefore x.design x.cards x.image (samples x is) i (suc s) e) (λ e. other e ≡ other e) (λ e h. refl) front front_in)
          (each_as (IsOf x.design x.cards x.image (samples x is) i (suc s)) (λ e. other e ≡ false) block_not_yet block block_is)
          (each_as (λ e. IsIn e × IsBehind x.design x.cards x.image (samples x is) i (suc s) e) (λ e. other e ≡ false) (λ e h. sym (rest_same e h) ∙ rest_out e h) pair.rest rest_in)
          ∙ ap (λ es. filter other front ++ es) (filter_none (λ e. false) block (each_as (IsOf x.design x.cards x.image (samples x is) i (suc s)) (λ e. false ≡ false) (λ e h. refl) block block_is))
          ∙ append-nil (filter other front) in
          ap (filter test) pair.whole
          ∙ filter_parts test other goes front block pair.rest fronts (each_as (IsOf x.design x.cards x.image (samples x is) i (suc s)) (λ e. test e ≡ goes e) block_fires block block_is) outs
          ∙ ap (λ es. es ++ filter goes block) (sym before)

    -- a stage in which a flight fires
    pub one_fires : kept_from (suc s) (all x is) ≡ kept_from (suc (suc s)) (all x is) ++ entries_to place (entries_of (suc s) i (flight_effect x.design x.cards (inputs x is j) (state x is j) (suc s) f))
    one_fires = by_stage (cases_lt (suc s + x.design.slots + 1) x.design.branch)
      where
        none_more : (told : List Entry) → filter goes told ≡ [] → filter goes block ≡ [] → kept_from (suc s) (all x is) ≡ kept_from (suc (suc s)) (all x is) ++ filter goes told
        none_more told nothing none = nothing_more none ∙ sym (append-nil (kept_from (suc (suc s)) (all x is))) ∙ ap (λ es. kept_from (suc (suc s)) (all x is) ++ es) (sym nothing)

        by_kept : (on : OnPath x is j i) (told : List Entry) → told ≡ block → (es : List Entry) → filter goes block ≡ es → kept_from (suc s) (all x is) ≡ kept_from (suc (suc s)) (all x is) ++ filter goes told
        by_kept on told same [] e = none_more told (ap (filter goes) same ∙ e) e
        by_kept on told same (y ∷ ys) e =
            let one = kept_one goes (λ e. Written x is e × IsOf x.design x.cards x.image (samples x is) i (suc s) e) block y ys
            (each_both (Written x is) (IsOf x.design x.cards x.image (samples x is) i (suc s)) block (block_written x.design x.cards x.image (samples x is) is.clean is.runs i s) block_is) e in
            let writes : IsAccessed x.design (word x is i) (suc s) true place = subst (λ q. IsAccessed x.design (word x is i) q true place) one.2.1.1 (subst (λ n. IsAccessed x.design (word x is n) one.0.stage true place) one.2.1.0 (one.2.0.goes place one.1)) in
            block_more on writes ∙ ap (λ es. kept_from (suc (suc s)) (all x is) ++ filter goes es) (sym same)

        by_stage : (suc s + x.design.slots + 1 < x.design.branch) ⊎ (x.design.branch ≤ suc s + x.design.slots + 1)
            → kept_from (suc s) (all x is) ≡ kept_from (suc (suc s)) (all x is) ++ filter goes (entries_of (suc s) i (flight_effect x.design x.cards (inputs x is j) (state x is j) (suc s) f))
        by_stage (inl early) =
            none_more (entries_of (suc s) i (flight_effect x.design x.cards (inputs x is j) (state x is j) (suc s) f))
            (ap (λ ws. filter goes (map (entry_of (suc s) i) ws)) (early_writes_nothing x.design x.cards is.clean (suc s) f.place f.word f.locals (state x is j).storages (port_input (inputs x is j)) early))
            (ap (filter goes) (block_none x.design x.cards x.image (samples x is) is.clean is.runs i s early))
        by_stage (inr late) =
            let there = fires_at x.design x.cards x.image x.trace is.clean (is_frame x is) is.fits j (suc s) f firing in
            let stage = there.1 in
            let deep : Deep x is (suc j) i = (there.0, omega arith) in
            let on = path_before x is j less meets i (let left = there.0 in omega arith) (inl there.0) (deep_on_path x is (suc j) i deep) in
            let same = fires_as_partner x is j less meets s f firing on (deep_agrees x is (suc j) i (omega arith) deep) in
            by_kept on (entries_of (suc s) i (flight_effect x.design x.cards (inputs x is j) (state x is j) (suc s) f)) (ap (entries_of (suc s) i) same) (filter goes block) refl
