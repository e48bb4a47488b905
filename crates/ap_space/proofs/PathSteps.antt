-- A cycle keeps what the pipeline and its partner have in common: places, transfers that are over, locals, and gaps.
use Rattle.std.proofs.Common.{◌≡◌, ℕ, suc, ◌+◌, ◌-◌, ◌≤◌, ◌<◌, ◌==◌, ◌&&◌, true, false, nat_lt, List, [], ◌∷◌, Contains, IfSome, IsTrue, Option, Some, None, is_some, ◌⊎◌, inl, inr, refl, sym, ap, ◌∙◌, subst, arith}
use Rattle.std.proofs.lemmas.Bool.{and_parts, cases_Bool, cases_lt, eqb-true, le-ltb, or_cases}
use Rattle.std.specs.List.{list_any}
use Rattle.ap_model.specs.declared.state.Flight.{Flight}
use Rattle.ap_model.specs.declared.state.Pass.{Pass}
use Rattle.ap_model.specs.declared.state.StageEffect.{StageEffect}
use Rattle.ap_model.specs.Cycles.{flight_at, flight_effect, is_killed}
use Rattle.ap_model.specs.Landings.{taken_by}
use Rattle.ap_space.proofs.Fired.{branch_high, branch_low}
use Rattle.ap_space.proofs.Futures.{deep_next, stage_later}
use Rattle.ap_space.proofs.Meets.{Deep, IsSetting, Meets, OnPath, Setting, control, deep_agrees, deep_on_path, fires_as_partner, frame, inputs, is_frame, run, samples, state, target, track, turn}
use Rattle.ap_space.proofs.Partner.{target_is}
use Rattle.ap_space.proofs.Parts.{taken_is}
use Rattle.ap_space.proofs.Passed.{any_gives, has, is_pass}
use Rattle.ap_space.proofs.Runs.{decides, takes_at, untaken}
use Rattle.ap_space.proofs.SampleRuns.{IsFiring}
use Rattle.ap_space.proofs.Deep.{stage_grows}
use Rattle.ap_space.proofs.Tracks.{Takes}

-- a test that some element passes gives the element
any_contains : (xs : List ℕ) (n : ℕ) → list_any (λ l. l == n) xs ≡ true → Contains xs n
any_contains [] n e = absurd cc
any_contains (x ∷ xs) n e = by_case (or_cases (x == n) (list_any (λ l. l == n) xs) e) (λ h. any_contains xs n h)
  where
    by_case : ((x == n) ≡ true) ⊎ (list_any (λ l. l == n) xs ≡ true) → (list_any (λ l. l == n) xs ≡ true → Contains xs n) → Contains (x ∷ xs) n
    by_case (inl h) later = (0, omega arith, eqb-true x n h)
    by_case (inr h) later = let rest = later h in (suc rest.0, (let less = rest.1 in omega arith), rest.2)

-- a pass of the transfer's stage goes to a landing, where its instruction takes a transfer
abbrev LandsAt : (x : Setting) → IsSetting x → Pass → Type 0
LandsAt x is p = p.stage ≡ x.design.branch → IfSome (taken_by x.design x.cards x.image (samples x is) p.number) (λ to. IsTrue (list_any (λ l. l == to) x.landings))

module _ (x : Setting) (is : IsSetting x) (j : ℕ) (less : j < x.c) (meets : Meets x is j) where
  abbrev here : ℕ → ℕ
  here i = (track x is j).stage i

  abbrev next : ℕ
  next = (track x is j).next

  abbrev there : ℕ → ℕ
  there i = (track x is (suc j)).stage i

  abbrev then_next : ℕ
  then_next = (track x is (suc j)).next

  abbrev Path : ℕ → Type 0
  Path i = OnPath x is j i

  abbrev PathThen : ℕ → Type 0
  PathThen i = OnPath x is (suc j) i

  abbrev none : Type 0
  none = (control x is j).taken ≡ None

  -- The transfer's stage.

  abbrev before_branch : ℕ
  before_branch = x.design.branch - 1

  last : suc before_branch ≡ x.design.branch
  last = let low = branch_low x.design is.clean in omega arith

  branch_deep : (t : ℕ) → t < next → here t ≡ x.design.branch → Deep x is j t
  branch_deep t inside at = (inside, omega arith)

  -- what the flight in it takes, the partner's instruction takes
  branch_takes : (f : Flight) → IsFiring x.design (state x is j) (control x is j) x.design.branch f → target x is f.number ≡ (flight_effect x.design x.cards (inputs x is j) (state x is j) x.design.branch f).target
  branch_takes f firing =
      let flight = (run x is j).tracked.flights x.design.branch f firing.low firing.high firing.is in
      let deep = branch_deep f.number flight.number flight.stage in
      let deep_then = deep_next x.design x.cards x.image x.trace is.clean (is_frame x is) is.fits j f.number deep in
      let same = fires_as_partner x is j less meets before_branch f (subst (λ q. IsFiring x.design (state x is j) (control x is j) q f) (sym last) firing) (deep_on_path x is j f.number deep) (deep_agrees x is (suc j) f.number (omega arith) deep_then) in
      target_is x.design x.cards x.image (samples x is) is.clean is.runs f.number before_branch last
      ∙ ap (λ (d : StageEffect). d.target) (sym same)
      ∙ ap (λ q. (flight_effect x.design x.cards (inputs x is j) (state x is j) q f).target) last

  -- where none is taken, the number in it takes none, if it goes on
  pub branch_none : none → (t : ℕ) → t < next → here t ≡ x.design.branch → (control x is j).held x.design.branch ≡ false → target x is t ≡ None
  branch_none quiet t inside at free =
      let high = branch_high x.design is.clean in
      let low = branch_low x.design is.clean in
      let f = (run x is j).tracked.numbers t inside (omega arith) in
      let flight_there : flight_at (state x is j) x.design.branch ≡ Some f.flight = ap (flight_at (state x is j)) (sym at) ∙ f.is in
      let unkilled : is_killed x.design (control x is j) x.design.branch ≡ false = ap (λ o. is_some o && nat_lt x.design.slots (x.design.branch - x.design.branch)) quiet in
      let firing : IsFiring x.design (state x is j) (control x is j) x.design.branch f.flight = record { low = low; high = high; is = flight_there; free = free; left = unkilled } in
      ap (target x is) (sym f.number) ∙ branch_takes f.flight firing ∙ untaken x.design x.cards x.image x.trace is.clean (is_frame x is) is.fits j f.flight quiet free flight_there

  -- The transfer that is taken.

  module _ (to : ℕ) (some : (control x is j).taken ≡ Some to) where
    abbrev pub taker : Flight
    taker = ((decides x.design x.cards x.image x.trace is.clean (is_frame x is) is.fits j).taken to some).flight

    abbrev pub t : ℕ
    t = taker.number

    pub taken : Takes (frame x is) (control x is j).held (track x is j) (track x is (suc j)) t to
    taken = takes_at x.design x.cards x.image x.trace is.clean (is_frame x is) is.fits j to some

    pub taker_target : target x is t ≡ Some to
    taker_target =
        let by = (decides x.design x.cards x.image x.trace is.clean (is_frame x is) is.fits j).taken to some in
        let low = branch_low x.design is.clean in
        let high = branch_high x.design is.clean in
        let unkilled : is_killed x.design (control x is j) x.design.branch ≡ false =
        ap (λ o. is_some o && nat_lt x.design.slots (x.design.branch - x.design.branch)) some ∙ le-ltb x.design.slots (x.design.branch - x.design.branch) (omega arith) in
        branch_takes taker (record { low = low; high = high; is = by.is; free = by.free; left = unkilled }) ∙ by.target

    -- all that is older than it has passed the stage
    pub older_past : (i : ℕ) → i < t → x.design.branch < here i
    older_past i older =
        let at = taken.there in
        let inside = taken.number in
        let high = branch_high x.design is.clean in
        by_case (cases_lt (here i) x.design.stages)
      where
        by_case : (here i < x.design.stages) ⊎ (x.design.stages ≤ here i) → x.design.branch < here i
        by_case (inl h) =
            let at = taken.there in
            let inside = taken.number in
            let order = (run x is j).track.rise i t older (omega arith) h in
            omega arith
        by_case (inr h) = let high = branch_high x.design is.clean in omega arith

    -- what is younger hasn't
    pub younger_low : (i : ℕ) → t < i → i ≤ next → here i < x.design.branch
    younger_low i younger le =
        let at = taken.there in
        let high = branch_high x.design is.clean in
        let order = (run x is j).track.rise t i younger le (omega arith) in
        omega arith

    pub slots_on_path : (i : ℕ) → i ≤ t + x.design.slots → Path i
    slots_on_path i le u before low = let past = older_past u (omega arith) in absurd (omega arith)

    -- it goes to a landing
    pub landing : Contains x.landings to
    landing =
        let low = branch_low x.design is.clean in
        let at = taken.there in
        let inside = taken.number in
        let deep = branch_deep t inside at in
        let deep_then = deep_next x.design x.cards x.image x.trace is.clean (is_frame x is) is.fits j t deep in
        let high = branch_high x.design is.clean in
        let moved : there t ≡ suc (here t) = (turn x is j).moves t deep_then.0 (omega arith) (ap (control x is j).held at ∙ ((decides x.design x.cards x.image x.trace is.clean (is_frame x is) is.fits j).taken to some).free) in
        let sum : suc j + (x.c - suc j) ≡ x.c = omega arith in
        let up = stage_later x.design x.cards x.image x.trace is.clean (is_frame x is) is.fits (x.c - suc j) (suc j) t deep_then in
        let end : (track x is (suc j + (x.c - suc j))).stage t ≡ (track x is x.c).stage t = ap (λ k. (track x is k).stage t) sum in
        let passed : has t x.design.branch (state x is x.c).passes ≡ true = (run x is x.c).passed.all t x.design.branch low (omega arith) in
        any_contains x.landings to
        (any_gives (is_pass t x.design.branch) (LandsAt x is) (list_any (λ l. l == to) x.landings ≡ true) gives (state x is x.c).passes is.lands passed)
      where
        gives : (p : Pass) → is_pass t x.design.branch p ≡ true → LandsAt x is p → list_any (λ l. l == to) x.landings ≡ true
        gives p passes lands =
            let parts = and_parts (p.number == t) (p.stage == x.design.branch) passes in
            let took : taken_by x.design x.cards x.image (samples x is) p.number ≡ Some to =
            ap (taken_by x.design x.cards x.image (samples x is)) (eqb-true p.number t parts.0) ∙ taken_is x.design x.cards x.image (samples x is) t ∙ taker_target in
            subst (λ o. IfSome o (λ to. IsTrue (list_any (λ l. l == to) x.landings))) took (lands (eqb-true p.stage x.design.branch parts.1))

  -- What is on the path after the cycle was on it before.

  pub path_before : (i : ℕ) → i ≤ then_next → (i < then_next) ⊎ none → PathThen i → Path i
  path_before i le either on u before low = by_taken (control x is j).taken refl
    where
      grown : u < then_next → here u ≤ there u
      grown h = stage_grows (frame x is) (control x is j).held (track x is j) (track x is (suc j)) (turn x is j) u h

      inside_of : (u < next) ⊎ (next ≤ u) → 1 ≤ here u → u < next
      inside_of (inl h) some = h
      inside_of (inr h) some = let zero_there = (run x is j).track.ahead u h in absurd (omega arith)

      quiet_case : none → (there u ≤ x.design.branch) ⊎ (x.design.branch < there u) → target x is u ≡ None
      quiet_case quiet (inl h) = on u before h
      quiet_case quiet (inr h) = by_hold (cases_Bool ((control x is j).held (here u)))
        where
          high : x.design.branch < x.design.stages
          high = branch_high x.design is.clean

          by_hold : ((control x is j).held (here u) ≡ true) ⊎ ((control x is j).held (here u) ≡ false) → target x is u ≡ None
          by_hold (inl held) = let bound = high in let same = (turn x is j).stays u (omega arith) (omega arith) held in absurd (omega arith)
          by_hold (inr free) =
              let bound = high in
              let first = branch_low x.design is.clean in
              let same = (turn x is j).moves u (omega arith) (omega arith) free in
              let at : here u ≡ x.design.branch = omega arith in
              branch_none quiet u (inside_of (cases_lt u next) (omega arith)) at (ap (control x is j).held (sym at) ∙ free)

      by_taken : (o : Option ℕ) → (control x is j).taken ≡ o → target x is u ≡ None
      by_taken None quiet = quiet_case quiet (by_stage (cases_lt x.design.branch (there u)))
        where
          by_stage : (x.design.branch < there u) ⊎ (there u ≤ x.design.branch) → (there u ≤ x.design.branch) ⊎ (x.design.branch < there u)
          by_stage (inl h) = inr h
          by_stage (inr h) = inl h
      by_taken (Some to) some = by_either either
        where
          by_either : (i < then_next) ⊎ none → target x is u ≡ None
          by_either (inl h) =
              let end = (taken to some).next in
              let past = older_past to some u (omega arith) in
              absurd (omega arith)
          by_either (inr quiet) = let never : None ≡ Some to = sym quiet ∙ some in absurd cc
