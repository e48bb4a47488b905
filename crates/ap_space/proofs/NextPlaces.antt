-- After a cycle the places, the transfers that are over, the locals and the gaps are again as the partner has them.
use Rattle.std.proofs.Common.{◌≡◌, ℕ, suc, ◌+◌, ◌≤◌, ◌<◌, ◌%◌, ◌^◌, Bool, true, false, Option, Some, None, ◌⊎◌, inl, inr, refl, sym, ap, ◌∙◌, subst, arith}
use Rattle.std.proofs.lemmas.Bool.{cases_Bool, cases_lt}
use Rattle.ap_dist.specs.Spaced.{is_transfer_word, word_at}
use Rattle.ap_model.specs.declared.sequence.Progress.{Progress}
use Rattle.ap_model.specs.Sequence.{pc_after, pending_after}
use Rattle.ap_space.proofs.Fired.{branch_high, branch_low}
use Rattle.ap_space.proofs.Gaps.{HasGaps, Landed, lands_fetching, lands_taking, lands_waiting, turn_gaps}
use Rattle.ap_space.proofs.Meets.{IsSetting, Meets, OnPath, Setting, control, frame, is_frame, path_down, pc, run, samples, target, track, turn, word_is}
use Rattle.ap_space.proofs.Partner.{target_transfers}
use Rattle.ap_space.proofs.Parts.{at_number, first_number, next_number}
use Rattle.ap_space.proofs.PathSteps.{branch_none, landing, path_before, slots_on_path, taken, taker_target, younger_low}
use Rattle.ap_space.proofs.Paths.{goes_straight, goes_to_target}
use Rattle.ap_space.proofs.Runs.{decides, fetches_at, waits_at}
use Rattle.ap_space.proofs.Spacings.{spacing_is, spacing_of}
use Rattle.ap_space.proofs.Tracks.{Fetches, Takes}

module _ (x : Setting) (is : IsSetting x) (j : ℕ) (less : j < x.c) (meets : Meets x is j) where
  abbrev here : ℕ → ℕ
  here i = (track x is j).stage i

  abbrev next : ℕ
  next = (track x is j).next

  abbrev there : ℕ → ℕ
  there i = (track x is (suc j)).stage i

  abbrev then_next : ℕ
  then_next = (track x is (suc j)).next

  abbrev none : Type 0
  none = (control x is j).taken ≡ None

  -- the partner's places
  goes : (i : ℕ) → pc x is (suc i) ≡ (pc_after x.design (pc x is i) (pending_after x.design (target x is i) (at_number x.design x.cards x.image (samples x is) i).pending)).0
  goes i = ap (λ (p : Progress). p.pc) (next_number x.design x.cards x.image (samples x is) i)

  waits : (i : ℕ) → (at_number x.design x.cards x.image (samples x is) (suc i)).pending ≡ (pc_after x.design (pc x is i) (pending_after x.design (target x is i) (at_number x.design x.cards x.image (samples x is) i).pending)).1
  waits i = ap (λ (p : Progress). p.pending) (next_number x.design x.cards x.image (samples x is) i)

  none_first : (at_number x.design x.cards x.image (samples x is) 0).pending ≡ None
  none_first = ap (λ (p : Progress). p.pending) (first_number x.design x.cards x.image (samples x is))

  transfer_at : (limit : ℕ) → limit ≤ next → ((i : ℕ) → i ≤ limit → OnPath x is j i) → (i to : ℕ) → i ≤ limit → target x is i ≡ Some to → is_transfer_word x.design (word_at x.design x.image (pc x is i)) ≡ true
  transfer_at limit le on i to low took =
      let path = on i low in
      ap (λ p. is_transfer_word x.design (word_at x.design x.image p)) (sym (meets.places i (omega arith) path))
      ∙ ap (is_transfer_word x.design) (word_is x is j meets i (omega arith) path)
      ∙ target_transfers x.design x.cards x.image (samples x is) is.clean is.runs i to took

  straight : (i : ℕ) → ((t : ℕ) → t + x.design.slots ≡ i → target x is t ≡ None) → pc x is (suc i) ≡ (pc x is i + 1) % 2 ^ x.design.address
  straight =
      goes_straight x.design (λ p. is_transfer_word x.design (word_at x.design x.image p)) (is_frame x is).quiet (pc x is) (λ i. (at_number x.design x.cards x.image (samples x is) i).pending) (target x is) goes waits 0
      (transfer_at 0 (omega arith) (λ i low u before under. absurd (omega arith))) none_first

  -- where none is taken, a number that leaves the transfer's stage took none
  past_none : none → (t : ℕ) → t < next → here t ≤ x.design.branch → x.design.branch < there t → target x is t ≡ None
  past_none quiet t inside low past = by_hold (cases_lt t then_next)
    where
      high : x.design.branch < x.design.stages
      high = branch_high x.design is.clean

      by_case : t < then_next → ((control x is j).held (here t) ≡ true) ⊎ ((control x is j).held (here t) ≡ false) → target x is t ≡ None
      by_case left (inl held) = let bound = high in let same = (turn x is j).stays t left (omega arith) held in absurd (omega arith)
      by_case left (inr free) =
          let bound = high in
          let same = (turn x is j).moves t left (omega arith) free in
          let at : here t ≡ x.design.branch = omega arith in
          branch_none x is j less meets quiet t inside at (ap (control x is j).held (sym at) ∙ free)

      by_hold : (t < then_next) ⊎ (then_next ≤ t) → target x is t ≡ None
      by_hold (inl h) = by_case h (cases_Bool ((control x is j).held (here t)))
      by_hold (inr h) = let gone = (turn x is j).killed t h in absurd (omega arith)

  -- The next place.

  abbrev Placed : ℕ → Type 0
  Placed i = (track x is (suc j)).place i ≡ pc x is i

  next_waits : none → (control x is j).held 0 ≡ true → OnPath x is (suc j) then_next → Placed then_next
  next_waits quiet held on =
      let w = waits_at x.design x.cards x.image x.trace is.clean (is_frame x is) is.fits j quiet held in
      let before = path_before x is j less meets then_next (omega arith) (inr quiet) on in
      w.place ∙ meets.places next (omega arith) (subst (OnPath x is j) w.next before) ∙ ap (pc x is) (sym w.next)

  next_fetches : none → (control x is j).held 0 ≡ false → OnPath x is (suc j) then_next → Placed then_next
  next_fetches quiet free on =
      let f = fetches_at x.design x.cards x.image x.trace is.clean (is_frame x is) is.fits j quiet free in
      let end = f.next in
      let before = path_before x is j less meets then_next (omega arith) (inr quiet) on in
      let path : OnPath x is j next = path_down x is j then_next next (omega arith) before in
      f.place ∙ ap (λ p. (p + 1) % 2 ^ x.design.address) (meets.places next (omega arith) path)
      ∙ sym (straight next untaken_last) ∙ ap (pc x is) (sym f.next)
    where
      untaken_last : (t : ℕ) → t + x.design.slots ≡ next → target x is t ≡ None
      untaken_last t sum = by_then (cases_lt x.design.branch (there t)) (cases_lt x.design.branch (here t))
        where
          f : Fetches (frame x is) (control x is j).held (track x is j) (track x is (suc j))
          f = fetches_at x.design x.cards x.image x.trace is.clean (is_frame x is) is.fits j quiet free

          inside : 1 ≤ here t → t < next
          inside some = by_next (cases_lt t next)
            where
              by_next : (t < next) ⊎ (next ≤ t) → t < next
              by_next (inl h) = h
              by_next (inr h) = let zero_there = (run x is j).track.ahead t h in absurd (omega arith)

          settled : (target x is t ≡ None) ⊎ (t + x.design.slots < next) → target x is t ≡ None
          settled (inl e) = e
          settled (inr h) = absurd (omega arith)

          by_then : (x.design.branch < there t) ⊎ (there t ≤ x.design.branch) → (x.design.branch < here t) ⊎ (here t ≤ x.design.branch) → target x is t ≡ None
          by_then (inr low) other = let end = f.next in on t (omega arith) low
          by_then (inl past) (inl over) = settled (meets.settled t (inside (omega arith)) over)
          by_then (inl past) (inr low) = by_zero (cases_lt 0 (here t))
            where
              by_zero : (0 < here t) ⊎ (here t ≤ 0) → target x is t ≡ None
              by_zero (inl some) = past_none quiet t (inside some) low past
              by_zero (inr zero_here) =
                  let first = branch_low x.design is.clean in
                  let high = branch_high x.design is.clean in
                  let nothing : here t ≡ 0 = omega arith in
                  let end = f.next in
                  let moved = (turn x is j).moves t (omega arith) (omega arith) (ap (control x is j).held nothing ∙ free) in
                  absurd (omega arith)

  next_takes : (to : ℕ) → (control x is j).taken ≡ Some to → Placed then_next
  next_takes to some =
      let k = taken x is j less meets to some in
      let room = k.room in
      let end = k.next in
      let t = (((decides x.design x.cards x.image x.trace is.clean (is_frame x is) is.fits j).taken to some).flight).number in
      k.place
      ∙ sym (goes_to_target x.design (λ p. is_transfer_word x.design (word_at x.design x.image p)) (is_frame x is).quiet (pc x is) (λ i. (at_number x.design x.cards x.image (samples x is) i).pending) (target x is) goes waits (t + x.design.slots)
      (transfer_at (t + x.design.slots) (omega arith) (slots_on_path x is j less meets to some)) none_first t to (taker_target x is j less meets to some) (omega arith))
      ∙ ap (pc x is) (sym k.next)

  pub places_then : (i : ℕ) → i ≤ then_next → OnPath x is (suc j) i → Placed i
  places_then i le on = by_next (cases_lt i then_next)
    where
      by_taken : (o : Option ℕ) → (control x is j).taken ≡ o → (h : Bool) → (control x is j).held 0 ≡ h → OnPath x is (suc j) then_next → Placed then_next
      by_taken None quiet true held path = next_waits quiet held path
      by_taken None quiet false free path = next_fetches quiet free path
      by_taken (Some to) some h e path = next_takes to some

      room : then_next ≤ suc next
      room = by_kind (control x is j).taken refl ((control x is j).held 0) refl
        where
          by_kind : (o : Option ℕ) → (control x is j).taken ≡ o → (h : Bool) → (control x is j).held 0 ≡ h → then_next ≤ suc next
          by_kind None quiet true held = let e = (waits_at x.design x.cards x.image x.trace is.clean (is_frame x is) is.fits j quiet held).next in omega arith
          by_kind None quiet false free = let e = (fetches_at x.design x.cards x.image x.trace is.clean (is_frame x is) is.fits j quiet free).next in omega arith
          by_kind (Some to) some h e = (taken x is j less meets to some).room

      by_next : (i < then_next) ⊎ (then_next ≤ i) → Placed i
      by_next (inl h) = let most = room in (turn x is j).places i h ∙ meets.places i (omega arith) (path_before x is j less meets i (omega arith) (inl h) on)
      by_next (inr h) =
          let same : then_next ≡ i = omega arith in
          subst Placed same (by_taken (control x is j).taken refl ((control x is j).held 0) refl (subst (OnPath x is (suc j)) (sym same) on))

  -- Transfers that are over.

  pub settled_then : (t : ℕ) → t < then_next → x.design.branch < there t → (target x is t ≡ None) ⊎ (t + x.design.slots < then_next)
  settled_then t left past = by_taken (control x is j).taken refl
    where
      inside : 1 ≤ here t → t < next
      inside some = by_next (cases_lt t next)
        where
          by_next : (t < next) ⊎ (next ≤ t) → t < next
          by_next (inl h) = h
          by_next (inr h) = let zero_there = (run x is j).track.ahead t h in absurd (omega arith)

      grows : none → next ≤ then_next
      grows quiet = by_held ((control x is j).held 0) refl
        where
          by_held : (h : Bool) → (control x is j).held 0 ≡ h → next ≤ then_next
          by_held true held = let e = (waits_at x.design x.cards x.image x.trace is.clean (is_frame x is) is.fits j quiet held).next in omega arith
          by_held false free = let e = (fetches_at x.design x.cards x.image x.trace is.clean (is_frame x is) is.fits j quiet free).next in omega arith

      more : none → (target x is t ≡ None) ⊎ (t + x.design.slots < next) → (target x is t ≡ None) ⊎ (t + x.design.slots < then_next)
      more quiet (inl e) = inl e
      more quiet (inr h) = let up = grows quiet in inr (omega arith)

      by_here : none → (x.design.branch < here t) ⊎ (here t ≤ x.design.branch) → (target x is t ≡ None) ⊎ (t + x.design.slots < then_next)
      by_here quiet (inl over) = more quiet (meets.settled t (inside (omega arith)) over)
      by_here quiet (inr low) = by_zero (cases_lt 0 (here t))
        where
          by_zero : (0 < here t) ⊎ (here t ≤ 0) → (target x is t ≡ None) ⊎ (t + x.design.slots < then_next)
          by_zero (inl some) = inl (past_none quiet t (inside some) low past)
          by_zero (inr zero_here) = absurd (never (cases_Bool ((control x is j).held (here t))))
            where
              never : ((control x is j).held (here t) ≡ true) ⊎ ((control x is j).held (here t) ≡ false) → ⊥
              never (inl held) = let high = branch_high x.design is.clean in let same = (turn x is j).stays t left (omega arith) held in omega arith
              never (inr free) = let high = branch_high x.design is.clean in let first = branch_low x.design is.clean in let same = (turn x is j).moves t left (omega arith) free in omega arith

      by_taken : (o : Option ℕ) → (control x is j).taken ≡ o → (target x is t ≡ None) ⊎ (t + x.design.slots < then_next)
      by_taken None quiet = by_here quiet (cases_lt x.design.branch (here t))
      by_taken (Some to) some =
          let k = taken x is j less meets to some in
          let end = k.next in
          by_order (cases_lt number t)
        where
          number : ℕ
          number = (((decides x.design x.cards x.image x.trace is.clean (is_frame x is) is.fits j).taken to some).flight).number

          k : Takes (frame x is) (control x is j).held (track x is j) (track x is (suc j)) number to
          k = taken x is j less meets to some

          by_order : (number < t) ⊎ (t ≤ number) → (target x is t ≡ None) ⊎ (t + x.design.slots < then_next)
          by_order (inr h) = let end = k.next in inr (omega arith)
          by_order (inl h) =
              let room = k.room in
              let low = younger_low x is j less meets to some t h (omega arith) in
              let high = branch_high x.design is.clean in
              absurd (never (cases_Bool ((control x is j).held (here t))))
            where
              never : ((control x is j).held (here t) ≡ true) ⊎ ((control x is j).held (here t) ≡ false) → ⊥
              never (inl held) =
                  let room = k.room in
                  let low = younger_low x is j less meets to some t h (omega arith) in
                  let high = branch_high x.design is.clean in
                  let same = (turn x is j).stays t left (omega arith) held in
                  omega arith
              never (inr free) =
                  let room = k.room in
                  let low = younger_low x is j less meets to some t h (omega arith) in
                  let high = branch_high x.design is.clean in
                  let same = (turn x is j).moves t left (omega arith) free in
                  omega arith

  -- The gaps.

  landed : Landed (frame x is) (spacing_of x.design x.image x.landings x.drain) (control x is j).held (track x is j) (track x is (suc j))
  landed = by_kind (control x is j).taken refl ((control x is j).held 0) refl
    where
      by_kind : (o : Option ℕ) → (control x is j).taken ≡ o → (h : Bool) → (control x is j).held 0 ≡ h → Landed (frame x is) (spacing_of x.design x.image x.landings x.drain) (control x is j).held (track x is j) (track x is (suc j))
      by_kind None quiet true held = lands_waiting (waits_at x.design x.cards x.image x.trace is.clean (is_frame x is) is.fits j quiet held)
      by_kind None quiet false free = lands_fetching (fetches_at x.design x.cards x.image x.trace is.clean (is_frame x is) is.fits j quiet free)
      by_kind (Some to) some h e =
          lands_taking (((decides x.design x.cards x.image x.trace is.clean (is_frame x is) is.fits j).taken to some).flight).number to (taken x is j less meets to some) (landing x is j less meets to some)

  pub gaps_then : HasGaps (frame x is) (spacing_of x.design x.image x.landings x.drain) (track x is (suc j))
  gaps_then =
      turn_gaps (frame x is) (is_frame x is) (spacing_of x.design x.image x.landings x.drain) (spacing_is x.design x.image x.landings x.drain is.clean is.spaced)
      (control x is j).held (track x is j) (track x is (suc j)) (run x is j).track (turn x is j) meets.gaps landed
