-- Words in flight are far enough apart for their distances: through straight code, and across a transfer that was taken, with the drain at
-- its landing.
use Rattle.std.proofs.Common.{◌≡◌, ℕ, suc, ◌+◌, ◌-◌, ◌≤◌, ◌<◌, ◌%◌, Bool, true, false, ◌⊎◌, inl, inr, refl, sym, ap, ◌∙◌, subst, arith}
use Rattle.std.proofs.lemmas.Bool.{cases_Bool, cases_lt, cases_order, both_ways}
use Rattle.std.proofs.Math.Nat.{add-mod-mod, mod-eq_of_lt}
use Rattle.ap_space.proofs.Tracks.{Fetches, Frame, IsFrame, IsTrack, IsTurn, Kind, Takes, Track, Waits}
use Rattle.ap_space.proofs.Tracks.Kind.{fetches, takes, waits}

-- by places: the distance of two words, the greatest distance of any word from one, the landings, and the drain
pub record Spacing : Type 1 where
  pub gap : ℕ → ℕ → ℕ
  pub reach : ℕ → ℕ
  pub Landing : ℕ → Type 0
  pub drain : ℕ

pub record IsSpacing (frame : Frame) (spacing : Spacing) : Type 0 where
  pub apart : (p d : ℕ) → 1 ≤ d → d < frame.stages → spacing.gap p ((p + d) % frame.places) ≤ d
  pub idle : (p l m : ℕ) → spacing.Landing l → m < spacing.drain → spacing.gap p ((l + m) % frame.places) ≤ 1
  pub quiet : (l m : ℕ) → spacing.Landing l → m < spacing.drain → frame.transfers ((l + m) % frame.places) ≡ false
  pub most : (p q : ℕ) → spacing.gap p q ≤ spacing.reach p
  pub before : (p m : ℕ) → frame.transfers ((p + m) % frame.places) ≡ true → m ≤ frame.stages → spacing.reach p ≤ frame.branch + 1 + spacing.drain + m
  pub within : (p j : ℕ) → frame.transfers p ≡ true → 1 ≤ j → j ≤ frame.slots → spacing.reach ((p + j) % frame.places) + j ≤ frame.branch + 1 + spacing.drain

-- The younger of two words stands straight behind the older one, or so many places behind a landing; then the older one is so far ahead that
-- no word is too near to it once the drain is over.
pub data Gap (frame : Frame) (spacing : Spacing) (track : Track) (i j : ℕ) : Type 0 where
  straight : (d : ℕ) → i + d ≡ j → track.place j ≡ (track.place i + d) % frame.places → Gap frame spacing track i j
  broken : (l m : ℕ) → spacing.Landing l → track.place j ≡ (l + m) % frame.places → track.stage j + spacing.reach (track.place i) + m ≤ track.stage i + spacing.drain → Gap frame spacing track i j

abbrev pub HasGaps : Frame → Spacing → Track → Type 0
HasGaps frame spacing track = (i j : ℕ) → i < j → j ≤ track.next → track.stage i < frame.stages → Gap frame spacing track i j

-- the kinds of cycles, where a transfer that is taken goes to a landing
pub data Landed (frame : Frame) (spacing : Spacing) (hold : ℕ → Bool) (old new : Track) : Type 0 where
  lands_waiting : Waits frame hold old new → Landed frame spacing hold old new
  lands_fetching : Fetches frame hold old new → Landed frame spacing hold old new
  lands_taking : (t target : ℕ) → Takes frame hold old new t target → spacing.Landing target → Landed frame spacing hold old new

module _ (frame : Frame) (is_frame : IsFrame frame) (spacing : Spacing) (is_spacing : IsSpacing frame spacing) where
  -- two words in flight are as many stages apart as their distance says
  pub far_apart : (track : Track) → IsTrack frame track → HasGaps frame spacing track
      → (i j : ℕ) → i < j → j ≤ track.next → track.stage i < frame.stages → track.stage j + spacing.gap (track.place i) (track.place j) ≤ track.stage i
  far_apart track is_track gaps i j less le in_flight = by_gap (gaps i j less le in_flight)
    where
      before : track.stage j + j ≤ track.stage i + i
      before = is_track.rise i j less le in_flight

      by_gap : Gap frame spacing track i j → track.stage j + spacing.gap (track.place i) (track.place j) ≤ track.stage i
      by_gap (straight d sum at) =
          let order = before in
          let far : spacing.gap (track.place i) ((track.place i + d) % frame.places) ≤ d = is_spacing.apart (track.place i) d (omega arith) (omega arith) in
          let here : spacing.gap (track.place i) (track.place j) ≤ d = subst (λ q. spacing.gap (track.place i) q ≤ d) (sym at) far in
          omega arith
      by_gap (broken l m lands at wide) = by_drain (cases_lt m spacing.drain)
        where
          by_drain : (m < spacing.drain) ⊎ (spacing.drain ≤ m) → track.stage j + spacing.gap (track.place i) (track.place j) ≤ track.stage i
          by_drain (inl h) =
              let order = before in
              let here : spacing.gap (track.place i) (track.place j) ≤ 1 = subst (λ q. spacing.gap (track.place i) q ≤ 1) (sym at) (is_spacing.idle (track.place i) l m lands h) in
              omega arith
          by_drain (inr h) = let most = is_spacing.most (track.place i) (track.place j) in omega arith

  -- A cycle keeps the gaps.
  module _ (hold : ℕ → Bool) (old new : Track) (track : IsTrack frame old) (turn : IsTurn frame hold old new) (gaps : HasGaps frame spacing old)
      (kind : Landed frame spacing hold old new) where
    was : (i : ℕ) → i < new.next → new.stage i < frame.stages → old.stage i < frame.stages
    was i lt in_flight = by_case (cases_lt (old.stage i) frame.stages)
      where
        by_case : (old.stage i < frame.stages) ⊎ (frame.stages ≤ old.stage i) → old.stage i < frame.stages
        by_case (inl h) = h
        by_case (inr h) = let e = turn.gone i lt h in absurd (omega arith)

    free : hold 0 ≡ false → (stage : ℕ) → hold stage ≡ false
    free none stage = by_case (hold stage) refl
      where
        by_case : (b : Bool) → hold stage ≡ b → hold stage ≡ false
        by_case true e = absurd (both_ways (hold 0) none (turn.holds.below stage 0 (omega arith) e))
        by_case false e = e

    moved : hold 0 ≡ false → (i : ℕ) → i < new.next → new.stage i < frame.stages → new.stage i ≡ suc (old.stage i)
    moved none i lt in_flight = turn.moves i lt (was i lt in_flight) (free none (old.stage i))

    -- the older one gains, or both stay
    gains : (i j : ℕ) → i < new.next → j < new.next → new.stage i < frame.stages → old.stage j < old.stage i → new.stage j + old.stage i ≤ new.stage i + old.stage j
    gains i j one two in_flight less = by_case (cases_Bool (hold (old.stage i))) (cases_Bool (hold (old.stage j)))
      where
        older : old.stage i < frame.stages
        older = was i one in_flight

        by_case : (hold (old.stage i) ≡ true) ⊎ (hold (old.stage i) ≡ false) → (hold (old.stage j) ≡ true) ⊎ (hold (old.stage j) ≡ false) → new.stage j + old.stage i ≤ new.stage i + old.stage j
        by_case (inl h) (inl g) = let a = older in let x = turn.stays i one a h in let y = turn.stays j two (omega arith) g in omega arith
        by_case (inl h) (inr g) = absurd (both_ways (hold (old.stage j)) g (turn.holds.below (old.stage i) (old.stage j) (omega arith) h))
        by_case (inr h) (inl g) = let a = older in let x = turn.moves i one a h in let y = turn.stays j two (omega arith) g in omega arith
        by_case (inr h) (inr g) = let a = older in let x = turn.moves i one a h in let y = turn.moves j two (omega arith) g in omega arith

    never_falls : (i : ℕ) → i < new.next → new.stage i < frame.stages → old.stage i ≤ new.stage i
    never_falls i lt in_flight = by_case (cases_Bool (hold (old.stage i)))
      where
        by_case : (hold (old.stage i) ≡ true) ⊎ (hold (old.stage i) ≡ false) → old.stage i ≤ new.stage i
        by_case (inl h) = let x = turn.stays i lt (was i lt in_flight) h in omega arith
        by_case (inr h) = let x = turn.moves i lt (was i lt in_flight) h in omega arith

    room : new.next ≤ suc old.next
    room = by_kind turn.kind
      where
        by_kind : Kind frame hold old new → new.next ≤ suc old.next
        by_kind (waits w) = let e = w.next in omega arith
        by_kind (fetches f) = let e = f.next in omega arith
        by_kind (takes t target k) = k.room

    gap_inside : (i j : ℕ) → i < j → j < new.next → new.stage i < frame.stages → Gap frame spacing new i j
    gap_inside i j less lt in_flight = let most = room in by_gap (gaps i j less (omega arith) (was i (omega arith) in_flight))
      where
        by_gap : Gap frame spacing old i j → Gap frame spacing new i j
        by_gap (straight d sum at) = straight d sum (turn.places j lt ∙ at ∙ ap (λ p. (p + d) % frame.places) (sym (turn.places i (omega arith))))
        by_gap (broken l m lands at wide) =
            let most = room in
            let order = track.rise i j less (omega arith) (was i (omega arith) in_flight) in
            let more = gains i j (omega arith) lt in_flight (omega arith) in
            let same : spacing.reach (new.place i) ≡ spacing.reach (old.place i) = ap spacing.reach (turn.places i (omega arith)) in
            broken l m lands (turn.places j lt ∙ at) (omega arith)

    gap_waits : (w : Waits frame hold old new) (i : ℕ) → i < new.next → new.stage i < frame.stages → Gap frame spacing new i new.next
    gap_waits w i lt in_flight = let end = w.next in by_gap (gaps i old.next (omega arith) (omega arith) (was i lt in_flight))
      where
        by_gap : Gap frame spacing old i old.next → Gap frame spacing new i new.next
        by_gap (straight d sum at) = let end = w.next in straight d (omega arith) (w.place ∙ at ∙ ap (λ p. (p + d) % frame.places) (sym (turn.places i lt)))
        by_gap (broken l m lands at wide) =
            let none = turn.killed new.next (omega arith) in
            let up = never_falls i lt in_flight in
            let same : spacing.reach (new.place i) ≡ spacing.reach (old.place i) = ap spacing.reach (turn.places i lt) in
            broken l m lands (w.place ∙ at) (omega arith)

    one_more : (p d : ℕ) → ((p + d) % frame.places + 1) % frame.places ≡ (p + suc d) % frame.places
    one_more p d =
        let turned : (p + d) % frame.places + 1 ≡ 1 + (p + d) % frame.places = omega arith in
        let sum : 1 + (p + d) ≡ p + suc d = omega arith in
        ap (λ x. x % frame.places) turned ∙ add-mod-mod 1 (p + d) frame.places ∙ ap (λ x. x % frame.places) sum

    gap_fetches : (f : Fetches frame hold old new) (i : ℕ) → i < new.next → new.stage i < frame.stages → Gap frame spacing new i new.next
    gap_fetches f i lt in_flight = by_case (cases_lt i old.next)
      where
        by_gap : i < old.next → Gap frame spacing old i old.next → Gap frame spacing new i new.next
        by_gap less (straight d sum at) =
            let end = f.next in
            straight (suc d) (omega arith) (f.place ∙ ap (λ p. (p + 1) % frame.places) at ∙ one_more (old.place i) d ∙ ap (λ p. (p + suc d) % frame.places) (sym (turn.places i lt)))
        by_gap less (broken l m lands at wide) =
            let none = turn.killed new.next (omega arith) in
            let up = moved f.free i lt in_flight in
            let same : spacing.reach (new.place i) ≡ spacing.reach (old.place i) = ap spacing.reach (turn.places i lt) in
            broken l (suc m) lands (f.place ∙ ap (λ p. (p + 1) % frame.places) at ∙ one_more l m) (omega arith)

        by_case : (i < old.next) ⊎ (old.next ≤ i) → Gap frame spacing new i new.next
        by_case (inl less) = by_gap less (gaps i old.next less (omega arith) (was i lt in_flight))
        by_case (inr most) =
            let end = f.next in
            let same : old.next ≡ i = omega arith in
            straight 1 (omega arith) (f.place ∙ ap (λ x. (old.place x + 1) % frame.places) same ∙ ap (λ p. (p + 1) % frame.places) (sym (turn.places i lt)))

    -- across a transfer that is taken: the drain makes up for what is missing
    module _ (t target : ℕ) (taken : Takes frame hold old new t target) (landing : spacing.Landing target) where
      across : (i : ℕ) → i < new.next → new.stage i < frame.stages → spacing.reach (old.place i) ≤ old.stage i + 1 + spacing.drain
      across i lt in_flight = by_order (cases_order i t)
        where
          small : (p : ℕ) → p < frame.places → (p + 0) % frame.places ≡ p
          small p h = let e : p + 0 ≡ p = omega arith in ap (λ x. x % frame.places) e ∙ mod-eq_of_lt h

          by_gap : i < t → Gap frame spacing old i t → spacing.reach (old.place i) ≤ old.stage i + 1 + spacing.drain
          by_gap less (straight d sum at) =
              let there = taken.there in
              let high = was i lt in_flight in
              let number = taken.number in
              let order = track.rise i t less (omega arith) high in
              let most = is_spacing.before (old.place i) d (ap frame.transfers (sym at) ∙ taken.transfers) (omega arith) in
              omega arith
          by_gap less (broken l m lands at wide) = by_drain (cases_lt m spacing.drain)
            where
              by_drain : (m < spacing.drain) ⊎ (spacing.drain ≤ m) → spacing.reach (old.place i) ≤ old.stage i + 1 + spacing.drain
              by_drain (inl h) = absurd (both_ways (frame.transfers ((l + m) % frame.places)) (is_spacing.quiet l m lands h) (ap frame.transfers (sym at) ∙ taken.transfers))
              by_drain (inr h) = omega arith

          by_order : (i ≡ t) ⊎ ((i < t) ⊎ (t < i)) → spacing.reach (old.place i) ≤ old.stage i + 1 + spacing.drain
          by_order (inl same) =
              let there : old.stage i ≡ frame.branch = ap old.stage same ∙ taken.there in
              let number = taken.number in
              let inside = track.within i (omega arith) in
              let most = is_spacing.before (old.place i) 0 (ap frame.transfers (small (old.place i) inside ∙ ap old.place same) ∙ taken.transfers) (omega arith) in
              omega arith
          by_order (inr (inl less)) = let number = taken.number in by_gap less (gaps i t less (omega arith) (was i lt in_flight))
          by_order (inr (inr less)) =
              let there = taken.there in
              let few = is_frame.few in
              let end = taken.next in
              let sum : t + (i - t) ≡ i = omega arith in
              let slot = track.slots t (i - t) taken.number (omega arith) taken.transfers (omega arith) (omega arith) (omega arith) in
              let equal = slot.1 in
              let stage : old.stage (t + (i - t)) ≡ old.stage i = ap old.stage sum in
              let place : old.place i ≡ (old.place t + (i - t)) % frame.places = ap old.place (sym sum) ∙ slot.2 in
              let most = is_spacing.within (old.place t) (i - t) taken.transfers (omega arith) (omega arith) in
              let same : spacing.reach (old.place i) ≡ spacing.reach ((old.place t + (i - t)) % frame.places) = ap spacing.reach place in
              omega arith

      gap_takes : (i : ℕ) → i < new.next → new.stage i < frame.stages → Gap frame spacing new i new.next
      gap_takes i lt in_flight =
          let none = turn.killed new.next (omega arith) in
          let up = moved taken.free i lt in_flight in
          let wide = across i lt in_flight in
          let same : spacing.reach (new.place i) ≡ spacing.reach (old.place i) = ap spacing.reach (turn.places i lt) in
          let sum : target + 0 ≡ target = omega arith in
          let at : target ≡ (target + 0) % frame.places = sym (ap (λ x. x % frame.places) sum ∙ mod-eq_of_lt taken.fits) in
          broken target 0 landing (taken.place ∙ at) (omega arith)

    gap_next : (i : ℕ) → i < new.next → new.stage i < frame.stages → Gap frame spacing new i new.next
    gap_next i lt in_flight = by_kind kind
      where
        by_kind : Landed frame spacing hold old new → Gap frame spacing new i new.next
        by_kind (lands_waiting w) = gap_waits w i lt in_flight
        by_kind (lands_fetching f) = gap_fetches f i lt in_flight
        by_kind (lands_taking t target k landing) = gap_takes t target k landing i lt in_flight

    pub turn_gaps : HasGaps frame spacing new
    turn_gaps i j less le in_flight = by_case (cases_lt j new.next)
      where
        by_case : (j < new.next) ⊎ (new.next ≤ j) → Gap frame spacing new i j
        by_case (inl lt) = gap_inside i j less lt in_flight
        by_case (inr ge) = let same : new.next ≡ j = omega arith in subst (Gap frame spacing new i) same (gap_next i (omega arith) in_flight)
