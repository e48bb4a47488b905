-- What stands for the rest of a run: numbers that no transfer kills any more, their stages, and their samples.
use Rattle.std.proofs.Common.{◌≡◌, ℕ, zero, suc, ◌+◌, ◌-◌, ◌≤◌, ◌<◌, List, Contains, Some, sym, ap, ◌∙◌, subst, arith}
use Rattle.std.proofs.lemmas.List.Elements.{All-contains, All-from_recursion}
use Rattle.ap_bits.specs.declared.card.Card.{Card}
use Rattle.ap_desc.specs.Clean.{IsClean}
use Rattle.ap_desc.specs.declared.design.Design.{Design}
use Rattle.ap_image.specs.declared.image.Image.{Image}
use Rattle.ap_image.specs.declared.trace.Trace.{Trace}
use Rattle.ap_model.specs.declared.state.Entry.{Entry}
use Rattle.ap_model.specs.declared.state.Sample.{Sample}
use Rattle.ap_model.specs.declared.state.State.{State}
use Rattle.ap_space.proofs.Logged.{IsLogged, logged_deep}
use Rattle.ap_space.proofs.Runs.{TargetsFit, control_at, decides, line_of, next_at, run_at, state_at, state_next, track_at, turn_at}
use Rattle.ap_space.proofs.SampleRuns.{found_stays}
use Rattle.ap_space.proofs.Sampled.{found}
use Rattle.ap_space.proofs.Deep.{IsDeep, deep_stays, stage_grows}
use Rattle.ap_space.proofs.Tracks.{IsFrame, Track}
use Rattle.ap_space.proofs.Turns.{frame_of}

module _ (design : Design) (cards : List Card) (image : Image) (trace : Trace) (clean : IsClean design) (is_frame : IsFrame (frame_of design image)) (fits : TargetsFit design cards image trace) where
  abbrev pub track : ℕ → Track
  track j = track_at design cards image trace j

  abbrev pub state : ℕ → State
  state j = state_at design cards image trace j

  abbrev pub Deep : ℕ → ℕ → Type 0
  Deep j i = IsDeep (frame_of design image) (track j) i

  pub deep_next : (j i : ℕ) → Deep j i → Deep (suc j) i
  deep_next j i deep =
      deep_stays (frame_of design image) (control_at design cards image trace j).held (track j) (track (suc j)) is_frame (run_at design cards image trace clean is_frame fits j).track (turn_at design cards image trace clean is_frame fits j) i deep

  pub deep_later : (r j i : ℕ) → Deep j i → Deep (j + r) i
  deep_later zero j i deep = let same : j ≡ j + 0 = omega arith in subst (λ k. Deep k i) same deep
  deep_later (suc r) j i deep = let more : suc (j + r) ≡ j + suc r = omega arith in subst (λ k. Deep k i) more (deep_next (j + r) i (deep_later r j i deep))

  -- the stage of such a number never falls
  pub stage_later : (r j i : ℕ) → Deep j i → (track j).stage i ≤ (track (j + r)).stage i
  stage_later zero j i deep = let same : j ≡ j + 0 = omega arith in subst (λ k. (track j).stage i ≤ (track k).stage i) same (omega arith)
  stage_later (suc r) j i deep =
      let more : suc (j + r) ≡ j + suc r = omega arith in
      let before = stage_later r j i deep in
      let there = deep_next (j + r) i (deep_later r j i deep) in
      let up = stage_grows (frame_of design image) (control_at design cards image trace (j + r)).held (track (j + r)) (track (suc (j + r))) (turn_at design cards image trace clean is_frame fits (j + r)) i there.0 in
      subst (λ k. (track j).stage i ≤ (track k).stage i) more (omega arith)

  -- a sample of a number that is left stays
  pub found_next : (j i line : ℕ) (s : Sample) → i < (track (suc j)).next → found i line (state j).sampled ≡ Some s → found i line (state (suc j)).sampled ≡ Some s
  found_next j i line s less e =
      let run = run_at design cards image trace clean is_frame fits j in
      let same = next_at design cards image trace clean is_frame fits (suc j) in
      let is = state_next design cards image trace j in
      ap (λ (s : State). found i line s.sampled) is
      ∙ found_stays design cards image (line_of design cards image trace j) (state j) (control_at design cards image trace j) (track j) clean run.tracked run.track (decides design cards image trace clean is_frame fits j) run.sampled i line s
      (subst (λ (s : State). i < s.next) is (subst (λ n. i < n) same less)) e

  pub found_later : (r j i line : ℕ) (s : Sample) → Deep j i → found i line (state j).sampled ≡ Some s → found i line (state (j + r)).sampled ≡ Some s
  found_later zero j i line s deep e = let same : j ≡ j + 0 = omega arith in ap (λ k. found i line (state k).sampled) (sym same) ∙ e
  found_later (suc r) j i line s deep e =
      let more : suc (j + r) ≡ j + suc r = omega arith in
      ap (λ k. found i line (state k).sampled) (sym more) ∙ found_next (j + r) i line s (deep_next (j + r) i (deep_later r j i deep)).0 (found_later r j i line s deep e)

  -- no number that wrote is killed afterwards
  pub logged_stands : (c later : ℕ) (e : Entry) → c ≤ later → Contains (state c).log e → e.number < (state later).next
  logged_stands c later e le listed =
      let is = All-contains (IsLogged design (track c)) (state c).log e (All-from_recursion (IsLogged design (track c)) (state c).log (run_at design cards image trace clean is_frame fits c).logged) listed in
      let sum : c + (later - c) ≡ later = omega arith in
      let deep = subst (λ k. Deep k e.number) sum (deep_later (later - c) c e.number (logged_deep design image (track c) e is)) in
      let same = next_at design cards image trace clean is_frame fits later in
      let less = deep.0 in
      omega arith
