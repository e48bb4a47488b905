-- Numbers that are so far that no transfer kills them any more; and that no number falls back.
use Rattle.std.proofs.Common.{◌≡◌, ℕ, ◌+◌, ◌≤◌, ◌<◌, Bool, true, false, ◌⊎◌, inl, inr, arith}
use Rattle.std.proofs.lemmas.Bool.{cases_Bool, cases_lt, cases_order}
use Rattle.ap_space.proofs.Tracks.{Frame, IsFrame, IsTrack, IsTurn, Kind, Takes, Track}
use Rattle.ap_space.proofs.Tracks.Kind.{fetches, takes, waits}

-- no number falls back
pub stage_grows : (frame : Frame) (hold : ℕ → Bool) (old new : Track) → IsTurn frame hold old new → (i : ℕ) → i < new.next → old.stage i ≤ new.stage i
stage_grows frame hold old new turn i less = by_case (cases_lt (old.stage i) frame.stages) (cases_Bool (hold (old.stage i)))
  where
    by_case : (old.stage i < frame.stages) ⊎ (frame.stages ≤ old.stage i) → (hold (old.stage i) ≡ true) ⊎ (hold (old.stage i) ≡ false) → old.stage i ≤ new.stage i
    by_case (inr h) other = let e = turn.gone i less h in omega arith
    by_case (inl h) (inl g) = let e = turn.stays i less h g in omega arith
    by_case (inl h) (inr g) = let e = turn.moves i less h g in omega arith

-- a number that is so far that no transfer kills it any more
abbrev pub IsDeep : Frame → Track → ℕ → Type 0
IsDeep frame track i = (i < track.next) × (frame.branch ≤ track.stage i + frame.slots)

pub deep_stays : (frame : Frame) (hold : ℕ → Bool) (old new : Track) → IsFrame frame → IsTrack frame old → IsTurn frame hold old new → (i : ℕ) → IsDeep frame old i → IsDeep frame new i
deep_stays frame hold old new is_frame track turn i deep =
    let less : i < new.next = by_kind turn.kind in
    let up = stage_grows frame hold old new turn i less in
    let far = deep.1 in
    (less, omega arith)
  where
    by_order : (t target : ℕ) → Takes frame hold old new t target → (i ≡ t) ⊎ ((i < t) ⊎ (t < i)) → i < new.next
    by_order t target k (inl same) = let end = k.next in omega arith
    by_order t target k (inr (inl less)) = let end = k.next in omega arith
    by_order t target k (inr (inr more)) =
        let end = k.next in
        let there = k.there in
        let high = is_frame.high in
        let inside = deep.0 in
        let far = deep.1 in
        let order = track.rise t i more (omega arith) (omega arith) in
        omega arith

    by_kind : Kind frame hold old new → i < new.next
    by_kind (waits w) = let e = w.next in let inside = deep.0 in omega arith
    by_kind (fetches f) = let e = f.next in let inside = deep.0 in omega arith
    by_kind (takes t target k) = by_order t target k (cases_order i t)
