-- A text that is appended to begins with what it was.
use Rattle.std.proofs.Common.{◌≡◌, ℕ, ◌≤◌, List, ◌++◌, length, take, sym, ap, ◌∙◌, arith}
use Rattle.std.proofs.Math.Seq.{take-append_seam, take-length}
use Rattle.std.proofs.lemmas.List.{length-take, take-take}
use Rattle.ap_image.specs.Kept.{IsKept}

pub kept_same : (old : List ℕ) → IsKept old old
kept_same old = record { front = take-length old }

pub kept_more : (old xs new : List ℕ) → new ≡ old ++ xs → IsKept old new
kept_more old xs new e = record { front = rw e (take-append_seam old xs) }

pub kept_on : (old mid new : List ℕ) → IsKept old mid → IsKept mid new → IsKept old new
kept_on old mid new h g =
    let short : length old ≤ length mid = omega (arith, sym (length-take (length old) mid) ∙ ap length h.front) in
    record { front = sym (take-take (length old) (length mid) new short) ∙ ap (take (length old)) g.front ∙ h.front }

pub ruleset kept = (kept_same, kept_more, kept_on)
