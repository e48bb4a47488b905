use Rattle.std.proofs.Common.{refl, Result, Ok, Err, ◌≡◌, ℕ, ◌+◌, ◌-◌, ◌≤◌, List, ◌++◌, rules, arith, length, take, slice_range, sym, ap, ◌∙◌, subst, le_refl, drop_at, length-take-le}
use Rattle.std.proofs.lemmas.Slice.{take-put_mid_below}
use Rattle.std.specs.Prelude.{IsErrAnd, MatchResult}
use Rattle.std.specs.Io.KnownBytes.{Consumes}
use Rattle.std.proofs.KnownBytes.{Consumes-trans, Consumes-kept}
use borrow.Rule.Slice.PartMut.{put_mid, post_of}
use lib.Seq.{take-add, take-append-le}
use Rattle.ap_desk.proofs.system.fill.Goals as goal
use Rattle.ap_desk.proofs.system.fill.Goals.{in-More, in-Again}

take_split : (a b : ℕ) (old new : List ℕ) → a ≤ b → take a new ≡ take a old → take a old ++ slice_range new a b ≡ take b new
take_split a b old new h front =
    let same : a + (b - a) ≡ b = omega arith in
    ap (λ l. l ++ slice_range new a b) (sym front) ∙ sym (take-add a (b - a) new) ∙ ap (λ n. take n new) same

slice_range-put_mid : (a k n : ℕ) (xs ys : List ℕ) → a ≤ length xs → n ≤ length ys → slice_range (put_mid a k xs ys) a (a + n) ≡ take n ys
slice_range-put_mid a k n xs ys within fits =
    let same : (a + n) - a ≡ n = omega arith in
    let after = post_of a k xs in
    ap (take ((a + n) - a)) (drop_at (take a xs) (ys ++ after) a (length-take-le a xs within)) ∙ ap (λ m. take m (ys ++ after)) same ∙ take-append-le n ys after fits

-- an answer that is an error is no count
at_err : {T E : Type 0} (P : E → Type 0) (A : T → Type 0) (B : Type 0) (r : Result T E) → IsErrAnd r P → MatchResult r A (λ _. B) → B
at_err P A B (Ok value) h m = absurd h
at_err P A B (Err error) h m = m

pub loop-preserved : goal.loop-preserved
loop-preserved g c =
    let from = c.loop.count in
    let room = length c.loop.into - from in
    let within = c.loop.invariant.within in
    let new = put_mid from room c.loop.into c.read-answer.new.buf in
    let front : take from new ≡ take from c.loop.into = take-put_mid_below _ _ _ _ _ (le_refl _) within in
    let same : length new ≡ length c.args.into.now = search rules in
    elim c.match-reading_of.branch [
      | in-More w ↦
          let came = w.in-More.ensures.came w.in-More.more refl in
          let bound = (rw came at c.read-answer.ensures.bound).0 in
          let bytes = (rw came at c.read-answer.ensures.bytes).0 in
          let part = slice_range-put_mid from room w.in-More.more c.loop.into c.read-answer.new.buf within bound in
          let joined = take_split from (from + w.in-More.more) c.loop.into new (omega arith) front in
          record {
            same = same;
            within = rw w.count-is (let got : from + w.in-More.more ≤ length new = search rules in got);
            consumed = rw w.count-is (subst (Consumes _ _) (ap (λ l. take from c.loop.into ++ l) (sym part) ∙ joined) (Consumes-trans _ _ _ _ _ c.loop.invariant.consumed bytes));
          }
      | in-Again w ↦
          let bytes = at_err _ _ _ c.read-answer.result (w.in-Again.ensures.again.0 refl) c.read-answer.ensures.bytes in
          record {
            same = same;
            within = rw w.count-is (let got : from ≤ length new = search rules in got);
            consumed = rw w.count-is (subst (Consumes _ _) (sym front) (Consumes-kept _ _ _ _ c.loop.invariant.consumed bytes));
          }
    ]
