-- What the nets of instructions follow from, where one after another gets a result.
use Rattle.std.proofs.Common.{◌≡◌, ℕ, zero, suc, List, [], ◌∷◌, Option, Some, inl, inr, refl, sym, subst}
use Rattle.std.specs.Prelude.{slice_get, slice_set}
use Rattle.std.specs.List.{AllByRecursion as Each}
use Rattle.std.proofs.lemmas.Option.{same_Some}
use Rattle.ap_net.specs.declared.cell.Wire.{Wire}
use Rattle.ap_net.specs.Draft.{Draft}
use Rattle.ap_net.specs.Pending.{Among, IsFrom}
use Rattle.ap_net.proofs.Laws.{Reads-refl}
use Rattle.ap_stage.specs.declared.node.Course.{Course}
use Rattle.ap_stage.specs.declared.source.Ground.{Ground}
use Rattle.ap_stage.specs.Courses.{course_numbers, courses_numbers}
use Rattle.ap_stage.specs.Reads.{AreFrom}
use Rattle.ap_stage.specs.Sources.{source_numbers}
use Rattle.ap_stage.proofs.Followed.{each_then, old_from, reads_fewer}
use Rattle.ap_stage.proofs.Listed.{among_left, among_right, each_both, each_left, each_right}

-- over more nets
pub from_wider : (from more nets : List ℕ) (a b : Draft) → ((n : ℕ) → Among more n → Among from n) → AreFrom more a b nets → AreFrom from a b nets
from_wider from more nets a b all h = record {
  reads = reads_fewer from more a b all h.reads;
  results = each_then (IsFrom more a b) (IsFrom from a b) nets (λ n. wide n) h.results;
}
  where
    wide : (n : ℕ) → IsFrom more a b n → IsFrom from a b n
    wide n (inl at) = inl (all n at)
    wide n (inr came) = inr came

pub from_none : (ground : Ground) (c : Course) (y : Wire) (a : Draft) → AreFrom (y.number ∷ course_numbers ground c) a a (course_numbers ground c)
from_none ground c y a = record { reads = Reads-refl (y.number ∷ course_numbers ground c) a; results = old_from (y.number ∷ course_numbers ground c) a a (course_numbers ground c) (λ n at. inr at) }

-- one instruction got a result
pub from_one : (ground : Ground) (c : Course) (y : Wire) (a b : Draft) (row items : List (Option Wire)) → items ≡ row → AreFrom (y.number ∷ source_numbers ground c.row.items) a b (source_numbers ground row)
    → AreFrom (y.number ∷ course_numbers ground c) a b (c.cond.number ∷ source_numbers ground items)
from_one ground c y a b row items same h =
    let from = y.number ∷ course_numbers ground c in
    let wide = from_wider from (y.number ∷ source_numbers ground c.row.items) (source_numbers ground row) a b (λ n. among n) h in
    record { reads = wide.reads; results = (inl (inr (inl refl)), subst (λ r. Each (IsFrom from a b) (source_numbers ground r)) (sym same) wide.results) }
  where
    among : (n : ℕ) → Among (y.number ∷ source_numbers ground c.row.items) n → Among (y.number ∷ course_numbers ground c) n
    among n (inl e) = inl e
    among n (inr h) = inr (inr h)

-- the nets of one instruction are among those of all
pub among_at : (ground : Ground) (courses : List Course) (i : ℕ) (c : Course) → slice_get courses i ≡ Some c → (n : ℕ) → Among (course_numbers ground c) n → Among (courses_numbers ground courses) n
among_at ground [] i c at n h = absurd cc
among_at ground (x ∷ courses) zero c at n h =
    among_left (course_numbers ground x) (courses_numbers ground courses) n (subst (λ z. Among (course_numbers ground z) n) (sym (same_Some x c at)) h)
among_at ground (x ∷ courses) (suc i) c at n h = among_right (course_numbers ground x) (courses_numbers ground courses) n (among_at ground courses i c at n h)

numbers_set : (P : ℕ → Type 0) (ground : Ground) (courses : List Course) (i : ℕ) (new : Course) → Each P (courses_numbers ground courses) → Each P (course_numbers ground new) → Each P (courses_numbers ground (slice_set courses i new))
numbers_set P ground [] i new all one = tt
numbers_set P ground (x ∷ courses) zero new all one =
    each_both P (course_numbers ground new) (courses_numbers ground courses) one (each_right P (course_numbers ground x) (courses_numbers ground courses) all)
numbers_set P ground (x ∷ courses) (suc i) new all one =
    each_both P (course_numbers ground x) (courses_numbers ground (slice_set courses i new)) (each_left P (course_numbers ground x) (courses_numbers ground courses) all)
    (numbers_set P ground courses i new (each_right P (course_numbers ground x) (courses_numbers ground courses) all) one)

-- one of the instructions got a result
pub from_at : (ground : Ground) (courses : List Course) (i : ℕ) (c new : Course) (y : Wire) (a b : Draft) → slice_get courses i ≡ Some c → AreFrom (y.number ∷ course_numbers ground c) a b (course_numbers ground new)
    → AreFrom (y.number ∷ courses_numbers ground courses) a b (y.number ∷ courses_numbers ground (slice_set courses i new))
from_at ground courses i c new y a b at h =
    let from = y.number ∷ courses_numbers ground courses in
    let wide = from_wider from (y.number ∷ course_numbers ground c) (course_numbers ground new) a b (λ n. among n) h in
    record {
      reads = wide.reads;
      results = (inl (inl refl), numbers_set (IsFrom from a b) ground courses i new (old_from from a b (courses_numbers ground courses) (λ n p. inr p)) wide.results);
    }
  where
    among : (n : ℕ) → Among (y.number ∷ course_numbers ground c) n → Among (y.number ∷ courses_numbers ground courses) n
    among n (inl e) = inl e
    among n (inr h) = inr (among_at ground courses i c at n h)
