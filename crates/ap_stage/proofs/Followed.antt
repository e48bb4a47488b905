-- Nets that follow from others, one piece after another.
use Rattle.std.proofs.Common.{ℕ, List, ◌∷◌, Option, Some, inl, inr, refl}
use Rattle.std.specs.Prelude.{slice_set}
use Rattle.std.specs.List.{AllByRecursion as Each}
use Rattle.ap_net.specs.declared.cell.Wire.{Wire}
use Rattle.ap_net.specs.Draft.{Draft}
use Rattle.ap_net.specs.Late.{Reads}
use Rattle.ap_net.specs.Making.{Makes}
use Rattle.ap_net.specs.Pending.{Among, IsFrom}
use Rattle.ap_net.proofs.Laws.{IsFrom-later, Makes-trans, Reads-joined, Reads-refl}
use Rattle.ap_stage.specs.declared.source.Ground.{Ground}
use Rattle.ap_stage.specs.Reads.{AreFrom}
use Rattle.ap_stage.specs.Sources.{source_numbers}
use Rattle.ap_stage.specs.Wiring.{IsWiring, ReadsOnly}
use Rattle.ap_stage.proofs.Listed.{each_among}
use Rattle.ap_stage.proofs.Low.{sources_set}
use Rattle.ap_stage.proofs.Wired.{all_of, each_of}

-- what holds of each number that is among these
pub each_some : (P : ℕ → Type 0) (more : List ℕ) → ((n : ℕ) → Among more n → P n) → Each P more
each_some P more all = each_of P more more all (all_of more)

pub each_then : (P Q : ℕ → Type 0) (more : List ℕ) → ((n : ℕ) → P n → Q n) → Each P more → Each Q more
each_then P Q more goes each = each_some Q more (λ n h. goes n (each_among P more each n h))

-- nets of before, where these are all of them
pub old_from : (from : List ℕ) (a b : Draft) (more : List ℕ) → ((n : ℕ) → Among more n → Among from n) → Each (IsFrom from a b) more
old_from from a b more all = each_some (IsFrom from a b) more (λ n h. inl (all n h))

pub reads_fewer : (from more : List ℕ) (a b : Draft) → ((n : ℕ) → Among more n → Among from n) → Reads more a b → Reads from a b
reads_fewer from more a b all h = Reads-joined from more a a b (Reads-refl from a) h (old_from from a a more all)

-- nothing came
pub from_same : (from : List ℕ) (a : Draft) → AreFrom from a a from
from_same from a = record { reads = Reads-refl from a; results = old_from from a a from (λ n h. h) }

pub from_reads : (from : List ℕ) (a b : Draft) → Reads from a b → AreFrom from a b from
from_reads from a b h = record { reads = h; results = old_from from a b from (λ n at. at) }

-- one piece after another
pub from_later : (from mid nets : List ℕ) (a b c : Draft) → AreFrom from a b mid → AreFrom mid b c nets → AreFrom from a c nets
from_later from mid nets a b c p q = record {
  reads = Reads-joined from mid a b c p.reads q.reads p.results;
  results = each_then (IsFrom mid b c) (IsFrom from a c) nets (λ n h. IsFrom-later from mid a b c n p.reads.extends q.reads.extends p.results h) q.results;
}

pub only_later : (from : List ℕ) (a b c : Draft) → Reads from a b → Makes a b → ReadsOnly from b c → ReadsOnly from a c
only_later from a b c reads makes h = record { reads = Reads-joined from from a b c reads h.reads (old_from from a b from (λ n at. at)); makes = Makes-trans a b c makes h.makes }

-- one more net of a row
pub from_filled : (a b : Draft) (ground : Ground) (row : List (Option Wire)) (i : ℕ) (w : Wire) → IsWiring (source_numbers ground row) a b w → AreFrom (source_numbers ground row) a b (source_numbers ground (slice_set row i (Some w)))
from_filled a b ground row i w h =
    let from = source_numbers ground row in
    record { reads = h.yields.reads; results = sources_set (IsFrom from a b) ground row i w (old_from from a b from (λ n at. at)) h.yields.result }

-- a net that is put in a row
pub from_set : (a : Draft) (ground : Ground) (row : List (Option Wire)) (i : ℕ) (w : Wire) → AreFrom (w.number ∷ source_numbers ground row) a a (source_numbers ground (slice_set row i (Some w)))
from_set a ground row i w =
    let from = w.number ∷ source_numbers ground row in
    record { reads = Reads-refl from a; results = sources_set (IsFrom from a a) ground row i w (old_from from a a (source_numbers ground row) (λ n at. inr at)) (inl (inl refl)) }
