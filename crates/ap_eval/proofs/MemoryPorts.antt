-- The ports at which words of memories stand, by their numbers.
use Rattle.std.proofs.Common.{◌≡◌, ℕ, zero, suc, ◌+◌, ◌-◌, ◌*◌, ◌/◌, ◌%◌, ◌<◌, ◌≤◌, ◌⊎◌, ◌&&◌, ◌==◌, nat_lt, nat_le, inl, inr, List, [], ◌∷◌, ◌++◌, length, Some, None, Bool, true, false, refl, sym, ap, ◌∙◌, arith}
use Rattle.std.specs.Prelude.{codes, slice_get, slice_index, if◌then◌else◌}
use Rattle.std.proofs.lemmas.Bool.Decides.{Decides-eqb, nat_tests}
use Rattle.ap_image.specs.declared.shape.MemShape.{MemShape}
use Rattle.ap_image.specs.FitsShape.{MemsFit}
use Rattle.ap_net.specs.declared.net.Port.{Port}
use Rattle.ap_net.specs.Outside.{input, mem_name, mem_ports}
use Rattle.ap_net.specs.Answering.{mem_gives, mem_looks}
use Rattle.ap_eval.specs.Ops.{memory_at}

-- the second port of memory k
abbrev pub second : ℕ → ℕ
second zero = 1
second (suc k) = suc (suc (suc (suc (suc (second k)))))

pub second_is : (k : ℕ) → second k ≡ 5 * k + 1
second_is zero = refl
second_is (suc k) = let e : second k ≡ 5 * k + 1 = second_is k in omega arith

pub record IsData (first count n m : ℕ) : Type 0 where
  pub k : ℕ
  pub below : k < count
  pub n_is : n ≡ first + second k
  pub m_is : m ≡ suc k

-- which memory's word stands at a port
pub memory_port : (first count n m : ℕ) → memory_at first count n ≡ Some m → ((n ≡ 1) × (m ≡ 0)) ⊎ IsData first count n m
memory_port first count n m h = go (n == 1) (nat_le first n && nat_lt n (first + 5 * count) && (n - first) % 5 == 1) refl refl h
  where
    go : (a b : Bool) → (n == 1) ≡ a → (nat_le first n && nat_lt n (first + 5 * count) && (n - first) % 5 == 1) ≡ b → (if a then Some 0 else (if b then Some ((n - first) / 5 + 1) else None)) ≡ Some m → ((n ≡ 1) × (m ≡ 0)) ⊎ IsData first count n m
    go true b p q e = inl ((Decides-eqb n 1).0 p, (let z : 0 ≡ m = cc in sym z))
    go false false p q e = cc
    go false true p q e =
        let quotient : (n - first) / 5 + 1 ≡ m = cc in
        let le : first ≤ n = grind (arith, nat_tests) in
        let lt : n < first + 5 * count = grind (arith, nat_tests) in
        let one : (n - first) % 5 ≡ 1 = grind (arith, nat_tests) in
        let s : second ((n - first) / 5) ≡ 5 * ((n - first) / 5) + 1 = second_is ((n - first) / 5) in
        inr (record { k = (n - first) / 5; below = omega arith; n_is = omega arith; m_is = omega arith })

-- and that it stands there
pub memory_found : (first count k : ℕ) → 3 ≤ first → k < count → memory_at first count (first + second k) ≡ Some (suc k)
memory_found first count k low lt = go ((first + second k) == 1) (nat_le first (first + second k) && nat_lt (first + second k) (first + 5 * count) && (first + second k - first) % 5 == 1) refl refl
  where
    go : (a b : Bool) → ((first + second k) == 1) ≡ a → (nat_le first (first + second k) && nat_lt (first + second k) (first + 5 * count) && (first + second k - first) % 5 == 1) ≡ b
        → (if a then Some 0 else (if b then Some ((first + second k - first) / 5 + 1) else None)) ≡ Some (suc k)
    go true b p q = let e : first + second k ≡ 1 = (Decides-eqb (first + second k) 1).0 p in absurd (omega arith)
    go false true p q = let d : second k ≡ 5 * k + 1 = second_is k in let e : (first + second k - first) / 5 + 1 ≡ suc k = omega arith in ap Some e
    go false false p q = absurd (let e : second k ≡ 5 * k + 1 = second_is k in grind (arith, nat_tests))

-- Lists by the number of a memory. -----------------------------------------------------------------------------------------

pub gives_word : (read : ℕ → ℕ) (first : ℕ) (ms : List MemShape) (mems : List (List ℕ)) (k : ℕ) (words : List ℕ) → MemsFit mems ms → slice_get mems k ≡ Some words
    → slice_get (mem_gives read first ms mems) (second k) ≡ Some (slice_index words (read (first + 5 * k)))
gives_word read first [] [] k words fits at = cc
gives_word read first [] (w ∷ mems) k words fits at = absurd fits
gives_word read first (m ∷ ms) [] k words fits at = cc
gives_word read first (m ∷ ms) (w ∷ mems) zero words fits at = let same : w ≡ words = cc in let e : first ≡ first + 5 * 0 = omega arith in ap Some ((λ i. slice_index (same i) (read (e i))))
gives_word read first (m ∷ ms) (w ∷ mems) (suc k) words fits at =
    let e : first + 5 + 5 * k ≡ first + 5 * suc k = omega arith in
    gives_word read (first + 5) ms mems k words fits.1 at ∙ ap (λ n. Some (slice_index words (read n))) e

pub looks_first : (first : ℕ) (ms : List MemShape) (k : ℕ) → k < length ms → slice_get (mem_looks first ms) (second k) ≡ Some ((first + 5 * k) ∷ [])
looks_first first [] k lt = absurd (omega arith)
looks_first first (m ∷ ms) zero lt = let e : first ≡ first + 5 * 0 = omega arith in ap (λ n. Some (n ∷ [])) e
looks_first first (m ∷ ms) (suc k) lt = let e : first + 5 + 5 * k ≡ first + 5 * suc k = omega arith in looks_first (first + 5) ms k (omega arith) ∙ ap (λ n. Some (n ∷ [])) e

-- the input among a memory's ports is its second
pub record IsSecond (count j : ℕ) : Type 0 where
  pub k : ℕ
  pub below : k < count
  pub j_is : j ≡ second k

pub input_is_second : (ms : List MemShape) (rest : List Port) → ((i : ℕ) (q : Port) → slice_get rest i ≡ Some q → q.output ≡ true) → (j : ℕ) (p : Port) → slice_get (mem_ports ms ++ rest) j ≡ Some p → p.output ≡ false → IsSecond (length ms) j
input_is_second [] rest outs j p at is = let o : p.output ≡ true = outs j p at in cc
input_is_second (m ∷ ms) rest outs zero p at is = cc
input_is_second (m ∷ ms) rest outs (suc zero) p at is = record { k = 0; below = omega arith; j_is = refl }
input_is_second (m ∷ ms) rest outs (suc (suc zero)) p at is = cc
input_is_second (m ∷ ms) rest outs (suc (suc (suc zero))) p at is = cc
input_is_second (m ∷ ms) rest outs (suc (suc (suc (suc zero)))) p at is = cc
input_is_second (m ∷ ms) rest outs (suc (suc (suc (suc (suc j))))) p at is =
    let s = input_is_second ms rest outs j p at is in
    record { k = suc s.k; below = let lt : s.k < length ms = s.below in omega arith; j_is = ap (λ n. suc (suc (suc (suc (suc n))))) s.j_is }

pub second_port : (ms : List MemShape) (rest : List Port) (k : ℕ) → k < length ms → (m : MemShape) × (slice_get (mem_ports ms ++ rest) (second k) ≡ Some (input (mem_name m (codes "rd")) m.width))
second_port [] rest k lt = absurd (omega arith)
second_port (m ∷ ms) rest zero lt = (m, refl)
second_port (m ∷ ms) rest (suc k) lt = second_port ms rest k (omega arith)

pub mems_long : (mems : List (List ℕ)) (ms : List MemShape) → MemsFit mems ms → length mems ≡ length ms
mems_long [] [] h = refl
mems_long [] (m ∷ ms) h = absurd h
mems_long (words ∷ mems) [] h = absurd h
mems_long (words ∷ mems) (m ∷ ms) h = ap suc (mems_long mems ms h.1)
