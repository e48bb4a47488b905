use Rattle.std.proofs.Common.{◌≡◌, ◌+◌, ◌<◌, ◌≤◌, ℕ, [], ◌∷◌, zero, suc, refl, sym, ap, subst, lit<, lit≤, mod-eq_of_lt, arith}
use Rattle.std.specs.Prelude.{List, Contains, IfSome, IsSomeAnd, IsTrue, slice_get, slice_index}
use Rattle.ap_desc.specs.Designs.{is_named_nop}
use Rattle.ap_image.specs.declared.image.Image.{Image}
use Rattle.ap_model.specs.Examples.{code_of, processor}
use Rattle.ap_model.specs.Fire.{instr_of}
use Rattle.ap_dist.specs.Distances.{dist_of}
use Rattle.ap_dist.specs.LeastStarts.{MayStart}
use Rattle.ap_dist.specs.Places.{IsPlainNop, IsWordOfLine, end_before, has_line, is_landing, line_at}
use Rattle.ap_dist.specs.Programs.{two_additions}
use Rattle.ap_dist.specs.Spaced.{word_at}
use Rattle.machine_tests.proofs.program_rows.two_additions_are_placed.Goals as goal

hazard_apart : dist_of processor 0x2205 0x1448 ≡ 3
unfolding dist_of instr_of
hazard_apart = refl

first_may : (starts : List ℕ) (image : Image) → MayStart processor two_additions (0 ∷ starts) image 0 0 0
first_may starts image = record {
  behind = lit≤ tt;
  drained = λ landing. absurd cc;
  apart = λ h i j lt older younger. absurd (omega arith);
  taken = λ h i lt older transfer. absurd (omega arith);
}

-- the second addition stands far enough from the first one three places behind it
second_apart : (second : ℕ) (image : Image) → dist_of processor (word_at processor image 0) (word_at processor image (second + 0)) ≡ 3 → (h i j : ℕ) → h < 1
    → IsTrue (has_line two_additions h i) → IsTrue (has_line two_additions 1 j)
    → dist_of processor (word_at processor image (slice_index (0 ∷ second ∷ []) h + i)) (word_at processor image (second + j)) + (slice_index (0 ∷ second ∷ []) h + i) ≤ 3 + j
second_apart second image e zero zero zero lt older younger = omega arith
second_apart second image e zero zero (suc j) lt older younger = absurd cc
second_apart second image e zero (suc i) j lt older younger = absurd cc
second_apart second image e (suc h) i j lt older younger = absurd (omega arith)

second_may : (second : ℕ) (image : Image) → dist_of processor (word_at processor image 0) (word_at processor image (second + 0)) ≡ 3 → MayStart processor two_additions (0 ∷ second ∷ []) image 0 1 3
second_may second image e = record {
  behind = lit≤ tt;
  drained = λ landing. absurd cc;
  apart = second_apart second image e;
  taken = λ h i lt older transfer. absurd cc;
}

pub returns-clause-least : goal.returns-clause-least
returns-clause-least c = record {
  drain_of_program = refl;
  may = all_may;
  least = none_earlier;
}
  where
    all_may : (g : ℕ) → g < 2 → MayStart processor two_additions (0 ∷ 3 ∷ []) (code_of (0x2205 ∷ 0x0 ∷ 0x0 ∷ 0x1448 ∷ [])) 0 g (slice_index (0 ∷ 3 ∷ []) g)
    all_may zero lt = first_may (3 ∷ []) (code_of (0x2205 ∷ 0x0 ∷ 0x0 ∷ 0x1448 ∷ []))
    all_may (suc zero) lt = second_may 3 (code_of (0x2205 ∷ 0x0 ∷ 0x0 ∷ 0x1448 ∷ [])) hazard_apart
    all_may (suc (suc g)) lt = absurd (omega arith)

    none_earlier : (g place : ℕ) → g < 2 → suc place ≡ slice_index (0 ∷ 3 ∷ []) g → MayStart processor two_additions (0 ∷ 3 ∷ []) (code_of (0x2205 ∷ 0x0 ∷ 0x0 ∷ 0x1448 ∷ [])) 0 g place → ⊥
    none_earlier zero place lt e may = absurd (omega arith)
    none_earlier (suc zero) place lt e may = (let far = may.apart 0 0 0 (lit< tt) refl refl in let three = hazard_apart in omega arith)
    none_earlier (suc (suc g)) place lt e may = absurd (omega arith)

pub returns-clause-early : goal.returns-clause-early
returns-clause-early c = λ starts. (let far = (starts.may 1 (lit< tt)).apart 0 0 0 (lit< tt) refl refl in let three = hazard_apart in omega arith)

pub returns-clause-late : goal.returns-clause-late
returns-clause-late c = λ starts. starts.least 1 3 (lit< tt) refl (second_may 4 (code_of (0x2205 ∷ 0x0 ∷ 0x0 ∷ 0x0 ∷ 0x1448 ∷ [])) hazard_apart)

abbrev spaced_by_two : Image
spaced_by_two = code_of (0x2205 ∷ 0x0 ∷ 0x0 ∷ 0x1448 ∷ [])

plain_nop : IsPlainNop processor 0
plain_nop zero named = record { fits = lit< tt; matches = refl; operands = refl }
plain_nop (suc place) named = absurd (no_other place named)
  where
    no_other : (place : ℕ) → IsSomeAnd (slice_get processor.instrs (suc place)) (λ instr. IsTrue (is_named_nop instr)) → ⊥
    no_other zero h = cc
    no_other (suc zero) h = cc
    no_other (suc (suc zero)) h = cc
    no_other (suc (suc (suc zero))) h = cc
    no_other (suc (suc (suc (suc zero)))) h = cc
    no_other (suc (suc (suc (suc (suc zero))))) h = cc
    no_other (suc (suc (suc (suc (suc (suc zero)))))) h = cc
    no_other (suc (suc (suc (suc (suc (suc (suc zero))))))) h = cc
    no_other (suc (suc (suc (suc (suc (suc (suc (suc zero)))))))) h = cc
    no_other (suc (suc (suc (suc (suc (suc (suc (suc (suc zero))))))))) h = cc
    no_other (suc (suc (suc (suc (suc (suc (suc (suc (suc (suc place)))))))))) h = h

beyond : (place : ℕ) → suc (suc (suc (suc place))) < 64 → word_at processor spaced_by_two (suc (suc (suc (suc place)))) ≡ 0
beyond place lt = ap (slice_index spaced_by_two.code) (mod-eq_of_lt lt)

pub returns-clause-places : goal.returns-clause-places
returns-clause-places c = record {
  starts_of_groups = refl;
  in_order = order;
  lines = lines;
  others = others;
  landings_of_source = record { rise = λ i lt. absurd (omega arith); each = none; only = λ landing there no. (let lt : there.0 < 0 = there.1 in omega arith) };
  mems = refl;
}
  where
    order : (g : ℕ) → g < 2 → end_before processor two_additions (0 ∷ 3 ∷ []) g ≤ slice_index (0 ∷ 3 ∷ []) g
    order zero lt = lit≤ tt
    order (suc zero) lt = lit≤ tt
    order (suc (suc g)) lt = absurd (omega arith)

    lines : (g i : ℕ) → IfSome (line_at two_additions g i) (λ line. IsWordOfLine processor two_additions (0 ∷ 3 ∷ []) line (word_at processor spaced_by_two (slice_index (0 ∷ 3 ∷ []) g + i)))
    lines zero zero = record { fits = lit< tt; matches = refl; operands = refl }
    lines zero (suc i) = tt
    lines (suc zero) zero = record { fits = lit< tt; matches = refl; operands = refl }
    lines (suc zero) (suc i) = tt
    lines (suc (suc g)) i = tt

    none : (g : ℕ) → g ≤ 2 → IsTrue (is_landing processor two_additions g) → Contains [] (end_before processor two_additions (0 ∷ 3 ∷ []) g)
    none zero le landing = absurd cc
    none (suc zero) le landing = absurd cc
    none (suc (suc zero)) le landing = absurd cc
    none (suc (suc (suc g))) le landing = absurd (omega arith)

    others : (place : ℕ) → place < 64 → ((g i : ℕ) → IsTrue (has_line two_additions g i) → slice_index (0 ∷ 3 ∷ []) g + i ≡ place → ⊥) → IsPlainNop processor (word_at processor spaced_by_two place)
    others zero lt free = absurd (free 0 0 refl refl)
    others (suc zero) lt free = plain_nop
    others (suc (suc zero)) lt free = plain_nop
    others (suc (suc (suc zero))) lt free = absurd (free 1 0 refl refl)
    others (suc (suc (suc (suc place)))) lt free = subst (IsPlainNop processor) (sym (beyond place lt)) plain_nop
