-- The fault of a line of data.
use Rattle.std.proofs.Common.{◌≡◌, ℕ, zero, suc, ◌+◌, ◌-◌, ◌^◌, ◌<◌, ◌≤◌, ◌||◌, true, min, not, Some, None, List, [], ◌∷◌, length, get_or, map, sym, ap, ◌∙◌, arith, ⊎_elim}
use Rattle.std.specs.Prelude.{nat_le, nat_lt, option_and_then, slice_get}
use Rattle.std.specs.List.{list_all, list_any}
use Rattle.std.specs.Option.{option_map_or}
use Rattle.std.proofs.Math.Pow.{pow_mono}
use Rattle.std.proofs.lemmas.Bool.{and_parts, cases_lt, le-ltb, leb-true, lt-ltb}
use Rattle.std.proofs.lemmas.Option.{same_Some, slice_get-get_or}
use Rattle.ap_desc.specs.Clean.{IsClean}
use Rattle.ap_desc.specs.Designs.{is_mem_within, is_width}
use Rattle.ap_desc.specs.declared.design.Design.{Design}
use Rattle.ap_desc.specs.declared.design.Mem.{Mem}
use Rattle.ap_enc.proofs.Patterns.{passes_here}
use Rattle.ap_program.specs.LineFaults.{are_bad_words, is_bad_data}
use Rattle.ap_program.specs.Programs.{data_words, mem_named}
use Rattle.ap_program.specs.SoFar.{IsSoFar, are_too_much}
use Rattle.ap_program.specs.declared.so_far.SoFar.{SoFar}
use Rattle.ap_program.specs.declared.statement.ProgramLine.{ProgramLine}
use Rattle.ap_program.specs.declared.statement.Statement.TheVariants as says

pub count_there : (items counts : List ℕ) (i d : ℕ) → items ≡ counts → i < length counts → slice_get counts i ≡ Some (get_or items i d)
count_there items counts i d same lt = slice_get-get_or counts i d lt ∙ ap (λ ys. Some (get_or ys i d)) (sym same)

-- a number that stops at a greatest one is above a smaller one exactly where it was
still_above : (bound n c most : ℕ) → bound < most → nat_lt bound (min (min n most + c) most) ≡ nat_lt bound (n + c)
still_above bound n c most lt = ⊎_elim
    (λ above. let capped : bound < min (min n most + c) most = omega arith in lt-ltb bound (min (min n most + c) most) capped ∙ sym (lt-ltb bound (n + c) above))
    (λ below. let capped : min (min n most + c) most ≤ bound = omega arith in le-ltb bound (min (min n most + c) most) capped ∙ sym (le-ltb bound (n + c) below))
    (cases_lt bound (n + c))

address_low : (design : Design) → IsClean design → (place : ℕ) (mem : Mem) → slice_get design.mems place ≡ Some mem → 2 ^ mem.address < 2 ^ 64 - 1
address_low design clean place mem at =
    let within = passes_here is_mem_within design.mems (and_parts (nat_le (length design.mems) 4) (list_all is_mem_within design.mems) clean.sound.within.mems).1 place mem at in
    let few : mem.address ≤ 16 = leb-true mem.address 16 (and_parts (nat_le 1 mem.address) (nat_le mem.address 16) (and_parts _ (is_width mem.width) within).0).1 in
    let most : 2 ^ mem.address ≤ 2 ^ 16 = pow_mono few in
    omega arith

pub data_is : (design : Design) (before : List ProgramLine) (so_far : SoFar) (name words : List ℕ) (place n : ℕ) (mem : Mem) → IsClean design → IsSoFar design before so_far → Some place ≡ mem_named design name → slice_get design.mems place ≡ Some mem
    → slice_get so_far.words place ≡ Some n → are_too_much mem n words ≡ is_bad_data design before (Some (says.Data name words))
data_is design before so_far name words place n mem clean h at there count =
    ap (λ b. list_any (λ word. not (nat_lt word (2 ^ mem.width))) words || b) (ap (λ k. nat_lt (2 ^ mem.address) (min (k + length words) (2 ^ 64 - 1))) is ∙ still_above (2 ^ mem.address) (length (data_words mem.name before)) (length words) (2 ^ 64 - 1) (address_low design clean place mem there))
    ∙ sym (ap (λ o. option_map_or (are_bad_words before words) (option_and_then (slice_get design.mems) o) true) (sym at) ∙ ap (λ o. option_map_or (are_bad_words before words) o true) there)
  where
    is : n ≡ min (length (data_words mem.name before)) (2 ^ 64 - 1)
    is = same_Some n (min (length (data_words mem.name before)) (2 ^ 64 - 1)) (sym count ∙ ap (λ ws. slice_get ws place) h.words ∙ counted design.mems place there)
      where
        counted : (ms : List Mem) (k : ℕ) → slice_get ms k ≡ Some mem → slice_get (map (λ (m : Mem). min (length (data_words m.name before)) (2 ^ 64 - 1)) ms) k ≡ Some (min (length (data_words mem.name before)) (2 ^ 64 - 1))
        counted [] k e = absurd cc
        counted (m ∷ ms) zero e = ap (λ (x : Mem). Some (min (length (data_words x.name before)) (2 ^ 64 - 1))) (same_Some m mem e)
        counted (m ∷ ms) (suc k) e = counted ms k e

pub no_data : (design : Design) (before : List ProgramLine) (name words : List ℕ) → None ≡ mem_named design name → true ≡ is_bad_data design before (Some (says.Data name words))
no_data design before name words at = sym (ap (λ o. option_map_or (are_bad_words before words) (option_and_then (slice_get design.mems) o) true) (sym at))
