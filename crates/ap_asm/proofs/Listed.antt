-- The ends of a program's groups and its landings, as they are listed.
use Rattle.std.proofs.Common.{◌≡◌, ℕ, suc, ◌+◌, ◌<◌, ◌≤◌, true, false, List, [], ◌∷◌, ◌++◌, length, Contains, Some, sym, ap, subst, ◌∙◌, arith, ⊎_elim}
use Rattle.std.specs.Prelude.{slice_get, slice_index}
use Rattle.std.proofs.Math.ListN.{get_or-append}
use Rattle.std.proofs.Math.Seq.{get_or-append_seam}
use Rattle.std.proofs.lemmas.Bool.{both_ways, cases_lt}
use Rattle.std.proofs.lemmas.List.{length-append}
use Rattle.std.proofs.lemmas.List.Elements.{Contains-append_left, Contains-get_or, Contains-push, Contains-push_cases}
use Rattle.ap_desc.specs.declared.design.Design.{Design}
use Rattle.ap_dist.specs.Places.{end_before, group_length, is_landing}
use Rattle.ap_dist.specs.declared.source.Group.{Group}
use Rattle.ap_dist.specs.declared.source.Source.{Source}
use Rattle.ap_asm.specs.Standing.{AreEnds, ArePicked, AreRising}
use Rattle.ap_asm.proofs.GroupLines.{end_of}

pub none_picked : (design : Design) (source : Source) (ends : List ℕ) → ArePicked design source ends 0 []
none_picked design source ends = record {
  rise = λ i lt. absurd (omega arith);
  each = λ g lt is. absurd (omega arith);
  only = λ landing there no. (let lt : there.0 < 0 = there.1 in omega arith);
}

-- a place without a landing
pub picked_same : (design : Design) (source : Source) (ends : List ℕ) (n : ℕ) (landings : List ℕ) → is_landing design source n ≡ false → ArePicked design source ends n landings → ArePicked design source ends (n + 1) landings
picked_same design source ends n landings not picked = record {
  rise = picked.rise;
  each = λ g lt is. ⊎_elim
      (λ early. picked.each g early is)
      (λ late. let e : g ≡ n = omega arith in absurd (both_ways (is_landing design source n) not (ap (is_landing design source) (sym e) ∙ is)))
      (cases_lt g n);
  only = λ landing there no. picked.only landing there (λ g lt is at. no g (omega arith) is at);
}

-- the landings so far stand before the next place
picked_below : (design : Design) (source : Source) (ends : List ℕ) (n : ℕ) (landings : List ℕ) → AreRising ends → n < length ends → ArePicked design source ends n landings → (landing : ℕ) → Contains landings landing → landing < slice_index ends n
picked_below design source ends n landings rising within picked landing there = ⊎_elim
    (λ lt. lt)
    (λ le. absurd (picked.only landing there (λ g lt is at. let up = rising.rise g n lt within in omega arith)))
    (cases_lt landing (slice_index ends n))

-- a place with one
pub picked_more : (design : Design) (source : Source) (ends : List ℕ) (n : ℕ) (landings : List ℕ) (place : ℕ) → AreRising ends → n < length ends → place ≡ slice_index ends n → is_landing design source n ≡ true
    → ArePicked design source ends n landings → ArePicked design source ends (n + 1) (landings ++ place ∷ [])
picked_more design source ends n landings place rising within here is picked = record {
  rise = rise;
  each = λ g lt yes. ⊎_elim
      (λ early. Contains-append_left landings (place ∷ []) (slice_index ends g) (picked.each g early yes))
      (λ late. let e : g ≡ n = omega arith in subst (Contains (landings ++ place ∷ [])) (here ∙ ap (slice_index ends) (sym e)) (Contains-push landings place))
      (cases_lt g n);
  only = λ landing there no. ⊎_elim
      (λ old. picked.only landing old (λ g lt yes at. no g (omega arith) yes at))
      (λ new. no n (omega arith) is (sym here ∙ new))
      (Contains-push_cases landings place landing there);
}
  where
    size : length (landings ++ place ∷ []) ≡ length landings + 1
    size = length-append landings (place ∷ [])

    rise : (i : ℕ) → suc i < length (landings ++ place ∷ []) → slice_index (landings ++ place ∷ []) i < slice_index (landings ++ place ∷ []) (suc i)
    rise i lt = ⊎_elim
        (λ early.
        let a = get_or-append landings (place ∷ []) 0 i (omega arith) in
        let b = get_or-append landings (place ∷ []) 0 (suc i) early in
        let up = picked.rise i early in
        omega arith)
        (λ late.
        let last : suc i ≡ length landings = (let s = size in omega arith) in
        let a = get_or-append landings (place ∷ []) 0 i (omega arith) in
        let b : slice_index (landings ++ place ∷ []) (suc i) ≡ place = ap (slice_index (landings ++ place ∷ [])) last ∙ get_or-append_seam landings place [] 0 in
        let up = picked_below design source ends n landings rising within picked (slice_index landings i) (Contains-get_or landings i 0 (omega arith)) in
        omega arith)
        (cases_lt (suc i) (length landings))

-- before the first group
pub no_ends : (design : Design) (source : Source) (starts ends : List ℕ) → ends ≡ 0 ∷ [] → AreEnds design source starts 0 ends
no_ends design source starts ends e = record {
  size = ap length e;
  each = λ g le. (let z : g ≡ 0 = omega arith in ap (slice_index ends) z ∙ ap (λ es. slice_index es 0) e ∙ ap (end_before design source starts) (sym z));
}

-- one group more
pub ends_more : (design : Design) (source : Source) (starts ends : List ℕ) (n end : ℕ) (x : Group) (new : List ℕ) → AreEnds design source starts n ends → slice_get source.groups n ≡ Some x → end ≡ slice_index starts n + group_length design x → new ≡ ends ++ end ∷ []
    → AreEnds design source starts (n + 1) new
ends_more design source starts ends n end x new known at is e = subst (AreEnds design source starts (n + 1)) (sym e) (record {
  size = length-append ends (end ∷ []) ∙ ap (λ m. m + 1) known.size;
  each = each;
})
  where
    each : (g : ℕ) → g ≤ n + 1 → slice_index (ends ++ end ∷ []) g ≡ end_before design source starts g
    each g le = ⊎_elim
        (λ early. get_or-append ends (end ∷ []) 0 g (let size = known.size in omega arith) ∙ known.each g (omega arith))
        (λ late.
        let z : g ≡ length ends = (let size = known.size in omega arith) in
        let y : suc n ≡ g = omega arith in
        ap (slice_index (ends ++ end ∷ [])) z ∙ get_or-append_seam ends end [] 0 ∙ is ∙ sym (end_of design source starts n x at) ∙ ap (end_before design source starts) y)
        (cases_lt g (n + 1))
