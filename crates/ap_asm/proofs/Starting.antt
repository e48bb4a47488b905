-- One more group at its least place.
use Rattle.std.proofs.Common.{◌≡◌, ℕ, suc, ◌+◌, ◌<◌, ◌≤◌, Bool, true, false, List, [], ◌∷◌, ◌++◌, length, Some, refl, sym, ap, subst, ◌∙◌, arith, ⊎_elim}
use Rattle.std.specs.Prelude.{IsTrue, if◌then◌else◌, slice_get, slice_index}
use Rattle.std.proofs.lemmas.Bool.{cases_lt}
use Rattle.ap_desc.specs.Clean.{IsClean}
use Rattle.ap_desc.specs.declared.design.Design.{Design}
use Rattle.ap_dist.specs.LeastStarts.{drain_of}
use Rattle.ap_dist.specs.Places.{does_transfer, end_before, group_length, is_landing}
use Rattle.ap_dist.specs.declared.source.Group.{Group}
use Rattle.ap_dist.specs.declared.source.Source.{Source}
use Rattle.ap_program.specs.Fits.{SourceFits}
use Rattle.ap_asm.specs.Behind.{AreBehindFrom}
use Rattle.ap_asm.specs.Layouts.{AreStarts, ArePlacedGroups}
use Rattle.ap_asm.specs.LinePlaces.{HasFullImage, IsLeastPlace, MayStand, number_at, room_of}
use Rattle.ap_asm.specs.Words.{ArePlainWords}
use Rattle.ap_asm.specs.declared.placing.Placed.{Placed}
use Rattle.ap_asm.proofs.GroupLines.{AreStacked, IsSameBelow, end_of, end_same, least_same, may_same}
use Rattle.ap_asm.proofs.PlacedLines.{kept_below, last_index, may_stand, stands_behind}

-- the least place by the groups before and by a landing
abbrev pub first_from : Bool → ℕ → ℕ → ℕ
first_from landing end drain = if landing then end + drain else end

first_behind : (b : Bool) (end drain place : ℕ) → first_from b end drain ≤ place → end ≤ place
first_behind true end drain place le = omega arith
first_behind false end drain place le = le

first_drained : (b : Bool) (end drain place : ℕ) → first_from b end drain ≤ place → IsTrue b → end + drain ≤ place
first_drained true end drain place le is = le
first_drained false end drain place le is = absurd cc

first_both : (b : Bool) (end drain place : ℕ) → end ≤ place → (IsTrue b → end + drain ≤ place) → first_from b end drain ≤ place
first_both true end drain place le far = far refl
first_both false end drain place le far = le

-- what is known of the start of one more group
pub record IsNextStart (design : Design) (source : Source) (starts : List ℕ) (n start : ℕ) (x : Group) (words : List ℕ) (placed : List Placed) : Type 0 where
  pub low : first_from (is_landing design source n) (end_before design source starts n) (drain_of design source) ≤ start
  pub behind : (place : ℕ) → start ≤ place → AreBehindFrom 0 design (drain_of design source) words (does_transfer design x.first.instr) placed place
  pub least : (place : ℕ) → first_from (is_landing design source n) (end_before design source starts n) (drain_of design source) ≤ place → AreBehindFrom 0 design (drain_of design source) words (does_transfer design x.first.instr) placed place → start ≤ place

pub least_more : (design : Design) → IsClean design → (source : Source) → SourceFits design source → (starts : List ℕ) (n start : ℕ) (x : Group) (words : List ℕ) (placed : List Placed) → AreStarts design source n starts → slice_get source.groups n ≡ Some x
    → ArePlainWords design x words → ArePlacedGroups design source starts n placed → IsNextStart design source starts n start x words placed → (g : ℕ) → g < n + 1 → IsLeastPlace design source (starts ++ start ∷ []) (drain_of design source) g
least_more design clean source fits starts n start x words placed known is_group plain groups next g lt = ⊎_elim
    (λ early. least_same design source starts (starts ++ start ∷ []) (drain_of design source) g (λ h l. kept h (omega arith)) (known.least g early))
    (λ late. let e : g ≡ n = omega arith in subst (IsLeastPlace design source (starts ++ start ∷ []) (drain_of design source)) (sym e) here)
    (cases_lt g n)
  where
    kept : IsSameBelow starts (starts ++ start ∷ []) n
    kept h l = kept_below starts start h (let size = known.size in omega arith)

    last : slice_index (starts ++ start ∷ []) n ≡ start
    last = last_index starts start n known.size

    may : MayStand design source starts (drain_of design source) n start
    may = may_stand design clean source fits starts (drain_of design source) n start x words placed is_group plain groups
        (first_behind (is_landing design source n) (end_before design source starts n) (drain_of design source) start next.low)
        (first_drained (is_landing design source n) (end_before design source starts n) (drain_of design source) start next.low)
        (next.behind start (omega arith))

    here : IsLeastPlace design source (starts ++ start ∷ []) (drain_of design source) n
    here = record {
      may = subst (MayStand design source (starts ++ start ∷ []) (drain_of design source) n) (sym last) (may_same design source starts (starts ++ start ∷ []) (drain_of design source) n start kept may);
      least = λ place e m.
          let back = may_same design source (starts ++ start ∷ []) starts (drain_of design source) n place (λ h l. sym (kept h l)) m in
          let le = next.least place (first_both (is_landing design source n) (end_before design source starts n) (drain_of design source) place back.behind back.drained) (stands_behind design clean source fits starts (drain_of design source) n place x words placed is_group plain groups back) in
          let at = last in
          omega arith;
    }

-- the ends of the groups before are the same
pub ends_kept : (design : Design) (source : Source) (starts : List ℕ) (n start : ℕ) → AreStarts design source n starts → (g : ℕ) → g ≤ n → end_before design source (starts ++ start ∷ []) g ≤ room_of design
ends_kept design source starts n start known g le =
    let e = end_same design source starts (starts ++ start ∷ []) g (λ h lt. kept_below starts start h (let size = known.size in omega arith)) in
    let w = known.within g le in
    omega arith

-- the end of the new group
pub end_more : (design : Design) (source : Source) (starts : List ℕ) (n start : ℕ) (x : Group) → length starts ≡ n → slice_get source.groups n ≡ Some x → end_before design source (starts ++ start ∷ []) (suc n) ≡ start + group_length design x
end_more design source starts n start x size at = end_of design source (starts ++ start ∷ []) n x at ∙ ap (λ m. m + group_length design x) (last_index starts start n size)

-- the image is full
pub full_image : (design : Design) (source : Source) (numbers : List (List ℕ)) (starts : List ℕ) (n start line : ℕ) → AreStarts design source n starts → n < length source.groups
    → ((g : ℕ) → g < n + 1 → IsLeastPlace design source (starts ++ start ∷ []) (drain_of design source) g) → room_of design < end_before design source (starts ++ start ∷ []) (suc n) → number_at numbers n 0 ≡ Some line
    → HasFullImage design source numbers line
full_image design source numbers starts n start line known few least beyond at = record {
  starts = starts ++ start ∷ [];
  group = n;
  is_group = few;
  least = λ g le. least g (omega arith);
  within = ends_kept design source starts n start known;
  beyond = beyond;
  at = at;
}

-- the group has room
pub starts_more : (design : Design) (source : Source) (starts : List ℕ) (n start : ℕ) → AreStarts design source n starts → ((g : ℕ) → g < n + 1 → IsLeastPlace design source (starts ++ start ∷ []) (drain_of design source) g)
    → end_before design source (starts ++ start ∷ []) (suc n) ≤ room_of design → length (starts ++ start ∷ []) ≡ n + 1 → AreStarts design source (n + 1) (starts ++ start ∷ [])
starts_more design source starts n start known least fits size = record {
  size = size;
  least = least;
  within = λ g le. ⊎_elim
      (λ early. ends_kept design source starts n start known g (omega arith))
      (λ late. let e : g ≡ suc n = omega arith in subst (λ h. end_before design source (starts ++ start ∷ []) h ≤ room_of design) (sym e) fits)
      (cases_lt g (suc n));
}

pub stacked_of : (design : Design) (source : Source) (starts : List ℕ) (n : ℕ) → AreStarts design source n starts → AreStacked design source starts n
stacked_of design source starts n known g lt = (known.least g lt).may.behind

pub no_starts : (design : Design) (source : Source) → AreStarts design source 0 []
no_starts design source = record {
  size = refl;
  least = λ g lt. absurd (omega arith);
  within = λ g le. (let e : g ≡ 0 = omega arith in subst (λ h. end_before design source [] h ≤ room_of design) (sym e) (omega arith));
}
