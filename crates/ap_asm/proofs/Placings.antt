-- Groups at their starts, one after the other.
use Rattle.std.proofs.Common.{◌≡◌, ℕ, suc, ◌+◌, ◌^◌, ◌<◌, ◌≤◌, Bool, true, false, List, [], ◌∷◌, ◌++◌, length, Some, refl, sym, ap, subst, ◌∙◌, arith}
use Rattle.std.specs.Prelude.{if◌then◌else◌, slice_get}
use Rattle.std.proofs.lemmas.List.{length-append}
use Rattle.std.proofs.lemmas.Option.{get_or_from_slice_get, same_Some, slice_get_within}
use Rattle.std.specs.List.{AllByRecursion as Each, slice_index_or}
use Rattle.ap_desc.specs.Clean.{IsClean}
use Rattle.ap_desc.specs.declared.design.Design.{Design}
use Rattle.ap_dist.specs.LeastStarts.{drain_of}
use Rattle.ap_dist.specs.Places.{does_transfer, end_before, group_length, is_landing, lines_of_group}
use Rattle.ap_dist.specs.declared.source.Group.{Group}
use Rattle.ap_dist.specs.declared.source.Source.{Source}
use Rattle.ap_dist.proofs.Matched.{each_from}
use Rattle.ap_program.specs.Fits.{SourceFits}
use Rattle.ap_program.specs.declared.fault.AsmFault.TheVariants.{At}
use Rattle.ap_program.specs.declared.fault.AsmKind.TheVariants as kind
use Rattle.ap_asm.specs.Behind.{AreBehindFrom, ArePlaced}
use Rattle.ap_asm.specs.Layouts.{ArePlacedGroups, AreStarts, HasNumbers, IsLayout, placed_from}
use Rattle.ap_asm.specs.LinePlaces.{IsLeastPlace, number_at, room_of}
use Rattle.ap_asm.specs.Standing.{IsFullFault}
use Rattle.ap_asm.specs.Words.{ArePlainWords, IsPlainWord}
use Rattle.ap_asm.specs.declared.placing.Layout.{Layout}
use Rattle.ap_asm.specs.declared.placing.Placed.{Placed}
use Rattle.ap_asm.proofs.Besides.{beside_left, beside_length}
use Rattle.ap_asm.proofs.Drains.{drain_low}
use Rattle.ap_asm.proofs.GroupLines.{end_same, group_fits, ends_rise, line_before_end}
use Rattle.ap_asm.proofs.PlacedLines.{groups_more, kept_below, last_index, order_more, still_placed}
use Rattle.ap_asm.proofs.Sizes.{branch_below, few_stages, room_low, slots_within}
use Rattle.ap_asm.proofs.Starting.{IsNextStart, end_more, first_from, full_image, least_more, no_starts, stacked_of, starts_more}

-- the groups so far stand at their least places, and their words are placed
pub record IsPlacing (design : Design) (source : Source) (count : ℕ) (starts : List ℕ) (end : ℕ) (placed : List Placed) : Type 0 where
  pub known : AreStarts design source count starts
  pub ends : end ≡ end_before design source starts count
  pub placed_in_order : ArePlaced design placed
  pub groups : ArePlacedGroups design source starts count placed

none_yet : (design : Design) (source : Source) → IsPlacing design source 0 [] 0 []
none_yet design source = record {
  known = no_starts design source;
  ends = refl;
  placed_in_order = record { order = λ j k one other le a b. absurd cc; near = λ k older at. absurd cc; outs = λ k older at. absurd cc };
  groups = record { only = λ k older at. absurd cc; all = λ g i line lt a. absurd (omega arith) };
}

pub placing_none : (design : Design) (source : Source) (starts : List ℕ) (placed : List Placed) → starts ≡ [] → placed ≡ [] → IsPlacing design source 0 starts 0 placed
placing_none design source starts placed a b = subst (λ s. IsPlacing design source 0 s 0 placed) (sym a) (subst (IsPlacing design source 0 [] 0) (sym b) (none_yet design source))

-- Sizes.

pub drain_small : (design : Design) → IsClean design → (layout : Layout) → IsLayout design layout → layout.drain < 2 ^ 20
drain_small design clean layout is = (let low = drain_low design clean layout.source is.fits in let few = few_stages design clean in let e = is.drain in omega arith)

pub end_small : (design : Design) → IsClean design → (source : Source) (count : ℕ) (starts : List ℕ) (end : ℕ) (placed : List Placed) → IsPlacing design source count starts end placed → end < 2 ^ 20
end_small design clean source count starts end placed p = (let top = p.known.within count (omega arith) in let low = room_low design clean in let e = p.ends in omega arith)

pub long_at_most : (design : Design) → IsClean design → (x : Group) → group_length design x ≤ 9
long_at_most design clean x = by (does_transfer design x.first.instr)
  where
    by : (b : Bool) → (if b then design.slots + 1 else 1) ≤ 9
    by true = (let a = slots_within design clean in let b = few_stages design clean in let c = branch_below design clean in omega arith)
    by false = omega arith

pub few_slots : (design : Design) → IsClean design → (source : Source) → SourceFits design source → Each (λ (g : Group). length g.in_slots < 2 ^ 31) source.groups
few_slots design clean source fits = each_from (λ (g : Group). length g.in_slots < 2 ^ 31) source.groups
    (λ g x at. let f = group_fits design source fits g x at in let room = f.room in let long = long_at_most design clean x in omega arith)

-- The words and the numbers of a group.

pub words_of : (design : Design) (layout : Layout) → IsLayout design layout → (n : ℕ) (x : Group) (words : List ℕ) → slice_get layout.source.groups n ≡ Some x → slice_get layout.words n ≡ Some words → ArePlainWords design x words
words_of design layout is n x words at there =
    let b = beside_left (ArePlainWords design) layout.source.groups layout.words is.words n x at in
    subst (ArePlainWords design x) (same_Some b.other words (sym b.is_there ∙ there)) b.holds

pub words_count : (design : Design) (layout : Layout) → IsLayout design layout → length layout.words ≡ length layout.source.groups
words_count design layout is = beside_length (ArePlainWords design) layout.source.groups layout.words is.words

pub numbers_count : (design : Design) (layout : Layout) → IsLayout design layout → length layout.numbers ≡ length layout.source.groups
numbers_count design layout is = beside_length HasNumbers layout.source.groups layout.numbers is.numbers

pub group_words_count : (design : Design) (x : Group) (words : List ℕ) → ArePlainWords design x words → length words ≡ length (lines_of_group x)
group_words_count design x words plain = beside_length (IsPlainWord design) (lines_of_group x) words plain

pub first_number : (design : Design) (layout : Layout) → IsLayout design layout → (n : ℕ) (x : Group) → slice_get layout.source.groups n ≡ Some x → 0 < length (slice_index_or layout.numbers n [])
first_number design layout is n x at =
    let b = beside_left HasNumbers layout.source.groups layout.numbers is.numbers n x at in
    let e : slice_index_or layout.numbers n [] ≡ b.other = get_or_from_slice_get layout.numbers n b.other [] b.is_there in
    let count = ap length e ∙ b.holds in
    omega arith

pub words_few : (design : Design) → IsClean design → (layout : Layout) → IsLayout design layout → (n : ℕ) (x : Group) (words : List ℕ) → slice_get layout.source.groups n ≡ Some x → slice_get layout.words n ≡ Some words → length words < 2 ^ 20
words_few design clean layout is n x words at there =
    let f = group_fits design layout.source is.fits n x at in
    let room = f.room in
    let long = long_at_most design clean x in
    let count = group_words_count design x words (words_of design layout is n x words at there) in
    omega arith

-- One group more.

pub record IsNext (design : Design) (layout : Layout) (count : ℕ) (starts : List ℕ) (end : ℕ) (placed : List Placed) (x : Group) (words : List ℕ) (start : ℕ) : Type 0 where
  pub is_layout : IsLayout design layout
  pub placing : IsPlacing design layout.source count starts end placed
  pub is_group : slice_get layout.source.groups count ≡ Some x
  pub is_words : slice_get layout.words count ≡ Some words
  pub low : first_from (is_landing design layout.source count) end layout.drain ≤ start
  pub behind : (place : ℕ) → start ≤ place → AreBehindFrom 0 design layout.drain words (does_transfer design x.first.instr) placed place
  pub least : (place : ℕ) → first_from (is_landing design layout.source count) end layout.drain ≤ place → AreBehindFrom 0 design layout.drain words (does_transfer design x.first.instr) placed place → start ≤ place

-- by what was found of the start
pub next_here : (design : Design) (layout : Layout) (count : ℕ) (starts : List ℕ) (end : ℕ) (placed : List Placed) (x : Group) (words : List ℕ) (start : ℕ) (shown : List Placed) → IsLayout design layout → IsPlacing design layout.source count starts end placed
    → slice_get layout.source.groups count ≡ Some x → slice_get layout.words count ≡ Some words → shown ≡ placed → first_from (is_landing design layout.source count) end layout.drain ≤ start
    → ((place : ℕ) → start ≤ place → AreBehindFrom 0 design layout.drain words (does_transfer design x.first.instr) shown place)
    → ((place : ℕ) → first_from (is_landing design layout.source count) end layout.drain ≤ place → AreBehindFrom 0 design layout.drain words (does_transfer design x.first.instr) shown place → start ≤ place)
    → IsNext design layout count starts end placed x words start
next_here design layout count starts end placed x words start shown is placing at there same low behind least = record {
  is_layout = is;
  placing = placing;
  is_group = at;
  is_words = there;
  low = low;
  behind = λ place le. subst (λ ps. AreBehindFrom 0 design layout.drain words (does_transfer design x.first.instr) ps place) same (behind place le);
  least = λ place le far. least place le (subst (λ ps. AreBehindFrom 0 design layout.drain words (does_transfer design x.first.instr) ps place) (sym same) far);
}

next_start : (design : Design) (layout : Layout) (count : ℕ) (starts : List ℕ) (end : ℕ) (placed : List Placed) (x : Group) (words : List ℕ) (start : ℕ) → IsNext design layout count starts end placed x words start
    → IsNextStart design layout.source starts count start x words placed
next_start design layout count starts end placed x words start n = record {
  low = subst (λ d. first_from (is_landing design layout.source count) (end_before design layout.source starts count) d ≤ start) n.is_layout.drain (subst (λ e. first_from (is_landing design layout.source count) e layout.drain ≤ start) n.placing.ends n.low);
  behind = λ place le. subst (λ d. AreBehindFrom 0 design d words (does_transfer design x.first.instr) placed place) n.is_layout.drain (n.behind place le);
  least = λ place le far. n.least place
      (subst (λ e. first_from (is_landing design layout.source count) e layout.drain ≤ place) (sym n.placing.ends) (subst (λ d. first_from (is_landing design layout.source count) (end_before design layout.source starts count) d ≤ place) (sym n.is_layout.drain) le))
      (subst (λ d. AreBehindFrom 0 design d words (does_transfer design x.first.instr) placed place) (sym n.is_layout.drain) far);
}

least_with : (design : Design) → IsClean design → (layout : Layout) (count : ℕ) (starts : List ℕ) (end : ℕ) (placed : List Placed) (x : Group) (words : List ℕ) (start : ℕ) → IsNext design layout count starts end placed x words start
    → (g : ℕ) → g < count + 1 → IsLeastPlace design layout.source (starts ++ start ∷ []) (drain_of design layout.source) g
least_with design clean layout count starts end placed x words start n =
    least_more design clean layout.source n.is_layout.fits starts count start x words placed n.placing.known n.is_group (words_of design layout n.is_layout count x words n.is_group n.is_words) n.placing.groups
    (next_start design layout count starts end placed x words start n)

-- it has no room
pub placing_full : (design : Design) → IsClean design → (layout : Layout) (count : ℕ) (starts : List ℕ) (end : ℕ) (placed : List Placed) (x : Group) (words : List ℕ) (start line : ℕ) → IsNext design layout count starts end placed x words start
    → room_of design < start + group_length design x → number_at layout.numbers count 0 ≡ Some line → IsFullFault design layout.source layout.numbers (At line kind.ImageFull)
placing_full design clean layout count starts end placed x words start line n beyond at = (
  refl,
  full_image design layout.source layout.numbers starts count start line n.placing.known (slice_get_within layout.source.groups count x n.is_group) (least_with design clean layout count starts end placed x words start n)
      (let e = end_more design layout.source starts count start x n.placing.known.size n.is_group in omega arith) at,
)

-- it has
placing_more : (design : Design) → IsClean design → (layout : Layout) (count : ℕ) (starts : List ℕ) (end : ℕ) (placed : List Placed) (x : Group) (words : List ℕ) (start : ℕ) → IsNext design layout count starts end placed x words start
    → start + group_length design x ≤ room_of design → IsPlacing design layout.source (count + 1) (starts ++ start ∷ []) (start + group_length design x) (placed ++ placed_from layout.outs start words (lines_of_group x))
placing_more design clean layout count starts end placed x words start n fits = record {
  known = known;
  ends = sym ends ∙ ap (end_before design layout.source (starts ++ start ∷ [])) (let z : suc count ≡ count + 1 = omega arith in z);
  placed_in_order = still_placed design clean layout.source n.is_layout.fits (starts ++ start ∷ []) (count + 1) (placed ++ placed_from layout.outs start words (lines_of_group x)) (stacked_of design layout.source (starts ++ start ∷ []) (count + 1) known)
      (let low = room_low design clean in omega arith) (λ g lt. known.within (suc g) (omega arith)) groups
      (order_more layout.outs start words (lines_of_group x) placed n.placing.placed_in_order.order before);
  groups = groups;
}
  where
    ends : end_before design layout.source (starts ++ start ∷ []) (suc count) ≡ start + group_length design x
    ends = end_more design layout.source starts count start x n.placing.known.size n.is_group

    known : AreStarts design layout.source (count + 1) (starts ++ start ∷ [])
    known = starts_more design layout.source starts count start n.placing.known (least_with design clean layout count starts end placed x words start n) (let e = ends in omega arith)
        (length-append starts (start ∷ []) ∙ ap (λ m. m + 1) n.placing.known.size)

    groups : ArePlacedGroups design layout.source (starts ++ start ∷ []) (count + 1) (placed ++ placed_from layout.outs start words (lines_of_group x))
    groups = groups_more design layout.source starts start count x words layout.outs placed n.placing.known.size n.is_group (words_of design layout n.is_layout count x words n.is_group n.is_words) n.is_layout.outs n.placing.groups

    before : (k : ℕ) (older : Placed) → slice_get placed k ≡ Some older → older.at ≤ start
    before k older at =
        let o = n.placing.groups.only k older at in
        let lt = line_before_end design layout.source starts n.is_layout.fits o.group o.number o.line o.is_line in
        let rise = ends_rise design layout.source starts count (stacked_of design layout.source starts count n.placing.known) (suc o.group) count (let early = o.early in omega arith) (omega arith) in
        let start_low = (least_with design clean layout count starts end placed x words start n count (omega arith)).may.behind in
        let same = end_same design layout.source starts (starts ++ start ∷ []) count (λ h l. kept_below starts start h (let size = n.placing.known.size in omega arith)) in
        let last = last_index starts start count n.placing.known.size in
        let p = o.is_placed.at in
        omega arith

pub placing_step : (design : Design) → IsClean design → (layout : Layout) (count : ℕ) (starts : List ℕ) (end : ℕ) (placed : List Placed) (x : Group) (words : List ℕ) (start next_end : ℕ) (next_starts : List ℕ) (next_placed : List Placed)
    → IsNext design layout count starts end placed x words start → next_end ≡ start + group_length design x → next_end ≤ room_of design → next_starts ≡ starts ++ start ∷ [] → next_placed ≡ placed ++ placed_from layout.outs start words (lines_of_group x)
    → IsPlacing design layout.source (count + 1) next_starts next_end next_placed
placing_step design clean layout count starts end placed x words start next_end next_starts next_placed n ends fits is_starts is_placed =
    subst (λ s. IsPlacing design layout.source (count + 1) s next_end next_placed) (sym is_starts)
    (subst (λ e. IsPlacing design layout.source (count + 1) (starts ++ start ∷ []) e next_placed) (sym ends)
    (subst (IsPlacing design layout.source (count + 1) (starts ++ start ∷ []) (start + group_length design x)) (sym is_placed) (placing_more design clean layout count starts end placed x words start n (omega arith))))
