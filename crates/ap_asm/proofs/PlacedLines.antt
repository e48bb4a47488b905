-- Placed words and the lines that they are of.
use Rattle.std.proofs.Common.{◌≡◌, ℕ, zero, suc, ◌+◌, ◌-◌, ◌^◌, ◌<◌, ◌≤◌, false, List, [], ◌∷◌, ◌++◌, length, map, Some, refl, sym, ap, subst, ◌∙◌, arith, ⊎_elim}
use Rattle.std.specs.Prelude.{IsTrue, slice_get, slice_index}
use Rattle.std.specs.Option.{option_map_or}
use Rattle.std.proofs.Math.ListN.{get_or-append}
use Rattle.std.proofs.Math.Seq.{get_or-append_seam}
use Rattle.std.proofs.lemmas.Bool.{cases_lt}
use Rattle.std.proofs.lemmas.Option.{same_Some, slice_get_within}
use Rattle.ap_desc.specs.Clean.{IsClean}
use Rattle.ap_desc.specs.declared.design.Design.{Design}
use Rattle.ap_dist.specs.Distances.{instr_out}
use Rattle.ap_dist.specs.Places.{does_transfer, end_before, is_landing, line_at, lines_of_group}
use Rattle.ap_dist.specs.declared.source.Group.{Group}
use Rattle.ap_dist.specs.declared.source.Source.{Source}
use Rattle.ap_dist.specs.declared.source.SourceLine.{SourceLine}
use Rattle.ap_dist.proofs.Bounds.{instr_out_high}
use Rattle.ap_program.specs.Fits.{SourceFits}
use Rattle.ap_asm.specs.Behind.{AreBehindFrom, ArePlaced}
use Rattle.ap_asm.specs.Layouts.{ArePlacedGroups, IsAmong, IsOfGroup, IsPlacedLine, out_at, placed_from}
use Rattle.ap_asm.specs.LinePlaces.{MayStand, out_of_line, room_of}
use Rattle.ap_asm.specs.Words.{ArePlainWords, IsPlainWord}
use Rattle.ap_asm.specs.declared.placing.Placed.{Placed}
use Rattle.ap_asm.proofs.Besides.{beside_left, beside_right}
use Rattle.ap_asm.proofs.Drains.{out_listed}
use Rattle.ap_asm.proofs.GroupLines.{AreStacked, IsSameBelow, line_before_end, line_fits, line_from, line_in}
use Rattle.ap_asm.proofs.LineDistances.{line_distance}

-- Lists with more at the end.

pub kept_below : (xs : List ℕ) (x : ℕ) → IsSameBelow xs (xs ++ x ∷ []) (length xs)
kept_below xs x h lt = sym (get_or-append xs (x ∷ []) 0 h lt)

pub last_index : (xs : List ℕ) (x n : ℕ) → length xs ≡ n → slice_index (xs ++ x ∷ []) n ≡ x
last_index xs x n e = ap (slice_index (xs ++ x ∷ [])) (sym e) ∙ get_or-append_seam xs x [] 0

front_get : {X : Type 0} (xs ys : List X) (k : ℕ) → k < length xs → slice_get (xs ++ ys) k ≡ slice_get xs k
front_get [] ys k lt = absurd (omega arith)
front_get (x ∷ xs) ys zero lt = refl
front_get (x ∷ xs) ys (suc k) lt = front_get xs ys k (omega arith)

back_get : {X : Type 0} (xs ys : List X) (k : ℕ) → slice_get (xs ++ ys) (length xs + k) ≡ slice_get ys k
back_get [] ys k = ap (slice_get ys) (let e : 0 + k ≡ k = omega arith in e)
back_get (x ∷ xs) ys k = ap (slice_get (x ∷ (xs ++ ys))) (let e : suc (length xs) + k ≡ suc (length xs + k) = omega arith in e) ∙ back_get xs ys k

-- what is at a place of the whole is in front or behind
record IsBehindFront {X : Type 0} (xs ys : List X) (k : ℕ) (x : X) : Type 0 where
  place : ℕ
  at : k ≡ length xs + place
  there : slice_get ys place ≡ Some x

behind_front : {X : Type 0} (xs ys : List X) (k : ℕ) (x : X) → length xs ≤ k → slice_get (xs ++ ys) k ≡ Some x → IsBehindFront xs ys k x
behind_front xs ys k x le e =
    let same : k ≡ length xs + (k - length xs) = omega arith in
    record { place = k - length xs; at = same; there = sym (back_get xs ys (k - length xs)) ∙ ap (slice_get (xs ++ ys)) (sym same) ∙ e }

-- The words of one more group.

record IsFrom (outs : List ℕ) (at : ℕ) (words : List ℕ) (lines : List SourceLine) (k : ℕ) (older : Placed) : Type 0 where
  line : SourceLine
  is_line : slice_get lines k ≡ Some line
  is_word : slice_get words k ≡ Some older.word
  place : older.at ≡ at + k
  out : older.out ≡ out_at outs line.instr

from_at : (outs : List ℕ) (at : ℕ) (words : List ℕ) (lines : List SourceLine) (k : ℕ) (older : Placed) → slice_get (placed_from outs at words lines) k ≡ Some older → IsFrom outs at words lines k older
from_at outs at [] lines k older e = absurd cc
from_at outs at (w ∷ words) [] k older e = absurd cc
from_at outs at (w ∷ words) (l ∷ lines) zero older e =
    let same = same_Some _ older e in
    record { line = l; is_line = refl; is_word = ap (λ (p : Placed). Some p.word) same; place = ap (λ (p : Placed). p.at) (sym same) ∙ (let z : at ≡ at + 0 = omega arith in z); out = ap (λ (p : Placed). p.out) (sym same) }
from_at outs at (w ∷ words) (l ∷ lines) (suc k) older e =
    let f = from_at outs (at + 1) words lines k older e in
    record { line = f.line; is_line = f.is_line; is_word = f.is_word; place = f.place ∙ (let z : (at + 1) + k ≡ at + suc k = omega arith in z); out = f.out }

to_at : (outs : List ℕ) (at : ℕ) (words : List ℕ) (lines : List SourceLine) (k word : ℕ) (line : SourceLine) → slice_get lines k ≡ Some line → slice_get words k ≡ Some word
    → slice_get (placed_from outs at words lines) k ≡ Some (record { at = at + k; word = word; out = out_at outs line.instr })
to_at outs at [] lines k word line l w = absurd cc
to_at outs at (v ∷ words) [] k word line l w = absurd cc
to_at outs at (v ∷ words) (x ∷ lines) zero word line l w =
    ap (λ n. Some (record { at = n; word = v; out = out_at outs x.instr })) (let z : at ≡ at + 0 = omega arith in z)
    ∙ ap (λ n. Some (record { at = at + 0; word = n; out = out_at outs x.instr })) (same_Some v word w)
    ∙ ap (λ (y : SourceLine). Some (record { at = at + 0; word = word; out = out_at outs y.instr })) (same_Some x line l)
to_at outs at (v ∷ words) (x ∷ lines) (suc k) word line l w =
    to_at outs (at + 1) words lines k word line l w ∙ ap (λ n. Some (record { at = n; word = word; out = out_at outs line.instr })) (let z : (at + 1) + k ≡ at + suc k = omega arith in z)

-- From placed words to lines and back.

-- where words are behind the placed ones, their lines may stand
pub may_stand : (design : Design) → IsClean design → (source : Source) → SourceFits design source → (starts : List ℕ) (drain g place : ℕ) (x : Group) (words : List ℕ) (placed : List Placed)
    → slice_get source.groups g ≡ Some x → ArePlainWords design x words → ArePlacedGroups design source starts g placed
    → end_before design source starts g ≤ place → (IsTrue (is_landing design source g) → end_before design source starts g + drain ≤ place)
    → AreBehindFrom 0 design drain words (does_transfer design x.first.instr) placed place → MayStand design source starts drain g place
may_stand design clean source fits starts drain g place x words placed is_group plain groups behind drained far = record {
  behind = behind;
  drained = drained;
  apart = λ h i j older younger lt a b.
      let among = groups.all h i older lt a in
      let word = beside_left (IsPlainWord design) (lines_of_group x) words plain j younger (line_in source g j x younger is_group b) in
      let e = line_distance design clean (length source.groups) [] older younger among.older.word word.other (line_fits design source fits h i older a) (line_fits design source fits g j younger b) among.is_placed.word word.holds in
      let le = (far among.place among.older (omega arith) among.is_there).apart j word.other word.is_there in
      let at = among.is_placed.at in
      omega arith;
  taken = λ h i older lt a is.
      let among = groups.all h i older lt a in
      let le = (far among.place among.older (omega arith) among.is_there).taken (sym (ap (λ o. option_map_or (λ (y : Group). does_transfer design y.first.instr) o false) is_group) ∙ is) in
      let at = among.is_placed.at in
      let out = among.is_placed.out in
      omega arith;
}

-- and where lines may stand, their words are behind the placed ones
pub stands_behind : (design : Design) → IsClean design → (source : Source) → SourceFits design source → (starts : List ℕ) (drain g place : ℕ) (x : Group) (words : List ℕ) (placed : List Placed)
    → slice_get source.groups g ≡ Some x → ArePlainWords design x words → ArePlacedGroups design source starts g placed
    → MayStand design source starts drain g place → AreBehindFrom 0 design drain words (does_transfer design x.first.instr) placed place
stands_behind design clean source fits starts drain g place x words placed is_group plain groups may k older low at = record {
  apart = λ j word there.
      let line = beside_right (IsPlainWord design) (lines_of_group x) words plain j word there in
      let b = line_from source g j x line.other is_group line.is_there in
      let e = line_distance design clean (length source.groups) [] of.line line.other older.word word (line_fits design source fits of.group of.number of.line of.is_line) (line_fits design source fits g j line.other b) of.is_placed.word line.holds in
      let le = may.apart of.group of.number j of.line line.other of.early of.is_line b in
      let place_of = of.is_placed.at in
      omega arith;
  taken = λ is.
      let le = may.taken of.group of.number of.line of.early of.is_line (ap (λ o. option_map_or (λ (y : Group). does_transfer design y.first.instr) o false) is_group ∙ is) in
      let place_of = of.is_placed.at in
      let out = of.is_placed.out in
      omega arith;
}
  where
    of : IsOfGroup design source starts g older
    of = groups.only k older at

-- The placed words with those of one more group.

pub groups_more : (design : Design) (source : Source) (starts : List ℕ) (start n : ℕ) (x : Group) (words outs : List ℕ) (placed : List Placed)
    → length starts ≡ n → slice_get source.groups n ≡ Some x → ArePlainWords design x words → outs ≡ map (instr_out design) design.instrs → ArePlacedGroups design source starts n placed
    → ArePlacedGroups design source (starts ++ start ∷ []) (n + 1) (placed ++ placed_from outs start words (lines_of_group x))
groups_more design source starts start n x words outs placed size is_group plain listed groups = record { only = only; all = all }
  where
    new : List Placed
    new = placed_from outs start words (lines_of_group x)

    kept : IsSameBelow starts (starts ++ start ∷ []) n
    kept h lt = kept_below starts start h (omega arith)

    same_line : (h i : ℕ) (line : SourceLine) (older : Placed) → h < n → IsPlacedLine design starts h i line older → IsPlacedLine design (starts ++ start ∷ []) h i line older
    same_line h i line older lt p = record { at = p.at ∙ ap (λ m. m + i) (kept h lt); word = p.word; out = p.out }

    only : (k : ℕ) (older : Placed) → slice_get (placed ++ placed_from outs start words (lines_of_group x)) k ≡ Some older → IsOfGroup design source (starts ++ start ∷ []) (n + 1) older
    only k older e = ⊎_elim
        (λ early.
        let o = groups.only k older (sym (front_get placed (placed_from outs start words (lines_of_group x)) k early) ∙ e) in
        record { group = o.group; number = o.number; line = o.line; early = (let lt = o.early in omega arith); is_line = o.is_line; is_placed = same_line o.group o.number o.line older o.early o.is_placed })
        (λ late.
        let b = behind_front placed (placed_from outs start words (lines_of_group x)) k older late e in
        let f = from_at outs start words (lines_of_group x) b.place older b.there in
        let r = beside_left (IsPlainWord design) (lines_of_group x) words plain b.place f.line f.is_line in
        record {
          group = n;
          number = b.place;
          line = f.line;
          early = omega arith;
          is_line = line_from source n b.place x f.line is_group f.is_line;
          is_placed = record {
            at = f.place ∙ ap (λ m. m + b.place) (sym (last_index starts start n size));
            word = subst (IsPlainWord design f.line) (same_Some r.other older.word (sym r.is_there ∙ f.is_word)) r.holds;
            out = f.out ∙ ap (λ os. out_at os f.line.instr) listed ∙ out_listed design design.instrs f.line.instr;
          };
        })
        (cases_lt k (length placed))

    all : (h i : ℕ) (line : SourceLine) → h < n + 1 → line_at source h i ≡ Some line → IsAmong design (starts ++ start ∷ []) h i line (placed ++ placed_from outs start words (lines_of_group x))
    all h i line lt a = ⊎_elim
        (λ early.
        let m = groups.all h i line early a in
        record { place = m.place; older = m.older; is_there = front_get placed (placed_from outs start words (lines_of_group x)) m.place (slice_get_within placed m.place m.older m.is_there) ∙ m.is_there; is_placed = same_line h i line m.older early m.is_placed })
        (λ late.
        let e : h ≡ n = omega arith in
        let a2 : line_at source n i ≡ Some line = ap (λ g. line_at source g i) (sym e) ∙ a in
        let l = line_in source n i x line is_group a2 in
        let r = beside_left (IsPlainWord design) (lines_of_group x) words plain i line l in
        record {
          place = length placed + i;
          older = record { at = start + i; word = r.other; out = out_at outs line.instr };
          is_there = back_get placed (placed_from outs start words (lines_of_group x)) i ∙ to_at outs start words (lines_of_group x) i r.other line l r.is_there;
          is_placed = record {
            at = ap (λ m. m + i) (sym (ap (slice_index (starts ++ start ∷ [])) e ∙ last_index starts start n size));
            word = r.holds;
            out = ap (λ os. out_at os line.instr) listed ∙ out_listed design design.instrs line.instr;
          };
        })
        (cases_lt h n)

-- they stand in order, at addresses, and their greatest distances are less than the number of stages
pub still_placed : (design : Design) → IsClean design → (source : Source) → SourceFits design source → (starts : List ℕ) (count : ℕ) (placed : List Placed) → AreStacked design source starts count → room_of design < 2 ^ 20
    → ((g : ℕ) → g < count → end_before design source starts (suc g) ≤ room_of design) → ArePlacedGroups design source starts count placed
    → ((j k : ℕ) (one other : Placed) → j ≤ k → slice_get placed j ≡ Some one → slice_get placed k ≡ Some other → one.at ≤ other.at) → ArePlaced design placed
still_placed design clean source fits starts count placed stacked room within groups order = record {
  order = order;
  near = λ k older at.
      let o = groups.only k older at in
      let lt = line_before_end design source starts fits o.group o.number o.line o.is_line in
      let top = within o.group o.early in
      let p = o.is_placed.at in
      omega arith;
  outs = λ k older at.
      let o = groups.only k older at in
      let f = line_fits design source fits o.group o.number o.line o.is_line in
      let high = instr_out_high design clean o.line.instr f.instr f.is_instr in
      let e : out_of_line design o.line ≡ instr_out design f.instr = ap (λ i. option_map_or (instr_out design) i 1) f.is_instr in
      let p = o.is_placed.out in
      omega arith;
}

pub order_more : (outs : List ℕ) (start : ℕ) (words : List ℕ) (lines : List SourceLine) (placed : List Placed) → ((j k : ℕ) (one other : Placed) → j ≤ k → slice_get placed j ≡ Some one → slice_get placed k ≡ Some other → one.at ≤ other.at)
    → ((k : ℕ) (older : Placed) → slice_get placed k ≡ Some older → older.at ≤ start) → (j k : ℕ) (one other : Placed) → j ≤ k
    → slice_get (placed ++ placed_from outs start words lines) j ≡ Some one → slice_get (placed ++ placed_from outs start words lines) k ≡ Some other → one.at ≤ other.at
order_more outs start words lines placed order low j k one other le a b = ⊎_elim
    (λ early.
    let a2 = sym (front_get placed (placed_from outs start words lines) j early) ∙ a in
    ⊎_elim
    (λ both. order j k one other le a2 (sym (front_get placed (placed_from outs start words lines) k both) ∙ b))
    (λ late.
    let q = behind_front placed (placed_from outs start words lines) k other late b in
    let f = from_at outs start words lines q.place other q.there in
    let l = low j one a2 in
    let p = f.place in
    omega arith)
    (cases_lt k (length placed)))
    (λ late.
    let q = behind_front placed (placed_from outs start words lines) j one late a in
    let f = from_at outs start words lines q.place one q.there in
    let q2 = behind_front placed (placed_from outs start words lines) k other (omega arith) b in
    let f2 = from_at outs start words lines q2.place other q2.there in
    let p = f.place in
    let p2 = f2.place in
    let e = q.at in
    let e2 = q2.at in
    omega arith)
    (cases_lt j (length placed))
