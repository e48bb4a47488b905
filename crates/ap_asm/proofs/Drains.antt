-- The drain of a program.
use Rattle.std.proofs.Common.{◌≡◌, ℕ, zero, suc, ◌+◌, ◌-◌, ◌<◌, ◌≤◌, max, Bool, true, false, List, [], ◌∷◌, ◌++◌, length, map, drop, get_or, take, Option, Some, None, refl, sym, ap, ◌∙◌, arith}
use Rattle.std.specs.Prelude.{IsSomeAnd, fold, if◌then◌else◌, option_map, slice_get}
use Rattle.std.specs.List.{AllByRecursion as Each}
use Rattle.std.specs.Option.{option_map_or}
use Rattle.std.proofs.lemmas.Bool.{cond-true}
use Rattle.std.proofs.lemmas.List.{map-append}
use Rattle.std.proofs.lemmas.Option.{get_or_from_slice_get, slice_get-map, slice_get_within}
use Rattle.ap_desc.specs.Clean.{IsClean}
use Rattle.ap_desc.specs.declared.design.Design.{Design}
use Rattle.ap_desc.specs.declared.design.Instr.{Instr}
use Rattle.ap_dist.specs.Distances.{instr_out}
use Rattle.ap_dist.specs.LeastStarts.{drain_of, drain_of_group, drain_of_line, drain_of_lines}
use Rattle.ap_dist.specs.Places.{does_transfer, lines_of_group}
use Rattle.ap_dist.specs.declared.source.Group.{Group}
use Rattle.ap_dist.specs.declared.source.Source.{Source}
use Rattle.ap_dist.specs.declared.source.SourceLine.{SourceLine}
use Rattle.ap_dist.proofs.Bounds.{instr_out_high}
use Rattle.ap_program.specs.Fits.{GroupFits, LineFits, SourceFits}
use Rattle.ap_asm.specs.Layouts.{out_at}
use Rattle.ap_asm.specs.LinePlaces.{out_of_line}
use Rattle.ap_asm.proofs.Besides.{drop_at, take_at}
use Rattle.ap_asm.proofs.Sizes.{slots_within}

-- the greatest distance from a line, by the list of those of all instructions
pub out_listed : (design : Design) (instrs : List Instr) (place : ℕ) → out_at (map (instr_out design) instrs) place ≡ option_map_or (instr_out design) (slice_get instrs place) 1
out_listed design instrs place = ap (λ o. option_map_or (λ (n : ℕ). n) o 1) (slice_get-map (instr_out design) instrs place) ∙ by (slice_get instrs place)
  where
    by : (o : Option Instr) → option_map_or (λ (n : ℕ). n) (option_map (instr_out design) o) 1 ≡ option_map_or (instr_out design) o 1
    by None = refl
    by (Some i) = refl

pub out_by_list : (design : Design) (outs : List ℕ) (line : SourceLine) → outs ≡ map (instr_out design) design.instrs → out_at outs line.instr ≡ out_of_line design line
out_by_list design outs line e = ap (λ os. out_at os line.instr) e ∙ out_listed design design.instrs line.instr

-- one line more of a group
pub drain_step : (design : Design) (lines : List SourceLine) (i after next most here : ℕ) (line : SourceLine) → i < length lines → line ≡ get_or lines i line → next ≡ after + 1 → here ≡ drain_of_line design after line
    → max (max most here) (drain_of_lines design next (drop (i + 1) lines)) ≡ max most (drain_of_lines design after (drop i lines))
drain_step design lines i after next most here line lt at e h =
    let whole : drain_of_lines design after (drop i lines) ≡ max (drain_of_line design after (get_or lines i line)) (drain_of_lines design (suc after) (drop (i + 1) lines)) = ap (drain_of_lines design after) (drop_at lines i line lt) in
    let first : drain_of_line design after (get_or lines i line) ≡ here = ap (drain_of_line design after) (sym at) ∙ sym h in
    let rest : drain_of_lines design next (drop (i + 1) lines) ≡ drain_of_lines design (suc after) (drop (i + 1) lines) = ap (λ n. drain_of_lines design n (drop (i + 1) lines)) (let z : next ≡ suc after = omega arith in z) in
    omega arith

-- one group more
pub fold_step : (f : Group → ℕ) (groups : List Group) (i most : ℕ) (x : Group) → i < length groups → x ≡ get_or groups i x
    → fold (λ n (g : Group). max n (f g)) (max most (f x)) (drop (i + 1) groups) ≡ fold (λ n (g : Group). max n (f g)) most (drop i groups)
fold_step f groups i most x lt at =
    ap (λ y. fold (λ n (g : Group). max n (f g)) (max most (f y)) (drop (i + 1) groups)) at ∙ sym (ap (fold (λ n (g : Group). max n (f g)) most) (drop_at groups i x lt))

-- the greatest of a list is no less than each, and no more than what each is no more than
fold_above : (f : Group → ℕ) (groups : List Group) (most : ℕ) → most ≤ fold (λ n (g : Group). max n (f g)) most groups
fold_above f [] most = omega arith
fold_above f (x ∷ groups) most = (let h = fold_above f groups (max most (f x)) in omega arith)

fold_each : (f : Group → ℕ) (groups : List Group) (most g : ℕ) (x : Group) → slice_get groups g ≡ Some x → f x ≤ fold (λ n (y : Group). max n (f y)) most groups
fold_each f [] most g x at = absurd cc
fold_each f (y ∷ groups) most zero x at = (let h = fold_above f groups (max most (f y)) in let e : f y ≡ f x = ap (λ o. option_map_or f o 0) at in omega arith)
fold_each f (y ∷ groups) most (suc g) x at = fold_each f groups (max most (f y)) g x at

fold_below : (f : Group → ℕ) (P : Group → Type 0) (bound : ℕ) → ((x : Group) → P x → f x ≤ bound) → (groups : List Group) (most : ℕ) → Each P groups → most ≤ bound → fold (λ n (g : Group). max n (f g)) most groups ≤ bound
fold_below f P bound h [] most each le = le
fold_below f P bound h (x ∷ groups) most each le = fold_below f P bound h groups (max most (f x)) each.1 (let one = h x each.0 in omega arith)

-- the same of the lines of a group
lines_each : (design : Design) (lines : List SourceLine) (after i : ℕ) (line : SourceLine) → slice_get lines i ≡ Some line → drain_of_line design (after + i) line ≤ drain_of_lines design after lines
lines_each design [] after i line at = absurd cc
lines_each design (x ∷ lines) after zero line at =
    let e : drain_of_line design (after + 0) line ≡ drain_of_line design after x = ap (λ n. drain_of_line design n line) (let z : after + 0 ≡ after = omega arith in z) ∙ sym (ap (λ o. option_map_or (drain_of_line design after) o 0) at) in
    omega arith
lines_each design (x ∷ lines) after (suc i) line at =
    let h = lines_each design lines (suc after) i line at in
    let e : drain_of_line design (after + suc i) line ≡ drain_of_line design (suc after + i) line = ap (λ n. drain_of_line design n line) (let z : after + suc i ≡ suc after + i = omega arith in z) in
    omega arith

lines_below : (design : Design) → IsClean design → (groups : ℕ) (lines : List SourceLine) (after : ℕ) → after + length lines ≤ design.branch + 1 → Each (LineFits design groups) lines → drain_of_lines design after lines ≤ design.stages
lines_below design clean groups [] after few each = omega arith
lines_below design clean groups (x ∷ lines) after few each =
    let f = each.0 in
    let high = instr_out_high design clean x.instr f.instr f.is_instr in
    let e : option_map_or (instr_out design) (slice_get design.instrs x.instr) 1 ≡ instr_out design f.instr = ap (λ o. option_map_or (instr_out design) o 1) f.is_instr in
    let h = lines_below design clean groups lines (suc after) (omega arith) each.1 in
    omega arith

-- each line of a transfer's group is far enough from a landing with its drain
pub drain_covers : (design : Design) (source : Source) (g i : ℕ) (x : Group) (line : SourceLine) → slice_get source.groups g ≡ Some x → does_transfer design x.first.instr ≡ true → slice_get (lines_of_group x) i ≡ Some line
    → out_of_line design line + i ≤ design.branch + 1 + drain_of design source
drain_covers design source g i x line at is there =
    let a = lines_each design (lines_of_group x) 0 i line there in
    let z : drain_of_line design (0 + i) line ≡ out_of_line design line + i - (design.branch + 1) = ap (λ n. drain_of_line design n line) (let y : 0 + i ≡ i = omega arith in y) in
    let e : drain_of_group design x ≡ drain_of_lines design 0 (lines_of_group x) = cond-true (does_transfer design x.first.instr) (drain_of_lines design 0 (lines_of_group x)) 0 is in
    let b = fold_each (drain_of_group design) source.groups 0 g x at in
    omega arith

pub drain_low : (design : Design) → IsClean design → (source : Source) → SourceFits design source → drain_of design source ≤ design.stages
drain_low design clean source fits = fold_below (drain_of_group design) (GroupFits design (length source.groups)) design.stages of_group source.groups 0 fits.groups (omega arith)
  where
    of_group : (x : Group) → GroupFits design (length source.groups) x → drain_of_group design x ≤ design.stages
    of_group x f = by (does_transfer design x.first.instr) f.room
      where
        by : (b : Bool) → length x.in_slots < (if b then design.slots + 1 else 1) → (if b then drain_of_lines design 0 (lines_of_group x) else 0) ≤ design.stages
        by true room = lines_below design clean (length source.groups) (lines_of_group x) 0 (let s = slots_within design clean in omega arith) (f.first, f.slots)
        by false room = omega arith

-- one instruction more
pub outs_more : (f : Instr → ℕ) (instrs : List Instr) (i r : ℕ) → IsSomeAnd (slice_get instrs i) (λ x. r ≡ f x) → map f (take i instrs) ++ r ∷ [] ≡ map f (take (i + 1) instrs)
outs_more f instrs i r h = by (slice_get instrs i) refl h
  where
    by : (o : Option Instr) → slice_get instrs i ≡ o → IsSomeAnd o (λ x. r ≡ f x) → map f (take i instrs) ++ r ∷ [] ≡ map f (take (i + 1) instrs)
    by None e g = absurd g
    by (Some x) e g =
        let lt = slice_get_within instrs i x e in
        ap (λ n. map f (take i instrs) ++ n ∷ []) (g ∙ ap f (sym (get_or_from_slice_get instrs i x x e))) ∙ sym (ap (map f) (take_at instrs i x lt) ∙ map-append f (take i instrs) (get_or instrs i x ∷ []))
