-- One word more that stands far enough behind an older one.
use Rattle.std.proofs.Common.{◌≡◌, ℕ, ◌+◌, ◌-◌, ◌<◌, ◌≤◌, Bool, List, length, Some, sym, ap, subst, ◌∙◌, arith, ⊎_elim}
use Rattle.std.specs.Prelude.{slice_get}
use Rattle.std.proofs.lemmas.Bool.{cases_lt}
use Rattle.std.proofs.lemmas.Option.{same_Some, slice_get_within}
use Rattle.ap_desc.specs.Clean.{IsClean}
use Rattle.ap_desc.specs.declared.design.Design.{Design}
use Rattle.ap_dist.specs.Distances.{dist_of}
use Rattle.ap_dist.proofs.Bounds.{dist_high}
use Rattle.ap_asm.specs.Behind.{AreBehindFrom, ArePlaced, FirstBehindWord, IsBehind, IsBehindWord}
use Rattle.ap_asm.specs.declared.placing.Placed.{Placed}

pub behind_none : (design : Design) (older at : ℕ) (words : List ℕ) (place : ℕ) → FirstBehindWord 0 design older at words place
behind_none design older at words place j word lt there = absurd (omega arith)

pub behind_more : (design : Design) (older at : ℕ) (words : List ℕ) (place i word : ℕ) → FirstBehindWord i design older at words place → slice_get words i ≡ Some word → at + dist_of design older word - i ≤ place → FirstBehindWord (i + 1) design older at words place
behind_more design older at words place i word h there le j other lt at_j = ⊎_elim
    (λ early. h j other early at_j)
    (λ late.
    let same : j ≡ i = omega arith in
    let is : word ≡ other = same_Some word other (sym there ∙ ap (slice_get words) (sym same) ∙ at_j) in
    let here : dist_of design older other ≡ dist_of design older word = ap (dist_of design older) (sym is) in
    omega arith)
    (cases_lt j i)

pub behind_less : (design : Design) (older at : ℕ) (words : List ℕ) (place i word : ℕ) → FirstBehindWord (i + 1) design older at words place → slice_get words i ≡ Some word → FirstBehindWord i design older at words place × (at + dist_of design older word - i ≤ place)
behind_less design older at words place i word h there = (λ j other lt at_j. h j other (omega arith) at_j, let le = h i word (omega arith) there in omega arith)

pub behind_all : (design : Design) (older at : ℕ) (words : List ℕ) (place i : ℕ) → i ≡ length words → FirstBehindWord i design older at words place → IsBehindWord design older at words place
behind_all design older at words place i e h j word there = h j word (let lt = slice_get_within words j word there in omega arith) there

pub all_behind : (design : Design) (older at : ℕ) (words : List ℕ) (place i : ℕ) → IsBehindWord design older at words place → FirstBehindWord i design older at words place
all_behind design older at words place i h j word lt there = h j word there

-- a placed word that is so far before the end asks for nothing, and so do those before it
far_word : (design : Design) → IsClean design → (drain : ℕ) (words : List ℕ) (transfers : Bool) (older : Placed) (end place : ℕ) → older.out < design.stages → older.at + design.stages ≤ end → end ≤ place → IsBehind design drain words transfers older place
far_word design clean drain words transfers older end place out far le = record {
  apart = λ j word at. let d = dist_high design clean older.word word in omega arith;
  taken = λ yes. omega arith;
}

pub all_far : (design : Design) → IsClean design → (drain : ℕ) (words : List ℕ) (transfers : Bool) (placed : List Placed) (k end place : ℕ) (here : Placed) → ArePlaced design placed → slice_get placed k ≡ Some here → here.at + design.stages ≤ end → end ≤ place
    → AreBehindFrom (k + 1) design drain words transfers placed place → AreBehindFrom 0 design drain words transfers placed place
all_far design clean drain words transfers placed k end place here p there far le later j older from at = ⊎_elim
    (λ early. let order = p.order j k older here (omega arith) at there in far_word design clean drain words transfers older end place (p.outs j older at) (omega arith) le)
    (λ late. later j older (omega arith) at)
    (cases_lt j (k + 1))

pub from_more : (design : Design) (drain : ℕ) (words : List ℕ) (transfers : Bool) (placed : List Placed) (k place : ℕ) (here : Placed) → slice_get placed k ≡ Some here → IsBehind design drain words transfers here place
    → AreBehindFrom (k + 1) design drain words transfers placed place → AreBehindFrom k design drain words transfers placed place
from_more design drain words transfers placed k place here there is later j older from at = ⊎_elim
    (λ early.
    let same : j ≡ k = omega arith in
    let one : here ≡ older = same_Some here older (sym there ∙ ap (slice_get placed) (sym same) ∙ at) in
    subst (λ (o : Placed). IsBehind design drain words transfers o place) one is)
    (λ late. later j older (omega arith) at)
    (cases_lt j (k + 1))

pub from_less : (design : Design) (drain : ℕ) (words : List ℕ) (transfers : Bool) (placed : List Placed) (k place : ℕ) → AreBehindFrom k design drain words transfers placed place → AreBehindFrom (k + 1) design drain words transfers placed place
from_less design drain words transfers placed k place h j older from at = h j older (omega arith) at

pub from_end : (design : Design) (drain : ℕ) (words : List ℕ) (transfers : Bool) (placed : List Placed) (k place : ℕ) → length placed ≤ k → AreBehindFrom k design drain words transfers placed place
from_end design drain words transfers placed k place le j older from at = absurd (let lt = slice_get_within placed j older at in omega arith)
