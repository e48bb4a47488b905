-- What a selection takes, asks and goes over, by its answers.
use Rattle.std.proofs.Common.{◌≡◌, ℕ, ◌+◌, ◌==◌, ◌&&◌, nat_lt, max, Bool, true, if◌then◌else◌, ap, sym, ◌∙◌}
use Rattle.ap_merge.specs.declared.table.Select.{Select, Ask, Take}
use Rattle.ap_merge.specs.declared.table.Select.TheOpen.{Select-F}
use Rattle.ap_merge.specs.declared.table.Select.TheOpen as level
use Rattle.ap_merge.specs.declared.table.Select.TheViews.{roll-Select, rolls-Ask, rolls-Take}
use Rattle.ap_merge.specs.declared.table.Select.TheFolds.{fold-roll-Select}
use Rattle.ap_merge.specs.Selects.{Span, depth, is_any_on, level_depth, level_place, level_span, selected, span_of}

pub selected-take : (on : ℕ → Bool) (place : ℕ) → selected on (Take place) ≡ place
unfolding selected
selected-take on place = ap (selected on) (sym (rolls-Take place)) ∙ fold-roll-Select ℕ (level_place on) (level.Take place)

pub selected-ask : (on : ℕ → Bool) (from to : ℕ) (one other : Select) → selected on (Ask from to one other) ≡ (if is_any_on on from to then selected on one else selected on other)
unfolding selected
selected-ask on from to one other = ap (selected on) (sym (rolls-Ask from to one other)) ∙ fold-roll-Select ℕ (level_place on) (level.Ask from to one other)

pub depth-take : (place : ℕ) → depth (Take place) ≡ 0
unfolding depth
depth-take place = ap depth (sym (rolls-Take place)) ∙ fold-roll-Select ℕ level_depth (level.Take place)

pub depth-ask : (from to : ℕ) (one other : Select) → depth (Ask from to one other) ≡ max (depth one) (depth other) + 1
unfolding depth
depth-ask from to one other = ap depth (sym (rolls-Ask from to one other)) ∙ fold-roll-Select ℕ level_depth (level.Ask from to one other)

pub span-take : (place : ℕ) → span_of (Take place) ≡ record { first = place; past = place + 1; joined = true }
unfolding span_of
span-take place = ap span_of (sym (rolls-Take place)) ∙ fold-roll-Select Span level_span (level.Take place)

pub span-ask : (from to : ℕ) (one other : Select)
    → span_of (Ask from to one other) ≡ record {
      first = from;
      past = (span_of other).past;
      joined = ((span_of one).first == from) && ((span_of one).past == to) && ((span_of other).first == to) && nat_lt from to && nat_lt to (span_of other).past && (span_of one).joined && (span_of other).joined;
    }
unfolding span_of
span-ask from to one other = ap span_of (sym (rolls-Ask from to one other)) ∙ fold-roll-Select Span level_span (level.Ask from to one other)
