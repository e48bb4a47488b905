-- The row of an instruction at the start of a stage.
use Rattle.std.proofs.Common.{◌≡◌, ◌≢◌, ℕ, zero, suc, ◌<◌, List, ◌++◌, length, replicate, Option, Some, None, inl, inr, refl, sym, ◌∙◌, arith}
use Rattle.std.specs.Prelude.{◌⊎◌, slice_get}
use Rattle.std.specs.List.{AllByRecursion as Each}
use Rattle.ap_net.specs.declared.cell.Wire.{Wire}
use Rattle.ap_net.specs.Draft.{Draft}
use Rattle.ap_net.specs.Making.{Makes}
use Rattle.ap_net.specs.Pending.{Among, IsFrom}
use Rattle.ap_net.specs.Ready.{numbers}
use Rattle.ap_net.proofs.Laws.{Carries-Makes, Makes-trans}
use Rattle.ap_stage.specs.declared.row.Line.{Line}
use Rattle.ap_stage.specs.declared.slot.Stored.{Stored}
use Rattle.ap_stage.specs.declared.source.Ground.{Ground}
use Rattle.ap_stage.specs.declared.source.Scope.{Scope}
use Rattle.ap_stage.specs.Reads.{AreFrom}
use Rattle.ap_stage.specs.Rows.{AreClosed, AreLines, AreMade, IsLine, Keeps, MakesNone, StaysElse, StaysLow}
use Rattle.ap_stage.specs.Slots.{FromSlots, HasStored, IsUnstored, slot_numbers}
use Rattle.ap_stage.specs.Sources.{IsRow, row_numbers, source_numbers}
use Rattle.ap_stage.specs.Trees.{IsShallow}
use Rattle.ap_stage.proofs.Followed.{each_some, from_later, reads_fewer}
use Rattle.ap_stage.proofs.Listed.{among_left, among_right, among_split, each_among, each_at, each_by_place}
use Rattle.ap_stage.proofs.Shallow.{shallow_on}
use Rattle.ap_course.specs.Starts.{IsStartRow, sources, start_numbers}

-- a net of a stage, or one of these
pub source_part : (ground : Ground) (more : List ℕ) (n : ℕ) → Among (sources ground more) n → Among more n ⊎ ((other : List ℕ) → Among (sources ground other) n)
source_part ground more n (inl e) = inr (λ other. inl e)
source_part ground more n (inr (inl e)) = inr (λ other. inr (inl e))
source_part ground more n (inr (inr (inl e))) = inr (λ other. inr (inr (inl e)))
source_part ground more n (inr (inr (inr h))) = rest (among_split (numbers ground.regs) (numbers ground.inputs ++ more) n h)
  where
    inner : Among (numbers ground.inputs) n ⊎ Among more n → Among more n ⊎ ((other : List ℕ) → Among (sources ground other) n)
    inner (inl h) = inr (λ other. inr (inr (inr (among_right (numbers ground.regs) (numbers ground.inputs ++ other) n (among_left (numbers ground.inputs) other n h)))))
    inner (inr h) = inl h

    rest : Among (numbers ground.regs) n ⊎ Among (numbers ground.inputs ++ more) n → Among more n ⊎ ((other : List ℕ) → Among (sources ground other) n)
    rest (inl h) = inr (λ other. inr (inr (inr (among_left (numbers ground.regs) (numbers ground.inputs ++ other) n h))))
    rest (inr h) = inner (among_split (numbers ground.inputs) more n h)

pub source_more : (ground : Ground) (more : List ℕ) (n : ℕ) → Among more n → Among (sources ground more) n
source_more ground more n h = inr (inr (inr (among_right (numbers ground.regs) (numbers ground.inputs ++ more) n (among_right (numbers ground.inputs) more n h))))

get_none : {X : Type 0} (n i : ℕ) (x : X) → i < n → slice_get (replicate n x) i ≡ Some x
get_none zero i x low = absurd (omega arith)
get_none (suc n) zero x low = refl
get_none (suc n) (suc i) x low = get_none n i x (omega arith)

module _ (a b : Draft) (ground : Ground) (scope : Scope) (lines : List Line) (stored : List Stored) (row : List (Option Wire)) (slots : FromSlots stored a (replicate (length scope.widths) None) b row) (are : AreLines ground scope lines)
    (apart : Each (λ (s : Stored). MakesNone lines s.local) stored) where
  other_none : (local : ℕ) → local < length scope.widths → IsUnstored stored local → slice_get row local ≡ Some None
  other_none local low none = slots.others local none ∙ get_none (length scope.widths) local None low

  line_unstored : (k : ℕ) (l : Line) → slice_get lines k ≡ Some l → IsUnstored stored l.local
  line_unstored k l at = each_by_place (λ (s : Stored). l.local ≢ s.local) stored (λ j s there e. each_at (λ (s : Stored). MakesNone lines s.local) stored j s apart there k l at (sym e))

  pub none_made : AreMade b ground scope row lines
  none_made k l w at has =
      let none : Some None ≡ Some (Some w) = sym (other_none l.local (each_at (IsLine ground scope) lines k l are.each at).local (line_unstored k l at)) ∙ has in
      absurd cc

  from_start : AreFrom (start_numbers ground stored) a b (source_numbers ground row)
  from_start = record {
    reads = reads_fewer (start_numbers ground stored) (slot_numbers stored) a b (source_more ground (slot_numbers stored)) slots.from.reads;
    results = each_some (IsFrom (start_numbers ground stored) a b) (source_numbers ground row) (λ n h. go n (source_part ground (row_numbers row) n h));
  }
    where
      of_slots : (n : ℕ) → IsFrom (slot_numbers stored) a b n → IsFrom (start_numbers ground stored) a b n
      of_slots n (inl h) = inl (source_more ground (slot_numbers stored) n h)
      of_slots n (inr h) = inr h

      go : (n : ℕ) → Among (row_numbers row) n ⊎ ((other : List ℕ) → Among (sources ground other) n) → IsFrom (start_numbers ground stored) a b n
      go n (inl h) = of_slots n (each_among (IsFrom (slot_numbers stored) a b) (row_numbers row) slots.from.results n h)
      go n (inr all) = inl (all (slot_numbers stored))

  low_start : Each (IsShallow a 0) (start_numbers ground stored) → Each (IsShallow b 0) (source_numbers ground row)
  low_start each = each_some (IsShallow b 0) (source_numbers ground row) (λ n h. go n (source_part ground (row_numbers row) n h))
    where
      go : (n : ℕ) → Among (row_numbers row) n ⊎ ((other : List ℕ) → Among (sources ground other) n) → IsShallow b 0 n
      go n (inl h) =
          each_among (IsShallow b 0) (row_numbers row)
          (slots.low 0 (each_some (IsShallow a 0) (slot_numbers stored) (λ m s. each_among (IsShallow a 0) (start_numbers ground stored) each m (source_more ground (slot_numbers stored) m s)))) n h
      go n (inr all) = shallow_on a b 0 n slots.from.reads.extends (each_among (IsShallow a 0) (start_numbers ground stored) each n (all (slot_numbers stored)))

  pub is_start : (c : Draft) (swept : List (Option Wire)) → Makes a b → Makes b c → ((k : ℕ) (s : Stored) → slice_get stored k ≡ Some s → HasStored b scope row s) → IsRow c.nets scope swept → AreMade c ground scope swept lines → AreClosed swept lines (length lines)
      → Keeps row swept → StaysElse lines row swept → StaysLow ground b row c swept → AreFrom (source_numbers ground row) b c (source_numbers ground swept) → IsStartRow a c ground scope lines stored swept
  is_start c swept first second has row_is made closed keeps stays low from = record {
    row_is = row_is;
    made = made;
    closed = closed;
    has = λ k s at. (let h = has k s at in record { net = h.net; at = keeps.kept s.local h.net h.at; carries = Carries-Makes second h.carries });
    others = λ local inside none free. stays local free ∙ other_none local inside none;
    from = from_later (start_numbers ground stored) (source_numbers ground row) (source_numbers ground swept) a b c from_start from;
    low = λ each. low 0 (low_start each);
    makes = Makes-trans a b c first second;
  }
