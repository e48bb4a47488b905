-- Stages that are made one after another.
use Rattle.std.proofs.Common.{◌≡◌, ℕ, ◌+◌, ◌-◌, ◌<◌, ◌≤◌, List, [], ◌∷◌, ◌++◌, get_or, length, Some, inl, inr, refl, sym, ap, subst, ◌∙◌, append_assoc, arith}
use Rattle.std.specs.Prelude.{◌⊎◌, nat_le, slice_get}
use Rattle.std.specs.List.{AllByRecursion as Each}
use Rattle.std.proofs.lemmas.Bool.{and_parts, leb-true}
use Rattle.std.proofs.lemmas.List.{append-nil, map-append}
use Rattle.ap_desc.proofs.OnePort.{each_as}
use Rattle.ap_desc.specs.Clean.{IsClean}
use Rattle.ap_desc.specs.declared.design.Design.{Design}
use Rattle.ap_desc.specs.declared.design.Node.{Node as DesignNode}
use Rattle.ap_merge.specs.declared.table.Choice.{Choice}
use Rattle.ap_net.specs.declared.cell.Wire.{Wire}
use Rattle.ap_net.specs.declared.net.Instance.{Instance}
use Rattle.ap_net.specs.Cells.{IsNet}
use Rattle.ap_net.specs.Draft.{Adds, Draft, Extends}
use Rattle.ap_net.specs.Modules.{ModuleText}
use Rattle.ap_net.specs.Ready.{ReadyAfter}
use Rattle.ap_net.proofs.Laws.{Adds-refl, Adds-trans, IsNet-Adds, ReadyAfter-Extends}
use Rattle.ap_pipe.specs.declared.table.StageSlots.{StageSlots}
use Rattle.ap_ports.proofs.Members.{each_get, item_at}
use Rattle.ap_stage.specs.declared.chain.Node.{Node}
use Rattle.ap_stage.specs.Courses.{courses_numbers}
use Rattle.ap_stage.specs.Reads.{AreReadyAfter, Serves}
use Rattle.ap_stage.specs.Served.{IsReadyNode, ServesNodes, names_placed, stage_names, stage_wires, wires_of}
use Rattle.ap_stage.specs.Trees.{IsShallow}
use Rattle.ap_stage.proofs.Chained.{serves_none}
use Rattle.ap_stage.proofs.Driven.{came_later, ready_on, serves_later}
use Rattle.ap_stage.proofs.Followed.{each_then}
use Rattle.ap_stage.proofs.Listed.{each_both, each_left, each_right}
use Rattle.ap_stage.proofs.Shallow.{shallow_on}
use Rattle.ap_stages.specs.Begun.{AreStageNets, base_numbers}
use Rattle.ap_stages.specs.Staged.{FollowsFrom, IsStaged, stage_numbers}
use Rattle.ap_stages.specs.Stages.{AreStaged, FollowAll, IsLowStage, IsMadeAmong, all_nodes}
use Rattle.ap_stages.specs.declared.begin.SharedNets.{SharedNets}
use Rattle.ap_stages.specs.declared.begin.StageNets.{StageNets}
use Rattle.ap_stages.specs.declared.nodes.Supplied.{Supplied}
use Rattle.ap_stages.specs.declared.stage.ServedStage.{ServedStage}
use Rattle.ap_stages.proofs.Following.{nodes_ready_on}
use Rattle.ap_stages.proofs.Gathering.{last_or_before}

-- The nets of a stage go on. -----------------------------------------------------------------------------------------------

nets_on : (a b : Draft) (wires : List Wire) → Adds a b → Each (IsNet a.nets) wires → Each (IsNet b.nets) wires
nets_on a b wires adds h = each_as (IsNet a.nets) (IsNet b.nets) (λ w net. IsNet-Adds a b w adds net) wires h

pub own_on : (design : Design) (a b : Draft) (table : StageSlots) (own : StageNets) → Adds a b → AreStageNets design a.nets table own → AreStageNets design b.nets table own
own_on design a b table own adds h = record {
  word = IsNet-Adds a b own.word adds h.word;
  word_bits = h.word_bits;
  place = IsNet-Adds a b own.place adds h.place;
  place_bits = h.place_bits;
  conds = record { long = h.conds.long; nets_are = nets_on a b own.conds adds h.conds.nets_are; one_bit = h.conds.one_bit };
  slots = record { nets_are = nets_on a b own.slots adds h.slots.nets_are; wide = h.slots.wide };
}

pub low_on : (a b : Draft) (shared : SharedNets) (own : StageNets) → Adds a b → IsLowStage a shared own → IsLowStage b shared own
low_on a b shared own adds h = each_then (IsShallow a 0) (IsShallow b 0) (base_numbers shared own) (λ n k. shallow_on a b 0 n adds.extends k) h

-- what stands at a place of a table
pub at_place : {X : Type 0} (ys xs : List X) (place many n : ℕ) (x : X) → ys ≡ xs → length xs ≡ n → many ≡ n → place < many → x ≡ get_or ys place x → slice_get xs place ≡ Some x
at_place ys xs place many n x same long count low is = let e : length ys ≡ length xs = ap length same in item_at ys xs place x same (omega (arith, e, long, count, low)) is

pub few_places : (design : Design) (place many : ℕ) → IsClean design → many ≡ design.stages - 1 → place < many → place < 8
few_places design place many clean count low =
    let h : design.stages ≤ 8 = leb-true design.stages 8 (and_parts (nat_le 2 design.stages) (nat_le design.stages 8) clean.sound.within.stages).1 in
    omega (arith, h, count, low)

-- Ports of one stage and of the next. --------------------------------------------------------------------------------------

pub wires_both : (xs ys : List Node) → stage_wires (xs ++ ys) ≡ stage_wires xs ++ stage_wires ys
wires_both [] ys = refl
wires_both (n ∷ xs) ys = ap (λ l. wires_of n ++ l) (wires_both xs ys) ∙ sym (append_assoc (wires_of n) (stage_wires xs) (stage_wires ys))

pub names_both : (xs ys : List Node) → stage_names (xs ++ ys) ≡ stage_names xs ++ stage_names ys
names_both [] ys = refl
names_both (n ∷ xs) ys = ap (λ l. names_placed n ++ l) (names_both xs ys) ∙ sym (append_assoc (names_placed n) (stage_names xs) (stage_names ys))

serves_both : (xs ys : List Node) (a b c : Draft) → ServesNodes xs a b → ServesNodes ys b c → ServesNodes (xs ++ ys) a c
serves_both xs ys a b c p q = record {
  placed = p.placed ++ q.placed;
  named = map-append (λ (i : Instance). i.name) p.placed q.placed ∙ (λ i. p.named i ++ q.named i) ∙ sym (names_both xs ys);
  serves = subst (λ wires. Serves (p.placed ++ q.placed) wires a c) (sym (wires_both xs ys)) (serves_later p.placed q.placed (stage_wires xs) (stage_wires ys) a b c p.serves q.serves);
}

all_more : (made : List ServedStage) (s : ServedStage) → all_nodes (made ++ s ∷ []) ≡ all_nodes made ++ s.nodes.items
all_more [] s = append-nil s.nodes.items
all_more (x ∷ made) s = ap (λ l. x.nodes.items ++ l) (all_more made s) ∙ sym (append_assoc x.nodes.items (all_nodes made) s.nodes.items)

-- What is ready. -----------------------------------------------------------------------------------------------------------

module _ (shared : SharedNets) (owns : List StageNets) (a b c : Draft) (made : List ServedStage) (place : ℕ) (own : StageNets) (s : ServedStage) (has : slice_get owns place ≡ Some own) (before : Extends a b) (later : Extends b c) (so_far : FollowAll shared owns a b made)
    (one : FollowsFrom shared own s.ground s.nodes.items b c s.courses.items) where
  follow_more : FollowAll shared owns a c (made ++ s ∷ [])
  follow_more by base ready given =
      let split : Each (IsReadyNode by a base) (all_nodes made ++ s.nodes.items) = subst (Each (IsReadyNode by a base)) (all_more made s) given in
      let first = so_far by base ready (each_left (IsReadyNode by a base) (all_nodes made) s.nodes.items split) in
      let own_ready = each_get (λ (o : StageNets). AreReadyAfter by a base (stage_numbers shared o)) owns place own ready has in
      let second = one by base (ready_on by base a b (stage_numbers shared own) before own_ready) (nodes_ready_on by a b base s.nodes.items before (each_right (IsReadyNode by a base) (all_nodes made) s.nodes.items split)) in
      record {
        came = came_later by base a b c later first.came second.came;
        wires = subst (λ (ns : List Node). Each (λ (w : Wire). ReadyAfter by c base w.number) (stage_wires ns)) (sym (all_more made s))
            (subst (Each (λ (w : Wire). ReadyAfter by c base w.number)) (sym (wires_both (all_nodes made) s.nodes.items))
            (each_both (λ (w : Wire). ReadyAfter by c base w.number) (stage_wires (all_nodes made)) (stage_wires s.nodes.items)
            (each_as (λ (w : Wire). ReadyAfter by b base w.number) (λ (w : Wire). ReadyAfter by c base w.number) (λ w h. ReadyAfter-Extends by b c base w.number later h) (stage_wires (all_nodes made)) first.wires) second.wires));
        rows = each_both (λ (x : ServedStage). AreReadyAfter by c base (courses_numbers x.ground x.courses.items)) made (s ∷ [])
            (each_as (λ (x : ServedStage). AreReadyAfter by b base (courses_numbers x.ground x.courses.items)) (λ (x : ServedStage). AreReadyAfter by c base (courses_numbers x.ground x.courses.items))
            (λ x h. ready_on by base b c (courses_numbers x.ground x.courses.items) later h) made first.rows) (second.rows, tt);
      }

-- One stage more. ----------------------------------------------------------------------------------------------------------

module _ (design : Design) (slots : List StageSlots) (choices : List Choice) (supplies : List Supplied) (orders : List (List DesignNode)) (modules : List ModuleText) (shared : SharedNets) (owns : List StageNets) where
  pub staged_none : (d : Draft) → AreStaged design slots choices supplies orders modules shared owns d d []
  staged_none d = record {
    each = λ place s at. absurd cc;
    serves = serves_none d;
    follows = λ by base ready given. record { came = λ n low high. absurd (omega arith); wires = tt; rows = tt };
  }

  module _ (a b c : Draft) (made : List ServedStage) (place : ℕ) (table : StageSlots) (order : List DesignNode) (own : StageNets) (s : ServedStage) (long : length made ≡ place) (has_table : slice_get slots place ≡ Some table) (has_order : slice_get orders place ≡ Some order)
      (has_own : slice_get owns place ≡ Some own) (so_far : AreStaged design slots choices supplies orders modules shared owns a b made)
      (one : IsStaged design (place + 1) table choices supplies order modules shared own b c s.ground s.courses.items s.nodes.items) where
    to_here : Adds a b
    to_here = so_far.serves.serves.adds

    onward : Adds b c
    onward = one.serves.serves.adds

    among : (k : ℕ) (x : ServedStage) → slice_get (made ++ s ∷ []) k ≡ Some x → IsMadeAmong design slots choices supplies orders modules shared owns a c k x
    among k x at = go (last_or_before made s k x at)
      where
        go : (slice_get made k ≡ Some x) ⊎ ((k ≡ length made) × (s ≡ x)) → IsMadeAmong design slots choices supplies orders modules shared owns a c k x
        go (inl h) =
            let m = so_far.each k x h in
            record {
              table = m.table;
              has_table = m.has_table;
              order = m.order;
              has_order = m.has_order;
              own = m.own;
              has_own = m.has_own;
              before = m.before;
              after = m.after;
              starts = m.starts;
              staged = m.staged;
              ends = Adds-trans m.after b c m.ends onward;
            }
        go (inr h) =
            subst (λ n. IsMadeAmong design slots choices supplies orders modules shared owns a c n x) (sym (h.0 ∙ long))
            (subst (λ z. IsMadeAmong design slots choices supplies orders modules shared owns a c place z) h.1 (record {
              table = table;
              has_table = has_table;
              order = order;
              has_order = has_order;
              own = own;
              has_own = has_own;
              before = b;
              after = c;
              starts = to_here;
              staged = one;
              ends = Adds-refl c;
            }))

    pub staged_more : AreStaged design slots choices supplies orders modules shared owns a c (made ++ s ∷ [])
    staged_more = record {
      each = among;
      serves = subst (λ ns. ServesNodes ns a c) (sym (all_more made s)) (serves_both (all_nodes made) s.nodes.items a b c so_far.serves one.serves);
      follows = follow_more shared owns a b c made place own s has_own to_here.extends onward.extends so_far.follows one.follows;
    }
