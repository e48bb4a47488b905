-- What a stage follows from, and that all else stays.
use Rattle.std.proofs.Common.{◌≡◌, ℕ, zero, suc, List, [], ◌∷◌, ◌++◌, length, Some, refl, sym, subst}
use Rattle.std.specs.Prelude.{slice_get}
use Rattle.std.specs.List.{AllByRecursion as Each}
use Rattle.ap_desc.specs.declared.design.Design.{Design}
use Rattle.ap_net.specs.declared.cell.Wire.{Wire}
use Rattle.ap_net.specs.Draft.{Draft, Extends}
use Rattle.ap_net.specs.Late.{StayLate}
use Rattle.ap_net.specs.Making.{Makes}
use Rattle.ap_net.specs.Pending.{IsFrom}
use Rattle.ap_net.specs.Ready.{Dependence, ReadyAfter, numbers}
use Rattle.ap_net.proofs.Laws.{Makes-trans, ReadyAfter-Extends}
use Rattle.ap_pipe.specs.declared.table.StageSlots.{StageSlots}
use Rattle.ap_stage.specs.declared.chain.Node.{Node}
use Rattle.ap_stage.specs.declared.chain.Node.TheVariants as node
use Rattle.ap_stage.specs.declared.node.Course.{Course}
use Rattle.ap_stage.specs.declared.source.Ground.{Ground}
use Rattle.ap_stage.specs.Courses.{course_numbers, courses_numbers}
use Rattle.ap_stage.specs.Reads.{AreReadyAfter, CameReady}
use Rattle.ap_stage.specs.Served.{IsReadyNode, ServesNodes, StayReady, stage_wires}
use Rattle.ap_stage.specs.Sources.{source_numbers}
use Rattle.ap_stage.proofs.Driven.{came_later, ready_from, ready_on, ready_then, serves_later, serves_made}
use Rattle.ap_stage.proofs.Followed.{each_then}
use Rattle.ap_stage.proofs.Listed.{each_both, each_left, each_right}
use Rattle.ap_course.specs.Starts.{sources}
use Rattle.ap_stages.specs.Begun.{IsBegun, base_numbers}
use Rattle.ap_stages.specs.Staged.{FollowsFrom, stage_numbers}
use Rattle.ap_stages.specs.declared.begin.SharedNets.{SharedNets}
use Rattle.ap_stages.specs.declared.begin.StageNets.{StageNets}
use Rattle.ap_stages.proofs.Begun.{starts_at}

-- the net at a place is one of those
number_at : (P : ℕ → Type 0) (wires : List Wire) (k : ℕ) (w : Wire) → Each P (numbers wires) → slice_get wires k ≡ Some w → P w.number
number_at P [] k w h at = absurd cc
number_at P (x ∷ wires) zero w h at = let same : x ≡ w = cc in subst (λ (y : Wire). P y.number) same h.0
number_at P (x ∷ wires) (suc k) w h at = number_at P wires k w h.1 at

-- the nets of all instructions are these, where those of each are
all_numbers : (P : ℕ → Type 0) (ground : Ground) (courses : List Course) → ((k : ℕ) (c : Course) → slice_get courses k ≡ Some c → Each P (course_numbers ground c)) → Each P (courses_numbers ground courses)
all_numbers P ground [] h = tt
all_numbers P ground (c ∷ courses) h = each_both P (course_numbers ground c) (courses_numbers ground courses) (h 0 c refl) (all_numbers P ground courses (λ k d at. h (suc k) d at))

node_ready_on : (by : Dependence) (a b : Draft) (base : List ℕ) (n : Node) → Extends a b → IsReadyNode by a base n → IsReadyNode by b base n
node_ready_on by a b base (node.Quick u) e h = tt
node_ready_on by a b base (node.Slow u) e h = ReadyAfter-Extends by a b ((u.sel).number ∷ (u.a).number ∷ (u.b).number ∷ base) (u.y).number e h
node_ready_on by a b base (node.Read p) e h = ReadyAfter-Extends by a b ((p.index).number ∷ base) (p.value).number e h

pub nodes_ready_on : (by : Dependence) (a b : Draft) (base : List ℕ) (nodes : List Node) → Extends a b → Each (IsReadyNode by a base) nodes → Each (IsReadyNode by b base) nodes
nodes_ready_on by a b base [] e h = tt
nodes_ready_on by a b base (n ∷ nodes) e h = (node_ready_on by a b base n e h.0, nodes_ready_on by a b base nodes e h.1)

module _ (design : Design) (stage : ℕ) (table : StageSlots) (shared : SharedNets) (own : StageNets) (a b : Draft) (ground : Ground) (first : List Course) (begun : IsBegun design stage table shared own a b ground first) (many : length own.conds ≡ length design.instrs) where
  pub begun_makes : Makes a b
  begun_makes = Makes-trans a begun.linked b begun.wiring.makes begun.started.makes

  pub begun_late : StayLate a b
  begun_late x late = begun.started.reads.late x (begun.wiring.yields.reads.late x late)

  module _ (by : Dependence) (base : List ℕ) (ready : AreReadyAfter by a base (stage_numbers shared own)) where
    to_linked : Extends a begun.linked
    to_linked = begun.wiring.makes.adds.extends

    from_linked : Extends begun.linked b
    from_linked = begun.started.makes.adds.extends

    base_ready : AreReadyAfter by a base (base_numbers shared own)
    base_ready = each_right (ReadyAfter by a base) (numbers own.conds) (base_numbers shared own) ready

    base_linked : AreReadyAfter by begun.linked base (base_numbers shared own)
    base_linked = ready_on by base a begun.linked (base_numbers shared own) to_linked base_ready

    place_ready : AreReadyAfter by a base (own.place.number ∷ [])
    place_ready = (base_ready.1.0, tt)

    link_ready : ReadyAfter by begun.linked base ground.link.number
    link_ready =
        ready_then by a begun.linked base (own.place.number ∷ []) ground.link.number to_linked place_ready
        (ready_from by (own.place.number ∷ []) a begun.linked ground.link.number (λ m ge lt. begun.wiring.yields.reads.came by m ge lt) begun.wiring.yields.result)

    rest_ready : AreReadyAfter by begun.linked base (numbers ground.regs ++ (numbers ground.inputs ++ numbers own.slots))
    rest_ready =
        subst (λ (ws : List Wire). AreReadyAfter by begun.linked base (numbers ws ++ (numbers ground.inputs ++ numbers own.slots))) (sym begun.grounded.regs)
        (subst (λ (ws : List Wire). AreReadyAfter by begun.linked base (numbers shared.regs ++ (numbers ws ++ numbers own.slots))) (sym begun.grounded.inputs) base_linked.1.1)

    sources_ready : AreReadyAfter by begun.linked base (sources ground (numbers own.slots))
    sources_ready = (
      subst (λ (w : Wire). ReadyAfter by begun.linked base w.number) (sym begun.grounded.word) base_linked.0,
      (subst (λ (w : Wire). ReadyAfter by begun.linked base w.number) (sym begun.grounded.place) base_linked.1.0, (link_ready, rest_ready)),
    )

    came_linked : CameReady by base a begun.linked
    came_linked n ge lt = ready_then by a begun.linked base (own.place.number ∷ []) n to_linked place_ready (begun.wiring.yields.reads.came by n ge lt)

    came_started : CameReady by base begun.linked b
    came_started n ge lt = ready_then by begun.linked b base (sources ground (numbers own.slots)) n from_linked sources_ready (begun.started.reads.came by n ge lt)

    pub came_begun : CameReady by base a b
    came_begun = came_later by base a begun.linked b from_linked came_linked came_started

    from_sources : (n : ℕ) → IsFrom (sources ground (numbers own.slots)) begun.linked b n → ReadyAfter by b base n
    from_sources n from = ready_then by begun.linked b base (sources ground (numbers own.slots)) n from_linked sources_ready
        (ready_from by (sources ground (numbers own.slots)) begun.linked b n (λ m ge lt. begun.started.reads.came by m ge lt) from)

    one_ready : (k : ℕ) (c : Course) → slice_get first k ≡ Some c → AreReadyAfter by b base (course_numbers ground c)
    one_ready k c at =
        let h = starts_at design stage table own begun.linked b ground first many begun.started k c at in
        let cond = number_at (ReadyAfter by a base) own.conds k h.cond (each_left (ReadyAfter by a base) (numbers own.conds) (base_numbers shared own) ready) h.has in (
          subst (λ (w : Wire). ReadyAfter by b base w.number) (sym h.starts.cond_is) (ReadyAfter-Extends by a b base h.cond.number begun_makes.adds.extends cond),
          each_then (IsFrom (sources ground (numbers own.slots)) begun.linked b) (ReadyAfter by b base) (source_numbers ground c.row.items) from_sources h.starts.from.results,
        )

    pub rows_ready : AreReadyAfter by b base (courses_numbers ground first)
    rows_ready = all_numbers (ReadyAfter by b base) ground first one_ready

  pub stage_follows : (nodes : List Node) (c : Draft) (courses : List Course) → Extends b c → StayReady ground nodes b first c courses → FollowsFrom shared own ground nodes a c courses
  stage_follows nodes c courses later stay by base ready given =
      let served = stay by base (rows_ready by base ready) (nodes_ready_on by a b base nodes begun_makes.adds.extends given) in
      record { came = came_later by base a b c later (came_begun by base ready) served.came; wires = served.wires; rows = served.rows }

  pub stage_serves : (nodes : List Node) (c : Draft) → ServesNodes nodes b c → ServesNodes nodes a c
  stage_serves nodes c h = record {
    placed = h.placed;
    named = h.named;
    serves = serves_later [] h.placed [] (stage_wires nodes) a b c (serves_made a b begun_makes begun_late) h.serves;
  }
