-- The picked nodes of a stage without a loop are an order of its union graph.
use Rattle.std.proofs.Common.{◌≡◌, ℕ, ◌+◌, ◌<◌, ◌≤◌, List, [], ◌∷◌, ◌++◌, length, get_or, take, Some, inl, inr, refl, sym, subst, ap, ◌∙◌, arith}
use Rattle.std.specs.Prelude.{◌↔◌, Contains, bit_or, slice_get, true}
use Rattle.std.proofs.lemmas.Bool.{cases_order}
use Rattle.std.proofs.lemmas.List.{take_all, take_more}
use Rattle.std.proofs.lemmas.Option.{get_or_from_slice_get, same_Some, slice_get_within}
use Rattle.ap_desc.proofs.DesignLaws.{local_maker}
use Rattle.ap_desc.specs.Chains.{ComesFrom, Edge, IsChainOrder, IsLooped, IsNodeOf, IsWiredFrom, Leads, StandsBefore, node_of, operands_of}
use Rattle.ap_desc.specs.Ports.{micros_in}
use Rattle.ap_desc.specs.Sound.{IsSound}
use Rattle.ap_desc.specs.declared.design.Arg.{Arg}
use Rattle.ap_desc.specs.declared.design.Arg.TheVariants as arg
use Rattle.ap_desc.specs.declared.design.Design.{Design}
use Rattle.ap_desc.specs.declared.design.Instr.{Instr}
use Rattle.ap_desc.specs.declared.design.Micro.{Micro}
use Rattle.ap_desc.specs.declared.design.Node.{Node}
use Rattle.ap_ports.specs.Flow.{Some_of}
use Rattle.ap_ports.specs.Graphs.{IsGraphOf}
use Rattle.ap_ports.specs.Numbers.{IsNumberedNode, number_of_node}
use Rattle.ap_ports.specs.Orders.{AreAhead, IsPicked, IsUse, UsesNode, UsesNodeIn}
use Rattle.ap_ports.specs.Ways.{Has, LeadsTo}
use Rattle.ap_ports.specs.declared.ways.Ways.{Ways}
use Rattle.ap_ports.proofs.Added.{low_from, node_from, node_low, number_from, one_node, source_there}
use Rattle.ap_ports.proofs.Conditions.{numbered_at}
use Rattle.ap_ports.proofs.Counted.{stands_in}
use Rattle.ap_ports.proofs.Elsewhere.{micros_of, one_instr_more}
use Rattle.ap_ports.proofs.Holding.{any_holds, holds_either, holds_left, holds_right}
use Rattle.ap_ports.proofs.Members.{contains_at, place_of}
use Rattle.ap_ports.proofs.Picked.{bits_less, get_some, item_some, node_of_number, some_get, some_item}
use Rattle.ap_ports.proofs.Sets.{joined_has, joined_left, joined_right}

-- The nodes that lines use.

-- one line more that uses none in the stage
pub uses_skip : (nodes before stage : ℕ) (micros : List Micro) (k : ℕ) (d : Micro) → k < length micros → ((n : ℕ) → Has nodes n ↔ UsesNodeIn before stage (take k micros) n) → ((n : ℕ) → IsUse stage n (get_or micros k d) → ⊥)
    → (n : ℕ) → Has nodes n ↔ UsesNodeIn before stage (take (k + 1) micros) n
uses_skip nodes before stage micros k d low so_far none n =
    subst (λ ms. Has nodes n ↔ UsesNodeIn before stage ms n) (sym (take_more micros k d low)) (there, back)
  where
    there : Has nodes n → UsesNodeIn before stage (take k micros ++ get_or micros k d ∷ []) n
    there has = elim ((so_far n).0 has) [ inl own ↦ inl own | inr some ↦ inr (holds_left (IsUse stage n) (take k micros) (get_or micros k d ∷ []) some) ]

    back : UsesNodeIn before stage (take k micros ++ get_or micros k d ∷ []) n → Has nodes n
    back (inl own) = (so_far n).1 (inl own)
    back (inr some) = elim (holds_either (IsUse stage n) (take k micros) (get_or micros k d ∷ []) some) [
      | inl old ↦ (so_far n).1 (inr old)
      | inr last ↦ elim last [ inl is_use ↦ absurd (none n is_use) | inr nothing ↦ absurd nothing ]
    ]

-- and one that does
pub uses_more : (nodes before stage : ℕ) (micros : List Micro) (k : ℕ) (d : Micro) → k < length micros → ((n : ℕ) → Has nodes n ↔ UsesNodeIn before stage (take k micros) n) → (one number : ℕ) → IsUse stage number (get_or micros k d) → ((n : ℕ) → Has one n ↔ (n ≡ number))
    → (n : ℕ) → Has (bit_or nodes one) n ↔ UsesNodeIn before stage (take (k + 1) micros) n
uses_more nodes before stage micros k d low so_far one number is_use is n =
    subst (λ ms. Has (bit_or nodes one) n ↔ UsesNodeIn before stage ms n) (sym (take_more micros k d low)) (there, back)
  where
    there : Has (bit_or nodes one) n → UsesNodeIn before stage (take k micros ++ get_or micros k d ∷ []) n
    there has = elim (joined_has nodes one n has) [
      | inl old ↦ elim ((so_far n).0 old) [ inl own ↦ inl own | inr some ↦ inr (holds_left (IsUse stage n) (take k micros) (get_or micros k d ∷ []) some) ]
      | inr last ↦ inr (holds_right (IsUse stage n) (take k micros) (get_or micros k d ∷ []) (inl (subst (λ m. IsUse stage m (get_or micros k d)) (sym ((is n).0 last)) is_use)))
    ]

    back : UsesNodeIn before stage (take k micros ++ get_or micros k d ∷ []) n → Has (bit_or nodes one) n
    back (inl own) = joined_left nodes one n ((so_far n).1 (inl own))
    back (inr some) = elim (holds_either (IsUse stage n) (take k micros) (get_or micros k d ∷ []) some) [
      | inl old ↦ joined_left nodes one n ((so_far n).1 (inr old))
      | inr last ↦ elim last [
        | inl also ↦ joined_right nodes one n ((is n).1 (same_Some n number (sym also.1 ∙ is_use.1)))
        | inr nothing ↦ absurd nothing
      ]
    ]

-- one instruction more
pub uses_instr : (nodes new stage : ℕ) (instrs : List Instr) (k : ℕ) (instr : Instr) (micros : List Micro) → slice_get instrs k ≡ Some instr → micros ≡ instr.micros → ((n : ℕ) → Has nodes n ↔ Some_of (IsUse stage n) (micros_of (take k instrs)))
    → ((n : ℕ) → Has new n ↔ UsesNodeIn nodes stage micros n) → (n : ℕ) → Has new n ↔ Some_of (IsUse stage n) (micros_of (take (k + 1) instrs))
uses_instr nodes new stage instrs k instr micros at same so_far more n =
    subst (λ ms. Has new n ↔ Some_of (IsUse stage n) ms) (sym (one_instr_more instrs k instr at)) (there, back)
  where
    there : Has new n → Some_of (IsUse stage n) (micros_of (take k instrs) ++ instr.micros)
    there has = elim ((more n).0 has) [
      | inl old ↦ holds_left (IsUse stage n) (micros_of (take k instrs)) instr.micros ((so_far n).0 old)
      | inr last ↦ holds_right (IsUse stage n) (micros_of (take k instrs)) instr.micros (subst (Some_of (IsUse stage n)) same last)
    ]

    back : Some_of (IsUse stage n) (micros_of (take k instrs) ++ instr.micros) → Has new n
    back some = elim (holds_either (IsUse stage n) (micros_of (take k instrs)) instr.micros some) [
      | inl old ↦ (more n).1 (inl ((so_far n).1 old))
      | inr last ↦ (more n).1 (inr (subst (Some_of (IsUse stage n)) (sym same) last))
    ]

pub uses_all : (design : Design) (nodes stage k : ℕ) → length design.instrs ≤ k → ((n : ℕ) → Has nodes n ↔ Some_of (IsUse stage n) (micros_of (take k design.instrs))) → (n : ℕ) → Has nodes n ↔ UsesNode design stage n
uses_all design nodes stage k past so_far n = subst (λ is. Has nodes n ↔ Some_of (IsUse stage n) (micros_of is)) (take_all k design.instrs past) (so_far n)

-- Where an operand comes from stands in the stage.

module _ (instr : Instr) (stage : ℕ) (source : Micro) where
  made_in : (through : List Micro) (a : Arg) → ComesFrom instr stage a through source → source.stage ≡ stage
  made_in [] (arg.Local i) made = ((local_maker instr stage i source).0 made).1
  made_in [] (arg.Field i) made = absurd cc
  made_in [] arg.Pc made = absurd cc
  made_in [] arg.Link made = absurd cc
  made_in (m ∷ through) a (made, (k, b, low, at, comes)) = made_in through b comes

source_in : (instr : Instr) (stage : ℕ) (source : Micro) (xs : List Arg) → Some_of (λ a. IsWiredFrom instr stage a source) xs → source.stage ≡ stage
source_in instr stage source [] h = absurd h
source_in instr stage source (a ∷ xs) (inl (through, each, comes)) = made_in instr stage source through a comes
source_in instr stage source (a ∷ xs) (inr h) = source_in instr stage source xs h

-- The order.

module _ (design : Design) (sound : IsSound design) (stage nodes : ℕ) (ways : Ways) (ahead : List ℕ) (order : List Node) (uses : (n : ℕ) → Has nodes n ↔ UsesNode design stage n) (graph : IsGraphOf design stage ways)
    (unlooped : IsLooped design stage (λ n. true) → ⊥) (are : AreAhead ways ahead) (p : IsPicked nodes ahead 69 0 order) where
  abbrev Step : Node → Node → Type 0
  Step = Edge design stage (λ n. true)

  listed : (x : Node) → IsNumberedNode x → Has nodes (number_of_node x) → Contains order x
  listed x low has = let (i, at) = some_get order x (p.all x low has (inl (omega arith))) in contains_at order i x at

  -- the node of a line
  line_listed : (i : ℕ) (m : Micro) (x : Node) → slice_get (micros_in design) i ≡ Some m → m.stage ≡ stage → node_of m.act ≡ Some x → Contains order x
  line_listed i m x at here is =
      listed x (low_from m.act x (numbered_at design sound i m at) is) ((uses (number_of_node x)).1 (item_some (IsUse stage (number_of_node x)) (micros_in design) i m at (here, number_from m.act x is)))

  used : (x : Node) → Contains order x → IsNodeOf design stage x
  used x there =
      let (k, has_place) = place_of order x there in
      let (low, has, by) = p.low x (get_some order k x has_place) in
      let (i, m, at, is_use) = some_item (IsUse stage (number_of_node x)) (micros_in design) ((uses (number_of_node x)).0 has) in
      let y = node_from m.act (number_of_node x) (numbered_at design sound i m at) is_use.1 in
      let same : y.item ≡ x = one_node y.item x y.low low y.number in
      (i, m, slice_get_within (micros_in design) i m at, get_or_from_slice_get (micros_in design) i m m at, (is_use.0, y.uses ∙ ap Some same))

  uses_listed : (x : Node) → IsNodeOf design stage x → Contains order x
  uses_listed x any =
      let (i, m, at, is_use) = some_item (λ (m : Micro). (m.stage ≡ stage) × (node_of m.act ≡ Some x)) (micros_in design) (any_holds (λ (m : Micro). (m.stage ≡ stage) × (node_of m.act ≡ Some x)) (micros_in design) any) in
      line_listed i m x at is_use.0 is_use.1

  to_listed : (x y : Node) → Step x y → Contains order y
  to_listed x y e = let (i, at) = stands_in design e.instr e.user e.is_instr e.is_line in line_listed i e.user y at e.in_stage e.uses

  from_listed : (x y : Node) → Step x y → Contains order x
  from_listed x y e =
      let some = any_holds (λ a. IsWiredFrom e.instr stage a e.source) (operands_of e.user.act) e.wired in
      let (i, at) = stands_in design e.instr e.source e.is_instr (source_there e.instr stage e.source (operands_of e.user.act) some) in
      line_listed i e.source x at (source_in e.instr stage e.source (operands_of e.user.act) some) e.uses_from

  low_of : (x : Node) → Contains order x → IsNumberedNode x
  low_of x there = let (k, at) = place_of order x there in (p.low x (get_some order k x at)).0

  before : (x y z : Node) → Step x y → Leads Step y z → Leads Step x z
  before x y z e (inl same) = inr ([], (subst (Step x) same e, tt))
  before x y z e (inr (between, walk)) = inr (y ∷ between, (e, walk))

  no_return : (x y : Node) → Step x y → Leads Step y x → ⊥
  no_return x y e (inl same) = unlooped (x, [], (subst (Step x) same e, tt))
  no_return x y e (inr (between, walk)) = unlooped (x, y ∷ between, (e, walk))

  -- an edge leads to a node that leads to fewer
  fewer : (x y : Node) → IsNumberedNode x → IsNumberedNode y → Step x y → get_or ahead (number_of_node y) 0 < get_or ahead (number_of_node x) 0
  fewer x y low high e =
      let less = bits_less (get_or ways.rows (number_of_node y) 0) (get_or ways.rows (number_of_node x) 0) 68 (number_of_node x) (up x y low high e) (node_low x low)
      (λ has. no_return x y e ((graph y x high low).0 has)) ((graph x x low low).1 (inl refl)) in
      let one = are.1 (number_of_node x) (node_low x low) in
      let other = are.1 (number_of_node y) (node_low y high) in
      omega arith
    where
      up : (x y : Node) → IsNumberedNode x → IsNumberedNode y → Step x y → (i : ℕ) → i < 68 → LeadsTo ways (number_of_node y) i → LeadsTo ways (number_of_node x) i
      up x y low high e i small leads =
          let (z, z_low, at) = node_of_number i small in
          subst (LeadsTo ways (number_of_node x)) at
          ((graph x z low z_low).1 (before x y z e ((graph y z high z_low).0 (subst (LeadsTo ways (number_of_node y)) (sym at) leads))))

  forward : (x y : Node) → Step x y → StandsBefore order x y
  forward x y e =
      let there = from_listed x y e in
      let here = to_listed x y e in
      let less = fewer x y (low_of x there) (low_of y here) e in
      let (i, at) = place_of order x there in
      let (j, also) = place_of order y here in
      (i, j, in_order i j less at also, at, also)
    where
      in_order : (i j : ℕ) → get_or ahead (number_of_node y) 0 < get_or ahead (number_of_node x) 0 → slice_get order i ≡ Some x → slice_get order j ≡ Some y → i < j
      in_order i j less at also = elim (cases_order i j) [
        | inl same ↦
            let is : x ≡ y = same_Some x y (sym at ∙ ap (slice_get order) same ∙ also) in
            let equal : get_or ahead (number_of_node x) 0 ≡ get_or ahead (number_of_node y) 0 = ap (λ z. get_or ahead (number_of_node z) 0) is in
            absurd (omega arith)
        | inr (inl lower) ↦ lower
        | inr (inr higher) ↦ (let falls = p.falling j i y x higher also at in absurd (omega arith))
      ]

  pub is_order : IsChainOrder design stage order
  is_order = record { nodes = λ x. (used x, uses_listed x); once = p.once; forward = forward }
