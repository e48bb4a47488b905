-- What the operands of a line take from ports comes earlier in the order of the stage's nodes.
use Rattle.std.proofs.Common.{◌≡◌, ℕ, ◌+◌, ◌<◌, true, List, Some, inl, inr, refl, sym, ap, subst, ◌∙◌, arith}
use Rattle.std.specs.Prelude.{Any, Contains, slice_get}
use Rattle.std.specs.List.{AllByRecursion as Each}
use Rattle.ap_bits.specs.declared.card.Card.{Card}
use Rattle.ap_desc.proofs.DesignLaws.{behind_wired, local_maker}
use Rattle.ap_desc.proofs.Members.{any_in, get_in, in_any, in_contains}
use Rattle.ap_desc.specs.Chains.{Edge, IsChainOrder, IsNodeOf, IsWiredFrom, is_wiring, node_of, operands_of}
use Rattle.ap_desc.specs.Clean.{FitsCards}
use Rattle.ap_desc.specs.Ports.{micros_in}
use Rattle.ap_desc.specs.declared.design.Act.{Act}
use Rattle.ap_desc.specs.declared.design.Act.TheVariants as act
use Rattle.ap_desc.specs.declared.design.Arg.{Arg}
use Rattle.ap_desc.specs.declared.design.Arg.TheVariants as arg
use Rattle.ap_desc.specs.declared.design.Design.{Design}
use Rattle.ap_desc.specs.declared.design.Instr.{Instr}
use Rattle.ap_desc.specs.declared.design.Micro.{Micro}
use Rattle.ap_desc.specs.declared.design.Node.{Node}
use Rattle.ap_ports.proofs.Added.{low_from, node_from, one_node}
use Rattle.ap_ports.proofs.Counted.{stands_in}
use Rattle.ap_ports.proofs.Members.{contains_at, each_of, place_of}
use Rattle.ap_ports.proofs.Conditions.{numbered_at}
use Rattle.ap_ports.specs.Numbers.{IsNumbered, IsNumberedNode, node_number}
use Rattle.ap_stage.specs.declared.node.Course.{Course}
use Rattle.ap_stage.specs.declared.node.PortUse.{PortUse}
use Rattle.ap_stage.specs.Chained.{TakesFrom, result, wired}
use Rattle.ap_course.specs.Instrs.{HasNumber, IsCourseOf, StandsAt}
use Rattle.ap_course.specs.Lines.{is_portless}
use Rattle.ap_course.proofs.Lined.{line_from, line_is, use_from, use_is}
use Rattle.ap_course.proofs.Makers.{good_at, line_there}
use Rattle.ap_course.proofs.Whole.{asked_operands, maker_numbered}

-- a line without a port that looks at something is wiring
looking : (a : Act) (j : ℕ) (b : Arg) → is_portless a ≡ true → slice_get (operands_of a) j ≡ Some b → is_wiring a ≡ true
looking (act.Zext width a) j b portless at = refl
looking (act.Sext width a) j b portless at = refl
looking (act.Slice high low a) j b portless at = refl
looking (act.Cat a c) j b portless at = refl
looking (act.ReadReg reg) j b portless at = absurd cc
looking (act.ReadIn input) j b portless at = absurd cc
looking (act.Const width value) j b portless at = absurd cc
looking _ j b portless at = absurd cc

module _ (design : Design) (cards : List Card) (stage k : ℕ) (instr : Instr) (c : Course) (order : List Node) (fits : FitsCards design cards) (at : slice_get design.instrs k ≡ Some instr) (of : IsCourseOf design stage instr c)
    (ordered : IsChainOrder design stage order) where
  -- the line by which an operand takes from a port
  pub record IsTaken (port : ℕ) (a : Arg) : Type 0 where
    pub source : Micro
    pub numbered : IsNumbered source.act
    pub number : node_number source.act ≡ Some port
    pub wires : IsWiredFrom instr stage a source

  taken : (port : ℕ) (a : Arg) → TakesFrom c port a → IsTaken port a
  taken port _ (result j u there is) =
      let from = use_from stage instr j u (ap (λ us. slice_get us j) (sym of.uses) ∙ there) in
      let line = use_is stage (0 + from.place) from.item u from.gives in
      let number : from.place ≡ u.local = let n = line.number in omega (arith, n) in
      record {
        source = from.item;
        numbered = maker_numbered design cards k instr fits at from.place from.item from.at;
        number = line.port ∙ ap Some is;
        wires = subst (λ n. IsWiredFrom instr stage (arg.Local n) from.item) number
            (behind_wired instr stage from.item (arg.Local from.place) (from.item, (local_maker instr stage from.place from.item).1 (from.at, line.here), inl refl));
      }
  taken port _ (wired j i l b there stands rest) =
      let h = taken port b rest in
      let from = line_from stage instr j l (ap (λ ls. slice_get ls j) (sym of.lines) ∙ there) in
      let line = line_is stage (0 + from.place) from.item l from.gives in
      let number : from.place ≡ l.local = let n = line.number in omega (arith, n) in
      let looks : slice_get (operands_of from.item.act) i ≡ Some b = ap (λ a. slice_get (operands_of a) i) (sym line.act) ∙ stands in
      let any : Any (λ x. IsWiredFrom instr stage x h.source) (operands_of from.item.act) = in_any (λ x. IsWiredFrom instr stage x h.source) (operands_of from.item.act) b (get_in (operands_of from.item.act) i b looks) h.wires in
      record {
        source = h.source;
        numbered = h.numbered;
        number = h.number;
        wires = subst (λ n. IsWiredFrom instr stage (arg.Local n) h.source) number
            (behind_wired instr stage h.source (arg.Local from.place)
            (from.item, (local_maker instr stage from.place from.item).1 (from.at, line.here), inr (looking from.item.act i b line.portless looks, any)));
      }

  instr_there : Contains design.instrs instr
  instr_there = contains_at design.instrs k instr at

  -- a node of the order is low
  listed_low : (x : Node) (i : ℕ) → slice_get order i ≡ Some x → IsNumberedNode x
  listed_low x i stands =
      let (m, m_in, is) = any_in (λ (m : Micro). (m.stage ≡ stage) × (node_of m.act ≡ Some x)) (micros_in design) ((ordered.nodes x).0 (contains_at order i x stands)) in
      let (place, has) = place_of (micros_in design) m (in_contains (micros_in design) m m_in) in
      low_from m.act x (numbered_at design fits.clean.sound place m has) is.1

  pub use_stands : (j : ℕ) (u : PortUse) → slice_get c.uses j ≡ Some u → StandsAt order c u
  use_stands j u there =
      let from = use_from stage instr j u (ap (λ us. slice_get us j) (sym of.uses) ∙ there) in
      let line = use_is stage (0 + from.place) from.item u from.gives in
      let low = maker_numbered design cards k instr fits at from.place from.item from.at in
      let own = node_from from.item.act u.port low line.port in
      let in_instr = line_there design instr (good_at design cards k instr fits at) from.place from.item from.at in
      let (spot, has) = stands_in design instr from.item instr_there in_instr in
      let is_node : IsNodeOf design stage own.item = in_any (λ (m : Micro). (m.stage ≡ stage) × (node_of m.act ≡ Some own.item)) (micros_in design) from.item (get_in (micros_in design) spot from.item has) (line.here, own.uses) in
      let (place, stands) = place_of order own.item ((ordered.nodes own.item).1 is_node) in
      record {
        place = place;
        at = (own.item, stands, own.number);
        once = λ other (x, x_at, number). ordered.once own.item other place
            (x_at ∙ ap Some (one_node x own.item (listed_low x other x_at) own.low (number ∙ sym own.number))) stands;
        before = subst (Each (λ (a : Arg). (port : ℕ) → TakesFrom c port a → (i : ℕ) × (i < place) × HasNumber order i port)) (sym (asked_operands from.item.act u.asked line.asks))
            (each_of (λ (a : Arg). (port : ℕ) → TakesFrom c port a → (i : ℕ) × (i < place) × HasNumber order i port) (operands_of from.item.act) (λ i a looks port takes.
            let h = taken port a takes in
            let x = node_from h.source.act port h.numbered h.number in
            let edge : Edge design stage (λ n. true) x.item own.item = record {
              instr = instr;
              is_instr = instr_there;
              user = from.item;
              is_line = in_instr;
              in_stage = line.here;
              counted = refl;
              uses = own.uses;
              source = h.source;
              uses_from = x.uses;
              wired = in_any (λ b. IsWiredFrom instr stage b h.source) (operands_of from.item.act) a (get_in (operands_of from.item.act) i a looks) h.wires;
            } in
            let (first, second, less, x_at, own_at) = ordered.forward x.item own.item edge in
            let same = ordered.once own.item second place own_at stands in
            (first, omega (arith, less, same), (x.item, x_at, x.number))));
      }
