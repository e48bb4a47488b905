-- The ports of a stage's nodes stand in an order for its instructions.
use Rattle.std.proofs.Common.{◌≡◌, ℕ, zero, suc, ◌<◌, ◌==◌, List, [], ◌∷◌, length, Option, Some, None, refl, sym, ap, subst, ◌∙◌, arith, eqb-true}
use Rattle.std.specs.Prelude.{option_map, slice_get}
use Rattle.std.proofs.lemmas.Option.{same_Some, slice_get_within}
use Rattle.ap_bits.specs.declared.card.Card.{Card}
use Rattle.ap_desc.proofs.Members.{any_in, get_in, in_contains}
use Rattle.ap_desc.specs.Chains.{IsChainOrder, node_of}
use Rattle.ap_desc.specs.Clean.{FitsCards}
use Rattle.ap_desc.specs.Ports.{micros_in}
use Rattle.ap_desc.specs.declared.design.Arg.{Arg}
use Rattle.ap_desc.specs.declared.design.Design.{Design}
use Rattle.ap_desc.specs.declared.design.Micro.{Micro}
use Rattle.ap_desc.specs.declared.design.Node.{Node}
use Rattle.ap_path.proofs.UseFacts.{filter_from}
use Rattle.ap_ports.proofs.Added.{low_from, one_node}
use Rattle.ap_ports.proofs.Conditions.{numbered_at}
use Rattle.ap_ports.proofs.Members.{contains_at, each_get, each_of, place_of}
use Rattle.ap_ports.specs.Numbers.{IsNumberedNode}
use Rattle.ap_stage.specs.declared.chain.Node.{Node as Port}
use Rattle.ap_stage.specs.declared.node.Course.{Course}
use Rattle.ap_stage.specs.declared.node.PortUse.{PortUse}
use Rattle.ap_stage.specs.Chained.{IsBefore, TakesBut, TakesFrom, UsesOnly}
use Rattle.ap_stage.specs.Courses.{use_of, users_of}
use Rattle.ap_stage.specs.Served.{port_of}
use Rattle.ap_stage.specs.Users.{args_of}
use Rattle.ap_course.specs.Instrs.{AreCoursesOf, AreNodesOf, AreOrdered, HasNumber, StandsAt}
use Rattle.ap_course.proofs.InOrder.{use_stands}
use Rattle.ap_course.proofs.Standing.{found_in}

some_at : {X : Type 0} (xs : List X) (j : ℕ) → j < length xs → (x : X) × (slice_get xs j ≡ Some x)
some_at [] j low = absurd (omega arith)
some_at (x ∷ xs) zero low = (x, refl)
some_at (x ∷ xs) (suc j) low = some_at xs j (omega arith)

-- the line behind a user
pub record IsUser (courses : List Course) (port : ℕ) (user : Course × PortUse) : Type 0 where
  pub place : ℕ
  pub at : slice_get courses place ≡ Some user.0
  pub line : ℕ
  pub there : slice_get user.0.uses line ≡ Some user.1
  pub port_is : user.1.port ≡ port

pub user_is : (courses : List Course) (port i : ℕ) (user : Course × PortUse) → slice_get (users_of port courses) i ≡ Some user → IsUser courses port user
user_is courses port i user at =
    let (c, c_in, gives) = filter_from (λ (c : Course). option_map (λ (u : PortUse). (c, u)) (use_of port c)) courses user (get_in (users_of port courses) i user at) in
    let (place, has) = place_of courses c (in_contains courses c c_in) in
    go c place has (use_of port c) refl gives
  where
    go : (c : Course) (place : ℕ) → slice_get courses place ≡ Some c → (o : Option PortUse) → use_of port c ≡ o → option_map (λ (u : PortUse). (c, u)) o ≡ Some user → IsUser courses port user
    go c place has None is gives = absurd cc
    go c place has (Some u) is gives =
        let found = found_in (λ (x : PortUse). x.port == port) c.uses u is in
        let (line, there) = place_of c.uses u (in_contains c.uses u found.0) in
        let same : (c, u) ≡ user = same_Some (c, u) user gives in
        subst (IsUser courses port) same (record { place = place; at = has; line = line; there = there; port_is = eqb-true u.port port found.1 })

module _ (design : Design) (cards : List Card) (stage : ℕ) (courses : List Course) (order : List Node) (nodes : List Port) (fits : FitsCards design cards) (are : AreCoursesOf design stage courses) (ordered : IsChainOrder design stage order)
    (of : AreNodesOf order nodes) where
  -- the port at a node's place
  port_at : (j number : ℕ) → HasNumber order j number → (n : Port) × (slice_get nodes j ≡ Some n) × (port_of n ≡ number)
  port_at j number (x, at, is) =
      let low = slice_get_within order j x at in
      let long = of.long in
      let (n, there) = some_at nodes j (omega (arith, low, long)) in
      (n, there, of.numbers_are j x n at there ∙ is)

  -- the node at a port's place
  node_at : (j : ℕ) (n : Port) → slice_get nodes j ≡ Some n → HasNumber order j (port_of n)
  node_at j n there =
      let low = slice_get_within nodes j n there in
      let long = of.long in
      let (x, at) = some_at order j (omega (arith, low, long)) in
      (x, at, sym (of.numbers_are j x n at there))

  before : (place number limit : ℕ) → HasNumber order place number → place < limit → IsBefore nodes limit number
  before place number limit has low = let (n, there, is) = port_at place number has in (place, n, low, there, is)

  listed_low : (x : Node) (i : ℕ) → slice_get order i ≡ Some x → IsNumberedNode x
  listed_low x i stands =
      let (m, m_in, is) = any_in (λ (m : Micro). (m.stage ≡ stage) × (node_of m.act ≡ Some x)) (micros_in design) ((ordered.nodes x).0 (contains_at order i x stands)) in
      let (place, has) = place_of (micros_in design) m (in_contains (micros_in design) m m_in) in
      low_from m.act x (numbered_at design fits.clean.sound place m has) is.1

  stands : (k : ℕ) (c : Course) → slice_get courses k ≡ Some c → (j : ℕ) (u : PortUse) → slice_get c.uses j ≡ Some u → StandsAt order c u
  stands k c at j u there = let (instr, has, is) = are k c at in use_stands design cards stage k instr c order fits has is ordered j u there

  only : (k : ℕ) (c : Course) → slice_get courses k ≡ Some c → UsesOnly nodes c
  only k c at = each_of (λ (u : PortUse). IsBefore nodes (length nodes) u.port) c.uses (λ j u there.
      let s = stands k c at j u there in
      let (x, has, is) = s.at in
      let low = slice_get_within order s.place x has in
      let long = of.long in
      before s.place u.port (length nodes) s.at (omega (arith, low, long)))

  user_takes : (place : ℕ) (n : Port) → slice_get nodes place ≡ Some n → (i : ℕ) (user : Course × PortUse) → slice_get (users_of (port_of n) courses) i ≡ Some user → TakesBut (IsBefore nodes place) user
  user_takes place n there i user at =
      let is = user_is courses (port_of n) i user at in
      let s = stands is.place user.0 is.at is.line user.1 is.there in
      let same : place ≡ s.place = s.once place (subst (HasNumber order place) (sym is.port_is) (node_at place n there)) in
      each_of (λ (a : Arg). (from : ℕ) → TakesFrom user.0 from a → IsBefore nodes place from) (args_of user.1.asked) (λ j a stands from takes.
      let (first, less, has) = each_get (λ (b : Arg). (port : ℕ) → TakesFrom user.0 port b → (i : ℕ) × (i < s.place) × HasNumber order i port) (args_of user.1.asked) j a s.before stands from takes in
      before first from place has (omega (arith, less, same)))

  apart : (j k : ℕ) (one other : Port) → slice_get nodes j ≡ Some one → slice_get nodes k ≡ Some other → port_of one ≡ port_of other → j ≡ k
  apart j k one other at there same =
      let (x, x_at, x_is) = node_at j one at in
      let (y, y_at, y_is) = node_at k other there in
      let is : y ≡ x = one_node y x (listed_low y k y_at) (listed_low x j x_at) (y_is ∙ sym same ∙ sym x_is) in
      ordered.once x j k x_at (y_at ∙ ap Some is)

  pub are_ordered : AreOrdered courses nodes
  are_ordered = record {
    only = each_of (UsesOnly nodes) courses only;
    take = λ place n there. each_of (TakesBut (IsBefore nodes place)) (users_of (port_of n) courses) (user_takes place n there);
    apart = apart;
  }
