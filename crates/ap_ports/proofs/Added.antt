-- The ways of a stage, with one line more.
use Rattle.std.proofs.Common.{◌≡◌, ℕ, zero, suc, ◌+◌, ◌*◌, ◌<◌, Bool, true, false, cond, List, [], ◌∷◌, filter, Some, inl, inr, refl, sym, subst, ap, ◌∙◌, arith}
use Rattle.std.specs.Prelude.{◌⊎◌, ◌↔◌, ◌==◌, Contains, nat_le, nat_lt, slice_get}
use Rattle.std.proofs.lemmas.Bool.{both_ways}
use Rattle.std.proofs.lemmas.Option.{same_Some}
use Rattle.ap_desc.proofs.DesignLaws.{closing_line, leads_by_line, local_maker}
use Rattle.ap_desc.specs.Chains.{ClosesLoop, ComesFrom, Edge, IsLooped, IsWiredFrom, Leads, TakesFrom, makers, node_of, operands_of}
use Rattle.ap_desc.specs.Designs.{assigned_count}
use Rattle.ap_desc.specs.Ports.{micros_in}
use Rattle.ap_desc.specs.Sound.{IsSound}
use Rattle.ap_desc.specs.declared.design.Act.{Act}
use Rattle.ap_desc.specs.declared.design.Act.TheVariants as act
use Rattle.ap_desc.specs.declared.design.Arg.{Arg}
use Rattle.ap_desc.specs.declared.design.Arg.TheVariants as arg
use Rattle.ap_desc.specs.declared.design.Design.{Design}
use Rattle.ap_desc.specs.declared.design.Instr.{Instr}
use Rattle.ap_desc.specs.declared.design.Micro.{Micro}
use Rattle.ap_desc.specs.declared.design.Node.{Node}
use Rattle.ap_desc.specs.declared.design.Node.TheVariants as node
use Rattle.ap_ports.specs.Flow.{Some_of, TakesNode}
use Rattle.ap_ports.specs.Graphs.{Closes, IsAdded, IsOpenBy}
use Rattle.ap_ports.specs.Numbered.{AreNumbered}
use Rattle.ap_ports.specs.Numbers.{IsNumbered, IsNumberedNode, node_number, number_of_node}
use Rattle.ap_ports.specs.Ways.{Has, LeadsTo}
use Rattle.ap_ports.specs.declared.flow.Locals.{Locals}
use Rattle.ap_ports.specs.declared.ways.Ways.{Ways}
use Rattle.ap_ports.proofs.Counted.{stands_in}
use Rattle.ap_ports.proofs.Holding.{any_holds, holds_any}
use Rattle.ap_ports.proofs.Kept.{TakesNumber}
use Rattle.ap_ports.proofs.Members.{contains_at, each_get, place_of}
use Rattle.ap_ports.proofs.Numbered.{contained_numbered}

-- Numbers of nodes.

pub one_node : (x y : Node) → IsNumberedNode x → IsNumberedNode y → number_of_node x ≡ number_of_node y → x ≡ y
one_node (node.Unit a) (node.Unit b) low high e = ap (λ n. node.Unit n) e
one_node (node.MemRead a) (node.MemRead b) low high e = (let same : a ≡ b = omega arith in ap (λ n. node.MemRead n) same)
one_node (node.FileRead a p) (node.FileRead b q) low high e =
    let low_port = low.1 in
    let high_port = high.1 in
    let file : a ≡ b = omega arith in
    let port : p ≡ q = omega arith in
    ap (λ n. node.FileRead n p) file ∙ ap (λ n. node.FileRead b n) port
one_node (node.Unit a) (node.MemRead b) low high e = absurd (omega arith)
one_node (node.MemRead a) (node.Unit b) low high e = absurd (omega arith)
one_node (node.Unit a) (node.FileRead b q) low high e = absurd (omega arith)
one_node (node.FileRead a p) (node.Unit b) low high e = absurd (omega arith)
one_node (node.MemRead a) (node.FileRead b q) low high e = (let low_file = high.0 in let low_port = high.1 in absurd (omega arith))
one_node (node.FileRead a p) (node.MemRead b) low high e = (let low_file = low.0 in let low_port = low.1 in absurd (omega arith))

pub node_low : (x : Node) → IsNumberedNode x → number_of_node x < 68
node_low (node.Unit a) low = omega arith
node_low (node.MemRead a) low = omega arith
node_low (node.FileRead a p) low = let file = low.0 in let port = low.1 in omega arith

-- the node of a line whose number is known
pub record IsNodeOfNumber (a : Act) (n : ℕ) : Type 0 where
  pub item : Node
  pub uses : node_of a ≡ Some item
  pub low : IsNumberedNode item
  pub number : number_of_node item ≡ n

pub node_from : (a : Act) (n : ℕ) → IsNumbered a → node_number a ≡ Some n → IsNodeOfNumber a n
node_from (act.Compute unit op a b) n low e = record { item = node.Unit unit; uses = refl; low = low; number = same_Some unit n e }
node_from (act.ReadFile file port index) n low e = record { item = node.FileRead file port; uses = refl; low = low; number = same_Some (32 + 4 * file + port) n e }
node_from (act.ReadMem mem at) n low e = record { item = node.MemRead mem; uses = refl; low = low; number = same_Some (64 + mem) n e }
node_from _ n low e = absurd cc

pub number_from : (a : Act) (x : Node) → node_of a ≡ Some x → node_number a ≡ Some (number_of_node x)
number_from (act.Compute unit op a b) x e = ap (λ o. Some (number_of_node o)) (same_Some (node.Unit unit) x e)
number_from (act.ReadFile file port index) x e = ap (λ o. Some (number_of_node o)) (same_Some (node.FileRead file port) x e)
number_from (act.ReadMem mem at) x e = ap (λ o. Some (number_of_node o)) (same_Some (node.MemRead mem) x e)
number_from _ x e = absurd cc

pub low_from : (a : Act) (x : Node) → IsNumbered a → node_of a ≡ Some x → IsNumberedNode x
low_from (act.Compute unit op a b) x low e = subst IsNumberedNode (same_Some (node.Unit unit) x e) low
low_from (act.ReadFile file port index) x low e = subst IsNumberedNode (same_Some (node.FileRead file port) x e) low
low_from (act.ReadMem mem at) x low e = subst IsNumberedNode (same_Some (node.MemRead mem) x e) low
low_from _ x low e = absurd cc

-- What an operand comes from is a line of its instruction.

module _ (instr : Instr) (stage : ℕ) (source : Micro) where
  source_at : (through : List Micro) (a : Arg) → ComesFrom instr stage a through source → (i : ℕ) × (slice_get (makers instr) i ≡ Some source)
  source_at [] (arg.Local i) made = (i, ((local_maker instr stage i source).0 made).0)
  source_at [] (arg.Field i) made = absurd cc
  source_at [] arg.Pc made = absurd cc
  source_at [] arg.Link made = absurd cc
  source_at (m ∷ through) a (made, (k, b, low, at, comes)) = source_at through b comes

filtered : {X : Type 0} (p : X → Bool) (xs : List X) (i : ℕ) (x : X) → slice_get (filter p xs) i ≡ Some x → (j : ℕ) × (slice_get xs j ≡ Some x)
filtered p [] i x at = absurd cc
filtered {X} p (y ∷ ys) i x at = go (λ k there. filtered p ys k x there) (p y) i at where
  go : ((k : ℕ) → slice_get (filter p ys) k ≡ Some x → (j : ℕ) × (slice_get ys j ≡ Some x)) → (b : Bool) (i : ℕ) → slice_get (cond b (y ∷ filter p ys) (filter p ys)) i ≡ Some x → (j : ℕ) × (slice_get (y ∷ ys) j ≡ Some x)
  go rest true zero at = (zero, at)
  go rest true (suc i) at = let (j, there) = rest i at in (suc j, there)
  go rest false i at = let (j, there) = rest i at in (suc j, there)

pub source_there : (instr : Instr) (stage : ℕ) (source : Micro) (xs : List Arg) → Some_of (λ a. IsWiredFrom instr stage a source) xs → Contains instr.micros source
source_there instr stage source [] h = absurd h
source_there instr stage source (a ∷ xs) (inl (through, each, comes)) =
    let (i, at) = source_at instr stage source through a comes in
    let (j, there) = filtered (λ (x : Micro). assigned_count x.act == 1) instr.micros i source at in
    contains_at instr.micros j source there
source_there instr stage source (a ∷ xs) (inr h) = source_there instr stage source xs h

-- the node that a line takes, of this number
pub record IsTakenNode (instr : Instr) (m : Micro) (n : ℕ) : Type 0 where
  pub from : Node
  pub takes : TakesFrom instr m from
  pub low : IsNumberedNode from
  pub number : number_of_node from ≡ n

module _ (design : Design) (sound : IsSound design) (instr : Instr) (there : Contains design.instrs instr) (m : Micro) (line : Contains instr.micros m) where
  numbered_in : (x : Micro) → Contains instr.micros x → IsNumbered x.act
  numbered_in x has = contained_act (contained_numbered design sound instr there) has where
    contained_act : AreNumbered instr.micros → Contains instr.micros x → IsNumbered x.act
    contained_act all has = let (i, at) = place_of instr.micros x has in each_get (λ (y : Micro). IsNumbered y.act) instr.micros i x all at

  -- a node that the line takes has a number, and a number a node
  pub takes_number : (x : Node) → TakesFrom instr m x → TakesNumber instr m (number_of_node x)
  takes_number x (source, uses, any) = (source, number_from source.act x uses, any_holds (λ a. IsWiredFrom instr m.stage a source) (operands_of m.act) any)

  pub taken_low : (x : Node) → TakesFrom instr m x → IsNumberedNode x
  taken_low x (source, uses, any) =
      let has = source_there instr m.stage source (operands_of m.act) (any_holds (λ a. IsWiredFrom instr m.stage a source) (operands_of m.act) any) in
      low_from source.act x (numbered_in source has) uses

  pub number_takes : (n : ℕ) → TakesNumber instr m n → IsTakenNode instr m n
  number_takes n (source, number, some) =
      let has = source_there instr m.stage source (operands_of m.act) some in
      let x = node_from source.act n (numbered_in source has) number in
      record { from = x.item; takes = (source, x.uses, holds_any (λ a. IsWiredFrom instr m.stage a source) (operands_of m.act) some); low = x.low; number = x.number }

  module _ (locals : Locals) (old new : Ways) (there_takes : (n : ℕ) → TakesNode locals m n → TakesNumber instr m n) (back_takes : (n : ℕ) → TakesNumber instr m n → TakesNode locals m n)
      (so_far : IsOpenBy design m.stage (λ n. nat_lt n m.line) old) (to : Node) (uses : node_of m.act ≡ Some to) where
    to_low : IsNumberedNode to
    to_low = low_from m.act to (numbered_in m line) uses

    to_number : node_number m.act ≡ Some (number_of_node to)
    to_number = number_from m.act to uses

    abbrev Before : Node → Node → Type 0
    Before = Edge design m.stage (λ n. nat_lt n m.line)

    abbrev UpTo : Node → Node → Type 0
    UpTo = Edge design m.stage (λ n. nat_le n m.line)

    -- the line closes a loop where its node leads to one that it takes
    closes_there : Closes old locals m (number_of_node to) → (u : Node) × TakesFrom instr m u × Leads Before to u
    closes_there (n, takes, leads) =
        let t = number_takes n (there_takes n takes) in
        (t.from, t.takes, (so_far.0 to t.from to_low t.low).0 (subst (LeadsTo old (number_of_node to)) (sym t.number) leads))

    closes_back : (u : Node) × TakesFrom instr m u × Leads Before to u → Closes old locals m (number_of_node to)
    closes_back (u, takes, leads) = (number_of_node u, back_takes (number_of_node u) (takes_number u takes), (so_far.0 to u to_low (taken_low u takes)).1 leads)

    pub closing_there : Closes old locals m (number_of_node to) → ClosesLoop design m.stage m.line
    closing_there closes = (closing_line design instr m sound there line to uses so_far.1).1 (closes_there closes)

    module _ (added : IsAdded locals m m.stage old new) where
      grows_there : (x y : Node) → IsNumberedNode x → IsNumberedNode y → LeadsTo new (number_of_node x) (number_of_node y) → Leads UpTo x y
      grows_there x y low high leads = (leads_by_line design instr m sound there line to uses x y).1
          (elim ((added.added (number_of_node to) refl to_number (number_of_node x) (number_of_node y)).0 leads) [
            | inl way ↦ inl ((so_far.0 x y low high).0 way)
            | inr (n, takes, one, other) ↦
                let t = number_takes n (there_takes n takes) in
                inr (t.from, t.takes, (so_far.0 x t.from low t.low).0 (subst (LeadsTo old (number_of_node x)) (sym t.number) one), (so_far.0 to y to_low high).0 other)
          ])

      grows_back : (x y : Node) → IsNumberedNode x → IsNumberedNode y → Leads UpTo x y → LeadsTo new (number_of_node x) (number_of_node y)
      grows_back x y low high leads = (added.added (number_of_node to) refl to_number (number_of_node x) (number_of_node y)).1
          (elim ((leads_by_line design instr m sound there line to uses x y).0 leads) [
            | inl way ↦ inl ((so_far.0 x y low high).1 way)
            | inr (u, takes, one, other) ↦
                let u_low = taken_low u takes in
                inr (number_of_node u, back_takes (number_of_node u) (takes_number u takes), (so_far.0 x u low u_low).1 one, (so_far.0 to y to_low high).1 other)
          ])

      still_open : IsLooped design m.stage (λ n. nat_le n m.line) → ⊥
      still_open loop =
          let (j, at) = stands_in design instr m there line in
          let closes : ClosesLoop design m.stage m.line = record { micro = m; is_line = contains_at (micros_in design) j m at; at = refl; in_stage = refl; closed = loop; open_before = so_far.1 } in
          added.unclosed (number_of_node to) refl to_number (closes_back ((closing_line design instr m sound there line to uses so_far.1).0 closes))

      pub open_grows : IsOpenBy design m.stage (λ n. nat_le n m.line) new
      open_grows = (λ x y low high. (grows_there x y low high, grows_back x y low high), still_open)

-- What a line adds, from what the code computes.

module _ (locals : Locals) (m : Micro) (stage : ℕ) (old new : Ways) (to sources : ℕ) (leads : Bool) (uses : node_number m.act ≡ Some to) (here : m.stage ≡ stage) (taken : (n : ℕ) → Has sources n ↔ TakesNode locals m n)
    (tells : (leads ≡ true) ↔ ((u : ℕ) × Has sources u × LeadsTo old to u)) (fails : leads ≡ false)
    (adds : (x y : ℕ) → LeadsTo new x y ↔ (LeadsTo old x y ⊎ ((u : ℕ) × Has sources u × LeadsTo old x u × LeadsTo old to y))) where
  unclosed_to : Closes old locals m to → ⊥
  unclosed_to (u, takes, way) = both_ways leads fails (tells.1 (u, (taken u).1 takes, way))

  added_to : (x y : ℕ) → LeadsTo new x y ↔ (LeadsTo old x y ⊎ ((u : ℕ) × TakesNode locals m u × LeadsTo old x u × LeadsTo old to y))
  added_to x y = (
    λ way. elim ((adds x y).0 way) [ inl before ↦ inl before | inr (u, has, one, other) ↦ inr (u, (taken u).0 has, one, other) ],
    λ ways. (adds x y).1 (elim ways [ inl before ↦ inl before | inr (u, takes, one, other) ↦ inr (u, (taken u).1 takes, one, other) ]),
  )

  pub line_added : IsAdded locals m stage old new
  line_added = record {
    unclosed = λ n in_stage number closes. unclosed_to (subst (Closes old locals m) (same_Some n to (sym number ∙ uses)) closes);
    added = λ n in_stage number x y. subst (λ k. LeadsTo new x y ↔ (LeadsTo old x y ⊎ ((u : ℕ) × TakesNode locals m u × LeadsTo old x u × LeadsTo old k y))) (same_Some to n (sym uses ∙ number)) (added_to x y);
    same = λ none x y. absurd (none to here uses);
  }
