-- The edges of a stage are those of a list. So whether it has a loop is decided, and where it has one some line closes it.
use Rattle.std.proofs.Common.{◌≡◌, ℕ, zero, suc, ◌+◌, ◌<◌, ◌≤◌, Bool, true, List, [], ◌∷◌, ◌++◌, Option, Some, None, inl, inr, refl, sym, subst, ap, ◌∙◌, arith, eqb-true, eq-eqb}
use Rattle.std.specs.Prelude.{◌⊎◌, ◌↔◌, ◌==◌, IsTrue, nat_le, nat_lt}
use Rattle.std.proofs.lemmas.Bool.{cases_eq, cases_lt, leb-true, le-leb, lt-ltb, ltb-true}
use Rattle.ap_desc.proofs.Comings.{nat_decided, true_decided, wired_listed}
use Rattle.ap_desc.proofs.Listed.{Decided, Listed, listed_any, listed_by, listed_if, listed_like, listed_none, loop_decided}
use Rattle.ap_desc.proofs.Loops.{edge_counts_more, looped_more}
use Rattle.ap_desc.proofs.Members.{In, any_in, contains_in, in_any, in_contains, in_flat_map}
use Rattle.ap_desc.specs.Chains.{ClosesLoop, Edge, IsLooped, IsWalk, IsWiredFrom, node_of, operands_of}
use Rattle.ap_desc.specs.Ports.{micros_in}
use Rattle.ap_desc.specs.declared.design.Design.{Design}
use Rattle.ap_desc.specs.declared.design.Instr.{Instr}
use Rattle.ap_desc.specs.declared.design.Micro.{Micro}
use Rattle.ap_desc.specs.declared.design.Arg.{Arg}
use Rattle.ap_desc.specs.declared.design.Node.{Node}
use Rattle.ap_desc.specs.declared.design.Node.TheVariants as node

node_decided : (a b : Node) → Decided (a ≡ b)
node_decided (node.Unit i) (node.Unit j) = elim (cases_eq i j) [ inl same ↦ inl (ap (λ n. node.Unit n) same) | inr other ↦ inr (λ e. other cc) ]
node_decided (node.MemRead i) (node.MemRead j) = elim (cases_eq i j) [ inl same ↦ inl (ap (λ n. node.MemRead n) same) | inr other ↦ inr (λ e. other cc) ]
node_decided (node.FileRead i p) (node.FileRead j q) = elim (cases_eq i j) [
  | inl same ↦ elim (cases_eq p q) [
    | inl equal ↦ inl (ap (λ n. node.FileRead n p) same ∙ ap (λ n. node.FileRead j n) equal)
    | inr other ↦ inr (λ e. other cc)
  ]
  | inr other ↦ inr (λ e. other cc)
]
node_decided _ _ = inr (λ e. absurd cc)

-- the two nodes are these
abbrev AreNodes : Option Node → Option Node → Node × Node → Type 0
AreNodes from to p = (to ≡ Some p.1) × (from ≡ Some p.0)

nodes_listed : (from to : Option Node) → Listed (AreNodes from to)
nodes_listed None to = listed_none _ (λ p h. let wrong : None ≡ Some p.0 = h.1 in absurd cc)
nodes_listed (Some x) None = listed_none _ (λ p h. let wrong : None ≡ Some p.1 = h.0 in absurd cc)
nodes_listed (Some x) (Some y) = record { items = (x, y) ∷ []; all = all; only = only } where
  all : (p : Node × Node) → AreNodes (Some x) (Some y) p → In p ((x, y) ∷ [])
  all (a, b) (to, from) = let first : a ≡ x = cc in let second : b ≡ y = cc in inl (ap (λ n. (n, b)) first ∙ ap (λ n. (x, n)) second)

  only : (p : Node × Node) → In p ((x, y) ∷ []) → AreNodes (Some x) (Some y) p
  only p (inl e) = subst (AreNodes (Some x) (Some y)) (sym e) (refl, refl)
  only p (inr h) = absurd h

module _ (design : Design) (stage : ℕ) (counts : ℕ → Bool) where
  -- the edges that a line makes by one of its operands
  abbrev BySource : Instr → Micro → Arg → Node × Node → Type 0
  BySource instr user a p = (source : Micro) × IsWiredFrom instr stage a source × AreNodes (node_of source.act) (node_of user.act) p

  abbrev ByLine : Instr → Micro → Node × Node → Type 0
  ByLine instr user p = (user.stage ≡ stage) × (IsTrue (counts user.line) × ((a : Arg) × In a (operands_of user.act) × BySource instr user a p))

  abbrev ByInstr : Instr → Node × Node → Type 0
  ByInstr instr p = (user : Micro) × In user instr.micros × ByLine instr user p

  abbrev ByDesign : Node × Node → Type 0
  ByDesign p = (instr : Instr) × In instr design.instrs × ByInstr instr p

  by_listed : Listed ByDesign
  by_listed = listed_any ByInstr (λ instr. listed_any (ByLine instr) (λ user. listed_if _ _ (nat_decided user.stage stage) (listed_if _ _ (true_decided (counts user.line))
      (listed_any (BySource instr user) (λ a. listed_by (IsWiredFrom instr stage a) (λ (source : Micro). AreNodes (node_of source.act) (node_of user.act)) (wired_listed instr stage a)
      (λ source. nodes_listed (node_of source.act) (node_of user.act))) (operands_of user.act)))) instr.micros) design.instrs

  edge_there : (p : Node × Node) → ByDesign p → Edge design stage counts p.0 p.1
  edge_there p (instr, there, (user, line, (here, (counted, (a, operand, (source, wired, (to, from))))))) = record {
    instr = instr;
    is_instr = in_contains design.instrs instr there;
    user = user;
    is_line = in_contains instr.micros user line;
    in_stage = here;
    counted = counted;
    uses = to;
    source = source;
    uses_from = from;
    wired = in_any (λ x. IsWiredFrom instr stage x source) (operands_of user.act) a operand wired;
  }

  edge_back : (p : Node × Node) → Edge design stage counts p.0 p.1 → ByDesign p
  edge_back p e =
      let (a, operand, wired) = any_in (λ x. IsWiredFrom e.instr stage x e.source) (operands_of e.user.act) e.wired in
      (e.instr, contains_in design.instrs e.instr e.is_instr, (e.user, contains_in e.instr.micros e.user e.is_line, (e.in_stage, (e.counted, (a, operand, (e.source, wired, (e.uses, e.uses_from)))))))

  pub looped_decided : Decided (IsLooped design stage counts)
  looped_decided = loop_decided (Edge design stage counts) node_decided (listed_like _ _ edge_there edge_back by_listed)

-- the least number that has a property, where one has it
first_or_none : (P : ℕ → Type 0) → ((n : ℕ) → Decided (P n)) → (n : ℕ) → ((m : ℕ) × P m × ((k : ℕ) → k < m → P k → ⊥)) ⊎ ((k : ℕ) → k < n → P k → ⊥)
first_or_none P each zero = inr (λ k below p. absurd (omega arith))
first_or_none P each (suc n) = step (first_or_none P each n) (each n) where
  step : (((m : ℕ) × P m × ((k : ℕ) → k < m → P k → ⊥)) ⊎ ((k : ℕ) → k < n → P k → ⊥)) → Decided (P n) → ((m : ℕ) × P m × ((k : ℕ) → k < m → P k → ⊥)) ⊎ ((k : ℕ) → k < suc n → P k → ⊥)
  step (inl least) here = inl least
  step (inr none) (inl p) = inl (n, p, none)
  step (inr none) (inr never) = inr (λ k below p. elim (cases_lt k n) [ inl less ↦ none k less p | inr up ↦ let same : k ≡ n = omega arith in never (subst P same p) ])

least_of : (P : ℕ → Type 0) → ((n : ℕ) → Decided (P n)) → (n : ℕ) → P n → (m : ℕ) × P m × ((k : ℕ) → k < m → P k → ⊥)
least_of P each n p = elim (first_or_none P each (suc n)) [ inl least ↦ least | inr none ↦ absurd (none n (omega arith) p) ]

-- the edge made again where its line counts otherwise
recount : (design : Design) (stage : ℕ) (counts other : ℕ → Bool) (from to : Node) (e : Edge design stage counts from to) → IsTrue (other e.user.line) → Edge design stage other from to
recount design stage counts other from to e counted = record {
  instr = e.instr;
  is_instr = e.is_instr;
  user = e.user;
  is_line = e.is_line;
  in_stage = e.in_stage;
  counted = counted;
  uses = e.uses;
  source = e.source;
  uses_from = e.uses_from;
  wired = e.wired;
}

-- the edges up to a line are those before it and its own
edge_splits : (design : Design) (stage line : ℕ) (from to : Node) → Edge design stage (λ n. nat_le n line) from to
    → Edge design stage (λ n. nat_lt n line) from to ⊎ Edge design stage (λ n. n == line) from to
edge_splits design stage line from to e = elim (cases_lt e.user.line line) [
  | inl below ↦ inl (recount design stage (λ n. nat_le n line) (λ n. nat_lt n line) from to e (lt-ltb e.user.line line below))
  | inr up ↦ inr (recount design stage (λ n. nat_le n line) (λ n. n == line) from to e (eq-eqb e.user.line line (let most : e.user.line ≤ line = leb-true e.user.line line e.counted in omega arith)))
]

edge_joins : (design : Design) (stage line : ℕ) (from to : Node) → (Edge design stage (λ n. nat_lt n line) from to ⊎ Edge design stage (λ n. n == line) from to)
    → Edge design stage (λ n. nat_le n line) from to
edge_joins design stage line from to (inl e) =
    recount design stage (λ n. nat_lt n line) (λ n. nat_le n line) from to e (le-leb e.user.line line (let below : e.user.line < line = ltb-true e.user.line line e.counted in omega arith))
edge_joins design stage line from to (inr e) =
    recount design stage (λ n. n == line) (λ n. nat_le n line) from to e (le-leb e.user.line line (let same : e.user.line ≡ line = eqb-true e.user.line line e.counted in omega arith))

pub edges_up_to : (design : Design) (stage line : ℕ) (from to : Node) → Edge design stage (λ n. nat_le n line) from to
    ↔ (Edge design stage (λ n. nat_lt n line) from to ⊎ Edge design stage (λ n. n == line) from to)
edges_up_to design stage line from to = (edge_splits design stage line from to, edge_joins design stage line from to)

module _ (design : Design) (stage : ℕ) where
  -- the edges up to a line, and those before it
  abbrev Up : ℕ → Node → Node → Type 0
  Up line = Edge design stage (λ n. nat_le n line)

  abbrev Before : ℕ → Node → Node → Type 0
  Before line = Edge design stage (λ n. nat_lt n line)

  more : (line above : ℕ) → line ≤ above → (x y : Node) → Up line x y → Up above x y
  more line above le = edge_counts_more design stage (λ n. nat_le n line) (λ n. nat_le n above) (λ n low. le-leb n above (let up : n ≤ line = leb-true n line low in omega arith))

  walk_more : (line above : ℕ) → line ≤ above → (x : Node) (xs : List Node) → IsWalk (Up line) x xs → IsWalk (Up above) x xs
  walk_more line above le x [] walk = tt
  walk_more line above le x (y ∷ xs) walk = (more line above le x y walk.0, walk_more line above le y xs walk.1)

  -- a walk has a last line
  walk_bounded : (x : Node) (xs : List Node) → IsWalk (Edge design stage (λ n. true)) x xs → (line : ℕ) × IsWalk (Up line) x xs
  walk_bounded x [] walk = (0, tt)
  walk_bounded x (y ∷ xs) walk =
      let (line, rest) = walk_bounded y xs walk.1 in
      let e = walk.0 in
      let above = e.user.line + line in
      (above, (recount design stage (λ n. true) (λ n. nat_le n above) x y e (le-leb e.user.line above (omega arith)), walk_more line above (omega arith) y xs rest))

  -- a walk up to a line goes before it, or one of its edges is of that line
  walk_splits : (line : ℕ) (x : Node) (xs : List Node) → IsWalk (Up line) x xs
      → IsWalk (Before line) x xs ⊎ ((from to : Node) × (e : Up line from to) × (e.user.line ≡ line))
  walk_splits line x [] walk = inl tt
  walk_splits line x (y ∷ xs) walk = step walk.0 (cases_lt walk.0.user.line line) (walk_splits line y xs walk.1) where
    step : (e : Up line x y) → ((e.user.line < line) ⊎ (line ≤ e.user.line)) → (IsWalk (Before line) y xs ⊎ ((from to : Node) × (d : Up line from to) × (d.user.line ≡ line)))
        → IsWalk (Before line) x (y ∷ xs) ⊎ ((from to : Node) × (d : Up line from to) × (d.user.line ≡ line))
    step e (inr up) later = inr (x, y, e, let most : e.user.line ≤ line = leb-true e.user.line line e.counted in omega arith)
    step e (inl below) (inl rest) = inl (recount design stage (λ n. nat_le n line) (λ n. nat_lt n line) x y e (lt-ltb e.user.line line below), rest)
    step e (inl below) (inr found) = inr found

  -- where no earlier line has a loop up to it, there is none before this one
  none_before : (line : ℕ) → ((k : ℕ) → k < line → IsLooped design stage (λ n. nat_le n k) → ⊥) → IsLooped design stage (λ n. nat_lt n line) → ⊥
  none_before zero none (x, [], walk) = let wrong : walk.0.user.line < 0 = ltb-true walk.0.user.line 0 walk.0.counted in omega arith
  none_before zero none (x, y ∷ between, walk) = let wrong : walk.0.user.line < 0 = ltb-true walk.0.user.line 0 walk.0.counted in omega arith
  none_before (suc line) none loop =
      none line (omega arith) (looped_more design stage (λ n. nat_lt n (suc line)) (λ n. nat_le n line) (λ n low. le-leb n line (let below : n < suc line = ltb-true n (suc line) low in omega arith)) loop)

  closes_at : (line : ℕ) → ((k : ℕ) → k < line → IsLooped design stage (λ n. nat_le n k) → ⊥) → IsLooped design stage (λ n. nat_le n line) → ClosesLoop design stage line
  closes_at line none (x, between, walk) = found (walk_splits line x (between ++ x ∷ []) walk) where
    found : (IsWalk (Before line) x (between ++ x ∷ []) ⊎ ((from to : Node) × (e : Up line from to) × (e.user.line ≡ line))) → ClosesLoop design stage line
    found (inl before) = absurd (none_before line none (x, between, before))
    found (inr (from, to, e, at)) = record {
      micro = e.user;
      is_line = in_contains (micros_in design) e.user (in_flat_map (λ (i : Instr). i.micros) design.instrs e.instr e.user (contains_in design.instrs e.instr e.is_instr) (contains_in e.instr.micros e.user e.is_line));
      at = at;
      in_stage = e.in_stage;
      closed = (x, between, walk);
      open_before = none_before line none;
    }

  -- a stage with a loop has a line that closes it
  pub some_line_closes : IsLooped design stage (λ n. true) → (line : ℕ) × ClosesLoop design stage line
  some_line_closes (x, between, walk) =
      let (above, bounded) = walk_bounded x (between ++ x ∷ []) walk in
      let (line, loop, none) = least_of (λ line. IsLooped design stage (λ n. nat_le n line)) (λ line. looped_decided design stage (λ n. nat_le n line)) above (x, between, bounded) in
      (line, closes_at line none loop)
