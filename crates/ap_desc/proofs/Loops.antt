-- Walks and loops: where each step raises a rank there is no loop.
use Rattle.std.proofs.Common.{◌≡◌, ℕ, ◌<◌, Bool, true, List, [], ◌∷◌, ◌++◌, Some, inl, inr, ◌≤◌, refl, arith}
use Rattle.std.specs.Prelude.{slice_get, IsTrue, nat_le, nat_lt}
use Rattle.std.proofs.lemmas.Bool.{cases_order, leb-true, lt-ltb}
use Rattle.ap_desc.specs.Chains.{IsWalk, HasLoop, IsLooped, Edge, StandsBefore, IsChainOrder, ClosesLoop}
use Rattle.ap_desc.specs.declared.design.Design.{Design}
use Rattle.ap_desc.specs.declared.design.Node.{Node}

-- a walk ends higher than it began
pub walk_rises : {X : Type 0} (Step : X → X → Type 0) (rank : X → ℕ) → ((x y : X) → Step x y → rank x < rank y) → (x : X) (between : List X) (y : X) → IsWalk Step x (between ++ y ∷ []) → rank x < rank y
walk_rises Step rank up x [] y walk = up x y walk.0
walk_rises Step rank up x (z ∷ between) y walk =
    let first : rank x < rank z = up x z walk.0 in
    let rest : rank z < rank y = walk_rises Step rank up z between y walk.1 in
    omega arith

pub rising_without_loop : {X : Type 0} (Step : X → X → Type 0) (rank : X → ℕ) → ((x y : X) → Step x y → rank x < rank y) → HasLoop Step → ⊥
rising_without_loop Step rank up loop = let climb : rank loop.0 < rank loop.0 = walk_rises Step rank up loop.0 loop.1 loop.0 loop.2 in omega arith

-- standing before goes on, where each stands at one place
stands_on : {X : Type 0} (xs : List X) → ((n : X) (i j : ℕ) → slice_get xs i ≡ Some n → slice_get xs j ≡ Some n → i ≡ j) → (x y z : X) → StandsBefore xs x y → StandsBefore xs y z → StandsBefore xs x z
stands_on xs once x y z (i, j, below, at_x, at_y) (k, l, further, again, at_z) =
    let same : j ≡ k = once y j k at_y again in
    let far : i < l = omega arith in
    (i, l, far, at_x, at_z)

-- the end of a walk along such steps stands after its beginning
walk_goes_on : {X : Type 0} (xs : List X) → ((n : X) (i j : ℕ) → slice_get xs i ≡ Some n → slice_get xs j ≡ Some n → i ≡ j) → (Step : X → X → Type 0) → ((x y : X) → Step x y → StandsBefore xs x y)
    → (x : X) (between : List X) (y : X) → IsWalk Step x (between ++ y ∷ []) → StandsBefore xs x y
walk_goes_on xs once Step forward x [] y walk = forward x y walk.0
walk_goes_on xs once Step forward x (z ∷ between) y walk = stands_on xs once x z y (forward x z walk.0) (walk_goes_on xs once Step forward z between y walk.1)

-- a stage that has a chain order has no loop
pub ordered_without_loop : (design : Design) (stage : ℕ) (order : List Node) → IsChainOrder design stage order → IsLooped design stage (λ n. true) → ⊥
ordered_without_loop design stage order o (x, between, walk) =
    let (i, j, below, at, again) = walk_goes_on order o.once (Edge design stage (λ n. true)) o.forward x between x walk in
    let same : i ≡ j = o.once x i j at again in
    omega arith

-- a walk along steps is one along steps that they are among
pub walk_maps : {X : Type 0} (Step More : X → X → Type 0) → ((x y : X) → Step x y → More x y) → (x : X) (xs : List X) → IsWalk Step x xs → IsWalk More x xs
walk_maps Step More up x [] walk = tt
walk_maps Step More up x (y ∷ xs) walk = (up x y walk.0, walk_maps Step More up y xs walk.1)

pub loop_maps : {X : Type 0} (Step More : X → X → Type 0) → ((x y : X) → Step x y → More x y) → HasLoop Step → HasLoop More
loop_maps Step More up (x, between, walk) = (x, between, walk_maps Step More up x (between ++ x ∷ []) walk)

-- an edge where more lines count
pub edge_counts_more : (design : Design) (stage : ℕ) (counts more : ℕ → Bool) → ((n : ℕ) → IsTrue (counts n) → IsTrue (more n)) → (from to : Node) → Edge design stage counts from to → Edge design stage more from to
edge_counts_more design stage counts more up from to e = record {
  instr = e.instr;
  is_instr = e.is_instr;
  user = e.user;
  is_line = e.is_line;
  in_stage = e.in_stage;
  counted = up e.user.line e.counted;
  uses = e.uses;
  source = e.source;
  uses_from = e.uses_from;
  wired = e.wired;
}

pub looped_more : (design : Design) (stage : ℕ) (counts more : ℕ → Bool) → ((n : ℕ) → IsTrue (counts n) → IsTrue (more n)) → IsLooped design stage counts → IsLooped design stage more
looped_more design stage counts more up = loop_maps (Edge design stage counts) (Edge design stage more) (edge_counts_more design stage counts more up)

pub closed_is_looped : (design : Design) (stage line : ℕ) → ClosesLoop design stage line → IsLooped design stage (λ n. true)
closed_is_looped design stage line c = looped_more design stage (λ n. nat_le n line) (λ n. true) (λ n h. refl) c.closed

-- the line that closes the loop of a stage is one
closes_no_later : (design : Design) (stage line other : ℕ) → ClosesLoop design stage line → ClosesLoop design stage other → line < other → ⊥
closes_no_later design stage line other c d below =
    d.open_before (looped_more design stage (λ n. nat_le n line) (λ n. nat_lt n other) (λ n h. lt-ltb n other (let up : n ≤ line = leb-true n line h in omega arith)) c.closed)

pub one_closing_line : (design : Design) (stage line other : ℕ) → ClosesLoop design stage line → ClosesLoop design stage other → line ≡ other
one_closing_line design stage line other c d = elim (cases_order line other) [
  | inl same ↦ same
  | inr (inl below) ↦ absurd (closes_no_later design stage line other c d below)
  | inr (inr above) ↦ absurd (closes_no_later design stage other line d c above)
]
