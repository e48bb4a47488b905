-- The edges that a line makes: a sound design has no other line of its number.
use Rattle.std.proofs.Common.{◌≡◌, ℕ, ◌<◌, List, [], ◌∷◌, ◌++◌, map, Some, None, inl, inr, refl, sym, subst, ap, ◌∙◌, arith, eqb-true, eq-eqb, flat_map}
use Rattle.std.specs.Prelude.{◌⊎◌, ◌↔◌, ◌==◌, Any, Contains, nat_le, nat_lt}
use Rattle.std.proofs.lemmas.Option.{same_Some}
use Rattle.ap_desc.proofs.Closing.{edges_up_to}
use Rattle.ap_desc.proofs.Loops.{loop_maps}
use Rattle.ap_desc.proofs.Walks.{leads_grow, leads_maps, loop_grows}
use Rattle.ap_desc.proofs.LineOrder.{rise_left, rise_right, sound_rise}
use Rattle.ap_desc.proofs.Members.{In, contains_in, in_contains, in_flat_map, in_left, in_right}
use Rattle.ap_desc.specs.Chains.{ClosesLoop, Edge, IsLooped, IsWiredFrom, Leads, MakesEdge, StepsTo, TakesFrom, node_of, operands_of}
use Rattle.ap_desc.specs.Designs.{Rise}
use Rattle.ap_desc.specs.Ports.{micros_in}
use Rattle.ap_desc.specs.Sound.{IsSound}
use Rattle.ap_desc.specs.declared.design.Design.{Design}
use Rattle.ap_desc.specs.declared.design.Instr.{Instr}
use Rattle.ap_desc.specs.declared.design.Micro.{Micro}
use Rattle.ap_desc.specs.declared.design.Node.{Node}

abbrev lines_of : Instr → List ℕ
lines_of i = i.line ∷ map (λ (m : Micro). m.line) i.micros

in_map : {X Y : Type 0} (g : X → Y) (xs : List X) (x : X) → In x xs → In (g x) (map g xs)
in_map g [] x h = absurd h
in_map g (y ∷ xs) x (inl e) = inl (ap g e)
in_map g (y ∷ xs) x (inr h) = inr (in_map g xs x h)

-- what is in a rising list lies above its beginning
rise_in : (low : ℕ) (xs : List ℕ) (k : ℕ) → Rise low xs → In k xs → low < k
rise_in low [] k rise h = absurd h
rise_in low (x ∷ xs) k rise (inl same) = subst (λ n. low < n) (sym same) rise.0
rise_in low (x ∷ xs) k rise (inr h) = let first : low < x = rise.0 in let later = rise_in x xs k rise.1 h in omega arith

-- and what is in its beginning below what follows
rise_apart : (low : ℕ) (xs ys : List ℕ) (k n : ℕ) → Rise low (xs ++ ys) → In k xs → In n ys → k < n
rise_apart low [] ys k n rise h g = absurd h
rise_apart low (x ∷ xs) ys k n rise (inl same) g = subst (λ m. m < n) (sym same) (rise_in x ys n (rise_right x xs ys rise.1) g)
rise_apart low (x ∷ xs) ys k n rise (inr h) g = rise_apart x xs ys k n rise.1 h g

-- a rising list has each thing at one place
same_of_line : {X : Type 0} (line_of : X → ℕ) (low : ℕ) (xs : List X) (x y : X) → Rise low (map line_of xs) → In x xs → In y xs → line_of x ≡ line_of y → x ≡ y
same_of_line line_of low [] x y rise h g e = absurd h
same_of_line line_of low (z ∷ xs) x y rise (inl one) (inl two) e = one ∙ sym two
same_of_line line_of low (z ∷ xs) x y rise (inl one) (inr g) e =
    let up : line_of z < line_of y = rise_in (line_of z) (map line_of xs) (line_of y) rise.1 (in_map line_of xs y g) in
    let same : line_of x ≡ line_of z = ap line_of one in
    absurd (omega arith)
same_of_line line_of low (z ∷ xs) x y rise (inr h) (inl two) e =
    let up : line_of z < line_of x = rise_in (line_of z) (map line_of xs) (line_of x) rise.1 (in_map line_of xs x h) in
    let same : line_of y ≡ line_of z = ap line_of two in
    absurd (omega arith)
same_of_line line_of low (z ∷ xs) x y rise (inr h) (inr g) e = same_of_line line_of (line_of z) xs x y rise.1 h g e

in_flat : (instrs : List Instr) (i : Instr) (m : Micro) → In i instrs → In m i.micros → In m.line (flat_map lines_of instrs)
in_flat [] i m h g = absurd h
in_flat (j ∷ instrs) i m (inl same) g = in_left m.line (lines_of j) (flat_map lines_of instrs) (inr (in_map (λ (x : Micro). x.line) j.micros m (subst (λ (x : Instr). In m x.micros) same g)))
in_flat (j ∷ instrs) i m (inr h) g = in_right m.line (lines_of j) (flat_map lines_of instrs) (in_flat instrs i m h g)

-- one line has one number
one_line : (low : ℕ) (instrs : List Instr) (i j : Instr) (m n : Micro) → Rise low (flat_map lines_of instrs) → In i instrs → In m i.micros → In j instrs → In n j.micros → m.line ≡ n.line → (i ≡ j) × (m ≡ n)
one_line low [] i j m n rise h of g its e = absurd h
one_line low (k ∷ instrs) i j m n rise (inl one) of (inl two) its e =
    let own : Rise k.line (map (λ (x : Micro). x.line) k.micros) = rise_left k.line (map (λ (x : Micro). x.line) k.micros) (flat_map lines_of instrs) rise.1 in
    (one ∙ sym two, same_of_line (λ (x : Micro). x.line) k.line k.micros m n own (subst (λ (x : Instr). In m x.micros) one of) (subst (λ (x : Instr). In n x.micros) two its) e)
one_line low (k ∷ instrs) i j m n rise (inl one) of (inr g) its e =
    let below = rise_apart k.line (map (λ (x : Micro). x.line) k.micros) (flat_map lines_of instrs) m.line n.line rise.1 (in_map (λ (x : Micro). x.line) k.micros m (subst (λ (x : Instr). In m x.micros) one of)) (in_flat instrs j n g its) in
    absurd (omega arith)
one_line low (k ∷ instrs) i j m n rise (inr h) of (inl two) its e =
    let below = rise_apart k.line (map (λ (x : Micro). x.line) k.micros) (flat_map lines_of instrs) n.line m.line rise.1 (in_map (λ (x : Micro). x.line) k.micros n (subst (λ (x : Instr). In n x.micros) two its)) (in_flat instrs i m h of) in
    absurd (omega arith)
one_line low (k ∷ instrs) i j m n rise (inr h) of (inr g) its e =
    one_line k.line instrs i j m n (rise_right k.line (map (λ (x : Micro). x.line) k.micros) (flat_map lines_of instrs) rise.1) h of g its e

module _ (design : Design) (instr : Instr) (user : Micro) (from to : Node) (sound : IsSound design) (there : Contains design.instrs instr) (line : Contains instr.micros user) where
  own_there : Edge design user.stage (λ n. n == user.line) from to → MakesEdge instr user from to
  own_there e =
      let number : user.line ≡ e.user.line = sym (eqb-true e.user.line user.line e.counted) in
      let (same_instr, same) = one_line 0 design.instrs instr e.instr user e.user (sound_rise design sound) (contains_in design.instrs instr there) (contains_in instr.micros user line)
      (contains_in design.instrs e.instr e.is_instr) (contains_in e.instr.micros e.user e.is_line) number in
      let uses : node_of user.act ≡ Some to = ap (λ (m : Micro). node_of m.act) same ∙ e.uses in
      let wired : Any (λ a. IsWiredFrom instr user.stage a e.source) (operands_of user.act) =
      subst (λ (i : Instr). Any (λ a. IsWiredFrom i user.stage a e.source) (operands_of user.act)) (sym same_instr)
      (subst (λ (m : Micro). Any (λ a. IsWiredFrom e.instr user.stage a e.source) (operands_of m.act)) (sym same) e.wired) in
      (uses, (e.source, e.uses_from, wired))

  own_back : MakesEdge instr user from to → Edge design user.stage (λ n. n == user.line) from to
  own_back (uses, (source, uses_from, wired)) = record {
    instr = instr;
    is_instr = there;
    user = user;
    is_line = line;
    in_stage = refl;
    counted = eq-eqb user.line user.line refl;
    uses = uses;
    source = source;
    uses_from = uses_from;
    wired = wired;
  }

  pub own_edges : Edge design user.stage (λ n. n == user.line) from to ↔ MakesEdge instr user from to
  own_edges = (own_there, own_back)

module _ (design : Design) (instr : Instr) (user : Micro) (sound : IsSound design) (there : Contains design.instrs instr) (line : Contains instr.micros user) where
  abbrev Before : Node → Node → Type 0
  Before = Edge design user.stage (λ n. nat_lt n user.line)

  abbrev UpTo : Node → Node → Type 0
  UpTo = Edge design user.stage (λ n. nat_le n user.line)

  module _ (to : Node) (uses : node_of user.act ≡ Some to) where
    split : (x y : Node) → UpTo x y → StepsTo Before (TakesFrom instr user) to x y
    split x y e = elim ((edges_up_to design user.stage user.line x y).0 e) [
      | inl before ↦ inl before
      | inr own ↦
          let (at, takes) = own_there design instr user x y sound there line own in
          inr (takes, same_Some y to (sym at ∙ uses))
    ]

    join : (x y : Node) → StepsTo Before (TakesFrom instr user) to x y → UpTo x y
    join x y (inl before) = (edges_up_to design user.stage user.line x y).1 (inl before)
    join x y (inr (takes, same)) =
        (edges_up_to design user.stage user.line x y).1 (inr (own_back design instr user x y sound there line (uses ∙ ap (λ n. Some n) (sym same), takes)))

    -- a walk goes by the edges before the line, or over one of its own
    pub leads_by_line : (x y : Node) → Leads UpTo x y ↔ (Leads Before x y ⊎ ((u : Node) × TakesFrom instr user u × Leads Before x u × Leads Before to y))
    leads_by_line x y = (
      λ way. (leads_grow Before (TakesFrom instr user) to x y).0 (leads_maps UpTo (StepsTo Before (TakesFrom instr user) to) split x y way),
      λ ways. leads_maps (StepsTo Before (TakesFrom instr user) to) UpTo join x y ((leads_grow Before (TakesFrom instr user) to x y).1 ways),
    )

    -- a line closes a loop where its node leads back to one that it takes from
    pub closing_line : (IsLooped design user.stage (λ n. nat_lt n user.line) → ⊥)
        → ClosesLoop design user.stage user.line ↔ ((u : Node) × TakesFrom instr user u × Leads Before to u)
    closing_line open_before = (closes_there, closes_back) where
      closes_there : ClosesLoop design user.stage user.line → (u : Node) × TakesFrom instr user u × Leads Before to u
      closes_there c = elim ((loop_grows Before (TakesFrom instr user) to).0 (loop_maps UpTo (StepsTo Before (TakesFrom instr user) to) split c.closed)) [
        | inl loop ↦ absurd (c.open_before loop)
        | inr found ↦ found
      ]

      closes_back : ((u : Node) × TakesFrom instr user u × Leads Before to u) → ClosesLoop design user.stage user.line
      closes_back found = record {
        micro = user;
        is_line = in_contains (micros_in design) user (in_flat_map (λ (i : Instr). i.micros) design.instrs instr user (contains_in design.instrs instr there) (contains_in instr.micros user line));
        at = refl;
        in_stage = refl;
        closed = loop_maps (StepsTo Before (TakesFrom instr user) to) UpTo join ((loop_grows Before (TakesFrom instr user) to).1 (inr found));
        open_before = open_before;
      }

  -- a line that uses no node adds no edge
  pub no_edge : node_of user.act ≡ None → (x y : Node) → UpTo x y → Before x y
  no_edge unused x y e = elim ((edges_up_to design user.stage user.line x y).0 e) [
    | inl before ↦ before
    | inr own ↦ let made = own_there design instr user x y sound there line own in let wrong : None ≡ Some y = sym unused ∙ made.0 in absurd cc
  ]
