-- From which lines an operand comes: the line that makes it, or from where that line's operands come. These lines can be listed.
use Rattle.std.proofs.Common.{◌≡◌, ℕ, Bool, true, List, [], ◌∷◌, Option, Some, None, inl, inr, refl, sym, subst, ap, eqb-true, eq-eqb}
use Rattle.std.specs.Prelude.{◌↔◌, ◌==◌, IsTrue, slice_get, option_and_then}
use Rattle.std.specs.List.{AllByRecursion as Each}
use Rattle.std.proofs.lemmas.Bool.{cases_eq, cases_Bool, both_ways}
use Rattle.std.proofs.lemmas.Option.{cond_some, same_Some}
use Rattle.ap_desc.proofs.Members.{In, contains_in, in_contains}
use Rattle.ap_desc.proofs.Listed.{Decided, Listed, Reach, reach_here, reach_on, reach_step, reach_listed, listed_by, listed_if, listed_like, listed_option, listed_places}
use Rattle.ap_desc.specs.Chains.{ComesFrom, IsMadeBy, IsWiredBehind, IsWiredFrom, Reaches, ReachesBehind, if_in_stage, is_wiring, maker_in, makers, operands_of}
use Rattle.ap_desc.specs.declared.design.Instr.{Instr}
use Rattle.ap_desc.specs.declared.design.Micro.{Micro}
use Rattle.ap_desc.specs.declared.design.Arg.{Arg}
use Rattle.ap_desc.specs.declared.design.Arg.TheVariants as arg

module _ (instr : Instr) (stage : ℕ) (source : Micro) where
  pub reaches_behind : (a : Arg) → Reaches instr stage a source → IsMadeBy instr stage a source (ReachesBehind instr stage source)
  reaches_behind a ([], made) = (source, made, inl refl)
  reaches_behind a (m ∷ through, (made, (k, b, low, at, comes))) = (m, made, inr (k, b, low, at, (through, comes)))

  pub behind_reaches : (a : Arg) → IsMadeBy instr stage a source (ReachesBehind instr stage source) → Reaches instr stage a source
  behind_reaches a (m, made, inl same) = ([], subst (λ x. maker_in instr stage a ≡ Some x) same made)
  behind_reaches a (m, made, inr (k, b, low, at, (through, comes))) = (m ∷ through, (made, (k, b, low, at, comes)))

  pub wired_behind : (a : Arg) → IsWiredFrom instr stage a source → IsMadeBy instr stage a source (IsWiredBehind instr stage source)
  wired_behind a ([], each, made) = (source, made, inl refl)
  wired_behind a (m ∷ through, each, (made, (k, b, low, at, comes))) = (m, made, inr (each.0, (k, b, low, at, (through, each.1, comes))))

  pub behind_wired : (a : Arg) → IsMadeBy instr stage a source (IsWiredBehind instr stage source) → IsWiredFrom instr stage a source
  behind_wired a (m, made, inl same) = ([], tt, subst (λ x. maker_in instr stage a ≡ Some x) same made)
  behind_wired a (m, made, inr (wires, (k, b, low, at, (through, each, comes)))) = (m ∷ through, (wires, each), (made, (k, b, low, at, comes)))

-- the maker of a local is the line of its place, where that stands in the stage
maker_parts : (stage : ℕ) (o : Option Micro) (m : Micro) → option_and_then (if_in_stage stage) o ≡ Some m → (o ≡ Some m) × (m.stage ≡ stage)
maker_parts stage None m made = absurd cc
maker_parts stage (Some n) m made =
    let parts = cond_some (n.stage == stage) n m made in
    let here : n.stage ≡ stage = eqb-true n.stage stage parts.0 in
    (ap (λ x. Some x) parts.1, subst (λ (x : Micro). x.stage ≡ stage) parts.1 here)

parts_maker : (stage : ℕ) (o : Option Micro) (m : Micro) → o ≡ Some m → m.stage ≡ stage → option_and_then (if_in_stage stage) o ≡ Some m
parts_maker stage o m at here =
    let passes : (m.stage == stage) ≡ true = eq-eqb m.stage stage here in
    subst (λ p. option_and_then (if_in_stage stage) p ≡ Some m) (sym at) (rw passes refl)

pub local_maker : (instr : Instr) (stage i : ℕ) (m : Micro) → maker_in instr stage (arg.Local i) ≡ Some m ↔ ((slice_get (makers instr) i ≡ Some m) × (m.stage ≡ stage))
local_maker instr stage i m = (maker_parts stage (slice_get (makers instr) i) m, λ p. parts_maker stage (slice_get (makers instr) i) m p.0 p.1)

pub nat_decided : (a b : ℕ) → Decided (a ≡ b)
nat_decided a b = cases_eq a b

pub true_decided : (b : Bool) → Decided (IsTrue b)
true_decided b = elim (cases_Bool b) [ inl passes ↦ inl passes | inr fails ↦ inr (λ passes. both_ways b fails passes) ]

arg_decided : (a b : Arg) → Decided (a ≡ b)
arg_decided (arg.Local i) (arg.Local j) = elim (cases_eq i j) [ inl same ↦ inl (ap (λ n. arg.Local n) same) | inr other ↦ inr (λ e. other cc) ]
arg_decided (arg.Field i) (arg.Field j) = elim (cases_eq i j) [ inl same ↦ inl (ap (λ n. arg.Field n) same) | inr other ↦ inr (λ e. other cc) ]
arg_decided arg.Pc arg.Pc = inl refl
arg_decided arg.Link arg.Link = inl refl
arg_decided _ _ = inr (λ e. absurd cc)

-- a wiring line makes the first from the second
abbrev WiresTo : Instr → ℕ → Arg × Arg → Type 0
WiresTo instr stage p = (m : Micro) × (maker_in instr stage p.0 ≡ Some m) × IsTrue (is_wiring m.act) × In p.1 (operands_of m.act)

-- the same by the place of the line among those that make locals
abbrev WiresAt : ℕ → ℕ × Micro → Arg × Arg → Type 0
WiresAt stage (i, m) p = (m.stage ≡ stage) × (IsTrue (is_wiring m.act) × ((b : Arg) × In b (operands_of m.act) × (Some (arg.Local i, b) ≡ Some p)))

wires_there : (instr : Instr) (stage : ℕ) (p : Arg × Arg) → ((z : ℕ × Micro) × (slice_get (makers instr) z.0 ≡ Some z.1) × WiresAt stage z p) → WiresTo instr stage p
wires_there instr stage p ((i, m), at, (here, (wires, (b, there, same)))) =
    let made : maker_in instr stage (arg.Local i) ≡ Some m = parts_maker stage (slice_get (makers instr) i) m at here in
    let pair : (arg.Local i, b) ≡ p = same_Some (arg.Local i, b) p same in
    subst (WiresTo instr stage) pair (m, made, wires, there)

wires_back : (instr : Instr) (stage : ℕ) (p : Arg × Arg) → WiresTo instr stage p → (z : ℕ × Micro) × (slice_get (makers instr) z.0 ≡ Some z.1) × WiresAt stage z p
wires_back instr stage (arg.Local i, b) (m, made, wires, there) =
    let parts = maker_parts stage (slice_get (makers instr) i) m made in
    ((i, m), parts.0, (parts.1, (wires, (b, there, refl))))
wires_back instr stage (_, b) (m, made, wires, there) = absurd cc

ins_listed : {X : Type 0} (xs : List X) → Listed (λ x. In x xs)
ins_listed xs = record { items = xs; all = λ x h. h; only = λ x h. h }

at_listed : (stage : ℕ) (z : ℕ × Micro) → Listed (WiresAt stage z)
at_listed stage (i, m) = listed_if _ _ (nat_decided m.stage stage) (listed_if _ _ (true_decided (is_wiring m.act))
    (listed_by (λ b. In b (operands_of m.act)) (λ b (p : Arg × Arg). Some (arg.Local i, b) ≡ Some p) (ins_listed (operands_of m.act)) (λ b. listed_option (Some (arg.Local i, b)))))

wires_listed : (instr : Instr) (stage : ℕ) → Listed (WiresTo instr stage)
wires_listed instr stage = listed_like _ _ (wires_there instr stage) (wires_back instr stage)
    (listed_by (λ (z : ℕ × Micro). slice_get (makers instr) z.0 ≡ Some z.1) (WiresAt stage) (listed_places (makers instr)) (at_listed stage))

module _ (instr : Instr) (stage : ℕ) where
  -- the wiring ends at a local that the source makes
  wired_ends : (a : Arg) (through : List Micro) (source : Micro) → Each (λ (m : Micro). IsTrue (is_wiring m.act)) through → ComesFrom instr stage a through source
      → (b : Arg) × Reach (wires_listed instr stage).items a b × (maker_in instr stage b ≡ Some source)
  wired_ends a [] source each made = (a, reach_here (wires_listed instr stage).items a, made)
  wired_ends a (m ∷ through) source each (made, (k, b, low, at, comes)) =
      let es = (wires_listed instr stage).items in
      let (d, r, end) = wired_ends b through source each.1 comes in
      let step = (wires_listed instr stage).all (a, b) (m, made, each.0, contains_in (operands_of m.act) b (k, low, at)) in
      (d, reach_on es a b d (reach_step es a b step) r, end)

  wired_more : (p : Arg × Arg) (source : Micro) → WiresTo instr stage p → IsWiredFrom instr stage p.1 source → IsWiredFrom instr stage p.0 source
  wired_more p source (m, made, wires, there) (through, each, comes) =
      let (k, low, at) = in_contains (operands_of m.act) p.1 there in
      (m ∷ through, (wires, each), (made, (k, p.1, low, at, comes)))

  reached_wired : (es : List (Arg × Arg)) → ((p : Arg × Arg) → In p es → WiresTo instr stage p) → (a b : Arg) (source : Micro) → Reach es a b → IsWiredFrom instr stage b source → IsWiredFrom instr stage a source
  reached_wired [] only a b source r w = subst (λ x. IsWiredFrom instr stage x source) (sym r) w
  reached_wired (e ∷ es) only a b source (inl r) w = reached_wired es (λ p h. only p (inr h)) a b source r w
  reached_wired (e ∷ es) only a b source (inr (r, t)) w =
      reached_wired es (λ p h. only p (inr h)) a e.0 source r
      (wired_more e source (only e (inl refl)) (reached_wired es (λ p h. only p (inr h)) e.1 b source t w))

  ends_wired : (a : Arg) (source : Micro) → ((b : Arg) × Reach (wires_listed instr stage).items a b × (maker_in instr stage b ≡ Some source)) → IsWiredFrom instr stage a source
  ends_wired a source (b, r, made) = reached_wired (wires_listed instr stage).items (wires_listed instr stage).only a b source r ([], tt, made)

  -- the lines from which an operand is wired
  pub wired_listed : (a : Arg) → Listed (IsWiredFrom instr stage a)
  wired_listed a = listed_like _ _ (ends_wired a) (λ source w. wired_ends a w.0 source w.1 w.2)
      (listed_by (Reach (wires_listed instr stage).items a) (λ b source. maker_in instr stage b ≡ Some source) (reach_listed arg_decided (wires_listed instr stage).items a) (λ b. listed_option (maker_in instr stage b)))
