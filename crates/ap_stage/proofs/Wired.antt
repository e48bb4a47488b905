-- Pieces of wiring, one after another, and what they mean.
use Rattle.std.proofs.Common.{◌≡◌, ℕ, zero, suc, ◌+◌, ◌-◌, ◌*◌, ◌/◌, ◌%◌, ◌^◌, ◌<◌, ◌≤◌, ◌==◌, Bool, true, false, nat_lt, if◌then◌else◌, List, [], ◌∷◌, inl, inr, refl, sym, ap, subst, ◌∙◌, arith, ⊎_elim}
use Rattle.std.specs.Prelude.{◌⊎◌}
use Rattle.std.specs.List.{AllByRecursion as Each}
use Rattle.std.proofs.lemmas.Bool.{lt-ltb, le-ltb}
use Rattle.std.proofs.Math.Nat.{suc-mul}
use Rattle.std.proofs.lemmas.Nat.{div-mul-add, pow-add}
use Rattle.std.proofs.lemmas.Bool.{cases_lt}
use Rattle.ap_bits.proofs.LowBits.{doubled, power_le}
use Rattle.ap_bits.specs.Operations.{sign_extended}
use Rattle.ap_net.specs.declared.cell.Cell.{Cell}
use Rattle.ap_net.specs.declared.cell.Wire.{Wire}
use Rattle.ap_net.specs.Cells.{IsNet, operands}
use Rattle.ap_net.specs.Draft.{Draft, next_wire, with_made}
use Rattle.ap_net.specs.Late.{Reads}
use Rattle.ap_net.specs.Making.{Makes}
use Rattle.ap_net.specs.Pending.{Among, IsFrom, Yields}
use Rattle.ap_net.specs.Ready.{numbers}
use Rattle.ap_net.proofs.Laws.{IsFrom-more, Makes-refl, Makes-trans, Reads-refl, Yields-after, Yields-made, Yields-same}
use Rattle.ap_stage.specs.Trees.{IsShallow, is_choice}
use Rattle.ap_stage.specs.Wiring.{IsWiring}
use Rattle.ap_stage.proofs.Shallow.{shallow_made, shallow_on}
use Rattle.ap_stage.proofs.Listed.{each_among}

over_none : (d : Draft) (most n : ℕ) → IsShallow d most n → IsShallow d (0 + most) n
over_none d most n h = let same : most ≡ 0 + most = omega arith in subst (λ k. IsShallow d k n) same h

pub none_over : (d : Draft) (most n : ℕ) → IsShallow d (0 + most) n → IsShallow d most n
none_over d most n h = let same : 0 + most ≡ most = omega arith in subst (λ k. IsShallow d k n) same h

pub each_of : (P : ℕ → Type 0) (from more : List ℕ) → ((n : ℕ) → Among from n → P n) → Each (Among from) more → Each P more
each_of P from [] all h = tt
each_of P from (n ∷ more) all h = (all n h.0, each_of P from more all h.1)

pub all_of : (from : List ℕ) → Each (Among from) from
all_of from = go from (λ n h. h)
  where
    go : (more : List ℕ) → ((n : ℕ) → Among more n → Among from n) → Each (Among from) more
    go [] all = tt
    go (n ∷ more) all = (all n (inl refl), go more (λ m h. all m (inr h)))

-- a cell that is no choice
pub wiring_made : (a b : Draft) (width : ℕ) (c : Cell) (w : Wire) → Makes a b → Reads (numbers (operands c)) a b → b ≡ with_made a width c → w ≡ next_wire a width → IsNet b.nets w → is_choice c ≡ false → IsWiring (numbers (operands c)) a b w
wiring_made a b width c w makes reads is wire net right = record {
  yields = Yields-made (numbers (operands c)) a b width w reads wire net;
  makes = makes;
  shallow = λ most each. over_none b most w.number (subst (λ (x : Wire). IsShallow b most x.number) (sym wire) (shallow_made a b width most c makes.adds.extends is right each));
}

-- a net that was there
pub wiring_same : (from : List ℕ) (a : Draft) (w : Wire) → Among from w.number → IsWiring from a a w
wiring_same from a w h = record { yields = Yields-same from a w h; makes = Makes-refl a; shallow = λ most each. over_none a most w.number (each_among (IsShallow a most) from each w.number h) }

-- a piece over the result of another, and over what that one was over
pub wiring_after : (from more : List ℕ) (a b c : Draft) (x y : Wire) → IsWiring from a b x → IsWiring more b c y → Each (Among (x.number ∷ from)) more → IsWiring from a c y
wiring_after from more a b c x y p q all = record {
  yields = Yields-after from more a b c y p.yields.reads q.yields (each_of (IsFrom from a b) (x.number ∷ from) more came all);
  makes = Makes-trans a b c p.makes q.makes;
  shallow = λ most each. q.shallow most (each_of (IsShallow b most) (x.number ∷ from) more (before most each) all);
}
  where
    came : (n : ℕ) → Among (x.number ∷ from) n → IsFrom from a b n
    came n (inl e) = subst (IsFrom from a b) e p.yields.result
    came n (inr h) = inl h

    before : (most : ℕ) → Each (IsShallow a most) from → (n : ℕ) → Among (x.number ∷ from) n → IsShallow b most n
    before most each n (inl e) = subst (IsShallow b most) e (none_over b most x.number (p.shallow most each))
    before most each n (inr h) = shallow_on a b most n p.makes.adds.extends (each_among (IsShallow a most) from each n h)

-- a piece that is said to read more
pub wiring_fewer : (from more : List ℕ) (a b : Draft) (w : Wire) → IsWiring more a b w → Each (Among from) more → IsWiring from a b w
wiring_fewer from more a b w q all = record {
  yields = Yields-after from more a a b w (Reads-refl from a) q.yields (each_of (IsFrom from a a) from more (λ n h. inl h) all);
  makes = q.makes;
  shallow = λ most each. q.shallow most (each_of (IsShallow a most) from more (each_among (IsShallow a most) from each) all);
}

-- The values. ------------------------------------------------------------------------------------------------------------

joined_ones : (a b c : ℕ) → 1 ≤ a → 1 ≤ b → c ≡ a * b → (a - 1) * b + (b - 1) ≡ c - 1
joined_ones zero b c some more is = absurd (omega arith)
joined_ones (suc a) b c some more is =
    let parts : suc a * b ≡ a * b + b = suc-mul a b in
    let less : suc a - 1 ≡ a = omega arith in
    ap (λ k. k * b + (b - 1)) less ∙ omega arith

-- the ones of two pieces side by side
pub ones_joined : (b : Bool) (n k : ℕ) → (if b then 2 ^ n - 1 else 0) * 2 ^ k + (if b then 2 ^ k - 1 else 0) ≡ (if b then 2 ^ (n + k) - 1 else 0)
ones_joined true n k = joined_ones (2 ^ n) (2 ^ k) (2 ^ (n + k)) (power_le 0 n (omega arith)) (power_le 0 k (omega arith)) (pow-add 2 n k)
ones_joined false n k = omega arith

-- the ones of twice as many bits, and of one bit more
pub ones_twice : (b : Bool) (half count hw x y : ℕ) → x ≡ (if b then 2 ^ half - 1 else 0) → hw ≡ half → y ≡ x * 2 ^ hw + x → half + half ≡ count → y ≡ (if b then 2 ^ count - 1 else 0)
ones_twice b half count hw x y is wide made all =
    made ∙ ap (λ k. x * 2 ^ k + x) wide ∙ ap (λ k. k * 2 ^ half + k) is ∙ ones_joined b half half ∙ ap (λ k. if b then 2 ^ k - 1 else 0) all

pub ones_more : (b : Bool) (n count w x z y : ℕ) → x ≡ (if b then 2 ^ n - 1 else 0) → z ≡ (if b then 2 ^ 1 - 1 else 0) → w ≡ 1 → y ≡ x * 2 ^ w + z → n + 1 ≡ count → y ≡ (if b then 2 ^ count - 1 else 0)
ones_more b n count w x z y is one wide made all =
    made ∙ ap (λ k. x * 2 ^ k + z) wide ∙ ap (λ k. k * 2 ^ 1 + z) is ∙ ap (λ k. (if b then 2 ^ n - 1 else 0) * 2 ^ 1 + k) one ∙ ones_joined b n 1 ∙ ap (λ k. if b then 2 ^ k - 1 else 0) all

pub one_of_bit : (x : ℕ) → x < 2 → x ≡ (if x == 1 then 2 ^ 1 - 1 else 0)
one_of_bit zero low = refl
one_of_bit (suc zero) low = refl
one_of_bit (suc (suc x)) low = absurd (omega arith)

-- what a number below twice T has above T
split : (T t : ℕ) → t < 2 * T → ((t < T) × (t / T ≡ 0)) ⊎ ((T ≤ t) × (t / T ≡ 1))
split T t small =
    ⊎_elim
    (λ (lt : t < T). let e : t ≡ 0 * T + t = omega arith in inl (lt, ap (λ n. n / T) e ∙ div-mul-add 0 T t lt))
    (λ (ge : T ≤ t). let e : t ≡ 1 * T + (t - T) = omega arith in inr (ge, ap (λ n. n / T) e ∙ div-mul-add 1 T (t - T) (omega arith)))
    (cases_lt t T)

-- a value with as many bits
pub sign_same : (w to v : ℕ) → to ≡ w → v ≡ sign_extended v w to
sign_same w to v same = go (nat_lt v (2 ^ (w - 1))) ∙ ap (λ k. sign_extended v w k) (sym same)
  where
    go : (b : Bool) → v ≡ (if b then v else v + (2 ^ w - 2 ^ w))
    go true = refl
    go false = omega arith

less_one : (a b v : ℕ) → 1 ≤ a → (a - 1) * b + v ≡ v + (a * b - b)
less_one zero b v some = absurd (omega arith)
less_one (suc a) b v some =
    let parts : suc a * b ≡ a * b + b = suc-mul a b in
    let less : suc a - 1 ≡ a = omega arith in
    ap (λ k. k * b + v) less ∙ omega arith

-- the high bit, so many times above a value
pub sign_value : (w to v bit fill : ℕ) → 1 ≤ w → w ≤ to → v < 2 ^ w → bit ≡ (v / 2 ^ (w - 1)) % 2 ^ (w - 1 - (w - 1) + 1) → fill ≡ (if bit == 1 then 2 ^ (to - w) - 1 else 0) → fill * 2 ^ w + v ≡ sign_extended v w to
sign_value w to v bit fill low order fits is filled =
    let twice = doubled w low in
    let one : w - 1 - (w - 1) + 1 ≡ 1 = omega arith in
    let is' : bit ≡ (v / 2 ^ (w - 1)) % 2 ^ 1 = is ∙ ap (λ k. (v / 2 ^ (w - 1)) % 2 ^ k) one in
    ⊎_elim
    (λ small.
    let off : bit ≡ 0 = is' ∙ ap (λ k. k % 2 ^ 1) small.1 in
    let none : fill ≡ 0 = filled ∙ ap (λ k. if k == 1 then 2 ^ (to - w) - 1 else 0) off in
    let alone : 0 * 2 ^ w + v ≡ v = omega arith in
    ap (λ k. k * 2 ^ w + v) none ∙ alone ∙ sym (ap (λ b. if b then v else v + (2 ^ to - 2 ^ w)) (lt-ltb v (2 ^ (w - 1)) small.0)))
    (λ large.
    let on : bit ≡ 1 = is' ∙ ap (λ k. k % 2 ^ 1) large.1 in
    let ones : fill ≡ 2 ^ (to - w) - 1 = filled ∙ ap (λ k. if k == 1 then 2 ^ (to - w) - 1 else 0) on in
    let back : to - w + w ≡ to = omega arith in
    let whole : 2 ^ to ≡ 2 ^ (to - w) * 2 ^ w = ap (λ k. 2 ^ k) (sym back) ∙ pow-add 2 (to - w) w in
    let some : 1 ≤ 2 ^ (to - w) = power_le 0 (to - w) (omega arith) in
    ap (λ k. k * 2 ^ w + v) ones ∙ less_one (2 ^ (to - w)) (2 ^ w) v some ∙ ap (λ k. v + (k - 2 ^ w)) (sym whole)
    ∙ sym (ap (λ b. if b then v else v + (2 ^ to - 2 ^ w)) (le-ltb v (2 ^ (w - 1)) large.0)))
    (split (2 ^ (w - 1)) v (omega arith))

-- a piece over the results of two, and over what these were over
pub wiring_two : (from more : List ℕ) (a b c d : Draft) (x y z : Wire) → IsWiring from a b x → IsWiring from b c y → IsWiring more c d z → Each (Among (x.number ∷ y.number ∷ from)) more → IsWiring from a d z
wiring_two from more a b c d x y z p q last all = record {
  yields = Yields-after from more a c d z both.reads last.yields (each_of (IsFrom from a c) (x.number ∷ y.number ∷ from) more came all);
  makes = Makes-trans a b d p.makes (Makes-trans b c d q.makes last.makes);
  shallow = λ most each. last.shallow most (each_of (IsShallow c most) (x.number ∷ y.number ∷ from) more (before most each) all);
}
  where
    both : Yields from a c y
    both = Yields-after from from a b c y p.yields.reads q.yields (each_of (IsFrom from a b) from from (λ n h. inl h) (all_of from))

    came : (n : ℕ) → Among (x.number ∷ y.number ∷ from) n → IsFrom from a c n
    came n (inl e) = subst (IsFrom from a c) e (IsFrom-more from a b c x.number q.makes.adds.extends p.yields.result)
    came n (inr (inl e)) = subst (IsFrom from a c) e both.result
    came n (inr (inr h)) = inl h

    later : (most : ℕ) → Each (IsShallow a most) from → Each (IsShallow b most) from
    later most each = each_of (IsShallow b most) from from (λ n h. shallow_on a b most n p.makes.adds.extends (each_among (IsShallow a most) from each n h)) (all_of from)

    before : (most : ℕ) → Each (IsShallow a most) from → (n : ℕ) → Among (x.number ∷ y.number ∷ from) n → IsShallow c most n
    before most each n (inl e) = subst (IsShallow c most) e (shallow_on b c most x.number q.makes.adds.extends (none_over b most x.number (p.shallow most each)))
    before most each n (inr (inl e)) = subst (IsShallow c most) e (none_over c most y.number (q.shallow most (later most each)))
    before most each n (inr (inr h)) = shallow_on b c most n q.makes.adds.extends (shallow_on a b most n p.makes.adds.extends (each_among (IsShallow a most) from each n h))
