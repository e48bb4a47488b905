-- What the gates tell.
use Rattle.std.proofs.Common.{◌≡◌, ℕ, zero, suc, ◌+◌, ◌-◌, ◌^◌, ◌<◌, Bool, true, false, List, [], ◌∷◌, ◌/◌, ◌%◌, ◌≤◌, length, get_or, take, drop, length-drop, refl, sym, ap, subst, ◌∙◌, arith}
use Rattle.std.specs.Prelude.{◌==◌, ◌&&◌, ◌||◌, not, bit_and, bit_or, if◌then◌else◌}
use Rattle.std.specs.List.{AllByRecursion as Each, list_all, list_any}
use Rattle.std.proofs.lemmas.List.{take_all}
use Rattle.ap_net.specs.declared.cell.Cell.TheVariants as cell
use Rattle.ap_net.specs.declared.cell.TwoOp.TheVariants as op
use Rattle.ap_net.specs.declared.cell.Wire.{Wire}
use Rattle.ap_net.specs.Cells.{cell_value}
use Rattle.ap_net.specs.Draft.{Draft}
use Rattle.ap_net.specs.Making.{Makes}
use Rattle.ap_net.specs.Readings.{Reading, IsSettled, Carries}
use Rattle.ap_net.specs.Runs.{bit}
use Rattle.ap_net.proofs.Laws.{IsNet-Makes, meant}
use Rattle.ap_ctl.specs.Building.{IsBit, Tells, is_on}

small_bit : (n : ℕ) → n < 2 → n ≡ bit (n == 1)
small_bit zero lt = refl
small_bit (suc zero) lt = refl
small_bit (suc (suc n)) lt = absurd (omega arith)

-- a net of one bit has the bit of whether it is 1
pub bit_of : (d : Draft) (w : Wire) (r : Reading) → IsBit d.nets w → IsSettled d r → r.read w.number ≡ bit (is_on r w)
bit_of d w r h s =
    let fits : r.read w.number < 2 ^ w.width = s.own.fits w.number w.width h.net.declared in
    let two : r.read w.number < 2 = subst (λ n. r.read w.number < 2 ^ n) h.bit fits in
    small_bit (r.read w.number) two

-- and is 1 where its bit is that of a fact that holds
bit_on : (b : Bool) → (bit b == 1) ≡ b
bit_on true = refl
bit_on false = refl

pub on_of : {d : Draft} {fact : Reading → Bool} {w : Wire} → Tells d fact w → (r : Reading) → IsSettled d r → is_on r w ≡ fact r
on_of {d} {fact} {w} h r s = ap (λ n. n == 1) (h.carries.means.holds r s) ∙ bit_on (fact r)

pub IsBit-Tells : {d : Draft} {fact : Reading → Bool} {w : Wire} → Tells d fact w → IsBit d.nets w
IsBit-Tells h = record { net = h.carries.net; bit = h.carries.wide }

pub IsBit-Carries : {d : Draft} {M : Reading → ℕ → Type 0} {w : Wire} → Carries d 1 M w → IsBit d.nets w
IsBit-Carries h = record { net = h.net; bit = h.wide }

pub IsBit-Makes : (a b : Draft) (w : Wire) → Makes a b → IsBit a.nets w → IsBit b.nets w
IsBit-Makes a b w m h = record { net = IsNet-Makes a b w m h.net; bit = h.bit }

-- what tells a fact tells one that is the same
pub told : {d : Draft} {fact other : Reading → Bool} {w : Wire} → ((r : Reading) → IsSettled d r → fact r ≡ other r) → Tells d fact w → Tells d other w
told {d} {fact} {other} {w} f h = record { carries = meant (λ r s e. e ∙ ap bit (f r s)) h.carries }

not_bit : (p : Bool) → 2 ^ 1 - 1 - bit p ≡ bit (not p)
not_bit true = refl
not_bit false = refl

and_bits : (p q : Bool) → bit_and (bit p) (bit q) ≡ bit (p && q)
and_bits true true = refl
and_bits true false = refl
and_bits false true = refl
and_bits false false = refl

or_bits : (p q : Bool) → bit_or (bit p) (bit q) ≡ bit (p || q)
or_bits true true = refl
or_bits true false = refl
or_bits false true = refl
or_bits false false = refl

choice_bits : (c p q : Bool) → (if c then bit p else bit q) ≡ bit (if c then p else q)
choice_bits true p q = refl
choice_bits false p q = refl

module _ {a b : Draft} (m : Makes a b) where
  pub not_tells : (x w : Wire) → IsBit a.nets x → Carries b 1 (λ r v. v ≡ cell_value r.read 1 (cell.Not x)) w → Tells b (λ r. not (is_on r x)) w
  not_tells x w hx h = record { carries = meant (λ r s e. e ∙ ap (λ n. 2 ^ 1 - 1 - n) (bit_of b x r (IsBit-Makes a b x m hx) s) ∙ not_bit (is_on r x)) h }

  pub and_tells : (x y w : Wire) → IsBit a.nets x → IsBit a.nets y → Carries b 1 (λ r v. v ≡ cell_value r.read 1 (cell.Two op.And x y)) w → Tells b (λ r. is_on r x && is_on r y) w
  and_tells x y w hx hy h = record { carries = meant (λ r s e. e ∙ ap (λ n. bit_and n (r.read y.number)) (bit_of b x r (IsBit-Makes a b x m hx) s) ∙ ap (bit_and (bit (is_on r x))) (bit_of b y r (IsBit-Makes a b y m hy) s) ∙ and_bits (is_on r x) (is_on r y)) h }

  pub or_tells : (x y w : Wire) → IsBit a.nets x → IsBit a.nets y → Carries b 1 (λ r v. v ≡ cell_value r.read 1 (cell.Two op.Or x y)) w → Tells b (λ r. is_on r x || is_on r y) w
  or_tells x y w hx hy h = record { carries = meant (λ r s e. e ∙ ap (λ n. bit_or n (r.read y.number)) (bit_of b x r (IsBit-Makes a b x m hx) s) ∙ ap (bit_or (bit (is_on r x))) (bit_of b y r (IsBit-Makes a b y m hy) s) ∙ or_bits (is_on r x) (is_on r y)) h }

  pub choice_tells : (c x y w : Wire) → IsBit a.nets x → IsBit a.nets y → Carries b 1 (λ r v. v ≡ cell_value r.read 1 (cell.Choose c x y)) w → Tells b (λ r. if is_on r c then is_on r x else is_on r y) w
  choice_tells c x y w hx hy h = record { carries = meant (λ r s e. e ∙ ap (λ n. if is_on r c then n else r.read y.number) (bit_of b x r (IsBit-Makes a b x m hx) s) ∙ ap (λ n. if is_on r c then bit (is_on r x) else n) (bit_of b y r (IsBit-Makes a b y m hy) s) ∙ choice_bits (is_on r c) (is_on r x) (is_on r y)) h }

-- one net alone
and_alone : (p : Bool) → p ≡ (p && true)
and_alone true = refl
and_alone false = refl

or_alone : (p : Bool) → p ≡ (p || false)
or_alone true = refl
or_alone false = refl

pub alone_all : (d : Draft) (w : Wire) → IsBit d.nets w → Tells d (λ r. list_all (is_on r) (w ∷ [])) w
alone_all d w h = record { carries = record { net = h.net; wide = h.bit; means = record { holds = λ r s. bit_of d w r h s ∙ ap bit (and_alone (is_on r w)) } } }

pub alone_any : (d : Draft) (w : Wire) → IsBit d.nets w → Tells d (λ r. list_any (is_on r) (w ∷ [])) w
alone_any d w h = record { carries = record { net = h.net; wide = h.bit; means = record { holds = λ r s. bit_of d w r h s ∙ ap bit (or_alone (is_on r w)) } } }

-- No nets.

pub none_all : {d : Draft} (nets : List Wire) (w : Wire) → length nets ≡ 0 → Carries d 1 (λ r x. x ≡ 1) w → Tells d (λ r. list_all (is_on r) nets) w
none_all [] w e h = record { carries = h }
none_all (x ∷ nets) w e h = absurd (omega arith)

pub none_any : {d : Draft} (nets : List Wire) (w : Wire) → length nets ≡ 0 → Carries d 1 (λ r x. x ≡ 0) w → Tells d (λ r. list_any (is_on r) nets) w
none_any [] w e h = record { carries = h }
none_any (x ∷ nets) w e h = absurd (omega arith)

-- One net.

pub one_all : (d : Draft) (nets : List Wire) (x : Wire) → length nets ≡ 1 → Each (IsBit d.nets) nets → Tells d (λ r. list_all (is_on r) nets) (get_or nets 0 x)
one_all d [] x e h = absurd (omega arith)
one_all d (w ∷ []) x e h = alone_all d w h.0
one_all d (w ∷ v ∷ nets) x e h = absurd (omega arith)

pub one_any : (d : Draft) (nets : List Wire) (x : Wire) → length nets ≡ 1 → Each (IsBit d.nets) nets → Tells d (λ r. list_any (is_on r) nets) (get_or nets 0 x)
one_any d [] x e h = absurd (omega arith)
one_any d (w ∷ []) x e h = alone_any d w h.0
one_any d (w ∷ v ∷ nets) x e h = absurd (omega arith)

-- Two halves.

pub Each-take : {X : Type 0} (P : X → Type 0) (n : ℕ) (xs : List X) → Each P xs → Each P (take n xs)
Each-take P zero xs h = tt
Each-take P (suc n) [] h = tt
Each-take P (suc n) (x ∷ xs) h = (h.0, Each-take P n xs h.1)

pub Each-drop : {X : Type 0} (P : X → Type 0) (n : ℕ) (xs : List X) → Each P xs → Each P (drop n xs)
Each-drop P zero xs h = h
Each-drop P (suc n) [] h = tt
Each-drop P (suc n) (x ∷ xs) h = Each-drop P n xs h.1

and_joined : (a b c : Bool) → (a && (b && c)) ≡ ((a && b) && c)
and_joined true b c = refl
and_joined false b c = refl

or_joined : (a b c : Bool) → (a || (b || c)) ≡ ((a || b) || c)
or_joined true b c = refl
or_joined false b c = refl

all_split : {X : Type 0} (p : X → Bool) (n : ℕ) (xs : List X) → list_all p xs ≡ (list_all p (take n xs) && list_all p (drop n xs))
all_split p zero xs = refl
all_split p (suc n) [] = refl
all_split p (suc n) (x ∷ xs) = ap (λ b. p x && b) (all_split p n xs) ∙ and_joined (p x) (list_all p (take n xs)) (list_all p (drop n xs))

any_split : {X : Type 0} (p : X → Bool) (n : ℕ) (xs : List X) → list_any p xs ≡ (list_any p (take n xs) || list_any p (drop n xs))
any_split p zero xs = refl
any_split p (suc n) [] = refl
any_split p (suc n) (x ∷ xs) = ap (λ b. p x || b) (any_split p n xs) ∙ or_joined (p x) (list_any p (take n xs)) (list_any p (drop n xs))

second_half : {X : Type 0} (n : ℕ) (xs : List X) → take (length xs - n) (drop n xs) ≡ drop n xs
second_half n xs = take_all (length xs - n) (drop n xs) (omega (arith, length-drop n xs))

pub all_halves : {X : Type 0} (p : X → Bool) (n : ℕ) (xs : List X) → (list_all p (take n xs) && list_all p (take (length xs - n) (drop n xs))) ≡ list_all p xs
all_halves p n xs = ap (λ l. list_all p (take n xs) && list_all p l) (second_half n xs) ∙ sym (all_split p n xs)

pub any_halves : {X : Type 0} (p : X → Bool) (n : ℕ) (xs : List X) → (list_any p (take n xs) || list_any p (take (length xs - n) (drop n xs))) ≡ list_any p xs
any_halves p n xs = ap (λ l. list_any p (take n xs) || list_any p l) (second_half n xs) ∙ sym (any_split p n xs)

-- a test of a field, by its cells
pub tested : (x b w low width value : ℕ) → 1 ≤ width → b ≡ (x / 2 ^ low) % 2 ^ (low + width - 1 + 1 - low) → w ≡ value → (if b == w then 1 else 0) ≡ bit ((x / 2 ^ low) % 2 ^ width == value)
tested x b w low width value some bits wanted =
    let e : low + width - 1 + 1 - low ≡ width = omega arith in
    ap (λ n. if n == w then 1 else 0) (bits ∙ ap (λ k. (x / 2 ^ low) % 2 ^ k) e) ∙ ap (λ n. if (x / 2 ^ low) % 2 ^ width == n then 1 else 0) wanted

pub joined_all : {p q a b : Bool} → p ≡ a → q ≡ b → (p && q) ≡ (a && b)
joined_all {p} {q} {a} {b} e f = ap (λ x. x && q) e ∙ ap (λ x. a && x) f

pub joined_any : {p q a b : Bool} → p ≡ a → q ≡ b → (p || q) ≡ (a || b)
joined_any {p} {q} {a} {b} e f = ap (λ x. x || q) e ∙ ap (λ x. a || x) f
