-- How pieces of the circuit follow each other.
use Rattle.std.proofs.Common.{◌≡◌, ℕ, zero, suc, ◌+◌, ◌-◌, ◌*◌, ◌^◌, ◌<◌, ◌==◌, ◌||◌, Bool, true, false, if◌then◌else◌, List, [], ◌∷◌, length, take, drop, get_or, refl, sym, ap, subst, ◌∙◌, arith, inl, inr}
use Rattle.std.specs.Prelude.{bit_or}
use Rattle.std.specs.List.{AllByRecursion as Each}
use Rattle.ap_net.specs.declared.cell.Wire.{Wire}
use Rattle.ap_net.specs.Draft.{Draft, Extends}
use Rattle.ap_net.specs.Late.{Reads}
use Rattle.ap_net.specs.Making.{Makes}
use Rattle.ap_net.specs.Pending.{Among, Yields}
use Rattle.ap_net.specs.Readings.{Carries, IsSettled, Reading}
use Rattle.ap_net.specs.Runs.{bit}
use Rattle.ap_net.specs.declared.net.ModuleNet.{ModuleNet}
use Rattle.ap_net.proofs.Laws.{Carries-Extends, Carries-Makes, IsFrom-more, IsNet-Makes, Reads-refl, Yields-after, meant}
use Rattle.ap_ctl.specs.Building.{IsBit, Tells, is_on}
use Rattle.ap_flight.specs.declared.entry.Leaving.{Leaving}
use Rattle.ap_flight.specs.Entries.{IsLeaving, IsLeft, is_left, leaving_numbers}
use Rattle.ap_flight.proofs.Halves.{Each-weaker, among_second, among_take, any_halves, from_among}
use Rattle.ap_flight.proofs.Left.{alone_left, joined_left}

pub IsBit-Makes : {a b : Draft} → Makes a b → (w : Wire) → IsBit a.nets w → IsBit b.nets w
IsBit-Makes {a} {b} m w h = record { net = IsNet-Makes a b w m h.net; bit = h.bit }

pub IsLeaving-Makes : {a b : Draft} → Makes a b → (width : ℕ) (list : List Leaving) → Each (IsLeaving a.nets width) list → Each (IsLeaving b.nets width) list
IsLeaving-Makes {a} {b} m width list h =
    Each-weaker (IsLeaving a.nets width) (IsLeaving b.nets width) (λ l e. record { cond = IsBit-Makes m l.cond e.cond; net = IsNet-Makes a b l.net m e.net; fits = e.fits }) list h

pub Yields-fewer : (from more : List ℕ) (a b : Draft) (w : Wire) → Each (Among from) more → Yields more a b w → Yields from a b w
Yields-fewer from more a b w among y = Yields-after from more a a b w (Reads-refl from a) y (from_among from a a more among)

-- a net of an earlier draft, seen from a later one
pub Yields-later : (from : List ℕ) (a b c : Draft) (w : Wire) → Yields from a b w → Reads from a c → Extends b c → Yields from a c w
Yields-later from a b c w y reads e = record { reads = reads; result = IsFrom-more from a b c w.number e y.result }

-- a net with zeros above
pub Carries-width : {d : Draft} {n m : ℕ} {Means : Reading → ℕ → Type 0} {w : Wire} → n ≡ m → Carries d n Means w → Carries d m Means w
Carries-width {d} {n} {m} {Means} {w} e h = subst (λ k. Carries d k Means w) e h

nothing_above : (n x : ℕ) → 0 * n + x ≡ x
nothing_above n x = omega arith

pub wide_value : {b c : Draft} (bits width : ℕ) (net zeros wide : Wire) → Makes b c → Carries b bits (λ r x. x ≡ 0) zeros → Carries c width (λ r x. x ≡ r.read zeros.number * 2 ^ net.width + r.read net.number) wide → Carries c width (λ r x. x ≡ r.read net.number) wide
wide_value bits width net zeros wide m z w =
    meant (λ r s e. e ∙ ap (λ n. n * 2 ^ net.width + r.read net.number) ((Carries-Makes m z).means.holds r s) ∙ nothing_above (2 ^ net.width) (r.read net.number)) w

-- a net of one bit is 0 or 1
small_bit : (n : ℕ) → n < 2 → n ≡ bit (n == 1)
small_bit zero lt = refl
small_bit (suc zero) lt = refl
small_bit (suc (suc n)) lt = absurd (omega arith)

bit_of : (d : Draft) (w : Wire) (r : Reading) → IsBit d.nets w → IsSettled d r → r.read w.number ≡ bit (is_on r w)
bit_of d w r h s = small_bit (r.read w.number) (subst (λ n. r.read w.number < 2 ^ n) h.bit (s.own.fits w.number w.width h.net.declared))

bit_on : (b : Bool) → (bit b == 1) ≡ b
bit_on true = refl
bit_on false = refl

or_bits : (p q : Bool) → bit_or (bit p) (bit q) ≡ bit (p || q)
or_bits true true = refl
or_bits true false = refl
or_bits false true = refl
or_bits false false = refl

pub IsBit-Tells : {d : Draft} {fact : Reading → Bool} (w : Wire) → Tells d fact w → IsBit d.nets w
IsBit-Tells w t = record { net = t.carries.net; bit = t.carries.wide }

-- the net is 1 where the fact holds that it tells
pub on_of : {a d : Draft} {fact : Reading → Bool} (w : Wire) → Extends a d → Tells a fact w → (r : Reading) → IsSettled d r → is_on r w ≡ fact r
on_of {a} {d} {fact} w e t r s = ap (λ n. n == 1) ((Carries-Extends e t.carries).means.holds r s) ∙ bit_on (fact r)

-- what stands for a place where there is none
abbrev pub no_leaving : Leaving
no_leaving = record { cond = record { number = 0; width = 0 }; net = record { number = 0; width = 0 } }

-- one alone
pub alone_carries : {d : Draft} (width : ℕ) (list : List Leaving) (w : Wire) → length list ≡ 1 → Carries d width (λ r x. x ≡ r.read (get_or list 0 no_leaving).net.number) w → Carries d width (IsLeft list) w
alone_carries width [] w e h = absurd (omega arith)
alone_carries width (l ∷ []) w e h = meant (λ r s x. alone_left l r (r.read w.number) x) h
alone_carries width (l ∷ k ∷ list) w e h = absurd (omega arith)

pub alone_cond : (d : Draft) (width : ℕ) (list : List Leaving) → length list ≡ 1 → Each (IsLeaving d.nets width) list → Tells d (λ r. is_left r list) (get_or list 0 no_leaving).cond
alone_cond d width [] e h = absurd (omega arith)
alone_cond d width (l ∷ []) e h = record { carries = record { net = h.0.cond.net; wide = h.0.cond.bit; means = record { holds = λ r s. bit_of d l.cond r h.0.cond s ∙ ap bit (or_false (is_on r l.cond)) } } }
  where
    or_false : (b : Bool) → b ≡ (b || false)
    or_false true = refl
    or_false false = refl
alone_cond d width (l ∷ k ∷ list) e h = absurd (omega arith)

pub alone_among : (list : List Leaving) → length list ≡ 1 → Among (leaving_numbers list) (get_or list 0 no_leaving).cond.number × Among (leaving_numbers list) (get_or list 0 no_leaving).net.number
alone_among [] e = absurd (omega arith)
alone_among (l ∷ list) e = (inl refl, inr (inl refl))

pub alone_is : (nets : List ModuleNet) (width : ℕ) (list : List Leaving) → length list ≡ 1 → Each (IsLeaving nets width) list → IsLeaving nets width (get_or list 0 no_leaving)
alone_is nets width [] e h = absurd (omega arith)
alone_is nets width (l ∷ list) e h = h.0

-- a choice of two parts
pub joined_carries : {a b c : Draft} (n width : ℕ) (list : List Leaving) (cond f s w : Wire) → Extends a c → Extends b c
    → Tells a (λ r. is_left r (take n list)) cond → Carries a width (IsLeft (take n list)) f → Carries b width (IsLeft (take (length list - n) (drop n list))) s
    → Carries c width (λ r x. x ≡ (if is_on r cond then r.read f.number else r.read s.number)) w → Carries c width (IsLeft list) w
joined_carries n width list cond f s w e1 e2 hc hf hs h = meant (λ r t x.
    joined_left n list r (is_on r cond) (r.read f.number) (r.read s.number) (r.read w.number) (on_of cond e1 hc r t) ((Carries-Extends e1 hf).means.holds r t) ((Carries-Extends e2 hs).means.holds r t) x) h

-- whether one of two parts leaves something
pub joined_cond : {a b c d : Draft} (n : ℕ) (list : List Leaving) (x y w : Wire) → Extends a d → Extends b d → Makes c d → IsBit c.nets x → IsBit c.nets y
    → Tells a (λ r. is_left r (take n list)) x → Tells b (λ r. is_left r (take (length list - n) (drop n list))) y
    → Carries d 1 (λ r v. v ≡ bit_or (r.read x.number) (r.read y.number)) w → Tells d (λ r. is_left r list) w
joined_cond {a} {b} {c} {d} n list x y w e1 e2 m bx by hx hy h = record {
  carries = meant (λ r t v.
      v ∙ ap (λ k. bit_or k (r.read y.number)) (bit_of d x r (IsBit-Makes m x bx) t) ∙ ap (bit_or (bit (is_on r x))) (bit_of d y r (IsBit-Makes m y by) t)
      ∙ or_bits (is_on r x) (is_on r y)
      ∙ ap (λ k. bit (k || is_on r y)) (on_of x e1 hx r t) ∙ ap (λ k. bit (is_left r (take n list) || k)) (on_of y e2 hy r t)
      ∙ ap bit (sym (any_halves (λ (l : Leaving). is_on r l.cond) n list))) h;
}

-- The nets of two parts, and of what is made of them.
module _ (n : ℕ) (list : List Leaving) (a b c : Draft) where
  abbrev from : List ℕ
  from = leaving_numbers list

  pub first_from : (w : Wire) → Yields (leaving_numbers (take n list)) a b w → Yields from a b w
  first_from w y = Yields-fewer from (leaving_numbers (take n list)) a b w (among_take n list) y

  pub second_from : (w : Wire) → Reads from a b → Yields (leaving_numbers (take (length list - n) (drop n list))) b c w → Yields from a c w
  second_from w reads y = Yields-after from (leaving_numbers (take (length list - n) (drop n list))) a b c w reads y (from_among from a b (leaving_numbers (take (length list - n) (drop n list))) (among_second n list))

-- the choice of two nets, over the conditions of the first part
pub choice_from : (n : ℕ) (list : List Leaving) (a b c d : Draft) (cond f s w : Wire) → Yields (leaving_numbers (take n list)) a b cond → Yields (leaving_numbers (take n list)) a b f → Yields (leaving_numbers (take (length list - n) (drop n list))) b c s
    → Yields (cond.number ∷ f.number ∷ s.number ∷ []) c d w → Yields (leaving_numbers list) a d w
choice_from n list a b c d cond f s w yc yf ys yw =
    let from : List ℕ = leaving_numbers list in
    let first = first_from n list a b c cond yc in
    let offered = first_from n list a b c f yf in
    let second = second_from n list a b c s first.reads ys in
    let e = ys.reads.extends in
    Yields-after from (cond.number ∷ f.number ∷ s.number ∷ []) a c d w second.reads yw (IsFrom-more from a b c cond.number e first.result, (IsFrom-more from a b c f.number e offered.result, (second.result, tt)))

pub cond_from : (n : ℕ) (list : List Leaving) (a b c d e : Draft) (f s : Leaving) (net cond : Wire) → Yields (leaving_numbers (take n list)) a b f.cond → Yields (leaving_numbers (take n list)) a b f.net
    → Yields (leaving_numbers (take (length list - n) (drop n list))) b c s.cond → Yields (leaving_numbers (take (length list - n) (drop n list))) b c s.net
    → Yields (f.cond.number ∷ f.net.number ∷ s.net.number ∷ []) c d net → Yields (f.cond.number ∷ s.cond.number ∷ []) d e cond → Yields (leaving_numbers list) a e cond
cond_from n list a b c d e f s net cond yc yf zc zf yn yo =
    let from : List ℕ = leaving_numbers list in
    let first = first_from n list a b c f.cond yc in
    let second = second_from n list a b c s.cond first.reads zc in
    let choice = choice_from n list a b c d f.cond f.net s.net net yc yf zf yn in
    Yields-after from (f.cond.number ∷ s.cond.number ∷ []) a d e cond choice.reads yo
    (IsFrom-more from a c d f.cond.number yn.reads.extends (IsFrom-more from a b c f.cond.number zc.reads.extends first.result), (IsFrom-more from a c d s.cond.number yn.reads.extends second.result, tt))

pub pair_from : (n : ℕ) (list : List Leaving) (a b c d e : Draft) (f s : Leaving) (net cond : Wire) → Yields (leaving_numbers (take n list)) a b f.cond → Yields (leaving_numbers (take n list)) a b f.net
    → Yields (leaving_numbers (take (length list - n) (drop n list))) b c s.cond → Yields (leaving_numbers (take (length list - n) (drop n list))) b c s.net
    → Yields (f.cond.number ∷ f.net.number ∷ s.net.number ∷ []) c d net → Yields (f.cond.number ∷ s.cond.number ∷ []) d e cond → Yields (leaving_numbers list) a e net
pair_from n list a b c d e f s net cond yc yf zc zf yn yo =
    let choice = choice_from n list a b c d f.cond f.net s.net net yc yf zf yn in
    Yields-later (leaving_numbers list) a d e net choice (cond_from n list a b c d e f s net cond yc yf zc zf yn yo).reads yo.reads.extends

pub wide_from : (net : Wire) (a b c : Draft) (zeros wide : Wire) → Yields [] a b zeros → Yields (zeros.number ∷ net.number ∷ []) b c wide → Yields (net.number ∷ []) a c wide
wide_from net a b c zeros wide y z =
    let first = Yields-fewer (net.number ∷ []) [] a b zeros tt y in
    Yields-after (net.number ∷ []) (zeros.number ∷ net.number ∷ []) a b c wide first.reads z (first.result, (inl (inl refl), tt))
