-- What a choice between two selections takes, and the trees that choices make.
use Rattle.std.proofs.Common.{◌≡◌, ℕ, zero, suc, ◌+◌, ◌-◌, ◌^◌, ◌<◌, ◌≤◌, ◌==◌, ◌&&◌, ◌||◌, nat_lt, max, Bool, true, false, if◌then◌else◌, List, [], ◌∷◌, length, map, slice_get, Some, inl, inr, refl, sym, ap, subst, ◌∙◌, arith, add-one, bit_or, eqb-true}
use Rattle.std.specs.List.{AllByRecursion as Each, list_any, range_with_len}
use Rattle.std.specs.Option.{option_map_or}
use Rattle.std.proofs.lemmas.Bool.{and_parts, ltb-true}
use Rattle.std.proofs.lemmas.Option.{same_Some}
use Rattle.ap_net.specs.declared.cell.Wire.{Wire}
use Rattle.ap_net.specs.declared.cell.Cell.TheVariants as cell
use Rattle.ap_net.specs.Cells.{IsNet}
use Rattle.ap_net.specs.Draft.{Draft, Extends, next_wire, with_made}
use Rattle.ap_net.specs.Late.{Reads}
use Rattle.ap_net.specs.Making.{Makes}
use Rattle.ap_net.specs.Pending.{Among, IsFrom, Yields}
use Rattle.ap_net.specs.Readings.{Carries, IsSettled, Reading}
use Rattle.ap_net.proofs.Laws.{Extends-trans, IsFrom-more, IsNet-Makes, Yields-after}
use Rattle.ap_stage.specs.Offers.{IsAnyOn, IsOffer, IsOver, IsSelected, is_on, nets_of, numbers_of, offered_at}
use Rattle.ap_merge.specs.Selects.{IsOnlyOn, Span, depth, is_any_on, span_of}
use Rattle.ap_stage.specs.Trees.{Chooses, IsEither, IsTree, choice, leaf}
use Rattle.ap_stage.specs.declared.offer.Offer.{Offer}
use Rattle.ap_merge.specs.declared.table.Select.{Select, Ask, Take}
use Rattle.ap_stage.proofs.Shallow.{chooses_on}
use Rattle.ap_merge.proofs.Halves.{in_first, in_second}
use Rattle.ap_merge.proofs.SelectValues.{depth-ask, span-ask, span-take}
use Rattle.ap_stage.proofs.Listed.{among_left, among_right, each_at, get_last}

-- Whether one of some conditions is 1.

or_in_turn : (x y z : Bool) → (x || (y || z)) ≡ ((x || y) || z)
or_in_turn true y z = refl
or_in_turn false y z = refl

any_range : (on : ℕ → Bool) (a n k : ℕ) → list_any on (range_with_len a (n + k)) ≡ (list_any on (range_with_len a n) || list_any on (range_with_len (a + n) k))
any_range on a zero k = let none : 0 + k ≡ k = omega arith in let here : a + 0 ≡ a = omega arith in rw (none, here) refl
any_range on a (suc n) k =
    let more : suc n + k ≡ suc (n + k) = omega arith in
    let on_from : a + 1 + n ≡ a + suc n = omega arith in
    ap (λ j. list_any on (range_with_len a j)) more
    ∙ ap (λ b. on a || b) (any_range on (a + 1) n k)
    ∙ or_in_turn (on a) (list_any on (range_with_len (a + 1) n)) (list_any on (range_with_len (a + 1 + n) k))
    ∙ ap (λ j. (on a || list_any on (range_with_len (a + 1) n)) || list_any on (range_with_len j k)) on_from

pub any_of_both : (on : ℕ → Bool) (from middle to : ℕ) → from ≤ middle → middle ≤ to → is_any_on on from to ≡ (is_any_on on from middle || is_any_on on middle to)
any_of_both on from middle to low high =
    let parts : to - from ≡ middle - from + (to - middle) = omega arith in
    let at : from + (middle - from) ≡ middle = omega arith in
    ap (λ n. list_any on (range_with_len from n)) parts ∙ any_range on from (middle - from) (to - middle) ∙ ap (λ m. list_any on (range_with_len from (middle - from)) || list_any on (range_with_len m (to - middle))) at

-- The answers of a question ask fewer.

pub one_falls : (s : Select) (from to : ℕ) (one other : Select) → s ≡ Ask from to one other → depth one < depth s
one_falls s from to one other is = rw is (rw (depth-ask from to one other) (omega arith))

pub other_falls : (s : Select) (from to : ℕ) (one other : Select) → s ≡ Ask from to one other → depth other < depth s
other_falls s from to one other is = rw is (rw (depth-ask from to one other) (omega arith))

-- The answers of a question go over what it is about, and over what comes after.

pub record AreParts (from to : ℕ) (one other : Select) : Type 0 where
  pub first : (span_of one).first ≡ from
  pub past : (span_of one).past ≡ to
  pub goes_on : (span_of other).first ≡ to
  pub some : from < to
  pub more : to < (span_of other).past
  pub one_joined : (span_of one).joined ≡ true
  pub other_joined : (span_of other).joined ≡ true

pub parts_of : (from to : ℕ) (one other : Select) → (span_of (Ask from to one other)).joined ≡ true → AreParts from to one other
parts_of from to one other joined =
    let a = (span_of one).first == from in
    let b = (span_of one).past == to in
    let c = (span_of other).first == to in
    let d = nat_lt from to in
    let e = nat_lt to (span_of other).past in
    let f = (span_of one).joined in
    let all = sym (ap (λ (s : Span). s.joined) (span-ask from to one other)) ∙ joined in
    let (upto_f, last) = and_parts (a && b && c && d && e && f) (span_of other).joined all in
    let (upto_e, sixth) = and_parts (a && b && c && d && e) f upto_f in
    let (upto_d, fifth) = and_parts (a && b && c && d) e upto_e in
    let (upto_c, fourth) = and_parts (a && b && c) d upto_d in
    let (upto_b, third) = and_parts (a && b) c upto_c in
    let (first', second) = and_parts a b upto_b in
    record {
      first = eqb-true (span_of one).first from first';
      past = eqb-true (span_of one).past to second;
      goes_on = eqb-true (span_of other).first to third;
      some = ltb-true from to fourth;
      more = ltb-true to (span_of other).past fifth;
      one_joined = sixth;
      other_joined = last;
    }

asked_first : (from to : ℕ) (one other : Select) → (span_of (Ask from to one other)).first ≡ from
asked_first from to one other = ap (λ (s : Span). s.first) (span-ask from to one other)

pub asked_past : (from to : ℕ) (one other : Select) → (span_of (Ask from to one other)).past ≡ (span_of other).past
asked_past from to one other = ap (λ (s : Span). s.past) (span-ask from to one other)

-- the offers of the answers are among those of the question
pub one_over : (count from to : ℕ) (one other : Select) → IsOver count (Ask from to one other) → IsOver count one
one_over count from to one other over =
    let parts = parts_of from to one other over.joined in
    let within = over.within in
    let ends = asked_past from to one other in
    let past = parts.past in
    let more = parts.more in
    record { joined = parts.one_joined; within = omega arith }

pub other_over : (count from to : ℕ) (one other : Select) → IsOver count (Ask from to one other) → IsOver count other
other_over count from to one other over =
    let parts = parts_of from to one other over.joined in
    record { joined = parts.other_joined; within = subst (λ n. n ≤ count) (asked_past from to one other) over.within }

-- one of two bits
or_is_one : (a b : ℕ) → a < 2 → b < 2 → (bit_or a b == 1) ≡ ((a == 1) || (b == 1))
or_is_one zero zero low high = refl
or_is_one zero (suc zero) low high = refl
or_is_one (suc zero) zero low high = refl
or_is_one (suc zero) (suc zero) low high = refl
or_is_one (suc (suc a)) b low high = absurd (omega arith)
or_is_one a (suc (suc b)) low high = absurd (omega arith)

pub any_asked : (r : Reading) (offers : List Offer) (from to : ℕ) (one other : Select) (a b c : ℕ) → (span_of (Ask from to one other)).joined ≡ true → a < 2 → b < 2 → IsAnyOn offers one r a → IsAnyOn offers other r b → c ≡ bit_or a b
    → IsAnyOn offers (Ask from to one other) r c
any_asked r offers from to one other a b c joined low high first second is =
    let parts = parts_of from to one other joined in
    let on = is_on r offers in
    let some = parts.some in
    let more = parts.more in
    record {
      says = ap (λ x. x == 1) is ∙ or_is_one a b low high ∙ ap (λ x. x || (b == 1)) first.says ∙ ap (λ x. is_any_on on (span_of one).first (span_of one).past || x) second.says
          ∙ ap (λ m. is_any_on on m (span_of one).past || is_any_on on (span_of other).first (span_of other).past) parts.first
          ∙ ap (λ m. is_any_on on from m || is_any_on on (span_of other).first (span_of other).past) parts.past
          ∙ ap (λ m. is_any_on on from to || is_any_on on m (span_of other).past) parts.goes_on
          ∙ sym (any_of_both on from to (span_of other).past (omega arith) (omega arith))
          ∙ ap (λ (s : Span). is_any_on on s.first s.past) (sym (span-ask from to one other));
    }

pub value_asked : (r : Reading) (offers : List Offer) (from to : ℕ) (one other : Select) (a x y v : ℕ) → (span_of (Ask from to one other)).joined ≡ true → IsAnyOn offers one r a → IsSelected offers one r x → IsSelected offers other r y
    → v ≡ (if a == 1 then x else y) → IsSelected offers (Ask from to one other) r v
value_asked r offers from to one other a x y v joined any first second is = record {
  selects = λ place only.
      is ∙ go place (subst (λ (s : Span). IsOnlyOn on s.first s.past place) (span-ask from to one other) only) (a == 1) (any.says ∙ ap (λ m. is_any_on on m (span_of one).past) parts.first ∙ ap (λ m. is_any_on on from m) parts.past);
}
  where
    on : ℕ → Bool
    on = is_on r offers

    parts : AreParts from to one other
    parts = parts_of from to one other joined

    go : (place : ℕ) → IsOnlyOn on from (span_of other).past place → (b : Bool) → b ≡ is_any_on on from to → (if b then x else y) ≡ offered_at r offers place
    go place only true some =
        let up = parts.more in
        first.selects place (subst (λ m. IsOnlyOn on m (span_of one).past place) (sym parts.first) (subst (λ m. IsOnlyOn on from m place) (sym parts.past) (in_first on from to (span_of other).past place (omega arith) only (sym some))))
    go place only false none =
        let low = parts.some in
        second.selects place (subst (λ m. IsOnlyOn on m (span_of other).past place) (sym parts.goes_on) (in_second on from to (span_of other).past place (omega arith) only (sym none)))

-- One entry.

pub one_selected : (r : Reading) (offers : List Offer) (place : ℕ) (o : Offer) → slice_get offers place ≡ Some o → IsSelected offers (Take place) r (r.read o.net.number)
one_selected r offers place o at = record {
  selects = λ k only.
      let here = subst (λ (s : Span). IsOnlyOn (is_on r offers) s.first s.past k) (span-take place) only in
      let low = here.low in
      let high = here.high in
      let same : k ≡ place = omega arith in
      sym (ap (λ x. option_map_or (λ (z : Offer). r.read z.net.number) x 0) (ap (slice_get offers) same ∙ at));
}

or_none : (b : Bool) → (b || false) ≡ b
or_none true = refl
or_none false = refl

any_one : (on : ℕ → Bool) (p : ℕ) → is_any_on on p (p + 1) ≡ on p
any_one on p = let one : p + 1 - p ≡ 1 = omega arith in rw one (or_none (on p))

pub one_is_on : (r : Reading) (offers : List Offer) (place : ℕ) (o : Offer) → slice_get offers place ≡ Some o → IsAnyOn offers (Take place) r (r.read o.cond.number)
one_is_on r offers place o at = record {
  says = sym (
      ap (λ (s : Span). is_any_on (is_on r offers) s.first s.past) (span-take place)
      ∙ any_one (is_on r offers) place
      ∙ ap (λ x. option_map_or (λ (z : Offer). r.read z.cond.number == 1) x false) at
      );
}

-- Trees.

pub tree_on : (a b : Draft) (leaves : List ℕ) (depth n : ℕ) → Extends a b → IsTree a leaves depth n → IsTree b leaves depth n
tree_on a b leaves depth n e (leaf d m there) = leaf d m there
tree_on a b leaves depth n e (choice d m cond left right h one other) =
    choice d m cond left right (chooses_on a b m cond left right e h) (tree_on a b leaves d left.number e one) (tree_on a b leaves d right.number e other)

pub tree_deeper : (a : Draft) (leaves : List ℕ) (depth more n : ℕ) → depth ≤ more → IsTree a leaves depth n → IsTree a leaves more n
tree_deeper a leaves depth more n le (leaf d m there) = leaf more m there
tree_deeper a leaves depth zero n le (choice d m cond left right h one other) = absurd (omega arith)
tree_deeper a leaves depth (suc more) n le (choice d m cond left right h one other) =
    subst (λ k. IsTree a leaves k m) (add-one more)
    (choice more m cond left right h (tree_deeper a leaves d more left.number (omega arith) one) (tree_deeper a leaves d more right.number (omega arith) other))

pub tree_of_either : (a : Draft) (leaves : List ℕ) (one other : ℕ) (cond left right y : Wire) → IsEither a cond left right y → IsTree a leaves one left.number → IsTree a leaves other right.number → IsTree a leaves (max one other + 1) y.number
tree_of_either a leaves one other cond left right y (inl same) first second = subst (λ (w : Wire). IsTree a leaves (max one other + 1) w.number) (sym same.1) (tree_deeper a leaves one (max one other + 1) left.number (omega arith) first)
tree_of_either a leaves one other cond left right y (inr chooses) first second =
    choice (max one other) y.number cond left right chooses (tree_deeper a leaves one (max one other) left.number (omega arith) first) (tree_deeper a leaves other (max one other) right.number (omega arith) second)

-- What is read.

pub each_from : (from : List ℕ) (a b : Draft) (more : List ℕ) → ((n : ℕ) → Among more n → Among from n) → Each (IsFrom from a b) more
each_from from a b [] all = tt
each_from from a b (n ∷ more) all = (inl (all n (inl refl)), each_from from a b more (λ m h. all m (inr h)))

-- The nets of a question, by those of its answers.

pub bit_of : (d : Draft) (w : Wire) (r : Reading) → IsSettled d r → IsNet d.nets w → w.width ≡ 1 → r.read w.number < 2
bit_of d w r s n one = subst (λ k. r.read w.number < 2 ^ k) one ((s.own).fits w.number w.width n.declared)

pub cond_asked : (d : Draft) (offers : List Offer) (from to : ℕ) (one other : Select) (a b c : Wire) → (span_of (Ask from to one other)).joined ≡ true → Carries d 1 (IsAnyOn offers one) a → Carries d 1 (IsAnyOn offers other) b
    → Carries d 1 (λ r x. x ≡ bit_or (r.read a.number) (r.read b.number)) c → Carries d 1 (IsAnyOn offers (Ask from to one other)) c
cond_asked d offers from to one other a b c joined first second both = record {
  net = both.net;
  wide = both.wide;
  means = record {
    holds = λ r s.
        any_asked r offers from to one other (r.read a.number) (r.read b.number) (r.read c.number) joined (bit_of d a r s first.net first.wide) (bit_of d b r s second.net second.wide)
        (first.means.holds r s) (second.means.holds r s) (both.means.holds r s);
  };
}

pub net_asked : (d : Draft) (width : ℕ) (offers : List Offer) (from to : ℕ) (one other : Select) (a x y v : Wire) → (span_of (Ask from to one other)).joined ≡ true → Carries d 1 (IsAnyOn offers one) a
    → Carries d width (IsSelected offers one) x → Carries d width (IsSelected offers other) y → Carries d width (λ r z. z ≡ (if r.read a.number == 1 then r.read x.number else r.read y.number)) v
    → Carries d width (IsSelected offers (Ask from to one other)) v
net_asked d width offers from to one other a x y v joined any first second either = record {
  net = either.net;
  wide = either.wide;
  means = record {
    holds = λ r s.
        value_asked r offers from to one other (r.read a.number) (r.read x.number) (r.read y.number) (r.read v.number) joined (any.means.holds r s) (first.means.holds r s) (second.means.holds r s) (either.means.holds r s);
  };
}

-- Two nets that are one.

abbrev wire : ℕ → ℕ → Wire
wire number width = record { number = number; width = width }

pub same_either : (b : Bool) (x y : ℕ) → x ≡ y → x ≡ (if b then x else y)
same_either true x y same = refl
same_either false x y same = same

pub same_wire : (a b : Wire) → a.number ≡ b.number → b.width ≡ a.width → a ≡ b
same_wire a b number width = ap (λ n. wire n a.width) number ∙ ap (λ w. wire b.number w) (sym width)

-- the choice that was made
made_chooses : (d : Draft) (width : ℕ) (cond left right : Wire) → Chooses (with_made d width (cell.Choose cond left right)) (length d.nets) cond left right
made_chooses d width cond left right = record { place = length d.assigns; assign = record { to = next_wire d width; cell = cell.Choose cond left right }; is_there = get_last d.assigns (record { to = next_wire d width; cell = cell.Choose cond left right }); drives = refl; chooses = refl }

pub either_made : (old new : Draft) (width : ℕ) (cond left right y : Wire) → new ≡ with_made old width (cell.Choose cond left right) → y ≡ next_wire old width → IsEither new cond left right y
either_made old new width cond left right y is wire_is = inr (subst (λ (w : Wire). Chooses new w.number cond left right) (sym wire_is) (subst (λ d. Chooses d (length old.nets) cond left right) (sym is) (made_chooses old width cond left right)))

-- The nets of one offer.

pub take_low : (count place : ℕ) → IsOver count (Take place) → place < count
take_low count place over = let ends = ap (λ (s : Span). s.past) (span-take place) in let within = over.within in omega arith

pub net_taken : (d : Draft) (width : ℕ) (offers : List Offer) (place : ℕ) (o : Offer) → Each (IsOffer d.nets width) offers → slice_get offers place ≡ Some o → Carries d width (IsSelected offers (Take place)) o.net
net_taken d width offers place o each at =
    let is = each_at (IsOffer d.nets width) offers place o each at in
    record { net = is.net; wide = is.wide; means = record { holds = λ r s. one_selected r offers place o at } }

pub cond_taken : (d : Draft) (width : ℕ) (offers : List Offer) (place : ℕ) (o : Offer) → Each (IsOffer d.nets width) offers → slice_get offers place ≡ Some o → Carries d 1 (IsAnyOn offers (Take place)) o.cond
cond_taken d width offers place o each at =
    let is = each_at (IsOffer d.nets width) offers place o each at in
    record { net = is.cond; wide = is.one_bit; means = record { holds = λ r s. one_is_on r offers place o at } }

among_map : (f : Offer → ℕ) (offers : List Offer) (place : ℕ) (o : Offer) → slice_get offers place ≡ Some o → Among (map f offers) (f o)
among_map f [] place o at = absurd cc
among_map f (x ∷ offers) zero o at = inl (ap f (same_Some x o at))
among_map f (x ∷ offers) (suc place) o at = inr (among_map f offers place o at)

pub net_among : (offers : List Offer) (place : ℕ) (o : Offer) → slice_get offers place ≡ Some o → Among (nets_of offers) o.net.number
net_among offers place o at = among_map (λ (x : Offer). x.net.number) offers place o at

pub net_read : (offers : List Offer) (place : ℕ) (o : Offer) → slice_get offers place ≡ Some o → Among (numbers_of offers) o.net.number
net_read offers place o at = among_right (map (λ (x : Offer). x.cond.number) offers) (nets_of offers) o.net.number (net_among offers place o at)

pub cond_read : (offers : List Offer) (place : ℕ) (o : Offer) → slice_get offers place ≡ Some o → Among (numbers_of offers) o.cond.number
cond_read offers place o at = among_left (map (λ (x : Offer). x.cond.number) offers) (nets_of offers) o.cond.number (among_map (λ (x : Offer). x.cond.number) offers place o at)

-- offers stay where the draft grows
pub offers_on : (a b : Draft) (width : ℕ) (offers : List Offer) → Makes a b → Each (IsOffer a.nets width) offers → Each (IsOffer b.nets width) offers
offers_on a b width [] m h = tt
offers_on a b width (o ∷ offers) m h =
    (record { cond = IsNet-Makes a b o.cond m h.0.cond; one_bit = h.0.one_bit; net = IsNet-Makes a b o.net m h.0.net; wide = h.0.wide }, offers_on a b width offers m h.1)

-- a piece that reads what was there before another piece
pub yields_later : (from : List ℕ) (a b c : Draft) (w : Wire) → Reads from a b → Yields from b c w → Yields from a c w
yields_later from a b c w reads yields = Yields-after from from a b c w reads yields (each_from from a b from (λ n h. h))

-- What the nets of a question read, from what those of its answers do.

pub asked_reads : (from : List ℕ) (a b c d e : Draft) (one_cond one other_cond other cond net : Wire) → Yields from a b one_cond → Yields from a b one → Yields from b c other_cond → Yields from b c other
    → Yields (one_cond.number ∷ other_cond.number ∷ []) c d cond → Yields (one_cond.number ∷ one.number ∷ other.number ∷ []) d e net → Yields from a e cond × Yields from a e net
asked_reads from a b c d e one_cond one other_cond other cond net first_cond first second_cond second made chosen =
    let later_cond = yields_later from a b c other_cond first_cond.reads second_cond in
    let later = yields_later from a b c other first.reads second in
    let bc = second.reads.extends in
    let cd = made.reads.extends in
    let both = Yields-after from (one_cond.number ∷ other_cond.number ∷ []) a c d cond later_cond.reads made (IsFrom-more from a b c one_cond.number bc first_cond.result, (later_cond.result, tt)) in
    let bd = Extends-trans b c d bc cd in
    let all = Yields-after from (one_cond.number ∷ one.number ∷ other.number ∷ []) a d e net both.reads chosen
    (IsFrom-more from a b d one_cond.number bd first_cond.result, (IsFrom-more from a b d one.number bd first.result, (IsFrom-more from a c d other.number cd later.result, tt))) in
    (record { reads = all.reads; result = IsFrom-more from a d e cond.number chosen.reads.extends both.result }, all)

pub chosen_reads : (from : List ℕ) (a b c d : Draft) (one_cond one other net : Wire) → Yields from a b one_cond → Yields from a b one → Yields from b c other → Yields (one_cond.number ∷ one.number ∷ other.number ∷ []) c d net → Yields from a d net
chosen_reads from a b c d one_cond one other net first_cond first second chosen =
    let later = yields_later from a b c other first.reads second in
    let bc = second.reads.extends in
    Yields-after from (one_cond.number ∷ one.number ∷ other.number ∷ []) a c d net later.reads chosen (IsFrom-more from a b c one_cond.number bc first_cond.result, (IsFrom-more from a b c one.number bc first.result, (later.result, tt)))
