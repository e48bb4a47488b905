-- What users hand in for a part of a port, and what is selected of it.
use Rattle.std.proofs.Common.{◌≡◌, ℕ, zero, suc, ◌+◌, ◌==◌, false, true, List, [], ◌∷◌, ◌++◌, length, Option, Some, None, inl, inr, refl, sym, ap, subst, ◌∙◌, arith, append_assoc, eqb-true}
use Rattle.std.specs.Prelude.{map, slice_get}
use Rattle.std.specs.List.{AllByRecursion as Each}
use Rattle.std.specs.Option.{option_map_or}
use Rattle.std.proofs.lemmas.List.{append-nil}
use Rattle.std.proofs.lemmas.Option.{same_Some, slice_get_within}
use Rattle.ap_net.specs.declared.cell.Wire.{Wire}
use Rattle.ap_net.specs.Cells.{IsNet}
use Rattle.ap_net.specs.Draft.{Adds, Draft, Extends}
use Rattle.ap_net.specs.Pending.{Among, IsFrom}
use Rattle.ap_net.specs.Readings.{Carries, IsSettled, Reading}
use Rattle.ap_net.proofs.Laws.{Carries-Extends, IsFrom-later, IsFrom-more, IsNet-Adds, Reads-joined, Reads-refl, meant}
use Rattle.ap_merge.specs.declared.table.Select.{Select}
use Rattle.ap_merge.specs.Selects.{GoesOver}
use Rattle.ap_stage.specs.declared.node.Course.{Course}
use Rattle.ap_stage.specs.declared.node.PortUse.{PortUse}
use Rattle.ap_stage.specs.declared.offer.Offer.{Offer}
use Rattle.ap_stage.specs.declared.source.Ground.{Ground}
use Rattle.ap_stage.specs.declared.user.Handed.{Handed}
use Rattle.ap_stage.specs.declared.user.Part.{Part}
use Rattle.ap_stage.specs.Courses.{AddsOffers, AreOffersFor, HandsIn, IsCourse, IsOfferFor, IsOfferFrom, IsOnlyUser, course_numbers, use_of, users_of}
use Rattle.ap_stage.specs.Offers.{IsOffer, IsOnlyAmong, IsSelected, is_on, nets_of, numbers_of}
use Rattle.ap_stage.specs.Sources.{source_numbers}
use Rattle.ap_stage.specs.Trees.{IsShallow, StandsOver}
use Rattle.ap_stage.specs.Users.{handed_in, handed_value}
use Rattle.ap_stage.specs.Wiring.{IsWiring}
use Rattle.ap_stage.proofs.Followed.{old_from, reads_fewer}
use Rattle.ap_stage.proofs.Listed.{each_both}
use Rattle.ap_stage.proofs.Shallow.{shallow_on}
use Rattle.ap_stage.proofs.Users.{users_both, users_none, users_one}
use Rattle.ap_stage.proofs.Wired.{none_over}

offer_on : (a b : Draft) (ground : Ground) (p : Part) (w : ℕ) (user : Course × PortUse) (o : Offer) → Extends a b → IsOfferFor a ground p w user o → IsOfferFor b ground p w user o
offer_on a b ground p w user o e h = record { cond_is = h.cond_is; net = Carries-Extends e h.net; low = shallow_on a b 0 o.net.number e h.low }

offers_later : (a b : Draft) (ground : Ground) (p : Part) (w : ℕ) (users : List (Course × PortUse)) (offers : List Offer) → Extends a b → AreOffersFor a ground p w users offers → AreOffersFor b ground p w users offers
offers_later a b ground p w [] [] e h = tt
offers_later a b ground p w [] (o ∷ offers) e h = absurd h
offers_later a b ground p w (user ∷ users) [] e h = absurd h
offers_later a b ground p w (user ∷ users) (o ∷ offers) e h = (offer_on a b ground p w user o e h.0, offers_later a b ground p w users offers e h.1)

offers_both : (d : Draft) (ground : Ground) (p : Part) (w : ℕ) (users others : List (Course × PortUse)) (offers more : List Offer) → AreOffersFor d ground p w users offers → AreOffersFor d ground p w others more
    → AreOffersFor d ground p w (users ++ others) (offers ++ more)
offers_both d ground p w [] others [] more h k = k
offers_both d ground p w [] others (x ∷ offers) more h k = absurd h
offers_both d ground p w (user ∷ users) others [] more h k = absurd h
offers_both d ground p w (user ∷ users) others (x ∷ offers) more h k = (h.0, offers_both d ground p w users others offers more h.1 k)

from_more : (from more : List ℕ) (a b c : Draft) (offers : List Offer) → Extends a b → Extends b c → ((n : ℕ) → Among more n → Among from n) → Each (IsOfferFrom more b c) offers → Each (IsOfferFrom from a c) offers
from_more from more a b c [] e f all h = tt
from_more from more a b c (o ∷ offers) e f all h = (
  record {
    cond = IsFrom-later from more a b c o.cond.number e f (old_from from a b more all) h.0.cond;
    net = IsFrom-later from more a b c o.net.number e f (old_from from a b more all) h.0.net;
  },
  from_more from more a b c offers e f all h.1,
)

from_before : (from : List ℕ) (a b c : Draft) (offers : List Offer) → Extends b c → Each (IsOfferFrom from a b) offers → Each (IsOfferFrom from a c) offers
from_before from a b c [] f h = tt
from_before from a b c (o ∷ offers) f h = (record { cond = IsFrom-more from a b c o.cond.number f h.0.cond; net = IsFrom-more from a b c o.net.number f h.0.net }, from_before from a b c offers f h.1)

pub adds_none : (from : List ℕ) (d : Draft) (ground : Ground) (p : Part) (w port : ℕ) (c : Course) (old : List Offer) → use_of port c ≡ None → AddsOffers from d d ground p w (users_of port (c ∷ [])) old old
adds_none from d ground p w port c old none = rw (users_none port c none) (record { more = []; added = sym (append-nil old); are = tt; reads = Reads-refl from d; results = tt })

-- one instruction more
pub adds_one : (a b : Draft) (ground : Ground) (p : Part) (w port : ℕ) (c : Course) (u : PortUse) (given : Handed) (net : Wire) (old new : List Offer) → use_of port c ≡ Some u → handed_in u.asked p ≡ Some given → IsCourse a ground c
    → Carries b w (λ r x. x ≡ handed_value r ground c.scope c.row.items given) net → IsWiring (source_numbers ground c.row.items) a b net → new ≡ old ++ record { cond = c.cond; net = net } ∷ []
    → AddsOffers (course_numbers ground c) a b ground p w (users_of port (c ∷ [])) old new
adds_one a b ground p w port c u given net old new is hands course carries wiring added =
    let from = course_numbers ground c in
    let reads = reads_fewer from (source_numbers ground c.row.items) a b (λ n h. inr h) wiring.yields.reads in
    rw (users_one port c u is) (record {
      more = record { cond = c.cond; net = net } ∷ [];
      added = added;
      are = (
        record {
          cond_is = refl;
          net = meant (λ r s e. e ∙ sym (ap (λ (o : Option Handed). option_map_or (handed_value r ground c.scope c.row.items) o 0) hands)) carries;
          low = none_over b 0 net.number (wiring.shallow 0 course.low);
        },
        tt,
      );
      reads = reads;
      results = (record { cond = inl (inl refl); net = go (wiring.yields.result) }, tt);
    })
  where
    go : IsFrom (source_numbers ground c.row.items) a b net.number → IsFrom (course_numbers ground c) a b net.number
    go (inl h) = inl (inr h)
    go (inr h) = inr h

pub adds_start : (from : List ℕ) (d : Draft) (ground : Ground) (p : Part) (w : ℕ) (offers : List Offer) → offers ≡ [] → AddsOffers from d d ground p w [] [] offers
adds_start from d ground p w offers none = record { more = []; added = none; are = tt; reads = Reads-refl from d; results = tt }

pub adds_more : (from more : List ℕ) (a b d : Draft) (ground : Ground) (p : Part) (w port : ℕ) (before : List Course) (c : Course) (x y z : List Offer) → ((n : ℕ) → Among more n → Among from n) → AddsOffers from a b ground p w (users_of port before) x y
    → AddsOffers more b d ground p w (users_of port (c ∷ [])) y z → AddsOffers from a d ground p w (users_of port (before ++ c ∷ [])) x z
adds_more from more a b d ground p w port before c x y z all first second = rw (users_both port before (c ∷ [])) (record {
  more = first.more ++ second.more;
  added = second.added ∙ ap (λ l. l ++ second.more) first.added ∙ append_assoc x first.more second.more;
  are = offers_both d ground p w (users_of port before) (users_of port (c ∷ [])) first.more second.more (offers_later b d ground p w (users_of port before) first.more second.reads.extends first.are) second.are;
  reads = Reads-joined from more a b d first.reads second.reads (old_from from a b more all);
  results = each_both (IsOfferFrom from a d) first.more second.more (from_before from a b d first.more second.reads.extends first.results) (from_more from more a b d second.more first.reads.extends second.reads.extends all second.results);
})

-- What is selected. -----------------------------------------------------------------------------------------------------

pub offers_long : (d : Draft) (ground : Ground) (p : Part) (w : ℕ) (users : List (Course × PortUse)) (offers : List Offer) → AreOffersFor d ground p w users offers → length offers ≡ length users
offers_long d ground p w [] [] h = refl
offers_long d ground p w [] (o ∷ offers) h = absurd h
offers_long d ground p w (user ∷ users) [] h = absurd h
offers_long d ground p w (user ∷ users) (o ∷ offers) h = ap suc (offers_long d ground p w users offers h.1)

pub are_offers : (a b : Draft) (ground : Ground) (p : Part) (w : ℕ) (users : List (Course × PortUse)) (offers : List Offer) → Adds a b → Each (λ (user : Course × PortUse). IsCourse a ground user.0) users → AreOffersFor b ground p w users offers
    → Each (IsOffer b.nets w) offers
are_offers a b ground p w [] [] m courses h = tt
are_offers a b ground p w [] (o ∷ offers) m courses h = absurd h
are_offers a b ground p w (user ∷ users) [] m courses h = absurd h
are_offers a b ground p w (user ∷ users) (o ∷ offers) m courses h = (
  record {
    cond = subst (IsNet b.nets) (sym h.0.cond_is) (IsNet-Adds a b user.0.cond m courses.0.cond);
    one_bit = ap (λ (x : Wire). x.width) h.0.cond_is ∙ courses.0.one_bit;
    net = h.0.net.net;
    wide = h.0.net.wide;
  },
  are_offers a b ground p w users offers m courses.1 h.1,
)

pub low_offers : (d : Draft) (ground : Ground) (p : Part) (w : ℕ) (users : List (Course × PortUse)) (offers : List Offer) → AreOffersFor d ground p w users offers → Each (IsShallow d 0) (nets_of offers)
low_offers d ground p w [] [] h = tt
low_offers d ground p w [] (o ∷ offers) h = absurd h
low_offers d ground p w (user ∷ users) [] h = absurd h
low_offers d ground p w (user ∷ users) (o ∷ offers) h = (h.0.low, low_offers d ground p w users offers h.1)

-- conditions and nets of what is offered
pub numbers_from : (from : List ℕ) (a b : Draft) (offers : List Offer) → Each (IsOfferFrom from a b) offers → Each (IsFrom from a b) (numbers_of offers)
numbers_from from a b offers h = each_both (IsFrom from a b) (conds offers) (nets_of offers) (go offers h) (nets offers h)
  where
    conds : List Offer → List ℕ
    conds l = map (λ (o : Offer). o.cond.number) l

    go : (l : List Offer) → Each (IsOfferFrom from a b) l → Each (IsFrom from a b) (conds l)
    go [] each = tt
    go (o ∷ l) each = (each.0.cond, go l each.1)

    nets : (l : List Offer) → Each (IsOfferFrom from a b) l → Each (IsFrom from a b) (nets_of l)
    nets [] each = tt
    nets (o ∷ l) each = (each.0.net, nets l each.1)

offer_at : (d : Draft) (ground : Ground) (p : Part) (w : ℕ) (users : List (Course × PortUse)) (offers : List Offer) (place : ℕ) (user : Course × PortUse) → AreOffersFor d ground p w users offers → slice_get users place ≡ Some user
    → (o : Offer) × (slice_get offers place ≡ Some o) × IsOfferFor d ground p w user o
offer_at d ground p w [] offers place user h at = absurd cc
offer_at d ground p w (x ∷ users) [] place user h at = absurd h
offer_at d ground p w (x ∷ users) (o ∷ offers) zero user h at = (o, refl, subst (λ (z : Course × PortUse). IsOfferFor d ground p w z o) (same_Some x user at) h.0)
offer_at d ground p w (x ∷ users) (o ∷ offers) (suc place) user h at = offer_at d ground p w users offers place user h.1 at

offerer_at : (d : Draft) (ground : Ground) (p : Part) (w : ℕ) (users : List (Course × PortUse)) (offers : List Offer) (place : ℕ) (o : Offer) → AreOffersFor d ground p w users offers → slice_get offers place ≡ Some o
    → (user : Course × PortUse) × (slice_get users place ≡ Some user) × IsOfferFor d ground p w user o
offerer_at d ground p w [] [] place o h at = absurd cc
offerer_at d ground p w [] (x ∷ offers) place o h at = absurd h
offerer_at d ground p w (x ∷ users) [] place o h at = absurd h
offerer_at d ground p w (x ∷ users) (y ∷ offers) zero o h at = (x, refl, subst (IsOfferFor d ground p w x) (same_Some y o at) h.0)
offerer_at d ground p w (x ∷ users) (y ∷ offers) (suc place) o h at = offerer_at d ground p w users offers place o h.1 at

-- where one user's condition alone is 1, what it hands in is offered alone
only_offers : (d : Draft) (ground : Ground) (p : Part) (w : ℕ) (users : List (Course × PortUse)) (offers : List Offer) (choice : Select) (r : Reading) (place : ℕ) (user : Course × PortUse) → AreOffersFor d ground p w users offers
    → GoesOver choice 0 (length users) → slice_get users place ≡ Some user → IsOnlyUser r users place → IsOnlyAmong (is_on r offers) choice place
only_offers d ground p w users offers choice r place user are over at only =
    let o = offer_at d ground p w users offers place user are at in
    let inside = slice_get_within users place user at in
    let from = over.first in
    let past = over.past in
    let cond_is : r.read o.0.cond.number ≡ 1 = ap (λ (x : Wire). r.read x.number) o.2.cond_is ∙ only.on user at in
    record {
      low = omega arith;
      high = omega arith;
      is_on = ap (λ x. option_map_or (λ (z : Offer). r.read z.cond.number == 1) x false) o.1 ∙ ap (λ n. n == 1) cond_is;
      alone = λ other up down on. go other (slice_get offers other) refl on;
    }
  where
    go : (other : ℕ) (o : Option Offer) → slice_get offers other ≡ o → option_map_or (λ (z : Offer). r.read z.cond.number == 1) o false ≡ true → other ≡ place
    go other None there on = absurd cc
    go other (Some o) there on =
        let one = offerer_at d ground p w users offers other o are there in
        only.alone other one.0 one.1 (sym (ap (λ (x : Wire). r.read x.number) one.2.cond_is) ∙ eqb-true (r.read o.cond.number) 1 on)

-- what is selected is what that user hands in
pub selected_hands : (a b : Draft) (ground : Ground) (p : Part) (w : ℕ) (users : List (Course × PortUse)) (offers : List Offer) (choice : Select) (y : Wire) → ((r : Reading) → IsSettled b r → IsSettled a r)
    → AreOffersFor a ground p w users offers → GoesOver choice 0 (length users) → Carries b w (IsSelected offers choice) y → Carries b w (HandsIn ground users p) y
selected_hands a b ground p w users offers choice y back are over h = record {
  net = h.net;
  wide = h.wide;
  means = record {
    holds = λ r settled place user at only.
        let o = offer_at a ground p w users offers place user are at in
        (h.means.holds r settled).selects place (only_offers a ground p w users offers choice r place user are over at only)
        ∙ ap (λ x. option_map_or (λ (z : Offer). r.read z.net.number) x 0) o.1 ∙ o.2.net.means.holds r (back r settled);
  };
}

-- all that is offered, where nothing was before
pub offered_all : (from : List ℕ) (a b : Draft) (ground : Ground) (p : Part) (w : ℕ) (users : List (Course × PortUse)) (offers : List Offer) → AddsOffers from a b ground p w users [] offers
    → AreOffersFor b ground p w users offers × Each (IsOfferFrom from a b) offers
offered_all from a b ground p w users offers h = (subst (AreOffersFor b ground p w users) (sym h.added) h.are, subst (Each (IsOfferFrom from a b)) (sym h.added) h.results)

pub low_selected : (a b : Draft) (deep : ℕ) (offers : List Offer) (y : Wire) → StandsOver deep (nets_of offers) a b y.number → Each (IsShallow a 0) (nets_of offers) → IsShallow b deep y.number
low_selected a b deep offers y over low = let same : deep + 0 ≡ deep = omega arith in subst (λ k. IsShallow b k y.number) same (over 0 low)
