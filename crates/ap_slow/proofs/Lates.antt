-- Wires that are driven later, one after the other.
use Rattle.std.proofs.Common.{◌≡◌, ◌≢◌, ℕ, ◌+◌, ◌<◌, ◌≤◌, List, [], ◌∷◌, ◌++◌, length, map, refl, sym, ap, subst, ◌∙◌, arith, append-nil, inl, inr, length-append}
use Rattle.std.specs.Prelude.{◌⊎◌}
use Rattle.std.specs.List.{AllByRecursion as Each}
use Rattle.std.proofs.lemmas.Bool.{cases_lt}
use Rattle.ap_net.specs.declared.cell.Wire.{Wire}
use Rattle.ap_net.specs.declared.net.Role.TheVariants as role
use Rattle.ap_net.specs.Draft.{Draft, Extends, CanFresh, KeepsNew, next_wire, wire_count, with_fresh}
use Rattle.ap_net.specs.Late.{IsLate, StayLate}
use Rattle.ap_net.specs.Modules.{ports_among}
use Rattle.ap_net.specs.Names.{numbered}
use Rattle.ap_net.specs.Pending.{Among}
use Rattle.ap_net.specs.Ready.{numbers}
use Rattle.ap_net.specs.Wiring.{NoneTwice}
use Rattle.ap_net.proofs.Drafts.{ports_among-wire}
use Rattle.ap_net.proofs.Laws.{Extends-refl, Extends-trans}
use Rattle.ap_net.proofs.Lists.{All-back, All-front, All-from, All-join}
use Rattle.ap_net.proofs.Wired.{number-IsNet}
use Rattle.ap_slow.specs.Placed.{AddsParts, DeclaresLate}

-- What came goes on.

pub adds_none : (d : Draft) → CanFresh d → AddsParts [] d d
adds_none d fresh = record { extends = Extends-refl d; nexts = refl; ports = refl; fresh = fresh; names = λ name other apart new. new; late = λ x h. h }

pub adds_more : (ps qs : List (List ℕ)) (a b c : Draft) → AddsParts ps a b → AddsParts qs b c → AddsParts (ps ++ qs) a c
adds_more ps qs a b c p q = record {
  extends = Extends-trans a b c p.extends q.extends;
  nexts = q.nexts ∙ p.nexts;
  ports = q.ports ∙ p.ports;
  fresh = q.fresh;
  names = λ name other apart new. q.names name other (All-back (λ part. part ≢ name) ps qs apart) (p.names name other (All-front (λ part. part ≢ name) ps qs apart) new);
  late = λ x h. q.late x (p.late x h);
}

-- Lists of numbers.

numbers_push : (ws : List Wire) (w : Wire) → numbers (ws ++ w ∷ []) ≡ numbers ws ++ w.number ∷ []
numbers_push [] w = refl
numbers_push (x ∷ ws) w = ap (λ l. x.number ∷ l) (numbers_push ws w)

apart_push : (xs : List ℕ) (n : ℕ) → NoneTwice xs → Each (λ x. x ≢ n) xs → NoneTwice (xs ++ n ∷ [])
apart_push [] n h other = (tt, tt)
apart_push (x ∷ xs) n h other = (All-join (λ o. o ≢ x) xs (n ∷ []) h.0 ((λ e. other.0 (sym e)), tt), apart_push xs n h.1 other.1)

late_below : (d : Draft) (ws : List Wire) → Each (IsLate d) ws → Each (λ x. x ≢ length d.nets) (numbers ws)
late_below d [] h = tt
late_below d (w ∷ ws) h = ((λ e. let lt = number-IsNet d.nets w h.0.net in absurd (omega arith)), late_below d ws h.1)

pub among_front : (xs ys : List ℕ) (n : ℕ) → Among xs n → Among (xs ++ ys) n
among_front [] ys n h = absurd h
among_front (x ∷ xs) ys n (inl e) = inl e
among_front (x ∷ xs) ys n (inr h) = inr (among_front xs ys n h)

pub among_back : (xs ys : List ℕ) (n : ℕ) → Among ys n → Among (xs ++ ys) n
among_back [] ys n h = h
among_back (x ∷ xs) ys n h = inr (among_back xs ys n h)

widths_push : (ws : List Wire) (w : Wire) → map (λ (x : Wire). x.width) (ws ++ w ∷ []) ≡ map (λ (x : Wire). x.width) ws ++ w.width ∷ []
widths_push [] w = refl
widths_push (x ∷ ws) w = ap (λ l. x.width ∷ l) (widths_push ws w)

-- Late wires.

fresh_extends : (d : Draft) (width : ℕ) → Extends d (with_fresh d width)
fresh_extends d width = record {
  name = refl;
  nets = (record { name = numbered (wire_count d.nets); width = width; role = role.Plain } ∷ [], refl);
  assigns = ([], sym (append-nil d.assigns));
  nexts = ([], sym (append-nil d.nexts));
  instances = ([], sym (append-nil d.instances));
}

pub extends_long : (a b : Draft) → Extends a b → length a.nets ≤ length b.nets
extends_long a b e = let l : length b.nets ≡ length a.nets + length e.nets.0 = ap length e.nets.1 ∙ length-append a.nets e.nets.0 in omega arith

pub late_none : (d : Draft) → CanFresh d → DeclaresLate [] [] d d
late_none d fresh = record { wide = refl; each = tt; above = tt; apart = tt; adds = adds_none d fresh; instances = refl; came = λ n low high. absurd (omega arith) }

pub late_more : (widths : List ℕ) (width : ℕ) (made : List Wire) (w : Wire) (a b c : Draft) → DeclaresLate widths made a b → c ≡ with_fresh b width → w ≡ next_wire b width → IsLate c w → StayLate b c → CanFresh c → KeepsNew b c
    → DeclaresLate (widths ++ width ∷ []) (made ++ w ∷ []) a c
late_more widths width made w a b c h is wire late stay fresh names =
    let e : Extends b c = subst (Extends b) (sym is) (fresh_extends b width) in
    let number : w.number ≡ length b.nets = ap (λ (x : Wire). x.number) wire in
    let long : length c.nets ≡ length b.nets + 1 = ap (λ (d : Draft). length d.nets) is ∙ length-append b.nets (record { name = numbered (wire_count b.nets); width = width; role = role.Plain } ∷ []) in
    let one : AddsParts [] b c = record {
      extends = e;
      nexts = ap (λ (d : Draft). d.nexts) is;
      ports = ap (λ (d : Draft). ports_among d.nets) is ∙ ports_among-wire b.nets (numbered (wire_count b.nets)) width;
      fresh = fresh;
      names = λ name other apart new. names name other new;
      late = stay;
    } in
    record {
      wide = widths_push made w ∙ ap (λ l. l ++ w.width ∷ []) h.wide ∙ ap (λ (x : Wire). widths ++ x.width ∷ []) wire;
      each = All-join (IsLate c) made (w ∷ []) (All-from (IsLate b) (IsLate c) stay made h.each) (late, tt);
      above = All-join (λ (x : Wire). length a.nets ≤ x.number) made (w ∷ []) h.above (longer number, tt);
      apart = subst NoneTwice (sym (numbers_push made w)) (apart_push (numbers made) w.number h.apart (subst (λ n. Each (λ x. x ≢ n) (numbers made)) (sym number) (late_below b made h.each)));
      adds = adds_more [] [] a b c h.adds one;
      instances = ap (λ (d : Draft). d.instances) is ∙ h.instances;
      came = λ n low high. subst (λ ns. Among ns n) (sym (numbers_push made w)) (either n low (subst (λ k. n < k) long high) number (cases_lt n (length b.nets)));
    }
  where
    longer : w.number ≡ length b.nets → length a.nets ≤ w.number
    longer e = let l = extends_long a b h.adds.extends in omega arith

    either : (n : ℕ) → length a.nets ≤ n → n < length b.nets + 1 → w.number ≡ length b.nets → (n < length b.nets) ⊎ (length b.nets ≤ n) → Among (numbers made ++ w.number ∷ []) n
    either n low high number (inl lt) = among_front (numbers made) (w.number ∷ []) n (h.came n low lt)
    either n low high number (inr le) = let same : w.number ≡ n = omega arith in subst (λ k. Among (numbers made ++ w.number ∷ []) k) same (among_back (numbers made) (w.number ∷ []) w.number (inl refl))
