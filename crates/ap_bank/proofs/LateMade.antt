-- Fresh wires that are driven later, one after the other.
use Rattle.std.proofs.Common.{◌≡◌, ◌≢◌, ℕ, ◌+◌, ◌<◌, ◌≤◌, List, [], ◌∷◌, ◌++◌, length, refl, sym, ap, subst, ◌∙◌, arith, append-nil, inl, inr, length-append}
use Rattle.std.specs.Prelude.{◌⊎◌}
use Rattle.std.specs.List.{AllByRecursion as Each}
use Rattle.std.proofs.lemmas.Bool.{cases_lt}
use Rattle.ap_net.specs.declared.cell.Wire.{Wire}
use Rattle.ap_net.specs.declared.net.Role.TheVariants as role
use Rattle.ap_net.specs.Draft.{Draft, Extends, CanFresh, KeepsNew, next_wire, wire_count, with_fresh}
use Rattle.ap_net.specs.Late.{IsLate, StayLate}
use Rattle.ap_net.specs.Modules.{ports_among}
use Rattle.ap_net.specs.Names.{numbered}
use Rattle.ap_net.specs.Pending.{Among}
use Rattle.ap_net.specs.Ready.{numbers}
use Rattle.ap_net.specs.Wiring.{NoneTwice}
use Rattle.ap_net.proofs.Drafts.{ports_among-wire}
use Rattle.ap_net.proofs.Laws.{Extends-refl, Extends-trans}
use Rattle.ap_net.proofs.Lists.{All-from, All-join}
use Rattle.ap_net.proofs.Wired.{number-IsNet}
use Rattle.ap_bank.specs.LateNets.{DeclaresLate, IsLateWide}

fresh_extends : (d : Draft) (width : ℕ) → Extends d (with_fresh d width)
fresh_extends d width = record {
  name = refl;
  nets = (record { name = numbered (wire_count d.nets); width = width; role = role.Plain } ∷ [], refl);
  assigns = ([], sym (append-nil d.assigns));
  nexts = ([], sym (append-nil d.nexts));
  instances = ([], sym (append-nil d.instances));
}

pub extends_long : (a b : Draft) → Extends a b → length a.nets ≤ length b.nets
extends_long a b e = let l : length b.nets ≡ length a.nets + length e.nets.0 = ap length e.nets.1 ∙ length-append a.nets e.nets.0 in omega arith

pub late_none : (width : ℕ) (d : Draft) → CanFresh d → DeclaresLate 0 width [] d d
late_none width d fresh = record {
  many = refl;
  each = tt;
  apart = tt;
  extends = Extends-refl d;
  assigns = refl;
  nexts = refl;
  instances = refl;
  ports = refl;
  fresh = fresh;
  names = λ name other new. new;
  late = λ x h. h;
  came = λ n low high. absurd (omega arith);
  above = tt;
}

numbers_push : (ws : List Wire) (w : Wire) → numbers (ws ++ w ∷ []) ≡ numbers ws ++ w.number ∷ []
numbers_push [] w = refl
numbers_push (x ∷ ws) w = ap (λ l. x.number ∷ l) (numbers_push ws w)

apart_push : (xs : List ℕ) (n : ℕ) → NoneTwice xs → Each (λ x. x ≢ n) xs → NoneTwice (xs ++ n ∷ [])
apart_push [] n h other = (tt, tt)
apart_push (x ∷ xs) n h other = (All-join (λ o. o ≢ x) xs (n ∷ []) h.0 ((λ e. other.0 (sym e)), tt), apart_push xs n h.1 other.1)

below : (d : Draft) (width : ℕ) (ws : List Wire) → Each (IsLateWide d width) ws → Each (λ x. x ≢ length d.nets) (numbers ws)
below d width [] h = tt
below d width (w ∷ ws) h = ((λ e. let lt = number-IsNet d.nets w h.0.late.net in absurd (omega arith)), below d width ws h.1)

among_front : (xs ys : List ℕ) (n : ℕ) → Among xs n → Among (xs ++ ys) n
among_front [] ys n h = absurd h
among_front (x ∷ xs) ys n (inl e) = inl e
among_front (x ∷ xs) ys n (inr h) = inr (among_front xs ys n h)

among_last : (xs : List ℕ) (n : ℕ) → Among (xs ++ n ∷ []) n
among_last [] n = inl refl
among_last (x ∷ xs) n = inr (among_last xs n)

pub late_more : (count width : ℕ) (made : List Wire) (w : Wire) (a b c : Draft) → DeclaresLate count width made a b → c ≡ with_fresh b width → w ≡ next_wire b width → IsLate c w → StayLate b c → CanFresh c → KeepsNew b c
    → DeclaresLate (count + 1) width (made ++ w ∷ []) a c
late_more count width made w a b c h is wire late stay fresh names =
    let e : Extends b c = subst (Extends b) (sym is) (fresh_extends b width) in
    let l = length-append made (w ∷ []) in
    let m = h.many in
    let number : w.number ≡ length b.nets = ap (λ (x : Wire). x.number) wire in
    let long : length c.nets ≡ length b.nets + 1 = ap (λ (d : Draft). length d.nets) is ∙ length-append b.nets (record { name = numbered (wire_count b.nets); width = width; role = role.Plain } ∷ []) in
    record {
      many = omega arith;
      each = All-join (IsLateWide c width) made (w ∷ []) (All-from (IsLateWide b width) (IsLateWide c width) (λ x k. record { late = stay x k.late; wide = k.wide }) made h.each) (record { late = late; wide = ap (λ (x : Wire). x.width) wire }, tt);
      apart = subst NoneTwice (sym (numbers_push made w)) (apart_push (numbers made) w.number h.apart (subst (λ n. Each (λ x. x ≢ n) (numbers made)) (sym number) (below b width made h.each)));
      extends = Extends-trans a b c h.extends e;
      assigns = ap (λ (d : Draft). d.assigns) is ∙ h.assigns;
      nexts = ap (λ (d : Draft). d.nexts) is ∙ h.nexts;
      instances = ap (λ (d : Draft). d.instances) is ∙ h.instances;
      ports = ap (λ (d : Draft). ports_among d.nets) is ∙ ports_among-wire b.nets (numbered (wire_count b.nets)) width ∙ h.ports;
      fresh = fresh;
      names = λ name other new. names name other (h.names name other new);
      late = λ x k. stay x (h.late x k);
      came = λ n low high. subst (λ ns. Among ns n) (sym (numbers_push made w)) (either n low (subst (λ k. n < k) long high) number (cases_lt n (length b.nets)));
      above = All-join (λ (x : Wire). length a.nets ≤ x.number) made (w ∷ []) h.above (longer number, tt);
    }
  where
    longer : w.number ≡ length b.nets → length a.nets ≤ w.number
    longer e = let l = extends_long a b h.extends in omega arith

    either : (n : ℕ) → length a.nets ≤ n → n < length b.nets + 1 → w.number ≡ length b.nets → (n < length b.nets) ⊎ (length b.nets ≤ n) → Among (numbers made ++ w.number ∷ []) n
    either n low high number (inl lt) = among_front (numbers made) (w.number ∷ []) n (h.came n low lt)
    either n low high number (inr le) = let same : w.number ≡ n = omega arith in subst (λ k. Among (numbers made ++ w.number ∷ []) k) same (among_last (numbers made) w.number)
