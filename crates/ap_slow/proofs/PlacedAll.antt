-- Units that are placed, one after the other.
use Rattle.std.proofs.Common.{◌≡◌, ◌≢◌, ℕ, zero, suc, ◌+◌, ◌<◌, ◌≤◌, ◌&&◌, ◌||◌, Bool, true, false, if◌then◌else◌, List, [], ◌∷◌, ◌++◌, filter, flat_map, length, map, refl, sym, ap, subst, ◌∙◌, arith, inl, inr, append-nil, append_assoc, length-append}
use Rattle.std.specs.Prelude.{◌⊎◌, nat_lt, not, slice_get, Option, Some, None}
use Rattle.std.specs.Option.{option_map_or}
use Rattle.std.specs.List.{AllByRecursion as Each, list_all, list_any, range_with_len}
use Rattle.std.specs.Str.{bytes_eq}
use Rattle.std.proofs.lemmas.Bool.{and_parts, cases_lt, ltb-true}
use Rattle.ap_desc.specs.Clean.{IsClean}
use Rattle.ap_desc.specs.Parts.{file_names, format_names, input_names, mem_names, names_of_fields, reg_names, unit_names}
use Rattle.ap_desc.specs.Sound.{are_distinct, names_of_parts}
use Rattle.ap_desc.specs.declared.design.Design.{Design}
use Rattle.ap_desc.specs.declared.design.Format.{Format}
use Rattle.ap_desc.specs.declared.design.Instr.{Instr}
use Rattle.ap_desc.specs.declared.design.Unit.{Unit as Resource}
use Rattle.ap_image.proofs.PartLists.{bytes_same}
use Rattle.ap_net.specs.declared.cell.Wire.{Wire}
use Rattle.ap_net.specs.Draft.{Draft, CanFresh, Extends, names_of}
use Rattle.ap_net.specs.Late.{IsLate}
use Rattle.ap_net.specs.Modules.{ModuleText}
use Rattle.ap_net.specs.Names.{IsNew}
use Rattle.ap_net.specs.Pending.{Among}
use Rattle.ap_net.specs.Ready.{Dependence, ReadyAfter, numbers}
use Rattle.ap_net.specs.Wiring.{NoneTwice}
use Rattle.ap_net.proofs.Laws.{IsNotNumbered-other, ReadyAfter-Extends}
use Rattle.ap_net.proofs.Lists.{All-back, All-front, All-from, All-join}
use Rattle.ap_net.proofs.Wired.{number-IsNet}
use Rattle.ap_signals.specs.NetRuns.{unit_part}
use Rattle.ap_ctl.specs.Given.{is_slow_unit}
use Rattle.ap_slow.specs.declared.place.SlowPlaced.{SlowPlaced}
use Rattle.ap_slow.specs.Placed.{AddsParts, AreNewParts, IsOfUnit, IsPlaced, NeedAsSlow, PlacesOwn, PlacesUnit, PlacesUnits, StandsAt, late_nets, part_name, port_nets}
use Rattle.ap_slow.proofs.Lates.{adds_more, adds_none, among_back, among_front, extends_long}
use Rattle.ap_slow.proofs.PlacedOne.{stands_later}

-- Lists of numbers.

numbers_append : (xs ys : List Wire) → numbers (xs ++ ys) ≡ numbers xs ++ numbers ys
numbers_append [] ys = refl
numbers_append (x ∷ xs) ys = ap (λ l. x.number ∷ l) (numbers_append xs ys)

flat_push : (made : List SlowPlaced) (x : SlowPlaced) → flat_map late_nets (made ++ x ∷ []) ≡ flat_map late_nets made ++ late_nets x
flat_push [] x = refl
flat_push (y ∷ made) x = ap (λ l. y.inputs.sel ∷ y.inputs.a ∷ y.inputs.b ∷ y.inputs.go ∷ y.inputs.adv ∷ l) (flat_push made x)

ports_push : (made : List SlowPlaced) (x : SlowPlaced) → flat_map port_nets (made ++ x ∷ []) ≡ flat_map port_nets made ++ port_nets x
ports_push [] x = refl
ports_push (y ∷ made) x = ap (λ l. port_nets y ++ l) (ports_push made x)

units_push : (made : List SlowPlaced) (x : SlowPlaced) → map (λ (y : SlowPlaced). y.unit) (made ++ x ∷ []) ≡ map (λ (y : SlowPlaced). y.unit) made ++ x.unit ∷ []
units_push [] x = refl
units_push (y ∷ made) x = ap (λ l. y.unit ∷ l) (units_push made x)

parts_push : (design : Design) (units : List ℕ) (n : ℕ) → map (part_name design) (units ++ n ∷ []) ≡ map (part_name design) units ++ part_name design n ∷ []
parts_push design [] n = refl
parts_push design (u ∷ units) n = ap (λ l. part_name design u ∷ l) (parts_push design units n)

others : (n k : ℕ) (ys : List Wire) → n < k → Each (λ (w : Wire). k ≤ w.number) ys → Each (λ y. y ≢ n) (numbers ys)
others n k [] lt h = tt
others n k (y ∷ ys) lt h = ((λ e. let le = h.0 in absurd (omega arith)), others n k ys lt h.1)

apart_join : (d : Draft) (xs ys : List Wire) → Each (IsLate d) xs → Each (λ (w : Wire). length d.nets ≤ w.number) ys → NoneTwice (numbers xs) → NoneTwice (numbers ys) → NoneTwice (numbers xs ++ numbers ys)
apart_join d [] ys h k p q = q
apart_join d (x ∷ xs) ys h k p q = (All-join (λ o. o ≢ x.number) (numbers xs) (numbers ys) p.0 (others x.number (length d.nets) ys (number-IsNet d.nets x h.0.net) k), apart_join d xs ys h.1 k p.1 q)

-- One more.

pub placed_none : (design : Design) (modules : List ModuleText) (places : List ℕ) (d : Draft) → CanFresh d → PlacesUnits design modules places [] [] d d
placed_none design modules places d fresh = record {
  are = refl;
  each = tt;
  late = tt;
  above = tt;
  apart = tt;
  adds = adds_none d fresh;
  parts = [];
  instances = sym (append-nil d.instances);
  own = tt;
  count = refl;
  nets = λ n low high. absurd (omega arith);
  came = λ by needs n low high. absurd (omega arith);
}

module _ (design : Design) (modules : List ModuleText) (places : List ℕ) where
  placed_later : (a b : Draft) (x : SlowPlaced) → Extends a b → IsPlaced design modules places a x → IsPlaced design modules places b x
  placed_later a b x e h = record { resource = h.resource; at = h.at; slow = h.slow; whole = h.whole; there = h.there; stands = stands_later a b h.resource h.whole x e h.stands }

  pub placed_push : (units : List ℕ) (made : List SlowPlaced) (x : SlowPlaced) (n : ℕ) (u : Resource) (whole : ModuleText) (a b c : Draft) → PlacesUnits design modules places units made a b → x.unit ≡ n → slice_get design.units n ≡ Some u → 1 < u.latency
      → StandsAt modules places n whole → PlacesUnit u whole x b c → PlacesUnits design modules places (units ++ n ∷ []) (made ++ x ∷ []) a c
  placed_push units made x n u whole a b c h same at slow there p =
      let old : List Wire = flat_map late_nets made in
      let longer = extends_long a b h.adds.extends in
      let l = length-append made (x ∷ []) in
      let part : unit_part u ≡ part_name design n = sym (ap (λ (o : Option Resource). option_map_or unit_part o []) at) in
      record {
        are = units_push made x ∙ ap (λ l. l ++ x.unit ∷ []) h.are ∙ ap (λ m. units ++ m ∷ []) same;
        each = All-join (IsPlaced design modules places c) made (x ∷ []) (All-from (IsPlaced design modules places b) (IsPlaced design modules places c) (λ y k. placed_later b c y p.adds.extends k) made h.each)
            (record { resource = u; at = ap (slice_get design.units) same ∙ at; slow = slow; whole = whole; there = subst (λ m. StandsAt modules places m whole) (sym same) there; stands = p.stands }, tt);
        late = subst (Each (IsLate c)) (sym (flat_push made x)) (All-join (IsLate c) old (late_nets x) (All-from (IsLate b) (IsLate c) p.adds.late old h.late) p.late);
        above = subst (Each (λ (w : Wire). length a.nets ≤ w.number)) (sym (flat_push made x)) (All-join (λ (w : Wire). length a.nets ≤ w.number) old (late_nets x) h.above
            (All-from (λ (w : Wire). length b.nets ≤ w.number) (λ (w : Wire). length a.nets ≤ w.number) (λ w le. omega arith) (late_nets x) p.above));
        apart = subst NoneTwice (sym (all_numbers made x)) (apart_join b old (late_nets x) h.late p.above h.apart p.apart);
        adds = subst (λ l. AddsParts l a c) (sym (parts_push design units n))
            (adds_more (map (part_name design) units) (part_name design n ∷ []) a b c h.adds (subst (λ name. AddsParts (name ∷ []) b c) part p.adds));
        parts = h.parts ++ (p.stands).of ∷ [];
        instances = p.instances ∙ ap (λ k. k ++ (p.stands).of ∷ []) h.instances ∙ append_assoc a.instances h.parts ((p.stands).of ∷ []);
        own = All-join (IsOfUnit design modules places) h.parts ((p.stands).of ∷ []) h.own (record { unit = n; resource = u; at = at; slow = slow; whole = whole; there = there; connects = (p.stands).connects }, tt);
        count = length-append h.parts ((p.stands).of ∷ []) ∙ ap (λ k. k + 1) h.count ∙ sym l;
        nets = λ m low high. subst (λ k. Among k m) (sym (all_ports made x)) (own_net m low high (cases_lt m (length b.nets)));
        came = λ by needs m low high. subst (λ l. Among l m ⊎ ReadyAfter by c l m) (sym (all_numbers made x)) (either by needs m low high (cases_lt m (length b.nets)));
      }
    where
      all_numbers : (made : List SlowPlaced) (x : SlowPlaced) → numbers (flat_map late_nets (made ++ x ∷ [])) ≡ numbers (flat_map late_nets made) ++ numbers (late_nets x)
      all_numbers made x = ap numbers (flat_push made x) ∙ numbers_append (flat_map late_nets made) (late_nets x)

      all_ports : (made : List SlowPlaced) (x : SlowPlaced) → numbers (flat_map port_nets (made ++ x ∷ [])) ≡ numbers (flat_map port_nets made) ++ numbers (port_nets x)
      all_ports made x = ap numbers (ports_push made x) ∙ numbers_append (flat_map port_nets made) (port_nets x)

      own_net : (m : ℕ) → length a.nets ≤ m → m < length c.nets → (m < length b.nets) ⊎ (length b.nets ≤ m) → Among (numbers (flat_map port_nets made) ++ numbers (port_nets x)) m
      own_net m low high (inl lt) = among_front (numbers (flat_map port_nets made)) (numbers (port_nets x)) m (h.nets m low lt)
      own_net m low high (inr le) = among_back (numbers (flat_map port_nets made)) (numbers (port_nets x)) m (p.nets m le high)

      first : (by : Dependence) (m : ℕ) → Among (numbers (flat_map late_nets made)) m ⊎ ReadyAfter by b (numbers (flat_map late_nets made)) m
          → Among (numbers (flat_map late_nets made) ++ numbers (late_nets x)) m ⊎ ReadyAfter by c (numbers (flat_map late_nets made) ++ numbers (late_nets x)) m
      first by m (inl k) = inl (among_front (numbers (flat_map late_nets made)) (numbers (late_nets x)) m k)
      first by m (inr k) = inr (λ later g each. ReadyAfter-Extends by b c (numbers (flat_map late_nets made)) m p.adds.extends k later g (All-front _ (numbers (flat_map late_nets made)) (numbers (late_nets x)) each))

      second : (by : Dependence) (m : ℕ) → Among (numbers (late_nets x)) m ⊎ ReadyAfter by c (numbers (late_nets x)) m
          → Among (numbers (flat_map late_nets made) ++ numbers (late_nets x)) m ⊎ ReadyAfter by c (numbers (flat_map late_nets made) ++ numbers (late_nets x)) m
      second by m (inl k) = inl (among_back (numbers (flat_map late_nets made)) (numbers (late_nets x)) m k)
      second by m (inr k) = inr (λ later g each. k later g (All-back _ (numbers (flat_map late_nets made)) (numbers (late_nets x)) each))

      either : (by : Dependence) → NeedAsSlow design modules places by → (m : ℕ) → length a.nets ≤ m → m < length c.nets → (m < length b.nets) ⊎ (length b.nets ≤ m)
          → Among (numbers (flat_map late_nets made) ++ numbers (late_nets x)) m ⊎ ReadyAfter by c (numbers (flat_map late_nets made) ++ numbers (late_nets x)) m
      either by needs m low high (inl lt) = first by m (h.came by needs m low lt)
      either by needs m low high (inr le) = second by m (p.came by (needs n u whole at slow there) m le high)

-- The numbers of units so far.

cons_append : (b : Bool) (x : ℕ) (xs ys : List ℕ) → (if b then x ∷ xs ++ ys else xs ++ ys) ≡ (if b then x ∷ xs else xs) ++ ys
cons_append true x xs ys = refl
cons_append false x xs ys = refl

filter_last : (p : ℕ → Bool) (low k m : ℕ) → m ≡ low + k → filter p (range_with_len low (suc k)) ≡ filter p (range_with_len low k) ++ (if p m then m ∷ [] else [])
filter_last p low zero m e = let same : low ≡ m = omega arith in ap (λ n. if p n then n ∷ [] else []) same
filter_last p low (suc k) m e =
    ap (λ l. if p low then low ∷ l else l) (filter_last p (low + 1) k m (omega arith))
    ∙ cons_append (p low) low (filter p (range_with_len (low + 1) k)) (if p m then m ∷ [] else [])

abbrev pub slow_before : Design → ℕ → List ℕ
slow_before design n = filter (is_slow_unit design) (range_with_len 0 n)

pub slow_more : (design : Design) (n : ℕ) → slow_before design (n + 1) ≡ slow_before design n ++ (if is_slow_unit design n then n ∷ [] else [])
slow_more design n = let more : n + 1 ≡ suc n = omega arith in ap (slow_before design) more ∙ filter_last (is_slow_unit design) 0 n n (omega arith)

-- The names of units differ.

distinct_back : (xs ys : List (List ℕ)) → are_distinct (xs ++ ys) ≡ true → are_distinct ys ≡ true
distinct_back [] ys h = h
distinct_back (x ∷ xs) ys h = distinct_back xs ys (and_parts (not (list_any (bytes_eq x) (xs ++ ys))) (are_distinct (xs ++ ys)) h).1

unit_names_apart : (design : Design) → IsClean design → are_distinct (unit_names design) ≡ true
unit_names_apart design clean =
    let fields = list_all (λ (f : Format). are_distinct (names_of_fields f.fields)) design.formats in
    let instrs = are_distinct (map (λ (i : Instr). i.name) design.instrs) in
    let a = and_parts (are_distinct (names_of_parts design) && are_distinct (format_names design) && instrs) fields clean.sound.once in
    let b = and_parts (are_distinct (names_of_parts design) && are_distinct (format_names design)) instrs a.0 in
    let c = and_parts (are_distinct (names_of_parts design)) (are_distinct (format_names design)) b.0 in
    distinct_back (reg_names design ++ file_names design ++ mem_names design ++ input_names design) (unit_names design) c.0

named_at : (name : List ℕ) (units : List Resource) (j : ℕ) (v : Resource) → slice_get units j ≡ Some v → name ≡ v.name → list_any (bytes_eq name) (map (λ (u : Resource). u.name) units) ≡ true
named_at name [] j v at e = cc
named_at name (u ∷ units) zero v at e =
    let same : u ≡ v = cc in
    let it : bytes_eq name u.name ≡ true = bytes_same name u.name (e ∙ ap (λ (x : Resource). x.name) (sym same)) in
    ap (λ b. b || list_any (bytes_eq name) (map (λ (x : Resource). x.name) units)) it
named_at name (u ∷ units) (suc j) v at e = either (bytes_eq name u.name) _ (named_at name units j v at e)
  where
    either : (a b : Bool) → b ≡ true → (a || b) ≡ true
    either true b h = refl
    either false b h = h

not_both : (b : Bool) → not b ≡ true → b ≡ true → ⊥
not_both true h k = cc
not_both false h k = cc

units_differ : (units : List Resource) → are_distinct (map (λ (u : Resource). u.name) units) ≡ true → (i j : ℕ) (u v : Resource) → slice_get units i ≡ Some u → slice_get units j ≡ Some v → i < j → u.name ≡ v.name → ⊥
units_differ [] h i j u v at there lt e = cc
units_differ (x ∷ units) h zero zero u v at there lt e = absurd (omega arith)
units_differ (x ∷ units) h zero (suc j) u v at there lt e =
    let rest : List (List ℕ) = map (λ (y : Resource). y.name) units in
    let same : x ≡ u = cc in
    not_both (list_any (bytes_eq x.name) rest) (and_parts (not (list_any (bytes_eq x.name) rest)) (are_distinct rest) h).0 (named_at x.name units j v there (ap (λ (y : Resource). y.name) same ∙ e))
units_differ (x ∷ units) h (suc i) zero u v at there lt e = absurd (omega arith)
units_differ (x ∷ units) h (suc i) (suc j) u v at there lt e =
    let rest : List (List ℕ) = map (λ (y : Resource). y.name) units in
    units_differ units (and_parts (not (list_any (bytes_eq x.name) rest)) (are_distinct rest) h).1 i j u v at there (omega arith) e

part_differs : (design : Design) → IsClean design → (k n : ℕ) (u : Resource) → slice_get design.units n ≡ Some u → k < n → part_name design k ≢ unit_part u
part_differs design clean k n u at lt = go (slice_get design.units k) refl
  where
    go : (o : Option Resource) → slice_get design.units k ≡ o → option_map_or unit_part (slice_get design.units k) [] ≢ unit_part u
    go None e c = let clash : [] ≡ unit_part u = sym (ap (λ (o : Option Resource). option_map_or unit_part o []) e) ∙ c in cc
    go (Some v) e c =
        let same : unit_part v ≡ unit_part u = sym (ap (λ (o : Option Resource). option_map_or unit_part o []) e) ∙ c in
        let names : v.name ≡ u.name = cc in
        units_differ design.units (unit_names_apart design clean) k n v u e at lt names

parts_differ : (design : Design) → IsClean design → (n : ℕ) (u : Resource) → slice_get design.units n ≡ Some u → (low k : ℕ) → low + k ≤ n → Each (λ part. part ≢ unit_part u) (map (part_name design) (filter (is_slow_unit design) (range_with_len low k)))
parts_differ design clean n u at low zero le = tt
parts_differ design clean n u at low (suc k) le = pick (is_slow_unit design low) (parts_differ design clean n u at (low + 1) k (omega arith))
  where
    pick : (b : Bool) → Each (λ part. part ≢ unit_part u) (map (part_name design) (filter (is_slow_unit design) (range_with_len (low + 1) k)))
        → Each (λ part. part ≢ unit_part u) (map (part_name design) (if b then low ∷ filter (is_slow_unit design) (range_with_len (low + 1) k) else filter (is_slow_unit design) (range_with_len (low + 1) k)))
    pick true h = (part_differs design clean low n u at (omega arith), h)
    pick false h = h

pub name_new : (design : Design) (modules : List ModuleText) (places : List ℕ) (made : List SlowPlaced) (n : ℕ) (u : Resource) (a b : Draft) → IsClean design → PlacesUnits design modules places (slow_before design n) made a b → AreNewParts design a
    → slice_get design.units n ≡ Some u → IsNew (unit_part u) (names_of b)
name_new design modules places made n u a b clean h new at = h.adds.names (unit_part u) (IsNotNumbered-other (unit_part u) refl) (parts_differ design clean n u at 0 n (omega arith)) (new n u at)

-- One step of the loop.

slow_is : (design : Design) (n : ℕ) (u : Resource) → slice_get design.units n ≡ Some u → is_slow_unit design n ≡ nat_lt 1 u.latency
slow_is design n u at = ap (λ (o : Option Resource). nat_lt 1 (option_map_or (λ (x : Resource). x.latency) o 0)) at

none_after : (xs : List ℕ) → xs ++ [] ≡ xs
none_after [] = refl
none_after (x ∷ xs) = ap (λ l. x ∷ l) (none_after xs)

pub more_placed : (design : Design) (modules : List ModuleText) (places : List ℕ) (made : List SlowPlaced) (x : SlowPlaced) (n : ℕ) (u : Resource) (a b c : Draft) → PlacesUnits design modules places (slow_before design n) made a b → x.unit ≡ n
    → slice_get design.units n ≡ Some u → nat_lt 1 u.latency ≡ true → PlacesOwn modules places n u x b c → PlacesUnits design modules places (slow_before design (n + 1)) (made ++ x ∷ []) a c
more_placed design modules places made x n u a b c h same at slow p =
    let next : slow_before design (n + 1) ≡ slow_before design n ++ n ∷ [] = slow_more design n ∙ ap (λ s. slow_before design n ++ (if s then n ∷ [] else [])) (slow_is design n u at ∙ slow) in
    subst (λ units. PlacesUnits design modules places units (made ++ x ∷ []) a c) (sym next)
    (placed_push design modules places (slow_before design n) made x n u p.whole a b c h same at (ltb-true 1 u.latency slow) p.stands p.placed)

pub more_kept : (design : Design) (modules : List ModuleText) (places : List ℕ) (made : List SlowPlaced) (n : ℕ) (u : Resource) (a b : Draft) → PlacesUnits design modules places (slow_before design n) made a b → slice_get design.units n ≡ Some u
    → nat_lt 1 u.latency ≡ false → PlacesUnits design modules places (slow_before design (n + 1)) made a b
more_kept design modules places made n u a b h at quick =
    let next : slow_before design (n + 1) ≡ slow_before design n = slow_more design n ∙ ap (λ s. slow_before design n ++ (if s then n ∷ [] else [])) (slow_is design n u at ∙ quick) ∙ none_after (slow_before design n) in
    subst (λ units. PlacesUnits design modules places units made a b) (sym next) h
