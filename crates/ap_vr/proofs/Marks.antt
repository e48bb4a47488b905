-- Which nets are driven, in a list by their numbers, as far as loops have come.
use Rattle.std.proofs.Common.{◌≡◌, ◌⊎◌, ℕ, zero, suc, ◌+◌, ◌<◌, ◌≤◌, ◌||◌, ◌&&◌, not, Bool, true, false, cond, List, [], ◌∷◌, ◌++◌, length, map, set, drop, get_or, Option, Some, None, inl, inr, refl, sym, ap, subst, ◌∙◌, arith}
use Rattle.std.specs.Option.{option_or, unwrap_or}
use Rattle.std.specs.Prelude.{if◌then◌else◌, position, slice_get}
use Rattle.std.specs.Str.{bytes_eq}
use Rattle.std.proofs.Math.Path.{fun_ext}
use Rattle.std.proofs.lemmas.Bool.{cases_eq, eq-eqb, ne_eqb}
use Rattle.std.proofs.lemmas.List.Quantifiers.{position-Some}
use Rattle.std.proofs.lemmas.List.{at_drop_all, drop_more, get_or-set_other, get_or-set_same, get_or_default}
use Rattle.ap_vr.specs.declared.line.Connection.{Connection}
use Rattle.ap_vr.specs.declared.nets.NetForm.{NetForm}
use Rattle.ap_vr.specs.declared.nets.Nets.{Nets}
use Rattle.ap_net.specs.declared.net.Port.{Port}
use Rattle.ap_vr.specs.Driving.{also, also_all, drives_wrongly, driven_after, first_undriven, first_wrong, may_drive, needs_driver, none_driven, port_drives, ports_drive}
use Rattle.ap_vr.specs.Marks.{AreNumbered, marks}
use Rattle.ap_vr.specs.Nets.{form_at, number_of}
use Rattle.ap_vr.proofs.NameTables.{or_none, or_some}

-- one more net
mark_at : (marked : List Bool) (n k : ℕ) → n < length marked → marks (set marked n true) k ≡ also (marks marked) n k
mark_at marked n k lt = by_case (cases_eq k n) where
  or_true : (a : Bool) → (a || true) ≡ true
  or_true true = refl
  or_true false = refl

  or_false : (a : Bool) → (a || false) ≡ a
  or_false true = refl
  or_false false = refl

  by_case : (k ≡ n) ⊎ (k ≡ n → ⊥) → marks (set marked n true) k ≡ also (marks marked) n k
  by_case (inl e) =
      ap (λ j. get_or (set marked n true) j false) e ∙ get_or-set_same marked n true false lt
      ∙ sym (ap (λ b. get_or marked k false || b) (eq-eqb k n e) ∙ or_true (get_or marked k false))
  by_case (inr ne) =
      get_or-set_other marked n k true false ne
      ∙ sym (ap (λ b. get_or marked k false || b) (ne_eqb k n ne) ∙ or_false (get_or marked k false))

pub marks_set : (marked : List Bool) (n : ℕ) → n < length marked → marks (set marked n true) ≡ also (marks marked) n
marks_set marked n lt = fun_ext (λ k. mark_at marked n k lt)

-- what a read of a mark gives
pub mark_read : (marked : List Bool) (n : ℕ) (b : Bool) → n < length marked → b ≡ get_or marked n b → b ≡ marks marked n
mark_read marked n b lt at = at ∙ get_or_default marked n b false lt

-- no marks yet
no_mark : (marked : List Bool) (k : ℕ) → ((j : ℕ) → get_or marked j false ≡ false) → get_or (marked ++ false ∷ []) k false ≡ false
no_mark [] zero h = refl
no_mark [] (suc k) h = refl
no_mark (b ∷ marked) zero h = h 0
no_mark (b ∷ marked) (suc k) h = no_mark marked k (λ j. h (suc j))

pub marks_none : (marked : List Bool) → marks marked ≡ none_driven → marks (marked ++ false ∷ []) ≡ none_driven
marks_none marked e = fun_ext (λ k. no_mark marked k (λ j. ap (λ (f : ℕ → Bool). f j) e))

-- a line that drives one net
pub drives_one : (forms : List NetForm) (clocked : Bool) (driven : ℕ → Bool) (n : ℕ) (free may right : Bool) → free ≡ not (driven n) → may ≡ may_drive clocked (form_at forms n).role → right ≡ (free && may) → right ≡ not (drives_wrongly forms clocked driven (n ∷ []))
drives_one forms clocked driven n free may right f m r =
    r ∙ ap (λ b. b && may) f ∙ ap (λ b. not (driven n) && b) m ∙ by (driven n) (may_drive clocked (form_at forms n).role)
  where
    by : (d a : Bool) → (not d && a) ≡ not ((d || not a) || false)
    by true a = refl
    by false true = refl
    by false false = refl

-- What a loop has done that drives the nets of lines from one on: what is left gives the marks, and the first wrong line.
pub record DrivenSoFar {X : Type 0} (drives : X → List ℕ) (forms : List NetForm) (clocked : Bool) (from : ℕ) (xs : List X) (old now : List Bool) (first : Option ℕ) (i : ℕ) : Type 0 where
  pub goes : driven_after (marks now) (map drives (drop i xs)) ≡ driven_after (marks old) (map drives xs)
  pub finds : option_or first (first_wrong forms clocked (marks now) (from + i) (map drives (drop i xs))) ≡ first_wrong forms clocked (marks old) from (map drives xs)
  pub long : length now ≡ length old

wrong_here : (forms : List NetForm) (clocked : Bool) (driven : ℕ → Bool) (line : ℕ) (numbers : List ℕ) (more : List (List ℕ)) (b : Bool) → drives_wrongly forms clocked driven numbers ≡ b
    → first_wrong forms clocked driven line (numbers ∷ more) ≡ cond b (Some line) (first_wrong forms clocked (also_all driven numbers) (line + 1) more)
wrong_here forms clocked driven line numbers more b e = ap (λ b. cond b (Some line) (first_wrong forms clocked (also_all driven numbers) (line + 1) more)) e

module _ {X : Type 0} (drives : X → List ℕ) (forms : List NetForm) (clocked : Bool) (from : ℕ) (xs : List X) (old : List Bool) where
  pub driven_begins : DrivenSoFar drives forms clocked from xs old old None 0
  driven_begins = record {
    goes = refl;
    finds = ap (λ n. first_wrong forms clocked (marks old) n (map drives xs)) (let z : from + 0 ≡ from = omega arith in z);
    long = refl;
  }

  -- one line more
  pub driven_more : (now new : List Bool) (first next : Option ℕ) (i : ℕ) (x : X) (numbers : List ℕ) (right : Bool) (line : ℕ) → DrivenSoFar drives forms clocked from xs old now first i → i < length xs → x ≡ get_or xs i x → numbers ≡ drives x
      → right ≡ not (drives_wrongly forms clocked (marks now) numbers) → marks new ≡ also_all (marks now) numbers → length new ≡ length now → line ≡ from + i → next ≡ option_or first (if right then None else Some line)
      → DrivenSoFar drives forms clocked from xs old new next (i + 1)
  driven_more now new first next i x numbers right line far lt at same is grown long place noted = go (drives_wrongly forms clocked (marks now) (drives x)) refl where
    cut : drop i xs ≡ x ∷ drop (i + 1) xs
    cut = drop_more xs i x lt ∙ ap (λ y. y ∷ drop (i + 1) xs) (sym at)

    grows : marks new ≡ also_all (marks now) (drives x)
    grows = grown ∙ ap (also_all (marks now)) same

    after : from + (i + 1) ≡ (from + i) + 1
    after = omega arith

    driven : driven_after (marks new) (map drives (drop (i + 1) xs)) ≡ driven_after (marks old) (map drives xs)
    driven = ap (λ (d : ℕ → Bool). driven_after d (map drives (drop (i + 1) xs))) grows ∙ sym (ap (λ l. driven_after (marks now) (map drives l)) cut) ∙ far.goes

    was : option_or first (first_wrong forms clocked (marks now) (from + i) (drives x ∷ map drives (drop (i + 1) xs))) ≡ first_wrong forms clocked (marks old) from (map drives xs)
    was = ap (λ l. option_or first (first_wrong forms clocked (marks now) (from + i) (map drives l))) (sym cut) ∙ far.finds

    here : (b : Bool) → drives_wrongly forms clocked (marks now) (drives x) ≡ b → next ≡ option_or first (cond (not b) None (Some (from + i)))
    here b e =
        noted ∙ ap (λ c. option_or first (cond c None (Some line))) (is ∙ ap (λ ns. not (drives_wrongly forms clocked (marks now) ns)) same ∙ ap not e) ∙ ap (λ n. option_or first (cond (not b) None (Some n))) place

    go : (b : Bool) → drives_wrongly forms clocked (marks now) (drives x) ≡ b → DrivenSoFar drives forms clocked from xs old new next (i + 1)
    go true e = record {
      goes = driven;
      finds =
          ap (λ o. option_or o (first_wrong forms clocked (marks new) (from + (i + 1)) (map drives (drop (i + 1) xs)))) (here true e)
          ∙ or_some first (from + i) (first_wrong forms clocked (marks new) (from + (i + 1)) (map drives (drop (i + 1) xs)))
          ∙ sym (ap (option_or first) (wrong_here forms clocked (marks now) (from + i) (drives x) (map drives (drop (i + 1) xs)) true e)) ∙ was;
      long = long ∙ far.long;
    }
    go false e = record {
      goes = driven;
      finds =
          ap (λ o. option_or o (first_wrong forms clocked (marks new) (from + (i + 1)) (map drives (drop (i + 1) xs)))) (here false e ∙ or_none first)
          ∙ ap (λ (d : ℕ → Bool). option_or first (first_wrong forms clocked d (from + (i + 1)) (map drives (drop (i + 1) xs)))) grows
          ∙ ap (λ n. option_or first (first_wrong forms clocked (also_all (marks now) (drives x)) n (map drives (drop (i + 1) xs)))) after
          ∙ sym (ap (option_or first) (wrong_here forms clocked (marks now) (from + i) (drives x) (map drives (drop (i + 1) xs)) false e)) ∙ was;
      long = long ∙ far.long;
    }

  -- all lines
  pub driven_all : (now : List Bool) (first : Option ℕ) (i : ℕ) → DrivenSoFar drives forms clocked from xs old now first i → length xs ≤ i → marks now ≡ driven_after (marks old) (map drives xs)
  driven_all now first i far le = sym (at_drop_all (λ l. driven_after (marks now) (map drives l)) xs i le) ∙ far.goes

  pub driven_first : (now : List Bool) (first : Option ℕ) (i : ℕ) → DrivenSoFar drives forms clocked from xs old now first i → length xs ≤ i → first ≡ first_wrong forms clocked (marks old) from (map drives xs)
  driven_first now first i far le =
      sym (or_none first) ∙ sym (ap (option_or first) (at_drop_all (λ l. first_wrong forms clocked (marks now) (from + i) (map drives l)) xs i le)) ∙ far.finds

-- as many marks as there were
pub numbered_still : (nets : Nets) (old new : List Bool) → AreNumbered nets old → length new ≡ length old → AreNumbered nets new
numbered_still nets old new h e = record { names = h.names ∙ sym e; forms = h.forms ∙ sym e; some = subst (λ n. 0 < n) (sym e) h.some }

-- the number of a name is that of a mark
pub number_within : (nets : Nets) (old now : List Bool) (name : List ℕ) (n : ℕ) → AreNumbered nets old → length now ≡ length old → n ≡ number_of nets.names name → n < length now
number_within nets old now name n h e is = go (position (bytes_eq name) nets.names) refl where
  go : (o : Option ℕ) → position (bytes_eq name) nets.names ≡ o → n < length now
  go None at = let here : n ≡ 0 = is ∙ ap (λ p. unwrap_or p 0) at in omega (arith, here, e, h.some)
  go (Some k) at =
      let here : n ≡ k = is ∙ ap (λ p. unwrap_or p 0) at in
      let low : k < length nets.names = (position-Some (bytes_eq name) nets.names k [] at).0 in
      omega (arith, here, low, e, h.names)

-- The ports of an instance as far as a loop has come.
also_append : (driven : ℕ → Bool) (xs ys : List ℕ) → also_all driven (xs ++ ys) ≡ also_all (also_all driven xs) ys
also_append driven [] ys = refl
also_append driven (x ∷ xs) ys = also_append (also driven x) xs ys

or_assoc : (a b c : Bool) → ((a || b) || c) ≡ (a || (b || c))
or_assoc true b c = refl
or_assoc false b c = refl

wrongly_append : (forms : List NetForm) (clocked : Bool) (driven : ℕ → Bool) (xs ys : List ℕ) → drives_wrongly forms clocked driven (xs ++ ys) ≡ (drives_wrongly forms clocked driven xs || drives_wrongly forms clocked (also_all driven xs) ys)
wrongly_append forms clocked driven [] ys = refl
wrongly_append forms clocked driven (x ∷ xs) ys =
    ap (λ b. (driven x || not (may_drive clocked (form_at forms x).role)) || b) (wrongly_append forms clocked (also driven x) xs ys)
    ∙ sym (or_assoc (driven x || not (may_drive clocked (form_at forms x).role)) (drives_wrongly forms clocked (also driven x) xs) (drives_wrongly forms clocked (also_all (also driven x) xs) ys))

nothing_drives : (number : List ℕ → ℕ) (ports : List Port) → ports_drive number ports [] ≡ []
nothing_drives number [] = refl
nothing_drives number (p ∷ ports) = refl

ports_cut : (number : List ℕ → ℕ) (ports : List Port) (connections : List Connection) (i : ℕ) (p : Port) → i < length ports → p ≡ get_or ports i p
    → ports_drive number (drop i ports) (drop i connections) ≡ port_drives number p (slice_get connections i) ++ ports_drive number (drop (i + 1) ports) (drop (i + 1) connections)
ports_cut number [] connections i p lt at = absurd (omega arith)
ports_cut number (q ∷ ports) [] zero p lt at = sym (nothing_drives number ports)
ports_cut number (q ∷ ports) (c ∷ connections) zero p lt at = ap (λ x. port_drives number x (Some c) ++ ports_drive number ports connections) (sym at)
ports_cut number (q ∷ ports) [] (suc i) p lt at =
    let up : suc (i + 1) ≡ suc i + 1 = omega arith in
    nothing_drives number (drop i ports) ∙ sym (nothing_drives number (drop (i + 1) ports)) ∙ ap (λ n. ports_drive number (drop n (q ∷ ports)) (drop n [])) up
ports_cut number (q ∷ ports) (c ∷ connections) (suc i) p lt at =
    let up : suc (i + 1) ≡ suc i + 1 = omega arith in
    ports_cut number ports connections i p (omega arith) at ∙ ap (λ n. port_drives number p (slice_get connections i) ++ ports_drive number (drop n (q ∷ ports)) (drop n (c ∷ connections))) up

pub record PortsSoFar (number : List ℕ → ℕ) (forms : List NetForm) (ports : List Port) (connections : List Connection) (old now : List Bool) (right : Bool) (i : ℕ) : Type 0 where
  pub goes : also_all (marks now) (ports_drive number (drop i ports) (drop i connections)) ≡ also_all (marks old) (ports_drive number ports connections)
  pub rightly : (right && not (drives_wrongly forms false (marks now) (ports_drive number (drop i ports) (drop i connections)))) ≡ not (drives_wrongly forms false (marks old) (ports_drive number ports connections))
  pub long : length now ≡ length old

module _ (number : List ℕ → ℕ) (forms : List NetForm) (ports : List Port) (connections : List Connection) (old : List Bool) where
  pub ports_begin : PortsSoFar number forms ports connections old old true 0
  ports_begin = record { goes = refl; rightly = refl; long = refl }

  and_not_or : (r a b h : Bool) → h ≡ not a → (r && not (a || b)) ≡ ((r && h) && not b)
  and_not_or true true b h e = sym (ap (λ x. x && not b) e)
  and_not_or true false b h e = sym (ap (λ x. x && not b) e)
  and_not_or false a b h e = refl

  pub ports_more : (now new : List Bool) (right next here : Bool) (i : ℕ) (p : Port) (c : Option Connection) → PortsSoFar number forms ports connections old now right i → i < length ports → p ≡ get_or ports i p → c ≡ slice_get connections i
      → here ≡ not (drives_wrongly forms false (marks now) (port_drives number p c)) → marks new ≡ also_all (marks now) (port_drives number p c) → length new ≡ length now → next ≡ (right && here)
      → PortsSoFar number forms ports connections old new next (i + 1)
  ports_more now new right next here i p c far lt at got is grown long both = record {
    goes =
        ap (λ (d : ℕ → Bool). also_all d (ports_drive number (drop (i + 1) ports) (drop (i + 1) connections))) grown
        ∙ sym (also_append (marks now) (port_drives number p c) (ports_drive number (drop (i + 1) ports) (drop (i + 1) connections)))
        ∙ sym (ap (also_all (marks now)) cut) ∙ far.goes;
    rightly =
        ap (λ b. b && not (drives_wrongly forms false (marks new) (ports_drive number (drop (i + 1) ports) (drop (i + 1) connections)))) both
        ∙ ap (λ (d : ℕ → Bool). (right && here) && not (drives_wrongly forms false d (ports_drive number (drop (i + 1) ports) (drop (i + 1) connections)))) grown
        ∙ sym (and_not_or right (drives_wrongly forms false (marks now) (port_drives number p c)) (drives_wrongly forms false (also_all (marks now) (port_drives number p c)) (ports_drive number (drop (i + 1) ports) (drop (i + 1) connections))) here is)
        ∙ sym (ap (λ b. right && not b) (wrongly_append forms false (marks now) (port_drives number p c) (ports_drive number (drop (i + 1) ports) (drop (i + 1) connections))))
        ∙ sym (ap (λ l. right && not (drives_wrongly forms false (marks now) l)) cut) ∙ far.rightly;
    long = long ∙ far.long;
  } where
    cut : ports_drive number (drop i ports) (drop i connections) ≡ port_drives number p c ++ ports_drive number (drop (i + 1) ports) (drop (i + 1) connections)
    cut = ports_cut number ports connections i p lt at ∙ ap (λ o. port_drives number p o ++ ports_drive number (drop (i + 1) ports) (drop (i + 1) connections)) (sym got)

  and_true : (r : Bool) → (r && true) ≡ r
  and_true true = refl
  and_true false = refl

  pub ports_all : (now : List Bool) (right : Bool) (i : ℕ) → PortsSoFar number forms ports connections old now right i → length ports ≤ i → marks now ≡ also_all (marks old) (ports_drive number ports connections)
  ports_all now right i far le = sym (at_drop_all (λ l. also_all (marks now) (ports_drive number l (drop i connections))) ports i le) ∙ far.goes

  pub ports_right : (now : List Bool) (right : Bool) (i : ℕ) → PortsSoFar number forms ports connections old now right i → length ports ≤ i → right ≡ not (drives_wrongly forms false (marks old) (ports_drive number ports connections))
  ports_right now right i far le =
      sym (and_true right) ∙ sym (at_drop_all (λ l. right && not (drives_wrongly forms false (marks now) (ports_drive number l (drop i connections)))) ports i le) ∙ far.rightly

-- the first net without a driver
module _ (driven : ℕ → Bool) (forms : List NetForm) where
  undriven_cut : (i : ℕ) (f : NetForm) → i < length forms → f ≡ get_or forms i f → first_undriven driven i (drop i forms) ≡ cond (needs_driver f.role && not (driven i)) (Some i) (first_undriven driven (i + 1) (drop (i + 1) forms))
  undriven_cut i f lt at = ap (first_undriven driven i) (drop_more forms i f lt ∙ ap (λ y. y ∷ drop (i + 1) forms) (sym at))

  pub undriven_here : (i : ℕ) (f : NetForm) (b : Bool) (all : Option ℕ) → first_undriven driven i (drop i forms) ≡ all → i < length forms → f ≡ get_or forms i f → b ≡ (needs_driver f.role && not (driven i)) → b ≡ true → Some i ≡ all
  undriven_here i f b all far lt at is holds = sym (undriven_cut i f lt at ∙ ap (λ c. cond c (Some i) (first_undriven driven (i + 1) (drop (i + 1) forms))) (sym is ∙ holds)) ∙ far

  pub undriven_further : (i : ℕ) (f : NetForm) (b : Bool) (all : Option ℕ) → first_undriven driven i (drop i forms) ≡ all → i < length forms → f ≡ get_or forms i f → b ≡ (needs_driver f.role && not (driven i)) → b ≡ false → first_undriven driven (i + 1) (drop (i + 1) forms) ≡ all
  undriven_further i f b all far lt at is fails = sym (undriven_cut i f lt at ∙ ap (λ c. cond c (Some i) (first_undriven driven (i + 1) (drop (i + 1) forms))) (sym is ∙ fails)) ∙ far

  -- the same of the one that a read gives
  pub undriven_at : (i : ℕ) (d : NetForm) (b : Bool) (all : Option ℕ) → first_undriven driven i (drop i forms) ≡ all → i < length forms → b ≡ (needs_driver (get_or forms i d).role && not (driven i)) → b ≡ true → Some i ≡ all
  undriven_at i d b all far lt is holds = undriven_here i (get_or forms i d) b all far lt (get_or_default forms i d (get_or forms i d) lt) is holds

  pub undriven_past : (i : ℕ) (d : NetForm) (b : Bool) (all : Option ℕ) → first_undriven driven i (drop i forms) ≡ all → i < length forms → b ≡ (needs_driver (get_or forms i d).role && not (driven i)) → b ≡ false → first_undriven driven (i + 1) (drop (i + 1) forms) ≡ all
  undriven_past i d b all far lt is fails = undriven_further i (get_or forms i d) b all far lt (get_or_default forms i d (get_or forms i d) lt) is fails

  pub undriven_nowhere : (i : ℕ) (all : Option ℕ) → first_undriven driven i (drop i forms) ≡ all → length forms ≤ i → None ≡ all
  undriven_nowhere i all far le = sym (at_drop_all (first_undriven driven i) forms i le) ∙ far
