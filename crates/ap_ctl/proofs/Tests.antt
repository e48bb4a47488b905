-- The tests of all instructions, each once: those that an instruction wants are among them.
use Rattle.std.proofs.Common.{◌≡◌, ℕ, ◌+◌, ◌<◌, Bool, true, false, List, [], ◌∷◌, ◌++◌, length, map, get_or, take, append-nil, inl, inr, refl, sym, ap, subst, ◌∙◌, flat_map}
use Rattle.std.specs.Prelude.{◌==◌, ◌&&◌, if◌then◌else◌, filter, fold}
use Rattle.std.specs.List.{AllByRecursion as Each, list_all, list_any}
use Rattle.std.proofs.lemmas.Bool.{and_from, and_parts, eq-eqb, eqb-true, or_cases, or_from, or_left, or_parts, or_right, false_from_ne_true, both_ways}
use Rattle.std.proofs.lemmas.List.Folds.{list_any-append}
use Rattle.std.proofs.lemmas.Grind.{flat_map-append, fold-append}
use Rattle.std.proofs.lemmas.List.{map-append, take_more}
use Rattle.ap_net.specs.declared.cell.Wire.{Wire}
use Rattle.ap_desc.specs.declared.design.Design.{Design}
use Rattle.ap_desc.specs.declared.design.Instr.{Instr}
use Rattle.ap_ctl.specs.declared.decode.Compared.{Compared}
use Rattle.ap_ctl.specs.declared.field.FieldTest.{FieldTest}
use Rattle.ap_ctl.specs.Decoding.{NoneTwice, compared_in, field_tests, is_same_test, is_wanted, passes, tests_of, with_test, with_tests}
use Rattle.ap_ctl.proofs.Fields.{same_truth}

-- tests that are the same are equal
pub tests_equal : (a b : FieldTest) → is_same_test a b ≡ true → a ≡ b
tests_equal a b e =
    let parts = and_parts ((a.low == b.low) && (a.width == b.width)) (a.value == b.value) e in
    let more = and_parts (a.low == b.low) (a.width == b.width) parts.0 in
    let low : a.low ≡ b.low = eqb-true a.low b.low more.0 in
    let width : a.width ≡ b.width = eqb-true a.width b.width more.1 in
    let value : a.value ≡ b.value = eqb-true a.value b.value parts.1 in
    λ i. record { low = low i; width = width i; value = value i }

pub same_itself : (t : FieldTest) → is_same_test t t ≡ true
same_itself t = and_from ((t.low == t.low) && (t.width == t.width)) (t.value == t.value) (and_from (t.low == t.low) (t.width == t.width) (eq-eqb t.low t.low refl) (eq-eqb t.width t.width refl)) (eq-eqb t.value t.value refl)

same_back : (a b : FieldTest) → is_same_test a b ≡ true → is_same_test b a ≡ true
same_back a b e = subst (λ t. is_same_test t a ≡ true) (tests_equal a b e) (same_itself a)

-- Adding tests.

added : (b : Bool) (tests : List FieldTest) (t : FieldTest) → List FieldTest
added b tests t = if b then tests else tests ++ t ∷ []

-- what is there stays
stays_one : (x t : FieldTest) (tests : List FieldTest) → list_any (is_same_test x) tests ≡ true → list_any (is_same_test x) (with_test tests t) ≡ true
stays_one x t tests h = by (list_any (is_same_test t) tests) where
  by : (b : Bool) → list_any (is_same_test x) (if b then tests else tests ++ t ∷ []) ≡ true
  by true = h
  by false = list_any-append (is_same_test x) tests (t ∷ []) ∙ or_left (list_any (is_same_test x) tests) (list_any (is_same_test x) (t ∷ [])) h

stays : (x : FieldTest) (tests more : List FieldTest) → list_any (is_same_test x) tests ≡ true → list_any (is_same_test x) (fold with_test tests more) ≡ true
stays x tests [] h = h
stays x tests (t ∷ more) h = stays x (with_test tests t) more (stays_one x t tests h)

-- what is added is there
added_one : (t : FieldTest) (tests : List FieldTest) → list_any (is_same_test t) (with_test tests t) ≡ true
added_one t tests = by (list_any (is_same_test t) tests) refl where
  by : (b : Bool) → list_any (is_same_test t) tests ≡ b → list_any (is_same_test t) (if b then tests else tests ++ t ∷ []) ≡ true
  by true e = e
  by false e = list_any-append (is_same_test t) tests (t ∷ []) ∙ or_right (list_any (is_same_test t) tests) (list_any (is_same_test t) (t ∷ [])) (or_left (is_same_test t t) false (same_itself t))

abbrev pub IsAmong : List FieldTest → FieldTest → Type 0
IsAmong tests t = list_any (is_same_test t) tests ≡ true

each_stays : (tests more : List FieldTest) (ts : List FieldTest) → Each (IsAmong tests) ts → Each (IsAmong (fold with_test tests more)) ts
each_stays tests more [] h = tt
each_stays tests more (t ∷ ts) h = (stays t tests more h.0, each_stays tests more ts h.1)

each_added : (tests more : List FieldTest) → Each (IsAmong (fold with_test tests more)) more
each_added tests [] = tt
each_added tests (t ∷ more) = (stays t (with_test tests t) more (added_one t tests), each_added (with_test tests t) more)

-- the tests of each instruction are there
among_from : (f : Instr → List FieldTest) (tests : List FieldTest) (instrs : List Instr) → Each (λ (i : Instr). Each (IsAmong (fold with_test tests (flat_map f instrs))) (f i)) instrs
among_from f tests [] = tt
among_from f tests (i ∷ instrs) =
    let e : fold with_test tests (f i ++ flat_map f instrs) ≡ fold with_test (fold with_test tests (f i)) (flat_map f instrs) = fold-append with_test tests (f i) (flat_map f instrs) in (
      subst (λ l. Each (IsAmong l) (f i)) (sym e) (each_stays (fold with_test tests (f i)) (flat_map f instrs) (f i) (each_added tests (f i))),
      subst (λ l. Each (λ (x : Instr). Each (IsAmong l) (f x)) instrs) (sym e) (among_from f (fold with_test tests (f i)) instrs),
    )

pub all_among : (design : Design) → Each (λ (i : Instr). Each (IsAmong (field_tests design)) (tests_of design i)) design.instrs
all_among design = among_from (tests_of design) [] design.instrs

-- what each of the tests has that were added, all have
fold_each : (P : FieldTest → Type 0) (tests more : List FieldTest) → Each P tests → Each P more → Each P (fold with_test tests more)
fold_each P tests [] h g = h
fold_each P tests (t ∷ more) h g = fold_each P (with_test tests t) more (by (list_any (is_same_test t) tests)) g.1 where
  push : (ts : List FieldTest) → Each P ts → Each P (ts ++ t ∷ [])
  push [] k = (g.0, tt)
  push (x ∷ ts) k = (k.0, push ts k.1)

  by : (b : Bool) → Each P (if b then tests else tests ++ t ∷ [])
  by true = h
  by false = push tests h

each_joined : (P : FieldTest → Type 0) (ts us : List FieldTest) → Each P ts → Each P us → Each P (ts ++ us)
each_joined P [] us k g = g
each_joined P (t ∷ ts) us k g = (k.0, each_joined P ts us k.1 g)

each_flat : (P : FieldTest → Type 0) (f : Instr → List FieldTest) (instrs : List Instr) → Each (λ (i : Instr). Each P (f i)) instrs → Each P (flat_map f instrs)
each_flat P f [] h = tt
each_flat P f (i ∷ instrs) h = each_joined P (f i) (flat_map f instrs) h.0 (each_flat P f instrs h.1)

pub each_test : (P : FieldTest → Type 0) (design : Design) → Each (λ (i : Instr). Each P (tests_of design i)) design.instrs → Each P (field_tests design)
each_test P design h = fold_each P [] (flat_map (tests_of design) design.instrs) tt (each_flat P (tests_of design) design.instrs h)

-- None stands twice.

none_of : (x t : FieldTest) (tests : List FieldTest) → list_any (is_same_test x) tests ≡ false → is_same_test x t ≡ false → list_any (is_same_test x) (tests ++ t ∷ []) ≡ false
none_of x t tests h e = list_any-append (is_same_test x) tests (t ∷ []) ∙ or_from (list_any (is_same_test x) tests) (list_any (is_same_test x) (t ∷ [])) h (or_from (is_same_test x t) false e refl)

none_push : (t : FieldTest) (tests : List FieldTest) → NoneTwice tests → list_any (is_same_test t) tests ≡ false → NoneTwice (tests ++ t ∷ [])
none_push t [] h e = (refl, tt)
none_push t (x ∷ tests) h e =
    let parts = or_parts (is_same_test t x) (list_any (is_same_test t) tests) e in
    let apart : is_same_test x t ≡ false = false_from_ne_true (is_same_test x t) (λ same. both_ways (is_same_test t x) parts.0 (same_back x t same)) in
    (none_of x t tests h.0 apart, none_push t tests h.1 parts.1)

none_with : (t : FieldTest) (tests : List FieldTest) → NoneTwice tests → NoneTwice (with_test tests t)
none_with t tests h = by (list_any (is_same_test t) tests) refl where
  by : (b : Bool) → list_any (is_same_test t) tests ≡ b → NoneTwice (if b then tests else tests ++ t ∷ [])
  by true e = h
  by false e = none_push t tests h e

none_fold : (tests more : List FieldTest) → NoneTwice tests → NoneTwice (fold with_test tests more)
none_fold tests [] h = h
none_fold tests (t ∷ more) h = none_fold (with_test tests t) more (none_with t tests h)

pub none_twice : (design : Design) → NoneTwice (field_tests design)
none_twice design = none_fold [] (flat_map (tests_of design) design.instrs) tt

-- The wanted ones.

-- a test of one list that is the same as one of another passes where that does
passes_other : (word : ℕ) (t : FieldTest) (ts : List FieldTest) → list_any (is_same_test t) ts ≡ true → list_all (passes word) ts ≡ true → passes word t ≡ true
passes_other word t [] e h = absurd cc
passes_other word t (x ∷ ts) e h =
    let parts = and_parts (passes word x) (list_all (passes word) ts) h in
    elim (or_cases (is_same_test t x) (list_any (is_same_test t) ts) e) [
      | inl same ↦ subst (λ y. passes word y ≡ true) (sym (tests_equal t x same)) parts.0
      | inr rest ↦ passes_other word t ts rest parts.1
    ]

-- all that are wanted pass where all wanted do
wanted_pass : (word : ℕ) (wanted : List FieldTest) (made : List Compared) → list_all (passes word) wanted ≡ true → list_all (λ (c : Compared). passes word c.test) (filter (is_wanted wanted) made) ≡ true
wanted_pass word wanted [] h = refl
wanted_pass word wanted (c ∷ made) h = by (wanted_pass word wanted made h) (is_wanted wanted c) refl where
  by : (rest : list_all (λ (x : Compared). passes word x.test) (filter (is_wanted wanted) made) ≡ true) (b : Bool) → is_wanted wanted c ≡ b → list_all (λ (x : Compared). passes word x.test) (if b then c ∷ filter (is_wanted wanted) made else filter (is_wanted wanted) made) ≡ true
  by rest true e = and_from (passes word c.test) (list_all (λ (x : Compared). passes word x.test) (filter (is_wanted wanted) made)) (passes_other word c.test wanted e h) rest
  by rest false e = rest

-- a test that is wanted and made passes where those that are wanted do
made_passes : (word : ℕ) (wanted : List FieldTest) (t : FieldTest) (made : List Compared) → list_any (is_same_test t) wanted ≡ true → list_any (is_same_test t) (map (λ (c : Compared). c.test) made) ≡ true
    → list_all (λ (c : Compared). passes word c.test) (filter (is_wanted wanted) made) ≡ true → passes word t ≡ true
made_passes word wanted t [] want e h = absurd cc
made_passes word wanted t (c ∷ made) want e h = by (λ rest k. made_passes word wanted t made want rest k) (is_wanted wanted c) refl h where
  by : (later : list_any (is_same_test t) (map (λ (x : Compared). x.test) made) ≡ true → list_all (λ (x : Compared). passes word x.test) (filter (is_wanted wanted) made) ≡ true → passes word t ≡ true) (b : Bool) → is_wanted wanted c ≡ b → list_all (λ (x : Compared). passes word x.test) (if b then c ∷ filter (is_wanted wanted) made else filter (is_wanted wanted) made) ≡ true → passes word t ≡ true
  by later true w k =
      let parts = and_parts (passes word c.test) (list_all (λ (x : Compared). passes word x.test) (filter (is_wanted wanted) made)) k in
      elim (or_cases (is_same_test t c.test) (list_any (is_same_test t) (map (λ (x : Compared). x.test) made)) e) [
        | inl same ↦ subst (λ y. passes word y ≡ true) (sym (tests_equal t c.test same)) parts.0
        | inr rest ↦ later rest parts.1
      ]
  by later false w k =
      elim (or_cases (is_same_test t c.test) (list_any (is_same_test t) (map (λ (x : Compared). x.test) made)) e) [
        | inl same ↦ absurd (both_ways (is_wanted wanted c) w (subst (λ y. list_any (is_same_test y) wanted ≡ true) (tests_equal t c.test same) want))
        | inr rest ↦ later rest k
      ]

all_pass : (word : ℕ) (wanted ts : List FieldTest) (made : List Compared) → Each (IsAmong wanted) ts → Each (IsAmong (map (λ (c : Compared). c.test) made)) ts
    → list_all (λ (c : Compared). passes word c.test) (filter (is_wanted wanted) made) ≡ true → list_all (passes word) ts ≡ true
all_pass word wanted [] made want there h = refl
all_pass word wanted (t ∷ ts) made want there h =
    and_from (passes word t) (list_all (passes word) ts) (made_passes word wanted t made want.0 there.0 h) (all_pass word wanted ts made want.1 there.1 h)

-- each test is among itself
each_itself : (ts : List FieldTest) → Each (IsAmong ts) ts
each_itself [] = tt
each_itself (t ∷ ts) = (or_left (is_same_test t t) (list_any (is_same_test t) ts) (same_itself t), later ts (each_itself ts)) where
  later : (xs : List FieldTest) → Each (IsAmong ts) xs → Each (IsAmong (t ∷ ts)) xs
  later [] h = tt
  later (x ∷ xs) h = (or_right (is_same_test x t) (list_any (is_same_test x) ts) h.0, later xs h.1)

-- the tests that were made and are wanted pass exactly where the wanted ones do
pub wanted_same : (word : ℕ) (wanted : List FieldTest) (made : List Compared) → Each (IsAmong (map (λ (c : Compared). c.test) made)) wanted
    → list_all (λ (c : Compared). passes word c.test) (filter (is_wanted wanted) made) ≡ list_all (passes word) wanted
wanted_same word wanted made there = same_truth (list_all (λ (c : Compared). passes word c.test) (filter (is_wanted wanted) made)) (list_all (passes word) wanted)
    (all_pass word wanted wanted made (each_itself wanted) there) (wanted_pass word wanted made)

-- a word beside one more test
pub tests_more : (word : Wire) (tests : List FieldTest) (i : ℕ) (d : FieldTest) → i < length tests → with_tests (take i tests) word ++ (word, get_or tests i d) ∷ [] ≡ with_tests (take (i + 1) tests) word
tests_more word tests i d lt = sym (ap (map (λ t. (word, t))) (take_more tests i d lt) ∙ map-append (λ t. (word, t)) (take i tests) (get_or tests i d ∷ []))

-- one more word beside the tests
pub words_more : (design : Design) (words : List Wire) (i : ℕ) (d : Wire) → i < length words → compared_in design (take i words) ++ with_tests (field_tests design) (get_or words i d) ≡ compared_in design (take (i + 1) words)
words_more design words i d lt =
    sym (ap (compared_in design) (take_more words i d lt) ∙ flat_map-append (with_tests (field_tests design)) (take i words) (get_or words i d ∷ [])
    ∙ ap (λ l. compared_in design (take i words) ++ l) (append-nil (with_tests (field_tests design) (get_or words i d))))
