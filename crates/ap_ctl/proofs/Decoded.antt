-- What the nets of a stage's tests tell of its instructions.
use Rattle.std.proofs.Common.{◌≡◌, ℕ, Bool, true, false, List, [], ◌∷◌, map, refl, sym, ap, subst, ◌∙◌}
use Rattle.std.specs.Prelude.{filter, if◌then◌else◌, slice_get, Some}
use Rattle.std.specs.List.{AllByRecursion as Each, list_all}
use Rattle.ap_desc.specs.Clean.{IsClean}
use Rattle.ap_desc.specs.Sound.{IsEncoded}
use Rattle.ap_desc.specs.declared.design.Design.{Design}
use Rattle.ap_desc.specs.declared.design.Instr.{Instr}
use Rattle.ap_model.specs.Fire.{is_match}
use Rattle.ap_net.specs.declared.cell.Wire.{Wire}
use Rattle.ap_net.specs.Draft.{Draft, Extends}
use Rattle.ap_net.specs.Pending.{Among}
use Rattle.ap_net.specs.Ready.{numbers}
use Rattle.ap_net.specs.Readings.{Reading, IsSettled}
use Rattle.ap_ctl.specs.declared.decode.Compared.{Compared}
use Rattle.ap_ctl.specs.declared.field.FieldTest.{FieldTest}
use Rattle.ap_ctl.specs.Building.{BuildsComparing, GivesEachComparing, IsBit, Tells, is_on}
use Rattle.ap_ctl.specs.Decoding.{FitsWord, IsCompared, compared_net, field_tests, is_wanted, passes, tests_of}
use Rattle.ap_ctl.specs.Lists.{EachPair}
use Rattle.ap_ctl.specs.Nets.{AreDecoded, FollowsWord}
use Rattle.ap_ctl.proofs.Beside.{EachPair-second, EachPair-weaker, each_get}
use Rattle.ap_ctl.proofs.Bits.{IsBit-Tells, joined_all, on_of}
use Rattle.ap_ctl.proofs.Built.{Each-map, Each-weaker, Tells-Builds, among_nets, follows_each, follows_later}
use Rattle.ap_ctl.proofs.Fields.{IsByFields, matched_by_fields, tests_fit}
use Rattle.ap_ctl.proofs.Tests.{IsAmong, all_among, each_test, wanted_same}

pub filter_each : {X : Type 0} (P : X → Type 0) (p : X → Bool) (xs : List X) → Each P xs → Each P (filter p xs)
filter_each P p [] h = tt
filter_each {X} P p (x ∷ xs) h = by (filter_each P p xs h.1) (p x) where
  by : (rest : Each P (filter p xs)) (b : Bool) → Each P (if b then x ∷ filter p xs else filter p xs)
  by rest true = (h.0, rest)
  by rest false = rest

-- the nets of tests are all 1 exactly where the word passes the tests
pub all_compared : (d : Draft) (word : Wire) (r : Reading) (made : List Compared) → IsSettled d r → Each (IsCompared d word) made
    → list_all (is_on r) (map compared_net made) ≡ list_all (λ (c : Compared). passes (r.read word.number) c.test) made
all_compared d word r [] s h = refl
all_compared d word r (c ∷ made) s h = joined_all (on_of h.0 r s) (all_compared d word r made s h.1)

pub compared_bits : (d : Draft) (word : Wire) (made : List Compared) → Each (IsCompared d word) made → Each (IsBit d.nets) (map compared_net made)
compared_bits d word made h = Each-map (IsBit d.nets) compared_net made (Each-weaker (IsCompared d word) (λ (c : Compared). IsBit d.nets c.net) (λ c t. IsBit-Tells t) made h)

pub compared_later : {ps : List (Wire × FieldTest)} {from : List ℕ} {a b : Draft} (word : Wire) (made : List Compared) → BuildsComparing ps from a b → Each (IsCompared a word) made → Each (IsCompared b word) made
compared_later {ps} {from} {a} {b} word made p h = Each-weaker (IsCompared a word) (IsCompared b word) (λ c t. Tells-Builds p t) made h

-- the nets of those that are wanted are among all
pub wanted_among : (wanted : List FieldTest) (made : List Compared) → Each (Among (numbers (map compared_net made))) (numbers (map compared_net (filter (is_wanted wanted) made)))
wanted_among wanted made =
    let from = numbers (map compared_net made) in
    Each-map (Among from) (λ (w : Wire). w.number) (map compared_net (filter (is_wanted wanted) made))
    (Each-map (λ (w : Wire). Among from w.number) compared_net (filter (is_wanted wanted) made)
    (filter_each (λ (c : Compared). Among from c.net.number) (is_wanted wanted) made (unmapped (numbers (map compared_net made)) made (among_nets (map compared_net made)))))
  where
    unmapped : (from : List ℕ) (xs : List Compared) → Each (λ (w : Wire). Among from w.number) (map compared_net xs) → Each (λ (c : Compared). Among from c.net.number) xs
    unmapped from [] h = tt
    unmapped from (x ∷ xs) h = (h.0, unmapped from xs h.1)

-- the tests of a clean design fit its words
pub fitting_tests : (design : Design) (tests : List FieldTest) (bits : ℕ) → IsClean design → IsEncoded design → tests ≡ field_tests design → bits ≡ design.word → Each (FitsWord bits) tests
fitting_tests design tests bits clean encoded is wide =
    subst (λ (l : List FieldTest). Each (FitsWord bits) l) (sym is) (subst (λ n. Each (FitsWord n) (field_tests design)) (sym wide) (each_test (FitsWord design.word) design (tests_fit design clean encoded)))

-- a word matches the instruction exactly where it passes those of the tests that the instruction wants
pub condition_matches : (design : Design) → IsClean design → IsEncoded design → (tests wanted : List FieldTest) (made : List Compared) (i word : ℕ) (instr : Instr) → slice_get design.instrs i ≡ Some instr
    → tests ≡ field_tests design → map (λ (c : Compared). c.test) made ≡ tests → wanted ≡ tests_of design instr
    → list_all (λ (c : Compared). passes word c.test) (filter (is_wanted wanted) made) ≡ is_match word instr
condition_matches design clean encoded tests wanted made i word instr at is of wants =
    let there : Each (IsAmong (field_tests design)) (tests_of design instr) = each_get (λ (x : Instr). Each (IsAmong (field_tests design)) (tests_of design x)) design.instrs i instr (all_among design) at in
    let among : Each (IsAmong (map (λ (c : Compared). c.test) made)) wanted = subst (λ (l : List FieldTest). Each (IsAmong l) wanted) (sym (of ∙ is)) (subst (λ (l : List FieldTest). Each (IsAmong (field_tests design)) l) (sym wants) there) in
    let by = each_get (IsByFields design) design.instrs i instr (matched_by_fields design clean encoded) at in
    wanted_same word wanted made among ∙ ap (list_all (passes word)) wants ∙ sym (by word)

-- Stages go on.

pub decoded_later : {ps : List (Wire × FieldTest)} {from : List ℕ} {a b : Draft} (design : Design) (words : List Wire) (decoded : List (List Wire)) → BuildsComparing ps from a b → EachPair (AreDecoded design a) words decoded → EachPair (AreDecoded design b) words decoded
decoded_later {ps} {from} {a} {b} design words decoded p h =
    EachPair-weaker (AreDecoded design a) (AreDecoded design b) (λ word conditions. conditions_later design word conditions p) words decoded h
  where
    conditions_later : {ps : List (Wire × FieldTest)} {from : List ℕ} {a b : Draft} (design : Design) (word : Wire) (conditions : List Wire) → BuildsComparing ps from a b → AreDecoded design a word conditions → AreDecoded design b word conditions
    conditions_later {ps} {from} {a} {b} design word conditions p h = EachPair-weaker (λ (i : Instr). Tells a (λ r. is_match (r.read word.number) i)) (λ (i : Instr). Tells b (λ r. is_match (r.read word.number) i)) (λ i w t. Tells-Builds p t) design.instrs conditions h

pub follows_word : {ps : List (Wire × FieldTest)} (a b : Draft) (word : Wire) (conditions : List Wire) → GivesEachComparing ps (word.number ∷ []) a b conditions → FollowsWord b word conditions
follows_word a b word conditions g by = follows_each by (word.number ∷ []) a b conditions g

pub words_later : (a b : Draft) (words : List Wire) (decoded : List (List Wire)) → Extends a b → EachPair (FollowsWord a) words decoded → EachPair (FollowsWord b) words decoded
words_later a b words decoded e h = EachPair-weaker (FollowsWord a) (FollowsWord b) (λ word conditions f by. follows_later by (word.number ∷ []) a b conditions e (f by)) words decoded h

pub decoded_bits : (design : Design) (d : Draft) (word : Wire) (conditions : List Wire) → AreDecoded design d word conditions → Each (IsBit d.nets) conditions
decoded_bits design d word conditions h = EachPair-second (λ (i : Instr). Tells d (λ r. is_match (r.read word.number) i)) (IsBit d.nets) (λ i w t. IsBit-Tells t) design.instrs conditions h
