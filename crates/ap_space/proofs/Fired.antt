-- What a stage does with a word, from what is known of a clean design: transfers are taken in their stage alone, and nothing is written
-- where a transfer may still kill.
use Rattle.std.proofs.Common.{◌≡◌, ℕ, zero, suc, ◌+◌, ◌-◌, ◌≤◌, ◌<◌, ◌==◌, Bool, true, false, ◌&&◌, ◌||◌, cond, nat_lt, nat_le, List, [], ◌∷◌, filter, filter_map, flat_map, slice_get, Option, Some, None, refl, sym, ap, ◌∙◌, subst, arith}
use Rattle.std.proofs.lemmas.Bool.{and_parts, both_ways, eq-eqb, eqb-true, leb-true, ltb-false, false_from_ne_true, and_from, or_left, or_right}
use Rattle.std.specs.List.{AllByRecursion as Each, cons_option, list_any}
use Rattle.std.specs.Option.{option_map_or}
use Rattle.ap_bits.specs.declared.card.Card.{Card}
use Rattle.ap_desc.proofs.OnePort.{clean_apart}
use Rattle.ap_desc.specs.Clean.{IsClean}
use Rattle.ap_desc.specs.Designs.{is_between}
use Rattle.ap_desc.specs.declared.fault.Fault.TheVariants as f
use Rattle.ap_desc.specs.Ports.{is_transfer, micros_in}
use Rattle.ap_desc.specs.StageFaults.{has_early_commit, is_write}
use Rattle.ap_desc.specs.declared.design.Act.{Act}
use Rattle.ap_desc.specs.declared.design.Act.TheVariants as act
use Rattle.ap_desc.specs.declared.design.Arg.{Arg}
use Rattle.ap_desc.specs.declared.design.Design.{Design}
use Rattle.ap_desc.specs.declared.design.Instr.{Instr}
use Rattle.ap_desc.specs.declared.design.Micro.{Micro}
use Rattle.ap_dist.proofs.Matched.{instr_place}
use Rattle.ap_dist.specs.Spaced.{is_transfer_word}
use Rattle.ap_model.proofs.ListLemmas.{flat_map_none}
use Rattle.ap_model.specs.declared.storage.Storages.{Storages}
use Rattle.ap_model.specs.Fire.{Sight, arg_value, fire, instr_effect, instr_of, lines_in, locals_after, ordered, target_of, write_of}
use Rattle.ap_model.specs.Ports.{write_ports}
use Rattle.ap_space.proofs.Lists.{each_as, each_both, each_filter, each_left, each_right}

-- Lists.

each_part : {X Y : Type 0} (P : Y → Type 0) (f : X → List Y) (xs : List X) → Each P (flat_map f xs) → (i : ℕ) (x : X) → slice_get xs i ≡ Some x → Each P (f x)
each_part P f [] each i x at = absurd cc
each_part P f (y ∷ ys) each zero x at = let here : y ≡ x = cc in subst (λ z. Each P (f z)) here (each_left P (f y) (flat_map f ys) each)
each_part P f (y ∷ ys) each (suc i) x at = each_part P f ys (each_right P (f y) (flat_map f ys) each) i x at

-- what passes a test, passes it
pub each_passes : {X : Type 0} (t : X → Bool) (xs : List X) → Each (λ x. t x ≡ true) (filter t xs)
each_passes t [] = tt
each_passes {X} t (x ∷ xs) = by_test (t x) refl (each_passes t xs)
  where
    by_test : (b : Bool) → t x ≡ b → Each (λ x. t x ≡ true) (filter t xs) → Each (λ x. t x ≡ true) (cond b (x ∷ filter t xs) (filter t xs))
    by_test true e rest = (e, rest)
    by_test false e rest = rest

-- of elements none of which passes, or of each: it shows that some element passes
any_itself : {X : Type 0} (t : X → Bool) (xs : List X) → Each (λ x. t x ≡ true → list_any t xs ≡ true) xs
any_itself t [] = tt
any_itself {X} t (x ∷ xs) = ((λ e. or_left (t x) (list_any t xs) e), each_as (λ y. t y ≡ true → list_any t xs ≡ true) (λ y. t y ≡ true → (t x || list_any t xs) ≡ true) (λ y h e. or_right (t x) (list_any t xs) (h e)) xs (any_itself t xs))

none_any : {X : Type 0} (t : X → Bool) (xs : List X) → list_any t xs ≡ false → Each (λ x. t x ≡ true → ⊥) xs
none_any t xs none = each_as (λ x. t x ≡ true → list_any t xs ≡ true) (λ x. t x ≡ true → ⊥) (λ x h e. both_ways (list_any t xs) none (h e)) xs (any_itself t xs)

-- the first of what some elements give comes from one of them
first_given : {X Y : Type 0} (g : X → Option Y) (P : X → Type 0) (G : Type 0) (y : Y) → ((x : X) → P x → g x ≡ Some y → G) → (xs : List X) → Each P xs → slice_get (filter_map g xs) 0 ≡ Some y → G
first_given g P G y gives [] each e = absurd cc
first_given {X} {Y} g P G y gives (x ∷ xs) each e = by_one (g x) refl e (λ f. first_given g P G y gives xs each.1 f)
  where
    by_one : (o : Option Y) → g x ≡ o → slice_get (cons_option o (filter_map g xs)) 0 ≡ Some y → (slice_get (filter_map g xs) 0 ≡ Some y → G) → G
    by_one None is e later = later e
    by_one (Some z) is e later = gives x each.0 (is ∙ e)

none_given : {X Y : Type 0} (g : X → Option Y) (xs : List X) → Each (λ x. g x ≡ None) xs → filter_map g xs ≡ []
none_given g [] none = refl
none_given g (x ∷ xs) none = ap (λ o. cons_option o (filter_map g xs)) none.0 ∙ none_given g xs none.1

-- Lines of a clean design.

pub record IsCleanLine (design : Design) (m : Micro) : Type 0 where
  pub low : 1 ≤ m.stage
  pub high : m.stage ≤ design.stages - 1
  pub transfers : is_transfer m.act ≡ true → m.stage ≡ design.branch
  pub commits : is_write m.act ≡ true → design.branch ≤ m.stage + design.slots + 1

commits_late : (design : Design) → IsClean design → Each (λ (m : Micro). is_write m.act ≡ true → design.branch ≤ m.stage + design.slots + 1) (micros_in design)
commits_late design clean = at_each (micros_in design) (λ line. none_any _ (micros_in design) (false_from_ne_true (has_early_commit design line) (clean.faultless f.EarlyCommit line)))
  where
    same_line : (n : ℕ) → (n == n) ≡ true
    same_line n = eq-eqb n n refl

    late : (m : Micro) → ((is_write m.act && nat_lt (m.stage + design.slots + 1) design.branch && (m.line == m.line)) ≡ true → ⊥) → is_write m.act ≡ true → design.branch ≤ m.stage + design.slots + 1
    late m none writes =
        ltb-false (m.stage + design.slots + 1) design.branch
        (false_from_ne_true (nat_lt (m.stage + design.slots + 1) design.branch) (λ early. none (and_from (is_write m.act && nat_lt (m.stage + design.slots + 1) design.branch) (m.line == m.line) (and_from (is_write m.act) (nat_lt (m.stage + design.slots + 1) design.branch) writes early) (same_line m.line))))

    at_each : (micros : List Micro) → ((line : ℕ) → Each (λ (m : Micro). (is_write m.act && nat_lt (m.stage + design.slots + 1) design.branch && (m.line == line)) ≡ true → ⊥) micros) → Each (λ (m : Micro). is_write m.act ≡ true → design.branch ≤ m.stage + design.slots + 1) micros
    at_each [] none = tt
    at_each (m ∷ micros) none = (late m (none m.line).0, at_each micros (λ line. (none line).1))

pub clean_lines : (design : Design) → IsClean design → (word : ℕ) (instr : Instr) → instr_of design word ≡ Some instr → Each (IsCleanLine design) instr.micros
clean_lines design clean word instr at =
    let p = instr_place design word instr at in
    let apart = clean_apart design clean in
    each_part (IsCleanLine design) (λ (i : Instr). i.micros) design.instrs
    (each_as (λ (m : Micro). ((1 ≤ m.stage) × (m.stage ≤ design.stages - 1)) × ((is_transfer m.act ≡ true → m.stage ≡ design.branch) × (is_write m.act ≡ true → design.branch ≤ m.stage + design.slots + 1))) (IsCleanLine design)
    (λ m h. record { low = h.0.0; high = h.0.1; transfers = h.1.0; commits = h.1.1 }) (micros_in design)
    (each_both (λ (m : Micro). (1 ≤ m.stage) × (m.stage ≤ design.stages - 1)) (λ (m : Micro). (is_transfer m.act ≡ true → m.stage ≡ design.branch) × (is_write m.act ≡ true → design.branch ≤ m.stage + design.slots + 1)) (micros_in design) apart.in_stages
    (each_both (λ (m : Micro). is_transfer m.act ≡ true → m.stage ≡ design.branch) (λ (m : Micro). is_write m.act ≡ true → design.branch ≤ m.stage + design.slots + 1) (micros_in design) apart.transfers (commits_late design clean))))
    p.place instr p.is_there

-- the lines of a stage stand in it
pub lines_stand : (stage : ℕ) (instr : Instr) → Each (λ (m : Micro). m.stage ≡ stage) (lines_in stage instr)
lines_stand stage instr = each_as (λ (m : Micro). (m.stage == stage) ≡ true) (λ (m : Micro). m.stage ≡ stage) (λ m e. eqb-true m.stage stage e) (lines_in stage instr) (each_passes (λ (m : Micro). m.stage == stage) instr.micros)

-- The transfer that a stage takes.

target_line : (value : Arg → ℕ) (a : Act) (to : ℕ) → target_of value a ≡ Some to → is_transfer a ≡ true
target_line value (act.Branch c t) to e = refl
target_line value (act.Jump t) to e = refl
target_line value _ to e = absurd cc

pub taken_in_branch : (design : Design) (cards : List Card) → IsClean design → (stage place word : ℕ) (locals : List ℕ) (storages : Storages) (input : ℕ → ℕ → ℕ) (to : ℕ)
    → (fire design cards stage place word locals storages input).target ≡ Some to → (stage ≡ design.branch) × (is_transfer_word design word ≡ true)
unfolding fire
taken_in_branch design cards clean stage place word locals storages input to taken = by_instr (instr_of design word) refl taken
  where
    by_instr : (o : Option Instr) → instr_of design word ≡ o → (instr_effect design cards stage place word locals storages input o).target ≡ Some to → (stage ≡ design.branch) × (is_transfer_word design word ≡ true)
    by_instr None at e = absurd cc
    by_instr (Some instr) at e =
        let sight : Sight = record { design = design; cards = cards; instr = instr; word = word; place = place; storages = storages; input = input } in
        let value = arg_value sight (locals_after sight locals (lines_in stage instr)) in
        let P : Micro → Type 0 = λ m. (m.stage ≡ stage) × (IsCleanLine design m × (is_transfer m.act ≡ true → list_any (λ (m : Micro). is_transfer m.act) instr.micros ≡ true)) in
        first_given (λ (m : Micro). target_of value m.act) P ((stage ≡ design.branch) × (is_transfer_word design word ≡ true)) to
        (λ m h t.
        let is = target_line value m.act to t in
        (sym h.0 ∙ h.1.0.transfers is, ap (λ o. option_map_or (λ (i : Instr). list_any (λ (m : Micro). is_transfer m.act) i.micros) o false) at ∙ h.1.1 is))
        (lines_in stage instr)
        (each_both (λ (m : Micro). m.stage ≡ stage) (λ m. IsCleanLine design m × (is_transfer m.act ≡ true → list_any (λ (m : Micro). is_transfer m.act) instr.micros ≡ true)) (lines_in stage instr) (lines_stand stage instr)
        (each_both (IsCleanLine design) (λ m. is_transfer m.act ≡ true → list_any (λ (m : Micro). is_transfer m.act) instr.micros ≡ true) (lines_in stage instr)
        (each_filter (IsCleanLine design) (λ (m : Micro). m.stage == stage) instr.micros (clean_lines design clean word instr at))
        (each_filter (λ (m : Micro). is_transfer m.act ≡ true → list_any (λ (m : Micro). is_transfer m.act) instr.micros ≡ true) (λ (m : Micro). m.stage == stage) instr.micros (any_itself (λ (m : Micro). is_transfer m.act) instr.micros))))
        e

-- Nothing is written early.

none_ordered : (design : Design) → ordered design [] ≡ []
none_ordered design = flat_map_none _ (λ port. refl) (write_ports design)

pub unwritten_line : (value : Arg → ℕ) (a : Act) → is_write a ≡ false → write_of value a ≡ None
unwritten_line value (act.WriteFile file number index v guard) e = absurd cc
unwritten_line value (act.WriteReg reg v guard) e = absurd cc
unwritten_line value (act.WriteMem mem at v guard) e = absurd cc
unwritten_line value _ e = refl

pub early_writes_nothing : (design : Design) (cards : List Card) → IsClean design → (stage place word : ℕ) (locals : List ℕ) (storages : Storages) (input : ℕ → ℕ → ℕ)
    → stage + design.slots + 1 < design.branch → (fire design cards stage place word locals storages input).writes ≡ []
unfolding fire
early_writes_nothing design cards clean stage place word locals storages input early = by_instr (instr_of design word) refl
  where
    by_instr : (o : Option Instr) → instr_of design word ≡ o → (instr_effect design cards stage place word locals storages input o).writes ≡ []
    by_instr None at = refl
    by_instr (Some instr) at =
        let sight : Sight = record { design = design; cards = cards; instr = instr; word = word; place = place; storages = storages; input = input } in
        let value = arg_value sight (locals_after sight locals (lines_in stage instr)) in
        ap (ordered design)
        (none_given (λ (m : Micro). write_of value m.act) (lines_in stage instr)
        (each_as (λ (m : Micro). (m.stage ≡ stage) × IsCleanLine design m) (λ (m : Micro). write_of value m.act ≡ None)
        (λ m h. unwritten_line value m.act (false_from_ne_true (is_write m.act) (λ w. let late = h.1.commits w in let here = h.0 in absurd (omega arith))))
        (lines_in stage instr)
        (each_both (λ (m : Micro). m.stage ≡ stage) (IsCleanLine design) (lines_in stage instr) (lines_stand stage instr)
        (each_filter (IsCleanLine design) (λ (m : Micro). m.stage == stage) instr.micros (clean_lines design clean word instr at)))))
        ∙ none_ordered design

-- The stages of a clean design.

bounds : (b last : ℕ) → is_between 1 last b ≡ true → (1 ≤ b) × (b ≤ last)
bounds b last h = (leb-true 1 b (and_parts (nat_le 1 b) (nat_le b last) h).0, leb-true b last (and_parts (nat_le 1 b) (nat_le b last) h).1)

pub branch_low : (design : Design) → IsClean design → 1 ≤ design.branch
branch_low design clean = (bounds design.branch (design.stages - 1) clean.sound.within.branch).0

pub branch_high : (design : Design) → IsClean design → design.branch < design.stages
branch_high design clean =
    let low = branch_low design clean in
    let high = (bounds design.branch (design.stages - 1) clean.sound.within.branch).1 in
    omega arith

pub few_slots : (design : Design) → IsClean design → design.slots ≤ design.branch
few_slots design clean =
    ltb-false design.branch design.slots
    (false_from_ne_true (nat_lt design.branch design.slots) (λ more. clean.faultless f.TooManySlots design.transfer_line (and_from (nat_lt design.branch design.slots) (design.transfer_line == design.transfer_line) more (eq-eqb design.transfer_line design.transfer_line refl))))
