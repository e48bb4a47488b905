-- One instruction at a time, stage by stage: what it has done after some stages, and where its writes stand in the log.
use Rattle.std.proofs.Common.{◌≡◌, ℕ, zero, suc, ◌+◌, ◌-◌, ◌≤◌, ◌<◌, List, [], ◌∷◌, ◌++◌, fold, slice_index, None, ◌⊎◌, inl, inr, refl, sym, ap, ◌∙◌, subst, arith, append_assoc, append-nil}
use Rattle.std.proofs.lemmas.List.Sums.{fold-append}
use Rattle.std.specs.List.{AllByRecursion as Each, range_with_len}
use Rattle.ap_bits.specs.declared.card.Card.{Card}
use Rattle.ap_desc.specs.declared.design.Design.{Design}
use Rattle.ap_image.specs.declared.image.Image.{Image}
use Rattle.ap_model.specs.declared.sequence.Progress.{Progress}
use Rattle.ap_model.specs.declared.state.Entry.{Entry}
use Rattle.ap_model.specs.declared.state.Sample.{Sample}
use Rattle.ap_model.specs.declared.state.StageEffect.{StageEffect}
use Rattle.ap_model.specs.declared.storage.PortWrite.{PortWrite}
use Rattle.ap_model.specs.declared.storage.Storages.{Storages}
use Rattle.ap_model.specs.Cycles.{entries_of, entry_of}
use Rattle.ap_model.specs.Fire.{fire}
use Rattle.ap_model.specs.Landings.{taken_by}
use Rattle.ap_model.specs.Sequence.{Partway, after_instruction, next_instruction, sample_input, sequential, sequential_start, through_stage, whole_instruction}
use Rattle.ap_space.proofs.Lists.{EachPair, each_always, each_append, each_as, each_map, pair_always, pair_append}

pub range_more : (a n : ℕ) → range_with_len a (n + 1) ≡ range_with_len a n ++ (a + n) ∷ []
range_more a zero = ap (λ k. k ∷ []) (omega arith)
range_more a (suc n) =
    let more : suc n + 1 ≡ suc (n + 1) = omega arith in
    let further : a + 1 + n ≡ a + suc n = omega arith in
    ap (range_with_len a) more ∙ ap (λ rest. a ∷ rest) (range_more (a + 1) n ∙ ap (λ k. range_with_len (a + 1) n ++ k ∷ []) further)

-- a fold over the stages is one stage after another
fold_stages : {P : Type 0} (step : P → ℕ → P) (run : ℕ → P) → ((s : ℕ) → run (suc s) ≡ step (run s) (suc s)) → (n : ℕ) → fold step (run 0) (range_with_len 1 n) ≡ run n
fold_stages step run goes zero = refl
fold_stages step run goes (suc n) =
    let more : suc n ≡ n + 1 = omega arith in
    let last : 1 + n ≡ suc n = omega arith in
    ap (λ k. fold step (run 0) (range_with_len 1 k)) more
    ∙ ap (fold step (run 0)) (range_more 1 n)
    ∙ fold-append step (run 0) (range_with_len 1 n) ((1 + n) ∷ [])
    ∙ ap (λ k. step (fold step (run 0) (range_with_len 1 n)) k) last
    ∙ ap (λ p. step p (suc n)) (fold_stages step run goes n)
    ∙ sym (goes n)

regrouped : {X : Type 0} (a b c d e : List X) → a ++ ((b ++ (c ++ d)) ++ e) ≡ (a ++ b) ++ (c ++ (d ++ e))
regrouped a b c d e = ap (λ xs. a ++ xs) (append_assoc b (c ++ d) e ∙ ap (λ xs. b ++ xs) (append_assoc c d e)) ∙ sym (append_assoc a b (c ++ (d ++ e)))

-- what a stage does with an instruction that is part of the way
abbrev pub stage_effect : Design → List Card → (ℕ → ℕ → ℕ) → ℕ → ℕ → ℕ → Partway → StageEffect
stage_effect design cards input place word stage part = fire design cards stage place word part.locals part.storages input

-- an instruction after its first stages
pub after_stages : Design → List Card → (ℕ → ℕ → ℕ) → ℕ → ℕ → ℕ → Storages → ℕ → Partway
after_stages design cards input number place word storages zero = record { storages = storages; locals = []; target = None; log = [] }
after_stages design cards input number place word storages (suc s) =
    let part = after_stages design cards input number place word storages s in
    through_stage number (suc s) part (stage_effect design cards input place word (suc s) part)

-- entries of two pairs in the order of one at a time
abbrev pub IsLater : Entry → Entry → Type 0
IsLater e f = (e.number < f.number) ⊎ ((e.number ≡ f.number) × (e.stage ≤ f.stage))

module _ (design : Design) (cards : List Card) (image : Image) (samples : List Sample) where
  abbrev pub at_number : ℕ → Progress
  at_number i = sequential design cards image samples i

  abbrev pub word_of : ℕ → ℕ
  word_of i = slice_index image.code (at_number i).pc

  -- instruction i after s stages, and what its next stage does
  pub part_of : ℕ → ℕ → Partway
  part_of i s = after_stages design cards (sample_input samples i) i (at_number i).pc (word_of i) (at_number i).storages s

  pub effect_of : ℕ → ℕ → StageEffect
  effect_of i s = stage_effect design cards (sample_input samples i) (at_number i).pc (word_of i) (suc s) (part_of i s)

  pub part_none : (i : ℕ) → part_of i 0 ≡ record { storages = (at_number i).storages; locals = []; target = None; log = [] }
  unfolding part_of after_stages
  part_none i = refl

  pub part_more : (i s : ℕ) → part_of i (suc s) ≡ through_stage i (suc s) (part_of i s) (effect_of i s)
  unfolding part_of after_stages effect_of
  part_more i s = refl

  pub effect_is : (i s : ℕ) → effect_of i s ≡ fire design cards (suc s) (at_number i).pc (word_of i) (part_of i s).locals (part_of i s).storages (sample_input samples i)
  unfolding effect_of
  effect_is i s = refl

  numbered : (i : ℕ) → (at_number i).next ≡ i
  unfolding sequential
  numbered zero = refl
  numbered (suc i) = let e = numbered i in omega arith

  -- the whole of an instruction is what it has done after all stages
  whole : (i : ℕ) → next_instruction design cards image samples (at_number i) ≡ part_of i (design.stages - 1)
  unfolding next_instruction whole_instruction part_of after_stages
  whole i =
      ap (λ n. whole_instruction design cards (sample_input samples n) n (at_number i).pc (word_of i) (at_number i).storages) (numbered i)
      ∙ fold_stages (λ (part : Partway) stage. through_stage i stage part (fire design cards stage (at_number i).pc (word_of i) part.locals part.storages (sample_input samples i)))
      (after_stages design cards (sample_input samples i) i (at_number i).pc (word_of i) (at_number i).storages) (λ s. refl) (design.stages - 1)

  -- the state after one more instruction
  pub next_number : (i : ℕ) → at_number (suc i) ≡ after_instruction design (at_number i) (part_of i (design.stages - 1))
  unfolding sequential
  next_number i = ap (after_instruction design (at_number i)) (whole i)

  pub first_number : at_number 0 ≡ sequential_start design image
  unfolding sequential
  first_number = refl

  pub taken_is : (i : ℕ) → taken_by design cards image samples i ≡ (part_of i (design.stages - 1)).target
  taken_is i = ap (λ (p : Partway). p.target) (whole i)

  -- The log.

  abbrev pub log_of : ℕ → List Entry
  log_of i = (at_number i).log

  pub log_more : (i : ℕ) → log_of (suc i) ≡ log_of i ++ (part_of i (design.stages - 1)).log
  log_more i = ap (λ (p : Progress). p.log) (next_number i)

  pub part_log : (i s : ℕ) → (part_of i (suc s)).log ≡ (part_of i s).log ++ entries_of (suc s) i (effect_of i s)
  part_log i s = ap (λ (p : Partway). p.log) (part_more i s)

  pub part_log_none : (i : ℕ) → (part_of i 0).log ≡ []
  part_log_none i = ap (λ (p : Partway). p.log) (part_none i)

  abbrev pub IsOf : ℕ → ℕ → Entry → Type 0
  IsOf i stage e = (e.number ≡ i) × (e.stage ≡ stage)

  pub entries_are : (i stage : ℕ) (effect : StageEffect) → Each (IsOf i stage) (entries_of stage i effect)
  entries_are i stage effect = each_map (IsOf i stage) (entry_of stage i) effect.writes (each_always (λ (w : PortWrite). IsOf i stage (entry_of stage i w)) (λ w. (refl, refl)) effect.writes)

  -- an entry of an instruction after s stages
  abbrev pub IsWithin : ℕ → ℕ → Entry → Type 0
  IsWithin i s e = (e.number ≡ i) × (1 ≤ e.stage) × (e.stage ≤ s)

  pub part_within : (i s : ℕ) → Each (IsWithin i s) (part_of i s).log
  part_within i zero = subst (Each (IsWithin i 0)) (sym (part_log_none i)) tt
  part_within i (suc s) =
      subst (Each (IsWithin i (suc s))) (sym (part_log i s))
      (each_append (IsWithin i (suc s)) (part_of i s).log (entries_of (suc s) i (effect_of i s))
      (each_as (IsWithin i s) (IsWithin i (suc s)) (λ e h. (h.0, h.1, let le = h.2 in omega arith)) (part_of i s).log (part_within i s))
      (each_as (IsOf i (suc s)) (IsWithin i (suc s)) (λ e h. (h.0, (let is = h.1 in omega arith), (let is = h.1 in omega arith))) (entries_of (suc s) i (effect_of i s)) (entries_are i (suc s) (effect_of i s))))

  -- an entry of the first instructions
  abbrev pub IsBelow : ℕ → Entry → Type 0
  IsBelow n e = (e.number < n) × (1 ≤ e.stage) × (e.stage ≤ design.stages - 1)

  pub log_below : (n : ℕ) → Each (IsBelow n) (log_of n)
  log_below zero = subst (λ (p : Progress). Each (IsBelow 0) p.log) (sym first_number) tt
  log_below (suc n) =
      subst (Each (IsBelow (suc n))) (sym (log_more n))
      (each_append (IsBelow (suc n)) (log_of n) (part_of n (design.stages - 1)).log
      (each_as (IsBelow n) (IsBelow (suc n)) (λ e h. ((let less = h.0 in omega arith), h.1, h.2)) (log_of n) (log_below n))
      (each_as (IsWithin n (design.stages - 1)) (IsBelow (suc n)) (λ e h. ((let is = h.0 in omega arith), h.1, h.2)) (part_of n (design.stages - 1)).log (part_within n (design.stages - 1))))

  -- The log of an instruction, at one of its stages.

  abbrev pub IsBehind : ℕ → ℕ → Entry → Type 0
  IsBehind i stage e = (i < e.number) ⊎ ((e.number ≡ i) × (stage < e.stage))

  part_rest : (i s r : ℕ) → (rest : List Entry) × ((part_of i (suc s + r)).log ≡ (part_of i s).log ++ (entries_of (suc s) i (effect_of i s) ++ rest)) × Each (IsBehind i (suc s)) rest
  part_rest i s zero =
      let none : suc s + 0 ≡ suc s = omega arith in
      ([], ap (λ n. (part_of i n).log) none ∙ part_log i s ∙ ap (λ ys. (part_of i s).log ++ ys) (sym (append-nil (entries_of (suc s) i (effect_of i s)))), tt)
  part_rest i s (suc r) =
      let before = part_rest i s r in
      let more : suc s + suc r ≡ suc (suc s + r) = omega arith in
      let block = entries_of (suc (suc s + r)) i (effect_of i (suc s + r)) in (
        before.0 ++ block,
        ap (λ n. (part_of i n).log) more ∙ part_log i (suc s + r) ∙ ap (λ xs. xs ++ block) before.1
            ∙ append_assoc (part_of i s).log (entries_of (suc s) i (effect_of i s) ++ before.0) block
            ∙ ap (λ ys. (part_of i s).log ++ ys) (append_assoc (entries_of (suc s) i (effect_of i s)) before.0 block),
        each_append (IsBehind i (suc s)) before.0 block before.2
            (each_as (IsOf i (suc (suc s + r))) (IsBehind i (suc s)) (λ e h. inr (h.0, (let is = h.1 in omega arith))) block (entries_are i (suc (suc s + r)) (effect_of i (suc s + r)))),
      )

  log_rest : (i r : ℕ) → (rest : List Entry) × (log_of (suc i + r) ≡ log_of i ++ ((part_of i (design.stages - 1)).log ++ rest)) × Each (λ (e : Entry). i < e.number) rest
  log_rest i zero =
      let none : suc i + 0 ≡ suc i = omega arith in
      ([], ap log_of none ∙ log_more i ∙ ap (λ ys. log_of i ++ ys) (sym (append-nil (part_of i (design.stages - 1)).log)), tt)
  log_rest i (suc r) =
      let before = log_rest i r in
      let more : suc i + suc r ≡ suc (suc i + r) = omega arith in
      let block = (part_of (suc i + r) (design.stages - 1)).log in (
        before.0 ++ block,
        ap log_of more ∙ log_more (suc i + r) ∙ ap (λ xs. xs ++ block) before.1
            ∙ append_assoc (log_of i) ((part_of i (design.stages - 1)).log ++ before.0) block
            ∙ ap (λ ys. log_of i ++ ys) (append_assoc (part_of i (design.stages - 1)).log before.0 block),
        each_append (λ (e : Entry). i < e.number) before.0 block before.2
            (each_as (IsWithin (suc i + r) (design.stages - 1)) (λ (e : Entry). i < e.number) (λ e h. (let is = h.0 in omega arith)) block (part_within (suc i + r) (design.stages - 1))),
      )

  -- later instructions add entries behind
  pub log_from : (n r : ℕ) → (rest : List Entry) × (log_of (n + r) ≡ log_of n ++ rest) × Each (λ (e : Entry). n ≤ e.number) rest
  log_from n zero = let none : n + 0 ≡ n = omega arith in ([], ap log_of none ∙ sym (append-nil (log_of n)), tt)
  log_from n (suc r) =
      let before = log_from n r in
      let more : n + suc r ≡ suc (n + r) = omega arith in
      let block = (part_of (n + r) (design.stages - 1)).log in (
        before.0 ++ block,
        ap log_of more ∙ log_more (n + r) ∙ ap (λ xs. xs ++ block) before.1 ∙ append_assoc (log_of n) before.0 block,
        each_append (λ (e : Entry). n ≤ e.number) before.0 block before.2
            (each_as (IsWithin (n + r) (design.stages - 1)) (λ (e : Entry). n ≤ e.number) (λ e h. (let is = h.0 in omega arith)) block (part_within (n + r) (design.stages - 1))),
      )

  -- the entries of a pair in the log: what stands before them, and what behind
  pub record IsAtPair (n i s : ℕ) : Type 0 where
    pub rest : List Entry
    pub whole : log_of n ≡ (log_of i ++ (part_of i s).log) ++ (entries_of (suc s) i (effect_of i s) ++ rest)
    pub behind : Each (IsBehind i (suc s)) rest

  pub at_pair : (n i s : ℕ) → i < n → s < design.stages - 1 → IsAtPair n i s
  at_pair n i s less low =
      let one = part_rest i s (design.stages - 1 - suc s) in
      let two = log_rest i (n - suc i) in
      let stages : suc s + (design.stages - 1 - suc s) ≡ design.stages - 1 = omega arith in
      let numbers : suc i + (n - suc i) ≡ n = omega arith in
      let part : (part_of i (design.stages - 1)).log ≡ (part_of i s).log ++ (entries_of (suc s) i (effect_of i s) ++ one.0) = ap (λ k. (part_of i k).log) (sym stages) ∙ one.1 in
      record {
        rest = one.0 ++ two.0;
        whole = ap log_of (sym numbers) ∙ two.1 ∙ ap (λ xs. log_of i ++ (xs ++ two.0)) part
            ∙ regrouped (log_of i) (part_of i s).log (entries_of (suc s) i (effect_of i s)) one.0 two.0;
        behind = each_append (IsBehind i (suc s)) one.0 two.0 one.2 (each_as (λ (e : Entry). i < e.number) (IsBehind i (suc s)) (λ e h. inl h) two.0 two.2);
      }

  -- what stands before a pair
  abbrev pub IsBefore : ℕ → ℕ → Entry → Type 0
  IsBefore i stage e = (1 ≤ e.stage) × ((e.number < i) ⊎ ((e.number ≡ i) × (e.stage < stage)))

  pub before_pair : (i s : ℕ) → Each (IsBefore i (suc s)) (log_of i ++ (part_of i s).log)
  before_pair i s =
      each_append (IsBefore i (suc s)) (log_of i) (part_of i s).log
      (each_as (IsBelow i) (IsBefore i (suc s)) (λ e h. (h.1, inl h.0)) (log_of i) (log_below i))
      (each_as (IsWithin i s) (IsBefore i (suc s)) (λ e h. (h.1, inr (h.0, (let le = h.2 in omega arith)))) (part_of i s).log (part_within i s))

  -- the log goes by numbers and stages
  part_sorted : (i s : ℕ) → EachPair IsLater (part_of i s).log
  part_sorted i zero = subst (EachPair IsLater) (sym (part_log_none i)) tt
  part_sorted i (suc s) =
      let block = entries_of (suc s) i (effect_of i s) in
      subst (EachPair IsLater) (sym (part_log i s))
      (pair_append IsLater (part_of i s).log block (part_sorted i s)
      (pair_always (IsOf i (suc s)) IsLater (λ e f one two. inr (one.0 ∙ sym two.0, (let a = one.1 in let b = two.1 in omega arith))) block (entries_are i (suc s) (effect_of i s)))
      (each_as (IsWithin i s) (λ e. Each (IsLater e) block)
      (λ e h. each_as (IsOf i (suc s)) (IsLater e) (λ f g. inr (h.0 ∙ sym g.0, (let a = h.2 in let b = g.1 in omega arith))) block (entries_are i (suc s) (effect_of i s)))
      (part_of i s).log (part_within i s)))

  pub log_sorted : (n : ℕ) → EachPair IsLater (log_of n)
  log_sorted zero = subst (λ (p : Progress). EachPair IsLater p.log) (sym first_number) tt
  log_sorted (suc n) =
      let block = (part_of n (design.stages - 1)).log in
      subst (EachPair IsLater) (sym (log_more n))
      (pair_append IsLater (log_of n) block (log_sorted n) (part_sorted n (design.stages - 1))
      (each_as (IsBelow n) (λ e. Each (IsLater e) block)
      (λ e h. each_as (IsWithin n (design.stages - 1)) (IsLater e) (λ f g. inl (let a = h.0 in let b = g.0 in omega arith)) block (part_within n (design.stages - 1)))
      (log_of n) (log_below n)))
