-- Writers beside the lines of a stage: the one of the word's instruction, and no other, has a condition that is 1.
use Rattle.std.proofs.Common.{◌≡◌, ℕ, zero, suc, ◌+◌, ◌^◌, ◌<◌, ◌&&◌, ◌||◌, Bool, true, false, if◌then◌else◌, List, [], ◌∷◌, Option, Some, None, filter_map, refl, sym, ap, subst, ◌∙◌, arith, eqb-true}
use Rattle.std.specs.Prelude.{find, option_and_then, slice_get}
use Rattle.std.specs.List.{AllByRecursion as Each, cons_option, enumerate_from, list_any}
use Rattle.std.specs.Option.{option_map_or}
use Rattle.std.proofs.lemmas.Bool.{false_from_ne_true}
use Rattle.std.proofs.lemmas.Option.{same_Some}
use Rattle.ap_desc.specs.Designs.{Matches}
use Rattle.ap_desc.specs.Sound.{AreApart, ShareNoWord}
use Rattle.ap_desc.specs.declared.design.Act.{Act}
use Rattle.ap_desc.specs.declared.design.Act.TheVariants as act
use Rattle.ap_desc.specs.declared.design.Arg.{Arg}
use Rattle.ap_desc.specs.declared.design.Design.{Design}
use Rattle.ap_desc.specs.declared.design.Instr.{Instr}
use Rattle.ap_desc.specs.declared.design.Micro.{Micro}
use Rattle.ap_model.specs.Fire.{is_match}
use Rattle.ap_net.specs.Readings.{Reading}
use Rattle.ap_ctl.specs.Building.{is_on}
use Rattle.ap_effect.specs.declared.line.PortLine.{PortLine}
use Rattle.ap_effect.specs.declared.write.Writer.{Writer}
use Rattle.ap_effect.specs.Lines.{handed_by, is_line_of, line_of}
use Rattle.ap_effect.specs.Shown.{AreWritersOf, IsWriterOf}
use Rattle.ap_effect.specs.Writers.{IsOnlyWriter, is_acting}

-- a line says of which instruction it is
handed_instr : (n : ℕ) (a : Act) (l : PortLine) → handed_by n a ≡ Some l → l.instr ≡ n
handed_instr n (act.WriteFile file port index value guard) l e = ap (λ (x : PortLine). x.instr) (sym (same_Some _ l e))
handed_instr n (act.WriteReg reg value guard) l e = ap (λ (x : PortLine). x.instr) (sym (same_Some _ l e))
handed_instr n (act.WriteMem mem at value guard) l e = ap (λ (x : PortLine). x.instr) (sym (same_Some _ l e))
handed_instr n (act.Branch cond target) l e = ap (λ (x : PortLine). x.instr) (sym (same_Some _ l e))
handed_instr n (act.Jump target) l e = ap (λ (x : PortLine). x.instr) (sym (same_Some _ l e))
handed_instr n _ l e = cc

line_instr : (is_one : Act → Bool) (stage n : ℕ) (i : Instr) (l : PortLine) → line_of is_one stage (n, i) ≡ Some l → l.instr ≡ n
line_instr is_one stage n i l e = go (find (is_line_of is_one stage) i.micros) e
  where
    go : (o : Option Micro) → option_and_then (λ (m : Micro). handed_by n m.act) o ≡ Some l → l.instr ≡ n
    go None x = cc
    go (Some m) x = handed_instr n m.act l x

-- Which instruction a word matches.

-- an instruction that shares no word with one that the word matches isn't matched
unmatched : (bits word : ℕ) (one : Instr) (instrs : List Instr) → word < 2 ^ bits → is_match word one ≡ true → Each (ShareNoWord bits one) instrs → Each (λ (i : Instr). is_match word i ≡ false) instrs
unmatched bits word one [] lt m each = tt
unmatched bits word one (i ∷ instrs) lt m each = (false_from_ne_true (is_match word i) (λ n. each.0 word lt (eqb-true _ _ m) (eqb-true _ _ n)), unmatched bits word one instrs lt m each.1)

module _ (design : Design) (word : ℕ) (value : Arg → ℕ) (r : Reading) (is_one : Act → Bool) (stage : ℕ) where
  abbrev lines_from : ℕ → List Instr → List PortLine
  lines_from n instrs = filter_map (line_of is_one stage) (enumerate_from n instrs)

  -- these are the design's instructions from this number on
  abbrev AreFrom : ℕ → List Instr → Type 0
  AreFrom n instrs = (k : ℕ) (i : Instr) → slice_get instrs k ≡ Some i → slice_get design.instrs (n + k) ≡ Some i

  first_from : (n : ℕ) (x : Instr) (instrs : List Instr) → AreFrom n (x ∷ instrs) → slice_get design.instrs n ≡ Some x
  first_from n x instrs from = let e : n + 0 ≡ n = omega arith in subst (λ k. slice_get design.instrs k ≡ Some x) e (from 0 x refl)

  rest_from : (n : ℕ) (x : Instr) (instrs : List Instr) → AreFrom n (x ∷ instrs) → AreFrom (n + 1) instrs
  rest_from n x instrs from k i at = let e : n + suc k ≡ n + 1 + k = omega arith in subst (λ k. slice_get design.instrs k ≡ Some i) e (from (suc k) i at)

  abbrev pub AreOff : List Writer → Type 0
  AreOff writers = Each (λ (w : Writer). is_on r w.cond ≡ false) writers

  -- the condition of the first writer
  first_cond : (n : ℕ) (x : Instr) (l : PortLine) (w : Writer) → slice_get design.instrs n ≡ Some x → line_of is_one stage (n, x) ≡ Some l → IsWriterOf design word value r l w → is_on r w.cond ≡ is_match word x
  first_cond n x l w at is h = h.cond x (ap (slice_get design.instrs) (line_instr is_one stage n x l is) ∙ at)

  -- where the word matches none of the instructions, no condition is 1
  pub all_off : (n : ℕ) (instrs : List Instr) (writers : List Writer) → AreFrom n instrs → Each (λ (i : Instr). is_match word i ≡ false) instrs → AreWritersOf design word value r (lines_from n instrs) writers → AreOff writers
  all_off n [] [] from none are = tt
  all_off n [] (w ∷ writers) from none are = absurd are
  all_off n (x ∷ instrs) writers from none are = go (line_of is_one stage (n, x)) refl writers are (λ ws h. all_off (n + 1) instrs ws (rest_from n x instrs from) none.1 h)
    where
      go : (o : Option PortLine) → line_of is_one stage (n, x) ≡ o → (ws : List Writer) → AreWritersOf design word value r (cons_option o (lines_from (n + 1) instrs)) ws
          → ((vs : List Writer) → AreWritersOf design word value r (lines_from (n + 1) instrs) vs → AreOff vs) → AreOff ws
      go None is ws h rest = rest ws h
      go (Some l) is [] h rest = absurd h
      go (Some l) is (w ∷ ws) h rest = (first_cond n x l w (first_from n x instrs from) is h.0 ∙ none.0, rest ws h.1)

  -- no writer acts
  pub none_acts : (writers : List Writer) → AreOff writers → list_any (is_acting r) writers ≡ false
  none_acts [] off = refl
  none_acts (w ∷ writers) off = ap (λ b. (b && option_map_or (is_on r) w.guard true) || list_any (is_acting r) writers) off.0 ∙ none_acts writers off.1

  get_off : (writers : List Writer) (k : ℕ) (w : Writer) → AreOff writers → slice_get writers k ≡ Some w → is_on r w.cond ≡ true → ⊥
  get_off [] k w off at on = cc
  get_off (v ∷ writers) zero w off at on = let same : v ≡ w = same_Some v w at in let never : true ≡ false = sym on ∙ ap (λ (x : Writer). is_on r x.cond) (sym same) ∙ off.0 in cc
  get_off (v ∷ writers) (suc k) w off at on = get_off writers k w off.1 at on

  -- the writer of a line, whose condition alone is 1
  pub record IsFound (line : PortLine) (writers : List Writer) : Type 0 where
    pub place : ℕ
    pub writer : Writer
    pub at : slice_get writers place ≡ Some writer
    pub of : IsWriterOf design word value r line writer
    pub on : is_on r writer.cond ≡ true
    pub only : IsOnlyWriter r writers place
    pub acts : list_any (is_acting r) writers ≡ is_acting r writer

  -- what is found of an instruction's line, where it has one
  abbrev pub Finds : Option PortLine → List Writer → Type 0
  Finds None writers = AreOff writers
  Finds (Some line) writers = IsFound line writers

  -- the first writer, where the others are off
  found_first : (l : PortLine) (w : Writer) (writers : List Writer) → IsWriterOf design word value r l w → is_on r w.cond ≡ true → AreOff writers → IsFound l (w ∷ writers)
  found_first l w writers h on off = record {
    place = 0;
    writer = w;
    at = refl;
    of = h;
    on = on;
    only = record { on = λ v at. ap (λ (x : Writer). is_on r x.cond) (sym (same_Some w v at)) ∙ on; alone = alone };
    acts = ap (λ b. is_acting r w || b) (none_acts writers off) ∙ no_or (is_acting r w);
  }
    where
      alone : (other : ℕ) (v : Writer) → slice_get (w ∷ writers) other ≡ Some v → is_on r v.cond ≡ true → other ≡ 0
      alone zero v at is = refl
      alone (suc k) v at is = absurd (get_off writers k v off at is)

      no_or : (b : Bool) → (b || false) ≡ b
      no_or true = refl
      no_or false = refl

  -- after one that is off
  found_later : (o : Option PortLine) (w : Writer) (writers : List Writer) → is_on r w.cond ≡ false → Finds o writers → Finds o (w ∷ writers)
  found_later None w writers off h = (off, h)
  found_later (Some l) w writers off h = record {
    place = suc h.place;
    writer = h.writer;
    at = h.at;
    of = h.of;
    on = h.on;
    only = record { on = h.only.on; alone = alone };
    acts = ap (λ b. (b && option_map_or (is_on r) w.guard true) || list_any (is_acting r) writers) off ∙ h.acts;
  }
    where
      alone : (other : ℕ) (v : Writer) → slice_get (w ∷ writers) other ≡ Some v → is_on r v.cond ≡ true → other ≡ suc h.place
      alone zero v at is = let same : w ≡ v = same_Some w v at in let never : true ≡ false = sym is ∙ ap (λ (x : Writer). is_on r x.cond) (sym same) ∙ off in cc
      alone (suc k) v at is = ap suc (h.only.alone k v at is)

  -- the word matches the instruction at this place
  pub found : (bits n k : ℕ) (instrs : List Instr) (i : Instr) (writers : List Writer) → word < 2 ^ bits → AreApart bits instrs → AreFrom n instrs → slice_get instrs k ≡ Some i → is_match word i ≡ true → AreWritersOf design word value r (lines_from n instrs) writers → Finds (line_of is_one stage (n + k, i)) writers
  found bits n k [] i writers lt apart from at m are = cc
  found bits n zero (x ∷ instrs) i writers lt apart from at m are =
      let same : x ≡ i = same_Some x i at in
      let e : n ≡ n + 0 = omega arith in
      subst (λ (j : Instr). Finds (line_of is_one stage (n + 0, j)) writers) same (subst (λ j. Finds (line_of is_one stage (j, x)) writers) e (go (line_of is_one stage (n, x)) refl writers are))
    where
      matched : is_match word x ≡ true
      matched = ap (is_match word) (same_Some x i at) ∙ m

      go : (o : Option PortLine) → line_of is_one stage (n, x) ≡ o → (ws : List Writer) → AreWritersOf design word value r (cons_option o (lines_from (n + 1) instrs)) ws → Finds o ws
      go None is ws h = all_off (n + 1) instrs ws (rest_from n x instrs from) (unmatched bits word x instrs lt matched apart.0) h
      go (Some l) is [] h = absurd h
      go (Some l) is (w ∷ ws) h =
          found_first l w ws h.0 (first_cond n x l w (first_from n x instrs from) is h.0 ∙ matched) (all_off (n + 1) instrs ws (rest_from n x instrs from) (unmatched bits word x instrs lt matched apart.0) h.1)
  found bits n (suc k) (x ∷ instrs) i writers lt apart from at m are =
      let e : n + 1 + k ≡ n + suc k = omega arith in
      subst (λ j. Finds (line_of is_one stage (j, i)) writers) e (go (line_of is_one stage (n, x)) refl writers are (λ ws h. found bits (n + 1) k instrs i ws lt apart.1 (rest_from n x instrs from) at m h))
    where
      other : is_match word x ≡ false
      other = false_from_ne_true (is_match word x) (λ y. apart_at instrs k apart.0 at y)
        where
          apart_at : (js : List Instr) (k : ℕ) → Each (ShareNoWord bits x) js → slice_get js k ≡ Some i → is_match word x ≡ true → ⊥
          apart_at [] k each there y = cc
          apart_at (j ∷ js) zero each there y = let same : j ≡ i = same_Some j i there in each.0 word lt (eqb-true _ _ y) (subst (λ (z : Instr). Matches z word) (sym same) (eqb-true _ _ m))
          apart_at (j ∷ js) (suc k) each there y = apart_at js k each.1 there y

      go : (o : Option PortLine) → line_of is_one stage (n, x) ≡ o → (ws : List Writer) → AreWritersOf design word value r (cons_option o (lines_from (n + 1) instrs)) ws
          → ((vs : List Writer) → AreWritersOf design word value r (lines_from (n + 1) instrs) vs → Finds (line_of is_one stage (n + 1 + k, i)) vs) → Finds (line_of is_one stage (n + 1 + k, i)) ws
      go None is ws h rest = rest ws h
      go (Some l) is [] h rest = absurd h
      go (Some l) is (w ∷ ws) h rest = found_later (line_of is_one stage (n + 1 + k, i)) w ws (first_cond n x l w (first_from n x instrs from) is h.0 ∙ other) (rest ws h.1)

  pub whole : AreFrom 0 design.instrs
  whole k i at = let e : k ≡ 0 + k = omega arith in subst (λ j. slice_get design.instrs j ≡ Some i) e at

-- The place of an instruction that is found.

pub found_place : (word : ℕ) (instrs : List Instr) (i : Instr) → find (is_match word) instrs ≡ Some i → (k : ℕ) × (slice_get instrs k ≡ Some i) × (is_match word i ≡ true)
found_place word [] i e = cc
found_place word (x ∷ instrs) i e = go (is_match word x) refl e (λ h. found_place word instrs i h)
  where
    go : (b : Bool) → is_match word x ≡ b → (if b then Some x else find (is_match word) instrs) ≡ Some i → (find (is_match word) instrs ≡ Some i → (k : ℕ) × (slice_get instrs k ≡ Some i) × (is_match word i ≡ true)) → (k : ℕ) × (slice_get (x ∷ instrs) k ≡ Some i) × (is_match word i ≡ true)
    go true m h later = let same : x ≡ i = same_Some x i h in (0, ap Some same, ap (is_match word) (sym same) ∙ m)
    go false m h later = let rest = later h in (suc rest.0, rest.1, rest.2)

pub none_found : (word : ℕ) (instrs : List Instr) → find (is_match word) instrs ≡ None → Each (λ (i : Instr). is_match word i ≡ false) instrs
none_found word [] e = tt
none_found word (x ∷ instrs) e = go (is_match word x) refl e (λ h. none_found word instrs h)
  where
    go : (b : Bool) → is_match word x ≡ b → (if b then Some x else find (is_match word) instrs) ≡ None → (find (is_match word) instrs ≡ None → Each (λ (i : Instr). is_match word i ≡ false) instrs) → Each (λ (i : Instr). is_match word i ≡ false) (x ∷ instrs)
    go true m h rest = cc
    go false m h rest = (m, rest h)
