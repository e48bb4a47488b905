-- The samples that the machine keeps: those of an unkilled number stay, and each is what the input was when its line fired.
use Rattle.std.proofs.Common.{◌≡◌, ℕ, ◌==◌, ◌||◌, ◌&&◌, Bool, true, false, cond, List, [], ◌∷◌, ◌++◌, filter, filter_map, find, map, Option, Some, None, option_map, refl, sym, ap, ◌∙◌, append_assoc}
use Rattle.std.proofs.lemmas.Bool.{both_ways, cond-true, cond-false, eq-eqb, eqb-true, false_from_ne_true, or_left, or_right}
use Rattle.std.proofs.lemmas.List.Elements.{filter-append, filter_map-append}
use Rattle.std.specs.List.{AllByRecursion as Each, cons_option, list_any}
use Rattle.ap_bits.specs.declared.card.Card.{Card}
use Rattle.ap_desc.specs.declared.design.Design.{Design}
use Rattle.ap_desc.specs.declared.design.Instr.{Instr}
use Rattle.ap_desc.specs.declared.design.Micro.{Micro}
use Rattle.ap_model.proofs.StageLemmas.{within}
use Rattle.ap_model.specs.declared.state.InputRead.{InputRead}
use Rattle.ap_model.specs.declared.state.Sample.{Sample}
use Rattle.ap_model.specs.declared.storage.Storages.{Storages}
use Rattle.ap_model.specs.Fire.{fire, input_of, instr_effect, instr_of, lines_in, read_of}
use Rattle.ap_space.proofs.Locals.{IsSampled}
use Rattle.ap_space.proofs.Passed.{any_append}
use Rattle.ap_space.proofs.SameFire.{WordSamples}

abbrev pub is_sample : ℕ → ℕ → Sample → Bool
is_sample number line s = (s.number == number) && (s.line == line)

-- the sample of a number at a line
abbrev pub found : ℕ → ℕ → List Sample → Option Sample
found number line samples = find (is_sample number line) samples

-- Lists.

pub find_kept : {X : Type 0} (t q : X → Bool) → ((x : X) → t x ≡ true → q x ≡ true) → (xs : List X) → find t (filter q xs) ≡ find t xs
find_kept t q keeps [] = refl
find_kept {X} t q keeps (x ∷ xs) = by_test (q x) refl (find_kept t q keeps xs)
  where
    by_test : (b : Bool) → q x ≡ b → find t (filter q xs) ≡ find t xs → find t (cond b (x ∷ filter q xs) (filter q xs)) ≡ cond (t x) (Some x) (find t xs)
    by_test true e rest = ap (cond (t x) (Some x)) rest
    by_test false e rest = rest ∙ sym (cond-false (t x) (Some x) (find t xs) (false_from_ne_true (t x) (λ h. both_ways (q x) e (keeps x h))))

pub find_first : {X : Type 0} (t : X → Bool) (xs ys : List X) (x : X) → find t xs ≡ Some x → find t (xs ++ ys) ≡ Some x
find_first t [] ys x e = absurd cc
find_first {X} t (y ∷ xs) ys x e = by_test (t y) e (λ f. find_first t xs ys x f)
  where
    by_test : (b : Bool) → cond b (Some y) (find t xs) ≡ Some x → (find t xs ≡ Some x → find t (xs ++ ys) ≡ Some x) → cond b (Some y) (find t (xs ++ ys)) ≡ Some x
    by_test true f later = f
    by_test false f later = later f

pub find_later : {X : Type 0} (t : X → Bool) (xs ys : List X) → Each (λ x. t x ≡ true → ⊥) xs → find t (xs ++ ys) ≡ find t ys
find_later t [] ys none = refl
find_later t (x ∷ xs) ys none = cond-false (t x) (Some x) (find t (xs ++ ys)) (false_from_ne_true (t x) none.0) ∙ find_later t xs ys none.1

-- what is found passes, and has what each has
pub record IsFoundWith {X : Type 0} (t : X → Bool) (P : X → Type 0) (xs : List X) : Type 0 where
  pub item : X
  pub is : find t xs ≡ Some item
  pub passes : t item ≡ true
  pub with_it : P item

pub find_with : {X : Type 0} (t : X → Bool) (P : X → Type 0) (xs : List X) → Each P xs → list_any t xs ≡ true → IsFoundWith t P xs
find_with t P [] each e = absurd cc
find_with {X} t P (x ∷ xs) each e = by_test (t x) refl e (λ f. find_with t P xs each.1 f)
  where
    by_test : (b : Bool) → t x ≡ b → (b || list_any t xs) ≡ true → (list_any t xs ≡ true → IsFoundWith t P xs) → IsFoundWith t P (x ∷ xs)
    by_test true is f later = record { item = x; is = cond-true (t x) (Some x) (find t xs) is; passes = is; with_it = each.0 }
    by_test false is f later = (let rest = later f in record { item = rest.item; is = cond-false (t x) (Some x) (find t xs) is ∙ rest.is; passes = rest.passes; with_it = rest.with_it })

any_found : {X Y : Type 0} (t : Y → Bool) (g : X → Option Y) (earlier : List X) (m : X) (rest : List X) (y : Y) → g m ≡ Some y → t y ≡ true → list_any t (filter_map g (earlier ++ m ∷ rest)) ≡ true
any_found t g earlier m rest y e passes =
    ap (list_any t) (filter_map-append g earlier (m ∷ rest) ∙ ap (λ o. filter_map g earlier ++ cons_option o (filter_map g rest)) e)
    ∙ any_append t (filter_map g earlier) (y ∷ filter_map g rest)
    ∙ or_right (list_any t (filter_map g earlier)) (t y || list_any t (filter_map g rest)) (or_left (t y) (list_any t (filter_map g rest)) passes)

pub any_mapped : {X Y : Type 0} (t : Y → Bool) (g : X → Y) (xs : List X) → list_any t (map g xs) ≡ list_any (λ x. t (g x)) xs
any_mapped t g [] = refl
any_mapped t g (x ∷ xs) = ap (λ b. t (g x) || b) (any_mapped t g xs)

-- What a stage samples.

-- a sample of a word in a stage: the value of an input at one of its lines there
pub record IsReadBy (design : Design) (word stage : ℕ) (input : ℕ → ℕ → ℕ) (r : InputRead) : Type 0 where
  pub port : ℕ
  pub samples : WordSamples design word stage r.line port
  pub value : r.value ≡ input r.line port

module _ (design : Design) (word stage : ℕ) (instr : Instr) (at : instr_of design word ≡ Some instr) (input : ℕ → ℕ → ℕ) where
  reads_by : (rest done : List Micro) → instr.micros ≡ done ++ rest → Each (IsReadBy design word stage input) (filter_map (read_of input) (within stage rest))
  reads_by [] done whole = tt
  reads_by (m ∷ rest) done whole = by_stage (m.stage == stage) refl (reads_by rest (done ++ m ∷ []) (whole ∙ sym (append_assoc done (m ∷ []) rest)))
    where
      by_read : m.stage ≡ stage → (o : Option ℕ) → input_of m.act ≡ o → Each (IsReadBy design word stage input) (filter_map (read_of input) (within stage rest))
          → Each (IsReadBy design word stage input) (cons_option (option_map (λ port. record { line = m.line; value = input m.line port }) o) (filter_map (read_of input) (within stage rest)))
      by_read here None e later = later
      by_read here (Some p) e later = (
        record {
          port = p;
          samples = (instr, at, record { micro = m; earlier = done; rest = rest; whole = whole; in_stage = here; at_line = refl; reads_it = e });
          value = refl;
        },
        later,
      )

      by_stage : (b : Bool) → (m.stage == stage) ≡ b → Each (IsReadBy design word stage input) (filter_map (read_of input) (within stage rest))
          → Each (IsReadBy design word stage input) (filter_map (read_of input) (cond b (m ∷ within stage rest) (within stage rest)))
      by_stage true e later = by_read (eqb-true m.stage stage e) (input_of m.act) refl later
      by_stage false e later = later

  reads_listed : (line port : ℕ) → IsSampled instr stage line port → list_any (λ (r : InputRead). r.line == line) (filter_map (read_of input) (lines_in stage instr)) ≡ true
  reads_listed line port s =
      let m = s.micro in
      let read : InputRead = record { line = m.line; value = input m.line port } in
      let list : lines_in stage instr ≡ within stage s.earlier ++ m ∷ within stage s.rest =
      ap (within stage) s.whole ∙ filter-append (λ (m : Micro). m.stage == stage) s.earlier (m ∷ s.rest) ∙ ap (λ ms. within stage s.earlier ++ ms) (cond-true (m.stage == stage) (m ∷ within stage s.rest) (within stage s.rest) (eq-eqb m.stage stage s.in_stage)) in
      ap (λ ms. list_any (λ (r : InputRead). r.line == line) (filter_map (read_of input) ms)) list
      ∙ any_found (λ (r : InputRead). r.line == line) (read_of input) (within stage s.earlier) m (within stage s.rest) read (ap (option_map (λ p. record { line = m.line; value = input m.line p })) s.reads_it) (eq-eqb m.line line s.at_line)

pub reads_are : (design : Design) (cards : List Card) (stage place word : ℕ) (locals : List ℕ) (s : Storages) (input : ℕ → ℕ → ℕ) → Each (IsReadBy design word stage input) (fire design cards stage place word locals s input).reads
unfolding fire
reads_are design cards stage place word locals s input = by_instr (instr_of design word) refl
  where
    by_instr : (o : Option Instr) → instr_of design word ≡ o → Each (IsReadBy design word stage input) (instr_effect design cards stage place word locals s input o).reads
    by_instr None e = tt
    by_instr (Some instr) e = reads_by design word stage instr e input instr.micros [] refl

pub read_listed : (design : Design) (cards : List Card) (stage place word : ℕ) (locals : List ℕ) (s : Storages) (input : ℕ → ℕ → ℕ) (line port : ℕ) → WordSamples design word stage line port
    → list_any (λ (r : InputRead). r.line == line) (fire design cards stage place word locals s input).reads ≡ true
unfolding fire
read_listed design cards stage place word locals s input line port sample =
    ap (λ o. list_any (λ (r : InputRead). r.line == line) (instr_effect design cards stage place word locals s input o).reads) sample.1
    ∙ reads_listed design word stage sample.0 sample.1 input line port sample.2
