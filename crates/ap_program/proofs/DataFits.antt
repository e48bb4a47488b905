-- The words that data lines without fault give a memory fit it.
use Rattle.std.proofs.Common.{◌≡◌, ℕ, suc, ◌+◌, ◌^◌, ◌<◌, Bool, true, false, cond, not, List, [], ◌∷◌, ◌++◌, length, map, Option, Some, None, refl, sym, ap, subst, ◌∙◌, arith, ⊎_elim}
use Rattle.std.specs.Prelude.{nat_lt, option_and_then, option_map, slice_get}
use Rattle.std.specs.List.{AllByRecursion as Each, list_any}
use Rattle.std.specs.Option.{option_map_or}
use Rattle.std.specs.Str.{bytes_eq}
use Rattle.std.proofs.lemmas.Bool.{and_parts, cases_lt, false_from_ne_true, ltb-false, ltb-true, not-false, or_parts}
use Rattle.std.proofs.lemmas.Grind.{flat_map-append}
use Rattle.std.proofs.lemmas.List.{append-nil, append_assoc, length-append}
use Rattle.std.proofs.lemmas.Option.{slice_get-map}
use Rattle.std.proofs.lemmas.Slice.Eq.{bytes_eq-Decides}
use Rattle.ap_desc.specs.Clean.{IsClean}
use Rattle.ap_desc.specs.Parts.{file_names, input_names, mem_names, reg_names, unit_names}
use Rattle.ap_desc.specs.Sound.{are_distinct}
use Rattle.ap_desc.specs.declared.design.Design.{Design}
use Rattle.ap_desc.specs.declared.design.Mem.{Mem}
use Rattle.ap_desc.proofs.Splits.{each_append}
use Rattle.ap_enc.proofs.Places.{first_at, none_at}
use Rattle.ap_image.specs.FitsShape.{MemsFit, WordsFit}
use Rattle.ap_model.specs.DesignShape.{shape_of}
use Rattle.ap_program.specs.LineFaults.{AreFaultless, are_bad_words, is_bad_data}
use Rattle.ap_program.specs.Programs.{data_words, mem_named, words_by}
use Rattle.ap_program.specs.declared.fault.AsmKind.TheVariants as kind
use Rattle.ap_program.specs.declared.statement.ProgramLine.{ProgramLine}
use Rattle.ap_program.specs.declared.statement.Statement.{Statement}
use Rattle.ap_program.specs.declared.statement.Statement.TheVariants as says
use Rattle.ap_program.proofs.DistinctNames.{distinct_at, distinct_left, distinct_right}

-- the names of the memories differ
pub mems_once : (design : Design) → IsClean design → are_distinct (mem_names design) ≡ true
mems_once design clean =
    let parts = (and_parts _ _ (and_parts _ _ (and_parts _ _ clean.sound.once).0).0).0 in
    distinct_right (reg_names design ++ file_names design) (mem_names design)
    (distinct_left (reg_names design ++ file_names design ++ mem_names design) (input_names design)
    (distinct_left (reg_names design ++ file_names design ++ mem_names design ++ input_names design) (unit_names design) parts))

-- so the memory of a name is found
mem_found : (design : Design) → IsClean design → (k : ℕ) (mem : Mem) (name : List ℕ) → slice_get design.mems k ≡ Some mem → bytes_eq mem.name name ≡ true → mem_named design name ≡ Some k
mem_found design clean k mem name at same = by (mem_named design name) refl
  where
    name_at : (i : ℕ) (m : Mem) → slice_get design.mems i ≡ Some m → slice_get (mem_names design) i ≡ Some m.name
    name_at i m there = slice_get-map (λ (x : Mem). x.name) design.mems i ∙ ap (option_map (λ (x : Mem). x.name)) there

    alike : (m x : Mem) → bytes_eq m.name name ≡ true → bytes_eq x.name name ≡ true → bytes_eq m.name x.name ≡ true
    alike m x a b = (bytes_eq-Decides m.name x.name).1 ((bytes_eq-Decides m.name name).0 a ∙ sym ((bytes_eq-Decides x.name name).0 b))

    one : (n : ℕ) (m : Mem) → slice_get design.mems n ≡ Some m → bytes_eq m.name name ≡ true → n ≡ k
    one n m there passes = ⊎_elim
        (λ before. absurd (distinct_at (mem_names design) (mems_once design clean) n k m.name mem.name before (name_at n m there) (name_at k mem at) (alike m mem passes same)))
        (λ from. ⊎_elim
        (λ behind. absurd (distinct_at (mem_names design) (mems_once design clean) k n mem.name m.name behind (name_at k mem at) (name_at n m there) (alike mem m same passes)))
        (λ here. omega arith)
        (cases_lt k n))
        (cases_lt n k)

    by : (o : Option ℕ) → mem_named design name ≡ o → mem_named design name ≡ Some k
    by None e = absurd (none_at (λ (m : Mem). bytes_eq m.name name) design.mems e k mem at same)
    by (Some n) e = (let f = first_at (λ (m : Mem). bytes_eq m.name name) design.mems n e in e ∙ ap Some (one n f.item f.is_there f.passes))

all_narrow : (width : ℕ) (words : List ℕ) → list_any (λ word. not (nat_lt word (2 ^ width))) words ≡ false → Each (λ word. word < 2 ^ width) words
all_narrow width [] e = tt
all_narrow width (word ∷ words) e =
    let parts = or_parts (not (nat_lt word (2 ^ width))) (list_any (λ w. not (nat_lt w (2 ^ width))) words) e in
    (ltb-true word (2 ^ width) (not-false (nat_lt word (2 ^ width)) parts.0), all_narrow width words parts.1)

-- words that aren't bad fit behind those before
more_words : (before : List ProgramLine) (mem : Mem) (words : List ℕ) → are_bad_words before words mem ≡ false → WordsFit (data_words mem.name before) mem.address mem.width → WordsFit (data_words mem.name before ++ words) mem.address mem.width
more_words before mem words e fits =
    let parts = or_parts (list_any (λ word. not (nat_lt word (2 ^ mem.width))) words) (nat_lt (2 ^ mem.address) (length (data_words mem.name before) + length words)) e in
    let room = ltb-false (2 ^ mem.address) (length (data_words mem.name before) + length words) parts.1 in
    let all = length-append (data_words mem.name before) words in
    record { room = omega arith; each = each_append (λ word. word < 2 ^ mem.width) (data_words mem.name before) words fits.each (all_narrow mem.width words parts.0) }

module _ (design : Design) (clean : IsClean design) (lines : List ProgramLine) (faultless : AreFaultless design lines) (k : ℕ) (mem : Mem) (at : slice_get design.mems k ≡ Some mem) where
  -- a line more
  line_more : (front : List ProgramLine) (line : ProgramLine) (rest : List ProgramLine) → lines ≡ front ++ line ∷ rest → WordsFit (data_words mem.name front) mem.address mem.width → WordsFit (data_words mem.name front ++ words_by mem.name line.says) mem.address mem.width
  line_more front line rest among fits = by line.says refl
    where
      good : (name words : List ℕ) → line.says ≡ Some (says.Data name words) → is_bad_data design front (Some (says.Data name words)) ≡ false
      good name words e = false_from_ne_true (is_bad_data design front (Some (says.Data name words)))
          (λ bad. faultless kind.BadData line.number (record { before = front; line = line; after = rest; among = among; at = refl; holds = ap (is_bad_data design front) e ∙ bad }))

      mine : (name words : List ℕ) → line.says ≡ Some (says.Data name words) → bytes_eq mem.name name ≡ true → are_bad_words front words mem ≡ false
      mine name words e same =
          sym (ap (λ o. option_map_or (are_bad_words front words) (option_and_then (slice_get design.mems) o) true) (mem_found design clean k mem name at same) ∙ ap (λ o. option_map_or (are_bad_words front words) o true) at) ∙ good name words e

      by_name : (name words : List ℕ) (b : Bool) → bytes_eq mem.name name ≡ b → line.says ≡ Some (says.Data name words) → WordsFit (data_words mem.name front ++ (cond b words [])) mem.address mem.width
      by_name name words true same e = more_words front mem words (mine name words e same) fits
      by_name name words false same e = subst (λ ws. WordsFit ws mem.address mem.width) (sym (append-nil (data_words mem.name front))) fits

      by : (said : Option Statement) → line.says ≡ said → WordsFit (data_words mem.name front ++ words_by mem.name said) mem.address mem.width
      by (Some (says.Data name words)) e = by_name name words (bytes_eq mem.name name) refl e
      by (Some (says.Label name)) e = subst (λ ws. WordsFit ws mem.address mem.width) (sym (append-nil (data_words mem.name front))) fits
      by (Some (says.Instr call)) e = subst (λ ws. WordsFit ws mem.address mem.width) (sym (append-nil (data_words mem.name front))) fits
      by (Some (says.Slot call)) e = subst (λ ws. WordsFit ws mem.address mem.width) (sym (append-nil (data_words mem.name front))) fits
      by None e = subst (λ ws. WordsFit ws mem.address mem.width) (sym (append-nil (data_words mem.name front))) fits

  words_more : (front : List ProgramLine) (line : ProgramLine) → data_words mem.name (front ++ line ∷ []) ≡ data_words mem.name front ++ words_by mem.name line.says
  words_more front line =
      flat_map-append (λ (l : ProgramLine). words_by mem.name l.says) front (line ∷ []) ∙ ap (λ ws. data_words mem.name front ++ ws) (append-nil (words_by mem.name line.says))

  -- all lines
  rest_fit : (front rest : List ProgramLine) → lines ≡ front ++ rest → WordsFit (data_words mem.name front) mem.address mem.width → WordsFit (data_words mem.name lines) mem.address mem.width
  rest_fit front [] e fits = subst (λ ls. WordsFit (data_words mem.name ls) mem.address mem.width) (sym (e ∙ append-nil front)) fits
  rest_fit front (line ∷ rest) e fits =
      rest_fit (front ++ line ∷ []) rest (e ∙ sym (append_assoc front (line ∷ []) rest))
      (subst (λ ws. WordsFit ws mem.address mem.width) (sym (words_more front line)) (line_more front line rest e fits))

  mem_fits : WordsFit (data_words mem.name lines) mem.address mem.width
  mem_fits = rest_fit [] lines refl (record { room = omega arith; each = tt })

each_mem : (lines : List ProgramLine) (mems : List Mem) → ((k : ℕ) (mem : Mem) → slice_get mems k ≡ Some mem → WordsFit (data_words mem.name lines) mem.address mem.width)
    → MemsFit (map (λ (m : Mem). data_words m.name lines) mems) (map (λ (m : Mem). record { name = m.name; address = m.address; width = m.width }) mems)
each_mem lines [] all = tt
each_mem lines (mem ∷ mems) all = (all 0 mem refl, each_mem lines mems (λ k m at. all (suc k) m at))

-- the words of every memory fit
pub mems_fit : (design : Design) → IsClean design → (lines : List ProgramLine) → AreFaultless design lines → MemsFit (map (λ (m : Mem). data_words m.name lines) design.mems) (shape_of design).mems
mems_fit design clean lines faultless = each_mem lines design.mems (λ k mem at. mem_fits design clean lines faultless k mem at)
