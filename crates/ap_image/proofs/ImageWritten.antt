-- The text that is written of an image that fits is without fault, and gives the image.
use Rattle.std.proofs.Common.{◌≡◌, ℕ, ◌+◌, ◌<◌, ◌≤◌, ◌^◌, ◌≢◌, zero, suc, List, [], ◌∷◌, ◌++◌, ◌&&◌, ◌||◌, length, map, filter_map, fold, Bool, true, false, cond, Option, Some, None, refl, sym, ap, subst, ◌∙◌, arith, append-nil, append_assoc}
use Rattle.std.specs.Prelude.{codes, slice_get}
use Rattle.std.specs.Char.{is_ascii_alphanumeric}
use Rattle.std.specs.Fmt.{digits}
use Rattle.std.specs.List.{flat_map, list_all, list_any, AllByRecursion as Each}
use Rattle.std.specs.Str.{bytes_eq}
use Rattle.std.proofs.Math.Nat.{pow-le-pow_right}
use Rattle.std.proofs.lemmas.Bool.{and_from, and_parts, false≢true, lt-leb, ne_eqb, or_from, or_parts}
use Rattle.std.proofs.lemmas.Bool.Decides.{nat_tests}
use Rattle.std.proofs.lemmas.Fmt.{digits_is_IsNumeral}
use Rattle.std.proofs.lemmas.Grind.{flat_map-append}
use Rattle.std.proofs.lemmas.List.{length-append}
use Rattle.std.proofs.lemmas.List.Elements.{filter_map-append}
use Rattle.std.proofs.lemmas.List.Folds.{list_any-append}
use Rattle.std.proofs.lemmas.Option.{none-some, same_Some}
use Rattle.ap_bits.specs.Names.{IsName, starts_with_letter}
use Rattle.ap_text.specs.Lines.{TextLine, is_token, lines_of}
use Rattle.ap_text.specs.Numbers.{hexadecimal}
use Rattle.ap_text.proofs.Written.{number_value-hexadecimal}
use Rattle.ap_image.specs.declared.image.Image.{Image}
use Rattle.ap_image.specs.declared.shape.MemShape.{MemShape}
use Rattle.ap_image.specs.FitsShape.{ImageFitsShape, MemsFit, WordsFit}
use Rattle.ap_image.specs.ImageTexts.{begun_by, code_part, given_by, has_begun, image_fault, image_of, image_text, mem_text, mems_text, next_part, part_after, part_named, part_text, parts_of, word_text, words_at, words_from, words_of}
use Rattle.ap_image.specs.Shapes.{AreDistinct, IsNarrow, IsShape, Shape}
use Rattle.ap_image.specs.TextFaults.{AreFine}
use Rattle.ap_image.proofs.OneMoreLine.{begun_only, fine_begin, fine_word, given_only, part_push, silent, spoken, words_grow, words_stay}
use Rattle.ap_image.proofs.FirstFaults.{fine_append}
use Rattle.ap_image.proofs.PartLists.{bytes_differ, bytes_same, distinct_parts, each_map, each_weaker, found_at, name_of}
use Rattle.ap_image.proofs.WrittenLines.{IsWhole, Spoken, digits_plain, is_plain, is_whole, lines_are, numbered, numbered-append, spoken_text, weaker}

-- the lines of a part, of a data memory, of all data memories and of an image
abbrev pub word_line : ℕ → Spoken
word_line word = record { first = hexadecimal word; rest = [] }

abbrev pub part_line : List ℕ → Spoken
part_line name = record { first = codes "part"; rest = name ∷ [] }

abbrev pub part_lines : List ℕ → List ℕ → List Spoken
part_lines name words = part_line name ∷ map word_line words

abbrev pub mem_lines : List ℕ → List ℕ → List Spoken
mem_lines name [] = []
mem_lines name (word ∷ words) = part_lines name (word ∷ words)

abbrev pub mems_lines : List (List ℕ) → List MemShape → List Spoken
mems_lines [] shapes = []
mems_lines (words ∷ mems) [] = []
mems_lines (words ∷ mems) (m ∷ shapes) = mem_lines m.name words ++ mems_lines mems shapes

abbrev pub image_lines : Image → Shape → List Spoken
image_lines image shape = part_lines code_part image.code ++ mems_lines image.mems shape.mems

-- they spell the text
words_text : (words : List ℕ) → flat_map word_text words ≡ flat_map spoken_text (map word_line words)
words_text [] = refl
words_text (word ∷ words) = (λ j. (sym (append-nil (hexadecimal word)) j ++ 10 ∷ []) ++ words_text words j)

part_spelled : (name words : List ℕ) → part_text name words ≡ flat_map spoken_text (part_lines name words)
part_spelled name words = (λ j. ((codes "part " ++ sym (append-nil name) j) ++ 10 ∷ []) ++ words_text words j)

mem_spelled : (name words : List ℕ) → mem_text name words ≡ flat_map spoken_text (mem_lines name words)
mem_spelled name [] = refl
mem_spelled name (word ∷ words) = part_spelled name (word ∷ words)

mems_spelled : (mems : List (List ℕ)) (shapes : List MemShape) → mems_text mems shapes ≡ flat_map spoken_text (mems_lines mems shapes)
mems_spelled [] shapes = refl
mems_spelled (words ∷ mems) [] = refl
mems_spelled (words ∷ mems) (m ∷ shapes) = (λ j. mem_spelled m.name words j ++ mems_spelled mems shapes j) ∙ sym (flat_map-append spoken_text (mem_lines m.name words) (mems_lines mems shapes))

image_spelled : (image : Image) (shape : Shape) → image_text image shape ≡ flat_map spoken_text (image_lines image shape)
image_spelled image shape = (λ j. part_spelled code_part image.code j ++ mems_spelled image.mems shape.mems j) ∙ sym (flat_map-append spoken_text (part_lines code_part image.code) (mems_lines image.mems shape.mems))

-- each token is one
word_whole : (word : ℕ) → word < 2 ^ 64 → IsWhole (word_line word)
word_whole word small = record { first = digits_plain 16 (digits 16 false word) (omega arith) (digits_is_IsNumeral 16 false (omega arith) (omega arith) word (omega arith)).0.1; rest = tt }

letter_plain : (b : ℕ) → is_ascii_alphanumeric b ≡ true → is_plain b ≡ true
letter_plain b h = grind (arith, nat_tests)

letter_first : (name : List ℕ) → starts_with_letter name ≡ true → is_token name ≡ true
letter_first [] h = h
letter_first (b ∷ bytes) h = refl

name_whole : (name : List ℕ) → IsName name → is_whole name ≡ true
name_whole name h =
    let all = and_parts (starts_with_letter name && list_all is_ascii_alphanumeric name) _ h in
    let both = and_parts (starts_with_letter name) (list_all is_ascii_alphanumeric name) all.0 in
    and_from (is_token name) (list_all is_plain name) (letter_first name both.0) (weaker is_ascii_alphanumeric is_plain letter_plain name both.1)

part_whole : (name : List ℕ) → IsName name → IsWhole (part_line name)
part_whole name h = record { first = refl; rest = (name_whole name h, tt) }

words_whole : (words : List ℕ) → Each (λ w. w < 2 ^ 64) words → Each IsWhole (map word_line words)
words_whole [] h = tt
words_whole (w ∷ words) h = (word_whole w h.0, words_whole words h.1)

each_append : {X : Type 0} (P : X → Type 0) (xs ys : List X) → Each P xs → Each P ys → Each P (xs ++ ys)
each_append P [] ys h g = g
each_append P (x ∷ xs) ys h g = (h.0, each_append P xs ys h.1 g)

narrow_words : (width : ℕ) (words : List ℕ) → width ≤ 64 → Each (λ w. w < 2 ^ width) words → Each (λ w. w < 2 ^ 64) words
narrow_words width words le h = let p : 2 ^ width ≤ 2 ^ 64 = pow-le-pow_right {n = 2} (omega arith) le in each_weaker (λ w. w < 2 ^ width) (λ w. w < 2 ^ 64) (λ w lt. omega arith) words h

mem_whole : (name words : List ℕ) → IsName name → Each (λ w. w < 2 ^ 64) words → Each IsWhole (mem_lines name words)
mem_whole name [] h g = tt
mem_whole name (w ∷ words) h g = (part_whole name h, words_whole (w ∷ words) g)

mems_whole : (mems : List (List ℕ)) (shapes : List MemShape) → MemsFit mems shapes → Each (λ (m : MemShape). IsName m.name) shapes → Each (λ (m : MemShape). m.width ≤ 64) shapes → Each IsWhole (mems_lines mems shapes)
mems_whole [] shapes fit names narrow = tt
mems_whole (words ∷ mems) [] fit names narrow = tt
mems_whole (words ∷ mems) (m ∷ shapes) fit names narrow = each_append IsWhole (mem_lines m.name words) (mems_lines mems shapes)
    (mem_whole m.name words names.0 (narrow_words m.width words narrow.0 fit.0.each)) (mems_whole mems shapes fit.1 names.1 narrow.1)

-- what such lines say
abbrev the_line : ℕ → Spoken → TextLine
the_line n line = record { number = n; tokens = line.first ∷ line.rest; clean = true }

part_begins : (n : ℕ) (name : List ℕ) → IsName name → begun_by (the_line n (part_line name)) ≡ Some name
unfolding begun_by
part_begins n name h = rw h refl

word_given : (n word : ℕ) → word < 2 ^ 64 → given_by (the_line n (word_line word)) ≡ Some word
unfolding given_by
word_given n word small = number_value-hexadecimal word small

-- which parts begin in them
words_begin : (n : ℕ) (words : List ℕ) → Each (λ w. w < 2 ^ 64) words → filter_map begun_by (numbered n (map word_line words)) ≡ []
words_begin n [] h = refl
words_begin n (w ∷ words) h = rw (given_only (the_line n (word_line w)) w (word_given n w h.0)) (words_begin (n + 1) words h.1)

block_begins : (n : ℕ) (name words : List ℕ) → IsName name → Each (λ w. w < 2 ^ 64) words → filter_map begun_by (numbered n (part_lines name words)) ≡ name ∷ []
block_begins n name words is h = rw (part_begins n name is) (ap (λ names. name ∷ names) (words_begin (n + 1) words h))

-- the words that stand in them
words_part : (n : ℕ) (part : Option (List ℕ)) (words : List ℕ) → Each (λ w. w < 2 ^ 64) words → fold next_part part (numbered n (map word_line words)) ≡ part
words_part n part [] h = refl
words_part n part (w ∷ words) h =
    let stays : next_part part (the_line n (word_line w)) ≡ part = rw (given_only (the_line n (word_line w)) w (word_given n w h.0)) refl in
    ap (λ p. fold next_part p (numbered (n + 1) (map word_line words))) stays ∙ words_part (n + 1) part words h.1

words_taken : (n : ℕ) (q name words : List ℕ) → Each (λ w. w < 2 ^ 64) words → words_from q (Some name) (numbered n (map word_line words)) ≡ cond (bytes_eq name q) words []
words_taken n q name [] h = either (bytes_eq name q) where
  either : (b : Bool) → ◌≡◌ {A = List ℕ} [] (cond b [] [])
  either true = refl
  either false = refl
words_taken n q name (w ∷ words) h =
    let line = the_line n (word_line w) in
    (λ j. spoken q name line w (word_given n w h.0) j ++ words_from q (stays j) (numbered (n + 1) (map word_line words)))
    ∙ ap (λ rest. cond (bytes_eq name q) (w ∷ []) [] ++ rest) (words_taken (n + 1) q name words h.1)
    ∙ either (bytes_eq name q) where
      stays : next_part (Some name) (the_line n (word_line w)) ≡ Some name
      stays = rw (given_only (the_line n (word_line w)) w (word_given n w h.0)) refl

      either : (b : Bool) → cond b (w ∷ []) [] ++ cond b words [] ≡ cond b (w ∷ words) []
      either true = refl
      either false = refl

block_part : (n : ℕ) (part : Option (List ℕ)) (name words : List ℕ) → IsName name → Each (λ w. w < 2 ^ 64) words → fold next_part part (numbered n (part_lines name words)) ≡ Some name
block_part n part name words is h =
    let next : next_part part (the_line n (part_line name)) ≡ Some name = rw (part_begins n name is) refl in
    ap (λ p. fold next_part p (numbered (n + 1) (map word_line words))) next ∙ words_part (n + 1) (Some name) words h

block_taken : (n : ℕ) (q : List ℕ) (part : Option (List ℕ)) (name words : List ℕ) → IsName name → Each (λ w. w < 2 ^ 64) words → words_from q part (numbered n (part_lines name words)) ≡ cond (bytes_eq name q) words []
block_taken n q part name words is h =
    let line = the_line n (part_line name) in
    let begins = part_begins n name is in
    (λ j. silent q part line (begun_only line name begins) j ++ words_from q (next j) (numbered (n + 1) (map word_line words)))
    ∙ words_taken (n + 1) q name words h where
      next : next_part part (the_line n (part_line name)) ≡ Some name
      next = rw (part_begins n name is) refl

words_from-append : (q : List ℕ) (part : Option (List ℕ)) (xs ys : List TextLine) → words_from q part (xs ++ ys) ≡ words_from q part xs ++ words_from q (fold next_part part xs) ys
words_from-append q part [] ys = refl
words_from-append q part (x ∷ xs) ys = ap (λ ws. words_at q part x ++ ws) (words_from-append q (next_part part x) xs ys) ∙ sym (append_assoc (words_at q part x) _ _)

-- a part and what follows it
block_and : (n m : ℕ) (q : List ℕ) (part : Option (List ℕ)) (name words : List ℕ) (rest : List Spoken) → IsName name → Each (λ w. w < 2 ^ 64) words → words_from q part (numbered n (part_lines name words) ++ numbered m rest) ≡ cond (bytes_eq name q) words [] ++ words_from q (Some name) (numbered m rest)
block_and n m q part name words rest is h =
    words_from-append q part (numbered n (part_lines name words)) (numbered m rest)
    ∙ (λ j. block_taken n q part name words is h j ++ words_from q (block_part n part name words is h j) (numbered m rest))

-- no other part has words there
others_silent : (n : ℕ) (q : List ℕ) (part : Option (List ℕ)) (mems : List (List ℕ)) (shapes : List MemShape) → MemsFit mems shapes → Each (λ (m : MemShape). IsName m.name) shapes → Each (λ (m : MemShape). m.width ≤ 64) shapes → Each (λ other. other ≢ q) (map name_of shapes) → words_from q part (numbered n (mems_lines mems shapes)) ≡ []
others_silent n q part [] shapes fit names narrow apart = refl
others_silent n q part (words ∷ mems) [] fit names narrow apart = refl
others_silent n q part ([] ∷ mems) (m ∷ shapes) fit names narrow apart = others_silent n q part mems shapes fit.1 names.1 narrow.1 apart.1
others_silent n q part ((w ∷ words) ∷ mems) (m ∷ shapes) fit names narrow apart =
    let next = numbered-append n (part_lines m.name (w ∷ words)) (mems_lines mems shapes) in
    ap (words_from q part) next.1
    ∙ block_and n next.0 q part m.name (w ∷ words) (mems_lines mems shapes) names.0 (narrow_words m.width (w ∷ words) narrow.0 fit.0.each)
    ∙ rw (bytes_differ m.name q apart.0) (others_silent next.0 q (Some m.name) mems shapes fit.1 names.1 narrow.1 apart.1)

map_each : {X Y : Type 0} (f g : X → Y) (xs : List X) → Each (λ x. f x ≡ g x) xs → map f xs ≡ map g xs
map_each f g [] h = refl
map_each f g (x ∷ xs) h = (λ j. h.0 j ∷ map_each f g xs h.1 j)

each_unmap : {X Y : Type 0} (P : Y → Type 0) (f : X → Y) (xs : List X) → Each P (map f xs) → Each (λ x. P (f x)) xs
each_unmap P f [] h = tt
each_unmap P f (x ∷ xs) h = (h.0, each_unmap P f xs h.1)

-- each memory has its words
mems_taken : (n : ℕ) (part : Option (List ℕ)) (mems : List (List ℕ)) (shapes : List MemShape) → MemsFit mems shapes → Each (λ (m : MemShape). IsName m.name) shapes → Each (λ (m : MemShape). m.width ≤ 64) shapes → AreDistinct (map name_of shapes) → map (λ (m : MemShape). words_from m.name part (numbered n (mems_lines mems shapes))) shapes ≡ mems
mems_taken n part [] [] fit names narrow apart = refl
mems_taken n part [] (m ∷ shapes) fit names narrow apart = absurd fit
mems_taken n part (words ∷ mems) [] fit names narrow apart = absurd fit
mems_taken n part ([] ∷ mems) (m ∷ shapes) fit names narrow apart =
    (λ j. others_silent n m.name part mems shapes fit.1 names.1 narrow.1 apart.0 j ∷ mems_taken n part mems shapes fit.1 names.1 narrow.1 apart.1 j)
mems_taken n part ((w ∷ words) ∷ mems) (m ∷ shapes) fit names narrow apart =
    let next = numbered-append n (part_lines m.name (w ∷ words)) (mems_lines mems shapes) in
    let small = narrow_words m.width (w ∷ words) narrow.0 fit.0.each in
    let own : words_from m.name part (numbered n (part_lines m.name (w ∷ words) ++ mems_lines mems shapes)) ≡ w ∷ words =
    ap (words_from m.name part) next.1 ∙ block_and n next.0 m.name part m.name (w ∷ words) (mems_lines mems shapes) names.0 small
    ∙ rw (bytes_same m.name m.name refl) (ap (λ rest. w ∷ (words ++ rest)) (others_silent next.0 m.name (Some m.name) mems shapes fit.1 names.1 narrow.1 apart.0) ∙ append-nil (w ∷ words)) in
    let others : map (λ (q : MemShape). words_from q.name part (numbered n (part_lines m.name (w ∷ words) ++ mems_lines mems shapes))) shapes ≡ map (λ (q : MemShape). words_from q.name (Some m.name) (numbered next.0 (mems_lines mems shapes))) shapes =
    map_each _ _ shapes (each_weaker _ _ (λ (q : MemShape) differ. ap (words_from q.name part) next.1 ∙ block_and n next.0 q.name part m.name (w ∷ words) (mems_lines mems shapes) names.0 small ∙ rw (bytes_differ m.name q.name (λ same. differ (sym same))) refl) shapes (each_unmap (λ other. other ≢ m.name) name_of shapes apart.0)) in
    (λ j. own j ∷ (others ∙ mems_taken next.0 (Some m.name) mems shapes fit.1 names.1 narrow.1 apart.1) j)

-- the lines of an image are without fault
begun_append : (before lines : List TextLine) (name : List ℕ) → has_begun (before ++ lines) name ≡ (has_begun before name || has_begun lines name)
begun_append before lines name =
    ap (list_any (λ begun. bytes_eq begun name)) (filter_map-append begun_by before lines)
    ∙ list_any-append (λ begun. bytes_eq begun name) (filter_map begun_by before) (filter_map begun_by lines)

-- a part that hasn't begun has no words
unbegun : (name : List ℕ) (part : Option (List ℕ)) (lines : List TextLine) → (part ≡ Some name → ⊥) → has_begun lines name ≡ false → words_from name part lines ≡ []
unbegun name part [] other none = refl
unbegun name part (line ∷ lines) other none = by_case (begun_by line) refl (λ p differ fresh. unbegun name p lines differ fresh) where
  nothing : (p : Option (List ℕ)) → (p ≡ Some name → ⊥) → words_at name p line ≡ []
  nothing None differ = refl
  nothing (Some q) differ = rw (bytes_differ q name (λ same. differ (ap Some same))) refl

  by_case : (o : Option (List ℕ)) → begun_by line ≡ o → ((p : Option (List ℕ)) → (p ≡ Some name → ⊥) → has_begun lines name ≡ false → words_from name p lines ≡ []) → words_from name part (line ∷ lines) ≡ []
  by_case None e more =
      let rest = rw e at none in
      let stay : next_part part line ≡ part = rw e refl in
      (λ j. nothing part other j ++ words_from name (stay j) lines) ∙ more part other rest
  by_case (Some q) e more =
      let both = or_parts (bytes_eq q name) (has_begun lines name) (rw e at none) in
      let next : next_part part line ≡ Some q = rw e refl in
      (λ j. nothing part other j ++ words_from name (next j) lines) ∙ more (Some q) (λ same. false≢true (sym both.0 ∙ bytes_same q name (same_Some q name same))) both.1

each_back : {X : Type 0} (P : X → Type 0) (xs ys : List X) → Each P (xs ++ ys) → Each P ys
each_back P [] ys h = h
each_back P (x ∷ xs) ys h = each_back P xs ys h.1

each_both : {X : Type 0} (P Q R : X → Type 0) → ((x : X) → P x → Q x → R x) → (xs : List X) → Each P xs → Each Q xs → Each R xs
each_both P Q R f [] h g = tt
each_both P Q R f (x ∷ xs) h g = (f x h.0 g.0, each_both P Q R f xs h.1 g.1)

-- the words of a part are fine
words_fine : (shape : Shape) (p : MemShape) (n : ℕ) (before : List TextLine) (words : List ℕ) → part_after before ≡ Some p.name → part_named (parts_of shape) p.name ≡ Some p → WordsFit (words_of p.name before ++ words) p.address p.width → Each (λ w. w < 2 ^ 64) words → AreFine (image_fault shape) before (numbered n (map word_line words))
words_fine shape p n before [] at there fit small = tt
words_fine shape p n before (w ∷ words) at there fit small =
    let line = the_line n (word_line w) in
    let g = word_given n w small.0 in
    let b = given_only line w g in
    let done = words_of p.name before in
    let narrow : w < 2 ^ p.width = (each_back (λ v. v < 2 ^ p.width) done (w ∷ words) fit.each).0 in
    let count : length (done ++ w ∷ words) ≡ length done + length (w ∷ words) = length-append done (w ∷ words) in
    let whole : length (done ++ w ∷ words) ≤ 2 ^ p.address = fit.room in
    let more : length (w ∷ words) ≡ suc (length words) = refl in
    let free : length done < 2 ^ p.address = omega arith in
    let grown : words_of p.name (before ++ line ∷ []) ≡ done ++ w ∷ [] = words_grow p.name p.name before line w g at ∙ rw (bytes_same p.name p.name refl) refl in
    let rest : done ++ w ∷ words ≡ words_of p.name (before ++ line ∷ []) ++ words = sym (append_assoc done (w ∷ []) words) ∙ ap (λ l. l ++ words) (sym grown) in (
      fine_word shape before line p w b g at there (lt-leb (2 ^ p.width) w narrow) (ne_eqb (length done) (2 ^ p.address) (λ e. let wrong : ⊥ = omega arith in wrong)),
      words_fine shape p (n + 1) (before ++ line ∷ []) words (part_push before line ∙ rw b at) there (subst (λ l. WordsFit l p.address p.width) rest fit) small.1,
    )

-- and so is a part that hasn't begun
block_fine : (shape : Shape) (p : MemShape) (n : ℕ) (before : List TextLine) (words : List ℕ) → IsName p.name → part_named (parts_of shape) p.name ≡ Some p → has_begun before p.name ≡ false → WordsFit words p.address p.width → Each (λ w. w < 2 ^ 64) words → AreFine (image_fault shape) before (numbered n (part_lines p.name words))
block_fine shape p n before words is there new fit small =
    let line = the_line n (part_line p.name) in
    let b = part_begins n p.name is in
    let g = begun_only line p.name b in
    let none : words_of p.name (before ++ line ∷ []) ≡ [] = words_stay p.name before line g ∙ unbegun p.name None before (λ e. none-some p.name e) new in (
      fine_begin shape before line p b g new there,
      words_fine shape p (n + 1) (before ++ line ∷ []) words (part_push before line ∙ rw b refl) there (subst (λ l. WordsFit (l ++ words) p.address p.width) (sym none) fit) small,
    )

block_begun : (n : ℕ) (q name words : List ℕ) → IsName name → Each (λ w. w < 2 ^ 64) words → q ≢ name → has_begun (numbered n (part_lines name words)) q ≡ false
block_begun n q name words is small differ = ap (list_any (λ begun. bytes_eq begun q)) (block_begins n name words is small) ∙ rw (bytes_differ name q (λ same. differ (sym same))) refl

-- data memories that haven't begun
mems_fine : (shape : Shape) (n : ℕ) (before : List TextLine) (mems : List (List ℕ)) (shapes : List MemShape) → MemsFit mems shapes → Each (λ (m : MemShape). IsName m.name) shapes → Each (λ (m : MemShape). m.width ≤ 64) shapes → AreDistinct (map name_of shapes)
    → Each (λ (m : MemShape). part_named (parts_of shape) m.name ≡ Some m) shapes → Each (λ (m : MemShape). has_begun before m.name ≡ false) shapes → AreFine (image_fault shape) before (numbered n (mems_lines mems shapes))
mems_fine shape n before [] shapes fit names narrow apart there new = tt
mems_fine shape n before (words ∷ mems) [] fit names narrow apart there new = tt
mems_fine shape n before ([] ∷ mems) (m ∷ shapes) fit names narrow apart there new = mems_fine shape n before mems shapes fit.1 names.1 narrow.1 apart.1 there.1 new.1
mems_fine shape n before ((w ∷ words) ∷ mems) (m ∷ shapes) fit names narrow apart there new =
    let next = numbered-append n (part_lines m.name (w ∷ words)) (mems_lines mems shapes) in
    let small = narrow_words m.width (w ∷ words) narrow.0 fit.0.each in
    let block = numbered n (part_lines m.name (w ∷ words)) in
    let still : Each (λ (q : MemShape). has_begun (before ++ block) q.name ≡ false) shapes = each_both (λ (q : MemShape). q.name ≢ m.name) (λ (q : MemShape). has_begun before q.name ≡ false) _
    (λ (q : MemShape) differ none. begun_append before block q.name ∙ or_from (has_begun before q.name) (has_begun block q.name) none (block_begun n q.name m.name (w ∷ words) names.0 small differ)) shapes (each_unmap (λ other. other ≢ m.name) name_of shapes apart.0) new.1 in
    subst (λ (l : List TextLine). AreFine (image_fault shape) before l) (sym next.1)
    (fine_append (image_fault shape) before block (numbered next.0 (mems_lines mems shapes)) (block_fine shape m n before (w ∷ words) names.0 there.0 new.0 fit.0 small) (mems_fine shape next.0 (before ++ block) mems shapes fit.1 names.1 narrow.1 apart.1 there.1 still))

each_from_get : {X : Type 0} (P : X → Type 0) (xs : List X) → ((i : ℕ) (x : X) → slice_get xs i ≡ Some x → P x) → Each P xs
each_from_get P [] f = tt
each_from_get P (x ∷ xs) f = (f zero x refl, each_from_get P xs (λ i y h. f (suc i) y h))

-- the text that is written of an image that fits
pub image_written : (shape : Shape) (image : Image) (text : List ℕ) → IsShape shape → Each (λ (m : MemShape). IsName m.name) shape.mems → IsNarrow shape → ImageFitsShape image shape → text ≡ image_text image shape
    → AreFine (image_fault shape) [] (lines_of text) × (image_of shape (lines_of text) ≡ image)
image_written shape image text is names narrow fit e = (subst (λ (l : List TextLine). AreFine (image_fault shape) [] l) (sym lines) fine, ap (image_of shape) lines ∙ same) where
  small : Each (λ w. w < 2 ^ 64) image.code
  small = narrow_words shape.code_width image.code narrow.code fit.code.each

  lines : lines_of text ≡ numbered 1 (image_lines image shape)
  lines = lines_are text (image_lines image shape) (e ∙ image_spelled image shape)
      (each_append IsWhole (part_lines code_part image.code) (mems_lines image.mems shape.mems) (part_whole code_part refl, words_whole image.code small) (mems_whole image.mems shape.mems fit.mems names narrow.mems))

  next : (m : ℕ) × (numbered 1 (image_lines image shape) ≡ numbered 1 (part_lines code_part image.code) ++ numbered m (mems_lines image.mems shape.mems))
  next = numbered-append 1 (part_lines code_part image.code) (mems_lines image.mems shape.mems)

  distinct : AreDistinct (map name_of (parts_of shape))
  distinct = distinct_parts shape is

  there : Each (λ (p : MemShape). part_named (parts_of shape) p.name ≡ Some p) (parts_of shape)
  there = each_from_get _ (parts_of shape) (λ i p h. found_at (parts_of shape) i p distinct h)

  fine : AreFine (image_fault shape) [] (numbered 1 (image_lines image shape))
  fine = subst (λ (l : List TextLine). AreFine (image_fault shape) [] l) (sym next.1)
      (fine_append (image_fault shape) [] (numbered 1 (part_lines code_part image.code)) (numbered next.0 (mems_lines image.mems shape.mems))
      (block_fine shape (record { name = code_part; address = shape.code_address; width = shape.code_width }) 1 [] image.code refl there.0 refl fit.code small)
      (mems_fine shape next.0 (numbered 1 (part_lines code_part image.code)) image.mems shape.mems fit.mems names narrow.mems is.distinct there.1
      (each_weaker (λ (m : MemShape). m.name ≢ code_part) _ (λ (m : MemShape) differ. block_begun 1 m.name code_part image.code refl small differ) shape.mems is.apart)))

  code : words_of code_part (numbered 1 (image_lines image shape)) ≡ image.code
  code = ap (words_of code_part) next.1 ∙ block_and 1 next.0 code_part None code_part image.code (mems_lines image.mems shape.mems) refl small
      ∙ ap (λ rest. image.code ++ rest) (others_silent next.0 code_part (Some code_part) image.mems shape.mems fit.mems names narrow.mems (each_map (λ other. other ≢ code_part) name_of shape.mems is.apart)) ∙ append-nil image.code

  mems : map (λ (m : MemShape). words_of m.name (numbered 1 (image_lines image shape))) shape.mems ≡ image.mems
  mems = map_each _ _ shape.mems (each_weaker (λ (m : MemShape). m.name ≢ code_part) _ (λ (m : MemShape) differ. ap (words_of m.name) next.1 ∙ block_and 1 next.0 m.name None code_part image.code (mems_lines image.mems shape.mems) refl small ∙ rw (bytes_differ code_part m.name (λ same. differ (sym same))) refl) shape.mems is.apart)
      ∙ mems_taken next.0 (Some code_part) image.mems shape.mems fit.mems names narrow.mems is.distinct

  same : image_of shape (numbered 1 (image_lines image shape)) ≡ image
  same = (λ j. record { code = code j; mems = mems j })
