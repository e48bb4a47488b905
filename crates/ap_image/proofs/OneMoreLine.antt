-- One more line of an image, and what its reader keeps of it.
use Rattle.std.proofs.Common.{◌≡◌, ℕ, ◌<◌, ◌≤◌, ◌^◌, List, [], ◌∷◌, ◌++◌, length, get_or, map, filter_map, fold, Bool, true, false, cond, ◌||◌, nat_le, nat_lt, eqb, Option, Some, None, refl, sym, ap, subst, ◌∙◌, arith, append-nil, append_assoc}
use Rattle.std.specs.Prelude.{is_some, slice_get, slice_index, slice_set, IfSome}
use Rattle.std.specs.List.{list_any, AllByRecursion as Each}
use Rattle.std.specs.Str.{bytes_eq}
use Rattle.std.proofs.Math.ListN.{length-map}
use Rattle.std.proofs.lemmas.Bool.{false≢true, ltb-true, ltb-false, le-leb, lt-leb, ne_eqb, eq-eqb}
use Rattle.std.proofs.lemmas.Grind.{common_steps}
use Rattle.std.proofs.lemmas.List.Folds.{list_any-append}
use Rattle.std.proofs.lemmas.List.Sums.{fold-append}
use Rattle.std.proofs.lemmas.List.Elements.{filter_map-append}
use Rattle.std.proofs.lemmas.Option.{none-some, slice_get_read}
use Rattle.ap_text.specs.Lines.{TextLine}
use Rattle.ap_image.specs.declared.so_far.SoFar.{SoFar}
use Rattle.ap_image.specs.declared.fault.TextFault.{TextFault}
use Rattle.ap_image.specs.declared.fault.TextFault.TheVariants.{At}
use Rattle.ap_image.specs.declared.fault.TextKind.{TextKind}
use Rattle.ap_image.specs.declared.fault.TextKind.TheVariants.{BadForm, NoSuchPart, ValueTooWide, TooManyWords}
use Rattle.ap_image.specs.declared.image.Image.{Image}
use Rattle.ap_image.specs.declared.shape.MemShape.{MemShape}
use Rattle.ap_image.specs.FitsShape.{ImageFitsShape, MemsFit, WordsFit}
use Rattle.ap_image.specs.ImageTexts.{begun_by, code_part, given_by, has_begun, image_fault, next_part, part_after, part_in, part_named, parts_of, word_in, words_at, words_from, words_of}
use Rattle.ap_image.specs.Shapes.{IsShape, Shape}
use Rattle.ap_image.specs.TextFaults.{IsFine, IsLeastAt, IsFaultOfLine, number_of}
use Rattle.ap_image.specs.SoFar.{IsSoFar, StandsIn}
use Rattle.ap_image.proofs.FirstFaults.{at_least_one, fine_push}
use Rattle.ap_image.proofs.PartLists.{at_place, at_place_some, bytes_differ, bytes_same, distinct_parts, each_at, each_change, each_push, each_weaker, found_at, map_at, map_same, name_of, named_at, part_at}

-- a line that begins a part gives no word
pub begun_only : (line : TextLine) (name : List ℕ) → begun_by line ≡ Some name → given_by line ≡ None
unfolding begun_by given_by
begun_only line name e = by_case line.clean line.tokens e where
  by_case : (clean : Bool) (tokens : List (List ℕ)) → cond clean (part_in tokens) None ≡ Some name → cond clean (word_in tokens) None ≡ None
  by_case false tokens e = refl
  by_case true [] e = refl
  by_case true (first ∷ []) e = absurd (none-some name e)
  by_case true (first ∷ second ∷ []) e = refl
  by_case true (first ∷ second ∷ third ∷ tokens) e = refl

-- and one that gives a word begins no part
pub given_only : (line : TextLine) (word : ℕ) → given_by line ≡ Some word → begun_by line ≡ None
unfolding begun_by given_by
given_only line word e = by_case line.clean line.tokens e where
  by_case : (clean : Bool) (tokens : List (List ℕ)) → cond clean (word_in tokens) None ≡ Some word → cond clean (part_in tokens) None ≡ None
  by_case false tokens e = refl
  by_case true [] e = refl
  by_case true (first ∷ []) e = refl
  by_case true (first ∷ second ∷ []) e = absurd (none-some word e)
  by_case true (first ∷ second ∷ third ∷ tokens) e = refl

-- the part and the words after one more line
pub part_push : (lines : List TextLine) (line : TextLine) → part_after (lines ++ line ∷ []) ≡ next_part (part_after lines) line
part_push lines line = fold-append next_part None lines (line ∷ [])

words_from_push : (name : List ℕ) (part : Option (List ℕ)) (lines : List TextLine) (line : TextLine) → words_from name part (lines ++ line ∷ []) ≡ words_from name part lines ++ words_at name (fold next_part part lines) line
words_from_push name part [] line = append-nil (words_at name part line)
words_from_push name part (x ∷ lines) line =
    ap (λ words. words_at name part x ++ words) (words_from_push name (next_part part x) lines line)
    ∙ sym (append_assoc (words_at name part x) (words_from name (next_part part x) lines) (words_at name (fold next_part (next_part part x) lines) line))

pub words_push : (name : List ℕ) (lines : List TextLine) (line : TextLine) → words_of name (lines ++ line ∷ []) ≡ words_of name lines ++ words_at name (part_after lines) line
words_push name lines line = words_from_push name None lines line

pub silent : (name : List ℕ) (part : Option (List ℕ)) (line : TextLine) → given_by line ≡ None → words_at name part line ≡ []
silent name None line e = refl
silent name (Some part) line e = rw e (same (bytes_eq part name)) where
  same : (b : Bool) → ◌≡◌ {A = List ℕ} (cond b [] []) []
  same true = refl
  same false = refl

pub spoken : (name part : List ℕ) (line : TextLine) (word : ℕ) → given_by line ≡ Some word → words_at name (Some part) line ≡ cond (bytes_eq part name) (word ∷ []) []
spoken name part line word e = rw e refl

-- the words stay where the line begins a part
pub words_stay : (name : List ℕ) (lines : List TextLine) (line : TextLine) → given_by line ≡ None → words_of name (lines ++ line ∷ []) ≡ words_of name lines
words_stay name lines line e = words_push name lines line ∙ ap (λ words. words_of name lines ++ words) (silent name (part_after lines) line e) ∙ append-nil (words_of name lines)

-- and one part gets a word where it gives one
pub words_grow : (name part : List ℕ) (lines : List TextLine) (line : TextLine) (word : ℕ) → given_by line ≡ Some word → part_after lines ≡ Some part
    → words_of name (lines ++ line ∷ []) ≡ cond (bytes_eq part name) (words_of name lines ++ word ∷ []) (words_of name lines)
words_grow name part lines line word e at =
    words_push name lines line
    ∙ ap (λ p. words_of name lines ++ words_at name p line) at
    ∙ ap (λ words. words_of name lines ++ words) (spoken name part line word e)
    ∙ either (bytes_eq part name) where
      either : (b : Bool) → words_of name lines ++ cond b (word ∷ []) [] ≡ cond b (words_of name lines ++ word ∷ []) (words_of name lines)
      either true = refl
      either false = append-nil (words_of name lines)

-- which parts have begun
begun_push : (name : List ℕ) (lines : List TextLine) (line : TextLine) → has_begun (lines ++ line ∷ []) name ≡ (has_begun lines name || has_begun (line ∷ []) name)
begun_push name lines line =
    ap (list_any (λ begun. bytes_eq begun name)) (filter_map-append begun_by lines (line ∷ []))
    ∙ list_any-append (λ begun. bytes_eq begun name) (filter_map begun_by lines) (filter_map begun_by (line ∷ []))

begun_more : (name part : List ℕ) (lines : List TextLine) (line : TextLine) → begun_by line ≡ Some part → has_begun (lines ++ line ∷ []) name ≡ cond (bytes_eq part name) true (has_begun lines name)
begun_more name part lines line e = begun_push name lines line ∙ rw e (either (has_begun lines name) (bytes_eq part name)) where
  either : (a b : Bool) → (a || (b || false)) ≡ cond b true a
  either true true = refl
  either true false = refl
  either false true = refl
  either false false = refl

begun_stays : (name : List ℕ) (lines : List TextLine) (line : TextLine) → begun_by line ≡ None → has_begun (lines ++ line ∷ []) name ≡ has_begun lines name
begun_stays name lines line e = begun_push name lines line ∙ rw e (either (has_begun lines name)) where
  either : (a : Bool) → (a || false) ≡ a
  either true = refl
  either false = refl

names_more : (lines : List TextLine) (line : TextLine) (part : List ℕ) → begun_by line ≡ Some part → filter_map begun_by (lines ++ line ∷ []) ≡ filter_map begun_by lines ++ part ∷ []
names_more lines line part e = filter_map-append begun_by lines (line ∷ []) ∙ rw e refl

names_stay : (lines : List TextLine) (line : TextLine) → begun_by line ≡ None → filter_map begun_by (lines ++ line ∷ []) ≡ filter_map begun_by lines
names_stay lines line e = filter_map-append begun_by lines (line ∷ []) ∙ rw e (append-nil (filter_map begun_by lines))

-- before any line nothing has begun
pub start_of : (shape : Shape) (so_far : SoFar) → so_far.begun.items ≡ map (λ (p : MemShape). false) (parts_of shape) → so_far.words.items ≡ map (λ (p : MemShape). []) (parts_of shape) → so_far.at ≡ None → IsSoFar shape [] so_far
start_of shape so_far begun words at = record {
  begun = begun;
  words = words;
  stands = subst (λ a. StandsIn shape a None) (sym at) refl;
  fits = empty_fit (parts_of shape);
  known = tt;
  fine = tt;
} where
  empty_fit : (parts : List MemShape) → Each (λ (p : MemShape). WordsFit [] p.address p.width) parts
  empty_fit [] = tt
  empty_fit (p ∷ parts) = (record { room = omega arith; each = tt }, empty_fit parts)

-- the part of the line's name, and whether it has begun
begun_at : (shape : Shape) (lines : List TextLine) (so_far : SoFar) (place : ℕ) (p : MemShape) (b : Bool) → IsSoFar shape lines so_far → slice_get (parts_of shape) place ≡ Some p → b ≡ get_or so_far.begun.items place b → has_begun lines p.name ≡ b
begun_at shape lines so_far place p b h e is =
    sym (is ∙ ap (λ l. get_or l place b) h.begun ∙ at_place (λ (q : MemShape). has_begun lines q.name) (parts_of shape) place p b e)

words_at_place : (shape : Shape) (lines : List TextLine) (so_far : SoFar) (place : ℕ) (p : MemShape) (words : List ℕ) → IsSoFar shape lines so_far → slice_get (parts_of shape) place ≡ Some p → words ≡ get_or so_far.words.items place words → words_of p.name lines ≡ words
words_at_place shape lines so_far place p words h e is =
    sym (is ∙ ap (λ l. get_or l place words) h.words ∙ at_place (λ (q : MemShape). words_of q.name lines) (parts_of shape) place p words e)

-- a line that begins a part for the first time is fine
pub fine_begin : (shape : Shape) (lines : List TextLine) (line : TextLine) (p : MemShape) → begun_by line ≡ Some p.name → given_by line ≡ None → has_begun lines p.name ≡ false → part_named (parts_of shape) p.name ≡ Some p → IsFine (image_fault shape) lines line
fine_begin shape lines line p b g new there BadForm = rw (b, g, new) refl
fine_begin shape lines line p b g new there NoSuchPart = rw (b, there) refl
fine_begin shape lines line p b g new there ValueTooWide = rw g refl
fine_begin shape lines line p b g new there TooManyWords = rw g refl

-- a line that gives a word is fine where the word fits and there is room
pub fine_word : (shape : Shape) (lines : List TextLine) (line : TextLine) (p : MemShape) (word : ℕ) → begun_by line ≡ None → given_by line ≡ Some word → part_after lines ≡ Some p.name → part_named (parts_of shape) p.name ≡ Some p → nat_le (2 ^ p.width) word ≡ false → eqb (length (words_of p.name lines)) (2 ^ p.address) ≡ false → IsFine (image_fault shape) lines line
fine_word shape lines line p word b g at there narrow room BadForm = rw (b, g, at) refl
fine_word shape lines line p word b g at there narrow room NoSuchPart = rw b refl
fine_word shape lines line p word b g at there narrow room ValueTooWide = rw (g, at, there, narrow) refl
fine_word shape lines line p word b g at there narrow room TooManyWords = rw (g, at, there, room) refl

-- the line begins a part
pub begin_step : (shape : Shape) (lines : List TextLine) (line : TextLine) (old new : SoFar) (place : ℕ) (name : List ℕ) → IsShape shape → IsSoFar shape lines old → begun_by line ≡ Some name → slice_get (map name_of (parts_of shape)) place ≡ Some name → false ≡ get_or old.begun.items place false
    → new.begun.items ≡ slice_set old.begun.items place true → new.words.items ≡ old.words.items → new.at ≡ Some place → IsSoFar shape (lines ++ line ∷ []) new
begin_step shape lines line old new place name is h b e first begun words at =
    let found = named_at (parts_of shape) place name e in
    let p = found.0 in
    let apart = distinct_parts shape is in
    let bp : begun_by line ≡ Some p.name = b ∙ ap Some (sym found.2) in
    let g = begun_only line name b in
    let next : part_after (lines ++ line ∷ []) ≡ Some name = part_push lines line ∙ rw b refl in
    record {
      begun = begun ∙ ap (λ l. slice_set l place true) h.begun
          ∙ sym (map_same _ _ (λ (q : MemShape). begun_more q.name p.name lines line bp) (parts_of shape) ∙ map_at (λ (q : MemShape). has_begun lines q.name) (λ (q : MemShape). true) (parts_of shape) place p apart found.1);
      words = words ∙ h.words ∙ sym (map_same _ _ (λ (q : MemShape). words_stay q.name lines line g) (parts_of shape));
      stands = subst (λ a. StandsIn shape a (part_after (lines ++ line ∷ []))) (sym at) (found.3, e ∙ sym next);
      fits = each_weaker _ _ (λ (q : MemShape) f. subst (λ ws. WordsFit ws q.address q.width) (sym (words_stay q.name lines line g)) f) (parts_of shape) h.fits;
      known = subst (Each (λ n. is_some (part_named (parts_of shape) n) ≡ true)) (sym (names_more lines line p.name bp)) (each_push _ (filter_map begun_by lines) p.name h.known (ap is_some (found_at (parts_of shape) place p apart found.1)));
      fine = fine_push (image_fault shape) [] lines line h.fine (fine_begin shape lines line p bp g (begun_at shape lines old place p false h found.1 first) (found_at (parts_of shape) place p apart found.1));
    }

-- one more word that fits, where there is room
fit_more : (words : List ℕ) (word address width : ℕ) → WordsFit words address width → word < 2 ^ width → length words < 2 ^ address → WordsFit (words ++ word ∷ []) address width
fit_more words word address width h narrow room = record { room = more_room words room; each = each_push (λ w. w < 2 ^ width) words word h.each narrow } where
  more_room : (ws : List ℕ) → length ws < 2 ^ address → length (ws ++ word ∷ []) ≤ 2 ^ address
  more_room ws lt = grind (arith, common_steps)

-- the part in which a word stands
stands_at : (shape : Shape) (lines : List TextLine) (so_far : SoFar) (place : ℕ) → IsSoFar shape lines so_far → so_far.at ≡ Some place → (p : MemShape) × (slice_get (parts_of shape) place ≡ Some p) × (part_after lines ≡ Some p.name)
stands_at shape lines so_far place h at =
    let s = subst (λ a. StandsIn shape a (part_after lines)) at h.stands in
    let found = part_at (parts_of shape) place s.0 in
    (found.0, found.1, sym s.1 ∙ at_place_some name_of (parts_of shape) place found.0 found.1)

-- the line gives a word
pub word_step : (shape : Shape) (lines : List TextLine) (line : TextLine) (old new : SoFar) (place word width address : ℕ) (words : List ℕ) → IsShape shape → IsSoFar shape lines old → given_by line ≡ Some word → old.at ≡ Some place
    → width ≡ slice_index (map (λ (p : MemShape). p.width) (parts_of shape)) place → address ≡ slice_index (map (λ (p : MemShape). p.address) (parts_of shape)) place
    → words ≡ get_or old.words.items place words → nat_lt word (2 ^ width) ≡ true → nat_lt (length words) (2 ^ address) ≡ true
    → new.begun.items ≡ old.begun.items → new.words.items ≡ slice_set old.words.items place (words ++ word ∷ []) → new.at ≡ old.at → IsSoFar shape (lines ++ line ∷ []) new
word_step shape lines line old new place word width address words is h g at is_width is_address is_words fits room begun grown same =
    let found = stands_at shape lines old place h at in
    let p = found.0 in
    let apart = distinct_parts shape is in
    let b = given_only line word g in
    let there = found_at (parts_of shape) place p apart found.1 in
    let mine : words_of p.name lines ≡ words = words_at_place shape lines old place p words h found.1 is_words in
    let w : width ≡ p.width = is_width ∙ at_place (λ (q : MemShape). q.width) (parts_of shape) place p 0 found.1 in
    let a : address ≡ p.address = is_address ∙ at_place (λ (q : MemShape). q.address) (parts_of shape) place p 0 found.1 in
    let narrow : word < 2 ^ p.width = subst (λ n. word < 2 ^ n) w (ltb-true word (2 ^ width) fits) in
    let free : length (words_of p.name lines) < 2 ^ p.address = subst (λ ws. length ws < 2 ^ p.address) (sym mine) (subst (λ n. length words < 2 ^ n) a (ltb-true (length words) (2 ^ address) room)) in
    let grow : (q : MemShape) → words_of q.name (lines ++ line ∷ []) ≡ cond (bytes_eq p.name q.name) (words_of q.name lines ++ word ∷ []) (words_of q.name lines) = λ q. words_grow q.name p.name lines line word g found.2 in
    record {
      begun = begun ∙ h.begun ∙ sym (map_same _ _ (λ (q : MemShape). begun_stays q.name lines line b) (parts_of shape));
      words = grown ∙ ap (λ l. slice_set l place (words ++ word ∷ [])) h.words ∙ ap (λ ws. slice_set (map (λ (q : MemShape). words_of q.name lines) (parts_of shape)) place (ws ++ word ∷ [])) (sym mine)
          ∙ sym (map_same _ _ grow (parts_of shape) ∙ map_at (λ (q : MemShape). words_of q.name lines) (λ (q : MemShape). words_of q.name lines ++ word ∷ []) (parts_of shape) place p apart found.1);
      stands = subst (λ x. StandsIn shape x (part_after (lines ++ line ∷ []))) (sym same) (subst (λ part. StandsIn shape old.at part) (sym (part_push lines line ∙ rw b refl)) h.stands);
      fits = each_change (λ (q : MemShape). WordsFit (words_of q.name lines) q.address q.width) (λ (q : MemShape). WordsFit (words_of q.name (lines ++ line ∷ [])) q.address q.width) (parts_of shape) place p apart found.1
          (subst (λ ws. WordsFit ws p.address p.width) (sym (grow p ∙ rw (bytes_same p.name p.name refl) refl)) (fit_more (words_of p.name lines) word p.address p.width (each_fit p found.1) narrow free))
          (λ q other f. subst (λ ws. WordsFit ws q.address q.width) (sym (grow q ∙ rw other refl)) f)
          h.fits;
      known = subst (Each (λ n. is_some (part_named (parts_of shape) n) ≡ true)) (sym (names_stay lines line b)) h.known;
      fine = fine_push (image_fault shape) [] lines line h.fine (fine_word shape lines line p word b g found.2 there (lt-leb (2 ^ p.width) word narrow) (ne_eqb (length (words_of p.name lines)) (2 ^ p.address) (λ e. let wrong : ⊥ = omega arith in wrong)));
    } where
      each_fit : (p : MemShape) → slice_get (parts_of shape) place ≡ Some p → WordsFit (words_of p.name lines) p.address p.width
      each_fit p e = each_at (λ (q : MemShape). WordsFit (words_of q.name lines) q.address q.width) (parts_of shape) place p h.fits e

-- a line of no form
pub bad_form : (shape : Shape) (lines : List TextLine) (line : TextLine) → image_fault shape BadForm lines line ≡ true → IsLeastAt (image_fault shape) lines line BadForm
bad_form shape lines line h = record { holds = h; least = λ other f. at_least_one other }

pub nothing_fault : (shape : Shape) (lines : List TextLine) (line : TextLine) (number : ℕ) (fault : TextFault) → begun_by line ≡ None → given_by line ≡ None → line.number ≡ number → fault ≡ At number BadForm → IsFaultOfLine (image_fault shape) lines line fault
nothing_fault shape lines line number fault b g n e = rw e (sym n, bad_form shape lines line (rw (b, g) refl))

pub stray_fault : (shape : Shape) (lines : List TextLine) (line : TextLine) (so_far : SoFar) (word number : ℕ) (fault : TextFault) → IsSoFar shape lines so_far → given_by line ≡ Some word → so_far.at ≡ None → line.number ≡ number → fault ≡ At number BadForm → IsFaultOfLine (image_fault shape) lines line fault
stray_fault shape lines line so_far word number fault h g at n e =
    let none : part_after lines ≡ None = subst (λ a. StandsIn shape a (part_after lines)) at h.stands in
    rw e (sym n, bad_form shape lines line (rw (given_only line word g, g, none) refl))

pub second_fault : (shape : Shape) (lines : List TextLine) (line : TextLine) (so_far : SoFar) (place number : ℕ) (name : List ℕ) (fault : TextFault) → IsSoFar shape lines so_far → begun_by line ≡ Some name → slice_get (map name_of (parts_of shape)) place ≡ Some name → true ≡ get_or so_far.begun.items place true → line.number ≡ number → fault ≡ At number BadForm → IsFaultOfLine (image_fault shape) lines line fault
second_fault shape lines line so_far place number name fault h b at again n e =
    let found = named_at (parts_of shape) place name at in
    let begun : has_begun lines name ≡ true = subst (λ m. has_begun lines m ≡ true) found.2 (begun_at shape lines so_far place found.0 true h found.1 again) in
    rw e (sym n, bad_form shape lines line (rw (b, begun_only line name b, begun) refl))

-- a part that isn't there can't have begun
unknown_new : (parts : List MemShape) (names : List (List ℕ)) (name : List ℕ) → Each (λ n. is_some (part_named parts n) ≡ true) names → part_named parts name ≡ None → list_any (λ begun. bytes_eq begun name) names ≡ false
unknown_new parts [] name h none = refl
unknown_new parts (n ∷ names) name h none =
    rw (bytes_differ n name (λ same. false≢true (sym (ap is_some none) ∙ subst (λ m. is_some (part_named parts m) ≡ true) same h.0))) (unknown_new parts names name h.1 none)

pub unknown_fault : (shape : Shape) (lines : List TextLine) (line : TextLine) (so_far : SoFar) (number : ℕ) (name : List ℕ) (fault : TextFault) → IsSoFar shape lines so_far → begun_by line ≡ Some name → part_named (parts_of shape) name ≡ None → line.number ≡ number → fault ≡ At number NoSuchPart → IsFaultOfLine (image_fault shape) lines line fault
unknown_fault shape lines line so_far number name fault h b none n e = rw e (sym n, record { holds = rw (b, none) refl; least = least }) where
  form : image_fault shape BadForm lines line ≡ false
  form = rw (b, begun_only line name b, unknown_new (parts_of shape) (filter_map begun_by lines) name h.known none) refl

  least : (other : TextKind) → image_fault shape other lines line ≡ true → 2 ≤ number_of other
  least BadForm f = absurd (false≢true (sym form ∙ f))
  least NoSuchPart f = omega arith
  least ValueTooWide f = omega arith
  least TooManyWords f = omega arith

pub wide_fault : (shape : Shape) (lines : List TextLine) (line : TextLine) (so_far : SoFar) (place word width number : ℕ) (fault : TextFault) → IsShape shape → IsSoFar shape lines so_far → given_by line ≡ Some word → so_far.at ≡ Some place
    → width ≡ slice_index (map (λ (p : MemShape). p.width) (parts_of shape)) place → nat_lt word (2 ^ width) ≡ false → line.number ≡ number → fault ≡ At number ValueTooWide → IsFaultOfLine (image_fault shape) lines line fault
wide_fault shape lines line so_far place word width number fault is h g at is_width wide n e =
    let found = stands_at shape lines so_far place h at in
    let p = found.0 in
    let there = found_at (parts_of shape) place p (distinct_parts shape is) found.1 in
    let w : width ≡ p.width = is_width ∙ at_place (λ (q : MemShape). q.width) (parts_of shape) place p 0 found.1 in
    let above : 2 ^ p.width ≤ word = subst (λ n. 2 ^ n ≤ word) w (ltb-false word (2 ^ width) wide) in
    rw e (sym n, record { holds = rw (g, found.2, there, le-leb (2 ^ p.width) word above) refl; least = least p found.2 }) where
      least : (p : MemShape) → part_after lines ≡ Some p.name → (other : TextKind) → image_fault shape other lines line ≡ true → 3 ≤ number_of other
      least p at BadForm f = let form : image_fault shape BadForm lines line ≡ false = rw (given_only line word g, g, at) refl in absurd (false≢true (sym form ∙ f))
      least p at NoSuchPart f = let form : image_fault shape NoSuchPart lines line ≡ false = rw (given_only line word g) refl in absurd (false≢true (sym form ∙ f))
      least p at ValueTooWide f = omega arith
      least p at TooManyWords f = omega arith

pub many_fault : (shape : Shape) (lines : List TextLine) (line : TextLine) (so_far : SoFar) (place word width address number : ℕ) (words : List ℕ) (fault : TextFault) → IsShape shape → IsSoFar shape lines so_far → given_by line ≡ Some word → so_far.at ≡ Some place
    → width ≡ slice_index (map (λ (p : MemShape). p.width) (parts_of shape)) place → address ≡ slice_index (map (λ (p : MemShape). p.address) (parts_of shape)) place → words ≡ get_or so_far.words.items place words
    → nat_lt word (2 ^ width) ≡ true → nat_lt (length words) (2 ^ address) ≡ false → line.number ≡ number → fault ≡ At number TooManyWords → IsFaultOfLine (image_fault shape) lines line fault
many_fault shape lines line so_far place word width address number words fault is h g at is_width is_address is_words fits full n e =
    let found = stands_at shape lines so_far place h at in
    let p = found.0 in
    let there = found_at (parts_of shape) place p (distinct_parts shape is) found.1 in
    let mine : words_of p.name lines ≡ words = words_at_place shape lines so_far place p words h found.1 is_words in
    let w : width ≡ p.width = is_width ∙ at_place (λ (q : MemShape). q.width) (parts_of shape) place p 0 found.1 in
    let a : address ≡ p.address = is_address ∙ at_place (λ (q : MemShape). q.address) (parts_of shape) place p 0 found.1 in
    let narrow : word < 2 ^ p.width = subst (λ n. word < 2 ^ n) w (ltb-true word (2 ^ width) fits) in
    let above : 2 ^ p.address ≤ length (words_of p.name lines) = subst (λ ws. 2 ^ p.address ≤ length ws) (sym mine) (subst (λ n. 2 ^ n ≤ length words) a (ltb-false (length words) (2 ^ address) full)) in
    let room = (each_at (λ (q : MemShape). WordsFit (words_of q.name lines) q.address q.width) (parts_of shape) place p h.fits found.1).room in
    let exact : length (words_of p.name lines) ≡ 2 ^ p.address = omega arith in
    rw e (sym n, record { holds = rw (g, found.2, there, eq-eqb (length (words_of p.name lines)) (2 ^ p.address) exact) refl; least = least p found.2 there narrow }) where
      least : (p : MemShape) → part_after lines ≡ Some p.name → part_named (parts_of shape) p.name ≡ Some p → word < 2 ^ p.width → (other : TextKind) → image_fault shape other lines line ≡ true → 4 ≤ number_of other
      least p at there narrow BadForm f = let form : image_fault shape BadForm lines line ≡ false = rw (given_only line word g, g, at) refl in absurd (false≢true (sym form ∙ f))
      least p at there narrow NoSuchPart f = let form : image_fault shape NoSuchPart lines line ≡ false = rw (given_only line word g) refl in absurd (false≢true (sym form ∙ f))
      least p at there narrow ValueTooWide f = let form : image_fault shape ValueTooWide lines line ≡ false = rw (g, at, there, lt-leb (2 ^ p.width) word narrow) refl in absurd (false≢true (sym form ∙ f))
      least p at there narrow TooManyWords f = omega arith

-- the place of a word's part is within the so_far
pub place_within : (shape : Shape) (lines : List TextLine) (so_far : SoFar) (place : ℕ) → IsSoFar shape lines so_far → so_far.at ≡ Some place → place < length so_far.words.items
place_within shape lines so_far place h at =
    let s = subst (λ a. StandsIn shape a (part_after lines)) at h.stands in
    subst (λ (l : List (List ℕ)). place < length l) (sym h.words) (simp length-map s.0)

-- the words of a place have grown
pub grown_from : (items new : List (List ℕ)) (place : ℕ) (words : List ℕ) (word : ℕ) → place < length items → words ≡ get_or items place words → IfSome (slice_get items place) (λ ws. new ≡ slice_set items place (ws ++ word ∷ [])) → new ≡ slice_set items place (words ++ word ∷ [])
grown_from items new place words word lt is h = subst (λ o. IfSome o (λ ws. new ≡ slice_set items place (ws ++ word ∷ []))) (slice_get_read items (length items) place words refl lt is) h

-- the words of a so_far are an image that fits
mems_fit : (lines : List TextLine) (parts : List MemShape) → Each (λ (p : MemShape). WordsFit (words_of p.name lines) p.address p.width) parts → MemsFit (map (λ (p : MemShape). words_of p.name lines) parts) parts
mems_fit lines [] h = tt
mems_fit lines (p ∷ parts) h = (h.0, mems_fit lines parts h.1)

pub image_fits : (shape : Shape) (lines : List TextLine) (so_far : SoFar) (image : Image) → IsSoFar shape lines so_far → image.code ∷ image.mems ≡ so_far.words.items → ImageFitsShape image shape
image_fits shape lines so_far image h e =
    let all : image.code ∷ image.mems ≡ words_of code_part lines ∷ map (λ (p : MemShape). words_of p.name lines) shape.mems = e ∙ h.words in
    let code : image.code ≡ words_of code_part lines = cc in
    let mems : image.mems ≡ map (λ (p : MemShape). words_of p.name lines) shape.mems = cc in
    record {
      code = subst (λ ws. WordsFit ws shape.code_address shape.code_width) (sym code) h.fits.0;
      mems = subst (λ (l : List (List ℕ)). MemsFit l shape.mems) (sym mems) (mems_fit lines shape.mems h.fits.1);
    }
