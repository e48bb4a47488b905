-- Taking the lines of a text one after another: the first ones of the form, as long as they are.
use Rattle.std.proofs.Common.{◌≡◌, ◌↔◌, ℕ, ◌+◌, ◌<◌, ◌≤◌, List, [], ◌∷◌, ◌++◌, length, get_or, take, drop, map, Option, Some, refl, sym, ap, subst, ◌∙◌, arith, inl, ⊎_elim, length-take, length-append}
use Rattle.std.specs.Prelude.{codes, true, false}
use Rattle.std.specs.Borrow.{Bor}
use Rattle.std.proofs.Math.ListN.{length-map}
use Rattle.std.proofs.lemmas.List.{get_or-map, take-append-drop, take_all, take_more}
use Rattle.std.proofs.lemmas.Bool.{cases_lt}
use Rattle.ap_bits.specs.declared.card.Card.{Card}
use Rattle.ap_text.specs.declared.line.Line.{Line}
use Rattle.ap_text.specs.Numbers.{number_value}
use Rattle.ap_text.specs.Lines.{TextLine}
use Rattle.ap_text.specs.Spans.{line_in}
use Rattle.ap_text.proofs.Laws.{get_or-map-line_in}
use Rattle.ap_top.specs.declared.form.Form.{Form}
use Rattle.ap_top.specs.declared.pattern.Letter.TheVariants.{Start, Width}
use Rattle.ap_top.specs.declared.pattern.Piece.{Piece}
use Rattle.ap_bits.specs.Beside.{EachBeside}
use Rattle.ap_top.specs.Form.{AreFirstLines, AreLines, BeginForm, HasAddition, HasUnit, IsForm, IsLine, IsNotBuiltAt, IsDueToken, DueToken, exactly, first_form, numbered}
use Rattle.ap_top.specs.Found.{Agrees, IsServed, TakesFitting, token_of}
use Rattle.ap_top.proofs.Matching.{lengths_of}
use Rattle.ap_top.proofs.Words.{rest_from}

-- the numbers found are those of the forms whose first lines the lines so far are; the shelf has their unit, and there is such a form
pub record Begun (cards : List Card) (found : List (Option ℕ)) (lines : List TextLine) (i : ℕ) : Type 0 where
  pub within : i ≤ length first_form
  pub same : (form : Form) → Agrees found form ↔ AreLines form (take i first_form) (take i lines)
  pub units : (form : Form) → Agrees found form → HasUnit cards form (take i lines)
  pub begun : BeginForm cards (take i lines)

pub beside_push : {X Y : Type 0} (R : X → Y → Type 0) (xs : List X) (ys : List Y) (x : X) (y : Y) → EachBeside R xs ys → R x y → EachBeside R (xs ++ x ∷ []) (ys ++ y ∷ [])
beside_push R [] [] x y h last = (last, tt)
beside_push R [] (b ∷ ys) x y h last = absurd h
beside_push R (a ∷ xs) [] x y h last = absurd h
beside_push R (a ∷ xs) (b ∷ ys) x y h last = (h.0, beside_push R xs ys x y h.1 last)

some_left : {X Y : Type 0} {A : Type 0} (R : X → Y → Type 0) (xs : List X) (x : X) → EachBeside R (xs ++ x ∷ []) [] → A
some_left R [] x h = absurd h
some_left R (a ∷ xs) x h = absurd h

some_right : {X Y : Type 0} {A : Type 0} (R : X → Y → Type 0) (ys : List Y) (y : Y) → EachBeside R [] (ys ++ y ∷ []) → A
some_right R [] y h = absurd h
some_right R (b ∷ ys) y h = absurd h

pub beside_split : {X Y : Type 0} (R : X → Y → Type 0) (xs : List X) (ys : List Y) (x : X) (y : Y) → EachBeside R (xs ++ x ∷ []) (ys ++ y ∷ []) → EachBeside R xs ys × R x y
beside_split R [] [] x y h = (tt, h.0)
beside_split R [] (b ∷ ys) x y h = some_right R ys y h.1
beside_split R (a ∷ xs) [] x y h = some_left R xs x h.1
beside_split R (a ∷ xs) (b ∷ ys) x y h = let rest = beside_split R xs ys x y h.1 in ((h.0, rest.0), rest.1)

-- a line of a text, after those before it
pub line_after : (text : List ℕ) (lines : List Line) (i : ℕ) (line : Line) → i < length lines → line ≡ get_or lines i line → take (i + 1) (map (line_in text) lines) ≡ take i (map (line_in text) lines) ++ line_in text line ∷ []
line_after text lines i line lt is = take_more (map (line_in text) lines) i (line_in text line) (simp length-map lt) ∙ ap (λ l. take i (map (line_in text) lines) ++ l ∷ []) (get_or-map-line_in text lines i line (line_in text line) lt is)

pub line_split : (text : List ℕ) (lines : List Line) (i : ℕ) (line : Line) → i < length lines → line ≡ get_or lines i line → map (line_in text) lines ≡ take i (map (line_in text) lines) ++ line_in text line ∷ drop (i + 1) (map (line_in text) lines)
line_split text lines i line lt is = sym (take-append-drop i (map (line_in text) lines)) ∙ ap (λ l. take i (map (line_in text) lines) ++ l) (rest_from (map (line_in text) lines) i (line_in text line) (simp length-map lt) (sym (get_or-map-line_in text lines i line (line_in text line) lt is)))

pub length_front : {X : Type 0} (i : ℕ) (xs : List X) → i ≤ length xs → length (take i xs) ≡ i
length_front i xs le = simp length-take (omega arith)

-- the table has the form's line
pub due_after : (table : List (Bor (List Piece))) (i : ℕ) (d : Bor (List Piece)) → map (λ pieces. map token_of pieces.now) table ≡ first_form → i < length first_form → take (i + 1) first_form ≡ take i first_form ++ map token_of (get_or table i d).now ∷ []
due_after table i d e lt =
    let inside : i < length table = simp length-map at (subst (λ (l : List (List DueToken)). i < length l) (sym e) lt) in
    rw (← e) (take_more (map (λ (pieces : Bor (List Piece)). map token_of pieces.now) table) i (map token_of (get_or table i d).now) (simp length-map inside)
    ∙ ap (λ l. take i (map (λ (pieces : Bor (List Piece)). map token_of pieces.now) table) ++ l ∷ []) (get_or-map (λ (pieces : Bor (List Piece)). map token_of pieces.now) table i d (map token_of (get_or table i d).now) inside))

-- the first lines of the form, as many as there are lines
first_lines : (form : Form) (lines : List TextLine) (n : ℕ) → length lines ≡ n → AreFirstLines form lines → AreLines form (take n first_form) lines
first_lines form lines n e h = subst (λ m. AreLines form (take m first_form) lines) e h

first_lines_back : (form : Form) (lines : List TextLine) (n : ℕ) → length lines ≡ n → AreLines form (take n first_form) lines → AreFirstLines form lines
first_lines_back form lines n e h = subst (λ m. AreLines form (take m first_form) lines) (sym e) h

-- before the first line
pub begun_none : (cards : List Card) (found : List (Option ℕ)) (lines : List TextLine) → ((form : Form) → Agrees found form) → Begun cards found lines 0
begun_none cards found lines all = record {
  within = omega arith;
  same = λ form. ((λ _. tt), (λ _. all form));
  units = λ form agrees lt. absurd (omega arith);
  begun = (
    record { address = 4; word = 8; width = 1; start = 0; code = 1; constant = 0 },
    tt,
    record {
      address_low = omega arith;
      address_high = omega arith;
      word_low = omega arith;
      word_high = omega arith;
      width_low = omega arith;
      width_high = omega arith;
      values = record { start = omega arith; code_low = omega arith; code_high = omega arith; constant = omega arith };
    },
    λ lt. absurd (omega arith),
  );
}

-- two forms with the same line `reg` have one width
same_token : (one other : Form) (a b d : DueToken) (tokens : List (List ℕ)) → EachBeside (IsDueToken one) (a ∷ b ∷ numbered Width ∷ d ∷ []) tokens → EachBeside (IsDueToken other) (a ∷ b ∷ numbered Width ∷ d ∷ []) tokens → one.width ≡ other.width
same_token one other a b d [] h g = absurd h
same_token one other a b d (x ∷ []) h g = absurd h.1
same_token one other a b d (x ∷ y ∷ []) h g = absurd h.1.1
same_token one other a b d (x ∷ y ∷ z ∷ tokens) h g =
    let p = h.1.1.0 in
    let q = g.1.1.0 in
    let same : Some one.width ≡ Some other.width = sym p.2 ∙ ap number_value (sym p.1 ∙ q.1) ∙ q.2 in
    cc

-- and so have two forms with the same lines up to `unit`
same_width : (one other : Form) (lines : List TextLine) → AreLines one (take 6 first_form) lines → AreLines other (take 6 first_form) lines → one.width ≡ other.width
same_width one other [] h g = absurd h
same_width one other (a ∷ []) h g = absurd h.1
same_width one other (a ∷ b ∷ []) h g = absurd h.1.1
same_width one other (a ∷ b ∷ c ∷ []) h g = absurd h.1.1.1
same_width one other (a ∷ b ∷ c ∷ d ∷ []) h g = absurd h.1.1.1.1
same_width one other (a ∷ b ∷ c ∷ d ∷ e ∷ lines) h g = same_token one other (exactly (codes "reg")) (exactly (codes "R")) (numbered Start) e.tokens h.1.1.1.1.0.1 g.1.1.1.1.0.1

-- one more line was taken, and the shelf has what it asks for
pub begun_more : (cards : List Card) (found next : List (Option ℕ)) (lines : List TextLine) (i : ℕ) (due : List DueToken) (line : TextLine) → i < length first_form → i < length lines → take (i + 1) first_form ≡ take i first_form ++ due ∷ [] → take (i + 1) lines ≡ take i lines ++ line ∷ []
    → Begun cards found lines i → TakesFitting found next (λ form. IsLine form due line) true → IsServed cards next i true → Begun cards next lines (i + 1)
begun_more cards found next lines i due line lt lt' e g h takes served =
    let same : (form : Form) → Agrees next form ↔ AreLines form (take (i + 1) first_form) (take (i + 1) lines) = λ form. (
      (λ agrees. let both = (takes.some refl form).0 agrees in rw (e, g) (beside_push (IsLine form) (take i first_form) (take i lines) due line ((h.same form).0 both.0) both.1)),
      (λ all. let both = beside_split (IsLine form) (take i first_form) (take i lines) due line (rw (e, g) at all) in (takes.some refl form).1 ((h.same form).1 both.0, both.1)),
    ) in
    let here : (form : Form) → Agrees next form → i ≡ 5 → HasAddition cards form.width = λ form agrees is.
    let other = served.yes refl is in
    let all : (form : Form) → Agrees next form → AreLines form (take 6 first_form) (take 6 lines) = λ form agrees. subst (λ n. AreLines form (take (n + 1) first_form) (take (n + 1) lines)) is ((same form).0 agrees) in
    subst (λ w. HasAddition cards w) (same_width other.0 form (take 6 lines) (all other.0 other.1) (all form agrees)) other.2 in
    let units : (form : Form) → Agrees next form → HasUnit cards form (take (i + 1) lines) = λ form agrees lt.
    let reached : 5 < i + 1 = rw (length_front (i + 1) lines (omega arith)) at lt in
    ⊎_elim (λ past. h.units form ((takes.some refl form).0 agrees).0 (rw (length_front i lines (omega arith)) past)) (λ not_past. here form agrees (omega arith)) (cases_lt 5 i) in
    let form = takes.fits refl in
    record {
      within = omega arith;
      same = same;
      units = units;
      begun = (form.0, first_lines_back form.0 (take (i + 1) lines) (i + 1) (length_front (i + 1) lines (omega arith)) ((same form.0).0 form.1), form.2, units form.0 form.1);
    }

-- the lines with the next one, of a form that they begin
with_next : (form : Form) (lines : List TextLine) (i : ℕ) (due : List DueToken) (line : TextLine) → i < length lines → AreFirstLines form (take i lines ++ line ∷ []) → AreLines form (take (i + 1) first_form) (take i lines ++ line ∷ [])
with_next form lines i due line lt h =
    let longer : length (take i lines ++ line ∷ []) ≡ i + 1 = length-append (take i lines) (line ∷ []) ∙ ap (λ n. n + 1) (length_front i lines (omega arith)) in
    first_lines form (take i lines ++ line ∷ []) (i + 1) longer h

-- the next line isn't due
pub wrong_line : (cards : List Card) (found next : List (Option ℕ)) (lines : List TextLine) (i : ℕ) (due : List DueToken) (line : TextLine) → i < length lines → take (i + 1) first_form ≡ take i first_form ++ due ∷ []
    → Begun cards found lines i → TakesFitting found next (λ form. IsLine form due line) false → BeginForm cards (take i lines ++ line ∷ []) → ⊥
wrong_line cards found next lines i due line lt e h takes more =
    let all = with_next more.0 lines i due line lt more.1 in
    let both = beside_split (IsLine more.0) (take i first_form) (take i lines) due line (rw e at all) in
    takes.none refl more.0 ((h.same more.0).1 both.0) both.1 more.2

-- the next line is due but for the unit, which the shelf hasn't
pub unit_missing : (cards : List Card) (found next : List (Option ℕ)) (lines : List TextLine) (i : ℕ) (due : List DueToken) (line : TextLine) → i < length lines → take (i + 1) first_form ≡ take i first_form ++ due ∷ []
    → Begun cards found lines i → TakesFitting found next (λ form. IsLine form due line) true → IsServed cards next i false → BeginForm cards (take i lines ++ line ∷ []) → ⊥
unit_missing cards found next lines i due line lt e h takes served more =
    let is = served.asks refl in
    let longer : length (take i lines ++ line ∷ []) ≡ i + 1 = length-append (take i lines) (line ∷ []) ∙ ap (λ n. n + 1) (length_front i lines (omega arith)) in
    let given = takes.fits refl in
    let lacking = served.no refl given.0 given.1 given.2 in
    let both = (takes.some refl lacking.0).0 lacking.1 in
    let six : (form : Form) → AreLines form (take (i + 1) first_form) (take i lines ++ line ∷ []) → AreLines form (take 6 first_form) (take i lines ++ line ∷ []) = λ form all. subst (λ n. AreLines form (take (n + 1) first_form) (take i lines ++ line ∷ [])) is all in
    let its = six lacking.0 (rw e (beside_push (IsLine lacking.0) (take i first_form) (take i lines) due line ((h.same lacking.0).0 both.0) both.1)) in
    let width = same_width more.0 lacking.0 (take i lines ++ line ∷ []) (six more.0 (with_next more.0 lines i due line lt more.1)) its in
    lacking.2 (subst (λ w. HasAddition cards w) width (more.3 (rw longer (omega arith))))

-- a line after the last of the form
pub line_too_many : (cards : List Card) (lines : List TextLine) (i : ℕ) (line : TextLine) → i ≡ length first_form → i < length lines → BeginForm cards (take i lines ++ line ∷ []) → ⊥
line_too_many cards lines i line e lt more =
    let longer : length (take i lines ++ line ∷ []) ≡ i + 1 = length-append (take i lines) (line ∷ []) ∙ ap (λ n. n + 1) (length_front i lines (omega arith)) in
    let same = lengths_of (IsLine more.0) (take (length (take i lines ++ line ∷ [])) first_form) (take i lines ++ line ∷ []) more.1 in
    let short : length (take (length (take i lines ++ line ∷ [])) first_form) ≤ length first_form = simp length-take (omega arith) in
    omega arith

-- so the lines aren't the form's from there on
pub stops_at : (cards : List Card) (lines : List TextLine) (i : ℕ) (line : TextLine) (rest : List TextLine) → lines ≡ take i lines ++ line ∷ rest → BeginForm cards (take i lines) → (BeginForm cards (take i lines ++ line ∷ []) → ⊥) → IsNotBuiltAt cards lines line.number
stops_at cards lines i line rest e begun ends = inl (record { before = take i lines; line = line; place = record { after = rest; parts = e; numbered = refl }; begun = begun; ends = ends })

pub all_lines : (cards : List Card) (found : List (Option ℕ)) (lines : List TextLine) (i : ℕ) → length lines ≤ i → Begun cards found lines i → BeginForm cards lines
all_lines cards found lines i le h = subst (BeginForm cards) (take_all i lines le) h.begun

pub form_of_all : (cards : List Card) (found : List (Option ℕ)) (lines : List TextLine) (i : ℕ) (form : Form) → length lines ≤ i → length first_form ≤ i → Begun cards found lines i → Agrees found form → AreLines form first_form lines
form_of_all cards found lines i form le le' h agrees =
    subst (λ (l : List TextLine). AreLines form first_form l) (take_all i lines le) (subst (λ (l : List (List DueToken)). AreLines form l (take i lines)) (take_all i first_form le') ((h.same form).0 agrees))

-- and the shelf has its unit
pub unit_of_all : (cards : List Card) (found : List (Option ℕ)) (lines : List TextLine) (i : ℕ) (form : Form) → length lines ≤ i → length first_form ≤ length lines → Begun cards found lines i → Agrees found form → HasAddition cards form.width
unit_of_all cards found lines i form le many h agrees = h.units form agrees (rw (take_all i lines le) (omega arith))

-- some form has the numbers that were found
pub some_form : (cards : List Card) (found : List (Option ℕ)) (lines : List TextLine) (i : ℕ) → i ≤ length lines → Begun cards found lines i → (form : Form) × Agrees found form × IsForm form
some_form cards found lines i le h =
    let b = h.begun in
    (b.0, (h.same b.0).1 (first_lines b.0 (take i lines) i (length_front i lines le) b.1), b.2)
