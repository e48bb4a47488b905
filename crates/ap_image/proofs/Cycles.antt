-- A line of a trace, and the cycles that lines are.
use Rattle.std.proofs.Common.{◌≡◌, ℕ, ◌+◌, ◌-◌, ◌<◌, ◌≤◌, ◌^◌, suc, List, [], ◌∷◌, ◌++◌, length, get_or, take, drop, map, not, ◌&&◌, Bool, true, false, cond, nat_lt, eqb, Option, Some, None, refl, sym, ap, subst, ◌∙◌, arith, add-one}
use Rattle.std.specs.List.{AllByRecursion as Each}
use Rattle.std.specs.Option.{option_map_or}
use Rattle.std.proofs.Math.ListN.{length-map}
use Rattle.std.proofs.Math.Seq.{drop-cons, take-length}
use Rattle.std.proofs.lemmas.Bool.{and_parts, false≢true, lt-ltb, ltb-true, ne_eqb, eq-eqb}
use Rattle.std.proofs.lemmas.List.Elements.{filter_map-append}
use Rattle.std.proofs.lemmas.Option.{none-some, same_Some}
use Rattle.std.proofs.lemmas.List.{map-append, take-append-drop, take_more}
use Rattle.ap_text.specs.declared.line.Line.{Line}
use Rattle.ap_text.specs.declared.line.Span.{Span}
use Rattle.ap_text.specs.Lines.{TextLine}
use Rattle.ap_text.specs.Spans.{bytes_in, line_in}
use Rattle.ap_text.specs.Numbers.{number_value}
use Rattle.ap_image.specs.declared.fault.TextFault.{TextFault}
use Rattle.ap_image.specs.declared.fault.TextFault.TheVariants.{At}
use Rattle.ap_image.specs.declared.fault.TextKind.{TextKind}
use Rattle.ap_image.specs.declared.fault.TextKind.TheVariants.{BadForm, NoSuchPart, ValueTooWide, TooManyWords}
use Rattle.ap_image.specs.declared.trace.TraceLine.{TraceLine}
use Rattle.ap_image.specs.FitsShape.{LineFitsShape, ValuesFit}
use Rattle.ap_image.specs.Shapes.{Shape}
use Rattle.ap_image.specs.TextFaults.{IsFaultOfLine, number_of}
use Rattle.ap_image.specs.TraceTexts.{IsCycleOf, IsTraceOf, are_within, before_numbers, cycle_by, is_miscounted, numbers_by, numbers_in, trace_fault, widths_of}
use Rattle.ap_image.proofs.FirstFaults.{at_least_one, fine_push}
use Rattle.ap_image.proofs.PartLists.{each_push}

-- a number before numbers
before_parts : (o : Option ℕ) (rest : Option (List ℕ)) (ns : List ℕ) → before_numbers o rest ≡ Some ns → (v : ℕ) × (vs : List ℕ) × (o ≡ Some v) × (rest ≡ Some vs) × (v ∷ vs ≡ ns)
before_parts None rest ns e = absurd (none-some ns e)
before_parts (Some v) None ns e = absurd (none-some ns e)
before_parts (Some v) (Some vs) ns e = (v, vs, refl, refl, same_Some (v ∷ vs) ns e)

before_none : (o : Option ℕ) → before_numbers o None ≡ None
before_none None = refl
before_none (Some v) = refl

-- there are as many numbers as tokens
pub length-numbers_in : (tokens : List (List ℕ)) (ns : List ℕ) → numbers_in tokens ≡ Some ns → length ns ≡ length tokens
length-numbers_in [] ns e = let same : [] ≡ ns = same_Some [] ns e in subst (λ (l : List ℕ). length l ≡ 0) same refl
length-numbers_in (t ∷ ts) ns e =
    let p = before_parts (number_value t) (numbers_in ts) ns e in
    let rest : length p.1 ≡ length ts = length-numbers_in ts p.1 p.3 in
    subst (λ (l : List ℕ). length l ≡ length (t ∷ ts)) p.4 (ap suc rest)

-- one more number
pub numbers_push : (front : List (List ℕ)) (t : List ℕ) (ns : List ℕ) (v : ℕ) → numbers_in front ≡ Some ns → number_value t ≡ Some v → numbers_in (front ++ t ∷ []) ≡ Some (ns ++ v ∷ [])
numbers_push [] t ns v e g = let same : [] ≡ ns = same_Some [] ns e in rw g (ap (λ (l : List ℕ). Some (l ++ v ∷ [])) same)
numbers_push (x ∷ xs) t ns v e g =
    let p = before_parts (number_value x) (numbers_in xs) ns e in
    rw (p.2, numbers_push xs t p.1 v p.3 g) (ap (λ (l : List ℕ). Some (l ++ v ∷ [])) p.4)

-- something that is no number
pub numbers_stuck : (front : List (List ℕ)) (t : List ℕ) (rest : List (List ℕ)) → number_value t ≡ None → numbers_in (front ++ t ∷ rest) ≡ None
numbers_stuck [] t rest g = rw g refl
numbers_stuck (x ∷ xs) t rest g = rw (numbers_stuck xs t rest g) (before_none (number_value x))

-- one more value beside its width
pub within_step : (values widths : List ℕ) (i v w : ℕ) → i < length values → length values ≡ length widths → v ≡ get_or values i v → w ≡ get_or widths i w
    → are_within (drop i values) (drop i widths) ≡ (nat_lt v (2 ^ w) && are_within (drop (i + 1) values) (drop (i + 1) widths))
within_step values widths i v w lt same is is' =
    let there : i < length widths = omega arith in
    let one : drop i values ≡ v ∷ drop (i + 1) values = rw add-one (drop-cons values i v lt ∙ ap (λ x. x ∷ drop (suc i) values) (sym is)) in
    let other : drop i widths ≡ w ∷ drop (i + 1) widths = rw add-one (drop-cons widths i w there ∙ ap (λ x. x ∷ drop (suc i) widths) (sym is')) in
    (λ j. are_within (one j) (other j))

values_fit : (values widths : List ℕ) → length values ≡ length widths → are_within values widths ≡ true → ValuesFit values widths
values_fit [] [] same h = tt
values_fit [] (w ∷ widths) same h = absurd (omega arith)
values_fit (v ∷ values) [] same h = absurd (omega arith)
values_fit (v ∷ values) (w ∷ widths) same h =
    let both = and_parts (nat_lt v (2 ^ w)) (are_within values widths) h in
    (ltb-true v (2 ^ w) both.0, values_fit values widths (omega arith) both.1)

-- the numbers of a line
pub line_numbers : (line : TextLine) (first : List ℕ) (rest : List (List ℕ)) (wait : ℕ) (ports : List ℕ) → line.clean ≡ true → line.tokens ≡ first ∷ rest → number_value first ≡ Some wait → numbers_in rest ≡ Some ports → numbers_by line ≡ Some (wait ∷ ports)
unfolding numbers_by
line_numbers line first rest wait ports clean tokens one more = rw (clean, tokens, one, more) refl

-- a line of as many numbers that fit is a cycle
pub cycle_good : (shape : Shape) (line : TextLine) (wait : ℕ) (ports : List ℕ) → numbers_by line ≡ Some (wait ∷ ports) → length ports ≡ length shape.inputs → wait ≤ 1 → are_within ports shape.inputs ≡ true → IsCycleOf shape line (record { wait = eqb wait 1; ports = ports })
cycle_good shape line wait ports e same low within = record {
  gives = rw e refl;
  fine = λ before kind. fine kind before;
  fits = values_fit ports shape.inputs same within;
} where
  count : eqb (length (wait ∷ ports)) (length (widths_of shape)) ≡ true
  count = eq-eqb (length (wait ∷ ports)) (length (widths_of shape)) (ap suc same)

  bit : nat_lt wait 2 ≡ true
  bit = lt-ltb wait 2 (omega arith)

  fine : (kind : TextKind) (before : List TextLine) → trace_fault shape kind before line ≡ false
  fine BadForm before = rw (e, count) refl
  fine NoSuchPart before = refl
  fine ValueTooWide before = rw (e, bit, within) refl
  fine TooManyWords before = refl

-- why a line is no cycle
form_fault : (shape : Shape) (line : TextLine) (number : ℕ) (fault : TextFault) → is_miscounted shape line ≡ true → line.number ≡ number → fault ≡ At number BadForm → (before : List TextLine) → IsFaultOfLine (trace_fault shape) before line fault
form_fault shape line number fault h n e before = rw e (sym n, record { holds = h; least = λ other f. at_least_one other })

pub none_fault : (shape : Shape) (line : TextLine) (number : ℕ) (fault : TextFault) → numbers_by line ≡ None → line.number ≡ number → fault ≡ At number BadForm → (before : List TextLine) → IsFaultOfLine (trace_fault shape) before line fault
none_fault shape line number fault none n e = form_fault shape line number fault (rw none refl) n e

-- a line that isn't clean consists of no numbers
pub unclean : (line : TextLine) → line.clean ≡ false → numbers_by line ≡ None
unfolding numbers_by
unclean line e = rw e refl

-- nor one with something that is no number
pub first_none : (line : TextLine) (first : List ℕ) (rest : List (List ℕ)) → line.tokens ≡ first ∷ rest → number_value first ≡ None → numbers_by line ≡ None
unfolding numbers_by
first_none line first rest tokens e = rw (tokens, e) (either line.clean) where
  either : (b : Bool) → ◌≡◌ {A = Option (List ℕ)} (cond b None None) None
  either true = refl
  either false = refl

pub rest_none : (line : TextLine) (first : List ℕ) (rest : List (List ℕ)) → line.tokens ≡ first ∷ rest → numbers_in rest ≡ None → numbers_by line ≡ None
unfolding numbers_by
rest_none line first rest tokens e = rw (tokens, e, before_none (number_value first)) (either line.clean) where
  either : (b : Bool) → ◌≡◌ {A = Option (List ℕ)} (cond b None None) None
  either true = refl
  either false = refl

-- a wrong count of tokens
pub count_fault : (shape : Shape) (line : TextLine) (number : ℕ) (fault : TextFault) → (length line.tokens ≡ suc (length shape.inputs) → ⊥) → line.number ≡ number → fault ≡ At number BadForm → (before : List TextLine) → IsFaultOfLine (trace_fault shape) before line fault
unfolding numbers_by
count_fault shape line number fault differ n e = form_fault shape line number fault (by_case line.clean) n e where
  counted : (o : Option (List ℕ)) → ((ns : List ℕ) → o ≡ Some ns → length ns ≡ length line.tokens) → not (option_map_or (λ (ns : List ℕ). eqb (length ns) (length (widths_of shape))) o false) ≡ true
  counted None h = refl
  counted (Some ns) h = let count : eqb (length ns) (length (widths_of shape)) ≡ false = ne_eqb (length ns) (length (widths_of shape)) (λ same. differ (sym (h ns refl) ∙ same)) in rw count refl

  by_case : (b : Bool) → not (option_map_or (λ (ns : List ℕ). eqb (length ns) (length (widths_of shape))) (cond b (numbers_in line.tokens) None) false) ≡ true
  by_case true = counted (numbers_in line.tokens) (λ ns f. length-numbers_in line.tokens ns f)
  by_case false = refl

-- a number that doesn't fit
pub wide_fault : (shape : Shape) (line : TextLine) (wait : ℕ) (ports : List ℕ) (number : ℕ) (fault : TextFault) → numbers_by line ≡ Some (wait ∷ ports) → length ports ≡ length shape.inputs → (nat_lt wait 2 && are_within ports shape.inputs) ≡ false → line.number ≡ number → fault ≡ At number ValueTooWide → (before : List TextLine) → IsFaultOfLine (trace_fault shape) before line fault
wide_fault shape line wait ports number fault e same wide n f before = rw f (sym n, record { holds = rw (e, wide) refl; least = least }) where
  count : eqb (length (wait ∷ ports)) (length (widths_of shape)) ≡ true
  count = eq-eqb (length (wait ∷ ports)) (length (widths_of shape)) (ap suc same)

  form : trace_fault shape BadForm before line ≡ false
  form = rw (e, count) refl

  least : (other : TextKind) → trace_fault shape other before line ≡ true → 3 ≤ number_of other
  least BadForm g = absurd (false≢true (sym form ∙ g))
  least NoSuchPart g = absurd (false≢true g)
  least ValueTooWide g = omega arith
  least TooManyWords g = omega arith

-- one more cycle
pub trace_step : (shape : Shape) (lines : List TextLine) (line : TextLine) (old new : List TraceLine) (cycle : TraceLine) → IsTraceOf shape lines (record { lines = old }) → IsCycleOf shape line cycle → new ≡ old ++ cycle ∷ [] → IsTraceOf shape (lines ++ line ∷ []) (record { lines = new })
trace_step shape lines line old new cycle h c e = record {
  gives = e ∙ ap (λ (l : List TraceLine). l ++ cycle ∷ []) h.gives ∙ sym (filter_map-append cycle_by lines (line ∷ []) ∙ rw c.gives refl);
  fine = fine_push (trace_fault shape) [] lines line h.fine (c.fine lines);
  fits = subst (Each (λ (l : TraceLine). LineFitsShape l shape)) (sym e) (each_push (λ (l : TraceLine). LineFitsShape l shape) old cycle h.fits c.fits);
}

-- one more token, and the tokens around one
pub tokens_more : (text : List ℕ) (s : List Span) (i : ℕ) (d : Span) → i < length s → map (bytes_in text) (take (i + 1) s) ≡ map (bytes_in text) (take i s) ++ bytes_in text (get_or s i d) ∷ []
tokens_more text s i d lt = ap (map (bytes_in text)) (take_more s i d lt) ∙ map-append (bytes_in text) (take i s) (get_or s i d ∷ [])

pub tokens_cut : (text : List ℕ) (s : List Span) (i : ℕ) (d : Span) → i < length s → map (bytes_in text) s ≡ map (bytes_in text) (take i s) ++ bytes_in text (get_or s i d) ∷ map (bytes_in text) (drop (i + 1) s)
tokens_cut text s i d lt =
    let rest : drop i s ≡ get_or s i d ∷ drop (i + 1) s = rw add-one (drop-cons s i d lt) in
    ap (map (bytes_in text)) (sym (take-append-drop i s) ∙ ap (λ l. take i s ++ l) rest) ∙ map-append (bytes_in text) (take i s) (get_or s i d ∷ drop (i + 1) s)

-- the first token and the others
pub tokens_first : (text : List ℕ) (s : List Span) (d : Span) → 1 ≤ length s → map (bytes_in text) s ≡ bytes_in text (get_or s 0 d) ∷ map (bytes_in text) (take (length s - 1) (drop 1 s))
tokens_first text [] d h = absurd (omega arith)
tokens_first text (x ∷ xs) d h = let count : suc (length xs) - 1 ≡ length xs = omega arith in rw (count, take-length xs) refl

pub rest_count : (s : List Span) → 1 ≤ length s → suc (length (take (length s - 1) (drop 1 s))) ≡ length s
rest_count [] h = absurd (omega arith)
rest_count (x ∷ xs) h = let count : suc (length xs) - 1 ≡ length xs = omega arith in rw (count, take-length xs) refl

pub tokens_count : (text : List ℕ) (line : Line) (s : List Span) → s ≡ line.tokens → length (line_in text line).tokens ≡ length s
tokens_count text line s e = simp length-map (ap length (sym e))

pub line_tokens : (text : List ℕ) (line : Line) (s : List Span) (d : Span) → s ≡ line.tokens → 1 ≤ length s → (line_in text line).tokens ≡ bytes_in text (get_or s 0 d) ∷ map (bytes_in text) (take (length s - 1) (drop 1 s))
line_tokens text line s d e h = ap (map (bytes_in text)) (sym e) ∙ tokens_first text s d h

-- what a line's tokens are, read one by one
pub the_numbers : (text : List ℕ) (line : Line) (s : List Span) (d : Span) (first : List ℕ) (wait : ℕ) (ports : List ℕ) (found : Option (List ℕ)) → s ≡ line.tokens → 1 ≤ length s → line.clean ≡ true → first ≡ bytes_in text (get_or s 0 d) → number_value first ≡ Some wait
    → found ≡ numbers_in (map (bytes_in text) (take (length s - 1) (drop 1 s))) → found ≡ Some ports → (numbers_by (line_in text line) ≡ Some (wait ∷ ports)) × (length ports ≡ length (take (length s - 1) (drop 1 s)))
the_numbers text line s d first wait ports found e h clean is one more all = (
  line_numbers (line_in text line) (bytes_in text (get_or s 0 d)) _ wait ports clean (line_tokens text line s d e h) (ap number_value (sym is) ∙ one) (sym more ∙ all),
  length-numbers_in _ ports (sym more ∙ all) ∙ simp length-map,
)

pub within_same : (a b ports inputs : List ℕ) (r v : Bool) → a ≡ ports → b ≡ inputs → r ≡ are_within a b → r ≡ v → are_within ports inputs ≡ v
within_same a b ports inputs r v e g h is = (λ j. are_within (sym e j) (sym g j)) ∙ sym h ∙ is
