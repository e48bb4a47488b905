-- The text that is written of a trace that fits is without fault, and gives the trace.
use Rattle.std.proofs.Common.{◌≡◌, ℕ, ◌+◌, ◌<◌, ◌≤◌, ◌^◌, suc, List, [], ◌∷◌, ◌++◌, length, map, Bool, true, false, cond, nat_lt, eqb, Some, refl, sym, ap, subst, ◌∙◌, arith, append-nil, append_assoc}
use Rattle.std.specs.Prelude.{codes}
use Rattle.std.specs.Fmt.{decimal}
use Rattle.std.specs.List.{flat_map, list_all, AllByRecursion as Each}
use Rattle.std.specs.Str.Parse.{IsNumeral}
use Rattle.std.proofs.Math.Nat.{pow-le-pow_right}
use Rattle.std.proofs.lemmas.Bool.{and_from, lt-ltb}
use Rattle.std.proofs.lemmas.Fmt.{decimal_is_IsNumeral}
use Rattle.ap_text.specs.Lines.{TextLine, is_token, lines_of}
use Rattle.ap_text.specs.Numbers.{number_value, spelled_value}
use Rattle.ap_text.proofs.Written.{number_value-decimal}
use Rattle.ap_image.specs.declared.trace.Trace.{Trace}
use Rattle.ap_image.specs.declared.trace.TraceLine.{TraceLine}
use Rattle.ap_image.specs.FitsShape.{LineFitsShape, TraceFitsShape, ValuesFit}
use Rattle.ap_image.specs.Shapes.{IsNarrow, Shape}
use Rattle.ap_image.specs.TextFaults.{AreFine}
use Rattle.ap_image.specs.TraceTexts.{IsCycleOf, IsTraceOf, after_space, are_within, cycle_text, numbers_in, trace_fault, trace_of, trace_text}
use Rattle.ap_image.proofs.Cycles.{cycle_good, line_numbers, trace_step}
use Rattle.ap_image.proofs.WrittenLines.{IsWhole, Spoken, digits_plain, is_plain, is_whole, lines_are, numbered, spoken_text}

-- the line of a cycle
abbrev bit_text : Bool → List ℕ
bit_text true = codes "1"
bit_text false = codes "0"

abbrev bit_of : Bool → ℕ
bit_of true = 1
bit_of false = 0

abbrev pub cycle_line : TraceLine → Spoken
cycle_line cycle = record { first = bit_text cycle.wait; rest = map decimal cycle.ports }

-- it spells the text
ports_text : (ports : List ℕ) → flat_map after_space ports ≡ flat_map (λ token. 32 ∷ token) (map decimal ports)
ports_text [] = refl
ports_text (port ∷ ports) = ap (λ rest. (32 ∷ decimal port) ++ rest) (ports_text ports)

cycle_spelled : (wait : Bool) (ports : List ℕ) → cond wait (codes "1") (codes "0") ++ flat_map after_space ports ++ codes "\n" ≡ spoken_text (cycle_line (record { wait = wait; ports = ports }))
cycle_spelled true ports = (λ j. codes "1" ++ ports_text ports j ++ 10 ∷ [])
cycle_spelled false ports = (λ j. codes "0" ++ ports_text ports j ++ 10 ∷ [])

cycles_spelled : (cycles : List TraceLine) → flat_map cycle_text cycles ≡ flat_map spoken_text (map cycle_line cycles)
cycles_spelled [] = refl
cycles_spelled (cycle ∷ cycles) = (λ j. cycle_spelled cycle.wait cycle.ports j ++ cycles_spelled cycles j)

-- each token is one
numeral_token : (bytes : List ℕ) → IsNumeral 10 bytes → is_token bytes ≡ true
numeral_token [] h = absurd (omega (arith, h.0))
numeral_token (b ∷ bytes) h = refl

decimal_whole : (n : ℕ) → n < 2 ^ 64 → is_whole (decimal n) ≡ true
decimal_whole n small = let numeral = (decimal_is_IsNumeral n small).0 in and_from (is_token (decimal n)) (list_all is_plain (decimal n)) (numeral_token (decimal n) numeral) (digits_plain 10 (decimal n) (omega arith) numeral.1)

ports_whole : (ports : List ℕ) → Each (λ n. n < 2 ^ 64) ports → Each (λ token. is_whole token ≡ true) (map decimal ports)
ports_whole [] h = tt
ports_whole (port ∷ ports) h = (decimal_whole port h.0, ports_whole ports h.1)

bit_whole : (wait : Bool) → is_whole (bit_text wait) ≡ true
bit_whole true = refl
bit_whole false = refl

-- values that fit have at most 64 bits, and are within
ports_small : (ports widths : List ℕ) → ValuesFit ports widths → Each (λ width. width ≤ 64) widths → Each (λ n. n < 2 ^ 64) ports
ports_small [] widths fit narrow = tt
ports_small (port ∷ ports) [] fit narrow = absurd fit
ports_small (port ∷ ports) (width ∷ widths) fit narrow = let p : 2 ^ width ≤ 2 ^ 64 = pow-le-pow_right {n = 2} (omega arith) narrow.0 in let lt : port < 2 ^ width = fit.0 in ((let q : port < 2 ^ 64 = omega arith in q), ports_small ports widths fit.1 narrow.1)

ports_within : (ports widths : List ℕ) → ValuesFit ports widths → (length ports ≡ length widths) × (are_within ports widths ≡ true)
ports_within [] [] fit = (refl, refl)
ports_within [] (width ∷ widths) fit = absurd fit
ports_within (port ∷ ports) [] fit = absurd fit
ports_within (port ∷ ports) (width ∷ widths) fit = let rest = ports_within ports widths fit.1 in (ap suc rest.0, and_from (nat_lt port (2 ^ width)) (are_within ports widths) (lt-ltb port (2 ^ width) fit.0) rest.1)

ports_read : (ports : List ℕ) → Each (λ n. n < 2 ^ 64) ports → numbers_in (map decimal ports) ≡ Some ports
ports_read [] h = refl
ports_read (port ∷ ports) h = rw (number_value-decimal port h.0, ports_read ports h.1) refl

bit_read : (wait : Bool) → number_value (bit_text wait) ≡ Some (bit_of wait)
unfolding number_value spelled_value
bit_read true = refl
bit_read false = refl

bit_back : (wait : Bool) → eqb (bit_of wait) 1 ≡ wait
bit_back true = refl
bit_back false = refl

bit_low : (wait : Bool) → bit_of wait ≤ 1
bit_low true = omega arith
bit_low false = omega arith

cycles_whole : (shape : Shape) (cycles : List TraceLine) → IsNarrow shape → Each (λ (c : TraceLine). LineFitsShape c shape) cycles → Each IsWhole (map cycle_line cycles)
cycles_whole shape [] narrow fit = tt
cycles_whole shape (c ∷ cycles) narrow fit = (record { first = bit_whole c.wait; rest = ports_whole c.ports (ports_small c.ports shape.inputs fit.0 narrow.inputs) }, cycles_whole shape cycles narrow fit.1)

-- a line is its cycle
line_read : (shape : Shape) (n : ℕ) (cycle : TraceLine) → IsNarrow shape → LineFitsShape cycle shape → IsCycleOf shape (record { number = n; tokens = bit_text cycle.wait ∷ map decimal cycle.ports; clean = true }) cycle
line_read shape n cycle narrow fit =
    let line : TextLine = record { number = n; tokens = bit_text cycle.wait ∷ map decimal cycle.ports; clean = true } in
    let within = ports_within cycle.ports shape.inputs fit in
    let numbers = line_numbers line (bit_text cycle.wait) (map decimal cycle.ports) (bit_of cycle.wait) cycle.ports refl refl (bit_read cycle.wait) (ports_read cycle.ports (ports_small cycle.ports shape.inputs fit narrow.inputs)) in
    let same : ◌≡◌ {A = TraceLine} (record { wait = eqb (bit_of cycle.wait) 1; ports = cycle.ports }) cycle = (λ j. record { wait = bit_back cycle.wait j; ports = cycle.ports }) in
    subst (λ (c : TraceLine). IsCycleOf shape line c) same (cycle_good shape line (bit_of cycle.wait) cycle.ports numbers within.0 (bit_low cycle.wait) within.1)

-- and the lines are the trace
lines_read : (shape : Shape) (n : ℕ) (before : List TextLine) (done cycles : List TraceLine) → IsNarrow shape → Each (λ (c : TraceLine). LineFitsShape c shape) cycles → IsTraceOf shape before (record { lines = done }) → IsTraceOf shape (before ++ numbered n (map cycle_line cycles)) (record { lines = done ++ cycles })
lines_read shape n before done [] narrow fit h = (let one : before ++ [] ≡ before = append-nil before in let two : done ++ [] ≡ done = append-nil done in
    subst (λ (l : List TextLine). IsTraceOf shape l (record { lines = done ++ [] })) (sym one) (subst (λ (l : List TraceLine). IsTraceOf shape before (record { lines = l })) (sym two) h))
lines_read shape n before done (c ∷ cycles) narrow fit h =
    let line : TextLine = record { number = n; tokens = bit_text c.wait ∷ map decimal c.ports; clean = true } in
    let more = trace_step shape before line done (done ++ c ∷ []) c h (line_read shape n c narrow fit.0) refl in
    let rest = lines_read shape (n + 1) (before ++ line ∷ []) (done ++ c ∷ []) cycles narrow fit.1 more in
    subst (λ (l : List TextLine). IsTraceOf shape l (record { lines = done ++ c ∷ cycles })) (append_assoc before (line ∷ []) (numbered (n + 1) (map cycle_line cycles)))
    (subst (λ (l : List TraceLine). IsTraceOf shape ((before ++ line ∷ []) ++ numbered (n + 1) (map cycle_line cycles)) (record { lines = l })) (append_assoc done (c ∷ []) cycles) rest)

-- the text that is written of a trace that fits
pub trace_written : (shape : Shape) (trace : Trace) (text : List ℕ) → IsNarrow shape → TraceFitsShape trace shape → text ≡ trace_text trace → AreFine (trace_fault shape) [] (lines_of text) × (trace_of (lines_of text) ≡ trace)
trace_written shape trace text narrow fit e =
    let lines = lines_are text (map cycle_line trace.lines) (e ∙ cycles_spelled trace.lines) (cycles_whole shape trace.lines narrow fit) in
    let read = lines_read shape 1 [] [] trace.lines narrow fit (record { gives = refl; fine = tt; fits = tt }) in (
      subst (λ (l : List TextLine). AreFine (trace_fault shape) [] l) (sym lines) read.fine,
      ap trace_of lines ∙ (λ j. record { lines = sym read.gives j }),
    )
