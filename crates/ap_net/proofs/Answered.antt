-- What the outside gives fits the ports, and depends on those nets alone at which it looks; so one cycle goes on from each state.
use Rattle.std.proofs.Common.{◌≡◌, ℕ, zero, suc, ◌+◌, ◌<◌, ◌≤◌, ◌^◌, List, [], ◌∷◌, ◌++◌, length, map, Some, Bool, true, false, refl, sym, ap, subst, ◌∙◌, arith, append_assoc, lit<}
use Rattle.std.specs.Prelude.{slice_get, slice_index, codes, ◌==◌, if◌then◌else◌}
use Rattle.std.specs.List.{AllByRecursion as Each}
use Rattle.std.proofs.lemmas.Nat.{pow_pos}
use Rattle.ap_image.specs.declared.shape.MemShape.{MemShape}
use Rattle.ap_image.specs.declared.trace.TraceLine.{TraceLine}
use Rattle.ap_image.specs.FitsShape.{WordsFit, MemsFit, ValuesFit, LineFitsShape, line_among}
use Rattle.ap_image.specs.Words.{with_word}
use Rattle.ap_net.specs.declared.net.Port.{Port}
use Rattle.ap_net.specs.declared.net.FlatNet.{FlatNet}
use Rattle.ap_net.specs.Outside.{Outside, InPort, input, output, mem_name, input_ports, mem_ports, group_ports, ports_of, shape_of}
use Rattle.ap_net.specs.Flat.{value_named}
use Rattle.ap_net.specs.Runs.{bit, InputsAre, MemsAnswer, mems_after}
use Rattle.ap_net.specs.Answering.{first_mem_port, mem_gives, port_gives, mem_looks, port_looks, address_port}

-- each value fits its port; the ports behind are given nothing here
abbrev pub PortsTake : List Port → List ℕ → Type 0
PortsTake ports [] = Unit {0}
PortsTake [] (x ∷ xs) = ⊥
PortsTake (p ∷ ports) (x ∷ xs) = (x < 2 ^ p.width) × PortsTake ports xs

pub taken_at : (ports : List Port) (xs : List ℕ) → PortsTake ports xs → (n x : ℕ) → slice_get xs n ≡ Some x → (p : Port) × (slice_get ports n ≡ Some p) × (x < 2 ^ p.width)
taken_at ports [] h n x at = cc
taken_at [] (y ∷ xs) h n x at = absurd h
taken_at (p ∷ ports) (y ∷ xs) h zero x at = let same : y ≡ x = cc in (p, refl, subst (λ z. z < 2 ^ p.width) same h.0)
taken_at (p ∷ ports) (y ∷ xs) h (suc n) x at = taken_at ports xs h.1 n x at

pub word_fits : (words : List ℕ) (width n : ℕ) → Each (λ word. word < 2 ^ width) words → slice_index words n < 2 ^ width
word_fits [] width n h = pow_pos width
word_fits (word ∷ words) width zero h = h.0
word_fits (word ∷ words) width (suc n) h = word_fits words width n h.1

bit_fits : (b : Bool) → bit b < 2 ^ 1
bit_fits true = lit< tt
bit_fits false = lit< tt

inputs_take : (ps : List InPort) (values : List ℕ) → ValuesFit values (map (λ (p : InPort). p.width) ps) → (rest : List Port) (more : List ℕ) → PortsTake rest more → PortsTake (input_ports ps ++ rest) (values ++ more)
inputs_take [] [] h rest more g = g
inputs_take [] (x ∷ values) h rest more g = absurd h
inputs_take (p ∷ ps) [] h rest more g = absurd h
inputs_take (p ∷ ps) (x ∷ values) h rest more g = (h.0, inputs_take ps values h.1 rest more g)

mems_take : (read : ℕ → ℕ) (ms : List MemShape) (mems : List (List ℕ)) (n : ℕ) → MemsFit mems ms → (rest : List Port) → PortsTake (mem_ports ms ++ rest) (mem_gives read n ms mems)
mems_take read [] mems n h rest = tt
mems_take read (m ∷ ms) [] n h rest = tt
mems_take read (m ∷ ms) (words ∷ mems) n h rest =
    (pow_pos m.address, (word_fits words m.width (read n) h.0.each, (pow_pos 1, (pow_pos m.address, (pow_pos m.width, mems_take read ms mems (n + 5) h.1 rest)))))

-- the ports of top behind the first three: the inputs, the memories and the rest
abbrev pub behind : Outside → List Port
behind o = output (codes "stall") 1 ∷ output (codes "kill") 1 ∷ group_ports o.groups

pub ports_split : (o : Outside) → ports_of o ≡ output (codes "iaddr") o.address ∷ input (codes "idata") o.word ∷ input (codes "mwait") 1 ∷ input_ports o.inputs ++ (mem_ports o.mems ++ behind o)
ports_split o = ap (λ l. output (codes "iaddr") o.address ∷ input (codes "idata") o.word ∷ input (codes "mwait") 1 ∷ l) (append_assoc (input_ports o.inputs) (mem_ports o.mems) (behind o))

pub rest_take : (o : Outside) (line : TraceLine) (mems : List (List ℕ)) (read : ℕ → ℕ) → LineFitsShape line (shape_of o) → MemsFit mems o.mems
    → PortsTake (input_ports o.inputs ++ (mem_ports o.mems ++ behind o)) (line.ports ++ mem_gives read (first_mem_port o) o.mems mems)
rest_take o line mems read ports fits = inputs_take o.inputs line.ports ports (mem_ports o.mems ++ behind o) (mem_gives read (first_mem_port o) o.mems mems) (mems_take read o.mems mems (first_mem_port o) fits (behind o))

pub ports_take : (o : Outside) (code : List ℕ) (line : TraceLine) (mems : List (List ℕ)) (read : ℕ → ℕ) → Each (λ word. word < 2 ^ o.word) code → LineFitsShape line (shape_of o) → MemsFit mems o.mems
    → PortsTake (ports_of o) (port_gives o code line mems read)
ports_take o code line mems read words ports fits = subst (λ l. PortsTake l (port_gives o code line mems read)) (sym (ports_split o))
    (pow_pos o.address, (word_fits code o.word (read address_port) words, (bit_fits line.wait, rest_take o line mems read ports fits)))

-- What is given depends on what is looked at. ------------------------------------------------------------------------------

-- the readings agree wherever these lists say for n
abbrev pub AgreeBy : (ℕ → ℕ) → (ℕ → ℕ) → List (List ℕ) → ℕ → Type 0
AgreeBy f g looks n = (ports : List ℕ) → slice_get looks n ≡ Some ports → Each (λ k. f k ≡ g k) ports

mems_agree : (f g : ℕ → ℕ) (ms : List MemShape) (mems : List (List ℕ)) (first n : ℕ) → AgreeBy f g (mem_looks first ms) n → slice_get (mem_gives f first ms mems) n ≡ slice_get (mem_gives g first ms mems) n
mems_agree f g [] mems first n h = refl
mems_agree f g (m ∷ ms) [] first n h = refl
mems_agree f g (m ∷ ms) (words ∷ mems) first zero h = refl
mems_agree f g (m ∷ ms) (words ∷ mems) first (suc zero) h = ap (λ k. Some (slice_index words k)) (h (first ∷ []) refl).0
mems_agree f g (m ∷ ms) (words ∷ mems) first (suc (suc zero)) h = refl
mems_agree f g (m ∷ ms) (words ∷ mems) first (suc (suc (suc zero))) h = refl
mems_agree f g (m ∷ ms) (words ∷ mems) first (suc (suc (suc (suc zero)))) h = refl
mems_agree f g (m ∷ ms) (words ∷ mems) first (suc (suc (suc (suc (suc n))))) h = mems_agree f g ms mems (first + 5) n (λ ports at. h ports at)

inputs_agree : (f g : ℕ → ℕ) (ps : List InPort) (values : List ℕ) → ValuesFit values (map (λ (p : InPort). p.width) ps) → (looks : List (List ℕ)) (one other : List ℕ)
    → ((n : ℕ) → AgreeBy f g looks n → slice_get one n ≡ slice_get other n) → (n : ℕ) → AgreeBy f g (map (λ (p : InPort). []) ps ++ looks) n → slice_get (values ++ one) n ≡ slice_get (values ++ other) n
inputs_agree f g [] [] h looks one other rest n agree = rest n agree
inputs_agree f g [] (x ∷ values) h looks one other rest n agree = absurd h
inputs_agree f g (p ∷ ps) [] h looks one other rest n agree = absurd h
inputs_agree f g (p ∷ ps) (x ∷ values) h looks one other rest zero agree = refl
inputs_agree f g (p ∷ ps) (x ∷ values) h looks one other rest (suc n) agree = inputs_agree f g ps values h.1 looks one other rest n (λ ports at. agree ports at)

pub gives_agree : (o : Outside) (code : List ℕ) (line : TraceLine) (mems : List (List ℕ)) (f g : ℕ → ℕ) → LineFitsShape line (shape_of o) → (n : ℕ) → AgreeBy f g (port_looks o) n
    → slice_get (port_gives o code line mems f) n ≡ slice_get (port_gives o code line mems g) n
gives_agree o code line mems f g fits zero agree = refl
gives_agree o code line mems f g fits (suc zero) agree = ap (λ k. Some (slice_index code k)) (agree (0 ∷ []) refl).0
gives_agree o code line mems f g fits (suc (suc zero)) agree = refl
gives_agree o code line mems f g fits (suc (suc (suc n))) agree =
    inputs_agree f g o.inputs line.ports fits (mem_looks (first_mem_port o) o.mems) (mem_gives f (first_mem_port o) o.mems mems) (mem_gives g (first_mem_port o) o.mems mems)
    (λ k h. mems_agree f g o.mems mems (first_mem_port o) k h) n (λ ports at. agree ports at)

-- What a solution shows at the ports. --------------------------------------------------------------------------------------

-- each port is found by its name, from number n on
abbrev pub PortsNamed : List FlatNet → List ℕ → ℕ → List Port → Type 0
PortsNamed nets v n [] = Unit {0}
PortsNamed nets v n (p ∷ ports) = (value_named nets v p.name ≡ slice_index v n) × PortsNamed nets v (suc n) ports

pub named_from : (nets : List FlatNet) (v : List ℕ) (ports : List Port) (n : ℕ) → ((i : ℕ) (p : Port) → slice_get ports i ≡ Some p → value_named nets v p.name ≡ slice_index v (n + i)) → PortsNamed nets v n ports
named_from nets v [] n h = tt
named_from nets v (p ∷ ports) n h = (
  h 0 p refl ∙ ap (slice_index v) (let e : n + 0 ≡ n = omega arith in e),
  named_from nets v ports (suc n) (λ i q at. h (suc i) q at ∙ ap (slice_index v) (let e : n + suc i ≡ suc n + i = omega arith in e)),
)

-- each input has the value that it is given
abbrev pub PortsHave : List ℕ → ℕ → List Port → List ℕ → Type 0
PortsHave v n ports [] = Unit {0}
PortsHave v n [] (x ∷ xs) = ⊥
PortsHave v n (p ∷ ports) (x ∷ xs) = (p.output ≡ false → slice_index v n ≡ x) × PortsHave v (suc n) ports xs

pub have_from : (v : List ℕ) (ports : List Port) (xs : List ℕ) → PortsTake ports xs → (n : ℕ) → ((i x : ℕ) (p : Port) → slice_get xs i ≡ Some x → slice_get ports i ≡ Some p → p.output ≡ false → slice_index v (n + i) ≡ x)
    → PortsHave v n ports xs
have_from v ports [] h n f = tt
have_from v [] (x ∷ xs) h n f = absurd h
have_from v (p ∷ ports) (x ∷ xs) h n f = (
  λ is. ap (slice_index v) (let e : n ≡ n + 0 = omega arith in e) ∙ f 0 x p refl refl is,
  have_from v ports xs h.1 (suc n) (λ i y q at there is. ap (slice_index v) (let e : suc n + i ≡ n + suc i = omega arith in e) ∙ f (suc i) y q at there is),
)

pub inputs_are : (nets : List FlatNet) (v : List ℕ) (ps : List InPort) (values : List ℕ) (n : ℕ) (rest : List Port) (more : List ℕ) → ValuesFit values (map (λ (p : InPort). p.width) ps)
    → PortsNamed nets v n (input_ports ps ++ rest) → PortsHave v n (input_ports ps ++ rest) (values ++ more) → InputsAre nets v ps values
inputs_are nets v [] values n rest more h named have = tt
inputs_are nets v (p ∷ ps) [] n rest more h named have = absurd h
inputs_are nets v (p ∷ ps) (x ∷ values) n rest more h named have = (named.0 ∙ have.0 refl, inputs_are nets v ps values (suc n) rest more h.1 named.1 have.1)

-- behind the inputs
pub named_behind : (nets : List FlatNet) (v : List ℕ) (ps : List InPort) (n : ℕ) (rest : List Port) → PortsNamed nets v n (input_ports ps ++ rest) → PortsNamed nets v (n + length ps) rest
named_behind nets v [] n rest h = subst (λ k. PortsNamed nets v k rest) (let e : n ≡ n + 0 = omega arith in e) h
named_behind nets v (p ∷ ps) n rest h = subst (λ k. PortsNamed nets v k rest) (let e : suc n + length ps ≡ n + suc (length ps) = omega arith in e) (named_behind nets v ps (suc n) rest h.1)

pub have_behind : (v : List ℕ) (ps : List InPort) (values : List ℕ) → ValuesFit values (map (λ (p : InPort). p.width) ps) → (n : ℕ) (rest : List Port) (more : List ℕ)
    → PortsHave v n (input_ports ps ++ rest) (values ++ more) → PortsHave v (n + length ps) rest more
have_behind v [] [] fits n rest more h = subst (λ k. PortsHave v k rest more) (let e : n ≡ n + 0 = omega arith in e) h
have_behind v [] (x ∷ values) fits n rest more h = absurd fits
have_behind v (p ∷ ps) [] fits n rest more h = absurd fits
have_behind v (p ∷ ps) (x ∷ values) fits n rest more h = subst (λ k. PortsHave v k rest more) (let e : suc n + length ps ≡ n + suc (length ps) = omega arith in e) (have_behind v ps values fits.1 (suc n) rest more h.1)

five : (n : ℕ) → suc (suc (suc (suc (suc n)))) ≡ n + 5
five n = omega arith

pub mems_answer : (nets : List FlatNet) (v : List ℕ) (ms : List MemShape) (mems : List (List ℕ)) (n : ℕ) (rest : List Port) → MemsFit mems ms → PortsNamed nets v n (mem_ports ms ++ rest)
    → PortsHave v n (mem_ports ms ++ rest) (mem_gives (slice_index v) n ms mems) → MemsAnswer nets v ms mems
mems_answer nets v [] mems n rest fits named have = tt
mems_answer nets v (m ∷ ms) [] n rest fits named have = absurd fits
mems_answer nets v (m ∷ ms) (words ∷ mems) n rest fits named have = (
  named.1.0 ∙ have.1.0 refl ∙ ap (slice_index words) (sym named.0),
  mems_answer nets v ms mems (n + 5) rest fits.1 (subst (λ k. PortsNamed nets v k (mem_ports ms ++ rest)) (five n) named.1.1.1.1.1)
      (subst (λ k. PortsHave v k (mem_ports ms ++ rest) (mem_gives (slice_index v) (n + 5) ms mems)) (five n) have.1.1.1.1.1),
)

-- Memories after a cycle. --------------------------------------------------------------------------------------------------

pub with_word-length : (words : List ℕ) (n v most : ℕ) → length words ≤ most → n < most → length (with_word words n v) ≤ most
with_word-length words n v zero long lt = absurd (omega arith)
with_word-length [] zero v (suc most) long lt = omega arith
with_word-length [] (suc n) v (suc most) long lt = let h = with_word-length [] n v most (omega arith) (omega arith) in omega arith
with_word-length (word ∷ words) zero v (suc most) long lt = long
with_word-length (word ∷ words) (suc n) v (suc most) long lt = let h = with_word-length words n v most (omega arith) (omega arith) in omega arith

pub with_word-each : (words : List ℕ) (n v top : ℕ) → Each (λ word. word < top) words → v < top → Each (λ word. word < top) (with_word words n v)
with_word-each [] zero v top h lt = (lt, tt)
with_word-each [] (suc n) v top h lt = (omega arith, with_word-each [] n v top h lt)
with_word-each (word ∷ words) zero v top h lt = (lt, h.1)
with_word-each (word ∷ words) (suc n) v top h lt = (h.0, with_word-each words n v top h.1 lt)

after_fits : (b : Bool) (words : List ℕ) (at value address width : ℕ) → WordsFit words address width → at < 2 ^ address → value < 2 ^ width → WordsFit (if b then with_word words at value else words) address width
after_fits true words at value address width fits low small = record { room = with_word-length words at value (2 ^ address) fits.room low; each = with_word-each words at value (2 ^ width) fits.each small }
after_fits false words at value address width fits low small = fits

pub mems_stay : (nets : List FlatNet) (v : List ℕ) (ms : List MemShape) (mems : List (List ℕ)) (rest : List Port) → MemsFit mems ms → Each (λ (p : Port). value_named nets v p.name < 2 ^ p.width) (mem_ports ms ++ rest)
    → MemsFit (mems_after nets v ms mems) ms
mems_stay nets v [] [] rest fits small = tt
mems_stay nets v [] (words ∷ mems) rest fits small = absurd fits
mems_stay nets v (m ∷ ms) [] rest fits small = absurd fits
mems_stay nets v (m ∷ ms) (words ∷ mems) rest fits small = (
  after_fits (value_named nets v (mem_name m (codes "we")) == 1) words (value_named nets v (mem_name m (codes "wa"))) (value_named nets v (mem_name m (codes "wd"))) m.address m.width fits.0 small.1.1.1.0 small.1.1.1.1.0,
  mems_stay nets v ms mems rest fits.1 small.1.1.1.1.1,
)

-- Lines of a trace. --------------------------------------------------------------------------------------------------------

idle_fits : (widths : List ℕ) → ValuesFit (map (λ width. 0) widths) widths
idle_fits [] = tt
idle_fits (width ∷ widths) = (pow_pos width, idle_fits widths)

pub line_fits : (o : Outside) (lines : List TraceLine) (j : ℕ) → Each (λ (line : TraceLine). LineFitsShape line (shape_of o)) lines → LineFitsShape (line_among lines (shape_of o).inputs j) (shape_of o)
line_fits o [] j h = idle_fits (shape_of o).inputs
line_fits o (line ∷ lines) zero h = h.0
line_fits o (line ∷ lines) (suc j) h = line_fits o lines j h.1
