-- A text is that of one list of modules at most, and where it is that of some, its lines are due in their places.
use Rattle.std.proofs.Common.{◌≡◌, ℕ, ◌+◌, ◌<◌, ◌≤◌, nat_le, nat_lt, Bool, true, false, List, [], ◌∷◌, ◌++◌, length, map, inl, inr, refl, sym, ap, subst, ◌∙◌, arith, append_assoc}
use Rattle.std.specs.List.{AllByRecursion as Each}
use Rattle.std.specs.Prelude.{codes, IsTrue, MatchBool}
use Rattle.std.specs.Str.{bytes_eq}
use Rattle.std.proofs.lemmas.Bool.{and_from, eq-eqb, le-leb, le-ltb}
use Rattle.std.proofs.lemmas.Slice.Eq.{bytes_eq-Decides}
use Rattle.ap_net.specs.declared.net.Port.{Port}
use Rattle.ap_vr.specs.declared.line.Line.{Line}
use Rattle.ap_vr.specs.declared.line.Line.TheVariants as line
use Rattle.ap_vr.specs.declared.line.NamedInstance.{NamedInstance}
use Rattle.ap_vr.specs.declared.module.NamedModule.{NamedModule}
use Rattle.ap_vr.specs.declared.place.Part.{Part}
use Rattle.ap_vr.specs.declared.place.Part.TheVariants as part
use Rattle.ap_vr.specs.LineTexts.{IsLine, line_text}
use Rattle.ap_vr.specs.Named.{IsNamedModule, blank, named_text}
use Rattle.ap_vr.specs.Places.{IsBadFrom, Place, is_due, number, place_after, start}
use Rattle.ap_vr.specs.Reading.{AreNumbered, EndsInTop, IsWellFormed, text_limit}
use Rattle.ap_vr.specs.TextLines.{text_lines}
use Rattle.ap_vr.proofs.ModuleLines.{all_line_rules, all_lines, all_parsed, body_lines, lines_in, parsed, port_lines, six_lists, text_of_lines}
use Rattle.ap_vr.proofs.NextLine.{one_line}
use Rattle.ap_vr.proofs.WholeLines.{lines_of_text}

-- lines with the same texts are the same
one_list : (xs ys : List Line) → Each IsLine xs → Each IsLine ys → map line_text xs ≡ map line_text ys → xs ≡ ys
one_list [] [] p q e = refl
one_list [] (y ∷ ys) p q e = cc
one_list (x ∷ xs) [] p q e = cc
one_list (x ∷ xs) (y ∷ ys) p q e =
    let head : line_text x ≡ line_text y = cc in
    let tail : map line_text xs ≡ map line_text ys = cc in
    let same : x ≡ y = one_line (line_text x) x y (p.0, refl) (q.0, head) in
    ap (λ z. z ∷ xs) same ∙ ap (λ l. y ∷ l) (one_list xs ys p.1 q.1 tail)

pub one_reading : (a b : List NamedModule) → Each IsNamedModule a → Each IsNamedModule b → AreNumbered 1 a → AreNumbered 1 b → named_text a ≡ named_text b → a ≡ b
one_reading a b p q n k e =
    let texts : map line_text (all_lines a) ≡ map line_text (all_lines b) =
    sym (lines_of_text (all_lines a) (all_line_rules a p)) ∙ ap text_lines (text_of_lines a p ∙ e ∙ sym (text_of_lines b q)) ∙ lines_of_text (all_lines b) (all_line_rules b q) in
    let lines = one_list (all_lines a) (all_lines b) (all_line_rules a p) (all_line_rules b q) texts in
    sym (all_parsed 1 (blank 0 []) a n) ∙ ap (parsed 1 (blank 0 [])) lines ∙ all_parsed 1 (blank 0 []) b k

-- each line is due in its place, and in the end a module is due, after one that is top
abbrev AreDue : Place → List Line → Type 0
AreDue p [] = (number p.at ≡ 0) × (p.top ≡ true)
AreDue p (x ∷ lines) = IsTrue (is_due p.at p.top x) × AreDue (place_after p x) lines

pub not_bad : (p : Place) (lines : List Line) (n : ℕ) → Each IsLine lines → AreDue p lines → IsBadFrom p (map line_text lines) n → ⊥
not_bad p [] n rules due bad = let wrong = (bad.0 due.0).0 in let clash : true ≡ false = sym due.1 ∙ wrong in cc
not_bad p (x ∷ lines) n rules due (inl wrong) = wrong.1 x (record { spelled = (rules.0, refl); due = due.0 })
not_bad p (x ∷ lines) n rules due (inr later) =
    let same : later.0 ≡ x = one_line (line_text x) later.0 x later.1.spelled (rules.0, refl) in
    not_bad (place_after p x) lines n rules.1 due.1 (subst (λ y. IsBadFrom (place_after p y) (map line_text lines) n) same later.2)

-- lines that are due after the ports, as long as no line of a later sort has come
abbrev DueFrom : ℕ → Bool → List Line → Type 0
DueFrom k top lines = (at : Part) (began n : ℕ) → 5 ≤ number at → number at ≤ k → AreDue (record { at = at; top = top; began = began; next = n }) lines

earlier : (k j : ℕ) (top : Bool) (lines : List Line) → j ≤ k → DueFrom k top lines → DueFrom j top lines
earlier k j top lines le due at began n low high = due at began n low (omega (arith, high, le))

end_due : (top : Bool) (rest : List Line) → ((began n : ℕ) → AreDue (record { at = part.Start; top = top; began = began; next = n }) rest) → DueFrom 9 top (line.End ∷ rest)
end_due top rest later at began n low high = (le-leb 5 (number at) low, later began (n + 1))

sort_due : {X : Type 0} (f : X → Line) (k : ℕ) (to : Part) (top : Bool) (rest : List Line) → ((at : Part) (x : X) → 5 ≤ number at → number at ≤ k → is_due at top (f x) ≡ true)
    → ((p : Place) (x : X) → place_after p (f x) ≡ record { at = to; top = p.top; began = p.began; next = p.next + 1 }) → 5 ≤ number to → number to ≤ k → DueFrom k top rest → (xs : List X) → DueFrom k top (map f xs ++ rest)
sort_due f k to top rest is after low high later [] = later
sort_due f k to top rest is after low high later (x ∷ xs) = λ at began n l h. (
  is at x l h,
  subst (λ p. AreDue p (map f xs ++ rest)) (sym (after (record { at = at; top = top; began = began; next = n }) x)) (sort_due f k to top rest is after low high later xs to began (n + 1) low high),
)

instances_due : (top : Bool) (instances : List NamedInstance) (rest : List Line) → (top ≡ false → instances ≡ []) → DueFrom 9 top rest → DueFrom 9 top (map line.Instance instances ++ rest)
instances_due true instances rest alone later =
    sort_due line.Instance 9 part.Instances true rest (λ at x low high. and_from (nat_le 5 (number at)) true (le-leb 5 (number at) low) refl) (λ p x. refl) (omega arith) (omega arith) later instances
instances_due false instances rest alone later = subst (λ is. DueFrom 9 false (map line.Instance is ++ rest)) (sym (alone refl)) later

body_due : (m : NamedModule) (top : Bool) (rest : List Line) → (top ≡ false → m.instances ≡ []) → ((began n : ℕ) → AreDue (record { at = part.Start; top = top; began = began; next = n }) rest)
    → DueFrom 5 top (map line.Wire m.wires ++ (map line.Reg m.regs ++ (map line.Assign m.assigns ++ (map line.Always m.nexts ++ (map line.Instance m.instances ++ line.End ∷ rest)))))
body_due m top rest alone later =
    let instances : List Line = map line.Instance m.instances ++ line.End ∷ rest in
    let i = instances_due top m.instances (line.End ∷ rest) alone (end_due top rest later) in
    let x = sort_due line.Always 8 part.Nexts top (map line.Instance m.instances ++ line.End ∷ rest) (λ at x low high. and_from (nat_le 5 (number at)) (nat_le (number at) 8) (le-leb 5 (number at) low) (le-leb (number at) 8 high)) (λ p x. refl) (omega arith) (omega arith)
    (earlier 9 8 top (map line.Instance m.instances ++ line.End ∷ rest) (omega arith) i) m.nexts in
    let a = sort_due line.Assign 7 part.Assigns top (map line.Always m.nexts ++ (map line.Instance m.instances ++ line.End ∷ rest)) (λ at x low high. and_from (nat_le 5 (number at)) (nat_le (number at) 7) (le-leb 5 (number at) low) (le-leb (number at) 7 high)) (λ p x. refl) (omega arith) (omega arith)
    (earlier 8 7 top (map line.Always m.nexts ++ (map line.Instance m.instances ++ line.End ∷ rest)) (omega arith) x) m.assigns in
    let r = sort_due line.Reg 6 part.Regs top (map line.Assign m.assigns ++ (map line.Always m.nexts ++ (map line.Instance m.instances ++ line.End ∷ rest))) (λ at x low high. and_from (nat_le 5 (number at)) (nat_le (number at) 6) (le-leb 5 (number at) low) (le-leb (number at) 6 high)) (λ p x. refl) (omega arith) (omega arith)
    (earlier 7 6 top (map line.Assign m.assigns ++ (map line.Always m.nexts ++ (map line.Instance m.instances ++ line.End ∷ rest))) (omega arith) a) m.regs in
    sort_due line.Wire 5 part.Wires top (map line.Reg m.regs ++ (map line.Assign m.assigns ++ (map line.Always m.nexts ++ (map line.Instance m.instances ++ line.End ∷ rest)))) (λ at x low high. eq-eqb (number at) 5 (omega (arith, low, high))) (λ p x. refl) (omega arith) (omega arith)
    (earlier 6 5 top (map line.Reg m.regs ++ (map line.Assign m.assigns ++ (map line.Always m.nexts ++ (map line.Instance m.instances ++ line.End ∷ rest)))) (omega arith) r) m.wires

ports_due : (ports : List Port) (top : Bool) (rest : List Line) → 0 < length ports → ((began n : ℕ) → AreDue (record { at = part.Close; top = top; began = began; next = n }) rest)
    → (began n : ℕ) → AreDue (record { at = part.Ports; top = top; began = began; next = n }) (port_lines ports ++ rest)
ports_due [] top rest some later began n = absurd (omega (arith, some))
ports_due (p ∷ []) top rest some later began n = (refl, later began (n + 1))
ports_due (p ∷ q ∷ ports) top rest some later began n = (refl, ports_due (q ∷ ports) top rest (omega arith) later began (n + 1))

module_due : (m : NamedModule) (rest : List Line) → IsNamedModule m → ((began n : ℕ) → AreDue (record { at = part.Start; top = bytes_eq m.name (codes "top"); began = began; next = n }) rest)
    → (top : Bool) (began n : ℕ) → AreDue (record { at = part.Start; top = top; began = began; next = n }) (lines_in m ++ rest)
module_due m rest rules later top began n =
    let is_top : Bool = bytes_eq m.name (codes "top") in
    let body = body_due m (bytes_eq m.name (codes "top")) rest (λ other. rules.alone (λ same. (let yes : bytes_eq m.name (codes "top") ≡ true = (bytes_eq-Decides m.name (codes "top")).1 same in let clash : true ≡ false = sym yes ∙ other in cc))) later in
    let inner = subst (DueFrom 5 (bytes_eq m.name (codes "top"))) (sym (append_assoc (body_lines m) (line.End ∷ []) rest ∙ six_lists (map line.Wire m.wires) (map line.Reg m.regs) (map line.Assign m.assigns) (map line.Always m.nexts) (map line.Instance m.instances) (line.End ∷ rest))) body in
    let closed = ports_due m.ports (bytes_eq m.name (codes "top")) (line.Close ∷ ((body_lines m ++ line.End ∷ []) ++ rest)) rules.some (λ b k. (refl, inner part.Wires b (k + 1) (omega arith) (omega arith))) in
    (refl, (refl, (refl, subst (AreDue (record { at = part.Ports; top = bytes_eq m.name (codes "top"); began = n; next = ((n + 1) + 1) + 1 })) (sym (append_assoc (port_lines m.ports) (line.Close ∷ (body_lines m ++ line.End ∷ [])) rest)) (closed n (((n + 1) + 1) + 1)))))

all_due : (modules : List NamedModule) → Each IsNamedModule modules → EndsInTop modules → (top : Bool) (began n : ℕ) → AreDue (record { at = part.Start; top = top; began = began; next = n }) (all_lines modules)
all_due [] rules ends = absurd ends
all_due (m ∷ []) rules ends = module_due m [] rules.0 (λ b k. (refl, (bytes_eq-Decides m.name (codes "top")).1 ends))
all_due (m ∷ n ∷ modules) rules ends = module_due m (all_lines (n ∷ modules)) rules.0 (all_due (n ∷ modules) rules.1 ends (bytes_eq m.name (codes "top")))

-- the text of some modules is of the form of a netlist
pub well_formed : (modules : List NamedModule) → Each IsNamedModule modules → EndsInTop modules → length (named_text modules) ≤ text_limit → IsWellFormed (named_text modules)
well_formed modules rules ends short n bad =
    let fits : nat_lt text_limit (length (named_text modules)) ≡ false = le-ltb text_limit (length (named_text modules)) short in
    let badly : IsBadFrom start (text_lines (named_text modules)) n = subst (λ b. MatchBool b (n ≡ 0) (IsBadFrom start (text_lines (named_text modules)) n)) fits bad in
    let lines : text_lines (named_text modules) ≡ map line_text (all_lines modules) = ap text_lines (sym (text_of_lines modules rules)) ∙ lines_of_text (all_lines modules) (all_line_rules modules rules) in
    not_bad start (all_lines modules) n (all_line_rules modules rules) (all_due modules rules ends false 1 1) (subst (λ l. IsBadFrom start l n) lines badly)
